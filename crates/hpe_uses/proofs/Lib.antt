mod Changed
mod TakenOctets
mod SentFrames
mod ReceivedCounts
