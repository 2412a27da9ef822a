mod Words
mod Octets
mod Sizes
mod Bounds
mod Sent
mod Made
mod Received
mod Outcomes
