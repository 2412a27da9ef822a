mod Gathering
mod Pulses
mod Scoring
