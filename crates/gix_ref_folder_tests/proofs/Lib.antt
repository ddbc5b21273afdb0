mod Own
mod Reported
mod Spots
mod Started
