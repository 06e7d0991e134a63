mod Collected
mod Feeding
mod Readings
