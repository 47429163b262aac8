mod Entering
mod Passes
mod Silent
mod Backs
mod Granted
mod Taking
mod TakenSets
