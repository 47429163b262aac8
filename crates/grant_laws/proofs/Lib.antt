mod SameActs
mod SameTurns
mod Granted
