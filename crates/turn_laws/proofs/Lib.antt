mod Alike
mod OneTurn
mod Ends
mod Decided
