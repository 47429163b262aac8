mod Keeping
mod Entering
mod Filled
mod Taking
mod Having
