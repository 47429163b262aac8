mod Elements
mod Turning
mod Events
mod Rising
mod Places
mod Stores
mod Deciding
