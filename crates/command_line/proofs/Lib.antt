mod Reading
mod Examples
mod Flags
