mod Parts
mod Places
mod Reading
mod Reasons
mod Table
mod Types
mod Version
