mod Telling
mod Unlisted
mod Limiting
