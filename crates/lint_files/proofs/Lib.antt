mod FirstUnder
mod Puts
