mod Elements
mod Integers
mod Values
