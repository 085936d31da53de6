mod Entries
mod Marks
mod Runs
mod Steps
mod Told
