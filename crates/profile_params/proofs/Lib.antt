pub mod Midnights
