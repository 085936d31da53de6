mod AddressLists
mod OfOctets
mod Repeating
