mod Sizes
mod NameLists
mod Orders
mod Laws
mod Judging
