mod Growing
mod Named
mod Once
mod Pruning
mod Counting
