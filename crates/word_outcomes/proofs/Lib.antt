mod Answered
mod Orders
mod Questions
mod Requests
mod There
