mod Accepted
mod Ends
