mod Codes
mod Places
mod Steps
mod Runs
