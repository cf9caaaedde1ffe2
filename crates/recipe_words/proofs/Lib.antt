mod Words
mod Factors
