mod Chains
mod Factors
mod Recipes
mod Ranks
