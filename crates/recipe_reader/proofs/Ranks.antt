-- How far a level is above a product.
use Prim.Native.Nat.{ℕ}
use Rattle.recipe_words.specs.declared.Level.{Level}
use Rattle.recipe_words.specs.declared.Level.TheVariants.{Sum, Alternative, Product}

abbrev pub rank : Level → ℕ
rank Product = 0
rank Alternative = 1
rank Sum = 2
