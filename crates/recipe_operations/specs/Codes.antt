-- The signs and functions of the code, as those of the grammar.
use Rattle.definitions.specs.Recipes as grammar
use Rattle.recipe_operations.specs.declared.Sign.{Sign}
use Rattle.recipe_operations.specs.declared.Sign.TheVariants.{Plus, Minus, Times, Union, Xor}
use Rattle.recipe_operations.specs.declared.Function.{Function}
use Rattle.recipe_operations.specs.declared.Function.TheVariants.{Exponential, Logarithm, Inverse}

abbrev pub level_of : Sign → grammar.Level
level_of Plus = grammar.sum
level_of Minus = grammar.sum
level_of Times = grammar.product
level_of Union = grammar.alternative
level_of Xor = grammar.alternative

abbrev pub sign_of : (s : Sign) → grammar.Sign (level_of s)
sign_of Plus = grammar.plus
sign_of Minus = grammar.minus
sign_of Times = grammar.times
sign_of Union = grammar.union
sign_of Xor = grammar.xor

abbrev pub opening_of : Function → grammar.Opening
opening_of Exponential = grammar.exponential
opening_of Logarithm = grammar.logarithm
opening_of Inverse = grammar.inverse
