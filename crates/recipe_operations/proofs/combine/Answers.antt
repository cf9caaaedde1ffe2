use Rattle.recipe_operations.proofs.combine.Goals as goal

pub returns-in-Xor : goal.returns-in-Xor
returns-in-Xor c = rw c.in-Xor.is c.xor_at.ensures

pub returns-in-Plus : goal.returns-in-Plus
returns-in-Plus c = rw c.in-Plus.is c.add_at.ensures

pub returns-in-Minus : goal.returns-in-Minus
returns-in-Minus c = rw c.in-Minus.is c.subtract_at.ensures

pub returns-in-Times : goal.returns-in-Times
returns-in-Times c = rw c.in-Times.is c.multiply_at.ensures

pub returns-in-Union : goal.returns-in-Union
returns-in-Union c = rw c.in-Union.is c.union_at.ensures
