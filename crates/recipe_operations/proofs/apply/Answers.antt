use Rattle.recipe_operations.proofs.apply.Goals as goal

pub returns-in-Exponential : goal.returns-in-Exponential
returns-in-Exponential c = λ by. rw c.in-Exponential.is (c.exponential_of.ensures by)

pub returns-in-Logarithm : goal.returns-in-Logarithm
returns-in-Logarithm c = λ by. rw c.in-Logarithm.is (c.logarithm_of.ensures by)

pub returns-in-Inverse : goal.returns-in-Inverse
returns-in-Inverse c = λ by. rw c.in-Inverse.is (c.inverse_of.ensures by)
