-- The measure of each reader is seven times what is left of the line, and its level: a factor's 0, and above it the operands and the
-- level itself, of product, alternative and sum. A reader of a level calls the one of its operands at the same place or behind a sign,
-- and the factor's calls the sum's behind an opening parenthesis. At the head of a loop stands the chain that has been read so far.
use Rattle.std.proofs.Common.{length, ◌+◌, ◌-◌, ◌*◌}
use Rattle.recipe_words.specs.Answers.{operand}
use Rattle.recipe_reader.proofs.Chains.{Head}
use Rattle.recipe_reader.proofs.Ranks.{rank}
use Rattle.recipe_reader.proofs.+reading.Given as goal

abbrev pub decreases-read_factor : goal.decreases-read_factor
decreases-read_factor l = 7 * (length l.line.now - l.at)

abbrev pub decreases-read_operand : goal.decreases-read_operand
decreases-read_operand l = 7 * (length l.line.now - l.at) + (2 * rank l.level + 1)

abbrev pub decreases-read_level : goal.decreases-read_level
decreases-read_level l = 7 * (length l.line.now - l.at) + (2 * rank l.level + 2)

abbrev pub invariant-read_level-loop-sign : goal.invariant-read_level-loop-sign
invariant-read_level-loop-sign l = Head (operand l.level) l.line l.at l.fn.code l.used l.code l.place

abbrev pub decreases-read_level-loop-sign : goal.decreases-read_level-loop-sign
decreases-read_level-loop-sign l = length l.line - l.place.next
