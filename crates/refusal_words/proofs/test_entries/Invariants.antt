use Rattle.std.proofs.Common.{◌≡◌, cond, take}
use Rattle.definitions.specs.Partitions.{all_below}
use Rattle.refusal_words.proofs.test_entries.Given as goal

abbrev pub invariant-loop-x : goal.invariant-loop-x
invariant-loop-x l = l.large ≡ cond (all_below l.m (take l.x-index l.a)) 0 1
