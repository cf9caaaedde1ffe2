use Rattle.number_groups.proofs.GroupWrites.{GroupsLeft}
use Rattle.number_groups.proofs.write_number.Given as goal

abbrev pub invariant-loop-rest : goal.invariant-loop-rest
invariant-loop-rest l = GroupsLeft l.value l.at l.initial.buffer l.buffer l.rest l.place

abbrev pub decreases-loop-rest : goal.decreases-loop-rest
decreases-loop-rest l = l.rest
