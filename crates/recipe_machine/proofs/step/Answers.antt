use Rattle.std.proofs.Common.{arith, ◌∙◌}
use Rattle.recipe_machine.specs.Memory.{letter_of}
use Rattle.recipe_machine.proofs.Steps.{push_stepped, combine_stepped, apply_stepped, operands, operand}
use Rattle.recipe_machine.proofs.step.Goals as goal

pub push-requires : goal.push-requires
push-requires c = record { space = c.requires.ready.space; table_len = rw c.named.ensures (c.requires.lettered (letter_of c.in-Push.name)).size }

pub overflow_sub-height : goal.overflow_sub-height
overflow_sub-height c = omega (arith, rw c.in-Combine.is at c.requires.can)

pub combine-requires : goal.combine-requires
combine-requires c = operands c.args.height (rw c.in-Combine.is at c.requires.can) c.requires.ready c.place_of.ensures

pub apply-requires : goal.apply-requires
apply-requires c = operand c.args.height (rw c.in-Apply.is at c.requires.can) c.requires.ready

pub returns-in-Push : goal.returns-in-Push
returns-in-Push c = let e = c.in-Push.is in
    let done = c.push in
    λ by. rw e (push_stepped by _ _ c.args.height (rw e at c.requires.can) c.requires.ready.space done.auto.pad (done.ensures.res_after ∙ c.named.ensures) done.ensures.saved)

pub returns-in-Combine : goal.returns-in-Combine
returns-in-Combine c = let e = c.in-Combine.is in
    let done = c.combine in
    λ by. rw e (combine_stepped by _ _ c.args.height (rw e at c.requires.can) c.requires.ready.space done.auto.pad c.place_of.ensures done.ensures)

pub returns-in-Apply : goal.returns-in-Apply
returns-in-Apply c = let e = c.in-Apply.is in
    let done = c.apply in
    λ by. rw e (apply_stepped by _ _ c.args.height (rw e at c.requires.can) c.requires.ready.space done.auto.pad (done.ensures by))
