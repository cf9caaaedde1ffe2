use Rattle.std.proofs.Common.{rules, arith, sym, ap, ◌∙◌}
use Rattle.refusals.specs.Words.{word_of, word-not-zero}
use Rattle.recipe_machine.proofs.Runs.{starts, space_still, is_code, can_next, stepped_as, refused_here, held_still, goes_on, worked_refused, worked_found, run_ended}
use Rattle.recipe_machine.proofs.work.Goals as goal

pub loop-byte-init : goal.loop-byte-init
loop-byte-init c = starts c.requires.ready c.requires.fits

pub code_of-code-requires : goal.code_of-code-requires
code_of-code-requires c = is_code c.loop-byte.invariant (search rules)

pub step-requires : goal.step-requires
step-requires c = let so_far = c.loop-byte.invariant in record {
  ready = so_far.ready;
  lettered = c.requires.lettered;
  can = can_next so_far (search rules) c.code_of-code.result c.code_of-code.ensures;
}

pub give_back-requires : goal.give_back-requires
give_back-requires c = let space = c.loop-byte.invariant.ready.space in
    space_still space space.within c.step.auto.res c.step.auto.pad

pub shape_of-res-in-Err : goal.shape_of-res-in-Err
shape_of-res-in-Err c = c.give_back.auto.res ∙ c.step.auto.res ∙ c.loop-byte.invariant.ready.space.long ∙ sym c.requires.ready.space.long

pub shape_of-pad-in-Err : goal.shape_of-pad-in-Err
shape_of-pad-in-Err c = c.step.auto.pad ∙ c.loop-byte.invariant.pad_long

pub returns-in-Err : goal.returns-in-Err
returns-in-Err c = let so_far = c.loop-byte.invariant in
    let stop = word-not-zero c.in-Err.refusal in
    let word = ap word_of c.in-Err.is in
    λ by t e.
    worked_refused by _ t _ e (refused_here so_far (search rules) c.code_of-code.result c.code_of-code.ensures (λ by. stepped_as word (c.step.ensures by)) stop by)
    (c.give_back.ensures ∙ held_still so_far (search rules) c.code_of-code.result c.code_of-code.ensures (λ by. stepped_as word (c.step.ensures by)) stop)

pub height_after-height-requires : goal.height_after-height-requires
height_after-height-requires c = can_next c.loop-byte.invariant (search rules) c.code_of-code.result c.code_of-code.ensures

pub loop-byte-preserved : goal.loop-byte-preserved
loop-byte-preserved c = goes_on c.loop-byte.invariant (search rules) c.code_of-code.result c.code_of-code.ensures c.step.ensures
    (search rules) c.requires.lettered c.height_after-height.ensures
    c.step.auto.res c.step.auto.pad

pub shape_of-res : goal.shape_of-res
shape_of-res c = c.loop-byte.invariant.ready.space.long ∙ sym c.requires.ready.space.long

pub shape_of-pad : goal.shape_of-pad
shape_of-pad c = c.loop-byte.invariant.pad_long

pub returns : goal.returns
returns c = λ by t e. worked_found by _ t _ e _ c.loop-byte.height (run_ended c.loop-byte.invariant (omega arith) by)
