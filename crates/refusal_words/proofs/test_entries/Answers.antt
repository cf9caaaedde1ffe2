use Rattle.std.proofs.Common.{rules, Bool, cond, sym, ◌∙◌, ap}
use Rattle.refusal_words.proofs.Prefixes.{below_none, entry_above, entry_below}
use Rattle.refusal_words.proofs.test_entries.Goals as goal
use Rattle.refusal_words.proofs.test_entries.Goals.{then-m-x, else-m-x}

pub loop-x-init : goal.loop-x-init
loop-x-init c = ap (λ (t : Bool). cond t 0 1) (sym (below_none c.args.m c.args.a.now))

pub loop-x-preserved : goal.loop-x-preserved
loop-x-preserved c = let s = c.args in
    elim c.if-m-x.branch [
      | then-m-x w ↦ w.large-is ∙ ap (λ (t : Bool). cond t 0 1) (entry_above s.m s.a.now c.loop-x.x-index (search rules) w.if-m-x.true)
      | else-m-x w ↦
          w.large-is ∙ c.loop-x.invariant ∙ ap (λ (t : Bool). cond t 0 1) (entry_below s.m s.a.now c.loop-x.x-index (search rules) (search rules))
    ]
