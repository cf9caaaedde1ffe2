use Rattle.label_sheet.proofs.ArraySteps.{found_one, none_more, none_all}
use Rattle.label_sheet.proofs.stands_again.Goals as goal

pub returns-then-eq : goal.returns-then-eq
returns-then-eq c = found_one c.requires.held c.loop-other.invariant _ c.loop-other-test.true c.eq.ensures c.if-eq.true

pub loop-other-preserved : goal.loop-other-preserved
loop-other-preserved c = none_more c.requires.held c.loop-other.invariant _ c.loop-other-test.true c.eq.ensures c.if-eq.false

pub returns : goal.returns
returns c = none_all c.requires.held c.loop-other.invariant c.loop-other-test.false
