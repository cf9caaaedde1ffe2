use Rattle.label_sheet.proofs.ArraySteps.{equal_found, different_more, different_all}
use Rattle.label_sheet.proofs.check_different.Goals as goal

pub returns-then-stands_again : goal.returns-then-stands_again
returns-then-stands_again c = equal_found c.requires c.loop-control.invariant c.loop-control-test.true c.stands_again.ensures c.if-stands_again.true

pub loop-control-preserved : goal.loop-control-preserved
loop-control-preserved c = different_more c.requires c.loop-control.invariant c.loop-control-test.true c.stands_again.ensures c.if-stands_again.false

pub returns : goal.returns
returns c = different_all c.requires c.loop-control.invariant c.loop-control-test.false
