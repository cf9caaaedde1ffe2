use Rattle.number_groups.proofs.GroupSteps.{is_group, no_group, one_group, more_groups}
use Rattle.number_groups.proofs.read_number.Goals as goal

pub returns-then-bytes-at : goal.returns-then-bytes-at
returns-then-bytes-at c = no_group _ _ c.if-bytes-at.true

pub returns-then-first-lt128 : goal.returns-then-first-lt128
returns-then-first-lt128 c = one_group _ _ c.if-bytes-at.false (is_group c.byte_at-first.ensures) c.if-first-lt128.true

pub returns : goal.returns
returns c = more_groups _ _ c.if-bytes-at.false (is_group c.byte_at-first.ensures) c.if-first-lt128.false c.read_groups.ensures
