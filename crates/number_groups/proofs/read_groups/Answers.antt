use native.Mathlib.Omega.{arith}
use Rattle.number_groups.proofs.GroupSteps.{is_group, ends_early, ends_in, goes_on, behind, ends_fifth}
use Rattle.number_groups.proofs.read_groups.Goals as goal

pub returns-then-bytes-at : goal.returns-then-bytes-at
returns-then-bytes-at c = ends_early _ _ _ _ c.if-bytes-at.true

pub returns-then-second-lt128 : goal.returns-then-second-lt128
returns-then-second-lt128 c =
    ends_in _ _ _ _ c.if-bytes-at.false (is_group c.byte_at-second.ensures) c.if-second-lt128.true (omega (arith, c.requires, c.if-second-lt128.true)) c.last_group.ensures

pub returns-then-bytes-third_at : goal.returns-then-bytes-third_at
returns-then-bytes-third_at c =
    let two = goes_on _ _ _ _ c.if-bytes-at.false (is_group c.byte_at-second.ensures) c.requires c.if-second-lt128.false in
    behind two (ends_early _ _ _ _ c.if-bytes-third_at.true)

pub returns-then-third-lt128 : goal.returns-then-third-lt128
returns-then-third-lt128 c =
    let two = goes_on _ _ _ _ c.if-bytes-at.false (is_group c.byte_at-second.ensures) c.requires c.if-second-lt128.false in
    behind two (ends_in _ _ _ _ c.if-bytes-third_at.false (is_group c.byte_at-third.ensures) c.if-third-lt128.true (omega (arith, two.below, c.if-third-lt128.true))
    c.last_group-then-third-lt128.ensures)

pub returns-then-bytes-fourth_at : goal.returns-then-bytes-fourth_at
returns-then-bytes-fourth_at c =
    let two = goes_on _ _ _ _ c.if-bytes-at.false (is_group c.byte_at-second.ensures) c.requires c.if-second-lt128.false in
    let three = goes_on _ _ _ _ c.if-bytes-third_at.false (is_group c.byte_at-third.ensures) two.below c.if-third-lt128.false in
    behind two (behind three (ends_early _ _ _ _ c.if-bytes-fourth_at.true))

pub returns-then-fourth-lt128 : goal.returns-then-fourth-lt128
returns-then-fourth-lt128 c =
    let two = goes_on _ _ _ _ c.if-bytes-at.false (is_group c.byte_at-second.ensures) c.requires c.if-second-lt128.false in
    let three = goes_on _ _ _ _ c.if-bytes-third_at.false (is_group c.byte_at-third.ensures) two.below c.if-third-lt128.false in
    behind two (behind three (ends_in _ _ _ _ c.if-bytes-fourth_at.false (is_group c.byte_at-fourth.ensures) c.if-fourth-lt128.true (omega (arith, three.below, c.if-fourth-lt128.true))
    c.last_group-then-fourth-lt128.ensures))

pub returns-then-bytes-fifth_at : goal.returns-then-bytes-fifth_at
returns-then-bytes-fifth_at c =
    let two = goes_on _ _ _ _ c.if-bytes-at.false (is_group c.byte_at-second.ensures) c.requires c.if-second-lt128.false in
    let three = goes_on _ _ _ _ c.if-bytes-third_at.false (is_group c.byte_at-third.ensures) two.below c.if-third-lt128.false in
    let four = goes_on _ _ _ _ c.if-bytes-fourth_at.false (is_group c.byte_at-fourth.ensures) three.below c.if-fourth-lt128.false in
    behind two (behind three (behind four (ends_early _ _ _ _ c.if-bytes-fifth_at.true)))

pub returns : goal.returns
returns c =
    let two = goes_on _ _ _ _ c.if-bytes-at.false (is_group c.byte_at-second.ensures) c.requires c.if-second-lt128.false in
    let three = goes_on _ _ _ _ c.if-bytes-third_at.false (is_group c.byte_at-third.ensures) two.below c.if-third-lt128.false in
    let four = goes_on _ _ _ _ c.if-bytes-fourth_at.false (is_group c.byte_at-fourth.ensures) three.below c.if-fourth-lt128.false in
    behind two (behind three (behind four (ends_fifth _ _ _ c.if-bytes-fifth_at.false (is_group c.byte_at.ensures) four.below c.fifth_group.ensures)))
