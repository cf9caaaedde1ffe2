use native.Mathlib.Omega.{arith}
use Rattle.number_groups.proofs.GroupSteps.{first_there, one_there, rest_there, there, last_there, more_there, fifth_there}
use Rattle.number_groups.proofs.number_again.Goals as goal

pub group_at-first-requires : goal.group_at-first-requires
group_at-first-requires c = first_there _ _ c.requires.1

pub returns-then-first-lt128 : goal.returns-then-first-lt128
returns-then-first-lt128 c = rw c.cut_to_32.ensures (record {
  again = λ x h.
      one_there _ _ h c.group_at-first.ensures c.if-first-lt128.true;
})

pub group_at-second-requires : goal.group_at-second-requires
group_at-second-requires c = let one = rest_there _ _ c.requires.1 c.group_at-first.ensures c.if-first-lt128.false in
    there one

pub returns-then-second-lt128 : goal.returns-then-second-lt128
returns-then-second-lt128 c = rw c.cut_to_32-then-second-lt128.ensures (record {
  again = λ x h.
      let one = rest_there _ _ h c.group_at-first.ensures c.if-first-lt128.false in
      last_there one c.group_at-second.ensures c.if-second-lt128.true;
})

pub group_at-third-requires : goal.group_at-third-requires
group_at-third-requires c = let one = rest_there _ _ c.requires.1 c.group_at-first.ensures c.if-first-lt128.false in
    let two = more_there one c.group_at-second.ensures c.if-second-lt128.false in
    there two

pub returns-then-third-lt128 : goal.returns-then-third-lt128
returns-then-third-lt128 c = rw c.cut_to_32-then-third-lt128.ensures (record {
  again = λ x h.
      let one = rest_there _ _ h c.group_at-first.ensures c.if-first-lt128.false in
      let two = more_there one c.group_at-second.ensures c.if-second-lt128.false in
      last_there two c.group_at-third.ensures c.if-third-lt128.true;
})

pub group_at-fourth-requires : goal.group_at-fourth-requires
group_at-fourth-requires c = let one = rest_there _ _ c.requires.1 c.group_at-first.ensures c.if-first-lt128.false in
    let two = more_there one c.group_at-second.ensures c.if-second-lt128.false in
    let three = more_there two c.group_at-third.ensures c.if-third-lt128.false in
    there three

pub returns-then-fourth-lt128 : goal.returns-then-fourth-lt128
returns-then-fourth-lt128 c = rw c.cut_to_32-then-fourth-lt128.ensures (record {
  again = λ x h.
      let one = rest_there _ _ h c.group_at-first.ensures c.if-first-lt128.false in
      let two = more_there one c.group_at-second.ensures c.if-second-lt128.false in
      let three = more_there two c.group_at-third.ensures c.if-third-lt128.false in
      last_there three c.group_at-fourth.ensures c.if-fourth-lt128.true;
})

pub group_at-fifth-requires : goal.group_at-fifth-requires
group_at-fifth-requires c = let one = rest_there _ _ c.requires.1 c.group_at-first.ensures c.if-first-lt128.false in
    let two = more_there one c.group_at-second.ensures c.if-second-lt128.false in
    let three = more_there two c.group_at-third.ensures c.if-third-lt128.false in
    let four = more_there three c.group_at-fourth.ensures c.if-fourth-lt128.false in
    there four

pub overflow_add-four-2 : goal.overflow_add-four-2
overflow_add-four-2 c = let one = rest_there _ _ c.requires.1 c.group_at-first.ensures c.if-first-lt128.false in
    let two = more_there one c.group_at-second.ensures c.if-second-lt128.false in
    let three = more_there two c.group_at-third.ensures c.if-third-lt128.false in
    let four = more_there three c.group_at-fourth.ensures c.if-fourth-lt128.false in
    omega (arith, four.small, c.group_at-fourth.ensures.byte_small, c.group_at-fifth.ensures.byte_small)

pub returns : goal.returns
returns c = rw c.cut_to_32-2.ensures (record {
  again = λ x h.
      let one = rest_there _ _ h c.group_at-first.ensures c.if-first-lt128.false in
      let two = more_there one c.group_at-second.ensures c.if-second-lt128.false in
      let three = more_there two c.group_at-third.ensures c.if-third-lt128.false in
      let four = more_there three c.group_at-fourth.ensures c.if-fourth-lt128.false in
      fifth_there four c.group_at-fifth.ensures;
})
