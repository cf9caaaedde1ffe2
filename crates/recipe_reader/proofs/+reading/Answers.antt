-- The proof of the three readers, which call each other.
use Rattle.std.proofs.Common.{arith}
use Rattle.recipe_words.specs.AnswerLaws.{is_read, is_refused}
use Rattle.recipe_reader.proofs.Chains.{gives_refused, chain_starts, chain_ends, not_found, farther}
use Rattle.recipe_reader.proofs.Chains.{sign_within, operand_room, operand_refused, sign_room, operand_nearer, head_joined}
use Rattle.recipe_reader.proofs.Factors.{opens_at, opening_within, opening_some, room_inside, room_call, inside_refused, closes}
use Rattle.recipe_reader.proofs.+reading.Goals as goal

-- ---- a level

pub read_level-returns-in_err-place : goal.read_level-returns-in_err-place
read_level-returns-in_err-place t c =
    rw c.from_residual.ensures (is_refused (gives_refused (c.read_operand.ensures.refuses c.in_err-place.was)))

pub read_level-loop-sign-init : goal.read_level-loop-sign-init
read_level-loop-sign-init t c =
    record { chained = chain_starts (c.read_operand.ensures.taken _ c.in_ok-place.was); room = c.requires; long = c.read_operand.auto.code }

pub read_level-returns-in_err-second : goal.read_level-returns-in_err-second
read_level-returns-in_err-second t c =
    rw c.from_residual-in_err-second.ensures
    (is_refused (operand_refused c.loop-sign.invariant c.sign_at.ensures c.in-Some.is (c.read_operand-in-Some.ensures.refuses c.in_err-second.was)))

pub read_level-joined-place-requires : goal.read_level-joined-place-requires
read_level-joined-place-requires t c =
    sign_room c.loop-sign.invariant c.sign_at.ensures c.in-Some.is (c.read_operand-in-Some.ensures.taken _ c.in_ok-second.was) c.read_operand-in-Some.auto.code

pub read_level-loop-sign-smaller : goal.read_level-loop-sign-smaller
read_level-loop-sign-smaller t c =
    let near = operand_nearer c.loop-sign.invariant c.sign_at.ensures c.in-Some.is (c.read_operand-in-Some.ensures.taken _ c.in_ok-second.was)
    c.read_operand-in-Some.auto.code in
    omega (arith, c.joined-place.ensures.next_value.0, near)

pub read_level-loop-sign-preserved : goal.read_level-loop-sign-preserved
read_level-loop-sign-preserved t c =
    head_joined c.loop-sign.invariant c.sign_at.ensures c.in-Some.is (c.read_operand-in-Some.ensures.taken _ c.in_ok-second.was)
    c.read_operand-in-Some.auto.code c.joined-place.ensures.next_value c.joined-place.ensures.code_after c.joined-place.auto.code

pub read_level-returns : goal.read_level-returns
read_level-returns t c = is_read (chain_ends c.loop-sign.invariant.chained (not_found _ c.sign_at.ensures c.in_default.is))

-- ---- a factor

pub read_factor-read_level-requires : goal.read_factor-read_level-requires
read_factor-read_level-requires t c =
    let o = opens_at _ c.opening_at.ensures c.in-Some.is in
    let w = opening_within c.args.line.now c.args.at o c.requires.within in
    (omega (arith, c.decreases, w, opening_some _ o), room_inside c.args.line.now c.args.at o c.requires)

pub read_factor-returns-in_err-inner : goal.read_factor-returns-in_err-inner
read_factor-returns-in_err-inner t c =
    rw c.from_residual.ensures (is_refused (inside_refused _ _ (opens_at _ c.opening_at.ensures c.in-Some.is) (c.read_level.ensures.refuses c.in_err-inner.was)))

pub read_factor-closed-requires-clause-depth_le_next : goal.read_factor-closed-requires-clause-depth_le_next
read_factor-closed-requires-clause-depth_le_next t c = omega (arith, (c.read_level.ensures.taken _ c.in_ok-inner.was).stands)

pub read_factor-closed-requires-clause-used_in_bounds : goal.read_factor-closed-requires-clause-used_in_bounds
read_factor-closed-requires-clause-used_in_bounds t c =
    room_call _ _ (opens_at _ c.opening_at.ensures c.in-Some.is) (c.read_level.ensures.taken _ c.in_ok-inner.was) c.requires c.read_level.auto.code

pub read_factor-returns : goal.read_factor-returns
read_factor-returns t c =
    closes _ _ (opens_at _ c.opening_at.ensures c.in-Some.is) (c.read_level.ensures.taken _ c.in_ok-inner.was) _ _ c.closed.ensures
