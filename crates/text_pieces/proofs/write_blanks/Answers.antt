use Prim.Native.Nat.{ℕ, ◌-◌}
use native.Mathlib.Omega.{arith}
use lib.ListN.{length-replicate}
use borrow.Author.Rules.{rules}
use Rattle.text_pieces.proofs.PieceSteps.{run_written}
use Rattle.text_pieces.proofs.write_blanks.Goals as goal

pub returns-clause-writes : goal.returns-clause-writes
returns-clause-writes c =
    let long = length-replicate {A = ℕ} (c.args.end - c.args.at) 32 in
    run_written _ _ (search rules) (omega (arith, long)) (omega (arith, long, c.requires.at_le_end)) c.requires.end_in_bounds
