use native.Mathlib.Omega.{arith}
use mathlib.Core.Path.{refl}
use Rattle.text_pieces.proofs.PieceSteps.{run_written}
use Rattle.text_pieces.proofs.write_bytes.Goals as goal

pub returns : goal.returns
returns c = run_written _ _ c.copy_from_slice.ensures.after (omega arith) refl c.requires
