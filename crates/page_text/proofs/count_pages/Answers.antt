use mathlib.Core.Path.{◌∙◌, ap}
use Prim.Native.Nat.{ℕ, max}
use Rattle.page_text.proofs.PartSteps.{pages_are}
use Rattle.page_text.proofs.count_pages.Goals as goal

pub returns : goal.returns
returns c = c.max.ensures ∙ ap (λ (k : ℕ). max k 1) c.div_ceil.ensures ∙ pages_are _
