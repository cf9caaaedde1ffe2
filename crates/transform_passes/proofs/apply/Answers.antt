use Rattle.transform_passes.proofs.Controls.{none}
use Rattle.transform_passes.proofs.apply.Goals as goal

pub returns-then-n-lt2 : goal.returns-then-n-lt2
returns-then-n-lt2 g c = c.remaining.ensures _ (none c.requires.table)

pub returns-else-n-lt2 : goal.returns-else-n-lt2
returns-else-n-lt2 g c = c.remaining-else-n-lt2.ensures _ c.first_two.ensures
