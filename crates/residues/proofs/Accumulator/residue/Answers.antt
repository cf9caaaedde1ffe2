use Rattle.std.proofs.Common.{◌∙◌, rules}
use Rattle.residues.specs.Accumulated.{held}
use Rattle.residues.proofs.Carries.{joined_all, joined-last}
use Rattle.residues.proofs.Accumulator.residue.Goals as goal

pub returns-then-carried : goal.returns-then-carried
unfolding held
returns-then-carried c = let r = c.reduce.ensures in
    record { same = r.same ∙ joined-last c.args.modulus c.args.self.low c.args.self.carries _ (search rules); below = r.below }

pub returns-else-carried : goal.returns-else-carried
unfolding held
returns-else-carried c = let r = c.reduce-else-carried.ensures in
    record { same = r.same ∙ joined_all c.args.modulus c.args.self.low c.args.self.carries _ (search rules); below = r.below }
