use mathlib.Core.Path.{◌≡◌, refl, sym, ◌∙◌}
use Prim.Native.Nat.{ℕ, ◌≤◌, ◌^◌}
use mathlib.Core.List.{List}
use lib.ListN.{length}
use native.Mathlib.Omega.{arith}
use Rattle.definitions.specs.Limits.{pad_length}
use Rattle.checks.specs.Ends.{Lent, table_fits, part_long, clear_fits, front_cleared}
use Rattle.transforms.proofs.product_by.Goals as goal

-- the front of the workspace is lent, as long as a table
module _ (n : ℕ) (workspace : List ℕ) (room : pad_length n ≤ length workspace) where
  lent : {used : ℕ} → used ≡ pad_length n → Lent n used workspace
  lent e = record { used_is = e; room = room }

part : (n : ℕ) {used long : ℕ} → used ≡ pad_length n → long ≡ 2 ^ n → long ≤ used
part n e l = omega (arith, table_fits n, l)

pub slice_bounds-convolve-end : goal.slice_bounds-convolve-end
slice_bounds-convolve-end g c = omega (arith, part c.args.n refl c.power-long.ensures, c.requires.room)

pub slice_bounds-convolve-end-2 : goal.slice_bounds-convolve-end-2
slice_bounds-convolve-end-2 g c = part_long (lent c.args.n c.args.workspace.now c.requires.room refl) (part c.args.n refl c.power-long.ensures)

pub convolve-requires : goal.convolve-requires
convolve-requires g c = let inputs = c.requires in record { ready = inputs.first; ready_2 = inputs.second; a_len = inputs.first.table.size ∙ sym inputs.result_is; b_len = inputs.second.table.size ∙ sym c.power-long.ensures ∙ part_long (lent c.args.n c.args.workspace.now c.requires.room refl) (part c.args.n refl c.power-long.ensures) }

pub clear-requires : goal.clear-requires
clear-requires g c = let used = c.pad_length-used.ensures in
    omega (arith, part c.args.n used c.power-long.ensures, clear_fits (lent c.args.n c.args.workspace.now c.requires.room used) (part c.args.n used c.power-long.ensures) c.convolve.new.other c.convolve.auto.other)

pub returns : goal.returns
returns g c = let used = c.pad_length-used.ensures in record { transformed = c.convolve.ensures; workspace_after = front_cleared (lent c.args.n c.args.workspace.now c.requires.room used) (part c.args.n used c.power-long.ensures) c.convolve.new.other c.convolve.auto.other c.clear.ensures }
