-- The kind of a change, by its number: 0 adds, every other takes.
use Rattle.std.specs.Prelude.{ℕ, zero, suc}
use Rattle.board_laws.specs.declared.Kind.{Kind}
use Rattle.board_laws.specs.declared.Kind.TheVariants.{Add, Take}

abbrev pub kind_of : ℕ → Kind
kind_of zero = Add
kind_of (suc number) = Take
