-- What is left when pages are written behind some of the call's tests.
use Rattle.std.specs.Prelude.{List, ℕ, length, Result}
use Rattle.definitions.specs.Refusals.{or_else, buffer_word}
use Rattle.definitions.specs.Sheets.{sheet_number}
use Rattle.definitions.specs.Pages.{wall_pages}
use Rattle.table_writer.specs.Writing.{TextBy}
use Rattle.refusals.specs.declared.Refusal.{Refusal}

-- where only the buffer's length is left to test
abbrev pub IfRoom : List ℕ → List ℕ → Result ℕ Refusal → List ℕ → Type 0
IfRoom text old r buffer = TextBy text (buffer_word (length old) (length text)) old r buffer

-- where the sheet and the buffer's length are left to test
abbrev pub IfSheet : List ℕ → List ℕ → List ℕ → Result ℕ Refusal → List ℕ → Type 0
IfSheet sheet A old r buffer =
    TextBy (wall_pages sheet A) (or_else (sheet_number sheet) (buffer_word (length old) (length (wall_pages sheet A)))) old r buffer
