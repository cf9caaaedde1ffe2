use Rattle.std.proofs.Common.{refl, sym, ◌∙◌}
use Rattle.checks.specs.Answers.{accepted, refused}
use Rattle.refusals.specs.Handed.{handed_on, handed_word, never_accepts}
use Rattle.recipes.proofs.Accepted.{lent_accepted, ready, are_tables, code_long, code_in, code_fits}
use Rattle.recipes.proofs.Ends.{lent_stops, line_stops, entries_stop, calls_end}
use Rattle.recipes.proofs.recipe.Goals as goal

pub returns-in_err-modulus : goal.returns-in_err-modulus
returns-in_err-modulus c = let on = handed_on _ c.from_residual.ensures.1 in
    let end = lent_stops _ _ _ _ _ _ (handed_word on ∙ refused c.in_err-modulus.ensures refl) (never_accepts on) in
    record { value = end.number; res_after = end.table; pad_after = end.clears }

pub returns-in_err-used : goal.returns-in_err-used
returns-in_err-used c = let on = handed_on _ c.from_residual-in_err-used.ensures.1 in
    let passes = accepted c.in_ok-modulus.ensures refl in
    let end = line_stops _ _ _ _ _ _ passes (rw (handed_word on) (c.in_err-used.ensures.refuses _ refl)) in
    record { value = end.number; res_after = end.table; pad_after = end.clears }

pub returns-in_err-test_all_entries : goal.returns-in_err-test_all_entries
returns-in_err-test_all_entries c = let on = handed_on _ c.from_residual-in_err-test_all_entries.ensures.1 in
    let passes = accepted c.in_ok-modulus.ensures refl in
    let coded = c.in_ok-used.ensures.coded _ refl in
    let word = handed_word on ∙ c.in_err-test_all_entries.ensures in
    let end = entries_stop _ _ _ _ _ _ passes coded.tree coded.recipe word (never_accepts on) in
    record { value = end.number; res_after = end.table; pad_after = end.clears }

pub slice_bounds-code-end : goal.slice_bounds-code-end
slice_bounds-code-end c = code_in (c.in_ok-used.ensures.coded _ refl)

pub slice_bounds-make_calls-end : goal.slice_bounds-make_calls-end
slice_bounds-make_calls-end c = code_long (c.in_ok-used.ensures.coded _ refl)

pub make_calls-requires : goal.make_calls-requires
make_calls-requires c = let h = c.in_ok-modulus.ensures in
    let lent = lent_accepted _ _ _ _ _ (accepted h refl) in
    let stands = h.stands _ refl in record {
      ready = ready lent stands refl refl;
      lettered = are_tables lent stands (sym c.in_ok-test_all_entries.ensures);
      fits = code_fits (c.in_ok-used.ensures.coded _ refl);
    }

pub returns : goal.returns
returns c = let h = c.in_ok-modulus.ensures in
    let coded = c.in_ok-used.ensures.coded _ refl in
    let made = c.make_calls.ensures in
    let end = calls_end _ _ _ _ _ _ (accepted h refl) coded.tree coded.recipe (sym c.in_ok-test_all_entries.ensures) (h.stands _ refl)
    (λ by. made.worked by coded.tree coded.written) made.pad_after in
    record { value = end.number; res_after = end.table; pad_after = end.clears }
