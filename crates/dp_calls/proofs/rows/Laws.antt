-- What the laws give, written out.
use Rattle.std.proofs.Common.{◌≡◌, true, false, ap, ℕ, List, ℤ, length, map, take}
use Rattle.std.specs.List.{list_all, list_any}
use Rattle.dp_tree.specs.declared.Program.{Program}
use Rattle.dp_tree.specs.Checked.{IsChecked}
use Rattle.dp_tree.specs.Inlined.{has_call}
use Rattle.dp_tree.specs.Trace.{Run, run_of, begin, prints}
use Rattle.dp_tree.specs.Iteration.{cells_after}
use Rattle.dp_tree.specs.Statements.{everywhere}
use Rattle.dp_tree.proofs.Heads.{and_make, and_true}
use Rattle.dp_calls.specs.AtHome.{stores_home_at_top, site_fits, start_fits, numbers_fit, body_fits}
use Rattle.dp_calls.specs.Expand.{expand}
use Rattle.dp_calls.specs.ExpandLaws.{erased}
use Rattle.dp_calls.specs.Frame.{global_count}
use Rattle.dp_calls.specs.Frames.{outcome}
use Rattle.dp_calls.proofs.ExpandLaws.{keeps_text, leaves_no_call}
use Rattle.dp_calls.proofs.HomeLaws.{expanded_at_home}
use Rattle.dp_calls.proofs.SameMeanings.{same_meaning}
use Rattle.dp_calls.proofs.SmallNumbers.{keeps_numbers_small}

no_call_is_left : (p : Program) → list_any has_call (expand p).main ≡ false
no_call_is_left p = leaves_no_call p

text_without_calls_stays : (p : Program) → list_any has_call p.main ≡ false → map erased (expand p).main ≡ map erased p.main
text_without_calls_stays p none = keeps_text p none

stores_stay_at_home : (p : Program) → IsChecked p → list_all (stores_home_at_top (expand p).vars) (expand p).main ≡ true
stores_stay_at_home p checked = expanded_at_home p checked

module _ (p : Program) (starts : list_all start_fits p.vars ≡ true) (text : list_all (everywhere site_fits) p.main ≡ true)
    (bodies : list_all (λ f. list_all (everywhere site_fits) f.body) p.functions ≡ true) where
  small : numbers_fit (expand p) ≡ true
  small = keeps_numbers_small p (and_make (numbers_fit p) (list_all body_fits p.functions)
      (and_make (list_all start_fits p.vars) (list_all (everywhere site_fits) p.main) starts text) bodies)

  starts_stay_small : list_all start_fits (expand p).vars ≡ true
  starts_stay_small = (and_true (list_all start_fits (expand p).vars) (list_all (everywhere site_fits) (expand p).main) small).0

  texts_stay_small : list_all (everywhere site_fits) (expand p).main ≡ true
  texts_stay_small = (and_true (list_all start_fits (expand p).vars) (list_all (everywhere site_fits) (expand p).main) small).1

module _ (p : Program) (checked : IsChecked p) (input : List ℤ) (fuel : ℕ) where
  abbrev run : Run
  run = run_of (expand p) input fuel (begin (expand p))

  same_prints : (outcome p input fuel).prints ≡ prints run.trace
  same_prints = ap (λ o. o.prints) (same_meaning p checked input fuel)

  same_globals : (outcome p input fuel).globals ≡ take (global_count (expand p)) (cells_after run (length run.trace))
  same_globals = ap (λ o. o.globals) (same_meaning p checked input fuel)

  same_steps : (outcome p input fuel).steps ≡ length run.trace
  same_steps = ap (λ o. o.steps) (same_meaning p checked input fuel)

  same_end : (outcome p input fuel).end ≡ run.end
  same_end = ap (λ o. o.end) (same_meaning p checked input fuel)
