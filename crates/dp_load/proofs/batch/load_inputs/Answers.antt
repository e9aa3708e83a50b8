use Rattle.std.proofs.Common.{◌∙◌, ap, sym, subst, All, IsUtf8, Ok}
use Rattle.dp_load.proofs.TextsLemmas.{given}
use Rattle.dp_load.proofs.BatchLemmas.{inputs_loaded, list_failed, list_gives, list_refused, text_names}
use Rattle.dp_load.proofs.batch.load_inputs.Goals as goal

pub returns-in-Refused-clause-loads : goal.returns-in-Refused-clause-loads
returns-in-Refused-clause-loads g c =
    list_refused _ _ _ _ _ _ _ (given _ _ _ (c.in_ok-names.was ∙ ap Ok c.in-Refused.is)
    (list_gives _ _ _ _ _ _ _ c.load_list.ensures.loads c.load_list.ensures.faults c.load_list.ensures.failed_names))

pub returns-in-Failed-clause-loads : goal.returns-in-Failed-clause-loads
returns-in-Failed-clause-loads g c =
    list_failed _ _ _ _ _ _ (given _ _ _ (c.in_ok-names.was ∙ ap Ok c.in-Failed.is)
    (list_gives _ _ _ _ _ _ _ c.load_list.ensures.loads c.load_list.ensures.faults c.load_list.ensures.failed_names))

pub returns-in-Text-clause-loads : goal.returns-in-Text-clause-loads
returns-in-Text-clause-loads g c =
    inputs_loaded _ _ _ _ _ _ _ (given _ _ _ (c.in_ok-names.was ∙ ap Ok c.in-Text.is)
    (list_gives _ _ _ _ _ _ _ c.load_list.ensures.loads c.load_list.ensures.faults c.load_list.ensures.failed_names)) _ _ c.load_each.result
    (rw (c.as_slice.ensures, c.load_list.ensures.contents) at c.load_each.ensures.loads)

pub load_each-requires-clause-texts : goal.load_each-requires-clause-texts
load_each-requires-clause-texts g c =
    subst (All IsUtf8) (sym c.as_slice.ensures) (text_names (given _ _ _ (c.in_ok-names.was ∙ ap Ok c.in-Text.is) c.load_list.ensures.loads))
