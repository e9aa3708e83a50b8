-- The program of an accepted text was checked, and its expansion is an inlined one.
use Rattle.std.proofs.Common.{◌≡◌, refl, sym, ap, ◌∙◌, subst, ℕ, ◌<◌, ◌^◌, true, length, List, Result, Ok, Err}
use Rattle.std.specs.List.{list_all}
use Rattle.dp_inline.proofs.FewSites.{given_is_inlined}
use Rattle.dp_plan.proofs.RegionFacts.{few_regions}
use Rattle.dp_tree.specs.declared.Program.{Program}
use Rattle.dp_tree.specs.declared.raw.RawProgram.{RawProgram}
use Rattle.dp_tree.specs.Checked.{IsChecked}
use Rattle.dp_tree.specs.Inlined.{IsInlined}
use Rattle.dp_calls.specs.Expand.{expand}
use Rattle.dp_check.specs.declared.fail.CheckFail.{CheckFail}
use Rattle.dp_check.specs.Checked.{breaks_fit, has_length}
use Rattle.dp_check.specs.CheckAnswer.{check_answer}
use Rattle.dp_check.proofs.CheckedLemmas.{checked}
use Rattle.dp_inline.specs.declared.fail.InlineFail.{InlineFail}
use Rattle.dp_inline.specs.InlineAnswer.{inline_answer}
use Rattle.dp_refusal.specs.declared.refusal.Refusal.{Refusal}
use Rattle.dp_load.specs.Program.{Reads, TooLong, NoToken, TooDeep, NoTree, Checked, sized, checked_read}
use Rattle.dp_load.proofs.accepted.Lengths.{lengths}
use Rattle.dp_load.proofs.accepted.Exits.{exits}

-- A program that isn't too large is the one that was checked.
pub kept : (q p : Program) (v : Result Program InlineFail) → sized q v ≡ Ok p → q ≡ p
kept q p (Ok x) e = cc
kept q p (Err fail) e = absurd (cc)

answer_checked : (raw : RawProgram) (p : Program) (v : Result Program CheckFail) → list_all has_length raw.items ≡ true → breaks_fit raw ≡ true →
    check_answer raw ≡ v → checked_read v ≡ Ok p → IsChecked p
answer_checked raw p (Ok q) h exits is e = subst IsChecked (kept q p (inline_answer q) e) (checked raw q h exits is)
answer_checked raw p (Err fail) h exits is e = absurd (cc)

read_as : {text : List ℕ} {o : Result Program Refusal} (p : Program) → Reads text o → o ≡ Ok p → IsChecked p
read_as p (TooLong h) e = absurd (cc)
read_as p (NoToken place h refused) e = absurd (cc)
read_as p (TooDeep quantity count h deep) e = absurd (cc)
read_as p (NoTree token h none) e = absurd (cc)
read_as {text} p (Checked raw h parses) e = answer_checked raw p (check_answer raw) (lengths text raw parses) (exits text raw parses) refl e

pub read_checked : (text : List ℕ) (p : Program) → Reads text (Ok p) → IsChecked p
read_checked text p reads = read_as p reads refl

-- the program that is run for one that isn't too large
sized_inlined : (p q : Program) (v : Result Program InlineFail) → IsChecked p → inline_answer q ≡ v → sized q v ≡ Ok p → IsInlined (expand p)
sized_inlined p q (Ok x) checked is e = let same : q ≡ p = cc e in given_is_inlined p checked x (ap inline_answer (sym same) ∙ is)
sized_inlined p q (Err fail) checked is e = absurd (cc e)

answer_inlined : (p : Program) (v : Result Program CheckFail) → IsChecked p → checked_read v ≡ Ok p → IsInlined (expand p)
answer_inlined p (Ok q) checked e = sized_inlined p q (inline_answer q) checked refl e
answer_inlined p (Err fail) checked e = absurd (cc e)

inlined_by : {text : List ℕ} {o : Result Program Refusal} (p : Program) → IsChecked p → Reads text o → o ≡ Ok p → IsInlined (expand p)
inlined_by p checked (TooLong h) e = absurd (cc e)
inlined_by p checked (NoToken place h refused) e = absurd (cc e)
inlined_by p checked (TooDeep quantity count h deep) e = absurd (cc e)
inlined_by p checked (NoTree token h none) e = absurd (cc e)
inlined_by p checked (Checked raw h parses) e = answer_inlined p (check_answer raw) checked e

pub inlined_read : (text : List ℕ) (p : Program) → Reads text (Ok p) → IsInlined (expand p)
inlined_read text p reads = inlined_by p (read_checked text p reads) reads refl

pub few_regions_read : (text : List ℕ) (p : Program) → Reads text (Ok p) → length (expand p).regions < 2 ^ 32
few_regions_read text p reads = few_regions (expand p) (inlined_read text p reads)
