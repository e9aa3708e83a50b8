-- What is so of the program that is made, since it is the expansion.
use Rattle.std.proofs.Common.{◌≡◌, sym, subst, Option, None, Result, Ok, Err, IfOk}
use Rattle.dp_tree.specs.declared.Program.{Program}
use Rattle.dp_tree.specs.Checked.{IsChecked}
use Rattle.dp_tree.specs.Inlined.{IsInlined}
use Rattle.dp_calls.specs.Expand.{expand}
use Rattle.dp_calls.proofs.SameMeanings.{same_meaning}
use Rattle.dp_inline.specs.declared.fail.InlineFail.{InlineFail}
use Rattle.dp_inline.specs.InlineAnswer.{GivesInlined, unless_refused, too_large, first_large_region, inline_answer}
use Rattle.dp_calls.specs.Meaning.{DoesTheSame}
use Rattle.dp_inline.proofs.FewSites.{given_is_inlined}

-- what is given is the expansion
pub expands : (p q : Program) → inline_answer p ≡ Ok q → q ≡ expand p
unfolding inline_answer
expands p q h = by (too_large p) (first_large_region p p.main) h
  where
    by : (a b : Option InlineFail) → unless_refused a (unless_refused b (Ok (expand p))) ≡ Ok q → q ≡ expand p
    by None None e = cc
    by _ _ e = absurd (cc)

pub same : (p : Program) (result : Result Program InlineFail) → IsChecked p → GivesInlined (inline_answer p) result → IfOk result (DoesTheSame p)
same p (Ok q) checked h = subst (DoesTheSame p) (sym (expands p q h)) (same_meaning p checked)
same p (Err fail) checked h = tt

pub inlined : (p : Program) (result : Result Program InlineFail) → IsChecked p → GivesInlined (inline_answer p) result → IfOk result IsInlined
inlined p (Ok q) checked h = subst IsInlined (sym (expands p q h)) (given_is_inlined p checked q h)
inlined p (Err fail) checked h = tt

pub ruleset meanings = (same, inlined)
