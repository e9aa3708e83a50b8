-- The inputs of a list have few words each.
use Rattle.std.proofs.Common.{◌≡◌, refl, ap, subst, ℕ, ◌≤◌, List, [], ◌∷◌, length, All, ℤ, Option, Result, Ok, Err}
use Rattle.std.proofs.lemmas.List.Elements.{All-cons, All-nil}
use Rattle.dp_refusal.specs.declared.refusal.Refusal.{Refusal}
use Rattle.dp_refusal.specs.declared.refusal.Refusal.TheVariants.{InputWord}
use Rattle.dp_load.specs.Lists.{Inputs, ListRefused, Listed, ReadsListed, Unlisted, in_list}
use Rattle.dp_load.specs.Roles.{Contents, Named, ReadsInput}
use Rattle.dp_load.specs.Then.{EachInTurn, LaterRefused, NoneLeft, OneMore, OneRefused}
use Rattle.dp_load.proofs.accepted.Given.{few_words}

abbrev pub HasFewWords : List ℤ → Type 0
HasFewWords numbers = length numbers ≤ 65536

no_numbers : (number : ℕ) (refusal : Refusal) (numbers : List ℤ) → Ok numbers ≡ in_list number (Err refusal) → ⊥
no_numbers number (InputWord word) numbers e = absurd (cc e)
no_numbers number refusal numbers e = absurd (cc e)

few_alone : {contents : Contents} {name : List ℕ} (number : ℕ) (numbers : List ℤ) (alone : Result (List ℤ) Refusal) → ReadsInput contents name alone →
    Ok numbers ≡ in_list number alone → HasFewWords numbers
few_alone {name = name} number numbers (Ok read) h e =
    let same : read ≡ numbers = cc e in few_words numbers (Named name (Ok read) h) (ap (λ (zs : List ℤ). Ok zs) same)
few_alone number numbers (Err refusal) h e = absurd (no_numbers number refusal numbers e)

few_each : {contents : Contents} {number : ℕ} {names : List (List ℕ)} {o : Result (List (List ℤ)) Refusal} (inputs : List (List ℤ)) →
    EachInTurn (ReadsListed contents) number names o → o ≡ Ok inputs → All HasFewWords inputs
few_each inputs (NoneLeft number) e = let none : [] ≡ inputs = cc e in subst (All HasFewWords) none (All-nil HasFewWords)
few_each inputs (OneMore number name rest x xs h later) e =
    let same : x ∷ xs ≡ inputs = cc e in
    subst (All HasFewWords) same (All-cons HasFewWords x xs (few_alone number x h.alone h.reads h.is) (few_each xs later refl))
few_each inputs (OneRefused number name rest refusal h) e = absurd (cc e)
few_each inputs (LaterRefused number name rest x refusal h later) e = absurd (cc e)

few_read : {contents : Contents} {list : Option (List ℕ)} {o : Result (List (List ℤ)) Refusal} (inputs : List (List ℤ)) → Inputs contents list o →
    o ≡ Ok inputs → All HasFewWords inputs
few_read inputs Unlisted e = let none : [] ≡ inputs = cc e in subst (All HasFewWords) none (All-nil HasFewWords)
few_read inputs (ListRefused name text refusal h r) e = absurd (cc e)
few_read inputs (Listed name text names read h r k) e = few_each inputs k e

pub inputs_few : {contents : Contents} {list : Option (List ℕ)} (inputs : List (List ℤ)) → Inputs contents list (Ok inputs) → All HasFewWords inputs
inputs_few inputs h = few_read inputs h refl
