-- Native code in the machine's place.
use Rattle.std.proofs.Common.{◌≡◌, sym, ap, ◌∙◌, subst, ℕ, ◌-◌, List, ◌++◌, append-nil, drop, take, take_all, length, ℤ, arith}
use Rattle.std.proofs.lemmas.List.{drop_all}
use Rattle.dp_tree.specs.Step.{Config, standing}
use Rattle.dp_meaning.specs.MachineState.{MachineState}
use Rattle.dp_meaning.specs.Places.{config_at, rest_at}
use Rattle.dp_meaning.specs.steps.PlainSteps.{PlainSteps}
use Rattle.dp_meaning.specs.declared.ends.Part.TheVariants.{Plain}
use Rattle.dp_meaning.specs.MachineState.{next_part, part_of}
use Rattle.dp_meaning.proofs.StopLemmas.{part_idle, plain_idle}
use Rattle.dp_native.specs.Reaches.{Reaches}

-- where a plain part is next
pub plain_here : (m : MachineState) (place : ℕ) → next_part m ≡ Plain → rest_at m.program place ≡ m.config.to_do → part_of (rest_at m.program place) ≡ Plain
plain_here m place next at = ap part_of at ∙ sym (part_idle m (plain_idle m.current m.config.to_do next)) ∙ next

-- what native code reached, as steps of the machine
pub reached_steps : (m : MachineState) (input cells made back out out' : List ℤ) (place fuel left to : ℕ) → input ≡ m.input →
    rest_at m.program place ≡ m.config.to_do → cells ≡ m.config.cells → back ≡ made →
    Reaches m.program input fuel out (config_at m.program (record { place = place; cells = cells })) left out'
    (standing m.program (rest_at m.program to) made) →
    PlainSteps m.program m.input m.config out (standing m.program (rest_at m.program to) back) out' (fuel - left)
reached_steps m input cells made back out out' place fuel left to input_is at same back_is r =
    let here : config_at m.program (record { place = place; cells = cells }) ≡ m.config = λ i. record { to_do = at i; cells = same i } in
    let spent = r.spent in
    let count : r.made ≡ fuel - left = omega (arith, spent) in
    subst (λ (xs : List ℤ). PlainSteps m.program m.input m.config out (standing m.program (rest_at m.program to) xs) out' (fuel - left)) (sym back_is)
    (subst (λ (n : ℕ). PlainSteps m.program m.input m.config out (standing m.program (rest_at m.program to) made) out' n) count
    (subst (λ (c : Config). PlainSteps m.program m.input c out (standing m.program (rest_at m.program to) made) out' r.made) here
    (subst (λ (xs : List ℤ). PlainSteps m.program xs (config_at m.program (record { place = place; cells = cells })) out
    (standing m.program (rest_at m.program to) made) out' r.made) input_is r.steps)))

-- what is written through a borrow of a whole list
pub written_back : {A : Type 0} (n : ℕ) (new old : List A) → length new ≡ length old → length old ≡ n → take n (new ++ drop (length new) old) ≡ new
written_back {A = A} n new old kept all =
    ap (λ (rest : List A). take n (new ++ rest)) (drop_all (length new) old (omega (arith, kept))) ∙ ap (take n) (append-nil new)
    ∙ take_all n new (omega (arith, kept, all))
