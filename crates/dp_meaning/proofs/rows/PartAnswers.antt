-- A call of `run_part` has one answer: the machine before it settles the machine after it, the prints and the end.
use Rattle.dp_meaning.proofs.Names.{◌≡◌, refl, sym, ◌∙◌, ap, subst, inl, inr, None, ℕ, ◌<◌, List, ◌∷◌, length, All, ℤ, arith, All-head, End, Config, Run, ended}
use Rattle.dp_meaning.proofs.Names.{PartEnd, MachineState, rest_of_run, PartRun, PartStops}
use Rattle.std.proofs.lemmas.Bool.{cases_order}
use Rattle.dp_meaning.specs.declared.ends.PartEnd.TheVariants.{Done, Fault, Fuel, Going}
use Rattle.dp_meaning.proofs.StopLemmas.{part_idle}
use Rattle.dp_meaning.proofs.StretchLemmas.{IsPlain}
use Rattle.dp_meaning.proofs.rows.Stretches.{further, alike, same_prints, same_but, same_machine, behind_all}

-- a run that has ended has no event
pub no_event : (r : Run) (fuel : ℕ) (c : Config) (how : End) → r ≡ ended fuel c how → 0 < length r.trace → ⊥
no_event r fuel c how e h = let none : length r.trace ≡ 0 = ap (λ (s : Run). length s.trace) e in absurd (omega (arith, h, none))

module _ (turns : ℕ) (old : MachineState) (idle : old.current ≡ None) (before : List ℤ) where
  -- no step follows
  no_step : (a : MachineState) (made : ℕ) (end : PartEnd) → PartStops turns made old a end → a.current ≡ None → IsPlain a.config → made < turns →
      0 < length (rest_of_run a).trace → ⊥
  no_step a made Done s none plain few some = s.part (part_idle a none ∙ plain)
  no_step a made (Fault fault) s none plain few some = no_event (rest_of_run a) _ a.config _ s.2.ends some
  no_step a made Fuel s none plain few some = no_event (rest_of_run a) _ a.config _ s.1.ends some
  no_step a made Going s none plain few some = let all = s.2 in absurd (omega (arith, few, all))

  no_further : (a b : MachineState) (y z : List ℤ) (end how : PartEnd) (r : PartRun turns old a before y end) (s : PartRun turns old b before z how) →
      length r.went.events < length s.went.events → ⊥
  no_further a b y z end how r s h =
      let k = further old a b before y z r.went.events s.went.events r.went.configs s.went.configs r.went.moved s.went.moved h in
      let plain = All-head IsPlain a.config k.configs (behind_all IsPlain r.went.configs (a.config ∷ k.configs)
      (subst (All IsPlain) k.configs_are s.went.plain)) in
      let w = s.within in
      no_step a (length r.went.events) end r.stops (r.went.current ∙ idle) plain (omega (arith, h, w)) k.some

  same_end : (m : MachineState) (made : ℕ) (end how : PartEnd) → PartStops turns made old m end → PartStops turns made old m how → end ≡ how
  same_end m made Done Done r s = refl
  same_end m made Done (Fault fault) r s = absurd (r.part s.0)
  same_end m made Done _ r s = absurd (r.part s.0)
  same_end m made (Fault fault) (Fault other) r s = let k = ap (λ (x : Run). x.end) (sym r.2.ends ∙ s.2.ends) in cc
  same_end m made (Fault fault) Fuel r s = let less = r.2.within in let all = s.1.spent in absurd (omega (arith, less, all))
  same_end m made (Fault fault) Going r s = let less = r.1 in let all = s.2 in absurd (omega (arith, less, all))
  same_end m made Fuel (Fault other) r s = let less = s.2.within in let all = r.1.spent in absurd (omega (arith, less, all))
  same_end m made Fuel Fuel r s = refl
  same_end m made Fuel Going r s = let less = s.1 in let all = r.1.spent in absurd (omega (arith, less, all))
  same_end m made Going (Fault other) r s = let less = s.1 in let all = r.2 in absurd (omega (arith, less, all))
  same_end m made Going Fuel r s = let less = r.1 in let all = s.1.spent in absurd (omega (arith, less, all))
  same_end m made Going Going r s = refl
  same_end m made _ Done r s = absurd (s.part r.0)

  module _ (a b : MachineState) (y z : List ℤ) (end how : PartEnd) (r : PartRun turns old a before y end) (s : PartRun turns old b before z how) where
    record OneAnswer : Type 0 where
      machine : a ≡ b
      prints : z ≡ y
      ends : end ≡ how

    as_long : length r.went.events ≡ length s.went.events → OneAnswer
    as_long e =
        let k = alike old a b before y z r.went.events s.went.events r.went.configs s.went.configs r.went.moved s.went.moved e in
        let but = same_but old a b before y z r.went.events s.went.events r.went.configs s.went.configs r.went.moved s.went.moved k in
        let same = same_machine a b but (r.went.current ∙ sym s.went.current) (r.went.spoiled ∙ sym s.went.spoiled) in
        record {
          machine = same;
          prints = same_prints old a b before y z r.went.events s.went.events r.went.configs s.went.configs r.went.moved s.went.moved k;
          ends = same_end b (length r.went.events) end how (subst (λ (m : MachineState). PartStops turns (length r.went.events) old m end) same r.stops)
              (subst (λ (n : ℕ). PartStops turns n old b how) (sym e) s.stops);
        }

    one_answer : OneAnswer
    one_answer = elim (cases_order (length r.went.events) (length s.went.events)) [
      | inl e ↦ as_long e
      | inr (inl h) ↦ absurd (no_further a b y z end how r s h)
      | inr (inr h) ↦ absurd (no_further b a z y how end s r h)
    ]
