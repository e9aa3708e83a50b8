-- The changes of an iteration, where body locals read 0 before and behind it.
use Rattle.std.proofs.Common.{◌≡◌, refl, sym, ap, ap₂, ◌∙◌, inl, inr, ℕ, suc, ◌+◌, Bool, true, false, not, ◌&&◌, if◌then◌else◌, List, [], ◌∷◌, ◌++◌, ℤ, pos}
use Rattle.std.proofs.Common.{filter, map, length, get_or, arith}
use Rattle.std.specs.Ordering.{int_eq}
use Rattle.std.specs.List.{flat_map}
use Rattle.std.proofs.lemmas.Bool.{cases_Bool}
use Rattle.std.proofs.lemmas.Grind.{flat_map-append}
use Rattle.dp_tree.specs.declared.Program.{Program}
use Rattle.dp_tree.specs.Numbering.{numbers_from}
use Rattle.dp_tree.specs.Trace.{Run}
use Rattle.dp_tree.specs.Step.{clear_locals}
use Rattle.dp_tree.proofs.InMain.{cleared_length}
use Rattle.dp_tree.proofs.NumberLists.{numbers_from-append}
use Rattle.dp_plan.specs.declared.Plan.{Plan}
use Rattle.dp_semantics.specs.Seen.{is_local_at}
use Rattle.dp_theorem.proofs.Memory.{clear-at, clear-other}
use Rattle.dp_log.specs.declared.SetOf.{SetOf}
use Rattle.dp_log.specs.Changes.{changes_between, has_changed, set_from}
use Rattle.dp_log.specs.LogText.{iteration_bytes, iterations_bytes}
use Rattle.dp_view.specs.Changed.{Cleared, differs}
use Rattle.dp_auditor.specs.Gathered.{sets_between}

-- where two memories hold the same at each cell that passes, and the same ones pass, the sets are the same
sets_same : (before after held : List ℤ) (test : ℕ → Bool) (ns : List ℕ) → ((c : ℕ) → differs before after c ≡ test c) →
    ((c : ℕ) → test c ≡ true → get_or after c (pos 0) ≡ get_or held c (pos 0)) →
    map (set_from after) (filter (differs before after) ns) ≡ map (set_from held) (filter test ns)
sets_same before after held test [] h k = refl
sets_same before after held test (c ∷ ns) h k =
    ap (λ (b : Bool). map (set_from after) (if b then c ∷ filter (differs before after) ns else filter (differs before after) ns)) (h c)
    ∙ by (test c) (k c) (sets_same before after held test ns h k)
  where
    by : (b : Bool) → (b ≡ true → get_or after c (pos 0) ≡ get_or held c (pos 0)) → map (set_from after) (filter (differs before after) ns) ≡ map
        (set_from held) (filter test ns) →
        map (set_from after) (if b then c ∷ filter (differs before after) ns else filter (differs before after) ns) ≡ map (set_from held)
        (if b then c ∷ filter test ns else filter test ns)
    by true same later = ap₂ (λ (z : ℤ) (xs : List SetOf). record { cell = record { 0 = c }; value = z } ∷ xs) (same refl) later
    by false same later = later

module _ (p : Program) (plan : Plan) (before held : List ℤ) (clean : Cleared p plan before) where
  abbrev after : List ℤ
  after = clear_locals plan.region p.vars held

  passes_same : (c : ℕ) → differs before (clear_locals plan.region p.vars held) c ≡ has_changed p plan before held c
  passes_same c = elim (cases_Bool (is_local_at p plan c)) [
    | inl local ↦ ap₂ (λ (y z : ℤ). not (int_eq y z)) (clean c local) (clear-at plan.region c p.vars held (inl local))
        ∙ sym (ap (λ (b : Bool). not b && not (int_eq (get_or before c (pos 0)) (get_or held c (pos 0)))) local)
    | inr other ↦ ap (λ (z : ℤ). not (int_eq (get_or before c (pos 0)) z)) (clear-other plan.region c p.vars held other)
        ∙ sym (ap (λ (b : Bool). not b && not (int_eq (get_or before c (pos 0)) (get_or held c (pos 0)))) other)
  ]

  held_same : (c : ℕ) → has_changed p plan before held c ≡ true → get_or (clear_locals plan.region p.vars held) c (pos 0) ≡ get_or held c (pos 0)
  held_same c e = elim (cases_Bool (is_local_at p plan c)) [
    | inl local ↦ (let clash : false ≡ true = sym (ap (λ (b : Bool). not b && not (int_eq (get_or before c (pos 0)) (get_or held c (pos 0))))
        local) ∙ e in absurd (cc clash))
    | inr other ↦ clear-other plan.region c p.vars held other
  ]

  -- Of a memory with the body locals cleared the sets are the changes.
  pub changes_are : sets_between before (clear_locals plan.region p.vars held) ≡ changes_between p plan before held
  changes_are =
      ap (λ (n : ℕ). map (set_from after) (filter (differs before after) (numbers_from 0 n))) (cleared_length plan.region p.vars held)
      ∙ sets_same before after held (has_changed p plan before held) (numbers_from 0 (length held)) passes_same held_same

-- ---- the lines of iterations

module _ (p : Program) (plan : Plan) (run : Run) where
  pub lines_join : (i n : ℕ) → iterations_bytes p plan run 0 (i + n) ≡ iterations_bytes p plan run 0 i ++ iterations_bytes p plan run i n
  lines_join i n =
      let from : 0 + i ≡ i = omega arith in
      ap (flat_map (iteration_bytes p plan run)) (numbers_from-append 0 i n ∙ ap (λ (k : ℕ). numbers_from 0 i ++ numbers_from k n) from)
      ∙ flat_map-append (iteration_bytes p plan run) (numbers_from 0 i) (numbers_from i n)

  -- the lines up to and with those of iteration i, and what comes behind them
  pub lines_first : (i n : ℕ) → iterations_bytes p plan run 0 (i + suc n) ≡ iterations_bytes p plan run 0 i
      ++ (iteration_bytes p plan run i ++ iterations_bytes p plan run (i + 1) n)
  lines_first i n = lines_join i (suc n)
