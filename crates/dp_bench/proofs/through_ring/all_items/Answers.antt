use Rattle.std.proofs.Common.{◌≡◌, sym, ap, ◌∙◌, ℕ, List, [], ◌∷◌, ◌++◌}
use Rattle.dp_ring.specs.declared.view.Standing.{Standing}
use Rattle.dp_bench.proofs.through_ring.all_items.Goals as goal

-- of two elements the second one is the last, and the first one is left
parted : {X : Type 0} (rest : List X) (last x y : X) → x ∷ y ∷ [] ≡ rest ++ last ∷ [] → (last ≡ y) × (rest ≡ x ∷ [])
parted [] last x y e = absurd (cc e)
parted (z ∷ []) last x y e = (cc e, cc e)
parted (z ∷ w ∷ []) last x y e = absurd (cc e)
parted (z ∷ w ∷ v ∷ more) last x y e = absurd (cc e)

-- of one element that one is the last
alone : {X : Type 0} (rest : List X) (last x : X) → x ∷ [] ≡ rest ++ last ∷ [] → last ≡ x
alone [] last x e = cc e
alone (z ∷ []) last x e = absurd (cc e)
alone (z ∷ w ∷ more) last x e = absurd (cc e)

pub relay-requires-after_bounds : goal.relay-requires-after_bounds
relay-requires-after_bounds g c κs within =
    let made = c.in_ok-producer.ensures in
    let first = parted c.pop.new.self c.in-Some-Some.first _ _ (sym made.workers ∙ c.in-Some-Some.ensures) in
    let spare = alone c.pop-2.new.self c.in-Some-Some.spare _ (sym first.1 ∙ c.in-Some-Some.ensures') in (
      c.requires,
      (ap (λ (s : Standing ℕ). s.view.at) made.producer, (0, ap (λ (s : Standing ℕ). s.view.key) made.producer)),
      (ap (λ (s : Standing ℕ). s.view.phase) first.0, ap (λ (s : Standing ℕ). s.view.drawn) first.0, (0, ap (λ (s : Standing ℕ). s.view.key) first.0)),
      (ap (λ (s : Standing ℕ). s.view.phase) spare, ap (λ (s : Standing ℕ). s.view.drawn) spare, (0, ap (λ (s : Standing ℕ). s.view.key) spare)),
      (ap (λ (s : Standing ℕ). s.view.at) made.consumer, (0, ap (λ (s : Standing ℕ). s.view.key) made.consumer)),
    )

pub relay-requires-else-by_two-after_bounds : goal.relay-requires-else-by_two-after_bounds
relay-requires-else-by_two-after_bounds g c κs within =
    let made = c.in_ok-producer.ensures in
    let first = parted c.pop.new.self c.in-Some-Some.first _ _ (sym made.workers ∙ c.in-Some-Some.ensures) in (
      c.requires,
      (ap (λ (s : Standing ℕ). s.view.at) made.producer, (0, ap (λ (s : Standing ℕ). s.view.key) made.producer)),
      (ap (λ (s : Standing ℕ). s.view.phase) first.0, ap (λ (s : Standing ℕ). s.view.drawn) first.0, (0, ap (λ (s : Standing ℕ). s.view.key) first.0)),
      tt,
      (ap (λ (s : Standing ℕ). s.view.at) made.consumer, (0, ap (λ (s : Standing ℕ). s.view.key) made.consumer)),
    )
