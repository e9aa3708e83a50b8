use Rattle.std.proofs.Common.{◌≡◌, sym, ap, ◌∙◌, rules, ℕ, List, [], ◌∷◌, ◌++◌}
use Rattle.dp_ring.specs.declared.view.Standing.{Standing}
use Rattle.dp_ring.specs.Tested.{IsFirst, IsIdle}
use Rattle.dp_parts.proofs.tests.relay.relay.Goals as goal

-- of two elements the second one is the last, and the first one is left
parted : {X : Type 0} (rest : List X) (last x y : X) → x ∷ y ∷ [] ≡ rest ++ last ∷ [] → (last ≡ y) × (rest ≡ x ∷ [])
parted [] last x y e = absurd (cc e)
parted (z ∷ []) last x y e = (cc e, cc e)
parted (z ∷ w ∷ []) last x y e = absurd (cc e)
parted (z ∷ w ∷ v ∷ more) last x y e = absurd (cc e)

-- of one element that one is the last
alone : {X : Type 0} (rest : List X) (last x : X) → x ∷ [] ≡ rest ++ last ∷ [] → last ≡ x
alone [] last x e = cc e
alone (z ∷ []) last x e = absurd (cc e)
alone (z ∷ w ∷ more) last x e = absurd (cc e)

pub join-is_ordered-requires-after_bounds : goal.join-is_ordered-requires-after_bounds
join-is_ordered-requires-after_bounds g c κs within =
    let made = c.in_ok-producer.ensures in
    let one = parted c.pop.new.self c.in-Some-Some.first _ _ (sym made.workers ∙ c.in-Some-Some.ensures) in
    let two = alone c.pop-2.new.self c.in-Some-Some.second _ (sym one.1 ∙ c.in-Some-Some.ensures') in
    let producer : IsFirst c.in_ok-producer.producer =
    (ap (λ (s : Standing ℕ). s.view.at) made.producer, (0, ap (λ (s : Standing ℕ). s.view.key) made.producer)) in
    let first : IsIdle c.in-Some-Some.first =
    (ap (λ (s : Standing ℕ). s.view.phase) one.0, ap (λ (s : Standing ℕ). s.view.drawn) one.0, (0, ap (λ (s : Standing ℕ). s.view.key) one.0)) in
    let second : IsIdle c.in-Some-Some.second =
    (ap (λ (s : Standing ℕ). s.view.phase) two, ap (λ (s : Standing ℕ). s.view.drawn) two, (0, ap (λ (s : Standing ℕ). s.view.key) two)) in
    let consumer : IsFirst c.in_ok-producer.consumer =
    (ap (λ (s : Standing ℕ). s.view.at) made.consumer, (0, ap (λ (s : Standing ℕ). s.view.key) made.consumer)) in
    (producer, ((first, second, consumer), search rules))
