-- What stands on the path reaches what.
use Rattle.std.proofs.Common.{◌≡◌, ◌≢◌, inl, inr, sym, subst, arith, ℕ, zero, suc, ◌≤◌, ◌+◌, List, [], ◌∷◌, ◌++◌, length}
use Rattle.std.proofs.lemmas.Bool.{cases_lt, cases_eq}
use Rattle.std.proofs.lemmas.List.{length_push}
use Rattle.dp_units.specs.steps.Entries.{At, Has, Rises}
use Rattle.dp_units.specs.Graph.{Walk, HasEdge}
use Rattle.dp_units.specs.Graph.Walk.{stay, along}
use Rattle.dp_units.specs.steps.Search.{IsPath}
use Rattle.dp_units.proofs.AtLemmas.{at_within, at_push, at_last, has_kept, some_at}

pub walk_on : (edges : List (ℕ × ℕ)) {a b c : ℕ} → Walk edges a b → Walk edges b c → Walk edges a c
walk_on edges first stay = first
walk_on edges first (along {between = m} {to = t} before edge) = along (walk_on edges first before) edge

module _ (edges : List (ℕ × ℕ)) (path bottoms : List ℕ) (is : IsPath edges path bottoms) where
  -- within the last group each node reaches the earlier ones
  pub down : (t : ℕ) → ((b : ℕ) → Has bottoms b → b ≤ t) → (i j a b : ℕ) → t ≤ j → j ≤ i → At path i a → At path j b → Walk edges a b
  down t top i j a b low h ati atj = elim (cases_eq i j) [ inl same ↦ is.onward i j a b (omega (arith, same)) ati atj | inr other ↦ step i other h ati ]
    where
      step : (i : ℕ) → i ≢ j → j ≤ i → At path i a → Walk edges a b
      step i other h ati = from i (omega (arith, other, h)) a ati
        where
          from : (i : ℕ) → j ≤ i → (a : ℕ) → At path i a → Walk edges a b
          from zero h a ati = is.onward zero j a b (omega (arith, h)) ati atj
          from (suc i) h a ati = elim (cases_eq (suc i) j) [
            | inl same ↦ is.onward (suc i) j a b (omega (arith, same)) ati atj
            | inr ne ↦
                let before = some_at path i (let w = at_within path (suc i) a ati in omega (arith, w)) in
                let e : suc i ≡ i + 1 = omega arith in
                elim (is.back i a before.0 (subst (λ k. At path k a) e ati) before.1) [
                  | inl bottom ↦ let lower = top (i + 1) bottom in absurd (omega (arith, lower, low, h, ne))
                  | inr walk ↦ walk_on edges walk (from i (omega (arith, h, ne)) before.0 before.1)
                ]
          ]

  -- each node of the path reaches each of the last group
  pub to_last : (t : ℕ) → ((b : ℕ) → Has bottoms b → b ≤ t) → (i p a b : ℕ) → t ≤ p → At path i a → At path p b → Walk edges a b
  to_last t top i p a b low ati atp = elim (cases_lt p i) [
    | inl below ↦ down t top i p a b low (omega (arith, below)) ati atp
    | inr above ↦ is.onward i p a b above ati atp
  ]

  -- a new node behind the path, which each of its nodes reaches
  pub longer : (v : ℕ) → ((i a : ℕ) → At path i a → Walk edges a v) → IsPath edges (path ++ v ∷ []) (bottoms ++ length path ∷ [])
  longer v reach = record {
    onward = λ i j a b h ati atj. elim (at_push path v j b atj) [
      | inl old ↦ elim (at_push path v i a ati) [
        | inl was ↦ is.onward i j a b h was old
        | inr new ↦ let w = at_within path j b old in absurd (omega (arith, w, h, new.0))
      ]
      | inr new ↦ subst (λ x. Walk edges a x) (sym new.1) (elim (at_push path v i a ati) [
        | inl was ↦ reach i a was
        | inr also ↦ subst (λ x. Walk edges x v) (sym also.1) stay
      ])
    ];
    back = λ i a b ati atb. elim (at_push path v (i + 1) a ati) [
      | inl old ↦ elim (at_push path v i b atb) [
        | inl was ↦ elim (is.back i a b old was) [ inl bottom ↦ inl (has_kept bottoms (length path ∷ []) (i + 1) bottom) | inr walk ↦ inr walk ]
        | inr new ↦ let w = at_within path (i + 1) a old in absurd (omega (arith, w, new.0))
      ]
      | inr new ↦ inl (length bottoms, subst (λ k. At (bottoms ++ length path ∷ []) (length bottoms) k) (sym new.0) (at_last bottoms (length path)))
    ];
    rising = λ i j a b h ati atj. elim (at_push bottoms (length path) j b atj) [
      | inl old ↦ elim (at_push bottoms (length path) i a ati) [
        | inl was ↦ is.rising i j a b h was old
        | inr new ↦ let w = at_within bottoms j b old in absurd (omega (arith, w, h, new.0))
      ]
      | inr new ↦ elim (at_push bottoms (length path) i a ati) [
        | inl was ↦ let low = is.low a (i, was) in omega (arith, low, new.1)
        | inr also ↦ absurd (omega (arith, h, new.0, also.0))
      ]
    ];
    low = λ b (k, atk). elim (at_push bottoms (length path) k b atk) [
      | inl old ↦ let low = is.low b (k, old) in let l = length_push path v in omega (arith, low, l)
      | inr new ↦ let l = length_push path v in omega (arith, new.1, l)
    ];
    first = λ h. elim (cases_eq (length path) 0) [
      | inl none ↦ (length bottoms, subst (λ k. At (bottoms ++ length path ∷ []) (length bottoms) k) none (at_last bottoms (length path)))
      | inr some ↦ has_kept bottoms (length path ∷ []) 0 (is.first (omega (arith, some)))
    ];
  }

  -- an edge from the last group down to place j makes one group of all above it
  pub joined : (t : ℕ) → ((b : ℕ) → Has bottoms b → b ≤ t) → (p j u w : ℕ) → t ≤ p → At path p u → At path j w → HasEdge edges u w →
      (kept : List ℕ) → Rises kept → ((b : ℕ) → Has kept b → Has bottoms b) → ((b : ℕ) → Has bottoms b → b ≤ j → Has kept b) → IsPath edges path kept
  joined t top p j u w low atp atj edge kept rises old lower = record {
    onward = is.onward;
    back = λ i a b ati atb. elim (is.back i a b ati atb) [
      | inr walk ↦ inr walk
      | inl bottom ↦ elim (cases_lt j (i + 1)) [
        | inr above ↦ inl (lower (i + 1) bottom above)
        | inl below ↦
            let high = top (i + 1) bottom in
            inr (walk_on edges (along (is.onward (i + 1) p a u (omega (arith, high, low)) ati atp) edge) (is.onward j i w b (omega (arith, below)) atj atb))
      ]
    ];
    rising = rises;
    low = λ b has. is.low b (old b has);
    first = λ h. lower 0 (is.first h) (omega arith);
  }
