-- Where the search has closed all nodes, the leaders that it found are those of the units.
use Rattle.std.proofs.Common.{◌≡◌, inl, inr, refl, sym, subst, ◌∙◌, ap, arith, ℕ, ◌<◌, ◌≤◌, ◌+◌, List, [], ◌∷◌, ◌++◌, length, Option, Some, None, slice_get}
use Rattle.std.proofs.Common.{slice_index, Result, Ok, Err, IfOk}
use Rattle.std.proofs.lemmas.Bool.{cases_eq}
use Rattle.std.proofs.lemmas.List.{get_or_push, get_or_append_left}
use Rattle.dp_units.specs.steps.Entries.{At}
use Rattle.dp_units.specs.declared.mark.Mark.{Mark}
use Rattle.dp_units.specs.declared.mark.Mark.TheVariants.{Unseen, OnPath, Closed}
use Rattle.dp_units.specs.Graph.{Walk, AreWithin}
use Rattle.dp_units.specs.Graph.Walk.{stay, along}
use Rattle.dp_units.specs.steps.Search.{IsSearch, IsUnseen}
use Rattle.dp_units.specs.steps.Leaders.{AreLeaders}
use Rattle.dp_units.proofs.AtLemmas.{at_within, at_one, at_none, some_at}
use Rattle.dp_units.proofs.EnterLemmas.{same_unit}
use Rattle.dp_units.proofs.TakeLemmas.{edge_within}

abbrev number_of : Option Mark → ℕ
number_of None = 0
number_of (Some Unseen) = 0
number_of (Some (OnPath i)) = 0
number_of (Some (Closed c)) = c

module _ (n : ℕ) (edges : List (ℕ × ℕ)) (within : AreWithin n edges) (ms : List Mark) (bs : List ℕ) (ws : List (ℕ × ℕ)) (ls : List ℕ)
    (is : IsSearch n edges ms [] bs ws ls) (met : (v : ℕ) → v < n → IsUnseen ms v → ⊥) where
  pub closed_at : (v : ℕ) → v < n → (c : ℕ) × At ms v (Closed c)
  closed_at v h = let at = some_at ms v (subst (λ k. v < k) (sym is.each) h) in by at.0 at.1
    where
      by : (m : Mark) → At ms v m → (c : ℕ) × At ms v (Closed c)
      by Unseen at = absurd (met v h at)
      by (OnPath i) at = absurd (at_none i v (is.placed v i at))
      by (Closed c) at = (c, at)

  on_walk : {a b : ℕ} → Walk edges a b → (c : ℕ) → At ms a (Closed c) → (d : ℕ) × At ms b (Closed d) × (d ≤ c)
  on_walk stay c at = (c, at, omega arith)
  on_walk (along {between = m} {to = t} before edge) c at =
      let (d, at_m, low) = on_walk before c at in
      let (e, at_t, lower) = is.closed d m t at_m edge in
      (e, at_t, omega (arith, low, lower))

  module _ (leader_of : List ℕ) (long : length leader_of ≡ n) (made : (v c l : ℕ) → At ms v (Closed c) → At ls c l → slice_index leader_of v ≡ l) where
    abbrev rank : ℕ → ℕ
    rank v = number_of (slice_get ms v)

    lead_at : (v c : ℕ) → At ms v (Closed c) → At ls c (slice_index leader_of v) × (slice_index leader_of v ≤ v)
    lead_at v c at =
        let (l, there, low) = is.led c v at in
        let e : slice_index leader_of v ≡ l = made v c l at there in
        (subst (λ k. At ls c k) (sym e) there, subst (λ k. k ≤ v) (sym e) low)

    rank_at : (v c : ℕ) → At ms v (Closed c) → rank (slice_index leader_of v) ≡ c
    rank_at v c at = let there = lead_at v c at in ap number_of (is.leads c (slice_index leader_of v) there.0)

    pub are_leaders : AreLeaders n edges leader_of
    are_leaders = record {
      each = long;
      least = λ v h. let (c, at) = closed_at v h in (lead_at v c at).1;
      same = λ v h.
          let (c, at) = closed_at v h in
          let led = is.leads c (slice_index leader_of v) (lead_at v c at).0 in
          (is.unit c (slice_index leader_of v) v led at, is.unit c v (slice_index leader_of v) at led);
      one = λ a b ha hb round.
          let (c, at_a) = closed_at a ha in
          let (d, at_b, low) = on_walk round.0 c at_a in
          let (e, at_a', lower) = on_walk round.1 d at_b in
          let same : e ≡ c = same_unit e c (at_one ms a (Closed e) (Closed c) at_a' at_a) in
          let equal : d ≡ c = omega (arith, low, lower, same) in
          let there = (lead_at a c at_a).0 in
          at_one ls c (slice_index leader_of a) (slice_index leader_of b) there (subst (λ k. At ls k (slice_index leader_of b)) equal (lead_at b d at_b).0);
      rank = rank;
      highest = length ls;
      bound = λ v h.
          let (c, at) = closed_at v h in
          let there = (lead_at v c at).0 in
          let r = rank_at v c at in
          let low = at_within ls c (slice_index leader_of v) there in
          omega (arith, r, low);
      falls = λ a b edge.
          let (in_a, in_b) = edge_within n edges within a b edge in
          let (c, at_a) = closed_at a in_a in
          let (d, at_b, low) = is.closed c a b at_a edge in
          let ra = rank_at a c at_a in
          let rb = rank_at b d at_b in
          elim (cases_eq d c) [
            | inl equal ↦
                let there = (lead_at a c at_a).0 in
                inl (at_one ls c (slice_index leader_of a) (slice_index leader_of b) there (subst (λ k. At ls k (slice_index leader_of b)) equal
                (lead_at b d at_b).0))
            | inr ne ↦ inr (omega (arith, ra, rb, low, ne))
          ];
    }

-- where the search has closed all nodes, each mark says so
pub all_closed : (n : ℕ) (edges : List (ℕ × ℕ)) (within : AreWithin n edges) (ms : List Mark) (path bs : List ℕ) (ws : List (ℕ × ℕ)) (ls : List ℕ) →
    IsSearch n edges ms path bs ws ls → path ≡ [] →
    ((v : ℕ) → v < n → IsUnseen ms v → ⊥) → (v : ℕ) (m : Mark) → At ms v m → (c : ℕ) × (m ≡ Closed c) × (c < length ls)
all_closed n edges within ms path bs ws ls is none met v m at = by m at
  where
    by : (m : Mark) → At ms v m → (c : ℕ) × (m ≡ Closed c) × (c < length ls)
    by Unseen at = let h = at_within ms v Unseen at in absurd (met v (subst (λ k. v < k) is.each h) at)
    by (OnPath i) at = absurd (at_none i v (subst (λ (xs : List ℕ). At xs i v) none (is.placed v i at)))
    by (Closed c) at = let led = is.led c v at in (c, refl, at_within ls c led.0 led.1)

pub leaders_are : (n : ℕ) (edges : List (ℕ × ℕ)) (within : AreWithin n edges) (ms : List Mark) (path bs : List ℕ) (ws : List (ℕ × ℕ)) (ls : List ℕ) →
    IsSearch n edges ms path bs ws ls → path ≡ [] →
    ((v : ℕ) → v < n → IsUnseen ms v → ⊥) → (leader_of : List ℕ) → length leader_of ≡ length ms → ((v c l : ℕ) → At ms v (Closed c) → At ls c l →
    slice_index leader_of v ≡ l) → AreLeaders n edges leader_of
leaders_are n edges within ms path bs ws ls is none met leader_of long made =
    are_leaders n edges within ms bs ws ls (subst (λ (xs : List ℕ). IsSearch n edges ms xs bs ws ls) none is) met leader_of (long ∙ is.each) made

-- one node more has its leader
pub leader_more : (ms : List Mark) (ls leader_of : List ℕ) (i leader : ℕ) (mark : Mark) → length leader_of ≡ i → At ms i mark →
    ((c : ℕ) → mark ≡ Closed c → At ls c leader) →
    ((v c l : ℕ) → v < i → At ms v (Closed c) → At ls c l → slice_index leader_of v ≡ l) →
    (v c l : ℕ) → v < i + 1 → At ms v (Closed c) → At ls c l → slice_index (leader_of ++ leader ∷ []) v ≡ l
leader_more ms ls leader_of i leader mark long at is before v c l h closed there = elim (cases_eq v i) [
  | inl same ↦
      let e : mark ≡ Closed c = at_one ms i mark (Closed c) at (subst (λ k. At ms k (Closed c)) same closed) in
      get_or_push leader_of leader 0 v (long ∙ sym same) ∙ at_one ls c leader l (is c e) there
  | inr ne ↦ get_or_append_left leader_of (leader ∷ []) 0 v (omega (arith, h, ne, long)) ∙ before v c l (omega (arith, h, ne)) closed there
]

pub if_ok_both : {X Y : Type 0} {P Q R : X → Type 0} (r : Result X Y) → ((x : X) → P x → Q x → R x) → IfOk r P → IfOk r Q → IfOk r R
if_ok_both (Ok x) f p q = f x p q
if_ok_both (Err e) f p q = p
