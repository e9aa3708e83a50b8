-- Variables whose cells lie one after the other.
use Rattle.dp_semantics.proofs.Names.{◌≡◌, refl, ap, ℕ, zero, suc, ◌+◌, ◌<◌, ◌≤◌, ◌==◌, true, false, not, ◌&&◌, ◌||◌, List, [], ◌∷◌, length, length-append}
use Rattle.dp_semantics.proofs.Names.{replicate, slice_get, nat_lt, arith, ltb-true, eqb-true, ne_eqb, eq-eqb, length-replicate, list_any, VarInfo, Program}
use Rattle.dp_semantics.proofs.Names.{Plan, first_of, length_of, is_local_of, start_cells, is_local, is_local_cell, cells_in_order, and_parts, inl, inr}
use Rattle.dp_semantics.proofs.Names.{and-false, cases_Bool}
use Rattle.dp_semantics.proofs.Setting.{Laid}

-- the cell is one of the x-th variable's
abbrev VarAt : List VarInfo → ℕ → ℕ → Type 0
VarAt vars x c = (first_of (slice_get vars x) ≤ c) × (c < first_of (slice_get vars x) + length_of (slice_get vars x))

module _ (r : ℕ) where
  record Head (k : ℕ) (x : VarInfo) (rest : List VarInfo) : Type 0 where
    pub first : x.first.0 ≡ k
    pub some : 0 < x.length
    pub single : (not (is_local_of r x.scope) || (x.length == 1)) ≡ true
    pub tail : cells_in_order r (k + x.length) rest ≡ true

  head_of : (k : ℕ) (x : VarInfo) (rest : List VarInfo) → cells_in_order r k (x ∷ rest) ≡ true → Head k x rest
  head_of k x rest e =
      let both = and_parts ((x.first.0 == k) && (nat_lt 0 x.length && (not (is_local_of r x.scope) || (x.length == 1))))
      (cells_in_order r (k + x.length) rest) e in
      let a = and_parts (x.first.0 == k) (nat_lt 0 x.length && (not (is_local_of r x.scope) || (x.length == 1))) both.0 in
      let b = and_parts (nat_lt 0 x.length) (not (is_local_of r x.scope) || (x.length == 1)) a.1 in
      record { first = eqb-true x.first.0 k a.0; some = ltb-true 0 x.length b.0; single = b.1; tail = both.1 }

  lies_within : (vars : List VarInfo) (k x c : ℕ) → cells_in_order r k vars ≡ true → VarAt vars x c → (k ≤ c) × (c < k + length (start_cells vars))
  lies_within [] k x c e h = absurd (omega (arith, h.1))
  lies_within (v ∷ vars) k zero c e h =
      let a = head_of k v vars e in
      let size = length-append (replicate v.length v.start) (start_cells vars) in
      let long = length-replicate v.length v.start in
      (omega (arith, a.first, h.0), omega (arith, a.first, h.1, size, long))
  lies_within (v ∷ vars) k (suc x) c e h =
      let a = head_of k v vars e in
      let q = lies_within vars (k + v.length) x c a.tail h in
      let size = length-append (replicate v.length v.start) (start_cells vars) in
      let long = length-replicate v.length v.start in
      (omega (arith, q.0), omega (arith, q.1, size, long))

  lies_apart : (vars : List VarInfo) (k x y c : ℕ) → cells_in_order r k vars ≡ true → VarAt vars x c → VarAt vars y c → x ≡ y
  lies_apart [] k x y c e h i = absurd (omega (arith, h.1))
  lies_apart (v ∷ vars) k zero zero c e h i = refl
  lies_apart (v ∷ vars) k zero (suc y) c e h i =
      let a = head_of k v vars e in absurd (omega (arith, h.1, a.first, (lies_within vars (k + v.length) y c a.tail i).0))
  lies_apart (v ∷ vars) k (suc x) zero c e h i =
      let a = head_of k v vars e in absurd (omega (arith, i.1, a.first, (lies_within vars (k + v.length) x c a.tail h).0))
  lies_apart (v ∷ vars) k (suc x) (suc y) c e h i = let a = head_of k v vars e in ap (λ (n : ℕ). suc n) (lies_apart vars (k + v.length) x y c a.tail h i)

  none_below : (vars : List VarInfo) (k c : ℕ) → cells_in_order r k vars ≡ true → c < k → list_any (is_local_cell r c) vars ≡ false
  none_below [] k c e h = refl
  none_below (v ∷ vars) k c e h =
      let a = head_of k v vars e in
      rw (ne_eqb v.first.0 c (λ q. omega (arith, q, a.first, h)), and-false (is_local_of r v.scope))
      (none_below vars (k + v.length) c a.tail (omega (arith, h)))

  lies_local : (vars : List VarInfo) (k x c : ℕ) → cells_in_order r k vars ≡ true → VarAt vars x c →
      list_any (is_local_cell r c) vars ≡ is_local r (slice_get vars x)
  lies_local [] k x c e h = absurd (omega (arith, h.1))
  lies_local (v ∷ vars) k zero c e h =
      let a = head_of k v vars e in
      let none = none_below vars (k + v.length) c a.tail (omega (arith, h.1, a.first)) in
      elim (cases_Bool (is_local_of r v.scope)) [
        | inl l ↦ let one : v.length ≡ 1 = eqb-true v.length 1 (rw l at a.single) in rw (l, eq-eqb v.first.0 c (omega (arith, h.0, h.1, one)))
        | inr l ↦ rw l none
      ]
  lies_local (v ∷ vars) k (suc x) c e h =
      let a = head_of k v vars e in
      rw (ne_eqb v.first.0 c (λ q. omega (arith, q, a.first, a.some, (lies_within vars (k + v.length) x c a.tail h).0)), and-false (is_local_of r v.scope))
      (lies_local vars (k + v.length) x c a.tail h)

pub laid_of : (p : Program) (plan : Plan) → cells_in_order plan.region 0 p.vars ≡ true → Laid p plan
laid_of p plan e = record {
  within = λ x c h. omega (arith, (lies_within plan.region p.vars 0 x c e h).1);
  apart = λ x y c h i. lies_apart plan.region p.vars 0 x y c e h i;
  local = λ x c h. lies_local plan.region p.vars 0 x c e h;
}
