-- The locals of regions' bodies: which of them read 0, and what stores to others leave so.
use Rattle.std.proofs.Common.{◌≡◌, inl, inr, refl, sym, ap, ◌∙◌, subst, ℕ, zero, suc, ◌+◌, ◌<◌, ◌≤◌, ◌==◌, Bool, true, false, ◌&&◌, ◌||◌, List, [], ◌∷◌, ℤ, pos}
use Rattle.std.proofs.Common.{length, get_or, Some, slice_get, slice_set, nat_lt, get_or-set_other, arith, eqb-true, eq-eqb, ltb-true}
use Rattle.std.specs.List.{list_any}
use Rattle.std.proofs.lemmas.Bool.{and_parts, both_ways, cases_Bool, cases_eq, cases_lt, or_right}
use Rattle.std.proofs.lemmas.Grind.{get_or-set_at}
use Rattle.std.proofs.lemmas.List.{get_or_past, length-set}
use Rattle.std.proofs.lemmas.Option.{same_Some}
use Rattle.dp_tree.specs.declared.VarInfo.{VarInfo}
use Rattle.dp_tree.specs.declared.VarScope.{VarScope}
use Rattle.dp_tree.specs.declared.VarScope.TheVariants.{Global, Outer, Body}
use Rattle.dp_tree.specs.Globals.{is_global_scope}
use Rattle.dp_tree.specs.Layout.{has_cells, lies_in_order}
use Rattle.dp_tree.specs.Step.{clear_locals, is_local_of}
use Rattle.dp_semantics.specs.Seen.{is_local_cell}
use Rattle.dp_theorem.proofs.Memory.{clear-at}
use Rattle.dp_calls.specs.AtHome.{is_home}
use Rattle.dp_save.specs.Fits.{is_body_scope}

-- ---- where variables lie

-- the first variable lies at k and has a cell, and the others lie behind it
pub lying : (k : ℕ) (x : VarInfo) (xs : List VarInfo) → lies_in_order k (x ∷ xs) ≡ true → (x.first.0 ≡ k) × (0 < x.length)
    × (lies_in_order (k + x.length) xs ≡ true)
lying k x xs h =
    let both = and_parts ((x.first.0 == k) && has_cells x) (lies_in_order (k + x.length) xs) h in
    let here = and_parts (x.first.0 == k) (has_cells x) both.0 in
    let cells = and_parts (nat_lt 0 x.length) (is_global_scope x.scope || (x.length == 1)) here.1 in
    (eqb-true x.first.0 k here.0, ltb-true 0 x.length cells.0, both.1)

pub from_here : (k : ℕ) (vars : List VarInfo) → lies_in_order k vars ≡ true → (i : ℕ) (x : VarInfo) → slice_get vars i ≡ Some x →
    (k ≤ x.first.0) × (0 < x.length)
from_here k [] lies i x at = absurd (cc at)
from_here k (y ∷ vars) lies zero x at =
    let l = lying k y vars lies in let same : y ≡ x = same_Some y x at in
    subst (λ (v : VarInfo). (k ≤ v.first.0) × (0 < v.length)) same (let low : k ≤ y.first.0 = omega (arith, l.0) in (low, l.1))
from_here k (y ∷ vars) lies (suc i) x at =
    let l = lying k y vars lies in let later = from_here (k + y.length) vars l.2 i x at in
    let low : k ≤ x.first.0 = omega (arith, later.0) in (low, later.1)

-- an earlier variable's cells come before those of a later one
earlier : (k : ℕ) (vars : List VarInfo) → lies_in_order k vars ≡ true → (i j : ℕ) (x y : VarInfo) → slice_get vars i ≡ Some x → slice_get vars j ≡ Some y →
    i < j → x.first.0 + x.length ≤ y.first.0
earlier k [] lies i j x y at there less = absurd (cc at)
earlier k (v ∷ vars) lies i zero x y at there less = absurd (omega (arith, less))
earlier k (v ∷ vars) lies zero (suc j) x y at there less =
    let l = lying k v vars lies in let same : v ≡ x = same_Some v x at in let behind = from_here (k + v.length) vars l.2 j y there in
    subst (λ (u : VarInfo). u.first.0 + u.length ≤ y.first.0) same (omega (arith, l.0, behind.0))
earlier k (v ∷ vars) lies (suc i) (suc j) x y at there less =
    let l = lying k v vars lies in earlier (k + v.length) vars l.2 i j x y at there (omega (arith, less))

-- ---- locals that read 0

-- those of all regions but r
abbrev pub ClearBut : ℕ → List VarInfo → List ℤ → Type 0
ClearBut r vars cells = (i : ℕ) (x : VarInfo) → slice_get vars i ≡ Some x → is_body_scope x.scope ≡ true → is_local_of r x.scope ≡ false →
    get_or cells x.first.0 (pos 0) ≡ pos 0

-- those of all regions
abbrev pub AllClear : List VarInfo → List ℤ → Type 0
AllClear vars cells = (i : ℕ) (x : VarInfo) → slice_get vars i ≡ Some x → is_body_scope x.scope ≡ true → get_or cells x.first.0 (pos 0) ≡ pos 0

pub all_but : (r : ℕ) (vars : List VarInfo) (cells : List ℤ) → AllClear vars cells → ClearBut r vars cells
all_but r vars cells h i x at body other = h i x at body

-- a region's own are cleared
pub then_all : (r : ℕ) (vars : List VarInfo) (cells : List ℤ) → ClearBut r vars cells → AllClear vars (clear_locals r vars cells)
then_all r vars cells h i x at body = elim (cases_Bool (is_local_of r x.scope)) [
  | inl own ↦ clear-at r x.first.0 vars cells (inl (among r x vars i at own))
  | inr other ↦ clear-at r x.first.0 vars cells (inr (h i x at body other))
]
  where
    among : (r : ℕ) (x : VarInfo) (vars : List VarInfo) (i : ℕ) → slice_get vars i ≡ Some x → is_local_of r x.scope ≡ true →
        list_any (is_local_cell r x.first.0) vars ≡ true
    among r x [] i at own = absurd (cc at)
    among r x (y ∷ vars) zero at own =
        let same : y ≡ x = same_Some y x at in
        ap (λ (v : VarInfo). is_local_cell r x.first.0 v || list_any (is_local_cell r x.first.0) vars) same
        ∙ ap (λ (b : Bool). (b && (x.first.0 == x.first.0)) || list_any (is_local_cell r x.first.0) vars) own
        ∙ ap (λ (b : Bool). b || list_any (is_local_cell r x.first.0) vars) (eq-eqb x.first.0 x.first.0 refl)
    among r x (y ∷ vars) (suc i) at own = or_right (is_local_cell r x.first.0 y) (list_any (is_local_cell r x.first.0) vars) (among r x vars i at own)

-- ---- stores

-- the cell is none of a local of another region than r
abbrev pub IsHomeCell : ℕ → List VarInfo → ℕ → Type 0
IsHomeCell r vars c = (i : ℕ) (x : VarInfo) → slice_get vars i ≡ Some x → is_body_scope x.scope ≡ true → is_local_of r x.scope ≡ false → x.first.0 ≡ c → ⊥

pub home_stored : (r : ℕ) (vars : List VarInfo) (cells : List ℤ) (c : ℕ) (z : ℤ) → IsHomeCell r vars c → ClearBut r vars cells →
    ClearBut r vars (slice_set cells c z)
home_stored r vars cells c z home h i x at body other = get_or-set_other cells c x.first.0 z (pos 0) (home i x at body other) ∙ h i x at body other

zero_kept : (cells : List ℤ) (c d : ℕ) → get_or cells d (pos 0) ≡ pos 0 → get_or (slice_set cells c (pos 0)) d (pos 0) ≡ pos 0
zero_kept cells c d h = elim (cases_eq d c) [
  | inl same ↦ elim (cases_lt c (length cells)) [
    | inl within ↦ get_or-set_at cells c d (pos 0) (pos 0) same within
    | inr past ↦ get_or_past (slice_set cells c (pos 0)) d (pos 0) (omega (arith, past, same, length-set cells c (pos 0)))
  ]
  | inr other ↦ get_or-set_other cells c d (pos 0) (pos 0) other ∙ h
]

pub zeroed_clear : (r : ℕ) (vars : List VarInfo) (cells : List ℤ) (c : ℕ) → ClearBut r vars cells → ClearBut r vars (slice_set cells c (pos 0))
zeroed_clear r vars cells c h i x at body other = zero_kept cells c x.first.0 (h i x at body other)

pub zeroed_all : (vars : List VarInfo) (cells : List ℤ) (c : ℕ) → AllClear vars cells → AllClear vars (slice_set cells c (pos 0))
zeroed_all vars cells c h i x at body = zero_kept cells c x.first.0 (h i x at body)

home_local : (r : ℕ) (scope : VarScope) → is_home r scope ≡ true → is_body_scope scope ≡ true → is_local_of r scope ≡ true
home_local r Global home body = absurd (cc body)
home_local r Outer home body = absurd (cc body)
home_local r (Body q) home body = home

-- a cell of a variable that is at home
pub home_cell : (r : ℕ) (vars : List VarInfo) → lies_in_order 0 vars ≡ true → (j : ℕ) (w : VarInfo) (k c : ℕ) → slice_get vars j ≡ Some w →
    is_home r w.scope ≡ true → k < w.length → c ≡ w.first.0 + k → IsHomeCell r vars c
home_cell r vars lies j w k c there home less is i x at body other same = elim (cases_eq i j) [
  | inl one ↦
      let entry : w ≡ x = same_Some w x (sym there ∙ ap (slice_get vars) (sym one) ∙ at) in
      both_ways (is_local_of r x.scope) other (home_local r x.scope (ap (λ (v : VarInfo). is_home r v.scope) (sym entry) ∙ home) body)
  | inr two ↦ elim (cases_lt i j) [
    | inl before ↦ let e = earlier 0 vars lies i j x w at there before in let some = (from_here 0 vars lies i x at).1 in omega (arith, e, some, is, same)
    | inr behind ↦ let after : j < i = omega (arith, behind, two) in let e = earlier 0 vars lies j i w x there at after in omega (arith, e, less, is, same)
  ]
]
