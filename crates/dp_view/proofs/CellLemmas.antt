-- Memories whose cells are copied, cleared and marked.
use Rattle.dp_semantics.proofs.Names.{◌≡◌, ◌⊎◌, inl, inr, refl, sym, ap, ◌∙◌, arith, ℕ, ◌≤◌, ◌==◌, ◌&&◌, ◌||◌, if◌then◌else◌, not, Bool, true, false, List, []}
use Rattle.dp_semantics.proofs.Names.{◌∷◌, ◌++◌, ℤ, pos, length, get_or, slice_set, nat_lt, eq-eqb, ne_eqb, cases_Bool, cases_eq, cases_lt, or_parts, both_ways}
use Rattle.dp_semantics.proofs.Names.{lt-ltb, length-set, get_or_past, get_or-set_other, get_or-set_at, list_any, list_any-append, VarInfo, is_local_of}
use Rattle.dp_semantics.proofs.Names.{clear_locals}
use Rattle.std.proofs.lemmas.List.{ext_get_or}
use Rattle.dp_plan.specs.Written.{has}
use Rattle.dp_semantics.specs.Seen.{is_local_cell}
use Rattle.dp_view.specs.Marked.{Marked, with_mark}
use Rattle.dp_view.specs.Memories.{copied, cleared_cells, local_numbers}

pub has_parts : (c x : ℕ) (xs : List ℕ) → has c (x ∷ xs) ≡ false → (x ≡ c → ⊥) × (has c xs ≡ false)
has_parts c x xs e = let r = or_parts (x == c) (has c xs) e in (λ q. both_ways (x == c) r.0 (eq-eqb x c q), r.1)

pub has_past : (c x : ℕ) (xs : List ℕ) → (x ≡ c → ⊥) → has c (x ∷ xs) ≡ has c xs
has_past c x xs other = ap (λ (b : Bool). b || has c xs) (ne_eqb x c other)

pub has_none : (c : ℕ) (a b : List ℕ) → has c (a ++ b) ≡ false → (has c a ≡ false) × (has c b ≡ false)
has_none c a b e = or_parts (has c a) (has c b) (sym (list_any-append (λ n. n == c) a b) ∙ e)

-- ---- copies

copied-append : (from : List ℤ) (a b : List ℕ) (to : List ℤ) → copied from (a ++ b) to ≡ copied from b (copied from a to)
copied-append from [] b to = refl
copied-append from (x ∷ a) b to = copied-append from a b (slice_set to x (get_or from x (pos 0)))

-- a cell reads what was put there, or 0 where there is none
put_reads : (from to : List ℤ) (x c : ℕ) → length to ≡ length from → x ≡ c → get_or (slice_set to x (get_or from x (pos 0))) c (pos 0) ≡ get_or from c (pos 0)
put_reads from to x c size e = elim (cases_lt x (length to)) [
  | inl h ↦ get_or-set_at to x c (get_or from x (pos 0)) (pos 0) (sym e) h ∙ ap (λ (k : ℕ). get_or from k (pos 0)) e
  | inr h ↦ get_or_past (slice_set to x (get_or from x (pos 0))) c (pos 0) (omega (arith, e, h, length-set to x (get_or from x (pos 0))))
      ∙ sym (get_or_past from c (pos 0) (omega (arith, e, h, size)))
]

-- Copied in all cells in which they differ, two memories are the same.
pub copied_same : (from : List ℤ) (cells : List ℕ) (to : List ℤ) → length to ≡ length from →
    ((c : ℕ) → has c cells ≡ false → get_or to c (pos 0) ≡ get_or from c (pos 0)) → copied from cells to ≡ from
copied_same from [] to size same = ext_get_or (pos 0) to from size (λ c h. same c refl)
copied_same from (x ∷ xs) to size same =
    copied_same from xs (slice_set to x (get_or from x (pos 0))) (length-set to x (get_or from x (pos 0)) ∙ size) (λ c out. by c out (cases_eq x c))
  where
    by : (c : ℕ) → has c xs ≡ false → (x ≡ c) ⊎ (x ≡ c → ⊥) → get_or (slice_set to x (get_or from x (pos 0))) c (pos 0) ≡ get_or from c (pos 0)
    by c out (inl e) = put_reads from to x c size e
    by c out (inr e) = get_or-set_other to x c (get_or from x (pos 0)) (pos 0) (λ f. e (sym f)) ∙ same c (has_past c x xs e ∙ out)

pub copied_both : (from : List ℤ) (a b : List ℕ) (to : List ℤ) → length to ≡ length from → ((c : ℕ) → has c a ≡ false → has c b ≡ false →
    get_or to c (pos 0) ≡ get_or from c (pos 0)) → copied from b (copied from a to) ≡ from
copied_both from a b to size same = sym (copied-append from a b to) ∙ copied_same from (a ++ b) to size (λ c out. let h = has_none c a b out in same c h.0 h.1)

-- ---- body locals

-- the cells of the body locals read 0 as the locals do
pub clear_local_cells : (r : ℕ) (vars : List VarInfo) (cells : List ℤ) → cleared_cells (local_numbers r vars) cells ≡ clear_locals r vars cells
clear_local_cells r [] cells = refl
clear_local_cells r (x ∷ xs) cells = elim (cases_Bool (is_local_of r x.scope)) [
  | inl q ↦ rw q (clear_local_cells r xs (slice_set cells x.first.0 (pos 0)))
  | inr q ↦ rw q (clear_local_cells r xs cells)
]

pub locals_has : (r c : ℕ) (vars : List VarInfo) → has c (local_numbers r vars) ≡ list_any (is_local_cell r c) vars
locals_has r c [] = refl
locals_has r c (x ∷ xs) = elim (cases_Bool (is_local_of r x.scope)) [
  | inl q ↦ rw q (ap (λ (b : Bool). (x.first.0 == c) || b) (locals_has r c xs))
  | inr q ↦ rw q (locals_has r c xs)
]

-- ---- marks

-- a cell that isn't among the marked ones isn't the new one, if there is one of that number
pub unmarked : (c x : ℕ) (m : Marked) → has c (with_mark x m).cells ≡ false → (has c m.cells ≡ false) × (x ≡ c → m.size ≤ x)
unmarked c x m e = by (nat_lt x m.size) (has x m.cells) refl refl e
  where
    by : (low seen : Bool) → nat_lt x m.size ≡ low → has x m.cells ≡ seen → has c (if low && not seen then m.cells ++ x ∷ [] else m.cells) ≡ false →
        (has c m.cells ≡ false) × (x ≡ c → m.size ≤ x)
    by true true l s e = (e, λ same. absurd (both_ways (has x m.cells) (ap (λ (k : ℕ). has k m.cells) same ∙ e) s))
    by true false l s e = let h = has_none c m.cells (x ∷ []) e in (h.0, λ same. absurd ((has_parts c x [] h.1).0 same))
    by false seen l s e = (e, λ same. elim (cases_lt x m.size) [ inl h ↦ absurd (both_ways (nat_lt x m.size) l (lt-ltb x m.size h)) | inr h ↦ h ])

-- so it reads as before where the new one is stored into
pub unset_reads : (c x : ℕ) (z : ℤ) (m : Marked) (cells : List ℤ) → m.size ≡ length cells → (x ≡ c → m.size ≤ x) →
    get_or (slice_set cells x z) c (pos 0) ≡ get_or cells c (pos 0)
unset_reads c x z m cells size out = elim (cases_eq x c) [
  | inl e ↦ let high = out e in get_or_past (slice_set cells x z) c (pos 0) (omega (arith, e, high, size, length-set cells x z))
      ∙ sym (get_or_past cells c (pos 0) (omega (arith, e, high, size)))
  | inr e ↦ get_or-set_other cells x c z (pos 0) (λ f. e (sym f))
]
