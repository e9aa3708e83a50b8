-- What is still to be listed of a memory's changes while its copy is brought up to date, cell by cell in ascending order.
use Rattle.std.proofs.Common.{◌≡◌, ◌≢◌, inl, inr, refl, sym, ap, ◌∙◌, ℕ, zero, suc, ◌+◌, ◌<◌, ◌≤◌, ◌==◌, ◌||◌, Bool, true, false, not, ◌&&◌, if◌then◌else◌}
use Rattle.std.proofs.Common.{List, [], ◌∷◌, ◌++◌, append_assoc, append-nil, length, filter, map, get_or, slice_set, ℤ, pos, drop, arith}
use Rattle.std.specs.Ordering.{int_eq}
use Rattle.std.specs.List.Sorted.{IsNonDecreasing, IsPermutation}
use Rattle.std.proofs.lemmas.Bool.{and_right, and_from, both_ways, cases_Bool, cases_lt, eqb-true, false_from_ne_true, not_from_false, or_cases}
use Rattle.std.proofs.lemmas.Bool.Decides.{Decides-int_eq}
use Rattle.std.proofs.lemmas.List.{get_or_default, get_or-drop, length-drop, get_or_past, get_or-set_same, get_or-set_other, length-set}
use Rattle.std.proofs.lemmas.List.Folds.{Any-from_list_any}
use Rattle.std.proofs.lemmas.List.Sorted.{list_any-IsPermutation}
use Rattle.dp_plan.specs.Written.{has}
use Rattle.dp_tree.specs.Numbering.{numbers_from}
use Rattle.dp_log.specs.declared.SetOf.{SetOf}
use Rattle.dp_log.specs.Changes.{set_from}
use Rattle.dp_room.proofs.ListLemmas.{next_of}
use Rattle.dp_audit.specs.Copy.{changed_but, changes_but}

-- tests that agree from k on let the same numbers through
agree_from : (test other : ℕ → Bool) (k m : ℕ) → ((c : ℕ) → k ≤ c → test c ≡ other c) → filter test (numbers_from k m) ≡ filter other (numbers_from k m)
agree_from test other k zero h = refl
agree_from test other k (suc m) h =
    ap (λ (b : Bool). if b then k ∷ filter test (numbers_from (k + 1) m) else filter test (numbers_from (k + 1) m)) (h k (omega arith))
    ∙ ap (λ (xs : List ℕ). if other k then k ∷ xs else xs) (agree_from test other (k + 1) m (λ c l. h c (omega (arith, l))))

-- no number passes
none_pass : (test : ℕ → Bool) → ((c : ℕ) → test c ≡ false) → (xs : List ℕ) → filter test xs ≡ []
none_pass test h [] = refl
none_pass test h (x ∷ xs) = ap (λ (b : Bool). if b then x ∷ filter test xs else filter test xs) (h x) ∙ none_pass test h xs

-- The least number that passes comes first, and then those that pass a test that differs at it alone.
first_pass : (test other : ℕ → Bool) (s k m : ℕ) → k ≤ s → s < k + m → ((c : ℕ) → c < s → test c ≡ false) → test s ≡ true → other s ≡ false →
    ((c : ℕ) → c ≢ s → test c ≡ other c) →
    filter test (numbers_from k m) ≡ s ∷ filter other (numbers_from k m)
first_pass test other s k zero from within below here out agree = absurd (omega (arith, from, within))
first_pass test other s k (suc m) from within below here out agree = elim (cases_lt k s) [
  | inl less ↦
      let t : test k ≡ false = below k less in
      let o : other k ≡ false = sym (agree k (λ (f : k ≡ s). omega (arith, f, less))) ∙ t in
      ap (λ (b : Bool). if b then k ∷ filter test (numbers_from (k + 1) m) else filter test (numbers_from (k + 1) m)) t
      ∙ first_pass test other s (k + 1) m (omega (arith, less)) (omega (arith, within)) below here out agree
      ∙ ap (λ (b : Bool). s ∷ (if b then k ∷ filter other (numbers_from (k + 1) m) else filter other (numbers_from (k + 1) m))) (sym o)
  | inr low ↦
      let e : k ≡ s = omega (arith, from, low) in
      let t : test k ≡ true = ap test e ∙ here in
      let o : other k ≡ false = ap other e ∙ out in
      ap (λ (b : Bool). if b then k ∷ filter test (numbers_from (k + 1) m) else filter test (numbers_from (k + 1) m)) t
      ∙ ap (λ (xs : List ℕ). k ∷ xs) (agree_from test other (k + 1) m (λ c l. agree c (λ (f : c ≡ s). omega (arith, e, f, l))))
      ∙ ap (λ (j : ℕ). j ∷ filter other (numbers_from (k + 1) m)) e
      ∙ ap (λ (b : Bool). s ∷ (if b then k ∷ filter other (numbers_from (k + 1) m) else filter other (numbers_from (k + 1) m))) (sym o)
]

module _ (locals : List ℕ) (now : List ℤ) where
  -- The copy is as long as the memory; what was listed, and what has still changed, is what had changed.
  pub record Listing (old known : List ℤ) (sets : List SetOf) : Type 0 where
    pub size : length known ≡ length now
    pub so_far : sets ++ changes_but locals known now ≡ changes_but locals old now

  module _ (known : List ℤ) (size : length known ≡ length now) where
    -- the same value hasn't changed
    pub unchanged : (c : ℕ) → get_or known c (pos 0) ≡ get_or now c (pos 0) → changed_but locals known now c ≡ false
    unchanged c same = and_right (not (has c locals)) _ (ap not ((Decides-int_eq (get_or known c (pos 0)) (get_or now c (pos 0))).1 same))

    pub within : (c : ℕ) → changed_but locals known now c ≡ true → c < length now
    within c h = elim (cases_lt c (length now)) [
      | inl less ↦ less
      | inr past ↦ absurd (both_ways (changed_but locals known now c) (unchanged c (get_or_past known c (pos 0) (omega (arith, past, size))
          ∙ sym (get_or_past now c (pos 0) past))) h)
    ]

  module _ (known : List ℤ) (size : length known ≡ length now) (s : ℕ) where
    abbrev after : List ℤ
    after = slice_set known s (get_or now s (pos 0))

    size_after : length (slice_set known s (get_or now s (pos 0))) ≡ length now
    size_after = length-set known s (get_or now s (pos 0)) ∙ size

    set_here : s < length now → changed_but locals (slice_set known s (get_or now s (pos 0))) now s ≡ false
    set_here h = unchanged after size_after s (get_or-set_same known s (get_or now s (pos 0)) (pos 0) (omega (arith, h, size)))

    set_elsewhere : (c : ℕ) → c ≢ s → changed_but locals known now c ≡ changed_but locals (slice_set known s (get_or now s (pos 0))) now c
    set_elsewhere c n = ap (λ (z : ℤ). not (has c locals) && not (int_eq z (get_or now c (pos 0))))
        (sym (get_or-set_other known s c (get_or now s (pos 0)) (pos 0) n))

    changes_first : changed_but locals known now s ≡ true → ((c : ℕ) → changed_but locals known now c ≡ true → s ≤ c) →
        changes_but locals known now ≡ set_from now s ∷ changes_but locals (slice_set known s (get_or now s (pos 0))) now
    changes_first here least =
        let h = within known size s here in
        ap (map (set_from now)) (first_pass (changed_but locals known now) (changed_but locals after now) s 0 (length now) (omega arith) (omega (arith, h))
        (λ c less. false_from_ne_true (changed_but locals known now c) (λ t. omega (arith, least c t, less))) here (set_here h) set_elsewhere)

  -- the changes that are left are other ones, and had been left before
  abbrev pub LeavesOthers : List ℤ → List ℤ → ℕ → Type 0
  LeavesOthers known next s = (c : ℕ) → changed_but locals next now c ≡ true → (c ≢ s) × (changed_but locals known now c ≡ true)

  module _ (old known : List ℤ) (sets : List SetOf) (l : Listing old known sets) (s : ℕ) (least : (c : ℕ) → changed_but locals known now c ≡ true → s ≤ c)
      (next : List ℤ) (more : List SetOf)
      (next_is : next ≡ (if changed_but locals known now s then slice_set known s (get_or now s (pos 0)) else known))
      (more_is : more ≡ (if changed_but locals known now s then sets ++ set_from now s ∷ [] else sets)) where
    -- The least cell that may have changed was looked at.
    pub listing_next : Listing old next more
    listing_next = elim (cases_Bool (changed_but locals known now s)) [
      | inl t ↦
          let n : next ≡ slice_set known s (get_or now s (pos 0)) = next_is
          ∙ ap (λ (b : Bool). if b then slice_set known s (get_or now s (pos 0)) else known) t in
          let m : more ≡ sets ++ set_from now s ∷ [] = more_is ∙ ap (λ (b : Bool). if b then sets ++ set_from now s ∷ [] else sets) t in
          record {
            size = ap (λ (xs : List ℤ). length xs) n ∙ size_after known l.size s;
            so_far = ap (λ (xs : List SetOf). xs ++ changes_but locals next now) m
                ∙ ap (λ (xs : List ℤ). (sets ++ set_from now s ∷ []) ++ changes_but locals xs now) n
                ∙ append_assoc sets (set_from now s ∷ []) (changes_but locals (slice_set known s (get_or now s (pos 0))) now)
                ∙ ap (λ (xs : List SetOf). sets ++ xs) (sym (changes_first known l.size s t least)) ∙ l.so_far;
          }
      | inr t ↦
          let n : next ≡ known = next_is ∙ ap (λ (b : Bool). if b then slice_set known s (get_or now s (pos 0)) else known) t in
          let m : more ≡ sets = more_is ∙ ap (λ (b : Bool). if b then sets ++ set_from now s ∷ [] else sets) t in
          record {
            size = ap (λ (xs : List ℤ). length xs) n ∙ l.size;
            so_far = ap (λ (xs : List SetOf). xs ++ changes_but locals next now) m ∙ ap (λ (xs : List ℤ). sets ++ changes_but locals xs now) n ∙ l.so_far;
          }
    ]

    pub others_left : LeavesOthers known next s
    others_left c h = elim (cases_Bool (changed_but locals known now s)) [
      | inl t ↦
          let n : next ≡ slice_set known s (get_or now s (pos 0)) = next_is
          ∙ ap (λ (b : Bool). if b then slice_set known s (get_or now s (pos 0)) else known) t in
          let g : changed_but locals (slice_set known s (get_or now s (pos 0))) now c ≡ true = ap (λ (xs : List ℤ). changed_but locals xs now c) (sym n) ∙ h in
          let apart : c ≢ s = λ (e : c ≡ s). both_ways (changed_but locals (slice_set known s (get_or now s (pos 0))) now c)
          (ap (changed_but locals (slice_set known s (get_or now s (pos 0))) now) e ∙ set_here known l.size s (within known l.size s t)) g in
          (apart, set_elsewhere known l.size s c apart ∙ g)
      | inr t ↦
          let n : next ≡ known = next_is ∙ ap (λ (b : Bool). if b then slice_set known s (get_or now s (pos 0)) else known) t in
          let g : changed_but locals known now c ≡ true = ap (λ (xs : List ℤ). changed_but locals xs now c) (sym n) ∙ h in
          (λ (e : c ≡ s). both_ways (changed_but locals known now s) t (ap (changed_but locals known now) (sym e) ∙ g), g)
    ]

  -- Nothing has changed that wasn't listed.
  module _ (old known : List ℤ) (sets : List SetOf) (l : Listing old known sets) (none : (c : ℕ) → changed_but locals known now c ≡ false) where
    pub listed_all : sets ≡ changes_but locals old now
    listed_all = sym (append-nil sets) ∙ ap (λ (xs : List ℕ). sets ++ map (set_from now) xs)
        (sym (none_pass (changed_but locals known now) none (numbers_from 0 (length now)))) ∙ l.so_far

    pub same_values : (c : ℕ) → has c locals ≡ false → get_or known c (pos 0) ≡ get_or now c (pos 0)
    same_values c apart = elim (cases_Bool (int_eq (get_or known c (pos 0)) (get_or now c (pos 0)))) [
      | inl t ↦ (Decides-int_eq (get_or known c (pos 0)) (get_or now c (pos 0))).0 t
      | inr f ↦ absurd (both_ways (changed_but locals known now c) (none c) (and_from (not (has c locals)) _ (not_from_false (has c locals) apart)
          (not_from_false (int_eq (get_or known c (pos 0)) (get_or now c (pos 0))) f)))
    ]

-- ---- numbers in ascending order

-- none of the numbers from place i on is below the one there
pub least_there : (xs : List ℕ) (i : ℕ) → i < length xs → IsNonDecreasing xs → (c : ℕ) → has c (drop i xs) ≡ true → get_or xs i 0 ≤ c
least_there xs i h up c e =
    let a = Any-from_list_any (λ n. n == c) (drop i xs) e in
    let size = length-drop i xs in
    let d : ℕ = a.1 in
    let there : get_or (drop i xs) a.0 d ≡ get_or xs (i + a.0) d = get_or-drop i xs a.0 d in
    let here : get_or xs i d ≡ get_or xs i 0 = get_or_default xs i d 0 h in
    let it : a.1 ≡ c = eqb-true a.1 c a.4 in
    let placed = a.3 in
    omega (arith, up i (i + a.0) d (omega arith) (omega (arith, a.2, size)), there, here, placed, it)

-- what is among them and isn't the one there is among those behind it
pub behind_there : (xs : List ℕ) (i : ℕ) → i < length xs → (c : ℕ) → c ≢ get_or xs i 0 → has c (drop i xs) ≡ true → has c (drop (i + 1) xs) ≡ true
behind_there xs i h c apart e =
    let both : ((get_or xs i 0 == c) || has c (drop (i + 1) xs)) ≡ true = ap (has c)
    (sym (next_of xs i (get_or xs i 0) h (get_or_default xs i 0 (get_or xs i 0) h))) ∙ e in
    elim (or_cases (get_or xs i 0 == c) (has c (drop (i + 1) xs)) both) [
      | inl t ↦ absurd (apart (sym (eqb-true (get_or xs i 0) c t)))
      | inr t ↦ t
    ]

-- the same numbers in another order
pub has_moved : (c : ℕ) (xs ys : List ℕ) → IsPermutation xs ys → has c xs ≡ has c ys
has_moved c xs ys moved = list_any-IsPermutation (λ k. k == c) xs ys moved

-- nothing is among none
pub has_none : {P : Type 0} (c : ℕ) (xs : List ℕ) → xs ≡ [] → has c xs ≡ true → P
has_none c xs none h = let clash : false ≡ true = sym (ap (has c) none) ∙ h in absurd (cc clash)

-- ---- what a look at one cell does, where the locals are the same

pub noted_cells : (now : List ℤ) (s : ℕ) (locals same : List ℕ) → same ≡ locals → (known next : List ℤ) →
    next ≡ (if changed_but same known now s then slice_set known s (get_or now s (pos 0)) else known) →
    next ≡ (if changed_but locals known now s then slice_set known s (get_or now s (pos 0)) else known)
noted_cells now s locals same e known next is =
    is ∙ ap (λ (ls : List ℕ). if changed_but ls known now s then slice_set known s (get_or now s (pos 0)) else known) e

pub noted_sets : (now : List ℤ) (s : ℕ) (locals same : List ℕ) → same ≡ locals → (known : List ℤ) (sets more : List SetOf) →
    more ≡ (if changed_but same known now s then sets ++ set_from now s ∷ [] else sets) →
    more ≡ (if changed_but locals known now s then sets ++ set_from now s ∷ [] else sets)
noted_sets now s locals same e known sets more is = is ∙ ap (λ (ls : List ℕ). if changed_but ls known now s then sets ++ set_from now s ∷ [] else sets) e

pub same_but : {P : ℕ → Type 0} (locals same : List ℕ) → same ≡ locals → ((c : ℕ) → has c locals ≡ false → P c) → (c : ℕ) → has c same ≡ false → P c
same_but locals same e h c apart = h c (ap (has c) (sym e) ∙ apart)

-- nothing was listed yet
pub listing_begins : (locals : List ℕ) (now old : List ℤ) (sets : List SetOf) → length old ≡ length now → sets ≡ [] → Listing locals now old old sets
listing_begins locals now old sets size none = record { size = size; so_far = ap (λ (xs : List SetOf). xs ++ changes_but locals old now) none }
