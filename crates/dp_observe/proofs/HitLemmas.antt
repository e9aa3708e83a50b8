-- The loads that are counted are those that the definition shows.
use Rattle.std.proofs.Common.{◌≡◌, ◌≢◌, refl, sym, ap, subst, ◌∙◌, ℕ, zero, suc, ◌+◌, ◌-◌, ◌*◌, ◌≤◌, ◌<◌, ◌==◌, if◌then◌else◌, ◌&&◌, not, Bool, true, false}
use Rattle.std.proofs.Common.{nat_le, List, [], ◌∷◌, cond, count_by, Some, None, slice_get, inl, inr, arith, eqb-true, eq-eqb}
use Rattle.std.proofs.lemmas.Bool.{cases_Bool, leb-false}
use Rattle.std.proofs.lemmas.List.Sums.{sum_by-cons}
use Rattle.dp_room.specs.OneIf.{one_if}
use Rattle.dp_tree.specs.declared.Program.{Program}
use Rattle.dp_tree.specs.Eval.{Load}
use Rattle.dp_tree.specs.Step.{Event}
use Rattle.dp_meaning.specs.Watched.{cells_of}
use Rattle.dp_profile.specs.declared.sites.RegionSite.{RegionSite}
use Rattle.dp_profile.specs.Sites.{has_numbered_site}
use Rattle.dp_profile.specs.Observed.{begins_iteration, last_store, is_from, is_body_cell, same_kind, shown_by}
use Rattle.dp_observe.specs.declared.frame.Frame.{Frame}
use Rattle.dp_observe.specs.declared.frame.Writer.{Writer}
use Rattle.dp_observe.specs.declared.sparse.Sparse.{Sparse}
use Rattle.dp_observe.specs.steps.Frames.{column, column_of, hits, loads_at}
use Rattle.dp_observe.specs.Sparse.{at}
use Rattle.dp_observe.specs.steps.Tracking.{writer_of, since, begun, InOrder}
use Rattle.dp_observe.proofs.FrameLemmas.{source_of, writer_own, load_found}
use Rattle.std.proofs.Math.Bool.{and-true}

pub same_test : (a b c d : ℕ) → (a ≡ b → c ≡ d) → (c ≡ d → a ≡ b) → (a == b) ≡ (c == d)
same_test a b c d to back = elim (cases_Bool (a == b)) [
  | inl e ↦ e ∙ sym (eq-eqb c d (to (eqb-true a b e)))
  | inr e ↦ elim (cases_Bool (c == d)) [
    | inl f ↦ let clash = sym e ∙ eq-eqb a b (back (eqb-true c d f)) in absurd (cc clash)
    | inr f ↦ e ∙ sym f
  ]
]

pub unequal : (a b : ℕ) → a ≢ b → (a == b) ≡ false
unequal a b other = elim (cases_Bool (a == b)) [ inl e ↦ absurd (other (eqb-true a b e)) | inr e ↦ e ]

and_no : (x : Bool) → (x && false) ≡ false
and_no true = refl
and_no false = refl

-- the number of a site is that of its place
pub in_order_at : (n : ℕ) (sites : List RegionSite) (place : ℕ) (s : RegionSite) → InOrder n sites → slice_get sites place ≡ Some s → s.site.0 ≡ n + place
in_order_at n [] place s order there = absurd (cc there)
in_order_at n (x ∷ rest) zero s order there = let same : x ≡ s = cc in ap (λ (y : RegionSite). y.site.0) (sym same) ∙ order.0 ∙ omega arith
in_order_at n (x ∷ rest) (suc place) s order there = let later = in_order_at (suc n) rest place s order.1 there in omega (arith, later)

pub in_order_find : (n : ℕ) (sites : List RegionSite) (m : ℕ) → InOrder n sites → has_numbered_site m sites ≡ true → (n ≤ m)
    × ((s : RegionSite) × (slice_get sites (m - n) ≡ Some s) × (s.site.0 ≡ m))
in_order_find n [] m order here = absurd (cc here)
in_order_find n (x ∷ rest) m order here = elim (cases_Bool (x.site.0 == m)) [
  | inl e ↦
      let is = eqb-true x.site.0 m e in let at = order.0 in
      let none : m - n ≡ 0 = omega (arith, is, at) in
      (omega (arith, is, at), (x, ap (slice_get (x ∷ rest)) none, is))
  | inr e ↦
      let later = in_order_find (suc n) rest m order.1 (rw e at here) in
      let low = later.0 in
      let next : m - n ≡ suc (m - suc n) = omega (arith, low) in
      (omega (arith, low), (later.1.0, ap (slice_get (x ∷ rest)) next ∙ later.1.1, later.1.2))
]

module _ (f : Frame) (w : Writer) (place : ℕ) (d : RegionSite) (low : f.first.0 ≤ w.site.0) (number : d.site.0 ≡ f.first.0 + place) where
  same_column : (b : ℕ) → (2 * (w.site.0 - f.first.0) + b == 2 * place + b) ≡ (w.site.0 == d.site.0)
  same_column b = same_test (2 * (w.site.0 - f.first.0) + b) (2 * place + b) w.site.0 d.site.0 (λ e. omega (arith, e, low, number))
      (λ e. omega (arith, e, low, number))

  hit_found : (c local k : Bool) → hits (if c && local then None else Some (column f w.site.0 c)) (2 * place + one_if k)
      ≡ ((w.site.0 == d.site.0) && (same_kind c k && not (c && local)))
  hit_found true true true = sym (and_no (w.site.0 == d.site.0))
  hit_found true true false = sym (and_no (w.site.0 == d.site.0))
  hit_found true false true = same_column 1 ∙ sym (and-true (w.site.0 == d.site.0))
  hit_found true false false = unequal (2 * (w.site.0 - f.first.0) + 1) (2 * place + 0) (λ e. omega (arith, e)) ∙ sym (and_no (w.site.0 == d.site.0))
  hit_found false local true = unequal (2 * (w.site.0 - f.first.0) + 0) (2 * place + 1) (λ e. omega (arith, e)) ∙ sym (and_no (w.site.0 == d.site.0))
  hit_found false local false = same_column 0 ∙ sym (and-true (w.site.0 == d.site.0))

-- a load is counted in a column where it reads a store of the column's site and kind
pub hit : (f : Frame) (w : Writer) (local : Bool) (sites : List RegionSite) (place : ℕ) (d : RegionSite) (k : Bool) → InOrder f.first.0 sites →
    slice_get sites place ≡ Some d
    → (f.since < w.after → has_numbered_site w.site.0 sites ≡ true) → hits (column_of f w local) (2 * place + one_if k) ≡ is_from local d.site.0 k
    (source_of w f.since false f.begun)
hit f w local sites place d k order there own = elim (cases_Bool (nat_le w.after f.since)) [
  | inl past ↦ rw past refl
  | inr past ↦
      let inside = in_order_find f.first.0 sites w.site.0 order (own (leb-false w.after f.since past)) in
      rw past (hit_found f w place d inside.0 (in_order_at f.first.0 sites place d order there) (nat_le w.after f.begun) local k)
]

one_counted : (b : Bool) → cond b 1 0 ≡ one_if b
one_counted true = refl
one_counted false = refl

-- one item more is counted
pub count_cons : {X : Type 0} (test : X → Bool) (x : X) (xs : List X) → count_by test (x ∷ xs) ≡ one_if (test x) + count_by test xs
count_cons test x xs = sum_by-cons (λ y. cond (test y) 1 0) x xs ∙ ap (λ n. n + count_by test xs) (one_counted (test x))

count_same : (F : ℕ → Bool) (G : Load → Bool) (loads : List Load) → ((l : Load) → F l.cell ≡ G l) → count_by F (cells_of loads) ≡ count_by G loads
count_same F G [] same = refl
count_same F G (l ∷ rest) same =
    count_cons F l.cell (cells_of rest) ∙ ap (λ b. one_if b + count_by F (cells_of rest)) (same l) ∙ ap (λ n. one_if (G l) + n) (count_same F G rest same)
    ∙ sym (count_cons G l rest)

module _ (p : Program) (region : ℕ) (sites : List RegionSite) (e : Event) (past : List Event) (f : Frame) (writers : Sparse Writer) (locals : Sparse Bool)
    (order : InOrder f.first.0 sites) (here : has_numbered_site e.site sites ≡ true) (starts : f.since ≡ since sites (e ∷ past))
    (begins : f.begun ≡ begun sites (e ∷ past))
    (written : (k : ℕ) → at writers k ≡ writer_of k past) (local : (k : ℕ) → at locals k ≡ is_body_cell p region k) where
  load_hit : (place : ℕ) (d : RegionSite) (k : Bool) → slice_get sites place ≡ Some d → (l : Load)
      → hits (column_of f (at writers l.cell) (at locals l.cell)) (2 * place + one_if k) ≡ is_from (is_body_cell p region l.cell) d.site.0 k
      (last_store sites l.cell (begins_iteration sites e) past)
  load_hit place d k there l =
      let same : since sites (e ∷ past) ≡ since sites past = rw here refl in
      ap (λ (w : Writer). hits (column_of f w (at locals l.cell)) (2 * place + one_if k)) (written l.cell)
      ∙ ap (λ b. hits (column_of f (writer_of l.cell past) b) (2 * place + one_if k)) (local l.cell)
      ∙ hit f (writer_of l.cell past) (is_body_cell p region l.cell) sites place d k order there
      (λ less. writer_own sites l.cell past (subst (λ n. n < (writer_of l.cell past).after) (starts ∙ same) less))
      ∙ ap (λ n. is_from (is_body_cell p region l.cell) d.site.0 k (source_of (writer_of l.cell past) n false f.begun)) starts
      ∙ ap (λ n. is_from (is_body_cell p region l.cell) d.site.0 k (source_of (writer_of l.cell past) (since sites (e ∷ past)) false n)) begins
      ∙ ap (is_from (is_body_cell p region l.cell) d.site.0 k) (sym (load_found sites l.cell e past here))

  pub loads_shown : (place : ℕ) (d : RegionSite) (k : Bool) → slice_get sites place ≡ Some d →
      loads_at f writers locals (2 * place + one_if k) (cells_of e.loads) ≡ shown_by p region sites d.site.0 k e past
  loads_shown place d k there = count_same _ _ e.loads (load_hit place d k there)
