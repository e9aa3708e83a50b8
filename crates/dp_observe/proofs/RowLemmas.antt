-- Flows that are put into the rows of their first sites.
use Rattle.std.proofs.Common.{Less, ◌≡◌, ◌≢◌, refl, sym, ap, ◌∙◌, ℕ, zero, suc, ◌+◌, ◌*◌, ◌/◌, ◌%◌, ◌<◌, ◌≤◌, ◌==◌, if◌then◌else◌, true, false, List, [], ◌∷◌}
use Rattle.std.proofs.Common.{◌++◌, append_assoc, append-nil, length, Option, Some, None, slice_get, slice_set, inl, inr, arith, eqb-true, eq-eqb}
use Rattle.std.specs.Ordering.{nat_cmp}
use Rattle.std.specs.BTreeMap.{is_at}
use Rattle.std.specs.List.{AllByRecursion}
use Rattle.std.specs.List.Sorted.{IsStrictlySortedBy}
use Rattle.std.specs.Map.{keys_of}
use Rattle.std.proofs.lemmas.Bool.{cases_Bool}
use Rattle.std.proofs.lemmas.Bool.Decides.{nat_tests}
use Rattle.dp_room.proofs.ListLemmas.{at_index}
use Rattle.std.proofs.lemmas.Option.{slice_get_within}
use Rattle.dp_profile.specs.declared.Flow.{Flow}
use Rattle.dp_profile.specs.declared.sites.RegionSite.{RegionSite}
use Rattle.dp_observe.specs.declared.tally.Tally.{Tally}
use Rattle.dp_observe.specs.steps.Columns.{at_column}
use Rattle.dp_observe.specs.steps.Taken.{one_flow, flows_of, Puts, row_at, Grows, all_rows, flows_from, flows_taken}
use Rattle.dp_observe.proofs.CounterLemmas.{length_set}

-- ---- the counts of columns in order

at_same : (k c : ℕ) → k ≡ c → is_at (nat_cmp k) c ≡ true
at_same k c e = grind (arith, nat_tests)

at_less : (k c : ℕ) → k < c → is_at (nat_cmp k) c ≡ false
at_less k c h = grind (arith, nat_tests)

at_more : (k c : ℕ) → c < k → is_at (nat_cmp k) c ≡ false
at_more k c h = grind (arith, nat_tests)

less_of : (k c : ℕ) → nat_cmp k c ≡ Less → k < c
less_of k c e = grind (arith, nat_tests)

head_is : (k c n : ℕ) (es : List (ℕ × ℕ)) → k ≡ c → at_column ((c, n) ∷ es) k ≡ n
head_is k c n es e = rw (at_same k c e) refl

head_isnt : (k c n : ℕ) (es : List (ℕ × ℕ)) → is_at (nat_cmp k) c ≡ false → at_column ((c, n) ∷ es) k ≡ at_column es k
head_isnt k c n es e = rw e refl

-- no column up to one that all are above
absent : (k low : ℕ) (es : List (ℕ × ℕ)) → k ≤ low → AllByRecursion (λ c. nat_cmp low c ≡ Less) (keys_of es) → at_column es k ≡ 0
absent k low [] h above = refl
absent k low (e ∷ es) h above =
    let more = less_of low e.0 above.0 in head_isnt k e.0 e.1 es (at_less k e.0 (omega (arith, h, more))) ∙ absent k low es h above.1

-- the flow of a column, if it is one from the site at the place
abbrev column_flow : ℕ → RegionSite → RegionSite → ℕ → ℕ → List Flow
column_flow place from to column shown = if column / 2 == place then one_flow shown from to (column % 2 == 1) else []

-- those of these columns
abbrev pub column_flows : ℕ → RegionSite → RegionSite → List (ℕ × ℕ) → List Flow
column_flows place from to [] = []
column_flows place from to (e ∷ counts) = column_flow place from to e.0 e.1 ++ column_flows place from to counts

module _ (place : ℕ) (from to : RegionSite) where
  abbrev both : ℕ → ℕ → List Flow
  both intra carried = one_flow intra from to false ++ one_flow carried from to true

  both_are : (a b c d : ℕ) → a ≡ c → b ≡ d → both a b ≡ both c d
  both_are a b c d e f = ap (λ n. both n b) e ∙ ap (both c) f

  -- a column and those that stand after it
  column_more : (c n : ℕ) (es : List (ℕ × ℕ)) → AllByRecursion (λ d. nat_cmp c d ≡ Less) (keys_of es)
      → column_flows place from to es ≡ both (at_column es (2 * place)) (at_column es (2 * place + 1))
      → column_flows place from to ((c, n) ∷ es) ≡ both (at_column ((c, n) ∷ es) (2 * place)) (at_column ((c, n) ∷ es) (2 * place + 1))
  column_more c n es above later = elim (cases_Bool (c / 2 == place)) [
    | inr away ↦
        let half = unequal c away in
        rw away (later ∙ both_are _ _ _ _ (sym (head_isnt (2 * place) c n es (apart (2 * place) c (λ e. half (omega (arith, e))))))
        (sym (head_isnt (2 * place + 1) c n es (apart (2 * place + 1) c (λ e. half (omega (arith, e)))))))
    | inl here ↦ elim (cases_Bool (c % 2 == 1)) [
      | inl odd ↦
          let is : c ≡ 2 * place + 1 = (let h = eqb-true (c / 2) place here in let o = eqb-true (c % 2) 1 odd in omega (arith, h, o)) in
          let none : column_flows place from to es ≡ [] = later ∙ both_are _ _ 0 0 (absent (2 * place) c es (omega (arith, is)) above)
          (absent (2 * place + 1) c es (omega (arith, is)) above) in
          let intra : at_column ((c, n) ∷ es) (2 * place) ≡ 0 = head_isnt (2 * place) c n es (at_less (2 * place) c (omega (arith, is)))
          ∙ absent (2 * place) c es (omega (arith, is)) above in
          let flow : column_flow place from to c n ≡ one_flow n from to true = rw (here, odd) refl in
          ap (λ (fs : List Flow). fs ++ column_flows place from to es) flow ∙ ap (λ (fs : List Flow). one_flow n from to true ++ fs) none
          ∙ append-nil (one_flow n from to true)
          ∙ both_are 0 n _ _ (sym intra) (sym (head_is (2 * place + 1) c n es (sym is)))
      | inr even ↦
          let is : c ≡ 2 * place = (let h = eqb-true (c / 2) place here in let o = not_one c even in omega (arith, h, o)) in
          let none : at_column es (2 * place) ≡ 0 = absent (2 * place) c es (omega (arith, is)) above in
          let flow : column_flow place from to c n ≡ one_flow n from to false = rw (here, even) refl in
          ap (λ (fs : List Flow). fs ++ column_flows place from to es) flow
          ∙ ap (λ (fs : List Flow). one_flow n from to false ++ fs) (later
          ∙ both_are _ (at_column es (2 * place + 1)) 0 (at_column es (2 * place + 1)) none refl)
          ∙ both_are n (at_column es (2 * place + 1)) _ _ (sym (head_is (2 * place) c n es (sym is)))
          (sym (head_isnt (2 * place + 1) c n es (at_more (2 * place + 1) c (omega (arith, is)))))
    ]
  ]
    where
      unequal : (m : ℕ) → (m / 2 == place) ≡ false → m / 2 ≢ place
      unequal m t e = let clash = sym (eq-eqb (m / 2) place e) ∙ t in cc clash

      apart : (k m : ℕ) → k ≢ m → is_at (nat_cmp k) m ≡ false
      apart k m other = grind (arith, nat_tests)

      not_one : (m : ℕ) → (m % 2 == 1) ≡ false → m % 2 ≡ 0
      not_one m t = grind (arith, nat_tests)

  -- the flows of all columns
  pub columns_are : (es : List (ℕ × ℕ)) → IsStrictlySortedBy nat_cmp (keys_of es) → column_flows place from to es ≡ both (at_column es (2 * place))
      (at_column es (2 * place + 1))
  unfolding IsStrictlySortedBy
  columns_are [] up = refl
  columns_are (e ∷ es) up = column_more e.0 e.1 es up.0 (columns_are es up.1)

-- ---- rows that grow

row_is : (rows : List (List Flow)) (place : ℕ) (row : List Flow) → slice_get rows place ≡ Some row → row_at rows place ≡ row
row_is [] place row e = absurd (cc e)
row_is (r ∷ rows) zero row e = cc
row_is (r ∷ rows) (suc place) row e = row_is rows place row e

row_set : (rows : List (List Flow)) (place : ℕ) (row : List Flow) → place < length rows → row_at (slice_set rows place row) place ≡ row
row_set [] place row h = absurd (omega (arith, h))
row_set (r ∷ rows) zero row h = refl
row_set (r ∷ rows) (suc place) row h = row_set rows place row (omega (arith, h))

row_kept : (rows : List (List Flow)) (k place : ℕ) (row : List Flow) → place ≢ k → row_at (slice_set rows k row) place ≡ row_at rows place
row_kept [] k place row other = refl
row_kept (r ∷ rows) zero zero row other = absurd (other refl)
row_kept (r ∷ rows) zero (suc place) row other = refl
row_kept (r ∷ rows) (suc k) zero row other = refl
row_kept (r ∷ rows) (suc k) (suc place) row other = row_kept rows k place row (λ e. other (ap suc e))

module _ (sites : List RegionSite) (to : RegionSite) (column shown : ℕ) (old new : List (List Flow)) where
  abbrev Grown : Type 0
  Grown = (length new ≡ length old) × ((place : ℕ) (from : RegionSite) → slice_get sites place ≡ Some from → place < length old →
      row_at new place ≡ row_at old place ++ column_flow place from to column shown)

  same : new ≡ old → ((place : ℕ) (from : RegionSite) → slice_get sites place ≡ Some from → place < length old → (column / 2 == place) ≡ false) → Grown
  same is none = (
    ap length is,
    λ place from there within. ap (λ (rows : List (List Flow)). row_at rows place) is ∙ sym (append-nil
        (row_at old place)) ∙ ap (λ (fs : List Flow). row_at old place ++ fs) (sym (rw (none place from there within) refl)),
  )

  pub puts_grow : Puts to column shown (slice_get sites (column / 2)) (slice_get old (column / 2)) old new → Grown
  puts_grow so = by (slice_get sites (column / 2)) (slice_get old (column / 2)) refl refl so
    where
      away : (place : ℕ) → column / 2 ≢ place → (column / 2 == place) ≡ false
      away place other = grind (arith, nat_tests)

      by : (s : Option RegionSite) (r : Option (List Flow)) → slice_get sites (column / 2) ≡ s → slice_get old (column / 2) ≡ r →
          Puts to column shown s r old new → Grown
      by None r at got so = same so (λ place from there within. away place (λ e. let clash = sym at ∙ ap (slice_get sites) e ∙ there in absurd (cc clash)))
      by (Some d) None at got so = same so (λ place from there within. away place (λ e. let item = at_index old place within in
          let clash = sym got ∙ ap (slice_get old) e ∙ item.1 in absurd (cc clash)))
      by (Some d) (Some row) at got so = (
        ap length so ∙ length_set old (column / 2) (row ++ one_flow shown d to (column % 2 == 1)),
        λ place from there within.
            elim (cases_Bool (column / 2 == place)) [
              | inl is ↦
                  let here : column / 2 ≡ place = eqb-true (column / 2) place is in
                  let site : d ≡ from = (let both : Some d ≡ Some from = sym at ∙ ap (slice_get sites) here ∙ there in cc both) in
                  ap (λ (rows : List (List Flow)). row_at rows place) so
                  ∙ ap (λ k. row_at (slice_set old k (row ++ one_flow shown d to (column % 2 == 1))) place) here
                  ∙ row_set old place (row ++ one_flow shown d to (column % 2 == 1)) within
                  ∙ ap (λ (u : RegionSite). row ++ one_flow shown u to (column % 2 == 1)) site
                  ∙ ap (λ (r : List Flow). r ++ one_flow shown from to (column % 2 == 1)) (sym (row_is old place row (sym (ap (slice_get old) here) ∙ got)))
                  ∙ ap (λ (fs : List Flow). row_at old place ++ fs) (sym (rw is refl))
              | inr isnt ↦
                  ap (λ (rows : List (List Flow)). row_at rows place) so
                  ∙ row_kept old (column / 2) place (row ++ one_flow shown d to (column % 2 == 1))
                  (λ e. let clash = sym (eq-eqb (column / 2) place (sym e)) ∙ isnt in cc clash)
                  ∙ sym (append-nil (row_at old place)) ∙ ap (λ (fs : List Flow). row_at old place ++ fs) (sym (rw isnt refl))
            ],
      )

-- one column more
pub counts_more : (sites : List RegionSite) (to : RegionSite) (column shown : ℕ) (counts rest all : List (ℕ × ℕ)) (start old new : List (List Flow)) →
    counts ≡ (column, shown) ∷ rest
    → Puts to column shown (slice_get sites (column / 2)) (slice_get old (column / 2)) old new → length old ≡ length start
    → ((place : ℕ) (from : RegionSite) → slice_get sites place ≡ Some from → place < length start →
    row_at old place ++ column_flows place from to counts ≡ row_at start place ++ column_flows place from to all)
    → (length new ≡ length start) × ((place : ℕ) (from : RegionSite) → slice_get sites place ≡ Some from → place < length start →
    row_at new place ++ column_flows place from to rest ≡ row_at start place ++ column_flows place from to all)
counts_more sites to column shown counts rest all start old new is puts size rows =
    let grown = puts_grow sites to column shown old new puts in (
      grown.0 ∙ size,
      λ place from there within.
          ap (λ (r : List Flow). r ++ column_flows place from to rest) (grown.1 place from there (let w = within in omega (arith, w, size)))
          ∙ append_assoc (row_at old place) (column_flow place from to column shown) (column_flows place from to rest)
          ∙ ap (λ (cs : List (ℕ × ℕ)). row_at old place ++ column_flows place from to cs) (sym is) ∙ rows place from there within,
    )

-- all columns
pub counts_all : (sites : List RegionSite) (to : RegionSite) (left all : List (ℕ × ℕ)) (start rows : List (List Flow)) → left ≡ [] →
    IsStrictlySortedBy nat_cmp (keys_of all) → length rows ≡ length start
    → ((place : ℕ) (from : RegionSite) → slice_get sites place ≡ Some from → place < length start →
    row_at rows place ++ column_flows place from to left ≡ row_at start place ++ column_flows place from to all)
    → Grows sites to all start rows
counts_all sites to left all start rows none up size are = record {
  size = size;
  rows = λ place from there within.
      sym (append-nil (row_at rows place)) ∙ ap (λ (cs : List (ℕ × ℕ)). row_at rows place ++ column_flows place from to cs) (sym none)
      ∙ are place from there within
      ∙ ap (λ (fs : List Flow). row_at start place ++ fs) (columns_are place from to all up);
}

-- ---- all rows

-- the rows of the sites that stand from a place on
pub rows_taken : (place : ℕ) (froms sites : List RegionSite) (tallies : List Tally) (rows : List (List Flow)) → length rows ≡ length froms
    → ((k : ℕ) (from : RegionSite) → slice_get froms k ≡ Some from → row_at rows k ≡ flows_from (place + k) from sites tallies) →
    all_rows rows ≡ flows_taken place froms sites tallies
rows_taken place [] sites tallies [] size are = refl
rows_taken place [] sites tallies (r ∷ rows) size are = absurd (omega (arith, size))
rows_taken place (f ∷ froms) sites tallies [] size are = absurd (omega (arith, size))
rows_taken place (f ∷ froms) sites tallies (r ∷ rows) size are =
    let here : place + 0 ≡ place = omega arith in
    ap (λ (fs : List Flow). fs ++ all_rows rows) (are 0 f refl ∙ ap (λ k. flows_from k f sites tallies) here)
    ∙ ap (λ (fs : List Flow). flows_from place f sites tallies ++ fs)
    (rows_taken (place + 1) froms sites tallies rows (omega (arith, size))
    (λ k from there. let next : place + suc k ≡ place + 1 + k = omega arith in are (suc k) from there ∙ ap (λ j. flows_from j from sites tallies) next))

-- the flows to one site more
pub site_more : (all left rest : List RegionSite) (tallies later : List Tally) (to : RegionSite) (t : Tally) (goal : ℕ → RegionSite → List Flow)
    (old new : List (List Flow)) → left ≡ to ∷ rest → tallies ≡ t ∷ later → Grows all to t.shown old new → length old ≡ length all
    → ((place : ℕ) (from : RegionSite) → slice_get all place ≡ Some from → row_at old place ++ flows_from place from left tallies ≡ goal place from)
    → (length new ≡ length all) × ((place : ℕ) (from : RegionSite) → slice_get all place ≡ Some from →
    row_at new place ++ flows_from place from rest later ≡ goal place from)
site_more all left rest tallies later to t goal old new is so grows size are = (
  grows.size ∙ size,
  λ place from there.
      ap (λ (r : List Flow). r ++ flows_from place from rest later) (grows.rows place from there (let within = slice_get_within all place from there in
      omega (arith, within, size)))
      ∙ append_assoc (row_at old place) (flows_of place from to t.shown) (flows_from place from rest later)
      ∙ ap (λ (ts : List Tally). row_at old place ++ flows_from place from (to ∷ rest) ts) (sym so)
      ∙ ap (λ (ss : List RegionSite). row_at old place ++ flows_from place from ss tallies) (sym is) ∙ are place from there,
)

-- all sites
pub sites_all : (all left : List RegionSite) (tallies later : List Tally) (rows : List (List Flow)) → length rows ≡ length all
    → ((place : ℕ) (from : RegionSite) → slice_get all place ≡ Some from → row_at rows place ++ flows_from place from left later ≡ flows_from
    place from all tallies)
    → ((place : ℕ) (from : RegionSite) → flows_from place from left later ≡ []) → all_rows rows ≡ flows_taken 0 all all tallies
sites_all all left tallies later rows size are none =
    rows_taken 0 all all tallies rows size (λ k from there.
    let here : k ≡ 0 + k = omega arith in
    sym (append-nil (row_at rows k)) ∙ ap (λ (fs : List Flow). row_at rows k ++ fs) (sym (none k from)) ∙ are k from there
    ∙ ap (λ j. flows_from j from all tallies) here)
