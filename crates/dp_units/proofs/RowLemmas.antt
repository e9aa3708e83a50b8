-- Rows of nodes, and what is left of them.
use Rattle.std.proofs.Common.{◌≡◌, inl, inr, refl, sym, subst, ap, arith, ℕ, zero, suc, ◌≤◌, ◌+◌, if◌then◌else◌, List, [], ◌∷◌, length, Vec, Some}
use Rattle.std.proofs.Math.ListN.{set}
use Rattle.std.specs.declared.alloc.Global.{Global}
use Rattle.std.proofs.lemmas.Bool.{cases_eq, eq-eqb, ne_eqb}
use Rattle.std.proofs.lemmas.Option.{same_Some}
use Rattle.dp_units.specs.steps.Entries.{At, Has}
use Rattle.dp_units.specs.declared.mark.Mark.{Mark}
use Rattle.dp_units.specs.declared.mark.Mark.TheVariants.{Unseen, OnPath, Closed}
use Rattle.dp_units.specs.Graph.{HasEdge}
use Rattle.dp_units.specs.steps.Rows.{targets}
use Rattle.dp_units.specs.steps.Search.{IsUnseen}
use Rattle.dp_units.specs.steps.Steps.{rows_left}
use Rattle.dp_units.proofs.AtLemmas.{at_none}
use Rattle.dp_units.proofs.EnterLemmas.{unseen_on_path, unseen_closed}
use Rattle.dp_units.proofs.CountLemmas.{first_edge, later_edge}

-- what stands in a row is what edges lead to
pub in_row : (edges : List (ℕ × ℕ)) (v w : ℕ) → Has (targets edges v) w → HasEdge edges v w
in_row [] v w (i, at) = absurd (at_none i w at)
in_row (e ∷ edges) v w has = elim (cases_eq e.0 v) [
  | inl same ↦ here same (subst (λ (xs : List ℕ). Has xs w) (ap (λ t. if t then e.1 ∷ targets edges v else targets edges v) (eq-eqb e.0 v same))
      has) (in_row edges v w)
  | inr ne ↦ later_edge e edges v w
      (in_row edges v w (subst (λ (xs : List ℕ). Has xs w) (ap (λ t. if t then e.1 ∷ targets edges v else targets edges v) (ne_eqb e.0 v ne)) has))
]
  where
    here : e.0 ≡ v → Has (e.1 ∷ targets edges v) w → (Has (targets edges v) w → HasEdge edges v w) → HasEdge (e ∷ edges) v w
    here same (zero, at) rest =
        subst (λ k. HasEdge (e ∷ edges) v k) (same_Some e.1 w at) (subst (λ k. HasEdge (e ∷ edges) k e.1) same (first_edge edges e.0 e.1))
    here same (suc i, at) rest = later_edge e edges v w (rest (i, at))

pub edge_in_row : (edges : List (ℕ × ℕ)) (v w : ℕ) → HasEdge edges v w → Has (targets edges v) w
edge_in_row [] v w (i, h, is) = absurd (omega (arith, h))
edge_in_row (e ∷ edges) v w (zero, h, is) =
    let row : targets (e ∷ edges) v ≡ e.1 ∷ targets edges v = ap (λ t. if t then e.1 ∷ targets edges v else targets edges v)
    (eq-eqb e.0 v (ap (λ (p : ℕ × ℕ). p.0) is)) in
    subst (λ (xs : List ℕ). Has xs w) (sym row) (0, ap (λ (p : ℕ × ℕ). Some p.1) is)
edge_in_row (e ∷ edges) v w (suc i, h, is) =
    let rest = edge_in_row edges v w (i, omega (arith, h), is) in
    elim (cases_eq e.0 v) [
      | inl same ↦
          let row : targets (e ∷ edges) v ≡ e.1 ∷ targets edges v = ap (λ t. if t then e.1 ∷ targets edges v else targets edges v) (eq-eqb e.0 v same) in
          subst (λ (xs : List ℕ). Has xs w) (sym row) (suc rest.0, rest.1)
      | inr ne ↦
          let row : targets (e ∷ edges) v ≡ targets edges v = ap (λ t. if t then e.1 ∷ targets edges v else targets edges v) (ne_eqb e.0 v ne) in
          subst (λ (xs : List ℕ). Has xs w) (sym row) rest
    ]

-- a node that is met takes its row from what is left
pub rows_fewer : (rows : List (Vec ℕ Global)) (marks : List Mark) (v i : ℕ) (row : Vec ℕ Global) → At rows v row → IsUnseen marks v →
    rows_left rows (set marks v (OnPath i)) + (length row.items + 2) ≡ rows_left rows marks
rows_fewer [] marks v i row at un = absurd (at_none v row at)
rows_fewer (r ∷ rows) [] v i row at un = absurd (at_none v Unseen un)
rows_fewer (r ∷ rows) (Unseen ∷ marks) zero i row at un =
    let same : length r.items ≡ length row.items = ap (λ (x : Vec ℕ Global). length x.items) (same_Some r row at) in omega (arith, same)
rows_fewer (r ∷ rows) (OnPath j ∷ marks) zero i row at un = absurd (unseen_on_path j (sym (same_Some (OnPath j) Unseen un)))
rows_fewer (r ∷ rows) (Closed c ∷ marks) zero i row at un = absurd (unseen_closed c (sym (same_Some (Closed c) Unseen un)))
rows_fewer (r ∷ rows) (Unseen ∷ marks) (suc v) i row at un = let rest = rows_fewer rows marks v i row at un in omega (arith, rest)
rows_fewer (r ∷ rows) (OnPath j ∷ marks) (suc v) i row at un = rows_fewer rows marks v i row at un
rows_fewer (r ∷ rows) (Closed c ∷ marks) (suc v) i row at un = rows_fewer rows marks v i row at un

more_rows : (r : Vec ℕ Global) (rows : List (Vec ℕ Global)) (m : Mark) (marks : List Mark) → rows_left rows marks ≤ rows_left (r ∷ rows) (m ∷ marks)
more_rows r rows Unseen marks = omega arith
more_rows r rows _ marks = omega arith

-- what is met stays so, and nothing comes to what is left
pub rows_no_more : (rows : List (Vec ℕ Global)) (marks now : List Mark) → ((v : ℕ) → IsUnseen now v → IsUnseen marks v) →
    rows_left rows now ≤ rows_left rows marks
rows_no_more [] marks now back = omega arith
rows_no_more (r ∷ rows) marks [] back = omega arith
rows_no_more (r ∷ rows) [] (m ∷ now) back = let none = rows_no_more rows [] now (λ v un. absurd (at_none (suc v) Unseen (back (suc v) un))) in
    first m (back 0) none
  where
    nothing : (rows : List (Vec ℕ Global)) → rows_left rows [] ≡ 0
    nothing [] = refl
    nothing (r ∷ rows) = refl

    first : (m : Mark) → (IsUnseen (m ∷ now) 0 → IsUnseen [] 0) → rows_left rows now ≤ rows_left rows [] → rows_left (r ∷ rows) (m ∷ now) ≤ 0
    first Unseen back low = absurd (at_none 0 Unseen (back refl))
    first _ back low = let e = nothing rows in omega (arith, low, e)
rows_no_more (r ∷ rows) (k ∷ marks) (m ∷ now) back = let rest = rows_no_more rows marks now (λ v un. back (suc v) un) in first m (back 0) rest
  where
    first : (m : Mark) → (IsUnseen (m ∷ now) 0 → IsUnseen (k ∷ marks) 0) → rows_left rows now ≤ rows_left rows marks →
        rows_left (r ∷ rows) (m ∷ now) ≤ rows_left (r ∷ rows) (k ∷ marks)
    first (OnPath i) back low = let more = more_rows r rows k marks in omega (arith, low, more)
    first (Closed c) back low = let more = more_rows r rows k marks in omega (arith, low, more)
    first Unseen back low =
        let same : k ≡ Unseen = same_Some k Unseen (back refl) in
        let e : rows_left (r ∷ rows) (k ∷ marks) ≡ (length r.items + 2) + rows_left rows marks = ap (λ x. rows_left (r ∷ rows) (x ∷ marks)) same in
        omega (arith, low, e)
