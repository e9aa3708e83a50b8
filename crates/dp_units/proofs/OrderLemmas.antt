-- A turn of the loop that takes the units.
use Rattle.std.proofs.Common.{◌≡◌, ◌≢◌, ◌⊎◌, inl, inr, refl, sym, subst, ◌∙◌, ap, arith, ℕ, suc, ◌<◌, ◌≤◌, ◌+◌, List, [], ◌∷◌, ◌++◌, length, take, drop, Vec}
use Rattle.std.proofs.Common.{All, slice_get, slice_index, slice_index_or, true, false}
use Rattle.std.proofs.Math.ListN.{set}
use Rattle.std.specs.declared.alloc.Global.{Global}
use Rattle.std.specs.Ordering.{nat_cmp}
use Rattle.std.specs.BTreeMap.Range.{IsLtBy}
use Rattle.std.proofs.lemmas.Grind.{common_steps}
use Rattle.std.proofs.lemmas.Option.{slice_get_read}
use Rattle.dp_units.specs.steps.Entries.{At, Has, times}
use Rattle.dp_units.specs.Graph.{HasEdge, AreWithin}
use Rattle.dp_units.specs.steps.Rows.{targets, IsGraph}
use Rattle.dp_units.specs.steps.Leaders.{AreLeaders, AreBetween}
use Rattle.dp_units.specs.steps.Taking.{MayBeTaken, IsTaking, left_over}
use Rattle.dp_units.proofs.AtLemmas.{at_within, at_one}
use Rattle.dp_units.proofs.LoopLemmas.{item_at}
use Rattle.dp_units.proofs.FreeLemmas.{has_first}
use Rattle.dp_units.proofs.RowLemmas.{in_row}
use Rattle.dp_units.proofs.TakeLemmas.{edge_within}
use Rattle.dp_units.proofs.StepLemmas.{counted, taken, fewer}

-- the items of a vector are written anew, as many as there were
pub whole_written : {X : Type 0} (now was : List X) (n : ℕ) → length now ≡ length was → n ≡ length was → take n (now ++ drop (length now) was) ≡ now
whole_written now was n same is = grind (arith, common_steps)

pub all_above : (k : ℕ) (ks : List ℕ) → All (IsLtBy nat_cmp k) ks → (x : ℕ) → Has ks x → k < x
all_above k ks all x (i, at) =
    let h : i < length ks = at_within ks i x at in
    let same : slice_index_or ks i 0 ≡ x = at_one ks i (slice_index_or ks i 0) x (item_at ks i 0 h) at in
    subst (λ y. k < y) same (below k (slice_index_or ks i 0) (all i 0 h))
  where
    below : (x y : ℕ) → IsLtBy nat_cmp x y → x < y
    below x y lt = grind (arith, common_steps, lt)

module _ {n : ℕ} {edges : List (ℕ × ℕ)} {leader_of : List ℕ} {between : List (ℕ × ℕ)} (within : AreWithin n edges) (leads : AreLeaders n edges leader_of)
    (apart : AreBetween edges leader_of between)
    {shown : List (ℕ × ℕ)} {rows : List (Vec ℕ Global)} (is_shown : shown ≡ between) (made : IsGraph shown rows) (long : length rows ≡ n)
    {places order waits free : List ℕ} (is : IsTaking n edges leader_of between places order waits free) {l : ℕ} {rest : List ℕ}
    (removal : free ≡ l ∷ rest) where
  graph : IsGraph between rows
  graph = subst (λ (es : List (ℕ × ℕ)). IsGraph es rows) is_shown made

  may : MayBeTaken n leader_of between places l
  may = is.may l (0, ap (λ (ks : List ℕ). slice_get ks 0) removal)

  pub low : l < n
  low = may.within

  pub row_is : (row : Vec ℕ Global) → row ≡ slice_index_or rows l row → row.items ≡ targets between l
  row_is row read = graph.targets l row (slice_get_read rows n l row (sym long) low read)

  pub row_within : (row : List ℕ) → row ≡ targets between l → (i x : ℕ) → At row i x → x < n
  row_within row same i x at =
      let edge : HasEdge between l x = in_row between l x (i, subst (λ (xs : List ℕ). At xs i x) same at) in
      subst (λ k. x < k) long (edge_within (length rows) between graph.within l x edge).1

  pub row_enough : (row : List ℕ) → row ≡ targets between l → (x : ℕ) → x < n → times row x ≤ slice_index waits x
  row_enough row same x h =
      let count = counted n edges leader_of between within leads apart places order waits free is l may x in
      let is_count = is.counts x h in
      let e : times row x ≡ times (targets between l) x = ap (λ (xs : List ℕ). times xs x) same in
      omega (arith, count, is_count, e)

  pub next_taken : (row : List ℕ) → row ≡ targets between l → All (IsLtBy nat_cmp l) rest → (waits' free' : List ℕ) → length waits' ≡ length waits →
      ((x : ℕ) → x < length waits → slice_index waits' x + times row x ≡ slice_index waits x) →
      ((x : ℕ) → Has free' x → Has rest x ⊎ ((times row x ≢ 0) × (slice_index waits' x ≡ 0))) →
      ((x : ℕ) → Has rest x → Has free' x) → ((x : ℕ) → times row x ≢ 0 → slice_index waits' x ≡ 0 → Has free' x) →
      IsTaking n edges leader_of between (set places l (length order)) (order ++ l ∷ []) waits' free'
  next_taken row same above waits' free' wide less from kept added =
      taken n edges leader_of between within leads apart places order waits free is l may waits' free' rest (wide ∙ is.wide)
      (λ x h. ap (λ (xs : List ℕ). slice_index waits' x + times xs x) (sym same) ∙ less x (subst (λ k. x < k) (sym is.wide) h))
      (λ x has. (subst (λ (ks : List ℕ). Has ks x) (sym removal) (has.0 + 1, on has.0 x has.1), all_above l rest above x has))
      (λ x has. has_first l x rest (subst (λ (ks : List ℕ). Has ks x) removal has))
      (λ x has. elim (from x has) [ inl old ↦ inl old | inr (some, none) ↦ inr ((λ e. some (ap (λ (xs : List ℕ). times xs x) same ∙ e)), none) ])
      kept
      (λ x some none. added x (λ e. some (ap (λ (xs : List ℕ). times xs x) (sym same) ∙ e)) none)
    where
      on : (i x : ℕ) → At rest i x → At (l ∷ rest) (i + 1) x
      on i x at = let e : suc i ≡ i + 1 = omega arith in subst (λ k. At (l ∷ rest) k x) e at

  pub next_smaller : left_over n (set places l (length order)) < left_over n places
  next_smaller = fewer n edges leader_of between within leads apart places order waits free is l may

no_keys : (ks : List ℕ) → ((0 < length ks) → false ≡ true) → ks ≡ []
no_keys [] none = refl
no_keys (k ∷ ks) none = let bad : false ≡ true = none (omega arith) in absurd (cc bad)

-- no leader is free any more
pub none_free : {n : ℕ} {edges : List (ℕ × ℕ)} {leader_of : List ℕ} {between : List (ℕ × ℕ)} {places order waits free : List ℕ} →
    IsTaking n edges leader_of between places order waits free → ((0 < length free) → false ≡ true) →
    IsTaking n edges leader_of between places order waits []
none_free {n} {edges} {leader_of} {between} {places} {order} {waits} {free} is none =
    subst (λ (ks : List ℕ). IsTaking n edges leader_of between places order waits ks) (no_keys free none) is
