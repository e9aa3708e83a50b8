-- The last group of the path is closed as a unit.
use Rattle.std.proofs.Common.{◌≡◌, ◌⊎◌, inl, inr, sym, subst, ◌∙◌, arith, ℕ, zero, suc, ◌<◌, ◌≤◌, ◌+◌, ◌-◌, List, [], ◌∷◌, ◌++◌, length, take, drop}
use Rattle.std.proofs.lemmas.Bool.{cases_lt}
use Rattle.std.proofs.lemmas.List.{length-take-le}
use Rattle.dp_units.specs.steps.Entries.{At, Has}
use Rattle.dp_units.specs.declared.mark.Mark.{Mark}
use Rattle.dp_units.specs.declared.mark.Mark.TheVariants.{Unseen, OnPath, Closed}
use Rattle.dp_units.specs.Graph.{HasEdge}
use Rattle.dp_units.specs.steps.Search.{IsPath, IsSearch, IsSettled, IsUnseen, IsMarked}
use Rattle.dp_units.proofs.AtLemmas.{at_within, at_none, at_one, at_push, at_last, at_kept, at_take, at_front, has_kept, has_push}
use Rattle.dp_units.proofs.PathLemmas.{down}
use Rattle.dp_units.proofs.EnterLemmas.{on_path_closed, unseen_closed, same_unit}

-- the marks after the part of the path from this place on was closed
pub record IsClosing (marks now : List Mark) (path : List ℕ) (bottom unit : ℕ) : Type 0 where
  pub each : length now ≡ length marks
  pub closed : (i v : ℕ) → bottom ≤ i → At path i v → At now v (Closed unit)
  pub kept : (v : ℕ) (m : Mark) → At marks v m → ((i : ℕ) → bottom ≤ i → At path i v → ⊥) → At now v m
  pub others : (v : ℕ) (m : Mark) → At now v m → At marks v m ⊎ ((m ≡ Closed unit) × (i : ℕ) × (bottom ≤ i) × At path i v)

pub at_drop : (n : ℕ) (xs : List ℕ) (i x : ℕ) → At (drop n xs) i x → At xs (n + i) x
at_drop zero xs i x e = let same : i ≡ 0 + i = omega arith in subst (λ k. At xs k x) same e
at_drop (suc n) [] i x e = absurd (at_none i x e)
at_drop (suc n) (y ∷ xs) i x e = let same : suc (n + i) ≡ suc n + i = omega arith in subst (λ k. At (y ∷ xs) k x) same (at_drop n xs i x e)

pub at_dropped : (n : ℕ) (xs : List ℕ) (i x : ℕ) → n ≤ i → At xs i x → At (drop n xs) (i - n) x
at_dropped zero xs i x h e = let same : i ≡ i - 0 = omega arith in subst (λ k. At xs k x) same e
at_dropped (suc n) [] i x h e = absurd (at_none i x e)
at_dropped (suc n) (y ∷ xs) zero x h e = absurd (omega (arith, h))
at_dropped (suc n) (y ∷ xs) (suc i) x h e = let same : i - n ≡ suc i - suc n = omega arith in
    subst (λ k. At (drop n xs) k x) same (at_dropped n xs i x (omega (arith, h)) e)

pub closing_of : (marks now : List Mark) (path : List ℕ) (bottom unit : ℕ) → IsMarked marks now (drop bottom path) unit → IsClosing marks now path bottom unit
closing_of marks now path bottom unit is = record {
  each = is.each;
  closed = λ i v low at. is.closed (i - bottom) v (at_dropped bottom path i v low at);
  kept = λ v m at none. is.kept v m at (λ i on. none (bottom + i) (omega arith) (at_drop bottom path i v on));
  others = λ v m at. elim (is.others v m at) [
    | inl old ↦ inl old
    | inr (same, has) ↦
        inr (same, bottom + has.0, omega arith, at_drop bottom path has.0 v has.1)
  ];
}

pub least_of : (path : List ℕ) (bottom l : ℕ) → ((i v : ℕ) → At (drop bottom path) i v → l ≤ v) → (i v : ℕ) → bottom ≤ i → At path i v → l ≤ v
least_of path bottom l least i v low at = least (i - bottom) v (at_dropped bottom path i v low at)

pub member_of : (path : List ℕ) (bottom l : ℕ) → Has (drop bottom path) l → (i : ℕ) × (bottom ≤ i) × At path i l
member_of path bottom l (i, at) = (bottom + i, omega arith, at_drop bottom path i l at)

module _ (n : ℕ) (edges : List (ℕ × ℕ)) (ms now : List Mark) (path bs : List ℕ) (t : ℕ) (ws : List (ℕ × ℕ)) (ls : List ℕ) (l : ℕ)
    (is : IsSearch n edges ms path (bs ++ t ∷ []) ws ls)
    (done : (i w : ℕ) → Has ws (i, w) → i < t) (closing : IsClosing ms now path t (length ls)) (least : (i v : ℕ) → t ≤ i → At path i v → l ≤ v)
    (leader : (i : ℕ) × (t ≤ i) × At path i l) where
  abbrev bs' : List ℕ
  bs' = bs ++ t ∷ []

  is_bottom : Has bs' t
  is_bottom = (length bs, at_last bs t)

  inside : t < length path
  inside = is.way.low t is_bottom

  below : (b : ℕ) → Has bs b → b < t
  below b (k, at) = is.way.rising k (length bs) b t (at_within bs k b at) (at_kept bs (t ∷ []) k b at) (at_last bs t)

  top : (b : ℕ) → Has bs' b → b ≤ t
  top b has = elim (has_push bs t b has) [
    | inl old ↦ let low = below b old in omega (arith, low)
    | inr same ↦ omega (arith, same)
  ]

  other_bottom : (b : ℕ) → b < t → Has bs' b → Has bs b
  other_bottom b h has = elim (has_push bs t b has) [ inl old ↦ old | inr same ↦ absurd (omega (arith, same, h)) ]

  -- what was marked as closed, or stands lower on the path, still is
  still : (v c : ℕ) → At ms v (Closed c) → At now v (Closed c)
  still v c at = closing.kept v (Closed c) at (λ i low on. on_path_closed i c (at_one ms v (OnPath i) (Closed c) (is.marked i v on) at))

  still_on : (v i : ℕ) → i < t → At path i v → At now v (OnPath i)
  still_on v i h on = closing.kept v (OnPath i) (is.marked i v on) (λ j low at.
      let same : OnPath j ≡ OnPath i = at_one ms v (OnPath j) (OnPath i) (is.marked j v at) (is.marked i v on) in
      let e : j ≡ i = cc same in omega (arith, e, low, h))

  -- a closed node was closed, or is of the new unit
  closed_cases : (c v : ℕ) → At now v (Closed c) → At ms v (Closed c) ⊎ ((c ≡ length ls) × (i : ℕ) × (t ≤ i) × At path i v)
  closed_cases c v at = elim (closing.others v (Closed c) at) [ inl old ↦ inl old | inr (same, i, low, on) ↦ inr (same_unit c (length ls) same, i, low, on) ]

  number : (c v : ℕ) → At ms v (Closed c) → c < length ls
  number c v at = let led = is.led c v at in at_within ls c led.0 led.1

  -- what an edge from the last group leads to is closed now
  leads_to : (i u w : ℕ) → t ≤ i → At path i u → HasEdge edges u w → (d : ℕ) × At now w (Closed d) × (d ≤ length ls)
  leads_to i u w low on edge = elim (is.looked i u w on edge) [
    | inl (inl (d, at)) ↦ (d, still w d at, (let h = number d w at in omega (arith, h)))
    | inl (inr (j, at, stays)) ↦ (length ls, closing.closed j w (stays t is_bottom low) (is.placed w j at), omega arith)
    | inr wait ↦ let h = done i w wait in absurd (omega (arith, h, low))
  ]

  settled_now : (i w : ℕ) → i < t → IsSettled ms bs' i w → IsSettled now bs i w
  settled_now i w h (inl (c, at)) = inl (c, still w c at)
  settled_now i w h (inr (j, at, stays)) = elim (cases_lt j t) [
    | inl low ↦ inr (j, still_on w j low (is.placed w j at), λ b has le. stays b (has_kept bs (t ∷ []) b has) le)
    | inr high ↦ inl (length ls, closing.closed j w high (is.placed w j at))
  ]

  short : length (take t path) ≡ t
  short = length-take-le t path (omega (arith, inside))

  pub closed_path : IsPath edges (take t path) bs
  closed_path = record {
    onward = λ i j a b h ati atj. is.way.onward i j a b h (at_take t path i a ati).1 (at_take t path j b atj).1;
    back = λ i a b ati atb.
        let at = at_take t path (i + 1) a ati in
        elim (is.way.back i a b at.1 (at_take t path i b atb).1) [ inl bottom ↦ inl (other_bottom (i + 1) at.0 bottom) | inr walk ↦ inr walk ];
    rising = λ i j a b h ati atj. is.way.rising i j a b h (at_kept bs (t ∷ []) i a ati) (at_kept bs (t ∷ []) j b atj);
    low = λ b has. let h = below b has in omega (arith, h, short);
    first = λ h. other_bottom 0 (omega (arith, h, short)) (is.way.first (omega (arith, inside)));
  }

  pub closed_group : IsSearch n edges now (take t path) bs ws (ls ++ l ∷ [])
  closed_group = record {
    each = closing.each ∙ is.each;
    placed = λ v i at. elim (closing.others v (OnPath i) at) [
      | inl old ↦ elim (cases_lt i t) [
        | inl low ↦ at_front t path i v low (is.placed v i old)
        | inr high ↦ absurd (on_path_closed i (length ls) (at_one now v (OnPath i) (Closed (length ls)) at (closing.closed i v high (is.placed v i old))))
      ]
      | inr (new, j, high, on) ↦ absurd (on_path_closed i (length ls) new)
    ];
    marked = λ i v at. let on = at_take t path i v at in still_on v i on.0 on.1;
    way = closed_path;
    waits = λ i w has. let from = is.waits i w has in (from.0, at_front t path i from.0 (done i w has) from.1, from.2);
    sorted = is.sorted;
    looked = λ i u w at edge. let on = at_take t path i u at in elim (is.looked i u w on.1 edge) [
      | inl fine ↦ inl (settled_now i w on.0 fine)
      | inr wait ↦ inr wait
    ];
    closed = λ c u w at edge. elim (closed_cases c u at) [
      | inl old ↦ let on = is.closed c u w old edge in (on.0, still w on.0 on.1, on.2)
      | inr (same, i, low, on) ↦ let to = leads_to i u w low on edge in (to.0, to.1, (let h = to.2 in omega (arith, h, same)))
    ];
    unit = λ c u w atu atw. elim (closed_cases c u atu) [
      | inl old ↦ elim (closed_cases c w atw) [
        | inl was ↦ is.unit c u w old was
        | inr new ↦ let h = number c u old in absurd (omega (arith, h, new.0))
      ]
      | inr (same, i, low, on) ↦ elim (closed_cases c w atw) [
        | inl was ↦ let h = number c w was in absurd (omega (arith, h, same))
        | inr (also, j, high, at) ↦ elim (cases_lt i j) [
          | inl before ↦ is.way.onward i j u w (omega (arith, before)) on at
          | inr behind ↦ down edges path bs' is.way t top i j u w high behind on at
        ]
      ]
    ];
    led = λ c u at. elim (closed_cases c u at) [
      | inl old ↦ let led = is.led c u old in (led.0, at_kept ls (l ∷ []) c led.0 led.1, led.2)
      | inr (same, i, low, on) ↦ (l, subst (λ k. At (ls ++ l ∷ []) k l) (sym same) (at_last ls l), least i u low on)
    ];
    leads = λ c x at. elim (at_push ls l c x at) [
      | inl old ↦ still x c (is.leads c x old)
      | inr new ↦ subst (λ k. At now x (Closed k)) (sym new.0) (subst (λ y. At now y (Closed (length ls))) (sym new.1)
          (closing.closed leader.0 l leader.1 leader.2))
    ];
  }

  pub unseen_still : (v : ℕ) → IsUnseen now v → IsUnseen ms v
  unseen_still v at = elim (closing.others v Unseen at) [ inl old ↦ old | inr (new, j, high, on) ↦ absurd (unseen_closed (length ls) new) ]
