-- The search meets a node, or settles an edge.
use Rattle.std.proofs.Common.{◌≡◌, ◌⊎◌, inl, inr, sym, subst, ◌∙◌, ap, arith, ℕ, ◌<◌, ◌≤◌, List, [], ◌∷◌, ◌++◌, length, map}
use Rattle.std.proofs.Math.ListN.{set, length-set}
use Rattle.dp_units.specs.steps.Entries.{At, Has, Rises}
use Rattle.dp_units.specs.declared.mark.Mark.{Mark}
use Rattle.dp_units.specs.declared.mark.Mark.TheVariants.{Unseen, OnPath, Closed}
use Rattle.dp_units.specs.Graph.{Walk, HasEdge}
use Rattle.dp_units.specs.steps.Search.{IsPath, IsSearch, IsSettled, IsUnseen}
use Rattle.dp_units.proofs.AtLemmas.{at_within, at_one, at_push, at_last, at_kept, at_append, at_map, at_mapped, at_set, at_unset, has_kept, has_added}
use Rattle.dp_units.proofs.AtLemmas.{has_append, has_push}
use Rattle.dp_units.proofs.PathLemmas.{longer, joined}
use Rattle.dp_room.proofs.ListLemmas.{get_set_same}

pub unseen_on_path : (i : ℕ) → Unseen ≡ OnPath i → ⊥
unseen_on_path i e = cc e

pub unseen_closed : (c : ℕ) → Unseen ≡ Closed c → ⊥
unseen_closed c e = cc e

pub on_path_closed : (i c : ℕ) → OnPath i ≡ Closed c → ⊥
on_path_closed i c e = cc e

pub same_place : (i j : ℕ) → OnPath i ≡ OnPath j → i ≡ j
same_place i j e = cc e

pub same_unit : (i j : ℕ) → Closed i ≡ Closed j → i ≡ j
same_unit i j e = cc e

pub pair_first : (a b c d : ℕ) → ◌≡◌ {A = ℕ × ℕ} (a, b) (c, d) → a ≡ c
pair_first a b c d e = ap (λ (x : ℕ × ℕ). x.0) e

pub pair_second : (a b c d : ℕ) → ◌≡◌ {A = ℕ × ℕ} (a, b) (c, d) → b ≡ d
pair_second a b c d e = ap (λ (x : ℕ × ℕ). x.1) e

module _ (n : ℕ) (edges : List (ℕ × ℕ)) (ms : List Mark) (path bs : List ℕ) (ws : List (ℕ × ℕ)) (ls : List ℕ) (is : IsSearch n edges ms path bs ws ls) where
  -- a node that wasn't met goes onto the path, and its edges wait
  module _ (v : ℕ) (row : List ℕ) (within : v < n) (unseen : IsUnseen ms v) (reach : (i a : ℕ) → At path i a → Walk edges a v)
      (there : (w : ℕ) → Has row w → HasEdge edges v w) (all : (w : ℕ) → HasEdge edges v w → Has row w) where
    abbrev now : List Mark
    now = set ms v (OnPath (length path))

    abbrev more : List (ℕ × ℕ)
    more = ws ++ map (λ w. (length path, w)) row

    abbrev path' : List ℕ
    path' = path ++ v ∷ []

    abbrev bs' : List ℕ
    bs' = bs ++ length path ∷ []

    long : v < length ms
    long = subst (λ k. v < k) (sym is.each) within

    here : At now v (OnPath (length path))
    here = get_set_same ms v (OnPath (length path)) long

    -- a mark that isn't Unseen is still there
    still : (u : ℕ) (m : Mark) → (Unseen ≡ m → ⊥) → At ms u m → At now u m
    still u m met at = at_unset ms v (OnPath (length path)) u m (λ e. met (at_one ms v Unseen m unseen (subst (λ k. At ms k m) e at))) at

    closed_before : (u c : ℕ) → At now u (Closed c) → At ms u (Closed c)
    closed_before u c at = elim (at_set ms v (OnPath (length path)) u (Closed c) long at) [
      | inl new ↦ absurd (on_path_closed (length path) c (sym new.1))
      | inr old ↦ old.1
    ]

    still_settled : (i w : ℕ) → i < length path → IsSettled ms bs i w → IsSettled now bs' i w
    still_settled i w h (inl (c, at)) = inl (c, still w (Closed c) (unseen_closed c) at)
    still_settled i w h (inr (j, at, low)) = inr (
      j,
      still w (OnPath j) (unseen_on_path j) at,
      λ b has le. elim (has_push bs (length path) b has) [ inl old ↦ low b old le | inr new ↦ absurd (omega (arith, h, le, new)) ],
    )

    waits_more : (i w : ℕ) → Has more (i, w) → Has ws (i, w) ⊎ ((i ≡ length path) × Has row w)
    waits_more i w has = elim (has_append ws (map (λ w. (length path, w)) row) (i, w) has) [
      | inl old ↦ inl old
      | inr (k, at) ↦
          let m = at_map (λ w. (length path, w)) row k (i, w) at in
          inr (pair_first i w (length path) m.0 m.2, (k, subst (λ x. At row k x) (sym (pair_second i w (length path) m.0 m.2)) m.1))
    ]

    pub entered : IsSearch n edges now path' bs' more ls
    entered = record {
      each = length-set ms v (OnPath (length path)) ∙ is.each;
      placed = λ u i at. elim (at_set ms v (OnPath (length path)) u (OnPath i) long at) [
        | inl new ↦ subst (λ x. At path' i x) (sym new.0) (subst (λ k. At path' k v) (sym (same_place i (length path) new.1)) (at_last path v))
        | inr old ↦ at_kept path (v ∷ []) i u (is.placed u i old.1)
      ];
      marked = λ i u at. elim (at_push path v i u at) [
        | inl old ↦ still u (OnPath i) (unseen_on_path i) (is.marked i u old)
        | inr new ↦ subst (λ x. At now x (OnPath i)) (sym new.1) (subst (λ k. At now v (OnPath k)) (sym new.0) here)
      ];
      way = longer edges path bs is.way v reach;
      waits = λ i w has. elim (waits_more i w has) [
        | inl old ↦ let from = is.waits i w old in (from.0, at_kept path (v ∷ []) i from.0 from.1, from.2)
        | inr new ↦ (v, subst (λ k. At path' k v) (sym new.0) (at_last path v), there w new.1)
      ];
      sorted = λ k m i j a b h atk atm. elim (at_append ws (map (λ w. (length path, w)) row) m (j, b) atm) [
        | inl old ↦ elim (at_append ws (map (λ w. (length path, w)) row) k (i, a) atk) [
          | inl was ↦ is.sorted k m i j a b h was old
          | inr new ↦ let w = at_within ws m (j, b) old in absurd (omega (arith, w, h, new.1))
        ]
        | inr (q, at, target) ↦
            let last = at_map (λ w. (length path, w)) row q (j, b) target in
            let e : j ≡ length path = pair_first j b (length path) last.0 last.2 in
            elim (waits_more i a (k, atk)) [
              | inl old ↦ let from = is.waits i a old in let w = at_within path i from.0 from.1 in omega (arith, w, e)
              | inr new ↦ omega (arith, new.0, e)
            ]
      ];
      looked = λ i u w at edge. elim (at_push path v i u at) [
        | inl old ↦ elim (is.looked i u w old edge) [
          | inl done ↦ inl (still_settled i w (at_within path i u old) done)
          | inr wait ↦ inr (has_kept ws (map (λ w. (length path, w)) row) (i, w) wait)
        ]
        | inr new ↦
            let has = all w (subst (λ x. HasEdge edges x w) new.1 edge) in
            inr (subst (λ k. Has more (k, w)) (sym new.0) (has_added ws (map (λ w. (length path, w)) row) (length path, w)
            (has.0, at_mapped (λ w. (length path, w)) row has.0 w has.1)))
      ];
      closed = λ c u w at edge. let on = is.closed c u w (closed_before u c at) edge in (on.0, still w (Closed on.0) (unseen_closed on.0) on.1, on.2);
      unit = λ c u w atu atw. is.unit c u w (closed_before u c atu) (closed_before w c atw);
      led = λ c u at. is.led c u (closed_before u c at);
      leads = λ c l at. still l (Closed c) (unseen_closed c) (is.leads c l at);
    }

    pub unseen_before : (u : ℕ) → IsUnseen now u → IsUnseen ms u
    unseen_before u at = elim (at_set ms v (OnPath (length path)) u Unseen long at) [ inl new ↦ absurd (unseen_on_path (length path) new.1) | inr old ↦ old.1 ]

  -- fewer groups, of which each began before
  pub regrouped : (kept : List ℕ) → IsPath edges path kept → ((b : ℕ) → Has kept b → Has bs b) → IsSearch n edges ms path kept ws ls
  regrouped kept way old = record {
    each = is.each;
    placed = is.placed;
    marked = is.marked;
    way = way;
    waits = is.waits;
    sorted = is.sorted;
    looked = λ i u x atu edge. elim (is.looked i u x atu edge) [
      | inl (inl closed) ↦ inl (inl closed)
      | inl (inr (k, on, low)) ↦ inl (inr (k, on, λ b has le. low b (old b has) le))
      | inr waits ↦ inr waits
    ];
    closed = is.closed;
    unit = is.unit;
    led = is.led;
    leads = is.leads;
  }

  -- the groups down to place j grow together
  pub grown : (t : ℕ) → ((b : ℕ) → Has bs b → b ≤ t) → (p j w : ℕ) → t ≤ p → Has ws (p, w) → At ms w (OnPath j) →
      (kept : List ℕ) → Rises kept → ((b : ℕ) → Has kept b → Has bs b) → ((b : ℕ) → Has bs b → b ≤ j → Has kept b) → IsSearch n edges ms path kept ws ls
  grown t top p j w low wait at kept rises old lower =
      let from = is.waits p w wait in
      regrouped kept (joined edges path bs is.way t top p j from.0 w low from.1 (is.placed w j at) from.2 kept rises old lower) old

-- a settled edge needs to wait no longer
pub settled : (n : ℕ) (edges : List (ℕ × ℕ)) (ms : List Mark) (path bs : List ℕ) (ws : List (ℕ × ℕ)) (ls : List ℕ) (p w : ℕ) →
    IsSearch n edges ms path bs (ws ++ (p, w) ∷ []) ls → IsSettled ms bs p w → IsSearch n edges ms path bs ws ls
settled n edges ms path bs ws ls p w is done = record {
  each = is.each;
  placed = is.placed;
  marked = is.marked;
  way = is.way;
  waits = λ i x has. is.waits i x (has_kept ws ((p, w) ∷ []) (i, x) has);
  sorted = λ k m i j a b h atk atm. is.sorted k m i j a b h (at_kept ws ((p, w) ∷ []) k (i, a) atk) (at_kept ws ((p, w) ∷ []) m (j, b) atm);
  looked = λ i u x at edge. elim (is.looked i u x at edge) [
    | inl fine ↦ inl fine
    | inr wait ↦ elim (has_push ws (p, w) (i, x) wait) [
      | inl old ↦ inr old
      | inr it ↦ inl (subst (λ k. IsSettled ms bs k x) (sym (pair_first i x p w it)) (subst (λ y. IsSettled ms bs p y) (sym (pair_second i x p w it)) done))
    ]
  ];
  closed = is.closed;
  unit = is.unit;
  led = is.led;
  leads = is.leads;
}
