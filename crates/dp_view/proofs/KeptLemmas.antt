-- What is kept beside the memories stays right, and brings them to where an iteration or an epoch begins.
use Rattle.dp_semantics.proofs.Names.{◌≡◌, inl, inr, refl, sym, ap, ◌∙◌, subst, arith, ℕ, zero, suc, ◌+◌, ◌<◌, if◌then◌else◌, Bool, true, false, List, [], ◌∷◌}
use Rattle.dp_semantics.proofs.Names.{ℤ, pos, length, length-map, length-replicate, get_or-replicate, map, replicate, get_or, nat_le, cases_Bool, Program, Plan}
use Rattle.dp_semantics.proofs.Names.{Effect, stored, clear_locals, is_replicated, int_eq, Decides-int_eq, not}
use Rattle.std.proofs.lemmas.List.{ext_get_or}
use Rattle.dp_tree.proofs.InMain.{cleared_length, stored_length}
use Rattle.dp_meaning.specs.declared.sight.Effect.{Effect as Seen}
use Rattle.dp_meaning.specs.declared.sight.Effect.TheVariants as seen
use Rattle.dp_plan.specs.Written.{has}
use Rattle.dp_semantics.specs.Seen.{is_local_at}
use Rattle.dp_semantics.specs.CauseWalk.{next_from, no_words}
use Rattle.dp_semantics.specs.EpochCauses.{views_from}
use Rattle.dp_theorem.proofs.Fitting.{accepted}
use Rattle.dp_theorem.proofs.Memory.{clear-at, clear-other}
use Rattle.dp_view.specs.Marked.{Marked, with_effect, none_marked}
use Rattle.dp_view.specs.Memories.{cleared_cells, refreshed, shown_to_stages, Neighbours}
use Rattle.dp_view.specs.Viewed.{effect_of}
use Rattle.dp_view.specs.Changed.{Cleared, differs}
use Rattle.dp_view.specs.Kept.{IsKept}
use Rattle.dp_view.proofs.CellLemmas.{clear_local_cells, copied_both, locals_has, unmarked, unset_reads}
use Rattle.dp_view.proofs.StageLemmas.{from_at, from-length, map_at, seen_at, seen_own, shown-length, shown_is}

-- marks that grow
pub record Grows (old new : Marked) : Type 0 where
  pub size : new.size ≡ old.size
  pub keeps : (c : ℕ) → has c new.cells ≡ false → has c old.cells ≡ false

effect_grows : (effect : Seen) (m : Marked) → Grows m (with_effect effect m)
effect_grows (seen.Stored x z) m = record { size = refl; keeps = λ c out. (unmarked c x m out).0 }
effect_grows (seen.Printed z) m = record { size = refl; keeps = λ c out. out }
effect_grows (seen.Decided z) m = record { size = refl; keeps = λ c out. out }
effect_grows (seen.Tried z) m = record { size = refl; keeps = λ c out. out }

pub grows_by : (effect : Seen) (old new : Marked) → new ≡ with_effect effect old → Grows old new
grows_by effect old new is = subst (Grows old) (sym is) (effect_grows effect old)

pub grows_not : (old new : Marked) → new ≡ old → Grows old new
grows_not old new is = subst (Grows old) (sym is) (record { size = refl; keeps = λ c out. out })

-- a cell that isn't marked reads as before the effect
effect_reads : (effect : Seen) (m : Marked) (cells : List ℤ) → m.size ≡ length cells → (c : ℕ) → has c (with_effect effect m).cells ≡ false →
    get_or (stored (effect_of effect) cells) c (pos 0) ≡ get_or cells c (pos 0)
effect_reads (seen.Stored x z) m cells size c out = unset_reads c x z m cells size (unmarked c x m out).1
effect_reads (seen.Printed z) m cells size c out = refl
effect_reads (seen.Decided z) m cells size c out = refl
effect_reads (seen.Tried z) m cells size c out = refl

pub zeros : (counts : List ℕ) → no_words counts ≡ replicate (length counts) 0
zeros [] = refl
zeros (n ∷ rest) = ap (λ (xs : List ℕ). 0 ∷ xs) (zeros rest)

module _ {p : Program} {plan : Plan} {views : List (List ℤ)} {counts : List ℕ} {source before : List ℤ} {locals : List ℕ} {st si : Marked}
    (k : IsKept p plan views counts source before locals st si) where
  pub kept_more : (counts' : List ℕ) (st' si' : Marked) → length counts' ≡ length counts → Grows st st' → Grows si si' →
      IsKept p plan views counts' source before locals st' si'
  kept_more counts' st' si' size gs gi = record {
    fits = k.fits;
    tabled = k.tabled;
    locals_are = k.locals_are;
    views_are = k.views_are;
    counts_are = size ∙ k.counts_are;
    sizes = k.sizes;
    before_size = k.before_size;
    stored_size = gs.size ∙ k.stored_size;
    since_size = gi.size ∙ k.since_size;
    lately = λ j h c local out. k.lately j h c local (gi.keeps c out);
    shared = λ j h r c local out. k.shared j h r c local (gs.keeps c out);
    past = λ c local out. k.past c local (gs.keeps c out);
  }

  module _ (effect : Seen) where
    abbrev e : Effect
    e = effect_of effect

    -- the effect is made in the source's memory
    made : IsKept p plan views counts (stored e source) before locals (with_effect effect st) (with_effect effect si)
    made = record {
      fits = k.fits;
      tabled = k.tabled;
      locals_are = k.locals_are;
      views_are = k.views_are;
      counts_are = k.counts_are;
      sizes = λ j h. k.sizes j h ∙ sym (stored_length e source);
      before_size = k.before_size ∙ sym (stored_length e source);
      stored_size = (effect_grows effect st).size ∙ k.stored_size ∙ sym (stored_length e source);
      since_size = (effect_grows effect si).size ∙ k.since_size ∙ sym (stored_length e source);
      lately = λ j h c local out. k.lately j h c local ((effect_grows effect si).keeps c out) ∙ sym (effect_reads effect si source k.since_size c out);
      shared = λ j h r c local out. k.shared j h r c local ((effect_grows effect st).keeps c out);
      past = λ c local out. k.past c local ((effect_grows effect st).keeps c out) ∙ sym (effect_reads effect st source k.stored_size c out);
    }

    pub kept_passed : (source' : List ℤ) (st' si' : Marked) → source' ≡ stored e source → st' ≡ with_effect effect st → si' ≡ with_effect effect si →
        IsKept p plan views counts source' before locals st' si'
    kept_passed source' st' si' s t i =
        subst (λ (x : List ℤ). IsKept p plan views counts x before locals st' si') (sym s)
        (subst (λ (x : Marked). IsKept p plan views counts (stored e source) before locals x si') (sym t)
        (subst (λ (x : Marked). IsKept p plan views counts (stored e source) before locals (with_effect effect st) x) (sym i) made))

    module _ (stage : ℕ) where
      abbrev shown : List (List ℤ)
      shown = shown_to_stages stage e 1 views

      read_as : (j : ℕ) → j < length views → (m : Marked) → m.size ≡ length source → (c : ℕ) → has c (with_effect effect m).cells ≡ false →
          get_or (get_or shown j []) c (pos 0) ≡ get_or (get_or views j []) c (pos 0)
      read_as j h m size c out = ap (λ (v : List ℤ). get_or v c (pos 0)) (shown_is stage e 1 views j h) ∙ elim (cases_Bool (nat_le stage (1 + j))) [
        | inl q ↦ rw q (effect_reads effect m (get_or views j []) (size ∙ sym (k.sizes j h)) c out)
        | inr q ↦ rw q refl
      ]

      size_as : (j : ℕ) → j < length views → length (get_or shown j []) ≡ length (get_or views j [])
      size_as j h = ap length (shown_is stage e 1 views j h) ∙ elim (cases_Bool (nat_le stage (1 + j))) [
        | inl q ↦ rw q (stored_length e (get_or views j []))
        | inr q ↦ rw q refl
      ]

      all : length shown ≡ length views
      all = shown-length stage e 1 views

      -- .. and in the memories of the stages that see it
      looked : (counts' : List ℕ) → length counts' ≡ length counts → IsKept p plan shown counts' (stored e source) before locals (with_effect effect st)
          (with_effect effect si)
      looked counts' size = record {
        fits = k.fits;
        tabled = k.tabled;
        locals_are = k.locals_are;
        views_are = all ∙ k.views_are;
        counts_are = size ∙ k.counts_are;
        sizes = λ j h. let less : j < length views = omega (arith, h, all) in size_as j less ∙ k.sizes j less ∙ sym (stored_length e source);
        before_size = made.before_size;
        stored_size = made.stored_size;
        since_size = made.since_size;
        lately = λ j h c local out. let less : j < length views = omega (arith, h, all) in
            read_as j less si k.since_size c out ∙ made.lately j less c local out;
        shared = λ j h r c local out.
            let less : suc j < length views = omega (arith, h, all) in
            let low : j < length views = omega (arith, less) in
            read_as j low st k.stored_size c out ∙ made.shared j less r c local out ∙ sym (read_as (suc j) less st k.stored_size c out);
        past = made.past;
      }

      pub kept_looked : (views' : List (List ℤ)) (counts' : List ℕ) (source' : List ℤ) (st' si' : Marked) → views' ≡ shown → length counts' ≡ length counts →
          source' ≡ stored e source → st' ≡ with_effect effect st → si' ≡ with_effect effect si →
          IsKept p plan views' counts' source' before locals st' si'
      kept_looked views' counts' source' st' si' v n s t i =
          subst (λ (x : List (List ℤ)). IsKept p plan x counts' source' before locals st' si') (sym v)
          (subst (λ (x : List ℤ). IsKept p plan shown counts' x before locals st' si') (sym s)
          (subst (λ (x : Marked). IsKept p plan shown counts' (stored e source) before locals x si') (sym t)
          (subst (λ (x : Marked). IsKept p plan shown counts' (stored e source) before locals (with_effect effect st) x) (sym i) (looked counts' n))))

  -- ---- body locals

  abbrev clear : List ℤ → List ℤ
  clear cells = clear_locals plan.region p.vars cells

  pub clears : (cells : List ℤ) → cleared_cells locals cells ≡ clear_locals plan.region p.vars cells
  clears cells = ap (λ (ls : List ℕ). cleared_cells ls cells) k.locals_are ∙ clear_local_cells plan.region p.vars cells

  no_local : (c : ℕ) → has c locals ≡ false → is_local_at p plan c ≡ false
  no_local c out = sym (locals_has plan.region c p.vars) ∙ ap (has c) (sym k.locals_are) ∙ out

  cleared_reads : (cells : List ℤ) (c : ℕ) → is_local_at p plan c ≡ false → get_or (cleared_cells locals cells) c (pos 0) ≡ get_or cells c (pos 0)
  cleared_reads cells c local = ap (λ (v : List ℤ). get_or v c (pos 0)) (clears cells) ∙ clear-other plan.region c p.vars cells local

  cleared_size : (cells : List ℤ) → length (cleared_cells locals cells) ≡ length cells
  cleared_size cells = ap length (clears cells) ∙ cleared_length plan.region p.vars cells

  pub kept_settled : (source' : List ℤ) → source' ≡ cleared_cells locals source → IsKept p plan views counts source' before locals st si
  kept_settled source' is = subst (λ (x : List ℤ). IsKept p plan views counts x before locals st si) (sym is) (record {
    fits = k.fits;
    tabled = k.tabled;
    locals_are = k.locals_are;
    views_are = k.views_are;
    counts_are = k.counts_are;
    sizes = λ j h. k.sizes j h ∙ sym (cleared_size source);
    before_size = k.before_size ∙ sym (cleared_size source);
    stored_size = k.stored_size ∙ sym (cleared_size source);
    since_size = k.since_size ∙ sym (cleared_size source);
    lately = λ j h c local out. k.lately j h c local out ∙ sym (cleared_reads source c local);
    shared = k.shared;
    past = λ c local out. k.past c local out ∙ sym (cleared_reads source c local);
  })

  -- ---- the next iteration

  pub before_is : refreshed source locals st.cells before ≡ source
  before_is = copied_both source locals st.cells before k.before_size (λ c outer out. k.past c (no_local c outer) out)

  abbrev pub cleared : List (List ℤ)
  cleared = map (cleared_cells locals) views

  cleared_at : (j : ℕ) → j < length views → get_or cleared j [] ≡ cleared_cells locals (get_or views j [])
  cleared_at j h = map_at (cleared_cells locals) views j h

  cleared-length : length cleared ≡ length views
  cleared-length = length-map views (cleared_cells locals)

  clear_alike : (c : ℕ) (one other : List ℤ) → (is_local_at p plan c ≡ false → get_or one c (pos 0) ≡ get_or other c (pos 0)) →
      get_or (cleared_cells locals one) c (pos 0) ≡ get_or (cleared_cells locals other) c (pos 0)
  clear_alike c one other same = elim (cases_Bool (is_local_at p plan c)) [
    | inl local ↦ ap (λ (v : List ℤ). get_or v c (pos 0)) (clears one) ∙ clear-at plan.region c p.vars one (inl local)
        ∙ sym (ap (λ (v : List ℤ). get_or v c (pos 0)) (clears other) ∙ clear-at plan.region c p.vars other (inl local))
    | inr outer ↦ cleared_reads one c outer ∙ same outer ∙ sym (cleared_reads other c outer)
  ]

  pub near : Neighbours plan st.cells cleared
  near = record {
    first = (accepted p plan k.fits).sequential;
    apart = (accepted p plan k.fits).apart;
    alike = λ j h r.
        let less : suc j < length views = omega (arith, h, cleared-length) in
        let low : j < length views = omega (arith, less) in
        record {
          size = ap length (cleared_at j low) ∙ cleared_size (get_or views j []) ∙ k.sizes j low
              ∙ sym (ap length (cleared_at (suc j) less) ∙ cleared_size (get_or views (suc j) []) ∙ k.sizes (suc j) less);
          reads = λ c out. ap (λ (v : List ℤ). get_or v c (pos 0)) (cleared_at j low) ∙ clear_alike c (get_or views j []) (get_or views (suc j) [])
              (λ outer. k.shared j less r c outer out) ∙ sym (ap (λ (v : List ℤ). get_or v c (pos 0)) (cleared_at (suc j) less));
        };
  }

  pub next_same : (s : ℕ) (first : List ℤ) (all : List (List ℤ)) → views_from plan s first (map (cleared_cells locals) all) ≡ next_from p plan s first all
  next_same s first [] = refl
  next_same s first (view ∷ rest) =
      let own : (if is_replicated plan s then first else cleared_cells locals view) ≡ (if is_replicated plan s then first else clear view) = ap
      (λ (v : List ℤ). if is_replicated plan s then first else v) (clears view) in
      ap (λ (v : List ℤ). v ∷ views_from plan (suc s) v (map (cleared_cells locals) rest)) own
      ∙ ap (λ (xs : List (List ℤ)). (if is_replicated plan s then first else clear view) ∷ xs)
      (next_same (suc s) (if is_replicated plan s then first else clear view) rest)

  abbrev next : List (List ℤ)
  next = views_from plan 1 [] cleared

  -- from what a call says of the memories that it was lent
  pub next_made : (cells others : List ℕ) (old made : List (List ℤ)) → cells ≡ st.cells → others ≡ locals → old ≡ views →
      (Neighbours plan cells (map (cleared_cells others) old) → made ≡ views_from plan 1 [] (map (cleared_cells others) old)) →
      made ≡ views_from plan 1 [] (map (cleared_cells locals) views)
  next_made cells others old made c l o call =
      subst (λ (x : List ℕ). Neighbours plan x (map (cleared_cells locals) views) → made ≡ views_from plan 1 [] (map (cleared_cells locals) views)) c
      (subst (λ (x : List ℕ). Neighbours plan cells (map (cleared_cells x) views) → made ≡ views_from plan 1 [] (map (cleared_cells x) views)) l
      (subst (λ (x : List (List ℤ)). Neighbours plan cells (map (cleared_cells others) x) → made ≡ views_from plan 1 [] (map (cleared_cells others) x)) o call))
      near

  pub next-length : length (views_from plan 1 [] (map (cleared_cells locals) views)) ≡ length views
  next-length = from-length plan st.cells cleared near 1 [] cleared ∙ cleared-length

  next_at : (j : ℕ) → j < length views → get_or next j [] ≡ seen_at plan cleared j
  next_at j h = from_at plan st.cells cleared near j (omega (arith, h, cleared-length))

  -- each memory is that of its own stage or of the one before it, cleared
  next_as : (P : List ℤ → Type 0) → ((j : ℕ) → j < length views → P (cleared_cells locals (get_or views j []))) → (j : ℕ) → j < length views →
      P (get_or next j [])
  next_as P each zero h = subst P (sym (next_at zero h ∙ cleared_at zero h)) (each zero h)
  next_as P each (suc j) h = elim (cases_Bool (is_replicated plan (suc (suc j)))) [
    | inl q ↦
        let low : j < length views = omega (arith, h) in
        subst P (sym (next_at (suc j) h ∙ ap (λ (b : Bool). if b then get_or cleared j [] else get_or cleared (suc j) []) q ∙ cleared_at j low)) (each j low)
    | inr q ↦ subst P (sym (next_at (suc j) h ∙ ap (λ (b : Bool). if b then get_or cleared j [] else get_or cleared (suc j) []) q
        ∙ cleared_at (suc j) h)) (each (suc j) h)
  ]

  onward : (counts' : List ℕ) → length counts' ≡ length counts → IsKept p plan next counts' source source locals (none_marked st.size) si
  onward counts' size = record {
    fits = k.fits;
    tabled = k.tabled;
    locals_are = k.locals_are;
    views_are = next-length ∙ k.views_are;
    counts_are = size ∙ k.counts_are;
    sizes = λ j h. next_as (λ (v : List ℤ). length v ≡ length source) (λ i l. cleared_size (get_or views i []) ∙ k.sizes i l) j (omega (arith, h, next-length));
    before_size = refl;
    stored_size = k.stored_size;
    since_size = k.since_size;
    lately = λ j h c local out. next_as (λ (v : List ℤ). get_or v c (pos 0) ≡ get_or source c (pos 0)) (λ i l. cleared_reads (get_or views i []) c local
        ∙ k.lately i l c local out) j (omega (arith, h, next-length));
    shared = λ j h r c local out.
        let less : suc j < length views = omega (arith, h, next-length) in
        let low : j < length views = omega (arith, less) in
        ap (λ (v : List ℤ). get_or v c (pos 0)) (next_at j low ∙ seen_own plan cleared j ((accepted p plan k.fits).apart (suc j) r)
        ∙ sym (next_at (suc j) less ∙ ap (λ (b : Bool). if b then get_or cleared j [] else get_or cleared (suc j) []) r));
    past = λ c local out. refl;
  }

  pub kept_onward : (views' : List (List ℤ)) (counts' : List ℕ) (before' : List ℤ) (st' : Marked) →
      views' ≡ views_from plan 1 [] (map (cleared_cells locals) views) → length counts' ≡ length counts → before' ≡ source → st' ≡ none_marked st.size →
      IsKept p plan views' counts' source before' locals st' si
  kept_onward views' counts' before' st' v n b t =
      subst (λ (x : List (List ℤ)). IsKept p plan x counts' source before' locals st' si) (sym v)
      (subst (λ (x : List ℤ). IsKept p plan next counts' source x locals st' si) (sym b)
      (subst (λ (x : Marked). IsKept p plan next counts' source source locals x si) (sym t) (onward counts' n)))

  -- ---- a new epoch

  -- the cells that changed are marked, where the body locals read 0
  pub differing : Cleared p plan before → Cleared p plan source → (c : ℕ) → differs before source c ≡ true → has c st.cells ≡ true
  differing low high c e = elim (cases_Bool (has c st.cells)) [
    | inl there ↦ there
    | inr out ↦
        let same : get_or before c (pos 0) ≡ get_or source c (pos 0) = elim (cases_Bool (is_local_at p plan c)) [
          | inl local ↦ low c local
              ∙ sym (high c local)
          | inr outer ↦ k.past c outer out
        ] in
        let equal : int_eq (get_or before c (pos 0)) (get_or source c (pos 0)) ≡ true =
        (Decides-int_eq (get_or before c (pos 0)) (get_or source c (pos 0))).1 same in
        let clash : false ≡ true = sym (ap not equal) ∙ e in absurd (cc clash)
  ]

  view_fresh : (j : ℕ) → j < length views → refreshed source locals si.cells (get_or views j []) ≡ source
  view_fresh j h = copied_both source locals si.cells (get_or views j []) (k.sizes j h) (λ c outer out. k.lately j h c (no_local c outer) out)

  pub views_fresh : map (refreshed source locals si.cells) views ≡ replicate (length plan.stages) source
  views_fresh = ext_get_or [] (map (refreshed source locals si.cells) views) (replicate (length plan.stages) source)
      (length-map views (refreshed source locals si.cells) ∙ k.views_are ∙ sym (length-replicate (length plan.stages) source))
      (λ j h. let less : j < length views = omega (arith, h, length-map views (refreshed source locals si.cells)) in
      map_at (refreshed source locals si.cells) views j less ∙ view_fresh j less
      ∙ sym (get_or-replicate (length plan.stages) j source [] (omega (arith, less, k.views_are))))

  abbrev fresh : List (List ℤ)
  fresh = replicate (length plan.stages) source

  fresh_at : (j : ℕ) → j < length fresh → get_or fresh j [] ≡ source
  fresh_at j h = get_or-replicate (length plan.stages) j source [] (omega (arith, h, length-replicate (length plan.stages) source))

  anew : (counts' : List ℕ) → length counts' ≡ length counts → IsKept p plan fresh counts' source source locals (none_marked st.size) (none_marked si.size)
  anew counts' size = record {
    fits = k.fits;
    tabled = k.tabled;
    locals_are = k.locals_are;
    views_are = length-replicate (length plan.stages) source;
    counts_are = size ∙ k.counts_are;
    sizes = λ j h. ap length (fresh_at j h);
    before_size = refl;
    stored_size = k.stored_size;
    since_size = k.since_size;
    lately = λ j h c local out. ap (λ (v : List ℤ). get_or v c (pos 0)) (fresh_at j h);
    shared = λ j h r c local out. ap (λ (v : List ℤ). get_or v c (pos 0)) (fresh_at j (omega (arith, h)) ∙ sym (fresh_at (suc j) h));
    past = λ c local out. refl;
  }

  pub kept_anew : (views' : List (List ℤ)) (counts' : List ℕ) (before' : List ℤ) (st' si' : Marked) → views' ≡ replicate (length plan.stages) source →
      length counts' ≡ length counts → before' ≡ source → st' ≡ none_marked st.size → si' ≡ none_marked si.size →
      IsKept p plan views' counts' source before' locals st' si'
  kept_anew views' counts' before' st' si' v n b t i =
      subst (λ (x : List (List ℤ)). IsKept p plan x counts' source before' locals st' si') (sym v)
      (subst (λ (x : List ℤ). IsKept p plan fresh counts' source x locals st' si') (sym b)
      (subst (λ (x : Marked). IsKept p plan fresh counts' source source locals x si') (sym t)
      (subst (λ (x : Marked). IsKept p plan fresh counts' source source locals (none_marked st.size) x) (sym i) (anew counts' n))))
