-- Columns that items are put into hold their queues.
use Rattle.std.proofs.Common.{◌≡◌, inl, inr, refl, sym, ap, subst, ◌∙◌, ℕ, zero, suc, ◌-◌, ◌==◌, ◌≤◌, ◌&&◌, if◌then◌else◌, Bool, true, false, List, [], ◌∷◌}
use Rattle.std.proofs.Common.{◌++◌, ℤ, set, get_or, slice_get, Option, Some, None, arith, eq-eqb, ne_eqb}
use Rattle.std.specs.List.{cons_option}
use Rattle.std.proofs.lemmas.Bool.{cases_eq}
use Rattle.std.proofs.lemmas.List.{append_assoc, append-nil}
use Rattle.std.proofs.lemmas.Option.{get_or_from_slice_get}
use Rattle.dp_base.specs.declared.SiteId.{SiteId}
use Rattle.dp_base.specs.declared.WordKind.{WordKind}
use Rattle.dp_base.specs.declared.WordKind.TheVariants as word
use Rattle.dp_tree.specs.Eval.{Load}
use Rattle.dp_net.specs.NetItems.{Item, Said, Net}
use Rattle.dp_lean.specs.Queues.{Told, Did, DidBlock, told_at, told_in, loads_told}
use Rattle.dp_columns.specs.Columned.{Columned, added_at, with_told, with_load, loads_ended}
use Rattle.dp_columns.specs.Telling.{item_site, AllFrom, put_item, put_items}

module _ {X : Type 0} where
  set_here : (xs : List X) (i : ℕ) (x y : X) → slice_get xs i ≡ Some x → slice_get (set xs i y) i ≡ Some y
  set_here [] i x y e = absurd (cc e)
  set_here (z ∷ xs) zero x y e = refl
  set_here (z ∷ xs) (suc i) x y e = set_here xs i x y e

  set_there : (xs : List X) (i j : ℕ) (y : X) → (i ≡ j → ⊥) → slice_get (set xs i y) j ≡ slice_get xs j
  set_there [] i j y apart = refl
  set_there (z ∷ xs) zero zero y apart = absurd (apart refl)
  set_there (z ∷ xs) zero (suc j) y apart = refl
  set_there (z ∷ xs) (suc i) zero y apart = refl
  set_there (z ∷ xs) (suc i) (suc j) y apart = set_there xs i j y (λ e. apart (ap suc e))

added_here : {X : Type 0} (xs : List (List X)) (i : ℕ) (q : List X) (x : X) → slice_get xs i ≡ Some q → slice_get (added_at i x xs) i ≡ Some (q ++ x ∷ [])
added_here xs i q x e = set_here xs i q (get_or xs i [] ++ x ∷ []) e ∙ ap (λ (g : List _). Some (g ++ x ∷ [])) (get_or_from_slice_get xs i q [] e)

-- what is told at once
abbrev told_now : Option Told → List Told
told_now None = []
told_now (Some t) = t ∷ []

places_apart : (first a b : ℕ) → first ≤ a → first ≤ b → (a ≡ b → ⊥) → a - first ≡ b - first → ⊥
places_apart first a b la lb apart e = apart (omega (arith, la, lb, e))

module _ (first : ℕ) (is_kept is_compared : ℕ → Bool) (y : ℕ) (le : first ≤ y) where
  abbrev pub put : Item → Columned → Columned
  put = put_item first is_kept is_compared

  -- of a site that is kept
  module _ (kept : is_kept y ≡ true) where
    grown : (b : Bool) (site : ℕ) (t : Told) (k : Columned) (queue : List Told) → is_kept site ≡ b → first ≤ site → slice_get k.told (y - first) ≡ Some queue →
        slice_get (if b then with_told (site - first) t k else k).told (y - first) ≡ Some (queue ++ told_now (if site == y then Some t else None))
    grown b site t k queue is from at = elim (cases_eq site y) [
      | inl same ↦ here b is same
      | inr other ↦ there b (λ e. places_apart first site y from le other e) ∙ at ∙ ap Some (sym (append-nil queue))
          ∙ ap (λ (c : Bool). Some (queue ++ told_now (if c then Some t else None))) (sym (ne_eqb site y other))
    ]
      where
        there : (b : Bool) → (site - first ≡ y - first → ⊥) → slice_get (if b then with_told (site - first) t k else k).told (y - first)
            ≡ slice_get k.told (y - first)
        there true apart = set_there k.told (site - first) (y - first) (get_or k.told (site - first) [] ++ t ∷ []) apart
        there false apart = refl

        here : (b : Bool) → is_kept site ≡ b → site ≡ y →
            slice_get (if b then with_told (site - first) t k else k).told (y - first) ≡ Some (queue ++ told_now (if site == y then Some t else None))
        here true is same =
            ap (λ (n : ℕ). slice_get (added_at (n - first) t k.told) (y - first)) same ∙ added_here k.told (y - first) queue t at
            ∙ ap (λ (c : Bool). Some (queue ++ told_now (if c then Some t else None))) (sym (eq-eqb site y same))
        here false is same = absurd (cc (sym is ∙ ap is_kept same ∙ kept))

    -- loads tell nothing of what was done
    ended_told : (b : Bool) (p : ℕ) (k : Columned) → (if b then loads_ended p k else k).told ≡ k.told
    ended_told true p k = refl
    ended_told false p k = refl

    loaded_told : (b : Bool) (p : ℕ) (l : Load) (k : Columned) → (if b then with_load p l k else k).told ≡ k.told
    loaded_told true p l k = refl
    loaded_told false p l k = refl

    with_kind : (b c : Bool) (t : Told) → c ≡ true → told_now (if b then Some t else None) ≡ told_now (if b && c then Some t else None)
    with_kind true c t e = ap (λ (d : Bool). told_now (if d then Some t else None)) (sym e)
    with_kind false c t e = refl

    no_kind : (b : Bool) (t : Told) → [] ≡ told_now (if b && false then Some t else None)
    no_kind true t = refl
    no_kind false t = refl

    word_step : (site : SiteId) (kind : WordKind) (index : ℕ) (value : ℤ) (k : Columned) (queue : List Told) → first ≤ site.0 →
        slice_get k.told (y - first) ≡ Some queue →
        slice_get (put (Said (record { site = site; kind = kind; index = index; value = value })) k).told (y - first)
        ≡ Some (queue ++ told_now (told_at y (Said (record { site = site; kind = kind; index = index; value = value }))))
    word_step site word.Load index value k queue from at =
        ap (λ (q : List (List Told)). slice_get q (y - first)) (loaded_told (is_compared site.0) (site.0 - first) (record { cell = index; value = value }) k)
        ∙ at
        ∙ ap Some (sym (append-nil queue)) ∙ ap (λ (ts : List Told). Some (queue ++ ts)) (no_kind (site.0 == y) (Did index value))
    word_step site word.Done index value k queue from at =
        ap (λ (q : List (List Told)). slice_get q (y - first))
        (ended_told (is_compared site.0) (site.0 - first) (if is_kept site.0 then with_told (site.0 - first) (Did index value) k else k))
        ∙ grown (is_kept site.0) site.0 (Did index value) k queue refl from at
        ∙ ap (λ (ts : List Told). Some (queue ++ ts)) (with_kind (site.0 == y) true (Did index value) refl)

    step : (i : Item) (k : Columned) (queue : List Told) → first ≤ item_site i → slice_get k.told (y - first) ≡ Some queue →
        slice_get (put i k).told (y - first) ≡ Some (queue ++ told_now (told_at y i))
    step (Said w) k queue from at = word_step w.site w.kind w.index w.value k queue from at
    step (Net f count stores) k queue from at = grown (is_kept f) f (DidBlock stores) k queue refl from at

    told_more : (i : Item) (rest : List Item) → told_now (told_at y i) ++ told_in y rest ≡ told_in y (i ∷ rest)
    told_more i rest = by (told_at y i)
      where
        by : (o : Option Told) → told_now o ++ told_in y rest ≡ cons_option o (told_in y rest)
        by None = refl
        by (Some t) = refl

    pub told_held : (items : List Item) → AllFrom first items → (k : Columned) (queue : List Told) → slice_get k.told (y - first) ≡ Some queue →
        slice_get (put_items first is_kept is_compared items k).told (y - first) ≡ Some (queue ++ told_in y items)
    told_held [] from k queue at = at ∙ ap Some (sym (append-nil queue))
    told_held (i ∷ rest) from k queue at =
        told_held rest from.1 (put i k) (queue ++ told_now (told_at y i)) (step i k queue from.0 at)
        ∙ ap Some (append_assoc queue (told_now (told_at y i)) (told_in y rest) ∙ ap (λ (ts : List Told). queue ++ ts) (told_more i rest))

  -- of a site whose loads are compared
  module _ (compared : is_compared y ≡ true) where
    kept_loads : (b : Bool) (p : ℕ) (t : Told) (k : Columned) → ((if b then with_told p t k else k).loads ≡ k.loads)
        × ((if b then with_told p t k else k).loading ≡ k.loading)
    kept_loads true p t k = (refl, refl)
    kept_loads false p t k = (refl, refl)

    -- what stands in the queue, and in front of it, at the site's place
    abbrev pub Stands : Columned → List (List Load) → List Load → Type 0
    Stands k queue before = (slice_get k.loads (y - first) ≡ Some queue) × (slice_get k.loading (y - first) ≡ Some before)

    load_there : (b : Bool) (site : ℕ) (l : Load) (k : Columned) (queue : List (List Load)) (before : List Load) → (site - first ≡ y - first → ⊥) →
        Stands k queue before →
        Stands (if b then with_load (site - first) l k else k) queue before
    load_there true site l k queue before apart at =
        (at.0, set_there k.loading (site - first) (y - first) (get_or k.loading (site - first) [] ++ l ∷ []) apart ∙ at.1)
    load_there false site l k queue before apart at = at

    end_there : (b : Bool) (site : ℕ) (k : Columned) (queue : List (List Load)) (before : List Load) → (site - first ≡ y - first → ⊥) → Stands k queue before →
        Stands (if b then loads_ended (site - first) k else k) queue before
    end_there true site k queue before apart at = (
      set_there k.loads (site - first) (y - first) (get_or k.loads (site - first) [] ++ get_or k.loading (site - first) [] ∷ []) apart ∙ at.0,
      set_there k.loading (site - first) (y - first) [] apart ∙ at.1,
    )
    end_there false site k queue before apart at = at

    load_here : (l : Load) (k : Columned) (queue : List (List Load)) (before : List Load) → Stands k queue before →
        Stands (with_load (y - first) l k) queue (before ++ l ∷ [])
    load_here l k queue before at = (at.0, added_here k.loading (y - first) before l at.1)

    end_here : (k : Columned) (queue : List (List Load)) (before : List Load) → Stands k queue before →
        Stands (loads_ended (y - first) k) (queue ++ before ∷ []) []
    end_here k queue before at = (
      added_here k.loads (y - first) queue (get_or k.loading (y - first) []) at.0 ∙ ap (λ (ls : List Load). Some (queue ++ ls ∷ []))
          (get_or_from_slice_get k.loading (y - first) before [] at.1),
      set_here k.loading (y - first) before [] at.1,
    )

    abbrev pub Held : List Item → Columned → List (List Load) → List Load → Type 0
    Held items k queue before = slice_get (put_items first is_kept is_compared items k).loads (y - first) ≡ Some (queue ++ loads_told y before items)

    pub loads_held : (items : List Item) → AllFrom first items → (k : Columned) (queue : List (List Load)) (before : List Load) → Stands k queue before →
        Held items k queue before
    loads_held [] from k queue before at = at.0 ∙ ap Some (sym (append-nil queue))
    loads_held (Net f count stores ∷ rest) from k queue before at =
        let same = kept_loads (is_kept f) (f - first) (DidBlock stores) k in
        loads_held rest from.1 (put (Net f count stores) k) queue before
        (ap (λ (q : List (List (List Load))). slice_get q (y - first)) same.0 ∙ at.0, ap (λ (q : List (List Load)). slice_get q (y - first)) same.1 ∙ at.1)
    loads_held (Said w ∷ rest) from k queue before at = by (loads_held rest from.1) w.site w.kind w.index w.value from.0
      where
        by : ((k : Columned) (queue : List (List Load)) (before : List Load) → Stands k queue before → Held rest k queue before) →
            (site : SiteId) (kind : WordKind) (index : ℕ) (value : ℤ) → first ≤ site.0 →
            Held (Said (record { site = site; kind = kind; index = index; value = value }) ∷ rest) k queue before
        by ih site word.Load index value le' = elim (cases_eq site.0 y) [ inl same ↦ here same | inr other ↦ there other ]
          where
            l : Load
            l = record { cell = index; value = value }

            w' : Item
            w' = Said (record { site = site; kind = word.Load; index = index; value = value })

            here : site.0 ≡ y → Held (w' ∷ rest) k queue before
            here same =
                let stands : Stands (put w' k) queue (before ++ l ∷ []) =
                subst (λ (n : ℕ). Stands (if is_compared n then with_load (n - first) l k else k) queue (before ++ l ∷ [])) (sym same)
                (subst (λ (b : Bool). Stands (if b then with_load (y - first) l k else k) queue (before ++ l ∷ [])) (sym compared)
                (load_here l k queue before at)) in
                ih (put w' k) queue (before ++ l ∷ []) stands
                ∙ ap (λ (b : Bool). Some (queue ++ (if b && true then loads_told y (before ++ l ∷ []) rest else if b && false then before ∷ loads_told y [] rest
                else loads_told y before rest))) (sym (eq-eqb site.0 y same))

            there : (site.0 ≡ y → ⊥) → Held (w' ∷ rest) k queue before
            there other =
                ih (put w' k) queue before (load_there (is_compared site.0) site.0 l k queue before (λ e. places_apart first site.0 y le' le other e) at)
                ∙ ap (λ (b : Bool). Some (queue ++ (if b && true then loads_told y (before ++ l ∷ []) rest else if b && false then before ∷ loads_told y [] rest
                else loads_told y before rest))) (sym (ne_eqb site.0 y other))
        by ih site word.Done index value le' = elim (cases_eq site.0 y) [ inl same ↦ here same | inr other ↦ there other ]
          where
            l : Load
            l = record { cell = index; value = value }

            w' : Item
            w' = Said (record { site = site; kind = word.Done; index = index; value = value })

            told : Columned
            told = if is_kept site.0 then with_told (site.0 - first) (Did index value) k else k

            at_told : Stands told queue before
            at_told =
                let same = kept_loads (is_kept site.0) (site.0 - first) (Did index value) k in (
                  ap (λ (q : List (List (List Load))). slice_get q (y - first)) same.0 ∙ at.0,
                  ap (λ (q : List (List Load)). slice_get q
                      (y - first)) same.1 ∙ at.1,
                )

            here : site.0 ≡ y → Held (w' ∷ rest) k queue before
            here same =
                let stands : Stands (put w' k) (queue ++ before ∷ []) [] =
                subst (λ (n : ℕ). Stands (if is_compared n then loads_ended (n - first) told else told) (queue ++ before ∷ []) []) (sym same)
                (subst (λ (b : Bool). Stands (if b then loads_ended (y - first) told else told) (queue ++ before ∷ []) []) (sym compared)
                (end_here told queue before at_told)) in
                ih (put w' k) (queue ++ before ∷ []) [] stands ∙ ap Some (append_assoc queue (before ∷ []) (loads_told y [] rest))
                ∙ ap (λ (b : Bool). Some (queue ++ (if b && false then loads_told y (before ++ l ∷ []) rest else if b && true then before ∷ loads_told y [] rest
                else loads_told y before rest))) (sym (eq-eqb site.0 y same))

            there : (site.0 ≡ y → ⊥) → Held (w' ∷ rest) k queue before
            there other =
                ih (put w' k) queue before (end_there (is_compared site.0) site.0 told queue before (λ e. places_apart first site.0 y le' le other e) at_told)
                ∙ ap (λ (b : Bool). Some (queue ++ (if b && false then loads_told y (before ++ l ∷ []) rest else if b && true then before ∷ loads_told y [] rest
                else loads_told y before rest))) (sym (ne_eqb site.0 y other))
