-- What a stage tells is of the text: it loads what its sites load, and its blocks store into their own statements' variables.
use Rattle.dp_semantics.proofs.Names.{◌≡◌, inl, inr, refl, sym, ap, ◌∙◌, subst, arith, ℕ, zero, suc, ◌+◌, ◌<◌, ◌≤◌, ◌==◌, Bool, true, false, ◌&&◌, ◌||◌}
use Rattle.dp_semantics.proofs.Names.{if◌then◌else◌, List, [], ◌∷◌, ◌++◌, drop-append_seam, ℤ, length, map, Option, Some, None, Ok, Err, list_all, list_any}
use Rattle.dp_semantics.proofs.Names.{list_all-append, flat_map-append, and_parts, and_from, eq-eqb, eqb-true, ne_eqb, nat_le, cases_Bool, cases_eq, or-true}
use Rattle.dp_semantics.proofs.Names.{slice_set, Stmt, out-Stmt, Stmt-F, Program, Plan, Word, Load, Event, Evaluated, evaluated, WithLoads, Effect, Stored}
use Rattle.dp_semantics.proofs.Names.{Printed, Decided, Tried, site_of, value_of, stored, followed, stage_of, is_checked, cell_count, load_words, load_word}
use Rattle.dp_semantics.proofs.Names.{done_word, words_of, event_as_assumed, Access, accesses, region_accesses, is_cell_of, well_nested}
use Rattle.dp_semantics.proofs.Each.{Each, each_map, each_both, each_split}
use Rattle.dp_semantics.proofs.Evaluation.{InVar, Form, Readable, head_loads, head_stores, evaluated_tracks}
use Rattle.dp_semantics.proofs.Heads.{accesses_all, accesses_out, head_access, all_well, well_at, well_out}
use Rattle.dp_semantics.proofs.Setting.{Sound, Listed}
use Rattle.dp_semantics.proofs.Followed.{followed_has, all_joins}
use Rattle.dp_semantics.proofs.Ways.{event_of}
use Rattle.dp_theorem.proofs.Source.{well_parts, each_joins, each_parts, head_fact}
use Rattle.dp_net.specs.Quiet.{BlockOutcome, Through, Broke, with_event, quiet_by}
unfoldable use Rattle.dp_net.specs.Quiet.{quiet_from}
use Rattle.dp_net.specs.NetItems.{Marks, Item, net_of, net_behind, told_after, put, stores_into, said_all}
unfoldable use Rattle.dp_net.specs.NetRun.{net_from}
use Rattle.dp_net.proofs.Blocks.{effects_of}
use Rattle.dp_lean.specs.Queues.{is_cell_among, loads_cell, stores_cell, stores_among, is_of_text}
use Rattle.dp_lean.proofs.Wanted.{cell_of_var}

module _ (p : Program) (plan : Plan) where
  -- the net stores of effects that store among these sites
  module _ (all : List Access) where
    abbrev pub StoreOk : Effect → Type 0
    StoreOk (Stored c z) = list_any (stores_cell p plan c) all ≡ true
    StoreOk (Printed z) = Unit {0}
    StoreOk (Decided z) = Unit {0}
    StoreOk (Tried z) = Unit {0}

    abbrev Among : List Effect → Type 0
    Among es = list_all (stores_among p plan all) es ≡ true

    put_among : (c : ℕ) (z : ℤ) (es : List Effect) → list_any (stores_cell p plan c) all ≡ true → Among es → Among (put c z es)
    put_among c z [] k h = and_from (stores_among p plan all (Stored c z)) true k refl
    put_among c z (e ∷ es) k h =
        let both = and_parts (stores_among p plan all e) (list_all (stores_among p plan all) es) h in
        elim (cases_Bool (stores_into c e)) [
          | inl q ↦ rw q (and_from (stores_among p plan all (Stored c z)) (list_all (stores_among p plan all) es) k both.1)
          | inr q ↦ rw q (and_from (stores_among p plan all e) (list_all (stores_among p plan all) (put c z es)) both.0 (put_among c z es k both.1))
        ]

    after_among : (hidden : ℕ → Bool) (es : List Effect) (e : Effect) → StoreOk e → Among es → Among (told_after hidden es e)
    after_among hidden es (Stored c z) k h = by (hidden c)
      where
        by : (b : Bool) → Among (if b then es else put c z es)
        by true = h
        by false = put_among c z es k h
    after_among hidden es (Printed z) k h = h
    after_among hidden es (Decided z) k h = h
    after_among hidden es (Tried z) k h = h

    behind_among : (hidden : ℕ → Bool) (es fs : List Effect) → Each StoreOk fs → Among es → Among (net_behind hidden es fs)
    behind_among hidden es [] k h = h
    behind_among hidden es (f ∷ fs) k h = behind_among hidden (told_after hidden es f) fs k.1 (after_among hidden es f k.0 h)

    pub net_among : (hidden : ℕ → Bool) (fs : List Effect) → Each StoreOk fs → list_all (stores_among p plan all) (net_of hidden fs) ≡ true
    net_among hidden fs k = behind_among hidden [] fs k refl

    form_ok : (h : Stmt-F Stmt) → Listed all (head_access h) → (effect : Effect) → Form p h effect → StoreOk effect
    form_ok h listed (Printed z) f = tt
    form_ok h listed (Decided z) f = tt
    form_ok h listed (Tried z) f = tt
    form_ok h listed (Stored c z) f = by (list_any (stores_cell p plan c) all) refl
      where
        own : (h : Stmt-F Stmt) → Form p h (Stored c z) → stores_cell p plan c (head_access h) ≡ true
        own (Rattle.dp_semantics.proofs.Names.Assign site v e) f = cell_of_var p plan v.0 c f
        own (Rattle.dp_semantics.proofs.Names.Store site v i e) f = cell_of_var p plan v.0 c f
        own _ f = absurd f

        by : (b : Bool) → list_any (stores_cell p plan c) all ≡ b → b ≡ true
        by true q = refl
        by false q = sym (listed (stores_cell p plan c) q) ∙ own h f

    module _ (input : List ℤ) (s : ℕ) where
      -- the effects of these statements, whose sites are listed
      pub effects_ok : (n : ℕ) (to_do : List Stmt) (cells : List ℤ) (events : List Event) (after : List ℤ) → all_well p plan to_do ≡ true →
          Each (λ a. Sound p plan a × Listed all a) (accesses_all to_do) → quiet_from p input n to_do cells ≡ Through events after →
          Each StoreOk (effects_of events)
      unfolding quiet_from
      effects_ok zero [] cells events after well sites e = let same : [] ≡ events = cc e in subst (λ (es : List Event). Each StoreOk (effects_of es)) same tt
      effects_ok zero (x ∷ rest) cells events after well sites e = absurd (cc e)
      effects_ok (suc n) [] cells events after well sites e = let same : [] ≡ events = cc e in subst (λ (es : List Event). Each StoreOk (effects_of es)) same tt
      effects_ok (suc n) (x ∷ rest) cells events after well sites e =
          let h = out-Stmt x in
          let parts = and_parts (well_nested p plan x) (all_well p plan rest) well in
          let head_well : well_at p plan h ≡ true = sym (well_out p plan x) ∙ parts.0 in
          let Q : Access → Type 0 = λ a. Sound p plan a × Listed all a in
          let both = each_split Q (accesses x) (accesses_all rest) sites in
          let here = subst (λ (l : List Access). Each Q l) (accesses_out x) both.0 in
          let own = head_fact Q p plan h head_well here in
          by h own (evaluated p input cells h) refl (quiet_from p input n)
          (λ v. followed_has (λ (xs : List Stmt). all_well p plan xs ≡ true) (all_joins (well_nested p plan)) x rest h (value_of v.value) well parts.1
          (well_parts p plan h head_well))
          (λ v. followed_has (λ (xs : List Stmt). Each Q (accesses_all xs)) (each_joins Q) x rest h (value_of v.value) sites both.1 (each_parts Q h here))
          (λ xs mem es last w ss q. effects_ok n xs mem es last w ss q) e
        where
          by : (h : Stmt-F Stmt) → Sound p plan (head_access h) × Listed all (head_access h) → (u : Evaluated Effect) → evaluated p input cells h ≡ u →
              (go : List Stmt → List ℤ → BlockOutcome) →
              ((v : WithLoads Effect) → all_well p plan (followed x rest h (value_of v.value)) ≡ true) →
              ((v : WithLoads Effect) → Each (λ a. Sound p plan a × Listed all a) (accesses_all (followed x rest h (value_of v.value)))) →
              ((xs : List Stmt) (mem : List ℤ) (es : List Event) (last : List ℤ) → all_well p plan xs ≡ true →
              Each (λ a. Sound p plan a × Listed all a) (accesses_all xs) → go xs mem ≡ Through es last → Each StoreOk (effects_of es)) →
              quiet_by go x rest cells h u ≡ Through events after → Each StoreOk (effects_of events)
          by h own (Err kind) gave go w ss k e = absurd (cc e)
          by h own (Ok v) gave go w ss k e = later (go (followed x rest h (value_of v.value)) (stored v.value cells)) refl e
            where
              form : Form p h v.value
              form = (evaluated_tracks p input cells cells (λ l. Unit {0}) h own.0.room (each_map (λ y. 0 < cell_count p (record { 0 = y }))
                  (Readable p cells (λ l. Unit {0})) (λ y g. (g, λ c i. tt)) (head_loads h) own.0.reads) v gave).value

              later : (o : BlockOutcome) → go (followed x rest h (value_of v.value)) (stored v.value cells) ≡ o →
                  with_event (event_of h v) o ≡ Through events after → Each StoreOk (effects_of events)
              later Broke is e = absurd (cc e)
              later (Through es last) is e =
                  let same : event_of h v ∷ es ≡ events = cc e in
                  subst (λ (all_events : List Event). Each StoreOk (effects_of all_events)) same (form_ok h own.1 v.value form, k _ _ es last (w v) (ss v) is)

  -- the words of an own site
  module _ (m : Marks) (input : List ℤ) where
    abbrev pub AllOf : List Item → Type 0
    AllOf is = list_all (is_of_text p plan m) is ≡ true

    members : (loads : List ℕ) → Each (λ y. list_any (λ z. z == y) loads ≡ true) loads
    members [] = tt
    members (y ∷ loads) = (
      ap (λ (b : Bool). b || list_any (λ z. z == y) loads) (eq-eqb y y refl),
      each_map _ _ (λ z q. ap (λ (b : Bool). (y == z) || b) q ∙ or-true (y == z)) loads (members loads),
    )

    cell_among : (y c : ℕ) (loads : List ℕ) → list_any (λ z. z == y) loads ≡ true → is_cell_of p (record { 0 = y }) c ≡ true →
        is_cell_among p plan loads c ≡ true
    cell_among y c [] e i = absurd (cc e)
    cell_among y c (z ∷ loads) e i = elim (cases_Bool (z == y)) [
      | inl q ↦ ap (λ (b : Bool). b || is_cell_among p plan loads c) (ap (λ (n : ℕ). is_cell_of p (record { 0 = n }) c) (eqb-true z y q) ∙ i)
      | inr q ↦ ap (λ (b : Bool). is_cell_of p (record { 0 = z }) c || b) (cell_among y c loads (rw q at e) i) ∙ or-true (is_cell_of p (record { 0 = z }) c)
    ]

    loads_of_text : (site : ℕ) (loads : List Load) →
        Each (λ (l : Load). list_any (loads_cell p plan (load_word site l)) (region_accesses p plan) ≡ true) loads →
        (rest : List Word) → AllOf (said_all rest) → AllOf (said_all (load_words site loads ++ rest))
    loads_of_text site [] k rest r = r
    loads_of_text site (l ∷ loads) k rest r =
        and_from (list_any (loads_cell p plan (load_word site l)) (region_accesses p plan)) _ k.0 (loads_of_text site loads k.1 rest r)

    abbrev LoadOk : ℕ → Load → Type 0
    LoadOk site l = list_any (loads_cell p plan (load_word site l)) (region_accesses p plan) ≡ true

    pub words_of_text : (h : Stmt-F Stmt) → Sound p plan (head_access h) → (cells : List ℤ) (v : WithLoads Effect) → evaluated p input cells h ≡ Ok v →
        AllOf (said_all (words_of p plan (event_of h v)))
    words_of_text h sound cells v e = elim (cases_Bool (is_checked p plan (site_of h).0)) [
      | inl q ↦ rw q (loads_of_text (site_of h).0 v.loads t.loads (done_word (site_of h).0 v.value ∷ []) refl)
      | inr q ↦ rw q refl
    ]
      where
        one : (y : ℕ) → list_any (λ z. z == y) (head_loads h) ≡ true → (c : ℕ) → InVar p y c → (z : ℤ) → LoadOk (site_of h).0 (record { cell = c; value = z })
        one y loaded c i z = by (list_any (loads_cell p plan (load_word (site_of h).0 (record { cell = c; value = z }))) (region_accesses p plan)) refl
          where
            by : (b : Bool) → list_any (loads_cell p plan (load_word (site_of h).0 (record { cell = c; value = z }))) (region_accesses p plan) ≡ b → b ≡ true
            by true q = refl
            by false q = sym (sound.listed (loads_cell p plan (load_word (site_of h).0 (record { cell = c; value = z }))) q)
                ∙ and_from ((site_of h).0 == (site_of h).0) (is_cell_among p plan (head_loads h) c) (eq-eqb (site_of h).0 (site_of h).0 refl)
                (cell_among y c (head_loads h) loaded (cell_of_var p plan y c i))

        t : Rattle.dp_semantics.proofs.Evaluation.Tracked Effect (Form p h) (LoadOk (site_of h).0) cells v (evaluated p input cells h)
        t = evaluated_tracks p input cells cells (LoadOk (site_of h).0) h sound.room
            (each_map (λ y. (0 < cell_count p (record { 0 = y })) × (list_any (λ z. z == y) (head_loads h) ≡ true)) (Readable p cells (LoadOk (site_of h).0))
            (λ y k. (k.0, λ c i. one y k.1 c i (Rattle.dp_semantics.proofs.Names.get_or cells c (Rattle.dp_semantics.proofs.Names.pos 0)))) (head_loads h)
            (each_both (λ y. 0 < cell_count p (record { 0 = y })) (λ y. list_any (λ z. z == y) (head_loads h) ≡ true) (head_loads h) sound.reads
            (members (head_loads h)))) v e
