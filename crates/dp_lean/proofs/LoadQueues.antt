-- What a list tells of a checked site's loads, and the steps that its items stand for.
use Rattle.dp_semantics.proofs.Names.{◌≡◌, inl, inr, refl, sym, ap, ◌∙◌, subst, append_assoc, arith, ℕ, ◌+◌, ◌==◌, Bool, true, false, ◌&&◌, ◌||◌, suc}
use Rattle.dp_semantics.proofs.Names.{is_replicated, or-true, if◌then◌else◌, List, [], ◌∷◌, ◌++◌, ℤ, pos, get_or, int_eq, sum_by, sum_by-cons, eq-eqb, eqb-true}
use Rattle.dp_semantics.proofs.Names.{ne_eqb, and-false, list_all, list_any, and_parts, and_from, cases_eq, cases_Bool, Stmt, Stmt-F, Program, Plan, Word, Load}
use Rattle.dp_semantics.proofs.Names.{Event, Effect, site_of, stage_of, is_checked, load_words, load_word, done_word, words_of, is_load_of, is_done_of, Access}
use Rattle.dp_semantics.proofs.Names.{region_accesses, is_cell_of}
use Rattle.dp_semantics.proofs.Taking.{load_here, done_no_load}
use Rattle.dp_net.specs.NetItems.{Item, Said, Net, said_all}
use Rattle.dp_net.specs.NetJudge.{net_loads_hold}
use Rattle.dp_net.specs.Follows.{Says, Others}
use Rattle.dp_lean.specs.Needed.{compares, is_loaded_in, wanted, is_judge}
use Rattle.dp_lean.specs.Queues.{loads_told, load_queue_of, steps_in, is_cell_among, loads_cell, is_of_text}
use Rattle.dp_lean.specs.LeanJudge.{load_holds}
use Rattle.dp_lean.specs.Laws.{AgreesOn}
use Rattle.dp_lean.proofs.QueueParts.{said_join}

-- ---- the words of one event

loads_gather : (site : ℕ) (before loads : List Load) (w : Word) (rest : List Item) → is_load_of site w ≡ false → is_done_of site w ≡ true →
    loads_told site before (said_all (load_words site loads) ++ Said w ∷ rest) ≡ (before ++ loads) ∷ loads_told site [] rest
loads_gather site before [] w rest e d =
    rw (e, d) (ap (λ (ls : List Load). ls ∷ loads_told site [] rest) (sym (Rattle.dp_semantics.proofs.Names.append-nil before)))
loads_gather site before (l ∷ loads) w rest e d = rw (load_here site l)
    (loads_gather site (before ++ l ∷ []) loads w rest e d ∙ ap (λ (ls : List Load). ls ∷ loads_told site [] rest) (append_assoc before (l ∷ []) loads))

other_load : (y site : ℕ) (l : Load) → (site ≡ y → ⊥) → is_load_of y (load_word site l) ≡ false
other_load y site l other = ap (λ (b : Bool). b && true) (ne_eqb site y other)

other_loads : (y site : ℕ) (before loads : List Load) (rest : List Item) → (site ≡ y → ⊥) →
    loads_told y before (said_all (load_words site loads) ++ rest) ≡ loads_told y before rest
other_loads y site before [] rest other = refl
other_loads y site before (l ∷ loads) rest other = rw (other_load y site l other, and-false (site == y)) (other_loads y site before loads rest other)

other_done : (y site : ℕ) (before : List Load) (effect : Effect) (rest : List Item) → (site ≡ y → ⊥) →
    loads_told y before (Said (done_word site effect) ∷ rest) ≡ loads_told y before rest
other_done y site before effect rest other = rw (ne_eqb site y other) refl

loads_compared : (site : ℕ) (cells : List ℤ) (loads : List Load) (w : Word) (rest : List Item) → is_load_of site w ≡ false →
    net_loads_hold site cells (said_all (load_words site loads) ++ Said w ∷ rest) ≡ list_all (load_holds cells) loads
loads_compared site cells [] w rest e = rw e refl
loads_compared site cells (l ∷ loads) w rest e =
    rw (load_here site l) (ap (λ (b : Bool). int_eq (get_or cells l.cell (pos 0)) l.value && b) (loads_compared site cells loads w rest e))

steps_of_loads : (site : ℕ) (loads : List Load) (rest : List Item) → sum_by steps_in (said_all (load_words site loads) ++ rest) ≡ sum_by steps_in rest
steps_of_loads site [] rest = refl
steps_of_loads site (l ∷ loads) rest =
    let s = sum_by-cons steps_in (Said (load_word site l)) (said_all (load_words site loads) ++ rest) in
    let h = steps_of_loads site loads rest in omega (arith, s, h)

module _ (p : Program) (plan : Plan) where
  -- what stands in front, word by word
  front_words : (event : Event) (rest : List Item) →
      said_all (words_of p plan event) ++ rest ≡ said_all (if is_checked p plan event.site then load_words event.site event.loads else [])
      ++ Said (done_word event.site event.effect) ∷ rest
  front_words event rest = ap (λ (is : List Item). is ++ rest) (said_join (if is_checked p plan event.site then load_words event.site event.loads else [])
      (done_word event.site event.effect ∷ []))
      ∙ append_assoc (said_all (if is_checked p plan event.site then load_words event.site event.loads else []))
      (Said (done_word event.site event.effect) ∷ []) rest

  -- an event is one step
  pub steps_of_words : (event : Event) (rest : List Item) → sum_by steps_in (said_all (words_of p plan event) ++ rest) ≡ 1 + sum_by steps_in rest
  steps_of_words event rest = ap (sum_by steps_in) (front_words event rest) ∙ by (is_checked p plan event.site)
    where
      by : (b : Bool) → sum_by steps_in (said_all (if b then load_words event.site event.loads else []) ++ Said (done_word event.site event.effect) ∷ rest) ≡ 1
          + sum_by steps_in rest
      by true = steps_of_loads event.site event.loads (Said (done_word event.site event.effect) ∷ rest)
          ∙ sum_by-cons steps_in (Said (done_word event.site event.effect)) rest
      by false = sum_by-cons steps_in (Said (done_word event.site event.effect)) rest

  -- the judge compares the loads of a checked site, and of no other
  pub compared_is : (event : Event) (cells : List ℤ) (rest : List Item) →
      net_loads_hold event.site cells (said_all (words_of p plan event) ++ rest) ≡ (if is_checked p plan event.site
      then list_all (load_holds cells) event.loads else true)
  compared_is event cells rest = ap (net_loads_hold event.site cells) (front_words event rest) ∙ by (is_checked p plan event.site)
    where
      by : (b : Bool) → net_loads_hold event.site cells (said_all (if b then load_words event.site event.loads else [])
          ++ Said (done_word event.site event.effect) ∷ rest)
          ≡ (if b then list_all (load_holds cells) event.loads else true)
      by true = loads_compared event.site cells event.loads (done_word event.site event.effect) rest (done_no_load event.site event.effect)
      by false = rw (done_no_load event.site event.effect) refl

  module _ (h : Stmt-F Stmt) (event : Event) (left next : ℕ → List Item)
      (says : Says p plan h event (left (stage_of p plan (site_of h).0)) (next (stage_of p plan (site_of h).0)))
      (others : Others (stage_of p plan (site_of h).0) left next) where
    abbrev f : ℕ
    f = (site_of h).0

    abbrev u : ℕ
    u = stage_of p plan f

    pub loads_here : is_checked p plan f ≡ true → load_queue_of p plan left f ≡ event.loads ∷ load_queue_of p plan next f
    loads_here checked = ap (loads_told f []) (says.front ∙ front_words event (next u))
        ∙ ap (λ (site : ℕ). loads_told f [] (said_all (if is_checked p plan site then load_words site event.loads else []) ++ Said (done_word site event.effect)
        ∷ next u)) says.site
        ∙ ap (λ (b : Bool). loads_told f [] (said_all (if b then load_words f event.loads else []) ++ Said (done_word f event.effect) ∷ next u)) checked
        ∙ loads_gather f [] event.loads (done_word f event.effect) (next u) (done_no_load f event.effect) (ap (λ (b : Bool). b && true) (eq-eqb f f refl))

    pub loads_there : (y : ℕ) → (y ≡ f → ⊥) → load_queue_of p plan left y ≡ load_queue_of p plan next y
    loads_there y other = elim (cases_eq (stage_of p plan y) u) [
      | inl same ↦ ap (λ (t : ℕ). loads_told y [] (left t)) same ∙ ap (loads_told y []) (says.front ∙ front_words event (next u))
          ∙ ap (λ (site : ℕ). loads_told y [] (said_all (if is_checked p plan site then load_words site event.loads else [])
          ++ Said (done_word site event.effect) ∷ next u)) says.site
          ∙ by (is_checked p plan f) ∙ ap (λ (t : ℕ). loads_told y [] (next t)) (sym same)
      | inr differs ↦ ap (loads_told y []) (sym (others (stage_of p plan y) differs))
    ]
      where
        by : (b : Bool) → loads_told y [] (said_all (if b then load_words f event.loads else []) ++ Said (done_word f event.effect) ∷ next u)
            ≡ loads_told y [] (next u)
        by true = other_loads y f [] event.loads (Said (done_word f event.effect) ∷ next u) (λ e. other (sym e))
            ∙ other_done y f [] event.effect (next u) (λ e. other (sym e))
        by false = other_done y f [] event.effect (next u) (λ e. other (sym e))

    pub held_is : (cells : List ℤ) → net_loads_hold f cells (left u) ≡ (if is_checked p plan f then list_all (load_holds cells) event.loads else true)
    held_is cells = ap (net_loads_hold f cells) says.front
        ∙ ap (λ (site : ℕ). net_loads_hold site cells (said_all (words_of p plan event) ++ next u)) (sym says.site)
        ∙ compared_is event cells (next u) ∙ ap (λ (site : ℕ). if is_checked p plan site then list_all (load_holds cells) event.loads else true) says.site

  module _ (f count : ℕ) (stores : List Effect) (left next : ℕ → List Item) (front : left (stage_of p plan f) ≡ Net f count stores ∷ next (stage_of p plan f))
      (others : Others (stage_of p plan f) left next) where
    pub loads_past : (y : ℕ) → load_queue_of p plan left y ≡ load_queue_of p plan next y
    loads_past y = elim (cases_eq (stage_of p plan y) (stage_of p plan f)) [
      | inl same ↦ ap (λ (t : ℕ). loads_told y [] (left t)) same ∙ ap (loads_told y []) front ∙ ap (λ (t : ℕ). loads_told y [] (next t)) (sym same)
      | inr differs ↦ ap (loads_told y []) (sym (others (stage_of p plan y) differs))
    ]

  -- ---- a checked site's loads are of cells that the judge wants

  cell_of : (c : ℕ) (loads : List ℕ) → is_cell_among p plan loads c ≡ true → (y : ℕ) × (list_any (λ z. z == y) loads ≡ true)
      × (is_cell_of p (record { 0 = y }) c ≡ true)
  cell_of c [] e = absurd (cc e)
  cell_of c (z ∷ loads) e = elim (cases_Bool (is_cell_of p (record { 0 = z }) c)) [
    | inl q ↦ (z, ap (λ (b : Bool). b || list_any (λ y. y == z) loads) (eq-eqb z z refl), q)
    | inr q ↦ let r = cell_of c loads (rw q at e) in (r.0, ap (λ (b : Bool). (z == r.0) || b) r.1 ∙ or-true (z == r.0), r.2)
  ]

  cell_wanted : (w : Word) → is_checked p plan w.site.0 ≡ true → (all : List Access) → list_any (loads_cell p plan w) all ≡ true →
      (y : ℕ) × (list_any (compares p plan y) all ≡ true) × (is_cell_of p (record { 0 = y }) w.index ≡ true)
  cell_wanted w checked [] e = absurd (cc e)
  cell_wanted w checked (a ∷ all) e = elim (cases_Bool (loads_cell p plan w a)) [
    | inl q ↦
        let both = and_parts (a.site == w.site.0) (is_cell_among p plan a.loads w.index) q in
        let r = cell_of w.index a.loads both.1 in
        let site = eqb-true a.site w.site.0 both.0 in (
          r.0,
          ap (λ (b : Bool). b || list_any (compares p plan r.0) all) (and_from (is_checked p plan a.site) (list_any (λ z. z == r.0) a.loads)
              (ap (is_checked p plan) site ∙ checked) r.1),
          r.2,
        )
    | inr q ↦ let r = cell_wanted w checked all (rw q at e) in (r.0, ap (λ (b : Bool). compares p plan r.0 a || b) r.1 ∙ or-true (compares p plan r.0 a), r.2)
  ]

  module _ (m : Rattle.dp_net.specs.NetItems.Marks) (s : ℕ) (judge : is_judge p plan s ≡ true) where
    -- such loads hold in both memories or in neither
    pub holds_alike : (site : ℕ) (loads : List Load) (rest : List Item) → is_checked p plan site ≡ true →
        list_all (is_of_text p plan m) (said_all (load_words site loads) ++ rest) ≡ true →
        (cells mem : List ℤ) → AgreesOn p plan s cells mem → list_all (load_holds mem) loads ≡ list_all (load_holds cells) loads
    holds_alike site [] rest checked e cells mem agrees = refl
    holds_alike site (l ∷ loads) rest checked e cells mem agrees =
        let both = and_parts (list_any (loads_cell p plan (load_word site l)) (region_accesses p plan))
        (list_all (is_of_text p plan m) (said_all (load_words site loads) ++ rest)) e in
        let w = cell_wanted (load_word site l) checked (region_accesses p plan) both.0 in
        let want : wanted p plan s w.0 ≡ true = ap (λ (b : Bool). if b then list_any (compares p plan w.0) (region_accesses p plan)
        else (is_loaded_in p plan s w.0 || (is_replicated plan (suc s) && is_loaded_in p plan (suc s) w.0))) judge ∙ w.1 in
        ap (λ (z : ℤ). int_eq z l.value && list_all (load_holds mem) loads) (agrees.same w.0 l.cell want w.2)
        ∙ ap (λ (b : Bool). int_eq (get_or cells l.cell (pos 0)) l.value && b) (holds_alike site loads rest checked both.1 cells mem agrees)

    pub held_alike : (event : Event) (rest : List Item) → is_checked p plan event.site ≡ true →
        list_all (is_of_text p plan m) (said_all (words_of p plan event) ++ rest) ≡ true →
        (cells mem : List ℤ) → AgreesOn p plan s cells mem → list_all (load_holds mem) event.loads ≡ list_all (load_holds cells) event.loads
    held_alike event rest checked e cells mem agrees = holds_alike event.site event.loads (Said (done_word event.site event.effect) ∷ rest) checked
        (ap (λ (b : Bool). list_all (is_of_text p plan m) (said_all (if b then load_words event.site event.loads else [])
        ++ Said (done_word event.site event.effect) ∷ rest)) (sym checked)
        ∙ ap (list_all (is_of_text p plan m)) (sym (front_words event rest)) ∙ e) cells mem agrees
