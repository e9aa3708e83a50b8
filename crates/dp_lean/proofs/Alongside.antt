-- A turn over items and a lean turn side by side: what holds between them, and how the lean turn's end comes of its steps.
use Rattle.dp_semantics.proofs.Names.{◌≡◌, inl, inr, refl, sym, ap, ◌∙◌, subst, arith, ℕ, zero, suc, ◌+◌, ◌-◌, ◌<◌, ◌≤◌, ◌==◌, Bool, true, false, ◌&&◌}
use Rattle.dp_semantics.proofs.Names.{if◌then◌else◌, List, [], ◌∷◌, ◌++◌, ℤ, length, Option, Some, None, list_all, list_all-append, and_parts, eq-eqb, ne_eqb}
use Rattle.dp_semantics.proofs.Names.{cases_eq, slice_set, sum_by, Stmt, Stmt-F, Program, Plan, Event, Effect, Stored, Printed, Decided, Tried, site_of}
use Rattle.dp_semantics.proofs.Names.{stage_of, is_cell_of, effect_by, cell_count, Word, words_of, first_cell, nat_le, nat_lt}
use Rattle.dp_semantics.proofs.Evaluation.{Form}
use Rattle.dp_semantics.proofs.Heads.{well_at}
use Rattle.dp_semantics.proofs.Shorter.{some_word}
use Rattle.dp_net.specs.NetItems.{Marks, Item, Said, Net, weights, said_all, item_list}
use Rattle.dp_net.specs.NetRun.{NetEnded}
use Rattle.dp_net.specs.Follows.{Says, Others}
use Rattle.dp_net.proofs.ItemLists.{said_some, list_wide, list_others}
use Rattle.dp_lean.specs.Queues.{Told, queue_of, is_of_text, with_queue}
use Rattle.dp_lean.specs.LeanTurn.{LeanTurn, LeanEnd, Arrived, BrokenOff, EndsIn, lean_step, lean_by, lean_at}
unfoldable use Rattle.dp_lean.specs.LeanTurn.{lean_from}
use Rattle.dp_lean.specs.Laws.{TurnsAlike}
use Rattle.dp_lean.proofs.Wanted.{in_var}
use Rattle.dp_lean.proofs.Weights.{weights_join, weights_said, sum_after}

-- What a word says that a statement did is of the statement's form.
pub does_form : (p : Program) (plan : Plan) (h : Stmt-F Stmt) → well_at p plan h ≡ true → (w : Word) (effect : Effect) →
    effect_by p h w ≡ Some effect → Form p h effect
does_form p plan (Rattle.dp_semantics.proofs.Names.Assign site x e) well w effect q = by (is_cell_of p x w.index) refl q
  where
    by : (b : Bool) → is_cell_of p x w.index ≡ b → (if b then Some (Stored w.index w.value) else None) ≡ Some effect →
        Form p (Rattle.dp_semantics.proofs.Names.Assign site x e) effect
    by true c q = let same : Stored w.index w.value ≡ effect = cc q in
        subst (Form p (Rattle.dp_semantics.proofs.Names.Assign site x e)) same (in_var p plan x.0 w.index c)
    by false c q = absurd (cc q)
does_form p plan (Rattle.dp_semantics.proofs.Names.Store site x index e) well w effect q = by (is_cell_of p x w.index) refl q
  where
    by : (b : Bool) → is_cell_of p x w.index ≡ b → (if b then Some (Stored w.index w.value) else None) ≡ Some effect →
        Form p (Rattle.dp_semantics.proofs.Names.Store site x index e) effect
    by true c q = let same : Stored w.index w.value ≡ effect = cc q in
        subst (Form p (Rattle.dp_semantics.proofs.Names.Store site x index e)) same (in_var p plan x.0 w.index c)
    by false c q = absurd (cc q)
does_form p plan (Rattle.dp_semantics.proofs.Names.Print site e) well w effect q =
    let same : Printed w.value ≡ effect = cc q in subst (Form p (Rattle.dp_semantics.proofs.Names.Print site e)) same tt
does_form p plan (Rattle.dp_semantics.proofs.Names.If site cond a b) well w effect q =
    let same : Decided w.value ≡ effect = cc q in subst (Form p (Rattle.dp_semantics.proofs.Names.If site cond a b)) same tt
does_form p plan (Rattle.dp_semantics.proofs.Names.While site cond a) well w effect q =
    let same : Decided w.value ≡ effect = cc q in subst (Form p (Rattle.dp_semantics.proofs.Names.While site cond a)) same tt
does_form p plan (Rattle.dp_semantics.proofs.Names.Break site cond) well w effect q =
    let same : Tried w.value ≡ effect = cc q in subst (Form p (Rattle.dp_semantics.proofs.Names.Break site cond)) same tt
does_form p plan (Rattle.dp_semantics.proofs.Names.Region r site cond a) well w effect q = absurd (cc)
does_form p plan (Rattle.dp_semantics.proofs.Names.Call f line args) well w effect q = absurd (cc)

module _ (p : Program) (plan : Plan) (m : Marks) where
  abbrev pub OfText : (ℕ → List Item) → Type 0
  OfText left = (y : ℕ) → list_all (is_of_text p plan m) (left y) ≡ true

  -- behind what was taken of one list, the lists are of the text still
  pub of_text_after : (u : ℕ) (front : List Item) (left next : ℕ → List Item) → OfText left → left u ≡ front ++ next u → Others u left next → OfText next
  of_text_after u front left next all is others y = elim (cases_eq y u) [
    | inl same ↦ (and_parts (list_all (is_of_text p plan m) front) (list_all (is_of_text p plan m) (next y))
        (sym (list_all-append (is_of_text p plan m) front (next y)) ∙ ap (λ (k : ℕ). list_all (is_of_text p plan m) (front ++ next k)) same
        ∙ sym (ap (list_all (is_of_text p plan m)) is) ∙ all u)).1
    | inr differs ↦ ap (list_all (is_of_text p plan m)) (others y differs) ∙ all y
  ]

  -- what is behind the front of a list of items takes its place
  pub record Taken (lists : List (List Item)) (u : ℕ) (next : ℕ → List Item) (weighs : ℕ) : Type 0 where
    pub same : (y : ℕ) → item_list (slice_set lists (u - 1) (next u)) y ≡ next y
    pub sums : sum_by weights lists ≡ weighs + sum_by weights (slice_set lists (u - 1) (next u))
    pub some : 0 < weighs

  pub words_taken : (h : Stmt-F Stmt) (event : Event) (lists : List (List Item)) (u : ℕ) (next : ℕ → List Item) → 0 < u →
      Says p plan h event (item_list lists u) (next u) →
      Others u (item_list lists) next → Taken lists u next (length (words_of p plan event))
  words_taken h event lists u next low says others = record {
    same = list_others p plan m lists u (next u) next low (wide (said_all (words_of p plan event) ++ next u) says.front
        (said_some (words_of p plan event) (next u) (some_word p plan event))) refl others;
    sums = sum_after p plan m weights refl lists u (next u) (length (words_of p plan event)) (some_word p plan event)
        (ap weights says.front ∙ weights_join (said_all (words_of p plan event)) (next u)
        ∙ ap (λ (k : ℕ). k + weights (next u)) (weights_said (words_of p plan event)));
    some = some_word p plan event;
  }
    where
      wide : (is : List Item) → item_list lists u ≡ is → 0 < length is → u < suc (length lists)
      wide [] at some = absurd (omega (arith, some))
      wide (i ∷ is) at some = list_wide p plan m lists u i is low at

  pub block_taken : (f count : ℕ) (stores : List Effect) (lists : List (List Item)) (u : ℕ) (next : ℕ → List Item) → 0 < u → 0 < count →
      item_list lists u ≡ Net f count stores ∷ next u → Others u (item_list lists) next → Taken lists u next count
  block_taken f count stores lists u next low some front others = record {
    same = list_others p plan m lists u (next u) next low (list_wide p plan m lists u (Net f count stores) (next u) low front) refl others;
    sums = sum_after p plan m weights refl lists u (next u) count some (ap weights front
        ∙ Rattle.dp_semantics.proofs.Names.sum_by-cons Rattle.dp_net.specs.NetItems.weight (Net f count stores) (next u));
    some = some;
  }

-- each of the queues that are read has what is left of the lists in front
abbrev pub Fed : Program → Plan → (ℕ → Bool) → (ℕ → List Told) → (ℕ → List Item) → (ℕ → List Told) → Type 0
Fed p plan read more left queues = (y : ℕ) → read y ≡ true → queues y ≡ queue_of p plan left y ++ more y

module _ (p : Program) (plan : Plan) (read : ℕ → Bool) (more : ℕ → List Told) where
  -- another queue in front of one site alone
  pub fed_taken : (f : ℕ) (left next : ℕ → List Item) (queues : ℕ → List Told) → Fed p plan read more left queues →
      ((y : ℕ) → (y ≡ f → ⊥) → queue_of p plan left y ≡ queue_of p plan next y) →
      Fed p plan read more next (with_queue queues f (queue_of p plan next f ++ more f))
  fed_taken f left next queues fed there y r = elim (cases_eq y f) [
    | inl same ↦ ap (λ (b : Bool). if b then queue_of p plan next f ++ more f else queues y) (eq-eqb y f same)
        ∙ ap (λ (k : ℕ). queue_of p plan next k ++ more k) (sym same)
    | inr differs ↦ ap (λ (b : Bool). if b then queue_of p plan next f ++ more f else queues y) (ne_eqb y f differs) ∙ fed y r
        ∙ ap (λ (ts : List Told). ts ++ more y) (there y differs)
  ]

  -- .. which isn't read
  pub fed_past : (f : ℕ) (left next : ℕ → List Item) (queues : ℕ → List Told) → read f ≡ false → Fed p plan read more left queues →
      ((y : ℕ) → (y ≡ f → ⊥) → queue_of p plan left y ≡ queue_of p plan next y) → Fed p plan read more next queues
  fed_past f left next queues unread fed there y r = fed y r ∙ ap (λ (ts : List Told). ts ++ more y) (there y (λ same. differs (sym r ∙ ap read same ∙ unread)))
    where
      differs : true ≡ false → ⊥
      differs e = absurd (cc e)

  pub fed_same : (left next : ℕ → List Item) (queues : ℕ → List Told) → ((y : ℕ) → next y ≡ left y) → Fed p plan read more left queues →
      Fed p plan read more next queues
  fed_same left next queues same fed y r =
      fed y r ∙ ap (λ (is : List Item). Rattle.dp_lean.specs.Queues.told_in y is ++ more y) (sym (same (stage_of p plan y)))

module _ (p : Program) (plan : Plan) (m : Marks) (input : List ℤ) (s : ℕ) (more : ℕ → List Told) where
  -- the lean turn comes to an end as this one
  abbrev pub Same : Option NetEnded → LeanTurn → Type 0
  Same o c = (end : LeanEnd) × EndsIn p plan m input s c end × TurnsAlike p plan m s more o end

  pub same_step : (o : Option NetEnded) (c d : LeanTurn) (y : Stmt) (rest : List Stmt) → c.turn.to_do ≡ y ∷ rest →
      lean_step p plan m input s c y rest ≡ Some d →
      Same o d → Same o c
  unfolding lean_from
  same_step o c d y rest is step r = (
    r.0,
    (
      suc r.1.0,
      ap (lean_at p plan m input s (lean_from p plan m input s r.1.0) c) is
          ∙ ap (lean_by p plan m input s (lean_from p plan m input s r.1.0)) step ∙ r.1.1,
    ),
    r.2,
  )

  pub same_stop : (c : LeanTurn) (y : Stmt) (rest : List Stmt) → c.turn.to_do ≡ y ∷ rest → lean_step p plan m input s c y rest ≡ None → Same None c
  unfolding lean_from
  same_stop c y rest is step = (
    BrokenOff,
    (
      1,
      ap (lean_at p plan m input s (lean_from p plan m input s 0) c) is ∙ ap (lean_by p plan m input s (lean_from p plan m input s 0)) step,
    ),
    tt,
  )

  pub same_end : (e : NetEnded) (c : LeanTurn) → c.turn.to_do ≡ [] → TurnsAlike p plan m s more (Some e) (Arrived c) → Same (Some e) c
  unfolding lean_from
  same_end e c is k = (Arrived c, (1, ap (lean_at p plan m input s (lean_from p plan m input s 0) c) is), k)
