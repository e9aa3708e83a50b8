-- Words in groups: a list of words and a list of items that stand for the same groups.
use Rattle.dp_semantics.proofs.Names.{◌≡◌, inl, inr, refl, sym, ap, ◌∙◌, subst, append_assoc, ℕ, zero, suc, ◌-◌, ◌<◌, ◌==◌, Bool, true, false, ◌&&◌}
use Rattle.dp_semantics.proofs.Names.{if◌then◌else◌, List, [], ◌∷◌, ◌++◌, ℤ, length, length-append, map, Option, Some, None, unwrap_or, Ok, Err, Result, arith}
use Rattle.dp_semantics.proofs.Names.{ne_eqb, slice_get, nat_lt, get_or, sum_by, sum_by-cons, unwrap_or-slice_get, and-false, cases_Bool, cases_eq, Stmt}
use Rattle.dp_semantics.proofs.Names.{out-Stmt, Stmt-F, Program, Plan, Word, Event, Effect, site_of, stage_of, effect_by, done_word, is_load_of, is_done_of}
use Rattle.dp_semantics.proofs.Names.{after_loads_of, Taken, taken_from, Void, word_list}
use Rattle.dp_semantics.specs.Words.{Astray, done_from, taken_by, is_load}
use Rattle.dp_semantics.proofs.Each.{Each}
use Rattle.dp_semantics.proofs.Ways.{Goes, stays, goes, event_of}
use Rattle.dp_semantics.proofs.Taking.{word_list_is}
use Rattle.dp_net.specs.NetItems.{begins, Marks, net_of, Item, Said, Net, weight, weights, items_in, item_list, behind_loads, NetTaken, net_taken_by}
use Rattle.dp_net.specs.NetItems.{net_done_from, net_taken_from}
use Rattle.dp_net.specs.NetRun.{NetTurn, net_met}
use Rattle.dp_net.proofs.Silent.{AllQuiet}
use Rattle.dp_net.proofs.Blocks.{said, said_length, effects_of}

-- one word, or the words of a whole block
pub data Group : Type 0 where
  One : Word → Group
  Block : (site : ℕ) (events : List Event) → Group

abbrev pub flat : Group → List Word
flat (One w) = w ∷ []
flat (Block site events) = said events

abbrev pub flats : List Group → List Word
flats [] = []
flats (g ∷ gs) = flat g ++ flats gs

pub flats_join : (a b : List Group) → flats (a ++ b) ≡ flats a ++ flats b
flats_join [] b = refl
flats_join (g ∷ a) b = ap (λ ws. flat g ++ ws) (flats_join a b) ∙ sym (append_assoc (flat g) (flats a) (flats b))

module _ (p : Program) (plan : Plan) (m : Marks) where
  abbrev pub item : Group → Item
  item (One w) = Said w
  item (Block site events) = Net site (length events) (net_of (m.hides (stage_of p plan site)) (effects_of events))

  abbrev pub items : List Group → List Item
  items [] = []
  items (g ∷ gs) = item g ∷ items gs

  pub items_join : (a b : List Group) → items (a ++ b) ≡ items a ++ items b
  items_join [] b = refl
  items_join (g ∷ a) b = ap (λ is. item g ∷ is) (items_join a b)

  weight_is : (g : Group) → weight (item g) ≡ length (flat g)
  weight_is (One w) = refl
  weight_is (Block site events) = sym (said_length events)

  pub weights_are : (gs : List Group) → weights (items gs) ≡ length (flats gs)
  weights_are [] = refl
  weights_are (g ∷ gs) = sum_by-cons weight (item g) (items gs)
      ∙ (let w = weight_is g in let r = weights_are gs in let l = length-append (flat g) (flats gs) in omega (arith, w, r, l))

  abbrev pub all_flats : List (List Group) → List (List Word)
  all_flats groups = map flats groups

  abbrev pub all_items : List (List Group) → List (List Item)
  all_items groups = map items groups

  pub sums_are : (groups : List (List Group)) → sum_by weights (all_items groups) ≡ sum_by length (all_flats groups)
  sums_are [] = refl
  sums_are (gs ∷ groups) =
      let a = sum_by-cons weights (items gs) (all_items groups) in
      let b = sum_by-cons length (flats gs) (all_flats groups) in
      let c = weights_are gs in
      let d = sums_are groups in
      omega (arith, a, b, c, d)

  -- the groups of stage t
  abbrev pub group_list : List (List Group) → ℕ → List Group
  group_list groups t = get_or groups (t - 1) []

  map_get : {X Y : Type 0} (f : X → Y) (l : List X) (i : ℕ) (d : X) → get_or (map f l) i (f d) ≡ f (get_or l i d)
  map_get f [] zero d = refl
  map_get f [] (suc i) d = refl
  map_get f (x ∷ l) zero d = refl
  map_get f (x ∷ l) (suc i) d = map_get f l i d

  pub words_of_groups : (groups : List (List Group)) (t : ℕ) → 0 < t → word_list (all_flats groups) t ≡ flats (group_list groups t)
  words_of_groups groups t low = word_list_is (all_flats groups) t low ∙ map_get flats groups (t - 1) []

  items_in_is : (o : Option (List Item)) → items_in o ≡ unwrap_or o []
  items_in_is None = refl
  items_in_is (Some is) = refl

  pub item_list_is : (lists : List (List Item)) (t : ℕ) → 0 < t → item_list lists t ≡ get_or lists (t - 1) []
  item_list_is lists zero h = absurd (omega (arith, h))
  item_list_is lists (suc t) h = let e : t ≡ suc t - 1 = omega arith in items_in_is (slice_get lists t) ∙ unwrap_or-slice_get lists t []
      ∙ ap (λ (n : ℕ). get_or lists n []) e

  pub items_of_groups : (groups : List (List Group)) (t : ℕ) → 0 < t → item_list (all_items groups) t ≡ items (group_list groups t)
  items_of_groups groups t low = item_list_is (all_items groups) t low ∙ map_get items groups (t - 1) []

  module _ (input : List ℤ) where
    -- what is known of the blocks
    pub record Marked : Type 0 where
      pub quiet : (f : ℕ) (x : Stmt) (b : List Stmt) → m.block_at f ≡ x ∷ b → AllQuiet p plan (stage_of p plan f) (x ∷ b)
      pub named : (f : ℕ) (x : Stmt) (b : List Stmt) → m.block_at f ≡ x ∷ b → (site_of (out-Stmt x)).0 ≡ f
      pub within : (f : ℕ) (x : Stmt) (b : List Stmt) → m.block_at f ≡ x ∷ b → begins m f ≡ true

    -- these are the events of the whole block
    pub record Whole (f : ℕ) (events : List Event) : Type 0 where
      pub x : Stmt
      pub b : List Stmt
      pub at : m.block_at f ≡ x ∷ b
      pub cells : List ℤ
      pub after : List ℤ
      pub path : Goes p input (x ∷ b) cells events [] after

    abbrev pub Good : Group → Type 0
    Good (One w) = (begins m w.site.0 ≡ false) × (is_load w.kind ≡ true → (u : ℕ) → m.hides u w.index ≡ false)
    Good (Block f events) = Whole f events

    record First (x : Stmt) (events : List Event) : Type 0 where
      event : Event
      more : List Event
      is : events ≡ event ∷ more
      site : event.site ≡ (site_of (out-Stmt x)).0

    first_event : {to_do after : List Stmt} {cells then_cells : List ℤ} {events : List Event} → Goes p input to_do cells events after then_cells →
        (x : Stmt) (b : List Stmt) → to_do ≡ x ∷ b → after ≡ [] → First x events
    first_event stays x b e n = absurd (clash (sym e ∙ n))
      where
        clash : x ∷ b ≡ [] → ⊥
        clash q = absurd (cc q)
    first_event (goes {x = y} {v = v} {events = events} gave path) x b e n =
        let same : y ≡ x = cc e in record { event = event_of (out-Stmt y) v; more = events; is = refl; site = ap (λ (z : Stmt). (site_of (out-Stmt z)).0) same }

    module _ (marked : Marked) where
      -- a block's first word is of its first site
      pub first_word : (f : ℕ) (events : List Event) → Whole f events → (event : Event) × (more : List Event) × (events ≡ event ∷ more) × (event.site ≡ f)
      first_word f events w = let r = first_event w.path w.x w.b refl refl in (r.event, r.more, r.is, r.site ∙ marked.named f w.x w.b w.at)

      pub is_within : (f : ℕ) (events : List Event) → Whole f events → begins m f ≡ true
      is_within f events w = marked.within f w.x w.b w.at

      -- past the loads at the front
      abbrev skip : ℕ → List Group → List Group
      skip site [] = []
      skip site (Block f events ∷ gs) = Block f events ∷ gs
      skip site (One w ∷ gs) = if is_load_of site w then skip site gs else One w ∷ gs

      skip_good : (site : ℕ) (gs : List Group) → Each Good gs → Each Good (skip site gs)
      skip_good site [] g = tt
      skip_good site (Block f events ∷ gs) g = g
      skip_good site (One w ∷ gs) g = elim (cases_Bool (is_load_of site w)) [ inl q ↦ rw q (skip_good site gs g.1) | inr q ↦ rw q g ]

      skip_words : (site : ℕ) (gs : List Group) → Each Good gs → after_loads_of site (flats gs) ≡ flats (skip site gs)
      skip_words site [] g = refl
      skip_words site (Block f events ∷ gs) g =
          let r = first_word f events g.0 in
          ap (λ (es : List Event). after_loads_of site (said es ++ flats gs)) r.2 ∙ rw (and-false (r.0.site == site)) refl
          ∙ ap (λ (es : List Event). said es ++ flats gs) (sym r.2)
      skip_words site (One w ∷ gs) g = elim (cases_Bool (is_load_of site w)) [ inl q ↦ rw q (skip_words site gs g.1) | inr q ↦ rw q refl ]

      skip_items : (site : ℕ) (gs : List Group) → behind_loads site (items gs) ≡ items (skip site gs)
      skip_items site [] = refl
      skip_items site (Block f events ∷ gs) = refl
      skip_items site (One w ∷ gs) = elim (cases_Bool (is_load_of site w)) [ inl q ↦ rw q (skip_items site gs) | inr q ↦ rw q refl ]

      -- the same is taken of both, or of neither
      pub data Alike : Result Taken Void → Option NetTaken → Type 0 where
        both : (effect : Effect) (gs : List Group) → Each Good gs →
            Alike (Ok (record { effect = effect; rest = flats gs })) (Some (record { effect = effect; rest = items gs }))
        none : (why : Void) → Alike (Err why) None

      by_effect : (site : ℕ) (w : Word) (gs : List Group) → Each Good gs → (o : Option Effect) →
          Alike (taken_by site w (flats gs) o) (net_taken_by (items gs) o)
      by_effect site w gs g None = none (Astray site (Some w))
      by_effect site w gs g (Some effect) = both effect gs g

      done_alike : (head : Stmt-F Stmt) → begins m (site_of head).0 ≡ false → (gs : List Group) → Each Good gs →
          Alike (done_from p head (flats gs)) (net_done_from p head (items gs))
      done_alike head out [] g = none (Astray (site_of head).0 None)
      done_alike head out (One w ∷ gs) g = by (is_done_of (site_of head).0 w)
        where
          by : (b : Bool) →
              Alike (if b then taken_by (site_of head).0 w (flats gs) (effect_by p head w) else Err (Astray (site_of head).0 (Some w)))
              (if b then net_taken_by (items gs) (effect_by p head w) else None)
          by true = by_effect (site_of head).0 w gs g.1 (effect_by p head w)
          by false = none (Astray (site_of head).0 (Some w))
      done_alike head out (Block f events ∷ gs) g =
          let r = first_word f events g.0 in
          let apart : (r.0.site == (site_of head).0) ≡ false = ne_eqb r.0.site (site_of head).0 (λ e. differ (sym (is_within f events g.0) ∙ ap (begins m)
          (sym r.3 ∙ e) ∙ out)) in
          subst (λ (u : Result Taken Void). Alike u None) (sym (ap (λ (es : List Event). done_from p head (said es ++ flats gs)) r.2 ∙ rw apart refl))
          (none (Astray (site_of head).0 (Some (done_word r.0.site r.0.effect))))
        where
          differ : true ≡ false → ⊥
          differ e = absurd (cc e)

      pub taken_alike : (head : Stmt-F Stmt) → begins m (site_of head).0 ≡ false → (gs : List Group) → Each Good gs →
          Alike (taken_from p head (flats gs)) (net_taken_from p head (items gs))
      taken_alike head out gs g =
          subst (λ (ws : List Word). Alike (done_from p head ws) (net_taken_from p head (items gs))) (sym (skip_words (site_of head).0 gs g))
          (subst (λ (is : List Item). Alike (done_from p head (flats (skip (site_of head).0 gs))) (net_done_from p head is))
          (sym (skip_items (site_of head).0 gs)) (done_alike head out (skip (site_of head).0 gs) (skip_good (site_of head).0 gs g)))

      -- no block of this site stands at the front
      abbrev pub Missing : ℕ → List Item → Type 0
      Missing f [] = Unit {0}
      Missing f (Said w ∷ more) = Unit {0}
      Missing f (Net e count stores ∷ more) = ((e == f) && nat_lt 0 count) ≡ false

      pub met_none : (f : ℕ) (is : List Item) → Missing f is → (c : NetTurn) (rest : List Stmt) → net_met p plan f c rest is ≡ None
      met_none f [] h c rest = refl
      met_none f (Said w ∷ more) h c rest = refl
      met_none f (Net e count stores ∷ more) h c rest = rw h refl

      -- Before a block of this site the words are the whole block's, or none are.
      pub data Meets (f : ℕ) (gs : List Group) : Type 0 where
        whole : (events : List Event) (more : List Group) → gs ≡ Block f events ∷ more → Whole f events → Each Good more → Meets f gs
        other : ((head : Stmt-F Stmt) → (site_of head).0 ≡ f → (why : Void) × (taken_from p head (flats gs) ≡ Err why)) →
            Missing f (items gs) → Meets f gs

      pub meets : (f : ℕ) → begins m f ≡ true → (gs : List Group) → Each Good gs → Meets f gs
      meets f in_f [] g = other (λ head at. (_, refl)) tt
      meets f in_f (One w ∷ gs) g =
          let apart : (w.site.0 == f) ≡ false = ne_eqb w.site.0 f (λ e. differ (sym in_f ∙ ap (begins m) (sym e) ∙ g.0.0)) in
          other (λ head at. (Astray (site_of head).0 (Some w), rw (at, apart) (rw (at, apart) refl))) tt
        where
          differ : true ≡ false → ⊥
          differ e = absurd (cc e)
      meets f in_f (Block e events ∷ gs) g = elim (cases_eq e f) [
        | inl q ↦ whole events gs (ap (λ (n : ℕ). Block n events ∷ gs) q) (subst (λ (n : ℕ). Whole n events) q g.0) g.1
        | inr q ↦
            let r = first_word e events g.0 in
            let apart : (r.0.site == f) ≡ false = ne_eqb r.0.site f (λ at. q (sym r.3 ∙ at)) in
            other (λ head at. (
              Astray (site_of head).0 (Some (done_word r.0.site r.0.effect)),
              ap (λ (es : List Event). taken_from p head
                  (said es ++ flats gs)) r.2 ∙ rw (at, apart) (rw (at, apart) refl),
            )) (rw (ne_eqb e f q) refl)
      ]
