-- What a stage tells itself is of the region's sites, and each event's loads stand before what it did.
use Rattle.dp_semantics.proofs.Names.{◌≡◌, inl, inr, refl, sym, ap, ◌∙◌, subst, append_assoc, append-nil, arith, ℕ, zero, suc, ◌-◌, ◌<◌, ◌≤◌, ◌==◌, Bool, true}
use Rattle.dp_semantics.proofs.Names.{false, ◌&&◌, if◌then◌else◌, nat_le, leb-true, eq-eqb, eqb-true, ne_eqb, cases_eq, List, [], ◌∷◌, ◌++◌, ℤ, length, drop}
use Rattle.dp_semantics.proofs.Names.{map, Option, Some, None, Ok, Err, slice_index, slice_set, nat_lt, applied, ◌+◌, Stmt, out-Stmt, Stmt-F, Program, Plan}
use Rattle.dp_semantics.proofs.Names.{Word, Load, Evaluated, evaluated, Event, Effect, site_of, stage_of, first_site, is_checked, event_as_assumed, load_words}
use Rattle.dp_semantics.proofs.Names.{done_word, words_of, is_load_of, is_done_of}
use Rattle.dp_semantics.specs.Verdict.{effect_in}
use Rattle.dp_semantics.proofs.Ways.{event_of}
use Rattle.dp_semantics.proofs.Taking.{load_here, done_no_load}
use Rattle.dp_net.specs.Quiet.{BlockOutcome, Through, Broke}
unfoldable use Rattle.dp_net.specs.Quiet.{quiet_from}
use Rattle.dp_net.specs.NetItems.{Marks, Item, Said, Net, net_of, weights, said_all, NetTaken, net_taken_from}
use Rattle.dp_net.specs.NetRun.{NetTurn, NetEnded, net_turned, net_past, net_own_step, net_consumed_step, net_made, net_met, items_left, net_step_by, net_step}
use Rattle.dp_net.specs.NetRun.{net_by, net_at}
unfoldable use Rattle.dp_net.specs.NetRun.{net_from}
use Rattle.dp_lean.specs.Queues.{loads_told}
use Rattle.dp_columns.specs.Telling.{AllFrom}

pub from_join : (first : ℕ) (a b : List Item) → AllFrom first a → AllFrom first b → AllFrom first (a ++ b)
from_join first [] b all other = other
from_join first (i ∷ a) b all other = (all.0, from_join first a b all.1 other)

loads_from : (first site : ℕ) (loads : List Load) → first ≤ site → (rest : List Item) → AllFrom first rest →
    AllFrom first (said_all (load_words site loads) ++ rest)
loads_from first site [] low rest all = all
loads_from first site (l ∷ loads) low rest all = (low, loads_from first site loads low rest all)

-- What a list tells of the loads at a site stands by itself, whatever is behind it.
abbrev pub TellsLoads : ℕ → List Item → Type 0
TellsLoads y own = (front : List (List Load)) × ((rest : List Item) → loads_told y [] (own ++ rest) ≡ front ++ loads_told y [] rest)

tells_join : (y : ℕ) (a b : List Item) → TellsLoads y a → TellsLoads y b → TellsLoads y (a ++ b)
tells_join y a b ta tb = (
  ta.0 ++ tb.0,
  λ rest. ap (loads_told y []) (append_assoc a b rest) ∙ ta.1 (b ++ rest) ∙ ap (λ (ls : List (List Load)). ta.0 ++ ls) (tb.1 rest)
      ∙ sym (append_assoc ta.0 tb.0 (loads_told y [] rest)),
)

-- .. so of two lists the second one's stand behind the first one's
pub loads_split : (y : ℕ) (a b : List Item) → TellsLoads y a → loads_told y [] (a ++ b) ≡ loads_told y [] a ++ loads_told y [] b
loads_split y a b ta =
    let front : loads_told y [] a ≡ ta.0 = ap (loads_told y []) (sym (append-nil a)) ∙ ta.1 [] ∙ append-nil ta.0 in
    ta.1 b ∙ ap (λ (ls : List (List Load)). ls ++ loads_told y [] b) (sym front)

-- ---- the words of one event

said_join : (a b : List Word) → said_all (a ++ b) ≡ said_all a ++ said_all b
said_join [] b = refl
said_join (w ∷ a) b = ap (λ (is : List Item). Said w ∷ is) (said_join a b)

gathered : (site : ℕ) (before loads : List Load) (w : Word) (rest : List Item) → is_load_of site w ≡ false → is_done_of site w ≡ true →
    loads_told site before (said_all (load_words site loads) ++ Said w ∷ rest) ≡ (before ++ loads) ∷ loads_told site [] rest
gathered site before [] w rest e d = rw (e, d) (ap (λ (ls : List Load). ls ∷ loads_told site [] rest) (sym (append-nil before)))
gathered site before (l ∷ loads) w rest e d = rw (load_here site l)
    (gathered site (before ++ l ∷ []) loads w rest e d ∙ ap (λ (ls : List Load). ls ∷ loads_told site [] rest) (append_assoc before (l ∷ []) loads))

passed_over : (y site : ℕ) (before loads : List Load) (rest : List Item) → (site ≡ y → ⊥) →
    loads_told y before (said_all (load_words site loads) ++ rest) ≡ loads_told y before rest
passed_over y site before [] rest other = refl
passed_over y site before (l ∷ loads) rest other = rw (ne_eqb site y other) (passed_over y site before loads rest other)

done_over : (y site : ℕ) (effect : Effect) (rest : List Item) → (site ≡ y → ⊥) → loads_told y [] (Said (done_word site effect) ∷ rest) ≡ loads_told y [] rest
done_over y site effect rest other = rw (ne_eqb site y other) refl

-- loads, and then what was done
words_tell : (y site : ℕ) (loads : List Load) (effect : Effect) → TellsLoads y (said_all (load_words site loads ++ done_word site effect ∷ []))
words_tell y site loads effect = elim (cases_eq site y) [ inl same ↦ here same | inr other ↦ there other ]
  where
    ws : List Item
    ws = said_all (load_words site loads ++ done_word site effect ∷ [])

    split : (rest : List Item) → ws ++ rest ≡ said_all (load_words site loads) ++ Said (done_word site effect) ∷ rest
    split rest = ap (λ (is : List Item). is ++ rest) (said_join (load_words site loads) (done_word site effect ∷ []))
        ∙ append_assoc (said_all (load_words site loads)) (Said (done_word site effect) ∷ []) rest

    here : site ≡ y → TellsLoads y ws
    here same = (
      loads ∷ [],
      λ rest. ap (loads_told y []) (split rest)
          ∙ subst (λ (z : ℕ). loads_told z [] (said_all (load_words site loads) ++ Said (done_word site effect) ∷ rest) ≡ loads ∷ loads_told z [] rest) same
          (gathered site [] loads (done_word site effect) rest (done_no_load site effect) (ap (λ (b : Bool). b && true) (eq-eqb site site refl))),
    )

    there : (site ≡ y → ⊥) → TellsLoads y ws
    there other = (
      [],
      λ rest. ap (loads_told y []) (split rest)
          ∙ passed_over y site [] loads (Said (done_word site effect) ∷ rest) other ∙ done_over y site effect rest other,
    )

-- whatever is told of another site
pub record Whole (first : ℕ) (own : List Item) : Type 0 where
  pub from : AllFrom first own
  pub loads : (y : ℕ) → TellsLoads y own

pub whole_none : (first : ℕ) → Whole first []
whole_none first = record { from = tt; loads = λ y. ([], λ rest. refl) }

pub whole_join : (first : ℕ) (a b : List Item) → Whole first a → Whole first b → Whole first (a ++ b)
whole_join first a b wa wb = record {
  from = from_join first a b wa.from wb.from;
  loads = λ y. tells_join y a b (wa.loads y) (wb.loads y);
}

whole_block : (first f count : ℕ) (stores : List Effect) → first ≤ f → Whole first (Net f count stores ∷ [])
whole_block first f count stores low = record { from = (low, tt); loads = λ y. ([], λ rest. refl) }

module _ (p : Program) (plan : Plan) where
  whole_words : (first : ℕ) (event : Event) → first ≤ event.site → Whole first (said_all (words_of p plan event))
  whole_words first event low = by (is_checked p plan event.site)
    where
      one : List Word
      one = done_word event.site event.effect ∷ []

      by : (b : Bool) → Whole first (said_all ((if b then load_words event.site event.loads else []) ++ one))
      by true = record {
        from = subst (AllFrom first) (sym (said_join (load_words event.site event.loads) one))
            (loads_from first event.site event.loads low (said_all one) (low, tt));
        loads = λ y. words_tell y event.site event.loads event.effect;
      }
      by false = record { from = (low, tt); loads = λ y. words_tell y event.site [] event.effect }

  -- a site of a stage is one of the region's
  pub site_from : (site t : ℕ) → stage_of p plan site ≡ t → 0 < t → first_site p plan ≤ site
  site_from site t e some = by (nat_le (first_site p plan) site) refl e
    where
      by : (b : Bool) → nat_le (first_site p plan) site ≡ b → (if b then slice_index plan.stage_of (site - first_site p plan) else 0) ≡ t →
          first_site p plan ≤ site
      by true q e = leb-true (first_site p plan) site q
      by false q e = absurd (omega (arith, e, some))

  abbrev first : ℕ
  first = first_site p plan

  module _ (m : Marks) (input : List ℤ) (s : ℕ) (some : 0 < s) where
    -- a step keeps that
    abbrev Keeps : NetTurn → Option NetTurn → Type 0
    Keeps c (Some next) = Whole first c.own → Whole first next.own
    Keeps c None = Unit {0}

    own_keeps : (c : NetTurn) (x : Stmt) (rest : List Stmt) (h : Stmt-F Stmt) → stage_of p plan (site_of h).0 ≡ s → (o : Evaluated Effect) →
        Keeps c (net_own_step p plan c x rest h o)
    own_keeps c x rest h here (Err kind) = tt
    own_keeps c x rest h here (Ok v) = by (event_as_assumed p plan (event_of h v)) (nat_le (weights c.own + length (words_of p plan (event_of h v))) plan.words)
      where
        by : (a b : Bool) → Keeps c (if a && b then Some (net_turned p plan c x rest h v.value
            (c.own ++ said_all (words_of p plan (event_of h v))) c.lists) else None)
        by true true = λ w. whole_join first c.own (said_all (words_of p plan (event_of h v))) w
            (whole_words first (event_of h v) (site_from (site_of h).0 s here some))
        by true false = tt
        by false b = tt

    taken_keeps : (c : NetTurn) (x : Stmt) (rest : List Stmt) (h : Stmt-F Stmt) (o : Option NetTaken) → Keeps c (net_consumed_step p plan c x rest h o)
    taken_keeps c x rest h None = tt
    taken_keeps c x rest h (Some t) = λ w. w

    made_keeps : (c : NetTurn) (site : ℕ) (rest : List Stmt) → stage_of p plan site ≡ s → (o : BlockOutcome) → Keeps c (net_made p plan m site c rest o)
    made_keeps c site rest here Broke = tt
    made_keeps c site rest here (Through events cells) =
        λ w. whole_join first c.own (Net site (length events) (net_of (m.hides (stage_of p plan site)) (map effect_in events)) ∷ []) w
        (whole_block first site (length events) (net_of (m.hides (stage_of p plan site)) (map effect_in events)) (site_from site s here some))

    met_keeps : (c : NetTurn) (site : ℕ) (rest : List Stmt) (items : List Item) → Keeps c (net_met p plan site c rest items)
    met_keeps c site rest [] = tt
    met_keeps c site rest (Said w ∷ items) = tt
    met_keeps c site rest (Net f count stores ∷ more) = by ((f == site) && nat_lt 0 count)
      where
        by : (b : Bool) → Keeps c (if b then Some (net_past p plan c rest (applied stores c.cells)
            (slice_set c.lists (stage_of p plan site - 1) more) c.own) else None)
        by true = λ w. w
        by false = tt

    step_keeps : (c : NetTurn) (x : Stmt) (rest : List Stmt) (block : List Stmt) → Keeps c (net_step_by p plan m input s c x rest (out-Stmt x) block)
    step_keeps c x rest [] = by (stage_of p plan (site_of (out-Stmt x)).0 == s) refl
      where
        h : Stmt-F Stmt
        h = out-Stmt x

        by : (b : Bool) → (stage_of p plan (site_of (out-Stmt x)).0 == s) ≡ b →
            Keeps c (if b then net_own_step p plan c x rest (out-Stmt x) (evaluated p input c.cells (out-Stmt x))
            else net_consumed_step p plan c x rest (out-Stmt x) (net_taken_from p (out-Stmt x) (items_left p plan c (site_of (out-Stmt x)).0)))
        by true e = own_keeps c x rest (out-Stmt x) (eqb-true (stage_of p plan (site_of (out-Stmt x)).0) s e) (evaluated p input c.cells (out-Stmt x))
        by false e = taken_keeps c x rest (out-Stmt x) (net_taken_from p (out-Stmt x) (items_left p plan c (site_of (out-Stmt x)).0))
    step_keeps c x rest (y ∷ ys) = by (stage_of p plan (site_of (out-Stmt x)).0 == s) refl
      where
        site : ℕ
        site = (site_of (out-Stmt x)).0

        by : (b : Bool) → (stage_of p plan (site_of (out-Stmt x)).0 == s) ≡ b →
            Keeps c (if b then net_made p plan m (site_of (out-Stmt x)).0 c (drop (length ys) rest)
            (quiet_from p input (plan.words - weights c.own) (y ∷ ys) c.cells)
            else net_met p plan (site_of (out-Stmt x)).0 c (drop (length ys) rest) (items_left p plan c (site_of (out-Stmt x)).0))
        by true e = made_keeps c site (drop (length ys) rest) (eqb-true (stage_of p plan site) s e)
            (quiet_from p input (plan.words - weights c.own) (y ∷ ys) c.cells)
        by false e = met_keeps c site (drop (length ys) rest) (items_left p plan c site)

    -- What a turn tells is whole.
    pub whole_from : (n : ℕ) (c : NetTurn) (e : NetEnded) → Whole first c.own → net_from p plan m input s n c ≡ Some e → Whole first e.own
    unfolding net_from
    whole_from zero c e w q = absurd (cc q)
    whole_from (suc n) c e w q = at c.to_do (λ d. whole_from n d e) q
      where
        at : (xs : List Stmt) → ((d : NetTurn) → Whole first d.own → net_from p plan m input s n d ≡ Some e → Whole first e.own) →
            net_at p plan m input s (net_from p plan m input s n) c xs ≡ Some e → Whole first e.own
        at [] go q =
            let same : record { own = c.own; cells = c.cells; closing = c.closing } ≡ e = cc q in
            subst (λ (f : NetEnded). Whole first f.own) same w
        at (x ∷ rest) go q = by (net_step p plan m input s c x rest) (step_keeps c x rest (m.block_at (site_of (out-Stmt x)).0)) q
          where
            by : (o : Option NetTurn) → Keeps c o → net_by p plan m input s (net_from p plan m input s n) o ≡ Some e → Whole first e.own
            by None k q = absurd (cc q)
            by (Some next) k q = go next (k w) q
