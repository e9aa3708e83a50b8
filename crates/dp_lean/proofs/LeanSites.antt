-- A turn over items and a lean turn at a site outside of the blocks.
use Rattle.dp_semantics.proofs.Names.{◌≡◌, inl, inr, refl, sym, ap, ◌∙◌, subst, arith, ℕ, zero, suc, ◌+◌, ◌-◌, ◌<◌, ◌≤◌, ◌==◌, Bool, true, false, ◌&&◌, ◌||◌}
use Rattle.dp_semantics.proofs.Names.{if◌then◌else◌, List, [], ◌∷◌, ◌++◌, ℤ, length, Option, Some, None, Ok, Err, list_all, or_parts, eq-eqb, eqb-true, ne_eqb}
use Rattle.dp_semantics.proofs.Names.{leb-true, cases_Bool, cases_eq, and_parts, slice_set, sum_by, nat_le, or-false, Stmt, out-Stmt, Stmt-F, Program, Plan}
use Rattle.dp_semantics.proofs.Names.{Event, Evaluated, evaluated, WithLoads, Effect, Stored, Printed, Decided, Tried, site_of, value_of, stored, followed}
use Rattle.dp_semantics.proofs.Names.{stage_of, first_site, is_checked, closes_at, leaves, is_zero, event_as_assumed, words_of, effect_by, done_word}
use Rattle.dp_semantics.proofs.Evaluation.{Form, evaluated_tracks, head_loads, Readable}
use Rattle.dp_semantics.proofs.Each.{each_map}
use Rattle.dp_semantics.proofs.Setting.{Laid}
use Rattle.dp_semantics.proofs.Ways.{event_of}
use Rattle.dp_net.specs.NetItems.{Marks, Item, weights, said_all, item_list, net_taken_from}
use Rattle.dp_net.specs.NetRun.{NetTurn, NetEnded, net_turned, net_own_step, net_consumed_step, net_by, net_step}
use Rattle.dp_net.proofs.Groups.{Marked}
use Rattle.dp_net.proofs.Ready.{SameEval, same_value, same_fault}
use Rattle.dp_net.proofs.Reading.{said_taken}
use Rattle.dp_net.proofs.Texts.{site_at, Plain}
use Rattle.dp_lean.specs.Needed.{is_judge}
use Rattle.dp_lean.specs.Queues.{Told, queue_of, effect_told, with_queue}
use Rattle.dp_lean.specs.LeanTurn.{LeanTurn, lean_step, lean_did, with_queues}
use Rattle.dp_lean.specs.Laws.{AgreesOn, is_read}
use Rattle.dp_lean.proofs.LeanLists.{leaned}
use Rattle.dp_lean.proofs.LeftTexts.{Left}
use Rattle.dp_lean.proofs.LeanHeads.{Gone, Stands, gone_parts, gone_open}
use Rattle.dp_lean.proofs.Wanted.{agree_both, agree_past, form_elsewhere, eval_alike}
use Rattle.dp_lean.proofs.QueueParts.{did, queue_here, queue_there, effect_here}
use Rattle.dp_lean.proofs.Walk.{Brings, Walkable, head_well, own_site, low, next, own_past, Reads, reads}
use Rattle.dp_lean.proofs.Weights.{weights_join, weights_said}
use Rattle.dp_lean.proofs.Alongside.{does_form, OfText, of_text_after, Taken, words_taken, Fed, fed_taken, fed_past, fed_same, Same, same_step, same_stop}

module _ (p : Program) (plan : Plan) (m : Marks) (input : List ℤ) (marked : Marked p plan m input) (laid : Laid p plan) (t : ℕ)
    (real : is_judge p plan (suc t) ≡ false) (more : ℕ → List Told) where
  abbrev pub stage : ℕ
  stage = suc t

  abbrev pub read : ℕ → Bool
  read = is_read p plan m stage

  -- what holds between the turns, of which the one over items has n steps
  pub record Held (n : ℕ) (xs : List Stmt) (cells mem : List ℤ) (lists : List (List Item)) (queues : ℕ → List Told) (own : List Item) : Type 0 where
    pub walk : Walkable p plan m input marked t read xs
    pub came : Brings p plan m input marked t xs (item_list lists)
    pub of_text : OfText p plan m (item_list lists)
    pub agrees : AgreesOn p plan stage cells mem
    pub fed : Fed p plan read more (item_list lists) queues
    pub fits : weights own ≤ plan.words
    pub left : plan.words + sum_by weights lists < n + weights own

  abbrev pub net_turn : List Stmt → List ℤ → List (List Item) → List Item → Bool → NetTurn
  net_turn xs cells lists own closing = record { to_do = xs; cells = cells; lists = lists; own = own; closing = closing }

  abbrev pub lean_turn : List Stmt → List ℤ → (ℕ → List Told) → List Item → Bool → LeanTurn
  lean_turn ys mem queues own closing = record { turn = record { to_do = ys; cells = mem; lists = []; own = own; closing = closing }; queues = queues }

  -- the turns from here end alike
  abbrev pub Alike : (NetTurn → Option NetEnded) → ℕ → Type 0
  Alike go n = (xs : List Stmt) (cells mem : List ℤ) (lists : List (List Item)) (queues : ℕ → List Told) (own : List Item) (closing : Bool) →
      Held n xs cells mem lists queues own →
      Same p plan m input stage more (go (net_turn xs cells lists own closing)) (lean_turn (leaned p plan m stage xs) mem queues own closing)

  module _ (n : ℕ) (go : NetTurn → Option NetEnded) (on : Alike go n) (x : Stmt) (rest : List Stmt) (cells mem : List ℤ) (lists : List (List Item))
      (queues : ℕ → List Told) (own : List Item) (closing : Bool)
      (held : Held (suc n) (x ∷ rest) cells mem lists queues own) (plain : Plain m x)
      (lefts : (z : ℤ) → Left p plan m stage read (followed x rest (out-Stmt x) z)) where
    abbrev h : Stmt-F Stmt
    h = out-Stmt x

    abbrev u : ℕ
    u = stage_of p plan (site_at x)

    abbrev left : ℕ → List Item
    left = item_list lists

    abbrev before : NetTurn
    before = net_turn (x ∷ rest) cells lists own closing

    walked : Walkable p plan m input marked t read (x ∷ rest)
    walked = held.walk

    step_own : u ≡ stage → net_step p plan m input stage before x rest ≡ net_own_step p plan before x rest h (evaluated p input cells h)
    step_own here = rw (plain.0, eq-eqb u stage here) refl

    step_other : (u ≡ stage → ⊥) → net_step p plan m input stage before x rest ≡ net_consumed_step p plan before x rest h (net_taken_from p h (left u))
    step_other other = rw (plain.0, ne_eqb u stage other) refl

    found : (u ≡ stage → ⊥) → Reads p plan m input marked t read x rest walked left
    found other = reads p plan m input marked t read x rest walked plain.0 other left held.came

    abbrev after_taken : (other : u ≡ stage → ⊥) → NetTurn
    after_taken other = net_turned p plan before x rest h (found other).event.effect own (slice_set lists (u - 1) ((found other).next_left u))

    taken_is : (other : u ≡ stage → ⊥) → net_step p plan m input stage before x rest ≡ Some (after_taken other)
    taken_is other = step_other other
        ∙ ap (net_consumed_step p plan before x rest h) (said_taken p plan h (found other).event (left u) ((found other).next_left u) (found other).says)

    gone_by : (other : u ≡ stage → ⊥) → Taken p plan m lists u (found other).next_left (length (words_of p plan (found other).event))
    gone_by other = words_taken p plan m h (found other).event lists u (found other).next_left (low p plan m input marked t read x rest walked)
        (found other).says (found other).others

    form_of : (other : u ≡ stage → ⊥) → Form p h (found other).event.effect
    form_of other = does_form p plan h (head_well p plan m input marked t read x rest walked) (done_word (found other).event.site (found other).event.effect)
        (found other).event.effect (found other).says.does

    -- the next of both behind what was taken
    next_held : (other : u ≡ stage → ⊥) (mem_next : List ℤ) (queues_next : ℕ → List Told) →
        AgreesOn p plan stage (stored (found other).event.effect cells) mem_next → Fed p plan read more (found other).next_left queues_next →
        Held n (followed x rest h (value_of (found other).event.effect)) (stored (found other).event.effect cells) mem_next
        (slice_set lists (u - 1) ((found other).next_left u)) queues_next own
    next_held other mem_next queues_next agrees fed =
        let g = gone_by other in
        record {
          walk = next p plan m input marked t read x rest walked (value_of (found other).event.effect) (lefts (value_of (found other).event.effect));
          came = (found other).later (item_list (slice_set lists (u - 1) ((found other).next_left u))) g.same;
          of_text = λ y. ap (list_all (Rattle.dp_lean.specs.Queues.is_of_text p plan m)) (g.same y)
              ∙ of_text_after p plan m u (said_all (words_of p plan (found other).event)) left (found other).next_left held.of_text (found other).says.front
              (found other).others y;
          agrees = agrees;
          fed = fed_same p plan read more (found other).next_left (item_list (slice_set lists (u - 1) ((found other).next_left u))) queues_next g.same fed;
          fits = held.fits;
          left = let a = g.sums in let b = g.some in let c = held.left in omega (arith, a, b, c);
        }

    goal_of : (o : Option NetTurn) (c : LeanTurn) → net_step p plan m input stage before x rest ≡ o →
        Same p plan m input stage more (net_by p plan m input stage go o) c →
        Same p plan m input stage more (net_by p plan m input stage go (net_step p plan m input stage before x rest)) c
    goal_of o c is k = subst (λ (o : Option NetTurn). Same p plan m input stage more (net_by p plan m input stage go o) c) (sym is) k

    -- nothing is left of the statement: the lean turn stands still
    pub gone_case : read (site_at x) ≡ false → Gone p plan m stage h → leaned p plan m stage (x ∷ rest) ≡ leaned p plan m stage rest →
        ((z : ℤ) → leaned p plan m stage (followed x rest h z) ≡ leaned p plan m stage rest) →
        Same p plan m input stage more (net_by p plan m input stage go (net_step p plan m input stage before x rest))
        (lean_turn (leaned p plan m stage (x ∷ rest)) mem queues own closing)
    gone_case unread gone is nexts = goal_of _ _ (taken_is other)
        (subst (λ (c : LeanTurn). Same p plan m input stage more (go (after_taken other)) c) stands
        (on (followed x rest h (value_of (found other).event.effect)) (stored (found other).event.effect cells) mem
        (slice_set lists (u - 1) ((found other).next_left u)) queues own
        (closing || closes_at (first_site p plan) (site_of h).0 (found other).event.effect) (next_held other mem queues agrees fed)))
      where
        other : u ≡ stage → ⊥
        other same = let clash : true ≡ false = sym (eq-eqb u stage same) ∙ (gone_parts p plan m stage h gone).0 in absurd (cc clash)

        form : Form p h (found other).event.effect
        form = form_of other

        agrees : AgreesOn p plan stage (stored (found other).event.effect cells) mem
        agrees = agree_past p plan stage ((found other).event.effect ∷ []) cells mem (form_elsewhere p plan stage laid h (found other).event.effect form
            gone.undone) held.agrees

        fed : Fed p plan read more (found other).next_left queues
        fed = fed_past p plan read more (site_at x) left (found other).next_left queues unread held.fed
            (queue_there p plan h (found other).event left (found other).next_left (found other).says (found other).others)

        stays_open : closes_at (first_site p plan) (site_of h).0 (found other).event.effect ≡ false
        stays_open = gone_open p plan m stage h gone (found other).event.effect form

        stands : lean_turn (leaned p plan m stage (followed x rest h (value_of (found other).event.effect))) mem queues own
            (closing || closes_at (first_site p plan) (site_of h).0 (found other).event.effect)
            ≡ lean_turn (leaned p plan m stage (x ∷ rest)) mem queues own closing
        stands =
            ap (λ (ys : List Stmt). lean_turn ys mem queues own (closing || closes_at (first_site p plan) (site_of h).0 (found other).event.effect))
            (nexts (value_of (found other).event.effect) ∙ sym is)
            ∙ ap (λ (b : Bool). lean_turn (leaned p plan m stage (x ∷ rest)) mem queues own b) (ap (λ (b : Bool). closing || b) stays_open ∙ or-false closing)

    -- the statement is left
    module _ (y : Stmt) (stands : Stands p plan m stage input x y) (is : leaned p plan m stage (x ∷ rest) ≡ y ∷ leaned p plan m stage rest)
        (nexts : (z : ℤ) → followed y (leaned p plan m stage rest) (out-Stmt y) z ≡ leaned p plan m stage (followed x rest h z)) where
      abbrev ys : List Stmt
      ys = leaned p plan m stage rest

      abbrev lean_before : LeanTurn
      lean_before = lean_turn (leaned p plan m stage (x ∷ rest)) mem queues own closing

      no_block : m.block_at (site_of (out-Stmt y)).0 ≡ []
      no_block = ap (λ (i : Rattle.dp_semantics.proofs.Names.SiteId). m.block_at i.0) stands.site ∙ plain.0

      stage_is : stage_of p plan (site_of (out-Stmt y)).0 ≡ u
      stage_is = ap (λ (i : Rattle.dp_semantics.proofs.Names.SiteId). stage_of p plan i.0) stands.site

      -- another stage's
      taken_case : (other : u ≡ stage → ⊥) → read (site_at x) ≡ true →
          Same p plan m input stage more (net_by p plan m input stage go (net_step p plan m input stage before x rest)) lean_before
      taken_case other r = goal_of _ _ (taken_is other)
          (same_step p plan m input stage more (go (after_taken other)) lean_before
          (lean_turn (leaned p plan m stage (followed x rest h (value_of (found other).event.effect))) (stored (found other).event.effect mem)
          (with_queue queues (site_at x) behind) own (closing || closes_at (first_site p plan) (site_of h).0 (found other).event.effect))
          y ys is step
          (on (followed x rest h (value_of (found other).event.effect)) (stored (found other).event.effect cells) (stored (found other).event.effect mem)
          (slice_set lists (u - 1) ((found other).next_left u)) (with_queue queues (site_at x) behind) own
          (closing || closes_at (first_site p plan) (site_of h).0 (found other).event.effect) (next_held other (stored (found other).event.effect mem)
          (with_queue queues (site_at x) behind) agrees fed)))
        where
          behind : List Told
          behind = queue_of p plan (found other).next_left (site_at x) ++ more (site_at x)

          agrees : AgreesOn p plan stage (stored (found other).event.effect cells) (stored (found other).event.effect mem)
          agrees = agree_both p plan stage ((found other).event.effect ∷ []) cells mem held.agrees

          fed : Fed p plan read more (found other).next_left (with_queue queues (site_at x) (queue_of p plan (found other).next_left (site_at x)
              ++ more (site_at x)))
          fed = fed_taken p plan read more (site_at x) left (found other).next_left queues held.fed
              (queue_there p plan h (found other).event left (found other).next_left (found other).says (found other).others)

          front : queues (site_of (out-Stmt y)).0 ≡ did (found other).event.effect ∷ (queue_of p plan (found other).next_left (site_at x) ++ more (site_at x))
          front = ap (λ (i : Rattle.dp_semantics.proofs.Names.SiteId). queues i.0) stands.site ∙ held.fed (site_at x) r
              ∙ ap (λ (ts : List Told). ts ++ more (site_at x)) (queue_here p plan h (found other).event left (found other).next_left (found other).says
              (found other).others)

          told_so : effect_told p (out-Stmt y) (did (found other).event.effect) ≡ Some (found other).event.effect
          told_so = ap (λ (i : Rattle.dp_semantics.proofs.Names.SiteId). effect_by p (out-Stmt y) (done_word i.0 (found other).event.effect)) stands.site
              ∙ stands.does (done_word (site_of h).0 (found other).event.effect)
              ∙ effect_here p plan h (found other).event left (found other).next_left (found other).says (found other).others

          step : lean_step p plan m input stage lean_before y ys
              ≡ Some (lean_turn (leaned p plan m stage (followed x rest h (value_of (found other).event.effect))) (stored (found other).event.effect mem)
              (with_queue queues (site_at x) (queue_of p plan (found other).next_left (site_at x) ++ more (site_at x))) own
              (closing || closes_at (first_site p plan) (site_of h).0 (found other).event.effect))
          step = rw (no_block, ne_eqb (stage_of p plan (site_of (out-Stmt y)).0) stage (λ e. other (sym stage_is ∙ e)), front)
              (ap (lean_did p plan lean_before y ys (out-Stmt y) (queue_of p plan (found other).next_left (site_at x) ++ more (site_at x))) told_so
              ∙ rw (stands.site, nexts (value_of (found other).event.effect)) refl)

      -- the stage's own
      own_held : u ≡ stage → (v : WithLoads Effect) → evaluated p input cells h ≡ Ok v → event_as_assumed p plan (event_of h v) ≡ true →
          nat_le (weights own + length (words_of p plan (event_of h v))) plan.words ≡ true →
          Held n (followed x rest h (value_of v.value)) (stored v.value cells) (stored v.value mem) lists queues
          (own ++ said_all (words_of p plan (event_of h v)))
      own_held here v gave assumed fit =
          let ws = words_of p plan (event_of h v) in
          let join = weights_join own (said_all ws) in
          let said = weights_said ws in
          let some = Rattle.dp_semantics.proofs.Shorter.some_word p plan (event_of h v) in
          let low = leb-true (weights own + length ws) plan.words fit in
          let before = held.left in
          let site = own_site p plan m input marked t read x rest walked in
          let form : Form p h v.value = (evaluated_tracks p input cells cells (λ l. Unit {0}) h site.0.room
          (each_map (λ y. 0 < Rattle.dp_semantics.proofs.Names.cell_count p (record { 0 = y })) (Readable p cells (λ l. Unit {0})) (λ y k. (k, λ c i. tt))
          (head_loads h) site.0.reads) v gave).value in
          record {
            walk = next p plan m input marked t read x rest walked (value_of v.value) (lefts (value_of v.value));
            came = own_past p plan m input marked t read x rest walked here left held.came v.value form assumed;
            of_text = held.of_text;
            agrees = agree_both p plan stage (v.value ∷ []) cells mem held.agrees;
            fed = held.fed;
            fits = omega (arith, join, said, low);
            left = omega (arith, join, said, some, before);
          }

      own_case : u ≡ stage → (o w : Evaluated Effect) → SameEval o w → evaluated p input cells h ≡ o → evaluated p input mem h ≡ w →
          Same p plan m input stage more (net_by p plan m input stage go (net_own_step p plan before x rest h o)) lean_before
      own_case here o w (same_fault k l) gave also = same_stop p plan m input stage more lean_before y ys is
          (rw (no_block, eq-eqb (stage_of p plan (site_of (out-Stmt y)).0) stage (stage_is ∙ here), stands.evaluates mem, also) refl)
      own_case here o w (same_value v) gave also =
          by (event_as_assumed p plan (event_of h v)) (nat_le (weights own + length (words_of p plan (event_of h v))) plan.words) refl refl
        where
          step : lean_step p plan m input stage lean_before y ys
              ≡ with_queues queues (if event_as_assumed p plan (event_of h v) && nat_le (weights own + length (words_of p plan (event_of h v))) plan.words
              then Some (record {
                to_do = leaned p plan m stage (followed x rest h (value_of v.value));
                cells = stored v.value mem;
                lists = [];
                own = own ++ said_all (words_of p plan (event_of h v));
                closing = closing || closes_at (first_site p plan) (site_of h).0 v.value;
              }) else None)
          step = rw (no_block, eq-eqb (stage_of p plan (site_of (out-Stmt y)).0) stage (stage_is ∙ here), stands.evaluates mem, also)
              (rw (stands.site, nexts (value_of v.value)) refl)

          by : (a b : Bool) → event_as_assumed p plan (event_of h v) ≡ a → nat_le (weights own + length (words_of p plan (event_of h v))) plan.words ≡ b →
              Same p plan m input stage more
              (net_by p plan m input stage go (if a && b then Some (net_turned p plan before x rest h v.value (own ++ said_all (words_of p plan (event_of h v)))
              lists) else None)) lean_before
          by true true assumed fit =
              same_step p plan m input stage more _ lean_before
              (lean_turn (leaned p plan m stage (followed x rest h (value_of v.value))) (stored v.value mem) queues
              (own ++ said_all (words_of p plan (event_of h v))) (closing || closes_at (first_site p plan) (site_of h).0 v.value))
              y ys is (step ∙ rw (assumed, fit) refl)
              (on (followed x rest h (value_of v.value)) (stored v.value cells) (stored v.value mem) lists queues
              (own ++ said_all (words_of p plan (event_of h v)))
              (closing || closes_at (first_site p plan) (site_of h).0 v.value) (own_held here v gave assumed fit))
          by true false assumed fit = same_stop p plan m input stage more lean_before y ys is (step ∙ rw (assumed, fit) refl)
          by false b assumed fit = same_stop p plan m input stage more lean_before y ys is (step ∙ rw assumed refl)

      -- one step at a site whose statement is left
      pub stays_case : read (site_at x) ≡ true →
          Same p plan m input stage more (net_by p plan m input stage go (net_step p plan m input stage before x rest)) lean_before
      stays_case r = elim (cases_eq u stage) [
        | inl here ↦ goal_of _ _ (step_own here) (own_case here (evaluated p input cells h) (evaluated p input mem h)
            (eval_alike p plan stage input real h (own_site p plan m input marked t read x rest walked).0 here cells mem held.agrees) refl refl)
        | inr other ↦ taken_case other r
      ]
