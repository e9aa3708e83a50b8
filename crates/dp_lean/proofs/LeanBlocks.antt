-- A turn over items and a lean turn at a block.
use Rattle.dp_semantics.proofs.Names.{◌≡◌, inl, inr, refl, sym, ap, ◌∙◌, subst, arith, ℕ, zero, suc, ◌+◌, ◌-◌, ◌<◌, ◌≤◌, ◌==◌, Bool, true, false, ◌&&◌, ◌||◌}
use Rattle.dp_semantics.proofs.Names.{if◌then◌else◌, List, [], ◌∷◌, ◌++◌, drop, drop-append_seam, ℤ, length, map, Option, Some, None, list_all, or_parts}
use Rattle.dp_semantics.proofs.Names.{and_parts, eq-eqb, ne_eqb, lt-ltb, cases_Bool, cases_eq, slice_set, sum_by, sum_by-cons, Stmt, out-Stmt, Program, Plan}
use Rattle.dp_semantics.proofs.Names.{Event, site_of, stage_of, applied}
use Rattle.dp_semantics.proofs.Setting.{Laid}
use Rattle.dp_net.specs.Quiet.{BlockOutcome, Through}
unfoldable use Rattle.dp_net.specs.Quiet.{quiet_from}
use Rattle.dp_net.specs.NetItems.{Marks, Item, Net, net_of, weight, weights, item_list}
use Rattle.dp_net.specs.NetRun.{NetTurn, NetEnded, net_past, net_made, net_met, net_by, net_step, block_step}
use Rattle.dp_net.proofs.Blocks.{effects_of, through}
use Rattle.dp_net.proofs.Groups.{Marked}
use Rattle.dp_net.proofs.BlockSteps.{made_some}
use Rattle.dp_net.proofs.Silent.{AllQuiet}
use Rattle.dp_net.proofs.Texts.{site_at}
use Rattle.dp_lean.specs.Needed.{is_judge, is_kept_block, store_inside}
use Rattle.dp_lean.specs.Queues.{Told, queue_of, is_of_text, stores_among, with_queue}
use Rattle.dp_lean.specs.LeanTurn.{LeanTurn, lean_step, lean_block_step, lean_met, with_queues}
use Rattle.dp_lean.specs.Laws.{AgreesOn}
use Rattle.dp_lean.proofs.LeanLists.{leaned, lean_block, if_kept}
use Rattle.dp_lean.proofs.LeftTexts.{Left, ReadBlock}
use Rattle.dp_lean.proofs.OwnBlocks.{SameOutcome, same_through, same_broke, outcome_alike}
use Rattle.dp_lean.proofs.Wanted.{agree_both, agree_past, block_elsewhere}
use Rattle.dp_lean.proofs.QueueParts.{block_here, block_there}
use Rattle.dp_lean.proofs.Walk.{Walkable, quiet, behind, block_well, block_sites, block_low, block_past, ReadsBlock, reads_block}
use Rattle.dp_lean.proofs.Weights.{weights_join}
use Rattle.dp_lean.proofs.Alongside.{of_text_after, Taken, block_taken, Fed, fed_taken, fed_past, fed_same, Same, same_step, same_stop}
use Rattle.dp_lean.proofs.LeanSites.{Held, net_turn, lean_turn, Alike}

module _ (p : Program) (plan : Plan) (m : Marks) (input : List ℤ) (marked : Marked p plan m input) (laid : Laid p plan) (t : ℕ)
    (real : is_judge p plan (suc t) ≡ false) (more : ℕ → List Told) where
  abbrev stage : ℕ
  stage = suc t

  abbrev read : ℕ → Bool
  read = Rattle.dp_lean.proofs.LeanSites.read p plan m input marked laid t real more

  module _ (n : ℕ) (go : NetTurn → Option NetEnded) (on : Alike p plan m input marked laid t real more go n) (x : Stmt) (b rest : List Stmt)
      (cells mem : List ℤ) (lists : List (List Item)) (queues : ℕ → List Told) (own : List Item) (closing : Bool)
      (held : Held p plan m input marked laid t real more (suc n) (x ∷ (b ++ rest)) cells mem lists queues own) (at : m.block_at (site_at x) ≡ x ∷ b)
      (reading : ReadBlock p plan m stage read x b) (lefts : Left p plan m stage read rest) where
    abbrev u : ℕ
    u = stage_of p plan (site_at x)

    abbrev left : ℕ → List Item
    left = item_list lists

    abbrev before : NetTurn
    before = net_turn p plan m input marked laid t real more (x ∷ (b ++ rest)) cells lists own closing

    abbrev lean_at_place : List Stmt → List ℤ → (ℕ → List Told) → List Item → LeanTurn
    lean_at_place ys mem queues own = lean_turn p plan m input marked laid t real more ys mem queues own closing

    abbrev lean_before : LeanTurn
    lean_before = lean_at_place (leaned p plan m stage (x ∷ (b ++ rest))) mem queues own

    abbrev ys : List Stmt
    ys = leaned p plan m stage rest

    walked : Walkable p plan m input marked t read (x ∷ (b ++ rest))
    walked = held.walk

    left_is : leaned p plan m stage (x ∷ (b ++ rest)) ≡ if_kept p plan m stage (is_kept_block p plan stage (x ∷ b)) (x ∷ b) ++ ys
    left_is = lean_block p plan m stage x b rest at

    step_is : net_step p plan m input stage before x (b ++ rest) ≡ block_step p plan m input stage before (site_at x) (x ∷ b) rest
    step_is = rw (at, drop-append_seam b rest) refl

    lean_step_is : lean_step p plan m input stage lean_before x (b ++ ys) ≡ lean_block_step p plan m input stage lean_before (site_at x) (x ∷ b) ys
    lean_step_is = rw (at, drop-append_seam b ys) refl

    kept_is : is_kept_block p plan stage (x ∷ b) ≡ true → leaned p plan m stage (x ∷ (b ++ rest)) ≡ x ∷ (b ++ ys)
    kept_is k = left_is ∙ ap (λ (c : Bool). if_kept p plan m stage c (x ∷ b) ++ ys) k

    -- the stage's own
    module _ (here : u ≡ stage) where
      kept_here : is_kept_block p plan stage (x ∷ b) ≡ true
      kept_here = ap (λ (c : Bool). c || store_inside p plan stage (x ∷ b)) (eq-eqb u stage here)

      own_is : net_step p plan m input stage before x (b ++ rest) ≡ net_made p plan m (site_at x) before rest
          (quiet_from p input (plan.words - weights own) (x ∷ b) cells)
      own_is = step_is ∙ rw (eq-eqb u stage here) refl

      lean_own_is : lean_step p plan m input stage lean_before x (b ++ ys) ≡ with_queues queues (net_made p plan m (site_at x) lean_before.turn ys
          (quiet_from p input (plan.words - weights own) (x ∷ b) mem))
      lean_own_is = lean_step_is ∙ rw (eq-eqb u stage here) refl

      abbrev made : List Event → List Item
      made events = own ++ Net (site_at x) (length events) (net_of (m.hides u) (effects_of events)) ∷ []

      held_behind : (events : List Event) (c d : List ℤ) → AgreesOn p plan stage c d →
          quiet_from p input (plan.words - weights own) (x ∷ b) cells ≡ Through events c →
          Held p plan m input marked laid t real more n rest c d lists queues (made events)
      held_behind events c d cd gave =
          let join = weights_join own (Net (site_at x) (length events) (net_of (m.hides u) (effects_of events)) ∷ []) in
          let one = sum_by-cons weight (Net (site_at x) (length events) (net_of (m.hides u) (effects_of events))) [] in
          let some = made_some p input (plan.words - weights own) x b cells events c gave in
          let few = (through p plan stage input (plan.words - weights own) (x ∷ b) cells events c gave).1 in
          let fits = held.fits in
          let enough = held.left in
          record {
            walk = behind p plan m input marked t read x b rest at walked lefts;
            came = block_past p plan m input marked t read x b rest at walked here left held.came;
            of_text = held.of_text;
            agrees = cd;
            fed = held.fed;
            fits = omega (arith, join, one, few, fits);
            left = omega (arith, join, one, some, enough);
          }

      own_block : (o w : BlockOutcome) → SameOutcome p plan stage o w → quiet_from p input (plan.words - weights own) (x ∷ b) cells ≡ o →
          quiet_from p input (plan.words - weights own) (x ∷ b) mem ≡ w →
          Same p plan m input stage more (net_by p plan m input stage go (net_made p plan m (site_at x) before rest o)) lean_before
      own_block o w same_broke gave also = same_stop p plan m input stage more lean_before x (b ++ ys) (kept_is kept_here)
          (lean_own_is ∙ ap (λ (k : BlockOutcome). with_queues queues (net_made p plan m (site_at x) lean_before.turn ys k)) also)
      own_block o w (same_through events c d cd) gave also =
          same_step p plan m input stage more _ lean_before (lean_at_place ys d queues (made events)) x (b ++ ys) (kept_is kept_here)
          (lean_own_is ∙ ap (λ (k : BlockOutcome). with_queues queues (net_made p plan m (site_at x) lean_before.turn ys k)) also)
          (on rest c d lists queues (made events) closing (held_behind events c d cd gave))

      pub own_case : Same p plan m input stage more (net_by p plan m input stage go (net_step p plan m input stage before x (b ++ rest))) lean_before
      own_case = subst (λ (o : Option NetTurn). Same p plan m input stage more (net_by p plan m input stage go o) lean_before) (sym own_is)
          (own_block (quiet_from p input (plan.words - weights own) (x ∷ b) cells) (quiet_from p input (plan.words - weights own) (x ∷ b) mem)
          (outcome_alike p plan stage input real (plan.words - weights own) (x ∷ b) cells mem (block_well p plan m input marked t read x b rest at walked)
          (block_sites p plan m input marked t read x b rest at walked)
          (subst (λ (k : ℕ). AllQuiet p plan k (x ∷ b)) here (quiet p plan m input marked t read x b rest at walked)) held.agrees) refl refl)

    -- another stage's
    module _ (other : u ≡ stage → ⊥) where
      found : ReadsBlock p plan m input marked t read x b rest at walked left
      found = reads_block p plan m input marked t read x b rest at walked other left held.came

      gone_by : Taken p plan m lists u found.next_left found.count
      gone_by = block_taken p plan m (site_at x) found.count found.stores lists u found.next_left (block_low p plan m input marked t read x b rest at walked)
          found.some found.front found.others

      met_is : net_step p plan m input stage before x (b ++ rest) ≡ Some (net_past p plan before rest (applied found.stores cells)
          (slice_set lists (u - 1) (found.next_left u)) own)
      met_is = step_is ∙ rw (ne_eqb u stage other) (ap (net_met p plan (site_at x) before rest) found.front
          ∙ rw (eq-eqb (site_at x) (site_at x) refl, lt-ltb 0 found.count found.some) refl)

      next_held : (mem_next : List ℤ) (queues_next : ℕ → List Told) → AgreesOn p plan stage (applied found.stores cells) mem_next →
          Fed p plan read more found.next_left queues_next →
          Held p plan m input marked laid t real more n rest (applied found.stores cells) mem_next (slice_set lists (u - 1) (found.next_left u)) queues_next own
      next_held mem_next queues_next agrees fed = record {
        walk = behind p plan m input marked t read x b rest at walked lefts;
        came = found.later (item_list (slice_set lists (u - 1) (found.next_left u))) gone_by.same;
        of_text = λ y. ap (list_all (is_of_text p plan m)) (gone_by.same y)
            ∙ of_text_after p plan m u (Net (site_at x) found.count found.stores ∷ []) left found.next_left held.of_text found.front found.others y;
        agrees = agrees;
        fed = fed_same p plan read more found.next_left (item_list (slice_set lists (u - 1) (found.next_left u))) queues_next gone_by.same fed;
        fits = held.fits;
        left = let a = gone_by.sums in let c = gone_by.some in let d = held.left in omega (arith, a, c, d);
      }

      there : (y : ℕ) → (y ≡ site_at x → ⊥) → queue_of p plan left y ≡ queue_of p plan found.next_left y
      there = block_there p plan (site_at x) found.count found.stores left found.next_left found.front found.others

      -- its stores are into the variables of its own statements
      stores_of_text : list_all (stores_among p plan (Rattle.std.specs.List.flat_map Rattle.dp_semantics.proofs.Names.accesses (x ∷ b))) found.stores ≡ true
      stores_of_text = ap (λ (block : List Stmt). list_all
          (stores_among p plan (Rattle.std.specs.List.flat_map Rattle.dp_semantics.proofs.Names.accesses block)) found.stores) (sym at)
          ∙ (and_parts (is_of_text p plan m (Net (site_at x) found.count found.stores)) (list_all (is_of_text p plan m) (found.next_left u))
          (ap (list_all (is_of_text p plan m)) (sym found.front) ∙ held.of_text u)).0

      met_case : Same p plan m input stage more (net_by p plan m input stage go (net_step p plan m input stage before x (b ++ rest))) lean_before
      met_case = subst (λ (o : Option NetTurn). Same p plan m input stage more (net_by p plan m input stage go o) lean_before) (sym met_is)
          (elim (cases_Bool (is_kept_block p plan stage (x ∷ b))) [
            | inl k ↦
                same_step p plan m input stage more _ lean_before
                (lean_at_place ys (applied found.stores mem) (with_queue queues (site_at x) (queue_of p plan found.next_left (site_at x) ++ more (site_at x)))
                own) x (b ++ ys) (kept_is k) (step k)
                (on rest (applied found.stores cells) (applied found.stores mem) (slice_set lists (u - 1) (found.next_left u))
                (with_queue queues (site_at x) (queue_of p plan found.next_left (site_at x) ++ more (site_at x))) own closing
                (next_held (applied found.stores mem) _ (agree_both p plan stage found.stores cells mem held.agrees)
                (fed_taken p plan read more (site_at x) left found.next_left queues held.fed there)))
            | inr k ↦ subst (λ (c : LeanTurn). Same p plan m input stage more
                (go (net_past p plan before rest (applied found.stores cells) (slice_set lists (u - 1) (found.next_left u)) own)) c)
                (ap (λ (zs : List Stmt). lean_at_place zs mem queues own) (sym (left_is ∙ ap (λ (c : Bool). if_kept p plan m stage c (x ∷ b) ++ ys) k)))
                (on rest (applied found.stores cells) mem (slice_set lists (u - 1) (found.next_left u)) queues own closing
                (next_held mem queues
                (agree_past p plan stage found.stores cells mem (block_elsewhere p plan stage laid (x ∷ b) found.stores stores_of_text
                (or_parts (u == stage) (store_inside p plan stage (x ∷ b)) k).1) held.agrees)
                (fed_past p plan read more (site_at x) left found.next_left queues (reading ∙ k) held.fed there)))
          ])
        where
          step : is_kept_block p plan stage (x ∷ b) ≡ true → lean_step p plan m input stage lean_before x (b ++ ys)
              ≡ Some (lean_at_place ys (applied found.stores mem) (with_queue queues (site_at x) (queue_of p plan found.next_left (site_at x)
              ++ more (site_at x))) own)
          step k = lean_step_is ∙ rw (ne_eqb u stage other) (ap (lean_met p plan lean_before (site_at x) ys)
              (held.fed (site_at x) (reading ∙ k) ∙ ap (λ (ts : List Told). ts ++ more (site_at x)) (block_here p plan (site_at x) found.count found.stores left
              found.next_left found.front found.others)))

    -- one step at a block
    pub block_case : Same p plan m input stage more (net_by p plan m input stage go (net_step p plan m input stage before x (b ++ rest))) lean_before
    block_case = elim (cases_eq u stage) [ inl here ↦ own_case here | inr other ↦ met_case other ]
