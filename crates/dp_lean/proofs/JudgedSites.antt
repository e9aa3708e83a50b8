-- The judging of items and the lean judging at a site outside of the blocks.
use Rattle.dp_semantics.proofs.Names.{◌≡◌, inl, inr, refl, sym, ap, ◌∙◌, subst, append-nil, arith, le-leb, eq-eqb, ne_eqb, or-false, ℕ, suc, ◌+◌, ◌-◌, Bool}
use Rattle.dp_semantics.proofs.Names.{true, false, ◌&&◌, ◌||◌, if◌then◌else◌, List, [], ◌∷◌, ◌++◌, ℤ, length, Option, Some, None, list_all, cases_Bool}
use Rattle.dp_semantics.proofs.Names.{cases_eq, filter_map, slice_set, SiteId, Stmt, out-Stmt, Stmt-F, Program, Plan, Load, Effect, Stored, Printed, Decided}
use Rattle.dp_semantics.proofs.Names.{Tried, site_of, value_of, stored, followed, stage_of, first_site, is_checked, closes_at, words_of, done_word, effect_by}
use Rattle.dp_semantics.proofs.Names.{applied}
use Rattle.dp_tree.specs.Trace.{printed_by}
use Rattle.dp_semantics.proofs.Evaluation.{Form}
use Rattle.dp_semantics.proofs.Setting.{Laid}
use Rattle.dp_net.specs.NetItems.{Marks, Item, said_all, item_list}
use Rattle.dp_net.specs.NetJudge.{NetJudging, NetAgreed, net_judge_by, net_judge_step}
use Rattle.dp_net.proofs.Groups.{Marked}
use Rattle.dp_net.proofs.Texts.{site_at, Plain}
use Rattle.dp_lean.specs.Needed.{is_judge}
use Rattle.dp_lean.specs.Queues.{Told, queue_of, load_queue_of, effect_told, with_queue, all_steps, is_of_text}
use Rattle.dp_lean.specs.LeanTurn.{lean_taken}
use Rattle.dp_lean.specs.LeanJudge.{LeanJudging, lean_judge_step, lean_noted, effects_next, lean_compared, load_holds}
unfoldable use Rattle.dp_lean.specs.LeanJudge.{lean_judge_from}
use Rattle.dp_lean.specs.Laws.{AgreesOn, is_read}
use Rattle.dp_lean.proofs.LeanLists.{leaned}
use Rattle.dp_lean.proofs.LeftTexts.{Left}
use Rattle.dp_lean.proofs.LeanHeads.{Gone, Stands, gone_parts, gone_open}
use Rattle.dp_lean.proofs.Wanted.{agree_both, agree_past, form_elsewhere}
use Rattle.dp_lean.proofs.QueueParts.{did, queue_here, queue_there, effect_here}
use Rattle.dp_lean.proofs.LoadQueues.{loads_here, loads_there, held_alike}
use Rattle.dp_lean.proofs.Outliving.{Outlives, outlives_both, outlives_past, form_local, applied_join}
use Rattle.dp_lean.proofs.Walk.{Brings, Walkable, next}
use Rattle.dp_lean.proofs.Alongside.{of_text_after, Fed, fed_taken, fed_past, fed_same}
use Rattle.dp_lean.proofs.JudgeSteps.{found, taken, form, steps_left, judged_is}
use Rattle.dp_lean.proofs.Outliving.{filter_join}
use Rattle.dp_lean.proofs.JudgedTurns.{FedLoads, Held, Same, same_step, same_stop, Alike, net_at, lean_judging_at}

module _ (p : Program) (plan : Plan) (m : Marks) (input : List ℤ) (marked : Marked p plan m input) (laid : Laid p plan)
    (judge : is_judge p plan (suc (length plan.stages)) ≡ true)
    (limit : ℕ) (lists0 : List (List Item)) (cells0 : List ℤ) (more : ℕ → List Told) (more_loads : ℕ → List (List Load)) where
  abbrev t : ℕ
  t = length plan.stages

  abbrev stage : ℕ
  stage = suc t

  abbrev read : ℕ → Bool
  read = is_read p plan m stage

  abbrev FedAt : (ℕ → List Item) → (ℕ → List (List Load)) → Type 0
  FedAt = FedLoads p plan m input marked laid judge limit lists0 cells0 more more_loads

  abbrev HeldAt : ℕ → List Stmt → List ℤ → List ℤ → List (List Item) → (ℕ → List Told) → (ℕ → List (List Load)) → List Effect → List Effect → ℕ → Type 0
  HeldAt = Held p plan m input marked laid judge limit lists0 cells0 more more_loads

  abbrev SameAt : Option NetAgreed → LeanJudging → Type 0
  SameAt = Same p plan m input marked laid judge limit lists0 cells0 more more_loads

  abbrev net_place : List Stmt → List ℤ → List (List Item) → Bool → List Effect → List ℕ → ℕ → NetJudging
  net_place = net_at p plan m input marked laid judge limit lists0 cells0 more more_loads

  abbrev lean_place : List Stmt → List ℤ → (ℕ → List Told) → (ℕ → List (List Load)) → Bool → List Effect → LeanJudging
  lean_place = lean_judging_at p plan m input marked laid judge limit lists0 cells0 more more_loads

  module _ (n : ℕ) (go : NetJudging → Option NetAgreed) (on : Alike p plan m input marked laid judge limit lists0 cells0 more more_loads go n) (x : Stmt)
      (rest : List Stmt) (cells mem : List ℤ) (lists : List (List Item)) (queues : ℕ → List Told) (loads : ℕ → List (List Load)) (closing : Bool)
      (ne le : List Effect) (sites : List ℕ) (steps : ℕ)
      (held : HeldAt (suc n) (x ∷ rest) cells mem lists queues loads ne le steps) (plain : Plain m x)
      (lefts : (z : ℤ) → Left p plan m stage read (followed x rest (out-Stmt x) z)) where
    abbrev h : Stmt-F Stmt
    h = out-Stmt x

    abbrev before : NetJudging
    before = net_place (x ∷ rest) cells lists closing ne sites steps

    abbrev f : Rattle.dp_lean.proofs.Walk.Reads p plan m input marked t read x rest held.walk (item_list lists)
    f = found p plan m input marked read limit x rest cells lists closing ne sites steps held.walk held.came plain

    abbrev lists_then : List (List Item)
    lists_then = slice_set lists (stage_of p plan (site_at x) - 1) (f.next_left (stage_of p plan (site_at x)))

    abbrev closing_then : Bool
    closing_then = closing || closes_at (first_site p plan) (site_of h).0 f.event.effect

    abbrev net_then : NetJudging
    net_then = net_place (followed x rest h (value_of f.event.effect)) (stored f.event.effect cells) lists_then closing_then (ne ++ f.event.effect ∷ [])
        (sites ++ (site_of h).0 ∷ []) (steps + 1)

    shape : Form p h f.event.effect
    shape = form p plan m input marked read limit x rest cells lists closing ne sites steps held.walk held.came plain

    step_is : net_judge_step p plan m limit before x rest ≡ (if (if is_checked p plan (site_at x) then list_all (load_holds cells) f.event.loads else true)
        then Some net_then else None)
    step_is = judged_is p plan m input marked read limit x rest cells lists closing ne sites steps held.walk held.came plain
        ∙ ap (λ (b : Bool). if b then (if (if is_checked p plan (site_at x) then list_all (load_holds cells) f.event.loads else true) then Some net_then
        else None) else None)
        (le-leb (steps + 1) limit (let a = steps_left p plan m input marked read limit x rest cells lists closing ne sites steps held.walk held.came plain in
        let b = held.total in let c = held.within in omega (arith, a, b, c)))

    next_held : (mem_next : List ℤ) (queues_next : ℕ → List Told) (loads_next : ℕ → List (List Load)) (le_next : List Effect) →
        AgreesOn p plan stage (stored f.event.effect cells) mem_next →
        Fed p plan read more f.next_left queues_next → FedAt f.next_left loads_next →
        ((from : List ℤ) → Outlives p plan (applied (ne ++ f.event.effect ∷ []) from) (applied le_next from)) →
        filter_map printed_by le_next ≡ filter_map printed_by (ne ++ f.event.effect ∷ []) →
        HeldAt n (followed x rest h (value_of f.event.effect)) (stored f.event.effect cells) mem_next lists_then queues_next loads_next
        (ne ++ f.event.effect ∷ []) le_next (steps + 1)
    next_held mem_next queues_next loads_next le_next agrees fed fed_loads outlive prints =
        let g = taken p plan m input marked read limit x rest cells lists closing ne sites steps held.walk held.came plain in
        record {
          walk = next p plan m input marked t read x rest held.walk (value_of f.event.effect) (lefts (value_of f.event.effect));
          came = f.later (item_list lists_then) g.same;
          of_text = λ y. ap (list_all (is_of_text p plan m)) (g.same y)
              ∙ of_text_after p plan m (stage_of p plan (site_at x)) (said_all (words_of p plan f.event)) (item_list lists) f.next_left held.of_text
              f.says.front f.others y;
          agrees = agrees;
          fed = fed_same p plan read more f.next_left (item_list lists_then) queues_next g.same fed;
          fed_loads = λ y r c. fed_loads y r c ∙ ap (λ (is : List Item). Rattle.dp_lean.specs.Queues.loads_told y [] is ++ more_loads y)
              (sym (g.same (stage_of p plan y)));
          so_far = ap (stored f.event.effect) held.so_far ∙ sym (applied_join ne (f.event.effect ∷ []) cells0);
          outlive = outlive;
          prints = prints;
          total = let a = steps_left p plan m input marked read limit x rest cells lists closing ne sites steps held.walk held.came plain in
              let b = held.total in omega (arith, a, b);
          within = held.within;
          left = let a = held.left in omega (arith, a);
        }

    goal_of : (o : Option NetJudging) (c : LeanJudging) → net_judge_step p plan m limit before x rest ≡ o → SameAt (net_judge_by p plan go o) c →
        SameAt (net_judge_by p plan go (net_judge_step p plan m limit before x rest)) c
    goal_of o c is k = subst (λ (o : Option NetJudging). SameAt (net_judge_by p plan go o) c) (sym is) k

    joined : (from : List ℤ) → applied (ne ++ f.event.effect ∷ []) from ≡ stored f.event.effect (applied ne from)
    joined from = applied_join ne (f.event.effect ∷ []) from

    -- nothing is left of the statement
    pub gone_case : read (site_at x) ≡ false → Gone p plan m stage h → leaned p plan m stage (x ∷ rest) ≡ leaned p plan m stage rest →
        ((z : ℤ) → leaned p plan m stage (followed x rest h z) ≡ leaned p plan m stage rest) →
        SameAt (net_judge_by p plan go (net_judge_step p plan m limit before x rest))
        (lean_place (leaned p plan m stage (x ∷ rest)) mem queues loads closing le)
    gone_case unread gone is nexts =
        goal_of (Some net_then) _ (step_is ∙ ap (λ (b : Bool). if (if b then list_all (load_holds cells) f.event.loads else true) then Some net_then
        else None) unchecked)
        (subst (λ (c : LeanJudging). SameAt (go net_then) c) stands
        (on (followed x rest h (value_of f.event.effect)) (stored f.event.effect cells) mem lists_then queues loads closing_then (ne ++ f.event.effect ∷ []) le
        (sites ++ (site_of h).0 ∷ []) (steps + 1)
        (next_held mem queues loads le agrees fed fed_loads
        (λ from. subst (λ (a : List ℤ). Outlives p plan a (applied le from)) (sym (joined from)) (outlives_past p plan (f.event.effect ∷ []) (applied ne from)
        (applied le from) (form_local p plan laid stage judge h f.event.effect shape gone.undone) (held.outlive from)))
        (held.prints ∙ sym (filter_join printed_by ne (f.event.effect ∷ []) ∙ ap (λ (zs : List ℤ). filter_map printed_by ne ++ zs)
        (unprinted f.event.effect shape) ∙ append-nil (filter_map printed_by ne))))))
      where
        unchecked : is_checked p plan (site_at x) ≡ false
        unchecked = ap (λ (b : Bool). b && is_checked p plan (site_of h).0) (sym judge) ∙ (gone_parts p plan m stage h gone).2

        agrees : AgreesOn p plan stage (stored f.event.effect cells) mem
        agrees = agree_past p plan stage (f.event.effect ∷ []) cells mem (form_elsewhere p plan stage laid h f.event.effect shape gone.undone) held.agrees

        fed : Fed p plan read more f.next_left queues
        fed = fed_past p plan read more (site_at x) (item_list lists) f.next_left queues unread held.fed
            (queue_there p plan h f.event (item_list lists) f.next_left f.says f.others)

        fed_loads : FedAt f.next_left loads
        fed_loads y r c = held.fed_loads y r c ∙ ap (λ (ls : List (List Load)). ls ++ more_loads y)
            (loads_there p plan h f.event (item_list lists) f.next_left f.says f.others y (λ same. differs (sym r ∙ ap read same ∙ unread)))
          where
            differs : true ≡ false → ⊥
            differs e = absurd (cc e)

        unprinted : (e : Effect) → Form p h e → filter_map printed_by (e ∷ []) ≡ []
        unprinted (Stored c z) k = refl
        unprinted (Decided z) k = refl
        unprinted (Tried z) k = refl
        unprinted (Printed z) k = let clash : true ≡ false = sym judge ∙ gone.mute z k in absurd (cc clash)

        stays_open : closes_at (first_site p plan) (site_of h).0 f.event.effect ≡ false
        stays_open = gone_open p plan m stage h gone f.event.effect shape

        stands : lean_place (leaned p plan m stage (followed x rest h (value_of f.event.effect))) mem queues loads closing_then le ≡ lean_place
            (leaned p plan m stage (x ∷ rest)) mem queues loads closing le
        stands =
            ap (λ (ys : List Stmt). lean_place ys mem queues loads closing_then le) (nexts (value_of f.event.effect) ∙ sym is)
            ∙ ap (λ (b : Bool). lean_place (leaned p plan m stage (x ∷ rest)) mem queues loads b le)
            (ap (λ (b : Bool). closing || b) stays_open ∙ or-false closing)

    -- the statement is left
    module _ (y : Stmt) (stands : Stands p plan m stage input x y) (is : leaned p plan m stage (x ∷ rest) ≡ y ∷ leaned p plan m stage rest)
        (nexts : (z : ℤ) → followed y (leaned p plan m stage rest) (out-Stmt y) z ≡ leaned p plan m stage (followed x rest h z))
        (r : read (site_at x) ≡ true) where
      abbrev ys : List Stmt
      ys = leaned p plan m stage rest

      abbrev lean_before : LeanJudging
      lean_before = lean_place (leaned p plan m stage (x ∷ rest)) mem queues loads closing le

      abbrev queue_then : List Told
      queue_then = queue_of p plan f.next_left (site_at x) ++ more (site_at x)

      abbrev lean_then : (ℕ → List (List Load)) → LeanJudging
      lean_then loads_next = lean_place (leaned p plan m stage (followed x rest h (value_of f.event.effect))) (stored f.event.effect mem)
          (with_queue queues (site_at x) queue_then) loads_next closing_then (le ++ f.event.effect ∷ [])

      no_block : m.block_at (site_of (out-Stmt y)).0 ≡ []
      no_block = ap (λ (i : SiteId). m.block_at i.0) stands.site ∙ plain.0

      checked_same : is_checked p plan (site_of (out-Stmt y)).0 ≡ is_checked p plan (site_at x)
      checked_same = ap (λ (i : SiteId). is_checked p plan i.0) stands.site

      front : queues (site_of (out-Stmt y)).0 ≡ did f.event.effect ∷ queue_then
      front = ap (λ (i : SiteId). queues i.0) stands.site ∙ held.fed (site_at x) r
          ∙ ap (λ (ts : List Told). ts ++ more (site_at x)) (queue_here p plan h f.event (item_list lists) f.next_left f.says f.others)

      told_so : effect_told p (out-Stmt y) (did f.event.effect) ≡ Some f.event.effect
      told_so = ap (λ (i : SiteId). effect_by p (out-Stmt y) (done_word i.0 f.event.effect)) stands.site ∙ stands.does (done_word (site_of h).0 f.event.effect)
          ∙ effect_here p plan h f.event (item_list lists) f.next_left f.says f.others

      -- what is noted where the loads hold
      noted : (loads_next : ℕ → List (List Load)) →
          lean_noted p plan lean_before loads_next (effects_next p plan (out-Stmt y) (queues (site_of (out-Stmt y)).0))
          (lean_taken p plan lean_before.turn y ys (out-Stmt y) (queues (site_of (out-Stmt y)).0))
          ≡ Some (lean_then loads_next)
      noted loads_next = ap (λ (q : List Told). lean_noted p plan lean_before loads_next (effects_next p plan (out-Stmt y) q)
          (lean_taken p plan lean_before.turn y ys (out-Stmt y) q)) front
          ∙ rw told_so (rw (stands.site, nexts (value_of f.event.effect)) refl)

      then_held : (loads_next : ℕ → List (List Load)) → FedAt f.next_left loads_next →
          HeldAt n (followed x rest h (value_of f.event.effect)) (stored f.event.effect cells) (stored f.event.effect mem) lists_then
          (with_queue queues (site_at x) queue_then) loads_next (ne ++ f.event.effect ∷ []) (le ++ f.event.effect ∷ []) (steps + 1)
      then_held loads_next fed_loads = next_held (stored f.event.effect mem) (with_queue queues (site_at x) queue_then) loads_next (le ++ f.event.effect ∷ [])
          (agree_both p plan stage (f.event.effect ∷ []) cells mem held.agrees)
          (fed_taken p plan read more (site_at x) (item_list lists) f.next_left queues held.fed (queue_there p plan h f.event (item_list lists) f.next_left
          f.says f.others)) fed_loads
          (λ from. subst (λ (a : List ℤ). Outlives p plan a (applied (le ++ f.event.effect ∷ []) from)) (sym (joined from))
          (subst (λ (b : List ℤ). Outlives p plan (stored f.event.effect (applied ne from)) b) (sym (applied_join le (f.event.effect ∷ []) from))
          (outlives_both p plan (f.event.effect ∷ []) (applied ne from) (applied le from) (held.outlive from))))
          (filter_join printed_by le (f.event.effect ∷ []) ∙ ap (λ (zs : List ℤ). zs ++ filter_map printed_by (f.event.effect ∷ [])) held.prints
          ∙ sym (filter_join printed_by ne (f.event.effect ∷ [])))

      goes_on : (loads_next : ℕ → List (List Load)) → FedAt f.next_left loads_next → lean_judge_step p plan m lean_before y ys ≡ Some (lean_then loads_next) →
          SameAt (go net_then) lean_before
      goes_on loads_next fed_loads step =
          same_step p plan m input marked laid judge limit lists0 cells0 more more_loads (go net_then) lean_before (lean_then loads_next) y ys is step
          (on (followed x rest h (value_of f.event.effect)) (stored f.event.effect cells) (stored f.event.effect mem) lists_then
          (with_queue queues (site_at x) queue_then) loads_next closing_then (ne ++ f.event.effect ∷ []) (le ++ f.event.effect ∷ [])
          (sites ++ (site_of h).0 ∷ []) (steps + 1)
          (then_held loads_next fed_loads))

      -- a site that isn't checked
      unchecked_case : is_checked p plan (site_at x) ≡ false → SameAt (net_judge_by p plan go (net_judge_step p plan m limit before x rest)) lean_before
      unchecked_case e = goal_of (Some net_then) _ (step_is ∙ ap (λ (b : Bool). if (if b then list_all (load_holds cells) f.event.loads else true)
          then Some net_then else None) e)
          (goes_on loads fed_loads
          (rw (no_block, checked_same ∙ e) (noted loads)))
        where
          fed_loads : FedAt f.next_left loads
          fed_loads k rk c = held.fed_loads k rk c ∙ ap (λ (ls : List (List Load)). ls ++ more_loads k)
              (loads_there p plan h f.event (item_list lists) f.next_left f.says f.others k (λ same. differs (sym c ∙ ap (is_checked p plan) same ∙ e)))
            where
              differs : true ≡ false → ⊥
              differs e = absurd (cc e)

      -- a checked one
      checked_case : is_checked p plan (site_at x) ≡ true → SameAt (net_judge_by p plan go (net_judge_step p plan m limit before x rest)) lean_before
      checked_case e = goal_of (if list_all (load_holds cells) f.event.loads then Some net_then else None) _
          (step_is ∙ ap (λ (b : Bool). if (if b then list_all (load_holds cells) f.event.loads else true) then Some net_then else None) e)
          (by (list_all (load_holds cells) f.event.loads) same_loads)
        where
          same_loads : list_all (load_holds mem) f.event.loads ≡ list_all (load_holds cells) f.event.loads
          same_loads = held_alike p plan m stage judge f.event (f.next_left (stage_of p plan (site_at x))) (ap (is_checked p plan) f.says.site ∙ e)
              (ap (list_all (is_of_text p plan m)) (sym f.says.front) ∙ held.of_text (stage_of p plan (site_at x))) cells mem held.agrees

          load_front : loads (site_of (out-Stmt y)).0 ≡ f.event.loads ∷ (load_queue_of p plan f.next_left (site_at x) ++ more_loads (site_at x))
          load_front = ap (λ (i : SiteId). loads i.0) stands.site ∙ held.fed_loads (site_at x) r e
              ∙ ap (λ (ls : List (List Load)). ls ++ more_loads (site_at x)) (loads_here p plan h f.event (item_list lists) f.next_left f.says f.others e)

          lean_step : lean_judge_step p plan m lean_before y ys
              ≡ (if list_all (load_holds mem) f.event.loads
              then Some (lean_then (with_queue loads (site_at x) (load_queue_of p plan f.next_left (site_at x) ++ more_loads (site_at x)))) else None)
          lean_step = rw (no_block, checked_same ∙ e) (ap (lean_compared p plan lean_before y ys (out-Stmt y)) load_front
              ∙ ap (λ (o : Option LeanJudging). if list_all (load_holds mem) f.event.loads then o else None)
              (ap (λ (i : SiteId). lean_noted p plan lean_before (with_queue loads i.0 (load_queue_of p plan f.next_left (site_at x) ++ more_loads (site_at x)))
              (effects_next p plan (out-Stmt y) (queues (site_of (out-Stmt y)).0)) (lean_taken p plan lean_before.turn y ys (out-Stmt y)
              (queues (site_of (out-Stmt y)).0))) stands.site
              ∙ noted (with_queue loads (site_at x) (load_queue_of p plan f.next_left (site_at x) ++ more_loads (site_at x)))))

          fed_loads : FedAt f.next_left (with_queue loads (site_at x) (load_queue_of p plan f.next_left (site_at x) ++ more_loads (site_at x)))
          fed_loads k rk c = elim (cases_eq k (site_at x)) [
            | inl same ↦ ap (λ (b : Bool). if b then load_queue_of p plan f.next_left (site_at x) ++ more_loads (site_at x) else loads k)
                (eq-eqb k (site_at x) same)
                ∙ ap (λ (i : ℕ). load_queue_of p plan f.next_left i ++ more_loads i) (sym same)
            | inr differs ↦ ap (λ (b : Bool). if b then load_queue_of p plan f.next_left (site_at x) ++ more_loads (site_at x) else loads k)
                (ne_eqb k (site_at x) differs)
                ∙ held.fed_loads k rk c ∙ ap (λ (ls : List (List Load)). ls ++ more_loads k) (loads_there p plan h f.event (item_list lists) f.next_left
                f.says f.others k differs)
          ]

          by : (b : Bool) → list_all (load_holds mem) f.event.loads ≡ b → SameAt (net_judge_by p plan go (if b then Some net_then else None)) lean_before
          by true q = goes_on (with_queue loads (site_at x) (load_queue_of p plan f.next_left (site_at x) ++ more_loads (site_at x))) fed_loads
              (lean_step ∙ ap (λ (b : Bool). if b
              then Some (lean_then (with_queue loads (site_at x) (load_queue_of p plan f.next_left (site_at x) ++ more_loads (site_at x)))) else None) q)
          by false q = same_stop p plan m input marked laid judge limit lists0 cells0 more more_loads lean_before y ys is
              (lean_step ∙ ap (λ (b : Bool). if b
              then Some (lean_then (with_queue loads (site_at x) (load_queue_of p plan f.next_left (site_at x) ++ more_loads (site_at x)))) else None) q)

      -- one step at a site whose statement is left
      pub stays_case : SameAt (net_judge_by p plan go (net_judge_step p plan m limit before x rest)) lean_before
      stays_case = elim (cases_Bool (is_checked p plan (site_at x))) [ inl e ↦ checked_case e | inr e ↦ unchecked_case e ]
