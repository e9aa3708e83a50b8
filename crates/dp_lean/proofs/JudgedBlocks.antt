-- The judging of items and the lean judging at a block.
use Rattle.dp_semantics.proofs.Names.{◌≡◌, inl, inr, refl, sym, ap, ◌∙◌, subst, append-nil, arith, le-leb, or_parts, and_parts, ℕ, suc, ◌+◌, ◌-◌, ◌==◌, Bool}
use Rattle.dp_semantics.proofs.Names.{true, if◌then◌else◌, List, [], ◌∷◌, ◌++◌, drop-append_seam, ℤ, length, Option, Some, None, list_all, cases_Bool}
use Rattle.dp_semantics.proofs.Names.{filter_map, slice_set, flat_map, Stmt, Program, Plan, Load, Effect, Stored, Printed, Decided, Tried, stage_of, accesses}
use Rattle.dp_semantics.proofs.Names.{applied}
use Rattle.dp_tree.specs.Trace.{printed_by}
use Rattle.dp_semantics.proofs.Setting.{Laid}
use Rattle.dp_net.specs.NetItems.{Marks, Item, Net, is_store, item_list}
use Rattle.dp_net.specs.NetJudge.{NetJudging, NetAgreed, sites_for, net_judge_by, net_judge_step}
use Rattle.dp_net.proofs.Groups.{Marked}
use Rattle.dp_net.proofs.Texts.{site_at}
use Rattle.dp_lean.specs.Needed.{is_judge, is_kept_block, store_inside}
use Rattle.dp_lean.specs.Queues.{Told, DidBlock, queue_of, load_queue_of, with_queue, all_steps, is_of_text, stores_among}
use Rattle.dp_lean.specs.LeanTurn.{lean_met}
use Rattle.dp_lean.specs.LeanJudge.{LeanJudging, lean_judge_step, lean_noted, stores_next}
use Rattle.dp_lean.specs.Laws.{AgreesOn}
use Rattle.dp_lean.proofs.LeanLists.{leaned, lean_block, if_kept}
use Rattle.dp_lean.proofs.LeftTexts.{Left, ReadBlock}
use Rattle.dp_lean.proofs.Wanted.{agree_both, agree_past, block_elsewhere}
use Rattle.dp_lean.proofs.QueueParts.{block_here, block_there}
use Rattle.dp_lean.proofs.LoadQueues.{loads_past}
use Rattle.dp_lean.proofs.Outliving.{Outlives, outlives_both, outlives_past, block_local, applied_join}
use Rattle.dp_lean.proofs.Walk.{behind, ReadsBlock}
use Rattle.dp_lean.proofs.Alongside.{of_text_after, Fed, fed_taken, fed_past, fed_same}
use Rattle.dp_lean.proofs.JudgeSteps.{found_block, taken_block, block_steps, block_is}
use Rattle.dp_lean.proofs.Outliving.{filter_join}
use Rattle.dp_lean.proofs.JudgedTurns.{Held, FedLoads, Alike, Same, same_step, net_at, lean_judging_at}

stores_unprinted : (es : List Effect) → list_all is_store es ≡ true → filter_map printed_by es ≡ []
stores_unprinted [] e = refl
stores_unprinted (Stored c z ∷ es) e = stores_unprinted es e
stores_unprinted (Printed z ∷ es) e = absurd (cc e)
stores_unprinted (Decided z ∷ es) e = absurd (cc e)
stores_unprinted (Tried z ∷ es) e = absurd (cc e)

module _ (p : Program) (plan : Plan) (m : Marks) (input : List ℤ) (marked : Marked p plan m input) (laid : Laid p plan)
    (judge : is_judge p plan (suc (length plan.stages)) ≡ true)
    (limit : ℕ) (lists0 : List (List Item)) (cells0 : List ℤ) (more : ℕ → List Told) (more_loads : ℕ → List (List Load)) where
  abbrev t : ℕ
  t = length plan.stages

  abbrev stage : ℕ
  stage = suc t

  abbrev read : ℕ → Bool
  read = Rattle.dp_lean.proofs.JudgedTurns.read p plan m input marked laid judge limit lists0 cells0 more more_loads

  abbrev HeldAt : ℕ → List Stmt → List ℤ → List ℤ → List (List Item) → (ℕ → List Told) → (ℕ → List (List Load)) → List Effect → List Effect → ℕ → Type 0
  HeldAt = Held p plan m input marked laid judge limit lists0 cells0 more more_loads

  abbrev SameAt : Option NetAgreed → LeanJudging → Type 0
  SameAt = Same p plan m input marked laid judge limit lists0 cells0 more more_loads

  abbrev net_place : List Stmt → List ℤ → List (List Item) → Bool → List Effect → List ℕ → ℕ → NetJudging
  net_place = net_at p plan m input marked laid judge limit lists0 cells0 more more_loads

  abbrev lean_place : List Stmt → List ℤ → (ℕ → List Told) → (ℕ → List (List Load)) → Bool → List Effect → LeanJudging
  lean_place = lean_judging_at p plan m input marked laid judge limit lists0 cells0 more more_loads

  module _ (n : ℕ) (go : NetJudging → Option NetAgreed) (on : Alike p plan m input marked laid judge limit lists0 cells0 more more_loads go n) (x : Stmt)
      (b rest : List Stmt) (cells mem : List ℤ) (lists : List (List Item)) (queues : ℕ → List Told) (loads : ℕ → List (List Load)) (closing : Bool)
      (ne le : List Effect) (sites : List ℕ) (steps : ℕ)
      (held : HeldAt (suc n) (x ∷ (b ++ rest)) cells mem lists queues loads ne le steps) (at : m.block_at (site_at x) ≡ x ∷ b)
      (reading : ReadBlock p plan m stage read x b) (lefts : Left p plan m stage read rest) where
    abbrev before : NetJudging
    before = net_place (x ∷ (b ++ rest)) cells lists closing ne sites steps

    abbrev f : ReadsBlock p plan m input marked t read x b rest at held.walk (item_list lists)
    f = found_block p plan m input marked read limit x b rest cells lists closing ne sites steps at held.walk held.came

    abbrev lists_then : List (List Item)
    lists_then = slice_set lists (stage_of p plan (site_at x) - 1) (f.next_left (stage_of p plan (site_at x)))

    abbrev net_then : NetJudging
    net_then = net_place rest (applied f.stores cells) lists_then closing (ne ++ f.stores) (sites ++ sites_for (site_at x) f.stores) (steps + f.count)

    abbrev ys : List Stmt
    ys = leaned p plan m stage rest

    abbrev queue_then : List Told
    queue_then = queue_of p plan f.next_left (site_at x) ++ more (site_at x)

    abbrev lean_before : LeanJudging
    lean_before = lean_place (leaned p plan m stage (x ∷ (b ++ rest))) mem queues loads closing le

    abbrev lean_then : LeanJudging
    lean_then = lean_place ys (applied f.stores mem) (with_queue queues (site_at x) queue_then) loads closing (le ++ f.stores)

    step_is : net_judge_step p plan m limit before x (b ++ rest) ≡ Some net_then
    step_is = block_is p plan m input marked read limit x b rest cells lists closing ne sites steps at held.walk held.came
        ∙ ap (λ (c : Bool). if c then Some net_then else None)
        (le-leb (steps + f.count) limit (let a = block_steps p plan m input marked read limit x b rest cells lists closing ne sites steps at held.walk held.came
        in let c = held.total in let d = held.within in omega (arith, a, c, d)))

    next_held : (mem_next : List ℤ) (queues_next : ℕ → List Told) (le_next : List Effect) → AgreesOn p plan stage (applied f.stores cells) mem_next →
        Fed p plan read more f.next_left queues_next →
        ((from : List ℤ) → Outlives p plan (applied f.stores (applied ne from)) (applied le_next from)) →
        filter_map printed_by le_next ≡ filter_map printed_by (ne ++ f.stores) →
        HeldAt n rest (applied f.stores cells) mem_next lists_then queues_next loads (ne ++ f.stores) le_next (steps + f.count)
    next_held mem_next queues_next le_next agrees fed outlive prints =
        let g = taken_block p plan m input marked read limit x b rest cells lists closing ne sites steps at held.walk held.came in
        record {
          walk = behind p plan m input marked t read x b rest at held.walk lefts;
          came = f.later (item_list lists_then) g.same;
          of_text = λ y. ap (list_all (is_of_text p plan m)) (g.same y)
              ∙ of_text_after p plan m (stage_of p plan (site_at x)) (Net (site_at x) f.count f.stores ∷ []) (item_list lists) f.next_left
              held.of_text f.front f.others y;
          agrees = agrees;
          fed = fed_same p plan read more f.next_left (item_list lists_then) queues_next g.same fed;
          fed_loads = λ y r c. held.fed_loads y r c ∙ ap (λ (ls : List (List Load)). ls ++ more_loads y) (loads_past p plan (site_at x) f.count f.stores
              (item_list lists) f.next_left f.front f.others y)
              ∙ ap (λ (is : List Item). Rattle.dp_lean.specs.Queues.loads_told y [] is ++ more_loads y) (sym (g.same (stage_of p plan y)));
          so_far = ap (applied f.stores) held.so_far ∙ sym (applied_join ne f.stores cells0);
          outlive = λ from. subst (λ (a : List ℤ). Outlives p plan a (applied le_next from)) (sym (applied_join ne f.stores from)) (outlive from);
          prints = prints;
          total = let a = block_steps p plan m input marked read limit x b rest cells lists closing ne sites steps at held.walk held.came in
              let c = held.total in omega (arith, a, c);
          within = held.within;
          left = let a = held.left in let c = f.some in omega (arith, a, c);
        }

    there : (y : ℕ) → (y ≡ site_at x → ⊥) → queue_of p plan (item_list lists) y ≡ queue_of p plan f.next_left y
    there = block_there p plan (site_at x) f.count f.stores (item_list lists) f.next_left f.front f.others

    stores_of_text : list_all (stores_among p plan (flat_map accesses (x ∷ b))) f.stores ≡ true
    stores_of_text = ap (λ (block : List Stmt). list_all (stores_among p plan (flat_map accesses block)) f.stores) (sym at)
        ∙ (and_parts (is_of_text p plan m (Net (site_at x) f.count f.stores)) (list_all (is_of_text p plan m) (f.next_left (stage_of p plan (site_at x))))
        (ap (list_all (is_of_text p plan m)) (sym f.front) ∙ held.of_text (stage_of p plan (site_at x)))).0

    left_is : leaned p plan m stage (x ∷ (b ++ rest)) ≡ if_kept p plan m stage (is_kept_block p plan stage (x ∷ b)) (x ∷ b) ++ ys
    left_is = lean_block p plan m stage x b rest at

    lean_step : is_kept_block p plan stage (x ∷ b) ≡ true → lean_judge_step p plan m lean_before x (b ++ ys) ≡ Some lean_then
    lean_step k = rw (at, drop-append_seam b ys)
        (ap (λ (q : List Told). lean_noted p plan lean_before loads (stores_next p plan q) (lean_met p plan lean_before.turn (site_at x) ys q))
        (held.fed (site_at x) (reading ∙ k) ∙ ap (λ (ts : List Told). ts ++ more (site_at x)) (block_here p plan (site_at x) f.count f.stores (item_list lists)
        f.next_left f.front f.others)))

    -- one step at a block
    pub block_case : SameAt (net_judge_by p plan go (net_judge_step p plan m limit before x (b ++ rest))) lean_before
    block_case = subst (λ (o : Option NetJudging). SameAt (net_judge_by p plan go o) lean_before) (sym step_is)
        (elim (cases_Bool (is_kept_block p plan stage (x ∷ b))) [
          | inl k ↦
              same_step p plan m input marked laid judge limit lists0 cells0 more more_loads (go net_then) lean_before lean_then x (b ++ ys)
              (left_is ∙ ap (λ (c : Bool). if_kept p plan m stage c (x ∷ b) ++ ys) k) (lean_step k)
              (on rest (applied f.stores cells) (applied f.stores mem) lists_then (with_queue queues (site_at x) queue_then) loads closing (ne ++ f.stores)
              (le ++ f.stores) (sites ++ sites_for (site_at x) f.stores) (steps + f.count)
              (next_held (applied f.stores mem) (with_queue queues (site_at x) queue_then) (le ++ f.stores)
              (agree_both p plan stage f.stores cells mem held.agrees)
              (fed_taken p plan read more (site_at x) (item_list lists) f.next_left queues held.fed there)
              (λ from. subst (λ (a : List ℤ). Outlives p plan (applied f.stores (applied ne from)) a) (sym (applied_join le f.stores from))
              (outlives_both p plan f.stores (applied ne from) (applied le from) (held.outlive from)))
              (filter_join printed_by le f.stores ∙ ap (λ (zs : List ℤ). zs ++ filter_map printed_by f.stores) held.prints
              ∙ sym (filter_join printed_by ne f.stores))))
          | inr k ↦ subst (λ (c : LeanJudging). SameAt (go net_then) c)
              (ap (λ (zs : List Stmt). lean_place zs mem queues loads closing le) (sym (left_is ∙ ap (λ (c : Bool). if_kept p plan m stage c (x ∷ b) ++ ys) k)))
              (on rest (applied f.stores cells) mem lists_then queues loads closing (ne ++ f.stores) le
              (sites ++ sites_for (site_at x) f.stores) (steps + f.count)
              (next_held mem queues le
              (agree_past p plan stage f.stores cells mem (block_elsewhere p plan stage laid (x ∷ b) f.stores stores_of_text
              (or_parts (stage_of p plan (site_at x) == stage) (store_inside p plan stage (x ∷ b)) k).1) held.agrees)
              (fed_past p plan read more (site_at x) (item_list lists) f.next_left queues (reading ∙ k) held.fed there)
              (λ from. outlives_past p plan f.stores (applied ne from) (applied le from) (block_local p plan laid stage judge (x ∷ b) f.stores stores_of_text
              (or_parts (stage_of p plan (site_at x) == stage) (store_inside p plan stage (x ∷ b)) k).1) (held.outlive from))
              (held.prints ∙ sym (filter_join printed_by ne f.stores ∙ ap (λ (zs : List ℤ). filter_map printed_by ne ++ zs) (stores_unprinted f.stores f.all)
              ∙ append-nil (filter_map printed_by ne)))))
        ])
