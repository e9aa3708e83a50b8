-- A lean judging says what the judgement of the packet says.
use Rattle.dp_semantics.proofs.Names.{◌≡◌, inl, inr, refl, sym, ap, ◌∙◌, subst, arith, lt-ltb, cases_lt, ℕ, zero, suc, ◌+◌, ◌<◌, ◌≤◌, Bool, true, false, List}
use Rattle.dp_semantics.proofs.Names.{[], ◌∷◌, ◌++◌, ℤ, length, map, Option, Some, None, Stmt, Program, Plan, Load, Effect, stage_of, region_accesses}
use Rattle.dp_semantics.proofs.Names.{fits_plan}
use Rattle.dp_tree.specs.Inlined.{IsInlined}
use Rattle.dp_plan.specs.Written.{access_site}
use Rattle.dp_plan.proofs.Ascent.{Ascends}
use Rattle.dp_semantics.specs.EpochKey.{epoch_of}
use Rattle.dp_semantics.proofs.Setting.{Laid, Accepted}
use Rattle.dp_theorem.proofs.Fitting.{accepted}
use Rattle.dp_net.specs.NetItems.{Marks, Item, item_list}
use Rattle.dp_net.specs.NetPackets.{NetStatus, NetGoing, NetClosing, NetVoid}
use Rattle.dp_net.specs.NetJudge.{NetJudging, NetAgreed, net_judge_by, net_judge_step, net_judge_lists, net_judge_status}
unfoldable use Rattle.dp_net.specs.NetJudge.{net_judge_from}
use Rattle.dp_net.specs.Follows.{is_void}
use Rattle.dp_net.specs.Hidden.{marks_of}
use Rattle.dp_net.proofs.Assembled.{quieted}
use Rattle.dp_net.proofs.Groups.{Marked}
use Rattle.dp_net.proofs.HiddenCells.{all_sound}
use Rattle.dp_net.proofs.Sent.{Quieted}
use Rattle.dp_lean.specs.Needed.{is_judge}
use Rattle.dp_lean.specs.Queues.{Told, told_in, loads_told, all_steps}
use Rattle.dp_lean.specs.LeanJudge.{LeanJudging, LeanJudgement, Holds, Differs, JudgesIn, lean_judging}
use Rattle.dp_lean.specs.Laws.{AgreesOn, Came, Queued, LoadsQueued, JudgedAlike, JudgesAlike, spent, differs, alike, LeanJudgesAreJudges}
use Rattle.dp_lean.proofs.LeanLists.{leaned}
use Rattle.dp_lean.proofs.LeanHeads.{Headed, stays, gone, whole, headed}
use Rattle.dp_lean.proofs.Outliving.{outlives_self, stores_cleared}
use Rattle.dp_lean.proofs.Walk.{ended}
use Rattle.dp_lean.proofs.JudgeSteps.{no_steps}
use Rattle.dp_lean.proofs.JudgedTurns.{Held, Alike, Same, EndsSo, same_end, net_at, lean_judging_at, read}
use Rattle.dp_lean.proofs.JudgedSites.{gone_case, stays_case}
use Rattle.dp_lean.proofs.JudgedBlocks.{block_case}
use Rattle.dp_lean.proofs.Spent.{spends}
use Rattle.dp_lean.proofs.Placed.{numbered, some_epoch, text, walkable, brings, of_text}

module _ (p : Program) (plan : Plan) (m : Marks) (input : List ℤ) (marked : Marked p plan m input) (laid : Laid p plan)
    (judge : is_judge p plan (suc (length plan.stages)) ≡ true)
    (limit : ℕ) (lists0 : List (List Item)) (cells0 : List ℤ) (more : ℕ → List Told) (more_loads : ℕ → List (List Load)) where
  abbrev t : ℕ
  t = length plan.stages

  abbrev reads : ℕ → Bool
  reads = read p plan m input marked laid judge limit lists0 cells0 more more_loads

  abbrev AlikeAt : (NetJudging → Option NetAgreed) → ℕ → Type 0
  AlikeAt = Alike p plan m input marked laid judge limit lists0 cells0 more more_loads

  abbrev HeldAt : ℕ → List Stmt → List ℤ → List ℤ → List (List Item) → (ℕ → List Told) → (ℕ → List (List Load)) → List Effect → List Effect → ℕ → Type 0
  HeldAt = Held p plan m input marked laid judge limit lists0 cells0 more more_loads

  abbrev SameAt : Option NetAgreed → LeanJudging → Type 0
  SameAt = Same p plan m input marked laid judge limit lists0 cells0 more more_loads

  abbrev net_place : List Stmt → List ℤ → List (List Item) → Bool → List Effect → List ℕ → ℕ → NetJudging
  net_place = net_at p plan m input marked laid judge limit lists0 cells0 more more_loads

  abbrev lean_place : List Stmt → List ℤ → (ℕ → List Told) → (ℕ → List (List Load)) → Bool → List Effect → LeanJudging
  lean_place = lean_judging_at p plan m input marked laid judge limit lists0 cells0 more more_loads

  one : (n : ℕ) → AlikeAt (net_judge_from p plan m limit n) n → (x : Stmt) (rest : List Stmt) (cells mem : List ℤ) (lists : List (List Item))
      (queues : ℕ → List Told) (loads : ℕ → List (List Load)) (closing : Bool) (ne le : List Effect) (sites : List ℕ) (steps : ℕ) →
      HeldAt (suc n) (x ∷ rest) cells mem lists queues loads ne le steps → Headed p plan m (suc t) reads input x rest →
      SameAt (net_judge_by p plan (net_judge_from p plan m limit n) (net_judge_step p plan m limit (net_place (x ∷ rest) cells lists closing ne sites steps) x
      rest)) (lean_place (leaned p plan m (suc t) (x ∷ rest)) mem queues loads closing le)
  one n on x rest cells mem lists queues loads closing ne le sites steps held (stays plain r y stands is lefts nexts) =
      stays_case p plan m input marked laid judge limit lists0 cells0 more more_loads n (net_judge_from p plan m limit n) on x rest cells mem lists queues loads
      closing ne le sites steps held plain lefts y stands is nexts r
  one n on x rest cells mem lists queues loads closing ne le sites steps held (gone plain r none is lefts nexts) =
      gone_case p plan m input marked laid judge limit lists0 cells0 more more_loads n (net_judge_from p plan m limit n) on x rest cells mem lists queues loads
      closing ne le sites steps held plain lefts r none is nexts
  one n on x rest cells mem lists queues loads closing ne le sites steps held (whole b behind at is r lefts) =
      subst (λ (ys : List Stmt). HeldAt (suc n) (x ∷ ys) cells mem lists queues loads ne le steps →
      SameAt (net_judge_by p plan (net_judge_from p plan m limit n) (net_judge_step p plan m limit (net_place (x ∷ ys) cells lists closing ne sites steps) x
      ys)) (lean_place (leaned p plan m (suc t) (x ∷ ys)) mem queues loads closing le)) (sym is)
      (λ k. block_case p plan m input marked laid judge limit lists0 cells0 more more_loads n (net_judge_from p plan m limit n) on x b behind cells mem lists
      queues loads closing ne le sites steps k at r lefts) held

  judged_alike : (n : ℕ) → AlikeAt (net_judge_from p plan m limit n) n
  unfolding net_judge_from
  judged_alike zero xs cells mem lists queues loads closing ne le sites steps held =
      let a = held.left in let b = held.total in let c = held.within in absurd (omega (arith, a, b, c))
  judged_alike (suc n) [] cells mem lists queues loads closing ne le sites steps held =
      let none = ended p plan m input marked t reads (item_list lists) held.came in
      same_end p plan m input marked laid judge limit lists0 cells0 more more_loads (record { effects = ne; sites = sites; steps = steps; closing = closing })
      (lean_place [] mem queues loads closing le) refl
      (record {
        prints = held.prints;
        closing = refl;
        steps = let a = held.total in let b = no_steps lists none in omega (arith, a, b);
        stores = stores_cleared p plan ne le held.outlive;
        memory = subst (λ (a : List ℤ). AgreesOn p plan (suc t) a mem) held.so_far held.agrees;
        left = λ y r. held.fed y r ∙ ap (λ (is : List Item). told_in y is ++ more y) (none (stage_of p plan y));
        loads_left = λ y r c. held.fed_loads y r c ∙ ap (λ (is : List Item). loads_told y [] is ++ more_loads y) (none (stage_of p plan y));
      })
  judged_alike (suc n) (x ∷ rest) cells mem lists queues loads closing ne le sites steps held =
      one n (judged_alike n) x rest cells mem lists queues loads closing ne le sites steps held
      (headed p plan m (suc t) reads input marked x rest held.walk.left)

  pub begins_alike : (xs : List Stmt) (mem : List ℤ) (queues : ℕ → List Told) (loads : ℕ → List (List Load)) →
      HeldAt (limit + 1) xs cells0 mem lists0 queues loads [] [] 0 →
      SameAt (net_judge_from p plan m limit (limit + 1) (net_place xs cells0 lists0 false [] [] 0))
      (lean_place (leaned p plan m (suc t) xs) mem queues loads false [])
  begins_alike xs mem queues loads held = judged_alike (limit + 1) xs cells0 mem lists0 queues loads false [] [] [] 0 held

module _ (p : Program) (plan : Plan) (ok : Accepted p plan) (k : ℕ) (up : Ascends k (map access_site (region_accesses p plan))) (m : Marks) (test : Stmt → Bool)
    (input : List ℤ) (q : Quieted (epoch_of (some_epoch p plan ok k up m test input)) m test) where
  abbrev stages : ℕ
  stages = length plan.stages

  judge : is_judge p plan (suc (length plan.stages)) ≡ true
  judge = lt-ltb (length plan.stages) (suc (length plan.stages)) (omega arith)

  module _ (limit : ℕ) (lists : List (List Item)) (came : Came p plan m (suc (length plan.stages)) lists) (cells mem : List ℤ)
      (agrees : AgreesOn p plan (suc (length plan.stages)) cells mem) (queues more : ℕ → List Told)
      (queued : Queued p plan m (suc (length plan.stages)) lists queues more)
      (loads more_loads : ℕ → List (List Load)) (loads_queued : LoadsQueued p plan m lists loads more_loads) where
    abbrev lean_start : LeanJudging
    lean_start = lean_judging p plan m mem queues loads

    -- within this limit the steps are enough
    enough : (high : ℕ) → all_steps lists ≤ high → Same p plan m input q.marked ok.laid judge high lists cells more more_loads
        (net_judge_lists p plan m high cells lists) lean_start
    enough high within =
        begins_alike p plan m input q.marked ok.laid judge high lists cells more more_loads (text p plan ok k up m test input q (suc stages)) mem queues loads
        (record {
          walk = walkable p plan ok k up m test input q stages;
          came = brings p plan ok k up m test input q stages (item_list lists) came.follows;
          of_text = of_text p plan ok k up m test input q lists came.of_text;
          agrees = agrees;
          fed = queued;
          fed_loads = loads_queued;
          so_far = refl;
          outlive = λ from. outlives_self p plan from;
          prints = refl;
          total = omega arith;
          within = within;
          left = omega arith;
        })

    abbrev Result : Option NetAgreed → Type 0
    Result o = (end : LeanJudgement) × JudgesIn p plan m lean_start end × JudgesAlike p plan m limit lists more more_loads cells o end

    over : limit < all_steps lists → Result (net_judge_lists p plan m limit cells lists)
    over high =
        let r = enough (all_steps lists) (omega arith) in
        let none = spends p plan m input q.marked (Rattle.dp_lean.specs.Laws.is_read p plan m (suc stages)) limit (limit + 1)
        (text p plan ok k up m test input q (suc stages)) cells lists false [] [] 0
        (walkable p plan ok k up m test input q stages) (brings p plan ok k up m test input q stages (item_list lists) came.follows) (omega arith)
        (omega (arith, high)) in
        (r.0, r.1, subst (λ (o : Option NetAgreed). JudgesAlike p plan m limit lists more more_loads cells o r.0) (sym none) (spent high))

    under : all_steps lists ≤ limit → Result (net_judge_lists p plan m limit cells lists)
    under low = let r = enough limit low in (r.0, r.1, by (net_judge_lists p plan m limit cells lists) r.0 r.2)
      where
        by : (o : Option NetAgreed) (end : LeanJudgement) → EndsSo p plan m input q.marked ok.laid judge limit lists cells more more_loads o end →
            JudgesAlike p plan m limit lists more more_loads cells o end
        by (Some a) (Holds f) e = alike low e
        by None Differs e = differs
        by (Some a) Differs e = absurd e
        by None (Holds f) e = absurd e

    pub lists_judged : (end : LeanJudgement) × JudgesIn p plan m (lean_judging p plan m mem queues loads) end
        × JudgesAlike p plan m limit lists more more_loads cells (net_judge_lists p plan m limit cells lists) end
    lists_judged = elim (cases_lt limit (all_steps lists)) [ inl high ↦ over high | inr low ↦ under low ]

pub lean_judges : (p : Program) (plan : Plan) → IsInlined p → fits_plan p plan ≡ true → LeanJudgesAreJudges p plan
lean_judges p plan inlined fits pays limit packet alive came cells mem agrees queues more queued loads more_loads loads_queued =
    let ok = accepted p plan fits in
    let up = numbered p plan inlined ok in
    by packet.status alive
    (lists_judged p plan ok up.0 up.1 (marks_of p plan pays) (all_sound p plan) []
    (quieted (some_epoch p plan ok up.0 up.1 (marks_of p plan pays) (all_sound p plan) []) fits up.0 up.1 pays) limit packet.lists came cells mem agrees queues
    more queued loads more_loads loads_queued)
  where
    Result : Option NetAgreed → Type 0
    Result o = (end : LeanJudgement) × JudgesIn p plan (marks_of p plan pays) (lean_judging p plan (marks_of p plan pays) mem queues loads) end
        × JudgesAlike p plan (marks_of p plan pays) limit packet.lists more more_loads cells o end

    by : (status : NetStatus) → is_void status ≡ false → Result (net_judge_lists p plan (marks_of p plan pays) limit cells packet.lists) →
        Result (net_judge_status p plan (net_judge_lists p plan (marks_of p plan pays) limit cells packet.lists) status)
    by NetGoing e r = r
    by NetClosing e r = r
    by NetVoid e r = absurd (cc e)
