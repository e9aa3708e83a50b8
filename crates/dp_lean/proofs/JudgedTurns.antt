-- The judging of items and the lean judging side by side: what holds between them, and how the lean one ends.
use Rattle.dp_semantics.proofs.Names.{◌≡◌, ap, ◌∙◌, ℕ, suc, ◌+◌, ◌<◌, ◌≤◌, Bool, true, List, [], ◌∷◌, ◌++◌, ℤ, length, Option, Some, None, filter_map, Stmt}
use Rattle.dp_semantics.proofs.Names.{Program, Plan, Load, Effect, is_checked, applied}
use Rattle.dp_tree.specs.Trace.{printed_by}
use Rattle.dp_semantics.proofs.Setting.{Laid}
use Rattle.dp_net.specs.NetItems.{Marks, Item, item_list}
use Rattle.dp_net.specs.NetJudge.{NetJudging, NetAgreed}
use Rattle.dp_net.proofs.Groups.{Marked}
use Rattle.dp_lean.specs.Needed.{is_judge}
use Rattle.dp_lean.specs.Queues.{Told, load_queue_of, all_steps}
use Rattle.dp_lean.specs.LeanJudge.{LeanJudging, LeanJudgement, Holds, Differs, JudgesIn, lean_judge_step, lean_judge_by, lean_judge_at}
unfoldable use Rattle.dp_lean.specs.LeanJudge.{lean_judge_from}
use Rattle.dp_lean.specs.Laws.{AgreesOn, is_read, JudgedAlike}
use Rattle.dp_lean.proofs.LeanLists.{leaned}
use Rattle.dp_lean.proofs.Outliving.{Outlives}
use Rattle.dp_lean.proofs.Walk.{Brings, Walkable}
use Rattle.dp_lean.proofs.Alongside.{OfText, Fed}
use Rattle.dp_lean.proofs.JudgeSteps.{net_judging_at}

module _ (p : Program) (plan : Plan) (m : Marks) (input : List ℤ) (marked : Marked p plan m input) (laid : Laid p plan)
    (judge : is_judge p plan (suc (length plan.stages)) ≡ true)
    (limit : ℕ) (lists0 : List (List Item)) (cells0 : List ℤ) (more : ℕ → List Told) (more_loads : ℕ → List (List Load)) where
  abbrev pub t : ℕ
  t = length plan.stages

  abbrev pub stage : ℕ
  stage = suc t

  abbrev pub read : ℕ → Bool
  read = is_read p plan m stage

  -- each checked site's queue of loads has what is left of the lists in front
  abbrev pub FedLoads : (ℕ → List Item) → (ℕ → List (List Load)) → Type 0
  FedLoads left loads = (y : ℕ) → read y ≡ true → is_checked p plan y ≡ true → loads y ≡ load_queue_of p plan left y ++ more_loads y

  pub record Held (n : ℕ) (xs : List Stmt) (cells mem : List ℤ) (lists : List (List Item)) (queues : ℕ → List Told) (loads : ℕ → List (List Load))
      (ne le : List Effect) (steps : ℕ) : Type 0 where
    pub walk : Walkable p plan m input marked t read xs
    pub came : Brings p plan m input marked t xs (item_list lists)
    pub of_text : OfText p plan m (item_list lists)
    pub agrees : AgreesOn p plan stage cells mem
    pub fed : Fed p plan read more (item_list lists) queues
    pub fed_loads : FedLoads (item_list lists) loads
    pub so_far : cells ≡ applied ne cells0
    pub outlive : (from : List ℤ) → Outlives p plan (applied ne from) (applied le from)
    pub prints : filter_map printed_by le ≡ filter_map printed_by ne
    pub total : steps + all_steps lists ≡ all_steps lists0
    pub within : all_steps lists0 ≤ limit
    pub left : limit < n + steps

  abbrev pub lean_judging_at : List Stmt → List ℤ → (ℕ → List Told) → (ℕ → List (List Load)) → Bool → List Effect → LeanJudging
  lean_judging_at ys mem queues loads closing effects =
      record {
        turn = record { turn = record { to_do = ys; cells = mem; lists = []; own = []; closing = closing }; queues = queues };
        loads = loads;
        effects = effects;
      }

  -- both judgings end alike
  abbrev pub EndsSo : Option NetAgreed → LeanJudgement → Type 0
  EndsSo (Some a) (Holds f) = JudgedAlike p plan m lists0 more more_loads cells0 a f
  EndsSo None Differs = Unit {0}
  EndsSo _ _ = ⊥

  abbrev pub Same : Option NetAgreed → LeanJudging → Type 0
  Same o c = (end : LeanJudgement) × JudgesIn p plan m c end × EndsSo o end

  pub same_step : (o : Option NetAgreed) (c d : LeanJudging) (y : Stmt) (rest : List Stmt) → c.turn.turn.to_do ≡ y ∷ rest →
      lean_judge_step p plan m c y rest ≡ Some d → Same o d → Same o c
  unfolding lean_judge_from
  same_step o c d y rest is step r = (
    r.0,
    (
      suc r.1.0,
      ap (lean_judge_at p plan m (lean_judge_from p plan m r.1.0) c) is ∙ ap (lean_judge_by p plan (lean_judge_from p plan m r.1.0)) step ∙ r.1.1,
    ),
    r.2,
  )

  pub same_stop : (c : LeanJudging) (y : Stmt) (rest : List Stmt) → c.turn.turn.to_do ≡ y ∷ rest → lean_judge_step p plan m c y rest ≡ None → Same None c
  unfolding lean_judge_from
  same_stop c y rest is step =
      (Differs, (1, ap (lean_judge_at p plan m (lean_judge_from p plan m 0) c) is ∙ ap (lean_judge_by p plan (lean_judge_from p plan m 0)) step), tt)

  pub same_end : (a : NetAgreed) (c : LeanJudging) → c.turn.turn.to_do ≡ [] → EndsSo (Some a) (Holds c) → Same (Some a) c
  unfolding lean_judge_from
  same_end a c is k = (Holds c, (1, ap (lean_judge_at p plan m (lean_judge_from p plan m 0) c) is), k)

  abbrev pub net_at : List Stmt → List ℤ → List (List Item) → Bool → List Effect → List ℕ → ℕ → NetJudging
  net_at xs cells lists closing effects sites steps = net_judging_at p plan m input marked read limit xs cells lists closing effects sites steps

  abbrev pub Alike : (NetJudging → Option NetAgreed) → ℕ → Type 0
  Alike go n = (xs : List Stmt) (cells mem : List ℤ) (lists : List (List Item)) (queues : ℕ → List Told) (loads : ℕ → List (List Load)) (closing : Bool)
      (ne le : List Effect) (sites : List ℕ) (steps : ℕ) →
      Held n xs cells mem lists queues loads ne le steps →
      Same (go (net_at xs cells lists closing ne sites steps)) (lean_judging_at (leaned p plan m stage xs) mem queues loads closing le)
