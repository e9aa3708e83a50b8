-- A worker goes on with its own memory, where its stage doesn't load what it stores there itself.
use Rattle.dp_semantics.proofs.Names.{◌≡◌, inl, inr, refl, sym, ap, ◌∙◌, subst, arith, le-ltb, cases_Bool, cases_lt, both_ways, and_from, ℕ, zero, suc, ◌+◌}
use Rattle.dp_semantics.proofs.Names.{◌-◌, ◌<◌, ◌≤◌, Bool, true, false, not, ◌&&◌, ◌||◌, if◌then◌else◌, List, [], ◌∷◌, ◌++◌, ℤ, length, get_or}
use Rattle.dp_semantics.proofs.Names.{get_or_append_left, get_or-append_seam, slice_get_past, sum_by, list_any, Stmt, Program, Plan, Word, is_par}
use Rattle.dp_semantics.proofs.Names.{is_replicated, is_body_local, is_local_cell, region_accesses, region_statement, project_all, word_list, Epoch, cleared}
use Rattle.dp_semantics.proofs.Names.{clear_locals, fits_plan}
unfoldable use Rattle.dp_semantics.proofs.Names.{turn_from}
use Rattle.dp_tree.specs.Inlined.{IsInlined}
use Rattle.dp_semantics.specs.EpochKey.{EpochKey, epoch_of}
use Rattle.dp_semantics.proofs.Setting.{Accepted}
use Rattle.dp_semantics.proofs.Taking.{word_list_is}
use Rattle.dp_theorem.proofs.Fitting.{accepted}
use Rattle.dp_theorem.proofs.Memory.{clear-at, clear-other}
use Rattle.dp_net.specs.NetItems.{Marks}
use Rattle.dp_net.specs.Hidden.{marks_of}
use Rattle.dp_net.proofs.Assembled.{quieted}
use Rattle.dp_net.proofs.Blocks.{at_turn}
use Rattle.dp_net.proofs.Projections.{text_well, text_sites, earlier_part}
use Rattle.dp_net.proofs.Sent.{Quieted, sent_alike, cleared_same, clear_size}
use Rattle.dp_net.proofs.Strict.{strict_run, strict_passed}
unfoldable use Rattle.dp_net.proofs.Strict.{strict_from}
use Rattle.dp_lean.specs.Needed.{is_loaded_in, compares, wanted}
use Rattle.dp_lean.specs.Laws.{AgreesOn}
use Rattle.dp_lean.proofs.GoingOn.{memories_go_on}
use Rattle.dp_lean.proofs.Placed.{numbered}
use Rattle.dp_lean.proofs.Wanted.{in_var}
use Rattle.dp_lean_epoch.specs.Own.{at_stage, Arrives}
use Rattle.dp_lean_epoch.specs.Steps.{feeds_itself, without_locals}
use Rattle.dp_lean_epoch.proofs.Arriving.{came_alive}
use Rattle.dp_lean_epoch.proofs.Memories.{next_alone, workers_before}
use Rattle.dp_lean_epoch.proofs.Stepping.{WorkersGoOn}
use Rattle.dp_lean_epoch.proofs.Beside.{Beside, beside_self, not_fed}
use Rattle.dp_lean_epoch.proofs.BreakingOff.{ends_too}
use Rattle.dp_lean_epoch.proofs.WorkerTurns.{near_in}
use Rattle.dp_lean_epoch.proofs.Workers.{Ran, ran_at, sized, worker_before}

pub agrees_through : (p : Program) (plan : Plan) (s : ℕ) (a b c : List ℤ) → AgreesOn p plan s a b → AgreesOn p plan s b c → AgreesOn p plan s a c
agrees_through p plan s a b c ab bc = record { size = bc.size ∙ ab.size; same = λ x i w cell. bc.same x i w cell ∙ ab.same x i w cell }

module _ (key : EpochKey) (ok : Accepted key.program key.plan) {m : Marks} {test : Stmt → Bool} (q : Quieted (epoch_of key) m test) where
  open key use {program, plan, input}

  abbrev k : Epoch
  k = epoch_of key

  abbrev clear : List ℤ → List ℤ
  clear cells = clear_locals plan.region program.vars cells

  module _ (w : ℕ) (workers : is_replicated plan (suc w) ≡ true) where
    -- the stage is one of the plan's, and no replicated one follows
    high : suc w ≤ length plan.stages
    high = elim (cases_lt w (length plan.stages)) [
      | inl low ↦ omega (arith, low)
      | inr past ↦ absurd (both_ways (is_replicated plan (suc w)) (ap is_par (slice_get_past plan.stages w past)) workers)
    ]

    alone : is_replicated plan (suc (suc w)) ≡ false
    alone = by (is_replicated plan (suc (suc w))) refl
      where
        by : (b : Bool) → is_replicated plan (suc (suc w)) ≡ b → b ≡ false
        by false e = refl
        by true e = sym workers ∙ ok.apart (suc w) e

    -- it wants what it loads
    loaded : (x : ℕ) → wanted program plan (suc w) x ≡ true → is_loaded_in program plan (suc w) x ≡ true
    loaded x wants = by (is_loaded_in program plan (suc w) x)
        (sym (ap (λ (b : Bool). if b then list_any (compares program plan x) (region_accesses program plan) else
        (is_loaded_in program plan (suc w) x || (is_replicated plan (suc (suc w)) && is_loaded_in program plan (suc (suc w)) x)))
        (le-ltb (length plan.stages) (suc w) high)
        ∙ ap (λ (b : Bool). is_loaded_in program plan (suc w) x || (b && is_loaded_in program plan (suc (suc w)) x)) alone) ∙ wants)
      where
        by : (b : Bool) → (b || false) ≡ true → b ≡ true
        by true e = refl
        by false e = e

    -- memories that are so beside each other agree where the next iteration starts
    near_agrees : (a b : List ℤ) → Beside program plan (suc w) a b → AgreesOn program plan (suc w) (clear a) (clear b)
    near_agrees a b near = record {
      size = clear_size plan.region program.vars b ∙ near.size ∙ sym (clear_size plan.region program.vars a);
      same = λ x c wants cell. elim (cases_Bool (list_any (is_local_cell plan.region c) program.vars)) [
        | inl e ↦ clear-at plan.region c program.vars b (inl e) ∙ sym (clear-at plan.region c program.vars a (inl e))
        | inr e ↦ clear-other plan.region c program.vars b e
            ∙ near.same x c (and_from (is_loaded_in program plan (suc w) x) (not (is_body_local program plan x)) (loaded x wants)
            (ap not (sym (ok.laid.local x c (in_var program plan x c cell)) ∙ e))) cell
            ∙ sym (clear-other plan.region c program.vars a e)
      ];
    }

  module _ (r n : ℕ) (workers : is_replicated plan (suc (suc r)) ≡ true) (unfed : feeds_itself program plan (suc (suc r)) ≡ false)
      (alive : Arrives m key (suc (suc r)) n) where
    alive_before : Arrives m key (suc r) n
    alive_before = came_alive m key (suc r) n alive

    ran_worker : Ran key ok q (suc (suc r)) (strict_passed k (suc (suc r)) n).before (strict_passed k (suc r) n).packet (strict_passed k (suc (suc r)) n)
    ran_worker = ran_at key ok q (suc r) n alive

    ran_before : Ran key ok q (suc r) (strict_passed k (suc r) n).before (strict_passed k r n).packet (strict_passed k (suc r) n)
    ran_before = ran_at key ok q r n alive_before

    size_came : length (strict_passed k r n).packet.lists ≡ r
    size_came = sized key ok q r n (came_alive m key r n alive_before)

    -- the lists that come to the worker
    lists_are : (strict_passed k (suc r) n).packet.lists ≡ (strict_passed k r n).packet.lists ++ ran_before.ended.own ∷ []
    lists_are = ran_before.lists

    earlier_list : (t : ℕ) → 0 < t → t < suc r → word_list (strict_passed k r n).packet.lists t ≡ word_list (strict_passed k (suc r) n).packet.lists t
    earlier_list t real less = word_list_is (strict_passed k r n).packet.lists t real
        ∙ sym (get_or_append_left (strict_passed k r n).packet.lists (ran_before.ended.own ∷ []) [] (t - 1) (omega (arith, real, less, size_came)))
        ∙ sym (word_list_is ((strict_passed k r n).packet.lists ++ ran_before.ended.own ∷ []) t real)
        ∙ ap (λ (ls : List (List Word)). word_list ls t) (sym lists_are)

    made_list : ran_before.ended.own ≡ word_list (strict_passed k (suc r) n).packet.lists (suc r)
    made_list =
        let place : suc r - 1 ≡ length (strict_passed k r n).packet.lists = omega (arith, size_came) in
        sym (get_or-append_seam (strict_passed k r n).packet.lists ran_before.ended.own [] [])
        ∙ ap (λ (i : ℕ). get_or ((strict_passed k r n).packet.lists ++ ran_before.ended.own ∷ []) i []) (sym place)
        ∙ sym (word_list_is ((strict_passed k r n).packet.lists ++ ran_before.ended.own ∷ []) (suc r) (omega arith))
        ∙ ap (λ (ls : List (List Word)). word_list ls (suc r)) (sym lists_are)

    abbrev text : List Stmt
    text = project_all program plan (suc (suc r)) (region_statement program plan)

    text_before : project_all program plan (suc r) text ≡ project_all program plan (suc r) (region_statement program plan)
    text_before = earlier_part ok (suc r) (suc (suc r)) (omega arith) (omega arith)

    text_worker : project_all program plan (suc (suc r)) text ≡ text
    text_worker = earlier_part ok (suc (suc r)) (suc (suc r)) (omega arith) (omega arith)

    -- as many steps as each turn is given
    abbrev steps_of : List (List Word) → ℕ
    steps_of lists = plan.words + sum_by (length {A = Word}) lists + 1

    near : Beside program plan (suc (suc r)) ran_before.ended.cells ran_worker.ended.cells
    near = near_in program plan input (suc r) (omega arith) ok.laid (λ h sound here. not_fed program plan (suc (suc r)) unfed h sound here)
        (steps_of (strict_passed k (suc r) n).packet.lists) (steps_of (strict_passed k r n).packet.lists) text
        (record { well = text_well ok (suc (suc r)) (omega arith); sites = text_sites ok (suc (suc r)) (omega arith) })
        (strict_passed k (suc r) n).before (strict_passed k r n).packet.lists [] false (strict_passed k (suc r) n).before
        (strict_passed k (suc r) n).packet.lists [] false
        ran_before.ended ran_worker.ended
        (record {
          wide = omega (arith, size_came);
          taken_wide = let size = sized key ok q (suc r) n alive_before in omega (arith, size);
          same = earlier_list;
          made_is = made_list;
        })
        (beside_self program plan (suc (suc r)) (strict_passed k (suc r) n).before)
        (ap (λ (xs : List Stmt). turn_from program plan input (suc r) (steps_of (strict_passed k r n).packet.lists)
        (at_turn xs (strict_passed k (suc r) n).before (strict_passed k r n).packet.lists [] false)) text_before
        ∙ ends_too program plan input (suc r) (steps_of (strict_passed k r n).packet.lists) _ ran_before.ended ran_before.ends)
        (ap (λ (xs : List Stmt). strict_from program plan input (suc (suc r)) (steps_of (strict_passed k (suc r) n).packet.lists)
        (at_turn xs (strict_passed k (suc r) n).before (strict_passed k (suc r) n).packet.lists [] false)) text_worker
        ∙ ap (λ (b : List ℤ). strict_run program plan input (suc (suc r)) b (strict_passed k (suc r) n).packet.lists)
        (sym (worker_before key ok q (suc r) n workers)) ∙ ran_worker.ends)

    cleared_is : (s : ℕ) → cleared k (strict_passed k s n).after ≡ cleared k (at_stage m key s n).after
    cleared_is s = let sent = sent_alike q s n in cleared_same q s (strict_passed k s n).after (at_stage m key s n).after sent.after

    pub goes_on : AgreesOn program plan (suc (suc r)) (cleared k (at_stage m key (suc r) n).after) (cleared k (at_stage m key (suc (suc r)) n).after)
    goes_on = subst (λ (a : List ℤ). AgreesOn program plan (suc (suc r)) a (cleared k (at_stage m key (suc (suc r)) n).after))
        (sym (ap clear ran_before.after) ∙ cleared_is (suc r))
        (subst (λ (b : List ℤ). AgreesOn program plan (suc (suc r)) (clear ran_before.ended.cells) b)
        (sym (ap clear ran_worker.after) ∙ cleared_is (suc (suc r)))
        (near_agrees (suc r) workers ran_before.ended.cells ran_worker.ended.cells near))

-- So it is of the workers of a stage that doesn't feed itself.
module _ (key : EpochKey) (inlined : IsInlined key.program) (fits : fits_plan key.program key.plan ≡ true) (pays : List Stmt → Bool) where
  open key use {program, plan}

  pub workers_go_on : WorkersGoOn key inlined fits pays
  workers_go_on zero n workers unfed alive memory agrees =
      let ok = accepted program plan fits in
      let clash : true ≡ false = sym workers ∙ ok.sequential in absurd (cc clash)
  workers_go_on (suc r) n workers unfed alive memory agrees =
      let ok = accepted program plan fits in
      let up = numbered program plan inlined ok in
      let m = marks_of program plan pays in
      let before : (at_stage m key (suc (suc r)) (suc n)).before ≡ cleared (epoch_of key) (at_stage m key (suc r) n).after =
      workers_before m key (suc r) (suc n) workers ∙ next_alone m key r n (ok.apart (suc r) workers) in
      agrees_through program plan (suc (suc r)) (at_stage m key (suc (suc r)) (suc n)).before (cleared (epoch_of key) (at_stage m key (suc (suc r)) n).after)
      (without_locals m key memory)
      (subst (λ (a : List ℤ). AgreesOn program plan (suc (suc r)) a (cleared (epoch_of key) (at_stage m key (suc (suc r)) n).after)) (sym before)
      (goes_on key ok (quieted key fits up.0 up.1 pays) r n workers unfed alive))
      (memories_go_on program plan fits (suc (suc r)) (at_stage m key (suc (suc r)) n).after memory agrees).0
