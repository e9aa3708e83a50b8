-- A step that binds an argument, with frames and expanded.
use Rattle.std.proofs.Common.{◌≡◌, inl, inr, refl, sym, ap, ◌∙◌, subst, ℕ, zero, suc, ◌+◌, ◌-◌, true, List, [], ◌∷◌, ◌++◌, ℤ, length, length-append}
use Rattle.std.proofs.Common.{append_assoc, Option, Some, Ok, Err, slice_get, slice_set, arith}
use Rattle.dp_base.specs.declared.FaultKind.{FaultKind}
use Rattle.dp_base.specs.declared.SiteId.{SiteId}
use Rattle.dp_base.specs.declared.VarId.{VarId}
use Rattle.dp_tree.specs.declared.Expr.{Expr}
use Rattle.dp_tree.specs.declared.Stmt.{Stmt, out-Stmt}
use Rattle.dp_tree.specs.declared.Stmt.TheVariants as tree
use Rattle.dp_tree.specs.declared.Stmt.TheOpen.{Stmt-F, Call}
use Rattle.dp_tree.specs.declared.Program.{Program}
use Rattle.dp_tree.specs.Eval.{Evaluated, just, and_then, eval, first_cell, result_of}
use Rattle.dp_tree.specs.Event.{Stored}
use Rattle.dp_tree.specs.Functions.{body_in, params_in}
use Rattle.dp_tree.specs.Scoping.{sees, global_numbers, seen_behind_params}
use Rattle.dp_tree.specs.Step.{Step, Faulted, standing, line_of, step_by, step_at, step_from}
use Rattle.dp_calls.specs.Frame.{Frame, State, global_count, fresh_frame, new_frame, frames_settled}
use Rattle.dp_calls.specs.FrameStep.{FrameStep, Faults, step_head, step_frame, step_frames, bound_to, call_frames, call_step}
use Rattle.dp_calls.specs.FrameStep as step
use Rattle.dp_calls.specs.Renaming.{named_in, target_or, target_of, renamed}
use Rattle.dp_tree.proofs.Heads.{standing_to_do}
use Rattle.dp_tree.specs.declared.Stmt.TheViews.{outs-Call}
use Rattle.dp_calls.proofs.Relation.{Env, file_count, Laid, Binds, bound, binds, Todo, Held, Agree, Room}
use Rattle.dp_calls.proofs.SameValues.{sees_one}
use Rattle.dp_calls.proofs.Visible.{own_at}
use Rattle.dp_calls.proofs.Written.{own_memory, room_set, held_here, held_set, keeps_set}
use Rattle.dp_calls.proofs.Stacks.{Suits, Stack, over, Ready, Filling, Sim, Alike, agree_kept, keeps_wider, stack_kept}
use Rattle.dp_calls.proofs.Effects.{value_is, kind_is, values}
use Rattle.dp_calls.proofs.Settles.{Settles, block_todo, settles_running, settles_binding}
use Rattle.dp_calls.proofs.Acting.{after_store, StepsAlike, both_fault, both_go}

-- the element behind a list
slice_get_behind : {X : Type 0} (before : List X) (x : X) (after : List X) (n : ℕ) → n ≡ length before → slice_get (before ++ x ∷ after) n ≡ Some x
slice_get_behind [] x after zero e = refl
slice_get_behind (y ∷ before) x after (suc n) e = let less : n ≡ length before = omega (arith, e) in slice_get_behind before x after n less
slice_get_behind _ x after _ e = absurd (omega (arith, e))

-- behind one parameter more
seen_behind_one : (visible : List ℕ) (before : List VarId) (x : VarId) → seen_behind_params visible (before ++ x ∷ []) ≡ x.0 ∷ seen_behind_params visible before
seen_behind_one visible [] x = refl
seen_behind_one visible (y ∷ before) x = seen_behind_one (y.0 ∷ visible) before x

module _ (p q : Program) where
  binds_long : {e g : Env} {visible : List ℕ} {line : ℕ} {params : List VarId} {args : List Expr} {code : List Stmt} →
      Binds p q e g visible line params args code → length args ≡ length params
  binds_long bound = refl
  binds_long (binds _ _ _ _ later) = ap (λ (n : ℕ). suc n) (binds_long later)

  module _ (laid : Laid p q) {e g : Env} {visible : List ℕ} {f : Frame} {below : List Frame} {rest : List Stmt} {h : List ℤ}
      (ready : Ready p q e visible f below rest h)
      {k line : ℕ} {x : VarId} {params : List VarId} {a : Expr} {args : List Expr} {bindings body : List Stmt}
      (filling : Filling p q e g visible k line x params a args f.callee bindings body h)
      {statements own : List Stmt} (todo : Todo p q e visible statements own) (y : ℕ) (named : named_in g.names x.0 ≡ Some y) (z : ℤ) where
    callee_set : List ℤ
    callee_set = slice_set f.callee (x.0 - file_count p) z

    own_set : List ℤ
    own_set = slice_set h (y - file_count p) z

    -- the callee's variables after the binding
    bound_is : length args ≡ length params → step.bound p (params_in (slice_get p.functions k)) (length args) f.callee z ≡ callee_set
    unfolding callee_set
    bound_is long =
        let at = own_at p q laid g filling.env x y named in
        let cell : first_cell p x - global_count p ≡ x.0 - file_count p = omega (arith, at.first, at.source_behind) in
        let total : length (filling.before ++ x ∷ params) ≡ length filling.before + suc (length params) = length-append filling.before (x ∷ params) in
        let place : length (filling.before ++ x ∷ params) - suc (length args) ≡ length filling.before = omega (arith, total, long) in
        ap (λ (ps : List VarId). bound_to p (slice_get ps (length ps - suc (length args))) f.callee z) filling.parameters
        ∙ ap (λ (o : Option VarId). bound_to p o f.callee z)
        (slice_get_behind filling.before x params (length (filling.before ++ x ∷ params) - suc (length args)) place)
        ∙ ap (λ (n : ℕ). slice_set f.callee n z) cell

    memory_is : (globals : List ℤ) → length globals ≡ global_count p → slice_set (globals ++ h) (first_cell q (target_of g.names x)) z ≡ globals ++ own_set
    unfolding own_set
    memory_is globals whole =
        let at = own_at p q laid g filling.env x y named in
        let same : first_cell q (target_of g.names x) ≡ first_cell q (record { 0 = y }) = ap (λ (o : Option ℕ). first_cell q (target_or o x.0)) named in
        let cell : first_cell q (target_of g.names x) ≡ length globals + (y - file_count p) = omega (arith, same, at.target_first, at.target_behind, whole) in
        own_memory globals h (first_cell q (target_of g.names x)) (y - file_count p) z cell

    -- the parameter is bound, and what was bound before stays
    callee_agrees : Agree p q g (seen_behind_params (global_numbers p) (filling.before ++ x ∷ [])) callee_set own_set
    unfolding callee_set own_set
    callee_agrees w seen =
        let first : sees (x.0 ∷ seen_behind_params (global_numbers p) filling.before) w ≡ true = ap (λ (v : List ℕ). sees v w)
        (sym (seen_behind_one (global_numbers p) filling.before x)) ∙ seen in
        elim (sees_one x.0 (seen_behind_params (global_numbers p) filling.before) w first) [
          | inl is ↦ subst (λ (n : ℕ). Held p q g (slice_set f.callee (x.0 - file_count p) z) (slice_set h (y - file_count p) z) n) is
              (held_here p q g filling.env laid f.callee h filling.room x y named z)
          | inr before ↦ held_set p q g filling.env laid f.callee h filling.room x y named z w.0 (filling.agree w before)
        ]

    callee_room : Room p q callee_set own_set
    unfolding callee_set own_set
    callee_room = room_set p q g filling.env laid f.callee h filling.room x y named z

    wide : length own_set ≡ length h
    wide = omega (arith, callee_room.1, filling.room.1)

    caller_agrees : Agree p q e visible f.locals own_set
    unfolding own_set
    caller_agrees = agree_kept p q ready.env filling.nested visible f.locals h (slice_set h (y - file_count p) z)
        (keeps_set p q g filling.env laid f.callee h filling.room x y named z) ready.agree

    caller_stack : Stack p q e below rest own_set
    unfolding own_set
    caller_stack =
        stack_kept p q h (slice_set h (y - file_count p) z) wide (keeps_wider p q filling.nested h (slice_set h (y - file_count p) z)
        (keeps_set p q g filling.env laid f.callee h filling.room x y named z)) ready.stack

    -- the frames behind the binding
    bound_settles : {left : List VarId} {values_left : List Expr} {later : List Stmt} → Binds p q e g visible line left values_left later →
        params_in (slice_get p.functions k) ≡ filling.before ++ x ∷ left →
        Settles p q laid own_set (frames_settled p (call_frames p f below statements k line values_left callee_set)) (later ++ (body ++ (own ++ rest)))
    bound_settles bound parameters =
        let caller : Suits p q e visible (record f { to_do = statements; callee = fresh_frame p }) own own_set = record {
          env = ready.env;
          todo = todo;
          agree = caller_agrees;
          room = (ready.room.0, callee_room.1);
          callee = refl;
        } in
        let called : Suits p q g (seen_behind_params (global_numbers p) (params_in (slice_get p.functions k)))
        (record (new_frame p (body_in (slice_get p.functions k))) { locals = callee_set }) body own_set = record {
          env = filling.env;
          todo = block_todo p q laid filling.block;
          agree = subst (λ (ps : List VarId). Agree p q g (seen_behind_params (global_numbers p) ps) callee_set own_set) (sym parameters) callee_agrees;
          room = callee_room;
          callee = refl;
        } in
        settles_running p q laid called (over caller filling.nested caller_stack refl)
    bound_settles (binds {x = w} {a = v} {s = t} {params = params} {args = args} {code = later} is line_is known named_later pairs) parameters =
        let bindings : List Stmt = t ∷ later in
        let same : (bindings ++ (body ++ own)) ++ rest ≡ bindings ++ (body ++ (own ++ rest)) = append_assoc bindings (body ++ own) rest
        ∙ ap (λ (c : List Stmt). bindings ++ c) (append_assoc body own rest) in
        subst (λ (c : List Stmt). Settles p q laid own_set (frames_settled p (call_frames p f below statements k line (v ∷ args) callee_set)) c) same
        (settles_binding p q laid (tree.Call k line (v ∷ args))
        (record { env = ready.env; agree = caller_agrees; room = (ready.room.0, callee_room.1); stack = caller_stack })
        refl (outs-Call k line (v ∷ args))
        (record {
          env = filling.env;
          nested = filling.nested;
          calls = filling.calls;
          before = filling.before ++ x ∷ [];
          parameters = parameters ∙ sym (append_assoc filling.before (x ∷ []) (w ∷ params));
          agree = callee_agrees;
          room = callee_room;
          binds = binds is line_is known named_later pairs;
          block = filling.block;
        })
        todo)

    -- the state and the configuration behind the binding
    pub bound_alike : (globals : List ℤ) → length globals ≡ global_count p → {later : List Stmt} → Binds p q e g visible line params args later →
        Alike p q (record {
          globals = globals;
          frames = frames_settled p (call_frames p f below statements k line args
              (step.bound p (params_in (slice_get p.functions k)) (length args) f.callee z));
        })
        (standing q (later ++ (body ++ (own ++ rest))) (slice_set (globals ++ h) (first_cell q (target_of g.names x)) z))
    bound_alike globals whole {later = later} pairs =
        let code : List Stmt = later ++ (body ++ (own ++ rest)) in let s = bound_settles pairs filling.parameters in
        subst (λ (m : List ℤ). Alike p q (record { globals = globals; frames = frames_settled p (call_frames p f below statements k line args m) })
        (standing q code (slice_set (globals ++ h) (first_cell q (target_of g.names x)) z))) (sym (bound_is (binds_long pairs)))
        (subst (λ (m : List ℤ). Alike p q (record { globals = globals; frames = frames_settled p (call_frames p f below statements k line args callee_set) })
        (standing q code m)) (sym (memory_is globals whole))
        (record {
          own = s.own;
          whole = whole;
          cells = s.stands globals whole;
          sim = subst (λ (xs : List Stmt). Sim p q s.own (frames_settled p (call_frames p f below statements k line args callee_set)) xs)
              (sym (standing_to_do q code (globals ++ own_set))) s.sim;
        }))

  -- the step of an argument and that of its binding
  binding_by : (c : State) (f : Frame) (below : List Frame) (statements code : List Stmt) (k line : ℕ) (args : List Expr) (site : SiteId) (cells : List ℤ)
      (cell : ℕ) → line_of q site ≡ line →
      ((z : ℤ) → Alike p q
      (record {
        globals = c.globals;
        frames = frames_settled p (call_frames p f below statements k line args (step.bound p (params_in (slice_get p.functions k))
            (length args) f.callee z));
      }) (standing q code (slice_set cells cell z))) →
      (u v : Evaluated ℤ) → result_of u ≡ result_of v → StepsAlike p q (call_step p c f below statements k line args u)
      (step_by q site (and_then v (λ z. just (Stored cell z))) (after_store q (λ z. code) cells))
  binding_by c f below statements code k line args site cells cell is alike (Ok x) (Ok y) same =
      let value : x.value ≡ y.value = value_is same in
      both_go refl (subst (λ (z : ℤ). Alike p q after (standing q code (slice_set cells cell z))) value (alike x.value))
    where
      after : State
      after = record {
        globals = c.globals;
        frames = frames_settled p (call_frames p f below statements k line args
            (step.bound p (params_in (slice_get p.functions k)) (length args) f.callee x.value));
      }
  binding_by c f below statements code k line args site cells cell is alike (Err kind) (Err other) same =
      subst (λ (n : ℕ). StepsAlike p q (Faults (record { kind = kind; line = line })) (Faulted (record { kind = other; line = n }))) (sym is)
      (subst (λ (w : FaultKind). StepsAlike p q (Faults (record { kind = kind; line = line })) (Faulted (record { kind = w; line = line }))) (kind_is same)
      (both_fault (record { kind = kind; line = line })))
  binding_by c f below statements code k line args site cells cell is alike (Ok x) (Err other) same = absurd (cc same)
  binding_by c f below statements code k line args site cells cell is alike (Err kind) (Ok y) same = absurd (cc same)

  module _ (laid : Laid p q) {e g : Env} {visible : List ℕ} {f : Frame} {below : List Frame} {rest : List Stmt} {h : List ℤ}
      (ready : Ready p q e visible f below rest h) where
    binding_at : {k line : ℕ} {x : VarId} {params : List VarId} {a : Expr} {args : List Expr} {bindings body : List Stmt} →
        Filling p q e g visible k line x params a args f.callee bindings body h →
        {statements own : List Stmt} → Todo p q e visible statements own → (input : List ℤ) (c : State) → length c.globals ≡ global_count p →
        Binds p q e g visible line (x ∷ params) (a ∷ args) bindings →
        StepsAlike p q (call_step p c f below statements k line args (eval p input (c.globals ++ f.locals) a))
        (step_from q input (c.globals ++ h) (bindings ++ (body ++ (own ++ rest))))
    binding_at {k = k} {line = line} {x = x} {a = a} {args = args} {body = body} filling {statements = statements} {own = own} todo input c whole
        (binds {s = t} {site = site} {y = y} {code = later} is line_is known named pairs) =
        let code : List Stmt = later ++ (body ++ (own ++ rest)) in
        subst (λ (w : Step). StepsAlike p q (call_step p c f below statements k line args (eval p input (c.globals ++ f.locals) a)) w)
        (sym (ap (λ (w : Stmt-F Stmt). step_at q input (c.globals ++ h) t code w) is))
        (binding_by c f below statements code k line args site (c.globals ++ h) (first_cell q (target_of g.names x)) line_is
        (λ z. bound_alike laid ready filling todo y named z c.globals whole pairs)
        (eval p input (c.globals ++ f.locals) a) (eval q input (c.globals ++ h) (renamed e.names a))
        (values p q laid input e ready.env visible c.globals f.locals h whole ready.room ready.agree a known))

    pub binding_steps : {k line : ℕ} {x : VarId} {params : List VarId} {a : Expr} {args : List Expr} {bindings body : List Stmt} →
        Filling p q e g visible k line x params a args f.callee bindings body h →
        {statements own : List Stmt} → Todo p q e visible statements own → (input : List ℤ) (c : State) → length c.globals ≡ global_count p →
        (s : Stmt) (code : List Stmt) → f.to_do ≡ s ∷ statements → out-Stmt s ≡ Call k line (a ∷ args) → code ≡ bindings ++ (body ++ (own ++ rest)) →
        StepsAlike p q (step_frames p input c (f ∷ below)) (step_from q input (c.globals ++ h) code)
    binding_steps {k = k} {line = line} {a = a} {args = args} filling {statements = statements} todo input c whole s code is is_call code_is =
        subst (λ (w : FrameStep). StepsAlike p q w (step_from q input (c.globals ++ h) code))
        (sym (ap (λ (xs : List Stmt). step_frame p input c f below xs) is ∙ ap (λ (w : Stmt-F Stmt). step_head p input c f below statements w) is_call))
        (subst (λ (xs : List Stmt). StepsAlike p q (call_step p c f below statements k line args (eval p input (c.globals ++ f.locals) a))
        (step_from q input (c.globals ++ h) xs)) (sym code_is)
        (binding_at filling todo input c whole filling.binds))
