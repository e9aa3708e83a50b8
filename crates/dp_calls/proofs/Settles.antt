-- Frames that are settled and the expanded text stand at the same evaluation.
use Rattle.std.proofs.Common.{◌≡◌, refl, sym, ap, ◌∙◌, subst, ℕ, zero, suc, ◌+◌, ◌<◌, ◌≤◌, List, [], ◌∷◌, ◌++◌, ℤ, pos, length, replicate, drop, append_assoc}
use Rattle.std.proofs.Common.{Option, Some, None, slice_get, arith}
use Rattle.std.proofs.lemmas.List.{drop_at, length-replicate}
use Rattle.dp_base.specs.declared.VarId.{VarId}
use Rattle.dp_tree.specs.declared.Expr.{Expr}
use Rattle.dp_tree.specs.declared.Stmt.{Stmt, out-Stmt}
use Rattle.dp_tree.specs.declared.Stmt.TheOpen.{Stmt-F, Assign, Call}
use Rattle.dp_tree.specs.declared.Program.{Program}
use Rattle.dp_tree.specs.Functions.{body_in, params_in}
use Rattle.dp_tree.specs.Scoping.{global_numbers, seen_behind_params}
use Rattle.dp_tree.specs.Step.{cleared_at, standing, behind_region}
use Rattle.dp_calls.specs.Frame.{Frame, global_count, fresh_frame, new_frame, entered, standing_frame, or_after, resumed_at, no_frames, resumed_with, resumed}
use Rattle.dp_calls.specs.Frame.{or_below, frames_settled}
use Rattle.dp_calls.proofs.Relation.{Env, file_count, Laid, IsEnv, Nested, Binds, bound, binds, Acts, assigns, stores, prints, branches, loops, marks, act}
use Rattle.dp_calls.proofs.Relation.{call, Tries, Leaving, Block, done, more, Todo, none, next, exit, leave, file, Agree}
use Rattle.dp_calls.proofs.SameValues.{numbers_below}
use Rattle.dp_calls.proofs.Stacks.{Suits, Stack, bottom, over, Ready, Filling, Sim, ends, acting, leaving, binding}
use Rattle.dp_calls.proofs.Clears.{acts_cleared, stack_cleared}
use Rattle.dp_base.specs.declared.SiteId.{SiteId}

module _ (p q : Program) (laid : Laid p q) where
  -- where only file-scope variables are visible
  pub file_agree : (e : Env) (l h : List ℤ) → Agree p q e (global_numbers p) l h
  file_agree e l h x seen = let less : x.0 < 0 + file_count p = numbers_below 0 (file_count p) x seen in
      let below : x.0 < file_count p = omega (arith, less) in file below

  pub block_todo : {e : Env} {visible : List ℕ} {inside code : List Stmt} → Block p q e visible inside code → Todo p q e visible inside code
  block_todo done = none
  block_todo (more one block is) = next one (block_todo block) is

  -- the memory of the expanded program where this text stands is this one
  abbrev StandsAt : List Stmt → List ℤ → List ℤ → Type 0
  StandsAt code h k = (g : List ℤ) → length g ≡ global_count p → (standing q code (g ++ h)).cells ≡ g ++ k

  -- the frames from the next evaluation on, or the text of the frame is empty
  pub data Resumed (h : List ℤ) : Option (List Frame) → List Stmt → List Stmt → Type 0 where
    live : {frames : List Frame} {text rest : List Stmt} (k : List ℤ) → StandsAt (text ++ rest) h k → Sim p q k frames (text ++ rest) →
        Resumed h (Some frames) text rest
    spent : {rest : List Stmt} → Resumed h None [] rest

  live_as : {h : List ℤ} {o : Option (List Frame)} {frames : List Frame} {text rest code : List Stmt} → o ≡ Some frames → text ++ rest ≡ code → (k : List ℤ) →
      StandsAt code h k → Sim p q k frames code → Resumed h o text rest
  live_as {h = h} {o = o} {frames = frames} {text = text} {rest = rest} is same k stands sim =
      subst (λ (w : Option (List Frame)). Resumed h w text rest) (sym is)
      (live k (subst (λ (c : List Stmt). StandsAt c h k) (sym same) stands) (subst (λ (c : List Stmt). Sim p q k frames c) (sym same) sim))

  acts_entered : {e : Env} {visible behind : List ℕ} {s t : Stmt} → Acts p q e visible behind s t → entered p (out-Stmt s) ≡ None
  acts_entered (assigns a _ _ _ _) = ap (entered p) a
  acts_entered (stores a _ _ _ _ _) = ap (entered p) a
  acts_entered (prints a _ _ _) = ap (entered p) a
  acts_entered (branches a _ _ _ _ _) = ap (entered p) a
  acts_entered (loops a _ _ _ _) = ap (entered p) a
  acts_entered (marks a _ _ _ _ _ _) = ap (entered p) a

  -- the locals of a frame where this statement stands
  standing_locals : (f : Frame) (s : Stmt) (rest : List Stmt) (l : List ℤ) →
      ((g : List ℤ) → length g ≡ global_count p → cleared_at p (out-Stmt s) (g ++ f.locals) ≡ g ++ l) → (standing_frame p f s rest).locals ≡ l
  standing_locals f s rest l is =
      ap (drop (global_count p)) (is (replicate (global_count p) (pos 0)) (length-replicate (global_count p) (pos 0)))
      ∙ drop_at (replicate (global_count p) (pos 0)) l (global_count p) (length-replicate (global_count p) (pos 0))

  -- entering a frame resumes it, if its function is one of the first n
  abbrev pub Enters : ℕ → (Frame → List Frame → Option (List Frame)) → Type 0
  Enters n enter = (e : Env) (visible : List ℕ) (f : Frame) (below : List Frame) (text rest : List Stmt) (h : List ℤ) →
      e.calls < n → Suits p q e visible f text h → Stack p q e below rest h → Resumed h (enter f below) text rest

  module _ (enter : Frame → List Frame → Option (List Frame)) where
    -- a statement with a site
    at_act : {e : Env} {visible behind : List ℕ} {f : Frame} {below : List Frame} {s t : Stmt} {statements own text rest : List Stmt} {h : List ℤ} →
        Ready p q e visible f below rest h → f.callee ≡ fresh_frame p → Acts p q e visible behind s t → Todo p q e behind statements own → text ≡ t ∷ own →
        Resumed h (resumed_with enter p f (s ∷ statements) below) text rest
    at_act {e = e} {visible = visible} {f = f} {below = below} {s = s} {t = t} {statements = statements} {own = own} {rest = rest} {h = h}
        ready callee a todo is =
        let c = acts_cleared p q laid ready.env f.locals h ready.agree a in
        let locals_are : (standing_frame p f s statements).locals ≡ c.locals = standing_locals f s statements c.locals c.source in
        let here : Ready p q e visible (standing_frame p f s statements) below rest c.cells = record {
          env = ready.env;
          agree = subst (λ (l : List ℤ). Agree p q e visible l c.cells) (sym locals_are) c.agree;
          room = (
            ap (λ (l : List ℤ). length l + file_count p) locals_are ∙ ap (λ (m : ℕ). m + file_count p) c.long ∙ ready.room.0,
            ap (λ (m : ℕ). m
                + file_count p) c.wide ∙ ready.room.1,
          );
          stack = stack_cleared p q laid c.where_main ready.stack;
        } in
        live_as (ap (λ (o : Option (List Stmt)). resumed_at enter p f s statements (resumed_with enter p f statements) o below) (acts_entered a))
        (ap (λ (c : List Stmt). c ++ rest) is) c.cells c.target (acting here callee refl a todo refl)

    -- a break
    at_exit : (s : Stmt) {e : Env} {visible outer : List ℕ} {r : ℕ} {f : Frame} {below : List Frame} {t : Stmt}
        {statements own text rest : List Stmt} {h : List ℤ} →
        Ready p q e visible f below rest h → f.callee ≡ fresh_frame p → Tries p q e visible s t → Todo p q e visible statements own →
        Leaving p q e visible outer r statements own →
        Todo p q e outer (behind_region statements) (behind_region own) → text ≡ t ∷ own → Resumed h (resumed_with enter p f (s ∷ statements) below) text rest
    at_exit s {e = e} {visible = visible} {f = f} {below = below} {statements = statements} {rest = rest} {h = h} ready callee tries todo facts left is =
        let locals_are : (standing_frame p f s statements).locals ≡ f.locals =
        standing_locals f s statements f.locals (λ g w. ap (λ (x : Stmt-F Stmt). cleared_at p x (g ++ f.locals)) tries.source) in
        let here : Ready p q e visible (standing_frame p f s statements) below rest h = record {
          env = ready.env;
          agree = subst (λ (l : List ℤ). Agree p q e visible l h) (sym locals_are) ready.agree;
          room = (ap (λ (l : List ℤ). length l + file_count p) locals_are ∙ ready.room.0, ready.room.1);
          stack = ready.stack;
        } in
        live_as (ap (λ (o : Option (List Stmt)). resumed_at enter p f s statements (resumed_with enter p f statements) o below) (ap (entered p) tries.source))
        (ap (λ (c : List Stmt). c ++ rest) is) h
        (λ g w. ap (λ (x : Stmt-F Stmt). cleared_at q x (g ++ h)) tries.target)
        (leaving here callee refl tries todo facts left refl)

    -- a call that has evaluated nothing: its first binding comes next
    at_binding : (s : Stmt) {e g : Env} {visible : List ℕ} {f : Frame} {below : List Frame} {b : Stmt} {site : SiteId} {y : VarId} {v : Expr}
        {statements own bindings body text rest : List Stmt} {h : List ℤ}
        {k line : ℕ} {x : VarId} {params : List VarId} {a : Expr} {args : List Expr} →
        Ready p q e visible f below rest h → out-Stmt s ≡ Call k line (a ∷ args) → out-Stmt b ≡ Assign site y v →
        Filling p q e g visible k line x params a args f.callee (b ∷ bindings) body h → Todo p q e visible statements own →
        text ≡ b ∷ (bindings ++ (body ++ own)) →
        Resumed h (resumed_with enter p f (s ∷ statements) below) text rest
    at_binding s {e = e} {visible = visible} {f = f} {below = below} {b = b} {statements = statements} {own = own} {bindings = bindings} {body = body}
        {rest = rest} {h = h} ready is_call is_assign filling todo is =
        let locals_are : (standing_frame p f s statements).locals ≡ f.locals =
        standing_locals f s statements f.locals (λ g w. ap (λ (x : Stmt-F Stmt). cleared_at p x (g ++ f.locals)) is_call) in
        let here : Ready p q e visible (standing_frame p f s statements) below rest h = record {
          env = ready.env;
          agree = subst (λ (l : List ℤ). Agree p q e visible l h) (sym locals_are) ready.agree;
          room = (ap (λ (l : List ℤ). length l + file_count p) locals_are ∙ ready.room.0, ready.room.1);
          stack = ready.stack;
        } in
        let same : bindings ++ (body ++ own) ++ rest ≡ bindings ++ (body ++ (own ++ rest)) = append_assoc bindings (body ++ own) rest
        ∙ ap (λ (c : List Stmt). bindings ++ c) (append_assoc body own rest) in
        live_as (ap (λ (o : Option (List Stmt)). resumed_at enter p f s statements (resumed_with enter p f statements) o below) (ap (entered p) is_call))
        (ap (λ (c : List Stmt). c ++ rest) is ∙ ap (λ (c : List Stmt). b ∷ c) same) h
        (λ g w. ap (λ (x : Stmt-F Stmt). cleared_at q x (g ++ h)) is_assign)
        (binding here refl is_call filling todo refl)

  module _ (enter : Frame → List Frame → Option (List Frame)) (n : ℕ) (enters : Enters n enter) where
    -- a call that evaluates nothing is entered
    entered_by : {h : List ℤ} {below : List Frame} {body own text rest : List Stmt} (o : Option (List Frame)) (after : List Frame → Option (List Frame)) →
        Resumed h o body (own ++ rest) → Resumed h (after below) own rest → text ≡ body ++ own → Resumed h (or_after o after below) text rest
    entered_by {h = h} {below = below} {body = body} {own = own} {rest = rest} o after (live {frames = frames} k stands sim) behind is =
        live_as refl (ap (λ (c : List Stmt). c ++ rest) is ∙ append_assoc body own rest) k stands sim
    entered_by {h = h} {below = below} {own = own} {rest = rest} o after spent behind is =
        subst (λ (c : List Stmt). Resumed h (after below) c rest) (sym is) behind

    at_call : (s : Stmt) {e g : Env} {visible : List ℕ} {f : Frame} {below : List Frame} {statements own bindings body text rest : List Stmt} {h : List ℤ}
        {k line : ℕ} {args : List Expr} (params : List VarId) →
        e.calls ≤ n → Ready p q e visible f below rest h → f.callee ≡ fresh_frame p → out-Stmt s ≡ Call k line args → IsEnv p q g →
        Nested p q e g → g.calls ≡ k →
        params_in (slice_get p.functions k) ≡ params → Binds p q e g visible line params args bindings →
        Block p q g (seen_behind_params (global_numbers p) params) (body_in (slice_get p.functions k)) body →
        Todo p q e visible statements own → text ≡ bindings ++ (body ++ own) →
        Resumed h (resumed_with enter p f statements below) own rest →
        Resumed h (resumed_with enter p f (s ∷ statements) below) text rest
    at_call s {e = e} {g = g} {visible = visible} {f = f} {below = below} {statements = statements} {own = own} {body = body} {text = text} {rest = rest}
        {h = h} {k = k} params low ready callee is_call env nested calls params_are bound block todo is behind =
        let inside : Suits p q g (global_numbers p) (new_frame p (body_in (slice_get p.functions k))) body h = record {
          env = env;
          todo = block_todo block;
          agree = file_agree g (fresh_frame p) h;
          room = (laid.locals, ready.room.1);
          callee = refl;
        } in
        let here : Suits p q e visible (record f { to_do = statements }) own h = record {
          env = ready.env;
          todo = todo;
          agree = ready.agree;
          room = ready.room;
          callee = callee;
        } in
        let entering : Resumed h (enter (new_frame p (body_in (slice_get p.functions k))) (record f { to_do = statements } ∷ below)) body (own ++ rest) =
        enters g (global_numbers p) (new_frame p (body_in (slice_get p.functions k))) (record f { to_do = statements } ∷ below) body (own ++ rest) h
        (omega (arith, low, nested.calls)) inside (over here nested ready.stack refl) in
        subst (λ (o : Option (List Stmt)). Resumed h (resumed_at enter p f s statements (resumed_with enter p f statements) o below) text rest)
        (sym (ap (entered p) is_call))
        (entered_by (enter (new_frame p (body_in (slice_get p.functions k))) (record f { to_do = statements } ∷ below))
        (resumed_with enter p f statements) entering behind is)
    at_call s {e = e} {g = g} {visible = visible} {f = f} {body = body} {h = h} {k = k} params low ready callee is_call env nested calls params_are
        (binds b line_is known named later) block todo is behind =
        at_binding enter s ready is_call b
        (record {
          env = env;
          nested = nested;
          calls = calls;
          before = [];
          parameters = params_are;
          agree = file_agree g f.callee h;
          room = (ap (λ (l : List ℤ). length l + file_count p) callee ∙ laid.locals, ready.room.1);
          binds = binds b line_is known named later;
          block = subst (λ (ps : List VarId). Block p q g (seen_behind_params (global_numbers p) ps) (body_in (slice_get p.functions k)) body)
              (sym params_are) block;
        })
        todo is

    pub resumes_with : {e : Env} {visible : List ℕ} {f : Frame} {below : List Frame} {statements text rest : List Stmt} {h : List ℤ} →
        Todo p q e visible statements text → e.calls ≤ n → Ready p q e visible f below rest h → f.callee ≡ fresh_frame p →
        Resumed h (resumed_with enter p f statements below) text rest
    resumes_with none low ready callee = spent
    resumes_with (next (act a) todo is) low ready callee = at_act enter ready callee a todo is
    resumes_with (next {s = s} {first = first} {text = own} (call {binding = bindings} {body = body} is_call env nested calls pairs block code) todo
        is) low ready callee =
        at_call s _ low ready callee is_call env nested calls refl pairs block todo
        (is ∙ ap (λ (c : List Stmt). c ++ own) code ∙ append_assoc bindings body own)
        (resumes_with todo low ready callee)
    resumes_with (exit {s = s} tries todo facts left is) low ready callee = at_exit enter s ready callee tries todo facts left is
    resumes_with {f = f} (leave sub todo) low ready callee =
        resumes_with {f = f} todo low (record { env = ready.env; agree = λ x seen. ready.agree x (sub x seen); room = ready.room; stack = ready.stack }) callee

  ready_of : {e : Env} {visible : List ℕ} {f : Frame} {below : List Frame} {text rest : List Stmt} {h : List ℤ} → Suits p q e visible f text h →
      Stack p q e below rest h → Ready p q e visible f below rest h
  ready_of suits stack = record { env = suits.env; agree = suits.agree; room = suits.room; stack = stack }

  resumes : (depth : ℕ) → Enters (suc depth) (resumed p depth)
  resumes zero e visible f below text rest h low suits stack =
      resumes_with no_frames zero (λ e visible f below text rest h less suits stack. absurd (omega (arith, less))) suits.todo (omega (arith, low))
      (ready_of suits stack) suits.callee
  resumes (suc depth) e visible f below text rest h low suits stack =
      resumes_with (resumed p depth) (suc depth) (resumes depth) suits.todo (omega (arith, low)) (ready_of suits stack) suits.callee

  binding_with : (enter : Frame → List Frame → Option (List Frame)) (s : Stmt) {e g : Env} {visible : List ℕ} {f : Frame} {below : List Frame}
      {statements own bindings body rest : List Stmt} {h : List ℤ}
      {k line : ℕ} {x : VarId} {params : List VarId} {a : Expr} {args : List Expr} →
      Ready p q e visible f below rest h → out-Stmt s ≡ Call k line (a ∷ args) →
      Filling p q e g visible k line x params a args f.callee bindings body h → Todo p q e visible statements own →
      Binds p q e g visible line (x ∷ params) (a ∷ args) bindings →
      Resumed h (resumed_with enter p f (s ∷ statements) below) (bindings ++ (body ++ own)) rest
  binding_with enter s ready is_call filling todo (binds b line_is known named later) = at_binding enter s ready is_call b filling todo refl

  resumes_binding : (depth : ℕ) (s : Stmt) {e g : Env} {visible : List ℕ} {f : Frame} {below : List Frame}
      {statements own bindings body rest : List Stmt} {h : List ℤ}
      {k line : ℕ} {x : VarId} {params : List VarId} {a : Expr} {args : List Expr} →
      Ready p q e visible f below rest h → f.to_do ≡ s ∷ statements → out-Stmt s ≡ Call k line (a ∷ args) →
      Filling p q e g visible k line x params a args f.callee bindings body h → Todo p q e visible statements own →
      Resumed h (resumed p depth f below) (bindings ++ (body ++ own)) rest
  resumes_binding zero s {f = f} {below = below} {own = own} {bindings = bindings} {body = body} {rest = rest} {h = h} ready is is_call filling todo =
      subst (λ (xs : List Stmt). Resumed h (resumed_with no_frames p f xs below) (bindings ++ (body ++ own)) rest) (sym is)
      (binding_with no_frames s ready is_call filling todo filling.binds)
  resumes_binding (suc depth) s {f = f} {below = below} {own = own} {bindings = bindings} {body = body} {rest = rest} {h = h} ready is is_call filling todo =
      subst (λ (xs : List Stmt). Resumed h (resumed_with (resumed p depth) p f xs below) (bindings ++ (body ++ own)) rest) (sym is)
      (binding_with (resumed p depth) s ready is_call filling todo filling.binds)

  -- settled frames are at the same evaluation as the text
  pub record Settles (h : List ℤ) (frames : List Frame) (code : List Stmt) : Type 0 where
    pub own : List ℤ
    pub stands : StandsAt code h own
    pub sim : Sim p q own frames code

  settled_by : {h : List ℤ} {below : List Frame} {text rest : List Stmt} (o : Option (List Frame)) → Resumed h o text rest → Settles h below rest →
      Settles h (or_below o below) (text ++ rest)
  settled_by o (live k stands sim) behind = record { own = k; stands = stands; sim = sim }
  settled_by o spent behind = behind

  pub settles : {h : List ℤ} {e : Env} {below : List Frame} {code : List Stmt} → Stack p q e below code h → Settles h (frames_settled p below) code
  settles {h = h} bottom = record { own = h; stands = λ g w. refl; sim = ends }
  settles {h = h} (over {d = d} {visible = visible} {f = f} {below = below} {text = text} {rest = rest} suits nested stack is) =
      subst (λ (c : List Stmt). Settles h (frames_settled p (f ∷ below)) c) (sym is)
      (settled_by (resumed p (length p.functions) f below) (resumes (length p.functions) d visible f below text rest h (omega (arith, suits.env.earlier)) suits
      stack) (settles stack))

  -- the running frame is settled too
  pub settles_running : {h : List ℤ} {e : Env} {visible : List ℕ} {f : Frame} {below : List Frame} {text rest : List Stmt} → Suits p q e visible f text h →
      Stack p q e below rest h →
      Settles h (frames_settled p (f ∷ below)) (text ++ rest)
  settles_running {h = h} {e = e} {visible = visible} {f = f} {below = below} {text = text} {rest = rest} suits stack =
      settled_by (resumed p (length p.functions) f below) (resumes (length p.functions) e visible f below text rest h (omega (arith, suits.env.earlier)) suits
      stack) (settles stack)

  -- a frame at a call with arguments left is settled
  pub settles_binding : (s : Stmt) {e g : Env} {visible : List ℕ} {f : Frame} {below : List Frame} {statements own bindings body rest : List Stmt} {h : List ℤ}
      {k line : ℕ} {x : VarId} {params : List VarId} {a : Expr} {args : List Expr} →
      Ready p q e visible f below rest h → f.to_do ≡ s ∷ statements → out-Stmt s ≡ Call k line (a ∷ args) →
      Filling p q e g visible k line x params a args f.callee bindings body h → Todo p q e visible statements own →
      Settles h (frames_settled p (f ∷ below)) ((bindings ++ (body ++ own)) ++ rest)
  settles_binding s {f = f} {below = below} ready is is_call filling todo =
      settled_by (resumed p (length p.functions) f below) (resumes_binding (length p.functions) s ready is is_call filling todo) (settles ready.stack)
