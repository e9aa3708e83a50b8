-- When frames and an expanded text do the same: the frames' texts become its parts, one after the other.
use Rattle.std.proofs.Common.{◌≡◌, ◌⊎◌, inl, inr, sym, ap, ◌∙◌, ℕ, ◌+◌, ◌-◌, ◌<◌, ◌≤◌, List, [], ◌∷◌, ◌++◌, ℤ, length, slice_get, append_assoc, arith}
use Rattle.dp_base.specs.declared.VarId.{VarId}
use Rattle.dp_tree.specs.declared.Expr.{Expr}
use Rattle.dp_tree.specs.declared.Stmt.{Stmt, out-Stmt}
use Rattle.dp_tree.specs.declared.Stmt.TheOpen.{Call}
use Rattle.dp_tree.specs.declared.Program.{Program}
use Rattle.dp_tree.specs.Functions.{body_in, params_in}
use Rattle.dp_tree.specs.Scoping.{global_numbers, seen_behind_params}
use Rattle.dp_tree.specs.Step.{Config, behind_region}
use Rattle.dp_calls.specs.Frame.{Frame, State, fresh_frame, global_count}
use Rattle.dp_calls.proofs.Relation.{Env, file_count, IsEnv, Nested, Within, Declares, known, new, Binds, Acts, assigns, Tries, Leaving, One, act, call, Block}
use Rattle.dp_calls.proofs.Relation.{done, more, Todo, next, leave, Held, file, held, Agree, Room}
use Rattle.dp_calls.proofs.SameValues.{sees_more}
use Rattle.dp_calls.proofs.Written.{Keeps}

module _ (p q : Program) where
  -- the frame is to do what the piece of text does
  pub record Suits (e : Env) (visible : List ℕ) (f : Frame) (text : List Stmt) (h : List ℤ) : Type 0 where
    pub env : IsEnv p q e
    pub todo : Todo p q e visible f.to_do text
    pub agree : Agree p q e visible f.locals h
    pub room : Room p q f.locals h
    pub callee : f.callee ≡ fresh_frame p

  -- the frames below one of the call e, and the text behind its own
  pub data Stack : Env → List Frame → List Stmt → List ℤ → Type 0 where
    bottom : {e : Env} {h : List ℤ} → Stack e [] [] h
    over : {e d : Env} {visible : List ℕ} {f : Frame} {below : List Frame} {text rest code : List Stmt} {h : List ℤ} →
        Suits d visible f text h → Nested p q d e → Stack d below rest h → code ≡ text ++ rest → Stack e (f ∷ below) code h

  -- the running frame and those below
  pub record Ready (e : Env) (visible : List ℕ) (f : Frame) (below : List Frame) (rest : List Stmt) (h : List ℤ) : Type 0 where
    pub env : IsEnv p q e
    pub agree : Agree p q e visible f.locals h
    pub room : Room p q f.locals h
    pub stack : Stack e below rest h

  -- a call of g whose first parameters are bound
  pub record Filling (e g : Env) (visible : List ℕ) (f line : ℕ) (x : VarId) (params : List VarId) (a : Expr) (args : List Expr) (callee : List ℤ)
      (binding body : List Stmt) (h : List ℤ) : Type 0 where
    pub env : IsEnv p q g
    pub nested : Nested p q e g
    pub calls : g.calls ≡ f
    pub before : List VarId
    pub parameters : params_in (slice_get p.functions f) ≡ before ++ x ∷ params
    pub agree : Agree p q g (seen_behind_params (global_numbers p) before) callee h
    pub room : Room p q callee h
    pub binds : Binds p q e g visible line (x ∷ params) (a ∷ args) binding
    pub block : Block p q g (seen_behind_params (global_numbers p) (params_in (slice_get p.functions f))) (body_in (slice_get p.functions f)) body

  -- the frames and the text are at the same evaluation
  pub data Sim (h : List ℤ) : List Frame → List Stmt → Type 0 where
    ends : Sim h [] []
    acting : {e : Env} {visible behind : List ℕ} {f : Frame} {below : List Frame} {s t : Stmt} {statements text rest code : List Stmt} →
        Ready e visible f below rest h → f.callee ≡ fresh_frame p → f.to_do ≡ s ∷ statements → Acts p q e visible behind s t →
        Todo p q e behind statements text →
        code ≡ t ∷ (text ++ rest) → Sim h (f ∷ below) code
    leaving : {e : Env} {visible outer : List ℕ} {r : ℕ} {f : Frame} {below : List Frame} {s t : Stmt} {statements text rest code : List Stmt} →
        Ready e visible f below rest h → f.callee ≡ fresh_frame p → f.to_do ≡ s ∷ statements → Tries p q e visible s t → Todo p q e visible statements text →
        Leaving p q e visible outer r statements text → Todo p q e outer (behind_region statements) (behind_region text) → code ≡ t ∷ (text ++ rest) →
        Sim h (f ∷ below) code
    binding : {e g : Env} {visible : List ℕ} {f : Frame} {below : List Frame} {s : Stmt} {statements text rest bindings body code : List Stmt}
        {k line : ℕ} {x : VarId} {params : List VarId} {a : Expr} {args : List Expr} →
        Ready e visible f below rest h → f.to_do ≡ s ∷ statements → out-Stmt s ≡ Call k line (a ∷ args) →
        Filling e g visible k line x params a args f.callee bindings body h → Todo p q e visible statements text →
        code ≡ bindings ++ (body ++ (text ++ rest)) → Sim h (f ∷ below) code

  -- a state with frames, and a configuration of the expanded program
  pub record Alike (c : State) (d : Config) : Type 0 where
    pub own : List ℤ
    pub whole : length c.globals ≡ global_count p
    pub cells : d.cells ≡ c.globals ++ own
    pub sim : Sim own c.frames d.to_do

  declares_within : {e : Env} {visible behind : List ℕ} {x : VarId} → Declares p q e visible x behind → Within p q visible behind
  declares_within (known seen) w at = at
  declares_within {visible = visible} {x = x} (new y named) w at = sees_more x.0 visible w at

  pub acts_within : {e : Env} {visible behind : List ℕ} {s t : Stmt} → Acts p q e visible behind s t → Within p q visible behind
  acts_within (assigns _ _ _ _ declares) = declares_within declares
  acts_within _ = λ x seen. seen

  pub one_within : {e : Env} {visible behind : List ℕ} {s : Stmt} {code : List Stmt} → One p q e visible behind s code → Within p q visible behind
  one_within (act a) = acts_within a
  one_within (call _ _ _ _ _ _ _) = λ x seen. seen

  -- a block, and then what comes behind it
  pub block_then : {e : Env} {outer visible : List ℕ} {rest text : List Stmt} → Todo p q e outer rest text → {inside code : List Stmt} →
      Block p q e visible inside code → Within p q outer visible →
      Todo p q e visible (inside ++ rest) (code ++ text)
  block_then behind done sub = leave sub behind
  block_then {text = text} behind (more {first = first} {text = own} one block is) sub =
      next one (block_then behind block (λ x seen. one_within one x (sub x seen)))
      (ap (λ (c : List Stmt). c ++ text) is ∙ append_assoc first own text)

  held_kept : {d e : Env} (env : IsEnv p q d) (nested : Nested p q d e) (l h k : List ℤ) → Keeps p q e h k → (x : ℕ) → Held p q d l h x → Held p q d l k x
  held_kept env nested l h k keeps x (file less) = file less
  held_kept {d = d} {e = e} env nested l h k keeps x (held y named same) =
      let target = env.target x y named in let there : (y - file_count p) + file_count p ≡ y = omega (arith, target.0, env.above) in
      let outside : ((y - file_count p) + file_count p < e.low) ⊎ (e.high ≤ (y - file_count p) + file_count p) =
      elim (nested.others x y named) [ inl less ↦ inl (omega (arith, there, less)) | inr above ↦ inr (omega (arith, there, above)) ] in
      held y named (same ∙ sym (keeps (y - file_count p) outside))

  -- values of other calls don't matter to a caller
  pub agree_kept : {d e : Env} (env : IsEnv p q d) (nested : Nested p q d e) (visible : List ℕ) (l h k : List ℤ) → Keeps p q e h k → Agree p q d visible l h →
      Agree p q d visible l k
  agree_kept env nested visible l h k keeps agree x seen = held_kept env nested l h k keeps x.0 (agree x seen)

  pub keeps_wider : {d e : Env} (nested : Nested p q d e) (h k : List ℤ) → Keeps p q e h k → Keeps p q d h k
  keeps_wider nested h k keeps j outside =
      keeps j (elim outside [ inl less ↦ inl (omega (arith, less, nested.low)) | inr above ↦ inr (omega (arith, above, nested.high)) ])

  -- nor to the frames below
  pub stack_kept : (h k : List ℤ) → length k ≡ length h → {e : Env} {below : List Frame} {code : List Stmt} → Keeps p q e h k → Stack e below code h →
      Stack e below code k
  stack_kept h k long keeps bottom = bottom
  stack_kept h k long keeps (over {visible = visible} {f = f} suits nested stack is) =
      over
      (record {
        env = suits.env;
        todo = suits.todo;
        agree = agree_kept suits.env nested visible f.locals h k keeps suits.agree;
        room = (suits.room.0, ap (λ (n : ℕ). n + file_count p) long ∙ suits.room.1);
        callee = suits.callee;
      })
      nested (stack_kept h k long (keeps_wider nested h k keeps) stack) is
