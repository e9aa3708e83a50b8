-- A step at a break, with frames and expanded: only in `main`, where no frame is below.
use Rattle.std.proofs.Common.{◌≡◌, inr, refl, sym, ap, ◌∙◌, subst, ℕ, ◌+◌, Bool, true, false, if◌then◌else◌, List, [], ◌∷◌, ◌++◌, ℤ, length, append-nil, Ok}
use Rattle.std.proofs.Common.{Err, arith}
use Rattle.dp_base.specs.Arithmetic.{is_zero}
use Rattle.dp_base.specs.declared.FaultKind.{FaultKind}
use Rattle.dp_base.specs.declared.SiteId.{SiteId}
use Rattle.dp_tree.specs.declared.Expr.{Expr}
use Rattle.dp_tree.specs.declared.Stmt.{Stmt}
use Rattle.dp_tree.specs.declared.Stmt.TheOpen.{Stmt-F, Break}
use Rattle.dp_tree.specs.declared.Program.{Program}
use Rattle.dp_tree.specs.Eval.{Evaluated, eval, result_of}
use Rattle.dp_tree.specs.Event.{Effect, Tried}
use Rattle.dp_tree.specs.Step.{Config, Step, Faulted, line_of, standing, behind_region, cleared_leaving, tried, after_effect, step_by, step_at, step_from}
use Rattle.dp_calls.specs.Frame.{Frame, State, global_count, fresh_frame}
use Rattle.dp_calls.specs.FrameStep.{FrameStep, Faults, frame_step, step_head, step_frame, step_frames}
use Rattle.dp_calls.specs.Renaming.{renamed}
use Rattle.dp_calls.proofs.Relation.{Env, file_count, Laid, Tries, Leaving, Todo, Agree}
use Rattle.dp_calls.proofs.Clears.{clear_own, clear_own-length, memory_clears, quiet_clears, quiet_agree, stack_cleared}
use Rattle.dp_calls.proofs.Stacks.{Stack, bottom, over, Ready, Alike}
use Rattle.dp_calls.proofs.Effects.{value_is, kind_is, values}
use Rattle.dp_calls.proofs.Acting.{StepsAlike, both_fault, both_go, left_at, alike_at}

module _ (p q : Program) where
  -- nothing comes behind the text of `main`
  main_last : {e : Env} {below : List Frame} {rest : List Stmt} {h : List ℤ} → e.calls ≡ length p.functions → Stack p q e below rest h → rest ≡ []
  main_last main bottom = refl
  main_last main (over suits nested stack is) = absurd (omega (arith, main, nested.calls, suits.env.earlier))

  -- a break's evaluation, the same in both
  tried_by : (f : Frame) (below : List Frame) (site here : SiteId) (nexts next_texts : Effect → Config) → line_of q here ≡ line_of p site →
      ((z : ℤ) → Alike p q (left_at p q f below (nexts (Tried z))) (next_texts (Tried z))) →
      (u v : Evaluated ℤ) → result_of u ≡ result_of v → StepsAlike p q (frame_step p f below (step_by p site (tried u) nexts))
      (step_by q here (tried v) next_texts)
  tried_by f below site here nexts next_texts line alike (Ok x) (Ok y) same =
      both_go refl (subst (λ (z : ℤ). Alike p q (left_at p q f below (nexts (Tried x.value))) (next_texts (Tried z))) (value_is same) (alike x.value))
  tried_by f below site here nexts next_texts line alike (Err kind) (Err other) same =
      subst (λ (n : ℕ). StepsAlike p q (Faults (record { kind = kind; line = line_of p site })) (Faulted (record { kind = other; line = n }))) (sym line)
      (subst (λ (w : FaultKind). StepsAlike p q (Faults (record { kind = kind; line = line_of p site })) (Faulted (record { kind = w; line = line_of p site })))
      (kind_is same) (both_fault (record { kind = kind; line = line_of p site })))
  tried_by f below site here nexts next_texts line alike (Ok x) (Err other) same = absurd (cc same)
  tried_by f below site here nexts next_texts line alike (Err kind) (Ok y) same = absurd (cc same)

  module _ (laid : Laid p q) {e : Env} {visible outer : List ℕ} {r : ℕ} {f : Frame} {below : List Frame} {rest : List Stmt} {h : List ℤ}
      (ready : Ready p q e visible f below rest h) (callee : f.callee ≡ fresh_frame p)
      (g : List ℤ) (whole : length g ≡ global_count p) {statements text : List Stmt} (facts : Leaving p q e visible outer r statements text) where
    last : rest ≡ []
    last = main_last facts.main ready.stack

    text_is : text ++ rest ≡ text
    text_is = ap (λ (xs : List Stmt). text ++ xs) last ∙ append-nil text

    left_is : behind_region (text ++ rest) ≡ behind_region text ++ rest
    left_is = ap behind_region text_is ∙ sym (append-nil (behind_region text)) ∙ ap (λ (xs : List Stmt). behind_region text ++ xs) (sym last)

    own_left : List ℤ
    own_left = clear_own (global_count p) r p.vars f.locals

    cells_left : List ℤ
    cells_left = clear_own (global_count p) r q.vars h

    agree_left : Agree p q e outer own_left cells_left
    unfolding own_left cells_left
    agree_left =
        quiet_agree p q e ready.env r outer f.locals (clear_own (global_count p) r p.vars f.locals) h (clear_own (global_count p) r q.vars h) facts.quiet
        (λ x seen. ready.agree x (facts.within x seen))
        (λ x behind is. quiet_clears (file_count p) (global_count p) p.vars laid.before r x f.locals behind is)
        (λ y behind is. quiet_clears (file_count p) (global_count p) q.vars laid.after r y h behind is)

    -- the region is left
    alike_left : Todo p q e outer (behind_region statements) (behind_region text) →
        Alike p q (left_at p q f below (standing p (behind_region statements) (cleared_leaving p statements (g ++ f.locals))))
        (standing q (behind_region (text ++ rest)) (cleared_leaving q (text ++ rest) (g ++ h)))
    unfolding own_left cells_left
    alike_left left =
        let long = clear_own-length (global_count p) r p.vars f.locals in let wide = clear_own-length (global_count p) r q.vars h in
        alike_at p q laid f ready.env callee (behind_region statements) (behind_region text) (behind_region (text ++ rest))
        (cleared_leaving p statements (g ++ f.locals)) (cleared_leaving q (text ++ rest) (g ++ h))
        g own_left cells_left left left_is
        (facts.source (g ++ f.locals) ∙ memory_clears (file_count p) (global_count p) p.vars laid.before r g f.locals whole)
        (ap (λ (xs : List Stmt). cleared_leaving q xs (g ++ h)) text_is ∙ facts.target (g ++ h)
        ∙ memory_clears (file_count p) (global_count p) q.vars laid.after r g h whole)
        whole
        (ap (λ (n : ℕ). n + file_count p) long ∙ ready.room.0, ap (λ (n : ℕ). n + file_count p) wide ∙ ready.room.1)
        agree_left (stack_cleared p q laid (inr facts.main) ready.stack)

    -- it goes on
    alike_stayed : Todo p q e visible statements text → Alike p q (left_at p q f below (standing p statements (g ++ f.locals)))
        (standing q (text ++ rest) (g ++ h))
    alike_stayed todo = alike_at p q laid f ready.env callee statements text (text ++ rest) (g ++ f.locals) (g ++ h) g f.locals h todo refl refl refl whole
        ready.room ready.agree ready.stack

    alike_tried : (s t : Stmt) (site here : SiteId) (cond other : Expr) → Todo p q e visible statements text →
        Todo p q e outer (behind_region statements) (behind_region text) → (z : ℤ) →
        Alike p q (left_at p q f below (after_effect p s statements (g ++ f.locals) (Break site cond) (Tried z)))
        (after_effect q t (text ++ rest) (g ++ h) (Break here other) (Tried z))
    alike_tried s t site here cond other todo left z = by (is_zero z)
      where
        by : (u : Bool) → Alike p q
            (left_at p q f below (standing p (if u then statements else behind_region statements) (if u then g ++ f.locals
            else cleared_leaving p statements (g ++ f.locals))))
            (standing q (if u then text ++ rest else behind_region (text ++ rest)) (if u then g ++ h else cleared_leaving q (text ++ rest) (g ++ h)))
        by true = alike_stayed todo
        by false = alike_left left

    pub leaving_steps : (input : List ℤ) (c : State) (s t : Stmt) (code : List Stmt) → c.globals ≡ g → f.to_do ≡ s ∷ statements → Tries p q e visible s t →
        Todo p q e visible statements text →
        Todo p q e outer (behind_region statements) (behind_region text) → code ≡ t ∷ (text ++ rest) → StepsAlike p q (step_frames p input c (f ∷ below))
        (step_from q input (c.globals ++ h) code)
    leaving_steps input c s t code same is tries todo left code_is =
        let first : step_frames p input c (f ∷ below) ≡ frame_step p f below (step_by p tries.site (tried (eval p input (g ++ f.locals) tries.cond))
        (after_effect p s statements (g ++ f.locals) (Break tries.site tries.cond))) =
        ap (λ (xs : List Stmt). step_frame p input c f below xs) is
        ∙ ap (λ (x : Stmt-F Stmt). step_head p input c f below statements x) tries.source
        ∙ ap (λ (xs : List Stmt). frame_step p f below (step_from p input (c.globals ++ f.locals) xs)) is
        ∙ ap (λ (m : List ℤ). frame_step p f below (step_from p input (m ++ f.locals) (s ∷ statements))) same
        ∙ ap (λ (x : Stmt-F Stmt). frame_step p f below (step_at p input (g ++ f.locals) s statements x)) tries.source in
        let second : step_from q input (c.globals ++ h) code ≡ step_by q tries.here (tried (eval q input (g ++ h) (renamed e.names tries.cond)))
        (after_effect q t (text ++ rest) (g ++ h) (Break tries.here (renamed e.names tries.cond))) =
        ap (λ (xs : List Stmt). step_from q input (c.globals ++ h) xs) code_is
        ∙ ap (λ (m : List ℤ). step_from q input (m ++ h) (t ∷ (text ++ rest))) same
        ∙ ap (λ (x : Stmt-F Stmt). step_at q input (g ++ h) t (text ++ rest) x) tries.target in
        subst (λ (x : FrameStep). StepsAlike p q x (step_from q input (c.globals ++ h) code)) (sym first)
        (subst (λ (x : Step). StepsAlike p q (frame_step p f below (step_by p tries.site (tried (eval p input (g ++ f.locals) tries.cond))
        (after_effect p s statements (g ++ f.locals) (Break tries.site tries.cond)))) x) (sym second)
        (tried_by f below tries.site tries.here _ _ tries.line (alike_tried s t tries.site tries.here tries.cond (renamed e.names tries.cond) todo left)
        (eval p input (g ++ f.locals) tries.cond) (eval q input (g ++ h) (renamed e.names tries.cond))
        (values p q laid input e ready.env visible g f.locals h whole ready.room ready.agree tries.cond tries.known)))
