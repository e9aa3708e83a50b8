-- Where a region stands at the head its body locals are cleared, and nothing else; so in the frame and in the expanded memory.
use Rattle.std.proofs.Common.{◌≡◌, refl, sym, ap, ◌∙◌, ℕ, suc, ◌+◌, ◌-◌, ◌≤◌, Bool, true, false, if◌then◌else◌, List, [], ◌∷◌, ◌++◌, ℤ, pos, length, get_or}
use Rattle.std.proofs.Common.{Some, slice_get, slice_set, arith, get_or-set_other, ◌⊎◌, inl, inr, subst}
use Rattle.std.proofs.lemmas.List.{length-set, set-append_right}
use Rattle.dp_tree.specs.declared.VarInfo.{VarInfo}
use Rattle.dp_tree.specs.declared.VarScope.{VarScope}
use Rattle.dp_tree.specs.declared.VarScope.TheVariants.{Global}
use Rattle.dp_tree.specs.declared.Program.{Program}
use Rattle.dp_tree.specs.Globals.{is_global_scope}
use Rattle.dp_tree.specs.Step.{is_local_of, clear_locals, cleared_at, standing}
use Rattle.dp_calls.specs.Renaming.{named_in}
use Rattle.dp_calls.proofs.Relation.{Env, PlaceOf, file, own, file_count, IsEnv, Quiet, is_quiet, Held, held, Agree, Laid, Acts, assigns, stores, prints}
use Rattle.dp_calls.proofs.Relation.{branches, loops, marks, act, call, Todo, none, next, exit, leave}
use Rattle.dp_tree.specs.declared.Stmt.{Stmt, out-Stmt}
use Rattle.dp_tree.specs.declared.Stmt.TheOpen.{Stmt-F}
use Rattle.dp_calls.specs.Frame.{Frame, global_count}
use Rattle.dp_calls.proofs.Stacks.{Stack, bottom, over}

-- the cells behind the first ones with the body locals of region r cleared
abbrev pub clear_own : ℕ → ℕ → List VarInfo → List ℤ → List ℤ
clear_own first r [] l = l
clear_own first r (x ∷ xs) l = clear_own first r xs (if is_local_of r x.scope then slice_set l (x.first.0 - first) (pos 0) else l)

length_if : (t : Bool) (l : List ℤ) (i : ℕ) → length (if t then slice_set l i (pos 0) else l) ≡ length l
length_if true l i = length-set l i (pos 0)
length_if false l i = refl

pub clear_own-length : (first r : ℕ) (vars : List VarInfo) (l : List ℤ) → length (clear_own first r vars l) ≡ length l
clear_own-length first r [] l = refl
clear_own-length first r (x ∷ xs) l =
    clear_own-length first r xs (if is_local_of r x.scope then slice_set l (x.first.0 - first) (pos 0) else l)
    ∙ length_if (is_local_of r x.scope) l (x.first.0 - first)

-- the cells of the body locals lie behind the first ones
Behind : ℕ → ℕ → List VarInfo → Type 0
Behind first r vars = (k : ℕ) (info : VarInfo) → slice_get vars k ≡ Some info → is_local_of r info.scope ≡ true → first ≤ info.first.0

memory_if : (g l : List ℤ) (i : ℕ) (t : Bool) (b : Bool) → b ≡ t → (b ≡ true → length g ≤ i) →
    (if t then slice_set (g ++ l) i (pos 0) else g ++ l) ≡ g ++ (if t then slice_set l (i - length g) (pos 0) else l)
memory_if g l i true b e h = set-append_right g l (length g) i (pos 0) refl (h e)
memory_if g l i false b e h = refl

memory_cleared : (g : List ℤ) (r : ℕ) (vars : List VarInfo) (l : List ℤ) → Behind (length g) r vars → clear_locals r vars (g ++ l) ≡ g
    ++ clear_own (length g) r vars l
unfolding Behind
memory_cleared g r [] l behind = refl
memory_cleared g r (x ∷ xs) l behind =
    ap (λ (m : List ℤ). clear_locals r xs m) (memory_if g l x.first.0 (is_local_of r x.scope) (is_local_of r x.scope) refl (behind 0 x refl))
    ∙ memory_cleared g r xs (if is_local_of r x.scope then slice_set l (x.first.0 - length g) (pos 0) else l) (λ k info at is. behind (suc k) info at is)

-- the cells of the body locals are others than this one
Others : ℕ → ℕ → ℕ → List VarInfo → Type 0
Others first r j vars = (k : ℕ) (info : VarInfo) → slice_get vars k ≡ Some info → is_local_of r info.scope ≡ true → j ≡ info.first.0 - first → ⊥

other_if : (l : List ℤ) (i j : ℕ) (t b : Bool) → b ≡ t → (b ≡ true → j ≡ i → ⊥) → get_or (if t then slice_set l i (pos 0) else l) j (pos 0) ≡ get_or l j (pos 0)
other_if l i j true b e h = get_or-set_other l i j (pos 0) (pos 0) (h e)
other_if l i j false b e h = refl

other_cleared : (first r j : ℕ) (vars : List VarInfo) (l : List ℤ) → Others first r j vars → get_or (clear_own first r vars l) j (pos 0) ≡ get_or l j (pos 0)
unfolding Others
other_cleared first r j [] l others = refl
other_cleared first r j (x ∷ xs) l others =
    other_cleared first r j xs (if is_local_of r x.scope then slice_set l (x.first.0 - first) (pos 0) else l) (λ k info at is. others (suc k) info at is)
    ∙ other_if l (x.first.0 - first) j (is_local_of r x.scope) (is_local_of r x.scope) refl (others 0 x refl)

-- no file-scope variable is a body local
file_no_local : (r : ℕ) (scope : VarScope) → is_global_scope scope ≡ true → is_local_of r scope ≡ true → ⊥
file_no_local r Global g l = absurd (cc)
file_no_local r _ g l = absurd (cc)

module _ (count cells : ℕ) (vars : List VarInfo) (lies : (k : ℕ) (info : VarInfo) → slice_get vars k ≡ Some info → PlaceOf count cells k info) (r : ℕ) where
  -- where a body local lies
  own_first : (k : ℕ) (info : VarInfo) → is_local_of r info.scope ≡ true → PlaceOf count cells k info → (count ≤ k) × (info.first.0 + count ≡ cells + k)
  own_first k info is (file _ global _ _) = absurd (file_no_local r info.scope global is)
  own_first k info is (own behind _ first _) = (behind, first)

  pub memory_clears : (g l : List ℤ) → length g ≡ cells → clear_locals r vars (g ++ l) ≡ g ++ clear_own cells r vars l
  unfolding Behind
  memory_clears g l whole =
      memory_cleared g r vars l (λ k info at is. let w = own_first k info is (lies k info at) in omega (arith, w.0, w.1, whole))
      ∙ ap (λ (n : ℕ). g ++ clear_own n r vars l) whole

  -- a variable that is none keeps its value
  pub quiet_clears : (x : ℕ) (l : List ℤ) → count ≤ x → is_quiet r (slice_get vars x) ≡ false → get_or (clear_own cells r vars l) (x - count) (pos 0) ≡ get_or
      l (x - count) (pos 0)
  unfolding Others
  quiet_clears x l behind quiet =
      other_cleared cells r (x - count) vars l (λ k info at is same.
      let w = own_first k info is (lies k info at) in let one : k ≡ x = omega (arith, same, w.0, w.1, behind) in
      let clash : true ≡ false = sym is ∙ sym (ap (is_quiet r) at) ∙ ap (λ (n : ℕ). is_quiet r (slice_get vars n)) one ∙ quiet in
      absurd (cc clash))

module _ (p q : Program) (e : Env) (env : IsEnv p q e) where
  quiet_held : (r : ℕ) (l m h k : List ℤ) (x : ℕ) → Held p q e l h x →
      ((y : ℕ) → named_in e.names x ≡ Some y → (get_or m (x - file_count p) (pos 0) ≡ get_or l (x - file_count p) (pos 0))
      × (get_or k (y - file_count p) (pos 0) ≡ get_or h (y - file_count p) (pos 0))) →
      Held p q e m k x
  quiet_held r l m h k x (file less) keep = file less
  quiet_held r l m h k x (held y named same) keep = let both = keep y named in held y named (both.0 ∙ same ∙ sym both.1)

  -- clearing body locals leaves the visible variables
  pub quiet_agree : (r : ℕ) (visible : List ℕ) (l m h k : List ℤ) → Quiet p q e visible r → Agree p q e visible l h →
      ((x : ℕ) → file_count p ≤ x → is_quiet r (slice_get p.vars x) ≡ false → get_or m (x - file_count p) (pos 0) ≡ get_or l (x - file_count p) (pos 0)) →
      ((y : ℕ) → file_count p ≤ y → is_quiet r (slice_get q.vars y) ≡ false → get_or k (y - file_count p) (pos 0) ≡ get_or h (y - file_count p) (pos 0)) →
      Agree p q e visible m k
  quiet_agree r visible l m h k quiet agree left right x seen = quiet_held r l m h k x.0 (agree x seen) (λ y named.
      let both = quiet x y seen named in let source = env.source x.0 y named in let target = env.target x.0 y named in
      let behind : file_count p ≤ y = omega (arith, target.0, env.above) in
      (left x.0 source.0 both.0, right y behind both.1))

module _ (p q : Program) (laid : Laid p q) where
  -- the memories where s and t stand at the head
  pub record Cleared (e : Env) (visible : List ℕ) (s t : Stmt) (l h : List ℤ) : Type 0 where
    pub locals : List ℤ
    pub cells : List ℤ
    pub source : (g : List ℤ) → length g ≡ global_count p → cleared_at p (out-Stmt s) (g ++ l) ≡ g ++ locals
    pub target : (g : List ℤ) → length g ≡ global_count p → cleared_at q (out-Stmt t) (g ++ h) ≡ g ++ cells
    -- the frame's own may be cleared before
    pub half : Agree p q e visible locals h
    pub agree : Agree p q e visible locals cells
    pub long : length locals ≡ length l
    pub wide : length cells ≡ length h
    pub where_main : (cells ≡ h) ⊎ (e.calls ≡ length p.functions)

  module _ {e : Env} (env : IsEnv p q e) {visible : List ℕ} (l h : List ℤ) (agree : Agree p q e visible l h) where
    plainly : (s t : Stmt) → ((g : List ℤ) → cleared_at p (out-Stmt s) (g ++ l) ≡ g ++ l) → ((g : List ℤ) → cleared_at q (out-Stmt t) (g ++ h) ≡ g ++ h) →
        Cleared e visible s t l h
    plainly s t a b = record {
      locals = l;
      cells = h;
      source = λ g w. a g;
      target = λ g w. b g;
      half = agree;
      agree = agree;
      long = refl;
      wide = refl;
      where_main = inl refl;
    }

    pub acts_cleared : {behind : List ℕ} {s t : Stmt} → Acts p q e visible behind s t → Cleared e visible s t l h
    acts_cleared {s = s} {t = t} (assigns a b _ _ _) =
        plainly s t (λ g. ap (λ (x : Stmt-F Stmt). cleared_at p x (g ++ l)) a) (λ g. ap (λ (x : Stmt-F Stmt). cleared_at q x (g ++ h)) b)
    acts_cleared {s = s} {t = t} (stores a b _ _ _ _) =
        plainly s t (λ g. ap (λ (x : Stmt-F Stmt). cleared_at p x (g ++ l)) a) (λ g. ap (λ (x : Stmt-F Stmt). cleared_at q x (g ++ h)) b)
    acts_cleared {s = s} {t = t} (prints a b _ _) =
        plainly s t (λ g. ap (λ (x : Stmt-F Stmt). cleared_at p x (g ++ l)) a) (λ g. ap (λ (x : Stmt-F Stmt). cleared_at q x (g ++ h)) b)
    acts_cleared {s = s} {t = t} (branches a b _ _ _ _) =
        plainly s t (λ g. ap (λ (x : Stmt-F Stmt). cleared_at p x (g ++ l)) a) (λ g. ap (λ (x : Stmt-F Stmt). cleared_at q x (g ++ h)) b)
    acts_cleared {s = s} {t = t} (loops a b _ _ _) =
        plainly s t (λ g. ap (λ (x : Stmt-F Stmt). cleared_at p x (g ++ l)) a) (λ g. ap (λ (x : Stmt-F Stmt). cleared_at q x (g ++ h)) b)
    acts_cleared {s = s} {t = t} (marks {r = r} a b _ _ _ quiet main) = record {
      locals = clear_own (global_count p) r p.vars l;
      cells = clear_own (global_count p) r q.vars h;
      source = λ g w. ap (λ (x : Stmt-F Stmt). cleared_at p x (g ++ l)) a ∙ memory_clears (file_count p) (global_count p) p.vars laid.before r g l w;
      target = λ g w. ap (λ (x : Stmt-F Stmt). cleared_at q x (g ++ h)) b ∙ memory_clears (file_count p) (global_count p) q.vars laid.after r g h w;
      half = quiet_agree p q e env r visible l (clear_own (global_count p) r p.vars l) h h quiet agree
          (λ x behind is. quiet_clears (file_count p) (global_count p) p.vars laid.before r x l behind is) (λ y behind is. refl);
      agree = quiet_agree p q e env r visible l (clear_own (global_count p) r p.vars l) h (clear_own (global_count p) r q.vars h) quiet agree
          (λ x behind is. quiet_clears (file_count p) (global_count p) p.vars laid.before r x l behind is)
          (λ y behind is. quiet_clears (file_count p) (global_count p) q.vars laid.after r y h behind is);
      long = clear_own-length (global_count p) r p.vars l;
      wide = clear_own-length (global_count p) r q.vars h;
      where_main = inr main;
    }

  -- only in `main` is anything cleared, and no frame is below that of `main`
  pub stack_cleared : {e : Env} {below : List Frame} {rest : List Stmt} {h k : List ℤ} → (k ≡ h) ⊎ (e.calls ≡ length p.functions) → Stack p q e below rest h →
      Stack p q e below rest k
  stack_cleared {e = e} {below = below} {rest = rest} (inl same) stack = subst (λ (m : List ℤ). Stack p q e below rest m) (sym same) stack
  stack_cleared (inr main) bottom = bottom
  stack_cleared (inr main) (over suits nested stack is) = absurd (omega (arith, main, nested.calls, suits.env.earlier))

  -- what a frame that stands at these statements has
  pub record Stood (e : Env) (statements code : List Stmt) (l h : List ℤ) : Type 0 where
    pub locals : List ℤ
    pub outer : List ℕ
    pub todo : Todo p q e outer statements code
    pub agree : Agree p q e outer locals h
    pub long : length locals ≡ length l
    pub is : (g : List ℤ) → length g ≡ global_count p → (standing p statements (g ++ l)).cells ≡ g ++ locals

  pub stands : {e : Env} (env : IsEnv p q e) {visible : List ℕ} {statements code : List Stmt} (l h : List ℤ) → Agree p q e visible l h →
      Todo p q e visible statements code → Stood e statements code l h
  stands env {visible = visible} l h agree none = record { locals = l; outer = visible; todo = none; agree = agree; long = refl; is = λ g w. refl }
  stands env {visible = visible} l h agree (next (act a) todo is) =
      let c = acts_cleared env l h agree a in
      record { locals = c.locals; outer = visible; todo = next (act a) todo is; agree = c.half; long = c.long; is = c.source }
  stands env {visible = visible} l h agree (next (call a b c d f g k) todo is) =
      record {
        locals = l;
        outer = visible;
        todo = next (call a b c d f g k) todo is;
        agree = agree;
        long = refl;
        is = λ m w. ap (λ (x : Stmt-F Stmt).
            cleared_at p x (m ++ l)) a;
      }
  stands env {visible = visible} l h agree (exit tries todo facts left is) =
      record {
        locals = l;
        outer = visible;
        todo = exit tries todo facts left is;
        agree = agree;
        long = refl;
        is = λ m w. ap (λ (x : Stmt-F Stmt). cleared_at p
            x (m ++ l)) tries.source;
      }
  stands env l h agree (leave sub todo) = stands env l h (λ x seen. agree x (sub x seen)) todo
