-- What a store leaves: the visible variables still hold the same, and nothing of another call is changed.
use Rattle.std.proofs.Common.{◌≡◌, ◌⊎◌, inl, inr, refl, sym, ap, ◌∙◌, subst, ℕ, ◌+◌, ◌-◌, ◌<◌, ◌≤◌, ◌==◌, Bool, true, false, List, ◌∷◌, ◌++◌, ℤ, pos, length}
use Rattle.std.proofs.Common.{get_or, Option, Some, slice_set, arith, eqb-true, get_or-set_other, get_or-set_same}
use Rattle.std.proofs.lemmas.Bool.{eqb-false}
use Rattle.std.proofs.lemmas.List.{length-set, set-append_left, set-append_right}
use Rattle.dp_base.specs.declared.VarId.{VarId}
use Rattle.dp_tree.specs.declared.Program.{Program}
use Rattle.dp_tree.specs.Eval.{first_cell, cell_count}
use Rattle.dp_tree.specs.Scoping.{sees}
use Rattle.dp_calls.specs.Frame.{global_count}
use Rattle.dp_calls.specs.Renaming.{named_in, target_or, target_of}
use Rattle.dp_calls.proofs.Relation.{Env, file_count, Laid, IsEnv, Held, file, held, Agree, Room}
use Rattle.dp_calls.proofs.SameValues.{sees_one}
use Rattle.dp_calls.proofs.Visible.{file_at, target_file, own_at}

-- a store behind the file-scope cells
pub own_memory : (g m : List ℤ) (i j : ℕ) (z : ℤ) → i ≡ length g + j → slice_set (g ++ m) i z ≡ g ++ slice_set m j z
own_memory g m i j z at =
    let behind : length g ≤ i = omega (arith, at) in let same : i - length g ≡ j = omega (arith, at) in
    set-append_right g m (length g) i z refl behind ∙ ap (λ (n : ℕ). g ++ slice_set m n z) same

module _ (p q : Program) where
  -- the cells behind the file-scope ones are as before, but for those of the call
  abbrev pub Keeps : Env → List ℤ → List ℤ → Type 0
  Keeps e h cells = (j : ℕ) → (j + file_count p < e.low) ⊎ (e.high ≤ j + file_count p) → get_or cells j (pos 0) ≡ get_or h j (pos 0)

  -- two memories with the same file-scope values, that agree on the visible variables
  pub record After (e : Env) (visible : List ℕ) (h a b : List ℤ) : Type 0 where
    pub globals : List ℤ
    pub locals : List ℤ
    pub cells : List ℤ
    pub first : a ≡ globals ++ locals
    pub second : b ≡ globals ++ cells
    pub whole : length globals ≡ global_count p
    pub room : Room p q locals cells
    pub agree : Agree p q e visible locals cells
    pub keeps : Keeps e h cells

  module _ (e : Env) (env : IsEnv p q e) (laid : Laid p q) where
    module _ (l h : List ℤ) (room : Room p q l h) (x : VarId) (y : ℕ) (named : named_in e.names x.0 ≡ Some y) (z : ℤ) where
      abbrev pub locals_set : List ℤ
      locals_set = slice_set l (x.0 - file_count p) z

      abbrev pub cells_set : List ℤ
      cells_set = slice_set h (y - file_count p) z

      pub room_set : Room p q locals_set cells_set
      room_set =
          let left : length locals_set ≡ length l = length-set l (x.0 - file_count p) z in
          let right : length cells_set ≡ length h = length-set h (y - file_count p) z in
          (ap (λ (n : ℕ). n + file_count p) left ∙ room.0, ap (λ (n : ℕ). n + file_count p) right ∙ room.1)

      -- the variable itself
      pub held_here : Held p q e locals_set cells_set x.0
      held_here =
          let at = own_at p q laid e env x y named in
          let left : x.0 - file_count p < length l = omega (arith, at.source_within, at.source_behind, room.0) in
          let right : y - file_count p < length h = omega (arith, at.target_within, at.target_behind, room.1) in
          held y named (get_or-set_same l (x.0 - file_count p) z (pos 0) left ∙ sym (get_or-set_same h (y - file_count p) z (pos 0) right))

      held_other : (w : ℕ) (v : ℕ) → named_in e.names w ≡ Some v → (w ≡ x.0 → ⊥) → get_or l (w - file_count p) (pos 0) ≡ get_or h (v - file_count p) (pos 0) →
          Held p q e locals_set cells_set w
      held_other w v at differs same =
          let source = env.source w v at in let here = env.source x.0 y named in let target = env.target w v at in
          let there = env.target x.0 y named in
          let left : (w - file_count p ≡ x.0 - file_count p) → ⊥ = λ k. differs (omega (arith, k, source.0, here.0)) in
          let right : (v - file_count p ≡ y - file_count p) → ⊥ = λ k.
          let one : v ≡ y = omega (arith, k, target.0, there.0, env.above) in
          differs (env.apart w x.0 y (at ∙ ap (λ (n : ℕ). Some n) one) named) in
          held v at (get_or-set_other l (x.0 - file_count p) (w - file_count p) z (pos 0) left ∙ same
          ∙ sym (get_or-set_other h (y - file_count p) (v - file_count p) z (pos 0) right))

      held_by : (w : ℕ) (t : Bool) → (w == x.0) ≡ t → Held p q e l h w → Held p q e locals_set cells_set w
      held_by w true is before = let same : x.0 ≡ w = sym (eqb-true w x.0 is) in subst (λ (n : ℕ). Held p q e locals_set cells_set n) same held_here
      held_by w false is (file less) = file less
      held_by w false is (held v at same) = held_other w v at (eqb-false w x.0 is) same

      -- any other one
      pub held_set : (w : ℕ) → Held p q e l h w → Held p q e locals_set cells_set w
      held_set w before = held_by w (w == x.0) refl before

      pub keeps_set : Keeps e h cells_set
      keeps_set j outside =
          let there = env.target x.0 y named in
          let other : (j ≡ y - file_count p) → ⊥ = λ k. elim outside [
            | inl less ↦ omega (arith, less, k, there.0, env.above)
            | inr more ↦ omega (arith, more, k, there.1, there.0, env.above)
          ] in
          get_or-set_other h (y - file_count p) j z (pos 0) other

    module _ (visible : List ℕ) (g l h : List ℤ) (whole : length g ≡ global_count p) (room : Room p q l h) (agree : Agree p q e visible l h) where
      -- nothing is stored
      pub unchanged : After e visible h (g ++ l) (g ++ h)
      unchanged = record {
        globals = g;
        locals = l;
        cells = h;
        first = refl;
        second = refl;
        whole = whole;
        room = room;
        agree = agree;
        keeps = λ j outside. refl;
      }

      pub file_stored : (x : VarId) (k : ℕ) (z : ℤ) → x.0 < file_count p → k < cell_count p x →
          After e visible h (slice_set (g ++ l) (first_cell p x + k) z) (slice_set (g ++ h) (first_cell q (target_of e.names x) + k) z)
      file_stored x k z less below =
          let at = file_at p q laid e env x less in
          let same : first_cell q (target_of e.names x) ≡ first_cell p x = ap (λ (y : VarId). first_cell q y) (target_file p q laid e env x less) ∙ at.first in
          let inside : first_cell p x + k < length g = omega (arith, below, at.within, whole) in
          record {
            globals = slice_set g (first_cell p x + k) z;
            locals = l;
            cells = h;
            first = set-append_left g l (first_cell p x + k) z inside;
            second = ap (λ (c : ℕ). slice_set (g ++ h) (c + k) z) same ∙ set-append_left g h (first_cell p x + k) z inside;
            whole = length-set g (first_cell p x + k) z ∙ whole;
            room = room;
            agree = agree;
            keeps = λ j outside. refl;
          }

      -- an own variable, which is visible from here on
      pub own_stored : (x : VarId) (y k : ℕ) (z : ℤ) → named_in e.names x.0 ≡ Some y → k < cell_count p x →
          After e (x.0 ∷ visible) h (slice_set (g ++ l) (first_cell p x + k) z) (slice_set (g ++ h) (first_cell q (target_of e.names x) + k) z)
      own_stored x y k z named below =
          let at = own_at p q laid e env x y named in
          let same : first_cell q (target_of e.names x) ≡ first_cell q (record { 0 = y }) = ap (λ (o : Option ℕ). first_cell q (target_or o x.0)) named in
          let here : first_cell p x + k ≡ length g + (x.0 - file_count p) = omega (arith, below, at.count, at.first, at.source_behind, whole) in
          let there : first_cell q (record { 0 = y }) + k ≡ length g + (y - file_count p) = omega
          (arith, below, at.count, at.target_first, at.target_behind, whole) in
          record {
            globals = g;
            locals = locals_set l h room x y named z;
            cells = cells_set l h room x y named z;
            first = own_memory g l (first_cell p x + k) (x.0 - file_count p) z here;
            second = ap (λ (c : ℕ). slice_set (g ++ h) (c + k) z) same ∙ own_memory g h (first_cell q (record { 0 = y }) + k) (y - file_count p) z there;
            whole = whole;
            room = room_set l h room x y named z;
            agree = λ w seen. elim (sees_one x.0 visible w seen) [
              | inl is ↦ subst (λ (n : ℕ). Held p q e (locals_set l h room x y named z) (cells_set l h room x y named z) n) is (held_here l h room x y named z)
              | inr before ↦ held_set l h room x y named z w.0 (agree w before)
            ];
            keeps = keeps_set l h room x y named z;
          }

  -- fewer variables are visible
  pub fewer : {e : Env} {visible : List ℕ} {h a b : List ℤ} (inner : List ℕ) → ((x : VarId) → sees inner x ≡ true → sees visible x ≡ true) →
      After e visible h a b → After e inner h a b
  fewer inner sub r = record {
    globals = r.globals;
    locals = r.locals;
    cells = r.cells;
    first = r.first;
    second = r.second;
    whole = r.whole;
    room = r.room;
    agree = λ x seen. r.agree x (sub x seen);
    keeps = r.keeps;
  }
