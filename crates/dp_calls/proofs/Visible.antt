-- Visible variables read the same in a frame's memory and in the expanded one.
use Rattle.std.proofs.Common.{◌≡◌, refl, sym, ap, ◌∙◌, subst, ℕ, ◌+◌, ◌-◌, ◌<◌, ◌≤◌, true, List, ◌++◌, ℤ, pos, length, get_or, Option, Some, None, slice_get}
use Rattle.std.proofs.Common.{arith}
use Rattle.std.proofs.lemmas.List.{get_or_append_left, get_or-append_right}
use Rattle.dp_base.specs.declared.VarId.{VarId}
use Rattle.dp_room.proofs.ListLemmas.{at_index}
use Rattle.dp_tree.specs.declared.VarInfo.{VarInfo}
use Rattle.dp_tree.specs.declared.Program.{Program}
use Rattle.dp_tree.specs.Eval.{first_of, length_of, first_cell, cell_count}
use Rattle.dp_tree.specs.Scoping.{sees}
use Rattle.dp_calls.specs.Frame.{global_count}
use Rattle.dp_calls.specs.Renaming.{named_in, target_or, target_of}
use Rattle.dp_calls.proofs.Relation.{Env, PlaceOf, file, own, file_count, Laid, IsEnv, Held, held, Agree}
use Rattle.dp_calls.proofs.SameValues.{ReadsSame}

-- a cell behind the file-scope ones
pub own_cell : (g l : List ℤ) (i j : ℕ) → i ≡ length g + j → get_or (g ++ l) i (pos 0) ≡ get_or l j (pos 0)
own_cell g l i j e =
    let behind : length g ≤ i = omega (arith, e) in let same : i - length g ≡ j = omega (arith, e) in
    get_or-append_right g l (length g) i (pos 0) refl behind ∙ ap (λ (k : ℕ). get_or l k (pos 0)) same

module _ (p q : Program) (laid : Laid p q) (e : Env) (env : IsEnv p q e) where
  file_by : (x : VarId) (o : Option ℕ) → named_in e.names x.0 ≡ o → x.0 < file_count p → target_of e.names x ≡ x
  file_by x None h less = ap (λ (o : Option ℕ). target_or o x.0) h
  file_by x (Some y) h less = absurd (omega (arith, less, (env.source x.0 y h).0))

  -- a file-scope variable keeps its number
  pub target_file : (x : VarId) → x.0 < file_count p → target_of e.names x ≡ x
  target_file x less = file_by x (named_in e.names x.0) refl less

  -- where a file-scope variable lies
  pub record FileAt (x : VarId) : Type 0 where
    pub first : first_cell q x ≡ first_cell p x
    pub count : cell_count q x ≡ cell_count p x
    pub some : 0 < cell_count p x
    pub within : first_cell p x + cell_count p x ≤ global_count p

  file_place : (x : VarId) (info : VarInfo) → slice_get p.vars x.0 ≡ Some info → x.0 < file_count p →
      PlaceOf (file_count p) (global_count p) x.0 info → FileAt x
  file_place x info at less (file _ _ within some) =
      let length_is : cell_count p x ≡ info.length = ap length_of at in let first_is : first_cell p x ≡ info.first.0 = ap first_of at in
      record {
        first = ap first_of (laid.same x.0 less);
        count = ap length_of (laid.same x.0 less);
        some = omega (arith, length_is, some);
        within = omega (arith, length_is, first_is, within);
      }
  file_place x info at less (own behind _ _ _) = absurd (omega (arith, less, behind))

  pub file_at : (x : VarId) → x.0 < file_count p → FileAt x
  file_at x less =
      let there : x.0 < length p.vars = omega (arith, less, laid.there) in let found = at_index p.vars x.0 there in
      file_place x found.0 found.1 less (laid.before x.0 found.0 found.1)

  -- where a local lies, and the variable that stands for it
  pub record OwnAt (x : VarId) (y : ℕ) : Type 0 where
    pub first : first_cell p x + file_count p ≡ global_count p + x.0
    pub count : cell_count p x ≡ 1
    pub target_first : first_cell q (record { 0 = y }) + file_count p ≡ global_count p + y
    pub target_count : cell_count q (record { 0 = y }) ≡ 1
    pub source_behind : file_count p ≤ x.0
    pub source_within : x.0 < length p.vars
    pub target_behind : file_count p ≤ y
    pub target_within : y < length q.vars

  own_place : (x : VarId) (y : ℕ) (info there : VarInfo) → slice_get p.vars x.0 ≡ Some info → slice_get q.vars y ≡ Some there → file_count p ≤ x.0 →
      x.0 < length p.vars → file_count p ≤ y → y < length q.vars →
      PlaceOf (file_count p) (global_count p) x.0 info → PlaceOf (file_count p) (global_count p) y there → OwnAt x y
  own_place x y info there at to b w c v (file less _ _ _) _ = absurd (omega (arith, less, b))
  own_place x y info there at to b w c v (own _ _ first one) (file less _ _ _) = absurd (omega (arith, less, c))
  own_place x y info there at to b w c v (own _ _ first one) (own _ _ goes single) =
      let first_is : first_cell p x ≡ info.first.0 = ap first_of at in
      let goes_is : first_cell q (record { 0 = y }) ≡ there.first.0 = ap first_of to in
      record {
        first = omega (arith, first_is, first);
        count = ap length_of at ∙ one;
        target_first = omega (arith, goes_is, goes);
        target_count = ap length_of to ∙ single;
        source_behind = b;
        source_within = w;
        target_behind = c;
        target_within = v;
      }

  pub own_at : (x : VarId) (y : ℕ) → named_in e.names x.0 ≡ Some y → OwnAt x y
  own_at x y named =
      let source = env.source x.0 y named in let target = env.target x.0 y named in
      let behind : file_count p ≤ y = omega (arith, env.above, target.0) in
      let within : y < length q.vars = omega (arith, env.within, target.1) in
      let found = at_index p.vars x.0 source.1 in let goes = at_index q.vars y within in
      own_place x y found.0 goes.0 found.1 goes.1 source.0 source.1 behind within (laid.before x.0 found.0 found.1) (laid.after y goes.0 goes.1)

  module _ (g l h : List ℤ) (whole : length g ≡ global_count p) where
    file_reads : (x : VarId) → x.0 < file_count p → ReadsSame p q (g ++ l) (g ++ h) x x
    file_reads x less =
        let at = file_at x less in
        record {
          count = sym at.count;
          some = at.some;
          cells = λ k below.
              let inside : first_cell p x + k < length g = omega (arith, below, at.within, whole) in
              get_or_append_left g l (pos 0) (first_cell p x + k) inside
              ∙ sym (get_or_append_left g h (pos 0) (first_cell p x + k) inside)
              ∙ ap (λ (c : ℕ). get_or (g ++ h) (c + k) (pos 0)) (sym at.first);
        }

    own_reads : (x : VarId) (y : ℕ) → named_in e.names x.0 ≡ Some y → get_or l (x.0 - file_count p) (pos 0) ≡ get_or h (y - file_count p) (pos 0) →
        ReadsSame p q (g ++ l) (g ++ h) x (record { 0 = y })
    own_reads x y named same =
        let at = own_at x y named in let one : cell_count p x ≡ cell_count q (record { 0 = y }) = at.count ∙ sym at.target_count in
        record {
          count = one;
          some = omega (arith, at.count);
          cells = λ k below.
              let here : first_cell p x + k ≡ length g + (x.0 - file_count p) = omega (arith, below, at.count, at.first, at.source_behind, whole) in
              let there : first_cell q (record { 0 = y }) + k ≡ length g + (y - file_count p) = omega
              (arith, below, at.count, at.target_first, at.target_behind, whole) in
              own_cell g l (first_cell p x + k) (x.0 - file_count p) here ∙ same
              ∙ sym (own_cell g h (first_cell q (record { 0 = y }) + k) (y - file_count p) there);
        }

    reads_held : (x : VarId) → Held p q e l h x.0 → ReadsSame p q (g ++ l) (g ++ h) x (target_of e.names x)
    reads_held x (file less) = subst (λ (y : VarId). ReadsSame p q (g ++ l) (g ++ h) x y) (sym (target_file x less)) (file_reads x less)
    reads_held x (held y named same) =
        subst (λ (y : VarId). ReadsSame p q (g ++ l) (g ++ h) x y) (sym (ap (λ (o : Option ℕ). target_or o x.0) named)) (own_reads x y named same)

    pub reads_visible : (visible : List ℕ) → Agree p q e visible l h → (x : VarId) → sees visible x ≡ true →
        ReadsSame p q (g ++ l) (g ++ h) x (target_of e.names x)
    reads_visible visible agree x seen = reads_held x (agree x seen)
