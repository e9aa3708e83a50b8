-- The code of an expression gives its value, with its loads, or breaks the turn off.
use Rattle.std.proofs.Common.{◌≡◌, refl, ap, ◌∙◌, subst, append_assoc, length-append, if◌then◌else◌, ℕ, ◌+◌, List, [], ◌∷◌, ◌++◌, length, map, ℤ, pos, Ok, Err}
use Rattle.std.proofs.Common.{arith, inl, inr}
use Rattle.std.proofs.lemmas.List.{append-nil, map-append, length-map}
use Rattle.std.proofs.lemmas.Bool.{cases_Bool}
use Rattle.dp_base.specs.Arithmetic.{binary_result, unary_result, is_zero}
use Rattle.dp_tree.specs.declared.Program.{Program}
use Rattle.dp_tree.specs.declared.Expr.{Expr, end_of-Expr, more_of-Expr}
use Rattle.dp_tree.specs.declared.Expr.TheVariants as expr
use Rattle.dp_tree.specs.Eval.{Load, WithLoads, Evaluated, just, and_then, without_loads, truth, load, first_cell, cell_count}
unfoldable use Rattle.dp_tree.specs.Eval.{eval}
use Rattle.dp_plan.specs.declared.Plan.{Plan}
use Rattle.dp_net.specs.NetItems.{Marks}
use Rattle.dp_code.specs.declared.Op.{Op}
use Rattle.dp_code.specs.declared.Op.TheVariants.{Push, Input, InputLen, LoadAt, Unary, Binary, Truth, SkipIfZero, SkipIfNotZero, Load as LoadCell}
use Rattle.dp_code.specs.FlatRun as flat
use Rattle.dp_code.specs.FlatRun.{input_at, element_at}
use Rattle.dp_code.specs.Code.{first_of_var}
unfoldable use Rattle.dp_code.specs.Code.{expr_code}
use Rattle.dp_lean_code.specs.declared.LeanOp.{LeanOp}
use Rattle.dp_lean_code.specs.declared.LeanOp.TheVariants.{Plain}
use Rattle.dp_lean_code.specs.LeanHeld.{Held, Flat, Goes, flat_of, moved_as}
use Rattle.dp_lean_code.specs.LeanFlat.{lean_op_at, lean_move}
use Rattle.dp_lean_code.proofs.LeanRunning.{From, later, next, moves, goes, ends, RunEnds, Reaches, with_value, reach_then, state}

-- as ops of lean code
abbrev pub plains : List Op → List LeanOp
plains ops = map Plain ops

pub plains_length : (ops : List Op) → length (plains ops) ≡ length ops
plains_length ops = length-map ops Plain

pub plains_join : (a b : List Op) → plains (a ++ b) ≡ plains a ++ plains b
plains_join a b = map-append Plain a b

module _ (p : Program) (plan : Plan) (m : Marks) (input : List ℤ) (code : List LeanOp) where
  abbrev Reach : Flat → (WithLoads ℤ → Flat) → Evaluated ℤ → Type 0
  Reach c to r = Reaches p plan m input code c to r

  abbrev value_at : ℕ → List ℤ → List Load → Held → WithLoads ℤ → Flat
  value_at at below loads h v = with_value p plan m input code at below loads h v

  -- the op gives what an evaluation comes to, in place of what lies above these values
  abbrev Gives : Flat → Op → List ℤ → Evaluated ℤ → Type 0
  Gives c op below r = lean_op_at p plan m input code c (Plain op) ≡ moved_as c (flat.valued p [] (flat_of c) below r)

  ends_at : (c : Flat) (at last : ℕ) (below : List ℤ) (loads : List Load) (h : Held) (r : Evaluated ℤ) → at ≡ last → Reach c (value_at at below loads h) r →
      Reach c (value_at last below loads h) r
  ends_at c at last below loads h r e reach = subst (λ k. Reach c (value_at k below loads h) r) e reach

  value_by : (c : Flat) (below : List ℤ) (r : Evaluated ℤ) → lean_move p plan m input code c ≡ moved_as c (flat.valued p [] (flat_of c) below r) →
      Reach c (value_at (c.place + 1) below c.loads c.held) r
  value_by c below (Ok v) e end onward = goes p plan m input code c _ (end v) e (onward v refl)
  value_by c below (Err kind) e end onward = ends p plan m input code c _ e

  -- an op that gives a value by itself
  first_op : (op : Op) (at : ℕ) (below : List ℤ) (loads : List Load) (h : Held) (rest : List LeanOp) (r : Evaluated ℤ) →
      Gives (state at below loads h) op below r → From code at (Plain op ∷ rest) → Reach (state at below loads h) (value_at (at + 1) below loads h) r
  first_op op at below loads h rest r does from =
      value_by (state at below loads h) below r (moves p plan m input code (state at below loads h) (Plain op) rest from ∙ does)

  -- where code stands that is made of two parts
  two_parts : (a b : List Op) (at : ℕ) (rest : List LeanOp) → From code at (plains (a ++ b) ++ rest) → From code at (plains a ++ (plains b ++ rest))
  two_parts a b at rest from = from ∙ ap (λ ops. ops ++ rest) (plains_join a b) ∙ append_assoc (plains a) (plains b) rest

  behind_plains : (ops : List Op) (at : ℕ) (rest : List LeanOp) → From code at (plains ops ++ rest) → From code (at + length ops) rest
  behind_plains ops at rest from = subst (λ n. From code (at + n) rest) (plains_length ops) (later code at (plains ops) rest from)

  -- an op on the value that other ops give
  then_op : (op : Op) (ops : List Op) (at : ℕ) (under last : List ℤ) (loads : List Load) (h : Held) (rest : List LeanOp) (r : Evaluated ℤ)
      (f : ℤ → Evaluated ℤ) →
      ((v : WithLoads ℤ) → Gives (value_at (at + length ops) under loads h v) op last (f v.value)) → From code at (plains (ops ++ op ∷ []) ++ rest) →
      Reach (state at under loads h) (value_at (at + length ops) under loads h) r →
      Reach (state at under loads h) (value_at (at + length (ops ++ op ∷ [])) last loads h) (and_then r f)
  then_op op ops at under last loads h rest r f does from first =
      let here : From code (at + length ops) (Plain op ∷ rest) = behind_plains ops at (Plain op ∷ rest) (two_parts ops (op ∷ []) at rest from) in
      let end : at + length ops + 1 ≡ at + length (ops ++ op ∷ []) = omega (arith, length-append ops (op ∷ [])) in
      ends_at (state at under loads h) (at + length ops + 1) (at + length (ops ++ op ∷ [])) last loads h (and_then r f) end
      (reach_then p plan m input code (state at under loads h) (at + length ops) (at + length ops + 1) under last loads h r f first
      (λ v. value_by (value_at (at + length ops) under loads h v) last (f v.value)
      (moves p plan m input code (value_at (at + length ops) under loads h v) (Plain op) rest here ∙ does v)))

  -- other ops on the value that the first ones give
  then_ops : (first_ops ops : List Op) (at : ℕ) (below : List ℤ) (loads : List Load) (h : Held) (r : Evaluated ℤ) (f : ℤ → Evaluated ℤ) →
      Reach (state at below loads h) (value_at (at + length first_ops) below loads h) r →
      ((v : WithLoads ℤ) → Reach (value_at (at + length first_ops) below loads h v) (value_at (at + length first_ops + length ops) below
      (loads ++ v.loads) h) (f v.value)) →
      Reach (state at below loads h) (value_at (at + length (first_ops ++ ops)) below loads h) (and_then r f)
  then_ops first_ops ops at below loads h r f first second =
      let k = at + length first_ops in
      let end : k + length ops ≡ at + length (first_ops ++ ops) = omega (arith, length-append first_ops ops) in
      ends_at (state at below loads h) (k + length ops) (at + length (first_ops ++ ops)) below loads h (and_then r f) end
      (reach_then p plan m input code (state at below loads h) k (k + length ops) below below loads h r f first second)

  -- a value that is decided without another op
  decided_at : (c : Flat) (to last : ℕ) (below : List ℤ) (loads : List Load) (h : Held) (z : ℤ) → to ≡ last →
      lean_move p plan m input code c ≡ Goes (state to (z ∷ below) loads h) →
      Reach c (value_at last below loads h) (just z)
  decided_at c to last below loads h z e mv end onward =
      let there : RunEnds p plan m input code (state last (z ∷ below) (loads ++ []) h) (end (record { value = z; loads = [] })) = onward
      (record { value = z; loads = [] }) refl in
      let back : RunEnds p plan m input code (state last (z ∷ below) loads h) (end (record { value = z; loads = [] })) =
      subst (λ l. RunEnds p plan m input code (state last (z ∷ below) l h) (end (record { value = z; loads = [] }))) (append-nil loads) there in
      goes p plan m input code c (state last (z ∷ below) loads h) _ (mv ∙ ap (λ n. Goes (state n (z ∷ below) loads h)) e) back

  -- the right side, which isn't left out
  right_side : (c : Flat) (k : ℕ) (ops : List Op) (below : List ℤ) (loads : List Load) (h : Held) (rest : List LeanOp) (r : Evaluated ℤ) →
      lean_move p plan m input code c ≡ Goes (state (k + 1) below loads h) → From code (k + 1) (plains (ops ++ Truth ∷ []) ++ rest) →
      Reach (state (k + 1) below loads h) (value_at (k + 1 + length ops) below loads h) r →
      Reach c (value_at (k + 1 + length (ops ++ Truth ∷ [])) below loads h) (and_then r truth)
  right_side c k ops below loads h rest r mv from second end onward =
      goes p plan m input code c (state (k + 1) below loads h) _ mv
      (then_op Truth ops (k + 1) below below loads h rest r truth (λ v. refl) from second end onward)

  -- the place behind a guarded right side
  past : (k : ℕ) (op : Op) (ops : List Op) → k + 1 + length ops + 1 ≡ k + length (op ∷ (ops ++ Truth ∷ []))
  past k op ops = omega (arith, length-append ops (Truth ∷ []))

  past_right : (k : ℕ) (op : Op) (ops : List Op) → k + 1 + length (ops ++ Truth ∷ []) ≡ k + length (op ∷ (ops ++ Truth ∷ []))
  past_right k op ops = omega arith

  guard_and : (k : ℕ) (ops : List Op) (below : List ℤ) (loads : List Load) (h : Held) (rest : List LeanOp) (r : Evaluated ℤ) (v : WithLoads ℤ) →
      From code k (Plain (SkipIfZero (k + 1 + length ops + 1)) ∷ (plains (ops ++ Truth ∷ []) ++ rest)) →
      Reach (state (k + 1) below (loads ++ v.loads) h) (value_at (k + 1 + length ops) below (loads ++ v.loads) h) r →
      Reach (value_at k below loads h v) (value_at (k + length (SkipIfZero (k + 1 + length ops + 1) ∷ (ops ++ Truth ∷ []))) below (loads ++ v.loads) h)
      (if is_zero v.value then just (pos 0) else and_then r truth)
  guard_and k ops below loads h rest r v from second =
      let to = k + 1 + length ops + 1 in
      let c = value_at k below loads h v in
      let mv = moves p plan m input code c (Plain (SkipIfZero to)) _ from in
      elim (cases_Bool (is_zero v.value)) [
        | inl q ↦
            let skips : lean_move p plan m input code c ≡ Goes (state to (pos 0 ∷ below) (loads ++ v.loads) h) = mv ∙ rw q refl in
            rw q (decided_at c to _ below (loads ++ v.loads) h (pos 0) (past k (SkipIfZero to) ops) skips)
        | inr q ↦
            let goes_on : lean_move p plan m input code c ≡ Goes (state (k + 1) below (loads ++ v.loads) h) = mv ∙ rw q refl in
            rw q (ends_at c _ _ below (loads ++ v.loads) h (and_then r truth) (past_right k (SkipIfZero to) ops)
            (right_side c k ops below (loads ++ v.loads) h rest r goes_on (next code k (Plain (SkipIfZero to)) _ from) second))
      ]

  guard_or : (k : ℕ) (ops : List Op) (below : List ℤ) (loads : List Load) (h : Held) (rest : List LeanOp) (r : Evaluated ℤ) (v : WithLoads ℤ) →
      From code k (Plain (SkipIfNotZero (k + 1 + length ops + 1)) ∷ (plains (ops ++ Truth ∷ []) ++ rest)) →
      Reach (state (k + 1) below (loads ++ v.loads) h) (value_at (k + 1 + length ops) below (loads ++ v.loads) h) r →
      Reach (value_at k below loads h v) (value_at (k + length (SkipIfNotZero (k + 1 + length ops + 1) ∷ (ops ++ Truth ∷ []))) below (loads ++ v.loads) h)
      (if is_zero v.value then and_then r truth else just (pos 1))
  guard_or k ops below loads h rest r v from second =
      let to = k + 1 + length ops + 1 in
      let c = value_at k below loads h v in
      let mv = moves p plan m input code c (Plain (SkipIfNotZero to)) _ from in
      elim (cases_Bool (is_zero v.value)) [
        | inl q ↦
            let goes_on : lean_move p plan m input code c ≡ Goes (state (k + 1) below (loads ++ v.loads) h) = mv ∙ rw q refl in
            rw q (ends_at c _ _ below (loads ++ v.loads) h (and_then r truth) (past_right k (SkipIfNotZero to) ops)
            (right_side c k ops below (loads ++ v.loads) h rest r goes_on (next code k (Plain (SkipIfNotZero to)) _ from) second))
        | inr q ↦
            let skips : lean_move p plan m input code c ≡ Goes (state to (pos 1 ∷ below) (loads ++ v.loads) h) = mv ∙ rw q refl in
            rw q (decided_at c to _ below (loads ++ v.loads) h (pos 1) (past k (SkipIfNotZero to) ops) skips)
      ]

  pub expr_runs : (e : Expr) (at : ℕ) (below : List ℤ) (loads : List Load) (h : Held) (rest : List LeanOp) → From code at (plains (expr_code p e at) ++ rest) →
      Reach (state at below loads h) (value_at (at + length (expr_code p e at)) below loads h) (eval p input h.cells e)
  unfolding expr_code eval
  expr_runs (expr.Number n) at below loads h rest from = first_op (Push n) at below loads h rest (just n) refl from
  expr_runs (expr.Input' _ (more_of-Expr e end_of-Expr)) at below loads h rest from =
      then_op Input (expr_code p e at) at below below loads h rest (eval p input h.cells e) (input_at input) (λ v. refl) from
      (expr_runs e at below loads h (Plain Input ∷ rest) (two_parts (expr_code p e at) (Input ∷ []) at rest from))
  expr_runs expr.InputLen at below loads h rest from = first_op InputLen at below loads h rest (just (pos (length input))) refl from
  expr_runs (expr.Scalar x) at below loads h rest from = first_op (LoadCell (first_of_var p x)) at below loads h rest (load h.cells (first_cell p x)) refl from
  expr_runs (expr.Element' x _ (more_of-Expr e end_of-Expr)) at below loads h rest from =
      let op = LoadAt (first_of_var p x) (cell_count p x) in
      then_op op (expr_code p e at) at below below loads h rest (eval p input h.cells e) (element_at h.cells (first_cell p x) (cell_count p x)) (λ v. refl) from
      (expr_runs e at below loads h (Plain op ∷ rest) (two_parts (expr_code p e at) (op ∷ []) at rest from))
  expr_runs (expr.Unary' op _ (more_of-Expr e end_of-Expr)) at below loads h rest from =
      then_op (Unary op) (expr_code p e at) at below below loads h rest (eval p input h.cells e) (λ x. without_loads (unary_result op x)) (λ v. refl) from
      (expr_runs e at below loads h (Plain (Unary op) ∷ rest) (two_parts (expr_code p e at) (Unary op ∷ []) at rest from))
  expr_runs (expr.Binary' op _ (more_of-Expr a end_of-Expr) _ (more_of-Expr b end_of-Expr)) at below loads h rest from =
      let ca = expr_code p a at in
      let k = at + length ca in
      let cb = expr_code p b k in
      let ops = cb ++ Binary op ∷ [] in
      let here : From code at (plains ca ++ (plains ops ++ rest)) = two_parts ca ops at rest from in
      let there : From code k (plains ops ++ rest) = behind_plains ca at (plains ops ++ rest) here in
      then_ops ca ops at below loads h (eval p input h.cells a) (λ x. and_then (eval p input h.cells b) (λ y. without_loads (binary_result op x y)))
      (expr_runs a at below loads h (plains ops ++ rest) here)
      (λ v. then_op (Binary op) cb k (v.value ∷ below) below (loads ++ v.loads) h rest (eval p input h.cells b)
      (λ y. without_loads (binary_result op v.value y)) (λ w. refl) there
      (expr_runs b k (v.value ∷ below) (loads ++ v.loads) h (Plain (Binary op) ∷ rest) (two_parts cb (Binary op ∷ []) k rest there)))
  expr_runs (expr.And' _ (more_of-Expr a end_of-Expr) _ (more_of-Expr b end_of-Expr)) at below loads h rest from =
      let ca = expr_code p a at in
      let k = at + length ca in
      let cb = expr_code p b (k + 1) in
      let skip = SkipIfZero (k + 1 + length cb + 1) in
      let ops = skip ∷ (cb ++ Truth ∷ []) in
      let here : From code at (plains ca ++ (plains ops ++ rest)) = two_parts ca ops at rest from in
      let there : From code k (plains ops ++ rest) = behind_plains ca at (plains ops ++ rest) here in
      let right : From code (k + 1) (plains cb ++ (Plain Truth ∷ rest)) = two_parts cb (Truth ∷ []) (k + 1) rest
      (next code k (Plain skip) (plains (cb ++ Truth ∷ []) ++ rest) there) in
      then_ops ca ops at below loads h (eval p input h.cells a) (λ x. if is_zero x then just (pos 0) else and_then (eval p input h.cells b) truth)
      (expr_runs a at below loads h (plains ops ++ rest) here)
      (λ v. guard_and k cb below loads h rest (eval p input h.cells b) v there (expr_runs b (k + 1) below (loads ++ v.loads) h (Plain Truth ∷ rest) right))
  expr_runs (expr.Or' _ (more_of-Expr a end_of-Expr) _ (more_of-Expr b end_of-Expr)) at below loads h rest from =
      let ca = expr_code p a at in
      let k = at + length ca in
      let cb = expr_code p b (k + 1) in
      let skip = SkipIfNotZero (k + 1 + length cb + 1) in
      let ops = skip ∷ (cb ++ Truth ∷ []) in
      let here : From code at (plains ca ++ (plains ops ++ rest)) = two_parts ca ops at rest from in
      let there : From code k (plains ops ++ rest) = behind_plains ca at (plains ops ++ rest) here in
      let right : From code (k + 1) (plains cb ++ (Plain Truth ∷ rest)) = two_parts cb (Truth ∷ []) (k + 1) rest
      (next code k (Plain skip) (plains (cb ++ Truth ∷ []) ++ rest) there) in
      then_ops ca ops at below loads h (eval p input h.cells a) (λ x. if is_zero x then and_then (eval p input h.cells b) truth else just (pos 1))
      (expr_runs a at below loads h (plains ops ++ rest) here)
      (λ v. guard_or k cb below loads h rest (eval p input h.cells b) v there (expr_runs b (k + 1) below (loads ++ v.loads) h (Plain Truth ∷ rest) right))
