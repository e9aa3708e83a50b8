-- The text of an expanded program names only variables of its own.
use Rattle.std.proofs.Common.{◌≡◌, inl, inr, refl, sym, ap, ◌∙◌, ℕ, ◌<◌, ◌≤◌, Bool, true, ◌&&◌, List, ◌∷◌, ◌++◌, length, Option, Some, None, nat_lt, arith}
use Rattle.std.proofs.Common.{lt-ltb}
use Rattle.std.specs.List.{list_all}
use Rattle.std.proofs.lemmas.List.Folds.{list_all-append}
use Rattle.dp_base.specs.declared.VarId.{VarId}
use Rattle.dp_tree.specs.declared.Expr.{Expr, end_of-Expr, more_of-Expr}
use Rattle.dp_tree.specs.declared.Expr.TheVariants as tree
use Rattle.dp_tree.specs.declared.Stmt.{Stmt, out-Stmt, roll-Stmt, roll-out-Stmt}
use Rattle.dp_tree.specs.declared.Stmt.TheViews.{rolls-Assign, rolls-Store, rolls-Print, rolls-If, rolls-While, rolls-Region, rolls-Break, rolls-Call}
use Rattle.dp_tree.specs.declared.Stmt.TheOpen.{Stmt-F, Assign, Store, Print, If, While, Region, Break, Call}
use Rattle.dp_tree.specs.declared.Program.{Program}
use Rattle.dp_tree.specs.Checked.{IsChecked}
use Rattle.dp_tree.specs.Inlined.{expr_within, names_within, stmt_within, rows_within}
use Rattle.dp_tree.specs.Scoping.{sees, knows, global_numbers, seen_behind_params}
use Rattle.dp_calls.specs.Renaming.{Renamed, named_in, target_or, target_of, renamed}
use Rattle.dp_calls.specs.Expand.{expand}
use Rattle.dp_tree.proofs.EvalLemmas.{opened}
use Rattle.dp_tree.proofs.Heads.{everywhere_hidden, opened_statement, and_true, and_make}
use Rattle.dp_calls.proofs.Relation.{Env, file_count, IsEnv, Declares, known, new, Binds, bound, binds, Acts, assigns, stores, prints, branches, loops, marks}
use Rattle.dp_calls.proofs.Relation.{One, act, call, Inside, stays, exits, Body, finished, onward, Block, done, more}
use Rattle.dp_calls.proofs.SameValues.{sees_one}
use Rattle.dp_calls.proofs.Named.{Seen}
use Rattle.dp_calls.proofs.SameMeanings.{main_is_env, files_below, made, block}

-- an expression names such variables, where each visible one stands for one of them
module _ (n : ℕ) (names : List Renamed) (visible : List ℕ) (below : (x : VarId) → sees visible x ≡ true → nat_lt (target_of names x).0 n ≡ true) where
  pub renamed_within : (v : Expr) → knows visible v ≡ true → expr_within n (renamed names v) ≡ true
  unfolding opened
  renamed_within (tree.Input' _ (more_of-Expr a end_of-Expr)) k = renamed_within a k
  renamed_within (tree.Scalar x) k = below x k
  renamed_within (tree.Element' x _ (more_of-Expr a end_of-Expr)) k =
      let both = and_true (sees visible x) (knows visible a) k in
      and_make (nat_lt (target_of names x).0 n) (expr_within n (renamed names a)) (below x both.0) (renamed_within a both.1)
  renamed_within (tree.Unary' op _ (more_of-Expr a end_of-Expr)) k = renamed_within a k
  renamed_within (tree.Binary' op _ (more_of-Expr a end_of-Expr) _ (more_of-Expr b end_of-Expr)) k =
      let both = and_true (knows visible a) (knows visible b) k in
      and_make (expr_within n (renamed names a)) (expr_within n (renamed names b)) (renamed_within a both.0) (renamed_within b both.1)
  renamed_within (tree.And' _ (more_of-Expr a end_of-Expr) _ (more_of-Expr b end_of-Expr)) k =
      let both = and_true (knows visible a) (knows visible b) k in
      and_make (expr_within n (renamed names a)) (expr_within n (renamed names b)) (renamed_within a both.0) (renamed_within b both.1)
  renamed_within (tree.Or' _ (more_of-Expr a end_of-Expr) _ (more_of-Expr b end_of-Expr)) k =
      let both = and_true (knows visible a) (knows visible b) k in
      and_make (expr_within n (renamed names a)) (expr_within n (renamed names b)) (renamed_within a both.0) (renamed_within b both.1)
  renamed_within _ k = refl

-- statements by their heads
module _ (n : ℕ) where
  abbrev pub all_within : List Stmt → Bool
  all_within statements = list_all (stmt_within n) statements

  abbrev hidden_within : List Stmt → Bool
  hidden_within xs = rows_within n (Rattle.dp_tree.specs.declared.Stmt.TheBlock.hidden-the_row-Stmt-0 xs)

  within_hidden : (xs : List Stmt) → hidden_within xs ≡ all_within xs
  within_hidden xs = everywhere_hidden (names_within n) xs

  abbrev pub within_at : Stmt-F Stmt → Bool
  within_at (Assign site x e) = nat_lt x.0 n && expr_within n e
  within_at (Store site x index e) = nat_lt x.0 n && (expr_within n index && expr_within n e)
  within_at (Print site e) = expr_within n e
  within_at (If site cond a b) = expr_within n cond && (all_within a && all_within b)
  within_at (While site cond a) = expr_within n cond && all_within a
  within_at (Region r site cond a) = expr_within n cond && all_within a
  within_at (Break site cond) = expr_within n cond
  within_at (Call f line args) = list_all (expr_within n) args

  within_roll : (h : Stmt-F Stmt) → stmt_within n (roll-Stmt h) ≡ within_at h
  unfolding opened_statement
  within_roll (Assign site x e) = ap (stmt_within n) (rolls-Assign site x e)
  within_roll (Store site x index e) = ap (stmt_within n) (rolls-Store site x index e)
  within_roll (Print site e) = ap (stmt_within n) (rolls-Print site e)
  within_roll (If site cond a b) =
      ap (stmt_within n) (rolls-If site cond a b)
      ∙ ap (λ (u : Bool). expr_within n cond && (u && hidden_within b)) (within_hidden a)
      ∙ ap (λ (u : Bool). expr_within n cond && (all_within a && u)) (within_hidden b)
  within_roll (While site cond a) = ap (stmt_within n) (rolls-While site cond a) ∙ ap (λ (u : Bool). expr_within n cond && u) (within_hidden a)
  within_roll (Region r site cond a) = ap (stmt_within n) (rolls-Region r site cond a) ∙ ap (λ (u : Bool). expr_within n cond && u) (within_hidden a)
  within_roll (Break site cond) = ap (stmt_within n) (rolls-Break site cond)
  within_roll (Call f line args) = ap (stmt_within n) (rolls-Call f line args)

  pub within_head : (t : Stmt) (h : Stmt-F Stmt) → out-Stmt t ≡ h → within_at h ≡ true → stmt_within n t ≡ true
  within_head t h is holds = ap (stmt_within n) (sym (roll-out-Stmt t)) ∙ within_roll (out-Stmt t) ∙ ap within_at is ∙ holds

  pub within_join : (a b : List Stmt) → all_within a ≡ true → all_within b ≡ true → all_within (a ++ b) ≡ true
  within_join a b h k = list_all-append (stmt_within n) a b ∙ and_make (all_within a) (all_within b) h k

module _ (p q : Program) (files : file_count p ≤ length q.vars) where
  abbrev count : ℕ
  count = length q.vars

  abbrev Below : VarId → Type 0
  Below x = nat_lt x.0 count ≡ true

  named_below : (e : Env) (env : IsEnv p q e) (x : VarId) (y : ℕ) → named_in e.names x.0 ≡ Some y → Below (target_of e.names x)
  named_below e env x y named =
      let less : y < count = let high = (env.target x.0 y named).1 in omega (arith, high, env.within) in
      ap (λ (o : Option ℕ). nat_lt (target_or o x.0).0 count) named ∙ lt-ltb y count less

  -- a file-scope variable keeps its number
  file_below : (e : Env) (env : IsEnv p q e) (x : VarId) (o : Option ℕ) → named_in e.names x.0 ≡ o → x.0 < file_count p → Below (target_of e.names x)
  file_below e env x None missing less =
      let small : x.0 < count = omega (arith, less, files) in
      ap (λ (o : Option ℕ). nat_lt (target_or o x.0).0 count) missing ∙ lt-ltb x.0 count small
  file_below e env x (Some y) named less = named_below e env x y named

  target_below : (e : Env) (env : IsEnv p q e) (visible : List ℕ) → Seen p visible e.names → (x : VarId) → sees visible x ≡ true → Below (target_of e.names x)
  target_below e env visible seen x at = elim (seen x at) [
    | inl less ↦ file_below e env x (named_in e.names x.0) refl less
    | inr named ↦ named_below e env x named.0 named.1
  ]

  value_within : (e : Env) (env : IsEnv p q e) (visible : List ℕ) → Seen p visible e.names → (v : Expr) → knows visible v ≡ true →
      expr_within count (renamed e.names v) ≡ true
  value_within e env visible seen v k = renamed_within count e.names visible (target_below e env visible seen) v k

  -- one more variable with a name
  seen_one : (names : List Renamed) (visible : List ℕ) (x : VarId) (y : ℕ) → named_in names x.0 ≡ Some y → Seen p visible names → Seen p (x.0 ∷ visible) names
  seen_one names visible x y named seen z at = elim (sees_one x.0 visible z at) [
    | inl is ↦ inr (y, ap (λ (k : ℕ). named_in names k) (sym is) ∙ named)
    | inr before ↦ seen z before
  ]

  declared_within : {e : Env} {visible behind : List ℕ} {x : VarId} → IsEnv p q e → Seen p visible e.names → Declares p q e visible x behind →
      Below (target_of e.names x) × Seen p behind e.names
  declared_within {e = e} {visible = visible} {x = x} env seen (known at) = (target_below e env visible seen x at, seen)
  declared_within {e = e} {visible = visible} {x = x} env seen (new y named) = (named_below e env x y named, seen_one e.names visible x y named seen)

  -- the parameters of a call have names in it
  params_seen : {e g : Env} {visible : List ℕ} {line : ℕ} {params : List VarId} {args : List Expr} {code : List Stmt} →
      Binds p q e g visible line params args code →
      (inside : List ℕ) → Seen p inside g.names → Seen p (seen_behind_params inside params) g.names
  params_seen bound inside seen = seen
  params_seen {g = g} (binds {x = x} {y = y} _ _ _ named later) inside seen = params_seen later (x.0 ∷ inside) (seen_one g.names inside x y named seen)

  binds_within : {e g : Env} {visible : List ℕ} {line : ℕ} {params : List VarId} {args : List Expr} {code : List Stmt} → IsEnv p q e → IsEnv p q g →
      Seen p visible e.names →
      Binds p q e g visible line params args code → all_within count code ≡ true
  binds_within env inner seen bound = refl
  binds_within {e = e} {g = g} {visible = visible} env inner seen (binds {x = x} {a = a} {s = s} {site = site} {y = y} {code = code} is _ knows_a named later) =
      let here = and_make (nat_lt (target_of g.names x).0 count) (expr_within count (renamed e.names a)) (named_below g inner x y named)
      (value_within e env visible seen a knows_a) in
      and_make (stmt_within count s) (all_within count code) (within_head count s (Assign site (target_of g.names x) (renamed e.names a)) is here)
      (binds_within env inner seen later)

  module _ (globals : (x : VarId) → sees (global_numbers p) x ≡ true → x.0 < file_count p) where
    mutual
      acts_within : {e : Env} {visible behind : List ℕ} {s t : Stmt} → IsEnv p q e → Seen p visible e.names → Acts p q e visible behind s t →
          (stmt_within count t ≡ true) × Seen p behind e.names
      acts_within {e = e} {visible = visible} {t = t} env seen (assigns {here = here} {x = x} {v = v} _ is _ k declares) =
          let declared = declared_within env seen declares in (
            within_head count t (Assign here (target_of e.names x) (renamed e.names v)) is
                (and_make (nat_lt (target_of e.names x).0 count) (expr_within count (renamed e.names v)) declared.0 (value_within e env visible seen v k)),
            declared.1,
          )
      acts_within {e = e} {visible = visible} {t = t} env seen (stores {here = here} {x = x} {i = i} {v = v} _ is _ j k at) =
          let values = and_make (expr_within count (renamed e.names i)) (expr_within count (renamed e.names v)) (value_within e env visible seen i j)
          (value_within e env visible seen v k) in (
            within_head count t (Store here (target_of e.names x) (renamed e.names i) (renamed e.names v)) is
                (and_make (nat_lt (target_of e.names x).0 count) (expr_within count (renamed e.names i) && expr_within count (renamed e.names v))
                (target_below e env visible seen x at) values),
            seen,
          )
      acts_within {e = e} {visible = visible} {t = t} env seen (prints {here = here} {v = v} _ is _ k) =
          (within_head count t (Print here (renamed e.names v)) is (value_within e env visible seen v k), seen)
      acts_within {e = e} {visible = visible} {t = t} env seen (branches {here = here} {v = v} {c = c} {d = d} _ is _ k one other) =
          let parts = and_make (all_within count c) (all_within count d) (block_within env seen one) (block_within env seen other) in (
            within_head count t (If here (renamed e.names v) c d) is
                (and_make (expr_within count (renamed e.names v)) (all_within count c && all_within count d) (value_within e env visible seen v k) parts),
            seen,
          )
      acts_within {e = e} {visible = visible} {t = t} env seen (loops {here = here} {v = v} {c = c} _ is _ k body) = (
        within_head count t (While here (renamed e.names v) c) is
            (and_make (expr_within count (renamed e.names v)) (all_within count c) (value_within e env visible seen v k) (block_within env seen body)),
        seen,
      )
      acts_within {e = e} {visible = visible} {t = t} env seen (marks {r = r} {here = here} {v = v} {c = c} _ is _ k body _ _) = (
        within_head count t (Region r here (renamed e.names v) c) is
            (and_make (expr_within count (renamed e.names v)) (all_within count c) (value_within e env visible seen v k) (body_within env seen body)),
        seen,
      )

      one_within : {e : Env} {visible behind : List ℕ} {s : Stmt} {code : List Stmt} → IsEnv p q e → Seen p visible e.names → One p q e visible behind s code →
          (all_within count code ≡ true) × Seen p behind e.names
      one_within env seen (act {t = t} a) = let made_of = acts_within env seen a in (and_make (stmt_within count t) true made_of.0 refl, made_of.1)
      one_within {e = e} env seen (call {g = g} {f = f} {binding = binding} {body = body} _ inner _ _ pairs inside is) =
          let behind_params = params_seen pairs (global_numbers p) (λ x at. inl (globals x at)) in
          (ap (all_within count) is ∙ within_join count binding body (binds_within env inner seen pairs) (block_within inner behind_params inside), seen)

      inside_within : {e : Env} {visible behind : List ℕ} {s : Stmt} {code : List Stmt} → IsEnv p q e → Seen p visible e.names →
          Inside p q e visible behind s code → (all_within count code ≡ true) × Seen p behind e.names
      inside_within env seen (stays one) = one_within env seen one
      inside_within {e = e} {visible = visible} env seen (exits {t = t} tries) = (
        and_make (stmt_within count t) true (within_head count t (Break tries.here (renamed e.names tries.cond)) tries.target
            (value_within e env visible seen tries.cond tries.known)) refl,
        seen,
      )

      body_within : {e : Env} {visible : List ℕ} {statements code : List Stmt} → IsEnv p q e → Seen p visible e.names → Body p q e visible statements code →
          all_within count code ≡ true
      body_within env seen finished = refl
      body_within env seen (onward {first = first} {text = text} one rest _ _ is) =
          let here = inside_within env seen one in
          ap (all_within count) is ∙ within_join count first text here.0 (body_within env here.1 rest)

      pub block_within : {e : Env} {visible : List ℕ} {statements code : List Stmt} → IsEnv p q e → Seen p visible e.names →
          Block p q e visible statements code → all_within count code ≡ true
      block_within env seen done = refl
      block_within env seen (more {first = first} {text = text} one rest is) =
          let here = one_within env seen one in
          ap (all_within count) is ∙ within_join count first text here.0 (block_within env here.1 rest)

pub expanded_is_within : (p : Program) → IsChecked p → list_all (stmt_within (length (expand p).vars)) (expand p).main ≡ true
expanded_is_within p checked =
    block_within p (expand p) ((made p checked).lies.above) (files_below p checked) (main_is_env p checked)
    (λ x at. inl (files_below p checked x at)) (block p checked)
