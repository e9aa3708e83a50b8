-- Statements of a lawful text are in scope.
use Rattle.std.proofs.Common.{◌≡◌, refl, sym, ap, ◌∙◌, subst, ℕ, ◌≤◌, ◌==◌, Bool, true, false, ◌&&◌, ◌||◌, if◌then◌else◌, List, [], ◌∷◌, ◌++◌, length, None}
use Rattle.std.proofs.Common.{slice_get, arith}
use Rattle.std.proofs.lemmas.List.{length-map}
use Rattle.dp_base.specs.declared.SiteId.{SiteId}
use Rattle.dp_tree.specs.declared.Expr.{Expr}
use Rattle.dp_tree.specs.declared.Program.{Program}
use Rattle.dp_tree.specs.declared.Stmt.{Stmt}
use Rattle.dp_tree.specs.declared.Stmt.TheVariants as code
use Rattle.dp_tree.specs.declared.SiteKind.TheVariants as kind
use Rattle.dp_tree.specs.declared.raw.RawStmt.{RawStmt, Row_of-RawStmt, end_of-RawStmt, more_of-RawStmt}
use Rattle.dp_tree.specs.declared.raw.RawStmt.TheVariants as raw
use Rattle.dp_tree.specs.Functions.{params_in}
use Rattle.dp_tree.specs.Scoping.{sees, knows, is_declared_in, seen_behind, in_scope, rows_in_scope, all_in_scope}
use Rattle.dp_check.specs.declared.place.Place.{Place}
use Rattle.dp_check.specs.Names.{named}
use Rattle.dp_check.specs.Offence.{Assigns, AssignsElement, Calls, first_offence}
use Rattle.dp_check.specs.Place.{Site, parts, parts_in, parts_all, local_count, place_passed, sited, with_scalar, place_after, after_in, place_after_all}
use Rattle.dp_check.specs.Tokens.{token, expr_tokens, args_tokens, tokens, tokens_in, tokens_all}
use Rattle.dp_check.specs.Resolved.{variable_of, function_of, resolved_expr, next_site, next_variable, resolved, resolved_in, resolved_all}
use Rattle.dp_check.proofs.PlaceLemmas.{after_variable, after_in_variable, local_count-append}
use Rattle.dp_tree.proofs.SitesOf.{opened_statement}
use Rattle.dp_check.proofs.BoolLemmas.{both_true, halves}
use Rattle.dp_check.proofs.DeclaredLemmas.{Declared, declared_front, declared_back}
use Rattle.dp_check.proofs.KnownLemmas.{seen_behind_all, known_behind, found, knows_expr, knows_args}
use Rattle.dp_check.proofs.Visible.{At, assigned, at_declared, at_passed, below_still, called, lawful_first, lawful_parts, stored, unseen}

-- ---- each form of statement

module _ (p : Program) (r n : ℕ) where
  pub rows_hidden : (visible : List ℕ) (xs : List Stmt) → rows_in_scope p r n visible (Rattle.dp_tree.specs.declared.Stmt.TheBlock.hidden-the_row-Stmt-0 xs)
      ≡ all_in_scope p r n visible xs
  unfolding opened_statement
  rows_hidden visible [] = refl
  rows_hidden visible (x ∷ xs) = ap (λ b. in_scope p r n visible x && b) (rows_hidden (seen_behind visible x) xs)

  scope-If : (visible : List ℕ) (site : SiteId) (cond : Expr) (a b : List Stmt) → in_scope p r n visible (code.If site cond a b)
      ≡ (knows visible cond && (all_in_scope p r n visible a && all_in_scope p r n visible b))
  unfolding opened_statement
  scope-If visible site cond a b = λ i. knows visible cond && (rows_hidden visible a i && rows_hidden visible b i)

  scope-While : (visible : List ℕ) (site : SiteId) (cond : Expr) (a : List Stmt) →
      in_scope p r n visible (code.While site cond a) ≡ (knows visible cond && all_in_scope p r n visible a)
  unfolding opened_statement
  scope-While visible site cond a = λ i. knows visible cond && rows_hidden visible a i

behind-If : (visible : List ℕ) (site : SiteId) (cond : Expr) (a b : List Stmt) → seen_behind visible (code.If site cond a b) ≡ visible
unfolding opened_statement
behind-If visible site cond a b = refl

behind-While : (visible : List ℕ) (site : SiteId) (cond : Expr) (a : List Stmt) → seen_behind visible (code.While site cond a) ≡ visible
unfolding opened_statement
behind-While visible site cond a = refl

-- Statements are in scope, and so is what stands behind them.
pub record Here (p : Program) (r n : ℕ) (visible : List ℕ) (next : Place) (all : List Stmt) : Type 0 where
  pub scoped : all_in_scope p r n visible all ≡ true
  pub behind : At p n (seen_behind_all visible all) next

pub seen_both : (visible : List ℕ) (a b : List Stmt) → seen_behind_all visible (a ++ b) ≡ seen_behind_all (seen_behind_all visible a) b
seen_both visible [] b = refl
seen_both visible (x ∷ a) b = seen_both (seen_behind visible x) a b

pub scoped_both : (p : Program) (r n : ℕ) (visible : List ℕ) (a b : List Stmt) → all_in_scope p r n visible a ≡ true →
    all_in_scope p r n (seen_behind_all visible a) b ≡ true
    → all_in_scope p r n visible (a ++ b) ≡ true
scoped_both p r n visible [] b h k = k
scoped_both p r n visible (x ∷ a) b h k =
    let m = halves (in_scope p r n visible x) (all_in_scope p r n (seen_behind visible x) a) h in
    both_true m.0 (scoped_both p r n (seen_behind visible x) a b m.1 k)

module _ {p : Program} {r n : ℕ} {visible : List ℕ} where
  -- statements, one after the other
  pub here_both : {mid next : Place} {a b : List Stmt} → Here p r n visible mid a → Here p r n (seen_behind_all visible a) next b →
      Here p r n visible next (a ++ b)
  here_both {mid} {next} {a} {b} h k = record {
    scoped = scoped_both p r n visible a b h.scoped k.scoped;
    behind = subst (λ ys. At p n ys next) (sym (seen_both visible a b)) k.behind;
  }

  -- one statement
  pub here_one : {next : Place} {s : Stmt} → in_scope p r n visible s ≡ true → At p n (seen_behind visible s) next → Here p r n visible next (s ∷ [])
  here_one h k = record { scoped = both_true h refl; behind = k }

-- at a place with the same names, behind statements and whatever their names are
pub at_behind : {p : Program} {n : ℕ} {visible : List ℕ} {q : Place} (all : List Stmt) (next : Place) → At p n visible q →
    At p n (seen_behind_all visible all) next
    → (v s : ℕ) → next.variable ≤ v → At p n (seen_behind_all visible all) (record { names = q.names; variable = v; site = s })
at_behind {p} {n} {visible} {q} all next here behind v s h = record {
  known = known_behind p n visible q.names all here.known;
  below = below_still next.variable v h (seen_behind_all visible all) behind.below;
}

or_right : (a : Bool) {b : Bool} → b ≡ true → (a || b) ≡ true
or_right true h = refl
or_right false h = h

module _ (p : Program) (r n : ℕ) where
  -- a loop whose body ends with a step; the step doesn't see the body's names
  pub loop_scoped : (q : Place) (visible : List ℕ) (x y : List Stmt) (inside : Place) (v w : ℕ) → At p n visible q →
      Here p r n visible inside x → inside.variable ≤ v
      → (At p n (seen_behind_all visible x) (record { names = q.names; variable = v; site = w }) → all_in_scope p r n (seen_behind_all visible x) y ≡ true)
      → all_in_scope p r n visible (x ++ y) ≡ true
  loop_scoped q visible x y inside v w here body h step = scoped_both p r n visible x y body.scoped (step (at_behind x inside here body.behind v w h))

  mutual
    pub stmt_scoped : (q : Place) (visible : List ℕ) (s : RawStmt) → At p n visible q → Declared p.vars r q.variable (local_count (parts s)) →
        first_offence (tokens q s) ≡ None
        → Here p r n visible (place_after q s) (resolved q s)
    stmt_scoped q visible (raw.Declare line name value) here declared lawful = here_one
        (both_true (knows_expr p n visible q.names here.known value)
        (or_right (sees visible (next_variable q)) (declared q.variable (omega arith) (omega arith))))
        (subst (λ ys. At p n ys (with_scalar (sited q) name)) (ap (λ b. if b then visible else q.variable ∷ visible)
        (sym (unseen q.variable visible here.below)))
        (at_declared name (record { known = here.known; below = here.below })))
    stmt_scoped q visible (raw.Assign name value) here declared lawful =
        let k = lawful_first (token q.names Assigns name) (expr_tokens q.names value) lawful in
        let x = variable_of (named q.names name.text) in
        let known = assigned p n visible name.line (named q.names name.text) (found p n visible q.names name.text here.known) k.0 in
        here_one (both_true (knows_expr p n visible q.names here.known value) (ap (λ b. b || is_declared_in r (slice_get p.vars x.0)) known))
        (subst (λ ys. At p n ys (place_after q (raw.Assign name value))) (ap (λ b. if b then visible else x.0 ∷ visible) (sym known))
        (at_passed (parts (raw.Assign name value)) here))
    stmt_scoped q visible (raw.Store name index value) here declared lawful =
        let k = lawful_first (token q.names AssignsElement name) (expr_tokens q.names index ++ expr_tokens q.names value) lawful in
        here_one (both_true (stored p n visible name.line (named q.names name.text) (found p n visible q.names name.text here.known) k.0)
        (both_true (knows_expr p n visible q.names here.known index) (knows_expr p n visible q.names here.known value)))
        (at_passed (parts (raw.Store name index value)) here)
    stmt_scoped q visible (raw.Call name args) here declared lawful =
        let k = lawful_first (token q.names (Calls (length args)) name) (args_tokens q.names args) lawful in
        let f = called p n visible name.line (named q.names name.text) (length args) (found p n visible q.names name.text here.known) k.0 in
        let count = params_in (slice_get p.functions (function_of (named q.names name.text))) in
        here_one (both_true f.0 (both_true (knows_args p n visible q.names here.known args)
        (ap (λ m. m == length count) (length-map args (resolved_expr q.names)) ∙ f.1)))
        (at_passed (parts (raw.Call name args)) here)
    stmt_scoped q visible (raw.Print line value) here declared lawful =
        here_one (knows_expr p n visible q.names here.known value) (at_passed (parts (raw.Print line value)) here)
    stmt_scoped q visible (raw.Break line cond) here declared lawful =
        here_one (knows_expr p n visible q.names here.known cond) (at_passed (parts (raw.Break line cond)) here)
    stmt_scoped q visible (raw.If' line cond i a j b) here declared lawful =
        let c = resolved_expr q.names cond in let x = resolved_in (sited q) a in let later = place_passed (sited q) (parts_in a) in
        let y = resolved_in later b in
        let k = lawful_parts (expr_tokens q.names cond) (tokens_in (sited q) a ++ tokens_in later b) lawful in
        let m = lawful_parts (tokens_in (sited q) a) (tokens_in later b) k.1 in
        let count = local_count-append (parts_in a) (parts_in b) in
        let first : At p n visible (sited q) = record { known = here.known; below = here.below } in
        here_one (scope-If p r n visible (next_site q) c x y ∙ both_true (knows_expr p n visible q.names here.known cond)
        (both_true (row_scoped (sited q) visible a first (declared_front p.vars r q.variable (local_count (parts_in a)) (local_count (parts_in b)) _ count
        declared) m.0).scoped
        (row_scoped later visible b (at_passed (parts_in a) first) (declared_back p.vars r q.variable (local_count (parts_in a)) (local_count (parts_in b)) _ _
        count refl declared) m.1).scoped))
        (subst (λ ys. At p n ys (place_passed q (parts (raw.If' line cond i a j b)))) (sym (behind-If visible (next_site q) c x y))
        (at_passed (parts (raw.If' line cond i a j b)) here))
    stmt_scoped q visible (raw.While' line marked cond i body) here declared lawful =
        let c = resolved_expr q.names cond in let x = resolved_in (sited q) body in
        let k = lawful_parts (expr_tokens q.names cond) (tokens_in (sited q) body) lawful in
        here_one (scope-While p r n visible (next_site q) c x ∙ both_true (knows_expr p n visible q.names here.known cond)
        (row_scoped (sited q) visible body (record { known = here.known; below = here.below }) declared k.1).scoped)
        (subst (λ ys. At p n ys (place_passed q (parts (raw.While' line marked cond i body)))) (sym (behind-While visible (next_site q) c x))
        (at_passed (parts (raw.While' line marked cond i body)) here))
    stmt_scoped q visible (raw.For' line marked i first cond j step m body) here declared lawful =
        let start = after_in q first in let later = place_passed (sited start) (parts_in body) in
        let w = resolved_in q first in let x = resolved_in (sited start) body in let y = resolved_in later step in let c = resolved_expr start.names cond in
        let a = local_count (parts_in first) in let b = local_count (parts_in body) in let d = local_count (parts_in step) in
        let whole = local_count-append (parts_in first) (Site line kind.While ∷ (parts_in body ++ parts_in step)) in
        let inner = local_count-append (parts_in body) (parts_in step) in
        let rest : Declared p.vars r start.variable (local_count (parts_in body ++ parts_in step)) =
        declared_back p.vars r q.variable a (local_count (parts_in body ++ parts_in step)) _ start.variable whole (after_in_variable q first) declared in
        let k = lawful_parts (tokens_in q first) (expr_tokens start.names cond ++ (tokens_in later step ++ tokens_in (sited start) body)) lawful in
        let l = lawful_parts (expr_tokens start.names cond) (tokens_in later step ++ tokens_in (sited start) body) k.1 in
        let o = lawful_parts (tokens_in later step) (tokens_in (sited start) body) l.1 in
        let before = row_scoped q visible first here (declared_front p.vars r q.variable a (local_count (parts_in body ++ parts_in step)) _
        whole declared) k.0 in
        let seen = seen_behind_all visible w in
        let at : At p n seen (sited start) = record { known = before.behind.known; below = before.behind.below } in
        let inside = row_scoped (sited start) seen body at (declared_front p.vars r start.variable b d _ inner rest) o.1 in
        let stepped = loop_scoped (sited start) seen x y (after_in (sited start) body) later.variable later.site at inside
        (omega (arith, after_in_variable (sited start) body))
        (λ at_step. (row_scoped later (seen_behind_all seen x) step at_step (declared_back p.vars r start.variable b d _ _ inner refl rest) o.0).scoped) in
        here_both before (here_one (scope-While p r n seen (next_site start) c (x ++ y)
        ∙ both_true (knows_expr p n seen start.names before.behind.known cond) stepped)
        (subst (λ ys. At p n ys (place_passed q (parts (raw.For' line marked i first cond j step m body))))
        (sym (behind-While seen (next_site start) c (x ++ y)))
        (at_behind w start here before.behind _ _ (omega (arith, after_in_variable q first, whole)))))

    row_scoped : {k : _} (q : Place) (visible : List ℕ) (row : Row_of-RawStmt k) → At p n visible q → Declared p.vars r q.variable (local_count (parts_in row))
        → first_offence (tokens_in q row) ≡ None → Here p r n visible (after_in q row) (resolved_in q row)
    row_scoped q visible end_of-RawStmt here declared lawful = record { scoped = refl; behind = here }
    row_scoped q visible (more_of-RawStmt s rest) here declared lawful =
        let k = lawful_parts (tokens q s) (tokens_in (place_after q s) rest) lawful in
        let count = local_count-append (parts s) (parts_in rest) in
        let one = stmt_scoped q visible s here (declared_front p.vars r q.variable (local_count (parts s)) (local_count (parts_in rest)) _
        count declared) k.0 in
        here_both one (row_scoped (place_after q s) (seen_behind_all visible (resolved q s)) rest one.behind
        (declared_back p.vars r q.variable (local_count (parts s)) (local_count (parts_in rest)) _ _ count (after_variable q s) declared) k.1)

  pub all_scoped : (q : Place) (visible : List ℕ) (all : List RawStmt) → At p n visible q → Declared p.vars r q.variable (local_count (parts_all all))
      → first_offence (tokens_all q all) ≡ None → Here p r n visible (place_after_all q all) (resolved_all q all)
  all_scoped q visible [] here declared lawful = record { scoped = refl; behind = here }
  all_scoped q visible (s ∷ rest) here declared lawful =
      let k = lawful_parts (tokens q s) (tokens_all (place_after q s) rest) lawful in
      let count = local_count-append (parts s) (parts_all rest) in
      let one = stmt_scoped q visible s here (declared_front p.vars r q.variable (local_count (parts s)) (local_count (parts_all rest)) _ count declared) k.0 in
      here_both one (all_scoped (place_after q s) (seen_behind_all visible (resolved q s)) rest one.behind
      (declared_back p.vars r q.variable (local_count (parts s)) (local_count (parts_all rest)) _ _ count (after_variable q s) declared) k.1)
