-- The statements of `main` are in scope, each region's locals in that region.
use Rattle.std.proofs.Common.{◌≡◌, refl, sym, ap, ◌∙◌, subst, ℕ, suc, ◌+◌, ◌<◌, Bool, true, false, ◌&&◌, if◌then◌else◌, List, [], ◌∷◌, ◌++◌, length}
use Rattle.std.proofs.Common.{length-append, append_assoc, None, arith}
use Rattle.dp_base.specs.declared.SiteId.{SiteId}
use Rattle.dp_tree.specs.declared.Expr.{Expr}
use Rattle.dp_tree.specs.declared.Program.{Program}
use Rattle.dp_tree.specs.declared.Stmt.{Stmt}
use Rattle.dp_tree.specs.declared.Stmt.TheVariants as code
use Rattle.dp_tree.specs.declared.VarInfo.{VarInfo}
use Rattle.dp_tree.specs.declared.VarScope.{VarScope}
use Rattle.dp_tree.specs.declared.VarScope.TheVariants.{Outer, Body}
use Rattle.dp_tree.specs.declared.raw.RawExpr.{RawExpr}
use Rattle.dp_tree.specs.declared.raw.RawStmt.{RawStmt, out-RawStmt, roll-RawStmt, roll-out-RawStmt}
use Rattle.dp_tree.specs.declared.raw.RawStmt.TheVariants as raw
use Rattle.dp_tree.specs.declared.raw.RawStmt.TheVariants.{rolls-While, rolls-For}
use Rattle.dp_tree.specs.declared.raw.RawStmt.TheOpen.{RawStmt-F}
use Rattle.dp_tree.specs.declared.raw.RawStmt.TheOpen as open_form
use Rattle.dp_tree.specs.Scoping.{knows, is_scope_in, seen_behind, in_scope, all_in_scope}
use Rattle.dp_check.specs.declared.place.Place.{Place}
use Rattle.dp_check.specs.Offence.{first_offence}
use Rattle.dp_check.specs.Place.{TextPart, Site, Local, parts, parts_all, local_count, place_passed, sited, place_after, place_after_all}
use Rattle.dp_check.specs.Tokens.{expr_tokens, tokens, tokens_all}
use Rattle.dp_check.specs.Resolved.{resolved, resolved_all, resolved_expr, stepped_region, resolved_top, resolved_main, next_site, region_at, is_marked_loop}
use Rattle.dp_check.specs.Tables.{laid, locals_of, loop_parts, outside_at, within_at, outside, within, top_locals, after_top, main_locals}
use Rattle.dp_tree.proofs.SitesOf.{opened_statement}
use Rattle.dp_check.proofs.PlaceLemmas.{opened, local_count-append, after_variable, after_all_variable, after-While, after-For}
use Rattle.dp_check.proofs.StatementLemmas.{tokens_hidden}
use Rattle.dp_check.proofs.RegionLemmas.{tokens_For}
use Rattle.dp_check.proofs.TableLemmas.{parts-While, parts-For, local_count-split}
use Rattle.dp_check.proofs.BoolLemmas.{both_true}
use Rattle.dp_check.proofs.DeclaredLemmas.{Declared, declared_front, declared_back, declared_in_table, body_scope}
use Rattle.dp_check.proofs.KnownLemmas.{seen_behind_all, knows_expr}
use Rattle.dp_check.proofs.Visible.{At, at_passed, lawful_parts}
use Rattle.dp_check.proofs.ScopeLemmas.{Here, here_both, here_one, scoped_both, at_behind, rows_hidden, loop_scoped, stmt_scoped, all_scoped}

scope-Region : (p : Program) (r n : ℕ) (visible : List ℕ) (k : ℕ) (site : SiteId) (cond : Expr) (a : List Stmt)
    → in_scope p r n visible (code.Region k site cond a) ≡ (knows visible cond && all_in_scope p k n visible a)
unfolding opened_statement
scope-Region p r n visible k site cond a = λ i. knows visible cond && rows_hidden p k n visible a i

behind-Region : (visible : List ℕ) (k : ℕ) (site : SiteId) (cond : Expr) (a : List Stmt) → seen_behind visible (code.Region k site cond a) ≡ visible
unfolding opened_statement
behind-Region visible k site cond a = refl

tokens-While : (q : Place) (line : ℕ) (marked : Bool) (cond : RawExpr) (body : List RawStmt) → tokens q (raw.While line marked cond body) ≡ expr_tokens q.names
    cond ++ tokens_all (sited q) body
unfolding opened
tokens-While q line marked cond body = λ i. expr_tokens q.names cond ++ tokens_hidden (sited q) body i

module _ (p : Program) (n : ℕ) where
  -- a region with its own locals
  region_scoped : (q : Place) (k : ℕ) (visible : List ℕ) (s : RawStmt) (line : ℕ) (cond : RawExpr) (body : List RawStmt) →
      s ≡ raw.While line true cond body → At p n visible q
      → Declared p.vars k q.variable (local_count (parts s)) → first_offence (tokens q s) ≡ None
      → Here p 0 n visible (place_after q s) (code.Region k (next_site q) (resolved_expr q.names cond) (resolved_all (sited q) body) ∷ [])
  region_scoped q k visible s line cond body is here declared lawful =
      let c = resolved_expr q.names cond in let x = resolved_all (sited q) body in
      let first : At p n visible (sited q) = record { known = here.known; below = here.below } in
      let l = lawful_parts (expr_tokens q.names cond) (tokens_all (sited q) body)
      (ap first_offence (sym (ap (tokens q) is ∙ tokens-While q line true cond body)) ∙ lawful) in
      let inside : Declared p.vars k q.variable (local_count (parts_all body)) = subst (λ m. Declared p.vars k q.variable m)
      (ap local_count (ap parts is ∙ parts-While line true cond body)) declared in
      here_one (scope-Region p 0 n visible k (next_site q) c x ∙ both_true (knows_expr p n visible q.names here.known cond)
      (all_scoped p k n (sited q) visible body first inside l.1).scoped)
      (subst (λ ys. At p n ys (place_after q s)) (sym (behind-Region visible k (next_site q) c x))
      (subst (λ z. At p n visible z) (sym (ap (place_after q) is ∙ after-While q line true cond body)) (at_passed (parts_all body) first)))

  -- a region with a step, behind its initialiser, which stands outside of it
  stepped_scoped : (q : Place) (k : ℕ) (visible : List ℕ) (s : RawStmt) (line : ℕ) (first : List RawStmt) (cond : RawExpr) (step body : List RawStmt) →
      s ≡ raw.For line true first cond step body
      → At p n visible q → Declared p.vars 0 q.variable (local_count (parts_all first)) → Declared p.vars k (q.variable + local_count (parts_all first))
      (local_count (parts_all body ++ parts_all step))
      → first_offence (tokens q s) ≡ None →
      Here p 0 n visible (place_after q s) (resolved_all q first ++ stepped_region (place_after_all q first) k cond step body ∷ [])
  stepped_scoped q k visible s line first cond step body is here outer inner lawful =
      let start = place_after_all q first in let later = place_passed (sited start) (parts_all body) in
      let w = resolved_all q first in let x = resolved_all (sited start) body in let y = resolved_all later step in let c = resolved_expr start.names cond in
      let b = local_count (parts_all body) in let d = local_count (parts_all step) in
      let both = local_count-append (parts_all body) (parts_all step) in let counted = after_all_variable q first in
      let m = lawful_parts (tokens_all q first) (expr_tokens start.names cond ++ (tokens_all later step ++ tokens_all (sited start) body))
      (ap first_offence (sym (ap (tokens q) is ∙ tokens_For q line true first cond step body)) ∙ lawful) in
      let l = lawful_parts (expr_tokens start.names cond) (tokens_all later step ++ tokens_all (sited start) body) m.1 in
      let o = lawful_parts (tokens_all later step) (tokens_all (sited start) body) l.1 in
      let before = all_scoped p 0 n q visible first here outer m.0 in let seen = seen_behind_all visible w in
      let at : At p n seen (sited start) = record { known = before.behind.known; below = before.behind.below } in
      let rest : Declared p.vars k start.variable (local_count (parts_all body ++ parts_all step)) = subst
      (λ v. Declared p.vars k v (local_count (parts_all body ++ parts_all step))) (sym counted) inner in
      let inside = all_scoped p k n (sited start) seen body at (declared_front p.vars k start.variable b d _ both rest) o.1 in
      let stepped = loop_scoped p k n (sited start) seen x y (place_after_all (sited start) body) later.variable later.site at inside
      (omega (arith, after_all_variable (sited start) body))
      (λ at_step. (all_scoped p k n later (seen_behind_all seen x) step at_step (declared_back p.vars k start.variable b d _ _ both refl rest) o.0).scoped) in
      let whole : (place_after q s).variable ≡ q.variable + local_count (parts_all first ++ loop_parts line step body) =
      after_variable q s ∙ ap (λ ps. q.variable + local_count ps) (ap parts is ∙ parts-For line true first cond step body) in
      let joined = local_count-append (parts_all first) (loop_parts line step body) in
      let end : At p n seen (record { names = q.names; variable = (place_after q s).variable; site = (place_after q s).site }) = at_behind w start here
      before.behind _ _ (omega (arith, counted, whole, joined)) in
      here_both before (here_one (scope-Region p 0 n seen k (next_site start) c (x ++ y)
      ∙ both_true (knows_expr p n seen start.names before.behind.known cond) stepped)
      (subst (λ ys. At p n ys (place_after q s)) (sym (behind-Region seen k (next_site start) c (x ++ y)))
      (subst (λ names. At p n seen (record { names = names; variable = (place_after q s).variable; site = (place_after q s).site }))
      (sym (names_of_for q s line first cond step body is)) end)))
    where
      names_of_for : (q : Place) (s : RawStmt) (line : ℕ) (first : List RawStmt) (cond : RawExpr) (step body : List RawStmt) →
          s ≡ raw.For line true first cond step body → (place_after q s).names ≡ q.names
      names_of_for q s line first cond step body is =
          ap (λ t. (place_after q t).names) is ∙ ap (λ (z : Place). z.names) (after-For q line true first cond step body)

  top_scoped : (q : Place) (k : ℕ) (visible : List ℕ) (s : RawStmt) → At p n visible q → Declared p.vars 0 q.variable (local_count (outside s))
      → Declared p.vars k (q.variable + local_count (outside s)) (local_count (within s)) → first_offence (tokens q s) ≡ None →
      Here p 0 n visible (place_after q s) (resolved_top q k s)
  top_scoped q k visible s here outer inner lawful = by (out-RawStmt s) refl outer inner
    where
      by : (l : RawStmt-F RawStmt) → out-RawStmt s ≡ l → Declared p.vars 0 q.variable (local_count (outside_at l (parts s)))
          → Declared p.vars k (q.variable + local_count (outside_at l (parts s))) (local_count (within_at l (parts s))) →
          Here p 0 n visible (place_after q s) (region_at q k l (resolved q s))
      by (open_form.While line true cond body) e d f =
          let is : s ≡ raw.While line true cond body = sym (roll-out-RawStmt s) ∙ ap roll-RawStmt e ∙ rolls-While line true cond body in
          region_scoped q k visible s line cond body is here (λ j low high. f j (omega arith) (omega arith)) lawful
      by (open_form.For line true first cond step body) e d f =
          let is : s ≡ raw.For line true first cond step body = sym (roll-out-RawStmt s) ∙ ap roll-RawStmt e ∙ rolls-For line true first cond step body in
          stepped_scoped q k visible s line first cond step body is here d f lawful
      by _ e d f = stmt_scoped p 0 n q visible s here d lawful

after_top_above : (k : ℕ) (s : RawStmt) → 0 < k → 0 < after_top k s
after_top_above k s h = by (is_marked_loop s)
  where
    by : (b : Bool) → 0 < (if b then k + 1 else k)
    by true = omega arith
    by false = h

pub length-locals_of : (scope : VarScope) (ps : List TextPart) → length (locals_of scope ps) ≡ local_count ps
length-locals_of scope [] = refl
length-locals_of scope (Site line k ∷ ps) = length-locals_of scope ps
length-locals_of scope (Local name ∷ ps) = ap suc (length-locals_of scope ps)

pub length-top_locals : (r : ℕ) (s : RawStmt) → length (top_locals r s) ≡ local_count (parts s)
length-top_locals r s =
    length-append (locals_of Outer (outside s)) (locals_of (Body r) (within s))
    ∙ (λ i. length-locals_of Outer (outside s) i + length-locals_of (Body r) (within s) i) ∙ local_count-split s

-- the table of variables, of which those of the rest of `main` come behind the ones before
module _ (p : Program) (n : ℕ) (whole later : List VarInfo) (table : p.vars ≡ laid 0 whole) where
  declared_at : (r : ℕ) (scope : VarScope) → is_scope_in r scope ≡ true → (before : List VarInfo) (ps : List TextPart) (others : List VarInfo) (k : ℕ) →
      whole ≡ before ++ (locals_of scope ps ++ others)
      → k ≡ length before → Declared p.vars r k (local_count ps)
  declared_at r scope fits before ps others k placed count =
      subst (λ vars. Declared vars r k (local_count ps)) (sym (table ∙ ap (laid 0) placed)) (declared_in_table r scope fits others before ps k count)

  pub main_scoped : (q : Place) (k : ℕ) (visible : List ℕ) (all : List RawStmt) (before : List VarInfo) → 0 < k →
      whole ≡ before ++ (main_locals k all ++ later) → q.variable ≡ length before
      → At p n visible q → first_offence (tokens_all q all) ≡ None → all_in_scope p 0 n visible (resolved_main q k all) ≡ true
  main_scoped q k visible [] before above split count here lawful = refl
  main_scoped q k visible (s ∷ rest) before above split count here lawful =
      let a = locals_of Outer (outside s) in let b = locals_of (Body k) (within s) in let mine = top_locals k s in
      let others = main_locals (after_top k s) rest in
      let placed : whole ≡ before ++ (mine ++ (others ++ later)) = split ∙ ap (λ xs. before ++ xs) (append_assoc mine others later) in
      let apart : whole ≡ before ++ (a ++ (b ++ (others ++ later))) = placed ∙ ap (λ xs. before ++ xs) (append_assoc a b (others ++ later)) in
      let outer = declared_at 0 Outer refl before (outside s) (b ++ (others ++ later)) q.variable apart count in
      let inner = declared_at k (Body k) (body_scope k above) (before ++ a) (within s) (others ++ later) (q.variable + local_count (outside s))
      (apart ∙ sym (append_assoc before a (b ++ (others ++ later)))) ((λ i. count i + sym (length-locals_of Outer (outside s)) i)
      ∙ sym (length-append before a)) in
      let l = lawful_parts (tokens q s) (tokens_all (place_after q s) rest) lawful in
      let one = top_scoped p n q k visible s here outer inner l.0 in
      let counted : (place_after q s).variable ≡ length (before ++ mine) = after_variable q s ∙ (λ i. count i + sym (length-top_locals k s) i)
      ∙ sym (length-append before mine) in
      scoped_both p 0 n visible (resolved_top q k s) (resolved_main (place_after q s) (after_top k s) rest) one.scoped
      (main_scoped (place_after q s) (after_top k s) (seen_behind_all visible (resolved_top q k s)) rest (before ++ mine) (after_top_above k s above)
      (placed ∙ sym (append_assoc before mine (others ++ later))) counted one.behind l.1)
