-- The regions of a checked program stand at the top of `main` alone.
use Rattle.std.proofs.Common.{◌≡◌, refl, ap, ◌∙◌, ℕ, ◌+◌, ◌==◌, true, ◌&&◌, if◌then◌else◌, List, [], ◌∷◌, ◌++◌, append_assoc}
use Rattle.std.specs.List.{list_all}
use Rattle.dp_base.specs.declared.SiteId.{SiteId}
use Rattle.dp_tree.specs.declared.Expr.{Expr}
use Rattle.dp_tree.specs.declared.Stmt.{Stmt}
use Rattle.dp_tree.specs.declared.Stmt.TheVariants as code
use Rattle.dp_tree.specs.declared.raw.RawExpr.{RawExpr}
use Rattle.dp_tree.specs.declared.raw.RawStmt.{RawStmt, Row_of-RawStmt, end_of-RawStmt, more_of-RawStmt, out-RawStmt}
use Rattle.dp_tree.specs.declared.raw.RawStmt.TheVariants as raw
use Rattle.dp_tree.specs.declared.raw.RawStmt.TheOpen.{RawStmt-F}
use Rattle.dp_tree.specs.declared.raw.RawStmt.TheOpen as open_form
use Rattle.dp_tree.specs.declared.raw.RawItem.{RawItem}
use Rattle.dp_tree.specs.declared.raw.RawItem.TheVariants as item
use Rattle.dp_check.specs.declared.place.Place.{Place}
use Rattle.dp_check.specs.declared.items.Head.{Head}
use Rattle.dp_check.specs.Place.{parts_in, parts_all, place_passed, sited, place_after, after_in, place_after_all, after_params}
use Rattle.dp_check.specs.Resolved.{next_site, resolved, resolved_in, resolved_all, resolved_expr, with_loop_step, stepped_region, resolved_main, region_at}
use Rattle.dp_check.specs.Resolved.{is_marked_loop_at, is_marked_loop}
use Rattle.dp_check.specs.Items.{items_functions, after_item}
use Rattle.dp_tree.specs.Numbering.{is_plain, is_plain_at, is_plain_in, is_inner, is_inner_in, top_fits, next_region, regions_in_order}
use Rattle.dp_tree.proofs.SitesOf.{everywhere_hidden}
use Rattle.dp_tree.proofs.SitesOf.{opened_statement}
use Rattle.dp_check.specs.Checked.{is_unbroken, is_unbroken_in, may_leave, fits_at, breaks_fit_at_top, is_unbroken_item}
use Rattle.dp_check.proofs.BoolLemmas.{both_true, halves, same_number, all_of_both, all_weaker}
use Rattle.dp_tree.proofs.PlainLists.{plain_front}

plain_hidden : (xs : List Stmt) → is_plain_in (Rattle.dp_tree.specs.declared.Stmt.TheBlock.hidden-the_row-Stmt-0 xs) ≡ list_all is_plain xs
plain_hidden xs = everywhere_hidden is_plain_at xs

plain-If : (site : SiteId) (cond : Expr) (a b : List Stmt) → is_plain (code.If site cond a b) ≡ (list_all is_plain a && list_all is_plain b)
unfolding opened_statement
plain-If site cond a b = λ i. plain_hidden a i && plain_hidden b i

plain-While : (site : SiteId) (cond : Expr) (a : List Stmt) → is_plain (code.While site cond a) ≡ list_all is_plain a
unfolding opened_statement
plain-While site cond a = plain_hidden a

inner_hidden : (xs : List Stmt) → is_inner_in (Rattle.dp_tree.specs.declared.Stmt.TheBlock.hidden-the_row-Stmt-0 xs) ≡ list_all is_inner xs
unfolding opened_statement
inner_hidden [] = refl
inner_hidden (x ∷ xs) = ap (λ b. is_inner x && b) (inner_hidden xs)

fits-Region : (r : ℕ) (site : SiteId) (cond : Expr) (a : List Stmt) → top_fits r (code.Region r site cond a) ≡ ((r == r) && list_all is_inner a)
unfolding opened_statement
fits-Region r site cond a = ap (λ b. (r == r) && b) (inner_hidden a)

next-Region : (r : ℕ) (site : SiteId) (cond : Expr) (a : List Stmt) → next_region r (code.Region r site cond a) ≡ r + 1
unfolding opened_statement
next-Region r site cond a = refl

mutual
  plain : (p : Place) (s : RawStmt) → is_unbroken s ≡ true → list_all is_plain (resolved p s) ≡ true
  plain p (raw.Break line cond) w = absurd (cc w)
  plain p (raw.If' line cond _ a _ b) w =
      let both = halves (is_unbroken_in a) (is_unbroken_in b) w in
      both_true (plain-If (next_site p) (resolved_expr p.names cond) (resolved_in (sited p) a) (resolved_in (place_passed (sited p) (parts_in a)) b)
      ∙ both_true (plain_in (sited p) a both.0) (plain_in (place_passed (sited p) (parts_in a)) b both.1)) refl
  plain p (raw.While' line marked cond _ body) w =
      both_true (plain-While (next_site p) (resolved_expr p.names cond) (resolved_in (sited p) body) ∙ plain_in (sited p) body w) refl
  plain p (raw.For' line marked _ first cond _ step _ body) w =
      let q = after_in p first in let later = place_passed (sited q) (parts_in body) in let xs = resolved_in (sited q) body in
      let ys = resolved_in later step in
      let k = halves (is_unbroken_in first) (is_unbroken_in body && is_unbroken_in step) w in let m = halves (is_unbroken_in body) (is_unbroken_in step) k.1 in
      all_of_both is_plain (resolved_in p first) (code.While (next_site q) (resolved_expr q.names cond) (xs ++ ys) ∷ []) (plain_in p first k.0)
      (both_true (plain-While (next_site q) (resolved_expr q.names cond) (xs ++ ys) ∙ all_of_both is_plain xs ys (plain_in (sited q) body m.0)
      (plain_in later step m.1)) refl)
  plain p _ w = refl

  plain_in : {n : _} (p : Place) (row : Row_of-RawStmt n) → is_unbroken_in row ≡ true → list_all is_plain (resolved_in p row) ≡ true
  plain_in p end_of-RawStmt w = refl
  plain_in p (more_of-RawStmt s rest) w =
      let both = halves (is_unbroken s) (is_unbroken_in rest) w in
      all_of_both is_plain (resolved p s) (resolved_in (place_after p s) rest) (plain p s both.0) (plain_in (place_after p s) rest both.1)

plain_all : (p : Place) (all : List RawStmt) → list_all is_unbroken all ≡ true → list_all is_plain (resolved_all p all) ≡ true
plain_all p [] w = refl
plain_all p (s ∷ rest) w =
    let both = halves (is_unbroken s) (list_all is_unbroken rest) w in
    all_of_both is_plain (resolved p s) (resolved_all (place_after p s) rest) (plain p s both.0) (plain_all (place_after p s) rest both.1)

-- a plain statement may stand in a region's body
inner_from : (s : Stmt) → is_plain s ≡ true → is_inner s ≡ true
inner_from (code.If' site cond _ a _ b) h = h
inner_from (code.While' site cond _ a) h = h
inner_from (code.Region' q site cond _ a) h = absurd (cc h)
inner_from _ h = refl

inner : (p : Place) (s : RawStmt) → may_leave s ≡ true → list_all is_inner (resolved p s) ≡ true
inner p (raw.Break line cond) w = refl
inner p s w = all_weaker is_plain is_inner inner_from (resolved p s) (plain p s w)

inner_all : (p : Place) (all : List RawStmt) → list_all may_leave all ≡ true → list_all is_inner (resolved_all p all) ≡ true
inner_all p [] w = refl
inner_all p (s ∷ rest) w =
    let both = halves (may_leave s) (list_all may_leave rest) w in
    all_of_both is_inner (resolved p s) (resolved_all (place_after p s) rest) (inner p s both.0) (inner_all (place_after p s) rest both.1)

region_before : (p : Place) (r : ℕ) (cond : RawExpr) (body rest : List Stmt) → list_all is_inner body ≡ true → regions_in_order (r + 1) rest ≡ true
    → regions_in_order r (code.Region r (next_site p) (resolved_expr p.names cond) body ∷ rest) ≡ true
region_before p r cond body rest w h =
    both_true (fits-Region r (next_site p) (resolved_expr p.names cond) body ∙ both_true (same_number r) w)
    (ap (λ n. regions_in_order n rest) (next-Region r (next_site p) (resolved_expr p.names cond) body) ∙ h)

-- what a statement at the top of `main` becomes stands in order before what is
top_before : (p : Place) (r : ℕ) (l : RawStmt-F RawStmt) (s : RawStmt) (rest : List Stmt) → fits_at l (is_unbroken s) ≡ true
    → regions_in_order (if is_marked_loop_at l then r + 1 else r) rest ≡ true → regions_in_order r (region_at p r l (resolved p s) ++ rest) ≡ true
top_before p r (open_form.While line true cond body) s rest w h = region_before p r cond (resolved_all (sited p) body) rest (inner_all (sited p) body w) h
top_before p r (open_form.For line true first cond step body) s rest w h =
    let q = place_after_all p first in let later = place_passed (sited q) (parts_all body) in let region = stepped_region q r cond step body in
    let k = halves (list_all is_unbroken first) (list_all may_leave body && list_all is_unbroken step) w in
    let m = halves (list_all may_leave body) (list_all is_unbroken step) k.1 in
    let inside = all_of_both is_inner (resolved_all (sited q) body) (resolved_all later step) (inner_all (sited q) body m.0)
    (all_weaker is_plain is_inner inner_from (resolved_all later step) (plain_all later step m.1)) in
    ap (regions_in_order r) (append_assoc (resolved_all p first) (region ∷ []) rest)
    ∙ plain_front r (resolved_all p first) (region ∷ rest) (plain_all p first k.0) (region_before q r cond (with_loop_step (sited q) step body) rest inside h)
top_before p r _ s rest w h = plain_front r (resolved p s) rest (plain p s w) h

pub regions_stand_in_order : (p : Place) (r : ℕ) (all : List RawStmt) → list_all breaks_fit_at_top all ≡ true →
    regions_in_order r (resolved_main p r all) ≡ true
regions_stand_in_order p r [] w = refl
regions_stand_in_order p r (s ∷ rest) w =
    let both = halves (breaks_fit_at_top s) (list_all breaks_fit_at_top rest) w in let next = if is_marked_loop s then r + 1 else r in
    top_before p r (out-RawStmt s) s (resolved_main (place_after p s) next rest) both.0 (regions_stand_in_order (place_after p s) next rest both.1)

pub functions_are_plain : (h : Head) (items : List RawItem) → list_all is_unbroken_item items ≡ true →
    list_all (λ f. list_all is_plain f.body) (items_functions h items) ≡ true
functions_are_plain h [] w = refl
functions_are_plain h (item.Scalar name start ∷ rest) w = functions_are_plain (after_item h (item.Scalar name start)) rest w
functions_are_plain h (item.Array name size ∷ rest) w = functions_are_plain (after_item h (item.Array name size)) rest w
functions_are_plain h (item.Function name params body ∷ rest) w =
    let both = halves (list_all is_unbroken body) (list_all is_unbroken_item rest) w in
    both_true (plain_all (after_params h.place params) body both.0) (functions_are_plain (after_item h (item.Function name params body)) rest both.1)
