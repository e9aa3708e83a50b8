-- The table of a checked program has the kind and the region of each site.
use Rattle.std.proofs.Common.{◌≡◌, refl, sym, ap, ◌∙◌, ℕ, true, List, [], ◌∷◌, ◌++◌, map, append-nil}
use Rattle.std.specs.List.{flat_map}
use Rattle.std.proofs.lemmas.List.{map-append}
use Rattle.dp_tree.specs.declared.Function.{Function}
use Rattle.dp_tree.specs.declared.Stmt.TheVariants as code
use Rattle.dp_tree.specs.declared.SiteInfo.{SiteInfo}
use Rattle.dp_tree.specs.declared.SiteKind.{SiteKind}
use Rattle.dp_tree.specs.declared.SiteKind.TheVariants as kind
use Rattle.dp_tree.specs.declared.raw.Name.{Name}
use Rattle.dp_tree.specs.declared.raw.RawExpr.{RawExpr}
use Rattle.dp_tree.specs.declared.raw.RawStmt.{RawStmt, Row_of-RawStmt, end_of-RawStmt, more_of-RawStmt, out-RawStmt, roll-RawStmt, roll-out-RawStmt}
use Rattle.dp_tree.specs.declared.raw.RawStmt.TheVariants as raw
use Rattle.dp_tree.specs.declared.raw.RawStmt.TheVariants.{rolls-While}
use Rattle.dp_tree.specs.declared.raw.RawStmt.TheOpen.{RawStmt-F}
use Rattle.dp_tree.specs.declared.raw.RawStmt.TheOpen as open_form
use Rattle.dp_tree.specs.declared.raw.RawItem.{RawItem}
use Rattle.dp_tree.specs.declared.raw.RawItem.TheVariants as item
use Rattle.dp_tree.specs.declared.raw.RawProgram.{RawProgram}
use Rattle.dp_tree.specs.SiteTable.{role_of, site_roles, site_roles_all, SitesAsInText}
use Rattle.dp_check.specs.declared.place.Place.{Place}
use Rattle.dp_check.specs.declared.items.Head.{Head}
use Rattle.dp_check.specs.Place.{TextPart, Site, Local, parts, parts_in, parts_all, place_passed, sited, place_after, after_in, place_after_all, after_params}
use Rattle.dp_check.specs.Resolved.{next_site, resolved, resolved_in, resolved_all, resolved_expr, stepped_region, resolved_top, resolved_main, region_at}
use Rattle.dp_check.specs.Tables.{sites_made, loop_parts, outside_at, within_at, top_sites, main_sites, after_top, item_parts, function_parts}
use Rattle.dp_check.specs.Items.{items_functions, after_item}
use Rattle.dp_check.specs.CheckAnswer.{text_begin, main_begin, resolved as whole}
use Rattle.dp_check.proofs.TableLemmas.{sites_of-append, parts-While}
use Rattle.dp_tree.proofs.SiteForms.{roles-If, roles-While, roles-Region, roles_both}

-- what the table says of the sites among the parts of a text
abbrev roles_of : ℕ → List TextPart → List (SiteKind × ℕ)
roles_of r ps = map role_of (sites_made r ps)

-- two pieces of a text, one behind the other
roles_joined : (r : ℕ) (a b : List TextPart) {xs ys : List (SiteKind × ℕ)} → xs ≡ roles_of r a → ys ≡ roles_of r b → xs ++ ys ≡ roles_of r (a ++ b)
roles_joined r a b e f = (λ i. e i ++ f i) ∙ sym (map-append role_of (sites_made r a) (sites_made r b)) ∙ ap (map role_of) (sym (sites_of-append r a b))

mutual
  roles : (r : ℕ) (p : Place) (s : RawStmt) → site_roles_all r (resolved p s) ≡ roles_of r (parts s)
  roles r p (raw.If' line cond _ a _ b) =
      let q = place_passed (sited p) (parts_in a) in
      append-nil (site_roles r (code.If (next_site p) (resolved_expr p.names cond) (resolved_in (sited p) a) (resolved_in q b)))
      ∙ roles-If r (next_site p) (resolved_expr p.names cond) (resolved_in (sited p) a) (resolved_in q b)
      ∙ ap (λ (xs : List (SiteKind × ℕ)). (kind.If, r) ∷ xs) (roles_joined r (parts_in a) (parts_in b) (roles_in r (sited p) a) (roles_in r q b))
  roles r p (raw.While' line marked cond _ body) =
      append-nil (site_roles r (code.While (next_site p) (resolved_expr p.names cond) (resolved_in (sited p) body)))
      ∙ roles-While r (next_site p) (resolved_expr p.names cond) (resolved_in (sited p) body) ∙ ap (λ (xs : List (SiteKind × ℕ)). (kind.While, r) ∷ xs)
      (roles_in r (sited p) body)
  roles r p (raw.For' line marked _ first cond _ step _ body) =
      let q = after_in p first in let later = place_passed (sited q) (parts_in body) in let xs = resolved_in (sited q) body in
      let ys = resolved_in later step in
      let loop = code.While (next_site q) (resolved_expr q.names cond) (xs ++ ys) in
      let inside : site_roles_all r (loop ∷ []) ≡ roles_of r (Site line kind.While ∷ (parts_in body ++ parts_in step)) =
      append-nil (site_roles r loop) ∙ roles-While r (next_site q) (resolved_expr q.names cond) (xs ++ ys)
      ∙ ap (λ (ks : List (SiteKind × ℕ)). (kind.While, r) ∷ ks) (roles_both r xs ys ∙ roles_joined r (parts_in body) (parts_in step) (roles_in r (sited q) body)
      (roles_in r later step)) in
      roles_both r (resolved_in p first) (loop ∷ []) ∙ roles_joined r (parts_in first) (Site line kind.While ∷ (parts_in body ++ parts_in step))
      (roles_in r p first) inside
  roles r p _ = refl

  roles_in : {n : _} (r : ℕ) (p : Place) (row : Row_of-RawStmt n) → site_roles_all r (resolved_in p row) ≡ roles_of r (parts_in row)
  roles_in r p end_of-RawStmt = refl
  roles_in r p (more_of-RawStmt s rest) =
      roles_both r (resolved p s) (resolved_in (place_after p s) rest) ∙ roles_joined r (parts s) (parts_in rest) (roles r p s)
      (roles_in r (place_after p s) rest)

roles_all : (r : ℕ) (p : Place) (all : List RawStmt) → site_roles_all r (resolved_all p all) ≡ roles_of r (parts_all all)
roles_all r p [] = refl
roles_all r p (s ∷ rest) =
    roles_both r (resolved p s) (resolved_all (place_after p s) rest) ∙ roles_joined r (parts s) (parts_all rest) (roles r p s)
    (roles_all r (place_after p s) rest)

roles_stepped : (p : Place) (r line : ℕ) (cond : RawExpr) (step body : List RawStmt) → site_roles_all 0 (stepped_region p r cond step body ∷ []) ≡ roles_of r
    (loop_parts line step body)
roles_stepped p r line cond step body =
    let later = place_passed (sited p) (parts_all body) in let xs = resolved_all (sited p) body in let ys = resolved_all later step in
    append-nil (site_roles 0 (stepped_region p r cond step body)) ∙ roles-Region 0 r (next_site p) (resolved_expr p.names cond) (xs ++ ys)
    ∙ ap (λ (ks : List (SiteKind × ℕ)). (kind.While, r) ∷ ks) (roles_both r xs ys ∙ roles_joined r (parts_all body) (parts_all step)
    (roles_all r (sited p) body) (roles_all r later step))

roles_top : (p : Place) (r : ℕ) (s : RawStmt) → site_roles_all 0 (resolved_top p r s) ≡ map role_of (top_sites r s)
roles_top p r s = by (out-RawStmt s) refl
  where
    plain : site_roles_all 0 (resolved p s) ≡ map role_of (sites_made 0 (parts s) ++ [])
    plain = roles 0 p s ∙ ap (map role_of) (sym (append-nil (sites_made 0 (parts s))))

    by : (l : RawStmt-F RawStmt) → out-RawStmt s ≡ l → site_roles_all 0 (region_at p r l (resolved p s)) ≡ map role_of (sites_made 0 (outside_at l (parts s))
        ++ sites_made r (within_at l (parts s)))
    by (open_form.While line true cond body) e =
        let is : s ≡ raw.While line true cond body = sym (roll-out-RawStmt s) ∙ ap roll-RawStmt e ∙ rolls-While line true cond body in
        append-nil (site_roles 0 (code.Region r (next_site p) (resolved_expr p.names cond) (resolved_all (sited p) body)))
        ∙ roles-Region 0 r (next_site p) (resolved_expr p.names cond) (resolved_all (sited p) body)
        ∙ ap (λ (xs : List (SiteKind × ℕ)). (kind.While, r) ∷ xs) (roles_all r (sited p) body)
        ∙ ap (roles_of r) (sym (parts-While line true cond body) ∙ ap parts (sym is))
    by (open_form.For line true first cond step body) e =
        let q = place_after_all p first in
        roles_both 0 (resolved_all p first) (stepped_region q r cond step body ∷ [])
        ∙ (λ i. roles_all 0 p first i ++ roles_stepped q r line cond step body i)
        ∙ sym (map-append role_of (sites_made 0 (parts_all first)) (sites_made r (loop_parts line step body)))
    by _ e = plain

roles_main : (p : Place) (r : ℕ) (all : List RawStmt) → site_roles_all 0 (resolved_main p r all) ≡ map role_of (main_sites r all)
roles_main p r [] = refl
roles_main p r (s ∷ rest) =
    let next = after_top r s in
    roles_both 0 (resolved_top p r s) (resolved_main (place_after p s) next rest)
    ∙ (λ i. roles_top p r s i ++ roles_main (place_after p s) next rest i) ∙ sym (map-append role_of (top_sites r s) (main_sites next rest))

-- parameters have no site
params_siteless : (params : List Name) (ps : List TextPart) → sites_made 0 (map Local params ++ ps) ≡ sites_made 0 ps
params_siteless [] ps = refl
params_siteless (x ∷ params) ps = params_siteless params ps

abbrev item_sites : List RawItem → List SiteInfo
item_sites items = flat_map (λ item. sites_made 0 (item_parts item)) items

roles_items : (h : Head) (items : List RawItem) → flat_map (λ (f : Function). site_roles_all 0 f.body) (items_functions h items) ≡ map
    role_of (item_sites items)
roles_items h [] = refl
roles_items h (item.Scalar name start ∷ rest) = roles_items (after_item h (item.Scalar name start)) rest
roles_items h (item.Array name size ∷ rest) = roles_items (after_item h (item.Array name size)) rest
roles_items h (item.Function name params body ∷ rest) =
    let own : site_roles_all 0 (resolved_all (after_params h.place params) body) ≡ roles_of 0 (function_parts params body) =
    roles_all 0 (after_params h.place params) body ∙ ap (map role_of) (sym (params_siteless params (parts_all body))) in
    (λ i. own i ++ roles_items (after_item h (item.Function name params body)) rest i)
    ∙ sym (map-append role_of (sites_made 0 (function_parts params body)) (item_sites rest))

-- the table of a resolved program says what stands in the text
pub sites_as_in_text : (t : RawProgram) → SitesAsInText (whole t)
sites_as_in_text t =
    map-append role_of (main_sites 1 t.main) (item_sites t.items)
    ∙ (λ i. sym (roles_main (main_begin t) 1 t.main) i ++ sym (roles_items (text_begin t) t.items) i)
