-- The sites of a checked program are numbered in text order.
use Rattle.std.proofs.Common.{◌≡◌, refl, sym, ap, ◌∙◌, ℕ, suc, ◌+◌, true, if◌then◌else◌, List, [], ◌∷◌, ◌++◌, map, length, length-append, append-nil, arith}
use Rattle.std.specs.List.{flat_map}
use Rattle.dp_tree.specs.declared.Stmt.TheVariants as code
use Rattle.dp_tree.specs.declared.SiteKind.TheVariants as kind
use Rattle.dp_tree.specs.declared.raw.Name.{Name}
use Rattle.dp_tree.specs.declared.raw.RawExpr.{RawExpr}
use Rattle.dp_tree.specs.declared.raw.RawStmt.{RawStmt, Row_of-RawStmt, end_of-RawStmt, more_of-RawStmt, out-RawStmt, roll-RawStmt, roll-out-RawStmt}
use Rattle.dp_tree.specs.declared.raw.RawStmt.TheVariants as raw
use Rattle.dp_tree.specs.declared.raw.RawStmt.TheVariants.{rolls-While, rolls-For}
use Rattle.dp_tree.specs.declared.raw.RawStmt.TheOpen.{RawStmt-F}
use Rattle.dp_tree.specs.declared.raw.RawStmt.TheOpen as open_form
use Rattle.dp_tree.specs.declared.raw.RawItem.{RawItem}
use Rattle.dp_tree.specs.declared.raw.RawItem.TheVariants as item
use Rattle.dp_tree.specs.declared.raw.RawProgram.{RawProgram}
use Rattle.dp_check.specs.declared.place.Place.{Place}
use Rattle.dp_check.specs.declared.items.Head.{Head}
use Rattle.dp_check.specs.Place.{TextPart, Site, Local, parts, parts_in, parts_all, place_passed, sited, place_after, after_in, place_after_all, after_params}
use Rattle.dp_check.specs.Place.{sites_among}
use Rattle.dp_check.specs.Resolved.{next_site, resolved, resolved_in, resolved_all, resolved_expr, stepped_region, resolved_top, resolved_main, region_at}
use Rattle.dp_check.specs.Resolved.{is_marked_loop}
use Rattle.dp_check.specs.Tables.{sites_made, loop_parts, top_sites, main_sites, after_top, item_parts, function_parts, program_sites}
use Rattle.dp_check.specs.Items.{items_functions, after_item}
use Rattle.dp_check.specs.CheckAnswer.{text_begin, main_begin, resolved as whole}
use Rattle.dp_tree.specs.Numbering.{site_numbers, site_numbers_all, numbers_from, SitesInOrder}
use Rattle.dp_check.proofs.PlaceLemmas.{after_site, after_in_site, after_all_site, site_count-append}
use Rattle.dp_check.proofs.ItemLemmas.{after_params_site}
use Rattle.dp_check.proofs.TableLemmas.{length-sites_of, length-top_sites, parts-While, parts-For}
use Rattle.dp_tree.proofs.NumberLists.{numbers_from-append}
use Rattle.dp_tree.proofs.SiteForms.{numbers-If, numbers-While, numbers-Region, numbers_both}

-- two pieces of a text, one behind the other
numbers_joined : (k a b : ℕ) {xs ys : List ℕ} {m : ℕ} → m ≡ k + a → xs ≡ numbers_from k a → ys ≡ numbers_from m b → xs ++ ys ≡ numbers_from k (a + b)
numbers_joined k a b e f g = (λ i. f i ++ g i) ∙ ap (λ m. numbers_from k a ++ numbers_from m b) e ∙ sym (numbers_from-append k a b)

-- a loop and what stands in it
numbers_inside : (k a b : ℕ) {xs ys : List ℕ} {m : ℕ} → m ≡ (k + 1) + a → xs ≡ numbers_from (k + 1) a → ys ≡ numbers_from m b →
    k ∷ (xs ++ ys) ≡ numbers_from k (suc (a + b))
numbers_inside k a b e f g = ap (λ ns. k ∷ ns) (numbers_joined (k + 1) a b e f g)

mutual
  numbered : (p : Place) (s : RawStmt) → site_numbers_all (resolved p s) ≡ numbers_from p.site (sites_among (parts s))
  numbered p (raw.If' line cond _ a _ b) =
      let q = place_passed (sited p) (parts_in a) in
      append-nil (site_numbers (code.If _ (resolved_expr p.names cond) (resolved_in (sited p) a) (resolved_in q b)))
      ∙ numbers-If _ (resolved_expr p.names cond) (resolved_in (sited p) a) (resolved_in q b)
      ∙ numbers_inside p.site (sites_among (parts_in a)) (sites_among (parts_in b)) refl (numbered_in (sited p) a) (numbered_in q b)
      ∙ ap (λ n. numbers_from p.site (suc n)) (sym (site_count-append (parts_in a) (parts_in b)))
  numbered p (raw.While' line marked cond _ body) =
      append-nil (site_numbers (code.While _ (resolved_expr p.names cond) (resolved_in (sited p) body)))
      ∙ numbers-While _ (resolved_expr p.names cond) (resolved_in (sited p) body) ∙ ap (λ xs. p.site ∷ xs) (numbered_in (sited p) body)
  numbered p (raw.For' line marked _ first cond _ step _ body) =
      let q = after_in p first in let later = place_passed (sited q) (parts_in body) in let xs = resolved_in (sited q) body in
      let ys = resolved_in later step in
      let loop = code.While (next_site q) (resolved_expr q.names cond) (xs ++ ys) in
      let inside : site_numbers_all (loop ∷ []) ≡ numbers_from q.site (suc (sites_among (parts_in body) + sites_among (parts_in step))) =
      append-nil (site_numbers loop) ∙ numbers-While (next_site q) (resolved_expr q.names cond) (xs ++ ys) ∙ ap (λ ns. q.site ∷ ns) (numbers_both xs ys)
      ∙ numbers_inside q.site (sites_among (parts_in body)) (sites_among (parts_in step)) refl (numbered_in (sited q) body) (numbered_in later step) in
      numbers_both (resolved_in p first) (loop ∷ [])
      ∙ numbers_joined p.site (sites_among (parts_in first)) (suc (sites_among (parts_in body) + sites_among (parts_in step))) (after_in_site p first)
      (numbered_in p first) inside
      ∙ ap (λ n. numbers_from p.site (sites_among (parts_in first) + suc n)) (sym (site_count-append (parts_in body) (parts_in step)))
      ∙ ap (numbers_from p.site) (sym (site_count-append (parts_in first) (Site line kind.While ∷ (parts_in body ++ parts_in step))))
  numbered p _ = refl

  numbered_in : {n : _} (p : Place) (row : Row_of-RawStmt n) → site_numbers_all (resolved_in p row) ≡ numbers_from p.site (sites_among (parts_in row))
  numbered_in p end_of-RawStmt = refl
  numbered_in p (more_of-RawStmt s rest) =
      numbers_both (resolved p s) (resolved_in (place_after p s) rest)
      ∙ numbers_joined p.site (sites_among (parts s)) (sites_among (parts_in rest)) (after_site p s) (numbered p s) (numbered_in (place_after p s) rest)
      ∙ ap (numbers_from p.site) (sym (site_count-append (parts s) (parts_in rest)))

numbered_all : (p : Place) (all : List RawStmt) → site_numbers_all (resolved_all p all) ≡ numbers_from p.site (sites_among (parts_all all))
numbered_all p [] = refl
numbered_all p (s ∷ rest) =
    numbers_both (resolved p s) (resolved_all (place_after p s) rest)
    ∙ numbers_joined p.site (sites_among (parts s)) (sites_among (parts_all rest)) (after_site p s) (numbered p s) (numbered_all (place_after p s) rest)
    ∙ ap (numbers_from p.site) (sym (site_count-append (parts s) (parts_all rest)))

numbered_stepped : (p : Place) (r line : ℕ) (first : List RawStmt) (cond : RawExpr) (step body : List RawStmt)
    → site_numbers_all (resolved_all p first ++ stepped_region (place_after_all p first) r cond step body ∷ []) ≡ numbers_from p.site
    (sites_among (parts_all first ++ loop_parts line step body))
numbered_stepped p r line first cond step body =
    let q = place_after_all p first in let later = place_passed (sited q) (parts_all body) in let xs = resolved_all (sited q) body in
    let ys = resolved_all later step in
    let inside : site_numbers_all (stepped_region q r cond step body ∷ []) ≡ numbers_from q.site
    (suc (sites_among (parts_all body) + sites_among (parts_all step))) =
    append-nil (site_numbers (stepped_region q r cond step body)) ∙ numbers-Region r (next_site q) (resolved_expr q.names cond) (xs ++ ys)
    ∙ ap (λ ns. q.site ∷ ns) (numbers_both xs ys)
    ∙ numbers_inside q.site (sites_among (parts_all body)) (sites_among (parts_all step)) refl (numbered_all (sited q) body) (numbered_all later step) in
    numbers_both (resolved_all p first) (stepped_region q r cond step body ∷ [])
    ∙ numbers_joined p.site (sites_among (parts_all first)) (suc (sites_among (parts_all body) + sites_among (parts_all step))) (after_all_site p first)
    (numbered_all p first) inside
    ∙ ap (λ n. numbers_from p.site (sites_among (parts_all first) + suc n)) (sym (site_count-append (parts_all body) (parts_all step)))
    ∙ ap (numbers_from p.site) (sym (site_count-append (parts_all first) (loop_parts line step body)))

numbered_top : (p : Place) (r : ℕ) (s : RawStmt) → site_numbers_all (resolved_top p r s) ≡ numbers_from p.site (sites_among (parts s))
numbered_top p r s = by (out-RawStmt s) refl
  where
    by : (l : RawStmt-F RawStmt) → out-RawStmt s ≡ l → site_numbers_all (region_at p r l (resolved p s)) ≡ numbers_from p.site (sites_among (parts s))
    by (open_form.While line true cond body) e =
        let is : s ≡ raw.While line true cond body = sym (roll-out-RawStmt s) ∙ ap roll-RawStmt e ∙ rolls-While line true cond body in
        append-nil (site_numbers (code.Region r _ (resolved_expr p.names cond) (resolved_all (sited p) body)))
        ∙ numbers-Region r _ (resolved_expr p.names cond) (resolved_all (sited p) body)
        ∙ ap (λ xs. p.site ∷ xs) (numbered_all (sited p) body)
        ∙ ap (λ ps. numbers_from p.site (sites_among ps)) (sym (parts-While line true cond body) ∙ ap parts (sym is))
    by (open_form.For line true first cond step body) e =
        let is : s ≡ raw.For line true first cond step body = sym (roll-out-RawStmt s) ∙ ap roll-RawStmt e ∙ rolls-For line true first cond step body in
        numbered_stepped p r line first cond step body
        ∙ ap (λ ps. numbers_from p.site (sites_among ps)) (sym (parts-For line true first cond step body) ∙ ap parts (sym is))
    by _ e = numbered p s

numbered_main : (p : Place) (r : ℕ) (all : List RawStmt) → site_numbers_all (resolved_main p r all) ≡ numbers_from p.site (sites_among (parts_all all))
numbered_main p r [] = refl
numbered_main p r (s ∷ rest) =
    let next = if is_marked_loop s then r + 1 else r in
    numbers_both (resolved_top p r s) (resolved_main (place_after p s) next rest)
    ∙ numbers_joined p.site (sites_among (parts s)) (sites_among (parts_all rest)) (after_site p s) (numbered_top p r s)
    (numbered_main (place_after p s) next rest)
    ∙ ap (numbers_from p.site) (sym (site_count-append (parts s) (parts_all rest)))

abbrev all_parts : List RawItem → List TextPart
all_parts items = flat_map item_parts items

params_count : (params : List Name) → sites_among (map Local params) ≡ 0
params_count [] = refl
params_count (x ∷ params) = params_count params

numbered_body : (p : Place) (params : List Name) (body : List RawStmt) → site_numbers_all (resolved_all (after_params p params) body) ≡ numbers_from p.site
    (sites_among (function_parts params body))
numbered_body p params body =
    numbered_all (after_params p params) body
    ∙ (λ i. numbers_from (start i) (count i))
  where
    start : (after_params p params).site ≡ p.site
    start = let e = after_params_site p params in let f = params_count params in omega arith

    count : sites_among (parts_all body) ≡ sites_among (function_parts params body)
    count = let e = site_count-append (map Local params) (parts_all body) in let f = params_count params in omega arith

numbered_items : (h : Head) (items : List RawItem) → flat_map (λ f. site_numbers_all f.body) (items_functions h items) ≡ numbers_from h.place.site
    (sites_among (all_parts items))
numbered_items h [] = refl
numbered_items h (item.Scalar name start ∷ rest) = numbered_items (after_item h (item.Scalar name start)) rest
numbered_items h (item.Array name size ∷ rest) = numbered_items (after_item h (item.Array name size)) rest
numbered_items h (item.Function name params body ∷ rest) =
    let here = function_parts params body in
    (λ i. numbered_body h.place params body i ++ numbered_items (after_item h (item.Function name params body)) rest i)
    ∙ sym (numbers_from-append h.place.site (sites_among here) (sites_among (all_parts rest)))
    ∙ ap (numbers_from h.place.site) (sym (site_count-append here (all_parts rest)))

length-main_sites : (r : ℕ) (all : List RawStmt) → length (main_sites r all) ≡ sites_among (parts_all all)
length-main_sites r [] = refl
length-main_sites r (s ∷ rest) =
    let a = length-append (top_sites r s) (main_sites (after_top r s) rest) in let b = length-top_sites r s in
    let c = length-main_sites (after_top r s) rest in let d = site_count-append (parts s) (parts_all rest) in omega arith

length-item_sites : (items : List RawItem) → length (flat_map (λ item. sites_made 0 (item_parts item)) items) ≡ sites_among (all_parts items)
length-item_sites [] = refl
length-item_sites (x ∷ rest) =
    let a = length-append (sites_made 0 (item_parts x)) (flat_map (λ item. sites_made 0 (item_parts item)) rest) in let b = length-sites_of 0 (item_parts x) in
    let c = length-item_sites rest in let d = site_count-append (item_parts x) (all_parts rest) in omega arith

-- the sites of a resolved program are numbered in text order
pub sites_in_order : (t : RawProgram) → SitesInOrder (whole t)
sites_in_order t =
    let m = sites_among (parts_all t.main) in let f = sites_among (all_parts t.items) in
    (λ i. numbered_main (main_begin t) 1 t.main i ++ numbered_items (text_begin t) t.items i)
    ∙ sym (numbers_from-append 1 m f)
    ∙ ap (numbers_from 1) total
  where
    total : sites_among (parts_all t.main) + sites_among (all_parts t.items) ≡ length (program_sites t)
    total =
        let a = length-append (main_sites 1 t.main) (flat_map (λ item. sites_made 0 (item_parts item)) t.items) in
        let b = length-main_sites 1 t.main in let c = length-item_sites t.items in omega arith
