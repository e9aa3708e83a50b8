-- Tables that grow by the parts of statements.
use Rattle.std.proofs.Common.{◌≡◌, refl, sym, ap, ◌∙◌, ℕ, suc, ◌+◌, Bool, true, List, [], ◌∷◌, ◌++◌, map, length, append_assoc, append-nil, arith}
use Rattle.std.proofs.Common.{length-append, pos}
use Rattle.std.specs.List.{flat_map}
use Rattle.dp_tree.specs.declared.VarInfo.{VarInfo}
use Rattle.dp_tree.specs.declared.VarScope.{VarScope}
use Rattle.dp_tree.specs.declared.VarScope.TheVariants.{Outer}
use Rattle.dp_tree.specs.declared.SiteInfo.{SiteInfo}
use Rattle.dp_tree.specs.declared.SiteKind.TheVariants as kind
use Rattle.dp_tree.specs.declared.RegionInfo.{RegionInfo}
use Rattle.dp_tree.specs.declared.raw.Name.{Name}
use Rattle.dp_tree.specs.declared.raw.RawExpr.{RawExpr}
use Rattle.dp_tree.specs.declared.raw.RawStmt.{RawStmt, out-RawStmt, roll-RawStmt, roll-out-RawStmt}
use Rattle.dp_tree.specs.declared.raw.RawStmt.TheVariants as raw
use Rattle.dp_tree.specs.declared.raw.RawStmt.TheVariants.{rolls-For}
use Rattle.dp_tree.specs.declared.raw.RawStmt.TheOpen.{RawStmt-F}
use Rattle.dp_tree.specs.declared.raw.RawStmt.TheOpen as open_form
use Rattle.dp_check.specs.declared.variables.Variables.{Variables}
use Rattle.dp_check.specs.declared.sites.Sites.{Sites}
use Rattle.dp_check.specs.Place.{TextPart, Site, Local, parts, parts_all, sites_among, local_count}
use Rattle.dp_check.specs.Tables.{laid, locals_of, sites_made, loop_parts, outside_at, within_at, outside, within, top_locals, top_sites, after_top}
use Rattle.dp_check.specs.Tables.{main_locals, main_sites, regions_from, region_made, scalar_info, function_parts}
use Rattle.dp_check.specs.Limits.{cell_sum}
use Rattle.dp_check.specs.steps.Growing.{with_variables, with_sites, with_top, with_main}
use Rattle.dp_check.proofs.PlaceLemmas.{opened, parts_hidden, site_count-append, local_count-append}

pub parts-If : (line : ℕ) (cond : RawExpr) (a b : List RawStmt) → parts (raw.If line cond a b) ≡ Site line kind.If ∷ (parts_all a ++ parts_all b)
unfolding opened
parts-If line cond a b = λ i. Site line kind.If ∷ (parts_hidden a i ++ parts_hidden b i)

pub parts-While : (line : ℕ) (marked : Bool) (cond : RawExpr) (body : List RawStmt) →
    parts (raw.While line marked cond body) ≡ Site line kind.While ∷ parts_all body
unfolding opened
parts-While line marked cond body = λ i. Site line kind.While ∷ parts_hidden body i

pub parts-For : (line : ℕ) (marked : Bool) (first : List RawStmt) (cond : RawExpr) (step body : List RawStmt)
    → parts (raw.For line marked first cond step body) ≡ parts_all first ++ loop_parts line step body
unfolding opened
parts-For line marked first cond step body = λ i. parts_hidden first i ++ Site line kind.While ∷ (parts_hidden body i ++ parts_hidden step i)

-- the parts of a statement at the top of `main` are those outside of its region and those in it
pub parts_split : (s : RawStmt) → outside s ++ within s ≡ parts s
parts_split s = by (out-RawStmt s) refl
  where
    by : (l : RawStmt-F RawStmt) → out-RawStmt s ≡ l → outside_at l (parts s) ++ within_at l (parts s) ≡ parts s
    by (open_form.While line true cond body) e = refl
    by (open_form.For line true first cond step body) e =
        let is : s ≡ raw.For line true first cond step body = sym (roll-out-RawStmt s) ∙ ap roll-RawStmt e ∙ rolls-For line true first cond step body in
        sym (ap parts is ∙ parts-For line true first cond step body)
    by _ e = append-nil (parts s)

pub locals_of-append : (scope : VarScope) (a b : List TextPart) → locals_of scope (a ++ b) ≡ locals_of scope a ++ locals_of scope b
locals_of-append scope [] b = refl
locals_of-append scope (Site line k ∷ a) b = locals_of-append scope a b
locals_of-append scope (Local name ∷ a) b = ap (λ xs. scalar_info name (pos 0) scope ∷ xs) (locals_of-append scope a b)

pub sites_of-append : (r : ℕ) (a b : List TextPart) → sites_made r (a ++ b) ≡ sites_made r a ++ sites_made r b
sites_of-append r [] b = refl
sites_of-append r (Site line k ∷ a) b = ap (λ (xs : List SiteInfo). record { line = line; kind = k; region = r } ∷ xs) (sites_of-append r a b)
sites_of-append r (Local name ∷ a) b = sites_of-append r a b

pub length-sites_of : (r : ℕ) (a : List TextPart) → length (sites_made r a) ≡ sites_among a
length-sites_of r [] = refl
length-sites_of r (Site line k ∷ a) = ap suc (length-sites_of r a)
length-sites_of r (Local name ∷ a) = length-sites_of r a

pub site_count-split : (s : RawStmt) → sites_among (outside s) + sites_among (within s) ≡ sites_among (parts s)
site_count-split s = sym (site_count-append (outside s) (within s)) ∙ ap sites_among (parts_split s)

pub local_count-split : (s : RawStmt) → local_count (outside s) + local_count (within s) ≡ local_count (parts s)
local_count-split s = sym (local_count-append (outside s) (within s)) ∙ ap local_count (parts_split s)

pub length-top_sites : (r : ℕ) (s : RawStmt) → length (top_sites r s) ≡ sites_among (parts s)
length-top_sites r s =
    length-append (sites_made 0 (outside s)) (sites_made r (within s)) ∙ (λ i. length-sites_of 0 (outside s) i + length-sites_of r (within s) i)
    ∙ site_count-split s

-- ---- variables

pub cell_sum-append : (a b : List VarInfo) → cell_sum (a ++ b) ≡ cell_sum a + cell_sum b
cell_sum-append [] b = omega arith
cell_sum-append (x ∷ a) b = let e = cell_sum-append a b in omega arith

pub laid-append : (k : ℕ) (a b : List VarInfo) → laid k (a ++ b) ≡ laid k a ++ laid (k + cell_sum a) b
laid-append k [] b = let e : k ≡ k + 0 = omega arith in ap (λ m. laid m b) e
laid-append k (x ∷ a) b =
    let e : (k + x.length) + cell_sum a ≡ k + (x.length + cell_sum a) = omega arith in
    ap (λ (xs : List VarInfo). record x { first = record { 0 = k } } ∷ xs) (laid-append (k + x.length) a b ∙ ap (λ m. laid (k + x.length) a ++ laid m b) e)

pub same_variables : (v : Variables) {r q : List VarInfo} {c d : ℕ} → r ≡ q → c ≡ d → record v { rows = r; cells = c } ≡ record v { rows = q; cells = d }
same_variables v e f = λ i. record v { rows = e i; cells = f i }

pub with_variables-append : (v : Variables) (a b : List VarInfo) → with_variables v (a ++ b) ≡ with_variables (with_variables v a) b
with_variables-append v a b =
    same_variables v
    (ap (λ xs. v.rows ++ xs) (laid-append v.cells a b) ∙ sym (append_assoc v.rows (laid v.cells a) (laid (v.cells + cell_sum a) b)))
    (let e = cell_sum-append a b in omega arith)

pub with_variables-none : (v : Variables) → with_variables v [] ≡ v
with_variables-none v = same_variables v (append-nil v.rows) (omega arith)

-- ---- sites

pub same_sites : (t : Sites) {r q : List SiteInfo} {g h : List RegionInfo} {m n : ℕ} → r ≡ q → g ≡ h → m ≡ n
    → ◌≡◌ {A = Sites} (record { rows = r; regions = g; next = m }) (record { rows = q; regions = h; next = n })
same_sites t e f g = λ i. record { rows = e i; regions = f i; next = g i }

pub with_sites-append : (t : Sites) (a b : List SiteInfo) → with_sites t (a ++ b) ≡ with_sites (with_sites t a) b
with_sites-append t a b = same_sites t (sym (append_assoc t.rows a b)) refl (let e = length-append a b in omega arith)

pub with_sites-none : (t : Sites) → with_sites t [] ≡ t
with_sites-none t = same_sites t (append-nil t.rows) refl (omega arith)

pub with_main-none : (t : Sites) (r : ℕ) → with_main t r [] ≡ t
with_main-none t r = same_sites t (append-nil t.rows) (append-nil t.regions) (omega arith)

pub with_main-more : (t : Sites) (r : ℕ) (s : RawStmt) (rest : List RawStmt) → with_main t r (s ∷ rest) ≡ with_main (with_top t r s) (after_top r s) rest
with_main-more t r s rest =
    let here = top_sites r s in let later = main_sites (after_top r s) rest in
    let n : t.next + sites_among (parts s) ≡ t.next + length here = ap (λ k. t.next + k) (sym (length-top_sites r s)) in
    same_sites t (sym (append_assoc t.rows here later))
    (ap (λ k. t.regions ++ (region_made t.next (out-RawStmt s) (parts s) ++ regions_from k rest)) n
    ∙ sym (append_assoc t.regions (region_made t.next (out-RawStmt s) (parts s)) (regions_from (t.next + length here) rest)))
    (let e = length-append here later in omega arith)

-- ---- each form of statement

module _ (v : Variables) (scope : VarScope) where
  pub local-If : (line : ℕ) (cond : RawExpr) (a b : List RawStmt) → with_variables v (locals_of scope (parts (raw.If line cond a b)))
      ≡ with_variables (with_variables v (locals_of scope (parts_all a))) (locals_of scope (parts_all b))
  local-If line cond a b =
      ap (λ ps. with_variables v (locals_of scope ps)) (parts-If line cond a b) ∙ ap (with_variables v) (locals_of-append scope (parts_all a) (parts_all b))
      ∙ with_variables-append v (locals_of scope (parts_all a)) (locals_of scope (parts_all b))

  pub local-While : (line : ℕ) (marked : Bool) (cond : RawExpr) (body : List RawStmt) →
      with_variables v (locals_of scope (parts (raw.While line marked cond body)))
      ≡ with_variables v (locals_of scope (parts_all body))
  local-While line marked cond body = ap (λ ps. with_variables v (locals_of scope ps)) (parts-While line marked cond body)

  pub local-For : (line : ℕ) (marked : Bool) (first : List RawStmt) (cond : RawExpr) (step body : List RawStmt)
      → with_variables v (locals_of scope (parts (raw.For line marked first cond step body)))
      ≡ with_variables (with_variables (with_variables v (locals_of scope (parts_all first))) (locals_of scope (parts_all body)))
      (locals_of scope (parts_all step))
  local-For line marked first cond step body =
      let a = locals_of scope (parts_all first) in let b = locals_of scope (parts_all body) in let c = locals_of scope (parts_all step) in
      ap (λ ps. with_variables v (locals_of scope ps)) (parts-For line marked first cond step body)
      ∙ ap (with_variables v) (locals_of-append scope (parts_all first) (loop_parts line step body)
      ∙ ap (λ xs. a ++ xs) (locals_of-append scope (parts_all body) (parts_all step)))
      ∙ with_variables-append v a (b ++ c) ∙ with_variables-append (with_variables v a) b c

pub ruleset local_forms = (local-If, local-While, local-For, with_variables-none)

-- the sites of a loop's condition and body, and those of its step
pub turn_sites : (t : Sites) (r line : ℕ) (body : List RawStmt) → with_sites t (sites_made r (Site line kind.While ∷ parts_all body))
    ≡ with_sites (with_sites t (record { line = line; kind = kind.While; region = r } ∷ [])) (sites_made r (parts_all body))
turn_sites t r line body = with_sites-append t (record { line = line; kind = kind.While; region = r } ∷ []) (sites_made r (parts_all body))

pub loop_sites : (t : Sites) (r line : ℕ) (step body : List RawStmt) → with_sites t (sites_made r (loop_parts line step body))
    ≡ with_sites (with_sites t (sites_made r (Site line kind.While ∷ parts_all body))) (sites_made r (parts_all step))
loop_sites t r line step body =
    ap (with_sites t) (sites_of-append r (Site line kind.While ∷ parts_all body) (parts_all step))
    ∙ with_sites-append t (sites_made r (Site line kind.While ∷ parts_all body)) (sites_made r (parts_all step))

module _ (t : Sites) (r : ℕ) where
  pub site-If : (line : ℕ) (cond : RawExpr) (a b : List RawStmt) → with_sites t (sites_made r (parts (raw.If line cond a b)))
      ≡ with_sites (with_sites (with_sites t (record { line = line; kind = kind.If; region = r } ∷ [])) (sites_made r (parts_all a)))
      (sites_made r (parts_all b))
  site-If line cond a b =
      let one : List SiteInfo = record { line = line; kind = kind.If; region = r } ∷ [] in
      ap (λ ps. with_sites t (sites_made r ps)) (parts-If line cond a b) ∙ ap (λ xs. with_sites t (one ++ xs)) (sites_of-append r (parts_all a) (parts_all b))
      ∙ with_sites-append t one (sites_made r (parts_all a) ++ sites_made r (parts_all b))
      ∙ with_sites-append (with_sites t one) (sites_made r (parts_all a)) (sites_made r (parts_all b))

  pub site-While : (line : ℕ) (marked : Bool) (cond : RawExpr) (body : List RawStmt) → with_sites t (sites_made r (parts (raw.While line marked cond body)))
      ≡ with_sites t (sites_made r (Site line kind.While ∷ parts_all body))
  site-While line marked cond body = ap (λ ps. with_sites t (sites_made r ps)) (parts-While line marked cond body)

  pub site-For : (line : ℕ) (marked : Bool) (first : List RawStmt) (cond : RawExpr) (step body : List RawStmt) →
      with_sites t (sites_made r (parts (raw.For line marked first cond step body)))
      ≡ with_sites (with_sites (with_sites t (sites_made r (parts_all first))) (sites_made r (Site line kind.While ∷ parts_all body)))
      (sites_made r (parts_all step))
  site-For line marked first cond step body =
      let a = sites_made r (parts_all first) in
      ap (λ ps. with_sites t (sites_made r ps)) (parts-For line marked first cond step body)
      ∙ ap (with_sites t) (sites_of-append r (parts_all first) (loop_parts line step body))
      ∙ with_sites-append t a (sites_made r (loop_parts line step body)) ∙ loop_sites (with_sites t a) r line step body

pub ruleset site_forms = (site-If, site-While, site-For, with_sites-none)

-- ---- one item of a list after the other

pub locals_more : (scope : VarScope) (v : Variables) (s : RawStmt) (rest : List RawStmt) → with_variables v (locals_of scope (parts_all (s ∷ rest)))
    ≡ with_variables (with_variables v (locals_of scope (parts s))) (locals_of scope (parts_all rest))
locals_more scope v s rest = ap (with_variables v) (locals_of-append scope (parts s) (parts_all rest)) ∙ with_variables-append v (locals_of scope (parts s))
    (locals_of scope (parts_all rest))

pub sites_more : (r : ℕ) (t : Sites) (s : RawStmt) (rest : List RawStmt) → with_sites t (sites_made r (parts_all (s ∷ rest)))
    ≡ with_sites (with_sites t (sites_made r (parts s))) (sites_made r (parts_all rest))
sites_more r t s rest =
    ap (with_sites t) (sites_of-append r (parts s) (parts_all rest)) ∙ with_sites-append t (sites_made r (parts s)) (sites_made r (parts_all rest))

pub flat_more : {A : Type 0} (g : A → List VarInfo) (v : Variables) (x : A) (rest : List A) → with_variables v (flat_map g (x ∷ rest)) ≡ with_variables
    (with_variables v (g x)) (flat_map g rest)
flat_more g v x rest = with_variables-append v (g x) (flat_map g rest)

pub flat_sites_more : {A : Type 0} (g : A → List SiteInfo) (t : Sites) (x : A) (rest : List A) →
    with_sites t (flat_map g (x ∷ rest)) ≡ with_sites (with_sites t (g x)) (flat_map g rest)
flat_sites_more g t x rest = with_sites-append t (g x) (flat_map g rest)

pub params_more : (v : Variables) (x : Name) (rest : List Name) → with_variables v (locals_of Outer (map Local (x ∷ rest)))
    ≡ with_variables (with_variables v (scalar_info x (pos 0) Outer ∷ [])) (locals_of Outer (map Local rest))
params_more v x rest = with_variables-append v (scalar_info x (pos 0) Outer ∷ []) (locals_of Outer (map Local rest))

pub function_variables : (v : Variables) (params : List Name) (body : List RawStmt) → with_variables v (locals_of Outer (function_parts params body))
    ≡ with_variables (with_variables v (locals_of Outer (map Local params))) (locals_of Outer (parts_all body))
function_variables v params body =
    ap (with_variables v) (locals_of-append Outer (map Local params) (parts_all body)) ∙ with_variables-append v (locals_of Outer (map Local params))
    (locals_of Outer (parts_all body))

pub function_sites : (params : List Name) (body : List RawStmt) → sites_made 0 (function_parts params body) ≡ sites_made 0 (parts_all body)
function_sites [] body = refl
function_sites (x ∷ params) body = function_sites params body

-- a loop over `main` carries the table and the number of the next region
pub record VariablesAt : Type 0 where
  pub table : Variables
  pub region : ℕ

abbrev pub locals_rest : VariablesAt → List RawStmt → Variables
locals_rest m all = with_variables m.table (main_locals m.region all)

abbrev pub locals_step : VariablesAt → RawStmt → VariablesAt
locals_step m s = record { table = with_variables m.table (top_locals m.region s); region = after_top m.region s }

pub main_locals_more : (m : VariablesAt) (s : RawStmt) (rest : List RawStmt) → locals_rest m (s ∷ rest) ≡ locals_rest (locals_step m s) rest
main_locals_more m s rest = with_variables-append m.table (top_locals m.region s) (main_locals (after_top m.region s) rest)

pub record SitesAt : Type 0 where
  pub table : Sites
  pub region : ℕ

abbrev pub sites_rest : SitesAt → List RawStmt → Sites
sites_rest m all = with_main m.table m.region all

abbrev pub sites_step : SitesAt → RawStmt → SitesAt
sites_step m s = record { table = with_top m.table m.region s; region = after_top m.region s }

pub main_sites_more : (m : SitesAt) (s : RawStmt) (rest : List RawStmt) → sites_rest m (s ∷ rest) ≡ sites_rest (sites_step m s) rest
main_sites_more m s rest = with_main-more m.table m.region s rest
