-- Where a region stands among the statements of `main` of an inlined program, and its entry: its sites go up one by one from the entry's first.
use Rattle.std.proofs.Common.{◌≡◌, refl, sym, ap, subst, ◌∙◌, ℕ, suc, ◌+◌, ◌-◌, ◌<◌, ◌≤◌, ◌==◌, Bool, true, false, if◌then◌else◌, List, [], ◌∷◌, map, filter}
use Rattle.std.proofs.Common.{length, length-append, Some, slice_get, inl, inr, ◌⊎◌, arith, eq-eqb, eqb-true, ne_eqb}
use Rattle.std.proofs.lemmas.Bool.{and_parts, cases_eq}
use Rattle.std.proofs.lemmas.List.{length-map}
use Rattle.dp_base.specs.declared.SiteId.{SiteId}
use Rattle.dp_tree.specs.declared.Expr.{Expr}
use Rattle.dp_tree.specs.declared.RegionInfo.{RegionInfo}
use Rattle.dp_tree.specs.declared.Stmt.{Stmt, out-Stmt}
use Rattle.dp_tree.specs.declared.Stmt.TheBlock.{hidden-the_row-Stmt-0}
use Rattle.dp_tree.specs.declared.Stmt.TheOpen.{Region}
use Rattle.dp_tree.specs.declared.Stmt.TheVariants as tree
use Rattle.dp_tree.specs.Iteration.{is_region}
use Rattle.dp_tree.specs.Numbering.{has_numbers, is_inner_in, listed_first, next_region, regions_in_order, regions_listed, site_numbers, site_numbers_all}
use Rattle.dp_tree.specs.Numbering.{top_fits}
use Rattle.dp_plan.specs.Access.{accesses, is_region_at}
use Rattle.dp_plan.specs.Written.{access_site}
use Rattle.dp_plan.proofs.Ascent.{Ascends, ascends_split}
use Rattle.dp_plan.proofs.TopStatements.{Top, marked, unmarked, top, sites_are}

-- the region's statement, the only one of its number, and its entry
pub record RegionAt (r : ℕ) (main : List Stmt) (entry : RegionInfo) : Type 0 where
  pub statement : Stmt
  pub site : SiteId
  pub cond : Expr
  pub body : List Stmt
  pub only : filter (is_region_at r) main ≡ statement ∷ []
  pub is : out-Stmt statement ≡ Region r site cond body
  pub made : statement ≡ tree.Region r site cond body
  pub plain : is_inner_in (hidden-the_row-Stmt-0 body) ≡ true
  pub sites : Ascends entry.first.0 (map access_site (accesses statement))
  pub last : suc entry.last.0 ≡ entry.first.0 + length (accesses statement)

-- region r isn't there, or is, where the regions are numbered from k on and the sites from `first` on
pub data Sought (r k first : ℕ) (main : List Stmt) (entries : List RegionInfo) : Type 0 where
  absent : filter (is_region_at r) main ≡ [] → (k ≤ r → r < k + length entries → ⊥) → Sought r k first main entries
  present : (entry : RegionInfo) → k ≤ r → slice_get entries (r - k) ≡ Some entry → (region : RegionAt r main entry) → first ≤ entry.first.0
      → entry.first.0 + length (accesses region.statement) ≤ first + length (site_numbers_all main) → Sought r k first main entries

-- the numbers of the entry are those of the sites
entry_sites : (entry : RegionInfo) (first : ℕ) (sites : List ℕ) → has_numbers entry sites ≡ true → Ascends first sites → (entry.first.0 ≡ first)
    × (suc entry.last.0 ≡ entry.first.0 + length sites)
entry_sites entry first [] e order = absurd (cc)
entry_sites entry first (n ∷ rest) e order =
    let both = and_parts (entry.first.0 == n) (entry.last.0 == n + length rest) e in
    let from : entry.first.0 ≡ n = eqb-true entry.first.0 n both.0 in
    let up : entry.last.0 ≡ n + length rest = eqb-true entry.last.0 (n + length rest) both.1 in
    (from ∙ order.0, omega (arith, from, up))

module _ (x : Stmt) (rest : List Stmt) (r k first : ℕ) (off : is_region_at r x ≡ false) where
  same : filter (is_region_at r) (x ∷ rest) ≡ filter (is_region_at r) rest
  same = ap (λ (b : Bool). if b then x ∷ filter (is_region_at r) rest else filter (is_region_at r) rest) off

  room : first + length (site_numbers_all (x ∷ rest)) ≡ (first + length (site_numbers x)) + length (site_numbers_all rest)
  room = let e : length (site_numbers_all (x ∷ rest)) ≡ length (site_numbers x) + length (site_numbers_all rest) = length-append (site_numbers x)
      (site_numbers_all rest) in omega (arith, e)

  with_one : (entry : RegionInfo) → RegionAt r rest entry → RegionAt r (x ∷ rest) entry
  with_one entry found = record {
    statement = found.statement;
    site = found.site;
    cond = found.cond;
    body = found.body;
    only = same ∙ found.only;
    is = found.is;
    made = found.made;
    plain = found.plain;
    sites = found.sites;
    last = found.last;
  }

  as_long : (entry : RegionInfo) (found : RegionAt r rest entry) → length (accesses (with_one entry found).statement) ≡ length (accesses found.statement)
  unfolding with_one
  as_long entry found = refl

  past_unmarked : (entries : List RegionInfo) → Sought r k (first + length (site_numbers x)) rest entries → Sought r k first (x ∷ rest) entries
  past_unmarked entries (absent none out) = absent (same ∙ none) out
  past_unmarked entries (present entry from at found low high) =
      present entry from at (with_one entry found) (omega (arith, low)) (omega (arith, high, room, as_long entry found))

  past_marked : (entry : RegionInfo) (entries : List RegionInfo) → (r ≡ k → ⊥) → Sought r (suc k) (first + length (site_numbers x)) rest entries →
      Sought r k first (x ∷ rest) (entry ∷ entries)
  past_marked entry entries differ (absent none out) = absent (same ∙ none) (λ low high. out (omega (arith, low, differ)) (omega (arith, high)))
  past_marked entry entries differ (present found from at region low high) =
      let place : r - k ≡ suc (r - suc k) = omega (arith, from) in
      present found (omega (arith, from)) (ap (slice_get (entry ∷ entries)) place ∙ at) (with_one found region) (omega (arith, low))
      (omega (arith, high, room, as_long found region))

only_here : (k first : ℕ) (rest : List Stmt) (entries : List RegionInfo) → Sought k (suc k) first rest entries → filter (is_region_at k) rest ≡ []
only_here k first rest entries (absent none out) = none
only_here k first rest entries (present entry from at found low high) = absurd (omega (arith, from))

-- the search in a list of statements
abbrev Finds : List Stmt → Type 0
Finds main = (k first : ℕ) (entries : List RegionInfo) → regions_in_order k main ≡ true → regions_listed main entries ≡ true →
    Ascends first (site_numbers_all main) → (r : ℕ) → Sought r k first main entries

find_marked : (x : Stmt) (rest : List Stmt) (q : ℕ) (site : SiteId) (cond : Expr) (body : List Stmt) → out-Stmt x ≡ Region q site cond body →
    x ≡ tree.Region q site cond body → is_inner_in (hidden-the_row-Stmt-0 body) ≡ true → (k first : ℕ) → q ≡ k →
    (entries : List RegionInfo) → listed_first true x (regions_listed rest) entries ≡ true → Ascends first (site_numbers_all (x ∷ rest)) →
    ((entries : List RegionInfo) → regions_listed rest entries ≡ true → (r : ℕ) → Sought r (suc k) (first + length (site_numbers x)) rest entries) →
    (r : ℕ) → Sought r k first (x ∷ rest) entries
find_marked x rest q site cond body is made plain k first at [] listed up later r = absurd (cc)
find_marked x rest q site cond body is made plain k first at (entry ∷ entries) listed up later r = by (cases_eq r k)
  where
    parts : (has_numbers entry (site_numbers x) ≡ true) × (regions_listed rest entries ≡ true)
    parts = and_parts (has_numbers entry (site_numbers x)) (regions_listed rest entries) listed

    order : Ascends first (site_numbers x)
    order = (ascends_split first (site_numbers x) (site_numbers_all rest) up).0

    numbers : (entry.first.0 ≡ first) × (suc entry.last.0 ≡ entry.first.0 + length (site_numbers x))
    numbers = entry_sites entry first (site_numbers x) parts.0 order

    many : length (site_numbers x) ≡ length (accesses x)
    many = ap length (sites_are x) ∙ length-map (accesses x) access_site

    all : length (site_numbers_all (x ∷ rest)) ≡ length (site_numbers x) + length (site_numbers_all rest)
    all = length-append (site_numbers x) (site_numbers_all rest)

    number : (n : ℕ) → is_region_at n x ≡ (q == n)
    number n = ap (is_region n) is

    here : r ≡ k → RegionAt r (x ∷ rest) entry
    here e = let on : r ≡ q = e ∙ sym at in record {
      statement = x;
      site = site;
      cond = cond;
      body = body;
      only = ap (λ (b : Bool). if b then x ∷ filter (is_region_at r) rest else filter (is_region_at r) rest) (number r ∙ eq-eqb q r (sym on))
          ∙ ap (λ (xs : List Stmt). x ∷ xs) (subst (λ (n : ℕ). filter (is_region_at n) rest ≡ []) (sym e)
          (only_here k _ rest entries (later entries parts.1 k)));
      is = is ∙ ap (λ (n : ℕ). Region n site cond body) (sym on);
      made = made ∙ ap (λ (n : ℕ). tree.Region n site cond body) (sym on);
      plain = plain;
      sites = subst (λ (ns : List ℕ). Ascends entry.first.0 ns) (sites_are x) (subst (λ (i : ℕ). Ascends i (site_numbers x)) (sym numbers.0) order);
      last = omega (arith, numbers.1, many);
    }

    by : (r ≡ k) ⊎ (r ≡ k → ⊥) → Sought r k first (x ∷ rest) (entry ∷ entries)
    by (inl e) =
        let place : r - k ≡ 0 = omega (arith, e) in
        present entry (omega (arith, e)) (ap (slice_get (entry ∷ entries)) place) (here e) (omega (arith, numbers.0)) (omega (arith, numbers.0, many, all))
    by (inr e) = past_marked x rest r k first (number r ∙ ne_eqb q r (λ s. e (sym s ∙ at))) entry entries e (later entries parts.1 r)

pub find_region : (main : List Stmt) → Finds main
find_region [] k first [] order listed up r = absent refl (λ low high. omega (arith, low, high))
find_region [] k first (entry ∷ entries) order listed up r = absurd (cc)
find_region (x ∷ rest) k first entries order listed up r = by (top x) (find_region rest)
  where
    parts : (top_fits k x ≡ true) × (regions_in_order (next_region k x) rest ≡ true)
    parts = and_parts (top_fits k x) (regions_in_order (next_region k x) rest) order

    behind : Ascends (first + length (site_numbers x)) (site_numbers_all rest)
    behind = (ascends_split first (site_numbers x) (site_numbers_all rest) up).1

    by : Top x → Finds rest → Sought r k first (x ∷ rest) entries
    by (unmarked none off next fits) go = past_unmarked x rest r k first (none r) entries
        (go k (first + length (site_numbers x)) entries (ap (λ (n : ℕ). regions_in_order n rest) (sym (next k)) ∙ parts.1)
        (ap (λ (b : Bool). listed_first b x (regions_listed rest) entries) (sym off) ∙ listed) behind r)
    by (marked q site cond body is made on next fits) go =
        let fit = and_parts (q == k) (is_inner_in (hidden-the_row-Stmt-0 body)) (sym (fits k) ∙ parts.0) in
        let one : k + 1 ≡ suc k = omega arith in
        find_marked x rest q site cond body is made fit.1 k first (eqb-true q k fit.0) entries
        (ap (λ (b : Bool). listed_first b x (regions_listed rest) entries) (sym on) ∙ listed) up
        (λ more later n. go (suc k) (first + length (site_numbers x)) more (ap (λ (i : ℕ). regions_in_order i rest) (sym (next k ∙ one))
        ∙ parts.1) later behind n) r
