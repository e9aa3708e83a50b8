-- The sites of an expanded program are numbered in text order.
use Rattle.std.proofs.Common.{◌≡◌, refl, sym, ap, ap₂, ◌∙◌, ℕ, zero, suc, ◌+◌, ◌-◌, ◌<◌, ◌≤◌, Bool, true, false, ◌&&◌, List, [], ◌∷◌, ◌++◌, length}
use Rattle.std.proofs.Common.{length-append, append-nil, Option, slice_get, get_or, nat_lt, arith}
use Rattle.std.specs.List.{list_all, flat_map}
use Rattle.std.proofs.lemmas.Bool.{ltb-true, lt-ltb}
use Rattle.std.proofs.lemmas.Option.{slice_get-get_or}
use Rattle.dp_base.specs.declared.SiteId.{SiteId}
use Rattle.dp_base.specs.declared.VarId.{VarId}
use Rattle.dp_tree.specs.declared.Expr.{Expr}
use Rattle.dp_tree.specs.declared.Stmt.{Stmt, Row_of-Stmt, end_of-Stmt, more_of-Stmt}
use Rattle.dp_tree.specs.declared.Stmt.TheVariants as stmt
use Rattle.dp_tree.specs.declared.Function.{Function}
use Rattle.dp_tree.specs.declared.SiteInfo.{SiteInfo}
use Rattle.dp_tree.specs.declared.SiteKind.TheVariants.{Assign}
use Rattle.dp_tree.specs.declared.Program.{Program}
use Rattle.dp_tree.specs.Functions.{body_in, params_in}
use Rattle.dp_tree.specs.Numbering.{site_numbers, site_numbers_in, site_numbers_all, numbers_from}
use Rattle.dp_tree.specs.Checked.{IsChecked}
use Rattle.dp_tree.proofs.Heads.{and_true, and_make}
use Rattle.dp_calls.specs.Renaming.{Renamed, named_in, renamed}
use Rattle.dp_calls.specs.Tables.{Tables, first_tables, with_local, with_site, with_source_site, site_entry, new_site}
use Rattle.dp_calls.specs.Expand.{Piece, Calls, expand, bindings, declared_by, declared_in, is_known, expand_one, expand_rows, expand_list, calls_within}
use Rattle.dp_tree.proofs.NumberLists.{numbers_from-append}
use Rattle.dp_tree.proofs.SiteForms.{numbers-If, numbers-While, numbers-Region, numbers_both}

-- from these tables on, so many sites come next in order
abbrev pub Numbers : Tables → List ℕ → Tables → ℕ → Type 0
Numbers t numbers after n = (numbers ≡ numbers_from (suc (length t.sites)) n) × (length after.sites ≡ length t.sites + n)

abbrev pub Numbered : Tables → Piece → Type 0
Numbered t a = (n : ℕ) × Numbers t (site_numbers_all a.code) a.tables n

none_numbered : (names : List Renamed) (t : Tables) → Numbered t (record { code = []; names = names; tables = t })
none_numbered names t = let e : length t.sites ≡ length t.sites + 0 = omega arith in (0, (refl, e))

both_numbers : (t u v : Tables) (ms ns : List ℕ) (m n : ℕ) → Numbers t ms u m → Numbers u ns v n → Numbers t (ms ++ ns) v (m + n)
both_numbers t u v ms ns m n h k =
    let e : suc (length u.sites) ≡ suc (length t.sites) + m = let g = h.1 in omega (arith, g) in
    let l : length v.sites ≡ length t.sites + (m + n) = let g = h.1 in let f = k.1 in omega (arith, g, f) in (
      ap₂ (λ (xs ys : List ℕ). xs ++ ys) h.0 k.0 ∙ ap (λ j. numbers_from (suc (length t.sites)) m ++ numbers_from j n) e ∙ sym (numbers_from-append
          (suc (length t.sites)) m n),
      l,
    )

-- a site, and then these
first_numbers : (t u v : Tables) (ns : List ℕ) (n : ℕ) → length u.sites ≡ suc (length t.sites) → Numbers u ns v n →
    Numbers t (suc (length t.sites) ∷ ns) v (suc n)
first_numbers t u v ns n grown k =
    let e : suc (length u.sites) ≡ suc (length t.sites) + 1 = omega (arith, grown) in
    let l : length v.sites ≡ length t.sites + suc n = let f = k.1 in omega (arith, grown, f) in
    (ap (λ (xs : List ℕ). suc (length t.sites) ∷ xs) (k.0 ∙ ap (λ j. numbers_from j n) e), l)

one_number : (t u : Tables) → length u.sites ≡ suc (length t.sites) → Numbers t (suc (length t.sites) ∷ []) u 1
one_number t u grown = let l : length u.sites ≡ length t.sites + 1 = omega (arith, grown) in (refl, l)

joined : (t : Tables) (a b : Piece) → Numbered t a → Numbered a.tables b → Numbered t (record b { code = a.code ++ b.code })
joined t a b h k =
    let both = both_numbers t a.tables b.tables (site_numbers_all a.code) (site_numbers_all b.code) h.0 k.0 h.1 k.1 in
    (h.0 + k.0, (numbers_both a.code b.code ∙ both.0, both.1))

-- the statement's own numbers are all that it stands for
alone_numbers : (t after : Tables) (s : Stmt) (numbers : List ℕ) (n : ℕ) → site_numbers s ≡ numbers → Numbers t numbers after n →
    Numbers t (site_numbers_all (s ∷ [])) after n
alone_numbers t after s numbers n e h = (append-nil (site_numbers s) ∙ e ∙ h.0, h.1)

module _ (p : Program) where
  -- the number is one of the table
  abbrev pub is_site : ℕ → Bool
  is_site n = nat_lt 0 n && nat_lt (n - 1) (length p.sites)

  abbrev pub Listed : List ℕ → Type 0
  Listed numbers = list_all is_site numbers ≡ true

  pub listed_parts : (a b : List ℕ) → Listed (a ++ b) → Listed a × Listed b
  listed_parts [] b h = (refl, h)
  listed_parts (x ∷ a) b h =
      let both = and_true (is_site x) (list_all is_site (a ++ b)) h in let rest = listed_parts a b both.1 in
      (and_make (is_site x) (list_all is_site a) both.0 rest.0, rest.1)

  pub grows : (r : ℕ) (site : SiteId) (t : Tables) → is_site site.0 ≡ true → length (with_source_site p r site t).sites ≡ suc (length t.sites)
  grows r site t h =
      let below = ltb-true (site.0 - 1) (length p.sites) (and_true (nat_lt 0 site.0) (nat_lt (site.0 - 1) (length p.sites)) h).1 in
      let none : SiteInfo = record { line = 0; kind = Assign; region = 0 } in
      let found = slice_get-get_or p.sites (site.0 - 1) none below in
      let e = length-append t.sites (record (get_or p.sites (site.0 - 1) none) { region = r } ∷ []) in
      let more : length (t.sites ++ record (get_or p.sites (site.0 - 1) none) { region = r } ∷ []) ≡ suc (length t.sites) = omega (arith, e) in
      ap (λ (o : Option SiteInfo). length (t.sites ++ site_entry o r)) found ∙ more

  pub declared_sites : (b : Bool) (r x : ℕ) (names : List Renamed) (t : Tables) → (declared_by b p r x names t).tables.sites ≡ t.sites
  declared_sites true r x names t = refl
  declared_sites false r x names t = refl

  numbered_bindings : (r line : ℕ) (caller : List Renamed) (params : List VarId) (args : List Expr) (names : List Renamed) (t : Tables) →
      Numbered t (bindings p r line caller params args names t)
  numbered_bindings r line caller (x ∷ params) (e ∷ args) names t =
      let info : SiteInfo = record { line = line; kind = Assign; region = r } in let u = with_local p r x.0 (with_site info t) in
      let more : List Renamed = record { source = x.0; target = length t.vars } ∷ names in
      let after = bindings p r line caller params args more u in let rest = numbered_bindings r line caller params args more u in
      let grown : length u.sites ≡ suc (length t.sites) = let g = length-append t.sites (info ∷ []) in omega (arith, g) in
      (suc rest.0, first_numbers t u after.tables (site_numbers_all after.code) rest.0 grown rest.1)
  numbered_bindings r line caller _ _ names t = none_numbered names t

  module _ (calls : Calls) (called : (f r : ℕ) (names : List Renamed) (t : Tables) → Numbered t (calls f r names t)) where
    mutual
      pub numbered_one : (r : ℕ) (s : Stmt) (names : List Renamed) (t : Tables) → Listed (site_numbers s) → Numbered t (expand_one p calls r s names t)
      numbered_one r (stmt.Assign site x e) names t h =
          let u = with_source_site p r site t in let same = declared_sites (is_known p (named_in names x.0) x.0) r x.0 names u in
          let grown : length (declared_in p r x.0 names u).tables.sites ≡ suc (length t.sites) = ap length same
          ∙ grows r site t (and_true (is_site site.0) true h).0 in
          (1, one_number t (declared_in p r x.0 names u).tables grown)
      numbered_one r (stmt.Store site x index e) names t h =
          (1, one_number t (with_source_site p r site t) (grows r site t (and_true (is_site site.0) true h).0))
      numbered_one r (stmt.Print site e) names t h = (1, one_number t (with_source_site p r site t) (grows r site t (and_true (is_site site.0) true h).0))
      numbered_one r (stmt.Break site e) names t h = (1, one_number t (with_source_site p r site t) (grows r site t (and_true (is_site site.0) true h).0))
      numbered_one r (stmt.If' site cond _ a _ b) names t h =
          let u = with_source_site p r site t in
          let own = and_true (is_site site.0) (list_all is_site (site_numbers_in a ++ site_numbers_in b)) h in
          let parts = listed_parts (site_numbers_in a) (site_numbers_in b) own.1 in
          let left = expand_rows p calls r a names u in let right = expand_rows p calls r b left.names left.tables in
          let l = numbered_rows r a names u parts.0 in let m = numbered_rows r b left.names left.tables parts.1 in
          let both = both_numbers u left.tables right.tables (site_numbers_all left.code) (site_numbers_all right.code) l.0 m.0 l.1 m.1 in
          let s = stmt.If (new_site t) (renamed names cond) left.code right.code in (
            suc (l.0 + m.0),
            alone_numbers t right.tables s _ (suc (l.0 + m.0)) (numbers-If (new_site t) (renamed names cond) left.code
                right.code) (first_numbers t u right.tables _ (l.0 + m.0) (grows r site t own.0) both),
          )
      numbered_one r (stmt.While' site cond _ a) names t h =
          let u = with_source_site p r site t in let own = and_true (is_site site.0) (list_all is_site (site_numbers_in a)) h in
          let body = expand_rows p calls r a names u in let l = numbered_rows r a names u own.1 in (
            suc l.0,
            alone_numbers t body.tables (stmt.While (new_site t) (renamed names cond) body.code) _ (suc l.0) (numbers-While (new_site t)
                (renamed names cond) body.code) (first_numbers t u body.tables _ l.0 (grows r site t own.0) l.1),
          )
      numbered_one r (stmt.Region' q site cond _ a) names t h =
          let u = with_source_site p q site t in let own = and_true (is_site site.0) (list_all is_site (site_numbers_in a)) h in
          let body = expand_rows p calls q a names u in let l = numbered_rows q a names u own.1 in (
            suc l.0,
            alone_numbers t body.tables (stmt.Region q (new_site t) (renamed names cond) body.code) _ (suc l.0) (numbers-Region q (new_site t)
                (renamed names cond) body.code) (first_numbers t u body.tables _ l.0 (grows q site t own.0) l.1),
          )
      numbered_one r (stmt.Call f line args) names t h =
          let params = params_in (slice_get p.functions f) in let bound = bindings p r line names params args [] t in
          joined t bound (calls f r bound.names bound.tables) (numbered_bindings r line names params args [] t) (called f r bound.names bound.tables)

      pub numbered_rows : {n : _} (r : ℕ) (rows : Row_of-Stmt n) (names : List Renamed) (t : Tables) → Listed (site_numbers_in rows) →
          Numbered t (expand_rows p calls r rows names t)
      numbered_rows r end_of-Stmt names t h = none_numbered names t
      numbered_rows r (more_of-Stmt s rest) names t h =
          let parts = listed_parts (site_numbers s) (site_numbers_in rest) h in let one = expand_one p calls r s names t in
          joined t one (expand_rows p calls r rest one.names one.tables) (numbered_one r s names t parts.0) (numbered_rows r rest one.names one.tables parts.1)

    pub numbered_list : (r : ℕ) (all : List Stmt) (names : List Renamed) (t : Tables) → Listed (site_numbers_all all) →
        Numbered t (expand_list p calls r all names t)
    numbered_list r [] names t h = none_numbered names t
    numbered_list r (s ∷ rest) names t h =
        let parts = listed_parts (site_numbers s) (site_numbers_all rest) h in let one = expand_one p calls r s names t in
        joined t one (expand_list p calls r rest one.names one.tables) (numbered_one r s names t parts.0) (numbered_list r rest one.names one.tables parts.1)

  listed_from : (first n : ℕ) → 0 < first → first + n ≤ suc (length p.sites) → Listed (numbers_from first n)
  listed_from first zero pos within = refl
  listed_from first (suc n) pos within =
      and_make (is_site first) (list_all is_site (numbers_from (first + 1) n))
      (and_make (nat_lt 0 first) (nat_lt (first - 1) (length p.sites)) (lt-ltb 0 first pos) (lt-ltb (first - 1) (length p.sites) (omega arith)))
      (listed_from (first + 1) n (omega arith) (omega arith))

  pub listed_body : (fs : List Function) (f : ℕ) → Listed (flat_map (λ fn. site_numbers_all fn.body) fs) → Listed (site_numbers_all (body_in (slice_get fs f)))
  listed_body [] f h = refl
  listed_body (fn ∷ fs) zero h = (listed_parts (site_numbers_all fn.body) (flat_map (λ fn. site_numbers_all fn.body) fs) h).0
  listed_body (fn ∷ fs) (suc f) h = listed_body fs f (listed_parts (site_numbers_all fn.body) (flat_map (λ fn. site_numbers_all fn.body) fs) h).1

  module _ (checked : IsChecked p) where
    pub all_listed : Listed (site_numbers_all p.main) × Listed (flat_map (λ fn. site_numbers_all fn.body) p.functions)
    all_listed = listed_parts (site_numbers_all p.main) (flat_map (λ fn. site_numbers_all fn.body) p.functions) (ap (list_all is_site) checked.sites
        ∙ listed_from 1 (length p.sites) (omega arith) (omega arith))

    pub numbered_within : (depth f r : ℕ) (names : List Renamed) (t : Tables) → Numbered t (calls_within p depth f r names t)
    numbered_within zero f r names t = none_numbered names t
    numbered_within (suc depth) f r names t =
        numbered_list (calls_within p depth) (numbered_within depth) r (body_in (slice_get p.functions f)) names t (listed_body p.functions f all_listed.1)

    pub sites_in_order : site_numbers_all (expand p).main ≡ numbers_from 1 (length (expand p).sites)
    sites_in_order =
        let whole = numbered_list (calls_within p (length p.functions)) (numbered_within (length p.functions)) 0 p.main [] (first_tables p) all_listed.0 in
        let e : length (expand p).sites ≡ whole.0 = let g = whole.1.1 in omega (arith, g) in
        whole.1.0 ∙ ap (numbers_from 1) (sym e)
