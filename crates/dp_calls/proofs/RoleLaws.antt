-- The table of an expanded program has the kind and the region of each site.
use Rattle.std.proofs.Common.{◌≡◌, refl, sym, ap, ◌∙◌, subst, ℕ, zero, suc, ◌+◌, ◌-◌, ◌<◌, List, [], ◌∷◌, ◌++◌, map, length, length-append, append_assoc}
use Rattle.std.proofs.Common.{append-nil, Option, Some, slice_get, arith}
use Rattle.std.specs.List.{flat_map}
use Rattle.std.proofs.lemmas.List.{map-append}
use Rattle.dp_base.specs.declared.SiteId.{SiteId}
use Rattle.dp_base.specs.declared.VarId.{VarId}
use Rattle.dp_tree.specs.declared.Expr.{Expr}
use Rattle.dp_tree.specs.declared.Stmt.{Stmt, Row_of-Stmt, end_of-Stmt, more_of-Stmt}
use Rattle.dp_tree.specs.declared.Stmt.TheVariants as stmt
use Rattle.dp_tree.specs.declared.Function.{Function}
use Rattle.dp_tree.specs.declared.SiteInfo.{SiteInfo}
use Rattle.dp_tree.specs.declared.SiteKind.{SiteKind}
use Rattle.dp_tree.specs.declared.SiteKind.TheVariants as kind
use Rattle.dp_tree.specs.declared.Program.{Program}
use Rattle.dp_tree.specs.Functions.{body_in, params_in}
use Rattle.dp_tree.specs.Numbering.{site_numbers, site_numbers_in, site_numbers_all, numbers_from}
use Rattle.dp_tree.specs.SiteTable.{role_of, site_roles, site_roles_in, site_roles_all}
use Rattle.dp_tree.specs.Checked.{IsChecked}
use Rattle.dp_calls.specs.Renaming.{Renamed, named_in, renamed}
use Rattle.dp_calls.specs.Tables.{Tables, first_tables, with_local, with_site, with_source_site, site_entry, new_site}
use Rattle.dp_calls.specs.Expand.{Piece, Calls, expand, bindings, is_known, expand_one, expand_rows, expand_list, calls_within}
use Rattle.dp_calls.proofs.CheckedTexts.{numbers_in_functions}
use Rattle.dp_calls.proofs.SiteLaws.{declared_sites}
use Rattle.dp_tree.proofs.SiteForms.{roles-If, roles-While, roles-Region, roles_both}

abbrev Roles : Type 0
Roles = List (SiteKind × ℕ)

length-both : (a b : List ℕ) (c d : Roles) → length a ≡ length c → length b ≡ length d → length (a ++ b) ≡ length (c ++ d)
length-both a b c d e f = let g = length-append a b in let h = length-append c d in omega (arith, e, f, g, h)

-- each site has a number and a role
mutual
  as_many : (r : ℕ) (s : Stmt) → length (site_numbers s) ≡ length (site_roles r s)
  as_many r (stmt.If' site cond _ a _ b) =
      ap suc (length-both (site_numbers_in a) (site_numbers_in b) (site_roles_in r a) (site_roles_in r b) (as_many_in r a) (as_many_in r b))
  as_many r (stmt.While' site cond _ a) = ap suc (as_many_in r a)
  as_many r (stmt.Region' q site cond _ a) = ap suc (as_many_in q a)
  as_many r _ = refl

  as_many_in : {n : _} (r : ℕ) (rows : Row_of-Stmt n) → length (site_numbers_in rows) ≡ length (site_roles_in r rows)
  as_many_in r end_of-Stmt = refl
  as_many_in r (more_of-Stmt s rest) =
      length-both (site_numbers s) (site_numbers_in rest) (site_roles r s) (site_roles_in r rest) (as_many r s) (as_many_in r rest)

as_many_all : (r : ℕ) (all : List Stmt) → length (site_numbers_all all) ≡ length (site_roles_all r all)
as_many_all r [] = refl
as_many_all r (s ∷ rest) = length-both (site_numbers s) (site_numbers_all rest) (site_roles r s) (site_roles_all r rest) (as_many r s) (as_many_all r rest)

-- from these tables on, sites of these roles come next
abbrev Told : Tables → Roles → Tables → Type 0
Told t roles after = map role_of after.sites ≡ map role_of t.sites ++ roles

abbrev ToldBy : ℕ → Tables → Piece → Type 0
ToldBy r t a = Told t (site_roles_all r a.code) a.tables

told_none : (t : Tables) → Told t [] t
told_none t = sym (append-nil (map role_of t.sites))

told_both : (t u v : Tables) (ks ls : Roles) → Told t ks u → Told u ls v → Told t (ks ++ ls) v
told_both t u v ks ls h k = k ∙ ap (λ (ms : Roles). ms ++ ls) h ∙ append_assoc (map role_of t.sites) ks ls

told_joined : (r : ℕ) (t : Tables) (a b : Piece) → ToldBy r t a → ToldBy r a.tables b → ToldBy r t (record b { code = a.code ++ b.code })
told_joined r t a b h k =
    told_both t a.tables b.tables (site_roles_all r a.code) (site_roles_all r b.code) h k
    ∙ ap (λ (ks : Roles). map role_of t.sites ++ ks) (sym (roles_both r a.code b.code))

-- the statement's own sites are all that it stands for
told_alone : (r : ℕ) (t after : Tables) (s : Stmt) (ks : Roles) → site_roles r s ≡ ks → Told t ks after → Told t (site_roles_all r (s ∷ [])) after
told_alone r t after s ks e h = h ∙ ap (λ (ls : Roles). map role_of t.sites ++ ls) (sym e ∙ sym (append-nil (site_roles r s)))

module _ (p : Program) where
  -- the table has an entry of this kind at this number
  abbrev Entry : ℕ → SiteKind → Type 0
  Entry n k = (info : SiteInfo) × ((slice_get p.sites (n - 1) ≡ Some info) × (info.kind ≡ k))

  -- the table has an entry of each kind at its number
  abbrev Entries : List ℕ → Roles → Type 0
  Entries [] [] = Unit {0}
  Entries (n ∷ ns) (k ∷ ks) = Entry n k.0 × Entries ns ks
  Entries _ _ = ⊥

  entries_parts : (a b : List ℕ) (c d : Roles) → length a ≡ length c → Entries (a ++ b) (c ++ d) → Entries a c × Entries b d
  entries_parts [] b [] d e h = (tt, h)
  entries_parts (n ∷ a) b (k ∷ c) d e h = let rest = entries_parts a b c d (omega (arith, e)) h.1 in ((h.0, rest.0), rest.1)
  entries_parts _ b _ d e h = absurd (omega (arith, e))

  entries_from : (first : ℕ) (infos : List SiteInfo) → 0 < first → ((j : ℕ) → slice_get p.sites (first - 1 + j) ≡ slice_get infos j) →
      Entries (numbers_from first (length infos)) (map role_of infos)
  entries_from first [] low at = tt
  entries_from first (info ∷ infos) low at =
      let here : first - 1 ≡ first - 1 + 0 = omega arith in
      let next : (j : ℕ) → first + 1 - 1 + j ≡ first - 1 + suc j = λ j. omega (arith, low) in
      ((info, (ap (slice_get p.sites) here ∙ at 0, refl)), entries_from (first + 1) infos (omega arith) (λ j. ap (slice_get p.sites) (next j) ∙ at (suc j)))

  told_source : (r : ℕ) (site : SiteId) (t : Tables) (k : SiteKind) → Entry site.0 k → Told t ((k, r) ∷ []) (with_source_site p r site t)
  told_source r site t k h =
      ap (λ (o : Option SiteInfo). map role_of (t.sites ++ site_entry o r)) h.1.0
      ∙ map-append role_of t.sites (record h.0 { region = r } ∷ [])
      ∙ ap (λ (j : SiteKind). map role_of t.sites ++ (j, r) ∷ []) h.1.1

  told_bindings : (r line : ℕ) (caller : List Renamed) (params : List VarId) (args : List Expr) (names : List Renamed) (t : Tables) →
      ToldBy r t (bindings p r line caller params args names t)
  told_bindings r line caller (x ∷ params) (e ∷ args) names t =
      let info : SiteInfo = record { line = line; kind = kind.Assign; region = r } in let u = with_local p r x.0 (with_site info t) in
      let more : List Renamed = record { source = x.0; target = length t.vars } ∷ names in
      let after = bindings p r line caller params args more u in
      told_both t u after.tables ((kind.Assign, r) ∷ []) (site_roles_all r after.code) (map-append role_of t.sites (info ∷ []))
      (told_bindings r line caller params args more u)
  told_bindings r line caller _ _ names t = told_none t

  module _ (calls : Calls) (called : (f r : ℕ) (names : List Renamed) (t : Tables) → ToldBy r t (calls f r names t)) where
    mutual
      told_one : (r q : ℕ) (s : Stmt) (names : List Renamed) (t : Tables) → Entries (site_numbers s) (site_roles q s) →
          ToldBy r t (expand_one p calls r s names t)
      told_one r q (stmt.Assign site x e) names t h =
          ap (map role_of) (declared_sites p (is_known p (named_in names x.0) x.0) r x.0 names (with_source_site p r site t))
          ∙ told_source r site t kind.Assign h.0
      told_one r q (stmt.Store site x index e) names t h = told_source r site t kind.Assign h.0
      told_one r q (stmt.Print site e) names t h = told_source r site t kind.Print h.0
      told_one r q (stmt.Break site cond) names t h = told_source r site t kind.Break h.0
      told_one r q (stmt.If' site cond _ a _ b) names t h =
          let u = with_source_site p r site t in
          let parts = entries_parts (site_numbers_in a) (site_numbers_in b) (site_roles_in q a) (site_roles_in q b) (as_many_in q a) h.1 in
          let left = expand_rows p calls r a names u in let right = expand_rows p calls r b left.names left.tables in
          let both = told_both u left.tables right.tables (site_roles_all r left.code) (site_roles_all r right.code) (told_rows r q a names u parts.0)
          (told_rows r q b left.names left.tables parts.1) in
          told_alone r t right.tables (stmt.If (new_site t) (renamed names cond) left.code right.code)
          ((kind.If, r) ∷ (site_roles_all r left.code ++ site_roles_all r right.code))
          (roles-If r (new_site t) (renamed names cond) left.code right.code)
          (told_both t u right.tables ((kind.If, r) ∷ []) (site_roles_all r left.code ++ site_roles_all r right.code) (told_source r site t kind.If h.0) both)
      told_one r q (stmt.While' site cond _ a) names t h =
          let u = with_source_site p r site t in let body = expand_rows p calls r a names u in
          told_alone r t body.tables (stmt.While (new_site t) (renamed names cond) body.code) ((kind.While, r) ∷ site_roles_all r body.code)
          (roles-While r (new_site t) (renamed names cond) body.code)
          (told_both t u body.tables ((kind.While, r) ∷ []) (site_roles_all r body.code) (told_source r site t kind.While h.0) (told_rows r q a names u h.1))
      told_one r _ (stmt.Region' q site cond _ a) names t h =
          let u = with_source_site p q site t in let body = expand_rows p calls q a names u in
          told_alone r t body.tables (stmt.Region q (new_site t) (renamed names cond) body.code) ((kind.While, q) ∷ site_roles_all q body.code)
          (roles-Region r q (new_site t) (renamed names cond) body.code)
          (told_both t u body.tables ((kind.While, q) ∷ []) (site_roles_all q body.code) (told_source q site t kind.While h.0) (told_rows q q a names u h.1))
      told_one r q (stmt.Call f line args) names t h =
          let params = params_in (slice_get p.functions f) in let bound = bindings p r line names params args [] t in
          told_joined r t bound (calls f r bound.names bound.tables) (told_bindings r line names params args [] t) (called f r bound.names bound.tables)

      told_rows : {n : _} (r q : ℕ) (rows : Row_of-Stmt n) (names : List Renamed) (t : Tables) → Entries (site_numbers_in rows) (site_roles_in q rows) →
          ToldBy r t (expand_rows p calls r rows names t)
      told_rows r q end_of-Stmt names t h = told_none t
      told_rows r q (more_of-Stmt s rest) names t h =
          let parts = entries_parts (site_numbers s) (site_numbers_in rest) (site_roles q s) (site_roles_in q rest) (as_many q s) h in
          let one = expand_one p calls r s names t in
          told_joined r t one (expand_rows p calls r rest one.names one.tables) (told_one r q s names t parts.0)
          (told_rows r q rest one.names one.tables parts.1)

    told_list : (r : ℕ) (all : List Stmt) (names : List Renamed) (t : Tables) → Entries (site_numbers_all all) (site_roles_all 0 all) →
        ToldBy r t (expand_list p calls r all names t)
    told_list r [] names t h = told_none t
    told_list r (s ∷ rest) names t h =
        let parts = entries_parts (site_numbers s) (site_numbers_all rest) (site_roles 0 s) (site_roles_all 0 rest) (as_many 0 s) h in
        let one = expand_one p calls r s names t in
        told_joined r t one (expand_list p calls r rest one.names one.tables) (told_one r 0 s names t parts.0) (told_list r rest one.names one.tables parts.1)

  abbrev roles_in_functions : List Function → Roles
  roles_in_functions fs = flat_map (λ (f : Function). site_roles_all 0 f.body) fs

  entries_body : (fs : List Function) (f : ℕ) → Entries (numbers_in_functions fs) (roles_in_functions fs) →
      Entries (site_numbers_all (body_in (slice_get fs f))) (site_roles_all 0 (body_in (slice_get fs f)))
  entries_body [] f h = tt
  entries_body (fn ∷ fs) zero h =
      (entries_parts (site_numbers_all fn.body) (numbers_in_functions fs) (site_roles_all 0 fn.body) (roles_in_functions fs) (as_many_all 0 fn.body) h).0
  entries_body (fn ∷ fs) (suc f) h = entries_body fs f (entries_parts (site_numbers_all fn.body) (numbers_in_functions fs) (site_roles_all 0 fn.body)
      (roles_in_functions fs) (as_many_all 0 fn.body) h).1

  module _ (checked : IsChecked p) where
    entries_all : Entries (site_numbers_all p.main) (site_roles_all 0 p.main) × Entries (numbers_in_functions p.functions) (roles_in_functions p.functions)
    entries_all =
        let same : (j : ℕ) → 1 - 1 + j ≡ j = λ j. omega arith in
        let whole : Entries (numbers_from 1 (length p.sites)) (map role_of p.sites) = entries_from 1 p.sites (omega arith)
        (λ j. ap (slice_get p.sites) (same j)) in
        entries_parts (site_numbers_all p.main) (numbers_in_functions p.functions) (site_roles_all 0 p.main) (roles_in_functions p.functions)
        (as_many_all 0 p.main)
        (subst (λ (ns : List ℕ). Entries ns (site_roles_all 0 p.main ++ roles_in_functions p.functions)) (sym checked.sites)
        (subst (λ (ks : Roles). Entries (numbers_from 1 (length p.sites)) ks) checked.roles whole))

    told_within : (depth f r : ℕ) (names : List Renamed) (t : Tables) → ToldBy r t (calls_within p depth f r names t)
    told_within zero f r names t = told_none t
    told_within (suc depth) f r names t =
        told_list (calls_within p depth) (told_within depth) r (body_in (slice_get p.functions f)) names t (entries_body p.functions f entries_all.1)

    pub roles_as_in_text : map role_of (expand p).sites ≡ site_roles_all 0 (expand p).main
    roles_as_in_text = told_list (calls_within p (length p.functions)) (told_within (length p.functions)) 0 p.main [] (first_tables p) entries_all.0
