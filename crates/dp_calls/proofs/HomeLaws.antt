-- An expanded program stores into the locals of a region's body in that region alone.
use Rattle.std.proofs.Common.{◌≡◌, inl, inr, refl, sym, ap, ◌∙◌, ℕ, zero, suc, ◌+◌, ◌<◌, ◌≤◌, ◌==◌, Bool, true, List, [], ◌∷◌, length, Option, Some, None}
use Rattle.std.proofs.Common.{slice_get, arith, eqb-true, eq-eqb}
use Rattle.std.specs.List.{list_all}
use Rattle.std.proofs.lemmas.List.Folds.{list_all-append}
use Rattle.dp_base.specs.declared.SiteId.{SiteId}
use Rattle.dp_room.proofs.ListLemmas.{at_index}
use Rattle.dp_tree.specs.declared.Expr.{Expr}
use Rattle.dp_tree.specs.declared.Stmt.{Stmt, Row_of-Stmt, end_of-Stmt, more_of-Stmt}
use Rattle.dp_tree.specs.declared.Stmt.TheVariants as stmt
use Rattle.dp_tree.specs.declared.VarInfo.{VarInfo}
use Rattle.dp_tree.specs.declared.VarScope.{VarScope}
use Rattle.dp_tree.specs.declared.VarScope.TheVariants.{Global, Outer, Body}
use Rattle.dp_tree.specs.declared.Program.{Program}
use Rattle.dp_tree.specs.Checked.{IsChecked}
use Rattle.dp_tree.specs.Functions.{body_in, params_in}
use Rattle.dp_tree.specs.Numbering.{site_numbers, site_numbers_in, site_numbers_all, is_plain, is_inner, is_inner_in, top_fits, next_region, regions_in_order}
use Rattle.dp_tree.specs.Scoping.{knows, is_scope_in, is_declared_in, seen_behind, in_scope, rows_in_scope, all_in_scope, params_in_scope, global_numbers}
use Rattle.dp_tree.specs.Statements.{everywhere}
use Rattle.dp_tree.specs.Step.{line_of, is_local_of}
use Rattle.dp_tree.proofs.Heads.{and_true, and_make}
use Rattle.dp_calls.specs.AtHome.{is_home, is_home_at, stores_home, stores_home_at_top, stores_at_home}
use Rattle.dp_calls.specs.Frame.{global_count}
use Rattle.dp_calls.specs.Renaming.{Renamed, renamed}
use Rattle.dp_calls.specs.Tables.{Tables, first_tables, with_source_site, new_site}
use Rattle.dp_calls.specs.Expand.{Piece, Calls, calls_within, expand_one, expand_rows, expand_list, expand}
use Rattle.dp_calls.proofs.Relation.{PlaceOf, file, own, file_count, is_quiet}
use Rattle.dp_calls.proofs.SameValues.{numbers_below}
use Rattle.dp_calls.proofs.Tabled.{Grows, grows_on, grows_region, Lies, moved}
use Rattle.dp_calls.proofs.Named.{NamesOk, names_none, Seen}
use Rattle.dp_calls.proofs.Made.{tables_of, is_listed}
use Rattle.dp_calls.proofs.Passed.{Homely, home_moved}
use Rattle.dp_calls.proofs.PlainLaws.{Plain, plain_one}
use Rattle.dp_calls.proofs.Declared.{lies_sited, names_sited}
use Rattle.dp_calls.proofs.Pieces.{all_parts, seen_in, Called}
use Rattle.dp_calls.proofs.Bodies.{inner_made, body_made}
use Rattle.dp_calls.proofs.CheckedTexts.{TextOf, text_of, main_scoped, main_listed}
use Rattle.dp_calls.proofs.Whole.{Linked, linked_moved, TopSeen, Ready, calls_made, called, plain_calls, top_made, main_made, top_behind}
use Rattle.dp_calls.proofs.SameMeanings.{places, there, first_lies, files_below, ends_there}
use Rattle.dp_calls.proofs.Everywhere.{all_pass, pass_join, pass-Region}
use Rattle.dp_calls.proofs.Homes.{file_home, Stores, CalledHome, HomeSeen, home_behind, params_home, one_home, list_home}

-- an entry of the same regions as another one is at home where that one is
module _ (r : ℕ) where
  same_region : (k : ℕ) (scope : VarScope) → is_local_of k scope ≡ true → is_home r scope ≡ true → (k == r) ≡ true
  same_region k (Body j) here home = ap (λ (n : ℕ). n == r) (sym (eqb-true j k here)) ∙ home
  same_region k _ here home = absurd (cc here)

  same_entry : (k : ℕ) (o : Option VarInfo) → is_quiet k o ≡ true → is_home_at r o ≡ true → (k == r) ≡ true
  same_entry k None here home = absurd (cc here)
  same_entry k (Some info) here home = same_region k info.scope here home

  linked_scope : (o : Option VarInfo) (scope : VarScope) → ((k : ℕ) → is_local_of k scope ≡ is_quiet k o) → is_home_at r o ≡ true → is_home r scope ≡ true
  linked_scope o Global linked home = refl
  linked_scope o Outer linked home = refl
  linked_scope o (Body k) linked home = same_entry k o (sym (linked k) ∙ eq-eqb k k refl) home

  linked_home : (o u : Option VarInfo) → Linked o u → is_home_at r o ≡ true → is_home_at r u ≡ true
  linked_home o None linked home = refl
  linked_home o (Some info) linked home = linked_scope o info.scope linked home

  outer_home : (o : Option VarInfo) → is_declared_in 0 o ≡ true → is_home_at r o ≡ true
  outer_home None is = refl
  outer_home (Some info) is = by info.scope is
    where
      by : (scope : VarScope) → is_scope_in 0 scope ≡ true → is_home r scope ≡ true
      by Outer is = refl
      by Global is = absurd (cc is)
      by (Body k) is = absurd (cc is)

-- a plain statement at the top is no region
plain_top : (vars : List VarInfo) (s : Stmt) → is_plain s ≡ true → everywhere (stores_home vars 0) s ≡ true → stores_home_at_top vars s ≡ true
plain_top vars (stmt.Region' r site v m body) plain home = absurd (cc plain)
plain_top vars _ plain home = home

plain_tops : (vars : List VarInfo) (code : List Stmt) → list_all is_plain code ≡ true → all_pass (stores_home vars 0) code ≡ true →
    list_all (stores_home_at_top vars) code ≡ true
plain_tops vars [] plain home = refl
plain_tops vars (s ∷ rest) plain home =
    let both = and_true (is_plain s) (list_all is_plain rest) plain in
    let homes = and_true (everywhere (stores_home vars 0) s) (all_pass (stores_home vars 0) rest) home in
    and_make (stores_home_at_top vars s) (list_all (stores_home_at_top vars) rest) (plain_top vars s both.0 homes.0) (plain_tops vars rest both.1 homes.1)

-- a region at the top
region_top : (vars : List VarInfo) (r : ℕ) (site : SiteId) (v : Expr) (code : List Stmt) → all_pass (stores_home vars r) code ≡ true →
    stores_home_at_top vars (stmt.Region r site v code) ≡ true
region_top vars r site v code home = pass-Region (stores_home vars r) r site v code refl home

module _ (p q : Program) (places : (x : ℕ) (info : VarInfo) → slice_get p.vars x ≡ Some info → PlaceOf (file_count p) (global_count p) x info)
    (there : file_count p ≤ length p.vars)
    (linked : Option VarInfo → Option VarInfo → Type 0) (low n scope r : ℕ)
    (link : (info : VarInfo) (cell : ℕ) → is_scope_in scope info.scope ≡ true → linked (Some info) (Some (moved info cell r)))
    (calls : Calls) (limit : n ≤ length p.functions)
    (params_scoped : (f : ℕ) → params_in_scope p (global_numbers p) (params_in (slice_get p.functions f)) ≡ true)
    (called : (f : ℕ) → f < n → Called p q calls r f) (plain_called : (f k : ℕ) (names : List Renamed) (t : Tables) → Plain t (calls f k names t))
    (home : (o u : Option VarInfo) → linked o u → is_home_at scope o ≡ true → is_home_at r u ≡ true) (stored : (f : ℕ) → f < n → CalledHome p q calls r f) where
  abbrev test : Stmt → Bool
  test = stores_home q.vars r

  -- a statement at the top of a region's body
  inner_home : (s : Stmt) → is_inner s ≡ true → (visible : List ℕ) (names : List Renamed) (t : Tables) → in_scope p scope n visible s ≡ true →
      list_all (is_listed p) (site_numbers s) ≡ true →
      NamesOk p linked low names t → Lies p t → Seen p visible names → HomeSeen p scope visible → Stores q r (expand_one p calls r s names t)
  inner_home (stmt.Break site v) inner visible names t scoped listed ok lies seen homes into = refl
  inner_home (stmt.Region' k site v m body) inner visible names t scoped listed ok lies seen homes into = absurd (cc inner)
  inner_home s inner visible names t scoped listed ok lies seen homes into =
      one_home p q places there linked low n scope r link calls limit params_scoped called home stored s visible names t scoped inner listed ok
      lies seen homes into

  body_home : {m : _} (rows : Row_of-Stmt m) (visible : List ℕ) (names : List Renamed) (t : Tables) → rows_in_scope p scope n visible rows ≡ true →
      is_inner_in rows ≡ true → list_all (is_listed p) (site_numbers_in rows) ≡ true →
      NamesOk p linked low names t → Lies p t → Seen p visible names → HomeSeen p scope visible → Stores q r (expand_rows p calls r rows names t)
  body_home end_of-Stmt visible names t scoped inner listed ok lies seen homes into = refl
  body_home (more_of-Stmt s rest) visible names t scoped inner listed ok lies seen homes into =
      let both = and_true (in_scope p scope n visible s) (rows_in_scope p scope n (seen_behind visible s) rest) scoped in
      let fits = and_true (is_inner s) (is_inner_in rest) inner in
      let parts = all_parts (is_listed p) (site_numbers s) (site_numbers_in rest) listed in
      let a : Piece = expand_one p calls r s names t in let b : Piece = expand_rows p calls r rest a.names a.tables in
      let first = inner_made p q places there linked low n scope r link calls limit params_scoped called plain_called s fits.0 visible names t both.0
      parts.0 ok lies seen in
      let second = body_made p q places there linked low n scope r link calls limit params_scoped called plain_called rest (seen_behind visible s) a.names
      a.tables both.1 fits.1 parts.1 first.named first.lies first.seen in
      pass_join test a.code b.code (inner_home s fits.0 visible names t both.0 parts.0 ok lies seen homes (grows_on second.grows into))
      (body_home rest (seen_behind visible s) a.names a.tables both.1 fits.1 parts.1 first.named first.lies first.seen
      (home_behind p scope n visible s both.0 homes) into)

module _ (p q : Program) (places : (x : ℕ) (info : VarInfo) → slice_get p.vars x ≡ Some info → PlaceOf (file_count p) (global_count p) x info)
    (there : file_count p ≤ length p.vars)
    (text_of : (f : ℕ) → TextOf p f (slice_get p.functions f)) where
  -- a file-scope variable is at home everywhere
  file_source : (scope x : ℕ) → x < file_count p → is_home_at scope (slice_get p.vars x) ≡ true
  file_source scope x less =
      let within : x < length p.vars = omega (arith, less, there) in let entry = at_index p.vars x within in
      ap (is_home_at scope) entry.1 ∙ by entry.0 (places x entry.0 entry.1)
    where
      by : (info : VarInfo) → PlaceOf (file_count p) (global_count p) x info → is_home scope info.scope ≡ true
      by info (file _ global _ _) = file_home scope info.scope global
      by info (own behind _ _ _) = absurd (omega (arith, less, behind))

  globals_home : HomeSeen p 0 (global_numbers p)
  globals_home x at = let below : x.0 < 0 + file_count p = numbers_below 0 (file_count p) x at in file_source 0 x.0 (omega (arith, below))

  top_home : (r : ℕ) (visible : List ℕ) → TopSeen p visible → HomeSeen p r visible
  top_home r visible top x at = elim (top x at) [ inl less ↦ file_source r x.0 less | inr outer ↦ outer_home r (slice_get p.vars x.0) outer ]

  -- calls that nest no deeper than this
  calls_home : (depth : ℕ) → depth ≤ length p.functions → (f : ℕ) → f < depth → (r : ℕ) → CalledHome p q (calls_within p depth) r f
  calls_home zero within f less r low names t above ok lies seen = absurd (omega (arith, less))
  calls_home (suc depth) within f less r low names t above ok lies seen =
      let text = text_of f in let shallow : depth ≤ length p.functions = omega (arith, within) in
      list_home p q places there (Homely r) low f 0 r (λ info cell is. home_moved r info cell) (calls_within p depth) (omega (arith, less, within))
      (λ g. (text_of g).params)
      (λ g below. (let deeper : g < depth = omega (arith, below, less) in calls_made p q places there text_of depth shallow g deeper r))
      (λ o u linked home. linked)
      (λ g below. (let deeper : g < depth = omega (arith, below, less) in calls_home depth shallow g deeper r))
      (body_in (slice_get p.functions f)) (seen_in p f) names t text.scoped text.plain text.listed ok lies seen
      (params_home p (global_numbers p) (params_in (slice_get p.functions f)) text.params globals_home)

  abbrev calls_here : Calls
  calls_here = calls_within p (length p.functions)

  abbrev TopStores : Piece → Type 0
  TopStores a = Grows a.tables (tables_of q) → list_all (stores_home_at_top q.vars) a.code ≡ true

  stored : (r f : ℕ) → f < length p.functions → CalledHome p q calls_here r f
  stored r f less = calls_home (length p.functions) (omega arith) f less r

  one_top : (s : Stmt) (visible : List ℕ) (names : List Renamed) (t : Tables) → in_scope p 0 (length p.functions) visible s ≡ true → is_plain s ≡ true →
      list_all (is_listed p) (site_numbers s) ≡ true → Ready p q places there text_of visible names t →
      TopStores (expand_one p calls_here 0 s names t)
  one_top s visible names t scoped plain listed ready into =
      plain_tops q.vars (expand_one p calls_here 0 s names t).code (plain_one p calls_here (plain_calls p q places there text_of (length p.functions))
      0 s names t plain).0
      (one_home p q places there Linked (file_count p) (length p.functions) 0 0 (linked_moved 0) calls_here (omega arith) (λ g. (text_of g).params)
      (called p q places there text_of 0) (linked_home 0) (stored 0)
      s visible names t scoped plain listed ready.0 ready.1 ready.2 (top_home 0 visible ready.3) into)

  top_stores : (k : ℕ) (s : Stmt) (visible : List ℕ) (names : List Renamed) (t : Tables) → in_scope p 0 (length p.functions) visible s ≡ true →
      top_fits k s ≡ true → list_all (is_listed p) (site_numbers s) ≡ true → Ready p q places there text_of visible names t →
      TopStores (expand_one p calls_here 0 s names t)
  top_stores k (stmt.Region' r site v m body) visible names t scoped fits listed ready into =
      let both = and_true (knows visible v) (rows_in_scope p r (length p.functions) visible body) scoped in
      let plainly = and_true (r == k) (is_inner_in body) fits in
      let sites = and_true (is_listed p site.0) (list_all (is_listed p) (site_numbers_in body)) listed in
      let a : Piece = expand_rows p calls_here r body names (with_source_site p r site t) in
      and_make (stores_home_at_top q.vars (stmt.Region r (new_site t) (renamed names v) a.code)) true
      (region_top q.vars r (new_site t) (renamed names v) a.code
      (body_home p q places there Linked (file_count p) (length p.functions) r r (linked_moved r) calls_here (omega arith) (λ g. (text_of g).params)
      (called p q places there text_of r) (plain_calls p q places there text_of (length p.functions)) (linked_home r) (stored r)
      body visible names (with_source_site p r site t) both.1 plainly.1 sites.1
      (names_sited p q places there Linked (file_count p) (length p.functions) r r (linked_moved r) site names t ready.0)
      (lies_sited p q places there Linked (file_count p) (length p.functions) r r (linked_moved r) site t ready.1) ready.2 (top_home r visible ready.3)
      (grows_on (grows_region (line_of p site) (new_site t) a.tables) into))) refl
  top_stores k (stmt.Break site v) visible names t scoped fits listed ready into = absurd (cc fits)
  top_stores k s visible names t scoped fits listed ready into = one_top s visible names t scoped fits listed ready into

  main_home : (k : ℕ) (statements : List Stmt) (visible : List ℕ) (names : List Renamed) (t : Tables) →
      all_in_scope p 0 (length p.functions) visible statements ≡ true → regions_in_order k statements ≡ true →
      list_all (is_listed p) (site_numbers_all statements) ≡ true →
      Ready p q places there text_of visible names t → TopStores (expand_list p calls_here 0 statements names t)
  main_home k [] visible names t scoped fits listed ready into = refl
  main_home k (s ∷ rest) visible names t scoped fits listed ready into =
      let both = and_true (in_scope p 0 (length p.functions) visible s) (all_in_scope p 0 (length p.functions) (seen_behind visible s) rest) scoped in
      let fit = and_true (top_fits k s) (regions_in_order (next_region k s) rest) fits in
      let parts = all_parts (is_listed p) (site_numbers s) (site_numbers_all rest) listed in
      let a : Piece = expand_one p calls_here 0 s names t in let b : Piece = expand_list p calls_here 0 rest a.names a.tables in
      let first = top_made p q places there text_of k s visible names t both.0 fit.0 parts.0 ready in
      let later : Ready p q places there text_of (seen_behind visible s) a.names a.tables =
      (first.named, first.lies, first.seen, top_behind p q places there text_of visible s both.0 ready.3) in
      let second = main_made p q places there text_of (next_region k s) rest (seen_behind visible s) a.names a.tables both.1 fit.1 parts.1 later in
      list_all-append (stores_home_at_top q.vars) a.code b.code
      ∙ and_make (list_all (stores_home_at_top q.vars) a.code) (list_all (stores_home_at_top q.vars) b.code)
      (top_stores k s visible names t both.0 fit.0 parts.0 ready (grows_on second.grows into))
      (main_home (next_region k s) rest (seen_behind visible s) a.names a.tables both.1 fit.1 parts.1 later into)

pub expanded_at_home : (p : Program) → IsChecked p → stores_at_home (expand p) ≡ true
expanded_at_home p checked =
    main_home p (expand p) (places p checked) (there p checked) (text_of p checked) 1 p.main (global_numbers p) [] (first_tables p) (main_scoped p checked)
    checked.regions (main_listed p checked) (
      names_none p Linked (file_count p) (first_tables p) (omega arith),
      first_lies p checked,
      (λ x at. inl (files_below p checked x at)),
      (λ x at. inl
          (files_below p checked x at)),
    )
    (ends_there p checked).into
