-- What a piece of the expanded text stores into: variables that are at home where it stands.
use Rattle.std.proofs.Common.{◌≡◌, ◌⊎◌, inl, inr, refl, sym, ap, ◌∙◌, ℕ, zero, suc, ◌+◌, ◌<◌, ◌≤◌, ◌==◌, Bool, true, false, not, ◌&&◌, ◌||◌, if◌then◌else◌}
use Rattle.std.proofs.Common.{List, [], ◌∷◌, ◌++◌, length, Option, Some, None, slice_get, nat_lt, arith, ltb-true, eqb-true}
use Rattle.std.specs.List.{list_all}
use Rattle.dp_base.specs.declared.VarId.{VarId}
use Rattle.dp_room.proofs.ListLemmas.{at_index}
use Rattle.dp_tree.specs.declared.Expr.{Expr}
use Rattle.dp_tree.specs.declared.Stmt.{Stmt, Row_of-Stmt, end_of-Stmt, more_of-Stmt}
use Rattle.dp_tree.specs.declared.Stmt.TheVariants as stmt
use Rattle.dp_tree.specs.declared.VarInfo.{VarInfo}
use Rattle.dp_tree.specs.declared.VarScope.{VarScope}
use Rattle.dp_tree.specs.declared.VarScope.TheVariants.{Global, Outer, Body}
use Rattle.dp_tree.specs.declared.Program.{Program}
use Rattle.dp_tree.specs.Functions.{params_in}
use Rattle.dp_tree.specs.Globals.{is_global_scope}
use Rattle.dp_tree.specs.Numbering.{site_numbers, site_numbers_in, site_numbers_all, is_plain, is_plain_in}
use Rattle.dp_tree.specs.Scoping.{sees, knows, is_scope_in, is_declared_in, seen_behind, in_scope, rows_in_scope, all_in_scope, params_in_scope}
use Rattle.dp_tree.specs.Scoping.{seen_behind_params, global_numbers}
use Rattle.dp_tree.specs.Statements.{everywhere}
use Rattle.dp_tree.proofs.Heads.{and_true, and_make}
use Rattle.dp_calls.specs.Frame.{global_count}
use Rattle.dp_calls.specs.AtHome.{is_home, is_home_at, stores_home}
use Rattle.dp_calls.specs.Renaming.{Renamed, named_in, target_or, target_of, renamed}
use Rattle.dp_calls.specs.Tables.{Tables, with_source_site, new_site}
use Rattle.dp_calls.specs.Expand.{Piece, Calls, bindings, declared_in, expand_one, expand_rows, expand_list}
use Rattle.dp_calls.proofs.Relation.{Env, PlaceOf, file, own, file_count, Binds, bound, binds}
use Rattle.dp_calls.proofs.SameValues.{sees_one, sees_new, numbers_below}
use Rattle.dp_calls.proofs.Tabled.{Grows, grows_on, Lies, moved}
use Rattle.dp_calls.proofs.Named.{NamesOk, names_none, steps_not, Seen}
use Rattle.dp_calls.proofs.Made.{Closes, Made, tables_of, is_listed}
use Rattle.dp_calls.proofs.Passed.{Homely, passed}
use Rattle.dp_calls.proofs.Declared.{lies_sited, names_sited}
use Rattle.dp_calls.proofs.Pieces.{all_parts, seen_in, Called, one_made, rows_made, list_made}
use Rattle.dp_calls.proofs.Everywhere.{all_pass, pass_join, pass-If, pass-While, pass_assigned}

pub file_home : (r : ℕ) (scope : VarScope) → is_global_scope scope ≡ true → is_home r scope ≡ true
file_home r Global e = refl
file_home r Outer e = absurd (cc e)
file_home r (Body k) e = absurd (cc e)

scope_home : (r : ℕ) (scope : VarScope) → is_scope_in r scope ≡ true → is_home r scope ≡ true
scope_home zero Outer e = refl
scope_home (suc r) (Body k) e = e
scope_home _ _ e = absurd (cc e)

pub declared_home : (r : ℕ) (o : Option VarInfo) → is_declared_in r o ≡ true → is_home_at r o ≡ true
declared_home r None e = refl
declared_home r (Some info) e = scope_home r info.scope e

-- each visible variable is at home in the region
abbrev pub HomeSeen : Program → ℕ → List ℕ → Type 0
HomeSeen p scope visible = (x : VarId) → sees visible x ≡ true → is_home_at scope (slice_get p.vars x.0) ≡ true

-- the piece stores at home in region r, in every program that its tables end in
abbrev pub Stores : Program → ℕ → Piece → Type 0
Stores q r a = Grows a.tables (tables_of q) → all_pass (stores_home q.vars r) a.code ≡ true

-- the same of what the call of function f becomes, behind its bindings
abbrev pub CalledHome : Program → Program → Calls → ℕ → ℕ → Type 0
CalledHome p q calls r f = (low : ℕ) (names : List Renamed) (t : Tables) → file_count p ≤ low → NamesOk p (Homely r) low names t → Lies p t →
    Seen p (seen_in p f) names → Stores q r (calls f r names t)

-- one variable more is visible
home_one : (p : Program) (scope : ℕ) (visible : List ℕ) (x : VarId) → is_home_at scope (slice_get p.vars x.0) ≡ true → HomeSeen p scope visible →
    HomeSeen p scope (x.0 ∷ visible)
home_one p scope visible x here homes w at = elim (sees_one x.0 visible w at) [
  | inl is ↦ ap (λ (k : ℕ). is_home_at scope (slice_get p.vars k)) (sym is) ∙ here
  | inr before ↦ homes w before
]

pub params_home : (p : Program) (visible : List ℕ) (params : List VarId) → params_in_scope p visible params ≡ true → HomeSeen p 0 visible →
    HomeSeen p 0 (seen_behind_params visible params)
params_home p visible [] scoped homes = homes
params_home p visible (x ∷ rest) scoped homes =
    let outer = and_true (not (sees visible x) && is_declared_in 0 (slice_get p.vars x.0)) (params_in_scope p (x.0 ∷ visible) rest) scoped in
    let inner = and_true (not (sees visible x)) (is_declared_in 0 (slice_get p.vars x.0)) outer.0 in
    params_home p (x.0 ∷ visible) rest outer.1 (home_one p 0 visible x (declared_home 0 (slice_get p.vars x.0) inner.1) homes)

-- the variable of an assignment is visible behind it
assigned_seen : (visible : List ℕ) (x : VarId) → sees (if sees visible x then visible else x.0 ∷ visible) x ≡ true
assigned_seen visible x = by (sees visible x) refl
  where
    by : (b : Bool) → sees visible x ≡ b → sees (if b then visible else x.0 ∷ visible) x ≡ true
    by true at = at
    by false at = sees_new x.0 visible x refl

module _ (p : Program) (scope : ℕ) where
  assigned_home : (visible : List ℕ) (x : VarId) → (sees visible x || is_declared_in scope (slice_get p.vars x.0)) ≡ true → HomeSeen p scope visible →
      is_home_at scope (slice_get p.vars x.0) ≡ true
  assigned_home visible x scoped homes = by (sees visible x) refl scoped
    where
      by : (b : Bool) → sees visible x ≡ b → (b || is_declared_in scope (slice_get p.vars x.0)) ≡ true → is_home_at scope (slice_get p.vars x.0) ≡ true
      by true at scoped = homes x at
      by false at scoped = declared_home scope (slice_get p.vars x.0) scoped

  home_assigned : (visible : List ℕ) (x : VarId) → is_home_at scope (slice_get p.vars x.0) ≡ true → HomeSeen p scope visible →
      HomeSeen p scope (if sees visible x then visible else x.0 ∷ visible)
  home_assigned visible x here homes = by (sees visible x)
    where
      by : (b : Bool) → HomeSeen p scope (if b then visible else x.0 ∷ visible)
      by true = homes
      by false = home_one p scope visible x here homes

  pub home_behind : (n : ℕ) (visible : List ℕ) (s : Stmt) → in_scope p scope n visible s ≡ true → HomeSeen p scope visible →
      HomeSeen p scope (seen_behind visible s)
  home_behind n visible (stmt.Assign site x v) scoped homes =
      let both = and_true (knows visible v) (sees visible x || is_declared_in scope (slice_get p.vars x.0)) scoped in
      home_assigned visible x (assigned_home visible x both.1 homes) homes
  home_behind n visible _ scoped homes = homes

module _ (p q : Program) (r : ℕ) where
  kept_entry : (t : Tables) (y : ℕ) → y < length t.vars → Grows t (tables_of q) → slice_get t.vars y ≡ slice_get q.vars y
  kept_entry t y less into = let entry = at_index t.vars y less in entry.1 ∙ sym (into.vars y entry.0 entry.1)

  -- a file-scope variable is at home everywhere
  file_entry : (t : Tables) (x : ℕ) → Lies p t → Grows t (tables_of q) → x < file_count p → is_home_at r (slice_get q.vars x) ≡ true
  file_entry t x lies into less =
      let within : x < length t.vars = omega (arith, less, lies.above) in let entry = at_index t.vars x within in
      ap (is_home_at r) (into.vars x entry.0 entry.1) ∙ by entry.0 (lies.place x entry.0 entry.1)
    where
      by : (info : VarInfo) → PlaceOf (file_count p) (global_count p) x info → is_home r info.scope ≡ true
      by info (file _ global _ _) = file_home r info.scope global
      by info (own behind _ _ _) = absurd (omega (arith, less, behind))

  -- the bindings of a call whose names are at home
  binds_home : {e g : Env} {visible : List ℕ} {line : ℕ} {params : List VarId} {args : List Expr} {code : List Stmt} →
      ((x y : ℕ) → named_in g.names x ≡ Some y → is_home_at r (slice_get q.vars y) ≡ true) → Binds p q e g visible line params args code →
      all_pass (stores_home q.vars r) code ≡ true
  binds_home homes bound = refl
  binds_home {e = e} {g = g} homes (binds {x = x} {a = a} {s = s} {site = site} {y = y} {code = code} is _ _ named later) =
      let here : is_home_at r (slice_get q.vars (target_of g.names x).0) ≡ true =
      ap (λ (o : Option ℕ). is_home_at r (slice_get q.vars (target_or o x.0).0)) named ∙ homes x.0 y named in
      and_make (everywhere (stores_home q.vars r) s) (all_pass (stores_home q.vars r) code)
      (pass_assigned (stores_home q.vars r) s site (target_of g.names x) (renamed e.names a) is here) (binds_home homes later)

module _ (p q : Program) (places : (x : ℕ) (info : VarInfo) → slice_get p.vars x ≡ Some info → PlaceOf (file_count p) (global_count p) x info)
    (there : file_count p ≤ length p.vars)
    (linked : Option VarInfo → Option VarInfo → Type 0) (low n scope r : ℕ)
    (link : (info : VarInfo) (cell : ℕ) → is_scope_in scope info.scope ≡ true → linked (Some info) (Some (moved info cell r)))
    (calls : Calls) (limit : n ≤ length p.functions)
    (params_scoped : (f : ℕ) → params_in_scope p (global_numbers p) (params_in (slice_get p.functions f)) ≡ true)
    (called : (f : ℕ) → f < n → Called p q calls r f)
    (home : (o u : Option VarInfo) → linked o u → is_home_at scope o ≡ true → is_home_at r u ≡ true) (stored : (f : ℕ) → f < n → CalledHome p q calls r f) where
  abbrev test : Stmt → Bool
  test = stores_home q.vars r

  target_home : (names : List Renamed) (t : Tables) → NamesOk p linked low names t → Lies p t → Grows t (tables_of q) → (x : VarId) →
      (x.0 < file_count p) ⊎ ((y : ℕ) × (named_in names x.0 ≡ Some y)) → is_home_at scope (slice_get p.vars x.0) ≡ true →
      is_home_at r (slice_get q.vars (target_of names x).0) ≡ true
  target_home names t ok lies into x found source = by (named_in names x.0) refl found
    where
      by : (o : Option ℕ) → named_in names x.0 ≡ o → (x.0 < file_count p) ⊎ ((y : ℕ) × (named_in names x.0 ≡ Some y)) →
          is_home_at r (slice_get q.vars (target_of names x).0) ≡ true
      by (Some y) at _ =
          let entry : slice_get t.vars y ≡ slice_get q.vars y = kept_entry p q r t y (ok.target x.0 y at).1 into in
          ap (λ (o : Option ℕ). is_home_at r (slice_get q.vars (target_or o x.0).0)) at
          ∙ ap (is_home_at r) (sym entry) ∙ home (slice_get p.vars x.0) (slice_get t.vars y) (ok.link x.0 y at) source
      by None at (inl less) = ap (λ (o : Option ℕ). is_home_at r (slice_get q.vars (target_or o x.0).0)) at ∙ file_entry p q r t x.0 lies into less
      by None at (inr named) = (let clash : ◌≡◌ {A = Option ℕ} None (Some named.0) = sym at ∙ named.1 in absurd (cc clash))

  -- the parts of a call's names
  call_home : (f line : ℕ) (visible : List ℕ) (args : List Expr) (names : List Renamed) (t : Tables) (a b : Piece) → f < n → Lies p t →
      Made p q (Homely r) (length t.vars) f [] t (seen_in p f) a (λ g. (e : Env) → ((v : Expr) → knows visible v ≡ true → renamed names v ≡ renamed e.names v) →
      Binds p q e g visible line (params_in (slice_get p.functions f)) args a.code) →
      Grows a.tables b.tables → Stores q r b → Stores q r (record b { code = a.code ++ b.code; names = names })
  call_home f line visible args names t a b less lies first grew later into =
      let to_end : Grows a.tables (tables_of q) = grows_on grew into in
      let g : Env = record { low = length t.vars; high = length a.tables.vars; names = a.names; calls = f } in
      let e : Env = record { low = length t.vars; high = length a.tables.vars; names = names; calls = f } in
      let own_end : Closes p q (length t.vars) f a.names a.tables g = record {
        begins = refl;
        may_call = refl;
        high = omega arith;
        ends = steps_not a.names (length a.tables.vars);
        into = to_end;
        files = λ x y at. (first.named.source x y at).0;
      } in
      let homes : (x y : ℕ) → named_in a.names x ≡ Some y → is_home_at r (slice_get q.vars y) ≡ true =
      (λ x y at. ap (is_home_at r) (sym (kept_entry p q r a.tables y (first.named.target x y at).1 to_end)) ∙ first.named.link x y at) in
      pass_join test a.code b.code (binds_home p q r homes (first.becomes g own_end e (λ v k. refl))) (later into)

  mutual
    pub one_home : (s : Stmt) (visible : List ℕ) (names : List Renamed) (t : Tables) → in_scope p scope n visible s ≡ true → is_plain s ≡ true →
        list_all (is_listed p) (site_numbers s) ≡ true →
        NamesOk p linked low names t → Lies p t → Seen p visible names → HomeSeen p scope visible → Stores q r (expand_one p calls r s names t)
    one_home (stmt.Assign site x v) visible names t scoped plain listed ok lies seen homes into =
        let first = one_made p q places there linked low n scope r link calls limit params_scoped called (stmt.Assign site x v) visible names t scoped plain
        listed ok lies seen in
        let d : Piece = declared_in p r x.0 names (with_source_site p r site t) in
        let both = and_true (knows visible v) (sees visible x || is_declared_in scope (slice_get p.vars x.0)) scoped in
        and_make (is_home_at r (slice_get q.vars (target_of d.names x).0)) true
        (target_home d.names d.tables first.named first.lies into x (first.seen x (assigned_seen visible x))
        (assigned_home p scope visible x both.1 homes)) refl
    one_home (stmt.Store site x i v) visible names t scoped plain listed ok lies seen homes into =
        let both = and_true (sees visible x) (knows visible i && knows visible v) scoped in
        and_make (is_home_at r (slice_get q.vars (target_of names x).0)) true
        (target_home names (with_source_site p r site t) (names_sited p q places there linked low n scope r link site names t ok)
        (lies_sited p q places there linked low n scope r link site t lies) into x (seen x both.0) (homes x both.0)) refl
    one_home (stmt.Print site v) visible names t scoped plain listed ok lies seen homes into = refl
    one_home (stmt.If' site v m one k other) visible names t scoped plain listed ok lies seen homes into =
        let both = and_true (knows visible v) (rows_in_scope p scope n visible one && rows_in_scope p scope n visible other) scoped in
        let inner = and_true (rows_in_scope p scope n visible one) (rows_in_scope p scope n visible other) both.1 in
        let plainly = and_true (is_plain_in one) (is_plain_in other) plain in
        let sites = and_true (is_listed p site.0) (list_all (is_listed p) (site_numbers_in one ++ site_numbers_in other)) listed in
        let parts = all_parts (is_listed p) (site_numbers_in one) (site_numbers_in other) sites.1 in
        let t' : Tables = with_source_site p r site t in let a : Piece = expand_rows p calls r one names t' in
        let b : Piece = expand_rows p calls r other a.names a.tables in
        let ok' = names_sited p q places there linked low n scope r link site names t ok in
        let lies' = lies_sited p q places there linked low n scope r link site t lies in
        let first = rows_made p q places there linked low n scope r link calls limit params_scoped called one visible names t' inner.0 plainly.0
        parts.0 ok' lies' seen in
        let second = rows_made p q places there linked low n scope r link calls limit params_scoped called other visible a.names a.tables inner.1 plainly.1
        parts.1 first.named first.lies first.seen in
        and_make (everywhere test (stmt.If (new_site t) (renamed names v) a.code b.code)) true
        (pass-If test (new_site t) (renamed names v) a.code b.code refl (rows_home one visible names t' inner.0 plainly.0 parts.0 ok' lies' seen homes
        (grows_on second.grows into))
        (rows_home other visible a.names a.tables inner.1 plainly.1 parts.1 first.named first.lies first.seen homes into)) refl
    one_home (stmt.While' site v m body) visible names t scoped plain listed ok lies seen homes into =
        let both = and_true (knows visible v) (rows_in_scope p scope n visible body) scoped in
        let sites = and_true (is_listed p site.0) (list_all (is_listed p) (site_numbers_in body)) listed in
        let t' : Tables = with_source_site p r site t in let a : Piece = expand_rows p calls r body names t' in
        and_make (everywhere test (stmt.While (new_site t) (renamed names v) a.code)) true
        (pass-While test (new_site t) (renamed names v) a.code refl
        (rows_home body visible names t' both.1 plain sites.1 (names_sited p q places there linked low n scope r link site names t ok)
        (lies_sited p q places there linked low n scope r link site t lies) seen homes into)) refl
    one_home (stmt.Call f line args) visible names t scoped plain listed ok lies seen homes into =
        let both = and_true (nat_lt f n) (list_all (knows visible) args && (length args == length (params_in (slice_get p.functions f)))) scoped in
        let inner = and_true (list_all (knows visible) args) (length args == length (params_in (slice_get p.functions f))) both.1 in
        let less : f < n = ltb-true f n both.0 in
        let a : Piece = bindings p r line names (params_in (slice_get p.functions f)) args [] t in
        let first = passed p q places (length t.vars) f r line names visible (params_in (slice_get p.functions f)) args (global_numbers p) [] t
        (params_scoped f) (eqb-true (length args) (length (params_in (slice_get p.functions f))) inner.1) inner.0
        (names_none p (Homely r) (length t.vars) t (omega arith)) lies
        (λ x at. inl (let below : x.0 < 0 + file_count p = numbers_below 0 (file_count p) x at in omega (arith, below))) (λ w y at. absurd (cc at)) in
        let second = called f less (length t.vars) a.names a.tables lies.above first.named first.lies first.seen in
        call_home f line visible args names t a (calls f r a.names a.tables) less lies first second.grows
        (stored f less (length t.vars) a.names a.tables lies.above first.named first.lies first.seen) into
    one_home _ visible names t scoped plain listed ok lies seen homes into = absurd (cc plain)

    pub rows_home : {m : _} (rows : Row_of-Stmt m) (visible : List ℕ) (names : List Renamed) (t : Tables) → rows_in_scope p scope n visible rows ≡ true →
        is_plain_in rows ≡ true → list_all (is_listed p) (site_numbers_in rows) ≡ true →
        NamesOk p linked low names t → Lies p t → Seen p visible names → HomeSeen p scope visible → Stores q r (expand_rows p calls r rows names t)
    rows_home end_of-Stmt visible names t scoped plain listed ok lies seen homes into = refl
    rows_home (more_of-Stmt s rest) visible names t scoped plain listed ok lies seen homes into =
        let both = and_true (in_scope p scope n visible s) (rows_in_scope p scope n (seen_behind visible s) rest) scoped in
        let plainly = and_true (is_plain s) (is_plain_in rest) plain in
        let parts = all_parts (is_listed p) (site_numbers s) (site_numbers_in rest) listed in
        let a : Piece = expand_one p calls r s names t in let b : Piece = expand_rows p calls r rest a.names a.tables in
        let first = one_made p q places there linked low n scope r link calls limit params_scoped called s visible names t both.0 plainly.0
        parts.0 ok lies seen in
        let second = rows_made p q places there linked low n scope r link calls limit params_scoped called rest (seen_behind visible s) a.names a.tables both.1
        plainly.1 parts.1 first.named first.lies first.seen in
        pass_join test a.code b.code (one_home s visible names t both.0 plainly.0 parts.0 ok lies seen homes (grows_on second.grows into))
        (rows_home rest (seen_behind visible s) a.names a.tables both.1 plainly.1 parts.1 first.named first.lies first.seen
        (home_behind p scope n visible s both.0 homes) into)

  pub list_home : (statements : List Stmt) (visible : List ℕ) (names : List Renamed) (t : Tables) → all_in_scope p scope n visible statements ≡ true →
      list_all is_plain statements ≡ true → list_all (is_listed p) (site_numbers_all statements) ≡ true →
      NamesOk p linked low names t → Lies p t → Seen p visible names → HomeSeen p scope visible → Stores q r (expand_list p calls r statements names t)
  list_home [] visible names t scoped plain listed ok lies seen homes into = refl
  list_home (s ∷ rest) visible names t scoped plain listed ok lies seen homes into =
      let both = and_true (in_scope p scope n visible s) (all_in_scope p scope n (seen_behind visible s) rest) scoped in
      let plainly = and_true (is_plain s) (list_all is_plain rest) plain in
      let parts = all_parts (is_listed p) (site_numbers s) (site_numbers_all rest) listed in
      let a : Piece = expand_one p calls r s names t in let b : Piece = expand_list p calls r rest a.names a.tables in
      let first = one_made p q places there linked low n scope r link calls limit params_scoped called s visible names t both.0 plainly.0
      parts.0 ok lies seen in
      let second = list_made p q places there linked low n scope r link calls limit params_scoped called rest (seen_behind visible s) a.names a.tables both.1
      plainly.1 parts.1 first.named first.lies first.seen in
      pass_join test a.code b.code (one_home s visible names t both.0 plainly.0 parts.0 ok lies seen homes (grows_on second.grows into))
      (list_home rest (seen_behind visible s) a.names a.tables both.1 plainly.1 parts.1 first.named first.lies first.seen
      (home_behind p scope n visible s both.0 homes) into)
