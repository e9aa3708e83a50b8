-- The whole expanded program: the text of `main` with its regions, and the start.
use Rattle.std.proofs.Common.{◌≡◌, ◌⊎◌, inl, inr, refl, sym, ap, ◌∙◌, subst, ℕ, zero, suc, ◌<◌, ◌≤◌, ◌==◌, Bool, true, false, ◌||◌, if◌then◌else◌, List, []}
use Rattle.std.proofs.Common.{◌∷◌, length, Option, Some, None, slice_get, arith, eqb-true}
use Rattle.std.specs.List.{list_all}
use Rattle.std.proofs.lemmas.Option.{same_Some}
use Rattle.dp_base.specs.declared.SiteId.{SiteId}
use Rattle.dp_base.specs.declared.VarId.{VarId}
use Rattle.dp_room.proofs.ListLemmas.{at_index}
use Rattle.dp_tree.specs.declared.Expr.{Expr}
use Rattle.dp_tree.specs.declared.Stmt.{Stmt, Row_of-Stmt}
use Rattle.dp_tree.specs.declared.Stmt.TheViews.{outs-Region, outs-Region'}
use Rattle.dp_tree.specs.declared.Stmt.TheVariants as stmt
use Rattle.dp_tree.specs.declared.Stmt.TheOpen.{Region}
use Rattle.dp_tree.specs.declared.VarInfo.{VarInfo}
use Rattle.dp_tree.specs.declared.VarScope.{VarScope}
use Rattle.dp_tree.specs.declared.VarScope.TheVariants.{Outer, Body}
use Rattle.dp_tree.specs.declared.Program.{Program}
use Rattle.dp_tree.specs.Functions.{body_in}
use Rattle.dp_tree.specs.Numbering.{site_numbers, site_numbers_in, site_numbers_all, is_plain, is_inner_in, top_fits, next_region, regions_in_order}
use Rattle.dp_tree.specs.Scoping.{sees, knows, is_scope_in, is_declared_in, seen_behind, in_scope, rows_in_scope, all_in_scope}
use Rattle.dp_tree.specs.Step.{line_of, is_local_of}
use Rattle.dp_calls.specs.Frame.{global_count}
use Rattle.dp_calls.specs.Renaming.{Renamed, renamed}
use Rattle.dp_calls.specs.Tables.{Tables, scope_in, with_source_site, new_site}
use Rattle.dp_calls.specs.Expand.{Piece, piece_behind, as_region, Calls, expand_one, expand_rows, expand_list, calls_within}
use Rattle.dp_tree.proofs.Heads.{and_true}
use Rattle.dp_tree.specs.Statements.{listed}
use Rattle.dp_tree.proofs.InnerTexts.{shown_listed}
use Rattle.dp_calls.proofs.Relation.{Env, PlaceOf, file_count, is_quiet, Quiet, One, act, Block, Body as BodyOf, marks}
use Rattle.dp_calls.proofs.SameValues.{sees_one}
use Rattle.dp_calls.proofs.Tabled.{grows_on, grows_source_site, grows_region, Lies, moved}
use Rattle.dp_calls.proofs.Named.{NamesOk, names_grow, Seen, steps_not}
use Rattle.dp_calls.proofs.Made.{Closes, closes_before, Made, source_line, is_listed}
use Rattle.dp_calls.proofs.Passed.{Homely, home_moved}
use Rattle.dp_calls.proofs.Declared.{lies_sited, names_sited, final_renamed}
use Rattle.dp_calls.proofs.Pieces.{all_parts, seen_in, Called, one_made, list_made, both_made, none_made}
use Rattle.dp_calls.proofs.PlainLaws.{Plain, plain_list}
use Rattle.dp_calls.proofs.Bodies.{body_made}
use Rattle.dp_calls.proofs.CheckedTexts.{TextOf}

-- a scope of region r
pub scope_is : (r : ℕ) (scope : VarScope) → is_scope_in r scope ≡ true → scope ≡ scope_in r
scope_is zero Outer e = refl
scope_is (suc r) (Body k) e = ap Body (eqb-true k (suc r) e)
scope_is _ _ e = absurd (cc e)

-- both entries are of the same regions
abbrev pub Linked : Option VarInfo → Option VarInfo → Type 0
Linked source target = (k : ℕ) → is_quiet k target ≡ is_quiet k source

pub linked_moved : (r : ℕ) (info : VarInfo) (cell : ℕ) → is_scope_in r info.scope ≡ true → Linked (Some info) (Some (moved info cell r))
linked_moved r info cell is k = ap (is_local_of k) (sym (scope_is r info.scope is))

-- the variables that are visible at the top of `main` are of no region
abbrev pub TopSeen : Program → List ℕ → Type 0
TopSeen p visible = (x : VarId) → sees visible x ≡ true → (x.0 < file_count p) ⊎ (is_declared_in 0 (slice_get p.vars x.0) ≡ true)

quiet_outer : (k : ℕ) (o : Option VarInfo) → is_declared_in 0 o ≡ true → is_quiet k o ≡ false
quiet_outer k None e = refl
quiet_outer k (Some info) e = ap (is_local_of k) (scope_is 0 info.scope e)

module _ (p q : Program) (places : (x : ℕ) (info : VarInfo) → slice_get p.vars x ≡ Some info → PlaceOf (file_count p) (global_count p) x info)
    (there : file_count p ≤ length p.vars)
    (text_of : (f : ℕ) → TextOf p f (slice_get p.functions f)) where
  -- calls that nest no deeper than this
  pub calls_made : (depth : ℕ) → depth ≤ length p.functions → (f : ℕ) → f < depth → (r : ℕ) → Called p q (calls_within p depth) r f
  calls_made zero within f less r low names t above ok lies seen = absurd (omega (arith, less))
  calls_made (suc depth) within f less r low names t above ok lies seen =
      let text = text_of f in
      list_made p q places there (Homely r) low f 0 r (λ info cell is. home_moved r info cell) (calls_within p depth) (omega (arith, less, within))
      (λ g. (text_of g).params)
      (λ g below. (let deeper : g < depth = omega (arith, below, less) in let shallow : depth ≤ length p.functions = omega (arith, within) in
      calls_made depth shallow g deeper r))
      (body_in (slice_get p.functions f)) (seen_in p f) names t text.scoped text.plain text.listed ok lies seen

  abbrev pub most : ℕ
  most = length p.functions

  abbrev pub calls : Calls
  calls = calls_within p most

  pub called : (r f : ℕ) → f < most → Called p q calls r f
  called r f less = calls_made most (omega arith) f less r

  pub plain_calls : (depth f r : ℕ) (names : List Renamed) (t : Tables) → Plain t (calls_within p depth f r names t)
  plain_calls zero f r names t = (refl, refl)
  plain_calls (suc depth) f r names t = plain_list p (calls_within p depth) (plain_calls depth) r (body_in (slice_get p.functions f)) names t (text_of f).plain

  -- what a statement at the top, and what several become
  abbrev pub TopMade : List ℕ → List Renamed → Tables → List ℕ → Stmt → Piece → Type 0
  TopMade visible names t piece_behind s a = Made p q Linked (file_count p) most names t piece_behind a (λ e. One p q e visible piece_behind s a.code)

  abbrev pub MainMade : List ℕ → List Renamed → Tables → List Stmt → Piece → Type 0
  MainMade visible names t statements a = Made p q Linked (file_count p) most names t visible a (λ e. Block p q e visible statements a.code)

  -- a region's body locals aren't visible at the top
  quiet_top : (k : ℕ) (visible : List ℕ) (names : List Renamed) (t : Tables) (e : Env) → NamesOk p Linked (file_count p) names t → Seen p visible names →
      TopSeen p visible → Closes p q (file_count p) most names t e → Quiet p q e visible k
  quiet_top k visible names t e ok seen top closes x y sees_x named = elim (seen x sees_x) [
    | inl less ↦ (let over = closes.files x.0 y named in absurd (omega (arith, less, over)))
    | inr old ↦ elim (top x sees_x) [
      | inl less ↦ (let over = closes.files x.0 y named in absurd (omega (arith, less, over)))
      | inr outer ↦
          (let same : old.0 ≡ y = same_Some old.0 y (sym (closes.ends.stable x.0 old.0 old.1) ∙ named) in
          let source = quiet_outer k (slice_get p.vars x.0) outer in let entry = at_index t.vars old.0 (ok.target x.0 old.0 old.1).1 in
          let final : slice_get q.vars old.0 ≡ slice_get t.vars old.0 = closes.into.vars old.0 entry.0 entry.1 ∙ sym entry.1 in
          (source, ap (λ (n : ℕ). is_quiet k (slice_get q.vars n)) (sym same) ∙ ap (is_quiet k) final ∙ ok.link x.0 old.0 old.1 k ∙ source))
    ]
  ]

  region_by : (k : ℕ) (site : SiteId) (v : Expr) (m : _) (body : Row_of-Stmt _) (visible : List ℕ) (names : List Renamed) (t : Tables) (a : Piece) →
      knows visible v ≡ true → is_listed p site.0 ≡ true →
      NamesOk p Linked (file_count p) names t → Seen p visible names → TopSeen p visible →
      Made p q Linked (file_count p) most names (with_source_site p k site t) visible a (λ e. BodyOf p q e visible (listed body) a.code) →
      TopMade visible names t visible (stmt.Region' k site v m body) (as_region (line_of p site) k (new_site t) (renamed names v) a)
  region_by k site v m body visible names t a known_v listed ok seen top made = record {
    grows = grows_on (grows_source_site p k site t) (grows_on made.grows (grows_region (line_of p site) (new_site t) a.tables));
    lies = record {
      place = made.lies.place;
      cells = made.lies.cells;
      above = made.lies.above;
      own = made.lies.own;
      start = made.lies.start;
      room = made.lies.room;
    };
    named = names_grow p Linked (file_count p) (grows_region (line_of p site) (new_site t) a.tables) made.named;
    steps = made.steps;
    seen = made.seen;
    becomes = λ e closes.
        (let middle = closes_before p q (file_count p) most e (grows_region (line_of p site) (new_site t) a.tables)
        (steps_not a.names (length a.tables.vars)) closes in
        let begin = closes_before p q (file_count p) most e made.grows made.steps middle in
        let here = closes_before p q (file_count p) most e (grows_source_site p k site t) (steps_not names (length t.vars)) begin in
        act (marks (outs-Region' k site v m body ∙ ap (λ (x : List Stmt). Region k site v x) (shown_listed m body))
        (outs-Region k (new_site t) (renamed names v) a.code ∙ ap (λ (w : Expr). Region k (new_site t) w a.code)
        (final_renamed p q places there Linked (file_count p) most k k (linked_moved k) visible names t e ok seen here v known_v))
        (source_line p q k site t listed begin.into) known_v (made.becomes e middle) (quiet_top k visible names t e ok seen top here) closes.may_call));
  }

  abbrev pub Ready : List ℕ → List Renamed → Tables → Type 0
  Ready visible names t = NamesOk p Linked (file_count p) names t × Lies p t × Seen p visible names × TopSeen p visible

  plain_top : (s : Stmt) (visible : List ℕ) (names : List Renamed) (t : Tables) → in_scope p 0 most visible s ≡ true → is_plain s ≡ true →
      list_all (is_listed p) (site_numbers s) ≡ true → Ready visible names t →
      TopMade visible names t (seen_behind visible s) s (expand_one p calls 0 s names t)
  plain_top s visible names t scoped plain listed ready =
      one_made p q places there Linked (file_count p) most 0 0 (linked_moved 0) calls (omega arith) (λ g. (text_of g).params) (called 0) s visible names t
      scoped plain listed ready.0 ready.1 ready.2

  pub top_made : (k : ℕ) (s : Stmt) (visible : List ℕ) (names : List Renamed) (t : Tables) → in_scope p 0 most visible s ≡ true → top_fits k s ≡ true →
      list_all (is_listed p) (site_numbers s) ≡ true → Ready visible names t →
      TopMade visible names t (seen_behind visible s) s (expand_one p calls 0 s names t)
  top_made k (stmt.Region' r site v m body) visible names t scoped fits listed ready =
      let both = and_true (knows visible v) (rows_in_scope p r most visible body) scoped in
      let plainly = and_true (r == k) (is_inner_in body) fits in
      let sites = and_true (is_listed p site.0) (list_all (is_listed p) (site_numbers_in body)) listed in
      let inside = body_made p q places there Linked (file_count p) most r r (linked_moved r) calls (omega arith) (λ g. (text_of g).params) (called r)
      (plain_calls most) body visible names (with_source_site p r site t) both.1 plainly.1 sites.1
      (names_sited p q places there Linked (file_count p) most r r (linked_moved r) site names t ready.0)
      (lies_sited p q places there Linked (file_count p) most r r (linked_moved r) site t ready.1) ready.2 in
      region_by r site v m body visible names t (expand_rows p calls r body names (with_source_site p r site t)) both.0 sites.0 ready.0 ready.2 ready.3 inside
  top_made k (stmt.Break site v) visible names t scoped fits listed ready = absurd (cc fits)
  top_made k s visible names t scoped fits listed ready = plain_top s visible names t scoped fits listed ready

  top_assigned : (b : Bool) (visible : List ℕ) (x : VarId) → sees visible x ≡ b → (b || is_declared_in 0 (slice_get p.vars x.0)) ≡ true → TopSeen p visible →
      TopSeen p (if b then visible else x.0 ∷ visible)
  top_assigned true visible x is scoped top w at = top w at
  top_assigned false visible x is scoped top w at = elim (sees_one x.0 visible w at) [
    | inl same ↦ inr (subst (λ (n : ℕ). is_declared_in 0 (slice_get p.vars n) ≡ true) same scoped)
    | inr before ↦ top w before
  ]

  pub top_behind : (visible : List ℕ) (s : Stmt) → in_scope p 0 most visible s ≡ true → TopSeen p visible → TopSeen p (seen_behind visible s)
  top_behind visible (stmt.Assign site x v) scoped top =
      top_assigned (sees visible x) visible x refl (and_true (knows visible v) (sees visible x || is_declared_in 0 (slice_get p.vars x.0)) scoped).1 top
  top_behind visible _ scoped top = top

  pub main_made : (k : ℕ) (statements : List Stmt) (visible : List ℕ) (names : List Renamed) (t : Tables) → all_in_scope p 0 most visible statements ≡ true →
      regions_in_order k statements ≡ true → list_all (is_listed p) (site_numbers_all statements) ≡ true →
      Ready visible names t → MainMade visible names t statements (expand_list p calls 0 statements names t)
  main_made k [] visible names t scoped fits listed ready =
      none_made p q places there Linked (file_count p) most 0 0 (linked_moved 0) calls (omega arith) (λ g. (text_of g).params) (called 0) visible names t
      ready.0 ready.1 ready.2
  main_made k (s ∷ rest) visible names t scoped fits listed ready =
      let both = and_true (in_scope p 0 most visible s) (all_in_scope p 0 most (seen_behind visible s) rest) scoped in
      let fit = and_true (top_fits k s) (regions_in_order (next_region k s) rest) fits in
      let parts = all_parts (is_listed p) (site_numbers s) (site_numbers_all rest) listed in
      let a : Piece = expand_one p calls 0 s names t in let first = top_made k s visible names t both.0 fit.0 parts.0 ready in
      let second = main_made (next_region k s) rest (seen_behind visible s) a.names a.tables both.1 fit.1 parts.1
      (first.named, first.lies, first.seen, top_behind visible s both.0 ready.3) in
      both_made p q places there Linked (file_count p) most 0 0 (linked_moved 0) calls (omega arith) (λ g. (text_of g).params) (called 0) visible names t s rest
      a (expand_list p calls 0 rest a.names a.tables) ready.2 first second
