-- The locals of an expanded program start as those do for which they stand.
use Rattle.std.proofs.Common.{◌≡◌, refl, sym, ap, ◌∙◌, subst, ℕ, zero, suc, ◌<◌, Bool, true, false, not, ◌&&◌, if◌then◌else◌, List, [], ◌∷◌, ℤ, length, Option}
use Rattle.std.proofs.Common.{Some, None, slice_get, nat_lt, arith, lt-ltb}
use Rattle.std.specs.List.{list_all}
use Rattle.std.proofs.lemmas.List.Folds.{list_all-append}
use Rattle.dp_base.specs.Arithmetic.{is_zero}
use Rattle.dp_base.specs.declared.VarId.{VarId}
use Rattle.dp_tree.specs.declared.Expr.{Expr}
use Rattle.dp_tree.specs.declared.Function.{Function}
use Rattle.dp_tree.specs.declared.Stmt.{Stmt, Row_of-Stmt, end_of-Stmt, more_of-Stmt}
use Rattle.dp_tree.specs.declared.Stmt.TheVariants.{Assign, Store, Print, If', While', Region', Break, Call}
use Rattle.dp_tree.specs.declared.SiteKind.TheVariants as kind
use Rattle.dp_tree.specs.declared.VarInfo.{VarInfo}
use Rattle.dp_tree.specs.declared.VarScope.{VarScope}
use Rattle.dp_tree.specs.declared.VarScope.TheVariants.{Global, Outer, Body}
use Rattle.dp_tree.specs.declared.Program.{Program}
use Rattle.dp_tree.specs.Checked.{IsChecked}
use Rattle.dp_tree.specs.Functions.{body_in, params_in}
use Rattle.dp_tree.specs.Globals.{globals_in, is_global_scope}
use Rattle.dp_tree.specs.Scoping.{all_in_scope, function_in_scope, functions_in_scope, global_numbers, is_declared_in, is_scope_in, params_in_scope}
use Rattle.dp_tree.specs.Scoping.{seen_behind_params, sees}
use Rattle.dp_tree.proofs.Heads.{and_make, and_true}
use Rattle.std.proofs.lemmas.Bool.{not-true}
use Rattle.dp_calls.specs.Expand.{Calls, bindings, calls_within, declared_by, declared_in, expand, expand_list, expand_one, expand_rows, is_global, is_known}
use Rattle.dp_calls.specs.Renaming.{Renamed, named_in}
use Rattle.dp_calls.specs.Starts.{is_clear_start, locals_start_clear, starts_clear}
use Rattle.dp_calls.specs.Tables.{Tables, first_tables, moved_to, scope_in, with_local, with_site, with_source_site}

-- ---- entries

-- an entry that is found passes where all do
passes_at : (vars : List VarInfo) (i : ℕ) (x : VarInfo) → list_all starts_clear vars ≡ true → slice_get vars i ≡ Some x → starts_clear x ≡ true
passes_at [] i x all at = absurd (cc at)
passes_at (y ∷ vars) zero x all at = let same : y ≡ x = cc at in ap starts_clear (sym same) ∙ (and_true (starts_clear y) (list_all starts_clear vars) all).0
passes_at (y ∷ vars) (suc i) x all at = passes_at vars i x (and_true (starts_clear y) (list_all starts_clear vars) all).1 at

-- a local starts at 0
zero_start : (start : ℤ) (scope : VarScope) → is_global_scope scope ≡ false → is_clear_start start scope ≡ true → is_zero start ≡ true
zero_start start Global local clear = absurd (cc local)
zero_start start Outer local clear = clear
zero_start start (Body r) local clear = (and_true _ (is_zero start) clear).1

-- .. wherever it stands
clear_in : (r : ℕ) (start : ℤ) → is_zero start ≡ true → is_clear_start start (scope_in r) ≡ true
clear_in zero start zero_is = zero_is
clear_in (suc r) start zero_is = let some : 0 < suc r = omega arith in and_make (nat_lt 0 (suc r)) (is_zero start) (lt-ltb 0 (suc r) some) zero_is

pub Clear : Tables → Type 0
Clear t = list_all starts_clear t.vars ≡ true

module _ (p : Program) (starts : locals_start_clear p ≡ true) where
  moved_clear : (o : Option VarInfo) (x cell r : ℕ) → slice_get p.vars x ≡ o → is_global o ≡ false → list_all starts_clear (moved_to o cell r) ≡ true
  moved_clear None x cell r at local = refl
  moved_clear (Some info) x cell r at local =
      and_make _ true (clear_in r info.start (zero_start info.start info.scope local (passes_at p.vars x info starts at))) refl

  local_clear : (r x : ℕ) (t : Tables) → is_global (slice_get p.vars x) ≡ false → Clear t → Clear (with_local p r x t)
  unfolding Clear
  local_clear r x t local clear =
      list_all-append starts_clear t.vars (moved_to (slice_get p.vars x) t.cells r)
      ∙ and_make (list_all starts_clear t.vars) _ clear (moved_clear (slice_get p.vars x) x t.cells r refl local)

  declared_clear : (r x : ℕ) (names : List Renamed) (t : Tables) → Clear t → Clear (declared_in p r x names t).tables
  declared_clear r x names t clear = by (named_in names x) (is_global (slice_get p.vars x)) refl
    where
      by : (o : Option ℕ) (b : Bool) → is_global (slice_get p.vars x) ≡ b → Clear (declared_by (is_known p o x) p r x names t).tables
      by (Some y) b e = clear
      by None true e = subst (λ (b : Bool). Clear (declared_by b p r x names t).tables) (sym e) clear
      by None false e = subst (λ (b : Bool). Clear (declared_by b p r x names t).tables) (sym e) (local_clear r x t e clear)

  -- ---- a call's arguments

  -- the parameter is a local
  abbrev is_local_parameter : VarId → Bool
  is_local_parameter x = not (is_global (slice_get p.vars x.0))

  bound_clear : (r line : ℕ) (caller : List Renamed) (params : List VarId) (args : List Expr) (names : List Renamed) (t : Tables) →
      list_all is_local_parameter params ≡ true → Clear t → Clear (bindings p r line caller params args names t).tables
  unfolding Clear
  bound_clear r line caller [] args names t locals clear = clear
  bound_clear r line caller (x ∷ params) [] names t locals clear = clear
  bound_clear r line caller (x ∷ params) (e ∷ args) names t locals clear =
      let both = and_true (is_local_parameter x) (list_all is_local_parameter params) locals in
      bound_clear r line caller params args (record { source = x.0; target = length t.vars } ∷ names)
      (with_local p r x.0 (with_site (record { line = line; kind = kind.Assign; region = r }) t)) both.1
      (local_clear r x.0 (with_site (record { line = line; kind = kind.Assign; region = r }) t) (not-true (is_global (slice_get p.vars x.0)) both.0) clear)

  -- ---- texts

  -- a call's body leaves the tables so
  CallsKeep : Calls → Type 0
  CallsKeep calls = (f r : ℕ) (names : List Renamed) (t : Tables) → Clear t → Clear (calls f r names t).tables

  module _ (locals : (f : ℕ) → list_all is_local_parameter (params_in (slice_get p.functions f)) ≡ true) (calls : Calls) (keep : CallsKeep calls) where
    mutual
      unfolding Clear CallsKeep

      one_clear : (r : ℕ) (s : Stmt) (names : List Renamed) (t : Tables) → Clear t → Clear (expand_one p calls r s names t).tables
      one_clear r (Assign site x e) names t clear = declared_clear r x.0 names (with_source_site p r site t) clear
      one_clear r (Store site x index e) names t clear = clear
      one_clear r (Print site e) names t clear = clear
      one_clear r (If' site cond h a k b) names t clear = rows_clear r b (expand_rows p calls r a names (with_source_site p r site t)).names
          (expand_rows p calls r a names (with_source_site p r site t)).tables (rows_clear r a names (with_source_site p r site t) clear)
      one_clear r (While' site cond h a) names t clear = rows_clear r a names (with_source_site p r site t) clear
      one_clear r (Region' q site cond h a) names t clear = rows_clear q a names (with_source_site p q site t) clear
      one_clear r (Break site cond) names t clear = clear
      one_clear r (Call f line args) names t clear = let b = bindings p r line names (params_in (slice_get p.functions f)) args [] t in
          keep f r b.names b.tables (bound_clear r line names (params_in (slice_get p.functions f)) args [] t (locals f) clear)

      rows_clear : {n : _} (r : ℕ) (rows : Row_of-Stmt n) (names : List Renamed) (t : Tables) → Clear t → Clear (expand_rows p calls r rows names t).tables
      rows_clear r end_of-Stmt names t clear = clear
      rows_clear r (more_of-Stmt s rest) names t clear =
          rows_clear r rest (expand_one p calls r s names t).names (expand_one p calls r s names t).tables (one_clear r s names t clear)

    list_clear : (r : ℕ) (xs : List Stmt) (names : List Renamed) (t : Tables) → Clear t → Clear (expand_list p calls r xs names t).tables
    list_clear r [] names t clear = clear
    list_clear r (s ∷ rest) names t clear =
        list_clear r rest (expand_one p calls r s names t).names (expand_one p calls r s names t).tables (one_clear r s names t clear)

  module _ (locals : (f : ℕ) → list_all is_local_parameter (params_in (slice_get p.functions f)) ≡ true) where
    within_clear : (depth : ℕ) → CallsKeep (calls_within p depth)
    unfolding CallsKeep
    within_clear zero f r names t clear = clear
    within_clear (suc depth) f r names t clear =
        list_clear locals (calls_within p depth) (within_clear depth) r (body_in (slice_get p.functions f)) names t clear

    files_clear : (vars : List VarInfo) → list_all starts_clear vars ≡ true → list_all starts_clear (globals_in vars) ≡ true
    files_clear [] h = refl
    files_clear (x ∷ vars) h = let both = and_true (starts_clear x) (list_all starts_clear vars) h in
        by (is_global_scope x.scope) both.0 (files_clear vars both.1)
      where
        by : (b : Bool) → starts_clear x ≡ true → list_all starts_clear (globals_in vars) ≡ true →
            list_all starts_clear (if b then x ∷ globals_in vars else globals_in vars) ≡ true
        by true here later = and_make (starts_clear x) (list_all starts_clear (globals_in vars)) here later
        by false here later = later

    expanded_clear : locals_start_clear (expand p) ≡ true
    unfolding Clear
    expanded_clear = list_clear locals (calls_within p (length p.functions)) (within_clear (length p.functions)) 0 p.main [] (first_tables p)
        (files_clear p.vars starts)

  -- ---- a checked program's parameters

  local_declared : (o : Option VarInfo) → is_declared_in 0 o ≡ true → is_global o ≡ false
  local_declared None e = absurd (cc e)
  local_declared (Some info) e = by info.scope e
    where
      by : (scope : VarScope) → is_scope_in 0 scope ≡ true → is_global_scope scope ≡ false
      by Global e = absurd (cc e)
      by Outer e = refl
      by (Body q) e = refl

  params_local : (visible : List ℕ) (params : List VarId) → params_in_scope p visible params ≡ true → list_all is_local_parameter params ≡ true
  params_local visible [] e = refl
  params_local visible (x ∷ params) e =
      let both = and_true (not (sees visible x) && is_declared_in 0 (slice_get p.vars x.0)) (params_in_scope p (x.0 ∷ visible) params) e in
      let here = and_true (not (sees visible x)) (is_declared_in 0 (slice_get p.vars x.0)) both.0 in
      and_make (is_local_parameter x) (list_all is_local_parameter params) (ap not (local_declared (slice_get p.vars x.0) here.1))
      (params_local (x.0 ∷ visible) params both.1)

  functions_local : (n : ℕ) (functions : List Function) → functions_in_scope p n functions ≡ true → (f : ℕ) →
      list_all is_local_parameter (params_in (slice_get functions f)) ≡ true
  functions_local n [] e f = refl
  functions_local n (g ∷ functions) e zero =
      let both = and_true (function_in_scope p n g) (functions_in_scope p (suc n) functions) e in
      params_local (global_numbers p) g.params (and_true (params_in_scope p (global_numbers p) g.params)
      (all_in_scope p 0 n (seen_behind_params (global_numbers p) g.params) g.body) both.0).0
  functions_local n (g ∷ functions) e (suc f) =
      functions_local (suc n) functions (and_true (function_in_scope p n g) (functions_in_scope p (suc n) functions) e).1 f

pub expanded_starts : (p : Program) → IsChecked p → locals_start_clear p ≡ true → locals_start_clear (expand p) ≡ true
expanded_starts p checked starts =
    expanded_clear p starts
    (functions_local p starts 0 p.functions (and_true (functions_in_scope p 0 p.functions) (all_in_scope p 0 (length p.functions) (global_numbers p)
    p.main) checked.scoped).0)
