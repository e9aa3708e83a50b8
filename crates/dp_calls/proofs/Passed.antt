-- The bindings of a call's arguments in the expanded text.
use Rattle.std.proofs.Common.{◌≡◌, inl, inr, refl, sym, ap, ap₂, ◌∙◌, subst, ℕ, zero, suc, ◌≤◌, Bool, true, false, not, ◌&&◌, List, [], ◌∷◌, length, Option}
use Rattle.std.proofs.Common.{Some, None, slice_get, arith, eq-eqb}
use Rattle.std.specs.List.{list_all}
use Rattle.dp_base.specs.declared.SiteId.{SiteId}
use Rattle.dp_base.specs.declared.VarId.{VarId}
use Rattle.dp_tree.specs.declared.Expr.{Expr}
use Rattle.dp_tree.specs.declared.Stmt.{Stmt, out-Stmt}
use Rattle.dp_tree.specs.declared.Stmt.TheViews.{outs-Assign}
use Rattle.dp_tree.specs.declared.Stmt.TheVariants as stmt
use Rattle.dp_tree.specs.declared.Stmt.TheOpen.{Assign}
use Rattle.dp_tree.specs.declared.VarInfo.{VarInfo}
use Rattle.dp_tree.specs.declared.VarScope.{VarScope}
use Rattle.dp_tree.specs.declared.VarScope.TheVariants.{Outer, Body}
use Rattle.dp_tree.specs.declared.SiteInfo.{SiteInfo}
use Rattle.dp_tree.specs.declared.SiteKind.TheVariants as kind
use Rattle.dp_tree.specs.declared.Program.{Program}
use Rattle.dp_tree.specs.Globals.{is_global_scope}
use Rattle.dp_tree.specs.Scoping.{sees, knows, is_scope_in, is_declared_in, params_in_scope, seen_behind_params}
use Rattle.dp_calls.specs.Frame.{global_count}
use Rattle.dp_calls.specs.Renaming.{Renamed, named_in, target_or, target_of, renamed}
use Rattle.dp_calls.specs.AtHome.{is_home, is_home_at}
use Rattle.dp_calls.specs.Tables.{Tables, scope_in, with_local, with_site, new_site}
use Rattle.dp_calls.specs.Expand.{bindings}
use Rattle.dp_tree.proofs.Heads.{and_true}
use Rattle.dp_calls.proofs.Relation.{Env, PlaceOf, file, own, file_count, Binds, bound, binds}
use Rattle.dp_calls.proofs.SameValues.{sees_one, sees_new, sees_more}
use Rattle.dp_calls.proofs.Tabled.{Grows, grows_not, grows_on, grows_site, grows_local, Lies, lies_local, moved}
use Rattle.dp_calls.proofs.Named.{NamesOk, names_grow, names_local, names_as, named_cons, named_new, Steps, steps_not, steps_on, steps_one, Seen, seen_steps}
use Rattle.dp_calls.proofs.Made.{closes_before, Made, binding_line}

-- a local of a region, or of none, is no file-scope variable
pub scope_local : (r : ℕ) (scope : VarScope) → is_scope_in r scope ≡ true → is_global_scope scope ≡ false
scope_local zero Outer e = refl
scope_local (suc r) (Body q) e = refl
scope_local _ _ e = absurd (cc)

module _ (p : Program) (places : (x : ℕ) (info : VarInfo) → slice_get p.vars x ≡ Some info → PlaceOf (file_count p) (global_count p) x info) where
  -- a declared variable has an entry, and one cell behind the file-scope ones
  pub record Local (r x : ℕ) : Type 0 where
    pub info : VarInfo
    pub at : slice_get p.vars x ≡ Some info
    pub behind : file_count p ≤ x
    pub one : info.length ≡ 1
    pub scope : is_scope_in r info.scope ≡ true

  local_place : (r x : ℕ) (info : VarInfo) → slice_get p.vars x ≡ Some info → is_scope_in r info.scope ≡ true →
      PlaceOf (file_count p) (global_count p) x info → Local r x
  local_place r x info at is (file _ global _ _) =
      let clash : true ≡ false = sym global ∙ scope_local r info.scope is in absurd (cc clash)
  local_place r x info at is (own behind _ _ one) = record { info = info; at = at; behind = behind; one = one; scope = is }

  local_by : (r x : ℕ) (o : Option VarInfo) → slice_get p.vars x ≡ o → is_declared_in r o ≡ true → Local r x
  local_by r x None at is = absurd (cc)
  local_by r x (Some info) at is = local_place r x info at is (places x info at)

  pub local_of : (r x : ℕ) → is_declared_in r (slice_get p.vars x) ≡ true → Local r x
  local_of r x is = local_by r x (slice_get p.vars x) refl is

-- what a call's variable stands for is at home where the call stands
abbrev pub Homely : ℕ → Option VarInfo → Option VarInfo → Type 0
Homely r source target = is_home_at r target ≡ true

home_scope : (r : ℕ) → is_home r (scope_in r) ≡ true
home_scope zero = refl
home_scope (suc r) = eq-eqb (suc r) (suc r) refl

pub home_moved : (r : ℕ) (info : VarInfo) (cell : ℕ) → Homely r (Some info) (Some (moved info cell r))
home_moved r info cell = home_scope r

not_true : (b : Bool) → not b ≡ true → b ≡ true → {A : Type 0} → A
not_true true e h = absurd (cc e)
not_true false e h = absurd (cc h)

module _ (p q : Program) (places : (x : ℕ) (info : VarInfo) → slice_get p.vars x ≡ Some info → PlaceOf (file_count p) (global_count p) x info)
    (low calls r line : ℕ) (caller : List Renamed) (known : List ℕ) where
  -- where the caller's names are final
  abbrev pub Final : Env → Type 0
  Final e = (v : Expr) → knows known v ≡ true → renamed caller v ≡ renamed e.names v

  abbrev pub Passes : List VarId → List Expr → List Stmt → Env → Type 0
  Passes params args code g = (e : Env) → Final e → Binds p q e g known line params args code

  abbrev info_of : SiteInfo
  info_of = record { line = line; kind = kind.Assign; region = r }

  free_by : (visible : List ℕ) (names : List Renamed) (x : VarId) (o : Option ℕ) → named_in names x.0 ≡ o → ((w : VarId) (y : ℕ) → named_in names w.0 ≡ Some y →
      sees visible w ≡ true) → not (sees visible x) ≡ true → named_in names x.0 ≡ None
  free_by visible names x None at only new = at
  free_by visible names x (Some y) at only new = not_true (sees visible x) new (only x y at)

  -- one binding, and those behind it
  one_passed : (x : VarId) (a : Expr) (params : List VarId) (args : List Expr) (visible : List ℕ) (names : List Renamed) (t : Tables) (info : VarInfo) →
      slice_get p.vars x.0 ≡ Some info → knows known a ≡ true →
      NamesOk p (Homely r) low names t → Lies p t → named_in names x.0 ≡ None → Local p places 0 x.0 →
      Made p q (Homely r) low calls (names_as x.0 (length t.vars) ∷ names) (with_local p r x.0 (with_site info_of t))
      (seen_behind_params (x.0 ∷ visible) params)
      (bindings p r line caller params args (names_as x.0 (length t.vars) ∷ names) (with_local p r x.0 (with_site info_of t)))
      (Passes params args (bindings p r line caller params args (names_as x.0 (length t.vars) ∷ names) (with_local p r x.0 (with_site info_of t))).code) →
      Made p q (Homely r) low calls names t (seen_behind_params visible (x ∷ params)) (bindings p r line caller (x ∷ params) (a ∷ args) names t)
      (Passes (x ∷ params) (a ∷ args) (bindings p r line caller (x ∷ params) (a ∷ args) names t).code)
  one_passed x a params args visible names t info at is_known ok lies free declared made =
      let t' : Tables = with_local p r x.0 (with_site info_of t) in let now : List Renamed = names_as x.0 (length t.vars) ∷ names in
      let grew : Grows t t' = grows_on (grows_site info_of t) (grows_local p r x.0 (with_site info_of t)) in
      let stepped : Steps names (length t.vars) now = steps_one names x.0 (length t.vars) free in
      record {
        grows = grows_on grew made.grows;
        lies = made.lies;
        named = made.named;
        steps = steps_on grew.long stepped made.steps;
        seen = made.seen;
        becomes = λ g closes e final.
            (let here = closes_before p q low calls g made.grows made.steps closes in
            let site : SiteId = new_site t in
            let first : target_of now x ≡ record { 0 = length t.vars } = ap (λ (o : Option ℕ). target_or o x.0) (named_new x.0 (length t.vars) names) in
            let named : named_in g.names x.0 ≡ Some (length t.vars) = here.ends.stable x.0 (length t.vars) (named_new x.0 (length t.vars) names) in
            let last : target_of g.names x ≡ record { 0 = length t.vars } = ap (λ (o : Option ℕ). target_or o x.0) named in
            let head : out-Stmt (stmt.Assign site (target_of now x) (renamed caller a)) ≡ Assign site (target_of g.names x) (renamed e.names a) =
            outs-Assign site (target_of now x) (renamed caller a) ∙ ap₂ (λ (y : VarId) (v : Expr). Assign site y v) (first ∙ sym last) (final a is_known) in
            binds head (binding_line p q info_of t (grows_on (grows_local p r x.0 (with_site info_of t)) here.into)) is_known named
            (made.becomes g closes e final));
      }

  pub passed : (params : List VarId) (args : List Expr) (visible : List ℕ) (names : List Renamed) (t : Tables) →
      params_in_scope p visible params ≡ true → length args ≡ length params → list_all (knows known) args ≡ true → NamesOk p (Homely r) low names t → Lies p t →
      Seen p visible names →
      ((w : VarId) (y : ℕ) → named_in names w.0 ≡ Some y → sees visible w ≡ true) →
      Made p q (Homely r) low calls names t (seen_behind_params visible params) (bindings p r line caller params args names t)
      (Passes params args (bindings p r line caller params args names t).code)
  passed [] [] visible names t scoped long known_all ok lies seen only =
      record { grows = grows_not t; lies = lies; named = ok; steps = steps_not names (length t.vars); seen = seen; becomes = λ g closes e final. bound }
  passed (x ∷ params) (a ∷ args) visible names t scoped long known_all ok lies seen only =
      let outer = and_true (not (sees visible x) && is_declared_in 0 (slice_get p.vars x.0)) (params_in_scope p (x.0 ∷ visible) params) scoped in
      let inner = and_true (not (sees visible x)) (is_declared_in 0 (slice_get p.vars x.0)) outer.0 in
      let both = and_true (knows known a) (list_all (knows known) args) known_all in let declared = local_of p places 0 x.0 inner.1 in
      let free : named_in names x.0 ≡ None = free_by visible names x (named_in names x.0) refl only inner.0 in
      let now : List Renamed = names_as x.0 (length t.vars) ∷ names in
      let stepped : Steps names (length t.vars) now = steps_one names x.0 (length t.vars) free in
      let less : length args ≡ length params = omega (arith, long) in
      let sited : NamesOk p (Homely r) low names (with_site info_of t) = names_grow p (Homely r) low (grows_site info_of t) ok in
      let level : Lies p (with_site info_of t) =
      record { place = lies.place; cells = lies.cells; above = lies.above; own = lies.own; start = lies.start; room = lies.room } in
      one_passed x a params args visible names t declared.info declared.at both.0 ok lies free declared
      (passed params args (x.0 ∷ visible) now (with_local p r x.0 (with_site info_of t)) outer.1 less both.1
      (names_local p (Homely r) low r x.0 names (with_site info_of t) declared.info declared.at declared.behind (home_moved r declared.info t.cells) free sited)
      (lies_local p r x.0 (with_site info_of t) declared.info declared.at declared.one level)
      (λ w at. elim (sees_one x.0 visible w at) [
        | inl is ↦ inr (length t.vars, subst (λ (n : ℕ). named_in now n ≡ Some (length t.vars)) is (named_new x.0 (length t.vars) names))
        | inr before ↦ seen_steps p visible stepped seen w before
      ])
      (λ w y at. elim (named_cons x.0 (length t.vars) names w.0 y at) [
        | inl is ↦ sees_new x.0 visible w is.0
        | inr before ↦ sees_more x.0 visible w (only w y before)
      ]))
  passed _ _ visible names t scoped long known_all ok lies seen only = absurd (omega (arith, long))
