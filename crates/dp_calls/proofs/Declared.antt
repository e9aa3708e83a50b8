-- An assignment in the expanded text, and the variable that it may declare.
use Rattle.std.proofs.Common.{◌≡◌, ◌⊎◌, inl, inr, refl, sym, ap, ap₂, ◌∙◌, subst, ℕ, ◌<◌, ◌≤◌, Bool, true, false, ◌&&◌, ◌||◌, if◌then◌else◌, List, ◌∷◌, length}
use Rattle.std.proofs.Common.{Option, Some, None, slice_get, arith}
use Rattle.dp_base.specs.declared.SiteId.{SiteId}
use Rattle.dp_base.specs.declared.VarId.{VarId}
use Rattle.dp_room.proofs.ListLemmas.{at_index}
use Rattle.dp_tree.specs.declared.Expr.{Expr}
use Rattle.dp_tree.specs.declared.Stmt.TheViews.{outs-Assign}
use Rattle.dp_tree.specs.declared.Stmt.TheVariants as stmt
use Rattle.dp_tree.specs.declared.Stmt.TheOpen.{Assign}
use Rattle.dp_tree.specs.declared.VarInfo.{VarInfo}
use Rattle.dp_tree.specs.declared.Program.{Program}
use Rattle.dp_tree.specs.Scoping.{sees, knows, is_scope_in, is_declared_in}
use Rattle.dp_calls.specs.Frame.{global_count}
use Rattle.dp_calls.specs.Renaming.{Renamed, named_in, target_of, renamed}
use Rattle.dp_calls.specs.Tables.{Tables, with_local, with_source_site, new_site}
use Rattle.dp_calls.specs.Expand.{Piece, nothing, is_global, is_known, declared_by, declared_in, assigned}
use Rattle.dp_calls.proofs.Relation.{Env, PlaceOf, file, own, file_count, Declares, known, new, One, act, assigns}
use Rattle.dp_calls.proofs.SameValues.{sees_one}
use Rattle.dp_calls.proofs.Tabled.{grows_not, grows_on, grows_source_site, grows_local, Lies, lies_local, moved}
use Rattle.dp_calls.proofs.Named.{NamesOk, names_grow, names_local, names_as, named_new, Steps, steps_not, steps_one, Seen, seen_steps}
use Rattle.dp_calls.proofs.Made.{Closes, closes_before, Made, target_by, same_target, same_renamed, source_line, is_listed}
use Rattle.dp_calls.proofs.Passed.{Local, local_of, scope_local}
use Rattle.dp_tree.proofs.Heads.{and_true}

module _ (p q : Program) (places : (x : ℕ) (info : VarInfo) → slice_get p.vars x ≡ Some info → PlaceOf (file_count p) (global_count p) x info)
    (there : file_count p ≤ length p.vars)
    (linked : Option VarInfo → Option VarInfo → Type 0) (low calls scope r : ℕ)
    (link : (info : VarInfo) (cell : ℕ) → is_scope_in scope info.scope ≡ true → linked (Some info) (Some (moved info cell r))) where
  -- the variable of an assignment: visible before, or visible from here on
  abbrev pub Declaring : List ℕ → VarId → List ℕ → List Renamed → Tables → Piece → Type 0
  Declaring visible x behind names t d =
      Made p q linked low calls names t behind d (λ e. Declares p q e visible x behind) × ((x.0 < file_count p) ⊎ ((y : ℕ) × (named_in d.names x.0 ≡ Some y)))

  file_global : (x : ℕ) (info : VarInfo) → slice_get p.vars x ≡ Some info → x < file_count p → PlaceOf (file_count p) (global_count p) x info →
      is_global (slice_get p.vars x) ≡ true
  file_global x info at less (file _ global _ _) = ap is_global at ∙ global
  file_global x info at less (own behind _ _ _) = absurd (omega (arith, less, behind))

  module _ (visible : List ℕ) (x : VarId) (names : List Renamed) (t : Tables) (ok : NamesOk p linked low names t) (lies : Lies p t)
      (seen : Seen p visible names) where
    -- no new variable
    stays : (behind : List ℕ) → Seen p behind names → ((e : Env) → Steps names (length t.vars) e.names → Declares p q e visible x behind) → (x.0 < file_count p)
        ⊎ ((y : ℕ) × (named_in names x.0 ≡ Some y)) →
        Declaring visible x behind names t (nothing names t)
    stays behind sees_behind declares found = (
      record {
        grows = grows_not t;
        lies = lies;
        named = ok;
        steps = steps_not names (length
            t.vars);
        seen = sees_behind;
        becomes = λ e closes. declares e closes.ends;
      },
      found,
    )

    seen_file : sees visible x ≡ true → named_in names x.0 ≡ None → x.0 < file_count p
    seen_file at free = elim (seen x at) [
      | inl less ↦ less
      | inr named ↦
          (let clash : ◌≡◌ {A = Option ℕ} None (Some named.0) = sym free ∙ named.1 in absurd (cc clash))
    ]

    file_known : x.0 < file_count p → is_global (slice_get p.vars x.0) ≡ true
    file_known less =
        let inside : x.0 < length p.vars = omega (arith, less, there) in let found = at_index p.vars x.0 inside in
        file_global x.0 found.0 found.1 less (places x.0 found.0 found.1)

    seen_here : (now : List Renamed) → (y : ℕ) → named_in now x.0 ≡ Some y → Seen p visible now → Seen p (x.0 ∷ visible) now
    seen_here now y named before w at = elim (sees_one x.0 visible w at) [
      | inl is ↦ inr (y, subst (λ (n : ℕ). named_in now n ≡ Some y) is named)
      | inr old ↦ before w old
    ]

    declared_new : Local p places scope x.0 → named_in names x.0 ≡ None →
        Declaring visible x (x.0 ∷ visible) names t (nothing (names_as x.0 (length t.vars) ∷ names) (with_local p r x.0 t))
    declared_new l free =
        let now : List Renamed = names_as x.0 (length t.vars) ∷ names in
        let steps : Steps names (length t.vars) now = steps_one names x.0 (length t.vars) free in
        let named : named_in now x.0 ≡ Some (length t.vars) = named_new x.0 (length t.vars) names in (
          record {
            grows = grows_local p r x.0 t;
            lies = lies_local p r x.0 t l.info l.at l.one lies;
            named = names_local p linked low r x.0 names t l.info l.at l.behind (link l.info t.cells l.scope) free ok;
            steps = steps;
            seen = seen_here now (length t.vars) named (seen_steps p visible steps seen);
            becomes = λ e closes. new (length t.vars) (closes.ends.stable x.0 (length t.vars) named);
          },
          inr (length t.vars, named),
        )

    declared_by_scope : (b : Bool) → sees visible x ≡ b → (o : Option ℕ) → named_in names x.0 ≡ o → (b || is_declared_in scope (slice_get p.vars x.0)) ≡ true →
        Declaring visible x (if b then visible else x.0 ∷ visible) names t (declared_by (is_known p o x.0) p r x.0 names t)
    declared_by_scope true at (Some y) named scoped = stays visible seen (λ e steps. known at) (inr (y, named))
    declared_by_scope true at None free scoped =
        let less = seen_file at free in
        subst (λ (k : Bool). Declaring visible x visible names t (declared_by k p r x.0 names t)) (sym (file_known less))
        (stays visible seen (λ e steps. known at) (inl less))
    declared_by_scope false at (Some y) named scoped =
        stays (x.0 ∷ visible) (seen_here names y named seen) (λ e steps. new y (steps.stable x.0 y named)) (inr (y, named))
    declared_by_scope false at None free scoped =
        let l = local_of p places scope x.0 scoped in
        let no : is_global (slice_get p.vars x.0) ≡ false = ap is_global l.at ∙ scope_local scope l.info.scope l.scope in
        subst (λ (k : Bool). Declaring visible x (x.0 ∷ visible) names t (declared_by k p r x.0 names t)) (sym no) (declared_new l free)

    declared_made : (sees visible x || is_declared_in scope (slice_get p.vars x.0)) ≡ true →
        Declaring visible x (if sees visible x then visible else x.0 ∷ visible) names t (declared_in p r x.0 names t)
    declared_made scoped = declared_by_scope (sees visible x) refl (named_in names x.0) refl scoped

  -- tables with one site more
  pub lies_sited : (site : SiteId) (t : Tables) → Lies p t → Lies p (with_source_site p r site t)
  lies_sited site t lies = record { place = lies.place; cells = lies.cells; above = lies.above; own = lies.own; start = lies.start; room = lies.room }

  pub names_sited : (site : SiteId) (names : List Renamed) (t : Tables) → NamesOk p linked low names t →
      NamesOk p linked low names (with_source_site p r site t)
  names_sited site names t ok = names_grow p linked low (grows_source_site p r site t) ok

  -- the expression in the final names
  pub final_renamed : (visible : List ℕ) (names : List Renamed) (t : Tables) (e : Env) → NamesOk p linked low names t → Seen p visible names →
      Closes p q low calls names t e → (v : Expr) → knows visible v ≡ true →
      renamed names v ≡ renamed e.names v
  final_renamed visible names t e ok seen closes v k =
      same_renamed names e.names visible (same_target p q linked low calls names t e ok closes visible seen) v k

  assigned_as : (site : SiteId) (x : VarId) (v : Expr) (visible behind : List ℕ) (names : List Renamed) (t : Tables) (d : Piece) → knows visible v ≡ true →
      is_listed p site.0 ≡ true →
      NamesOk p linked low names t → Seen p visible names → Declaring visible x behind names (with_source_site p r site t) d →
      Made p q linked low calls names t behind (assigned (new_site t) x (renamed names v) d) (λ e. One p q e visible behind (stmt.Assign site x v)
      (assigned (new_site t) x (renamed names v) d).code)
  assigned_as site x v visible behind names t d known_v listed ok seen (made, found) =
      record {
        grows = grows_on (grows_source_site p r site t) made.grows;
        lies = made.lies;
        named = made.named;
        steps = made.steps;
        seen = made.seen;
        becomes = λ e closes.
            (let before = closes_before p q low calls e made.grows made.steps closes in
            let here : SiteId = new_site t in
            let target : target_of d.names x ≡ target_of e.names x =
            target_by p d.names e.names (length d.tables.vars) x closes.ends (λ y at. (made.named.source x.0 y at).0) (λ y at. closes.files x.0 y at) found in
            let value : renamed names v ≡ renamed e.names v = final_renamed visible names (with_source_site p r site t) e (names_sited site names t ok)
            seen before v known_v in
            act (assigns (outs-Assign site x v)
            (outs-Assign here (target_of d.names x) (renamed names v) ∙ ap₂ (λ (y : VarId) (w : Expr). Assign here y w) target value)
            (source_line p q r site t listed before.into) known_v (made.becomes e closes)));
      }

  pub assigned_made : (site : SiteId) (x : VarId) (v : Expr) (visible : List ℕ) (names : List Renamed) (t : Tables) →
      (knows visible v && (sees visible x || is_declared_in scope (slice_get p.vars x.0))) ≡ true → is_listed p site.0 ≡ true →
      NamesOk p linked low names t → Lies p t → Seen p visible names →
      Made p q linked low calls names t (if sees visible x then visible else x.0 ∷ visible)
      (assigned (new_site t) x (renamed names v) (declared_in p r x.0 names (with_source_site p r site t)))
      (λ e. One p q e visible (if sees visible x then visible else x.0 ∷ visible) (stmt.Assign site x v)
      (assigned (new_site t) x (renamed names v) (declared_in p r x.0 names (with_source_site p r site t))).code)
  assigned_made site x v visible names t scoped listed ok lies seen =
      let both = and_true (knows visible v) (sees visible x || is_declared_in scope (slice_get p.vars x.0)) scoped in
      assigned_as site x v visible (if sees visible x then visible else x.0 ∷ visible) names t (declared_in p r x.0 names (with_source_site p r site t))
      both.0 listed ok seen
      (declared_made visible x names (with_source_site p r site t) (names_sited site names t ok) (lies_sited site t lies) seen both.1)
