-- The stages of a written plan, where its lines are in order.
use Rattle.dp_semantics.proofs.Names.{◌≡◌, refl, sym, ap, ◌∙◌, ℕ, zero, suc, ◌+◌, ◌<◌, ◌≤◌, ◌==◌, Bool, true, false, ◌&&◌, ◌||◌, if◌then◌else◌, List, [], ◌∷◌}
use Rattle.dp_semantics.proofs.Names.{map, length, Some, None, slice_get, nat_lt, arith, list_any-append, list_all, flat_map, Seq, Par, StageKind, is_par}
use Rattle.dp_semantics.proofs.Names.{and_parts, or_parts, inl, inr, and-false, cases_Bool, not-true}
use Rattle.dp_plan.specs.Rules.{is_replicated_kind, least, least_site_in, second_neighbour, begins_sequential}
use Rattle.dp_plan.specs.declared.WrittenStage.{WrittenStage}
use Rattle.dp_plan.specs.Written.{has, kind_in, sites_in, stage_from}
use Rattle.dp_plan.proofs.RulesHold.{none_least}
use Rattle.dp_semantics.specs.ValidPlan.{lists_site}

-- The stage of a site in the written lines: where it is listed it is one of them, and elsewhere it is 0.
pub stage_listed : (k : ℕ) (stages : List WrittenStage) (site : ℕ) → has site (flat_map sites_in stages) ≡ true → (k ≤ stage_from k stages site)
    × (stage_from k stages site < k + length stages)
stage_listed k [] site e = absurd (cc)
stage_listed k (line ∷ rest) site e =
    let here : (has site line.sites || has site (flat_map sites_in rest)) ≡ true = sym (list_any-append (λ n. n == site) line.sites (flat_map sites_in rest))
    ∙ e in
    elim (cases_Bool (has site line.sites)) [
      | inl t ↦ rw t (omega arith, omega arith)
      | inr t ↦ let r = stage_listed (suc k) rest site (rw t at here) in rw t (omega (arith, r.0), omega (arith, r.1))
    ]

pub stage_unlisted : (k : ℕ) (stages : List WrittenStage) (site : ℕ) → has site (flat_map sites_in stages) ≡ false → stage_from k stages site ≡ 0
stage_unlisted k [] site e = refl
stage_unlisted k (line ∷ rest) site e =
    let both = or_parts (has site line.sites) (has site (flat_map sites_in rest))
    (sym (list_any-append (λ n. n == site) line.sites (flat_map sites_in rest)) ∙ e) in
    ap (λ (b : Bool). if b then k else stage_from (suc k) rest site) both.0 ∙ stage_unlisted (suc k) rest site both.1

-- The kinds: the first is sequential, and no two neighbours are replicated.
par_is : (kind : StageKind) → is_par (Some kind) ≡ is_replicated_kind kind
par_is Seq = refl
par_is Par = refl

pub first_kind : (stages : List WrittenStage) → begins_sequential stages ≡ true → is_par (slice_get (map kind_in stages) 0) ≡ false
first_kind [] e = refl
first_kind (line ∷ rest) e = par_is line.kind ∙ not-true (is_replicated_kind line.kind) e

some_least : (line : WrittenStage) → lists_site line ≡ true → least line.sites ≡ None → ⊥
some_least line e none = by line.sites e (none_least line.sites none)
  where
    by : (ns : List ℕ) → nat_lt 0 (length ns) ≡ true → ns ≡ [] → ⊥
    by [] e q = cc
    by (n ∷ ns) e q = cc

pub kinds_differ : (stages : List WrittenStage) → list_all lists_site stages ≡ true → least_site_in (second_neighbour stages) ≡ None → (s : ℕ) →
    (is_par (slice_get (map kind_in stages) s) && is_par (slice_get (map kind_in stages) (suc s))) ≡ false
kinds_differ [] filled none s = refl
kinds_differ (line ∷ []) filled none s = and-false (is_par (slice_get (kind_in line ∷ []) s))
kinds_differ (line ∷ next ∷ rest) filled none zero = elim (cases_Bool (is_replicated_kind line.kind && is_replicated_kind next.kind)) [
  | inl t ↦ absurd (some_least next (and_parts (lists_site next) (list_all lists_site rest) (and_parts (lists_site line) (list_all lists_site (next ∷ rest))
      filled).1).0 (rw t at none))
  | inr t ↦ rw (par_is line.kind, par_is next.kind) t
]
kinds_differ (line ∷ next ∷ rest) filled none (suc s) = elim (cases_Bool (is_replicated_kind line.kind && is_replicated_kind next.kind)) [
  | inl t ↦ absurd (some_least next (and_parts (lists_site next) (list_all lists_site rest) (and_parts (lists_site line) (list_all lists_site (next ∷ rest))
      filled).1).0 (rw t at none))
  | inr t ↦ kinds_differ (next ∷ rest) (and_parts (lists_site line) (list_all lists_site (next ∷ rest)) filled).1 (rw t at none) s
]
