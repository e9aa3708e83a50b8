-- The stages of a plan are those of its lines: of each site of its region one of them, and 0 of any other site.
use Rattle.dp_semantics.proofs.Names.{◌≡◌, ◌⊎◌, inl, inr, refl, sym, ap, ◌∙◌, ℕ, ◌+◌, ◌-◌, ◌<◌, ◌≤◌, Bool, true, false, not, ◌&&◌, ◌||◌, if◌then◌else◌, List}
use Rattle.dp_semantics.proofs.Names.{[], ◌∷◌, length, map, filter_map, slice_index, Option, Some, None, is_some, nat_lt, nat_le, ◌==◌, arith, eq-eqb, ne_eqb}
use Rattle.dp_semantics.proofs.Names.{le-leb, ltb-false, cases_Bool, cases_eq, cases_lt, lt-leb, get_or_past, length-map, cons_option, Assume, Program, Plan}
use Rattle.dp_semantics.proofs.Names.{assumed_in, first_site, stage_of}
use Rattle.dp_plan.specs.declared.Enclosing.{Enclosing}
use Rattle.dp_plan.specs.Rules.{assumed_site, comes_late, is_late_unassumed}
use Rattle.dp_plan.specs.declared.WrittenPlan.{WrittenPlan}
use Rattle.dp_plan.specs.Written.{assumption_at, has, listed_sites, region_sites, written_stage}
use Rattle.dp_theorem.proofs.TextOrder.{Ascends, Between, ascends_between, ascends_get, has_fact}
use Rattle.dp_theorem.proofs.WellNested.{none_before}
use Rattle.dp_theorem.proofs.WrittenStages.{stage_unlisted}
use Rattle.dp_semantics.proofs.Setting.{Each, each_map, none_of, all_make}
use Rattle.std.proofs.lemmas.Bool.{or_right}
use Rattle.dp_plan.proofs.AssumeBack.{found_assumption}

kept_assumption : (a : Assume) (later : List Assume) (site : ℕ) → is_some (assumed_in later site) ≡ true → is_some (assumed_in (a ∷ later) site) ≡ true
kept_assumption a later site e = elim (cases_Bool (a.site.0 == site)) [ inl here ↦ rw here | inr off ↦ rw off e ]

assumed_by : (assumed : List Assume) (site : ℕ) → has site (map assumed_site assumed) ≡ true → (ns : List ℕ) → has site ns ≡ true →
    is_some (assumed_in (filter_map (assumption_at assumed) ns) site) ≡ true
assumed_by assumed site e [] h = absurd (cc)
assumed_by assumed site e (n ∷ ns) h =
    by (cases_eq n site) (assumption_at assumed n) refl (filter_map (assumption_at assumed) ns) (assumed_by assumed site e ns)
  where
    found : (a : Assume) × (assumption_at assumed site ≡ Some a) × (a.site.0 ≡ site)
    found = found_assumption assumed site e

    by : (n ≡ site) ⊎ (n ≡ site → ⊥) → (o : Option Assume) → assumption_at assumed n ≡ o → (later : List Assume) →
        (has site ns ≡ true → is_some (assumed_in later site) ≡ true) → is_some (assumed_in (cons_option o later) site) ≡ true
    by (inl same) o is later go =
        ap (λ (u : Option Assume). is_some (assumed_in (cons_option u later) site)) (sym is ∙ ap (assumption_at assumed) same ∙ found.1)
        ∙ ap (λ (b : Bool). is_some (if b then Some found.0.taken else assumed_in later site)) (eq-eqb found.0.site.0 site found.2)
    by (inr differ) (Some a) is later go = kept_assumption a later site (go (sym (ap (λ (b : Bool). b || has site ns) (ne_eqb n site differ)) ∙ h))
    by (inr differ) None is later go = go (sym (ap (λ (b : Bool). b || has site ns) (ne_eqb n site differ)) ∙ h)

-- a plan of these lines, whose region's sites go up from its first one
module _ (p : Program) (w : WrittenPlan) (plan : Plan) (stages_are : plan.stage_of ≡ map (written_stage w) (region_sites p w.region))
    (order : Ascends (first_site p plan) (region_sites p w.region)) (none : Each (λ site. has site (region_sites p w.region) ≡ true) (listed_sites w)) where
  abbrev sites : List ℕ
  sites = region_sites p w.region

  abbrev first : ℕ
  first = first_site p plan

  -- elsewhere no line lists a site
  unlisted : (site : ℕ) → (Between first (length sites) site → ⊥) → written_stage w site ≡ 0
  unlisted site out = stage_unlisted 1 w.stages site (by (cases_Bool (has site (listed_sites w))))
    where
      by : (has site (listed_sites w) ≡ true) ⊎ (has site (listed_sites w) ≡ false) → has site (listed_sites w) ≡ false
      by (inl e) = absurd (out (has_fact (Between first (length sites)) sites site (ascends_between first sites order)
          (has_fact (λ n. has n sites ≡ true) (listed_sites w) site none e)))
      by (inr e) = e

  pub same_stage : (site : ℕ) → stage_of p plan site ≡ written_stage w site
  same_stage site = by (cases_lt site first) (cases_lt (site - first) (length sites))
    where
      by : (site < first) ⊎ (first ≤ site) → (site - first < length sites) ⊎ (length sites ≤ site - first) → stage_of p plan site ≡ written_stage w site
      by (inl early) q = ap (λ (b : Bool). if b then slice_index plan.stage_of (site - first) else 0) (lt-leb first site early)
          ∙ sym (unlisted site (λ b. omega (arith, b.0, early)))
      by (inr late) (inl within) =
          let there : first + (site - first) ≡ site = omega (arith, late) in
          ap (λ (b : Bool). if b then slice_index plan.stage_of (site - first) else 0) (le-leb first site late)
          ∙ ap (λ (ns : List ℕ). slice_index ns (site - first)) stages_are
          ∙ ascends_get (written_stage w) first (site - first) sites order within ∙ ap (written_stage w) there
      by (inr late) (inr past) =
          ap (λ (b : Bool). if b then slice_index plan.stage_of (site - first) else 0) (le-leb first site late)
          ∙ ap (λ (ns : List ℕ). slice_index ns (site - first)) stages_are
          ∙ get_or_past (map (written_stage w) sites) (site - first) 0 (omega (arith, past, length-map sites (written_stage w)))
          ∙ sym (unlisted site (λ b. omega (arith, b.1, past, late)))

  -- a condition that doesn't come late is in no later stage than a site inside
  pub in_time : (e : Enclosing) → comes_late w e ≡ false → none_before p plan e ≡ true
  in_time e late =
      all_make (λ site. nat_le (stage_of p plan e.site) (stage_of p plan site)) e.inside
      (each_map (λ site. nat_lt (written_stage w site) (written_stage w e.site) ≡ false) (λ site. nat_le (stage_of p plan e.site) (stage_of p plan site) ≡ true)
      (λ site q. le-leb _ _ (omega (arith, ltb-false _ _ q, same_stage site, same_stage e.site))) e.inside
      (none_of (λ site. nat_lt (written_stage w site) (written_stage w e.site)) e.inside late))

  -- .. and an `if` that does is assumed
  pub ruled : plan.assume ≡ filter_map (assumption_at w.assume) sites → (e : Enclosing) → has e.site sites ≡ true → is_late_unassumed w e ≡ false →
      (is_some (assumed_in plan.assume e.site) || none_before p plan e) ≡ true
  ruled assumed e at late = by (comes_late w e) refl (has e.site (map assumed_site w.assume)) refl late
    where
      by : (b : Bool) → comes_late w e ≡ b → (c : Bool) → has e.site (map assumed_site w.assume) ≡ c → (b && not c) ≡ false →
          (is_some (assumed_in plan.assume e.site) || none_before p plan e) ≡ true
      by false t c q n = or_right (is_some (assumed_in plan.assume e.site)) (none_before p plan e) (in_time e t)
      by true t true q n = ap (λ (b : Bool). b || none_before p plan e) (ap (λ (those : List Assume). is_some (assumed_in those e.site)) assumed
          ∙ assumed_by w.assume e.site q sites at)
      by true t false q n = absurd (cc)
