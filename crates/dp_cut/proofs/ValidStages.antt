-- What makes a plan valid, read off the stages of its region's sites.
use Rattle.std.proofs.Common.{◌≡◌, refl, sym, ap, ◌∙◌, ℕ, ◌+◌, ◌<◌, ◌≤◌, ◌&&◌, not, nat_lt, Bool, true, false, List, [], ◌∷◌, map, length, inl, inr, ◌⊎◌, arith}
use Rattle.std.specs.List.{list_any}
use Rattle.std.proofs.lemmas.Bool.{cases_Bool, ltb-true, true≢false, and_right}
use Rattle.dp_tree.specs.declared.Program.{Program}
use Rattle.dp_plan.specs.declared.Plan.{Plan}
use Rattle.dp_plan.specs.declared.WrittenPlan.{WrittenPlan}
use Rattle.dp_plan.specs.declared.Enclosing.{Enclosing}
use Rattle.dp_plan.specs.Each.{AscendAbove, Each}
use Rattle.dp_plan.specs.Rules.{assumed_site, comes_late, is_late_unassumed, occurs_again}
use Rattle.dp_plan.specs.Stage.{stage_of}
use Rattle.dp_plan.specs.Written.{has, listed_sites, region_sites, written_of, written_stage}
use Rattle.dp_plan.proofs.EachLemmas.{each_map}
use Rattle.dp_plan.proofs.Found.{each_has}
use Rattle.dp_plan.proofs.SameNumbers.{count}
use Rattle.dp_plan.proofs.StagesBack.{stage_back}
use Rattle.dp_cut.proofs.NodesAround.{Inside, PlainInside}
use Rattle.dp_cut.proofs.StageLines.{is_listed, listed_once, listed_where}

pub not_again : (n : ℕ) (ns : List ℕ) → count n ns ≤ 1 → occurs_again ns n ≡ false
not_again n ns le = elim (cases_Bool (nat_lt 1 (count n ns))) [ inl t ↦ absurd (omega (arith, ltb-true 1 (count n ns) t, le)) | inr t ↦ t ]

module _ (p : Program) (plan : Plan) (up : AscendAbove 0 (region_sites p plan.region))
    (within : (x : ℕ) → has x (region_sites p plan.region) ≡ true → (1 ≤ stage_of p plan x) × (stage_of p plan x < 1 + length plan.stages)) where
  abbrev w : WrittenPlan
  w = written_of p plan

  has_listed : (x : ℕ) → has x (region_sites p plan.region) ≡ true → has x (listed_sites (written_of p plan)) ≡ true
  has_listed x e = is_listed p plan 1 plan.stages x e (within x e).0 (within x e).1

  pub all_listed : Each (λ site. has site (listed_sites (written_of p plan)) ≡ true) (region_sites p plan.region)
  all_listed = each_map (λ n. has n (region_sites p plan.region) ≡ true) (λ n. has n (listed_sites w) ≡ true) has_listed (region_sites p plan.region)
      (each_has (region_sites p plan.region))

  pub none_again : Each (λ site. occurs_again (listed_sites (written_of p plan)) site ≡ false) (listed_sites (written_of p plan))
  none_again = each_map (λ n. has n (listed_sites w) ≡ true) (λ n. occurs_again (listed_sites w) n ≡ false)
      (λ n e. not_again n (listed_sites w) (listed_once p plan up 1 plan.stages n)) (listed_sites w) (each_has (listed_sites w))

  pub none_foreign : Each (λ site. has site (region_sites p plan.region) ≡ true) (listed_sites (written_of p plan))
  none_foreign = each_map (λ n. has n (listed_sites w) ≡ true) (λ n. has n (region_sites p plan.region) ≡ true)
      (λ n e. (listed_where p plan 1 plan.stages n e).0) (listed_sites w) (each_has (listed_sites w))

  pub stage_written : (x : ℕ) → has x (region_sites p plan.region) ≡ true → written_stage (written_of p plan) x ≡ stage_of p plan x
  stage_written x e = stage_back p plan 1 plan.stages x (has_listed x e)

  -- both are sites, and the first, a condition, is in no later stage than the second, or an outcome of it is assumed
  abbrev pub InTime : ℕ → ℕ → Type 0
  InTime x y = (has x (region_sites p plan.region) ≡ true) × (has y (region_sites p plan.region) ≡ true)
      × ((stage_of p plan x ≤ stage_of p plan y) ⊎ (has x (map assumed_site plan.assume) ≡ true))

  -- no outcome of the site is assumed
  abbrev pub Unassumed : ℕ → Type 0
  Unassumed x = has x (map assumed_site plan.assume) ≡ false

  no_later : (x : ℕ) (inside : List ℕ) → has x (map assumed_site plan.assume) ≡ false → Each (InTime x) inside →
      list_any (λ site. nat_lt (written_stage w site) (written_stage w x)) inside ≡ false
  no_later x [] free h = refl
  no_later x (y ∷ rest) free h = elim h.0.2 [
    | inl le ↦ elim (cases_Bool (nat_lt (written_stage w y) (written_stage w x))) [
      | inl t ↦ absurd (omega (arith, ltb-true (written_stage w y) (written_stage w x) t, stage_written x h.0.0, stage_written y h.0.1, le))
      | inr f ↦ rw f (no_later x rest free h.1)
    ]
    | inr assumed ↦ absurd (true≢false (sym assumed ∙ free))
  ]

  pub whiles_in_time : (es : List Enclosing) → Each (PlainInside InTime Unassumed) es → Each (λ e. comes_late (written_of p plan) e ≡ false) es
  whiles_in_time es h = each_map (PlainInside InTime Unassumed) (λ e. comes_late w e ≡ false) (λ e inside. no_later e.site e.inside inside.0 inside.1) es h

  not_late : (e : Enclosing) → Inside InTime Unassumed e → is_late_unassumed w e ≡ false
  not_late e inside = elim (cases_Bool (has e.site (map assumed_site plan.assume))) [
    | inl t ↦ and_right (comes_late w e) (not (has e.site (map assumed_site plan.assume))) (ap not t)
    | inr f ↦ ap (λ (b : Bool). b && not (has e.site (map assumed_site plan.assume))) (no_later e.site e.inside f inside)
  ]

  pub ifs_in_time : (es : List Enclosing) → Each (Inside InTime Unassumed) es → Each (λ e. is_late_unassumed (written_of p plan) e ≡ false) es
  ifs_in_time es h = each_map (Inside InTime Unassumed) (λ e. is_late_unassumed w e ≡ false) not_late es h
