-- The lines of a plan whose sites are all of its stages: they list the sites of the region, each once.
use Rattle.std.proofs.Common.{◌≡◌, refl, sym, ap, ◌∙◌, ℕ, suc, ◌+◌, ◌<◌, ◌≤◌, ◌==◌, Bool, true, false, not, ◌&&◌, ◌||◌, if◌then◌else◌, List, [], ◌∷◌, filter}
use Rattle.std.proofs.Common.{map, length, Some, None, inl, inr, arith, eqb-true}
use Rattle.std.specs.List.{flat_map}
use Rattle.std.proofs.lemmas.Bool.{cases_Bool, eqb-false, or_cases, or_left, or_right, and_right}
use Rattle.std.proofs.lemmas.List.Folds.{list_any-append}
use Rattle.dp_tree.specs.declared.Program.{Program}
use Rattle.dp_plan.specs.declared.StageKind.{StageKind}
use Rattle.dp_plan.specs.declared.Plan.{Plan}
use Rattle.dp_plan.specs.declared.WrittenStage.{WrittenStage}
use Rattle.dp_plan.specs.Each.{AscendAbove}
use Rattle.dp_plan.specs.Rules.{begins_sequential, is_replicated_kind, second_neighbour}
use Rattle.dp_plan.specs.Stage.{stage_of}
use Rattle.dp_plan.specs.Written.{has, lines_from, region_sites, sites_in}
use Rattle.dp_plan.proofs.Ascent.{above-filter}
use Rattle.dp_plan.proofs.Found.{has-filter, kept}
use Rattle.dp_plan.proofs.SameNumbers.{ascending_once, count, count-append, count_none}
use Rattle.dp_least_cut.specs.declared.Stretch.{Stretch}
use Rattle.dp_least_cut.specs.Allowed.{AreStages}
use Rattle.dp_cut.specs.LeastPlan.{stretch_kind}
use Rattle.dp_cut.proofs.StageFacts.{first_sequential}

module _ (p : Program) (plan : Plan) where
  -- the sites that the lines from stage k on list
  abbrev pub from_stage : ℕ → List StageKind → List ℕ
  from_stage k kinds = flat_map sites_in (lines_from p plan k kinds)

  abbrev pub own : ℕ → List ℕ
  own k = filter (λ site. stage_of p plan site == k) (region_sites p plan.region)

  split : (k : ℕ) (kind : StageKind) (rest : List StageKind) (x : ℕ) → has x (from_stage k (kind ∷ rest)) ≡ (has x (own k) || has x (from_stage (suc k) rest))
  split k kind rest x = list_any-append (λ n. n == x) (own k) (from_stage (suc k) rest)

  -- a site of one of these stages is listed
  pub is_listed : (k : ℕ) (kinds : List StageKind) (x : ℕ) → has x (region_sites p plan.region) ≡ true → k ≤ stage_of p plan x →
      stage_of p plan x < k + length kinds → has x (from_stage k kinds) ≡ true
  is_listed k [] x there low high = absurd (omega (arith, low, high))
  is_listed k (kind ∷ rest) x there low high = split k kind rest x ∙ elim (cases_Bool (stage_of p plan x == k)) [
    | inl t ↦ or_left (has x (own k)) (has x (from_stage (suc k) rest)) (kept (λ site. stage_of p plan site == k) (region_sites p plan.region) x there t)
    | inr f ↦
        let other = eqb-false (stage_of p plan x) k f in
        or_right (has x (own k)) (has x (from_stage (suc k) rest)) (is_listed (suc k) rest x there (omega (arith, low, other)) (omega (arith, high)))
  ]

  -- a listed site is of the region, and of one of these stages
  pub listed_where : (k : ℕ) (kinds : List StageKind) (x : ℕ) → has x (from_stage k kinds) ≡ true → (has x (region_sites p plan.region) ≡ true)
      × (k ≤ stage_of p plan x)
  listed_where k [] x e = absurd (cc e)
  listed_where k (kind ∷ rest) x e = elim (or_cases (has x (own k)) (has x (from_stage (suc k) rest)) (sym (split k kind rest x) ∙ e)) [
    | inl t ↦
        let both = has-filter (λ site. stage_of p plan site == k) (region_sites p plan.region) x t in
        let at = eqb-true (stage_of p plan x) k both.1 in
        (both.0, omega (arith, at))
    | inr t ↦ let later = listed_where (suc k) rest x t in (later.0, omega (arith, later.1))
  ]

  -- no site is listed twice
  pub listed_once : AscendAbove 0 (region_sites p plan.region) → (k : ℕ) (kinds : List StageKind) (x : ℕ) → count x (from_stage k kinds) ≤ 1
  listed_once up k [] x = omega arith
  listed_once up k (kind ∷ rest) x =
      let both = count-append x (own k) (from_stage (suc k) rest) in
      let here = ascending_once 0 x (own k) (above-filter (λ site. stage_of p plan site == k) 0 (region_sites p plan.region) up) in
      elim (cases_Bool (has x (own k))) [
        | inl t ↦
            let at = eqb-true (stage_of p plan x) k (has-filter (λ site. stage_of p plan site == k) (region_sites p plan.region) x t).1 in
            elim (cases_Bool (has x (from_stage (suc k) rest))) [
              | inl u ↦ absurd (omega (arith, at, (listed_where (suc k) rest x u).1))
              | inr u ↦ omega (arith, both, here, count_none x (from_stage (suc k) rest) u)
            ]
        | inr f ↦ omega (arith, both, count_none x (own k) f, listed_once up (suc k) rest x)
      ]

-- ---- the kinds of a cut's stages

replicated_kind : (s : Stretch) → is_replicated_kind (stretch_kind s) ≡ s.replicated
replicated_kind s = elim (cases_Bool s.replicated) [ inl t ↦ rw t refl | inr f ↦ rw f refl ]

both_kinds : (s t : Stretch) → (t.replicated ≡ true → s.replicated ≡ false) →
    (is_replicated_kind (stretch_kind s) && is_replicated_kind (stretch_kind t)) ≡ false
both_kinds s t alone = elim (cases_Bool t.replicated) [
  | inl on ↦ ap (λ (b : Bool). b && is_replicated_kind (stretch_kind t)) (replicated_kind s ∙ alone on)
  | inr off ↦ and_right (is_replicated_kind (stretch_kind s)) (is_replicated_kind (stretch_kind t)) (replicated_kind t ∙ off)
]

module _ (p : Program) (plan : Plan) (carried : List (ℕ × ℕ)) (count : ℕ) where
  pub no_neighbours : (k : ℕ) (closed : Bool) (begin : ℕ) (cut : List Stretch) → AreStages carried count closed begin cut →
      second_neighbour (lines_from p plan k (map stretch_kind cut)) ≡ None
  no_neighbours k closed begin [] stages = refl
  no_neighbours k closed begin (s ∷ []) stages = refl
  no_neighbours k closed begin (s ∷ t ∷ rest) stages =
      let next : WrittenStage = record { kind = stretch_kind t; sites = own p plan (suc k) } in
      ap (λ (b : Bool). if b then Some next else second_neighbour (lines_from p plan (suc k) (map stretch_kind (t ∷ rest))))
      (both_kinds s t (λ on. (stages.2.1 on).0))
      ∙ no_neighbours (suc k) s.replicated (begin + s.units) (t ∷ rest) stages.2

  pub sequential_first : (cut : List Stretch) → AreStages carried count true 0 cut → begins_sequential (lines_from p plan 1 (map stretch_kind cut)) ≡ true
  sequential_first [] stages = refl
  sequential_first (s ∷ rest) stages = ap not (replicated_kind s ∙ first_sequential carried count 0 s rest stages)
