-- The lines of a text are those of the plan that they stand for.
use Rattle.std.proofs.Common.{◌≡◌, refl, sym, ap, subst, ◌∙◌, ℕ, suc, ◌+◌, ◌<◌, ◌≤◌, ◌==◌, if◌then◌else◌, Bool, true, false, ◌||◌, List, [], ◌∷◌, map, filter}
use Rattle.std.proofs.Common.{length, inl, inr, arith, eq-eqb, eqb-true}
use Rattle.std.specs.List.{flat_map}
use Rattle.std.proofs.lemmas.Bool.{cases_Bool, or_left, or_right, or_from}
use Rattle.std.proofs.lemmas.List.Folds.{list_any-append}
use Rattle.dp_tree.specs.declared.Program.{Program}
use Rattle.dp_tree.specs.Numbering.{numbers_from}
use Rattle.dp_plan.specs.declared.Plan.{Plan}
use Rattle.dp_plan.specs.Stage.{stage_of}
use Rattle.dp_plan.specs.Written.{has, kind_in, sites_in, stage_from, region_sites, lines_from}
use Rattle.dp_plan.specs.declared.WrittenStage.{WrittenStage}
use Rattle.dp_plan.specs.Each.{AscendAbove, Each}
use Rattle.dp_plan.specs.PlanFits.{StageFits}
use Rattle.dp_plan.proofs.Ascent.{above-filter}
use Rattle.dp_plan.proofs.Found.{has-filter, has-map, kept}
use Rattle.dp_plan.proofs.SameNumbers.{count, count-append, count_some, same_numbers}

-- the sites of these lines
abbrev pub all_sites : List WrittenStage → List ℕ
all_sites stages = flat_map sites_in stages

pub stage_least : (k : ℕ) (stages : List WrittenStage) (n : ℕ) → has n (flat_map sites_in stages) ≡ true → k ≤ stage_from k stages n
stage_least k [] n e = absurd (cc e)
stage_least k (line ∷ rest) n e =
    let split : (has n line.sites || has n (all_sites rest)) ≡ true = sym (list_any-append (λ m. m == n) line.sites (all_sites rest)) ∙ e in
    elim (cases_Bool (has n line.sites)) [
      | inl t ↦ rw t (omega arith)
      | inr t ↦ let later = stage_least (suc k) rest n (rw t at split) in rw t (omega (arith, later))
    ]

first_listed : (ns : List ℕ) → 1 ≤ length ns → (n : ℕ) × (has n ns ≡ true)
first_listed [] le = absurd (omega (arith, le))
first_listed (n ∷ ns) le = (n, rw (eq-eqb n n refl) refl)

-- no number stands there twice
abbrev pub Once : List ℕ → Type 0
Once ns = (n : ℕ) → count n ns ≤ 1

module _ (p : Program) (plan : Plan) (up : AscendAbove 0 (region_sites p plan.region)) where
  abbrev sites : List ℕ
  sites = region_sites p plan.region

  -- the lines from k on list sites of the region, each once, and these have the stages of their lines; other sites have earlier stages
  pub record Listed (k : ℕ) (stages : List WrittenStage) : Type 0 where
    pub once : Once (flat_map sites_in stages)
    pub known : (n : ℕ) → has n (flat_map sites_in stages) ≡ true → has n (region_sites p plan.region) ≡ true
    pub fit : Each StageFits stages
    pub staged : (n : ℕ) → has n (flat_map sites_in stages) ≡ true → stage_of p plan n ≡ stage_from k stages n
    pub earlier : (n : ℕ) → has n (region_sites p plan.region) ≡ true → has n (flat_map sites_in stages) ≡ false → stage_of p plan n < k

  module _ (k : ℕ) (line : WrittenStage) (rest : List WrittenStage) (h : Listed k (line ∷ rest)) where
    split : (n : ℕ) → has n (flat_map sites_in (line ∷ rest)) ≡ (has n line.sites || has n (flat_map sites_in rest))
    split n = list_any-append (λ m. m == n) line.sites (all_sites rest)

    in_line : (n : ℕ) → has n line.sites ≡ true → has n (flat_map sites_in (line ∷ rest)) ≡ true
    in_line n e = split n ∙ or_left (has n line.sites) (has n (all_sites rest)) e

    in_rest : (n : ℕ) → has n (flat_map sites_in rest) ≡ true → has n (flat_map sites_in (line ∷ rest)) ≡ true
    in_rest n e = split n ∙ or_right (has n line.sites) (has n (all_sites rest)) e

    apart : (n : ℕ) → has n (flat_map sites_in rest) ≡ true → has n line.sites ≡ false
    apart n e = elim (cases_Bool (has n line.sites)) [
      | inl t ↦ absurd (omega (arith, h.once n, count-append n line.sites (all_sites rest), count_some n line.sites t, count_some n (all_sites rest) e))
      | inr t ↦ t
    ]

    -- the stage of a site of the line, and of one of a later line
    line_stage : (n : ℕ) → has n line.sites ≡ true → stage_of p plan n ≡ k
    line_stage n e = h.staged n (in_line n e) ∙ ap (λ (b : Bool). if b then k else stage_from (suc k) rest n) e

    rest_stage : (n : ℕ) → has n (flat_map sites_in rest) ≡ true → stage_of p plan n ≡ stage_from (suc k) rest n
    rest_stage n e = h.staged n (in_rest n e) ∙ ap (λ (b : Bool). if b then k else stage_from (suc k) rest n) (apart n e)

    kept_listed : (n : ℕ) → has n (filter (λ m. stage_of p plan m == k) (region_sites p plan.region)) ≡ true → has n line.sites ≡ true
    kept_listed n e = elim (cases_Bool (has n line.sites)) [
      | inl t ↦ t
      | inr t ↦ elim (cases_Bool (has n (all_sites rest))) [
        | inl u ↦ absurd (omega (arith, at, rest_stage n u, stage_least (suc k) rest n u))
        | inr u ↦ absurd (omega (arith, at, h.earlier n both.0 (split n ∙ or_from (has n line.sites) (has n (all_sites rest)) t u)))
      ]
    ]
      where
        both : (has n (region_sites p plan.region) ≡ true) × ((stage_of p plan n == k) ≡ true)
        both = has-filter (λ m. stage_of p plan m == k) sites n e

        at : stage_of p plan n ≡ k
        at = eqb-true (stage_of p plan n) k both.1

    line_same : filter (λ m. stage_of p plan m == k) (region_sites p plan.region) ≡ line.sites
    line_same = same_numbers 0 (filter (λ m. stage_of p plan m == k) sites) line.sites (above-filter (λ m. stage_of p plan m == k) 0 sites up)
        h.fit.0.1 kept_listed
        (λ n e. kept (λ m. stage_of p plan m == k) sites n (h.known n (in_line n e)) (eq-eqb (stage_of p plan n) k (line_stage n e)))

    later : Listed (suc k) rest
    later = record {
      once = λ n. omega (arith, h.once n, count-append n line.sites (all_sites rest));
      known = λ n e. h.known n (in_rest n e);
      fit = h.fit.1;
      staged = rest_stage;
      earlier = λ n e off. elim (cases_Bool (has n line.sites)) [
        | inl t ↦ omega (arith, line_stage n t)
        | inr t ↦ omega (arith, h.earlier n e (split n ∙ or_from (has n line.sites) (has n (all_sites rest)) t off))
      ];
    }

  pub lines_back : (k : ℕ) (stages : List WrittenStage) → Listed k stages → lines_from p plan k (map kind_in stages) ≡ stages
  lines_back k [] h = refl
  lines_back k (line ∷ rest) h =
      ap (λ (ns : List ℕ). record { kind = line.kind; sites = ns } ∷ lines_from p plan (suc k) (map kind_in rest)) (line_same k line rest h)
      ∙ ap (λ (l : List WrittenStage). line ∷ l) (lines_back (suc k) rest (later k line rest h))

  -- each of the stages has a site
  pub stages_filled : (k : ℕ) (stages : List WrittenStage) → Listed k stages →
      Each (λ stage. has stage (map (stage_of p plan) (region_sites p plan.region)) ≡ true) (numbers_from k (length stages))
  stages_filled k [] h = tt
  stages_filled k (line ∷ rest) h =
      let first = first_listed line.sites h.fit.0.0 in let next : suc k ≡ k + 1 = omega arith in
      let there : has (stage_of p plan first.0) (map (stage_of p plan) (region_sites p plan.region)) ≡ true = has-map (stage_of p plan) sites first.0
      (h.known first.0 (in_line k line rest h first.0 first.1)) in (
        subst (λ (i : ℕ). has i (map (stage_of p plan) sites) ≡ true) (line_stage k line rest h first.0 first.1) there,
        subst (λ (i : ℕ). Each (λ stage. has stage (map (stage_of p plan) sites) ≡ true) (numbers_from i (length rest))) next
            (stages_filled (suc k) rest (later k line rest h)),
      )
