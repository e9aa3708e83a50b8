-- A plan that fits its region is what its lines stand for, and its lines fit a text.
use Rattle.std.proofs.Common.{◌≡◌, sym, ap, subst, ◌∙◌, ℕ, not, Bool, true, false, List, [], ◌∷◌, map, filter_map, length, arith}
use Rattle.std.proofs.lemmas.Bool.{or_parts, not-false}
use Rattle.dp_tree.specs.declared.Assume.{Assume}
use Rattle.dp_tree.specs.declared.Program.{Program}
use Rattle.dp_tree.specs.Numbering.{numbers_from}
use Rattle.dp_plan.specs.declared.StageKind.{StageKind}
use Rattle.dp_plan.specs.declared.Plan.{Plan}
use Rattle.dp_plan.specs.Stage.{first_site, stage_of}
use Rattle.dp_plan.specs.CheckedTable.{with_table}
use Rattle.dp_plan.specs.Written.{WrittenPlan, assumption_at, has, plan_before_table, plan_of, region_sites, written_of, written_stage}
use Rattle.dp_plan.specs.Enclosing.{region_ifs}
use Rattle.dp_plan.specs.Rules.{assumed_site, is_no_if_or_again, occurs_again, site_of_condition}
use Rattle.dp_plan.specs.Each.{AscendAbove, Each}
use Rattle.dp_plan.specs.PlanFits.{PlanFits}
use Rattle.dp_plan.specs.GivenPlans.{IsPlan}
use Rattle.dp_plan.proofs.Ascent.{above-ascends}
use Rattle.dp_plan.proofs.AssumeBack.{assume_back, assumed_fit}
use Rattle.dp_plan.proofs.IfSites.{ifs_are_sites}
use Rattle.dp_plan.proofs.RegionFacts.{InOrder}
use Rattle.dp_plan.proofs.RulesHold.{all_listed, rightly_assumed, valid_unbroken}
use Rattle.dp_plan.proofs.StagesBack.{kinds_back, length-lines_from, map_same, stage_back, stages_fit, table_back}

-- a plan's numbers with these stages and assumptions, and no table
abbrev bare : Plan → List StageKind → List ℕ → List Assume → Plan
bare plan kinds table assumed =
    record { region = plan.region; words = plan.words; stages = kinds; stage_of = table; assume = assumed; proved = plan.proved; checked_at = [] }

module _ (p : Program) (plan : Plan) (is : IsPlan p plan) (order : InOrder p plan) where
  abbrev sites : List ℕ
  sites = region_sites p plan.region

  abbrev w : WrittenPlan
  w = written_of p plan

  up : AscendAbove 0 (region_sites p plan.region)
  up = above-ascends 0 (first_site p plan) sites order.order (omega (arith, order.low)) order.high

  staged : map (stage_of p plan) (region_sites p plan.region) ≡ plan.stage_of
  staged = table_back p plan order.order is.staged

  same_stages : (ns : List ℕ) → Each (λ site. has site (Rattle.dp_plan.specs.Written.listed_sites w) ≡ true) ns →
      Each (λ site. written_stage w site ≡ stage_of p plan site) ns
  same_stages [] each = tt
  same_stages (n ∷ ns) each = (stage_back p plan 1 plan.stages n each.0, same_stages ns each.1)

  table : map (written_stage w) (region_sites p plan.region) ≡ plan.stage_of
  table = map_same (written_stage w) (stage_of p plan) sites (same_stages sites (all_listed p w (valid_unbroken p w is.valid))) ∙ staged

  assumed_sites : (ns : List ℕ) → Each (λ site. is_no_if_or_again p w site ≡ false) ns → Each (λ site. has site (region_sites p plan.region) ≡ true) ns
  assumed_sites [] each = tt
  assumed_sites (n ∷ ns) each =
      let known = or_parts (not (has n (map site_of_condition (region_ifs p plan.region)))) (occurs_again (map assumed_site plan.assume) n) each.0 in
      (ifs_are_sites p plan.region n (not-false (has n (map site_of_condition (region_ifs p plan.region))) known.0), assumed_sites ns each.1)

  assumed : filter_map (assumption_at plan.assume) (region_sites p plan.region) ≡ plan.assume
  assumed = assume_back 0 sites plan.assume up is.assume (assumed_sites (map assumed_site plan.assume) (rightly_assumed p w (valid_unbroken p w is.valid)))

  before : plan_before_table p plan.proved w ≡ record plan { checked_at = [] }
  before =
      ap (λ (kinds : List StageKind). bare plan kinds (map (written_stage w) sites) (filter_map (assumption_at plan.assume) sites))
      (kinds_back p plan 1 plan.stages)
      ∙ ap (λ (t : List ℕ). bare plan plan.stages t (filter_map (assumption_at plan.assume) sites)) table
      ∙ ap (bare plan plan.stages plan.stage_of) assumed

  pub plan_back : plan_of p plan.proved (written_of p plan) ≡ plan
  plan_back = ap (with_table p) before ∙ ap (λ (t : List Bool). record plan { checked_at = t }) (sym is.table)

  pub plan_fits : PlanFits (written_of p plan)
  plan_fits =
      let many : length w.stages ≡ length plan.stages = length-lines_from p plan 1 plan.stages in
      record {
        least_words = is.least_words;
        most_words = is.most_words;
        some_stage = omega (arith, many, is.some_stage);
        few_stages = omega (arith, many, is.few_stages);
        stages = stages_fit p plan 1 plan.stages up (subst (λ (t : List ℕ). Each (λ stage. has stage t ≡ true) (numbers_from 1 (length plan.stages)))
            (sym staged) is.filled);
        assume = assumed_fit 0 plan.assume is.assume;
      }
