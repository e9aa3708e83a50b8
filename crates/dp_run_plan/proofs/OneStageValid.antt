-- The one-stage form of a valid plan is a valid plan.
use Rattle.dp_semantics.proofs.Names.{◌≡◌, refl, sym, ap, ◌∙◌, subst, inl, inr, ℕ, zero, suc, ◌≤◌, ◌==◌, Bool, true, false, not, ◌&&◌, if◌then◌else◌, List, []}
use Rattle.dp_semantics.proofs.Names.{◌∷◌, map, filter, length, nat_lt, append-nil, arith, eq-eqb, cases_Bool, ltb-false, le-ltb, None, Program, Plan, stage_of}
use Rattle.dp_semantics.proofs.Names.{first_site, is_checked}
use Rattle.std.proofs.Common.{is_none}
use Rattle.std.proofs.lemmas.Bool.{ltb-true, or_left, and_left, and_right}
use Rattle.std.proofs.lemmas.List.{length-map}
use Rattle.dp_tree.specs.Inlined.{IsInlined}
use Rattle.dp_tree.specs.Numbering.{numbers_from}
use Rattle.dp_tree.proofs.NumberLists.{length-numbers_from}
use Rattle.dp_plan.specs.declared.Enclosing.{Enclosing}
use Rattle.dp_plan.specs.declared.WrittenPlan.{WrittenPlan}
use Rattle.dp_plan.specs.Enclosing.{region_ifs, region_inner_whiles}
use Rattle.dp_plan.specs.GivenPlans.{IsPlan}
use Rattle.dp_plan.specs.Rules.{assumed_site, comes_late, first_in, is_late_unassumed, occurs_again}
use Rattle.dp_plan.specs.Valid.{first_broken}
use Rattle.dp_plan.specs.Written.{has, listed_sites, region_sites, written_of, written_stage}
use Rattle.dp_plan.specs.Each.{AscendAbove}
use Rattle.dp_plan.proofs.Ascent.{above-ascends}
use Rattle.dp_plan.proofs.EachLemmas.{every}
use Rattle.dp_plan.proofs.Found.{each_has, has_each}
use Rattle.dp_plan.proofs.RulesHold.{all_listed, ifs_in_time, none_foreign, rightly_assumed, valid_unbroken, whiles_in_time}
use Rattle.dp_plan.proofs.RulesMet.{Meets, unbroken}
use Rattle.dp_plan.proofs.SameNumbers.{ascending_once, count}
use Rattle.dp_semantics.proofs.Each.{Each, each_map, none_of, none_make}
use Rattle.dp_theorem.proofs.WrittenStages.{stage_listed, stage_unlisted}
use Rattle.dp_run_plan.specs.RunPlan.{one_stage}
use Rattle.dp_run_plan.proofs.OneStage.{first_stage, in_text, unchecked}

not_again : (n : ℕ) (ns : List ℕ) → count n ns ≤ 1 → occurs_again ns n ≡ false
not_again n ns le = elim (cases_Bool (nat_lt 1 (count n ns))) [ inl t ↦ absurd (omega (arith, ltb-true 1 (count n ns) t, le)) | inr t ↦ t ]

-- what all pass is kept whole
all_kept : (test : ℕ → Bool) (ns : List ℕ) → Each (λ n. test n ≡ true) ns → filter test ns ≡ ns
all_kept test [] h = refl
all_kept test (n ∷ ns) h = rw h.0 (ap (λ (l : List ℕ). n ∷ l) (all_kept test ns h.1))

has_first : (ns : List ℕ) → 1 ≤ length ns → has (first_in ns) ns ≡ true
has_first [] lt = absurd (omega (arith, lt))
has_first (n ∷ ns) lt = or_left (n == n) (has n ns) (eq-eqb n n refl)

some_there : (n : ℕ) (ns : List ℕ) → has n ns ≡ true → 1 ≤ length ns
some_there n [] e = absurd (cc e)
some_there n (m ∷ ns) e = omega arith

has_one : (ss : List ℕ) → 1 ≤ length ss → has 1 (map (λ _. 1) ss) ≡ true
has_one [] lt = absurd (omega (arith, lt))
has_one (s ∷ ss) lt = refl

first_filled : (test : ℕ → Bool) (n : ℕ) → 1 ≤ n → Each (λ (i : ℕ). test i ≡ true) (numbers_from 1 n) → test 1 ≡ true
first_filled test zero lt h = absurd (omega (arith, lt))
first_filled test (suc n) lt h = h.0

none_in : (f : ℕ → Bool) (ns : List ℕ) → ((n : ℕ) → f n ≡ false) → (cs : List Bool) → length cs ≡ length ns → map (λ _. false) cs ≡ map f ns
none_in f [] h [] e = refl
none_in f [] h (c ∷ cs) e = absurd (omega (arith, e))
none_in f (n ∷ ns) h [] e = absurd (omega (arith, e))
none_in f (n ∷ ns) h (c ∷ cs) e = rw (h n) (ap (λ (l : List Bool). false ∷ l) (none_in f ns h cs (omega (arith, e))))

module _ (p : Program) (inlined : IsInlined p) (plan : Plan) (is : IsPlan p plan) where
  abbrev sites : List ℕ
  sites = region_sites p plan.region

  -- the plan and its one-stage form as they are written
  abbrev w : WrittenPlan
  w = written_of p plan

  abbrev one : WrittenPlan
  one = written_of p (one_stage plan)

  whole : first_broken p w ≡ None
  whole = valid_unbroken p w is.valid

  some : 1 ≤ length plan.stage_of
  some = some_there 1 plan.stage_of (first_filled (λ (i : ℕ). has i plan.stage_of) (length plan.stages) is.some_stage is.filled)

  up : AscendAbove 0 sites
  up = let text = in_text p inlined plan is in above-ascends 0 (first_site p plan) sites text.order (omega (arith, text.low)) text.high

  line : filter (λ site. stage_of p (one_stage plan) site == 1) sites ≡ sites
  line = all_kept (λ site. stage_of p (one_stage plan) site == 1) sites (each_map (λ n. has n sites ≡ true) (λ n. (stage_of p (one_stage plan) n == 1) ≡ true)
      (λ n e. eq-eqb _ 1 (first_stage p inlined plan is n e)) sites (each_has sites))

  lists : listed_sites one ≡ sites
  lists = append-nil (filter (λ site. stage_of p (one_stage plan) site == 1) sites) ∙ line

  stage_is : (x : ℕ) → written_stage one x ≡ (if has x sites then 1 else 0)
  stage_is x = ap (λ (l : List ℕ). if has x l then 1 else 0) line

  first_there : (x : ℕ) → has x sites ≡ true → written_stage one x ≡ 1
  first_there x e = stage_is x ∙ ap (λ (b : Bool). if b then 1 else 0) e

  not_there : (x : ℕ) → has x sites ≡ false → written_stage one x ≡ 0
  not_there x e = stage_is x ∙ ap (λ (b : Bool). if b then 1 else 0) e

  -- a site that has a stage under the plan is of the region
  of_region : (x : ℕ) → 1 ≤ written_stage w x → has x sites ≡ true
  of_region x low = elim (cases_Bool (has x (listed_sites w))) [
    | inl t ↦ has_each (λ n. has n sites ≡ true) (listed_sites w) x (none_foreign p w whole) t
    | inr f ↦ absurd (omega (arith, low, stage_unlisted 1 w.stages x f))
  ]

  -- a condition that isn't late under the plan isn't so in one stage
  in_time : (e : Enclosing) → comes_late w e ≡ false → comes_late one e ≡ false
  in_time e early = elim (cases_Bool (has e.site sites)) [
    | inl t ↦
        let low = (stage_listed 1 w.stages e.site (has_each (λ n. has n (listed_sites w) ≡ true) sites e.site (all_listed p w whole) t)).0 in
        none_make (λ site. nat_lt (written_stage one site) (written_stage one e.site)) e.inside
        (each_map (λ site. nat_lt (written_stage w site) (written_stage w e.site) ≡ false)
        (λ site. nat_lt (written_stage one site) (written_stage one e.site) ≡ false)
        (λ site here. le-ltb (written_stage one site) (written_stage one e.site)
        (omega (
          arith,
          first_there e.site t,
          first_there site (of_region site
              (omega (arith, low, ltb-false (written_stage w site) (written_stage w e.site) here))),
        )))
        e.inside (none_of (λ site. nat_lt (written_stage w site) (written_stage w e.site)) e.inside early))
    | inr f ↦ none_make (λ site. nat_lt (written_stage one site) (written_stage one e.site)) e.inside
        (every (λ site. nat_lt (written_stage one site) (written_stage one e.site) ≡ false) (λ site. le-ltb (written_stage one site) (written_stage one e.site)
        (omega (arith, not_there e.site f))) e.inside)
  ]

  assumed_in_time : (e : Enclosing) → is_late_unassumed w e ≡ false → is_late_unassumed one e ≡ false
  assumed_in_time e early = elim (cases_Bool (has e.site (map assumed_site plan.assume))) [
    | inl t ↦ and_right (comes_late one e) (not (has e.site (map assumed_site plan.assume))) (ap not t)
    | inr f ↦ and_left (comes_late one e) (not (has e.site (map assumed_site plan.assume)))
        (in_time e (unassumed (comes_late w e) (has e.site (map assumed_site plan.assume)) early f))
  ]
    where
      unassumed : (a b : Bool) → (a && not b) ≡ false → b ≡ false → a ≡ false
      unassumed false false x f = refl
      unassumed true false x f = absurd (cc x)
      unassumed a true x f = absurd (cc f)

  met : Meets p one
  met = record {
    all = subst (λ (l : List ℕ). Each (λ site. has site l ≡ true) sites) (sym lists) (each_has sites);
    once = subst (λ (l : List ℕ). Each (λ site. occurs_again l site ≡ false) l) (sym lists)
        (each_map (λ n. has n sites ≡ true) (λ n. occurs_again sites n ≡ false) (λ n e. not_again n sites (ascending_once 0 n sites up))
        sites (each_has sites));
    own = subst (λ (l : List ℕ). Each (λ site. has site sites ≡ true) l) (sym lists) (each_has sites);
    first = eq-eqb _ 1 (first_there (first_in sites) (has_first sites (omega (arith, some, is.staged))));
    sequential = refl;
    apart = refl;
    whiles = each_map (λ e. comes_late w e ≡ false) (λ e. comes_late one e ≡ false) in_time (region_inner_whiles p plan.region) (whiles_in_time p w whole);
    ifs = each_map (λ e. is_late_unassumed w e ≡ false) (λ e. is_late_unassumed one e ≡ false) assumed_in_time (region_ifs p plan.region)
        (ifs_in_time p w whole);
    assumed = rightly_assumed p w whole;
  }

  long : length (one_stage plan).stage_of ≡ length plan.stage_of
  long = length-map plan.stage_of (λ (_ : ℕ). let n : ℕ = 1 in n)

  table_long : length plan.checked_at ≡ length (numbers_from (first_site p plan) (length (one_stage plan).stage_of))
  table_long = ap length is.table ∙ length-map (numbers_from (first_site p plan) (length plan.stage_of)) (is_checked p plan)
      ∙ length-numbers_from (first_site p plan) (length plan.stage_of)
      ∙ sym long ∙ sym (length-numbers_from (first_site p plan) (length (one_stage plan).stage_of))

  pub one_stage_is_plan : IsPlan p (one_stage plan)
  one_stage_is_plan = record {
    least_words = is.least_words;
    most_words = is.most_words;
    some_stage = omega arith;
    few_stages = omega arith;
    filled = (has_one plan.stage_of some, tt);
    staged = long ∙ is.staged;
    valid = ap is_none (unbroken p one met);
    assume = is.assume;
    table = none_in (is_checked p (one_stage plan)) (numbers_from (first_site p plan) (length (one_stage plan).stage_of)) (unchecked p inlined plan is)
        plan.checked_at table_long;
  }
