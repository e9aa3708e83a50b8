-- What is needed behind a stage is kept, and has a place.
use Rattle.dp_semantics.proofs.Names.{◌≡◌, inl, inr, refl, sym, ap, ◌∙◌, subst, arith, append-nil, cases_lt, ℕ, ◌+◌, ◌-◌, ◌<◌, ◌≤◌, ◌&&◌, ◌||◌, ◌==◌, Bool}
use Rattle.dp_semantics.proofs.Names.{true, false, List, [], ◌∷◌, ◌++◌, length, and_parts, eqb-true, outs-If, Stmt, out-Stmt, Stmt-F, Region, Program, Plan}
use Rattle.dp_semantics.proofs.Names.{Access, accesses, site_of, stage_of, first_site, region_statement, region_accesses, project, project_all, fits_plan, last}
use Rattle.dp_tree.specs.declared.Stmt.TheVariants as tree
use Rattle.dp_tree.specs.Inlined.{IsInlined}
use Rattle.dp_tree.specs.Numbering.{numbers_from}
use Rattle.dp_plan.specs.Checked.{is_checked, has_site}
use Rattle.dp_semantics.specs.EpochKey.{EpochKey}
use Rattle.dp_semantics.proofs.Each.{Each, each_map}
use Rattle.dp_semantics.proofs.Heads.{accesses_all, accesses_at, accesses_out, head_access, project_at, project_out}
use Rattle.dp_semantics.proofs.Setting.{Accepted, Sound}
use Rattle.dp_net.specs.NetItems.{Marks}
use Rattle.dp_net.proofs.Assembled.{quieted}
use Rattle.dp_net.proofs.HiddenCells.{all_sound}
use Rattle.dp_net.specs.Hidden.{pays_off}
use Rattle.dp_lean.specs.Laws.{is_read}
use Rattle.dp_lean.proofs.LeanLists.{leaned, lean_alone, lean_out, lean_at}
use Rattle.dp_lean.proofs.Placed.{numbered, some_epoch}
use Rattle.dp_lean_code.specs.Known.{paying_marks}
use Rattle.dp_lean_code.proofs.ProgramRight.{ok, ascends, own_none, body_text}
use Rattle.dp_lean_code.proofs.WholeTexts.{whole_all}
use Rattle.dp_lean_epoch.specs.Holding.{KeepsEnough, HavePlaces}
use Rattle.dp_lean_kinds.specs.ColumnKinds.{is_needed, region_kinds}
use Rattle.dp_lean_kinds.specs.Keeping.{kept_by, KindsKeepEnough}
use Rattle.dp_lean_kinds.proofs.Later.{choice_same, text_same}
use Rattle.dp_lean_kinds.proofs.Sizes.{kinds_count, any_there, any_found, read_there, read_place}

module _ (p : Program) (plan : Plan) (inlined : IsInlined p) (fits : fits_plan p plan ≡ true) where
  abbrev m : Marks
  m = paying_marks p plan

  abbrev a : Accepted p plan
  a = ok p plan inlined fits

  abbrev turn : Stmt
  turn = tree.If a.site a.cond a.body []

  sound : Each (Sound p plan) (head_access (Region plan.region a.site a.cond a.body) ∷ accesses_all a.body)
  sound = subst (λ (all : List Access). Each (Sound p plan) all)
      (ap accesses_all a.region ∙ append-nil (accesses a.statement) ∙ accesses_out a.statement ∙ ap accesses_at a.is) a.sound

  low_body : Each (λ c. stage_of p plan c.site < last plan) (accesses_all a.body)
  low_body = each_map (Sound p plan) (λ c. stage_of p plan c.site < last plan) (λ c h. h.early) (accesses_all a.body) sound.1

  module _ (s : ℕ) (high : last plan ≤ s) where
    text_is : (v : ℕ) → last plan ≤ v → project_all p plan v (region_statement p plan) ≡ turn ∷ []
    text_is v from = ap (project_all p plan v) a.region ∙ append-nil (project p plan v a.statement) ∙ project_out p plan v a.statement
        ∙ ap (project_at p plan v) a.is
        ∙ ap (λ (xs : List Stmt). tree.If a.site a.cond xs [] ∷ [])
        (whole_all p plan v a.body a.well (each_map (λ c. stage_of p plan c.site < last plan) (λ c. stage_of p plan c.site ≤ v) (λ c h. omega (arith, h, from))
        (accesses_all a.body) low_body))

    no_block : (paying_marks p plan).block_at (site_of (out-Stmt turn)).0 ≡ []
    no_block = ap (λ (h : Stmt-F Stmt). (paying_marks p plan).block_at (site_of h).0) (outs-If a.site a.cond a.body [])
        ∙ ap (λ (h : Stmt-F Stmt). (paying_marks p plan).block_at (site_of h).0) (sym a.is) ∙ own_none p plan inlined fits

    first_low : stage_of p plan a.site.0 < last plan
    first_low = sound.0.early

    turn_same : leaned p plan m s (turn ∷ []) ≡ leaned p plan m (last plan) (turn ∷ [])
    turn_same =
        let q = (quieted (some_epoch p plan a (numbered p plan inlined a).0 (numbered p plan inlined a).1 m (all_sound p plan) []) fits
        (numbered p plan inlined a).0 (numbered p plan inlined a).1 (pays_off p plan)).marked in
        let inner = text_same p plan m s high [] q (body_text p plan inlined fits) low_body in
        lean_alone p plan m s turn [] no_block
        ∙ ap (λ (xs : List Stmt). xs ++ []) (lean_out p plan m s turn ∙ ap (lean_at p plan m s) (outs-If a.site a.cond a.body [])
        ∙ choice_same p plan m s high a.site a.cond a.body [] first_low inner refl
        ∙ sym (ap (lean_at p plan m (last plan)) (outs-If a.site a.cond a.body [])) ∙ sym (lean_out p plan m (last plan) turn))
        ∙ sym (lean_alone p plan m (last plan) turn [] no_block)

    read_late : (y : ℕ) → is_read p plan m s y ≡ is_read p plan m (last plan) y
    read_late y = ap (λ (xs : List Stmt). has_site y (accesses_all xs))
        (ap (leaned p plan m s) (text_is s high) ∙ turn_same ∙ sym (ap (leaned p plan m (last plan)) (text_is (last plan) (omega arith))))

  low_site : (y : ℕ) (all : List Access) → Each (Sound p plan) all → has_site y all ≡ true → stage_of p plan y < last plan
  low_site y [] h e = absurd (cc e)
  low_site y (c ∷ all) h e = by (c.site == y) refl e (low_site y all h.1)
    where
      by : (b : Bool) → (c.site == y) ≡ b → (b || has_site y all) ≡ true → (has_site y all ≡ true → stage_of p plan y < last plan) →
          stage_of p plan y < last plan
      by true is e more = subst (λ (f : ℕ). stage_of p plan f < last plan) (eqb-true c.site y is) h.0.early
      by false is e more = more e

  needed : (s t y : ℕ) → is_read p plan m s y ≡ true → t < s → t < last plan → is_needed p plan m t y ≡ true
  needed s t y e later early = elim (cases_lt s (last plan)) [
    | inl before ↦ any_there (λ (v : ℕ). is_read p plan m v y) (t + 1) (last plan - t) s (omega (arith, later)) (omega (arith, before, early)) e
    | inr from ↦ any_there (λ (v : ℕ). is_read p plan m v y) (t + 1) (last plan - t) (last plan) (omega (arith, early)) (omega (arith, early))
        (sym (read_late s from y) ∙ e)
  ]

  pub needed_behind : (s y : ℕ) → is_read p plan m s y ≡ true → stage_of p plan y < s → is_needed p plan m (stage_of p plan y) y ≡ true
  needed_behind s y e later = needed s (stage_of p plan y) y e later (low_site y (region_accesses p plan) a.sound (read_there p plan m s y e))

  pub needed_place : (t y : ℕ) → is_needed p plan m t y ≡ true → y - first_site p plan < length (region_accesses p plan)
  needed_place t y e =
      let some = any_found (λ (v : ℕ). is_read p plan m v y) (numbers_from (t + 1) (last plan - t)) e in
      read_place p plan m (ascends p plan inlined fits) some.0 y some.1

module _ (p : Program) (plan : Plan) (key : EpochKey) where
  abbrev Goal : Type 0
  Goal = KeepsEnough (paying_marks p plan) key (kept_by p plan (paying_marks p plan))
      × ((t : ℕ) → HavePlaces (paying_marks p plan) key (kept_by p plan (paying_marks p plan)) (region_kinds p plan (paying_marks p plan) t))

enough : (key : EpochKey) → IsInlined key.program → fits_plan key.program key.plan ≡ true → Goal key.program key.plan key
enough key inlined fits =
    let p = key.program in let plan = key.plan in let marks = paying_marks p plan in (
      record {
        told = needed_behind p plan inlined fits;
        loads = λ y read checked. ap (λ b. b && is_read p plan marks (last plan) y) checked ∙ read;
      },
      λ t.
          let all = kinds_count p plan marks t in (
            λ y kept. let low = needed_place p plan inlined fits (stage_of p plan y) y kept in omega (arith, low, all),
            λ y kept.
                let both = and_parts (is_checked p plan y) (is_read p plan marks (last plan) y) kept in
                let low = read_place p plan marks (ascends p plan inlined fits) (last plan) y both.1 in omega (arith, low, all),
          ),
    )

pub keep_enough : (p : Program) (plan : Plan) → IsInlined p → fits_plan p plan ≡ true → KindsKeepEnough p plan
keep_enough p plan inlined fits key e f =
    subst (λ (q : Program). Goal q plan key) e (subst (λ (r : Plan). Goal key.program r key) f
    (enough key (subst IsInlined (sym e) inlined) (rw (e, f) fits)))
