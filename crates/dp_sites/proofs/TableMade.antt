-- The table that the code makes place by place is the definition's.
use Rattle.std.proofs.Common.{◌≡◌, refl, sym, ap, ◌∙◌, ℕ, zero, suc, ◌+◌, ◌==◌, Bool, true, false, if◌then◌else◌, List, [], ◌∷◌, map, filter, length, None}
use Rattle.std.proofs.Common.{arith, eqb-true}
use Rattle.std.proofs.lemmas.Bool.{and_parts}
use Rattle.dp_base.specs.declared.SiteId.{SiteId}
use Rattle.dp_tree.specs.declared.Expr.{Expr}
use Rattle.dp_tree.specs.declared.Program.{Program}
use Rattle.dp_tree.specs.declared.Stmt.{Stmt, out-Stmt}
use Rattle.dp_tree.specs.declared.Stmt.TheOpen.{Stmt-F, Assign, Store, Print, If, While, Region, Break, Call}
use Rattle.dp_tree.specs.Iteration.{is_region}
use Rattle.dp_tree.specs.Numbering.{numbers_from}
use Rattle.dp_plan.specs.declared.Plan.{Plan}
use Rattle.dp_sites.specs.declared.part.Part.{Part}
use Rattle.dp_plan.specs.Access.{first_site, is_region_at, region_in}
use Rattle.dp_plan.specs.IsFar.{body_of}
use Rattle.dp_plan.specs.Checked.{is_checked}
use Rattle.dp_plan.specs.CheckedTable.{checked_table}
use Rattle.dp_sites.specs.steps.Parts.{part_list, parts}
use Rattle.dp_sites.specs.Storings.{answer_at, body_at, goes_up_from}
use Rattle.dp_plan.proofs.Ascent.{Ascends}
use Rattle.dp_sites.proofs.PartTable.{part_site}
use Rattle.dp_sites.proofs.TableIs.{checked_is}

pub risen_up : (k : ℕ) (us : List Part) → goes_up_from k us ≡ true → Ascends k (map part_site us)
risen_up k [] e = tt
risen_up k (u ∷ us) e =
    let both = and_parts (u.site == k) (goes_up_from (k + 1) us) e in
    let next : k + 1 ≡ suc k = omega arith in
    (eqb-true u.site k both.0, risen_up (suc k) us (ap (λ (n : ℕ). goes_up_from n us) (sym next) ∙ both.1))

-- the filtered statement is a region
pub passes : (r : ℕ) (all : List Stmt) (s : Stmt) → filter (is_region_at r) all ≡ s ∷ [] → is_region_at r s ≡ true
passes r [] s e = absurd (cc e)
passes r (x ∷ all) s e = by (is_region_at r x) refl e (passes r all s)
  where
    by : (b : Bool) → is_region_at r x ≡ b → (if b then x ∷ filter (is_region_at r) all else filter (is_region_at r) all) ≡ s ∷ [] →
        (filter (is_region_at r) all ≡ s ∷ [] → is_region_at r s ≡ true) → is_region_at r s ≡ true
    by true t h later = let same : x ≡ s = cc h in ap (is_region_at r) (sym same) ∙ t
    by false t h later = later h

pub record Opened (s : Stmt) : Type 0 where
  pub r : ℕ
  pub site : SiteId
  pub cond : Expr
  pub body : List Stmt
  pub is : out-Stmt s ≡ Region r site cond body

pub opened_region : (r : ℕ) (s : Stmt) → is_region_at r s ≡ true → Opened s
opened_region r s e = by (out-Stmt s) refl
  where
    clash : (h : Stmt-F Stmt) → out-Stmt s ≡ h → is_region r h ≡ false → Opened s
    clash h t f = absurd (cc (sym e ∙ ap (is_region r) t ∙ f))

    by : (h : Stmt-F Stmt) → out-Stmt s ≡ h → Opened s
    by (Region q site cond body) t = record { r = q; site = site; cond = cond; body = body; is = t }
    by (Assign site x v) t = clash (Assign site x v) t refl
    by (Store site x i v) t = clash (Store site x i v) t refl
    by (Print site v) t = clash (Print site v) t refl
    by (If site c a b) t = clash (If site c a b) t refl
    by (While site c a) t = clash (While site c a) t refl
    by (Break site c) t = clash (Break site c) t refl
    by (Call f line args) t = clash (Call f line args) t refl

moved : (f g : ℕ → Bool) (k i n : ℕ) → ((j : ℕ) → f (k + j) ≡ g j) → map g (numbers_from i n) ≡ map f (numbers_from (k + i) n)
moved f g k i zero same = refl
moved f g k i (suc n) same =
    let next : k + (i + 1) ≡ (k + i) + 1 = omega arith in
    ap (λ (b : Bool). b ∷ map g (numbers_from (i + 1) n)) (sym (same i)) ∙ ap (λ (bs : List Bool). f (k + i) ∷ bs) (moved f g k (i + 1) n same
    ∙ ap (λ (m : ℕ). map f (numbers_from m n)) next)

pub table_made : (p : Program) (plan : Plan) (s : Stmt) → region_in p plan.region ≡ s ∷ [] → goes_up_from (first_site p plan) (part_list None s) ≡ true
    → map (answer_at p plan (part_list None s) (body_at s)) (numbers_from 0 (length plan.stage_of)) ≡ checked_table p plan
unfolding part_list body_at
table_made p plan s only up =
    let o = opened_region plan.region s (passes plan.region p.main s only) in
    let start : first_site p plan + 0 ≡ first_site p plan = omega arith in
    ap (λ (h : Stmt-F Stmt). map (answer_at p plan (parts None s) (body_of h)) (numbers_from 0 (length plan.stage_of))) o.is
    ∙ moved (is_checked p plan) (answer_at p plan (parts None s) o.body) (first_site p plan) 0 (length plan.stage_of)
    (checked_is p plan s only o.r o.site o.cond o.body o.is (first_site p plan) (risen_up (first_site p plan) (parts None s) up))
    ∙ ap (λ (m : ℕ). map (is_checked p plan) (numbers_from m (length plan.stage_of))) start
