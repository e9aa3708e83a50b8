use Rattle.std.proofs.Common.{◌≡◌, sym, subst, ap, ◌∙◌, ℕ, List, [], ◌∷◌, filter, Option, IsPermutation}
use Rattle.dp_tree.specs.declared.Program.{Program}
use Rattle.dp_plan.specs.Written.{listed_sites, region_sites}
use Rattle.dp_plan.specs.declared.WrittenPlan.{WrittenPlan}
use Rattle.dp_plan.specs.Rules.{least, occurs_again, not_listed, listed_twice, foreign}
use Rattle.dp_plan_text.specs.steps.Tables.{is_outside}
use Rattle.dp_plan_text.proofs.RuleLemmas.{breaks, holds, not_listed_is, listed_twice_is, foreign_is}
use Rattle.dp_plan_text.proofs.rules.lists.broken.Goals as goal

-- what each call answers, of the lists that it reads
module _ (p : Program) (w : WrittenPlan) (all ordered : List ℕ) (is_all : all ≡ listed_sites w) (moved : IsPermutation all ordered) (named : Option ℕ) where
  order : IsPermutation (listed_sites w) ordered
  order = subst (λ l. IsPermutation l ordered) is_all moved

  first : (read among : List ℕ) → named ≡ least (filter (is_outside among) read) → read ≡ region_sites p w.region → among ≡ ordered → named ≡ not_listed p w
  first read among is of_region in_order =
      is ∙ ap (λ l. least (filter (is_outside among) l)) of_region ∙ ap (λ l. least (filter (is_outside l) (region_sites p w.region))) in_order
      ∙ not_listed_is p w ordered order

  second : (read : List ℕ) → named ≡ least (filter (occurs_again read) read) → read ≡ ordered → named ≡ listed_twice w
  second read is in_order = is ∙ ap (λ l. least (filter (occurs_again l) l)) in_order ∙ listed_twice_is p w ordered order

  third : (read among sites own : List ℕ) → named ≡ least (filter (is_outside among) read) → read ≡ ordered → among ≡ own → sites ≡ region_sites p w.region →
      IsPermutation sites own
      → named ≡ foreign p w
  third read among sites own is in_order is_own of_region of_own =
      is ∙ ap (λ l. least (filter (is_outside among) l)) in_order ∙ ap (λ l. least (filter (is_outside l) ordered)) is_own
      ∙ foreign_is p w ordered order own (subst (λ l. IsPermutation l own) of_region of_own)

pub returns-in-Some : goal.returns-in-Some
returns-in-Some c =
    let p = c.args.p.now in let w = c.args.w.now in
    let one = first p w _ c.in_order-listed.result c.in_ok-listed.ensures c.in_order-listed.ensures.permutation c.least_outside.result _ _
    c.least_outside.ensures (c.as_slice.ensures ∙ c.in_ok-sites.ensures) c.as_slice-2.ensures in
    breaks 1 c.in-Some.site (not_listed p w) (listed_twice w ∷ foreign p w ∷ []) (sym one ∙ c.in-Some.is)

pub returns-in-Some-least_repeated : goal.returns-in-Some-least_repeated
returns-in-Some-least_repeated c =
    let p = c.args.p.now in let w = c.args.w.now in
    let one = first p w _ c.in_order-listed.result c.in_ok-listed.ensures c.in_order-listed.ensures.permutation c.least_outside.result _ _
    c.least_outside.ensures (c.as_slice.ensures ∙ c.in_ok-sites.ensures) c.as_slice-2.ensures in
    let two = second p w _ c.in_order-listed.result c.in_ok-listed.ensures c.in_order-listed.ensures.permutation c.least_repeated.result _
    c.least_repeated.ensures c.as_slice-3.ensures in
    breaks 2 c.in-Some-least_repeated.site (listed_twice w) (foreign p w ∷ []) (sym two ∙ c.in-Some-least_repeated.is)
    ∙ holds 1 (not_listed p w) (listed_twice w ∷ foreign p w ∷ []) (sym one ∙ c.in_default.is)

pub returns-in-Some-least_outside : goal.returns-in-Some-least_outside
returns-in-Some-least_outside c =
    let p = c.args.p.now in let w = c.args.w.now in
    let one = first p w _ c.in_order-listed.result c.in_ok-listed.ensures c.in_order-listed.ensures.permutation c.least_outside.result _ _
    c.least_outside.ensures (c.as_slice.ensures ∙ c.in_ok-sites.ensures) c.as_slice-2.ensures in
    let two = second p w _ c.in_order-listed.result c.in_ok-listed.ensures c.in_order-listed.ensures.permutation c.least_repeated.result _
    c.least_repeated.ensures c.as_slice-3.ensures in
    let three = third p w _ c.in_order-listed.result c.in_ok-listed.ensures c.in_order-listed.ensures.permutation c.least_outside-2.result _ _ _
    c.in_order-own.result c.least_outside-2.ensures c.as_slice-4.ensures c.as_slice-5.ensures c.in_ok-sites.ensures c.in_order-own.ensures.permutation in
    breaks 3 c.in-Some-least_outside.site (foreign p w) [] (sym three ∙ c.in-Some-least_outside.is)
    ∙ holds 2 (listed_twice w) (foreign p w ∷ []) (sym two ∙ c.in_default-least_repeated.is)
    ∙ holds 1 (not_listed p w) (listed_twice w ∷ foreign p w ∷ []) (sym one ∙ c.in_default.is)

pub returns : goal.returns
returns c =
    let p = c.args.p.now in let w = c.args.w.now in
    let one = first p w _ c.in_order-listed.result c.in_ok-listed.ensures c.in_order-listed.ensures.permutation c.least_outside.result _ _
    c.least_outside.ensures (c.as_slice.ensures ∙ c.in_ok-sites.ensures) c.as_slice-2.ensures in
    let two = second p w _ c.in_order-listed.result c.in_ok-listed.ensures c.in_order-listed.ensures.permutation c.least_repeated.result _
    c.least_repeated.ensures c.as_slice-3.ensures in
    let three = third p w _ c.in_order-listed.result c.in_ok-listed.ensures c.in_order-listed.ensures.permutation c.least_outside-2.result _ _ _
    c.in_order-own.result c.least_outside-2.ensures c.as_slice-4.ensures c.as_slice-5.ensures c.in_ok-sites.ensures c.in_order-own.ensures.permutation in
    holds 3 (foreign p w) [] (sym three ∙ c.in_default-least_outside.is)
    ∙ holds 2 (listed_twice w) (foreign p w ∷ []) (sym two ∙ c.in_default-least_repeated.is)
    ∙ holds 1 (not_listed p w) (listed_twice w ∷ foreign p w ∷ []) (sym one ∙ c.in_default.is)
