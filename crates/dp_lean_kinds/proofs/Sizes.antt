-- A region has as many kinds as sites, and a site that is read has a place among them.
use Rattle.dp_semantics.proofs.Names.{◌≡◌, inl, inr, refl, sym, ap, ◌∙◌, arith, length-append, ℕ, zero, suc, ◌+◌, ◌-◌, ◌<◌, ◌≤◌, ◌||◌, Bool, true, false, List}
use Rattle.dp_semantics.proofs.Names.{[], ◌∷◌, length, map, cases_lt, list_any, flat_map, Stmt, Program, Plan, accesses, first_site, region_statement}
use Rattle.dp_semantics.proofs.Names.{region_accesses, project_all}
use Rattle.std.proofs.lemmas.List.{length-map}
use Rattle.dp_tree.specs.declared.Stmt.TheVariants as tree
use Rattle.dp_tree.specs.Numbering.{numbers_from}
use Rattle.dp_tree.specs.Statements.{asked}
use Rattle.dp_tree.proofs.Asked.{asked_both}
use Rattle.dp_plan.specs.Access.{access_at}
use Rattle.dp_plan.specs.Checked.{has_site}
use Rattle.dp_plan.specs.Written.{access_site}
use Rattle.dp_plan.proofs.Ascent.{Ascends}
use Rattle.dp_net.specs.NetItems.{Marks}
use Rattle.dp_lean.specs.Laws.{is_read}
use Rattle.dp_lean.proofs.Once.{absent_part, project_part_all, lean_part_all}
use Rattle.dp_lean_code.proofs.Missing.{none_below, none_past}
use Rattle.dp_lean_kinds.specs.ColumnKinds.{formed_sites, kind_of, region_kinds}
unfoldable use Rattle.dp_lean_kinds.specs.ColumnKinds.{formed_at}

-- ---- as many kinds as sites

one_formed : (x : Stmt) → length (asked formed_at x) ≡ length (accesses x)
unfolding formed_at
one_formed x = asked_both (λ a c. length a ≡ length c) refl (λ a b c d e f. let g = length-append a b in let h = length-append c d in
    omega (arith, e, f, g, h)) formed_at access_at each x
  where
    each : (x : Stmt) → length (formed_at x) ≡ length (access_at x)
    each (tree.Assign site x e) = refl
    each (tree.Store site x i e) = refl
    each (tree.Print site e) = refl
    each (tree.If' site e h a k b) = refl
    each (tree.While' site e h a) = refl
    each (tree.Region' r site e h a) = refl
    each (tree.Break site e) = refl
    each (tree.Call f line args) = refl

all_formed : (xs : List Stmt) → length (flat_map (asked formed_at) xs) ≡ length (flat_map accesses xs)
all_formed [] = refl
all_formed (x ∷ xs) =
    let g = length-append (asked formed_at x) (flat_map (asked formed_at) xs) in let h = length-append (accesses x) (flat_map accesses xs) in
    omega (arith, g, h, one_formed x, all_formed xs)

pub kinds_count : (p : Program) (plan : Plan) (m : Marks) (t : ℕ) → length (region_kinds p plan m t) ≡ length (region_accesses p plan)
kinds_count p plan m t = length-map (formed_sites p plan) (kind_of p plan m t) ∙ all_formed (region_statement p plan)

-- ---- some number of a range

pub any_there : (f : ℕ → Bool) (first n s : ℕ) → first ≤ s → s < first + n → f s ≡ true → list_any f (numbers_from first n) ≡ true
any_there f first zero s from to e = absurd (omega (arith, from, to))
any_there f first (suc n) s from to e = elim (cases_lt first s) [
  | inl past ↦ ap (λ b. f first || b) (any_there f (first + 1) n s (omega (arith, past)) (omega (arith, to)) e) ∙ or_true (f first)
  | inr here ↦ let same : s ≡ first = omega (arith, from, here) in ap (λ b. b || list_any f (numbers_from (first + 1) n)) (ap f (sym same) ∙ e)
]
  where
    or_true : (b : Bool) → (b || true) ≡ true
    or_true true = refl
    or_true false = refl

pub any_found : (f : ℕ → Bool) (ns : List ℕ) → list_any f ns ≡ true → (s : ℕ) × (f s ≡ true)
any_found f [] e = absurd (cc e)
any_found f (n ∷ ns) e = by (f n) refl e (any_found f ns)
  where
    by : (b : Bool) → f n ≡ b → (b || list_any f ns) ≡ true → (list_any f ns ≡ true → (s : ℕ) × (f s ≡ true)) → (s : ℕ) × (f s ≡ true)
    by true is e more = (n, is)
    by false is e more = more e

-- ---- the place of a site that is read

module _ (p : Program) (plan : Plan) (m : Marks) where
  read_in_region : (s y : ℕ) → has_site y (region_accesses p plan) ≡ false → is_read p plan m s y ≡ false
  read_in_region s y e = absent_part y (lean_part_all p plan s m 0 false (project_all p plan s (region_statement p plan)))
      (absent_part y (project_part_all p plan s (region_statement p plan)) e)

  pub read_there : (s y : ℕ) → is_read p plan m s y ≡ true → has_site y (region_accesses p plan) ≡ true
  read_there s y e = by (has_site y (region_accesses p plan)) refl
    where
      by : (b : Bool) → has_site y (region_accesses p plan) ≡ b → b ≡ true
      by true is = refl
      by false is = let clash = sym (read_in_region s y is) ∙ e in absurd (cc clash)

  pub read_place : Ascends (first_site p plan) (map access_site (region_accesses p plan)) → (s y : ℕ) → is_read p plan m s y ≡ true →
      y - first_site p plan < length (region_accesses p plan)
  read_place up s y e = elim (cases_lt y (first_site p plan)) [
    | inl low ↦ let none = read_in_region s y (none_below (first_site p plan) y (region_accesses p plan) up low) in
        let clash = sym none ∙ e in absurd (cc clash)
    | inr from ↦ elim (cases_lt y (first_site p plan + length (region_accesses p plan))) [
      | inl inside ↦ omega (arith, from, inside)
      | inr past ↦ let none = read_in_region s y (none_past (first_site p plan) y (region_accesses p plan) up past) in
          let clash = sym none ∙ e in absurd (cc clash)
    ]
  ]
