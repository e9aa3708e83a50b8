-- A table that is made place by place, and what it says of a site.
use Rattle.std.proofs.Common.{◌≡◌, ℕ, zero, suc, ◌+◌, ◌-◌, ◌<◌, ◌≤◌, ◌==◌, nat_lt, nat_le, Bool, true, false, ◌&&◌, List, [], ◌∷◌, ◌++◌, map, length, slice_get}
use Rattle.std.proofs.Common.{slice_index, refl, sym, ap, ◌∙◌, inl, inr, eqb-true, ltb-true, ltb-false, leb-true, arith}
use Rattle.std.proofs.lemmas.Bool.{and_parts, cases_Bool}
use Rattle.std.specs.List.{list_any, list_all}
use Rattle.std.proofs.lemmas.List.{append_assoc}
use Rattle.dp_tree.specs.declared.Program.{Program}
use Rattle.dp_tree.specs.Numbering.{numbers_from}
use Rattle.dp_plan.specs.declared.Plan.{Plan}
use Rattle.dp_plan.specs.Access.{Access, first_site, stage_of, region_accesses}
use Rattle.dp_plan.specs.Checked.{is_checked, may_differ}
use Rattle.dp_plan.specs.CheckedTable.{says_yes, with_table, IsTabled, is_staged}

-- one place more
pub table-next : (f : ℕ → Bool) (out whole : List Bool) (first place n site : ℕ) → place < n → site ≡ first + place
    → out ++ map f (numbers_from (first + place) (n - place)) ≡ whole
    → (out ++ f site ∷ []) ++ map f (numbers_from (first + (place + 1)) (n - (place + 1))) ≡ whole
table-next f out whole first place n site low is made =
    let left : n - place ≡ suc (n - (place + 1)) = omega (arith, low) in
    let onward : (first + place) + 1 ≡ first + (place + 1) = omega arith in
    append_assoc out (f site ∷ []) (map f (numbers_from (first + (place + 1)) (n - (place + 1))))
    ∙ ap (λ (k : ℕ). out ++ (f k ∷ map f (numbers_from (first + (place + 1)) (n - (place + 1))))) is
    ∙ ap (λ (k : ℕ). out ++ (f (first + place) ∷ map f (numbers_from k (n - (place + 1))))) (sym onward)
    ∙ ap (λ (k : ℕ). out ++ map f (numbers_from (first + place) k)) (sym left)
    ∙ made

-- the entry at a place
entry : (f : ℕ → Bool) (first n k : ℕ) → k < n → says_yes (slice_get (map f (numbers_from first n)) k) ≡ f (first + k)
entry f first zero k low = absurd (omega (arith, low))
entry f first (suc n) zero low = let e : first ≡ first + 0 = omega arith in ap f e
entry f first (suc n) (suc k) low =
    let e : first + 1 + k ≡ first + suc k = omega arith in
    entry f (first + 1) n k (omega (arith, low)) ∙ ap f e

-- no entry behind the last
no_entry : (f : ℕ → Bool) (first n k : ℕ) → n ≤ k → says_yes (slice_get (map f (numbers_from first n)) k) ≡ false
no_entry f first zero k high = refl
no_entry f first (suc n) zero high = absurd (omega (arith, high))
no_entry f first (suc n) (suc k) high = no_entry f (first + 1) n k (omega (arith, high))

-- among sites that have stages, one that has none isn't found
without_stage : (stage : ℕ → ℕ) (test : Access → Bool) (site : ℕ) → stage site ≡ 0 → (xs : List Access)
    → list_all (λ (a : Access). nat_lt 0 (stage a.site)) xs ≡ true → list_any (λ (u : Access). (u.site == site) && test u) xs ≡ false
without_stage stage test site none [] staged = refl
without_stage stage test site none (x ∷ xs) staged =
    let both = and_parts (nat_lt 0 (stage x.site)) (list_all (λ (a : Access). nat_lt 0 (stage a.site)) xs) staged in
    let later = without_stage stage test site none xs both.1 in
    elim (cases_Bool (x.site == site)) [
      | inl e ↦ let same : x.site ≡ site = eqb-true x.site site e in
          let low : 0 < stage x.site = ltb-true 0 (stage x.site) both.0 in
          absurd (omega (arith, low, ap stage same ∙ none))
      | inr e ↦ rw e later
    ]

-- the site has no stage, and none is checked without one
unstaged : (p : Program) (plan : Plan) → list_all (is_staged p plan) (region_accesses p plan) ≡ true → (site : ℕ) → stage_of p plan site ≡ 0 →
    is_checked p plan site ≡ false
unstaged p plan staged site none =
    without_stage (stage_of p plan) (λ (u : Access). list_any (may_differ p plan (stage_of p plan site) site) u.loads) site none (region_accesses p plan) staged

-- behind the last entry no site has a stage
behind : (stages : List ℕ) (k : ℕ) → length stages ≤ k → slice_index stages k ≡ 0
behind [] k high = refl
behind (x ∷ xs) zero high = absurd (omega (arith, high))
behind (x ∷ xs) (suc k) high = behind xs k (omega (arith, high))

pub table_right : (p : Program) (plan : Plan) → list_all (is_staged p plan) (region_accesses p plan) ≡ true → IsTabled p (with_table p plan)
table_right p plan staged site =
    elim (cases_Bool (nat_le (first_site p plan) site)) [
      | inl e ↦ let low : first_site p plan ≤ site = leb-true (first_site p plan) site e in
          let back : first_site p plan + (site - first_site p plan) ≡ site = omega (arith, low) in
          rw e (elim (cases_Bool (nat_lt (site - first_site p plan) (length plan.stage_of))) [
            | inl t ↦ entry (is_checked p plan) (first_site p plan) (length plan.stage_of) (site - first_site p plan) (ltb-true _ _ t)
                ∙ ap (is_checked p plan) back
            | inr t ↦ let high : length plan.stage_of ≤ site - first_site p plan = ltb-false (site - first_site p plan) (length plan.stage_of) t in
                no_entry (is_checked p plan) (first_site p plan) (length plan.stage_of) (site - first_site p plan) high
                ∙ sym (unstaged p plan staged site (rw e (behind plan.stage_of (site - first_site p plan) high)))
          ])
      | inr e ↦ rw e (sym (unstaged p plan staged site (rw e refl)))
    ]
