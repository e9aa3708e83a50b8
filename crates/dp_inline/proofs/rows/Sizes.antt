-- The sizes of expanded programs, and the limits on them.
use Rattle.std.proofs.Common.{◌≡◌, ◌≢◌, refl, ℕ, zero, suc, List, [], ◌∷◌, ◌++◌, map, replicate, Option, Some, None, Result, Ok, Err}
use Rattle.dp_base.specs.declared.Quantity.TheVariants.{InlinedSize, RegionSites}
use Rattle.dp_base.specs.Counts.{reported_count}
use Rattle.dp_tree.specs.declared.Function.{Function}
use Rattle.dp_tree.specs.declared.Stmt.{Stmt}
use Rattle.dp_tree.specs.declared.Stmt.TheVariants as stmt
use Rattle.dp_tree.specs.declared.Program.{Program}
use Rattle.dp_tree.proofs.Build.{num, set, set_at, say, loop, region, call, function, program, with_functions, tree_opened}
use Rattle.dp_inline.specs.declared.fail.InlineFail.{InlineFail}
use Rattle.dp_inline.specs.declared.fail.InlineFail.TheVariants.{Limit, NoMemory}
use Rattle.dp_inline.specs.Size.{inlined_size, site_total, region_size}
use Rattle.dp_inline.specs.InlineAnswer.{GivesInlined, too_large, first_large_region, inline_answer}

abbrev with_main : List Function → List Stmt → Program
with_main functions main = with_functions functions (program [] [] [] main)

-- one statement of each form; a call counts its bindings, its function's body and itself
abbrev forms : List Stmt
forms = set 1 0 (num 1) ∷ set_at 2 1 (num 1) (num 2) ∷ say 3 (num 3) ∷ stmt.If (record { 0 = 4 }) (num 4) (say 5 (num 5) ∷ [])
    (say 6 (num 6) ∷ say 7 (num 7) ∷ [])
    ∷ loop 8 (num 8) (say 9 (num 9) ∷ []) ∷ region 1 10 (num 10) (say 11 (num 11) ∷ say 12 (num 12) ∷ []) ∷ call 1 1 (num 13 ∷ num 14 ∷ num 15 ∷ [])
    ∷ stmt.Break (record { 0 = 13 }) (num 16) ∷ []

-- the second function has three parameters and calls the first one, which prints, twice
abbrev of_each_form : Program
of_each_form = with_main (function [] (say 1 (num 1) ∷ []) ∷ function (0 ∷ 1 ∷ 2 ∷ []) (call 0 1 [] ∷ call 0 1 [] ∷ say 2 (num 2) ∷ []) ∷ []) forms

each_form : map (λ s. inlined_size (record of_each_form { main = s ∷ [] })) forms ≡ 1 ∷ 1 ∷ 1 ∷ 4 ∷ 2 ∷ 3 ∷ 9 ∷ 1 ∷ []
unfolding tree_opened
each_form = refl

whole : inlined_size of_each_form ≡ 22
unfolding tree_opened
whole = refl

-- without the three calls
sites_alone : site_total of_each_form ≡ 19
unfolding tree_opened
sites_alone = refl

regions_alone : map (region_size of_each_form) forms ≡ 0 ∷ 0 ∷ 0 ∷ 0 ∷ 0 ∷ 3 ∷ 0 ∷ 0 ∷ []
unfolding tree_opened
regions_alone = refl

-- function k calls function k - 1 twice, and the first one does nothing: a call of function k is 2 ^ (k + 1) - 1 calls
abbrev twice : ℕ → List Function
twice zero = function [] [] ∷ []
twice (suc k) = twice k ++ function [] (call k 1 [] ∷ call k 1 [] ∷ []) ∷ []

abbrev doubling : ℕ → ℕ → Program
doubling k prints = with_main (twice k) (call k 1 [] ∷ replicate prints (say 1 (num 1)))

just_small : map too_large (doubling 12 1 ∷ doubling 4 0 ∷ []) ≡ None ∷ None ∷ []
unfolding tree_opened
just_small = refl

just_too_large : map too_large (doubling 12 2 ∷ doubling 12 5 ∷ []) ≡ Some (Limit InlinedSize 8193) ∷ Some (Limit InlinedSize 8196) ∷ []
unfolding tree_opened
just_too_large = refl

-- a greater count than 1,000,000 is reported as that
greatest_reported : map reported_count (8193 ∷ 999999 ∷ 1000000 ∷ 1000001 ∷ []) ≡ 8193 ∷ 999999 ∷ 1000000 ∷ 1000000 ∷ []
greatest_reported = refl

-- function k calls function k - 1 twice, and the first one prints: a call of function k prints 2 ^ k times
abbrev printing : ℕ → List Function
printing zero = function [] (say 1 (num 1) ∷ []) ∷ []
printing (suc k) = printing k ++ function [] (call k 1 [] ∷ call k 1 [] ∷ []) ∷ []

-- two regions of these bodies, and a loop of more sites than a region may have
abbrev with_regions : List Stmt → List Stmt → Program
with_regions first second = with_main (printing 11) (loop 1 (num 1) (call 11 1 [] ∷ []) ∷ region 1 1 (num 1) first ∷ region 2 1 (num 1) second ∷ [])

abbrev fault_of : List Stmt → List Stmt → Option InlineFail
fault_of first second = first_large_region (with_regions first second) (with_regions first second).main

-- 1,023 sites, besides the condition
abbrev just_enough : List Stmt
just_enough = map (λ k. call k 1 []) (9 ∷ 8 ∷ 7 ∷ 6 ∷ 5 ∷ 4 ∷ 3 ∷ 2 ∷ 1 ∷ 0 ∷ [])

-- 1,024 sites, besides the condition
abbrev one_more : List Stmt
one_more = call 10 1 [] ∷ []

regions_that_fit : fault_of just_enough just_enough ≡ None
unfolding tree_opened
regions_that_fit = refl

second_region : fault_of just_enough one_more ≡ Some (Limit RegionSites 1025)
unfolding tree_opened
second_region = refl

first_region : fault_of (say 1 (num 1) ∷ one_more) one_more ≡ Some (Limit RegionSites 1026)
unfolding tree_opened
first_region = refl

-- the size of the whole program comes before that of a region
both : inline_answer (with_main (printing 13) (region 1 1 (num 1) (call 13 1 [] ∷ []) ∷ [])) ≡ Err (Limit InlinedSize 24576)
unfolding tree_opened inline_answer
both = refl

-- what an outcome says of the answer, written out
module _ (expected : Result Program InlineFail) (p : Program) (e : InlineFail) where
  gives_a_program : GivesInlined expected (Ok p) → expected ≡ Ok p
  gives_a_program is = is

  gives_a_refusal : GivesInlined expected (Err e) → e ≢ NoMemory → expected ≡ Err e
  gives_a_refusal is = is
