-- The places count the sites in text order.
use Rattle.dp_meaning.proofs.Names.{◌≡◌, refl, ap, ◌∙◌, ℕ, List, [], ◌∷◌, ◌++◌, map, Stmt, out-Stmt, Row_of-Stmt, end_of-Stmt, more_of-Stmt, outs-Assign}
use Rattle.dp_meaning.proofs.Names.{outs-Store, outs-Print, outs-If', outs-While', outs-Region', outs-Break, outs-Call, Stmt-F, site_of, site_numbers}
use Rattle.dp_meaning.proofs.Names.{site_numbers_in, site_numbers_all, listed, site_number, rests}
unfoldable use Rattle.dp_meaning.proofs.Names.{rests_of, rests_in}
use Rattle.dp_tree.specs.declared.Stmt.TheVariants.{Assign, Store, Print, If', While', Region', Break, Call}
use Rattle.std.proofs.lemmas.List.{map-append}

-- a statement's number is that of its site
pub number_out : (s : Stmt) → (site_of (out-Stmt s)).0 ≡ site_number s
number_out (Assign site x e) = ap (λ (h : Stmt-F Stmt). (site_of h).0) (outs-Assign site x e)
number_out (Store site x index e) = ap (λ (h : Stmt-F Stmt). (site_of h).0) (outs-Store site x index e)
number_out (Print site e) = ap (λ (h : Stmt-F Stmt). (site_of h).0) (outs-Print site e)
number_out (If' site cond i a j b) = ap (λ (h : Stmt-F Stmt). (site_of h).0) (outs-If' site cond i a j b)
number_out (While' site cond i a) = ap (λ (h : Stmt-F Stmt). (site_of h).0) (outs-While' site cond i a)
number_out (Region' r site cond i a) = ap (λ (h : Stmt-F Stmt). (site_of h).0) (outs-Region' r site cond i a)
number_out (Break site cond) = ap (λ (h : Stmt-F Stmt). (site_of h).0) (outs-Break site cond)
number_out (Call f line args) = ap (λ (h : Stmt-F Stmt). (site_of h).0) (outs-Call f line args)

pub ruleset numbers = (number_out)

-- the number of the first site
abbrev pub first_number : List Stmt → ℕ
first_number [] = 0
first_number (s ∷ rest) = site_number s

mutual
  unfolding rests_of rests_in

  numbers_of : (s : Stmt) (behind : List Stmt) → map first_number (rests_of s behind) ≡ site_numbers s
  numbers_of (If' site cond i a j b) behind =
      ap (λ ns. site.0 ∷ ns) (map-append first_number (rests_in a behind) (rests_in b behind) ∙ ap (λ ns. ns ++ map first_number (rests_in b behind))
      (numbers_in a behind) ∙ ap (λ ns. site_numbers_in a ++ ns) (numbers_in b behind))
  numbers_of (While' site cond i a) behind = ap (λ ns. site.0 ∷ ns) (numbers_in a (While' site cond i a ∷ behind))
  numbers_of (Region' r site cond i a) behind = ap (λ ns. site.0 ∷ ns) (numbers_in a (Region' r site cond i a ∷ behind))
  numbers_of _ behind = refl

  numbers_in : {n : _} (xs : Row_of-Stmt n) (behind : List Stmt) → map first_number (rests_in xs behind) ≡ site_numbers_in xs
  numbers_in end_of-Stmt behind = refl
  numbers_in (more_of-Stmt s rest) behind =
      map-append first_number (rests_of s (listed rest ++ behind)) (rests_in rest behind) ∙ ap (λ ns. ns ++ map first_number (rests_in rest behind))
      (numbers_of s (listed rest ++ behind))
      ∙ ap (λ ns. site_numbers s ++ ns) (numbers_in rest behind)

-- what is left to do begins with the sites in order
pub numbers_all : (xs : List Stmt) (behind : List Stmt) → map first_number (rests xs behind) ≡ site_numbers_all xs
numbers_all [] behind = refl
numbers_all (s ∷ rest) behind =
    map-append first_number (rests_of s (rest ++ behind)) (rests rest behind) ∙ ap (λ ns. ns ++ map first_number (rests rest behind))
    (numbers_of s (rest ++ behind)) ∙ ap (λ ns. site_numbers s ++ ns) (numbers_all rest behind)
