-- What the walk over a text's statements appends, statement by statement; and the sites of statements.
use Rattle.std.proofs.Common.{◌≡◌, refl, sym, ◌∙◌, ap, ℕ, ◌+◌, ◌<◌, true, false, List, [], ◌∷◌, ◌++◌, map, drop, get_or, length, append_assoc}
use Rattle.std.specs.List.{flat_map}
use Rattle.std.proofs.lemmas.List.{map-append}
use Rattle.dp_tree.specs.declared.Program.{Program}
use Rattle.dp_tree.specs.declared.Stmt.{Stmt}
use Rattle.dp_tree.specs.Numbering.{number_at}
use Rattle.dp_tree.specs.Statements.{asked}
use Rattle.dp_plan.specs.Access.{accesses, is_region_at, region_in}
use Rattle.dp_plan.specs.Walks.{is_region_of}
use Rattle.dp_plan.specs.Written.{access_site, region_sites}
use Rattle.dp_plan.proofs.TopStatements.{sites_are}
use Rattle.dp_sites.specs.Lists.{asked_in_region, site_list, site_lists}
use Rattle.dp_room.proofs.ListLemmas.{next_of}

module _ {X : Type 0} where
  -- a statement's own answers join the end, and then those of what is inside it
  pub own_and_one : (old one two own inner : List X) {whole : List X} → one ≡ old ++ own → two ≡ one ++ inner → whole ≡ own ++ inner → two ≡ old ++ whole
  own_and_one old one two own inner p q is = q ∙ ap (λ l. l ++ inner) p ∙ append_assoc old own inner ∙ ap (λ l. old ++ l) (sym is)

  pub own_and_two : (old one two three own a b : List X) {whole : List X} → one ≡ old ++ own → two ≡ one ++ a → three ≡ two ++ b → whole ≡ own ++ (a ++ b) →
      three ≡ old ++ whole
  own_and_two old one two three own a b p q r is = own_and_one old one three own (a ++ b) p (r ∙ ap (λ l. l ++ b) q ∙ append_assoc one a b) is

  -- nothing joins the end
  pub none_joins : (old now next : List X) {whole rest : List X} → now ++ whole ≡ old → whole ≡ rest → next ≡ now → next ++ rest ≡ old
  none_joins old now next {whole} {rest} so_far same is = ap (λ l. l ++ rest) is ∙ ap (λ l. now ++ l) (sym same) ∙ so_far

-- ---- regions among several statements

module _ {X : Type 0} (ask : Stmt → List X) where
  region_case : (r : ℕ) (s : Stmt) (rest : List Stmt) → is_region_at r s ≡ true
      → asked_in_region ask r (s ∷ rest) ≡ asked ask s ++ asked_in_region ask r rest
  region_case r s rest e = rw e refl

  skip_case : (r : ℕ) (s : Stmt) (rest : List Stmt) → is_region_at r s ≡ false
      → asked_in_region ask r (s ∷ rest) ≡ asked_in_region ask r rest
  skip_case r s rest e = rw e refl

  pub region-next : (r : ℕ) (all : List Stmt) (i : ℕ) (s : Stmt) → i < length all → s ≡ get_or all i s → is_region_of r s ≡ true
      → asked_in_region ask r (drop i all) ≡ asked ask s ++ asked_in_region ask r (drop (i + 1) all)
  unfolding is_region_of
  region-next r all i s h is e = ap (asked_in_region ask r) (next_of all i s h is) ∙ region_case r s (drop (i + 1) all) e

  pub region-skip : (r : ℕ) (all : List Stmt) (i : ℕ) (s : Stmt) → i < length all → s ≡ get_or all i s → is_region_of r s ≡ false
      → asked_in_region ask r (drop i all) ≡ asked_in_region ask r (drop (i + 1) all)
  unfolding is_region_of
  region-skip r all i s h is e = ap (asked_in_region ask r) (next_of all i s h is) ∙ skip_case r s (drop (i + 1) all) e

-- ---- sites

-- the numbers of a statement are its sites
pub numbers_of : (x : Stmt) → asked number_at x ≡ site_list x
unfolding site_list
numbers_of x = sites_are x

pub numbers_in : (all : List Stmt) → flat_map (asked number_at) all ≡ site_lists all
unfolding site_lists
numbers_in [] = refl
numbers_in (x ∷ rest) = ap (λ ns. ns ++ flat_map (asked number_at) rest) (sites_are x) ∙ ap (λ ns. map access_site (accesses x) ++ ns) (numbers_in rest)
    ∙ sym (map-append access_site (accesses x) (flat_map accesses rest))

pub numbers_in_region : (p : Program) (r : ℕ) → flat_map (asked number_at) (region_in p r) ≡ region_sites p r
unfolding site_lists
numbers_in_region p r = numbers_in (region_in p r)
