-- Places after the forms of statements.
use Rattle.std.proofs.Common.{◌≡◌, inl, inr, subst, refl, sym, ap, ◌∙◌, ℕ, ◌+◌, ◌≤◌, List, [], ◌∷◌, ◌++◌, length, take, arith, length-append}
use Rattle.std.proofs.lemmas.List.{take-append-le, take_all as all_taken}
use Rattle.dp_tree.specs.declared.SiteKind.{SiteKind}
use Rattle.dp_tree.specs.declared.SiteKind.TheVariants as kind
use Rattle.dp_tree.specs.declared.raw.Name.{Name}
use Rattle.dp_tree.specs.declared.raw.RawExpr.{RawExpr}
use Rattle.dp_tree.specs.declared.raw.RawStmt.{RawStmt, Row_of-RawStmt, end_of-RawStmt, more_of-RawStmt}
use Rattle.dp_tree.specs.declared.raw.RawStmt.TheVariants as raw
use Rattle.dp_check.specs.declared.place.Place.{Place}
use Rattle.dp_check.specs.Names.{Named}
use Rattle.dp_check.specs.Place.{TextPart, Site, Local, IsPastNumbers, parts, parts_in, parts_all, sites_among, local_count, place_passed, sited, with_scalar}
use Rattle.dp_check.specs.Place.{with_variable, place_after, after_in, place_after_all}

-- what opens where a statement is made
unfoldable pub opened : Unit {0}
unfolding
    Rattle.dp_tree.specs.declared.raw.RawStmt.TheBlock.shape-the_row-RawStmt-0 Rattle.dp_tree.specs.declared.raw.RawStmt.TheBlock.hidden-the_row-RawStmt-0
    denote.Hole.Carrier.hidden
opened = tt

pub parts_hidden : (xs : List RawStmt) → parts_in (Rattle.dp_tree.specs.declared.raw.RawStmt.TheBlock.hidden-the_row-RawStmt-0 xs) ≡ parts_all xs
unfolding opened
parts_hidden [] = refl
parts_hidden (x ∷ xs) = ap (λ ys. parts x ++ ys) (parts_hidden xs)

pub after_hidden : (p : Place) (xs : List RawStmt) → after_in p (Rattle.dp_tree.specs.declared.raw.RawStmt.TheBlock.hidden-the_row-RawStmt-0 xs)
    ≡ place_after_all p xs
unfolding opened
after_hidden p [] = refl
after_hidden p (x ∷ xs) = after_hidden (place_after p x) xs

pub local_count-append : (a b : List TextPart) → local_count (a ++ b) ≡ local_count a + local_count b
local_count-append [] b = omega arith
local_count-append (Site line kind ∷ a) b = local_count-append a b
local_count-append (Local name ∷ a) b = let e = local_count-append a b in omega arith

pub site_count-append : (a b : List TextPart) → sites_among (a ++ b) ≡ sites_among a + sites_among b
site_count-append [] b = omega arith
site_count-append (Site line kind ∷ a) b = let e = site_count-append a b in omega arith
site_count-append (Local name ∷ a) b = site_count-append a b

-- two places with the same names and numbers
pub same_place : {n m : List Named} {v w s t : ℕ} → n ≡ m → v ≡ w → s ≡ t →
    ◌≡◌ {A = Place} (record { names = n; variable = v; site = s }) (record { names = m; variable = w; site = t })
same_place a b c = λ i. record { names = a i; variable = b i; site = c i }

pub passed-append : (p : Place) (a b : List TextPart) → place_passed p (a ++ b) ≡ place_passed (place_passed p a) b
passed-append p a b =
    let l = local_count-append a b in let s = site_count-append a b in
    same_place refl (omega arith) (omega arith)

pub passed-none : (p : Place) → place_passed p [] ≡ p
passed-none p = same_place refl (omega arith) (omega arith)

pub passed-site : (p : Place) (line : ℕ) (kind : SiteKind) (rest : List TextPart) → place_passed p (Site line kind ∷ rest) ≡ place_passed (sited p) rest
passed-site p line kind rest = same_place refl refl (omega arith)

-- the place after a statement with one site and nothing else
pub passed-alone : (p : Place) (line : ℕ) (kind : SiteKind) → place_passed p (Site line kind ∷ []) ≡ sited p
passed-alone p line kind = passed-site p line kind [] ∙ passed-none (sited p)

module _ (p : Place) where
  pub after-Declare : (line : ℕ) (name : Name) (value : RawExpr) → place_after p (raw.Declare line name value) ≡ with_scalar (sited p) name
  after-Declare line name value = refl

  pub after-Assign : (name : Name) (value : RawExpr) → place_after p (raw.Assign name value) ≡ sited p
  after-Assign name value = passed-alone p name.line kind.Assign

  pub after-Store : (name : Name) (index value : RawExpr) → place_after p (raw.Store name index value) ≡ sited p
  after-Store name index value = passed-alone p name.line kind.Assign

  pub after-Call : (name : Name) (args : List RawExpr) → place_after p (raw.Call name args) ≡ p
  after-Call name args = same_place refl (omega arith) (omega arith)

  pub after-Print : (line : ℕ) (value : RawExpr) → place_after p (raw.Print line value) ≡ sited p
  after-Print line value = passed-alone p line kind.Print

  pub after-Break : (line : ℕ) (cond : RawExpr) → place_after p (raw.Break line cond) ≡ sited p
  after-Break line cond = passed-alone p line kind.Break

  pub after-If : (line : ℕ) (cond : RawExpr) (a b : List RawStmt) → place_after p (raw.If line cond a b) ≡ place_passed
      (place_passed (sited p) (parts_all a)) (parts_all b)
  unfolding opened
  after-If line cond a b = ap (place_passed p) (λ i. Site line kind.If ∷ (parts_hidden a i ++ parts_hidden b i))
      ∙ passed-site p line kind.If (parts_all a ++ parts_all b) ∙ passed-append (sited p) (parts_all a) (parts_all b)

  pub after-While : (line : ℕ) (marked : Rattle.std.proofs.Common.Bool) (cond : RawExpr) (body : List RawStmt)
      → place_after p (raw.While line marked cond body) ≡ place_passed (sited p) (parts_all body)
  unfolding opened
  after-While line marked cond body = ap (place_passed p) (λ i. Site line kind.While ∷ parts_hidden body i) ∙ passed-site p line kind.While (parts_all body)

  pub after-For : (line : ℕ) (marked : Rattle.std.proofs.Common.Bool) (first : List RawStmt) (cond : RawExpr) (step body : List RawStmt)
      → place_after p (raw.For line marked first cond step body) ≡ place_passed p (parts_all first ++ Site line kind.While ∷ (parts_all body ++ parts_all step))
  unfolding opened
  after-For line marked first cond step body = λ i. place_passed p (parts_hidden first i ++ Site line kind.While ∷ (parts_hidden body i ++ parts_hidden step i))

pub ruleset after_forms = (after-Declare, after-Assign, after-Store, after-Call, after-Print, after-Break, after-If, after-While)

pub after_variable : (p : Place) (s : RawStmt) → (place_after p s).variable ≡ p.variable + local_count (parts s)
after_variable p (raw.Declare line name value) = refl
after_variable p _ = refl

pub after_site : (p : Place) (s : RawStmt) → (place_after p s).site ≡ p.site + sites_among (parts s)
after_site p (raw.Declare line name value) = refl
after_site p _ = refl

-- the first names stay
pub record Keeps (k : ℕ) (old new : List Named) : Type 0 where
  pub long : k ≤ length new
  pub kept : take k new ≡ take k old

pub keeps_more : (k : ℕ) (names more : List Named) → k ≤ length names → Keeps k names (names ++ more)
keeps_more k names more h = record { long = let e = length-append names more in omega arith; kept = take-append-le k names more h }

pub after_keeps : (k : ℕ) (p : Place) (s : RawStmt) → k ≤ length p.names → Keeps k p.names (place_after p s).names
after_keeps k p (raw.Declare line name value) h = keeps_more k p.names _ h
after_keeps k p _ h = record { long = h; kept = refl }

pub after_all_variable : (p : Place) (all : List RawStmt) → (place_after_all p all).variable ≡ p.variable + local_count (parts_all all)
after_all_variable p [] = omega arith
after_all_variable p (s ∷ rest) = omega (arith, after_all_variable (place_after p s) rest, after_variable p s, local_count-append (parts s) (parts_all rest))

pub after_all_site : (p : Place) (all : List RawStmt) → (place_after_all p all).site ≡ p.site + sites_among (parts_all all)
after_all_site p [] = omega arith
after_all_site p (s ∷ rest) = omega (arith, after_all_site (place_after p s) rest, after_site p s, site_count-append (parts s) (parts_all rest))

pub after_in_variable : {n : _} (p : Place) (row : Row_of-RawStmt n) → (after_in p row).variable ≡ p.variable + local_count (parts_in row)
after_in_variable p end_of-RawStmt = omega arith
after_in_variable p (more_of-RawStmt s rest) =
    omega (arith, after_in_variable (place_after p s) rest, after_variable p s, local_count-append (parts s) (parts_in rest))

pub after_in_site : {n : _} (p : Place) (row : Row_of-RawStmt n) → (after_in p row).site ≡ p.site + sites_among (parts_in row)
after_in_site p end_of-RawStmt = omega arith
after_in_site p (more_of-RawStmt s rest) = omega (arith, after_in_site (place_after p s) rest, after_site p s, site_count-append (parts s) (parts_in rest))

pub after_all_keeps : (k : ℕ) (p : Place) (all : List RawStmt) → k ≤ length p.names → Keeps k p.names (place_after_all p all).names
after_all_keeps k p [] h = record { long = h; kept = refl }
after_all_keeps k p (s ∷ rest) h =
    let now = after_keeps k p s h in let later = after_all_keeps k (place_after p s) rest now.long in
    record { long = later.long; kept = later.kept ∙ now.kept }

-- the names at a place, after statements that follow
pub names_kept : (p : Place) (all : List RawStmt) → take (length p.names) (place_after_all p all).names ≡ p.names
names_kept p all = (after_all_keeps (length p.names) p all (omega arith)).kept ∙ all_taken (length p.names) p.names (omega arith)

-- a block is left: its names are given up
pub block_left : (p : Place) (all : List RawStmt) →
    ◌≡◌ {A = Place} (record (place_after_all p all) { names = take (length p.names) (place_after_all p all).names }) (place_passed p (parts_all all))
block_left p all = same_place (names_kept p all) (after_all_variable p all) (after_all_site p all)

-- a `for` is left: its initialiser's names are given up
pub for_left : (p : Place) (first : List RawStmt) (line : ℕ) (rest : List TextPart)
    → ◌≡◌ {A = Place} (record (place_passed (sited (place_after_all p first)) rest) { names = take (length p.names) (place_after_all p first).names })
    (place_passed p (parts_all first ++ Site line kind.While ∷ rest))
for_left p first line rest =
    same_place (names_kept p first)
    (omega (arith, after_all_variable p first, local_count-append (parts_all first) (Site line kind.While ∷ rest)))
    (omega (arith, after_all_site p first, site_count-append (parts_all first) (Site line kind.While ∷ rest)))

module _ (p : Place) where
  pub pass-Declare : (line : ℕ) (name : Name) (value : RawExpr) → place_passed p (parts (raw.Declare line name value)) ≡ with_variable (sited p)
  pass-Declare line name value = refl

  pub pass-For-first : (line : ℕ) (marked : Rattle.std.proofs.Common.Bool) (first : List RawStmt) (cond : RawExpr) (step body : List RawStmt)
      → place_passed p (parts (raw.For line marked first cond step body)) ≡ place_passed (place_passed p (parts_all first))
      (Site line kind.While ∷ (parts_all body ++ parts_all step))
  pass-For-first line marked first cond step body =
      after-For p line marked first cond step body ∙ passed-append p (parts_all first) (Site line kind.While ∷ (parts_all body ++ parts_all step))

  pub pass-For-site : (line : ℕ) (marked : Rattle.std.proofs.Common.Bool) (first : List RawStmt) (cond : RawExpr) (step body : List RawStmt)
      → place_passed p (parts (raw.For line marked first cond step body)) ≡ place_passed (sited (place_passed p (parts_all first)))
      (parts_all body ++ parts_all step)
  pass-For-site line marked first cond step body =
      pass-For-first line marked first cond step body ∙ passed-site (place_passed p (parts_all first)) line kind.While (parts_all body ++ parts_all step)

  pub pass-For : (line : ℕ) (marked : Rattle.std.proofs.Common.Bool) (first : List RawStmt) (cond : RawExpr) (step body : List RawStmt)
      → place_passed p (parts (raw.For line marked first cond step body)) ≡ place_passed (place_passed (sited (place_passed p (parts_all first)))
      (parts_all body)) (parts_all step)
  pass-For line marked first cond step body =
      pass-For-site line marked first cond step body
      ∙ passed-append (sited (place_passed p (parts_all first))) (parts_all body) (parts_all step)

pub ruleset pass_forms = (pass-Declare, after-Assign, after-Store, after-Call, after-Print, after-Break, after-If, after-While)

pub passed_more : (p : Place) (s : RawStmt) (rest : List RawStmt) → place_passed p (parts_all (s ∷ rest)) ≡ place_passed
    (place_passed p (parts s)) (parts_all rest)
passed_more p s rest = passed-append p (parts s) (parts_all rest)

-- numbers only grow
pub still_past : (p : Place) (more : List TextPart) → IsPastNumbers p → IsPastNumbers (place_passed p more)
still_past p more (inl sites) = inl (omega arith)
still_past p more (inr variables) = inr (omega arith)

-- so a front of the parts that is past them shows that the whole is
pub past_by : (p q : Place) (more : List TextPart) → q ≡ place_passed p more → IsPastNumbers p → IsPastNumbers q
past_by p q more same past = subst IsPastNumbers (sym same) (still_past p more past)
