-- What a piece of the text declares, and the place after it.
use Rattle.std.specs.Prelude.{ℕ, suc, ◌+◌, ◌^◌, ◌≤◌, ◌⊎◌, List, [], ◌∷◌, ◌++◌}
use Rattle.dp_tree.specs.declared.raw.Name.{Name}
use Rattle.dp_tree.specs.declared.raw.RawStmt.{RawStmt, Row_of-RawStmt, end_of-RawStmt, more_of-RawStmt}
use Rattle.dp_tree.specs.declared.raw.RawStmt.TheVariants.{Declare, Assign, Store, Call, Print, If', While', For', Break}
use Rattle.dp_tree.specs.declared.SiteKind.{SiteKind}
use Rattle.dp_tree.specs.declared.SiteKind.TheVariants as kind
use Rattle.dp_check.specs.declared.names.Meaning.{Meaning}
use Rattle.dp_check.specs.declared.names.Meaning.TheVariants.{Scalar}
use Rattle.dp_check.specs.declared.place.Place.{Place}

-- what a program gets from a piece of its text: a site or a local variable
pub data TextPart : Type 0 where
  Site : (line : ℕ) (kind : SiteKind) → TextPart
  Local : Name → TextPart

abbrev mutual
  -- the parts of a statement in text order, but for a `for`: its step comes behind its body
  pub parts : RawStmt → List TextPart
  parts (Declare line name value) = Site line kind.Assign ∷ Local name ∷ []
  parts (Assign name value) = Site name.line kind.Assign ∷ []
  parts (Store name index value) = Site name.line kind.Assign ∷ []
  parts (Call name args) = []
  parts (Print line value) = Site line kind.Print ∷ []
  parts (If' line cond _ then_part _ else_part) = Site line kind.If ∷ (parts_in then_part ++ parts_in else_part)
  parts (While' line marked cond _ body) = Site line kind.While ∷ parts_in body
  parts (For' line marked _ first cond _ step _ body) = parts_in first ++ (Site line kind.While ∷ (parts_in body ++ parts_in step))
  parts (Break line cond) = Site line kind.Break ∷ []

  -- the same of the statements of a block
  pub parts_in : {n : _} → Row_of-RawStmt n → List TextPart
  parts_in end_of-RawStmt = []
  parts_in (more_of-RawStmt s rest) = parts s ++ parts_in rest

-- the same of a list
abbrev pub parts_all : List RawStmt → List TextPart
parts_all [] = []
parts_all (s ∷ rest) = parts s ++ parts_all rest

-- how many sites there are among the parts
abbrev pub sites_among : List TextPart → ℕ
sites_among [] = 0
sites_among (Site line kind ∷ rest) = suc (sites_among rest)
sites_among (Local name ∷ rest) = sites_among rest

-- how many local variables are declared there
abbrev pub local_count : List TextPart → ℕ
local_count [] = 0
local_count (Site line kind ∷ rest) = local_count rest
local_count (Local name ∷ rest) = suc (local_count rest)

-- the place after a block: its numbers are used, and its names are given up
abbrev pub place_passed : Place → List TextPart → Place
place_passed p done = record p { variable = p.variable + local_count done; site = p.site + sites_among done }

-- a number that comes next has more than 32 bits
abbrev pub IsPastNumbers : Place → Type 0
IsPastNumbers p = (2 ^ 32 ≤ p.site) ⊎ (2 ^ 32 ≤ p.variable)

-- the place after a condition's site
abbrev pub sited : Place → Place
sited p = record p { site = p.site + 1 }

-- the place after a variable's number
abbrev pub with_variable : Place → Place
with_variable p = record p { variable = p.variable + 1 }

-- one more name is visible
abbrev pub with_name : Place → Name → Meaning → Place
with_name p name meaning = record p { names = p.names ++ record { name = name.text; meaning = meaning } ∷ [] }

-- the place after the declaration of a scalar with the next number
abbrev pub with_scalar : Place → Name → Place
with_scalar p name = record (with_name p name (Scalar (record { 0 = p.variable }))) { variable = p.variable + 1 }

-- the place after a statement: a name is visible from the end of its declaration on
abbrev pub place_after : Place → RawStmt → Place
place_after p (Declare line name value) = with_scalar (sited p) name
place_after p s = place_passed p (parts s)

-- the place after the statements of a block, before its end
abbrev pub after_in : {n : _} → Place → Row_of-RawStmt n → Place
after_in p end_of-RawStmt = p
after_in p (more_of-RawStmt s rest) = after_in (place_after p s) rest

-- the place after statements
abbrev pub place_after_all : Place → List RawStmt → Place
place_after_all p [] = p
place_after_all p (s ∷ rest) = place_after_all (place_after p s) rest

-- the place after a function's parameters
abbrev pub after_params : Place → List Name → Place
after_params p [] = p
after_params p (x ∷ rest) = after_params (with_scalar p x) rest
