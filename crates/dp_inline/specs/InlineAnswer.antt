-- What is answered for a program: that it is too large, or its expansion.
use Rattle.std.specs.Prelude.{◌≡◌, ◌≢◌, List, [], ◌∷◌, Option, Some, None, Result, Ok, Err, nat_lt, if◌then◌else◌}
use Rattle.dp_base.specs.declared.Quantity.TheVariants.{InlinedSize, RegionSites}
use Rattle.dp_base.specs.declared.limits.TheConstants.{INLINED_SIZE, REGION_SITES}
use Rattle.dp_base.specs.Counts.{reported_count}
use Rattle.dp_tree.specs.declared.Program.{Program}
use Rattle.dp_tree.specs.declared.Stmt.{Stmt}
use Rattle.dp_calls.specs.Expand.{expand}
use Rattle.dp_inline.specs.declared.fail.InlineFail.{InlineFail}
use Rattle.dp_inline.specs.declared.fail.InlineFail.TheVariants.{Limit, NoMemory}
use Rattle.dp_inline.specs.Size.{inlined_size, region_size}

-- the program's sites and expanded calls are too many
abbrev pub too_large : Program → Option InlineFail
too_large p = if nat_lt INLINED_SIZE (inlined_size p) then Some (Limit InlinedSize (reported_count (inlined_size p))) else None

-- the first of these statements that is a region of too many sites
abbrev pub first_large_region : Program → List Stmt → Option InlineFail
first_large_region p [] = None
first_large_region p (s ∷ rest) =
    if nat_lt REGION_SITES (region_size p s) then Some (Limit RegionSites (reported_count (region_size p s))) else first_large_region p rest

-- the answer, unless this cause for a refusal stands
abbrev pub unless_refused : {X : Type 0} → Option InlineFail → Result X InlineFail → Result X InlineFail
unless_refused (Some e) answer = Err e
unless_refused None answer = answer

-- the outcome is the expected one; that memory was wanting says nothing
abbrev pub GivesInlined : {X : Type 0} → Result X InlineFail → Result X InlineFail → Type 0
GivesInlined expected (Ok x) = expected ≡ Ok x
GivesInlined expected (Err e) = e ≢ NoMemory → expected ≡ Err e

-- the count of the whole program above its limit, or else that of the first region, or else the expanded program
unfoldable pub inline_answer : Program → Result Program InlineFail
inline_answer p = unless_refused (too_large p) (unless_refused (first_large_region p p.main) (Ok (expand p)))
