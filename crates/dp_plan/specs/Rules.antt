-- The nine rules of a valid plan, over the written lists. Each rule names the site at which it fails, and nothing where it holds.
use Rattle.std.specs.Prelude.{ℕ, if◌then◌else◌, ◌==◌, Bool, true, false, not, ◌&&◌, ◌||◌, List, [], ◌∷◌, map, filter, Option, Some, None, nat_lt, count_by}
use Rattle.std.specs.List.{list_any}
use Rattle.dp_tree.specs.declared.Assume.{Assume}
use Rattle.dp_tree.specs.declared.Program.{Program}
use Rattle.dp_plan.specs.declared.StageKind.{StageKind}
use Rattle.dp_plan.specs.declared.StageKind.TheVariants.{Seq, Par}
use Rattle.dp_plan.specs.Written.{WrittenStage, WrittenPlan, region_sites, listed_sites, has, written_stage}
use Rattle.dp_plan.specs.Enclosing.{Enclosing, region_ifs, region_inner_whiles}

-- the lesser of a number and another, if there is one
abbrev pub lesser : ℕ → Option ℕ → Option ℕ
lesser n None = Some n
lesser n (Some m) = Some (if nat_lt m n then m else n)

-- the least of these numbers
abbrev pub least : List ℕ → Option ℕ
least [] = None
least (n ∷ rest) = lesser n (least rest)

-- the first number
abbrev pub first_in : List ℕ → ℕ
first_in [] = 0
first_in (n ∷ rest) = n

-- the region's condition is its first site
abbrev pub condition : Program → WrittenPlan → ℕ
condition p w = first_in (region_sites p w.region)

-- the condition, unless the test holds
abbrev pub condition_unless : Program → WrittenPlan → Bool → Option ℕ
condition_unless p w true = None
condition_unless p w false = Some (condition p w)

-- the site stands there more than once
abbrev pub occurs_again : List ℕ → ℕ → Bool
occurs_again sites site = nat_lt 1 (count_by (λ n. n == site) sites)

-- the kind is replicated
abbrev pub is_replicated_kind : StageKind → Bool
is_replicated_kind Par = true
is_replicated_kind Seq = false

-- Rule 1: every site of the region is listed. It names the least one that isn't.
abbrev pub not_listed : Program → WrittenPlan → Option ℕ
not_listed p w = least (filter (λ site. not (has site (listed_sites w))) (region_sites p w.region))

-- Rule 2: no site is listed twice, be it of the region or not. It names the least one that is.
abbrev pub listed_twice : WrittenPlan → Option ℕ
listed_twice w = least (filter (occurs_again (listed_sites w)) (listed_sites w))

-- Rule 3: every listed site is of the region. It names the least one that isn't.
abbrev pub foreign : Program → WrittenPlan → Option ℕ
foreign p w = least (filter (λ site. not (has site (region_sites p w.region))) (listed_sites w))

-- Rule 4: the region's condition is in stage 1. It names the condition.
abbrev pub condition_later : Program → WrittenPlan → Option ℕ
condition_later p w = condition_unless p w (written_stage w (condition p w) == 1)

-- the first line is of a sequential stage
abbrev pub begins_sequential : List WrittenStage → Bool
begins_sequential [] = true
begins_sequential (line ∷ rest) = not (is_replicated_kind line.kind)

-- Rule 5: stage 1 is sequential. It names the condition.
abbrev pub first_replicated : Program → WrittenPlan → Option ℕ
first_replicated p w = condition_unless p w (begins_sequential w.stages)

-- the later stage of the first two neighbours that are both replicated
abbrev pub second_neighbour : List WrittenStage → Option WrittenStage
second_neighbour [] = None
second_neighbour (line ∷ []) = None
second_neighbour (line ∷ next ∷ rest) =
    if is_replicated_kind line.kind && is_replicated_kind next.kind then Some next else second_neighbour (next ∷ rest)

-- the least of the line's sites
abbrev pub least_site_in : Option WrittenStage → Option ℕ
least_site_in None = None
least_site_in (Some line) = least line.sites

-- Rule 6: no two neighbouring stages are replicated. It names the least site of the later one of the first such pair.
abbrev pub neighbours_replicated : WrittenPlan → Option ℕ
neighbours_replicated w = least_site_in (second_neighbour w.stages)

-- the condition is in a later stage than a site inside its statement
abbrev pub comes_late : WrittenPlan → Enclosing → Bool
comes_late w e = list_any (λ site. nat_lt (written_stage w site) (written_stage w e.site)) e.inside

-- the condition's site
abbrev pub site_of_condition : Enclosing → ℕ
site_of_condition e = e.site

-- Rule 7: the condition of an inner `while` is in a stage not later than any site inside it. It names the least that isn't.
abbrev pub late_while : Program → WrittenPlan → Option ℕ
late_while p w = least (map site_of_condition (filter (comes_late w) (region_inner_whiles p w.region)))

-- the assumption's site
abbrev pub assumed_site : Assume → ℕ
assumed_site a = a.site.0

-- the condition comes late, and nothing is assumed of it
abbrev pub is_late_unassumed : WrittenPlan → Enclosing → Bool
is_late_unassumed w e = comes_late w e && not (has e.site (map assumed_site w.assume))

-- Rule 8: an `if` condition in a later stage than a site inside it is assumed, be it once or more. It names the least that isn't.
abbrev pub late_if : Program → WrittenPlan → Option ℕ
late_if p w = least (map site_of_condition (filter (is_late_unassumed w) (region_ifs p w.region)))

-- the site is no `if` of the region, or is assumed more than once
abbrev pub is_no_if_or_again : Program → WrittenPlan → ℕ → Bool
is_no_if_or_again p w site =
    not (has site (map site_of_condition (region_ifs p w.region))) || occurs_again (map assumed_site w.assume) site

-- Rule 9: each assumed site is an `if` of the region, and is assumed once. It names the least that isn't.
abbrev pub wrongly_assumed : Program → WrittenPlan → Option ℕ
wrongly_assumed p w = least (filter (is_no_if_or_again p w) (map assumed_site w.assume))
