-- Each line more begins the text of a profile still.
use Rattle.std.proofs.Common.{◌≡◌, inr, ℕ, suc, ◌-◌, ◌<◌, ◌≤◌, ◌==◌, true, ◌&&◌, nat_le, nat_lt, List, [], ◌∷◌, ◌++◌, length, Some, refl, subst, rules, arith}
use Rattle.std.proofs.Common.{eqb-true}
use Rattle.dp_profile.specs.declared.RegionProfile.{RegionProfile}
use Rattle.dp_profile_text.specs.declared.line.Line.{Line}
use Rattle.dp_profile_text.specs.declared.line.Line.TheVariants as line
use Rattle.dp_profile_text.specs.declared.reader.Reader.{Reader}
use Rattle.dp_profile_text.specs.declared.reader.Phase.TheVariants as phase
use Rattle.dp_profile.specs.Observed.{nothing_shown}
use Rattle.dp_profile.specs.declared.sites.RegionSite.{RegionSite}
use Rattle.dp_profile_text.specs.steps.Reading.{begun, state, region_next, next, next_by}
use Rattle.dp_profile_text.proofs.LineComplete.{LineFits}
use Rattle.dp_profile_text.proofs.RunComplete.{within, over}
use Rattle.dp_text.proofs.Tests.{Both, both, taken}
use Rattle.dp_profile_text.proofs.RunSound.{Reads, at_start, headed, in_region, at_end, head_after, region_after, runs_after, flow_after, end_after}

start_after : (all : List (List RegionSite)) (l : Line) (s : Reader) → next all begun l ≡ Some s → Reads all s (l ∷ [])
unfolding next
start_after all line.Head s h = let is : state phase.Headed [] nothing_shown ≡ s = cc h in rw (← is) headed
start_after all (line.Region r) s h = absurd (cc h)
start_after all (line.Runs site c) s h = absurd (cc h)
start_after all (line.Flow f) s h = absurd (cc h)
start_after all line.End s h = absurd (cc h)

first_region : (all : List (List RegionSite)) (r : ℕ) (s : Reader) → next all (state phase.Headed [] nothing_shown) (line.Region r) ≡ Some s →
    Reads all s (line.Head ∷ line.Region r ∷ [])
unfolding next
first_region [] r s h =
    let t = taken (region_next [] (state phase.Headed [] nothing_shown) r) (within [] nothing_shown) s h in
    let c : Both (nat_lt 0 r) (nat_le r 0 && (0 == r - 1)) = both _ _ t.0 in let d : Both (nat_le r 0) (0 == r - 1) = both _ _ c.second in
    let some : 0 < r = let lt : nat_lt 0 r ≡ true = c.first in search rules in
    let low : r ≤ 0 = let le : nat_le r 0 ≡ true = d.first in search rules in
    absurd (omega (arith, some, low))
first_region (sites ∷ later) r s h =
    let t = taken (region_next (sites ∷ later) (state phase.Headed [] nothing_shown) r) (within [] nothing_shown) s h in
    let c : Both (nat_lt 0 r) (nat_le r (suc (length later)) && (0 == r - 1)) = both _ _ t.0 in
    let d : Both (nat_le r (suc (length later))) (0 == r - 1) = both _ _ c.second in
    let some : 0 < r = let lt : nat_lt 0 r ≡ true = c.first in search rules in
    let same : 0 ≡ r - 1 = eqb-true _ _ d.second in
    let one : 1 ≡ r = omega (arith, some, same) in
    subst (λ (q : Reader). Reads (sites ∷ later) q (line.Head ∷ line.Region r ∷ [])) t.1
    (subst (λ (n : ℕ). Reads (sites ∷ later) (within [] nothing_shown) (line.Head ∷ line.Region n ∷ [])) one
    (in_region [] later [] sites [] [] [] refl tt tt tt tt (inr refl)))

no_region : (all : List (List RegionSite)) (s : Reader) → next all (state phase.Headed [] nothing_shown) line.End ≡ Some s →
    Reads all s (line.Head ∷ line.End ∷ [])
unfolding next
no_region [] s h = let is : over [] ≡ s = cc h in rw (← is) (at_end [] tt)
no_region (sites ∷ later) s h = let same : 0 ≡ suc (length later) = eqb-true _ _ (taken _ _ s h).0 in absurd (cc same)

headed_after : (all : List (List RegionSite)) (l : Line) (s : Reader) → next all (state phase.Headed [] nothing_shown) l ≡ Some s →
    Reads all s (line.Head ∷ l ∷ [])
unfolding next
headed_after all line.Head s h = absurd (cc h)
headed_after all (line.Region r) s h = first_region all r s h
headed_after all (line.Runs site c) s h = absurd (cc h)
headed_after all (line.Flow f) s h = absurd (cc h)
headed_after all line.End s h = no_region all s h

over_after : (all : List (List RegionSite)) (done : List RegionProfile) (l : Line) (s : Reader) → next all (over done) l ≡ Some s → ⊥
unfolding next
over_after all done line.Head s h = cc h
over_after all done (line.Region r) s h = cc h
over_after all done (line.Runs site c) s h = cc h
over_after all done (line.Flow f) s h = cc h
over_after all done line.End s h = cc h

pub reads_next : (all : List (List RegionSite)) (o : Reader) (ls : List Line) (l : Line) (s : Reader) → Reads all o ls → LineFits l →
    next_by all o (Some l) ≡ Some s → Reads all s (ls ++ l ∷ [])
unfolding next_by
reads_next all _ _ l s at_start fits h = start_after all l s h
reads_next all _ _ l s headed fits h = headed_after all l s h
reads_next all _ _ line.Head s (in_region before later had left done counts flows is d c f u e) fits h =
    head_after all before later had left done counts flows is d c f u e s h
reads_next all _ _ (line.Region r) s (in_region before later had left done counts flows is d c f u e) fits h =
    region_after all before later had left done counts flows is d c f u e r s h
reads_next all _ _ (line.Runs site n) s (in_region before later had left done counts flows is d c f u e) fits h =
    runs_after all before later had left done counts flows is d c f u e site n s fits h
reads_next all _ _ (line.Flow g) s (in_region before later had left done counts flows is d c f u e) fits h =
    flow_after all before later had left done counts flows is d c f u e g s fits h
reads_next all _ _ line.End s (in_region before later had left done counts flows is d c f u e) fits h =
    end_after all before later had left done counts flows is d c f u e s h
reads_next all _ _ l s (at_end done fit) fits h = absurd (over_after all done l s h)
