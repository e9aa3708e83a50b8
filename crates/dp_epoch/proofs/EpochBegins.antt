-- An epoch begins: its own run is the rest of the machine's.
use Rattle.std.proofs.Common.{◌≡◌, ◌⊎◌, refl, sym, ap, ◌∙◌, subst, inl, inr, ℕ, ◌-◌, ◌<◌, true, false, List, [], ◌∷◌, ◌++◌, filter, cond, Some, ℤ, length}
use Rattle.std.proofs.Common.{arith}
use Rattle.std.proofs.lemmas.Bool.{cases_Bool, and_parts, both_ways}
use Rattle.std.specs.List.{list_all}
use Rattle.dp_epoch.specs.declared.account.Account.{Account}
use Rattle.dp_tree.specs.declared.Stmt.{Stmt, out-Stmt}
use Rattle.dp_tree.specs.declared.Stmt.TheOpen.{Stmt-F, Assign, Store, Print, If, While, Region, Break, Call}
use Rattle.dp_tree.specs.declared.Stmt.TheVariants as tree
use Rattle.dp_tree.specs.declared.Program.{Program}
use Rattle.dp_tree.specs.InMain.{StandsInMain}
use Rattle.dp_tree.specs.Numbering.{is_inner}
use Rattle.dp_tree.specs.Step.{Config, standing, cleared_at, clear_locals}
use Rattle.dp_tree.specs.Trace.{Run, run_of}
use Rattle.dp_tree.specs.Iteration.{start, begins_with, memory_after}
use Rattle.dp_tree.specs.GoesOn.{GoesOnAs}
use Rattle.dp_plan.specs.declared.Plan.{Plan}
use Rattle.dp_plan.specs.Access.{is_region_at, region_accesses, region_statement}
use Rattle.dp_semantics.specs.Fits.{fits_plan, one_region, cells_in_order, access_known}
use Rattle.dp_semantics.specs.Recovery.{epoch}
use Rattle.dp_semantics.specs.EpochKey.{EpochKey, epoch_run, epoch_begin, statements_from}
use Rattle.dp_semantics.specs.EpochCauses.{IsSound}
use Rattle.dp_theorem.proofs.Memory.{clear-at, clear-still}
use Rattle.dp_theorem.proofs.Placed.{standing-length}
use Rattle.dp_theorem.proofs.EpochFound.{cleared_there}
use Rattle.dp_theorem.proofs.Fitting.{accepted}
use Rattle.dp_meaning.specs.MachineState.{MachineState, fuel_left, rest_of_run}
use Rattle.dp_commit.specs.CommittedState.{CommittedState, region_run, steps_of_first}
use Rattle.dp_meaning.proofs.NextLemmas.{on_region}
use Rattle.dp_run_plan.specs.RunPlan.{hides_nothing}
use Rattle.dp_epoch.specs.InEpoch.{AtEpoch, BeginsAt, InEpoch, IsKeyOf, ToBegin, key_here}
use Rattle.dp_epoch.specs.Progress.{Progress}
use Rattle.dp_epoch.proofs.Here.{at_head, goes_here, at_once, memory_is, stands_there}
use Rattle.dp_tree.proofs.Heads.{standing_to_do}

-- no statement of a body is a region
inner_no_region : (r : ℕ) (x : Stmt) → is_inner x ≡ true → is_region_at r x ≡ false
unfolding out-Stmt denote.Hole.Carrier.out
inner_no_region r (tree.Assign site v e) w = refl
inner_no_region r (tree.Store site v index e) w = refl
inner_no_region r (tree.Print site e) w = refl
inner_no_region r (tree.If' site cond l a m b) w = refl
inner_no_region r (tree.While' site cond l a) w = refl
inner_no_region r (tree.Region' q site cond l a) w = absurd (cc)
inner_no_region r (tree.Break site cond) w = refl
inner_no_region r (tree.Call f line args) w = refl

-- where a region is the first of these, nothing of a body stands before it
none_before : (r : ℕ) (inner rest : List Stmt) → list_all is_inner inner ≡ true → begins_with r (inner ++ rest) ≡ true → inner ≡ []
none_before r [] rest h e = refl
none_before r (x ∷ inner) rest h e =
    let both = and_parts (is_inner x) (list_all is_inner inner) h in absurd (both_ways (is_region_at r x) (inner_no_region r x both.0) e)

-- only one statement passes
no_other : (r : ℕ) (a b : List Stmt) (s : Stmt) → is_region_at r s ≡ true → length (filter (is_region_at r) (a ++ s ∷ b)) ≡ 1 →
    statements_from r (a ++ s ∷ b) ≡ s ∷ b
no_other r [] b s t one = rw t refl
no_other r (x ∷ a) b s t one = elim (cases_Bool (is_region_at r x)) [
  | inl u ↦ absurd (let two : length (x ∷ filter (is_region_at r) (a ++ s ∷ b)) ≡ 1 = rw u at one in let some = there a in omega (arith, two, some))
  | inr u ↦ rw u (no_other r a b s t (rw u at one))
]
  where
    there : (xs : List Stmt) → 0 < length (filter (is_region_at r) (xs ++ s ∷ b))
    there [] = rw t (omega arith)
    there (y ∷ xs) = elim (cases_Bool (is_region_at r y)) [ inl u ↦ rw u (omega arith) | inr u ↦ rw u (there xs) ]

is_one : (p : Program) (plan : Plan) (xs : List Stmt) → one_region p plan xs ≡ true → length xs ≡ 1
is_one p plan [] e = absurd (cc)
is_one p plan (s ∷ []) e = refl
is_one p plan (s ∷ t ∷ rest) e = absurd (cc)

-- the plan's region stands once in `main`
stands_once : (p : Program) (plan : Plan) → fits_plan p plan ≡ true → length (filter (is_region_at plan.region) p.main) ≡ 1
stands_once p plan e =
    let one = and_parts (cells_in_order plan.region 0 p.vars) _ e in
    let two = and_parts (list_all (access_known p plan) (region_accesses p plan)) _ one.1 in
    let three = and_parts (one_region p plan (region_statement p plan)) _ two.1 in
    is_one p plan (region_statement p plan) three.0

-- the body locals read 0 already
cleared_twice : (p : Program) (r : ℕ) (x : Stmt-F Stmt) (cells : List ℤ) → cleared_at p x (cleared_at p x cells) ≡ cleared_at p x cells
cleared_twice p r (Region q site cond body) cells = clear-still q p.vars (clear_locals q p.vars cells) (λ c local. clear-at q c p.vars cells (inl local))
cleared_twice p r (Assign site v e) cells = refl
cleared_twice p r (Store site v index e) cells = refl
cleared_twice p r (Print site e) cells = refl
cleared_twice p r (If site cond a b) cells = refl
cleared_twice p r (While site cond a) cells = refl
cleared_twice p r (Break site cond) cells = refl
cleared_twice p r (Call f line args) cells = refl

standing_again : (p : Program) (xs : List Stmt) (cells : List ℤ) → standing p xs (standing p xs cells).cells ≡ standing p xs cells
standing_again p [] cells = refl
standing_again p (s ∷ rest) cells = ap (λ (held : List ℤ). record { to_do = s ∷ rest; cells = held }) (cleared_twice p 0 (out-Stmt s) cells)

split : (p : Program) (r : ℕ) (before behind : List Stmt) → length (filter (is_region_at r) (before ++ behind)) ≡ 1 → begins_with r behind ≡ true →
    statements_from r (before ++ behind) ≡ behind
split p r before [] one e = absurd (cc)
split p r before (s ∷ rest) one e = no_other r before rest s e one

-- Where the region's condition comes next, the configuration is that of an epoch that begins there.
begins_there : (p : Program) (plan : Plan) (c : Config) → fits_plan p plan ≡ true → StandsInMain p c → begins_with plan.region c.to_do ≡ true →
    standing p (statements_from plan.region p.main) c.cells ≡ c
begins_there p plan c fits s on =
    let listed : c.to_do ≡ s.inner ++ s.behind = ap (λ (d : Config). d.to_do) s.config_is ∙ standing_to_do p (s.inner ++ s.behind) s.cells in
    let none : s.inner ≡ [] = none_before plan.region s.inner s.behind s.plain (ap (begins_with plan.region) (sym listed) ∙ on) in
    let here : c ≡ standing p s.behind s.cells = s.config_is ∙ ap (λ (xs : List Stmt). standing p (xs ++ s.behind) s.cells) none in
    let head : begins_with plan.region s.behind ≡ true = ap (λ (xs : List Stmt). begins_with plan.region (xs ++ s.behind)) (sym none)
    ∙ ap (begins_with plan.region) (sym listed) ∙ on in
    let one : length (filter (is_region_at plan.region) (s.before ++ s.behind)) ≡ 1 = ap (λ (xs : List Stmt). length (filter (is_region_at plan.region) xs))
    (sym s.main_is) ∙ stands_once p plan fits in
    let from : statements_from plan.region p.main ≡ s.behind = ap (statements_from plan.region) s.main_is ∙ split p plan.region s.before s.behind one head in
    ap (λ (xs : List Stmt). standing p xs c.cells) from ∙ ap (λ (d : Config). standing p s.behind d.cells) here ∙ standing_again p s.behind s.cells ∙ sym here

-- the verdicts of an epoch that begins here
pub begins_epoch : (key : EpochKey) (first : MachineState) (c : CommittedState) (account : Account) → Progress key.plan first c account → IsKeyOf key first →
    (epoch first.program key.plan (region_run first) c.count ≡ c.count) ⊎ (hides_nothing first.program key.plan ≡ true) →
    key.first ≡ c.count → key.base ≡ c.machine.config.cells → key.steps ≡ c.machine.steps → InEpoch key 0 first c account
begins_epoch key first c account g k e from base steps =
    let config : epoch_begin key ≡ c.machine.config =
    ap (λ (p : Program). standing p (statements_from key.plan.region p.main) key.base) k.program
    ∙ ap (standing first.program (statements_from key.plan.region first.program.main)) base
    ∙ begins_there first.program key.plan c.machine.config g.start.fits (stands_there key.plan first g.start c g.holds)
    (on_region key.plan.region c.machine.config (at_head key.plan first c account g)) in
    let left : key.fuel - key.steps ≡ fuel_left c.machine = omega (arith, k.fuel, steps, g.holds.fuel) in
    let same : rest_of_run c.machine ≡ epoch_run key =
    sym (ap (λ (p : Program). run_of p key.input (key.fuel - key.steps) (epoch_begin key)) (k.program ∙ sym g.holds.program)
    ∙ ap (λ (input : List ℤ). run_of c.machine.program input (key.fuel - key.steps) (epoch_begin key)) (k.input ∙ sym g.holds.input)
    ∙ ap (λ (n : ℕ). run_of c.machine.program c.machine.input n (epoch_begin key)) left
    ∙ ap (run_of c.machine.program c.machine.input (fuel_left c.machine)) config) in
    record {
      progress = g;
      key_is = k;
      base = base ∙ memory_is key.plan first c account g ∙ ap (memory_after (region_run first) key.plan.region) (sym from);
      own = subst (λ (m : ℕ). GoesOnAs key.plan.region m (steps_of_first (region_run first) key.plan.region m) (region_run first) (epoch_run key)) (sym from)
          (subst (λ (rest : Run). GoesOnAs key.plan.region c.count (steps_of_first (region_run first) key.plan.region c.count) (region_run first) rest) same
          (goes_here key.plan first c account g));
      at_once = subst (λ (rest : Run). start rest key.plan.region 0 ≡ Some 0) same (at_once key.plan first c account g);
      place = omega (arith, from);
      since = λ j low high. absurd (omega (arith, low, high, from));
      begun = begun_there e;
      state = ap (λ (cells : List ℤ). record { cells = cells; steps = key.steps }) base
          ∙ ap (λ (n : ℕ). record { cells = c.machine.config.cells; steps = n }) steps;
      gone = λ j h. absurd (omega (arith, h));
    }
  where
    begun_there : (epoch first.program key.plan (region_run first) c.count ≡ c.count) ⊎ (hides_nothing first.program key.plan ≡ true) →
        (epoch first.program key.plan (region_run first) c.count ≡ key.first) ⊎ (hides_nothing first.program key.plan ≡ true)
    begun_there (inl same) = inl (same ∙ sym from)
    begun_there (inr hides) = inr hides

-- An epoch may be left where it makes no difference where an epoch begins.
pub leaves_epoch : (key : EpochKey) (n : ℕ) (first : MachineState) (c : CommittedState) (account : Account) → InEpoch key n first c account →
    hides_nothing first.program key.plan ≡ true → AtEpoch key.plan first c account
leaves_epoch key n first c account e hides = record { progress = e.progress; fresh = inr hides }

-- The epoch that begins here, with a key of what is committed. No verdict was given.
pub epoch_here : (key : EpochKey) (given : ℕ) (first : MachineState) (c : CommittedState) (account : Account) → BeginsAt key given c →
    ToBegin key.program key.plan key.input first c account → InEpoch key given first c account
epoch_here key given first c account k b =
    subst (λ (n : ℕ). InEpoch key n first c account) (sym k.none)
    (begins_epoch key first c account b.at_epoch.progress
    (record { program = sym b.program_is; input = sym b.input_is; fuel = k.fuel ∙ b.at_epoch.progress.holds.fuel }) b.at_epoch.fresh k.first k.base k.steps)

-- .. in a memory as the program has it
pub sound_here : (p : Program) (plan : Plan) (input : List ℤ) (first : MachineState) (c : CommittedState) (account : Account) →
    ToBegin p plan input first c account → IsSound (key_here p plan input c)
sound_here p plan input first c account b =
    let g = b.at_epoch.progress in
    let s = stands_there plan first g.start c g.holds in
    let there = begins_there first.program plan c.machine.config g.start.fits s (on_region plan.region c.machine.config (at_head plan first c account g)) in
    let sound : IsSound (key_here first.program plan input c) = record {
      size = ap (λ (d : Config). length d.cells) s.config_is ∙ standing-length first.program (s.inner ++ s.behind) s.cells ∙ s.cells_are;
      cleared = cleared_there (accepted first.program plan g.start.fits) c.machine.config.cells (ap (λ (d : Config). d.cells) there);
    } in
    subst (λ (q : Program). IsSound (key_here q plan input c)) b.program_is sound
