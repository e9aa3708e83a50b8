-- What the stages see where the next iteration begins, and the cause of one that is executed again.
use Rattle.std.proofs.Common.{◌≡◌, ◌⊎◌, inl, inr, refl, sym, ap, ◌∙◌, subst, ℕ, suc, Bool, true, false, ◌&&◌, if◌then◌else◌, is_none, is_some, List, Option}
use Rattle.std.proofs.Common.{Some, None}
use Rattle.std.proofs.lemmas.Bool.{not-true}
use Rattle.std.specs.Option.{option_map}
use Rattle.dp_base.specs.declared.Cause.{Cause}
use Rattle.dp_base.specs.declared.End.{End}
use Rattle.dp_tree.specs.declared.Program.{Program}
use Rattle.dp_tree.specs.Step.{Event}
use Rattle.dp_tree.specs.Trace.{Run}
use Rattle.dp_tree.specs.Iteration.{has_ended, is_closing, iteration}
use Rattle.dp_plan.specs.declared.Plan.{Plan}
use Rattle.dp_semantics.specs.Clean.{is_clean}
use Rattle.dp_semantics.specs.Recovery.{epoch, is_recovered}
use Rattle.dp_theorem.proofs.Fitting.{accepted}
use Rattle.dp_meaning.specs.MachineState.{MachineState, fuel_left}
use Rattle.dp_commit.specs.CommittedState.{CommittedState, region_run, steps_of_first}
use Rattle.dp_view.specs.Following.{KeptBefore, TellsClean, found_or_end}
use Rattle.dp_view.specs.Heard.{LoadsFrom}
use Rattle.dp_view.specs.Viewed.{Viewed, after_all, anew, next_in_epoch, settled}
use Rattle.dp_view.proofs.FollowLemmas.{views_tell}
use Rattle.dp_view.proofs.LoadLemmas.{views_follow}
use Rattle.dp_epoch.specs.declared.account.Account.{Account}
use Rattle.dp_epoch.specs.Accounts.{HearsOn, seen_clean}
use Rattle.dp_epoch.specs.Progress.{Progress, cause_of}
use Rattle.dp_epoch.proofs.Here.{starts_here}

-- Where nothing is kept of what the stages see, there is nothing to hear, and nothing to go on with.
pub none_heard : (old new : MachineState) (views : Option Viewed) → is_some views ≡ false → HearsOn old new views views
none_heard old new None e = tt
none_heard old new (Some v) e = absurd (cc)

pub none_seen : (views : Option Viewed) → is_some views ≡ false → views ≡ option_map seen_clean views
none_seen None e = refl
none_seen (Some v) e = absurd (cc)

is_some_found : (o : Option Cause) (a b : End) → is_none o ≡ false → found_or_end o a ≡ found_or_end o b
is_some_found (Some cause) a b e = refl
is_some_found None a b e = absurd (cc)

module _ (plan : Plan) (first : MachineState) (c : CommittedState) (account : Account) (g : Progress plan first c account) (v : Viewed)
    (kept : KeptBefore first.program plan (region_run first) (epoch first.program plan (region_run first) c.count) c.count v) where
  abbrev run : Run
  run = region_run first

  abbrev p : Program
  p = first.program

  abbrev i : ℕ
  i = c.count

  abbrev e : ℕ
  e = epoch first.program plan (region_run first) c.count

  abbrev events : List Event
  events = iteration (region_run first) plan.region c.count

  told : TellsClean first.program plan (region_run first) (epoch first.program plan (region_run first) c.count) c.count
      (after_all (iteration (region_run first) plan.region c.count) v)
  told = views_tell (accepted first.program plan g.start.fits) first.input (fuel_left first) first.config g.start.stands e i
      (steps_of_first (region_run first) plan.region c.count) (starts_here plan first c account g) v kept

  pub loads : LoadsFrom v.source (iteration (region_run first) plan.region c.count)
  loads = views_follow (accepted first.program plan g.start.fits) first.input (fuel_left first) first.config g.start.stands e i
      (steps_of_first (region_run first) plan.region c.count) (starts_here plan first c account g) v kept

  found_as : (b : Bool) → has_ended run plan.region i ≡ true → is_clean p plan run e i ≡ b → is_none (after_all events v).found ≡ b
  found_as b ended clean = sym (ap (λ (t : Bool). t && is_none (after_all events v).found) ended) ∙ sym told.clean ∙ clean

  -- Behind a clean iteration they go on in the same epoch.
  pub seen_next : is_clean first.program plan (region_run first) (epoch first.program plan (region_run first) c.count) c.count ≡ true →
      has_ended (region_run first) plan.region c.count ≡ true → is_closing (region_run first) plan.region c.count ≡ false →
      (w : Viewed) → w ≡ after_all (iteration (region_run first) plan.region c.count) v →
      KeptBefore first.program plan (region_run first) (epoch first.program plan (region_run first) (suc c.count)) (suc c.count) (seen_clean w)
  seen_next clean ended going w is =
      let none : is_none (after_all events v).found ≡ true = found_as true ended clean in
      let next : KeptBefore p plan run e (suc i) (next_in_epoch (settled (after_all events v))) =
      subst (λ (b : Bool). KeptBefore p plan run (if b then e else suc i) (suc i) (if b then next_in_epoch (settled (after_all events v))
      else anew (settled (after_all events v)))) none (told.next ended going) in
      let same : epoch p plan run (suc i) ≡ e = ap (λ (b : Bool). if b then e else suc i) clean in
      subst (λ (d : ℕ). KeptBefore p plan run d (suc i) (seen_clean w)) (sym same)
      (subst (λ (x : Viewed). KeptBefore p plan run e (suc i) (seen_clean x)) (sym is) next)

  -- Behind one that is executed again they see what the source has.
  module _ (again : is_recovered first.program plan (region_run first) c.count ≡ true) (w : Viewed)
      (is : w ≡ after_all (iteration (region_run first) plan.region c.count) v) where
    unclean : is_clean p plan run e i ≡ false
    unclean = not-true (is_clean p plan run e i) again

    pub seen_anew : has_ended (region_run first) plan.region c.count ≡ true → is_closing (region_run first) plan.region c.count ≡ false →
        KeptBefore first.program plan (region_run first) (epoch first.program plan (region_run first) (suc c.count)) (suc c.count) (anew (settled w))
    seen_anew ended going =
        let some : is_none (after_all events v).found ≡ false = found_as false ended unclean in
        let next : KeptBefore p plan run (suc i) (suc i) (anew (settled (after_all events v))) =
        subst (λ (b : Bool). KeptBefore p plan run (if b then e else suc i) (suc i) (if b then next_in_epoch (settled (after_all events v))
        else anew (settled (after_all events v)))) some (told.next ended going) in
        let same : epoch p plan run (suc i) ≡ suc i = ap (λ (b : Bool). if b then e else suc i) unclean in
        subst (λ (d : ℕ). KeptBefore p plan run d (suc i) (anew (settled w))) (sym same)
        (subst (λ (x : Viewed). KeptBefore p plan run (suc i) (suc i) (anew (settled x))) (sym is) next)

    -- The cause is told by what is found, or by how the run ends.
    pub cause_found : (end : End) → (has_ended (region_run first) plan.region c.count ≡ true) ⊎ ((region_run first).end ≡ end) →
        found_or_end w.found end ≡ cause_of plan first c.count
    cause_found end (inl ended) =
        ap (λ (x : Viewed). found_or_end x.found end) is ∙ is_some_found (after_all events v).found end run.end (found_as false ended unclean) ∙ told.cause
    cause_found end (inr same) = ap (λ (x : Viewed). found_or_end x.found end) is ∙ ap (found_or_end (after_all events v).found) (sym same) ∙ told.cause
