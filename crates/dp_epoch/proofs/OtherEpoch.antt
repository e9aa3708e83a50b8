-- Another plan's epoch that is followed: its clean iterations are clean under the region's own plan, in an epoch that begins at each.
use Rattle.std.proofs.Common.{◌≡◌, inr, refl, sym, ap, ◌∙◌, subst, ℕ, ◌+◌, ◌<◌, ◌≤◌, true, false, List, ◌++◌, length, None, ℤ, arith}
use Rattle.std.proofs.lemmas.List.{length-map}
use Rattle.dp_base.specs.declared.RegionReport.{RegionReport}
use Rattle.dp_tree.specs.declared.Program.{Program}
use Rattle.dp_tree.specs.Step.{clear_locals}
use Rattle.dp_tree.specs.Trace.{Run}
use Rattle.dp_tree.specs.Iteration.{iteration, is_closing}
use Rattle.dp_plan.specs.declared.Plan.{Plan}
use Rattle.dp_semantics.specs.Clean.{is_clean}
use Rattle.dp_semantics.specs.Fits.{fits_plan}
use Rattle.dp_semantics.specs.Judge.{Agreed, Clean, Judgement}
use Rattle.dp_semantics.specs.Told.{with_stores}
use Rattle.dp_semantics.specs.Verdict.{done_in, effect_in}
use Rattle.dp_semantics.specs.EpochKey.{EpochKey}
use Rattle.dp_semantics.specs.EpochVerdicts.{Carried, Commit, carried, judgement_of, verdict_at, verdict_by}
use Rattle.dp_meaning.specs.declared.ends.Part.TheVariants.{Region}
use Rattle.dp_meaning.specs.MachineState.{MachineState}
use Rattle.dp_net.specs.NetVerdicts.{SaysTheSame}
use Rattle.dp_commit.specs.CommittedState.{CommittedState, CarriesNext, region_run}
use Rattle.dp_run_plan.proofs.Alike.{clean_alike}
use Rattle.dp_run_plan.specs.RunPlan.{RunsFor, hides_nothing}
use Rattle.dp_epoch.specs.declared.account.Account.{Account}
use Rattle.dp_epoch.specs.Accounts.{CountsClean, after_clean}
use Rattle.dp_epoch.specs.Applied.{Applied, steps_left}
use Rattle.dp_epoch.specs.Followed.{IsFollowed, unlisted}
use Rattle.dp_epoch.specs.InEpoch.{AtEpoch, InEpoch, ToBegin, key_here}
use Rattle.dp_epoch.specs.Prints.{prints_of, prints_to_come}
use Rattle.dp_epoch.specs.Progress.{Progress}
use Rattle.dp_epoch.proofs.EpochBegins.{begins_epoch, epoch_here}
use Rattle.dp_epoch.proofs.EpochLemmas.{epoch_goes, goes_ahead, left_here, may_commit, report_here, waits}
use Rattle.dp_epoch.proofs.Judged.{IsClean, clean_case, clean_judged}

-- how far a run under the other plan would have brought the region
other_progress : (plan other : Plan) (first : MachineState) (c : CommittedState) (account : Account) → Progress plan first c account →
    RunsFor first.program plan other → fits_plan first.program other ≡ true →
    Progress other first c (unlisted other first c.count)
other_progress plan other first c account g runs fits = record {
  start = record {
    fits = fits;
    tops = g.start.tops;
    stands = g.start.stands;
    next = g.start.next ∙ ap (λ (r : ℕ). Region r) (sym runs.region);
    between = g.start.between;
    sound = g.start.sound;
  };
  region = g.region ∙ sym runs.region;
  is_open = g.is_open;
  holds = g.holds;
  left = g.left;
  report_is = refl;
  views_are = λ asked. absurd (cc asked);
}

-- Where an epoch may begin, one of the other plan may.
pub other_begins : (p : Program) (plan other : Plan) (input : List ℤ) (first : MachineState) (c : CommittedState) (account : Account) →
    ToBegin p plan input first c account → RunsFor p plan other → fits_plan p other ≡ true →
    ToBegin p other input first c (unlisted other first c.count)
other_begins p plan other input first c account b runs fits = record {
  at_epoch = record {
    progress = other_progress plan other first c account b.at_epoch.progress (subst (λ (q : Program). RunsFor q plan other) (sym b.program_is) runs)
        (ap (λ (q : Program). fits_plan q other) b.program_is ∙ fits);
    fresh = inr (ap (λ (q : Program). hides_nothing q other) b.program_is ∙ runs.other_hides);
  };
  program_is = b.program_is;
  input_is = b.input_is;
}

-- .. whose verdicts are followed from here.
pub begin_following : (p : Program) (plan other : Plan) (input : List ℤ) (first : MachineState) (c : CommittedState) (account : Account) →
    ToBegin p plan input first c account → RunsFor p plan other → fits_plan p other ≡ true →
    IsFollowed plan (key_here p other input c) 0 first c account
begin_following p plan other input first c account b runs fits = record {
  progress = b.at_epoch.progress;
  runs = subst (λ (q : Program). RunsFor q plan other) (sym b.program_is) runs;
  other = epoch_here (key_here p other input c) 0 first c (unlisted other first c.count)
      (record { first = refl; base = refl; steps = refl; fuel = refl; none = refl }) (other_begins p plan other input first c account b runs fits);
}

-- .. and it may be left at each iteration.
pub leaves_followed : (plan : Plan) (key : EpochKey) (n : ℕ) (first : MachineState) (c : CommittedState) (account : Account) →
    IsFollowed plan key n first c account → AtEpoch plan first c account
leaves_followed plan key n first c account f = record { progress = f.progress; fresh = inr f.runs.hides }

-- what is carried says the same as this, in the memory of this region
abbrev Said : ℕ → Program → Carried → Carried → Type 0
Said r p a v =
    (v.prints ≡ a.prints) × (v.steps ≡ a.steps) × (v.closing ≡ a.closing)
    × ((cells : List ℤ) → clear_locals r p.vars (with_stores v.stores cells) ≡ clear_locals r p.vars (with_stores a.stores cells))

module _ (plan : Plan) (key : EpochKey) (n : ℕ) (first : MachineState) (c : CommittedState) (account : Account)
    (f : IsFollowed plan key n first c account) where
  abbrev run : Run
  run = region_run first

  -- the epoch of the region's own plan that begins here
  abbrev own : EpochKey
  own = key_here first.program plan first.input c

  here : InEpoch own 0 first c account
  here = begins_epoch own first c account f.progress (record { program = refl; input = refl; fuel = f.progress.holds.fuel }) (inr f.runs.hides) refl refl refl

  -- the account counts what is committed
  pub followed_report : account.report ≡ record account.report { iterations = c.count }
  followed_report = report_here own 0 first c account here

  abbrev untold : Account
  untold = unlisted key.plan first c.count

  module _ (v : Carried) (gives : SaysTheSame key (verdict_at key n) (Commit v)) (going : v.closing ≡ false) (few : v.steps ≤ plan.words) where
    told : IsClean key n first c untold f.other v
    told = clean_case key n first c untold f.other v gives

    steps_are : v.steps ≡ length (iteration run plan.region c.count)
    steps_are = told.alike.1 ∙ length-map (iteration run key.plan.region c.count) effect_in ∙ ap (λ (r : ℕ). length (iteration run r c.count)) f.runs.region

    stays : is_closing run plan.region c.count ≡ false
    stays = ap (λ (r : ℕ). is_closing run r c.count) (sym f.runs.region) ∙ sym told.alike.2 ∙ going

    -- it is clean under the region's own plan
    clean_here : is_clean first.program plan run c.count c.count ≡ true
    clean_here = clean_alike first.program plan key.plan f.runs run c.count key.first c.count told.since stays (omega (arith, few, steps_are))

    judged_so : judgement_of own 0 ≡ Clean (done_in plan run c.count)
    judged_so = clean_judged own 0 first c account here clean_here

    done_same : done_in key.plan run c.count ≡ done_in plan run c.count
    done_same = ap (λ (r : ℕ). done_in (record plan { region = r }) run c.count) f.runs.region

    alike : Said plan.region first.program (carried (done_in plan run c.count)) v
    alike =
        subst (λ (a : Agreed). Said plan.region first.program (carried a) v) done_same
        (subst (λ (r : ℕ). Said r first.program (carried (done_in key.plan run c.count)) v) f.runs.region
        (subst (λ (q : Program). Said key.plan.region q (carried (done_in key.plan run c.count)) v) f.other.key_is.program told.alike))

    -- the verdict of that epoch says the same
    own_gives : SaysTheSame own (verdict_at own 0) (Commit v)
    own_gives = subst (λ (j : Judgement). SaysTheSame own (verdict_by own 0 j) (Commit v)) (sym judged_so) alike

    pub may_follow : CarriesNext c v
    may_follow = may_commit own 0 first c account here v own_gives

    pub followed_left : 0 < steps_left c
    followed_left = left_here own 0 first c account here v own_gives

    pub followed_waits : (waiting after : List ℤ) → after ≡ waiting ++ v.prints → after ≡ waiting ++ prints_of plan first c.count
    followed_waits = waits own 0 first c account here v own_gives

    module _ (new : CommittedState) (a : Applied v c new) where
      pub followed_ahead : (waiting after : List ℤ) → after ≡ waiting ++ v.prints → prints_to_come plan first waiting c.count ≡ prints_to_come plan
          first after new.count
      followed_ahead = goes_ahead own 0 first c account here v own_gives new a

      -- the other plan's epoch goes on, in what its own run would tell
      abbrev untold_next : Account
      untold_next = after_clean new.count None untold

      other_on : InEpoch key (n + 1) first new untold_next
      other_on = epoch_goes key n first c untold f.other v gives new a untold_next (record { seen = None; heard = record {}; account = refl }) going

      pub followed_on : (more : Account) → CountsClean c new account more → IsFollowed plan key (n + 1) first new more
      followed_on more counted = record {
        progress = (epoch_goes own 0 first c account here v own_gives new a more counted going).progress;
        runs = f.runs;
        other = subst (InEpoch key (n + 1) first new) (ap (λ (r : RegionReport). record { report = r; why = false; views = None })
            other_on.progress.report_is) other_on;
      }
