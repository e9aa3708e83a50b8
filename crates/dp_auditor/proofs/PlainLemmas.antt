-- A plain part, call by call: no region is reached in it.
use Rattle.std.proofs.Common.{◌≡◌, sym, ap, ◌∙◌, ℕ, false, List, [], ◌∷◌, ℤ, Option, Some, None}
use Rattle.std.proofs.lemmas.List.Elements.{All-weaker}
use Rattle.dp_base.specs.declared.Fault.{Fault as FaultAt}
use Rattle.dp_base.specs.declared.End.{End}
use Rattle.dp_base.specs.declared.End.TheVariants as how
use Rattle.dp_tree.specs.declared.Program.{Program}
use Rattle.dp_tree.specs.Step.{Config}
use Rattle.dp_tree.specs.Trace.{Run, ended}
use Rattle.dp_tree.specs.Iteration.{begun_count, stands_at_head}
use Rattle.dp_plan.specs.declared.Plan.{Plan}
use Rattle.dp_plan.specs.Each.{Each}
use Rattle.dp_meaning.specs.declared.ends.Part.TheVariants.{Plain}
use Rattle.dp_meaning.specs.declared.ends.PartEnd.{PartEnd}
use Rattle.dp_meaning.specs.declared.ends.PartEnd.TheVariants.{Done, Fault, Fuel, Going}
use Rattle.dp_meaning.specs.MachineState.{MachineState, fuel_left, next_part, part_at, part_of, rest_of_run}
use Rattle.dp_meaning.specs.PartRun.{PartRun}
use Rattle.dp_meaning.proofs.NextLemmas.{head_is, part_is}
use Rattle.dp_log.specs.LogText.{logged_regions}
use Rattle.dp_auditor.specs.Regions.{PlainLeads, SameRun, Standing}
use Rattle.dp_auditor.proofs.HeadLemmas.{stands_there}
use Rattle.dp_auditor.proofs.OrderLemmas.{left_from_region}
use Rattle.dp_auditor.proofs.TextLemmas.{IsPassed, all_silent, over_silent, plans_text}

pub each_so : {X : Type 0} (P : X → Type 0) → ((x : X) → P x) → (xs : List X) → Each P xs
each_so P h [] = tt
each_so P h (x ∷ xs) = (h x, each_so P h xs)

off_plain : (q : ℕ) (c : Config) → part_of c.to_do ≡ Plain → stands_at_head q c ≡ false
off_plain q c e = head_is q c.to_do ∙ ap (part_is q) e

pub same_run : (a b c : MachineState) → SameRun a b → SameRun b c → SameRun a c
same_run a b c h k = record { program_is = k.program_is ∙ h.program_is; input_is = k.input_is ∙ h.input_is; fuel_is = k.fuel_is ∙ h.fuel_is }

-- The machine stands between parts as before, with the same lines to come.
pub record Leads (p : Program) (plans : List Plan) (old new : MachineState) : Type 0 where
  pub standing : Standing p plans new
  pub text : logged_regions p plans (rest_of_run old) ≡ logged_regions p plans (rest_of_run new)

-- The part has begun and isn't over.
pub record PartSoFar (old now : MachineState) : Type 0 where
  pub plain : next_part now ≡ Plain
  pub same : SameRun old now
  pub end : (rest_of_run old).end ≡ (rest_of_run now).end
  pub leads : (p : Program) (plans : List Plan) → Standing p plans old → Leads p plans old now

module _ (turns : ℕ) (old mid new : MachineState) (before after : List ℤ) (h : PartSoFar old mid) where
  module _ (end : PartEnd) (call : PartRun turns mid new before after end) where
    same_call : SameRun mid new
    same_call = record { program_is = call.went.moved.program; input_is = call.went.moved.input; fuel_is = call.went.moved.fuel }

    passed : (plan : Plan) → IsPassed call.went.configs plan
    passed plan = All-weaker (λ c. part_of c.to_do ≡ Plain) (λ c. stands_at_head plan.region c ≡ false) (off_plain plan.region)
        call.went.configs call.went.plain

    leads_on : (p : Program) (plans : List Plan) → Standing p plans old → Leads p plans old new
    leads_on p plans s =
        let l = h.leads p plans s in
        let m = l.standing in
        record {
          standing = record {
            inlined = m.inlined;
            program_is = call.went.moved.program ∙ m.program_is;
            stands = stands_there mid new same_call call.went.events call.went.configs call.went.moved.run p m.inlined m.program_is m.stands;
            left = sym (left_from_region new.config.to_do) ∙ ap Rattle.dp_auditor.specs.Regions.regions_left call.went.behind
                ∙ left_from_region mid.config.to_do ∙ m.left;
            between = call.went.current ∙ m.between;
          };
          text = l.text ∙ plans_text p mid new same_call call.went.events call.went.configs call.went.moved.run plans
              (each_so (IsPassed call.went.configs) passed plans);
        }

    part_at_head : (p : Program) (plans : List Plan) → Standing p plans old → next_part new ≡ Plain → part_of new.config.to_do ≡ Plain
    part_at_head p plans s e = ap (λ (o : Option ℕ). part_at o new.config.to_do) (sym (leads_on p plans s).standing.between) ∙ e

    -- the run is over in the part
    over : (n : ℕ) (why : End) → rest_of_run new ≡ ended n new.config why → next_part new ≡ Plain → (p : Program) (plans : List Plan) → Standing p plans old →
        PlainLeads p plans old new (Some why)
    over n why e plain p plans s =
        let none : (plan : Plan) → begun_count (rest_of_run new) plan.region ≡ 0 =
        λ plan. ap (λ (run : Run). begun_count run plan.region) e
        ∙ over_silent n new.config why plan.region (off_plain plan.region new.config (part_at_head p plans s plain)) in (
          (leads_on p plans s).text ∙ all_silent p plans (rest_of_run new) (each_so (λ plan. begun_count (rest_of_run new) plan.region ≡ 0) none
              plans),
          h.end ∙ call.went.moved.run.end ∙ ap (λ (run : Run). run.end) e,
        )

  pub part_going : PartRun turns mid new before after Going → PartSoFar old new
  part_going call = record {
    plain = call.stops.0;
    same = same_run old mid new h.same (same_call Going call);
    end = h.end ∙ call.went.moved.run.end;
    leads = leads_on Going call;
  }

  pub part_done : PartRun turns mid new before after Done → (p : Program) (plans : List Plan) → Standing p plans old → PlainLeads p plans old new None
  part_done call p plans s = let l = leads_on Done call p plans s in
      (l.standing, same_run old mid new h.same (same_call Done call), call.stops.part, l.text, h.end ∙ call.went.moved.run.end)

  pub part_faults : (fault : FaultAt) → PartRun turns mid new before after (Fault fault) → (p : Program) (plans : List Plan) → Standing p plans old →
      PlainLeads p plans old new (Some (how.Fault fault))
  part_faults fault call p plans s = over (Fault fault) call (fuel_left new) (how.Fault fault) call.stops.2.ends call.stops.0 p plans s

  pub part_spent : PartRun turns mid new before after Fuel → (p : Program) (plans : List Plan) → Standing p plans old →
      PlainLeads p plans old new (Some how.Fuel)
  part_spent call p plans s = over Fuel call 0 how.Fuel call.stops.1.ends call.stops.0 p plans s
