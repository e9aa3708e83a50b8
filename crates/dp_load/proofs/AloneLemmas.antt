-- What is read where a program is read alone, or with its least plans.
use Rattle.std.proofs.Common.{◌≡◌, sym, subst, ℕ, List, [], Option, Some, None, Result, Ok, Err}
use Rattle.dp_tree.specs.declared.Program.{Program}
use Rattle.dp_calls.specs.Expand.{expand}
use Rattle.dp_plan.specs.declared.Plan.{Plan}
use Rattle.dp_words.specs.declared.task.PlanOptions.{PlanOptions}
use Rattle.dp_words.specs.Planning.{Planning}
use Rattle.dp_words.specs.Run.{Least, Source}
use Rattle.dp_words.specs.Words.{Asked}
use Rattle.dp_refusal.specs.declared.refusal.Refusal.{Refusal}
use Rattle.dp_load.specs.Alone.{ReadsLeastPlans, ReadsProgramAlone}
use Rattle.dp_load.specs.Last.{Nothing}
use Rattle.dp_load.specs.Loading.{ReadsProgram}
use Rattle.dp_load.specs.Order.{ReadsAll, WithInputs}
use Rattle.dp_load.specs.Roles.{Contents, Input, NamedProgram, NoPlans, Plans, PlansOf, ProgramOf, SomePlans, Unnamed, input_in, plans_asked, program_in}
use Rattle.dp_load.proofs.OrderLemmas.{all_read, ends_at_plans, with_inputs}

module _ (contents : Contents) (asked : Asked) where
  program_is : (name : List ℕ) (read : Result Program Refusal) → program_in asked ≡ Some name → ReadsProgram contents name read →
      ProgramOf contents (program_in asked) read
  program_is name read is h = subst (λ (o : Option (List ℕ)). ProgramOf contents o read) (sym is) (NamedProgram name h.text read h.held h.reads)

  no_input : input_in asked ≡ None → Input contents (input_in asked) (Ok [])
  no_input none = subst (λ (o : Option (List ℕ)). Input contents o (Ok [])) (sym none) Unnamed

  plans_are : (p : Program) (o : Option (Source × PlanOptions)) (read : Result (List Plan) Refusal) → plans_asked asked ≡ o → PlansOf contents p o read →
      PlansOf contents p (plans_asked asked) read
  plans_are p o read is h = subst (λ (x : Option (Source × PlanOptions)). PlansOf contents p x read) (sym is) h

  -- a program alone
  pub program_alone : (name : List ℕ) → ReadsProgramAlone asked name → (p : Program) → ReadsProgram contents name (Ok p) →
      ReadsAll contents asked (Ok ((((p, []), []), []), Nothing))
  program_alone name of p h =
      all_read contents asked p (program_is name (Ok p) of.program h) [] (no_input of.input) of.unlisted []
      (plans_are (expand p) None (Ok []) of.plans NoPlans) of.alone

  -- a program with its least plans
  module _ (planning : Planning) (of : ReadsLeastPlans asked planning) (p : Program) (h : ReadsProgram contents planning.program (Ok p)) where
    abbrev LeastOf : Result (List Plan) Refusal → Type 0
    LeastOf read = Plans contents (expand p) planning.options (Least planning.profile) read

    planned : (read : Result (List Plan) Refusal) → LeastOf read → PlansOf contents (expand p) (plans_asked asked) read
    planned read k = plans_are (expand p) (Some (Least planning.profile, planning.options)) read of.plans
        (SomePlans (Least planning.profile) planning.options read k)

    pub least_read : (plans : List Plan) → LeastOf (Ok plans) → ReadsAll contents asked (Ok ((((p, []), []), plans), Nothing))
    least_read plans k =
        all_read contents asked p (program_is planning.program (Ok p) of.program h) [] (no_input of.input) of.unlisted plans (planned (Ok plans) k) of.alone

    pub least_refused : (refusal : Refusal) → LeastOf (Err refusal) → ReadsAll contents asked (Err refusal)
    least_refused refusal k =
        ends_at_plans contents asked p (program_is planning.program (Ok p) of.program h) [] (no_input of.input) of.unlisted refusal (planned (Err refusal) k)

    -- .. before the plans
    pub least_inputs : WithInputs contents asked (Ok ((p, []), []))
    least_inputs = with_inputs contents asked p (program_is planning.program (Ok p) of.program h) [] (no_input of.input) of.unlisted
