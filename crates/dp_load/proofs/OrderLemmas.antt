-- What the texts give that words name, in their order.
use Rattle.std.proofs.Common.{◌≡◌, sym, subst, ℕ, List, [], ℤ, Option, None, Ok, Err}
use Rattle.dp_tree.specs.declared.Program.{Program}
use Rattle.dp_calls.specs.Expand.{expand}
use Rattle.dp_plan.specs.declared.Plan.{Plan}
use Rattle.dp_words.specs.Words.{Asked}
use Rattle.dp_refusal.specs.declared.refusal.Refusal.{Refusal}
use Rattle.dp_load.specs.Last.{LastText, Last, LastOf, NoLast, Nothing}
use Rattle.dp_load.specs.Lists.{Inputs, Unlisted}
use Rattle.dp_load.specs.Order.{ReadsAll, WithInput, WithInputs, WithPlans, last_in, list_in}
use Rattle.dp_load.specs.Roles.{Contents, Input, PlansOf, ProgramOf, input_in, plans_asked, program_in}
use Rattle.dp_load.specs.Then.{Both, FirstRefused, NextRefused}

module _ (contents : Contents) (asked : Asked) where
  pub no_list : list_in asked ≡ None → Inputs contents (list_in asked) (Ok [])
  no_list none = subst (λ (o : Option (List ℕ)). Inputs contents o (Ok [])) (sym none) Unlisted

  pub nothing_behind : (p : Program) → last_in asked ≡ None → LastOf contents (expand p) (last_in asked) (Ok Nothing)
  nothing_behind p none = subst (λ (o : Option Last). LastOf contents (expand p) o (Ok Nothing)) (sym none) NoLast

  pub ends_at_program : (refusal : Refusal) → ProgramOf contents (program_in asked) (Err refusal) → ReadsAll contents asked (Err refusal)
  ends_at_program refusal h = FirstRefused refusal (FirstRefused refusal (FirstRefused refusal (FirstRefused refusal h)))

  module _ (p : Program) (h : ProgramOf contents (program_in asked) (Ok p)) where
    pub ends_at_input : (refusal : Refusal) → Input contents (input_in asked) (Err refusal) → ReadsAll contents asked (Err refusal)
    ends_at_input refusal k = FirstRefused refusal (FirstRefused refusal (FirstRefused refusal (NextRefused p refusal h k)))

    module _ (numbers : List ℤ) (k : Input contents (input_in asked) (Ok numbers)) where
      pub with_input : WithInput contents asked (Ok (p, numbers))
      with_input = Both p numbers h k

      pub ends_at_list : (refusal : Refusal) → Inputs contents (list_in asked) (Err refusal) → ReadsAll contents asked (Err refusal)
      ends_at_list refusal i = FirstRefused refusal (FirstRefused refusal (NextRefused (p, numbers) refusal with_input i))

      -- behind the inputs of a list
      module _ (listed : List (List ℤ)) (i : Inputs contents (list_in asked) (Ok listed)) where
        pub with_listed : WithInputs contents asked (Ok ((p, numbers), listed))
        with_listed = Both (p, numbers) listed with_input i

        pub listed_ends_at_plans : (refusal : Refusal) → PlansOf contents (expand p) (plans_asked asked) (Err refusal) → ReadsAll contents asked (Err refusal)
        listed_ends_at_plans refusal l = FirstRefused refusal (NextRefused ((p, numbers), listed) refusal with_listed l)

        module _ (plans : List Plan) (l : PlansOf contents (expand p) (plans_asked asked) (Ok plans)) where
          pub listed_with_plans : WithPlans contents asked (Ok (((p, numbers), listed), plans))
          listed_with_plans = Both ((p, numbers), listed) plans with_listed l

          pub listed_ends_at_last : (refusal : Refusal) → LastOf contents (expand p) (last_in asked) (Err refusal) → ReadsAll contents asked (Err refusal)
          listed_ends_at_last refusal m = NextRefused (((p, numbers), listed), plans) refusal listed_with_plans m

          pub all_listed_behind : (last : LastText) → LastOf contents (expand p) (last_in asked) (Ok last) →
              ReadsAll contents asked (Ok ((((p, numbers), listed), plans), last))
          all_listed_behind last m = Both (((p, numbers), listed), plans) last listed_with_plans m

          pub all_listed : last_in asked ≡ None → ReadsAll contents asked (Ok ((((p, numbers), listed), plans), Nothing))
          all_listed alone = all_listed_behind Nothing (nothing_behind p alone)

      -- where there is no list
      module _ (unlisted : list_in asked ≡ None) where
        pub with_inputs : WithInputs contents asked (Ok ((p, numbers), []))
        with_inputs = with_listed [] (no_list unlisted)

        pub ends_at_plans : (refusal : Refusal) → PlansOf contents (expand p) (plans_asked asked) (Err refusal) → ReadsAll contents asked (Err refusal)
        ends_at_plans refusal l = listed_ends_at_plans [] (no_list unlisted) refusal l

        module _ (plans : List Plan) (l : PlansOf contents (expand p) (plans_asked asked) (Ok plans)) where
          pub with_plans : WithPlans contents asked (Ok (((p, numbers), []), plans))
          with_plans = listed_with_plans [] (no_list unlisted) plans l

          pub ends_at_last : (refusal : Refusal) → LastOf contents (expand p) (last_in asked) (Err refusal) → ReadsAll contents asked (Err refusal)
          ends_at_last refusal m = listed_ends_at_last [] (no_list unlisted) plans l refusal m

          pub all_read_behind : (last : LastText) → LastOf contents (expand p) (last_in asked) (Ok last) →
              ReadsAll contents asked (Ok ((((p, numbers), []), plans), last))
          all_read_behind last m = all_listed_behind [] (no_list unlisted) plans l last m

          pub all_read : last_in asked ≡ None → ReadsAll contents asked (Ok ((((p, numbers), []), plans), Nothing))
          all_read alone = all_read_behind Nothing (nothing_behind p alone)
