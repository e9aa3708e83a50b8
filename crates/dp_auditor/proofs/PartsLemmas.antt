-- The lines of all regions, one after the other.
use Rattle.std.proofs.Common.{◌≡◌, ◌≢◌, sym, ap, ◌∙◌, subst, arith, ne_eqb, ℕ, zero, suc, ◌<◌, inl, inr, false, List, [], ◌∷◌, ◌++◌, append_assoc, append-nil}
use Rattle.std.proofs.Common.{drop, map, All, Option, Some, None}
use Rattle.std.proofs.lemmas.List.Elements.{All-weaker}
use Rattle.dp_base.specs.declared.End.{End}
use Rattle.dp_base.specs.declared.End.TheVariants.{Done}
use Rattle.dp_tree.specs.declared.Program.{Program}
use Rattle.dp_tree.specs.Step.{Config}
use Rattle.dp_tree.specs.Trace.{Run}
use Rattle.dp_tree.specs.Iteration.{begun_count, stands_at_head}
use Rattle.dp_plan.specs.declared.Plan.{Plan}
use Rattle.dp_plan.specs.Each.{Each}
use Rattle.dp_plan.specs.GivenPlans.{region_of}
use Rattle.dp_meaning.specs.declared.ends.Part.TheVariants as part
use Rattle.dp_meaning.specs.MachineState.{MachineState, next_part, part_at, part_of, rest_of_run}
use Rattle.dp_meaning.proofs.NextLemmas.{head_is, part_is}
use Rattle.dp_meaning.proofs.WatchedLemmas.{nothing_left}
use Rattle.dp_log.specs.LogText.{region_bytes, logged_regions}
use Rattle.dp_auditor.specs.Comparing.{Compared, Fails, PassesPiece}
use Rattle.dp_auditor.specs.Regions.{Ascending, IsAbove, PlainLeads, SameRun, Standing, regions_left}
use Rattle.dp_auditor.specs.Walking.{AllCompared, IsInside, LeavesRegion, OnlyBegins, RegionCompared}
use Rattle.dp_auditor.specs.declared.iterations.After.TheVariants as after
use Rattle.dp_auditor.specs.declared.parts.Walked.TheVariants as walked
use Rattle.dp_auditor.proofs.OrderLemmas.{head_next, left_at, none_next}
use Rattle.dp_auditor.proofs.PieceLemmas.{fails_behind, passes_join}
use Rattle.dp_auditor.proofs.PlainLemmas.{same_run}
use Rattle.dp_auditor.proofs.TextLemmas.{IsPassed, all_silent, plans_text}

-- So far the lines of the first regions were compared, and those of `left` come from here on.
pub record Joined (p : Program) (plans left : List Plan) (first now : MachineState) (old new : Compared) : Type 0 where
  pub done : List ℕ
  pub text : logged_regions p plans (rest_of_run first) ≡ done ++ logged_regions p left (rest_of_run now)
  pub passes : PassesPiece old new done
  pub end : (rest_of_run first).end ≡ (rest_of_run now).end
  pub standing : Standing p left now
  pub over : next_part now ≢ part.Plain
  pub same : SameRun first now

inside_off : (r q : ℕ) (c : Config) → r < q → IsInside r c → stands_at_head q c ≡ false
inside_off r q c less (inl e) = head_is q c.to_do ∙ ap (part_is q) e ∙ ne_eqb r q (λ same. omega (arith, same, less))
inside_off r q c less (inr e) = head_is q c.to_do ∙ ap (part_is q) e

-- the regions above aren't reached in a piece that stays inside
all_passed : (r : ℕ) (configs : List Config) → All (IsInside r) configs → (plans : List Plan) → Each (IsAbove r) plans → Each (IsPassed configs) plans
all_passed r configs inside [] h = tt
all_passed r configs inside (plan ∷ plans) h = (
  All-weaker (IsInside r) (λ c. stands_at_head plan.region c ≡ false) (λ c. inside_off r plan.region c
      h.0) configs inside,
  all_passed r configs inside plans h.1,
)

none_begun : (r : ℕ) (run : Run) → OnlyBegins r run → (plans : List Plan) → Each (IsAbove r) plans → Each (λ plan. begun_count run plan.region ≡ 0) plans
none_begun r run only [] h = tt
none_begun r run only (plan ∷ plans) h = let above = h.0 in (only plan.region (λ same. omega (arith, same, above)), none_begun r run only plans h.1)

module _ (p : Program) (plans : List Plan) (first : MachineState) (old : Compared) where
  module _ (plan : Plan) (left : List Plan) (now : MachineState) (mid : Compared) (j : Joined p plans (plan ∷ left) first now old mid) where
    here_is : next_part now ≡ part_of now.config.to_do
    here_is = ap (λ (o : Option ℕ). part_at o now.config.to_do) j.standing.between

    -- the plan's region comes next
    pub region_next : part_of now.config.to_do ≡ part.Region plan.region
    region_next = head_next now.config.to_do plan.region (map region_of left) (λ e. j.over (here_is ∙ e)) j.standing.left

    all_is : logged_regions p plans (rest_of_run first) ≡ (j.done ++ region_bytes p plan (rest_of_run now)) ++ logged_regions p left (rest_of_run now)
    all_is = j.text ∙ sym (append_assoc j.done (region_bytes p plan (rest_of_run now)) (logged_regions p left (rest_of_run now)))

    module _ (above : Each (IsAbove plan.region) left) (beyond : MachineState) (new : Compared) where
      -- behind the region
      pub standing_behind : LeavesRegion p plan.region now beyond → Standing p left beyond
      standing_behind l =
          let numbers : plan.region ∷ regions_left (drop 1 now.config.to_do) ≡ plan.region ∷ map region_of left = sym
          (left_at plan.region now.config.to_do region_next) ∙ j.standing.left in
          let rest : regions_left (drop 1 now.config.to_do) ≡ map region_of left = cc numbers in
          record {
            inlined = j.standing.inlined;
            program_is = l.same.program_is ∙ j.standing.program_is;
            stands = l.stands;
            left = ap regions_left l.rest ∙ rest;
            between = l.between;
          }

      behind_is : (l : LeavesRegion p plan.region now beyond) → logged_regions p left (rest_of_run now) ≡ logged_regions p left (rest_of_run beyond)
      behind_is l = plans_text p now beyond l.same l.events l.configs l.piece left (all_passed plan.region l.configs l.inside left above)

      pub joined_next : RegionCompared p plan now beyond mid new after.Left → (next : MachineState) → PlainLeads p left beyond next None →
          Joined p plans left first next old new
      joined_next h next l = record {
        done = j.done ++ region_bytes p plan (rest_of_run now);
        text = all_is ∙ ap (λ (xs : List ℕ). (j.done ++ region_bytes p plan (rest_of_run now)) ++ xs) (behind_is h.1 ∙ l.3);
        passes = passes_join old mid new j.done (region_bytes p plan (rest_of_run now)) j.passes h.0;
        end = j.end ∙ h.1.piece.end ∙ l.4;
        standing = l.0;
        over = l.2;
        same = same_run first now next j.same (same_run now beyond next h.1.same l.1);
      }

      -- the run ends in the plain part behind the region, or in the region
      ends_so : (end : End) → PassesPiece mid new (region_bytes p plan (rest_of_run now)) → logged_regions p left (rest_of_run now) ≡ [] →
          (rest_of_run now).end ≡ end → AllCompared p plans (rest_of_run first) old new (walked.Whole end)
      ends_so end passes none why =
          let all = passes_join old mid new j.done (region_bytes p plan (rest_of_run now)) j.passes passes in
          let text : j.done ++ region_bytes p plan (rest_of_run now) ≡ logged_regions p plans (rest_of_run first) =
          sym (append-nil (j.done ++ region_bytes p plan (rest_of_run now))) ∙ ap (λ (xs : List ℕ). (j.done ++ region_bytes p plan (rest_of_run now)) ++ xs)
          (sym none) ∙ sym all_is in
          (subst (PassesPiece old new) text all, j.end ∙ why)

      pub ends_behind : (end : End) → RegionCompared p plan now beyond mid new after.Left → (next : MachineState) → PlainLeads p left beyond next (Some end) →
          AllCompared p plans (rest_of_run first) old new (walked.Whole end)
      ends_behind end h next l = ends_so end h.0 (behind_is h.1 ∙ l.0) (h.1.piece.end ∙ l.1)

      pub ends_inside : (end : End) → RegionCompared p plan now beyond mid new (after.Ends end) →
          AllCompared p plans (rest_of_run first) old new (walked.Whole end)
      ends_inside end h = ends_so end h.0 (all_silent p left (rest_of_run now) (none_begun plan.region (rest_of_run now) h.1 left above)) h.2

      pub differs_inside : (line : ℕ) → RegionCompared p plan now beyond mid new (after.Differs line) →
          AllCompared p plans (rest_of_run first) old new (walked.Differs line)
      differs_inside line h more =
          let region = region_bytes p plan (rest_of_run now) in
          let rest = logged_regions p left (rest_of_run now) in
          subst (λ (xs : List ℕ). Fails old xs line)
          (ap (λ (xs : List ℕ). j.done ++ xs) (sym (append_assoc region rest more)) ∙ sym (append_assoc j.done (region ++ rest) more)
          ∙ ap (λ (xs : List ℕ). xs ++ more) (sym j.text))
          (fails_behind old mid j.done (region ++ (rest ++ more)) line j.passes (h (rest ++ more)))

  -- No plan is left: the run is over.
  pub joined_all : (now : MachineState) (new : Compared) → Joined p plans [] first now old new →
      AllCompared p plans (rest_of_run first) old new (walked.Whole Done)
  joined_all now new j =
      let here : next_part now ≡ part_of now.config.to_do = ap (λ (o : Option ℕ). part_at o now.config.to_do) j.standing.between in
      let over = none_next now.config.to_do (λ e. j.over (here ∙ e)) j.standing.left in
      (subst (PassesPiece old new) (sym (j.text ∙ append-nil j.done)) j.passes, j.end ∙ (nothing_left now over).end)

-- ---- the plans from some place on

pub each_from : {X : Type 0} (P : X → Type 0) (k : ℕ) (xs : List X) → Each P xs → Each P (drop k xs)
each_from P zero xs h = h
each_from P (suc k) [] h = tt
each_from P (suc k) (x ∷ xs) h = each_from P k xs h.1

pub ascending_from : (k : ℕ) (plans : List Plan) → Ascending plans → Ascending (drop k plans)
ascending_from zero plans h = h
ascending_from (suc k) [] h = tt
ascending_from (suc k) (plan ∷ plans) h = ascending_from k plans h.1
