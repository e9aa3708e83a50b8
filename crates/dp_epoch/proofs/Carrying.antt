-- A verdict that says the same as what the source does in iteration `count` carries the iteration that comes next.
use Rattle.std.proofs.Common.{◌≡◌, sym, ap, ◌∙◌, subst, ℕ, ◌+◌, true, List, ℤ, length, arith}
use Rattle.std.proofs.lemmas.List.{length-map}
use Rattle.dp_epoch.specs.declared.account.Account.{Account}
use Rattle.dp_tree.specs.Trace.{Run, prints, printed_by}
use Rattle.dp_tree.specs.Iteration.{iteration, is_closing, has_ended}
use Rattle.dp_base.specs.declared.StoreOf.{StoreOf}
use Rattle.dp_tree.specs.declared.Program.{Program}
use Rattle.dp_plan.specs.declared.Plan.{Plan}
use Rattle.dp_semantics.specs.Verdict.{done_in, effect_in}
use Rattle.dp_semantics.specs.EpochVerdicts.{Carried, carried}
use Rattle.dp_semantics.specs.Told.{store_made, stores_of}
use Rattle.dp_theorem.proofs.Told.{chosen}
use Rattle.dp_meaning.specs.MachineState.{MachineState, rest_of_run}
use Rattle.dp_meaning.specs.NextIteration.{memory_behind_stores}
use Rattle.dp_commit.specs.CommittedState.{CommittedState, CarriesNext, region_run}
use Rattle.dp_epoch.specs.Progress.{Progress}
use Rattle.dp_epoch.proofs.Here.{goes_here}

module _ (plan : Plan) (first : MachineState) (c : CommittedState) (account : Account) (g : Progress plan first c account) where
  abbrev run : Run
  run = region_run first

  -- iteration `count` is the first one of the rest
  pub iteration_same : iteration run plan.region c.count ≡ iteration (rest_of_run c.machine) plan.region 0
  iteration_same = (let e : c.count ≡ c.count + 0 = omega arith in ap (iteration run plan.region) e) ∙ (goes_here plan first c account g).iterations 0

  pub ended_same : has_ended run plan.region c.count ≡ has_ended (rest_of_run c.machine) plan.region 0
  ended_same = (let e : c.count ≡ c.count + 0 = omega arith in ap (has_ended run plan.region) e) ∙ (goes_here plan first c account g).ended 0

  pub closing_same : is_closing run plan.region c.count ≡ is_closing (rest_of_run c.machine) plan.region 0
  closing_same = (let e : c.count ≡ c.count + 0 = omega arith in ap (is_closing run plan.region) e) ∙ (goes_here plan first c account g).closing 0

  abbrev own : Carried
  own = carried (done_in plan (region_run first) c.count)

  -- what leads to the same memory as the source's own stores, with the same prints, steps and end
  pub carries_next : (v : Carried) → v.prints ≡ own.prints → v.steps ≡ own.steps → v.closing ≡ own.closing →
      ((cells : List ℤ) → memory_behind_stores plan.region first.program.vars v.stores cells ≡ memory_behind_stores plan.region first.program.vars own.stores
      cells) → has_ended run plan.region c.count ≡ true → CarriesNext c v
  carries_next v prints_same steps_same closing_same_so lead ended =
      let stores_same : own.stores ≡ stores_of (iteration (rest_of_run c.machine) plan.region 0) = chosen store_made (iteration run plan.region c.count)
      ∙ ap stores_of iteration_same in
      let next : CarriesNext (record { machine = c.machine; region = plan.region; count = c.count }) v = record {
        iteration_is = record {
          ended = sym ended_same ∙ ended;
          stores_lead = λ cells.
              ap (λ (p : Program). memory_behind_stores plan.region p.vars v.stores cells) g.holds.program ∙ lead cells
              ∙ ap (λ (stores : List StoreOf). memory_behind_stores plan.region first.program.vars stores cells) stores_same
              ∙ ap (λ (p : Program). memory_behind_stores plan.region p.vars (stores_of (iteration (rest_of_run c.machine) plan.region 0)) cells)
              (sym g.holds.program);
          steps_are = steps_same ∙ length-map (iteration run plan.region c.count) effect_in ∙ ap length iteration_same;
          closing_is = closing_same_so ∙ closing_same;
        };
        prints_are = prints_same ∙ chosen printed_by (iteration run plan.region c.count) ∙ ap prints iteration_same;
      } in
      subst (λ (r : ℕ). CarriesNext (record { machine = c.machine; region = r; count = c.count }) v) (sym g.region) next

  pub iteration_prints : prints (iteration run plan.region c.count) ≡ (carried (done_in plan run c.count)).prints
  iteration_prints = sym (chosen printed_by (iteration run plan.region c.count))
