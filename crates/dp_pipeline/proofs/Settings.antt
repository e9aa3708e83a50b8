-- What the units of an epoch run on, from stage to stage.
use Rattle.std.proofs.Common.{arith, ◌≡◌, ◌≤◌, ◌<◌, true, false, sym, subst, refl}
use Rattle.dp_plan.specs.Access.{is_replicated}
use Rattle.dp_semantics.specs.Fits.{fits_plan}
use Rattle.dp_theorem.proofs.Fitting.{accepted}
use Rattle.dp_theorem.proofs.GivenFits.{given_fits}
use Rattle.dp_prepared.specs.Planned.{IsPlanned, prepared_of}
use Rattle.dp_relay.specs.UnitsKey.{UnitsKey}
use Rattle.dp_lean_region.specs.Laws.{IsLawful, AreLawful}
use Rattle.dp_lean_region.specs.Line.{IsLineOf, line_program, line_plan, cap_of}
use Rattle.dp_lean_region.specs.declared.line.Line.{Line}
use Rattle.dp_pipeline.specs.declared.keys.Begin.{Begin}
use Rattle.dp_pipeline.specs.declared.keys.EpochKey.{EpochKey as Held}
use Rattle.dp_pipeline.specs.declared.setting.Setting.{Setting}
use Rattle.dp_pipeline.specs.Begin.{units_key_at}
use Rattle.dp_pipeline.specs.Carried.{lean_of}
use Rattle.dp_pipeline.specs.Keys.{key_of}
use Rattle.dp_pipeline.specs.steps.Setting.{IsSetting}

-- another stage of the same epoch
pub setting_on : (x y : Setting) → IsSetting x → y.line ≡ x.line → y.key.epoch ≡ x.key.epoch → 0 < y.key.stage → IsSetting y
setting_on x y is line epoch numbered = record {
  planned = subst (λ (k : Held). IsPlanned k.p.now k.plan.now) (sym epoch) is.planned;
  lawful = subst (λ (k : Held). IsLawful (lean_of (key_of k))) (sym epoch) is.lawful;
  line = subst (λ (q : Held × Line). IsLineOf (lean_of (key_of q.0)) q.1) (λ i. (sym epoch i, sym line i)) is.line;
  steps = subst (λ (k : Held). k.steps ≤ k.fuel) (sym epoch) is.steps;
  fuel = subst (λ (k : Held). k.fuel ≤ 1000000000) (sym epoch) is.fuel;
  numbered = numbered;
}

-- the first one
pub setting_at : (x : Setting) (begin : Begin) → key_of x.key.epoch ≡ units_key_at (prepared_of (line_program x.line) (line_plan x.line)) x.line.input.now
    begin (cap_of x.line)
    → IsPlanned (line_program x.line) (line_plan x.line) → AreLawful (line_program x.line) (line_plan x.line) (cap_of x.line)
    → begin.steps ≤ begin.fuel → begin.fuel ≤ 1000000000 → 0 < x.key.stage → IsSetting x
setting_at x begin is planned lawful steps fuel numbered = record {
  planned = subst (λ (k : UnitsKey). IsPlanned k.epoch.program k.epoch.plan) (sym is) planned;
  lawful = subst (λ (k : UnitsKey). IsLawful (lean_of k)) (sym is) (lawful _ _ refl refl (omega arith));
  line = subst (λ (k : UnitsKey). IsLineOf (lean_of k) x.line) (sym is) (record { program = refl; plan = refl; input = refl; pays = refl; kinds = refl });
  steps = subst (λ (k : UnitsKey). k.epoch.steps ≤ k.epoch.fuel) (sym is) steps;
  fuel = subst (λ (k : UnitsKey). k.epoch.fuel ≤ 1000000000) (sym is) fuel;
  numbered = numbered;
}

module _ (x : Setting) (is : IsSetting x) where
  pub fits_in : fits_plan x.key.epoch.p.now x.key.epoch.plan.now ≡ true
  fits_in = given_fits x.key.epoch.p.now is.planned.inlined x.key.epoch.plan.now is.planned.is_plan

  pub first_alone : is_replicated x.key.epoch.plan.now 1 ≡ false
  first_alone = (accepted x.key.epoch.p.now x.key.epoch.plan.now fits_in).sequential
