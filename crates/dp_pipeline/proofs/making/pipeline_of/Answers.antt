use Rattle.std.proofs.Common.{rules, ◌≡◌, ◌+◌, ◌-◌, ◌≤◌, ℕ, suc, true, false, [], ◌∷◌, length, length-append, sym, ap, ◌∙◌, subst, arith, refl}
use Rattle.dp_plan.specs.Access.{is_replicated}
use Rattle.dp_pipeline.specs.declared.keys.EpochKey.{EpochKey as Held}
use Rattle.dp_pipeline.specs.declared.keys.LaneKey.{LaneKey}
use Rattle.dp_pipeline.specs.declared.setting.Setting.{Setting}
use Rattle.dp_pipeline.specs.declared.size.CrewSize.{CrewSize}
use Rattle.dp_pipeline.specs.Keys.{key_of}
use Rattle.dp_pipeline.specs.Lanes.{GoesBack}
use Rattle.dp_pipeline.specs.Standing.{GivesBatches}
use Rattle.dp_pipeline.specs.UnitCount.{unit_count}
use Rattle.dp_pipeline.proofs.Settings.{setting_on, fits_in, first_alone}
use Rattle.dp_pipeline.proofs.UnitCounts.{Staffed, all_staffed, none_staffed, stage_more, workers_more, behind_replicated}
use Rattle.dp_pipeline.proofs.making.pipeline_of.Goals as goal
use Rattle.dp_pipeline.proofs.making.pipeline_of.Goals.{then-next_is_replicated+in_ok-source, else-next_is_replicated+in_ok-source-2}

pub loop-setting-init : goal.loop-setting-init
loop-setting-init c =
    let x = c.args.setting in let is = c.requires.setting in
    let before : 0 ≡ x.key.stage - 1 = omega (arith, c.requires.stage) in let few = is.planned.is_plan.few_stages in (
      is,
      subst (λ (s : ℕ). GivesBatches c.in_ok-back.source (key_of x.key.epoch) s 0) before c.in_ok-back.ensures.source.0,
      c.in_ok-back.ensures.source.1,
      search rules,
      search rules,
      search rules,
      refl,
      refl,
      subst (λ (s : ℕ). is_replicated x.key.epoch.plan.now s ≡ false) (sym c.requires.stage) (first_alone x is),
      refl,
      none_staffed x.size.workers x.key.epoch.plan.now x.key.stage (length c.new-units.result) c.requires.stage (ap length c.new-units.ensures),
    )

pub add_judging-requires-clause-back : goal.add_judging-requires-clause-back
add_judging-requires-clause-back c =
    subst (λ (k : Held). GoesBack c.in_ok-back.back.end.view (key_of k)) (sym c.loop-setting.invariant.6) c.in_ok-back.ensures.back

pub loop-setting-preserved : goal.loop-setting-preserved
loop-setting-preserved c =
    let x = c.loop-setting.setting in let is = c.loop-setting.invariant.0 in
    let s : ℕ = x.key.stage in
    let within : s ≤ length x.key.epoch.plan.now.stages = search rules in
    elim c.if-next_is_replicated.branch [
      | then-next_is_replicated+in_ok-source w ↦
          let y = c.if-next_is_replicated.setting in
          let par : is_replicated x.key.epoch.plan.now (suc s) ≡ true = search rules in
          let key_is : y.key ≡ record { epoch = x.key.epoch; stage = s + 1 } = ap (λ (v : Setting). v.key) w.setting-is ∙ w.in_ok-source.ensures.key in
          let at : y.key.stage ≡ s + 1 = ap (λ (k : LaneKey). k.stage) key_is in
          let epoch : y.key.epoch ≡ x.key.epoch = ap (λ (k : LaneKey). k.epoch) key_is in
          let line : y.line ≡ x.line = ap (λ (v : Setting). v.line) w.setting-is ∙ w.in_ok-source.ensures.rest.0 in
          let size : y.size ≡ x.size = ap (λ (v : Setting). v.size) w.setting-is ∙ w.in_ok-source.ensures.rest.1 in
          let many : length c.if-next_is_replicated.units ≡ length c.loop-setting.units + (x.size.workers + 1) = ap length w.units-is
          ∙ w.in_ok-source.ensures.count in (
            setting_on x _ is line epoch (omega arith),
            search rules,
            search rules,
            search rules,
            search rules,
            search rules,
            epoch ∙ c.loop-setting.invariant.6,
            search rules,
            subst (λ (k : Held). is_replicated k.plan.now (y.key.stage + 1) ≡ false) (sym epoch)
                (ap (λ (k : ℕ). is_replicated x.key.epoch.plan.now (k + 1)) at ∙ behind_replicated x.key.epoch.p.now x.key.epoch.plan.now (fits_in x is) s par),
            size ∙ c.loop-setting.invariant.9,
            subst (λ (q : ℕ × ℕ × CrewSize × Held). Staffed q.2.workers q.3.plan.now (q.0 + 1) q.1) (λ i. (sym at i, sym many i, sym size i, sym epoch i))
                (workers_more x.size.workers x.key.epoch.plan.now s (length c.loop-setting.units) is.numbered within c.loop-setting.invariant.8 par
                c.loop-setting.invariant.10),
          )
      | else-next_is_replicated+in_ok-source-2 w ↦
          let y = c.if-next_is_replicated.setting in
          let seq : is_replicated x.key.epoch.plan.now (suc s) ≡ false = search rules in
          let next : s + 1 ≡ suc s = omega arith in
          let same : y ≡ x = w.setting-is in
          let many : length c.if-next_is_replicated.units ≡ length c.loop-setting.units + 1 = ap length w.units-is ∙ w.in_ok-source-2.ensures.count in (
            setting_on x _ is (ap (λ (v : Setting). v.line) same) (ap (λ (v : Setting). v.key.epoch) same) (omega arith),
            search rules,
            search rules,
            search rules,
            search rules,
            search rules,
            ap (λ (v : Setting). v.key.epoch) same ∙ c.loop-setting.invariant.6,
            search rules,
            ap (λ (v : Setting). is_replicated v.key.epoch.plan.now (v.key.stage + 1)) same ∙ ap (λ (k : ℕ). is_replicated x.key.epoch.plan.now k) next ∙ seq,
            ap (λ (v : Setting). v.size) same ∙ c.loop-setting.invariant.9,
            subst (λ (q : ℕ × Setting). Staffed q.1.size.workers q.1.key.epoch.plan.now (q.1.key.stage + 1) q.0) (λ i. (sym many i, sym same i))
                (stage_more x.size.workers x.key.epoch.plan.now s (length c.loop-setting.units) is.numbered within c.loop-setting.invariant.8
                c.loop-setting.invariant.10),
          )
    ]

pub returns-clause-units : goal.returns-clause-units
returns-clause-units c =
    let x = c.loop-setting.setting in
    let behind : x.key.stage ≡ length x.key.epoch.plan.now.stages + 1 = omega
    (arith, c.loop-setting-test.false, c.loop-setting.invariant.3, c.loop-setting.invariant.5) in
    let all = all_staffed x.size.workers x.key.epoch.plan.now x.key.stage (length c.loop-setting.units) behind c.loop-setting.invariant.10 in
    let more = c.in_ok-verdicts.ensures.count in
    let same : unit_count x.size.workers x.key.epoch.plan.now ≡ unit_count c.args.setting.size.workers c.args.setting.key.epoch.plan.now =
    (λ i. unit_count (c.loop-setting.invariant.9 i).workers (c.loop-setting.invariant.6 i).plan.now) in
    omega (arith, more, all, same)
