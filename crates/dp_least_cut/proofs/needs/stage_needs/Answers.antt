use Rattle.std.proofs.Common.{◌≡◌, ◌↔◌, ◌<◌, ◌≤◌, ◌+◌, ◌-◌, ℕ, List, true, false, length, subst, ◌∙◌, arith}
use Rattle.std.proofs.Math.ListN.{length-set}
use Rattle.dp_least_cut.specs.steps.Fits.{TellsNeed}
use Rattle.dp_least_cut.specs.steps.Best.{HasFirst, AreLimits}
use Rattle.dp_least_cut.proofs.FirstLemmas.{need_is, told_more}
use Rattle.dp_least_cut.proofs.needs.stage_needs.Goals as goal

pub loop-begin-preserved : goal.loop-begin-preserved
loop-begin-preserved c =
    let ws : List ℕ = c.args.costs.weights.now in
    let lims : List ℕ = c.args.costs.limits.now in
    let k : ℕ = c.args.costs.workers in
    let n : ℕ = length ws in
    let seq : List ℕ = c.loop-begin.after_seq.items in
    let par : List ℕ = c.loop-begin.after_par.items in
    let b : ℕ = c.loop-begin.begin - 1 in
    let one : c.loop-begin.begin ≡ b + 1 = omega arith in
    let some : b < n = omega arith in
    let seq_is : (most : ℕ) → most ≤ 8 → (c.need_from-when_after_seq.result ≤ most) ↔ HasFirst ws lims k c.args.bound seq par false b n most =
    subst (λ (x : List ℕ). (most : ℕ) → most ≤ 8 → (c.need_from-when_after_seq.result ≤ most) ↔ HasFirst ws lims k c.args.bound seq x false b n most)
    c.deref-in-loop-begin.ensures.value
    (subst (λ (x : List ℕ). (most : ℕ) → most ≤ 8 → (c.need_from-when_after_seq.result ≤ most) ↔ HasFirst ws lims k c.args.bound x
    c.deref-in-loop-begin.result.now false b n most) c.deref.ensures.value c.need_from-when_after_seq.ensures) in
    let par_is : (most : ℕ) → most ≤ 8 → (c.need_from-when_after_par.result ≤ most) ↔ HasFirst ws lims k c.args.bound seq par true b n most =
    subst (λ (x : List ℕ). (most : ℕ) → most ≤ 8 → (c.need_from-when_after_par.result ≤ most) ↔ HasFirst ws lims k c.args.bound seq x true b n most)
    c.deref-in-loop-begin-3.ensures.value
    (subst (λ (x : List ℕ). (most : ℕ) → most ≤ 8 → (c.need_from-when_after_par.result ≤ most) ↔ HasFirst ws lims k c.args.bound x
    c.deref-in-loop-begin-3.result.now true b n most) c.deref-in-loop-begin-2.ensures.value c.need_from-when_after_par.ensures) in
    let told_seq : (carried : List (ℕ × ℕ)) → AreLimits carried lims → TellsNeed ws carried k c.args.bound false (b + 1) seq =
    λ carried right. subst (λ (x : ℕ). TellsNeed ws carried k c.args.bound false x seq) one (c.loop-begin.invariant.seq carried right) in
    let told_par : (carried : List (ℕ × ℕ)) → AreLimits carried lims → TellsNeed ws carried k c.args.bound true (b + 1) par =
    λ carried right. subst (λ (x : ℕ). TellsNeed ws carried k c.args.bound true x par) one (c.loop-begin.invariant.par carried right) in
    record {
      low = omega arith;
      seq_length = length-set seq b c.need_from-when_after_seq.result ∙ c.loop-begin.invariant.seq_length;
      par_length = length-set par b c.need_from-when_after_par.result ∙ c.loop-begin.invariant.par_length;
      seq = λ carried right. told_more ws carried k c.args.bound false b c.need_from-when_after_seq.result seq (let l = c.loop-begin.invariant.seq_length in
          omega (arith, l)) (told_seq carried right)
          (λ most few.
          let is = need_is ws lims k c.args.bound c.requires carried right seq par b some (told_seq carried right) (told_par carried right) false most few in
          (λ e. is.0 ((seq_is most few).0 e), λ fits. (seq_is most few).1 (is.1 fits)));
      par = λ carried right. told_more ws carried k c.args.bound true b c.need_from-when_after_par.result par (let l = c.loop-begin.invariant.par_length in
          omega (arith, l)) (told_par carried right)
          (λ most few.
          let is = need_is ws lims k c.args.bound c.requires carried right seq par b some (told_seq carried right) (told_par carried right) true most few in
          (λ e. is.0 ((par_is most few).0 e), λ fits. (par_is most few).1 (is.1 fits)));
    }

pub returns-clause-seq : goal.returns-clause-seq
returns-clause-seq c carried right begin most low within few = c.loop-begin.invariant.seq carried right begin most (omega arith) within few

pub returns-clause-par : goal.returns-clause-par
returns-clause-par c carried right begin most low within few = c.loop-begin.invariant.par carried right begin most (omega arith) within few
