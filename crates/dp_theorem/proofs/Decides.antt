-- The verdict on an epoch's next iteration, where the ones before it go on.
use Rattle.dp_semantics.proofs.Names.{◌≡◌, refl, sym, ap, ◌∙◌, ℕ, Bool, true, false, both_ways, Program, Plan, is_clean, Judgement, Clean, Unclean}
use Rattle.dp_semantics.specs.Cause.{cause_since}
use Rattle.dp_semantics.specs.Reported.{reported}
use Rattle.dp_semantics.specs.Verdict.{done_in}
use Rattle.dp_semantics.specs.EpochKey.{EpochKey, epoch_run}
use Rattle.dp_semantics.specs.EpochVerdicts.{Carried, carried, Verdict, Commit, Again, judgement_of, verdict_by, verdict_at}
use Rattle.dp_semantics.specs.EpochCauses.{IsSound}
use Rattle.dp_semantics.specs.DecidesRightly.{DecidesAt, DecidesRightly}
use Rattle.dp_semantics.proofs.Setting.{Accepted}
use Rattle.dp_theorem.proofs.EpochFound.{Here, here_at, judgement_is, judged}

module _ (key : EpochKey) (a : Accepted key.program key.plan) (sound : IsSound key) (n : ℕ) (h : Here key a sound n) where
  -- the iteration is clean in the epoch's own run
  abbrev clean : Bool
  clean = is_clean key.program key.plan (epoch_run key) 0 n

  -- the verdict where it isn't
  abbrev other : Verdict
  other = Again (reported (cause_since key.program key.plan (epoch_run key) 0 n))

  commits : clean ≡ true → verdict_at key n ≡ Commit (carried (done_in key.plan (epoch_run key) n))
  commits c = ap (verdict_by key n) (judgement_is key a sound n h ∙ ((judged key a sound n h).sent c).judged)

  back_by : (v : Carried) (j : Judgement) → judgement_of key n ≡ j → verdict_by key n j ≡ Commit v → clean ≡ true
  back_by v (Clean agreed) is gives = (judged key a sound n h).back agreed (sym (judgement_is key a sound n h) ∙ is)
  back_by v Unclean is gives = absurd (cc gives)

  again_by : clean ≡ false → (j : Judgement) → judgement_of key n ≡ j → verdict_at key n ≡ other
  again_by c (Clean agreed) is = absurd (both_ways clean c ((judged key a sound n h).back agreed (sym (judgement_is key a sound n h) ∙ is)))
  again_by c Unclean is = ap (verdict_by key n) is

  pub decides_at : DecidesAt key n
  decides_at = record { commits = commits; again = λ c. again_by c (judgement_of key n) refl; back = λ v gives. back_by v (judgement_of key n) refl gives }

pub decides_rightly : {p : Program} {plan : Plan} → ((key : EpochKey) → key.program ≡ p → key.plan ≡ plan → Accepted key.program key.plan) →
    DecidesRightly p plan
decides_rightly accepts key program_is plan_is sound n gone = let a = accepts key program_is plan_is in decides_at key a sound n (here_at key a sound n gone)
