-- The verdicts by items are the definition's.
use Rattle.dp_semantics.proofs.Names.{◌≡◌, refl, sym, ap, ◌∙◌, subst, ℕ, zero, suc, ◌+◌, ◌-◌, Bool, true, false, if◌then◌else◌, List, [], ◌∷◌, ℤ, length, map}
use Rattle.dp_semantics.proofs.Names.{Option, Some, None, arith, nat_le, Stmt, Program, Plan, Effect, stored, clear_locals, project_all, region_statement}
use Rattle.dp_semantics.proofs.Names.{stage_of, Status, applied, last, Judgement, Agreed, Clean, Unclean, judge, judge_lists, judge_status}
use Rattle.dp_semantics.specs.CauseWalk.{shown_from}
use Rattle.dp_semantics.specs.Told.{StoresAreAll}
use Rattle.dp_semantics.specs.EpochKey.{EpochKey, epoch_of}
use Rattle.dp_semantics.specs.EpochVerdicts.{JudgeState, after_judgement, state_at, judgement_of, verdict_by, verdict_at}
use Rattle.dp_semantics.specs.EpochCauses.{kept_after, next_kept, kept_at}
use Rattle.dp_net.specs.NetItems.{Marks}
use Rattle.dp_net.specs.NetJudge.{NetAgreed, net_judge, net_judge_lists, net_judge_status}
use Rattle.dp_net.specs.NetPackets.{NetStatus, NetPacket}
use Rattle.dp_net.specs.NetVerdicts.{net_judgement_in, net_after_judgement, net_state_at, net_judgement_of, net_verdict_by, net_verdict_at, net_next_kept}
use Rattle.dp_net.specs.NetVerdicts.{net_kept_at, SaysTheSame}
use Rattle.dp_semantics.proofs.Setting.{Accepted}
use Rattle.dp_net.proofs.StrictEpochs.{CleanTo, clean_less, strict_judgement, judged_same}
use Rattle.dp_net.proofs.Memories.{agrees_self, agree_after}
use Rattle.dp_net.proofs.ToldAlike.{seen_by, VerdictsAlike, SameVerdict}
use Rattle.dp_net.proofs.NetVerdicts.{judge_alike}
use Rattle.dp_net.proofs.Sent.{Quieted, SameStatus, both_going, both_closing, both_broken, SamePacket, sent_alike, cleared_same}

stores_all : StoresAreAll
stores_all effects cells = Rattle.dp_theorem.proofs.Told.stores_are_all effects cells

-- what the effects make of each of the memories from stage s on
abbrev shown_all : Program → Plan → ℕ → List ℕ → List Effect → List (List ℤ) → List (List ℤ)
shown_all p plan s sites effects [] = []
shown_all p plan s sites effects (view ∷ rest) = applied (seen_by p plan s sites effects) view ∷ shown_all p plan (suc s) sites effects rest

module _ (p : Program) (plan : Plan) where
  none_shown : (s : ℕ) (views : List (List ℤ)) → views ≡ shown_all p plan s [] [] views
  none_shown s [] = refl
  none_shown s (view ∷ rest) = ap (λ vs. view ∷ vs) (none_shown (suc s) rest)

  one_shown : (s site : ℕ) (effect : Effect) (sites : List ℕ) (effects : List Effect) (views : List (List ℤ)) →
      shown_all p plan s sites effects (shown_from p plan (record { site = site; loads = []; effect = effect }) s views) ≡ shown_all p plan s (site ∷ sites)
      (effect ∷ effects) views
  one_shown s site effect sites effects [] = refl
  one_shown s site effect sites effects (view ∷ rest) = rw (one_shown (suc s) site effect sites effects rest) (by (nat_le (stage_of p plan site) s))
    where
      by : (b : Bool) →
          applied (seen_by p plan s sites effects) (if b then stored effect view else view) ∷ shown_all p plan (suc s) (site ∷ sites) (effect ∷ effects) rest
          ≡ applied (if b then effect ∷ seen_by p plan s sites effects else seen_by p plan s sites effects) view ∷ shown_all p plan (suc s) (site ∷ sites)
          (effect ∷ effects) rest
      by true = refl
      by false = refl

  kept_is : (sites : List ℕ) (effects : List Effect) (views : List (List ℤ)) → length sites ≡ length effects →
      kept_after p plan sites effects views ≡ shown_all p plan 1 sites effects views
  kept_is [] [] views e = none_shown 1 views
  kept_is [] (f ∷ effects) views e = absurd (omega (arith, e))
  kept_is (site ∷ sites) [] views e = absurd (omega (arith, e))
  kept_is (site ∷ sites) (effect ∷ effects) views e = kept_is sites effects _ (omega (arith, e)) ∙ one_shown 1 site effect sites effects views

module _ (key : EpochKey) (ok : Accepted key.program key.plan) {m : Marks} {test : Stmt → Bool} (q : Quieted (epoch_of key) m test) where
  open key use {program, plan}

  abbrev clear : List ℤ → List ℤ
  clear cells = clear_locals plan.region program.vars cells

  judged_alike : (left : ℕ) (cells : List ℤ) (a : Rattle.dp_semantics.specs.Packets.Packet) (b : NetPacket) → SamePacket q a b →
      SameVerdict program plan m (judge program plan left cells a) (net_judge program plan m left cells b)
  judged_alike left cells a b same = by a.status b.status same.status
    where
      lists : SameVerdict program plan m (judge_lists program plan left cells a.lists) (net_judge_lists program plan m left cells b.lists)
      lists = rw (same.words, same.net) (judge_alike program plan m key.input q.marked test q.ready left (left + 1) left 0
          (project_all program plan (last plan) (region_statement program plan)) cells cells same.groups false [] [] [] [] (omega arith) (omega arith)
          (record {
            text = q.texts (last plan);
            steady = q.steady (last plan);
            agrees = agrees_self m (last plan) cells;
            good = same.good;
            made_good = tt;
            fits = omega arith;
          })
          (record { steps_are = refl; prints = refl; lasts = λ c o. refl; views = λ s c o. refl; sized = refl; net_sized = refl }))

      by : (u : Status) (w : NetStatus) → SameStatus u w →
          SameVerdict program plan m (judge_status (judge_lists program plan left cells a.lists) u)
          (net_judge_status program plan (net_judge_lists program plan m left cells b.lists) w)
      by u w both_going = lists
      by u w both_closing = lists
      by u w (both_broken s why) = tt

  -- behind both the memory is the same, and so are the memories that the stages see
  cells_alike : (a : Agreed) (b : NetAgreed) → VerdictsAlike program plan m a b → (cells : List ℤ) →
      clear (applied b.effects cells) ≡ clear (applied a.effects cells)
  cells_alike a b v cells = sym (cleared_same q (last plan) (applied a.effects cells) (applied b.effects cells)
      (agree_after m (last plan) a.effects b.effects cells cells v.told.lasts (agrees_self m (last plan) cells)))

  views_alike : (a : Agreed) (b : NetAgreed) → VerdictsAlike program plan m a b → (s : ℕ) (views : List (List ℤ)) →
      map clear (shown_all program plan s b.sites b.effects views) ≡ map clear (shown_all program plan s a.sites a.effects views)
  views_alike a b v s [] = refl
  views_alike a b v s (view ∷ rest) =
      let here = cleared_same q (last plan) (applied (seen_by program plan s a.sites a.effects) view) (applied (seen_by program plan s b.sites b.effects) view)
      (agree_after m (last plan) (seen_by program plan s a.sites a.effects) (seen_by program plan s b.sites b.effects) view view (v.told.views s)
      (agrees_self m (last plan) view)) in
      rw (views_alike a b v (suc s) rest, here)

  kept_alike : (a : Agreed) (b : NetAgreed) → VerdictsAlike program plan m a b → (kept : List (List ℤ)) →
      map clear (kept_after program plan b.sites b.effects kept) ≡ map clear (kept_after program plan a.sites a.effects kept)
  kept_alike a b v kept = ap (map clear) (kept_is program plan b.sites b.effects kept v.told.net_sized) ∙ views_alike a b v 1 kept
      ∙ ap (map clear) (sym (kept_is program plan a.sites a.effects kept v.told.sized))

  -- the judgements from the same state
  from_state : (n : ℕ) (s : JudgeState) → SameVerdict program plan m (strict_judgement key ok n s) (net_judgement_in m key n s)
  from_state n s = judged_alike (key.fuel - s.steps) s.cells _ _ (sent_alike q (length plan.stages) n).packet

  state_by : (s : JudgeState) (j : Judgement) (o : Option NetAgreed) → SameVerdict program plan m j o → net_after_judgement m key s o ≡ after_judgement key s j
  state_by s (Clean a) (Some b) v = rw (cells_alike a b v s.cells, v.told.steps_are)
  state_by s Unclean None v = refl
  state_by s (Clean a) None v = absurd v
  state_by s Unclean (Some b) v = absurd v

  kept_by : (kept : List (List ℤ)) (j : Judgement) (o : Option NetAgreed) → SameVerdict program plan m j o →
      net_next_kept m key o kept ≡ next_kept program plan j kept
  kept_by kept (Clean a) (Some b) v = kept_alike a b v kept
  kept_by kept Unclean None v = refl
  kept_by kept (Clean a) None v = absurd v
  kept_by kept Unclean (Some b) v = absurd v

  -- .. behind clean ones
  judged_at : (n : ℕ) → CleanTo key ok n → SameVerdict program plan m (judgement_of key n) (net_judgement_in m key n (state_at key n))
  judged_at n c = subst (λ (j : Judgement). SameVerdict program plan m j (net_judgement_in m key n (state_at key n))) (judged_same key ok n c)
      (from_state n (state_at key n))

  before : (n : ℕ) → CleanTo key ok (suc n) → CleanTo key ok n
  before n c = clean_less key ok n (suc n) (omega arith) c

  -- The judging stands where the definition's does, iteration after iteration.
  pub states_alike : (n : ℕ) → CleanTo key ok n → net_state_at m key n ≡ state_at key n
  states_alike zero c = refl
  states_alike (suc n) c = rw (states_alike n (before n c)) (state_by (state_at key n) _ _ (judged_at n (before n c)))

  pub judgements_alike : (n : ℕ) → CleanTo key ok n → SameVerdict program plan m (judgement_of key n) (net_judgement_of m key n)
  judgements_alike n c = rw (states_alike n c) (judged_at n c)

  -- .. and what is kept for a search of causes is the same
  pub all_kept_alike : (n : ℕ) → CleanTo key ok n → net_kept_at m key n ≡ kept_at key n
  all_kept_alike zero c = refl
  all_kept_alike (suc n) c = rw (all_kept_alike n (before n c)) (kept_by (kept_at key n) _ _ (judgements_alike n (before n c)))

  verdict_alike : (n : ℕ) (j : Judgement) (o : Option NetAgreed) → SameVerdict program plan m j o →
      SaysTheSame key (verdict_by key n j) (net_verdict_by m key n o)
  verdict_alike n (Clean a) (Some b) v = (
    sym v.told.prints,
    sym v.told.steps_are,
    v.closing,
    λ cells. ap clear (sym (stores_all b.effects cells))
        ∙ cells_alike a b v cells ∙ ap clear (stores_all a.effects cells),
  )
  verdict_alike n Unclean None v = refl
  verdict_alike n (Clean a) None v = absurd v
  verdict_alike n Unclean (Some b) v = absurd v

  -- The verdict on each iteration says the same.
  pub verdicts_alike : (n : ℕ) → CleanTo key ok n → SaysTheSame key (verdict_at key n) (net_verdict_at m key n)
  verdicts_alike n c = verdict_alike n _ _ (judgements_alike n c)
