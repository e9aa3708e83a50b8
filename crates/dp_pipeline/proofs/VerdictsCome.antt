-- Verdicts come out of their lane together, and are given one by one.
use Rattle.std.proofs.Common.{arith, ◌≡◌, ◌<◌, ◌^◌, Bool, true, false, ℕ, suc, ◌+◌, List, [], ◌∷◌, length, sym, ap, ◌∙◌, subst, refl}
use Rattle.dp_semantics.specs.EpochKey.{EpochKey}
use Rattle.dp_semantics.specs.EpochVerdicts.{verdict_at}
use Rattle.dp_lane.specs.declared.rule.View.{View}
use Rattle.dp_lane.specs.declared.rule.View.TheVariants.{Fresh, Sender, Taker, Spent}
use Rattle.dp_lane.specs.Views.{TakesItem}
use Rattle.dp_judge.specs.declared.verdict.Verdict.{Verdict}
use Rattle.dp_judge.specs.Told.{SaysDecided}
use Rattle.dp_judge.specs.Decided.{left_to_give}
use Rattle.dp_relay.specs.UnitsKey.{UnitsKey}
use Rattle.dp_pipeline.specs.declared.judged.Judged.{Judged}
use Rattle.dp_pipeline.specs.declared.keys.LaneKey.{LaneKey}
use Rattle.dp_pipeline.specs.declared.told.Told.{Told}
use Rattle.dp_pipeline.specs.Carried.{IsTold, IsJudged, is_over}
use Rattle.dp_pipeline.specs.Coming.{Coming, VerdictComes, ComesNext, key_on, coming_on}
use Rattle.dp_pipeline.specs.Keys.{key_of}
use Rattle.dp_pipeline.specs.Lanes.{GoesBack}
use Rattle.dp_pipeline.specs.Left.{left_of, last_told, GivesOne, GivesNextTold, Awaits, AwaitsOn}
use Rattle.dp_pipeline.specs.Sizes.{batch_begins, size, EachFrom}

-- what comes on the end of a lane, with the verdicts of the batch that came last
abbrev comes : View LaneKey → Told → Coming
comes v t = coming_on v t.given (last_told t)

comes_of : (lane : LaneKey) (taken : ℕ) (t u : Told) → Awaits (key_of lane.epoch) taken t → GivesOne t u
    → VerdictComes (comes (Taker lane taken) t) (comes (Taker lane taken) u) × Awaits (key_of lane.epoch) taken u
comes_of lane taken t u at one =
    let key = key_of lane.epoch in
    let all = subst (λ (vs : List Verdict). EachFrom (IsTold key) t.given vs) one.left at.left in
    let given = one.given in
    let next : suc t.given ≡ u.given = omega (arith, given) in
    let many = ap length one.left in
    let sum : u.given + length (left_of u) ≡ t.given + length (left_of t) = omega (arith, given, many) in (
      record { verdict_is = all.0; key_is = refl; given_is = one.given },
      record {
        left = subst (λ (k : ℕ). EachFrom (IsTold key) k (left_of u)) next all.1;
        next = λ still. sum ∙ at.next (sym one.over ∙ still);
        few = subst (λ (k : ℕ). k < 2 ^ 63) (sym sum) at.few;
      },
    )

-- the next of those that came is given
pub gives_kept : (v back : View LaneKey) (t u : Told) → AwaitsOn v back t → GivesOne t u → VerdictComes (comes v t) (comes v u) × AwaitsOn v back u
gives_kept (Taker lane taken) back t u at one = let so = comes_of lane taken t u at.0 one in (so.0, (so.1, at.1))
gives_kept (Sender lane sent ended) back t u at one = let clash : [] ≡ last_told u ∷ left_of u = sym at.0 ∙ one.left in absurd (cc clash)
gives_kept Fresh back t u at one = let clash : [] ≡ last_told u ∷ left_of u = sym at.0 ∙ one.left in absurd (cc clash)
gives_kept Spent back t u at one = let clash : [] ≡ last_told u ∷ left_of u = sym at.0 ∙ one.left in absurd (cc clash)

-- .. or none is left of them
pub none_kept : (v back : View LaneKey) (t u : Told) → AwaitsOn v back t → left_of t ≡ [] → left_of u ≡ [] → u.given ≡ t.given → u.over ≡ t.over
    → AwaitsOn v back u
none_kept v back t u at none still given over = kept v at
  where
    same : left_of u ≡ left_of t
    same = still ∙ sym none

    kept : (w : View LaneKey) → AwaitsOn w back t → AwaitsOn w back u
    kept (Taker lane taken) (awaits, goes) = (
      record {
        left = subst (λ (q : ℕ × List Verdict). EachFrom (IsTold (key_of lane.epoch)) q.0 q.1) (λ i. (sym given i, sym same i)) awaits.left;
        next = λ on. (λ i. given i + length (same i)) ∙ awaits.next (sym over ∙ on);
        few = subst (λ (k : ℕ). k < 2 ^ 63) (λ i. sym given i + length (sym same i)) awaits.few;
      },
      goes,
    )
    kept (Sender lane sent ended) (left, few) = (still, subst (λ (k : ℕ). k < 2 ^ 63) (sym given) few)
    kept Fresh (left, few) = (still, subst (λ (k : ℕ). k < 2 ^ 63) (sym given) few)
    kept Spent (left, few) = (still, subst (λ (k : ℕ). k < 2 ^ 63) (sym given) few)

-- what a batch of verdicts is in its lane
abbrev pub is_judged : LaneKey → ℕ → Judged → Type 0
is_judged key k x = IsJudged (key_of key.epoch) k x

-- others came
pub refilled : (v w back after : View LaneKey) (x : Judged) (t r : Told) → TakesItem is_judged v x w
    → AwaitsOn v back t → left_of t ≡ [] → t.over ≡ false → ((key : UnitsKey) → GoesBack back key → GoesBack after key)
    → left_of r ≡ left_to_give x.told → r.over ≡ is_over x → r.given ≡ t.given → AwaitsOn w after r × (key_on w ≡ key_on v)
refilled (Taker lane taken) w back after x t r took at none still back_on left over given =
    let key = key_of lane.epoch in
    let zero_left = ap length none in
    let start = at.0.next still in
    let here : r.given ≡ batch_begins key taken = omega (arith, given, zero_left, start) in
    let many = ap length left in
    let few = took.0.few in (
      subst (λ (u : View LaneKey). AwaitsOn u after r) (sym took.1) (
        record {
          left = subst (λ (q : ℕ × List Verdict). EachFrom (IsTold key) q.0 q.1) (λ i. (sym here i, sym left i)) took.0.told;
          next = λ goes. behind_whole key taken (length (left_to_give x.told)) (r.given + length (left_of r)) (took.0.whole (sym over ∙ goes))
              (omega (arith, here, many));
          few = omega (arith, here, many, few);
        },
        back_on key at.1,
      ),
      ap key_on took.1,
    )
  where
    behind_whole : (key : UnitsKey) (b many sum : ℕ) → many ≡ size key b → sum ≡ batch_begins key b + many → sum ≡ batch_begins key (b + 1)
    behind_whole key b many sum full is =
        let next : b + 1 ≡ suc b = omega arith in is ∙ ap (λ (k : ℕ). batch_begins key b + k) full ∙ ap (batch_begins key) (sym next)
refilled (Sender lane sent ended) w back after x t r took at none still back_on left over given = absurd took
refilled Fresh w back after x t r took at none still back_on left over given = absurd took
refilled Spent w back after x t r took at none still back_on left over given = absurd took

-- .. and the first of them is given, or there are none
pub first_given : (w back : View LaneKey) (r u : Told) (out : Bool) → AwaitsOn w back r → GivesNextTold out r u
    → ComesNext out (comes w r) (comes w u) × AwaitsOn w back u
first_given w back r u true at next = gives_kept w back r u at next
first_given w back r u false at next = ((refl, next.2), none_kept w back r u at next.0 next.1 next.2 next.3)

-- what is given first of the others came behind what was given before them
pub come_behind : (out : Bool) (before old new : Coming) → old.key ≡ before.key → old.given ≡ before.given → ComesNext out old new
    → ComesNext out before new
come_behind true before old new key given next = record {
  verdict_is = subst (λ (q : EpochKey × ℕ). SaysDecided q.0 new.last (verdict_at q.0 q.1)) (λ i. (key i, given i)) next.verdict_is;
  key_is = next.key_is ∙ key;
  given_is = next.given_is ∙ ap (λ (n : ℕ). n + 1) given;
}
come_behind false before old new key given next = (next.0 ∙ key, next.1 ∙ given)
