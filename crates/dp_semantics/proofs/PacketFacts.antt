-- A packet after a stage: its status, its lists, and what it says of the turn.
use Rattle.dp_semantics.proofs.Names.{status_when, ◌≡◌, refl, sym, ap, ◌∙◌, ℕ, zero, suc, ◌-◌, ◌<◌, Bool, true, false, List, [], ◌∷◌, ◌++◌, ℤ, length, get_or}
use Rattle.dp_semantics.proofs.Names.{Ok, Err, arith, get_or_append_left, both_ways, Word, word_list, TurnEnd, Ended, stage_run, Status, Going, Broken, Packet}
use Rattle.dp_semantics.proofs.Names.{Epoch, status_of, passed_by, passed_on, run_on, get_or-append_seam}
use Rattle.dp_semantics.proofs.Taking.{word_list_is}

-- not void
abbrev pub live : Status → Bool
live (Broken s why) = false
live _ = true

-- the status of the packet of an iteration that agrees with the plan, after so many stages
abbrev pub status_for : ℕ → Bool → Status
status_for zero closing = Going
status_for (suc s) closing = status_when closing

pub status_next : (s : ℕ) (closing : Bool) → status_of (status_for s closing) closing ≡ status_for (suc s) closing
status_next zero true = refl
status_next zero false = refl
status_next (suc s) true = refl
status_next (suc s) false = refl

pub status_live : (s : ℕ) (closing : Bool) → live (status_for s closing) ≡ true
status_live zero closing = refl
status_live (suc s) true = refl
status_live (suc s) false = refl

pub word_list-early : (lists : List (List Word)) (words : List Word) (t : ℕ) → 0 < t → t < suc (length lists) →
    word_list (lists ++ words ∷ []) t ≡ word_list lists t
word_list-early lists words t low high = word_list_is (lists ++ words ∷ []) t low ∙ get_or_append_left lists (words ∷ []) [] (t - 1) (omega (arith, low, high))
    ∙ sym (word_list_is lists t low)

pub word_list-last : (lists : List (List Word)) (words : List Word) (t : ℕ) → t ≡ suc (length lists) → word_list (lists ++ words ∷ []) t ≡ words
word_list-last lists words t e =
    let place : t - 1 ≡ length lists = omega (arith, e) in
    word_list_is (lists ++ words ∷ []) t (omega (arith, e)) ∙ ap (λ (n : ℕ). get_or (lists ++ words ∷ []) n []) place ∙ get_or-append_seam lists words [] []

pub passed_live : (k : Epoch) (s : ℕ) (before : List ℤ) (came : Packet) (turn : TurnEnd) (status : Status) → live status ≡ true →
    passed_on k s before came turn status ≡ passed_by k s before came turn
passed_live k s before came turn (Broken t why) e = absurd (cc)
passed_live k s before came turn _ e = refl

pub run_before : (k : Epoch) (s : ℕ) (before : List ℤ) (came : Packet) → (run_on k s before came).before ≡ before
run_before k s before came = by came.status (stage_run k.program k.plan k.input s before came.lists)
  where
    by : (status : Status) (turn : TurnEnd) → (passed_on k s before came turn status).before ≡ before
    by (Broken t why) turn = refl
    by _ (Ok e) = refl
    by _ (Err why) = refl

-- a packet that leaves a stage and isn't void: it came so, and the turn came to its end
pub record Left (k : Epoch) (s : ℕ) (before : List ℤ) (came : Packet) (turn : TurnEnd) (left : Packet) : Type 0 where
  pub ended : Ended
  pub ends : turn ≡ Ok ended
  pub alive : live came.status ≡ true
  pub lists : left.lists ≡ came.lists ++ ended.own ∷ []

pub left_live : (k : Epoch) (s : ℕ) (before : List ℤ) (came : Packet) (turn : TurnEnd) → live (passed_on k s before came turn came.status).packet.status ≡ true
    → Left k s before came turn (passed_on k s before came turn came.status).packet
left_live k s before came turn = by came.status refl turn
  where
    by : (status : Status) → came.status ≡ status → (turn : TurnEnd) → live (passed_on k s before came turn status).packet.status ≡ true →
        Left k s before came turn (passed_on k s before came turn status).packet
    by (Broken t why) is turn e = absurd (both_ways (live came.status) (ap live is) e)
    by _ is (Ok e) after = record { ended = e; ends = refl; alive = ap live is; lists = refl }
    by _ is (Err why) after = absurd (cc)
