-- The judgement on an epoch's packets, against the source's iterations.
use Rattle.dp_semantics.proofs.Names.{◌≡◌, refl, sym, ap, ◌∙◌, ℕ, ◌≤◌, true, false, List, ℤ, length, map, arith, Status, Broken, Packet, Epoch, passed}
use Rattle.dp_semantics.proofs.Names.{Judgement, Agreed, Clean, judge, judge_lists, judge_status, effect_in, site_in}
use Rattle.dp_theorem.proofs.Whole.{MadeWithin, judge_whole, judge_whole_back, closing_after}
use Rattle.dp_semantics.proofs.PacketFacts.{live, status_live}
use Rattle.dp_theorem.proofs.Epochs.{History, numbered, past_at, MakesAt, Gone, ready, Sent, claims_at}

module _ {k : Epoch} (h : History k) where
  open k use {program, plan}
  open h use {ok, memory, events}

  abbrev pub last_packet : ℕ → Packet
  last_packet n = (passed k (length plan.stages) n).packet

  judge_live : (m : ℕ) (cells : List ℤ) (packet : Packet) → live packet.status ≡ true → judge program plan m cells packet ≡ judge_lists program plan
      m cells packet.lists
  judge_live m cells packet alive = by packet.status alive
    where
      by : (status : Status) → live status ≡ true → judge_status (judge_lists program plan m cells packet.lists) status ≡ judge_lists program plan
          m cells packet.lists
      by (Broken s why) e = absurd (cc)
      by _ e = refl

  clean_live : (judgement : Judgement) (verdict : Agreed) (status : Status) → judge_status judgement status ≡ Clean verdict → live status ≡ true
  clean_live judgement verdict (Broken s why) e = absurd (cc)
  clean_live judgement verdict _ e = refl

  -- The packet of an iteration that agrees with the plan has the source's words, and is judged Clean with the source's effects.
  pub record WellJudged (n m : ℕ) : Type 0 where
    pub sent : Sent h (length plan.stages) n (last_packet n)
    pub judged : judge program plan m (memory n) (last_packet n) ≡ Clean
        (record { effects = map effect_in (events n); sites = map site_in (events n); closing = closing_after program plan false (events n) })

  pub clean_is_judged : (n m : ℕ) → Gone h n → MakesAt h n → length (events n) ≤ m → WellJudged n m
  clean_is_judged n m g makes within =
      let sent = (claims_at h (length plan.stages) (omega arith) n g).sent makes in
      record {
        sent = sent;
        judged = judge_live m (memory n) (last_packet n) (ap live sent.status ∙ status_live (length plan.stages) (closing_after program plan false (events n)))
            ∙ judge_whole ok (numbered h.first n) (past_at h.first events n) (memory n) (ready h n g).at m (events n) makes within (last_packet n).lists
            sent.words (omega (arith, sent.count));
      }

  -- Where the packet is judged Clean within m steps, the source makes the iteration within m steps in agreement with the plan.
  pub judged_is_clean : (n m : ℕ) → Gone h n → (verdict : Agreed) → judge program plan m (memory n) (last_packet n) ≡ Clean verdict →
      MadeWithin ok (numbered h.first n) (past_at h.first events n) (memory n) m
  judged_is_clean n m g verdict judged =
      let alive = clean_live (judge_lists program plan m (memory n) (last_packet n).lists) verdict (last_packet n).status judged in
      let ends = (claims_at h (length plan.stages) (omega arith) n g).ends alive in
      judge_whole_back ok (numbered h.first n) (past_at h.first events n) (memory n) (ready h n g).at m (last_packet n).lists (omega (arith, ends.count))
      ends.turns verdict (sym (judge_live m (memory n) (last_packet n) alive) ∙ judged)
