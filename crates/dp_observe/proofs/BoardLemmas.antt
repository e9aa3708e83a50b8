-- What was counted in all regions, after one event more.
use Rattle.std.proofs.Common.{◌≡◌, ◌≢◌, refl, sym, ap, subst, ◌∙◌, ℕ, suc, ◌+◌, ◌==◌, if◌then◌else◌, List, ◌∷◌, length, Option, Some, None, slice_get}
use Rattle.std.proofs.Common.{slice_set, inl, inr, eqb-true, eq-eqb}
use Rattle.std.proofs.lemmas.Bool.{cases_Bool}
use Rattle.dp_tree.specs.declared.Program.{Program}
use Rattle.dp_tree.specs.Step.{Event, Effect, Stored, Printed, Decided, Tried}
use Rattle.dp_meaning.specs.Watched.{cells_of, effect_seen}
use Rattle.dp_profile.specs.declared.sites.RegionSite.{RegionSite}
use Rattle.dp_profile.specs.Sites.{regions}
use Rattle.dp_profile.specs.Observed.{stores_to_cell}
use Rattle.dp_observe.specs.declared.board.Board.{Board}
use Rattle.dp_observe.specs.declared.counter.Counter.{Counter}
use Rattle.dp_observe.specs.declared.sparse.Sparse.{Sparse}
use Rattle.dp_observe.specs.steps.Counting.{OwnerCounts, BoardCounts, writer_after}
use Rattle.dp_observe.specs.Sparse.{at}
use Rattle.dp_observe.specs.steps.Tracking.{writer_of, CounterFits, BoardFits}
use Rattle.dp_observe.proofs.HitLemmas.{same_test, unequal}
use Rattle.dp_observe.proofs.CounterLemmas.{get_set_same, get_set_other, length_set, counter_own, counter_other}

writer_next : (e : Event) (past : List Event) (k : ℕ) → writer_after (record { 0 = e.site }) (effect_seen e.effect) (suc (length past)) k (writer_of k past)
    ≡ writer_of k (e ∷ past)
writer_next e past k = by e.effect refl
  where
    by : (x : Effect) → e.effect ≡ x → writer_after (record { 0 = e.site }) (effect_seen x) (suc (length past)) k (writer_of k past)
        ≡ (if stores_to_cell k x then record { site = record { 0 = e.site }; after = suc (length past) } else writer_of k past)
    by (Stored cell value) is = ap (λ b. if b then record { site = record { 0 = e.site }; after = suc (length past) } else writer_of k past)
        (same_test k cell cell k (λ q. sym q) (λ q. sym q))
    by (Printed value) is = refl
    by (Decided value) is = refl
    by (Tried value) is = refl

module _ (p : Program) (e : Event) (past : List Event) (old new : Board) (fits : BoardFits p past old)
    (counts : BoardCounts (record { 0 = e.site }) (effect_seen e.effect) (cells_of e.loads) (suc (length past)) old new) where
  abbrev owner : ℕ
  owner = at old.owners e.site

  abbrev New : List Counter → Type 0
  New cs = (length cs ≡ length (regions p))
      × ((place : ℕ) (sites : List RegionSite) (c : Counter) → slice_get (regions p) place ≡ Some sites → slice_get cs place ≡ Some c →
      CounterFits p (place + 1) sites (e ∷ past) c)

  -- a region that isn't the event's
  other_region : (place : ℕ) (sites : List RegionSite) (c : Counter) → slice_get (regions p) place ≡ Some sites → slice_get old.counters place ≡ Some c →
      owner ≢ place → CounterFits p (place + 1) sites (e ∷ past) c
  other_region place sites c there got other =
      counter_other p (place + 1) sites e past c (fits.owners e.site place sites there ∙ unequal owner place other) (fits.counters place sites c there got)

  new_by : (o : Option Counter) → slice_get old.counters owner ≡ o → OwnerCounts (record { 0 = e.site }) (effect_seen e.effect) (cells_of e.loads)
      (suc (length past)) old.writers owner old.counters new.counters o → New new.counters
  new_by None got so = (
    ap length so ∙ fits.size,
    λ place sites c there has.
        let has : slice_get old.counters place ≡ Some c = sym (ap (λ (cs : List Counter). slice_get cs place) so) ∙ has in
        other_region place sites c there has (λ is. let clash = sym got ∙ ap (slice_get old.counters) is ∙ has in cc clash),
  )
  new_by (Some c0) got so = (
    ap length so.1 ∙ length_set old.counters owner so.0 ∙ fits.size,
    λ place sites c there has.
        let has : slice_get (slice_set old.counters owner so.0) place ≡ Some c = sym (ap (λ (cs : List Counter). slice_get cs place) so.1) ∙ has in
        elim (cases_Bool (owner == place)) [
          | inl is ↦
              let same : owner ≡ place = eqb-true owner place is in
              let mine : slice_get old.counters place ≡ Some c0 = ap (slice_get old.counters) (sym same) ∙ got in
              let set : c ≡ so.0 = get_set_same old.counters owner so.0 c (ap (slice_get (slice_set old.counters owner so.0)) same ∙ has) in
              subst (CounterFits p (place + 1) sites (e ∷ past)) (sym set)
              (counter_own p (place + 1) sites e past old.writers c0 so.0 (fits.counters place sites c0 there mine) (fits.owners e.site place sites there
              ∙ is) fits.writers so.2)
          | inr is ↦
              let other : owner ≢ place = λ same. let clash = sym (eq-eqb owner place same) ∙ is in cc clash in
              other_region place sites c there (sym (get_set_other old.counters owner place so.0 (λ same. other (sym same))) ∙ has) other
        ],
  )

  -- an event is counted
  pub board_next : BoardFits p (e ∷ past) new
  board_next =
      let counted = new_by (slice_get old.counters owner) refl counts.counters in
      record {
        writers = λ k. counts.writers k ∙ ap (writer_after (record { 0 = e.site }) (effect_seen e.effect) (suc (length past)) k) (fits.writers k)
            ∙ writer_next e past k;
        owners = λ n place sites there. fits.owners n place sites there ∙ ap (λ (o : Sparse ℕ). at o n == place) (sym counts.owners);
        size = counted.0;
        counters = counted.1;
      }
