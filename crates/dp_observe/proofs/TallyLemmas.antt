-- What was counted at a site, after one event more.
use Rattle.std.proofs.Common.{◌≡◌, refl, sym, ap, ◌∙◌, ℕ, ◌+◌, ◌*◌, ◌==◌, ◌&&◌, Bool, true, false, List, ◌∷◌, count_by, arith}
use Rattle.dp_room.specs.OneIf.{one_if}
use Rattle.dp_tree.specs.declared.Program.{Program}
use Rattle.dp_tree.specs.Step.{Event, Effect, Stored, Printed, Decided, Tried}
use Rattle.dp_meaning.specs.Watched.{cells_of, effect_seen}
use Rattle.dp_profile.specs.declared.SiteCount.{SiteCount}
use Rattle.dp_profile.specs.declared.sites.RegionSite.{RegionSite}
use Rattle.dp_profile.specs.Sites.{has_numbered_site}
use Rattle.dp_profile.specs.Observed.{gives_nonzero, counts_of_site, is_body_cell, shown_by, shown_back}
use Rattle.dp_observe.specs.declared.frame.Frame.{Frame}
use Rattle.dp_observe.specs.declared.frame.Writer.{Writer}
use Rattle.dp_observe.specs.declared.sparse.Sparse.{Sparse}
use Rattle.dp_observe.specs.declared.tally.Tally.{Tally}
use Rattle.dp_observe.specs.steps.Counting.{TallyCounts}
use Rattle.dp_observe.specs.steps.Frames.{is_nonzero, counted, loads_at}
use Rattle.dp_observe.specs.Sparse.{at}
use Rattle.dp_observe.specs.steps.Tracking.{writer_of, since, begun, InOrder, TallyFits}
use Rattle.dp_observe.proofs.HitLemmas.{count_cons, loads_shown}

nonzero_seen : (e : Effect) → is_nonzero (effect_seen e) ≡ gives_nonzero e
nonzero_seen (Stored cell value) = refl
nonzero_seen (Printed value) = refl
nonzero_seen (Decided value) = refl
nonzero_seen (Tried value) = refl

abbrev count_of : ℕ → ℕ → SiteCount
count_of runs nonzero = record { runs = runs; nonzero = nonzero }

from_zero : (n : ℕ) → 0 + n ≡ n
from_zero n = omega arith

nothing_more : (runs nonzero : ℕ) → count_of (0 + runs) (0 + nonzero) ≡ count_of runs nonzero
nothing_more runs nonzero = ap (λ n. count_of n (0 + nonzero)) (from_zero runs) ∙ ap (count_of runs) (from_zero nonzero)

module _ (p : Program) (region : ℕ) (sites : List RegionSite) (e : Event) (past : List Event) (s : RegionSite) where
  count_next : (same : Bool) → (e.site == s.site.0) ≡ same
      → counts_of_site (e ∷ past) s ≡ count_of (one_if same + count_by (λ (d : Event). d.site == s.site.0) past)
      (one_if (same && gives_nonzero e.effect) + count_by (λ (d : Event). (d.site == s.site.0) && gives_nonzero d.effect) past)
  count_next same is =
      ap (λ n. count_of n (count_by (λ (d : Event). (d.site == s.site.0) && gives_nonzero d.effect) (e ∷ past)))
      (count_cons (λ (d : Event). d.site == s.site.0) e past ∙ ap (λ b. one_if b + count_by (λ (d : Event). d.site == s.site.0) past) is)
      ∙ ap (count_of (one_if same + count_by (λ (d : Event). d.site == s.site.0) past))
      (count_cons (λ (d : Event). (d.site == s.site.0) && gives_nonzero d.effect) e past
      ∙ ap (λ b. one_if (b && gives_nonzero e.effect) + count_by (λ (d : Event). (d.site == s.site.0) && gives_nonzero d.effect) past) is)

  -- an event at another site
  pub tally_other : (t : Tally) → (e.site == s.site.0) ≡ false → TallyFits p region sites past s t → TallyFits p region sites (e ∷ past) s t
  tally_other t other fits = record {
    count = fits.count ∙ sym (count_next false other ∙ nothing_more (count_by (λ (d : Event). d.site == s.site.0) past)
        (count_by (λ (d : Event). (d.site == s.site.0) && gives_nonzero d.effect) past));
    shown = λ place d carried there. fits.shown place d carried there ∙ sym (rw other (from_zero (shown_back p region sites d.site.0 s.site.0 carried past)));
  }

  -- an event at the site
  pub tally_own : (f : Frame) (writers : Sparse Writer) (locals : Sparse Bool) (t u : Tally) → InOrder f.first.0 sites → has_numbered_site e.site sites ≡ true →
      f.since ≡ since sites (e ∷ past) → f.begun ≡ begun sites (e ∷ past)
      → ((k : ℕ) → at writers k ≡ writer_of k past) → ((k : ℕ) → at locals k ≡ is_body_cell p region k) → (e.site == s.site.0) ≡ true
      → TallyCounts (effect_seen e.effect) (cells_of e.loads) f writers locals t u → TallyFits p region sites past s t → TallyFits p region sites (e ∷ past) s u
  tally_own f writers locals t u order here starts begins written local same counts fits = record {
    count = counts.count ∙ ap (λ (c : SiteCount). counted c (effect_seen e.effect)) fits.count ∙ one_more ∙ sym (count_next true same);
    shown = λ place d carried there.
        counts.shown (2 * place + one_if carried)
        ∙ ap (λ n. n + loads_at f writers locals (2 * place + one_if carried) (cells_of e.loads)) (fits.shown place d carried there)
        ∙ ap (λ n. shown_back p region sites d.site.0 s.site.0 carried past + n) (loads_shown p region sites e past f writers locals order here starts begins
        written local place d carried there)
        ∙ swap (shown_back p region sites d.site.0 s.site.0 carried past) (shown_by p region sites d.site.0 carried e past)
        ∙ sym (rw same refl);
  }
    where
      swap : (a b : ℕ) → a + b ≡ b + a
      swap a b = omega arith

      runs : ℕ
      runs = count_by (λ (d : Event). d.site == s.site.0) past

      nonzero : ℕ
      nonzero = count_by (λ (d : Event). (d.site == s.site.0) && gives_nonzero d.effect) past

      one_more : count_of (runs + 1) (nonzero + one_if (is_nonzero (effect_seen e.effect))) ≡ count_of (1 + runs) (one_if (gives_nonzero e.effect) + nonzero)
      one_more = ap (λ n. count_of n (nonzero + one_if (is_nonzero (effect_seen e.effect)))) (swap runs 1)
          ∙ ap (λ b. count_of (1 + runs) (nonzero + one_if b)) (nonzero_seen e.effect)
          ∙ ap (count_of (1 + runs)) (swap nonzero (one_if (gives_nonzero e.effect)))
