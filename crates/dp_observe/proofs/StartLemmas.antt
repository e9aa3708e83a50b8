-- Before the run nothing was counted.
use Rattle.std.proofs.Common.{◌≡◌, refl, sym, ap, subst, ◌∙◌, ℕ, zero, suc, ◌+◌, ◌-◌, ◌^◌, ◌==◌, List, [], ◌∷◌, map, length, Some, slice_get, arith}
use Rattle.std.proofs.lemmas.List.{length-map}
use Rattle.dp_tree.specs.declared.Program.{Program}
use Rattle.dp_tree.specs.Inlined.{IsInlined}
use Rattle.dp_profile.specs.declared.sites.RegionSite.{RegionSite}
use Rattle.dp_profile.specs.Sites.{regions}
use Rattle.dp_observe.specs.declared.board.Board.{Board}
use Rattle.dp_observe.specs.declared.counter.Counter.{Counter}
use Rattle.dp_observe.specs.declared.frame.Writer.{Writer}
use Rattle.dp_observe.specs.declared.sparse.Sparse.{Sparse}
use Rattle.dp_observe.specs.declared.tally.Tally.{Tally}
use Rattle.dp_observe.specs.steps.Frames.{nobody, blank}
use Rattle.dp_observe.specs.steps.Owners.{owner_after}
use Rattle.dp_observe.specs.Sparse.{at}
use Rattle.dp_observe.specs.steps.Starting.{Starts, AllStart, first_of}
use Rattle.dp_observe.specs.steps.Tracking.{InOrder, FrameFits, TallyFits, CounterFits, BoardFits}
use Rattle.dp_observe.proofs.ApartLemmas.{regions_apart, owner_is, order_of}

all_same : {X Y : Type 0} (b : Y) (xs : List X) (k : ℕ) (y : Y) → slice_get (map (λ _. b) xs) k ≡ Some y → y ≡ b
all_same b [] k y e = absurd (cc e)
all_same b (x ∷ xs) zero y e = cc
all_same b (x ∷ xs) (suc k) y e = all_same b xs k y e

module _ (p : Program) (region : ℕ) (sites : List RegionSite) where
  blank_fits : (s : RegionSite) → TallyFits p region sites [] s blank
  blank_fits s = record { count = refl; shown = λ place d carried there. refl }

  frame_starts : InOrder (first_of sites).0 sites → FrameFits sites [] (record { first = first_of sites; since = 0; begun = 0; last = 0 })
  frame_starts order = record { first = order; within = omega arith; inside = λ _. (refl, refl); outside = λ other. absurd (other refl) }

  counter_starts : (c : Counter) → InOrder (first_of sites).0 sites → Starts p region sites c → CounterFits p region sites [] c
  counter_starts c order starts = record {
    frame = subst (FrameFits sites []) (sym starts.frame) (frame_starts order);
    locals = starts.locals;
    size = ap length starts.tallies ∙ length-map sites (λ _. blank);
    tallies = λ place s t there got.
        subst (TallyFits p region sites [] s) (sym (all_same blank sites place t (sym (ap (λ (ts : List Tally). slice_get ts place) starts.tallies)
        ∙ got))) (blank_fits s);
  }

pub board_starts : (p : Program) (b : Board) → IsInlined p → ((n : ℕ) → at b.owners n ≡ owner_after n 0 (2 ^ 64 - 1) (regions p)) →
    b.writers ≡ record { items = []; rest = nobody } → AllStart p (regions p) b.counters
    → BoardFits p [] b
board_starts p b inlined owners writers starts =
    let apart = regions_apart p inlined in let few = starts.few in
    record {
      writers = λ k. ap (λ (w : Sparse Writer). at w k) writers;
      owners = λ n place sites there.
          let from : 0 + place ≡ place = omega arith in
          owner_is n 1 0 (2 ^ 64 - 1) (regions p) place sites apart (omega (arith, few)) there ∙ ap (λ m. owner_after n 0 (2 ^ 64 - 1) (regions p) == m) from
          ∙ ap (λ o. o == place) (sym (owners n));
      size = starts.size;
      counters = λ place sites c there got. counter_starts p (place + 1) sites c (order_of 1 (regions p) place sites apart there)
          (starts.each place sites c there got);
    }
