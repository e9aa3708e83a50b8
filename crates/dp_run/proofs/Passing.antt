-- Runs that begin with some steps, and the regions that weren't reached in them.
use Rattle.std.proofs.Common.{◌≡◌, refl, sym, ap, ◌∙◌, ℕ, zero, suc, ◌+◌, ◌≤◌, true, not, List, [], ◌∷◌, ◌++◌, ℤ, length, map, All, length-append, slice_get}
use Rattle.std.proofs.Common.{arith}
use Rattle.std.proofs.lemmas.Bool.{and_from}
use Rattle.std.proofs.lemmas.List.Elements.{All-weaker}
use Rattle.std.proofs.lemmas.List.Sums.{list_all-from_AllPass}
use Rattle.std.specs.List.{list_all}
use Rattle.dp_base.specs.declared.End.{End}
use Rattle.dp_base.specs.declared.End.TheVariants.{Done}
use Rattle.dp_tree.specs.declared.Program.{Program}
use Rattle.dp_tree.specs.declared.Stmt.{Stmt}
use Rattle.dp_tree.specs.Step.{Config, Event, step_from}
use Rattle.dp_tree.specs.Trace.{Run, end_at, ended, run_of, run_by, prints}
use Rattle.dp_tree.specs.Iteration.{starts, places, stands_at_head, cells_in, cells_after}
use Rattle.dp_meaning.specs.declared.ends.Part.TheVariants as part
use Rattle.dp_meaning.specs.Continues.{Continues}
use Rattle.dp_meaning.specs.MachineState.{part_of}
use Rattle.dp_epoch.specs.RegionRun.{beyond}
use Rattle.dp_run.specs.Stretches.{HasPassed}
use Rattle.dp_run.proofs.Lists.{beyond_none, beyond_twice, places_moved, no_places}
use Rattle.dp_run.proofs.RegionsLeft.{off_plain, nothing_left}
use Rattle.dp_meaning.proofs.ContinuesLemmas.{continues_none, continues_join}
use Rattle.dp_meaning.proofs.MovedLemmas.{prints-append}
use Rattle.dp_commit.proofs.Lists.{places_behind}
use Rattle.dp_room.proofs.ListLemmas.{get_behind}

-- Where region r is at the head of none of a piece's configurations, its starts are those behind the piece.
pub starts_behind : (run rest : Run) (r : ℕ) (events : List Event) (configs : List Config) → Continues run events configs rest →
    list_all (λ c. not (stands_at_head r c)) configs ≡ true →
    starts run r ≡ map (beyond (length events)) (starts rest r)
starts_behind run rest r events configs c off =
    let size : 0 + length configs ≡ length events + 0 = omega (arith, c.paired) in
    ap (places (stands_at_head r) 0) c.configs ∙ places_behind (stands_at_head r) 0 configs rest.configs off
    ∙ ap (λ (n : ℕ). places (stands_at_head r) n rest.configs) size ∙ places_moved (stands_at_head r) (length events) 0 rest.configs

-- within a plain part no region is at the head
pub off_plain_part : (r : ℕ) (configs : List Config) → All (λ c. part_of c.to_do ≡ part.Plain) configs → list_all (λ c. not (stands_at_head r c)) configs ≡ true
off_plain_part r configs h = list_all-from_AllPass (λ c. not (stands_at_head r c)) configs (All-weaker (λ c. part_of c.to_do ≡ part.Plain)
    (λ c. not (stands_at_head r c) ≡ true) (off_plain r) configs h)

pub passed_none : (run : Run) (k : ℕ) → HasPassed run run k
passed_none run k = record { events = []; configs = []; piece = continues_none run; ahead = λ r h. sym (beyond_none (starts run r)) }

pub passed_on : (run here rest : Run) (k j : ℕ) → k ≤ j → HasPassed run here k → (events : List Event) (configs : List Config) →
    Continues here events configs rest →
    ((r : ℕ) → j ≤ r → starts here r ≡ map (beyond (length events)) (starts rest r)) → HasPassed run rest j
passed_on run here rest k j later a events configs c ahead = record {
  events = a.events ++ events;
  configs = a.configs ++ configs;
  piece = continues_join run here rest a.events events a.configs configs a.piece c;
  ahead = λ r h. a.ahead r (omega (arith, later, h)) ∙ ap (map (beyond (length a.events))) (ahead r h)
      ∙ beyond_twice (length a.events) (length events) (length (a.events ++ events)) (length-append a.events events) (starts rest r);
}

module _ (run rest : Run) (events : List Event) (configs : List Config) (c : Continues run events configs rest) where
  pub prints_on : prints run.trace ≡ prints events ++ prints rest.trace
  prints_on = ap prints c.trace ∙ prints-append events rest.trace

  pub config_at : (k : ℕ) → slice_get run.configs (length events + k) ≡ slice_get rest.configs k
  config_at k =
      ap (λ (cs : List Config). slice_get cs (length events + k)) c.configs ∙ ap (λ (n : ℕ). slice_get (configs ++ rest.configs) (n + k)) (sym c.paired)
      ∙ get_behind configs rest.configs k

  -- the memory after all steps, where the rest makes none
  pub cells_at_end : (last : Config) → rest.trace ≡ [] → rest.configs ≡ last ∷ [] → cells_after run (length run.trace) ≡ last.cells
  cells_at_end last none are =
      let size : length run.trace ≡ length events + 0 = omega (arith, ap length c.trace, length-append events rest.trace, ap length none) in
      ap (cells_after run) size ∙ ap cells_in (config_at 0) ∙ ap (λ (cs : List Config). cells_in (slice_get cs 0)) are

module _ (p : Program) (input : List ℤ) where
  -- where nothing is left to do, the run is over
  pub run_over : (n : ℕ) (c : Config) → part_of c.to_do ≡ part.Finished → run_of p input n c ≡ ended n c Done
  unfolding run_of
  run_over zero c e = ap (λ (xs : List Stmt). ended 0 c (end_at xs)) (nothing_left c.to_do e)
  run_over (suc n) c e = ap (run_by (run_of p input n) (suc n) c) (ap (step_from p input c.cells) (nothing_left c.to_do e))

-- a region that isn't at the head of the last configuration has no start in a run that is over
pub no_start : (rest : Run) (r n : ℕ) (last : Config) (how : End) → rest ≡ ended n last how → not (stands_at_head r last) ≡ true → starts rest r ≡ []
no_start rest r n last how e off =
    ap (λ (u : Run). starts u r) e ∙ no_places (stands_at_head r) 0 (last ∷ []) (and_from (not (stands_at_head r last)) true off refl)
