-- The central theorem: the judgement is the source's. It is Clean exactly at the clean iterations, with what the source did.
use Rattle.std.specs.Prelude.{◌≡◌, ℕ, suc, ◌+◌, ◌-◌, ◌<◌, ◌≤◌, ◌==◌, Bool, true, false, List, [], ◌∷◌, ℤ, length, drop, map, filter, Option, Some, None}
use Rattle.std.specs.Prelude.{slice_get}
use Rattle.std.specs.List.{flat_map}
use Rattle.dp_base.specs.declared.Word.{Word}
use Rattle.dp_tree.specs.declared.Program.{Program}
use Rattle.dp_plan.specs.declared.Plan.{Plan}
use Rattle.dp_tree.specs.declared.Stmt.{Stmt}
use Rattle.dp_tree.specs.Step.{Config, Event, Effect, stored, clear_locals, standing}
use Rattle.dp_tree.specs.Trace.{Run, run_of, begin}
use Rattle.dp_tree.specs.InMain.{StandsInMain}
use Rattle.dp_tree.specs.Iteration.{start, iteration, is_closing, has_ended, memory_after}
use Rattle.dp_plan.specs.Access.{stage_of}
use Rattle.dp_semantics.specs.Clean.{is_clean}
use Rattle.dp_semantics.specs.Recovery.{epoch}
use Rattle.dp_semantics.specs.Words.{words_of, word_list}
use Rattle.dp_semantics.specs.Packets.{Status, Going, Closing, Packet, Epoch, passed}
use Rattle.dp_semantics.specs.Judge.{Judgement, Agreed, Clean, judge}

-- the run of the program from its start
abbrev pub source_run : Program → List ℤ → ℕ → Run
source_run p input fuel = run_of p input fuel (begin p)

-- the epoch that begins at iteration e of the run
abbrev pub epoch_at : Program → Plan → List ℤ → Run → ℕ → Epoch
epoch_at p plan input run e = record { program = p; plan = plan; input = input; base = memory_after run plan.region e }

-- what the last stage sends for iteration i of that epoch
abbrev pub packet_at : Program → Plan → List ℤ → Run → ℕ → ℕ → Packet
packet_at p plan input run e i = (passed (epoch_at p plan input run e) (length plan.stages) (i - e)).packet

-- its judgement from the committed memory, where k steps were made before the iteration
abbrev pub judgement_at : Program → Plan → List ℤ → Run → ℕ → ℕ → ℕ → Judgement
judgement_at p plan input run e i k = judge p plan (run.fuel - k) (memory_after run plan.region i) (packet_at p plan input run e i)

-- the event's effect
abbrev pub effect_in : Event → Effect
effect_in event = event.effect

-- .. and its site
abbrev pub site_in : Event → ℕ
site_in event = event.site

-- what the source does in iteration i
abbrev pub done_in : Plan → Run → ℕ → Agreed
done_in plan run i =
    record { effects = map effect_in (iteration run plan.region i); sites = map site_in (iteration run plan.region i); closing = is_closing run plan.region i }

-- the words of the events at the sites of stage t
abbrev pub words_at_stage : Program → Plan → List Event → ℕ → List Word
words_at_stage p plan events t = flat_map (words_of p plan) (filter (λ event. stage_of p plan event.site == t) events)

-- the iterations from e up to i, without i, are clean
abbrev pub CleanSince : Program → Plan → Run → ℕ → ℕ → Type 0
CleanSince p plan run e i = (j : ℕ) → e ≤ j → j < i → is_clean p plan run e j ≡ true

-- the memory after these effects
abbrev pub applied : List Effect → List ℤ → List ℤ
applied [] cells = cells
applied (effect ∷ rest) cells = applied rest (stored effect cells)

-- a packet closes, or goes on
abbrev pub status_when : Bool → Status
status_when true = Closing
status_when false = Going

-- The packet of a clean iteration isn't void, has the words of the source's events, and is judged Clean with what the source did.
pub record SentClean (p : Program) (plan : Plan) (input : List ℤ) (run : Run) (e i k : ℕ) : Type 0 where
  pub status : (packet_at p plan input run e i).status ≡ status_when (is_closing run plan.region i)
  pub words : (t : ℕ) → 0 < t → t ≤ length plan.stages → word_list (packet_at p plan input run e i).lists t ≡ words_at_stage p plan
      (iteration run plan.region i) t
  pub judged : judgement_at p plan input run e i k ≡ Clean (done_in plan run i)

-- Where the iteration is clean, its packet is judged so, and where its packet is judged Clean, the iteration is clean.
pub record Judged (p : Program) (plan : Plan) (input : List ℤ) (run : Run) (e i k : ℕ) : Type 0 where
  pub sent : is_clean p plan run e i ≡ true → SentClean p plan input run e i k
  pub back : (v : Agreed) → judgement_at p plan input run e i k ≡ Clean v → is_clean p plan run e i ≡ true

-- In a run that begins within `main`, and in an epoch whose iterations so far are clean, the next one that starts is judged rightly.
abbrev pub JudgesRightly : Program → Plan → Type 0
JudgesRightly p plan = (input : List ℤ) (fuel : ℕ) (c : Config) → StandsInMain p c → (e i k : ℕ) → e ≤ i →
    start (run_of p input fuel c) plan.region i ≡ Some k → CleanSince p plan (run_of p input fuel c) e i →
    Judged p plan input (run_of p input fuel c) e i k

-- So each iteration that starts is judged rightly in its own epoch.
abbrev pub JudgesEpochs : Program → Plan → Type 0
JudgesEpochs p plan = (input : List ℤ) (fuel : ℕ) (c : Config) → StandsInMain p c → (i k : ℕ) → start (run_of p input fuel c) plan.region i ≡ Some k →
    Judged p plan input (run_of p input fuel c) (epoch p plan (run_of p input fuel c) i) i k

-- the statements of a configuration, if there is one
abbrev pub to_do_in : Option Config → List Stmt
to_do_in None = []
to_do_in (Some c) = c.to_do

-- what is left to do after so many steps
abbrev pub to_do_after : Run → ℕ → List Stmt
to_do_after run k = to_do_in (slice_get run.configs k)

-- the memory after the iteration's effects
abbrev pub memory_of : Run → ℕ → ℕ → List ℤ
memory_of run r i = applied (map effect_in (iteration run r i)) (memory_after run r i)

-- The next iteration starts after this one's steps, from this one's stores with the body locals at 0, and the same is left to do.
pub record Follows (p : Program) (r : ℕ) (run : Run) (i k : ℕ) : Type 0 where
  pub next_start : start run r (suc i) ≡ Some (k + length (iteration run r i))
  pub memory : memory_after run r (suc i) ≡ clear_locals r p.vars (memory_of run r i)
  pub config : slice_get run.configs (k + length (iteration run r i)) ≡ Some (standing p (to_do_after run k) (memory_of run r i))

-- The closing iteration is the last one. It leaves its stores with the body locals at 0, and what is left to do stands behind the region.
pub record Closes (p : Program) (r : ℕ) (run : Run) (i k : ℕ) : Type 0 where
  pub unreached : start run r (suc i) ≡ None
  pub memory : memory_after run r (suc i) ≡ (standing p (drop 1 (to_do_after run k)) (clear_locals r p.vars (memory_of run r i))).cells
  pub config : slice_get run.configs (k + length (iteration run r i)) ≡ Some
      (standing p (drop 1 (to_do_after run k)) (clear_locals r p.vars (memory_of run r i)))

-- After an iteration that ended and didn't close, the next one follows.
abbrev pub StoresLead : Program → Plan → Type 0
StoresLead p plan = (input : List ℤ) (fuel : ℕ) (c : Config) → StandsInMain p c → (i k : ℕ) → start (run_of p input fuel c) plan.region i ≡ Some k →
    has_ended (run_of p input fuel c) plan.region i ≡ true → is_closing (run_of p input fuel c) plan.region i ≡ false →
    Follows p plan.region (run_of p input fuel c) i k

-- After a closing one the run goes on behind the region.
abbrev pub ClosingLeaves : Program → Plan → Type 0
ClosingLeaves p plan = (input : List ℤ) (fuel : ℕ) (c : Config) → StandsInMain p c → (i k : ℕ) → start (run_of p input fuel c) plan.region i ≡ Some k →
    is_closing (run_of p input fuel c) plan.region i ≡ true → Closes p plan.region (run_of p input fuel c) i k
