-- A run goes on from each of its configurations as the run from there does, with the same iterations.
use Rattle.std.specs.Prelude.{◌≡◌, ℕ, ◌+◌, ◌-◌, true, List, ℤ, drop, Option, Some, None, is_some, slice_get, count_by, nat_lt}
use Rattle.dp_tree.specs.declared.Program.{Program}
use Rattle.dp_tree.specs.Step.{Config}
use Rattle.dp_tree.specs.Trace.{Run, run_of}
use Rattle.dp_tree.specs.Iteration.{starts, start, is_begun, begun_count, iteration, is_closing, has_ended, memory_after}

-- the number, if there is one, with k more
abbrev pub moved : ℕ → Option ℕ → Option ℕ
moved k None = None
moved k (Some n) = Some (k + n)

-- After k steps, with m starts of region r among them, the run goes on as `rest`.
pub record GoesOnAs (r m k : ℕ) (run rest : Run) : Type 0 where
  pub fuel : run.fuel ≡ k + rest.fuel
  pub trace : drop k run.trace ≡ rest.trace
  pub configs : drop k run.configs ≡ rest.configs
  pub end : run.end ≡ rest.end
  -- its iterations from m on are those of the rest
  pub started : (i : ℕ) → start run r (m + i) ≡ moved k (start rest r i)
  pub begun : (i : ℕ) → is_begun run r (m + i) ≡ is_begun rest r i
  pub begun_in_all : begun_count run r ≡ m + begun_count rest r
  pub iterations : (i : ℕ) → iteration run r (m + i) ≡ iteration rest r i
  pub closing : (i : ℕ) → is_closing run r (m + i) ≡ is_closing rest r i
  pub ended : (i : ℕ) → has_ended run r (m + i) ≡ has_ended rest r i
  -- and so are the memories between them, where the rest reaches the region
  pub memory : is_some (start rest r 0) ≡ true → (i : ℕ) → memory_after run r (m + i) ≡ memory_after rest r i

-- the number of starts of region r before step k
abbrev pub starts_before : Run → ℕ → ℕ → ℕ
starts_before run r k = count_by (λ n. nat_lt n k) (starts run r)

-- Each run goes on so from its configuration after k steps.
abbrev pub GoesOn : Program → List ℤ → Type 0
GoesOn p input = (fuel k r : ℕ) (c d : Config) → slice_get (run_of p input fuel c).configs k ≡ Some d →
    GoesOnAs r (starts_before (run_of p input fuel c) r k) k (run_of p input fuel c) (run_of p input (fuel - k) d)

-- .. and where iteration m starts there, from that iteration on.
abbrev pub GoesOnFrom : Program → List ℤ → Type 0
GoesOnFrom p input = (fuel k r m : ℕ) (c d : Config) → slice_get (run_of p input fuel c).configs k ≡ Some d → start (run_of p input fuel c) r m ≡ Some k →
    GoesOnAs r m k (run_of p input fuel c) (run_of p input (fuel - k) d) × (start (run_of p input (fuel - k) d) r 0 ≡ Some 0)
