-- One iteration's lines, compared.
use Rattle.std.specs.Prelude.{◌≡◌, ℕ, is_some, List, ℤ, Option, Some}
use Rattle.dp_tree.specs.declared.Program.{Program}
use Rattle.dp_tree.specs.Step.{clear_locals}
use Rattle.dp_plan.specs.declared.Plan.{Plan}
use Rattle.dp_meaning.specs.declared.ends.IterEnd.{IterEnd}
use Rattle.dp_meaning.specs.declared.ends.IterEnd.TheVariants.{Next, Closed, Fault, Fuel, Going}
use Rattle.dp_log.specs.LogText.{group_bytes}
use Rattle.dp_view.specs.Viewed.{Viewed, settled}
use Rattle.dp_auditor.specs.Comparing.{Compared, Compares}
use Rattle.dp_auditor.specs.Ending.{begun_next, if_differs, last_of, unless_differs}
use Rattle.dp_auditor.specs.Gathered.{sets_between}
use Rattle.dp_auditor.specs.declared.iterations.After.{After}

-- The lines of iteration i were compared, which another one follows, by what was kept of it; this comes behind them.
pub record NextCompared (i : ℕ) (printed : List ℤ) (v w : Viewed) (old new : Compared) (comes : Option After) : Type 0 where
  pub line : Option ℕ
  pub compares : Compares old new (group_bytes i (is_some v.found) (sets_between v.before (settled v).source) printed) line
  pub comes_is : comes ≡ if_differs line
  pub kept : w ≡ begun_next (is_some v.found) (settled v)

-- .. which none follows, and which ended so, with these cells behind it
pub record LastCompared (p : Program) (plan : Plan) (end : IterEnd) (i : ℕ) (printed cells : List ℤ) (v : Viewed) (old new : Compared)
    (comes : After) : Type 0 where
  pub line : Option ℕ
  pub compares : Compares old new (group_bytes i (last_of end v.found).1 (sets_between v.before (clear_locals plan.region p.vars cells)) printed) line
  pub comes_is : comes ≡ unless_differs line (last_of end v.found).0

-- .. of an iteration that ended so, whether one follows it or not
abbrev pub OneCompared : Program → Plan → IterEnd → ℕ → List ℤ → List ℤ → Viewed → Viewed → Compared → Compared → Option After → Type 0
OneCompared p plan Next i printed cells v w old new comes = NextCompared i printed v w old new comes
OneCompared p plan Closed i printed cells v w old new comes =
    (after : After) × (comes ≡ Some after) × LastCompared p plan Closed i printed cells v old new after
OneCompared p plan (Fault fault) i printed cells v w old new comes =
    (after : After) × (comes ≡ Some after) × LastCompared p plan (Fault fault) i printed cells v old new after
OneCompared p plan Fuel i printed cells v w old new comes = (after : After) × (comes ≡ Some after) × LastCompared p plan Fuel i printed cells v old new after
OneCompared p plan Going i printed cells v w old new comes = (after : After) × (comes ≡ Some after) × LastCompared p plan Going i printed cells v old new after
