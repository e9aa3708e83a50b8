-- How far a count is reported.
use Rattle.std.specs.Prelude.{ℕ, min}
use Rattle.dp_base.specs.declared.limits.TheConstants.{COUNTED}

-- a count as it is reported
abbrev pub reported_count : ℕ → ℕ
reported_count n = min n COUNTED
