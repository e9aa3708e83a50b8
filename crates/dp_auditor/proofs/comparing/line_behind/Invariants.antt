use Rattle.std.proofs.Common.{◌≡◌, ◌+◌, ◌≤◌, drop}
use Rattle.dp_auditor.specs.Comparing.{breaks}
use Rattle.dp_auditor.proofs.comparing.line_behind.Given as goal

abbrev pub invariant-loop-byte : goal.invariant-loop-byte
invariant-loop-byte l = record {
  count : l.line + breaks (drop l.byte-index l.text) ≡ 1 + breaks l.text;
  few : l.line ≤ 1 + l.byte-index;
}
