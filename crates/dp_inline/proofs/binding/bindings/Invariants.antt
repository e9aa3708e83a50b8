use Rattle.std.proofs.Common.{◌≡◌, drop}
use Rattle.dp_inline.specs.steps.Written.{written, after_bindings}
use Rattle.dp_inline.proofs.binding.bindings.Given as goal

abbrev pub invariant-loop-i : goal.invariant-loop-i
invariant-loop-i l = after_bindings l.p l.region l.line l.caller (written l.fn.out) l.params l.args ≡ after_bindings l.p l.region l.line l.caller
    (written l.out) (drop l.i l.params) (drop l.i l.args)
