-- The law of a lean text's code.
use Rattle.std.specs.Prelude.{ℕ, ◌<◌, Bool, List}
use Rattle.dp_tree.specs.declared.Stmt.{Stmt}
use Rattle.dp_tree.specs.declared.Program.{Program}
use Rattle.dp_plan.specs.declared.Plan.{Plan}
use Rattle.dp_net.specs.Hidden.{marks_of}
use Rattle.dp_lean_code.specs.LeanCode.{lean_code, IsLeanCode}

-- Whichever runs of quiet statements are taken for blocks, a stage's code does what its lean turn does.
abbrev pub CodeIsRight : Program → Plan → Type 0
CodeIsRight p plan = (pays : List Stmt → Bool) (s : ℕ) → 0 < s → IsLeanCode p plan (marks_of p plan pays) s (lean_code p plan s (marks_of p plan pays))
