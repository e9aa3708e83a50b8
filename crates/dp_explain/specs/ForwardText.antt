-- What goes forward between stages. A stage sends all that the sites up to it told, to each later stage and to the judging, so the words alone
-- say nothing of a plan. What a later stage needs of them are the sites that its own depend on, by the dependences that the plan minds.
use Rattle.std.specs.Prelude.{ℕ, if◌then◌else◌, Bool, ◌&&◌, nat_le, nat_lt, List, [], ◌++◌, codes, length}
use Rattle.std.specs.List.{flat_map}
use Rattle.dp_text.specs.Labels.{labelled}
use Rattle.dp_tree.specs.declared.Program.{Program}
use Rattle.dp_tree.specs.Numbering.{numbers_from}
use Rattle.dp_plan.specs.declared.Plan.{Plan}
use Rattle.dp_plan.specs.Stage.{stage_of}
use Rattle.dp_depend.specs.declared.Edge.{Edge}
use Rattle.dp_depend.specs.declared.nodes.Node.{Node}
use Rattle.dp_explain.specs.EdgeText.{edge_text}

-- the first site is of stage k or an earlier one, and the second of a later one
abbrev pub goes_forward : Program → Plan → ℕ → Edge → Bool
goes_forward p plan k e = nat_le (stage_of p plan e.from.0) k && nat_lt k (stage_of p plan e.to.0)

-- the edge, where it goes forward behind stage k
abbrev pub forward_line : Program → Plan → ℕ → List Node → ℕ → Edge → List ℕ
forward_line p plan first nodes k e = if goes_forward p plan k e then labelled (codes "forward ") k ++ edge_text (codes " ") p first nodes e else []

-- those of these edges that go forward behind stage k
abbrev pub lines_behind : Program → Plan → ℕ → List Node → List Edge → ℕ → List ℕ
lines_behind p plan first nodes edges k = flat_map (forward_line p plan first nodes k) edges

-- .. behind each stage
abbrev pub forward_lines : Program → Plan → ℕ → List Node → List Edge → List ℕ
forward_lines p plan first nodes edges = flat_map (lines_behind p plan first nodes edges) (numbers_from 1 (length plan.stages))
