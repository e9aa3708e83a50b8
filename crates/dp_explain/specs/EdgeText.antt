-- The lines of dependences: all that the text of a region has, and those that its plan minds.
use Rattle.std.specs.Prelude.{ℕ, ◌-◌, List, [], ◌++◌, codes, Option, Some, None, slice_get}
use Rattle.std.specs.List.{flat_map}
use Rattle.dp_text.specs.Labels.{labelled}
use Rattle.dp_tree.specs.declared.VarInfo.{VarInfo}
use Rattle.dp_tree.specs.declared.Program.{Program}
use Rattle.dp_depend.specs.declared.Edge.{Edge}
use Rattle.dp_depend.specs.declared.EdgeKind.{EdgeKind}
use Rattle.dp_depend.specs.declared.EdgeKind.TheVariants.{Control, Intra, Carried}
use Rattle.dp_depend.specs.declared.nodes.Node.{Node}

-- what a site stores, where these are the sites from the first one on
abbrev pub node_store : Option Node → Option ℕ
node_store None = None
node_store (Some n) = n.stores

abbrev pub node_store_at : ℕ → List Node → ℕ → Option ℕ
node_store_at first nodes site = node_store (slice_get nodes (site - first))

-- a variable's name
abbrev pub name_text : Option VarInfo → List ℕ
name_text None = []
name_text (Some info) = codes " " ++ info.name

-- a variable's number and name
abbrev pub variable_text : Program → Option ℕ → List ℕ
variable_text p None = []
variable_text p (Some x) = labelled (codes " ") x ++ name_text (slice_get p.vars x)

-- By the first site's condition, or by what it stores: in the same iteration, or in an earlier one.
abbrev pub kind_text : Program → EdgeKind → Option ℕ → List ℕ
kind_text p Control stored = codes " control"
kind_text p Intra stored = codes " intra" ++ variable_text p stored
kind_text p Carried stored = codes " carried" ++ variable_text p stored

-- behind a label, that the second site depends on the first
abbrev pub edge_text : List ℕ → Program → ℕ → List Node → Edge → List ℕ
edge_text label p first nodes e =
    labelled label e.from.0 ++ (labelled (codes " ") e.to.0 ++ (kind_text p e.kind (node_store_at first nodes e.from.0) ++ codes "\n"))

-- a line for each of these edges
abbrev pub edge_texts : List ℕ → Program → ℕ → List Node → List Edge → List ℕ
edge_texts label p first nodes edges = flat_map (edge_text label p first nodes) edges
