-- The text of a program as a tree.
use Rattle.std.specs.Prelude.{ℕ, List, ◌++◌, codes}
use Rattle.dp_tree.specs.declared.Program.{Program}
use Rattle.dp_report.specs.Lines.{line, numbered}
use Rattle.dp_report.specs.SiteText.{site_bytes}
use Rattle.dp_tree_text.specs.VariableText.{variable_entry}
use Rattle.dp_tree_text.specs.StatementText.{statement_texts}

-- the list of its regions and sites, its variables, numbered from 0, and the statements of `main` up to their end
abbrev pub tree_bytes : Program → List ℕ
tree_bytes p = site_bytes p ++ numbered variable_entry 0 p.vars ++ line (codes "main") ++ statement_texts p.main ++ line (codes "end")
