-- What is so of every program that was checked.
use Rattle.std.specs.Prelude.{◌≡◌, Bool, true}
use Rattle.std.specs.List.{list_all}
use Rattle.dp_tree.specs.declared.Function.{Function}
use Rattle.dp_tree.specs.declared.Program.{Program}
use Rattle.dp_tree.specs.Layout.{globals_first, lies_in_order}
use Rattle.dp_tree.specs.Numbering.{SitesInOrder, is_plain, regions_in_order}
use Rattle.dp_tree.specs.Scoping.{is_scoped}
use Rattle.dp_tree.specs.SiteTable.{SitesAsInText}

-- no region stands in the function
abbrev pub is_plain_function : Function → Bool
is_plain_function f = list_all is_plain f.body

pub record IsChecked (p : Program) : Type 0 where
  -- the file-scope variables come first, and the cells of all variables one after the other
  pub globals : globals_first p.vars ≡ true
  pub cells : lies_in_order 0 p.vars ≡ true
  -- sites are numbered in text order, those of `main` first
  pub sites : SitesInOrder p
  -- .. and the table has the kind and the region of each
  pub roles : SitesAsInText p
  -- regions stand at the top of `main` alone, numbered in text order
  pub regions : regions_in_order 1 p.main ≡ true
  pub functions : list_all is_plain_function p.functions ≡ true
  -- each name is visible where it stands, and a call leads to an earlier function
  pub scoped : is_scoped p ≡ true
