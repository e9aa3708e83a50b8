-- The expansion of a checked program is an inlined one, within the limits of the language.
use Rattle.std.proofs.Common.{◌≡◌, ◌≤◌, true, length, refl}
use Rattle.std.specs.List.{list_all}
use Rattle.dp_tree.specs.declared.Program.{Program}
use Rattle.dp_tree.specs.Checked.{IsChecked}
use Rattle.dp_tree.specs.Inlined.{IsInlined}
use Rattle.dp_tree.specs.Numbering.{is_small_region}
use Rattle.dp_calls.specs.Expand.{expand}
use Rattle.dp_calls.proofs.ExpandLaws.{leaves_no_call}
use Rattle.dp_calls.proofs.InOrder.{expanded_in_order}
use Rattle.dp_calls.proofs.Within.{expanded_is_within}
use Rattle.dp_calls.proofs.SiteLaws.{sites_in_order}
use Rattle.dp_calls.proofs.PlainLaws.{regions_in_text_order}
use Rattle.dp_calls.proofs.RegionTableLaws.{regions_in_table}
use Rattle.dp_calls.proofs.RoleLaws.{roles_as_in_text}

pub expanded_is_inlined : (p : Program) → IsChecked p → length (expand p).sites ≤ 8192 → list_all is_small_region (expand p).regions ≡ true →
    IsInlined (expand p)
expanded_is_inlined p checked few few_each = record {
  globals = (expanded_in_order p checked).1;
  cells = (expanded_in_order p checked).0;
  named = expanded_is_within p checked;
  functions = refl;
  calls = leaves_no_call p;
  sites = sites_in_order p checked;
  roles = roles_as_in_text p checked;
  regions = regions_in_text_order p checked;
  table = regions_in_table p checked;
  few = few;
  few_each = few_each;
}
