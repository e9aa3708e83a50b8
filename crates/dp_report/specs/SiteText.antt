-- The list of a program's sites.
use Rattle.std.specs.Prelude.{ℕ, List, ◌++◌, codes}
use Rattle.dp_text.specs.Labels.{labelled}
use Rattle.dp_tree.specs.declared.SiteKind.{SiteKind}
use Rattle.dp_tree.specs.declared.SiteKind.TheVariants.{Assign, Print, If, While, Break}
use Rattle.dp_tree.specs.declared.SiteInfo.{SiteInfo}
use Rattle.dp_tree.specs.declared.RegionInfo.{RegionInfo}
use Rattle.dp_tree.specs.declared.Program.{Program}
use Rattle.dp_report.specs.Lines.{line, numbered}

-- a kind's name in the text; initialisers and bindings are assignments
abbrev pub kind_name : SiteKind → List ℕ
kind_name Assign = codes "assign"
kind_name Print = codes "print"
kind_name If = codes "if"
kind_name While = codes "while"
kind_name Break = codes "break"

-- a region's number, the line of its `while`, and its first and last site
abbrev pub region_sites_line : ℕ → RegionInfo → List ℕ
region_sites_line n r =
    line (labelled (codes "region ") n ++ labelled (codes " line ") r.line ++ labelled (codes " sites ") r.first.0 ++ labelled (codes " to ") r.last.0)

-- a site's number, line and kind
abbrev pub site_line : ℕ → SiteInfo → List ℕ
site_line n s = line (labelled (codes "site ") n ++ labelled (codes " line ") s.line ++ codes " " ++ kind_name s.kind)

-- `ok`, the regions and the sites, each numbered from 1
abbrev pub site_bytes : Program → List ℕ
site_bytes p = line (codes "ok") ++ numbered region_sites_line 1 p.regions ++ numbered site_line 1 p.sites
