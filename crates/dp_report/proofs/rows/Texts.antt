-- Whole texts of runs and of a program's sites.
use Rattle.std.proofs.Common.{◌≡◌, refl, ℕ, true, false, List, [], ◌∷◌, pos, negsuc, codes}
use Rattle.dp_base.specs.declared.RegionReport.{RegionReport}
use Rattle.dp_base.specs.declared.FaultKind.TheVariants.{Overflow, Divide, Index}
use Rattle.dp_base.specs.declared.Cause.TheVariants as cause
use Rattle.dp_base.specs.declared.End.TheVariants.{Done, Fault, Fuel}
use Rattle.dp_text.specs.Labels.{labelled}
use Rattle.dp_tree.specs.declared.Program.{Program}
use Rattle.dp_tree.specs.declared.VarInfo.{VarInfo}
use Rattle.dp_tree.specs.declared.VarScope.TheVariants.{Global, Outer, Body}
use Rattle.dp_tree.specs.declared.SiteKind.TheVariants.{Assign, Print, If, While, Break}
use Rattle.dp_tree.proofs.Build.{scalar, array, site, program}
use Rattle.dp_report.specs.Lines.{labelled_signed}
use Rattle.dp_report.specs.Faults.{fault_words}
use Rattle.dp_report.specs.CauseText.{cause_words}
use Rattle.dp_report.specs.PrintsText.{prints_bytes}
use Rattle.dp_report.specs.RegionText.{numbers_listed, regions_bytes}
use Rattle.dp_report.specs.EndText.{end_line, end_bytes}
use Rattle.dp_report.specs.SiteText.{site_bytes}

prints : prints_bytes (pos 10 ∷ negsuc 2 ∷ pos 0 ∷ negsuc 9223372036854775807 ∷ []) ≡ codes "10\n-3\n0\n-9223372036854775808\n"
unfolding Rattle.std.specs.Fmt.digits
prints = refl

no_prints : prints_bytes [] ≡ []
no_prints = refl

-- the third region, one that wasn't begun, and the second one, two of whose iterations were executed again
abbrev reports : List RegionReport
reports = record { region = 3; iterations = 12; recovered_count = 0; recovered = []; causes = [] }
    ∷ record { region = 1; iterations = 0; recovered_count = 0; recovered = []; causes = [] }
    ∷ record { region = 2; iterations = 4; recovered_count = 20; recovered = 1 ∷ 13 ∷ []; causes = cause.Fuel ∷ cause.Assumed (record { 0 = 40 }) ∷ [] } ∷ []

regions : regions_bytes false reports ≡ codes "region 3 iterations 12 recovered 0\nregion 2 iterations 4 recovered 20: 1 13\n"
unfolding labelled numbers_listed Rattle.std.specs.Fmt.digits
regions = refl

-- .. and behind each region's line its causes, also those of one without a begun iteration: none
explained : regions_bytes true reports ≡ codes
    "region 3 iterations 12 recovered 0\nregion 2 iterations 4 recovered 20: 1 13\ncause 1 fuel\ncause 13 assume site 40\n"
unfolding labelled numbers_listed cause_words Rattle.std.specs.Fmt.digits
explained = refl

-- two regions, with a cause of each kind
abbrev failing : List RegionReport
failing = record {
  region = 1;
  iterations = 9;
  recovered_count = 3;
  recovered = 0 ∷ 2 ∷ 8 ∷ [];
  causes = cause.Load (record { 0 = 3 }) (record { 0 = 12 }) (negsuc 4) (pos 10) ∷ cause.Assumed (record { 0 = 4 }) ∷ cause.Words 2 (record { 0 = 18 }) ∷ [];
}
    ∷ record {
      region = 2;
      iterations = 5;
      recovered_count = 2;
      recovered = 1 ∷ 4 ∷ [];
      causes = cause.Fault (record { kind = Divide; line = 6 })
          ∷ cause.Fuel ∷ [];
    } ∷ []

causes : regions_bytes true failing
    ≡ codes "region 1 iterations 9 recovered 3: 0 2 8\ncause 0 load site 3 cell 12 seen -5 source 10\ncause 2 assume site 4\ncause 8 words stage 2 site 18\nregion 2 iterations 5 recovered 2: 1 4\ncause 1 fault divide line 6\ncause 4 fuel\n"
unfolding labelled labelled_signed numbers_listed cause_words fault_words Rattle.std.specs.Fmt.digits
causes = refl

abbrev named : List ℕ → VarInfo → VarInfo
named name v = record v { name = name }

-- int x; int a[3]; int y; with a local of `main` and one of a region
abbrev storing : Program
storing = program (named (codes "x") (scalar 0 (pos 5) Global) ∷ named (codes "a") (array 1 3) ∷ named (codes "y") (scalar 4 (pos 0) Global)
    ∷ named (codes "i") (scalar 5 (pos 0) Outer) ∷ named (codes "t") (scalar 6 (pos 0) (Body 1)) ∷ [])
    (site 3 Assign 0 ∷ site 5 While 1 ∷ site 6 Print 1 ∷ site 12 If 0 ∷ site 14 Break 1 ∷ [])
    (record { line = 5; first = record { 0 = 2 }; last = record { 0 = 3 } } ∷ record { line = 9; first = record { 0 = 20 }; last = record { 0 = 31 } } ∷ []) []

-- the values at the end, and not those at the start
whole : end_bytes storing (pos 10 ∷ negsuc 0 ∷ pos 7 ∷ pos 8 ∷ pos 42 ∷ pos 6 ∷ pos 9 ∷ []) reports (Fault (record { kind = Index; line = 65 })) false
    ≡ codes "state\nx 10\na -1 7 8\ny 42\nregion 3 iterations 12 recovered 0\nregion 2 iterations 4 recovered 20: 1 13\nend fault index line 65\n"
unfolding labelled fault_words numbers_listed Rattle.std.specs.Fmt.digits
whole = refl

done : end_line Done ≡ codes "end done\n"
done = refl

fuel : end_line Fuel ≡ codes "end fuel\n"
fuel = refl

overflow : end_line (Fault (record { kind = Overflow; line = 1 })) ≡ codes "end fault overflow line 1\n"
unfolding labelled fault_words Rattle.std.specs.Fmt.digits
overflow = refl

divide : end_line (Fault (record { kind = Divide; line = 10 })) ≡ codes "end fault divide line 10\n"
unfolding labelled fault_words Rattle.std.specs.Fmt.digits
divide = refl

sites : site_bytes storing ≡ codes
    "ok\nregion 1 line 5 sites 2 to 3\nregion 2 line 9 sites 20 to 31\nsite 1 line 3 assign\nsite 2 line 5 while\nsite 3 line 6 print\nsite 4 line 12 if\nsite 5 line 14 break\n"
unfolding labelled Rattle.std.specs.Fmt.digits
sites = refl
