-- Runs that are made in several pieces, and their reports, computed.
use Rattle.std.proofs.Common.{◌≡◌, refl, ℕ, ◌==◌, ◌||◌, Bool, List, [], ◌∷◌, length, Some, slice_get}
use Rattle.dp_base.specs.declared.Cause.{Cause as ReportedCause}
use Rattle.dp_base.specs.declared.Cause.TheVariants as why
use Rattle.dp_base.specs.declared.RegionReport.{RegionReport}
use Rattle.dp_tree.specs.Numbering.{numbers_from}
use Rattle.dp_tree.proofs.Build.{tree_opened}
use Rattle.dp_tree.proofs.Programs.{stale_read}
use Rattle.dp_plan.proofs.Plans.{stale_read_plan}
use Rattle.dp_semantics.specs.Recovery.{epoch_with, recovered_with, recovered_first_with, nowhere}
use Rattle.dp_semantics.specs.Reported.{report_of, gone_on}
use Rattle.dp_semantics.specs.Verdict.{source_run}

abbrev recovered_from : (ℕ → Bool) → List ℕ
recovered_from begins = recovered_with begins stale_read stale_read_plan (source_run stale_read [] 10000)

-- the run was saved before iteration 1, before 1 and 2, before 3
abbrev at_one : ℕ → Bool
at_one i = i == 1

abbrev at_two : ℕ → Bool
at_two i = (i == 1) || (i == 2)

abbrev at_three : ℕ → Bool
at_three i = i == 3

-- Stage 1 reads what stage 2 stored two iterations before in the same epoch. In one piece these are iterations 2 and 5; the closing one is 6, which reads
-- nothing of it.
in_one_piece : recovered_from nowhere ≡ 2 ∷ 5 ∷ []
unfolding tree_opened
in_one_piece = refl

saved_once : recovered_from at_one ≡ 3 ∷ []
unfolding tree_opened
saved_once = refl

saved_twice : recovered_from at_two ≡ 4 ∷ []
unfolding tree_opened
saved_twice = refl

-- an epoch begins at iteration 3 anyway, since 2 isn't clean
saved_where_one_begins : recovered_from at_three ≡ 2 ∷ 5 ∷ []
unfolding tree_opened
saved_where_one_begins = refl

epochs_of_saved : (epoch_with at_one stale_read stale_read_plan (source_run stale_read [] 10000) 3 ≡ 1)
    × (epoch_with at_one stale_read stale_read_plan (source_run stale_read [] 10000) 4 ≡ 4)
    × (recovered_first_with at_one stale_read stale_read_plan (source_run stale_read [] 10000) 6 ≡ 3 ∷ [])
unfolding tree_opened
epochs_of_saved = (refl, refl, refl)

-- a report of so many iterations, of which the first ones were executed again, each with a cause of its own
abbrev cause_at : ℕ → ReportedCause
cause_at i = why.Words i (record { 0 = i })

abbrev report : ℕ → ℕ → RegionReport
report n again = report_of 1 n (numbers_from 0 again) cause_at

-- 700 of 1,500 iterations, gone on with 500 of 600: the last one that is listed is the 300th of the second piece
two_pieces : ((gone_on (report 1500 700) (report 600 500)).iterations ≡ 2100) × ((gone_on (report 1500 700) (report 600 500)).recovered_count ≡ 1200)
    × (length (gone_on (report 1500 700) (report 600 500)).recovered ≡ 1000) × (slice_get (gone_on (report 1500 700) (report 600 500)).recovered 699 ≡ Some 699)
    × (slice_get (gone_on (report 1500 700) (report 600 500)).recovered 700 ≡ Some 1500)
    × (slice_get (gone_on (report 1500 700) (report 600 500)).recovered 999 ≡ Some 1799)
    × (slice_get (gone_on (report 1500 700) (report 600 500)).causes 999 ≡ Some (cause_at 299))
two_pieces = (refl, refl, refl, refl, refl, refl, refl)

-- .. and a first piece that lists 1,000 already
full_before : ((gone_on (report 1500 1200) (report 600 5)).recovered_count ≡ 1205) × (length (gone_on (report 1500 1200) (report 600 5)).recovered ≡ 1000)
    × (slice_get (gone_on (report 1500 1200) (report 600 5)).recovered 999 ≡ Some 999) × (length (gone_on (report 1500 1200) (report 600 5)).causes ≡ 1000)
full_before = (refl, refl, refl, refl)
