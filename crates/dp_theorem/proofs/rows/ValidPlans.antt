-- A valid plan of an inlined program fits it; and the rules alone don't say so, where a stage line lists no site.
use Rattle.std.proofs.Common.{◌≡◌, refl, true, false, [], ◌∷◌, None}
use Rattle.dp_tree.proofs.Build.{tree_opened}
use Rattle.dp_tree.proofs.rows.Scopes.{expanded_table_is_inlined}
use Rattle.dp_tree.proofs.Programs.{histogram, word_table_expanded}
use Rattle.dp_plan.specs.Valid.{first_broken}
use Rattle.dp_plan.specs.declared.WrittenPlan.{WrittenPlan}
use Rattle.dp_plan.specs.Written.{plan_of}
use Rattle.dp_plan.proofs.Plans.{seq, par, written, word_table_written, word_table_plan}
use Rattle.dp_semantics.specs.Fits.{fits_plan}
use Rattle.dp_semantics.specs.ValidPlan.{WrittenAs}
use Rattle.dp_theorem.proofs.ValidFits.{valid_fits}

word_table_is_written : WrittenAs word_table_expanded word_table_written word_table_plan
unfolding tree_opened
word_table_is_written = record { valid = refl; filled = refl; plan_is = refl }

word_table_fits : fits_plan word_table_expanded word_table_plan ≡ true
word_table_fits = valid_fits word_table_expanded word_table_plan expanded_table_is_inlined word_table_written word_table_is_written

-- two replicated neighbours, the later one without a site: no rule can name a site of it
abbrev empty_line : WrittenPlan
empty_line = written 4096 (seq (2 ∷ 3 ∷ 4 ∷ 6 ∷ []) ∷ par (5 ∷ []) ∷ par [] ∷ []) []

empty_line_unbroken : first_broken histogram empty_line ≡ None
unfolding tree_opened
empty_line_unbroken = refl

empty_line_misfits : fits_plan histogram (plan_of histogram false empty_line) ≡ false
unfolding tree_opened
empty_line_misfits = refl
