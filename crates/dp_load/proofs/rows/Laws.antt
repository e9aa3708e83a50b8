-- What the laws give, written out.
use Rattle.std.proofs.Common.{◌≡◌, true, ℕ, List, ◌∷◌, ℤ, Ok}
use Rattle.std.specs.List.{list_all}
use Rattle.dp_base.specs.Arithmetic.{fits}
use Rattle.dp_tree.specs.declared.Program.{Program}
use Rattle.dp_tree.specs.Statements.{everywhere}
use Rattle.dp_tree.proofs.Heads.{and_true}
use Rattle.dp_calls.specs.AtHome.{stores_home_at_top, site_fits, start_fits}
use Rattle.dp_load.specs.Inputs.{input_of}
use Rattle.dp_load.specs.Program.{ReadsAs}
use Rattle.dp_load.proofs.accepted.AtHome.{numbers_fit_in, programs_at_home}

module _ (text : List ℕ) (q : Program) (reads : ReadsAs text (Ok q)) where
  read_stores_at_home : list_all (stores_home_at_top q.vars) q.main ≡ true
  read_stores_at_home = (programs_at_home text q reads).0

  read_starts_fit : list_all start_fits q.vars ≡ true
  read_starts_fit = (and_true (list_all start_fits q.vars) (list_all (everywhere site_fits) q.main) (programs_at_home text q reads).1).0

  read_text_fits : list_all (everywhere site_fits) q.main ≡ true
  read_text_fits = (and_true (list_all start_fits q.vars) (list_all (everywhere site_fits) q.main) (programs_at_home text q reads).1).1

second_number_fits : (text : List ℕ) (y z : ℤ) (rest : List ℤ) → input_of text ≡ Ok (y ∷ z ∷ rest) → fits z ≡ true
second_number_fits text y z rest read = (numbers_fit_in text (y ∷ z ∷ rest) read).1.0
