-- A machine that is made where a region is next.
use Rattle.std.proofs.Common.{eqb-true}
use Rattle.dp_meaning.proofs.Names.{◌≡◌, refl, sym, ap, ◌∙◌, ℕ, Bool, true, false, if◌then◌else◌, List, [], ◌∷◌, None, Stmt, Stmt-F, out-Stmt, standing}
use Rattle.dp_meaning.proofs.Names.{is_region, MachineState, rest_of_run, next_part, part_from, part_of}
use Rattle.dp_tree.specs.declared.Stmt.TheOpen.{Region}
use Rattle.dp_semantics.specs.EpochKey.{EpochKey, epoch_run, statements_from}
use Rattle.dp_meaning.specs.declared.ends.Part.TheVariants as part

abbrev made_there : EpochKey → MachineState
made_there key = record {
  program = key.program;
  input = key.input;
  config = standing key.program (statements_from key.plan.region key.program.main) key.base;
  steps = key.steps;
  fuel = key.fuel;
  current = None;
  spoiled = false;
}

its_run_is_that_of_an_epoch_that_begins_there : (key : EpochKey) → rest_of_run (made_there key) ≡ epoch_run key
its_run_is_that_of_an_epoch_that_begins_there key = refl

found : (r : ℕ) (xs : List Stmt) (s : Stmt) (rest : List Stmt) → statements_from r xs ≡ s ∷ rest → is_region r (out-Stmt s) ≡ true
found r [] s rest e = absurd (cc e)
found r (x ∷ xs) s rest e = by (is_region r (out-Stmt x)) refl (found r xs s rest) e
  where
    by : (b : Bool) → is_region r (out-Stmt x) ≡ b → (statements_from r xs ≡ s ∷ rest → is_region r (out-Stmt s) ≡ true) →
        (if b then x ∷ xs else statements_from r xs) ≡ s ∷ rest → is_region r (out-Stmt s) ≡ true
    by true is go h = let same : x ≡ s = cc h in ap (λ (t : Stmt). is_region r (out-Stmt t)) (sym same) ∙ is
    by false is go h = go h

numbered : (h : Stmt-F Stmt) (r : ℕ) → is_region r h ≡ true → part_from h ≡ part.Region r
numbered (Region q site cond body) r e = ap part.Region (eqb-true q r e)
numbered _ r e = absurd (cc e)

-- where the program has the region
the_region_is_next : (key : EpochKey) (s : Stmt) (rest : List Stmt) → statements_from key.plan.region key.program.main ≡ s ∷ rest →
    next_part (made_there key) ≡ part.Region key.plan.region
the_region_is_next key s rest e =
    ap (λ (xs : List Stmt). part_of (standing key.program xs key.base).to_do) e
    ∙ numbered (out-Stmt s) key.plan.region (found key.plan.region key.program.main s rest e)
