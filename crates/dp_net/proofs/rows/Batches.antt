-- Which iterations go together, and what verdicts come to together, computed.
use Rattle.std.proofs.Common.{◌≡◌, refl, ℕ, ◌==◌, true, false, List, [], ◌∷◌, ℤ, pos, map}
use Rattle.dp_base.specs.declared.StoreOf.{StoreOf}
use Rattle.dp_base.specs.declared.Cause.{Cause as ReportedCause}
use Rattle.dp_tree.specs.declared.Program.{Program}
use Rattle.dp_tree.specs.Numbering.{numbers_from}
use Rattle.dp_plan.specs.declared.Plan.{Plan}
use Rattle.dp_semantics.specs.EpochKey.{EpochKey}
use Rattle.dp_semantics.specs.EpochVerdicts.{Carried, Commit, Again}
use Rattle.dp_net.specs.BatchItems.{spends_fuel}
use Rattle.dp_net.specs.Batches.{up_to, batch_begin, batch_size, together, BatchGoesOn, BatchCloses, BatchRecovers}

module _ (p : Program) (plan : Plan) (cause : ReportedCause) where
  abbrev epoch : ℕ → ℕ → EpochKey
  epoch first fuel = record { program = p; plan = plan; input = []; first = first; base = []; steps = 0; fuel = fuel }

  -- as many as before together, at most the cap
  begins : map (batch_begin (epoch 0 1000) 6) (numbers_from 0 8) ≡ 0 ∷ 1 ∷ 2 ∷ 4 ∷ 8 ∷ 14 ∷ 20 ∷ 26 ∷ []
  begins = refl

  -- one at a time
  singles : map (batch_begin (epoch 0 1000) 0) (numbers_from 0 4) ≡ 0 ∷ 1 ∷ 2 ∷ 3 ∷ []
  singles = refl

  -- the iterations 3 to 12, of which the last has the fuel's number
  sizes : map (batch_size (epoch 3 12) 64) (numbers_from 0 7) ≡ 1 ∷ 1 ∷ 2 ∷ 4 ∷ 2 ∷ 0 ∷ 0 ∷ []
  sizes = refl

  -- so the fifth batch is the last one
  spent : map (spends_fuel (epoch 3 12) 64) (numbers_from 0 5) ≡ false ∷ false ∷ false ∷ false ∷ true ∷ []
  spent = refl

  last_one : up_to (λ (n : ℕ). n == 2) (1 ∷ 2 ∷ 3 ∷ []) ≡ 1 ∷ 2 ∷ []
  last_one = refl

  abbrev store : ℕ → ℤ → StoreOf
  store cell value = record { cell = record { 0 = cell }; value = value }

  abbrev first : Carried
  first = record { stores = store 0 (pos 5) ∷ []; prints = pos 1 ∷ []; steps = 4; closing = false }

  abbrev second : Carried
  second = record { stores = store 0 (pos 6) ∷ store 1 (pos 7) ∷ []; prints = pos 2 ∷ pos 3 ∷ []; steps = 5; closing = false }

  abbrev closes : Carried
  closes = record { stores = store 2 (pos 8) ∷ []; prints = []; steps = 1; closing = true }

  abbrev both : List StoreOf
  both = store 0 (pos 5) ∷ store 0 (pos 6) ∷ store 1 (pos 7) ∷ []

  goes_on : together (Commit first ∷ Commit second ∷ [])
      ≡ record { iterations = 2; stores = both; prints = pos 1 ∷ pos 2 ∷ pos 3 ∷ []; steps = 9; ends = BatchGoesOn }
  goes_on = refl

  recovers : together (Commit first ∷ Again cause ∷ Commit second ∷ [])
      ≡ record { iterations = 1; stores = store 0 (pos 5) ∷ []; prints = pos 1 ∷ []; steps = 4; ends = BatchRecovers cause }
  recovers = refl

  leaves : together (Commit closes ∷ Commit first ∷ []) ≡ record { iterations = 1; stores = store 2 (pos 8) ∷ []; prints = []; steps = 1; ends = BatchCloses }
  leaves = refl
