-- Pieces of a run, one after the other.
use Rattle.dp_meaning.proofs.Names.{◌≡◌, refl, sym, ◌∙◌, ap, ℕ, suc, ◌≢◌, zero, List, [], ◌∷◌, ◌++◌, append_assoc, length-append, ℤ, arith, Fault, Stmt}
use Rattle.dp_meaning.proofs.Names.{Program, Config, Event, Step, Finished, Faulted, Stepped, step, Run, run_of, run_by, ended, end_at, part_of, Continues}
use Rattle.dp_meaning.specs.declared.ends.Part.TheVariants as part
use Rattle.dp_base.specs.declared.End.TheVariants as how

-- no step
pub continues_none : (run : Run) → Continues run [] [] run
continues_none run = record { trace = refl; configs = refl; end = refl; fuel = omega arith; paired = refl }

-- a piece and the next one
pub continues_join : (a b c : Run) (es fs : List Event) (cs ds : List Config) → Continues a es cs b → Continues b fs ds c → Continues a (es ++ fs) (cs ++ ds) c
continues_join a b c es fs cs ds h k = record {
  trace = h.trace ∙ ap (λ xs. es ++ xs) k.trace ∙ sym (append_assoc es fs c.trace);
  configs = h.configs ∙ ap (λ xs. cs ++ xs) k.configs ∙ sym (append_assoc cs ds c.configs);
  end = h.end ∙ k.end;
  fuel = let e = length-append es fs in let f = h.fuel in let g = k.fuel in omega arith;
  paired = let e = length-append es fs in let f = length-append cs ds in let g = h.paired in let i = k.paired in omega arith;
}

module _ (p : Program) (input : List ℤ) where
  fuel_by : (go : Config → Run) (n : ℕ) (c : Config) (s : Step) → (run_by go n c s).fuel ≡ n
  fuel_by go n c Finished = refl
  fuel_by go n c (Faulted fault) = refl
  fuel_by go n c (Stepped event d) = refl

  pub fuel_of_run : (n : ℕ) (c : Config) → (run_of p input n c).fuel ≡ n
  unfolding run_of
  fuel_of_run zero c = refl
  fuel_of_run (suc n) c = fuel_by (run_of p input n) (suc n) c (step p input c)

  -- one step
  pub continues_step : (n : ℕ) (c d : Config) (event : Event) → step p input c ≡ Stepped event d →
      Continues (run_of p input (suc n) c) (event ∷ []) (c ∷ []) (run_of p input n d)
  unfolding run_of
  continues_step n c d event e =
      let run : run_of p input (suc n) c ≡ run_by (run_of p input n) (suc n) c (Stepped event d) = ap (run_by (run_of p input n) (suc n) c) e in
      record {
        trace = ap (λ (r : Run). r.trace) run;
        configs = ap (λ (r : Run). r.configs) run;
        end = ap (λ (r : Run). r.end) run;
        fuel = let f = fuel_of_run n d in let g = fuel_of_run (suc n) c in omega arith;
        paired = refl;
      }

  -- the run ends where the next evaluation faults
  pub ends_at_fault : (n : ℕ) (c : Config) (fault : Fault) → step p input c ≡ Faulted fault → run_of p input (suc n) c ≡ ended (suc n) c (how.Fault fault)
  unfolding run_of
  ends_at_fault n c fault e = ap (run_by (run_of p input n) (suc n) c) e

  fuel_at : (to_do : List Stmt) → part_of to_do ≢ part.Finished → end_at to_do ≡ how.Fuel
  fuel_at [] some = absurd (some refl)
  fuel_at (s ∷ rest) some = refl

  -- and where the fuel is spent
  pub ends_at_fuel : (c : Config) → part_of c.to_do ≢ part.Finished → run_of p input zero c ≡ ended 0 c how.Fuel
  unfolding run_of
  ends_at_fuel c some = ap (ended 0 c) (fuel_at c.to_do some)
