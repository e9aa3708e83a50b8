-- Runs step by step: from a configuration of a run the rest of it is a run of its own.
use Rattle.dp_semantics.proofs.Names.{after_effect, leaves, taken, runs_by_step, ◌≡◌, ◌⊎◌, refl, sym, ap, ◌∙◌, ℕ, zero, suc, ◌+◌, Bool, true, false, List, []}
use Rattle.dp_semantics.proofs.Names.{◌∷◌, ◌++◌, ℤ, length, Some, slice_get, Ok, Err, arith, FaultKind, Stmt, out-Stmt, Stmt-F, Call, Program, WithLoads}
use Rattle.dp_semantics.proofs.Names.{Evaluated, Config, Event, Effect, Step, Finished, Faulted, Stepped, site_of, value_of, evaluated, step_by, step_at, step}
use Rattle.dp_semantics.proofs.Names.{Run, run_of, run_by, places, inl, inr, cases_Bool}
use Rattle.dp_base.specs.declared.End.{End}
use Rattle.dp_base.specs.declared.End.TheVariants as run_end
use Rattle.dp_tree.specs.Step.{line_of}
use Rattle.dp_tree.proofs.Heads.{stepped}
use Rattle.dp_theorem.proofs.Stepping.{event_of}

-- The i-th place of a list that passes a test, with what stands before and behind it.
pub record PlaceAt (X : Type 0) (test : X → Bool) (xs : List X) (n i k : ℕ) : Type 0 where
  pub front : List X
  pub found : X
  pub behind : List X
  pub is : xs ≡ front ++ found ∷ behind
  pub place_is : k ≡ n + length front
  pub passes : test found ≡ true
  pub next : slice_get (places test n xs) (suc i) ≡ slice_get (places test (suc k) behind) 0

-- the first one further on
later_place : {X : Type 0} (test : X → Bool) (x : X) (xs : List X) (n j i k : ℕ) → slice_get (places test n (x ∷ xs)) (suc j) ≡ slice_get
    (places test (suc n) xs) (suc i) → PlaceAt X test xs (suc n) i k → PlaceAt X test (x ∷ xs) n j k
later_place test x xs n j i k skip q = record {
  front = x ∷ q.front;
  found = q.found;
  behind = q.behind;
  is = ap (λ (ys : List _). x ∷ ys) q.is;
  place_is = omega (arith, q.place_is);
  passes = q.passes;
  next = skip ∙ q.next;
}

pub place_at : {X : Type 0} (test : X → Bool) (xs : List X) (n i k : ℕ) → slice_get (places test n xs) i ≡ Some k → PlaceAt X test xs n i k
place_at test [] n i k e = absurd (cc)
place_at test (x ∷ xs) n zero k e = elim (cases_Bool (test x)) [
  | inl t ↦ let found : Some n ≡ Some k = rw t at e in let here : n ≡ k = cc found in
      record {
        front = [];
        found = x;
        behind = xs;
        is = refl;
        place_is = omega (arith, here);
        passes = t;
        next = rw t (ap
            (λ (m : ℕ). slice_get (places test (suc m) xs) 0) here);
      }
  | inr t ↦ later_place test x xs n zero zero k (rw t) (place_at test xs (suc n) zero k (rw t at e))
]
place_at test (x ∷ xs) n (suc i) k e = elim (cases_Bool (test x)) [
  | inl t ↦ later_place test x xs n (suc i) i k (rw t) (place_at test xs (suc n) i k (rw t at e))
  | inr t ↦ later_place test x xs n (suc i) (suc i) k (rw t) (place_at test xs (suc n) (suc i) k (rw t at e))
]

-- the first of all is the first place, where it passes
pub first_place : {X : Type 0} (test : X → Bool) (n : ℕ) (xs : List X) (x : X) → slice_get xs 0 ≡ Some x → test x ≡ true →
    slice_get (places test n xs) 0 ≡ Some n
first_place test n [] x e t = absurd (cc)
first_place test n (y ∷ xs) x e t = let same : y ≡ x = cc in rw (same, t)

-- no call
abbrev pub is_step : Stmt-F Stmt → Bool
is_step (Call f line args) = false
is_step _ = true

module _ (p : Program) (input : List ℤ) where
  -- a run whose first step is known
  pub run_step : (m : ℕ) (c : Config) (s : Step) → step p input c ≡ s → run_of p input (suc m) c ≡ run_by (run_of p input m) (suc m) c s
  unfolding run_of
  run_step m c s e = ap (run_by (run_of p input m) (suc m) c) e

  step_is : (x : Stmt) (rest : List Stmt) (cells : List ℤ) (h : Stmt-F Stmt) → is_step h ≡ true → step_at p input cells x rest h ≡ step_by p (site_of h)
      (evaluated p input cells h) (after_effect p x rest cells h)
  step_is x rest cells (Call f line args) s = absurd (cc)
  step_is x rest cells _ s = refl

  pub step_on : (x : Stmt) (rest : List Stmt) (cells : List ℤ) (v : WithLoads Effect) → is_step (out-Stmt x) ≡ true →
      evaluated p input cells (out-Stmt x) ≡ Ok v →
      step p input (record { to_do = x ∷ rest; cells = cells }) ≡ Stepped (event_of (out-Stmt x) v) (after_effect p x rest cells (out-Stmt x) v.value)
  step_on x rest cells v s e =
      step_is x rest cells (out-Stmt x) s ∙ ap (λ (r : Evaluated Effect). step_by p (site_of (out-Stmt x)) r (after_effect p x rest cells (out-Stmt x))) e

  pub step_off : (x : Stmt) (rest : List Stmt) (cells : List ℤ) (kind : FaultKind) → is_step (out-Stmt x) ≡ true →
      evaluated p input cells (out-Stmt x) ≡ Err kind →
      step p input (record { to_do = x ∷ rest; cells = cells }) ≡ Faulted (record { kind = kind; line = line_of p (site_of (out-Stmt x)) })
  step_off x rest cells kind s e =
      step_is x rest cells (out-Stmt x) s ∙ ap (λ (r : Evaluated Effect). step_by p (site_of (out-Stmt x)) r (after_effect p x rest cells (out-Stmt x))) e

  -- how a run ends before a statement: the fuel is spent, or its evaluation faults where a step is left
  abbrev pub StopsSo : {Spent : Type 0} (x : Stmt) (cells : List ℤ) → Type 0 → End → Spent
      ⊎ ((kind : FaultKind) × (evaluated p input cells (out-Stmt x) ≡ Err kind)) → Type 0
  StopsSo x cells Left end (inl spent) = end ≡ run_end.Fuel
  StopsSo x cells Left end (inr (kind, e)) = Left × (end ≡ run_end.Fault (record { kind = kind; line = line_of p (site_of (out-Stmt x)) }))

  -- a step leads to what follows the head, in the memory after its effect
  abbrev pub Leads : Stmt → List Stmt → List ℤ → Step → Type 0
  Leads x rest cells Finished = Unit {0}
  Leads x rest cells (Faulted fault) = Unit {0}
  Leads x rest cells (Stepped event next) =
      (v : WithLoads Effect) × (next ≡ after_effect p x rest cells (out-Stmt x) v.value) × (event ≡ event_of (out-Stmt x) v)
      × (is_step (out-Stmt x) ≡ true) × (evaluated p input cells (out-Stmt x) ≡ Ok v)

  pub step_leads : (x : Stmt) (rest : List Stmt) (cells : List ℤ) → Leads x rest cells (step p input (record { to_do = x ∷ rest; cells = cells }))
  step_leads x rest cells = by (out-Stmt x) refl
    where
      made : (h : Stmt-F Stmt) → out-Stmt x ≡ h → is_step h ≡ true → (r : Evaluated Effect) → evaluated p input cells h ≡ r →
          Leads x rest cells (step_by p (site_of h) r (after_effect p x rest cells h))
      made h e step (Ok v) gave = (
        v,
        ap (λ (g : Stmt-F Stmt). after_effect p x rest cells g v.value) (sym e),
        ap (λ (g : Stmt-F Stmt). event_of g v) (sym
            e),
        ap is_step e ∙ step,
        ap (evaluated p input cells) e ∙ gave,
      )
      made h e step (Err kind) gave = tt

      by : (h : Stmt-F Stmt) → out-Stmt x ≡ h → Leads x rest cells (step_at p input cells x rest h)
      by (Call f line args) e = tt
      by h e = made h e refl (evaluated p input cells h) refl

  -- a break leaves its region where it is taken
  pub leaves_taken : (x : Stmt) (rest : List Stmt) (cells : List ℤ) (v : WithLoads Effect) → is_step (out-Stmt x) ≡ true →
      evaluated p input cells (out-Stmt x) ≡ Ok v → leaves v.value ≡ taken (out-Stmt x) (value_of v.value)
  leaves_taken x rest cells v s e =
      (stepped p input (record { to_do = x ∷ rest; cells = cells }) x rest (event_of (out-Stmt x) v) (after_effect p x rest cells (out-Stmt x) v.value) refl
      (step_on x rest cells v s e)).left

  -- The run from one of its configurations on.
  pub record From (m : ℕ) (c : Config) (front : List Config) (d : Config) (behind : List Config) : Type 0 where
    pub before : List Event
    pub left : ℕ
    pub steps_are : m ≡ length front + left
    pub trace_is : (run_of p input m c).trace ≡ before ++ (run_of p input left d).trace
    pub length_is : length before ≡ length front
    pub configs_are : d ∷ behind ≡ (run_of p input left d).configs
    pub end_is : (run_of p input m c).end ≡ (run_of p input left d).end

  pub run_first : (m : ℕ) (c : Config) → slice_get (run_of p input m c).configs 0 ≡ Some c
  run_first m c = (runs_by_step p input m c).first

  one_config : (c f d : Config) (front behind : List Config) → c ∷ [] ≡ f ∷ (front ++ d ∷ behind) → ⊥
  one_config c f d [] behind e = cc
  one_config c f d (g ∷ front) behind e = cc

  pub run_from : (front : List Config) (m : ℕ) (c d : Config) (behind : List Config) → (run_of p input m c).configs ≡ front ++ d ∷ behind →
      From m c front d behind
  unfolding run_of
  run_from [] m c d behind e =
      let first = sym (run_first m c) ∙ ap (λ (cs : List Config). slice_get cs 0) e in
      let same : c ≡ d = cc first in
      record {
        before = [];
        left = m;
        steps_are = omega arith;
        trace_is = ap (λ (b : Config). (run_of p input m b).trace) same;
        length_is = refl;
        configs_are = sym e ∙ ap (λ (b : Config). (run_of p input m b).configs) same;
        end_is = ap (λ (b : Config). (run_of p input m b).end) same;
      }
  run_from (f ∷ front) zero c d behind e = absurd (one_config c f d front behind e)
  run_from (f ∷ front) (suc m) c d behind e = by (step p input c) refl e (λ next. run_from front m next d behind)
    where
      by : (s : Step) → step p input c ≡ s → (run_by (run_of p input m) (suc m) c s).configs ≡ f ∷ (front ++ d ∷ behind) →
          ((next : Config) → (run_of p input m next).configs ≡ front ++ d ∷ behind → From m next front d behind) → From (suc m) c (f ∷ front) d behind
      by Finished s e go = absurd (one_config c f d front behind e)
      by (Faulted fault) s e go = absurd (one_config c f d front behind e)
      by (Stepped event next) s e go = let q = go next (cc) in record {
        before = event ∷ q.before;
        left = q.left;
        steps_are = omega (arith, q.steps_are);
        trace_is = ap (λ (run : Run). run.trace) (run_step m c (Stepped event next) s) ∙ ap (λ (es : List Event). event ∷ es) q.trace_is;
        length_is = ap (λ (n : ℕ). suc n) q.length_is;
        configs_are = q.configs_are;
        end_is = ap (λ (run : Run). run.end) (run_step m c (Stepped event next) s) ∙ q.end_is;
      }
