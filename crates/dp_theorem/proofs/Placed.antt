-- Where a run stands: before the region, in an iteration with the region's statement behind, or beyond it.
use Rattle.dp_semantics.proofs.Names.{stored_by, taken, taken_left, behind_region, behind_one, region_number, ◌≡◌, refl, sym, ap, ◌∙◌, subst, ℕ, zero, suc}
use Rattle.dp_semantics.proofs.Names.{Bool, true, false, not, ◌==◌, if◌then◌else◌, List, [], ◌∷◌, ◌++◌, ℤ, length, both_ways, not-true, is_zero, Stmt}
use Rattle.dp_semantics.proofs.Names.{Row_of-Stmt, end_of-Stmt, more_of-Stmt, out-Stmt, Stmt-F, If, While, Region, Program, Plan, Config, Step, Stepped}
use Rattle.dp_semantics.proofs.Names.{followed, value_of, standing, cleared_at, step, Run, run_of, is_region, stands_at_head, places, well_nested}
use Rattle.dp_semantics.proofs.Names.{well_nested_in, is_free, is_free_in, and_parts, and_from, followed-append, inl, inr, cases_Bool}
use Rattle.dp_tree.proofs.InMain.{stored_by_length, cleared_length}
use Rattle.dp_tree.proofs.Heads.{left-append}
use Rattle.dp_semantics.proofs.Followed.{left_has}
pub use Rattle.dp_theorem.proofs.Runs.{StopsSo, leaves_taken, first_place, is_step, run_step, step_on, step_off, run_first, PlaceAt, place_at, From, run_from}
pub use Rattle.dp_theorem.proofs.Runs.{Leads, step_leads}
use Rattle.dp_tree.specs.declared.Stmt.TheVariants as tree
use Rattle.dp_semantics.proofs.Setting.{size, Accepted, Each, each_map, all_free, free_at, free_out, all_well, Parts, followed_has, all_joins}

module _ (r : ℕ) where
  free_parts : (h : Stmt-F Stmt) → free_at r h ≡ true → Parts (λ xs. all_free r xs ≡ true) h
  free_parts (If site cond a b) w = and_parts (all_free r a) (all_free r b) w
  free_parts (While site cond a) w = w
  free_parts (Region q site cond a) w = (and_parts (not (q == r)) (all_free r a) w).1
  free_parts _ w = tt

  pub free_next : (x : Stmt) (rest : List Stmt) (z : ℤ) → all_free r (x ∷ rest) ≡ true → all_free r (followed x rest (out-Stmt x) z) ≡ true
  free_next x rest z w =
      let parts = and_parts (is_free r x) (all_free r rest) w in
      followed_has (λ xs. all_free r xs ≡ true) (all_joins (is_free r)) x rest (out-Stmt x) z w parts.1 (free_parts (out-Stmt x) (sym (free_out r x) ∙ parts.0))

  not_region : (h : Stmt-F Stmt) → free_at r h ≡ true → is_region r h ≡ false
  not_region (Region q site cond a) w = not-true (q == r) (and_parts (not (q == r)) (all_free r a) w).0
  not_region _ w = refl

  pub not_at_head : (x : Stmt) → is_free r x ≡ true → is_region r (out-Stmt x) ≡ false
  not_at_head x w = not_region (out-Stmt x) (sym (free_out r x) ∙ w)

mutual
  -- no region stands in a well-nested statement
  free_well : (p : Program) (plan : Plan) (r : ℕ) (x : Stmt) → well_nested p plan x ≡ true → is_free r x ≡ true
  free_well p plan r (tree.If' site cond _ a _ b) w =
      let both = and_parts _ _ (and_parts _ _ w).1 in and_from _ _ (free_well_in p plan r a both.0) (free_well_in p plan r b both.1)
  free_well p plan r (tree.While' site cond _ a) w = free_well_in p plan r a (and_parts _ _ w).1
  free_well p plan r (tree.Region' q site cond _ a) w = absurd (cc)
  free_well p plan r _ w = refl

  free_well_in : {n : _} (p : Program) (plan : Plan) (r : ℕ) (row : Row_of-Stmt n) → well_nested_in p plan row ≡ true → is_free_in r row ≡ true
  free_well_in p plan r end_of-Stmt w = refl
  free_well_in p plan r (more_of-Stmt x rest) w = let both = and_parts _ _ w in and_from _ _ (free_well p plan r x both.0) (free_well_in p plan r rest both.1)

free_well_all : (p : Program) (plan : Plan) (r : ℕ) (xs : List Stmt) → all_well p plan xs ≡ true → all_free r xs ≡ true
free_well_all p plan r [] w = refl
free_well_all p plan r (x ∷ xs) w = let both = and_parts (well_nested p plan x) (all_well p plan xs) w in
    and_from (is_free r x) (all_free r xs) (free_well p plan r x both.0) (free_well_all p plan r xs both.1)

pub cleared-length : (p : Program) (cells : List ℤ) (h : Stmt-F Stmt) → length (cleared_at p h cells) ≡ length cells
cleared-length p cells (Region q site cond a) = cleared_length q p.vars cells
cleared-length p cells _ = refl

pub standing-length : (p : Program) (xs : List Stmt) (cells : List ℤ) → length (standing p xs cells).cells ≡ length cells
standing-length p [] cells = refl
standing-length p (x ∷ xs) cells = cleared-length p cells (out-Stmt x)

-- What holds of the statements to do, and is kept by each step, holds all along a run.
module _ (p : Program) (input : List ℤ) (n : ℕ) (I : List Stmt → Type 0)
    (keeps : (x : Stmt) (rest : List Stmt) (z : ℤ) → I (x ∷ rest) → I (followed x rest (out-Stmt x) z)) where
  -- a configuration with n cells where it holds
  abbrev pub At : Config → Type 0
  At c = (to_do : List Stmt) × (cells : List ℤ) × (c ≡ standing p to_do cells) × I to_do × (length cells ≡ n)

  next_at : (x : Stmt) (rest : List Stmt) (cells : List ℤ) → I (x ∷ rest) → length cells ≡ n → (s : Step) → Leads p input x rest cells s →
      (m : ℕ) (c : Config) → step p input c ≡ s → At c →
      ((to_do : List Stmt) (cells : List ℤ) → I to_do → length cells ≡ n → Each At (run_of p input m (standing p to_do cells)).configs) →
      Each At (run_of p input (suc m) c).configs
  next_at x rest cells i long (Stepped event next) leads m c e here go =
      subst (λ (run : Run). Each At run.configs) (sym (run_step p input m c (Stepped event next) e)) (
        here,
        subst (λ (d : Config). Each At (run_of p input m d).configs) (sym leads.1) (go (followed x rest (out-Stmt x) (value_of leads.0.value))
            (stored_by p rest (out-Stmt x) leads.0.value cells) (keeps x rest (value_of leads.0.value) i)
            (stored_by_length p input rest (out-Stmt x) leads.0.value cells ∙ long)),
      )
  next_at x rest cells i long s leads m c e here go = subst (λ (run : Run). Each At run.configs) (sym (run_step p input m c s e)) (here, tt)

  pub all_at : (m : ℕ) (to_do : List Stmt) (cells : List ℤ) → I to_do → length cells ≡ n → Each At (run_of p input m (standing p to_do cells)).configs
  unfolding run_of
  all_at zero to_do cells i long = ((to_do, cells, refl, i, long), tt)
  all_at (suc m) [] cells i long = (([], cells, refl, i, long), tt)
  all_at (suc m) (x ∷ rest) cells i long =
      next_at x rest (cleared_at p (out-Stmt x) cells) i (cleared-length p cells (out-Stmt x) ∙ long) (step p input (standing p (x ∷ rest) cells))
      (step_leads p input x rest (cleared_at p (out-Stmt x) cells)) m (standing p (x ∷ rest) cells) refl
      (x ∷ rest, cells, refl, i, long) (λ more then_cells s l. all_at m more then_cells s l)

-- what is left to do: statements without the region and then its statement and what is behind it, or statements without it
pub data Spot (r : ℕ) (behind : List Stmt) (to_do : List Stmt) : Type 0 where
  before_it : (inner : List Stmt) → to_do ≡ inner ++ behind → all_free r inner ≡ true → Spot r behind to_do
  beyond : all_free r to_do ≡ true → Spot r behind to_do

module _ {p : Program} {plan : Plan} (a : Accepted p plan) where
  abbrev pub behind : List Stmt
  behind = a.statement ∷ a.tail

  abbrev r : ℕ
  r = plan.region

  pub region_left : behind_region behind ≡ a.tail
  region_left = ap (λ (h : Stmt-F Stmt). behind_one (region_number h) a.tail (behind_region a.tail)) a.is

  at_region : (z : ℤ) → Spot r behind (followed a.statement a.tail (out-Stmt a.statement) z)
  at_region z = elim (cases_Bool (is_zero z)) [
    | inl q ↦ rw (a.is, q) (beyond a.tail_free)
    | inr q ↦
        rw (a.is, q) (before_it a.body refl (free_well_all p plan r a.body a.well))
  ]

  -- a break leaves the region, or another one before it
  spot_left : (inner : List Stmt) → all_free r inner ≡ true → Spot r behind (behind_region (inner ++ behind))
  spot_left inner w = elim (left-append inner behind) [
    | inl e ↦ before_it (behind_region inner) e (left_has (λ xs. all_free r xs ≡ true) (all_joins (is_free r)) inner w)
    | inr e ↦ subst (Spot r behind) (sym (e ∙ region_left)) (beyond a.tail_free)
  ]

  pub spot_next : (x : Stmt) (rest : List Stmt) (z : ℤ) → Spot r behind (x ∷ rest) → Spot r behind (followed x rest (out-Stmt x) z)
  spot_next x rest z (beyond w) = beyond (free_next r x rest z w)
  spot_next x rest z (before_it [] e w) = let here : a.statement ≡ x = cc in let more : a.tail ≡ rest = cc in rw (← here, ← more) (at_region z)
  spot_next x rest z (before_it (y ∷ inner) e w) =
      let here : y ≡ x = cc in
      let more : inner ++ behind ≡ rest = cc in
      rw (← here, ← more) (elim (cases_Bool (taken (out-Stmt y) z)) [
        | inl t ↦ subst (Spot r behind) (sym (taken_left y (inner ++ behind) (out-Stmt y) z t))
            (spot_left inner (and_parts (is_free r y) (all_free r inner) w).1)
        | inr t ↦ before_it (followed y inner (out-Stmt y) z) (followed-append y inner behind (out-Stmt y) z t) (free_next r y inner z w)
      ])

  -- Each configuration of the run stands so.
  abbrev pub Spotted : List ℤ → Config → Type 0
  Spotted input c = At p input (size p) (Spot r behind) spot_next c

  -- where the region's condition stands at the head, its statement does
  pub at_start : (input : List ℤ) (c : Config) → Spotted input c → stands_at_head r c ≡ true → (cells : List ℤ) × (c ≡ standing p behind cells)
      × (length cells ≡ size p)
  at_start input c (to_do, cells, is, spot, long) head = by to_do spot is (sym (ap (stands_at_head r) is) ∙ head)
    where
      by : (to_do : List Stmt) → Spot r behind to_do → c ≡ standing p to_do cells → stands_at_head r (standing p to_do cells) ≡ true → (cells : List ℤ)
          × (c ≡ standing p behind cells) × (length cells ≡ size p)
      by [] spot is head = absurd (cc)
      by (x ∷ rest) (beyond w) is head = absurd (both_ways (is_region r (out-Stmt x)) (not_at_head r x (and_parts (is_free r x) (all_free r rest) w).0) head)
      by (x ∷ rest) (before_it [] e w) is head = (cells, is ∙ ap (λ (ys : List Stmt). standing p ys cells) e, long)
      by (x ∷ rest) (before_it (y ∷ inner) e w) is head =
          let here : y ≡ x = cc in
          absurd (both_ways (is_region r (out-Stmt x)) (not_at_head r x (ap (is_free r) (sym here) ∙ (and_parts (is_free r y) (all_free r inner) w).0)) head)

-- Beyond the region there is no start.
no_places : (r n : ℕ) (cs : List Config) → Each (λ c. stands_at_head r c ≡ false) cs → places (stands_at_head r) n cs ≡ []
no_places r n [] h = refl
no_places r n (c ∷ cs) h = ap (λ (b : Bool). if b then n ∷ places (stands_at_head r) (suc n) cs else places (stands_at_head r) (suc n) cs) h.0
    ∙ no_places r (suc n) cs h.1

free_off : (p : Program) (r : ℕ) (to_do : List Stmt) (cells : List ℤ) → all_free r to_do ≡ true → stands_at_head r (standing p to_do cells) ≡ false
free_off p r [] cells w = refl
free_off p r (x ∷ rest) cells w = not_at_head r x (and_parts (is_free r x) (all_free r rest) w).0

pub never : (p : Program) (input : List ℤ) (r m n : ℕ) (to_do : List Stmt) (cells : List ℤ) → all_free r to_do ≡ true →
    places (stands_at_head r) n (run_of p input m (standing p to_do cells)).configs ≡ []
never p input r m n to_do cells w =
    no_places r n (run_of p input m (standing p to_do cells)).configs
    (each_map (At p input (length cells) (λ xs. all_free r xs ≡ true) (free_next r)) (λ c. stands_at_head r c ≡ false) (λ c at. ap (stands_at_head r) at.2
    ∙ free_off p r at.0 at.1 at.3)
    (run_of p input m (standing p to_do cells)).configs (all_at p input (length cells) (λ xs. all_free r xs ≡ true) (free_next r) m to_do cells w refl))
