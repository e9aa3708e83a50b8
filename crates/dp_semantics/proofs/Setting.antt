-- What the proof assumes of a program and a plan, and what it knows of the source's stores.
use Rattle.dp_semantics.proofs.Names.{◌≡◌, ℕ, suc, ◌<◌, Bool, true, false, List, [], ◌∷◌, ◌++◌, ℤ, length, Some, list_any, SiteId, Expr, Stmt, out-Stmt, Stmt-F}
use Rattle.dp_semantics.proofs.Names.{Region, Program, Plan, cell_count, Stored, start_cells, Access, stage_of, pos, get_or, Ok, Load, WithLoads, Effect}
use Rattle.dp_semantics.proofs.Names.{evaluated, site_of, stores_var, first_site, is_replicated, is_body_local, region_statement, region_accesses, Past}
use Rattle.dp_semantics.proofs.Names.{is_local_at, Epoch, last, or_parts}
pub use Rattle.dp_semantics.proofs.Each.{Each, each_both, each_map, each_split, all_of, each_join, none_of, all_make, none_make}
pub use Rattle.dp_semantics.proofs.Evaluation.{head_stores, InVar, Form, Holds, Readable, IsHeld, head_loads, Tracked, evaluated_tracks, Roomy}
pub use Rattle.dp_semantics.proofs.Heads.{accesses_all, all_well, well_at, project_at, project_out, head_access, inside, accesses_at, accesses_out, well_out}
pub use Rattle.dp_semantics.proofs.Heads.{if_rule, all_free, free_at, free_out, well_hidden}
pub use Rattle.dp_semantics.proofs.Ways.{Goes, stays, goes, event_of, Before, fresh_start, went_on, Here, here_next, Apart}
use Rattle.dp_tree.specs.declared.Stmt.TheVariants as tree
use Rattle.dp_plan.specs.IsFar.{is_far}
pub use Rattle.dp_semantics.proofs.Followed.{Joins, Parts, followed_has, all_joins}

-- what no access of the region passes, this one doesn't
abbrev pub Listed : List Access → Access → Type 0
Listed all a = (test : Access → Bool) → list_any test all ≡ false → test a ≡ false

pub listed_all : (all : List Access) → Each (Listed all) all
listed_all [] = tt
listed_all (a ∷ rest) = (
  λ test e. (or_parts (test a) (list_any test rest) e).0,
  each_map (Listed rest) (Listed (a ∷ rest)) (λ b h test e. h test
      (or_parts (test a) (list_any test rest) e).1) rest (listed_all rest),
)

-- the number of cells
abbrev pub size : Program → ℕ
size p = length (start_cells p.vars)

-- the cells of the variables: within the memory, apart, and local where their variable is
pub record Laid (p : Program) (plan : Plan) : Type 0 where
  pub within : (x c : ℕ) → InVar p x c → c < size p
  pub apart : (x y c : ℕ) → InVar p x c → InVar p y c → x ≡ y
  pub local : (x c : ℕ) → InVar p x c → is_local_at p plan c ≡ is_body_local p plan x

-- what is asked of each site of the region
pub record Sound (p : Program) (plan : Plan) (a : Access) : Type 0 where
  pub listed : Listed (region_accesses p plan) a
  pub reads : Each (λ x. 0 < cell_count p (record { 0 = x })) a.loads
  pub room : Roomy p a.stores
  pub staged : 0 < stage_of p plan a.site
  pub early : stage_of p plan a.site < last plan

-- the head of the region's statement
pub record RegionIs (p : Program) (plan : Plan) (h : Stmt-F Stmt) : Type 0 where
  pub site : SiteId
  pub cond : Expr
  pub body : List Stmt
  pub is : h ≡ Region plan.region site cond body
  pub first : first_site p plan ≡ site.0
  pub staged : stage_of p plan (first_site p plan) ≡ 1
  pub well : all_well p plan body ≡ true
  pub inner : Each (λ a. a.site ≡ first_site p plan → ⊥) (accesses_all body)

-- the statements before and behind it
pub record Split (r : ℕ) (main : List Stmt) (statement : Stmt) : Type 0 where
  pub front : List Stmt
  pub tail : List Stmt
  pub main_is : main ≡ front ++ statement ∷ tail
  pub front_free : all_free r front ≡ true
  pub tail_free : all_free r tail ≡ true

-- an inlined program with a plan of one of its regions
pub record Accepted (p : Program) (plan : Plan) : Type 0 where
  pub statement : Stmt
  pub laid : Laid p plan
  pub region : region_statement p plan ≡ statement ∷ []
  pub part : RegionIs p plan (out-Stmt statement)
  pub open part use *
  pub split : Split plan.region p.main statement
  pub open split use *
  pub sound : Each (Sound p plan) (region_accesses p plan)
  pub sequential : is_replicated plan 1 ≡ false
  pub apart : (s : ℕ) → is_replicated plan (suc s) ≡ true → is_replicated plan s ≡ false

-- one iteration as a statement
abbrev pub turn_of : {p : Program} {plan : Plan} → Accepted p plan → List Stmt
turn_of a = tree.If a.site a.cond a.body [] ∷ []

-- no site that stores variable y is far from site u
abbrev pub Clear : Program → Plan → ℕ → ℕ → Type 0
Clear p plan u y = (d : Access) → Listed (region_accesses p plan) d → stores_var y d ≡ true → is_far p plan.region d.site u ≡ false

-- the past event isn't a store into cell c, where its site lies apart
abbrev pub NotInto : Program → ℕ → ℕ → ℕ → ℕ → Past → Type 0
NotInto p r u i c past = Apart p r u i past → (value : ℤ) → past.event.effect ≡ Stored c value → ⊥

-- in this memory the clear variables that the site loads are as in the source's
abbrev pub ClearSame : Program → Plan → List ℤ → List ℤ → Stmt-F Stmt → Type 0
ClearSame p plan one cells h = Each (λ y. Clear p plan (site_of h).0 y → (c : ℕ) → InVar p y c → get_or one c (pos 0) ≡ get_or cells c (pos 0)) (head_loads h)

-- What a site loads is no cell that a site that lies apart from it stored.
abbrev pub NeverMet : (p : Program) (plan : Plan) → Accepted p plan → List ℤ → Type 0
NeverMet p plan a input = (i : ℕ) (x : Stmt) (rest : List Stmt) (earlier : List Past) (cells : List ℤ) →
    Here p input plan.region (turn_of a) i (x ∷ rest) earlier cells → (one : List ℤ) (w : WithLoads Effect) → evaluated p input one (out-Stmt x) ≡ Ok w →
    ClearSame p plan one cells (out-Stmt x) → Each (λ (l : Load). Each (NotInto p plan.region (site_of (out-Stmt x)).0 i l.cell) earlier) w.loads

-- an epoch of such a program and plan
pub record Fit (k : Epoch) : Type 0 where
  pub accepted : Accepted k.program k.plan
  pub met : NeverMet k.program k.plan accepted k.input

-- a store into cell c at a site of the region: it is one of the region's accesses, to the variable that has the cell
pub record StoredBy (k : Epoch) (site c : ℕ) : Type 0 where
  pub access : Access
  pub variable : ℕ
  pub at : access.site ≡ site
  pub stores : access.stores ≡ Some variable
  pub inside : InVar k.program variable c
  pub listed : Listed (region_accesses k.program k.plan) access
  pub early : stage_of k.program k.plan site < last k.plan

-- what an event stored is known
abbrev pub Known : Epoch → Past → Type 0
Known k past = (c : ℕ) (value : ℤ) → past.event.effect ≡ Stored c value → StoredBy k past.event.site c
