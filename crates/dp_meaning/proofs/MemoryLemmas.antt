-- Stores and clearing.
use Rattle.dp_meaning.proofs.Names.{◌≡◌, refl, ◌∙◌, ap, ℕ, ◌+◌, ◌<◌, List, [], ◌∷◌, ◌++◌, replicate, drop, get_or, length, slice_set, Option}
use Rattle.dp_meaning.proofs.Names.{Some, None, ℤ, length-set, StoreOf, Stmt, out-Stmt, Program, VarInfo, start_cells}
use Rattle.dp_meaning.proofs.Names.{region_number, clear_one, cleared_leaving, with_stores, first_given, first_region}
use Rattle.dp_room.proofs.ListLemmas.{next_of}
use Rattle.dp_tree.proofs.InMain.{cleared_length}

-- one store more is made
pub store_next : (list : List StoreOf) (i : ℕ) (x : StoreOf) (cells : List ℤ) → i < length list → x ≡ get_or list i x →
    with_stores (drop i list) cells ≡ with_stores (drop (i + 1) list) (slice_set cells x.cell.0 x.value)
store_next list i x cells h is = ap (λ (xs : List StoreOf). with_stores xs cells) (next_of list i x h is)

pub length-with_stores : (list : List StoreOf) (cells : List ℤ) → length (with_stores list cells) ≡ length cells
length-with_stores [] cells = refl
length-with_stores (s ∷ rest) cells = length-with_stores rest (slice_set cells s.cell.0 s.value) ∙ length-set cells s.cell.0 s.value

pub ruleset makes = (store_next)

-- what is cleared where a region is left
pub leaving : (p : Program) (xs : List Stmt) (cells : List ℤ) → cleared_leaving p xs cells ≡ clear_one p (first_region xs) cells cells
leaving p [] cells = refl
leaving p (x ∷ xs) cells = by (region_number (out-Stmt x)) (leaving p xs cells)
  where
    by : (o : Option ℕ) → cleared_leaving p xs cells ≡ clear_one p (first_region xs) cells cells → clear_one p o cells (cleared_leaving p xs cells) ≡ clear_one
        p (first_given o (first_region xs)) cells cells
    by None later = later
    by (Some r) later = refl

length-clear_one : (p : Program) (o : Option ℕ) (cells : List ℤ) → length (clear_one p o cells cells) ≡ length cells
length-clear_one p None cells = refl
length-clear_one p (Some r) cells = cleared_length r p.vars cells

pub length-cleared_leaving : (p : Program) (xs : List Stmt) (cells : List ℤ) → length (cleared_leaving p xs cells) ≡ length cells
length-cleared_leaving p xs cells = ap length (leaving p xs cells) ∙ length-clear_one p (first_region xs) cells

pub ruleset lengths = (cleared_length, length-with_stores, length-cleared_leaving)

-- one variable more has its cells
pub start_next : (vars : List VarInfo) (i : ℕ) (x : VarInfo) → i < length vars → x ≡ get_or vars i x →
    start_cells (drop i vars) ≡ replicate x.length x.start ++ start_cells (drop (i + 1) vars)
start_next vars i x h is = ap start_cells (next_of vars i x h is)

pub ruleset starts = (start_next)
