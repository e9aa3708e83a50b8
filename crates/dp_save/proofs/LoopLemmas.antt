-- What is read word by word, number by number and variable by variable.
use Rattle.std.proofs.Common.{◌≡◌, ℕ, suc, ◌+◌, ◌<◌, ◌≤◌, ◌==◌, Bool, true, false, List, [], ◌∷◌, ◌++◌, length, drop, get_or, Option, Some, None, refl, sym, ap}
use Rattle.std.proofs.Common.{◌∙◌, length-append, arith, rules, tests}
use Rattle.std.specs.Prelude.{replicate}
use Rattle.std.proofs.lemmas.List.{length-replicate}
use Rattle.dp_room.proofs.ListLemmas.{next_of}
use Rattle.dp_tree.specs.declared.VarInfo.{VarInfo}
use Rattle.dp_tree.specs.Trace.{start_cells}

-- earlier elements, before what the later words give
abbrev pub behind : {X : Type 0} → List X → Option (List X) → Option (List X)
behind earlier None = None
behind earlier (Some xs) = Some (earlier ++ xs)

-- more than the length of what follows a space, and 0 where nothing follows
abbrev pub length_behind : Option (List ℕ) → ℕ
length_behind None = 0
length_behind (Some text) = suc (length text)

-- the cells of a variable, and those of the variables behind it
pub cells_next : (vars : List VarInfo) (i : ℕ) (x : VarInfo) → i < length vars → x ≡ get_or vars i x → length (start_cells (drop i vars)) ≡ x.length + length
    (start_cells (drop (i + 1) vars))
cells_next vars i x h is =
    ap (λ (xs : List VarInfo). length (start_cells xs)) (next_of vars i x h is)
    ∙ length-append (replicate x.length x.start) (start_cells (drop (i + 1) vars))
    ∙ ap (λ (n : ℕ). n + length (start_cells (drop (i + 1) vars))) (length-replicate x.length x.start)

pub ruleset cells_go_on = (cells_next)
