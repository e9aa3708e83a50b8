-- What follows a statement at the head: facts that its parts and the rest have, the rest has after a step.
use Rattle.dp_semantics.proofs.Names.{◌∙◌, ◌≡◌, Bool, true, List, ◌∷◌, ◌++◌, ℤ, list_all, is_zero, Stmt, out-Stmt, Stmt-F, If, While, Region, Break}
use Rattle.dp_semantics.proofs.Names.{behind_region, behind_one, region_number, and_parts, [], ℕ, Option, Some, None, choose, followed, inl, inr, and_from}
use Rattle.dp_semantics.proofs.Names.{cases_Bool, list_all-append}

-- A fact of lists of statements that holds of two lists joined, and of what is behind a region.
pub record Joins (F : List Stmt → Type 0) : Type 0 where
  pub join : (a b : List Stmt) → F a → F b → F (a ++ b)
  pub rest : (x : Stmt) (a : List Stmt) → F (x ∷ a) → F a

pub left_has : (F : List Stmt → Type 0) → Joins F → (a : List Stmt) → F a → F (behind_region a)
left_has F j [] h = h
left_has F j (x ∷ a) h = by (region_number (out-Stmt x)) (left_has F j a (j.rest x a h))
  where
    by : (o : Option ℕ) → F (behind_region a) → F (behind_one o a (behind_region a))
    by None later = later
    by (Some r) later = j.rest x a h

-- the parts of a statement whose first part may come next
abbrev pub Parts : (List Stmt → Type 0) → Stmt-F Stmt → Type 0
Parts F (If site cond a b) = F a × F b
Parts F (While site cond a) = F a
Parts F (Region r site cond a) = F a
Parts F _ = Unit {0}

chosen : (F : List Stmt → Type 0) (z : ℤ) (a b : List Stmt) → F a → F b → F (choose z a b)
chosen F z a b h k = elim (cases_Bool (is_zero z)) [ inl e ↦ rw e k | inr e ↦ rw e h ]

pub followed_has : (F : List Stmt → Type 0) → Joins F → (x : Stmt) (rest : List Stmt) (h : Stmt-F Stmt) (z : ℤ) → F (x ∷ rest) → F rest → Parts F h →
    F (followed x rest h z)
followed_has F j x rest (If site cond a b) z here later parts = j.join (choose z a b) rest (chosen F z a b parts.0 parts.1) later
followed_has F j x rest (While site cond a) z here later parts = chosen F z (a ++ x ∷ rest) rest (j.join a (x ∷ rest) parts here) later
followed_has F j x rest (Region r site cond a) z here later parts = chosen F z (a ++ x ∷ rest) rest (j.join a (x ∷ rest) parts here) later
followed_has F j x rest (Break site cond) z here later parts = chosen F z (behind_region rest) rest (left_has F j rest later) later
followed_has F j x rest _ z here later parts = later

-- a test of each statement is such a fact
pub all_joins : (test : Stmt → Bool) → Joins (λ xs. list_all test xs ≡ true)
all_joins test = record { join = λ a b h k. list_all-append test a b ∙ and_from _ _ h k; rest = λ x a h. (and_parts (test x) (list_all test a) h).1 }
