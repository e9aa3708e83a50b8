-- The entries of the variables that a piece of the text declares.
use Rattle.std.proofs.Common.{◌≡◌, refl, ap, ◌∙◌, ℕ, zero, suc, ◌+◌, ◌-◌, ◌≤◌, ◌<◌, true, List, [], ◌∷◌, ◌++◌, length, slice_get, arith}
use Rattle.std.proofs.lemmas.Bool.Decides.{nat_tests}
use Rattle.dp_tree.specs.declared.VarInfo.{VarInfo}
use Rattle.dp_tree.specs.declared.VarScope.{VarScope}
use Rattle.dp_tree.specs.declared.VarScope.TheVariants.{Body}
use Rattle.dp_tree.specs.Scoping.{is_scope_in, is_declared_in}
use Rattle.dp_check.specs.Place.{TextPart, Site, Local, local_count}
use Rattle.dp_check.specs.Tables.{laid, locals_of}
use Rattle.dp_room.proofs.ListLemmas.{get_behind}

-- the n variables from k on are declared in region r, or outside all regions where r is 0
abbrev pub Declared : List VarInfo → ℕ → ℕ → ℕ → Type 0
Declared vars r k n = (j : ℕ) → k ≤ j → j < k + n → is_declared_in r (slice_get vars j) ≡ true

pub declared_front : (vars : List VarInfo) (r k a b n : ℕ) → n ≡ a + b → Declared vars r k n → Declared vars r k a
declared_front vars r k a b n e d j low high = d j low (omega arith)

pub declared_back : (vars : List VarInfo) (r k a b n m : ℕ) → n ≡ a + b → m ≡ k + a → Declared vars r k n → Declared vars r m b
declared_back vars r k a b n m e f d j low high = d j (omega arith) (omega arith)

module _ (r : ℕ) where
  -- where a variable lies in memory doesn't matter
  declared_laid : (c : ℕ) (xs : List VarInfo) (j : ℕ) → is_declared_in r (slice_get (laid c xs) j) ≡ is_declared_in r (slice_get xs j)
  declared_laid c (x ∷ xs) (suc j) = declared_laid (c + x.length) xs j
  declared_laid c _ _ = refl

  module _ (scope : VarScope) (fits : is_scope_in r scope ≡ true) (later : List VarInfo) where
    declared_here : (ps : List TextPart) (j : ℕ) → j < local_count ps → is_declared_in r (slice_get (locals_of scope ps ++ later) j) ≡ true
    declared_here [] j h = absurd (omega arith)
    declared_here (Site line k ∷ ps) j h = declared_here ps j h
    declared_here (Local name ∷ ps) zero h = fits
    declared_here (Local name ∷ ps) (suc j) h = declared_here ps j (omega arith)

    -- the variables of these parts have the numbers behind those before
    pub declared_in_table : (before : List VarInfo) (ps : List TextPart) (k : ℕ) → k ≡ length before
        → Declared (laid 0 (before ++ (locals_of scope ps ++ later))) r k (local_count ps)
    declared_in_table before ps k e j low high =
        let is : j ≡ length before + (j - length before) = omega arith in
        declared_laid 0 (before ++ (locals_of scope ps ++ later)) j
        ∙ ap (λ i. is_declared_in r (slice_get (before ++ (locals_of scope ps ++ later)) i)) is
        ∙ ap (is_declared_in r) (get_behind before (locals_of scope ps ++ later) (j - length before))
        ∙ declared_here ps (j - length before) (omega arith)

-- a local of a region is one of that region
pub body_scope : (r : ℕ) → 0 < r → is_scope_in r (Body r) ≡ true
body_scope zero h = absurd (omega arith)
body_scope (suc r) h = grind (arith, nat_tests)
