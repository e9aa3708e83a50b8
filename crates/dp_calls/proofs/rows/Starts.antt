-- How the variables of a program may start.
use Rattle.std.proofs.Common.{◌≡◌, refl, true, false, [], ◌∷◌, map, pos, negsuc}
use Rattle.dp_base.specs.Arithmetic.{is_zero}
use Rattle.dp_tree.specs.declared.Program.{Program}
use Rattle.dp_tree.specs.declared.VarInfo.{VarInfo}
use Rattle.dp_tree.specs.declared.VarScope.TheVariants.{Global, Outer, Body}
use Rattle.dp_calls.specs.Starts.{locals_start_clear}
use Rattle.dp_tree.proofs.Build.{program, scalar}

-- a file-scope variable that starts at 5, and another one
abbrev beside : VarInfo → Program
beside x = program (scalar 0 (pos 5) Global ∷ x ∷ []) [] [] []

-- locals start at 0
starts_taken : map (λ x. locals_start_clear (beside x)) (scalar 1 (negsuc 6) Global ∷ scalar 1 (pos 0) Outer ∷ scalar 1 (pos 0) (Body 1)
    ∷ scalar 1 (pos 0) (Body 7) ∷ []) ≡ true ∷ true ∷ true ∷ true ∷ []
unfolding is_zero
starts_taken = refl

-- no local starts elsewhere, and there is no region 0
starts_refused : map (λ x. locals_start_clear (beside x)) (scalar 1 (pos 1) Outer ∷ scalar 1 (pos 1) (Body 1) ∷ scalar 1 (negsuc 0) (Body 1)
    ∷ scalar 1 (pos 0) (Body 0) ∷ []) ≡ false ∷ false ∷ false ∷ false ∷ []
unfolding is_zero
starts_refused = refl
