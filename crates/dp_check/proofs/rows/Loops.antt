-- Loops with an initialiser and a step: their sites, regions and names.
use Rattle.std.proofs.Common.{◌≡◌, refl, ℕ, Bool, true, false, List, [], ◌∷◌, map, pos, Result, Err, None, codes}
use Rattle.dp_base.specs.declared.BinOp.TheVariants as op
use Rattle.dp_tree.specs.declared.Expr.{Expr}
use Rattle.dp_tree.specs.declared.Expr.TheVariants as tree
use Rattle.dp_tree.specs.declared.Program.{Program}
use Rattle.dp_tree.specs.declared.SiteKind.TheVariants as kind
use Rattle.dp_tree.specs.declared.VarInfo.{VarInfo}
use Rattle.dp_tree.specs.declared.VarScope.{VarScope}
use Rattle.dp_tree.specs.declared.VarScope.TheVariants.{Outer, Body}
use Rattle.dp_tree.specs.declared.raw.RawExpr.{RawExpr}
use Rattle.dp_tree.specs.declared.raw.RawExpr.TheVariants as expr
use Rattle.dp_tree.specs.declared.raw.RawStmt.{RawStmt}
use Rattle.dp_tree.specs.declared.raw.RawStmt.TheVariants as stmt
use Rattle.dp_tree.specs.declared.raw.RawItem.TheVariants as item
use Rattle.dp_tree.specs.declared.raw.RawProgram.{RawProgram}
use Rattle.dp_tree.proofs.Build as numbered
use Rattle.dp_check.specs.declared.fail.CheckFail.{CheckFail}
use Rattle.dp_check.specs.declared.fail.CheckFail.TheVariants.{Unknown, Twice}
use Rattle.dp_check.specs.Offence.{Token, first_offence}
use Rattle.dp_check.specs.Tokens.{tokens_all}
use Rattle.dp_check.specs.Checked.{breaks_fit}
use Rattle.dp_check.specs.CheckAnswer.{names_of, resolved, check_answer}
use Rattle.dp_check.proofs.rows.Build.{on, var, num, add, declare, set, say, names_opened}

abbrev i : ℕ → RawExpr
i line = var line (codes "i")

abbrev text : List RawStmt → RawProgram
text main = record { items = []; main = main }

abbrev answer : List RawStmt → Result Program CheckFail
answer main = check_answer (text main)

-- 3 for (
-- 4   int i = 0;
-- 5   i < 3;
-- 6   i = i + 1) {
-- 7   int t = i; }
abbrev counting : Bool → RawStmt
counting marked = stmt.For 3 marked (declare 4 4 (codes "i") (num 0) ∷ []) (expr.Binary op.Lt (i 5) (num 3)) (set 6 (codes "i") (add (i 6) (num 1)) ∷ [])
    (declare 7 7 (codes "t") (i 7) ∷ [])

abbrev local : List ℕ → ℕ → VarScope → VarInfo
local name cell scope = record (numbered.scalar cell (pos 0) scope) { name = name }

abbrev less : Expr → Expr → Expr
less a b = tree.Binary op.Lt a b

abbrev sum : Expr → Expr → Expr
sum a b = tree.Binary op.Add a b

-- the initialiser, the condition, the body and the step, each on its own line; the condition is on the line of `for`
plain_sites : (resolved (text (counting false ∷ []))).sites ≡ numbered.site 4 kind.Assign 0 ∷ numbered.site 3 kind.While 0 ∷ numbered.site 7 kind.Assign 0
    ∷ numbered.site 6 kind.Assign 0 ∷ []
unfolding names_opened
plain_sites = refl

plain_main : (resolved (text (counting false ∷ []))).main
    ≡ numbered.set 1 0 (numbered.num 0) ∷ numbered.loop 2 (less (numbered.var 0) (numbered.num 3)) (numbered.set 3 1 (numbered.var 0)
    ∷ numbered.set 4 0 (sum (numbered.var 0) (numbered.num 1)) ∷ []) ∷ []
unfolding names_opened
plain_main = refl

-- two regions, behind their initialisers, which are no part of them
abbrev twice : RawProgram
twice = text (counting true ∷ counting true ∷ [])

marked_sites : (resolved twice).sites
    ≡ numbered.site 4 kind.Assign 0 ∷ numbered.site 3 kind.While 1 ∷ numbered.site 7 kind.Assign 1 ∷ numbered.site 6 kind.Assign 1
    ∷ numbered.site 4 kind.Assign 0 ∷ numbered.site 3 kind.While 2 ∷ numbered.site 7 kind.Assign 2 ∷ numbered.site 6 kind.Assign 2 ∷ []
unfolding names_opened
marked_sites = refl

marked_regions : (resolved twice).regions
    ≡ record { line = 3; first = record { 0 = 2 }; last = record { 0 = 4 } } ∷ record { line = 3; first = record { 0 = 6 }; last = record { 0 = 8 } } ∷ []
unfolding names_opened
marked_regions = refl

marked_variables : (resolved twice).vars ≡ local (codes "i") 0 Outer ∷ local (codes "t") 1 (Body 1) ∷ local (codes "i") 2 Outer
    ∷ local (codes "t") 3 (Body 2) ∷ []
unfolding names_opened
marked_variables = refl

marked_main : (resolved twice).main
    ≡ numbered.set 1 0 (numbered.num 0) ∷ numbered.region 1 2 (less (numbered.var 0) (numbered.num 3)) (numbered.set 3 1 (numbered.var 0)
    ∷ numbered.set 4 0 (sum (numbered.var 0) (numbered.num 1)) ∷ [])
    ∷ numbered.set 5 2 (numbered.num 0) ∷ numbered.region 2 6 (less (numbered.var 2) (numbered.num 3)) (numbered.set 7 3 (numbered.var 2)
    ∷ numbered.set 8 2 (sum (numbered.var 2) (numbered.num 1)) ∷ []) ∷ []
unfolding names_opened
marked_main = refl

-- a mark below the top of `main` means nothing
inner_mark : (resolved (text (stmt.If 1 (num 1) (counting true ∷ []) [] ∷ []))).regions ≡ []
unfolding names_opened
inner_mark = refl

-- a step that prints nothing and declares nothing stands behind an inner loop: 1 first, 2 condition, 3 to 6 the inner loop, 7 step
abbrev within_one : RawStmt
within_one = stmt.For 1 false (declare 1 1 (codes "k") (num 0) ∷ []) (var 1 (codes "k")) (set 2 (codes "k") (num 1) ∷ []) (counting false ∷ [])

nested : (resolved (text (within_one ∷ []))).main
    ≡ numbered.set 1 0 (numbered.num 0) ∷ numbered.loop 2 (numbered.var 0)
    (numbered.set 3 1 (numbered.num 0) ∷ numbered.loop 4 (less (numbered.var 1) (numbered.num 3)) (numbered.set 5 2 (numbered.var 1)
    ∷ numbered.set 6 1 (sum (numbered.var 1) (numbered.num 1)) ∷ [])
    ∷ numbered.set 7 0 (numbered.num 1) ∷ []) ∷ []
unfolding names_opened
nested = refl

-- an initialiser and a step that assign elements, in a function, whose numbers come behind those of `main`
abbrev filling : RawProgram
filling = record {
  items = item.Array (on 1 (codes "a")) (pos 2) ∷ item.Function (on 2 (codes "f")) (on 2 (codes "n") ∷ [])
      (stmt.For 3 false (stmt.Store (on 4 (codes "a")) (num 1) (num 8) ∷ []) (var 5 (codes "n")) (stmt.Store (on 6 (codes "a")) (num 0) (num 9) ∷ [])
      (say 7 (var 7 (codes "n")) ∷ []) ∷ []) ∷ [];
  main = say 8 (num 5) ∷ [];
}

filling_sites : (resolved filling).sites ≡ numbered.site 8 kind.Print 0 ∷ numbered.site 4 kind.Assign 0 ∷ numbered.site 3 kind.While 0
    ∷ numbered.site 7 kind.Print 0 ∷ numbered.site 6 kind.Assign 0 ∷ []
unfolding names_opened
filling_sites = refl

filling_functions : (resolved filling).functions
    ≡ numbered.function (1 ∷ []) (numbered.set_at 2 0 (numbered.num 1) (numbered.num 8) ∷ numbered.loop 3 (numbered.var 1) (numbered.say 4 (numbered.var 1)
    ∷ numbered.set_at 5 0 (numbered.num 0) (numbered.num 9) ∷ []) ∷ []) ∷ []
unfolding names_opened
filling_functions = refl

-- ---- names

-- the initialiser, the condition, the step and the body, in text order
in_order : map (λ (t : Token). t.name.line)
    (tokens_all (record { names = []; variable = 0; site = 1 }) (stmt.For 1 false (set 2 (codes "u") (i 3) ∷ []) (i 4) (set 5 (codes "u") (i 6) ∷ [])
    (say 7 (i 8) ∷ []) ∷ []))
    ≡ 2 ∷ 3 ∷ 4 ∷ 5 ∷ 6 ∷ 8 ∷ []
unfolding names_opened
in_order = refl

lawful : first_offence (names_of (text (counting true ∷ counting false ∷ declare 8 8 (codes "i") (num 5) ∷ say 9 (i 9) ∷ []))) ≡ None
unfolding names_opened
lawful = refl

-- the step doesn't see the body's names
body_in_step : answer (stmt.For 3 false (declare 4 4 (codes "i") (num 0) ∷ []) (i 5) (set 6 (codes "i") (var 6 (codes "t")) ∷ [])
    (declare 7 7 (codes "t") (num 1) ∷ []) ∷ []) ≡ Err (Unknown 6)
unfolding names_opened
body_in_step = refl

-- the name of an initialiser ends with its loop, isn't visible in its own value, and must not be visible before
behind_the_loop : answer (counting true ∷ say 9 (i 9) ∷ []) ≡ Err (Unknown 9)
unfolding names_opened
behind_the_loop = refl

own_value : answer (stmt.For 3 false (declare 4 4 (codes "i") (i 5) ∷ []) (num 1) (set 6 (codes "i") (num 1) ∷ []) [] ∷ []) ≡ Err (Unknown 5)
unfolding names_opened
own_value = refl

visible_before : answer (declare 1 1 (codes "i") (num 0) ∷ counting false ∷ []) ≡ Err (Twice 4)
unfolding names_opened
visible_before = refl

declared_again_inside : answer (stmt.For 3 true (declare 4 4 (codes "i") (num 0) ∷ []) (i 5) (set 6 (codes "i") (num 1) ∷ []) (declare 7 7 (codes "i") (num 1)
    ∷ []) ∷ []) ≡ Err (Twice 7)
unfolding names_opened
declared_again_inside = refl

-- ---- breaks stand at the top of a marked loop's body at the top of `main`

abbrev leaving : Bool → RawStmt
leaving marked = stmt.For 3 marked (declare 4 4 (codes "i") (num 0) ∷ []) (i 5) (set 6 (codes "i") (num 1) ∷ []) (stmt.Break 7 (i 7) ∷ [])

breaks : map (λ main. breaks_fit (text main)) ((leaving true ∷ []) ∷ (leaving false ∷ []) ∷ (stmt.While 1 true (num 1) (leaving true ∷ []) ∷ [])
    ∷ (stmt.For 1 true (stmt.Break 1 (num 1) ∷ []) (num 1) [] [] ∷ []) ∷ (stmt.For 1 true [] (num 1) (stmt.Break 1 (num 1) ∷ []) [] ∷ []) ∷ []) ≡ true ∷ false
    ∷ false ∷ false ∷ false ∷ []
unfolding names_opened
breaks = refl
