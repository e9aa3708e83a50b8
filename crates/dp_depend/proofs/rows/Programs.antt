-- More programs, and profiles.
use Rattle.std.proofs.Common.{ℕ, true, [], ◌∷◌, pos}
use Rattle.dp_base.specs.declared.BinOp.TheVariants as op
use Rattle.dp_tree.specs.declared.SiteKind.TheVariants.{Assign, While, If}
use Rattle.dp_tree.specs.declared.VarScope.TheVariants.{Global, Outer, Body}
use Rattle.dp_tree.specs.declared.Program.{Program}
use Rattle.dp_tree.specs.declared.Expr.{Expr}
use Rattle.dp_tree.specs.declared.Expr.TheVariants as tree
use Rattle.dp_tree.specs.declared.Stmt.TheVariants as stmt
use Rattle.dp_tree.proofs.Build.{array, at, bin, loop, num, one_region, program, region, scalar, set, set_at, site, var}
use Rattle.dp_tree.proofs.Programs.{add}
use Rattle.dp_profile.specs.declared.Profile.{Profile}
pub use Rattle.dp_profile.proofs.rows.Profiles.{count, flow, profile, sum_loop_shown, skip_negative_shown}

abbrev mixed : ℕ → Expr
mixed x = bin op.Rem (add (bin op.Mul (var x) (num 5)) (num 3)) (num 16)

-- 1  int hist[16];
-- 2  int sum;
-- 4    int i = 0;
-- 6    while (i < input_len) {
-- 7      int x = input[i];
-- 8      i = i + 1;
-- 9      int a = x % 16;
-- 10     int b = (a * 5 + 3) % 16;   and so c, d, y
-- 14     hist[y] = hist[y] + 1;
-- 15     sum = sum + y;
abbrev pub generated : Program
generated = program
    (array 0 16 ∷ scalar 16 (pos 0) Global ∷ scalar 17 (pos 0) Outer ∷ scalar 18 (pos 0) (Body 1) ∷ scalar 19 (pos 0) (Body 1) ∷ scalar 20 (pos 0) (Body 1)
    ∷ scalar 21 (pos 0) (Body 1) ∷ scalar 22 (pos 0) (Body 1) ∷ scalar 23 (pos 0) (Body 1) ∷ [])
    (site 4 Assign 0 ∷ site 6 While 1 ∷ site 7 Assign 1 ∷ site 8 Assign 1 ∷ site 9 Assign 1 ∷ site 10 Assign 1 ∷ site 11 Assign 1 ∷ site 12 Assign 1
    ∷ site 13 Assign 1 ∷ site 14 Assign 1 ∷ site 15 Assign 1 ∷ [])
    (one_region 6 2 11)
    (set 1 2 (num 0) ∷ region 1 2 (bin op.Lt (var 2) tree.InputLen)
    (set 3 3 (tree.Input (var 2)) ∷ set 4 2 (add (var 2) (num 1)) ∷ set 5 4 (bin op.Rem (var 3) (num 16)) ∷ set 6 5 (mixed 4) ∷ set 7 6 (mixed 5)
    ∷ set 8 7 (mixed 6) ∷ set 9 8 (mixed 7)
    ∷ set_at 10 0 (var 8) (add (at 0 (var 8)) (num 1)) ∷ set 11 1 (add (var 1) (var 8)) ∷ []) ∷ [])

-- 1  int s;
-- 2  int t;
-- 3  int u;
-- 5    int i = 0;
-- 7    while (i < 1) {
-- 8      i = i + 1;
-- 10   while (i < 3) {
-- 11     while (s < i) {
-- 12       while (t < s) {
-- 13         t = t + 1;
-- 14       s = s + t;
-- 15     if (5 < t) {
-- 16       u = s;
-- 17     else u = t;
-- 18     while (t < u) {
-- 19       t = t + u;
-- 20     i = i + 1;
abbrev pub inner_loops : Program
inner_loops = program
    (scalar 0 (pos 0) Global ∷ scalar 1 (pos 0) Global ∷ scalar 2 (pos 0) Global ∷ scalar 3 (pos 0) Outer ∷ [])
    (site 5 Assign 0 ∷ site 7 While 1 ∷ site 8 Assign 1 ∷ site 10 While 2 ∷ site 11 While 2 ∷ site 12 While 2 ∷ site 13 Assign 2 ∷ site 14 Assign 2
    ∷ site 15 If 2 ∷ site 16 Assign 2 ∷ site 17 Assign 2 ∷ site 18 While 2 ∷ site 19 Assign 2 ∷ site 20 Assign 2 ∷ [])
    (record { line = 7; first = record { 0 = 2 }; last = record { 0 = 3 } } ∷ record { line = 10; first = record { 0 = 4 }; last = record { 0 = 14 } } ∷ [])
    (set 1 3 (num 0) ∷ region 1 2 (bin op.Lt (var 3) (num 1)) (set 3 3 (add (var 3) (num 1)) ∷ []) ∷ region 2 4 (bin op.Lt (var 3) (num 3))
    (loop 5 (bin op.Lt (var 0) (var 3)) (loop 6 (bin op.Lt (var 1) (var 0)) (set 7 1 (add (var 1) (num 1)) ∷ []) ∷ set 8 0 (add (var 0) (var 1)) ∷ [])
    ∷ stmt.If (record { 0 = 9 }) (bin op.Lt (num 5) (var 1)) (set 10 2 (var 0) ∷ []) (set 11 2 (var 1) ∷ [])
    ∷ loop 12 (bin op.Lt (var 1) (var 2)) (set 13 1 (add (var 1) (var 2)) ∷ []) ∷ set 14 3 (add (var 3) (num 1)) ∷ []) ∷ [])

-- Nothing was counted in the first region. In the second each site ran; what site 6 loads is rare, and what site 7 loads isn't.
abbrev pub inner_loops_shown : Profile
inner_loops_shown = record {
  regions = record { sites = count 0 0 ∷ count 0 0 ∷ []; flows = [] }
      ∷ record {
        sites = count 3 2 ∷ count 3 1 ∷ count 3 1 ∷ count 1 0 ∷ count 1 0 ∷ count 2 1 ∷ count 1 0 ∷ count 1 0 ∷ count 3 1 ∷ count 3 0 ∷ count 2 0 ∷ [];
        flows = flow 7 6 true 1 ∷ flow 13 7 true 1 ∷ [];
      } ∷ [];
}

-- 1  int a[9];
-- 2  int s;
-- 6    while (i < 4) {
-- 7      a[i + 1] = 7;
-- 8      s = s + a[i];
-- 9      s = s + a[i + 2];
-- 10     i = i + 1;
abbrev pub ahead : Program
ahead = program
    (array 0 9 ∷ scalar 9 (pos 0) Global ∷ scalar 10 (pos 0) Outer ∷ [])
    (site 4 Assign 0 ∷ site 6 While 1 ∷ site 7 Assign 1 ∷ site 8 Assign 1 ∷ site 9 Assign 1 ∷ site 10 Assign 1 ∷ [])
    (one_region 6 2 6)
    (set 1 2 (num 0) ∷ region 1 2 (bin op.Lt (var 2) (num 4))
    (set_at 3 0 (add (var 2) (num 1)) (num 7) ∷ set 4 1 (add (var 1) (at 0 (var 2))) ∷ set 5 1 (add (var 1) (at 0 (add (var 2) (num 2))))
    ∷ set 6 2 (add (var 2) (num 1)) ∷ []) ∷ [])
