-- The test programs, each with its text. A variable's number is its place in the text's order, and so is a site's, from 1.
use Rattle.std.proofs.Common.{[], ◌∷◌, pos}
use Rattle.dp_base.specs.declared.BinOp.TheVariants as op
use Rattle.dp_tree.specs.declared.VarScope.TheVariants.{Global, Outer, Body}
use Rattle.dp_tree.specs.declared.SiteKind.TheVariants.{Assign, Print, If, While}
use Rattle.dp_tree.specs.declared.Program.{Program}
use Rattle.dp_tree.specs.declared.Expr.{Expr}
use Rattle.dp_tree.specs.declared.Expr.TheVariants as tree
use Rattle.dp_tree.proofs.Build.{num, var, at, bin, set, set_at, say, when, loop, region, call, scalar, array, site, one_region, function, program}
use Rattle.dp_tree.proofs.Build.{with_functions}

abbrev pub add : Expr → Expr → Expr
add a b = bin op.Add a b

-- int main() { }
abbrev pub empty_program : Program
empty_program = program [] [] [] []

-- 1  int s;
-- 2  int main() {
-- 3    int i = 0;
-- 4    #pragma dswp
-- 5    while (i < 3) {
-- 6      s = s + i;
-- 7      print(s);
-- 8      i = i + 1;
--      } }
abbrev pub sum_loop : Program
sum_loop = program
    (scalar 0 (pos 0) Global ∷ scalar 1 (pos 0) Outer ∷ [])
    (site 3 Assign 0 ∷ site 5 While 1 ∷ site 6 Assign 1 ∷ site 7 Print 1 ∷ site 8 Assign 1 ∷ [])
    (one_region 5 2 5)
    (set 1 1 (num 0) ∷ region 1 2 (bin op.Lt (var 1) (num 3)) (set 3 0 (add (var 0) (var 1)) ∷ say 4 (var 0) ∷ set 5 1 (add (var 1) (num 1)) ∷ []) ∷ [])

-- 2    #pragma dswp
-- 3    while (0) { }
abbrev pub closed_at_once : Program
closed_at_once = program [] (site 3 While 1 ∷ []) (one_region 3 1 1) (region 1 1 (num 0) [] ∷ [])

-- 1  int q;
-- 3    int i = 0;
-- 4    #pragma dswp
-- 5    while (i < 6) {
-- 6      q = 12 / (3 - i);
-- 7      i = i + 1;
abbrev pub zero_divisor : Program
zero_divisor = program
    (scalar 0 (pos 0) Global ∷ scalar 1 (pos 0) Outer ∷ [])
    (site 3 Assign 0 ∷ site 5 While 1 ∷ site 6 Assign 1 ∷ site 7 Assign 1 ∷ [])
    (one_region 5 2 4)
    (set 1 1 (num 0) ∷ region 1 2 (bin op.Lt (var 1) (num 6))
    (set 3 0 (bin op.Div (num 12) (bin op.Sub (num 3) (var 1))) ∷ set 4 1 (add (var 1) (num 1)) ∷ []) ∷ [])

-- 1  int a[8];
-- 2  int s;
-- 4    int i = 0;
-- 5    #pragma dswp
-- 6    while (i < 6) {
-- 7      s = s + a[i];
-- 8      i = i + 1;
-- 9      a[(i + 1) % 8] = VALUE;
abbrev pub delayed_store : Expr → Program
delayed_store value = program
    (array 0 8 ∷ scalar 8 (pos 0) Global ∷ scalar 9 (pos 0) Outer ∷ [])
    (site 4 Assign 0 ∷ site 6 While 1 ∷ site 7 Assign 1 ∷ site 8 Assign 1 ∷ site 9 Assign 1 ∷ [])
    (one_region 6 2 5)
    (set 1 2 (num 0) ∷ region 1 2 (bin op.Lt (var 2) (num 6))
    (set 3 1 (add (var 1) (at 0 (var 2))) ∷ set 4 2 (add (var 2) (num 1)) ∷ set_at 5 0 (bin op.Rem (add (var 2) (num 1)) (num 8)) value ∷ []) ∷ [])

-- the stored value is `i`: it is read two iterations later
abbrev pub stale_read : Program
stale_read = delayed_store (var 2)

-- the stored value is 0, which the element has already
abbrev pub same_value_store : Program
same_value_store = delayed_store (num 0)

-- 1   int n;
-- 3     int i = 0;
-- 4     #pragma dswp
-- 5     while (i < input_len) {
-- 6       int x = input[i];
-- 7       if (x < 0) {
-- 8         i = i + 1;
--         }
-- 10      i = i + 1;
-- 11      n = n + x;
abbrev pub skip_negative : Program
skip_negative = program
    (scalar 0 (pos 0) Global ∷ scalar 1 (pos 0) Outer ∷ scalar 2 (pos 0) (Body 1) ∷ [])
    (site 3 Assign 0 ∷ site 5 While 1 ∷ site 6 Assign 1 ∷ site 7 If 1 ∷ site 8 Assign 1 ∷ site 10 Assign 1 ∷ site 11 Assign 1 ∷ [])
    (one_region 5 2 7)
    (set 1 1 (num 0) ∷ region 1 2 (bin op.Lt (var 1) tree.InputLen)
    (set 3 2 (tree.Input (var 1)) ∷ when 4 (bin op.Lt (var 2) (num 0)) (set 5 1 (add (var 1) (num 1)) ∷ [])
    ∷ set 6 1 (add (var 1) (num 1)) ∷ set 7 0 (add (var 0) (var 2)) ∷ []) ∷ [])

-- 1  int h[4];
-- 3    int i = 0;
-- 4    #pragma dswp
-- 5    while (i < input_len) {
-- 6      int x = input[i];
-- 7      i = i + 1;
-- 8      int y = (x * 5 + 3) % 4;
-- 9      h[y] = h[y] + 1;
abbrev pub histogram : Program
histogram = program
    (array 0 4 ∷ scalar 4 (pos 0) Outer ∷ scalar 5 (pos 0) (Body 1) ∷ scalar 6 (pos 0) (Body 1) ∷ [])
    (site 3 Assign 0 ∷ site 5 While 1 ∷ site 6 Assign 1 ∷ site 7 Assign 1 ∷ site 8 Assign 1 ∷ site 9 Assign 1 ∷ [])
    (one_region 5 2 6)
    (set 1 1 (num 0) ∷ region 1 2 (bin op.Lt (var 1) tree.InputLen)
    (set 3 2 (tree.Input (var 1)) ∷ set 4 1 (add (var 1) (num 1)) ∷ set 5 3 (bin op.Rem (add (bin op.Mul (var 2) (num 5)) (num 3)) (num 4))
    ∷ set_at 6 0 (var 3) (add (at 0 (var 3)) (num 1)) ∷ []) ∷ [])

-- 1  int a[1];
-- 3    int i = 0;
-- 4    #pragma dswp
-- 5    while (i < 3) {
-- 6      a[0] = i * 10;
-- 7      a[0] = i;
-- 8      i = i + 1;
abbrev pub two_stores : Program
two_stores = program
    (array 0 1 ∷ scalar 1 (pos 0) Outer ∷ [])
    (site 3 Assign 0 ∷ site 5 While 1 ∷ site 6 Assign 1 ∷ site 7 Assign 1 ∷ site 8 Assign 1 ∷ [])
    (one_region 5 2 5)
    (set 1 1 (num 0) ∷ region 1 2 (bin op.Lt (var 1) (num 3))
    (set_at 3 0 (num 0) (bin op.Mul (var 1) (num 10)) ∷ set_at 4 0 (num 0) (var 1) ∷ set 5 1 (add (var 1) (num 1)) ∷ []) ∷ [])

-- 1   int step;
-- 2   int t;
-- 4     int i = 0;
-- 5     #pragma dswp
-- 6     while (i < 3) {
-- 7       int j = 0;
-- 8       while (j < i * 4) {
-- 9         j = j + step;
--         }
-- 11      t = t + j;
-- 12      step = 2;
-- 13      i = i + 1;
abbrev pub stale_step : Program
stale_step = program
    (scalar 0 (pos 0) Global ∷ scalar 1 (pos 0) Global ∷ scalar 2 (pos 0) Outer ∷ scalar 3 (pos 0) (Body 1) ∷ [])
    (site 4 Assign 0 ∷ site 6 While 1 ∷ site 7 Assign 1 ∷ site 8 While 1 ∷ site 9 Assign 1 ∷ site 11 Assign 1 ∷ site 12 Assign 1 ∷ site 13 Assign 1 ∷ [])
    (one_region 6 2 8)
    (set 1 2 (num 0) ∷ region 1 2 (bin op.Lt (var 2) (num 3))
    (set 3 3 (num 0) ∷ loop 4 (bin op.Lt (var 3) (bin op.Mul (var 2) (num 4))) (set 5 3 (add (var 3) (var 0)) ∷ [])
    ∷ set 6 1 (add (var 1) (var 3)) ∷ set 7 0 (num 2) ∷ set 8 2 (add (var 2) (num 1)) ∷ []) ∷ [])

-- 1   int step;
-- 2   int t;
-- 4     int i = 0;
-- 5     #pragma dswp
-- 6     while (i < 3) {
-- 7       if (i > 0) {
-- 8         t = t + 12 / step;
--         }
-- 10      step = 2;
-- 11      i = i + 1;
abbrev pub stale_divisor : Program
stale_divisor = program
    (scalar 0 (pos 0) Global ∷ scalar 1 (pos 0) Global ∷ scalar 2 (pos 0) Outer ∷ [])
    (site 4 Assign 0 ∷ site 6 While 1 ∷ site 7 If 1 ∷ site 8 Assign 1 ∷ site 10 Assign 1 ∷ site 11 Assign 1 ∷ [])
    (one_region 6 2 6)
    (set 1 2 (num 0) ∷ region 1 2 (bin op.Lt (var 2) (num 3))
    (when 3 (bin op.Gt (var 2) (num 0)) (set 4 1 (add (var 1) (bin op.Div (num 12) (var 0))) ∷ [])
    ∷ set 5 0 (num 2) ∷ set 6 2 (add (var 2) (num 1)) ∷ []) ∷ [])

-- A table of words, with look-up by hashing, insertion and counting, before its call is expanded.
-- 1   int keys[16];
-- 2   int counts[16];
-- 3   int distinct;
-- 4   int total;
-- 6   void count(int p, int x) {
-- 7     counts[p] = counts[p] + 1;
-- 8     total = total + x;
--     }
-- 11  int main(void) {
-- 12    int i = 0;
-- 13    #pragma dswp
-- 14    while (i < input_len) {
-- 15      int x = input[i];
-- 16      i = i + 1;
-- 18      int h = x;
-- 19      int r = 0;
-- 20      while (r < 3) {
-- 21        h = (h * 5 + 3) % 16;
-- 22        r = r + 1;
--         }
-- 25      int p = h;
-- 26      while (keys[p] != 0 && keys[p] != x + 1) {
-- 27        p = (p + 1) % 16;
--         }
-- 29      if (keys[p] == 0) {
-- 30        keys[p] = x + 1;
-- 31        distinct = distinct + 1;
--         }
-- 33      count(p, x);
--       }
-- 35    print(distinct);
-- 36    print(total);
abbrev pub word_table : Program
word_table = with_functions
    (function (9 ∷ 10 ∷ []) (set_at 18 1 (var 9) (add (at 1 (var 9)) (num 1)) ∷ set 19 3 (add (var 3) (var 10)) ∷ []) ∷ [])
    (program
    (array 0 16 ∷ array 16 16 ∷ scalar 32 (pos 0) Global ∷ scalar 33 (pos 0) Global ∷ scalar 34 (pos 0) Outer ∷ scalar 35 (pos 0) (Body 1)
    ∷ scalar 36 (pos 0) (Body 1)
    ∷ scalar 37 (pos 0) (Body 1) ∷ scalar 38 (pos 0) (Body 1) ∷ scalar 39 (pos 0) Outer ∷ scalar 40 (pos 0) Outer ∷ [])
    (site 12 Assign 0 ∷ site 14 While 1 ∷ site 15 Assign 1 ∷ site 16 Assign 1 ∷ site 18 Assign 1 ∷ site 19 Assign 1 ∷ site 20 While 1
    ∷ site 21 Assign 1 ∷ site 22 Assign 1
    ∷ site 25 Assign 1 ∷ site 26 While 1 ∷ site 27 Assign 1 ∷ site 29 If 1 ∷ site 30 Assign 1 ∷ site 31 Assign 1 ∷ site 35 Print 0 ∷ site 36 Print 0
    ∷ site 7 Assign 0 ∷ site 8 Assign 0 ∷ [])
    (one_region 14 2 15)
    (set 1 4 (num 0) ∷ region 1 2 (bin op.Lt (var 4) tree.InputLen)
    (set 3 5 (tree.Input (var 4)) ∷ set 4 4 (add (var 4) (num 1)) ∷ set 5 6 (var 5) ∷ set 6 7 (num 0)
    ∷ loop 7 (bin op.Lt (var 7) (num 3)) (set 8 6 (bin op.Rem (add (bin op.Mul (var 6) (num 5)) (num 3)) (num 16)) ∷ set 9 7 (add (var 7) (num 1)) ∷ [])
    ∷ set 10 8 (var 6)
    ∷ loop 11 (tree.And (bin op.Ne (at 0 (var 8)) (num 0)) (bin op.Ne (at 0 (var 8)) (add (var 5) (num 1))))
    (set 12 8 (bin op.Rem (add (var 8) (num 1)) (num 16)) ∷ [])
    ∷ when 13 (bin op.Eq (at 0 (var 8)) (num 0)) (set_at 14 0 (var 8) (add (var 5) (num 1)) ∷ set 15 2 (add (var 2) (num 1)) ∷ [])
    ∷ call 0 33 (var 8 ∷ var 5 ∷ []) ∷ [])
    ∷ say 16 (var 2) ∷ say 17 (var 3) ∷ []))

-- the same with its call expanded: `count`'s parameters are body locals of the region
abbrev pub word_table_expanded : Program
word_table_expanded = program
    (array 0 16 ∷ array 16 16 ∷ scalar 32 (pos 0) Global ∷ scalar 33 (pos 0) Global ∷ scalar 34 (pos 0) Outer ∷ scalar 35 (pos 0) (Body 1)
    ∷ scalar 36 (pos 0) (Body 1)
    ∷ scalar 37 (pos 0) (Body 1) ∷ scalar 38 (pos 0) (Body 1) ∷ scalar 39 (pos 0) (Body 1) ∷ scalar 40 (pos 0) (Body 1) ∷ [])
    (site 12 Assign 0 ∷ site 14 While 1 ∷ site 15 Assign 1 ∷ site 16 Assign 1 ∷ site 18 Assign 1 ∷ site 19 Assign 1 ∷ site 20 While 1
    ∷ site 21 Assign 1 ∷ site 22 Assign 1
    ∷ site 25 Assign 1 ∷ site 26 While 1 ∷ site 27 Assign 1 ∷ site 29 If 1 ∷ site 30 Assign 1 ∷ site 31 Assign 1 ∷ site 33 Assign 1 ∷ site 33 Assign 1
    ∷ site 7 Assign 1 ∷ site 8 Assign 1
    ∷ site 35 Print 0 ∷ site 36 Print 0 ∷ [])
    (one_region 14 2 19)
    (set 1 4 (num 0) ∷ region 1 2 (bin op.Lt (var 4) tree.InputLen)
    (set 3 5 (tree.Input (var 4)) ∷ set 4 4 (add (var 4) (num 1)) ∷ set 5 6 (var 5) ∷ set 6 7 (num 0)
    ∷ loop 7 (bin op.Lt (var 7) (num 3)) (set 8 6 (bin op.Rem (add (bin op.Mul (var 6) (num 5)) (num 3)) (num 16)) ∷ set 9 7 (add (var 7) (num 1)) ∷ [])
    ∷ set 10 8 (var 6)
    ∷ loop 11 (tree.And (bin op.Ne (at 0 (var 8)) (num 0)) (bin op.Ne (at 0 (var 8)) (add (var 5) (num 1))))
    (set 12 8 (bin op.Rem (add (var 8) (num 1)) (num 16)) ∷ [])
    ∷ when 13 (bin op.Eq (at 0 (var 8)) (num 0)) (set_at 14 0 (var 8) (add (var 5) (num 1)) ∷ set 15 2 (add (var 2) (num 1)) ∷ [])
    ∷ set 16 9 (var 8) ∷ set 17 10 (var 5) ∷ set_at 18 1 (var 9) (add (at 1 (var 9)) (num 1)) ∷ set 19 3 (add (var 3) (var 10)) ∷ [])
    ∷ say 20 (var 2) ∷ say 21 (var 3) ∷ [])
