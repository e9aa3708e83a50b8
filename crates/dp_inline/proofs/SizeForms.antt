-- The size of each form of statement; counting each function once, in order, gives the size of the expanded program, since a call leads to an earlier function.
use Rattle.std.proofs.Common.{◌≡◌, refl, ap, ap₂, ℕ, ◌+◌, List, [], ◌∷◌, length, Ok, sym, ◌∙◌, zero, suc, ◌<◌, ◌==◌, true, ◌&&◌, ◌++◌, length-append, Option}
use Rattle.std.proofs.Common.{Some, slice_get, nat_lt, arith, inl, inr}
use Rattle.dp_base.specs.declared.SiteId.{SiteId}
use Rattle.dp_base.specs.declared.VarId.{VarId}
use Rattle.dp_base.specs.Counts.{reported_count}
use Rattle.dp_tree.specs.declared.Expr.{Expr}
use Rattle.dp_tree.specs.declared.Stmt.{Stmt, Row_of-Stmt, end_of-Stmt, more_of-Stmt}
use Rattle.dp_tree.specs.declared.Stmt.TheVariants as tree
use Rattle.dp_tree.specs.declared.Program.{Program}
use Rattle.dp_tree.proofs.Heads.{opened_statement, and_true}
use Rattle.dp_calls.specs.Expand.{expand}
use Rattle.dp_calls.proofs.CheckedTexts.{scoped_both}
use Rattle.dp_inline.specs.Size.{size_one, size_rows, size_list, size_within}
use Rattle.dp_inline.specs.steps.Counted.{counted, counted_one, counted_list, number_in, counted_more}
use Rattle.dp_inline.specs.InlineAnswer.{unless_refused, inline_answer, too_large, first_large_region}
use Rattle.std.specs.List.{list_all}
use Rattle.std.proofs.lemmas.Bool.{ltb-true}
use Rattle.std.proofs.lemmas.Bool.Decides.{eqb_tells}
use Rattle.std.proofs.lemmas.Option.{slice_get-get_or}
use Rattle.std.proofs.Math.ListN.{get_or-append}
use Rattle.std.proofs.Math.Seq.{get_or-append_seam}
use Rattle.dp_tree.specs.declared.Function.{Function}
use Rattle.dp_tree.specs.Functions.{body_in, params_in}
use Rattle.dp_tree.specs.Scoping.{knows, in_scope, rows_in_scope, all_in_scope, seen_behind, params_in_scope, seen_behind_params, global_numbers}
use Rattle.dp_tree.specs.Scoping.{function_in_scope, functions_in_scope}
use Rattle.dp_tree.specs.Checked.{IsChecked}

abbrev hidden_size : ℕ → (ℕ → ℕ) → List Stmt → ℕ
hidden_size each calls xs = size_rows each calls (Rattle.dp_tree.specs.declared.Stmt.TheBlock.hidden-the_row-Stmt-0 xs)

pub size_hidden : (each : ℕ) (calls : ℕ → ℕ) (xs : List Stmt) → hidden_size each calls xs ≡ size_list each calls xs
unfolding opened_statement
size_hidden each calls [] = refl
size_hidden each calls (x ∷ xs) = ap (λ (n : ℕ). size_one each calls x + n) (size_hidden each calls xs)

module _ (each : ℕ) (sizes : List ℕ) where
  pub size-Assign : (site : SiteId) (x : VarId) (e : Expr) → counted_one each sizes (tree.Assign site x e) ≡ 1
  unfolding counted_one
  size-Assign site x e = refl

  pub size-Store : (site : SiteId) (x : VarId) (index e : Expr) → counted_one each sizes (tree.Store site x index e) ≡ 1
  unfolding counted_one
  size-Store site x index e = refl

  pub size-Print : (site : SiteId) (e : Expr) → counted_one each sizes (tree.Print site e) ≡ 1
  unfolding counted_one
  size-Print site e = refl

  pub size-Break : (site : SiteId) (cond : Expr) → counted_one each sizes (tree.Break site cond) ≡ 1
  unfolding counted_one
  size-Break site cond = refl

  pub size-If : (site : SiteId) (cond : Expr) (a b : List Stmt) →
      counted_one each sizes (tree.If site cond a b) ≡ 1 + (counted_list each sizes a + counted_list each sizes b)
  unfolding counted_one counted_list opened_statement
  size-If site cond a b = ap₂ (λ (m n : ℕ). 1 + (m + n)) (size_hidden each (counted sizes) a) (size_hidden each (counted sizes) b)

  pub size-While : (site : SiteId) (cond : Expr) (a : List Stmt) → counted_one each sizes (tree.While site cond a) ≡ 1 + counted_list each sizes a
  unfolding counted_one counted_list opened_statement
  size-While site cond a = ap (λ (m : ℕ). 1 + m) (size_hidden each (counted sizes) a)

  pub size-Region : (q : ℕ) (site : SiteId) (cond : Expr) (a : List Stmt) → counted_one each sizes (tree.Region q site cond a) ≡ 1 + counted_list each sizes a
  unfolding counted_one counted_list opened_statement
  size-Region q site cond a = ap (λ (m : ℕ). 1 + m) (size_hidden each (counted sizes) a)

  pub size-Call : (f line : ℕ) (args : List Expr) → counted_one each sizes (tree.Call f line args) ≡ each + (length args + counted sizes f)
  unfolding counted_one opened_statement
  size-Call f line args = refl

  pub size-none : counted_list each sizes [] ≡ 0
  unfolding counted_list
  size-none = refl

  pub size-more : (s : Stmt) (rest : List Stmt) → counted_list each sizes (s ∷ rest) ≡ counted_one each sizes s + counted_list each sizes rest
  unfolding counted_list counted_one
  size-more s rest = refl

pub ruleset size_forms = (size-Assign, size-Store, size-Print, size-Break, size-If, size-While, size-Region, size-Call)

-- the answer from its parts
pub inline_answer_is : (p : Program) → inline_answer p ≡ unless_refused (too_large p) (unless_refused (first_large_region p p.main) (Ok (expand p)))
unfolding inline_answer
inline_answer_is p = refl

pub ruleset inline_answers = (inline_answer_is)

-- two ways to count the first n functions agree, up to what is reported
module _ (each : ℕ) (p : Program) (n : ℕ) (c d : ℕ → ℕ) (same : (g : ℕ) → g < n → reported_count (c g) ≡ reported_count (d g)) where
  mutual
    pub agree_one : (r : ℕ) (visible : List ℕ) (s : Stmt) → in_scope p r n visible s ≡ true →
        reported_count (size_one each c s) ≡ reported_count (size_one each d s)
    agree_one r visible (tree.If' site cond _ a _ b) h =
        let both = and_true (rows_in_scope p r n visible a) (rows_in_scope p r n visible b)
        (and_true (knows visible cond) (rows_in_scope p r n visible a && rows_in_scope p r n visible b) h).1 in
        let e = agree_rows r visible a both.0 in let f = agree_rows r visible b both.1 in
        omega (arith, e, f)
    agree_one r visible (tree.While' site cond _ a) h =
        let e = agree_rows r visible a (and_true (knows visible cond) (rows_in_scope p r n visible a) h).1 in
        omega (arith, e)
    agree_one r visible (tree.Region' q site cond _ a) h =
        let e = agree_rows q visible a (and_true (knows visible cond) (rows_in_scope p q n visible a) h).1 in
        omega (arith, e)
    agree_one r visible (tree.Call f line args) h =
        let below = ltb-true f n (and_true (nat_lt f n) (list_all (knows visible) args && (length args == length (params_in (slice_get p.functions f)))) h).0 in
        let e = same f below in
        omega (arith, e)
    agree_one r visible _ h = refl

    agree_rows : {m : _} (r : ℕ) (visible : List ℕ) (rows : Row_of-Stmt m) → rows_in_scope p r n visible rows ≡ true →
        reported_count (size_rows each c rows) ≡ reported_count (size_rows each d rows)
    agree_rows r visible end_of-Stmt h = refl
    agree_rows r visible (more_of-Stmt s rest) h =
        let both = and_true (in_scope p r n visible s) (rows_in_scope p r n (seen_behind visible s) rest) h in
        let e = agree_one r visible s both.0 in let f = agree_rows r (seen_behind visible s) rest both.1 in
        omega (arith, e, f)

  pub agree_list : (r : ℕ) (visible : List ℕ) (all : List Stmt) → all_in_scope p r n visible all ≡ true → reported_count (size_list each c all) ≡ reported_count
      (size_list each d all)
  agree_list r visible [] h = refl
  agree_list r visible (s ∷ rest) h =
      let both = and_true (in_scope p r n visible s) (all_in_scope p r n (seen_behind visible s) rest) h in
      let e = agree_one r visible s both.0 in let f = agree_list r (seen_behind visible s) rest both.1 in
      omega (arith, e, f)

get_front : (xs ys : List ℕ) (g : ℕ) → g < length xs → slice_get (xs ++ ys) g ≡ slice_get xs g
get_front xs ys g below =
    let on : g < length (xs ++ ys) = let e = length-append xs ys in omega (arith, e) in
    slice_get-get_or (xs ++ ys) g 0 on ∙ ap (λ (n : ℕ). Some n) (get_or-append xs ys 0 g below) ∙ sym (slice_get-get_or xs g 0 below)

get_last : (xs : List ℕ) (y : ℕ) → slice_get (xs ++ y ∷ []) (length xs) ≡ Some y
get_last xs y =
    let on : length xs < length (xs ++ y ∷ []) = let e = length-append xs (y ∷ []) in omega (arith, e) in
    slice_get-get_or (xs ++ y ∷ []) (length xs) 0 on ∙ ap (λ (n : ℕ). Some n) (get_or-append_seam xs y [] 0)

module _ (each : ℕ) (p : Program) where
  -- the first n functions have these sizes, up to what is reported
  abbrev Counts : List ℕ → ℕ → Type 0
  Counts sizes n = (g : ℕ) → g < n → (depth : ℕ) → g < depth → reported_count (counted sizes g) ≡ reported_count (size_within p each depth g)

  module _ (n : ℕ) (sizes : List ℕ) (f : Function) (counts : length sizes ≡ n) (at : slice_get p.functions n ≡ Some f)
      (visible : List ℕ) (scope : all_in_scope p 0 n visible f.body ≡ true) (so_far : Counts sizes n) where
    abbrev more : List ℕ
    more = sizes ++ reported_count (counted_list each sizes f.body) ∷ []

    this_one : (depth : ℕ) → n < depth → reported_count (counted more n) ≡ reported_count (size_within p each depth n)
    unfolding counted_list
    this_one zero deep = absurd (omega arith)
    this_one (suc depth) deep =
        let e = agree_list each p n (counted sizes) (size_within p each depth) (λ g less. so_far g less depth (omega arith)) 0 visible f.body scope in
        let here : slice_get more n ≡ Some (reported_count (size_list each (counted sizes) f.body)) = ap (slice_get more) (sym counts)
        ∙ get_last sizes (reported_count (size_list each (counted sizes) f.body)) in
        let twice : reported_count (reported_count (reported_count (size_list each (counted sizes) f.body))) ≡ reported_count
        (size_list each (counted sizes) f.body) = omega arith in
        ap (λ (o : Option ℕ). reported_count (reported_count (number_in o))) here ∙ twice ∙ e
        ∙ ap (λ (o : Option Function). reported_count (size_list each (size_within p each depth) (body_in o))) (sym at)

    counts_next : Counts more (suc n)
    counts_next g less depth deep = elim (eqb_tells g n) [
      | inl same ↦ ap (λ k. reported_count (counted more k)) same.1 ∙ this_one depth (omega (arith, same.1))
          ∙ ap (λ k. reported_count (size_within p each depth k)) (sym same.1)
      | inr other ↦
          let below : g < n = omega (arith, other.1) in let within : g < length sizes = omega arith in
          ap (λ (o : Option ℕ). reported_count (reported_count (number_in o))) (get_front sizes (reported_count (counted_list each sizes f.body) ∷ []) g within)
          ∙ so_far g below depth deep
    ]

  counts_all : (n : ℕ) (sizes : List ℕ) (fs : List Function) → length sizes ≡ n → ((k : ℕ) → slice_get p.functions (n + k) ≡ slice_get fs k) →
      functions_in_scope p n fs ≡ true
      → Counts sizes n → Counts (counted_more each sizes fs) (n + length fs)
  counts_all n sizes [] counts at h so_far = λ g less. so_far g (omega arith)
  counts_all n sizes (f ∷ rest) counts at h so_far =
      let both = and_true (function_in_scope p n f) (functions_in_scope p (suc n) rest) h in
      let visible = seen_behind_params (global_numbers p) f.params in
      let scope = (and_true (params_in_scope p (global_numbers p) f.params) (all_in_scope p 0 n visible f.body) both.0).1 in
      let here : slice_get p.functions n ≡ Some f = let e : n ≡ n + 0 = omega arith in ap (slice_get p.functions) e ∙ at 0 in
      let counts' : length (sizes ++ reported_count (counted_list each sizes f.body) ∷ []) ≡ suc n = let e = length-append sizes
      (reported_count (counted_list each sizes f.body) ∷ []) in omega (arith, e) in
      let next = counts_all (suc n) (sizes ++ reported_count (counted_list each sizes f.body) ∷ []) rest counts'
      (λ k. (let e : suc n + k ≡ n + suc k = omega arith in ap (slice_get p.functions) e) ∙ at (suc k)) both.1
      (counts_next n sizes f counts here visible scope so_far) in
      λ g less. next g (omega arith)

  -- the sizes of all functions
  abbrev pub all_sizes : List ℕ
  all_sizes = counted_more each [] p.functions

  module _ (checked : IsChecked p) where
    pub sizes_agree : (g : ℕ) → g < length p.functions → reported_count (counted all_sizes g) ≡ reported_count (size_within p each (length p.functions) g)
    sizes_agree g less =
        counts_all 0 [] p.functions refl (λ k. let e : 0 + k ≡ k = omega arith in ap (slice_get p.functions) e) (scoped_both p checked).0
        (λ k none. absurd (omega arith)) g (omega arith) (length p.functions) less

    pub main_size : reported_count (counted_list each all_sizes p.main) ≡ reported_count (size_list each (size_within p each (length p.functions)) p.main)
    unfolding counted_list
    main_size = agree_list each p (length p.functions) (counted all_sizes) (size_within p each (length p.functions)) sizes_agree 0 (global_numbers p) p.main
        (scoped_both p checked).1
