-- The piece at the end of a function of the code, from the pieces after its steps.
use Rattle.std.proofs.Common.{◌≡◌, sym, ap, ◌∙◌, ℕ, zero, suc, ◌+◌, ◌-◌, ◌<◌, ◌≤◌, min, length, get_or, drop, List, [], ◌∷◌, Some, slice_get, arith}
use Rattle.std.proofs.lemmas.List.{drop_more, drop_all}
use Rattle.dp_base.specs.declared.SiteId.{SiteId}
use Rattle.dp_base.specs.declared.VarId.{VarId}
use Rattle.dp_tree.specs.declared.Expr.{Expr}
use Rattle.dp_tree.specs.declared.Stmt.{Stmt}
use Rattle.dp_tree.specs.declared.Stmt.TheVariants as tree
use Rattle.dp_tree.specs.declared.Function.{Function}
use Rattle.dp_tree.specs.declared.Program.{Program}
use Rattle.dp_tree.specs.Step.{line_of}
use Rattle.dp_calls.specs.Renaming.{Renamed}
use Rattle.dp_calls.specs.Tables.{new_site}
use Rattle.dp_calls.specs.Piece.{Piece}
use Rattle.dp_inline.specs.steps.Written.{emptied, with_statement, with_text_site, with_next_region, expr_in, after_one, after_list, after_bindings}
use Rattle.dp_inline.proofs.FormLemmas.{unnamed, after-If, after-While, after-Region, after-Call-zero, after-Call-more, bindings-more, bindings-no_params}
use Rattle.dp_inline.proofs.FormLemmas.{bindings-no_args}

module _ (p : Program) (depth r : ℕ) (a : Piece) (site : SiteId) (cond : Expr) {number : SiteId} {c : Expr} (numbered : number ≡ new_site a.tables)
    (renamed : c ≡ expr_in a.names cond) where
  pub if_ends : (x y then_part else_part : List Stmt) (w1 w2 w3 w4 : Piece) → w1 ≡ with_text_site p r site a
      → then_part ≡ (after_list p depth r (emptied w1) x).code → w2 ≡ record (after_list p depth r (emptied w1) x) { code = w1.code }
      → else_part ≡ (after_list p depth r (emptied w2) y).code → w3 ≡ record (after_list p depth r (emptied w2) y) { code = w2.code }
      → w4 ≡ with_statement (tree.If number c then_part else_part) w3 → w4 ≡ after_one p depth r a (tree.If site cond x y)
  if_ends x y then_part else_part w1 w2 w3 w4 e1 e_then e2 e_else e3 e4 =
      let s = with_text_site p r site a in let left = after_list p depth r (emptied s) x in
      let right = after_list p depth r (emptied left) y in
      let f_then : then_part ≡ left.code = e_then ∙ ap (λ (w : Piece). (after_list p depth r (emptied w) x).code) e1 in
      let f2 : w2 ≡ record left { code = a.code } = e2 ∙ ap (λ (w : Piece). record (after_list p depth r (emptied w) x) { code = w.code }) e1 in
      let f_else : else_part ≡ right.code = e_else ∙ ap (λ (w : Piece). (after_list p depth r (emptied w) y).code) f2 in
      let f3 : w3 ≡ record right { code = a.code } = e3 ∙ ap (λ (w : Piece). record (after_list p depth r (emptied w) y) { code = w.code }) f2 in
      e4 ∙ (λ i. with_statement (tree.If (numbered i) (renamed i) (f_then i) (f_else i)) (f3 i)) ∙ sym (after-If p depth r a site cond x y)

  pub while_ends : (x body : List Stmt) (w1 w2 w3 : Piece) → w1 ≡ with_text_site p r site a
      → body ≡ (after_list p depth r (emptied w1) x).code → w2 ≡ record (after_list p depth r (emptied w1) x) { code = w1.code }
      → w3 ≡ with_statement (tree.While number c body) w2 → w3 ≡ after_one p depth r a (tree.While site cond x)
  while_ends x body w1 w2 w3 e1 e_body e2 e3 =
      let s = with_text_site p r site a in let done = after_list p depth r (emptied s) x in
      let f_body : body ≡ done.code = e_body ∙ ap (λ (w : Piece). (after_list p depth r (emptied w) x).code) e1 in
      let f2 : w2 ≡ record done { code = a.code } = e2 ∙ ap (λ (w : Piece). record (after_list p depth r (emptied w) x) { code = w.code }) e1 in
      e3 ∙ (λ i. with_statement (tree.While (numbered i) (renamed i) (f_body i)) (f2 i)) ∙ sym (after-While p depth r a site cond x)

  pub region_ends : (line around : ℕ) (x body : List Stmt) (w1 w2 w3 w4 : Piece) → line ≡ line_of p site → w1 ≡ with_text_site p r site a
      → body ≡ (after_list p depth r (emptied w1) x).code → w2 ≡ record (after_list p depth r (emptied w1) x) { code = w1.code }
      → w3 ≡ with_next_region line number w2 → w4 ≡ with_statement (tree.Region r number c body) w3 →
      w4 ≡ after_one p depth around a (tree.Region r site cond x)
  region_ends line around x body w1 w2 w3 w4 e_line e1 e_body e2 e3 e4 =
      let s = with_text_site p r site a in let done = after_list p depth r (emptied s) x in
      let f_body : body ≡ done.code = e_body ∙ ap (λ (w : Piece). (after_list p depth r (emptied w) x).code) e1 in
      let f2 : w2 ≡ record done { code = a.code } = e2 ∙ ap (λ (w : Piece). record (after_list p depth r (emptied w) x) { code = w.code }) e1 in
      let f3 : w3 ≡ with_next_region (line_of p site) (new_site a.tables) (record done { code = a.code }) = e3
      ∙ (λ i. with_next_region (e_line i) (numbered i) (f2 i)) in
      e4 ∙ (λ i. with_statement (tree.Region r (numbered i) (renamed i) (f_body i)) (f3 i)) ∙ sym (after-Region p depth around a r site cond x)

module _ (p : Program) (r : ℕ) (a : Piece) (f line : ℕ) (args : List Expr) (fn : Function) (found : Some fn ≡ slice_get p.functions f) (caller : List Renamed)
    (named : caller ≡ a.names)
    (params : List VarId) (same : params ≡ fn.params) (w1 w2 w3 : Piece) (began : w1 ≡ unnamed a)
    (bound : w2 ≡ after_bindings p r line caller w1 params args) where
  bound_from : w2 ≡ after_bindings p r line a.names (unnamed a) fn.params args
  bound_from = bound ∙ (λ i. after_bindings p r line (named i) (began i) (same i) args)

  pub call_ends-zero : (depth : ℕ) → depth ≤ 0 → w3 ≡ record w2 { names = caller } → w3 ≡ after_one p depth r a (tree.Call f line args)
  call_ends-zero zero none ended = ended ∙ (λ i. record (bound_from i) { names = named i }) ∙ sym (after-Call-zero p r a f line args fn (sym found))
  call_ends-zero (suc k) none ended = absurd (omega arith)

  pub call_ends-more : (depth : ℕ) → 0 < depth → (body : List Stmt) → body ≡ fn.body → (w : Piece) → w ≡ after_list p (depth - 1) r w2 body →
      w3 ≡ record w { names = caller } → w3 ≡ after_one p depth r a (tree.Call f line args)
  call_ends-more zero more body is w made ended = absurd (omega arith)
  call_ends-more (suc k) more body is w made ended =
      let e : suc k - 1 ≡ k = omega arith in
      let all : w ≡ after_list p k r (after_bindings p r line a.names (unnamed a) fn.params args) fn.body = made
      ∙ (λ i. after_list p (e i) r (bound_from i) (is i)) in
      ended ∙ (λ i. record (all i) { names = named i }) ∙ sym (after-Call-more p r a f line args k fn (sym found))

-- a loop over parameters and arguments
module _ (p : Program) (r line : ℕ) (caller : List Renamed) where
  abbrev bound : Piece → List VarId → List Expr → Piece
  bound a params args = after_bindings p r line caller a params args

  pub bound_more : (a w : Piece) (params : List VarId) (args : List Expr) (i : ℕ) (d : VarId) (e : Expr) → i < length params →
      i < length args → e ≡ get_or args i e
      → w ≡ bound a (get_or params i d ∷ []) (e ∷ []) → bound a (drop i params) (drop i args) ≡ bound w (drop (i + 1) params) (drop (i + 1) args)
  bound_more a w params args i d e below less is made =
      let x = get_or params i d in
      let rest = drop_more args i e less ∙ ap (λ (y : Expr). y ∷ drop (i + 1) args) (sym is) in
      (λ j. bound a (drop_more params i d below j) (rest j))
      ∙ bindings-more p r line caller a x (drop (i + 1) params) e (drop (i + 1) args)
      ∙ ap (λ (b : Piece). bound b (drop (i + 1) params) (drop (i + 1) args)) (sym made)

  pub bound_end : (a : Piece) (params : List VarId) (args : List Expr) (i : ℕ) → min (length params) (length args) ≤ i →
      bound a (drop i params) (drop i args) ≡ a
  bound_end a [] args i h =
      ap (λ (xs : List VarId). bound a xs (drop i args)) (drop_all i [] (omega arith)) ∙ bindings-no_params p r line caller a (drop i args)
  bound_end a (x ∷ params) [] i h =
      ap (λ (es : List Expr). bound a (drop i (x ∷ params)) es) (drop_all i [] (omega arith)) ∙ bindings-no_args p r line caller a (drop i (x ∷ params))
  bound_end a (x ∷ params) (e ∷ args) zero h = absurd (omega arith)
  bound_end a (x ∷ params) (e ∷ args) (suc i) h = bound_end a params args i (omega arith)
