-- The piece after each form of statement.
use Rattle.std.proofs.Common.{◌≡◌, refl, sym, ap, ◌∙◌, ℕ, zero, suc, List, [], ◌∷◌, ◌++◌, append_assoc, append-nil, Option, Some, None, slice_get}
use Rattle.dp_base.specs.declared.SiteId.{SiteId}
use Rattle.dp_base.specs.declared.VarId.{VarId}
use Rattle.dp_tree.specs.declared.Expr.{Expr}
use Rattle.dp_tree.specs.declared.Stmt.{Stmt}
use Rattle.dp_tree.specs.declared.Stmt.TheVariants as tree
use Rattle.dp_tree.specs.declared.Function.{Function}
use Rattle.dp_tree.specs.declared.Program.{Program}
use Rattle.dp_tree.specs.declared.SiteKind.TheVariants as kind
use Rattle.dp_tree.specs.Step.{line_of}
use Rattle.dp_tree.specs.Functions.{body_in, params_in}
use Rattle.dp_tree.proofs.Heads.{opened_statement}
use Rattle.dp_calls.specs.Renaming.{Renamed, target_of}
use Rattle.dp_calls.specs.Tables.{Tables, new_site}
use Rattle.dp_calls.specs.Piece.{Piece, nothing, piece_behind, followed_by}
use Rattle.dp_calls.specs.Expand.{Calls, expand_one, expand_rows, expand_list, calls_within, bindings, back_to}
use Rattle.dp_inline.specs.steps.Written.{emptied, with_statement, with_binding_site, with_text_site, with_new_local, with_declared, with_next_region, expr_in}
use Rattle.dp_inline.specs.steps.Written.{after_one, after_list, after_bindings}

behind_assoc : (a b c : Piece) → piece_behind a (piece_behind b c) ≡ piece_behind (piece_behind a b) c
behind_assoc a b c = ap (λ (code : List Stmt). record c { code = code }) (sym (append_assoc a.code b.code c.code))

behind_nothing : (a : Piece) → piece_behind a (nothing a.names a.tables) ≡ a
behind_nothing a = ap (λ (code : List Stmt). record a { code = code }) (append-nil a.code)

module _ (p : Program) (calls : Calls) (r : ℕ) where
  abbrev hidden_rows : List Stmt → List Renamed → Tables → Piece
  hidden_rows xs = expand_rows p calls r (Rattle.dp_tree.specs.declared.Stmt.TheBlock.hidden-the_row-Stmt-0 xs)

  rows_hidden : (xs : List Stmt) (names : List Renamed) (t : Tables) → hidden_rows xs names t ≡ expand_list p calls r xs names t
  unfolding opened_statement
  rows_hidden [] names t = refl
  rows_hidden (x ∷ xs) names t =
      ap (piece_behind (expand_one p calls r x names t)) (rows_hidden xs (expand_one p calls r x names t).names (expand_one p calls r x names t).tables)

module _ (p : Program) (depth r : ℕ) (a : Piece) where
  pub after-Assign : (site : SiteId) (x : VarId) (e : Expr) → after_one p depth r a (tree.Assign site x e)
      ≡ with_statement (tree.Assign (new_site a.tables) (target_of (with_declared p r x.0 (with_text_site p r site a)).names x) (expr_in a.names e))
      (with_declared p r x.0 (with_text_site p r site a))
  unfolding after_one expr_in
  after-Assign site x e = refl

  pub after-Store : (site : SiteId) (x : VarId) (index e : Expr) → after_one p depth r a (tree.Store site x index e)
      ≡ with_statement (tree.Store (new_site a.tables) (target_of a.names x) (expr_in a.names index) (expr_in a.names e)) (with_text_site p r site a)
  unfolding after_one expr_in
  after-Store site x index e = refl

  pub after-Print : (site : SiteId) (e : Expr) → after_one p depth r a (tree.Print site e)
      ≡ with_statement (tree.Print (new_site a.tables) (expr_in a.names e)) (with_text_site p r site a)
  unfolding after_one expr_in
  after-Print site e = refl

  pub after-Break : (site : SiteId) (cond : Expr) → after_one p depth r a (tree.Break site cond)
      ≡ with_statement (tree.Break (new_site a.tables) (expr_in a.names cond)) (with_text_site p r site a)
  unfolding after_one expr_in
  after-Break site cond = refl

  pub after-If : (site : SiteId) (cond : Expr) (x y : List Stmt) →
      (λ (left : Piece). (λ (right : Piece). after_one p depth r a (tree.If site cond x y)
      ≡ with_statement (tree.If (new_site a.tables) (expr_in a.names cond) left.code right.code) (record right { code = a.code }))
      (after_list p depth r (emptied left) y)) (after_list p depth r (emptied (with_text_site p r site a)) x)
  unfolding after_one after_list expr_in opened_statement
  after-If site cond x y =
      let s = with_text_site p r site a in let calls = calls_within p depth in
      (λ i. followed_by a (λ names t.
      (λ (b : Piece). (λ (c : Piece). record c { code = tree.If (new_site a.tables) (expr_in a.names cond) b.code c.code ∷ [] })
      (rows_hidden p calls r y b.names b.tables i)) (rows_hidden p calls r x names s.tables i)))

  pub after-While : (site : SiteId) (cond : Expr) (x : List Stmt) →
      (λ (body : Piece). after_one p depth r a (tree.While site cond x)
      ≡ with_statement (tree.While (new_site a.tables) (expr_in a.names cond) body.code) (record body { code = a.code }))
      (after_list p depth r (emptied (with_text_site p r site a)) x)
  unfolding after_one after_list expr_in opened_statement
  after-While site cond x =
      let s = with_text_site p r site a in let calls = calls_within p depth in
      (λ i. followed_by a (λ names t. (λ (b : Piece). record b { code = tree.While (new_site a.tables) (expr_in a.names cond) b.code ∷ [] })
      (rows_hidden p calls r x names s.tables i)))

  pub after-Region : (q : ℕ) (site : SiteId) (cond : Expr) (x : List Stmt) →
      (λ (body : Piece). after_one p depth r a (tree.Region q site cond x)
      ≡ with_statement (tree.Region q (new_site a.tables) (expr_in a.names cond) body.code) (with_next_region (line_of p site) (new_site a.tables)
      (record body { code = a.code })))
      (after_list p depth q (emptied (with_text_site p q site a)) x)
  unfolding after_one after_list expr_in opened_statement
  after-Region q site cond x =
      let s = with_text_site p q site a in let calls = calls_within p depth in
      (λ i. followed_by a (λ names t. (λ (b : Piece). with_next_region (line_of p site) (new_site a.tables)
      (record b { code = tree.Region q (new_site a.tables) (expr_in a.names cond) b.code ∷ [] })) (rows_hidden p calls q x names s.tables i)))

  pub after_list-none : after_list p depth r a [] ≡ a
  unfolding after_list
  after_list-none = behind_nothing a

  pub after_list-more : (s : Stmt) (rest : List Stmt) → after_list p depth r a (s ∷ rest) ≡ after_list p depth r (after_one p depth r a s) rest
  unfolding after_list after_one
  after_list-more s rest =
      let b = expand_one p (calls_within p depth) r s a.names a.tables in
      behind_assoc a b (expand_list p (calls_within p depth) r rest b.names b.tables)

-- the bindings of arguments
module _ (p : Program) (r line : ℕ) (caller : List Renamed) (a : Piece) where
  pub bindings-one : (x : VarId) (e : Expr) →
      (λ (d : Piece). after_bindings p r line caller a (x ∷ []) (e ∷ []) ≡ with_statement (tree.Assign (new_site a.tables) (target_of d.names x)
      (expr_in caller e)) d)
      (with_new_local p r x.0 (with_binding_site (record { line = line; kind = kind.Assign; region = r }) a))
  unfolding after_bindings expr_in
  bindings-one x e = refl

  pub bindings-more : (x : VarId) (params : List VarId) (e : Expr) (args : List Expr) →
      after_bindings p r line caller a (x ∷ params) (e ∷ args) ≡ after_bindings p r line caller (after_bindings p r line caller a (x ∷ []) (e ∷ [])) params args
  unfolding after_bindings
  bindings-more x params e args =
      let b = bindings p r line caller (x ∷ []) (e ∷ []) a.names a.tables in
      behind_assoc a b (bindings p r line caller params args b.names b.tables)

  pub bindings-no_params : (args : List Expr) → after_bindings p r line caller a [] args ≡ a
  unfolding after_bindings
  bindings-no_params args = behind_nothing a

  pub bindings-no_args : (params : List VarId) → after_bindings p r line caller a params [] ≡ a
  unfolding after_bindings
  bindings-no_args [] = behind_nothing a
  bindings-no_args (x ∷ params) = behind_nothing a

-- the piece at the begin of a call's body: nothing stands for its function's names yet
abbrev pub unnamed : Piece → Piece
unnamed a = record a { names = [] }

module _ (p : Program) (r : ℕ) (a : Piece) (f line : ℕ) (args : List Expr) where
  pub after-Call-none : (depth : ℕ) → slice_get p.functions f ≡ None → after_one p depth r a (tree.Call f line args) ≡ a
  unfolding after_one opened_statement
  after-Call-none zero h =
      ap (λ (o : Option Function). followed_by a
      (λ names t. back_to names (followed_by (bindings p r line names (params_in o) args [] t) (calls_within p zero f r)))) h ∙ behind_nothing a
  after-Call-none (suc k) h =
      ap (λ (o : Option Function). followed_by a
      (λ names t. back_to names (followed_by (bindings p r line names (params_in o) args [] t) (expand_list p (calls_within p k) r (body_in o)))))
      h ∙ behind_nothing a

  pub after-Call-zero : (fn : Function) → slice_get p.functions f ≡ Some fn → after_one p 0 r a (tree.Call f line args)
      ≡ record (after_bindings p r line a.names (unnamed a) fn.params args) { names = a.names }
  unfolding after_one after_bindings opened_statement
  after-Call-zero fn h =
      ap (λ (o : Option Function). followed_by a
      (λ names t. back_to names (followed_by (bindings p r line names (params_in o) args [] t) (calls_within p zero f r)))) h
      ∙ ap (λ (b : Piece). record b { names = a.names; code = a.code ++ b.code }) (behind_nothing (bindings p r line a.names fn.params args [] a.tables))

  pub after-Call-more : (k : ℕ) (fn : Function) → slice_get p.functions f ≡ Some fn → after_one p (suc k) r a (tree.Call f line args)
      ≡ record (after_list p k r (after_bindings p r line a.names (unnamed a) fn.params args) fn.body) { names = a.names }
  unfolding after_one after_list after_bindings opened_statement
  after-Call-more k fn h =
      let b = bindings p r line a.names fn.params args [] a.tables in
      let c = expand_list p (calls_within p k) r fn.body b.names b.tables in
      ap (λ (o : Option Function). followed_by a
      (λ names t. back_to names (followed_by (bindings p r line names (params_in o) args [] t) (expand_list p (calls_within p k) r (body_in o))))) h
      ∙ ap (λ (code : List Stmt). record c { names = a.names; code = code }) (sym (append_assoc a.code b.code c.code))

pub ruleset forms = (after-Assign, after-Store, after-Print, after-Break, bindings-one)
