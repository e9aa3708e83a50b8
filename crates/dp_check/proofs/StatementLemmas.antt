-- What is answered for each form of statement; and for a `for`, step by step.
use Rattle.std.proofs.Common.{◌≡◌, refl, ap, ◌∙◌, ℕ, Bool, List, [], ◌∷◌, ◌++◌, map, length, Ok, sym, append_assoc, Result, Err}
use Rattle.std.specs.Option.{option_or}
use Rattle.dp_tree.specs.declared.Expr.{Expr}
use Rattle.dp_tree.specs.declared.Stmt.{Stmt}
use Rattle.dp_tree.specs.declared.Stmt.TheVariants as code
use Rattle.dp_tree.specs.declared.raw.Name.{Name}
use Rattle.dp_tree.specs.declared.raw.RawExpr.{RawExpr}
use Rattle.dp_tree.specs.declared.raw.RawStmt.{RawStmt}
use Rattle.dp_tree.specs.declared.raw.RawStmt.TheVariants as raw
use Rattle.dp_check.specs.declared.place.Place.{Place}
use Rattle.dp_check.specs.Names.{named}
use Rattle.dp_check.specs.Offence.{offence, first_offence, Declares, Assigns, AssignsElement, Calls}
use Rattle.dp_check.specs.Place.{parts_all, place_passed, sited, place_after, place_after_all}
use Rattle.dp_check.specs.Tokens.{token, expr_tokens, args_tokens, tokens, tokens_in, tokens_all}
use Rattle.dp_check.specs.Resolved.{variable_of, function_of, resolved_expr, next_site, next_variable, resolved, resolved_in, resolved_all, with_loop_step}
use Rattle.dp_check.specs.Answer.{answer, expr_answer, args_answer, statement_answer, block_answer, loop_answer, onto}
use Rattle.dp_check.proofs.AnswerLemmas.{and_then, first_offence-append, answer-one, answer-two, answer-three}
use Rattle.dp_check.proofs.PlaceLemmas.{opened, parts_hidden, after_hidden, passed-append}
use Rattle.dp_check.specs.declared.fail.CheckFail.{CheckFail}

pub tokens_hidden : (p : Place) (xs : List RawStmt) →
    tokens_in p (Rattle.dp_tree.specs.declared.raw.RawStmt.TheBlock.hidden-the_row-RawStmt-0 xs) ≡ tokens_all p xs
unfolding opened
tokens_hidden p [] = refl
tokens_hidden p (x ∷ xs) = ap (λ ys. tokens p x ++ ys) (tokens_hidden (place_after p x) xs)

pub resolved_hidden : (p : Place) (xs : List RawStmt) →
    resolved_in p (Rattle.dp_tree.specs.declared.raw.RawStmt.TheBlock.hidden-the_row-RawStmt-0 xs) ≡ resolved_all p xs
unfolding opened
resolved_hidden p [] = refl
resolved_hidden p (x ∷ xs) = ap (λ ys. resolved p x ++ ys) (resolved_hidden (place_after p x) xs)

module _ (p : Place) where
  pub answer-Declare : (line : ℕ) (name : Name) (value : RawExpr) → statement_answer p (raw.Declare line name value)
      ≡ and_then (answer {X = Unit {0}} (offence (token p.names Declares name)) tt)
      (λ _. and_then (expr_answer p.names value) (λ v. Ok (code.Assign (next_site p) (next_variable p) v ∷ [])))
  unfolding statement_answer expr_answer
  answer-Declare line name value =
      answer-two {X = Unit {0}} (offence (token p.names Declares name)) (first_offence (expr_tokens p.names value)) tt (resolved_expr p.names value)
      (λ _ v. code.Assign (next_site p) (next_variable p) v ∷ [])

  pub answer-Assign : (name : Name) (value : RawExpr) → statement_answer p (raw.Assign name value)
      ≡ and_then (answer (offence (token p.names Assigns name)) (variable_of (named p.names name.text)))
      (λ x. and_then (expr_answer p.names value) (λ v. Ok (code.Assign (next_site p) x v ∷ [])))
  unfolding statement_answer expr_answer
  answer-Assign name value =
      answer-two (offence (token p.names Assigns name)) (first_offence (expr_tokens p.names value)) (variable_of (named p.names name.text))
      (resolved_expr p.names value)
      (λ x v. code.Assign (next_site p) x v ∷ [])

  pub answer-Store : (name : Name) (index value : RawExpr) → statement_answer p (raw.Store name index value)
      ≡ and_then (answer (offence (token p.names AssignsElement name)) (variable_of (named p.names name.text)))
      (λ x. and_then (expr_answer p.names index) (λ i. and_then (expr_answer p.names value) (λ v. Ok (code.Store (next_site p) x i v ∷ []))))
  unfolding statement_answer expr_answer
  answer-Store name index value =
      let x = variable_of (named p.names name.text) in let i = resolved_expr p.names index in let v = resolved_expr p.names value in
      ap (λ o. answer (option_or (offence (token p.names AssignsElement name)) o) (code.Store (next_site p) x i v ∷ []))
      (first_offence-append (expr_tokens p.names index) (expr_tokens p.names value))
      ∙ answer-three (offence (token p.names AssignsElement name)) (first_offence (expr_tokens p.names index)) (first_offence (expr_tokens p.names value)) x i v
      (λ x i v. code.Store (next_site p) x i v ∷ [])

  pub answer-Call : (name : Name) (args : List RawExpr) → statement_answer p (raw.Call name args)
      ≡ and_then (answer (offence (token p.names (Calls (length args)) name)) (function_of (named p.names name.text)))
      (λ f. and_then (args_answer p.names args) (λ all. Ok (code.Call f name.line all ∷ [])))
  unfolding statement_answer args_answer
  answer-Call name args =
      answer-two (offence (token p.names (Calls (length args)) name)) (first_offence (args_tokens p.names args)) (function_of (named p.names name.text))
      (map (resolved_expr p.names) args)
      (λ f all. code.Call f name.line all ∷ [])

  pub answer-Print : (line : ℕ) (value : RawExpr) → statement_answer p (raw.Print line value) ≡ and_then (expr_answer p.names value)
      (λ v. Ok (code.Print (next_site p) v ∷ []))
  unfolding statement_answer expr_answer
  answer-Print line value = answer-one (first_offence (expr_tokens p.names value)) (resolved_expr p.names value) (λ v. code.Print (next_site p) v ∷ [])

  pub answer-Break : (line : ℕ) (cond : RawExpr) → statement_answer p (raw.Break line cond) ≡ and_then (expr_answer p.names cond)
      (λ v. Ok (code.Break (next_site p) v ∷ []))
  unfolding statement_answer expr_answer
  answer-Break line cond = answer-one (first_offence (expr_tokens p.names cond)) (resolved_expr p.names cond) (λ v. code.Break (next_site p) v ∷ [])

  pub answer-If : (line : ℕ) (cond : RawExpr) (a b : List RawStmt) → statement_answer p (raw.If line cond a b)
      ≡ and_then (expr_answer p.names cond) (λ c. and_then (block_answer (sited p) a) (λ x. and_then (block_answer (place_passed (sited p) (parts_all a)) b)
      (λ y. Ok (code.If (next_site p) c x y ∷ []))))
  unfolding statement_answer expr_answer block_answer opened
  answer-If line cond a b =
      let q = place_passed (sited p) (parts_all a) in let c = resolved_expr p.names cond in
      (λ i. answer (first_offence (expr_tokens p.names cond
      ++ (tokens_hidden (sited p) a i ++ (tokens_hidden (place_passed (sited p) (parts_hidden a i)) b i))))
      (code.If (next_site p) c (resolved_hidden (sited p) a i) (resolved_hidden (place_passed (sited p) (parts_hidden a i)) b i) ∷ []))
      ∙ ap (λ o. answer o (code.If (next_site p) c (resolved_all (sited p) a) (resolved_all q b) ∷ []))
      (first_offence-append (expr_tokens p.names cond) (tokens_all (sited p) a ++ tokens_all q b)
      ∙ ap (option_or (first_offence (expr_tokens p.names cond))) (first_offence-append (tokens_all (sited p) a) (tokens_all q b)))
      ∙ answer-three (first_offence (expr_tokens p.names cond)) (first_offence (tokens_all (sited p) a)) (first_offence (tokens_all q b))
      c (resolved_all (sited p) a) (resolved_all q b) (λ c x y. code.If (next_site p) c x y ∷ [])

  pub answer-While : (line : ℕ) (marked : Bool) (cond : RawExpr) (body : List RawStmt) → statement_answer p (raw.While line marked cond body)
      ≡ and_then (expr_answer p.names cond) (λ c. and_then (block_answer (sited p) body) (λ x. Ok (code.While (next_site p) c x ∷ [])))
  unfolding statement_answer expr_answer block_answer opened
  answer-While line marked cond body =
      let c = resolved_expr p.names cond in
      (λ i. answer (first_offence (expr_tokens p.names cond ++ tokens_hidden (sited p) body i))
      (code.While (next_site p) c (resolved_hidden (sited p) body i) ∷ []))
      ∙ ap (λ o. answer o (code.While (next_site p) c (resolved_all (sited p) body) ∷ [])) (first_offence-append (expr_tokens p.names cond)
      (tokens_all (sited p) body))
      ∙ answer-two (first_offence (expr_tokens p.names cond)) (first_offence (tokens_all (sited p) body)) c (resolved_all (sited p) body)
      (λ c x. code.While (next_site p) c x ∷ [])

  pub loop_answer-is : (step body : List RawStmt) → loop_answer p step body
      ≡ and_then (block_answer (place_passed p (parts_all body)) step) (λ y. and_then (block_answer p body) (λ x. Ok (x ++ y)))
  unfolding loop_answer block_answer
  loop_answer-is step body =
      let q = place_passed p (parts_all body) in
      ap (λ o. answer o (resolved_all p body ++ resolved_all q step)) (first_offence-append (tokens_all q step) (tokens_all p body))
      ∙ answer-two (first_offence (tokens_all q step)) (first_offence (tokens_all p body)) (resolved_all q step) (resolved_all p body) (λ y x. x ++ y)

  pub answer-For : (line : ℕ) (marked : Bool) (first : List RawStmt) (cond : RawExpr) (step body : List RawStmt) → (let q = place_after_all p first in
      statement_answer p (raw.For line marked first cond step body)
      ≡ and_then (block_answer p first)
      (λ xs. and_then (expr_answer q.names cond) (λ c. and_then (loop_answer (sited q) step body) (λ x. Ok (xs ++ code.While (next_site q) c x ∷ [])))))
  unfolding statement_answer expr_answer block_answer loop_answer opened
  answer-For line marked first cond step body =
      let q = place_after_all p first in let c = resolved_expr q.names cond in
      let inside = tokens_all (place_passed (sited q) (parts_all body)) step ++ tokens_all (sited q) body in
      let loop = λ (xs : List Stmt) (c : Expr) (x : List Stmt). xs ++ code.While (next_site q) c x ∷ [] in
      (λ i. let r = after_hidden p first i in
      answer (first_offence (tokens_hidden p first i ++ (expr_tokens r.names cond ++ (tokens_hidden (place_passed (sited r) (parts_hidden body i)) step i
      ++ tokens_hidden (sited r) body i))))
      (resolved_hidden p first i ++ code.While (next_site r) (resolved_expr r.names cond) (resolved_hidden (sited r) body i
      ++ resolved_hidden (place_passed (sited r) (parts_hidden body i)) step i) ∷ []))
      ∙ ap (λ o. answer o (loop (resolved_all p first) c (with_loop_step (sited q) step body)))
      (first_offence-append (tokens_all p first) (expr_tokens q.names cond ++ inside)
      ∙ ap (option_or (first_offence (tokens_all p first))) (first_offence-append (expr_tokens q.names cond) inside))
      ∙ answer-three (first_offence (tokens_all p first)) (first_offence (expr_tokens q.names cond)) (first_offence inside)
      (resolved_all p first) c (with_loop_step (sited q) step body) loop

  pub block_answer-none : block_answer p [] ≡ Ok []
  unfolding block_answer
  block_answer-none = refl

  pub block_answer-more : (s : RawStmt) (rest : List RawStmt) →
      block_answer p (s ∷ rest) ≡ and_then (statement_answer p s) (λ x. and_then (block_answer (place_after p s) rest) (λ xs. Ok (x ++ xs)))
  unfolding block_answer statement_answer
  block_answer-more s rest =
      ap (λ o. answer o (resolved p s ++ resolved_all (place_after p s) rest)) (first_offence-append (tokens p s) (tokens_all (place_after p s) rest))
      ∙ answer-two (first_offence (tokens p s)) (first_offence (tokens_all (place_after p s) rest)) (resolved p s)
      (resolved_all (place_after p s) rest) (λ x xs. x ++ xs)

pub ruleset statement_answers = (answer-Declare, answer-Assign, answer-Store, answer-Call, answer-Print, answer-Break, answer-If, answer-While, answer-For)

pub ruleset loop_answers = (loop_answer-is, passed-append)

-- a loop behind its initialiser
onto-loop : {X Y : Type 0} (done : List Stmt) (before : Result (List Stmt) CheckFail) (test : Result X CheckFail) (inside : Result Y CheckFail)
    (loop : X → Y → Stmt)
    → onto done (and_then before (λ xs. and_then test (λ c. and_then inside (λ x. Ok (xs ++ loop c x ∷ [])))))
    ≡ and_then (onto done before) (λ all. and_then test (λ c. and_then inside (λ x. Ok (all ++ loop c x ∷ []))))
unfolding onto
onto-loop done (Ok xs) (Ok c) (Ok x) loop = ap Ok (sym (append_assoc done xs (loop c x ∷ [])))
onto-loop done _ _ _ loop = refl

module _ (p : Place) (done : List Stmt) (line : ℕ) (marked : Bool) (first : List RawStmt) (cond : RawExpr) (step body : List RawStmt) where
  abbrev start : Place
  start = place_after_all p first

  for_steps : onto done (statement_answer p (raw.For line marked first cond step body))
      ≡ and_then (onto done (block_answer p first)) (λ all. and_then (expr_answer start.names cond) (λ c. and_then (loop_answer (sited start) step body)
      (λ x. Ok (all ++ code.While (next_site start) c x ∷ []))))
  for_steps =
      ap (onto done) (answer-For p line marked first cond step body)
      ∙ onto-loop done (block_answer p first) (expr_answer start.names cond) (loop_answer (sited start) step body) (λ c x. code.While (next_site start) c x)

  pub for_refused_at_first : (e : CheckFail) → onto done (block_answer p first) ≡ Err e →
      onto done (statement_answer p (raw.For line marked first cond step body)) ≡ Err e
  for_refused_at_first e h = for_steps ∙ rw h refl

  module _ (all : List Stmt) (begun : onto done (block_answer p first) ≡ Ok all) where
    pub for_refused_at_cond : (e : CheckFail) → expr_answer start.names cond ≡ Err e →
        onto done (statement_answer p (raw.For line marked first cond step body)) ≡ Err e
    for_refused_at_cond e h = for_steps ∙ rw begun (rw h refl)

    module _ (c : Expr) (tested : expr_answer start.names cond ≡ Ok c) where
      pub for_refused_at_body : (e : CheckFail) → loop_answer (sited start) step body ≡ Err e →
          onto done (statement_answer p (raw.For line marked first cond step body)) ≡ Err e
      for_refused_at_body e h = for_steps ∙ rw begun (rw tested (rw h refl))

      pub for_given : (x : List Stmt) → loop_answer (sited start) step body ≡ Ok x
          → onto done (statement_answer p (raw.For line marked first cond step body)) ≡ Ok (all ++ code.While (next_site start) c x ∷ [])
      for_given x h = for_steps ∙ rw begun (rw tested (rw h refl))
