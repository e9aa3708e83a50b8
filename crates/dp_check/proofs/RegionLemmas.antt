-- Statements at the top of `main`.
use Rattle.std.proofs.Common.{◌≡◌, refl, sym, ap, ◌∙◌, ℕ, ◌+◌, Bool, true, false, if◌then◌else◌, List, [], ◌∷◌, ◌++◌, Result, Ok, Err}
use Rattle.dp_tree.specs.declared.Stmt.{Stmt}
use Rattle.dp_tree.specs.declared.Stmt.TheVariants as code
use Rattle.dp_tree.specs.declared.raw.Name.{Name}
use Rattle.dp_tree.specs.declared.raw.RawExpr.{RawExpr}
use Rattle.dp_tree.specs.declared.raw.RawStmt.{RawStmt, out-RawStmt, roll-RawStmt, roll-out-RawStmt}
use Rattle.dp_tree.specs.declared.raw.RawStmt.TheOpen.{RawStmt-F}
use Rattle.dp_tree.specs.declared.raw.RawStmt.TheOpen as open_form
use Rattle.dp_tree.specs.declared.raw.RawStmt.TheVariants.{rolls-While, rolls-For}
use Rattle.dp_tree.specs.declared.raw.RawStmt.TheVariants as raw
use Rattle.dp_tree.specs.declared.raw.RawStmt.TheVariants.{outs-Declare, outs-Assign, outs-Store, outs-Call, outs-Print, outs-If, outs-While, outs-For}
use Rattle.dp_tree.specs.declared.raw.RawStmt.TheVariants.{outs-Break}
use Rattle.dp_check.specs.declared.place.Place.{Place}
use Rattle.dp_check.specs.Offence.{first_offence}
use Rattle.dp_check.specs.Place.{sited, place_passed, parts_all, place_after, place_after_all}
use Rattle.dp_check.specs.Tokens.{expr_tokens, tokens, tokens_all}
use Rattle.dp_check.specs.Resolved.{resolved_expr, next_site, resolved, resolved_all, with_loop_step, stepped_region, is_marked_loop_at, is_marked_loop}
use Rattle.dp_check.specs.Resolved.{region_at, resolved_top, resolved_main}
use Rattle.dp_check.specs.Answer.{onto, answer, expr_answer, statement_answer, block_answer, loop_answer, stepped_answer, top_answer, main_answer}
use Rattle.dp_check.proofs.AnswerLemmas.{and_then, onto-one, first_offence-append, answer-two}
use Rattle.dp_check.proofs.PlaceLemmas.{opened, parts_hidden, after_hidden}
use Rattle.dp_check.proofs.StatementLemmas.{tokens_hidden}

pub is_region-Declare : (line : ℕ) (name : Name) (value : RawExpr) → is_marked_loop (raw.Declare line name value) ≡ false
is_region-Declare line name value = ap is_marked_loop_at (outs-Declare line name value)

pub is_region-Assign : (name : Name) (value : RawExpr) → is_marked_loop (raw.Assign name value) ≡ false
is_region-Assign name value = ap is_marked_loop_at (outs-Assign name value)

pub is_region-Store : (name : Name) (index value : RawExpr) → is_marked_loop (raw.Store name index value) ≡ false
is_region-Store name index value = ap is_marked_loop_at (outs-Store name index value)

pub is_region-Call : (name : Name) (args : List RawExpr) → is_marked_loop (raw.Call name args) ≡ false
is_region-Call name args = ap is_marked_loop_at (outs-Call name args)

pub is_region-Print : (line : ℕ) (value : RawExpr) → is_marked_loop (raw.Print line value) ≡ false
is_region-Print line value = ap is_marked_loop_at (outs-Print line value)

pub is_region-Break : (line : ℕ) (cond : RawExpr) → is_marked_loop (raw.Break line cond) ≡ false
is_region-Break line cond = ap is_marked_loop_at (outs-Break line cond)

pub is_region-If : (line : ℕ) (cond : RawExpr) (a b : List RawStmt) → is_marked_loop (raw.If line cond a b) ≡ false
is_region-If line cond a b = ap is_marked_loop_at (outs-If line cond a b)

pub is_region-While : (line : ℕ) (marked : Bool) (cond : RawExpr) (body : List RawStmt) → is_marked_loop (raw.While line marked cond body) ≡ marked
is_region-While line marked cond body = ap is_marked_loop_at (outs-While line marked cond body)

pub is_region-For : (line : ℕ) (marked : Bool) (first : List RawStmt) (cond : RawExpr) (step body : List RawStmt) →
    is_marked_loop (raw.For line marked first cond step body) ≡ marked
is_region-For line marked first cond step body = ap is_marked_loop_at (outs-For line marked first cond step body)

pub ruleset region_forms =
    (is_region-Declare, is_region-Assign, is_region-Store, is_region-Call, is_region-Print, is_region-Break, is_region-If, is_region-While, is_region-For)

pub tokens_For : (p : Place) (line : ℕ) (marked : Bool) (first : List RawStmt) (cond : RawExpr) (step body : List RawStmt) →
    tokens p (raw.For line marked first cond step body)
    ≡ tokens_all p first ++ (expr_tokens (place_after_all p first).names cond ++ (tokens_all (place_passed (sited (place_after_all p first)) (parts_all body))
    step ++ tokens_all (sited (place_after_all p first)) body))
unfolding opened
tokens_For p line marked first cond step body =
    λ i. let r = after_hidden p first i in
    tokens_hidden p first i ++ (expr_tokens r.names cond ++ (tokens_hidden (place_passed (sited r) (parts_hidden body i)) step i
    ++ tokens_hidden (sited r) body i))

module _ (p : Place) (r : ℕ) where
  pub answer-Region : (line : ℕ) (cond : RawExpr) (body : List RawStmt) → top_answer p r (raw.While line true cond body)
      ≡ and_then (expr_answer p.names cond) (λ c. and_then (block_answer (sited p) body) (λ x. Ok (code.Region r (next_site p) c x ∷ [])))
  unfolding top_answer expr_answer block_answer opened
  answer-Region line cond body =
      let c = resolved_expr p.names cond in let w = raw.While line true cond body in
      (λ i. answer (first_offence (expr_tokens p.names cond ++ tokens_hidden (sited p) body i))
      (region_at p r (outs-While line true cond body i) (resolved p w)))
      ∙ ap (λ o. answer o (code.Region r (next_site p) c (resolved_all (sited p) body) ∷ [])) (first_offence-append (expr_tokens p.names cond)
      (tokens_all (sited p) body))
      ∙ answer-two (first_offence (expr_tokens p.names cond)) (first_offence (tokens_all (sited p) body)) c (resolved_all (sited p) body)
      (λ c x. code.Region r (next_site p) c x ∷ [])

  pub stepped_answer-is : (cond : RawExpr) (step body : List RawStmt) → stepped_answer p r cond step body
      ≡ and_then (expr_answer p.names cond) (λ c. and_then (loop_answer (sited p) step body) (λ x. Ok (code.Region r (next_site p) c x)))
  unfolding stepped_answer expr_answer loop_answer
  stepped_answer-is cond step body =
      let c = resolved_expr p.names cond in let inside = tokens_all (place_passed (sited p) (parts_all body)) step ++ tokens_all (sited p) body in
      ap (λ o. answer o (stepped_region p r cond step body)) (first_offence-append (expr_tokens p.names cond) inside)
      ∙ answer-two (first_offence (expr_tokens p.names cond)) (first_offence inside) c (with_loop_step (sited p) step body)
      (λ c x. code.Region r (next_site p) c x)

  module _ (cond : RawExpr) (step body : List RawStmt) (c : Rattle.dp_tree.specs.declared.Expr.Expr) (tested : expr_answer p.names cond ≡ Ok c) where
    pub stepped_answer_refused : (e : Rattle.dp_check.specs.declared.fail.CheckFail.CheckFail) → loop_answer (sited p) step body ≡ Err e →
        stepped_answer p r cond step body ≡ Err e
    stepped_answer_refused e h = stepped_answer-is cond step body ∙ rw tested (rw h refl)

    pub stepped_answer_given : (x : List Stmt) → loop_answer (sited p) step body ≡ Ok x →
        stepped_answer p r cond step body ≡ Ok (code.Region r (next_site p) c x)
    stepped_answer_given x h = stepped_answer-is cond step body ∙ rw tested (rw h refl)

  -- a region with a step, behind its initialiser
  pub answer-stepped : (line : ℕ) (first : List RawStmt) (cond : RawExpr) (step body : List RawStmt) → top_answer p r (raw.For line true first cond step body)
      ≡ and_then (block_answer p first) (λ xs. and_then (stepped_answer (place_after_all p first) r cond step body) (λ x. Ok (xs ++ x ∷ [])))
  unfolding top_answer stepped_answer block_answer opened
  answer-stepped line first cond step body =
      let q = place_after_all p first in let s = raw.For line true first cond step body in let x = stepped_region q r cond step body in
      let inside = expr_tokens q.names cond ++ (tokens_all (place_passed (sited q) (parts_all body)) step ++ tokens_all (sited q) body) in
      (λ i. answer (first_offence (tokens_For p line true first cond step body i)) (region_at p r (outs-For line true first cond step body i) (resolved p s)))
      ∙ ap (λ o. answer o (resolved_all p first ++ x ∷ [])) (first_offence-append (tokens_all p first) inside)
      ∙ answer-two (first_offence (tokens_all p first)) (first_offence inside) (resolved_all p first) x (λ xs x. xs ++ x ∷ [])

pub ruleset top_answers = (answer-Region)

pub ruleset stepped_answers = (stepped_answer-is)

module _ (p : Place) (r : ℕ) (done : List Stmt) (line : ℕ) (first : List RawStmt) (cond : RawExpr) (step body : List RawStmt) where
  abbrev region_answer : Result Stmt Rattle.dp_check.specs.declared.fail.CheckFail.CheckFail
  region_answer = stepped_answer (place_after_all p first) r cond step body

  stepped_steps : onto done (top_answer p r (raw.For line true first cond step body)) ≡ and_then (onto done (block_answer p first))
      (λ all. and_then region_answer (λ x. Ok (all ++ x ∷ [])))
  stepped_steps = ap (onto done) (answer-stepped p r line first cond step body) ∙ onto-one done (block_answer p first) region_answer

  pub stepped_refused_at_first : (e : Rattle.dp_check.specs.declared.fail.CheckFail.CheckFail) → onto done (block_answer p first) ≡ Err e →
      onto done (top_answer p r (raw.For line true first cond step body)) ≡ Err e
  stepped_refused_at_first e h = stepped_steps ∙ rw h refl

  module _ (all : List Stmt) (begun : onto done (block_answer p first) ≡ Ok all) where
    pub stepped_refused : (e : Rattle.dp_check.specs.declared.fail.CheckFail.CheckFail) → region_answer ≡ Err e →
        onto done (top_answer p r (raw.For line true first cond step body)) ≡ Err e
    stepped_refused e h = stepped_steps ∙ rw begun (rw h refl)

    pub stepped_given : (x : Stmt) → region_answer ≡ Ok x → onto done (top_answer p r (raw.For line true first cond step body)) ≡ Ok (all ++ x ∷ [])
    stepped_given x h = stepped_steps ∙ rw begun (rw h refl)

-- a statement that is no region stands for itself
region_at-plain : (p : Place) (r : ℕ) (l : RawStmt-F RawStmt) (s : List Stmt) → is_marked_loop_at l ≡ false → region_at p r l s ≡ s
region_at-plain p r (open_form.While line true cond body) s h = absurd (cc)
region_at-plain p r (open_form.For line true first cond step body) s h = absurd (cc)
region_at-plain p r _ s h = refl

pub top_answer-plain : (p : Place) (r : ℕ) (s : RawStmt) → is_marked_loop s ≡ false → top_answer p r s ≡ statement_answer p s
unfolding top_answer statement_answer
top_answer-plain p r s h = ap (answer (first_offence (tokens p s))) (region_at-plain p r (out-RawStmt s) (resolved p s) h)

-- the statements of `main` as a loop that carries its place and the number of the next region
pub record MainPlace : Type 0 where
  pub place : Place
  pub region : ℕ

abbrev pub main_rest : MainPlace → List RawStmt → Result (List Stmt) Rattle.dp_check.specs.declared.fail.CheckFail.CheckFail
main_rest m all = main_answer m.place m.region all

abbrev pub main_one : MainPlace → RawStmt → Result (List Stmt) Rattle.dp_check.specs.declared.fail.CheckFail.CheckFail
main_one m s = top_answer m.place m.region s

abbrev pub main_step : MainPlace → RawStmt → MainPlace
main_step m s = record { place = place_after m.place s; region = if is_marked_loop s then m.region + 1 else m.region }

pub main_answer-none : (m : MainPlace) → main_rest m [] ≡ Ok []
unfolding main_answer
main_answer-none m = refl

pub main_answer-more : (m : MainPlace) (s : RawStmt) (rest : List RawStmt) →
    main_rest m (s ∷ rest) ≡ and_then (main_one m s) (λ x. and_then (main_rest (main_step m s) rest) (λ xs. Ok (x ++ xs)))
unfolding main_answer top_answer
main_answer-more m s rest =
    let n = main_step m s in let p = m.place in
    ap (λ o. answer o (resolved_top p m.region s ++ resolved_main n.place n.region rest)) (first_offence-append (tokens p s) (tokens_all n.place rest))
    ∙ answer-two (first_offence (tokens p s)) (first_offence (tokens_all n.place rest)) (resolved_top p m.region s)
    (resolved_main n.place n.region rest) (λ x xs. x ++ xs)

pub while_is : (line : ℕ) (cond : RawExpr) {marked : Bool} {a b : List RawStmt} {s : RawStmt} → marked ≡ true → a ≡ b → s ≡ raw.While line marked cond b →
    raw.While line true cond a ≡ s
while_is line cond e f is = (λ i. raw.While line (sym e i) cond (f i)) ∙ sym is

pub for_is : (line : ℕ) (cond : RawExpr) {marked : Bool} {a b d e f g : List RawStmt} {s : RawStmt} → marked ≡ true → a ≡ b → d ≡ e → f ≡ g
    → s ≡ raw.For line marked b cond e g → raw.For line true a cond d f ≡ s
for_is line cond m u v w is = (λ i. raw.For line (sym m i) (u i) cond (v i) (w i)) ∙ sym is

-- a statement that is no loop is no region
pub plain_unless_loop : (s : RawStmt) → ((line : ℕ) (marked : Bool) (cond : RawExpr) (body : List RawStmt) → s ≡ raw.While line marked cond body → ⊥)
    → ((line : ℕ) (marked : Bool) (first : List RawStmt) (cond : RawExpr) (step body : List RawStmt) → s ≡ raw.For line marked first cond step body → ⊥) →
    is_marked_loop s ≡ false
plain_unless_loop s never never_for = by (out-RawStmt s) refl
  where
    by : (l : RawStmt-F RawStmt) → out-RawStmt s ≡ l → is_marked_loop_at l ≡ false
    by (open_form.While line marked cond body) e =
        absurd (never line marked cond body (sym (roll-out-RawStmt s) ∙ ap roll-RawStmt e ∙ rolls-While line marked cond body))
    by (open_form.For line marked first cond step body) e =
        absurd (never_for line marked first cond step body (sym (roll-out-RawStmt s) ∙ ap roll-RawStmt e ∙ rolls-For line marked first cond step body))
    by _ e = refl
