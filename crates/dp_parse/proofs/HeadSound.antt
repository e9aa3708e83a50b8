-- What the descent reads as an assignment, a declaration or the head of a `for`, the grammar derives.
use Rattle.std.proofs.Common.{◌≡◌, refl, ap, ◌∙◌, sym, Bool, true, false, List, [], ◌∷◌, Ok}
use Rattle.dp_lex.specs.Token.{Lexeme}
use Rattle.dp_tree.specs.declared.raw.Name.{Name as TreeName}
use Rattle.dp_tree.specs.declared.raw.RawExpr.{RawExpr}
use Rattle.dp_tree.specs.declared.raw.RawStmt.{RawStmt}
use Rattle.dp_tree.specs.declared.raw.RawStmt.TheVariants as tree
use Rattle.dp_parse.specs.declared.head.Header.{Header}
use Rattle.dp_tokens.specs.declared.symbol.Symbol.TheVariants.{Name, Int, Assign, OpenParen, CloseParen, OpenBracket, CloseBracket, Semicolon}
use Rattle.dp_parse.specs.declared.level.Level.TheVariants.{Or}
use Rattle.dp_tokens.specs.Symbols.{Is}
use Rattle.dp_tokens.specs.Leaves.{name_of}
use Rattle.dp_parse.specs.Expressions.{DerivesExpr}
use Rattle.dp_parse.specs.Heads.{DerivesSimple, scalar, element, DerivesFirst, declared, simple, DerivesHead, head}
use Rattle.dp_tokens.specs.Steps.{◌>>=◌, pure, expect, sees_symbol}
use Rattle.dp_tokens.specs.Steps as step
use Rattle.dp_parse.specs.steps.Expressions as expr
use Rattle.dp_parse.specs.steps.Heads as read
use Rattle.dp_parse.proofs.StepLemmas.{Sound, then_of, same_pair, takes, moved, taken}
use Rattle.dp_parse.proofs.LeafLemmas.{read_name}
use Rattle.dp_parse.proofs.ExpressionSound.{sound_whole}

-- what stands after a `=`, with it
record Value (from to : List Lexeme) (e : RawExpr) : Type 0 where
  equals : Lexeme
  inside : List Lexeme
  is : Is Assign equals
  splits : from ≡ equals ∷ inside
  value : DerivesExpr Or inside to e

read_value : (from to : List Lexeme) (e : RawExpr) → read.value from ≡ Ok (e, to) → Value from to e
unfolding read.value
read_value from to e h =
    let o = takes Assign from (λ _. expr.whole) e to h in
    record { equals = o.value; inside = o.middle; is = o.is; splits = o.splits; value = sound_whole o.middle to e o.second }

pub sound_declare : Sound read.declare DerivesFirst
unfolding read.declare
sound_declare from to s h =
    let o = takes Int from (λ int. step.name >>= (λ name. read.value >>= (λ value. pure (tree.Declare int.line name value)))) s to h in
    let p = then_of (step.name o.middle) (λ name. read.value >>= (λ value. pure (tree.Declare o.value.line name value))) s to o.second in
    let n = read_name o.middle p.middle p.value p.first in
    let q = then_of (read.value p.middle) (λ value. pure (tree.Declare o.value.line p.value value)) s to p.second in
    let r = read_value p.middle q.middle q.value q.first in
    let parts = same_pair {a = tree.Declare o.value.line p.value q.value} {b = s} {x = q.middle} {y = to} q.second in
    moved DerivesFirst (o.splits ∙ taken o.value (n.splits ∙ taken n.token r.splits)) (sym parts.1)
    (sym parts.0 ∙ ap (λ (name : TreeName). tree.Declare o.value.line name q.value) n.called) (declared o.is n.is r.is r.value)

sound_store : (name : Lexeme) (from to : List Lexeme) (s : RawStmt) → Is Name name → read.store (name_of name) from ≡ Ok (s, to) →
    DerivesSimple (name ∷ from) to s
unfolding read.store
sound_store name from to s is h =
    let o = takes OpenBracket from
    (λ _. expr.whole >>= (λ index. expect CloseBracket >>= (λ _. read.value >>= (λ value. pure (tree.Store (name_of name) index value))))) s to h in
    let p = then_of (expr.whole o.middle) (λ index. expect CloseBracket >>= (λ _. read.value >>= (λ value. pure (tree.Store (name_of name) index value)))) s to
    o.second in
    let q = takes CloseBracket p.middle (λ _. read.value >>= (λ value. pure (tree.Store (name_of name) p.value value))) s to p.second in
    let v = then_of (read.value q.middle) (λ value. pure (tree.Store (name_of name) p.value value)) s to q.second in
    let r = read_value q.middle v.middle v.value v.first in
    let parts = same_pair {a = tree.Store (name_of name) p.value v.value} {b = s} {x = v.middle} {y = to} v.second in
    let index = moved (DerivesExpr Or) refl (sym (q.splits ∙ taken q.value r.splits)) refl (sound_whole o.middle p.middle p.value p.first) in
    moved DerivesSimple (taken name o.splits) (sym parts.1) (sym parts.0) (element is o.is index q.is r.is r.value)

sound_scalar : (name : Lexeme) (from to : List Lexeme) (s : RawStmt) → Is Name name → (read.value >>= (λ x. pure (tree.Assign (name_of name) x))) from ≡ Ok
    (s, to) → DerivesSimple (name ∷ from) to s
sound_scalar name from to s is h =
    let o = then_of (read.value from) (λ x. pure (tree.Assign (name_of name) x)) s to h in
    let r = read_value from o.middle o.value o.first in
    let parts = same_pair {a = tree.Assign (name_of name) o.value} {b = s} {x = o.middle} {y = to} o.second in
    moved DerivesSimple (taken name r.splits) (sym parts.1) (sym parts.0) (scalar is r.is r.value)

assign_at : (name : Lexeme) (b : Bool) (from to : List Lexeme) (s : RawStmt) → Is Name name → read.assign_by (name_of name) b from ≡ Ok (s, to) →
    DerivesSimple (name ∷ from) to s
assign_at name true from to s is h = sound_store name from to s is h
assign_at name false from to s is h = sound_scalar name from to s is h

pub sound_assign : (name : Lexeme) (from to : List Lexeme) (s : RawStmt) → Is Name name → read.assign (name_of name) from ≡ Ok (s, to) →
    DerivesSimple (name ∷ from) to s
unfolding read.assign
sound_assign name from to s is h = assign_at name (sees_symbol OpenBracket from) from to s is h

pub sound_simple : Sound read.simple DerivesSimple
unfolding read.simple
sound_simple from to s h =
    let o = then_of (step.name from) read.assign s to h in let n = read_name from o.middle o.value o.first in
    moved DerivesSimple n.splits refl refl (sound_assign n.token o.middle to s n.is (ap (λ (name : TreeName). read.assign name o.middle)
    (sym n.called) ∙ o.second))

first_at : (b : Bool) (from to : List Lexeme) (s : RawStmt) → read.first_by b from ≡ Ok (s, to) → DerivesFirst from to s
first_at true from to s h = sound_declare from to s h
first_at false from to s h = simple (sound_simple from to s h)

pub sound_first : Sound read.first DerivesFirst
unfolding read.first
sound_first from to s h = first_at (sees_symbol Int from) from to s h

-- the head of a `for`
pub record Heads (from to : List Lexeme) (h : Header) : Type 0 where
  pub first : RawStmt
  pub cond : RawExpr
  pub step : RawStmt
  pub derives : DerivesHead from to first cond step
  pub made : h ≡ record { first = first ∷ []; cond = cond; step = step ∷ [] }

abbrev pub as_head : RawStmt → RawExpr → RawStmt → Header
as_head first cond step = record { first = first ∷ []; cond = cond; step = step ∷ [] }

-- its parts along the places where they split
head_by : (from : List Lexeme) (opening : Lexeme) (a b : List Lexeme) (end : Lexeme) (c d : List Lexeme) (behind : Lexeme) (x y : List Lexeme)
    (closing : Lexeme) (z to : List Lexeme) (first : RawStmt) (cond : RawExpr) (step : RawStmt) →
    from ≡ opening ∷ a → b ≡ end ∷ c → d ≡ behind ∷ x → y ≡ closing ∷ z → z ≡ to → Is OpenParen opening → Is Semicolon end → Is Semicolon behind →
    Is CloseParen closing →
    DerivesFirst a b first → DerivesExpr Or c d cond → DerivesSimple x y step → DerivesHead from to first cond step
head_by from opening a b end c d behind x y closing z to first cond step p q r s t o e f g i j k =
    rw p (head o (moved DerivesFirst refl (sym q) refl i) e (moved (DerivesExpr Or) refl (sym r) refl j) f
    (moved DerivesSimple refl (sym (s ∙ taken closing t)) refl k) g)

pub read_head : (from to : List Lexeme) (h : Header) → read.head from ≡ Ok (h, to) → Heads from to h
unfolding read.head
read_head from to h e =
    let o = takes OpenParen from
    (λ _. read.first >>=
    (λ first. expect Semicolon >>=
    (λ _. expr.whole >>= (λ cond. expect Semicolon >>= (λ _. read.simple >>= (λ step. expect CloseParen >>= (λ _. pure (as_head first cond step)))))))) h to e
    in
    let p = then_of (read.first o.middle)
    (λ first. expect Semicolon >>=
    (λ _. expr.whole >>= (λ cond. expect Semicolon >>= (λ _. read.simple >>= (λ step. expect CloseParen >>= (λ _. pure (as_head first cond step))))))) h to
    o.second in
    let q = takes Semicolon p.middle
    (λ _. expr.whole >>= (λ cond. expect Semicolon >>= (λ _. read.simple >>= (λ step. expect CloseParen >>= (λ _. pure (as_head p.value cond step)))))) h to
    p.second in
    let v = then_of (expr.whole q.middle)
    (λ cond. expect Semicolon >>= (λ _. read.simple >>= (λ step. expect CloseParen >>= (λ _. pure (as_head p.value cond step))))) h to q.second in
    let w = takes Semicolon v.middle (λ _. read.simple >>= (λ step. expect CloseParen >>= (λ _. pure (as_head p.value v.value step)))) h to v.second in
    let y = then_of (read.simple w.middle) (λ step. expect CloseParen >>= (λ _. pure (as_head p.value v.value step))) h to w.second in
    let z = takes CloseParen y.middle (λ _. pure (as_head p.value v.value y.value)) h to y.second in
    let parts = same_pair {a = as_head p.value v.value y.value} {b = h} {x = z.middle} {y = to} z.second in
    record {
      first = p.value;
      cond = v.value;
      step = y.value;
      derives = head_by from o.value o.middle p.middle q.value q.middle v.middle w.value w.middle y.middle z.value z.middle to p.value v.value y.value o.splits
          q.splits w.splits z.splits parts.1 o.is q.is w.is z.is
          (sound_first o.middle p.middle p.value p.first) (sound_whole q.middle v.middle v.value v.first) (sound_simple w.middle y.middle y.value y.first);
      made = sym parts.0;
    }
