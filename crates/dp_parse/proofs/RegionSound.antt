-- What the descent reads as a region, the grammar derives.
use Rattle.std.proofs.Common.{◌≡◌, refl, ap, ◌∙◌, sym, ℕ, ◌<◌, Bool, true, false, List, [], ◌∷◌, ◌++◌, length, Ok}
use Rattle.dp_lex.specs.Token.{Lexeme}
use Rattle.dp_tree.specs.declared.raw.RawExpr.{RawExpr}
use Rattle.dp_tree.specs.declared.raw.RawStmt.{RawStmt}
use Rattle.dp_tree.specs.declared.raw.RawStmt.TheVariants as tree
use Rattle.dp_tokens.specs.declared.symbol.Symbol.TheVariants.{While, For, If, Break, OpenBrace, CloseBrace, Semicolon}
use Rattle.dp_tokens.specs.Symbols.{Is}
use Rattle.dp_parse.specs.declared.head.Header.{Header}
use Rattle.dp_parse.specs.Heads.{DerivesHead}
use Rattle.dp_parse.specs.Statements.{DerivesCondition, DerivesStatement, choice}
use Rattle.dp_parse.specs.Regions.{DerivesExit, bare, braced, DerivesInside, DerivesLoop, loop}
use Rattle.dp_parse.specs.Regions as regions
use Rattle.dp_tokens.specs.Steps.{Parser, ◌>>=◌, pure, expect, sees_symbol, many}
use Rattle.dp_parse.specs.steps.Heads as heads
use Rattle.dp_parse.specs.steps.Statements as statements
use Rattle.dp_parse.specs.steps.Regions as read
use Rattle.dp_parse.proofs.StepLemmas.{Sound, then_of, same_pair, takes, closed, moved, taken}
use Rattle.dp_parse.proofs.Lists.{many_sound}
use Rattle.dp_parse.specs.Rules as rule
use Rattle.dp_parse.proofs.Spans.{shorter}
use Rattle.dp_parse.proofs.HeadSound.{read_head}
use Rattle.dp_parse.proofs.StatementForms.{sound_condition}
use Rattle.dp_parse.proofs.StatementSound.{sound_block, read_otherwise, chosen, sound_statement}

-- the word of an exit, and its semicolon
record Leaves (line : ℕ) (cond : RawExpr) (from to : List Lexeme) (s : RawStmt) : Type 0 where
  leave : Lexeme
  end : Lexeme
  is : Is Break leave
  ends : Is Semicolon end
  splits : from ≡ leave ∷ end ∷ to
  made : s ≡ tree.Break line cond

read_bare : (line : ℕ) (cond : RawExpr) (from to : List Lexeme) (s : RawStmt) → read.bare line cond from ≡ Ok (s, to) → Leaves line cond from to s
unfolding read.bare
read_bare line cond from to s h =
    let o = takes Break from (λ _. expect Semicolon >>= (λ _. pure (tree.Break line cond))) s to h in
    let p = takes Semicolon o.middle (λ _. pure (tree.Break line cond)) s to o.second in
    let parts = same_pair {a = tree.Break line cond} {b = s} {x = p.middle} {y = to} p.second in
    record {
      leave = o.value;
      end = p.value;
      is = o.is;
      ends = p.is;
      splits = o.splits ∙ taken o.value (p.splits ∙ taken p.value parts.1);
      made = sym parts.0;
    }

sound_bare : (word : Lexeme) (from middle to : List Lexeme) (cond : RawExpr) (s : RawStmt) → Is If word → DerivesCondition from middle cond →
    read.bare word.line cond middle ≡ Ok (s, to) → DerivesExit (word ∷ from) to s
sound_bare word from middle to cond s is d h =
    let l = read_bare word.line cond middle to s h in
    moved DerivesExit refl refl l.made (bare is (moved DerivesCondition refl (sym l.splits) refl d) l.is l.ends)

sound_braced : (word : Lexeme) (from middle to : List Lexeme) (cond : RawExpr) (s : RawStmt) → Is If word → DerivesCondition from middle cond →
    read.braced word.line cond middle ≡ Ok (s, to) → DerivesExit (word ∷ from) to s
unfolding read.braced
sound_braced word from middle to cond s is d h =
    let o = takes OpenBrace middle (λ _. read.bare word.line cond >>= (λ s. expect CloseBrace >>= (λ _. pure s))) s to h in
    let c = closed (read.bare word.line cond) CloseBrace (λ s. s) s o.middle to o.second in
    let l = read_bare word.line cond o.middle (c.closing ∷ to) c.value c.first in
    moved DerivesExit refl refl (c.made ∙ l.made) (braced is (moved DerivesCondition refl (sym (o.splits ∙ taken o.value l.splits)) refl d)
    o.is l.is l.ends c.is)

-- a statement of a region's body
pub data Inside (from to : List Lexeme) (s : RawStmt) : Type 0 where
  plain : DerivesStatement from to s → Inside from to s
  leaving : DerivesExit from to s → Inside from to s

module _ (statement : Parser RawStmt) (sound : Sound statement DerivesStatement) where
  sound_branches : (word : Lexeme) (from middle to : List Lexeme) (cond : RawExpr) (s : RawStmt) → Is If word → DerivesCondition from middle cond →
      read.branches statement word.line cond middle ≡ Ok (s, to) → DerivesStatement (word ∷ from) to s
  unfolding read.branches
  sound_branches word from middle to cond s is d h =
      let q = then_of (statements.block statement middle) (λ then_part. statements.otherwise statement >>=
      (λ else_part. pure (tree.If word.line cond then_part else_part))) s to h in
      let u = then_of (statements.otherwise statement q.middle) (λ else_part. pure (tree.If word.line cond q.value else_part)) s to q.second in
      let parts = same_pair {a = tree.If word.line cond q.value u.value} {b = s} {x = u.middle} {y = to} u.second in
      moved DerivesStatement refl (sym parts.1) (sym parts.0)
      (choice (chosen statement sound word from middle q.middle u.middle cond q.value u.value is d (sound_block statement sound middle q.middle q.value q.first)
      (read_otherwise statement sound q.middle u.middle u.value u.first)))

  tested_at : (word : Lexeme) (from middle to : List Lexeme) (cond : RawExpr) (s : RawStmt) → Is If word → DerivesCondition from middle cond → (a b : Bool) →
      read.tested_by statement word.line cond a b middle ≡ Ok (s, to) → Inside (word ∷ from) to s
  tested_at word from middle to cond s is d true b h = leaving (sound_bare word from middle to cond s is d h)
  tested_at word from middle to cond s is d false true h = leaving (sound_braced word from middle to cond s is d h)
  tested_at word from middle to cond s is d false false h = plain (sound_branches word from middle to cond s is d h)

  sound_tested : (word : Lexeme) (from middle to : List Lexeme) (cond : RawExpr) (s : RawStmt) → Is If word → DerivesCondition from middle cond →
      read.tested statement word.line cond middle ≡ Ok (s, to) → Inside (word ∷ from) to s
  unfolding read.tested
  sound_tested word from middle to cond s is d h = tested_at word from middle to cond s is d (sees_symbol Break middle) (read.leads_out middle) h

  sound_branch : (from to : List Lexeme) (s : RawStmt) → read.branch statement from ≡ Ok (s, to) → Inside from to s
  unfolding read.branch
  sound_branch from to s h =
      let o = takes If from (λ word. statements.condition >>= (λ cond. read.tested statement word.line cond)) s to h in
      let p = then_of (statements.condition o.middle) (λ cond. read.tested statement o.value.line cond) s to o.second in
      moved Inside o.splits refl refl (sound_tested o.value o.middle p.middle to p.value s o.is (sound_condition o.middle p.middle p.value p.first) p.second)

  inside_at : (b : Bool) (from to : List Lexeme) (s : RawStmt) → read.inside_by statement b from ≡ Ok (s, to) → Inside from to s
  inside_at true from to s h = sound_branch from to s h
  inside_at false from to s h = plain (sound from to s h)

  pub sound_inside : (from to : List Lexeme) (s : RawStmt) → read.inside statement from ≡ Ok (s, to) → Inside from to s
  unfolding read.inside
  sound_inside from to s h = inside_at (sees_symbol If from) from to s h

  one_more : (from middle to : List Lexeme) (s : RawStmt) (rest : List RawStmt) → Inside from middle s → DerivesInside middle to rest →
      DerivesInside from to (s ∷ rest)
  one_more from middle to s rest (plain d) ds = regions.statement d ds
  one_more from middle to s rest (leaving d) ds = regions.exit d ds

  pub many_inside : (n : ℕ) (from to : List Lexeme) (found out : List RawStmt) → many (sees_symbol CloseBrace) (read.inside statement) n found
      from ≡ Ok (out, to) →
      (body : List RawStmt) × (out ≡ found ++ body) × DerivesInside from to body
  many_inside = many_sound (read.inside statement) DerivesInside (sees_symbol CloseBrace) (λ to. regions.none)
      (λ from middle to s rest e ds. one_more from middle to s rest (sound_inside from middle s e) ds)

  pub sound_body : Sound (read.body statement) DerivesLoop
  unfolding read.body
  sound_body from to body h =
      let o = takes OpenBrace from (λ _. (λ ts. many (sees_symbol CloseBrace) (read.inside statement) (length ts) [] ts) >>=
      (λ body. expect CloseBrace >>= (λ _. pure body))) body to h in
      let c = closed (λ ts. many (sees_symbol CloseBrace) (read.inside statement) (length ts) [] ts) CloseBrace (λ x. x) body o.middle to o.second in
      let m = many_inside (length o.middle) o.middle (c.closing ∷ to) [] c.value c.first in
      moved DerivesLoop o.splits refl (c.made ∙ m.1) (loop o.is m.2 c.is)

  -- a region, by its word
  pub data Marked (from to : List Lexeme) (s : RawStmt) : Type 0 where
    by_while : (word : Lexeme) (inside middle : List Lexeme) (cond : RawExpr) (body : List RawStmt) → Is While word → from ≡ word ∷ inside →
        DerivesCondition inside middle cond → DerivesLoop middle to body →
        s ≡ tree.While word.line true cond body → Marked from to s
    by_for : (word : Lexeme) (inside middle : List Lexeme) (first step : RawStmt) (cond : RawExpr) (body : List RawStmt) → Is For word → from ≡ word ∷ inside →
        DerivesHead inside middle first cond step → DerivesLoop middle to body →
        s ≡ tree.For word.line true (first ∷ []) cond (step ∷ []) body → Marked from to s

  read_repeated : (from to : List Lexeme) (s : RawStmt) → read.repeated statement from ≡ Ok (s, to) → Marked from to s
  unfolding read.repeated
  read_repeated from to s h =
      let o = takes While from (λ word. statements.condition >>= (λ cond. read.body statement >>= (λ body. pure (tree.While word.line true cond body)))) s to h
      in
      let p = then_of (statements.condition o.middle) (λ cond. read.body statement >>= (λ body. pure (tree.While o.value.line true cond body))) s to o.second in
      let q = then_of (read.body statement p.middle) (λ body. pure (tree.While o.value.line true p.value body)) s to p.second in
      let parts = same_pair {a = tree.While o.value.line true p.value q.value} {b = s} {x = q.middle} {y = to} q.second in
      by_while o.value o.middle p.middle p.value q.value o.is o.splits (sound_condition o.middle p.middle p.value p.first)
      (moved DerivesLoop refl (sym parts.1) refl (sound_body p.middle q.middle q.value q.first)) (sym parts.0)

  abbrev for_of : ℕ → Header → List RawStmt → RawStmt
  for_of line h body = tree.For line true h.first h.cond h.step body

  read_counted : (from to : List Lexeme) (s : RawStmt) → read.counted statement from ≡ Ok (s, to) → Marked from to s
  unfolding read.counted
  read_counted from to s h =
      let o = takes For from (λ word. heads.head >>= (λ head. read.body statement >>= (λ body. pure (for_of word.line head body)))) s to h in
      let p = then_of (heads.head o.middle) (λ head. read.body statement >>= (λ body. pure (for_of o.value.line head body))) s to o.second in
      let k = read_head o.middle p.middle p.value p.first in
      let q = then_of (read.body statement p.middle) (λ body. pure (for_of o.value.line p.value body)) s to p.second in
      let parts = same_pair {a = for_of o.value.line p.value q.value} {b = s} {x = q.middle} {y = to} q.second in
      by_for o.value o.middle p.middle k.first k.step k.cond q.value o.is o.splits k.derives
      (moved DerivesLoop refl (sym parts.1) refl (sound_body p.middle q.middle q.value q.first))
      (sym parts.0 ∙ ap (λ (head : Header). for_of o.value.line head q.value) k.made)

  region_at : (b : Bool) (from to : List Lexeme) (s : RawStmt) → read.region_by statement b from ≡ Ok (s, to) → Marked from to s
  region_at true from to s h = read_counted from to s h
  region_at false from to s h = read_repeated from to s h

  pub read_region : (from to : List Lexeme) (s : RawStmt) → read.region statement from ≡ Ok (s, to) → Marked from to s
  unfolding read.region
  read_region from to s h = region_at (sees_symbol For from) from to s h

pub inside_shorter : (n : ℕ) (from to : List Lexeme) (s : RawStmt) → read.inside (statements.statement n) from ≡ Ok (s, to) → length to < length from
inside_shorter n from to s h =
    elim (sound_inside (statements.statement n) (sound_statement n) from to s h) [
      | plain d ↦ shorter rule.Statement _ _ refl (_, d)
      | leaving d ↦
          shorter rule.Exit _ _ refl (_, d)
    ]
