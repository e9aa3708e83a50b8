-- Statements of a stage's text whose lean code is known, wherever they stand: alone, one behind the other, and kept or not.
use Rattle.dp_semantics.proofs.Names.{◌≡◌, refl, sym, ap, ◌∙◌, subst, append_assoc, append-nil, length-append, arith, or-false, not, ℕ, zero, ◌+◌, ◌==◌, ◌||◌}
use Rattle.dp_semantics.proofs.Names.{if◌then◌else◌, Bool, true, false, List, [], ◌∷◌, ◌++◌, length, SiteId, Stmt, out-Stmt, Program, Plan, site_of, stage_of}
use Rattle.dp_net.specs.NetItems.{Marks, is_nil}
use Rattle.dp_net.proofs.Texts.{site_at}
use Rattle.dp_lean.specs.Needed.{is_kept_block, store_inside}
use Rattle.dp_lean.specs.LeanText.{kept_when, lean}
use Rattle.dp_lean.proofs.LeanLists.{leaned, lean_alone, lean_block, if_kept}
use Rattle.dp_lean_code.specs.declared.LeanOp.{LeanOp}
use Rattle.dp_lean_code.specs.declared.LeanOp.TheVariants.{Begin, Finish, Meet}
use Rattle.dp_lean_code.specs.LeanCode.{list_code, block_code, silent_code}
use Rattle.dp_lean_code.specs.steps.Walked.{has_ops}
use Rattle.dp_lean_code.proofs.LeanStanding.{stmt_of, code_alone, code_block}
use Rattle.dp_lean_code.proofs.Leaving.{some_block}

pub has_join : (a b : List LeanOp) → has_ops (a ++ b) ≡ (has_ops a || has_ops b)
has_join [] b = refl
has_join (op ∷ a) b = refl

pub has_behind : (ops more : List LeanOp) → has_ops more ≡ true → has_ops (ops ++ more) ≡ true
has_behind [] more e = e
has_behind (op ∷ ops) more e = refl

or_join : (a b c : Bool) → ((a || b) || c) ≡ (a || (b || c))
or_join true b c = refl
or_join false b c = refl

module _ (p : Program) (plan : Plan) (s : ℕ) (m : Marks) where
  -- the code of what is left of the statements
  abbrev pub lean_of : List Stmt → ℕ → List LeanOp
  lean_of xs at = list_code p plan s m (block_code p plan s) zero (leaned p plan m s xs) at

  -- something is left of them
  abbrev pub has_left : List Stmt → Bool
  has_left xs = not (is_nil (leaned p plan m s xs))

  abbrev Pieced : List Stmt → List LeanOp → List Stmt → ℕ → Type 0
  Pieced zs ops ys at = (lean_of (zs ++ ys) at ≡ ops ++ lean_of ys (at + length ops)) × (has_left (zs ++ ys) ≡ (has_ops ops || has_left ys))

  -- The lean code of these statements, whatever stands behind them; it is empty where nothing is left of them.
  pub record Piece (zs : List Stmt) (code : ℕ → List LeanOp) : Type 0 where
    pub gives : (ys : List Stmt) (at : ℕ) → Pieced zs (code at) ys at

  pub piece_nil : Piece [] (λ at. [])
  piece_nil = record { gives = λ ys at. let e : at ≡ at + 0 = omega arith in (ap (lean_of ys) e, refl) }

  pub piece_as : {zs : List Stmt} {f g : ℕ → List LeanOp} → ((at : ℕ) → f at ≡ g at) → Piece zs f → Piece zs g
  piece_as {zs} {f} {g} same one = record { gives = λ ys at. subst (λ (ops : List LeanOp). Pieced zs ops ys at) (same at) (one.gives ys at) }

  pub piece_of : {zs ws : List Stmt} {f : ℕ → List LeanOp} → zs ≡ ws → Piece zs f → Piece ws f
  piece_of {zs} {ws} {f} same one = subst (λ (xs : List Stmt). Piece xs f) same one

  pub piece_join : (a b : List Stmt) (f g : ℕ → List LeanOp) → Piece a f → Piece b g → Piece (a ++ b) (λ at. f at ++ g (at + length (f at)))
  piece_join a b f g one two = record {
    gives = λ ys at.
        let k = at + length (f at) in
        let e : k + length (g k) ≡ at + length (f at ++ g k) = omega (arith, length-append (f at) (g k)) in
        let here = one.gives (b ++ ys) at in let there = two.gives ys k in (
          ap (λ (xs : List Stmt). lean_of xs at) (append_assoc a b ys) ∙ here.0 ∙ ap (λ ops. f at ++ ops) there.0
              ∙ sym (append_assoc (f at) (g k) (lean_of ys (k + length (g k)))) ∙ ap (λ n. (f at ++ g k) ++ lean_of ys n) e,
          ap has_left (append_assoc a b ys) ∙ here.1 ∙ ap (λ c. has_ops (f at) || c) there.1 ∙ sym (or_join (has_ops (f at)) (has_ops (g k)) (has_left ys))
              ∙ ap (λ c. c || has_left ys) (sym (has_join (f at) (g k))),
        );
  }

  pub piece_if : (c : Bool) (a b : List Stmt) (f g : ℕ → List LeanOp) → Piece a f → Piece b g → Piece (if c then a else b) (λ at. if c then f at else g at)
  piece_if true a b f g one two = one
  piece_if false a b f g one two = two

  -- by themselves
  pub piece_alone : {zs : List Stmt} {f : ℕ → List LeanOp} → Piece zs f → (at : ℕ) → lean_of zs at ≡ f at
  piece_alone {zs} {f} one at = ap (λ (xs : List Stmt). lean_of xs at) (sym (append-nil zs)) ∙ (one.gives [] at).0 ∙ append-nil (f at)

  pub piece_has : {zs : List Stmt} {f : ℕ → List LeanOp} → Piece zs f → (at : ℕ) → has_left zs ≡ has_ops (f at)
  piece_has {zs} {f} one at = ap has_left (sym (append-nil zs)) ∙ (one.gives [] at).1 ∙ or-false (has_ops (f at))

  -- a statement outside of blocks
  module _ (x y : Stmt) (code : ℕ → List LeanOp) (none : m.block_at (site_at x) ≡ []) (also : m.block_at (site_at y) ≡ []) where
    stays : (kept : Bool) → ((at : ℕ) → stmt_of p plan s m (block_code p plan s) (some_block p plan s m) y at ≡ code at) →
        ((at : ℕ) → has_ops (code at) ≡ true) → (ys : List Stmt) (at : ℕ) →
        (list_code p plan s m (block_code p plan s) zero (kept_when kept y ++ leaned p plan m s ys) at ≡ (if kept then code at else [])
        ++ lean_of ys (at + length (if kept then code at else [])))
        × (not (is_nil (kept_when kept y ++ leaned p plan m s ys)) ≡ (has_ops (if kept then code at else []) || has_left ys))
    stays true same some ys at = (
      code_alone p plan s m (block_code p plan s) (some_block p plan s m) y (leaned p plan m s ys) at also
          ∙ ap (λ ops. ops ++ lean_of ys (at + length ops)) (same at),
      sym (ap (λ c. c || has_left ys) (some at)),
    )
    stays false same some ys at = let e : at ≡ at + 0 = omega arith in (ap (lean_of ys) e, refl)

    pub piece_stays : (kept : Bool) → lean p plan m s x ≡ kept_when kept y →
        ((at : ℕ) → stmt_of p plan s m (block_code p plan s) (some_block p plan s m) y at ≡ code at) →
        ((at : ℕ) → has_ops (code at) ≡ true) → Piece (x ∷ []) (λ at. if kept then code at else [])
    piece_stays kept is same some = record {
      gives = λ ys at.
          let left : leaned p plan m s (x ∷ ys) ≡ kept_when kept y ++ leaned p plan m s ys = lean_alone p plan m s x ys none
          ∙ ap (λ zs. zs ++ leaned p plan m s ys) is in
          let r = stays kept same some ys at in
          (ap (λ (zs : List Stmt). list_code p plan s m (block_code p plan s) zero zs at) left ∙ r.0, ap (λ (zs : List Stmt). not (is_nil zs)) left ∙ r.1);
    }

  -- a block: an own one, or another stage's of which a store is done
  module _ (x : Stmt) (b : List Stmt) (is : m.block_at (site_at x) ≡ x ∷ b) where
    abbrev pub site : SiteId
    site = site_of (out-Stmt x)

    abbrev pub whole_block : ℕ → List LeanOp
    whole_block at =
        if stage_of p plan site.0 == s then Begin site ∷ (silent_code p plan s (x ∷ b) (at + 1) ++ Finish ∷ [])
        else if store_inside p plan s (x ∷ b) then Meet site ∷ [] else []

    abbrev left_code : (kept : Bool) → List Stmt → ℕ → List LeanOp
    left_code kept ys at = list_code p plan s m (block_code p plan s) zero (if_kept p plan m s kept (x ∷ b) ++ leaned p plan m s ys) at

    blocked : (own done : Bool) → (stage_of p plan site.0 == s) ≡ own → store_inside p plan s (x ∷ b) ≡ done → (ys : List Stmt) (at : ℕ) →
        (left_code (own || done) ys at ≡ whole_block at ++ lean_of ys (at + length (whole_block at)))
        × (not (is_nil (if_kept p plan m s (own || done) (x ∷ b) ++ leaned p plan m s ys)) ≡ (has_ops (whole_block at) || has_left ys))
    blocked true done e d ys at =
        (code_block p plan s m (block_code p plan s) (some_block p plan s m) x b (leaned p plan m s ys) at is ∙ rw e refl, rw e refl)
    blocked false true e d ys at =
        (code_block p plan s m (block_code p plan s) (some_block p plan s m) x b (leaned p plan m s ys) at is ∙ rw (e, d) refl, rw (e, d) refl)
    blocked false false e d ys at = let n : at ≡ at + 0 = omega arith in (ap (lean_of ys) n ∙ rw (e, d) refl, rw (e, d) refl)

    pub piece_block : Piece (x ∷ b) whole_block
    piece_block = record {
      gives = λ ys at.
          let left : leaned p plan m s (x ∷ (b ++ ys)) ≡ if_kept p plan m s (is_kept_block p plan s (x ∷ b)) (x ∷ b) ++ leaned p plan m s ys = lean_block p
          plan m s x b ys is in
          let r = blocked (stage_of p plan site.0 == s) (store_inside p plan s (x ∷ b)) refl refl ys at in
          (ap (λ (zs : List Stmt). list_code p plan s m (block_code p plan s) zero zs at) left ∙ r.0, ap (λ (zs : List Stmt). not (is_nil zs)) left ∙ r.1);
    }
