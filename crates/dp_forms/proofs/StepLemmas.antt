-- The step at each form of statement.
use Rattle.std.proofs.Common.{◌≡◌, refl, sym, ap, ◌∙◌, ℕ, ◌+◌, true, false, List, [], ◌∷◌, ◌++◌, ℤ, set}
use Rattle.std.proofs.lemmas.List.{append-nil}
use Rattle.dp_base.specs.declared.SiteId.{SiteId}
use Rattle.dp_base.specs.declared.VarId.{VarId}
use Rattle.dp_base.specs.Arithmetic.{is_zero}
use Rattle.dp_tree.specs.declared.Expr.{Expr}
use Rattle.dp_tree.specs.declared.Stmt.{Stmt}
use Rattle.dp_tree.specs.declared.Stmt.TheVariants as stmt
use Rattle.dp_tree.specs.declared.Program.{Program}
use Rattle.dp_tree.specs.Eval.{place, just, first_cell, cell_count}
use Rattle.dp_tree.specs.Step.{standing, Stored, Printed, Decided}
use Rattle.dp_meaning.specs.steps.PlainSteps.{PlainStep}
use Rattle.dp_forms.specs.Values.{GivesValue}
use Rattle.dp_tree.specs.Statements.{listed}
use Rattle.dp_tree.proofs.InnerTexts.{shown_listed}
use Rattle.dp_tree.specs.declared.Stmt.TheBlock.{shape-the_row-Stmt-0, hidden-the_row-Stmt-0, shown-the_row-Stmt-0}

-- what opens where a step is computed at a form
unfoldable pub statement_opened : Unit {0}
unfolding denote.Hole.Carrier.out denote.Hole.Carrier.hidden denote.Hole.Carrier.shown Rattle.dp_tree.specs.declared.Stmt.TheViews.out-Stmt
    Rattle.dp_tree.specs.declared.Expr.TheBlock.shape-the_row-Expr-0 Rattle.dp_tree.specs.declared.Expr.TheBlock.hidden-the_row-Expr-0
    Rattle.dp_tree.specs.declared.Stmt.TheBlock.shape-the_row-Stmt-0 Rattle.dp_tree.specs.declared.Stmt.TheBlock.hidden-the_row-Stmt-0
    Rattle.dp_tree.specs.declared.Stmt.TheBlock.shown-the_row-Stmt-0
statement_opened = tt

pub listed_hidden : (xs : List Stmt) → listed (hidden-the_row-Stmt-0 xs) ≡ xs
unfolding statement_opened
listed_hidden [] = refl
listed_hidden (x ∷ xs) = ap (λ (ys : List Stmt). x ∷ ys) (listed_hidden xs)

-- statements that are put into a row are shown as they are
shown : (xs : List Stmt) → shown-the_row-Stmt-0 (shape-the_row-Stmt-0 xs) (hidden-the_row-Stmt-0 xs) ≡ xs
shown xs = shown_listed (shape-the_row-Stmt-0 xs) (hidden-the_row-Stmt-0 xs) ∙ listed_hidden xs

module _ (p : Program) (input cells out : List ℤ) (behind : List Stmt) where
  pub step_set : (site : SiteId) (x : VarId) (e : Expr) (v : ℤ) → GivesValue p input cells e v →
      PlainStep p input (standing p (stmt.Assign site x e ∷ behind) cells) (standing p behind (set cells (first_cell p x) v)) out out
  unfolding statement_opened
  step_set site x e v g =
      record {
        event = record { site = site.0; loads = g.loads ++ []; effect = Stored (first_cell p x) v };
        stepped = simp (g.is);
        printed = sym (append-nil
            out);
        plain = refl;
        stays = refl;
      }

  pub step_put : (site : SiteId) (x : VarId) (a e : Expr) (i v : ℤ) (k : ℕ) → GivesValue p input cells a i → GivesValue p input cells e v →
      place i (cell_count p x) ≡ just k →
      PlainStep p input (standing p (stmt.Store site x a e ∷ behind) cells) (standing p behind (set cells (first_cell p x + k) v)) out out
  unfolding statement_opened
  step_put site x a e i v k g h placed =
      record {
        event = record { site = site.0; loads = g.loads ++ (h.loads ++ ([] ++ [])); effect = Stored (first_cell p x + k) v };
        stepped = simp (g.is, h.is, placed);
        printed = sym (append-nil out);
        plain = refl;
        stays = refl;
      }

  pub step_say : (site : SiteId) (e : Expr) (v : ℤ) → GivesValue p input cells e v → PlainStep p input (standing p (stmt.Print site e ∷ behind) cells)
      (standing p behind cells) out (out ++ (v ∷ []))
  unfolding statement_opened
  step_say site e v g =
      record { event = record { site = site.0; loads = g.loads ++ []; effect = Printed v }; stepped = simp (g.is); printed = refl; plain = refl; stays = refl }

  module _ (site : SiteId) (c : Expr) (v : ℤ) (g : GivesValue p input cells c v) where
    pub step_then : (a b : List Stmt) → is_zero v ≡ false → PlainStep p input (standing p (stmt.If site c a b ∷ behind) cells)
        (standing p (a ++ behind) cells) out out
    unfolding statement_opened
    step_then a b t = record {
      event = record { site = site.0; loads = g.loads ++ []; effect = Decided v };
      stepped = simp (shown a, g.is, t);
      printed = sym (append-nil out);
      plain = refl;
      stays = refl;
    }

    pub step_else : (a b : List Stmt) → is_zero v ≡ true → PlainStep p input (standing p (stmt.If site c a b ∷ behind) cells)
        (standing p (b ++ behind) cells) out out
    unfolding statement_opened
    step_else a b t = record {
      event = record { site = site.0; loads = g.loads ++ []; effect = Decided v };
      stepped = simp (shown b, g.is, t);
      printed = sym (append-nil out);
      plain = refl;
      stays = refl;
    }

    pub step_turn : (a : List Stmt) → is_zero v ≡ false → PlainStep p input (standing p (stmt.While site c a ∷ behind) cells)
        (standing p (a ++ (stmt.While site c a ∷ behind)) cells) out out
    unfolding statement_opened
    step_turn a t = record {
      event = record { site = site.0; loads = g.loads ++ []; effect = Decided v };
      stepped = simp (shown a, g.is, t);
      printed = sym (append-nil out);
      plain = refl;
      stays = refl;
    }

    pub step_past : (a : List Stmt) → is_zero v ≡ true → PlainStep p input (standing p (stmt.While site c a ∷ behind) cells) (standing p behind cells) out out
    unfolding statement_opened
    step_past a t = record {
      event = record { site = site.0; loads = g.loads ++ []; effect = Decided v };
      stepped = simp (shown a, g.is, t);
      printed = sym (append-nil out);
      plain = refl;
      stays = refl;
    }
