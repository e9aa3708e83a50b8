-- The walk over a region makes the code of each stage's lean text.
use Rattle.dp_semantics.proofs.Names.{◌≡◌, inl, inr, refl, sym, ap, ◌∙◌, subst, le-leb, lt-leb, cases_lt, ℕ, ◌+◌, ◌==◌, nat_le, if◌then◌else◌, Bool, true}
use Rattle.dp_semantics.proofs.Names.{false, List, [], ◌∷◌, ◌++◌, length, ℤ, Option, Some, None, SiteId, Expr, Stmt, out-Stmt, roll-Stmt, roll-out-Stmt}
use Rattle.dp_semantics.proofs.Names.{rolls-If, rolls-While, rolls-Region, Stmt-F, If, While, Region, Program, Plan, site_of, stage_of, assumed_in, branch_of}
use Rattle.dp_semantics.proofs.Names.{project, project_all, take-append_seam, flat_map-append}
use Rattle.dp_tree.specs.declared.Stmt.TheVariants as tree
use Rattle.dp_plan.specs.Checked.{is_checked}
use Rattle.dp_semantics.proofs.Heads.{project_at, project_out}
use Rattle.dp_net.specs.NetItems.{Marks}
use Rattle.dp_net.proofs.BlockPlaces.{run_kept, run_gone}
use Rattle.dp_net.proofs.Groups.{Marked}
use Rattle.dp_net.proofs.Texts as texts
use Rattle.dp_net.proofs.Texts.{site_at, Text}
use Rattle.dp_lean.specs.Needed.{is_done_to}
use Rattle.dp_lean_code.specs.declared.LeanOp.{LeanOp}
use Rattle.dp_lean_code.specs.declared.LeanOp.TheVariants.{Begin, Finish, Meet}
use Rattle.dp_lean_code.specs.LeanCode.{silent_code}
use Rattle.dp_lean_code.specs.steps.Walked.{Known, assumed_part, block_part, head_part}
unfoldable use Rattle.dp_lean_code.specs.steps.Walked.{part, parts}
use Rattle.dp_lean_code.proofs.WalkForms.{code, part-If, part-While, part-Region}
use Rattle.dp_lean_code.proofs.WalkedPieces.{Piece, piece_nil, piece_as, piece_of, piece_join, piece_if, whole_block, piece_block}
use Rattle.dp_lean_code.proofs.WalkedTexts.{leaf_one, choice_one, loop_one, stored_is}

module _ (p : Program) (plan : Plan) (s : ℕ) (m : Marks) (k : Known) (checks : (f : ℕ) → k.checked f ≡ is_checked p plan f)
    (dones : (x : ℕ) → k.done x ≡ is_done_to p plan s x)
    (input : List ℤ) (marked : Marked p plan m input) (counts : (f : ℕ) → k.count f ≡ length (m.block_at f)) where
  abbrev One : List Stmt → (ℕ → List LeanOp) → Type 0
  One zs ops = Piece p plan s m zs ops

  block_one : (x : Stmt) (b : List Stmt) → m.block_at (site_at x) ≡ x ∷ b →
      One (project_all p plan s (x ∷ b)) (block_part p plan s k (site_of (out-Stmt x)) (x ∷ b))
  block_one x b is = elim (cases_lt s (stage_of p plan (site_at x))) [
    | inl early ↦ piece_of p plan s m (sym (run_gone p plan (stage_of p plan (site_at x)) s early (x ∷ b) (marked.quiet (site_at x) x b is)))
        (piece_as p plan s m (λ at. sym (rw (lt-leb (stage_of p plan (site_at x)) s early) refl)) (piece_nil p plan s m))
    | inr late ↦ piece_of p plan s m (sym (run_kept p plan (stage_of p plan (site_at x)) s late (x ∷ b) (marked.quiet (site_at x) x b is)))
        (piece_as p plan s m (λ at. reached at (nat_le (stage_of p plan (site_at x)) s) (le-leb (stage_of p plan (site_at x)) s late))
        (piece_block p plan s m x b is))
  ]
    where
      site : SiteId
      site = site_of (out-Stmt x)

      reached : (at : ℕ) (c : Bool) → c ≡ true → whole_block p plan s m x b is at
          ≡ (if c then (if stage_of p plan (site_of (out-Stmt x)).0 == s then Begin (site_of (out-Stmt x)) ∷ (silent_code p plan s (x ∷ b) (at + 1) ++ Finish
          ∷ []) else if Rattle.dp_lean_code.specs.steps.Walked.stored_inside p plan s k (x ∷ b) then Meet (site_of (out-Stmt x)) ∷ [] else []) else [])
      reached at true e = ap (λ d. if stage_of p plan site.0 == s then Begin site ∷ (silent_code p plan s (x ∷ b) (at + 1) ++ Finish ∷ []) else if d
          then Meet site ∷ [] else []) (sym (stored_is p plan s m k checks dones (x ∷ b)))
      reached at false e = absurd (cc e)

  skips : (b rest : List Stmt) (at : ℕ) → parts p plan s k (length b) (b ++ rest) at ≡ code p plan s k rest at
  unfolding parts
  skips [] rest at = refl
  skips (x ∷ b) rest at = skips b rest at

  alone : (x : Stmt) (rest : List Stmt) → m.block_at (site_at x) ≡ [] → (at : ℕ) →
      part p plan s k x at ++ code p plan s k rest (at + length (part p plan s k x at)) ≡ code p plan s k (x ∷ rest) at
  unfolding parts
  alone x rest none at =
      ap (λ n. head_part p plan s k n x rest (λ j. part p plan s k x j) (λ n j. parts p plan s k n rest j) at) (sym (counts (site_at x) ∙ ap length none))

  joined : (x : Stmt) (b rest : List Stmt) → m.block_at (site_at x) ≡ x ∷ b → (at : ℕ) →
      block_part p plan s k (site_of (out-Stmt x)) (x ∷ b) at ++ code p plan s k rest (at + length (block_part p plan s k (site_of (out-Stmt x)) (x ∷ b) at))
      ≡ code p plan s k (x ∷ (b ++ rest)) at
  unfolding parts
  joined x b rest is at =
      let ops = block_part p plan s k (site_of (out-Stmt x)) (x ∷ b) at in
      ap (λ more. ops ++ more) (sym (skips b rest (at + length ops)))
      ∙ ap (λ ys. block_part p plan s k (site_of (out-Stmt x)) (x ∷ ys) at ++ parts p plan s k (length b) (b ++ rest)
      (at + length (block_part p plan s k (site_of (out-Stmt x)) (x ∷ ys) at)))
      (sym (take-append_seam b rest))
      ∙ ap (λ n. head_part p plan s k n x (b ++ rest) (λ j. part p plan s k x j) (λ n j. parts p plan s k n (b ++ rest) j) at)
      (sym (counts (site_at x) ∙ ap length is))

  branch_one : (o : Option Bool) (a b : List Stmt) (f g : ℕ → List LeanOp) → One a f → One b g →
      One (branch_of o a b) (λ at. assumed_part p plan s k o (f at) (g at))
  branch_one None a b f g one two = piece_nil p plan s m
  branch_one (Some true) a b f g one two = one
  branch_one (Some false) a b f g one two = two

  if_one : (x : Stmt) (site : SiteId) (cond : Expr) (a b : List Stmt) → m.block_at (site_at x) ≡ [] → out-Stmt x ≡ If site cond a b →
      One (project_all p plan s a) (code p plan s k a) → One (project_all p plan s b) (code p plan s k b) → One (project p plan s x) (part p plan s k x)
  if_one x site cond a b none is one two =
      let there : m.block_at site.0 ≡ [] = ap (λ (h : Stmt-F Stmt). m.block_at (site_of h).0) (sym is) ∙ none in
      let same : x ≡ tree.If site cond a b = sym (roll-out-Stmt x) ∙ ap roll-Stmt is ∙ rolls-If site cond a b in
      piece_of p plan s m (sym (project_out p plan s x ∙ ap (project_at p plan s) is))
      (piece_as p plan s m (λ at. sym (part-If p plan s k site cond a b at) ∙ ap (λ (z : Stmt). part p plan s k z at) (sym same))
      (piece_if p plan s m (nat_le (stage_of p plan site.0) s) (tree.If site cond (project_all p plan s a) (project_all p plan s b) ∷ [])
      (branch_of (assumed_in plan.assume site.0) (project_all p plan s a) (project_all p plan s b)) _ _
      (choice_one p plan s m k checks dones site cond _ _ _ _ there one two) (branch_one (assumed_in plan.assume site.0) _ _ _ _ one two)))

  while_one : (x : Stmt) (site : SiteId) (cond : Expr) (a : List Stmt) → m.block_at (site_at x) ≡ [] → out-Stmt x ≡ While site cond a →
      One (project_all p plan s a) (code p plan s k a) → One (project p plan s x) (part p plan s k x)
  while_one x site cond a none is one =
      let there : m.block_at site.0 ≡ [] = ap (λ (h : Stmt-F Stmt). m.block_at (site_of h).0) (sym is) ∙ none in
      let same : x ≡ tree.While site cond a = sym (roll-out-Stmt x) ∙ ap roll-Stmt is ∙ rolls-While site cond a in
      piece_of p plan s m (sym (project_out p plan s x ∙ ap (project_at p plan s) is))
      (piece_as p plan s m (λ at. sym (part-While p plan s k site cond a at) ∙ ap (λ (z : Stmt). part p plan s k z at) (sym same))
      (piece_if p plan s m (nat_le (stage_of p plan site.0) s) (tree.While site cond (project_all p plan s a) ∷ []) [] _ (λ at. [])
      (loop_one p plan s m k checks dones site cond _ _ there one) (piece_nil p plan s m)))

  pub region_one : (x : Stmt) (r : ℕ) (site : SiteId) (cond : Expr) (a : List Stmt) → m.block_at (site_at x) ≡ [] → out-Stmt x ≡ Region r site cond a →
      One (project_all p plan s a) (code p plan s k a) → One (project p plan s x) (part p plan s k x)
  region_one x r site cond a none is one =
      let there : m.block_at site.0 ≡ [] = ap (λ (h : Stmt-F Stmt). m.block_at (site_of h).0) (sym is) ∙ none in
      let same : x ≡ tree.Region r site cond a = sym (roll-out-Stmt x) ∙ ap roll-Stmt is ∙ rolls-Region r site cond a in
      piece_of p plan s m (sym (project_out p plan s x ∙ ap (project_at p plan s) is))
      (piece_as p plan s m (λ at. sym (part-Region p plan s k r site cond a at) ∙ ap (λ (z : Stmt). part p plan s k z at) (sym same))
      (choice_one p plan s m k checks dones site cond _ [] _ (λ j. []) there one (piece_nil p plan s m)))

  -- a text with its blocks
  pub text_one : {xs : List Stmt} → Text m xs → One (project_all p plan s xs) (code p plan s k xs)
  unfolding parts
  text_one texts.ends = piece_nil p plan s m
  text_one (texts.leaf {x = x} {rest = rest} plain is t) =
      piece_as p plan s m (alone x rest plain.0) (piece_join p plan s m (project p plan s x) (project_all p plan s rest) _ _
      (leaf_one p plan s m k checks dones x plain.0 is) (text_one t))
  text_one (texts.choice {x = x} {rest = rest} {a = a} {b = b} {site = site} {cond = cond} plain is u v t) =
      piece_as p plan s m (alone x rest plain.0) (piece_join p plan s m (project p plan s x) (project_all p plan s rest) _ _
      (if_one x site cond a b plain.0 is (text_one u) (text_one v)) (text_one t))
  text_one (texts.loop {x = x} {rest = rest} {a = a} {site = site} {cond = cond} plain is u t) =
      piece_as p plan s m (alone x rest plain.0) (piece_join p plan s m (project p plan s x) (project_all p plan s rest) _ _
      (while_one x site cond a plain.0 is (text_one u)) (text_one t))
  text_one (texts.block {x = x} {b = b} {rest = rest} {behind = behind} at is t) =
      subst (λ (ys : List Stmt). One (project_all p plan s (x ∷ ys)) (code p plan s k (x ∷ ys))) (sym is)
      (piece_of p plan s m (sym (flat_map-append (project p plan s) (x ∷ b) rest))
      (piece_as p plan s m (joined x b rest at) (piece_join p plan s m (project_all p plan s (x ∷ b)) (project_all p plan s rest) _ _
      (block_one x b at) (text_one t))))
