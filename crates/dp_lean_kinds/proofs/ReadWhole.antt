-- The walk over a text with its blocks reads the sites of what is left of it.
use Rattle.dp_semantics.proofs.Names.{◌≡◌, inl, inr, refl, sym, ap, ◌∙◌, subst, le-leb, lt-leb, cases_lt, and_parts, append-nil, ℕ, ◌==◌, ◌&&◌, ◌||◌, nat_le}
use Rattle.dp_semantics.proofs.Names.{if◌then◌else◌, Bool, true, false, List, [], ◌∷◌, ◌++◌, length, map, ℤ, Option, Some, None, SiteId, Expr, Stmt, out-Stmt}
use Rattle.dp_semantics.proofs.Names.{roll-Stmt, roll-out-Stmt, rolls-If, rolls-While, rolls-Region, Stmt-F, Assign, Store, Print, If, While, Region, Break}
use Rattle.dp_semantics.proofs.Names.{Call, Program, Plan, site_of, stage_of, assumed_in, branch_of, project, project_all, take-append_seam, flat_map-append}
use Rattle.dp_tree.specs.declared.Stmt.TheVariants as tree
use Rattle.dp_plan.specs.Checked.{is_checked}
use Rattle.dp_plan.specs.Written.{access_site}
use Rattle.dp_semantics.proofs.Heads.{accesses_all, accesses_out, accesses_at, project_at, project_out}
use Rattle.dp_net.specs.NetItems.{Marks}
use Rattle.dp_net.specs.Quiet.{is_quiet}
use Rattle.dp_net.proofs.BlockPlaces.{run_kept, run_gone}
use Rattle.dp_net.proofs.Groups.{Marked}
use Rattle.dp_net.proofs.Silent.{all_quiet, quiet_head, quiet_out}
use Rattle.dp_net.proofs.Texts as texts
use Rattle.dp_net.proofs.Texts.{site_at, Text}
use Rattle.dp_lean.specs.Needed.{is_done_to, is_kept_block}
use Rattle.dp_lean_code.specs.steps.Walked.{Known, stored_inside}
use Rattle.dp_lean_code.proofs.WalkedTexts.{stored_is}
use Rattle.dp_lean_kinds.specs.steps.Read.{has_any, choice_read, assumed_read, block_read, head_read}
unfoldable use Rattle.dp_lean_kinds.specs.steps.Read.{read, list_read}
use Rattle.dp_lean_kinds.proofs.ReadForms.{all_read, read-If, read-While, read-Region}
use Rattle.dp_lean_kinds.proofs.ReadPieces.{Piece, piece_nil, piece_as, piece_of, piece_join, piece_if, piece_block}
use Rattle.dp_lean_kinds.proofs.ReadTexts.{leaf_one, choice_one, loop_one}

module _ (p : Program) (plan : Plan) (s : ℕ) (m : Marks) (k : Known) (checks : (f : ℕ) → k.checked f ≡ is_checked p plan f)
    (dones : (x : ℕ) → k.done x ≡ is_done_to p plan s x)
    (input : List ℤ) (marked : Marked p plan m input) (counts : (f : ℕ) → k.count f ≡ length (m.block_at f)) where
  abbrev One : List Stmt → List ℕ → Type 0
  One zs sites = Piece p plan s m zs sites

  -- a quiet statement has a site
  quiet_some : (x : Stmt) (t : ℕ) (b : List Stmt) → is_quiet p plan t x ≡ true → has_any (map access_site (accesses_all (x ∷ b))) ≡ true
  quiet_some x t b q = by (out-Stmt x) refl (sym (quiet_out p plan t x) ∙ q)
    where
      have : (h : Stmt-F Stmt) → out-Stmt x ≡ h → has_any (map access_site (accesses_at h ++ accesses_all b)) ≡ true →
          has_any (map access_site (accesses_all (x ∷ b))) ≡ true
      have h is e = ap (λ xs. has_any (map access_site (xs ++ accesses_all b))) (accesses_out x ∙ ap accesses_at is) ∙ e

      by : (h : Stmt-F Stmt) → out-Stmt x ≡ h → quiet_head p plan t h ≡ true → has_any (map access_site (accesses_all (x ∷ b))) ≡ true
      by (Assign site v e) is c = have _ is refl
      by (Store site v i e) is c = have _ is refl
      by (If site cond a b) is c = have _ is refl
      by (While site cond a) is c = have _ is refl
      by (Print site e) is c = absurd (cc c)
      by (Break site cond) is c = absurd (cc c)
      by (Region r site cond a) is c = absurd (cc c)
      by (Call f line args) is c = absurd (cc c)

  block_one : (x : Stmt) (b : List Stmt) → m.block_at (site_at x) ≡ x ∷ b →
      One (project_all p plan s (x ∷ b)) (block_read p plan s k (site_of (out-Stmt x)) (x ∷ b))
  block_one x b is = elim (cases_lt s (stage_of p plan (site_at x))) [
    | inl early ↦ piece_of p plan s m (sym (run_gone p plan (stage_of p plan (site_at x)) s early (x ∷ b) (marked.quiet (site_at x) x b is)))
        (piece_as p plan s m (sites_by false (lt-leb (stage_of p plan (site_at x)) s early)) (piece_nil p plan s m))
    | inr late ↦ piece_of p plan s m (sym (run_kept p plan (stage_of p plan (site_at x)) s late (x ∷ b) (marked.quiet (site_at x) x b is)))
        (piece_as p plan s m (kept_sites ∙ sites_by true (le-leb (stage_of p plan (site_at x)) s late)) (piece_block p plan s m x b is
        (quiet_some x (stage_of p plan (site_at x)) b (and_parts (is_quiet p plan (stage_of p plan (site_at x)) x)
        (all_quiet p plan (stage_of p plan (site_at x)) b) (marked.quiet (site_at x) x b is)).0)))
  ]
    where
      stays : Bool
      stays = (stage_of p plan (site_at x) == s) || stored_inside p plan s k (x ∷ b)

      sites_by : (c : Bool) → nat_le (stage_of p plan (site_at x)) s ≡ c → (if c && stays then map access_site (accesses_all (x ∷ b)) else []) ≡ block_read p
          plan s k (site_of (out-Stmt x)) (x ∷ b)
      sites_by c e = ap (λ d. if d && stays then map access_site (accesses_all (x ∷ b)) else []) (sym e)

      kept_sites : (if is_kept_block p plan s (x ∷ b) then map access_site (accesses_all (x ∷ b)) else []) ≡ (if true && stays
          then map access_site (accesses_all (x ∷ b)) else [])
      kept_sites = ap (λ c. if (stage_of p plan (site_at x) == s) || c then map access_site (accesses_all (x ∷ b)) else [])
          (sym (stored_is p plan s m k checks dones (x ∷ b)))

  skips : (b rest : List Stmt) → list_read p plan s k (length b) (b ++ rest) ≡ all_read p plan s k rest
  unfolding list_read
  skips [] rest = refl
  skips (x ∷ b) rest = skips b rest

  alone : (x : Stmt) (rest : List Stmt) → m.block_at (site_at x) ≡ [] → read p plan s k x ++ all_read p plan s k rest ≡ all_read p plan s k (x ∷ rest)
  unfolding list_read
  alone x rest none = ap (λ n. head_read p plan s k n x rest (read p plan s k x) (λ n. list_read p plan s k n rest)) (sym (counts (site_at x) ∙ ap length none))

  joined : (x : Stmt) (b rest : List Stmt) → m.block_at (site_at x) ≡ x ∷ b →
      block_read p plan s k (site_of (out-Stmt x)) (x ∷ b) ++ all_read p plan s k rest ≡ all_read p plan s k (x ∷ (b ++ rest))
  unfolding list_read
  joined x b rest is =
      ap (λ more. block_read p plan s k (site_of (out-Stmt x)) (x ∷ b) ++ more) (sym (skips b rest))
      ∙ ap (λ ys. block_read p plan s k (site_of (out-Stmt x)) (x ∷ ys) ++ list_read p plan s k (length b) (b ++ rest)) (sym (take-append_seam b rest))
      ∙ ap (λ n. head_read p plan s k n x (b ++ rest) (read p plan s k x) (λ n. list_read p plan s k n (b ++ rest))) (sym (counts (site_at x) ∙ ap length is))

  branch_one : (o : Option Bool) (a b : List Stmt) (f g : List ℕ) → One a f → One b g → One (branch_of o a b) (assumed_read p plan s k o f g)
  branch_one None a b f g one two = piece_nil p plan s m
  branch_one (Some true) a b f g one two = one
  branch_one (Some false) a b f g one two = two

  module _ (x : Stmt) (site : SiteId) (cond : Expr) (none : m.block_at (site_at x) ≡ []) where
    there : (h : Stmt-F Stmt) → out-Stmt x ≡ h → m.block_at (site_of h).0 ≡ []
    there h is = ap (λ (h : Stmt-F Stmt). m.block_at (site_of h).0) (sym is) ∙ none

    read_as : (h : Stmt-F Stmt) (z : Stmt) (sites : List ℕ) → out-Stmt x ≡ h → roll-Stmt h ≡ z → read p plan s k z ≡ sites → sites ≡ read p plan s k x
    read_as h z sites is rolls reads = sym reads ∙ ap (read p plan s k) (sym (sym (roll-out-Stmt x) ∙ ap roll-Stmt is ∙ rolls))

    if_one : (a b : List Stmt) → out-Stmt x ≡ If site cond a b → One (project_all p plan s a) (all_read p plan s k a) →
        One (project_all p plan s b) (all_read p plan s k b) →
        One (project p plan s x) (read p plan s k x)
    if_one a b is one two =
        piece_of p plan s m (sym (project_out p plan s x ∙ ap (project_at p plan s) is))
        (piece_as p plan s m (read_as (If site cond a b) _ _ is (rolls-If site cond a b) (read-If p plan s k site cond a b))
        (piece_if p plan s m (nat_le (stage_of p plan site.0) s) (tree.If site cond (project_all p plan s a) (project_all p plan s b) ∷ [])
        (branch_of (assumed_in plan.assume site.0) (project_all p plan s a) (project_all p plan s b)) _ _
        (choice_one p plan s m k checks dones site cond _ _ _ _ (there (If site cond a b) is) one two)
        (branch_one (assumed_in plan.assume site.0) _ _ _ _ one two)))

    while_one : (a : List Stmt) → out-Stmt x ≡ While site cond a → One (project_all p plan s a) (all_read p plan s k a) →
        One (project p plan s x) (read p plan s k x)
    while_one a is one =
        piece_of p plan s m (sym (project_out p plan s x ∙ ap (project_at p plan s) is))
        (piece_as p plan s m (read_as (While site cond a) _ _ is (rolls-While site cond a) (read-While p plan s k site cond a))
        (piece_if p plan s m (nat_le (stage_of p plan site.0) s) (tree.While site cond (project_all p plan s a) ∷ []) [] _ []
        (loop_one p plan s m k checks dones site cond _ _ (there (While site cond a) is) one) (piece_nil p plan s m)))

    pub region_one : (r : ℕ) (a : List Stmt) → out-Stmt x ≡ Region r site cond a → One (project_all p plan s a) (all_read p plan s k a) →
        One (project p plan s x) (read p plan s k x)
    region_one r a is one =
        piece_of p plan s m (sym (project_out p plan s x ∙ ap (project_at p plan s) is))
        (piece_as p plan s m (ap (choice_read p plan s k site) (append-nil (all_read p plan s k a))
        ∙ read_as (Region r site cond a) _ _ is (rolls-Region r site cond a) (read-Region p plan s k r site cond a))
        (choice_one p plan s m k checks dones site cond _ [] _ [] (there (Region r site cond a) is) one (piece_nil p plan s m)))

  -- a text with its blocks
  pub text_one : {xs : List Stmt} → Text m xs → One (project_all p plan s xs) (all_read p plan s k xs)
  unfolding list_read
  text_one texts.ends = piece_nil p plan s m
  text_one (texts.leaf {x = x} {rest = rest} plain is t) =
      piece_as p plan s m (alone x rest plain.0) (piece_join p plan s m (project p plan s x) (project_all p plan s rest) _ _
      (leaf_one p plan s m k checks dones x plain.0 is) (text_one t))
  text_one (texts.choice {x = x} {rest = rest} {a = a} {b = b} {site = site} {cond = cond} plain is u v t) =
      piece_as p plan s m (alone x rest plain.0) (piece_join p plan s m (project p plan s x) (project_all p plan s rest) _ _
      (if_one x site cond plain.0 a b is (text_one u) (text_one v)) (text_one t))
  text_one (texts.loop {x = x} {rest = rest} {a = a} {site = site} {cond = cond} plain is u t) =
      piece_as p plan s m (alone x rest plain.0) (piece_join p plan s m (project p plan s x) (project_all p plan s rest) _ _
      (while_one x site cond plain.0 a is (text_one u)) (text_one t))
  text_one (texts.block {x = x} {b = b} {rest = rest} {behind = behind} at is t) =
      subst (λ (ys : List Stmt). One (project_all p plan s (x ∷ ys)) (all_read p plan s k (x ∷ ys))) (sym is)
      (piece_of p plan s m (sym (flat_map-append (project p plan s) (x ∷ b) rest))
      (piece_as p plan s m (joined x b rest at) (piece_join p plan s m (project_all p plan s (x ∷ b)) (project_all p plan s rest) _ _
      (block_one x b at) (text_one t))))
