-- The text of a stage with its blocks, and what follows a head that isn't of a block.
use Rattle.dp_semantics.proofs.Names.{◌≡◌, refl, sym, ap, ◌∙◌, subst, append_assoc, ℕ, Bool, true, false, if◌then◌else◌, List, [], ◌∷◌, ◌++◌, ℤ, Option, None}
use Rattle.dp_semantics.proofs.Names.{is_zero, and_parts, Expr, SiteId, Stmt, out-Stmt, Stmt-F, Assign, Store, Print, If, While, Region, Break, Program, Plan}
use Rattle.dp_semantics.proofs.Names.{site_of, followed, choose, behind_region, behind_one, region_number, stage_of}
use Rattle.dp_net.specs.Quiet.{is_quiet}
use Rattle.dp_net.specs.NetItems.{begins, Marks}
use Rattle.dp_net.proofs.Silent.{all_quiet, AllQuiet, quiet_head, quiet_out}
use Rattle.dp_net.proofs.Groups.{Marked}

abbrev pub site_at : Stmt → ℕ
site_at x = (site_of (out-Stmt x)).0

-- a statement with no others inside
abbrev pub IsLeaf : Stmt-F Stmt → Type 0
IsLeaf (Assign site x e) = Unit {0}
IsLeaf (Store site x index e) = Unit {0}
IsLeaf (Print site e) = Unit {0}
IsLeaf (Break site cond) = Unit {0}
IsLeaf _ = ⊥

module _ (m : Marks) where
  -- no block begins with the statement, and it stands in none
  abbrev pub Plain : Stmt → Type 0
  Plain x = (m.block_at (site_at x) ≡ []) × (begins m (site_at x) ≡ false)

  -- statements one by one, each whole block standing together
  pub data Text : List Stmt → Type 0 where
    ends : Text []
    leaf : {x : Stmt} {rest : List Stmt} → Plain x → IsLeaf (out-Stmt x) → Text rest → Text (x ∷ rest)
    choice : {x : Stmt} {rest a b : List Stmt} {site : SiteId} {cond : Expr} → Plain x → out-Stmt x ≡ If site cond a b → Text a → Text b →
        Text rest → Text (x ∷ rest)
    loop : {x : Stmt} {rest a : List Stmt} {site : SiteId} {cond : Expr} → Plain x → out-Stmt x ≡ While site cond a → Text a → Text rest → Text (x ∷ rest)
    block : {x : Stmt} {b rest behind : List Stmt} → m.block_at (site_at x) ≡ x ∷ b → behind ≡ b ++ rest → Text rest → Text (x ∷ behind)

  pub text_join : {a b : List Stmt} → Text a → Text b → Text (a ++ b)
  text_join ends t = t
  text_join (leaf plain is s) t = leaf plain is (text_join s t)
  text_join (choice plain is u v s) t = choice plain is u v (text_join s t)
  text_join (loop plain is u s) t = loop plain is u (text_join s t)
  text_join {b = c} (block {x = x} {b = b} {rest = rest} at is s) t = block at (ap (λ (ys : List Stmt). ys ++ c) is ∙ append_assoc b rest c) (text_join s t)

  module _ (p : Program) (plan : Plan) (input : List ℤ) (marked : Marked p plan m input) where
    quiet_number : (t : ℕ) (h : Stmt-F Stmt) → quiet_head p plan t h ≡ true → region_number h ≡ None
    quiet_number t (Region r site cond a) q = absurd (cc)
    quiet_number t _ q = refl

    quiet_left : (t : ℕ) (b rest : List Stmt) → AllQuiet p plan t b → behind_region (b ++ rest) ≡ behind_region rest
    quiet_left t [] rest q = refl
    quiet_left t (x ∷ b) rest q =
        let both = and_parts (is_quiet p plan t x) (all_quiet p plan t b) q in
        ap (λ (o : Option ℕ). behind_one o (b ++ rest) (behind_region (b ++ rest))) (quiet_number t (out-Stmt x) (sym (quiet_out p plan t x) ∙ both.0))
        ∙ quiet_left t b rest both.1

    leaf_number : (h : Stmt-F Stmt) → IsLeaf h → region_number h ≡ None
    leaf_number (Assign site x e) is = refl
    leaf_number (Store site x index e) is = refl
    leaf_number (Print site e) is = refl
    leaf_number (Break site cond) is = refl
    leaf_number _ is = absurd is

    -- no region stands in it
    pub text_left : {xs : List Stmt} → Text xs → behind_region xs ≡ []
    text_left ends = refl
    text_left (leaf {x = x} {rest = rest} plain is s) = ap (λ (o : Option ℕ). behind_one o rest (behind_region rest)) (leaf_number (out-Stmt x) is)
        ∙ text_left s
    text_left (choice {x = x} {rest = rest} plain is u v s) = ap (λ (o : Option ℕ). behind_one o rest (behind_region rest)) (ap region_number is) ∙ text_left s
    text_left (loop {x = x} {rest = rest} plain is u s) = ap (λ (o : Option ℕ). behind_one o rest (behind_region rest)) (ap region_number is) ∙ text_left s
    text_left (block {x = x} {b = b} {rest = rest} at is s) =
        let q = marked.quiet (site_at x) x b at in
        ap (λ (ys : List Stmt). behind_region (x ∷ ys)) is ∙ quiet_left (stage_of p plan (site_at x)) (x ∷ b) rest q ∙ text_left s

    choose_text : (z : ℤ) {a b : List Stmt} → Text a → Text b → Text (choose z a b)
    choose_text z {a} {b} s t = by (is_zero z)
      where
        by : (zero : Bool) → Text (if zero then b else a)
        by true = t
        by false = s

    leaf_text : (x : Stmt) {rest : List Stmt} (h : Stmt-F Stmt) (z : ℤ) → IsLeaf h → Text rest → Text (followed x rest h z)
    leaf_text x (Assign site y e) z is s = s
    leaf_text x (Store site y index e) z is s = s
    leaf_text x (Print site e) z is s = s
    leaf_text x {rest} (Break site cond) z is s = choose_text z (subst Text (sym (text_left s)) ends) s
    leaf_text x _ z is s = absurd is

    -- a head is of a block, or what follows it has its blocks whole
    pub data Headed (x : Stmt) (rest : List Stmt) : Type 0 where
      alone : Plain x → ((z : ℤ) → Text (followed x rest (out-Stmt x) z)) → Headed x rest
      joined : (b more : List Stmt) → m.block_at (site_at x) ≡ x ∷ b → rest ≡ b ++ more → Text more → Headed x rest

    pub headed : (x : Stmt) (rest : List Stmt) → Text (x ∷ rest) → Headed x rest
    headed x rest (leaf plain is s) = alone plain (λ z. leaf_text x (out-Stmt x) z is s)
    headed x rest (choice {a = a} {b = b} plain is u v s) = alone plain (λ z. subst (λ (h : Stmt-F Stmt). Text (followed x rest h z)) (sym is)
        (text_join (choose_text z u v) s))
    headed x rest (loop {a = a} plain is u s) = alone plain (λ z. subst (λ (h : Stmt-F Stmt). Text (followed x rest h z)) (sym is)
        (choose_text z (text_join u (loop plain is u s)) s))
    headed x rest (block {b = b} {rest = more} at is s) = joined b more at is s
