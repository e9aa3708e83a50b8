-- The head of a text: its statement is left, with what may follow it, or nothing is left of it; or a block begins there.
use Rattle.dp_semantics.proofs.Names.{◌≡◌, inl, inr, refl, sym, ap, ◌∙◌, subst, ℕ, Bool, true, false, not, ◌||◌, if◌then◌else◌, List, [], ◌∷◌, ◌++◌, ℤ, is_zero}
use Rattle.dp_semantics.proofs.Names.{or_parts, cases_Bool, outs-If, rolls-Assign, rolls-Store, rolls-Print, rolls-Break, SiteId, Expr, Stmt, out-Stmt}
use Rattle.dp_semantics.proofs.Names.{roll-Stmt, roll-out-Stmt, Stmt-F, Assign, Store, Print, If, While, Break, Program, Plan, Word, evaluated, Printed, Tried}
use Rattle.dp_semantics.proofs.Names.{site_of, effect_by, followed, choose, behind_region, ◌==◌, ◌&&◌, stage_of, first_site, is_checked, Effect, Stored}
use Rattle.dp_semantics.proofs.Names.{Decided, leaves, closes_at}
use Rattle.dp_tree.specs.declared.Stmt.TheVariants as tree
use Rattle.dp_tree.specs.declared.Stmt.TheVariants.{outs-While}
use Rattle.dp_semantics.proofs.Evaluation.{Form, head_stores}
use Rattle.dp_net.specs.NetItems.{Marks, is_nil}
use Rattle.dp_net.proofs.Groups.{Marked}
use Rattle.dp_net.proofs.Texts.{site_at, IsLeaf, Plain, text_left}
use Rattle.dp_lean.specs.Needed.{is_judge, is_done_to, does_store, is_kept_site}
use Rattle.dp_lean.specs.LeanText.{kept_when, has_some, lean}
use Rattle.dp_lean.proofs.LeanLists.{leaned, lean_at, lean_out, lean_alone}
use Rattle.dp_lean.proofs.LeftTexts.{ReadAt, ReadBlock, Left, ends, leaf, choice, loop, block, left_join, lean_join, left_text, lean_texts}

module _ (p : Program) (plan : Plan) (m : Marks) (s : ℕ) where
  -- nothing of it is left: no store of it is done, and it is no early exit
  pub record Gone (h : Stmt-F Stmt) : Type 0 where
    pub other : is_kept_site p plan s (site_of h).0 ≡ false
    pub undone : does_store p plan s (head_stores h) ≡ false
    pub mute : (z : ℤ) → Form p h (Printed z) → is_judge p plan s ≡ false
    pub inner : (z : ℤ) → Form p h (Tried z) → ⊥

  -- .. it is another stage's, not the region's condition, and has nothing that is compared
  pub gone_parts : (h : Stmt-F Stmt) → Gone h →
      ((stage_of p plan (site_of h).0 == s) ≡ false) × (((site_of h).0 == first_site p plan) ≡ false)
      × ((is_judge p plan s && is_checked p plan (site_of h).0) ≡ false)
  gone_parts h gone =
      let both = or_parts (stage_of p plan (site_of h).0 == s) _ gone.other in
      let two = or_parts ((site_of h).0 == first_site p plan) _ both.1 in
      (both.0, two.0, two.1)

  gone_stays : (h : Stmt-F Stmt) → Gone h → (effect : Effect) → Form p h effect → leaves effect ≡ false
  gone_stays h gone (Stored c z) f = refl
  gone_stays h gone (Printed z) f = refl
  gone_stays h gone (Decided z) f = refl
  gone_stays h gone (Tried z) f = absurd (gone.inner z f)

  -- .. so it doesn't leave the region
  pub gone_open : (h : Stmt-F Stmt) → Gone h → (effect : Effect) → Form p h effect → closes_at (first_site p plan) (site_of h).0 effect ≡ false
  gone_open h gone effect f = rw ((gone_parts h gone).1, gone_stays h gone effect f) refl

  -- y does what x does
  pub record Stands (input : List ℤ) (x y : Stmt) : Type 0 where
    pub site : site_of (out-Stmt y) ≡ site_of (out-Stmt x)
    pub evaluates : (cells : List ℤ) → evaluated p input cells (out-Stmt y) ≡ evaluated p input cells (out-Stmt x)
    pub does : (w : Word) → effect_by p (out-Stmt y) w ≡ effect_by p (out-Stmt x) w

  module _ (read : ℕ → Bool) (input : List ℤ) where
    pub data Headed (x : Stmt) (rest : List Stmt) : Type 0 where
      stays : Plain m x → read (site_at x) ≡ true → (y : Stmt) → Stands input x y → leaned p plan m s (x ∷ rest) ≡ y ∷ leaned p plan m s rest →
          ((z : ℤ) → Left p plan m s read (followed x rest (out-Stmt x) z)) →
          ((z : ℤ) → followed y (leaned p plan m s rest) (out-Stmt y) z ≡ leaned p plan m s (followed x rest (out-Stmt x) z)) → Headed x rest
      gone : Plain m x → read (site_at x) ≡ false → Gone (out-Stmt x) → leaned p plan m s (x ∷ rest) ≡ leaned p plan m s rest →
          ((z : ℤ) → Left p plan m s read (followed x rest (out-Stmt x) z)) →
          ((z : ℤ) → leaned p plan m s (followed x rest (out-Stmt x) z) ≡ leaned p plan m s rest) → Headed x rest
      whole : (b more : List Stmt) → m.block_at (site_at x) ≡ x ∷ b → rest ≡ b ++ more → ReadBlock p plan m s read x b →
          Left p plan m s read more → Headed x rest

    choose_left : (z : ℤ) {a b : List Stmt} → Left p plan m s read a → Left p plan m s read b → Left p plan m s read (choose z a b)
    choose_left z {a} {b} t u = by (is_zero z)
      where
        by : (zero : Bool) → Left p plan m s read (if zero then b else a)
        by true = u
        by false = t

    leaned_choose : (z : ℤ) (a b : List Stmt) → leaned p plan m s (choose z a b) ≡ choose z (leaned p plan m s a) (leaned p plan m s b)
    leaned_choose z a b = by (is_zero z)
      where
        by : (zero : Bool) → leaned p plan m s (if zero then b else a) ≡ (if zero then leaned p plan m s b else leaned p plan m s a)
        by true = refl
        by false = refl

    choose_same : (z : ℤ) (a b c : List Stmt) → a ≡ c → b ≡ c → choose z a b ≡ c
    choose_same z a b c e f = by (is_zero z)
      where
        by : (zero : Bool) → (if zero then b else a) ≡ c
        by true = f
        by false = e

    nil_is : (xs : List Stmt) → not (is_nil xs) ≡ false → xs ≡ []
    nil_is [] e = refl
    nil_is (x ∷ xs) e = absurd (cc e)

    -- a statement with no others inside
    abbrev pub leaf_test : Stmt-F Stmt → Bool
    leaf_test (Assign site x e) = is_kept_site p plan s site.0 || is_done_to p plan s x.0
    leaf_test (Store site x index e) = is_kept_site p plan s site.0 || is_done_to p plan s x.0
    leaf_test (Print site e) = is_kept_site p plan s site.0 || is_judge p plan s
    leaf_test _ = true

    pub leaf_is : (x : Stmt) (h : Stmt-F Stmt) → out-Stmt x ≡ h → IsLeaf h → lean p plan m s x ≡ kept_when (leaf_test h) x
    leaf_is x (Assign site v e) is l = lean_out p plan m s x ∙ ap (lean_at p plan m s) is
        ∙ ap (kept_when (leaf_test (Assign site v e))) (sym (rolls-Assign site v e) ∙ ap roll-Stmt (sym is) ∙ roll-out-Stmt x)
    leaf_is x (Store site v i e) is l = lean_out p plan m s x ∙ ap (lean_at p plan m s) is
        ∙ ap (kept_when (leaf_test (Store site v i e))) (sym (rolls-Store site v i e) ∙ ap roll-Stmt (sym is) ∙ roll-out-Stmt x)
    leaf_is x (Print site e) is l = lean_out p plan m s x ∙ ap (lean_at p plan m s) is
        ∙ ap (kept_when (leaf_test (Print site e))) (sym (rolls-Print site e) ∙ ap roll-Stmt (sym is) ∙ roll-out-Stmt x)
    leaf_is x (Break site cond) is l = lean_out p plan m s x ∙ ap (lean_at p plan m s) is
        ∙ ap (λ (y : Stmt). y ∷ []) (sym (rolls-Break site cond) ∙ ap roll-Stmt (sym is) ∙ roll-out-Stmt x)
    leaf_is x _ is l = absurd l

    leaf_gone : (h : Stmt-F Stmt) → IsLeaf h → leaf_test h ≡ false → Gone h
    leaf_gone (Assign site v e) l q = let both = or_parts (is_kept_site p plan s site.0) (is_done_to p plan s v.0) q in
        record { other = both.0; undone = both.1; mute = λ z f. absurd f; inner = λ z f. f }
    leaf_gone (Store site v i e) l q = let both = or_parts (is_kept_site p plan s site.0) (is_done_to p plan s v.0) q in
        record { other = both.0; undone = both.1; mute = λ z f. absurd f; inner = λ z f. f }
    leaf_gone (Print site e) l q = let both = or_parts (is_kept_site p plan s site.0) (is_judge p plan s) q in
        record { other = both.0; undone = refl; mute = λ z f. both.1; inner = λ z f. f }
    leaf_gone (Break site cond) l q = absurd (cc q)
    leaf_gone _ l q = absurd l

    itself : (x : Stmt) → Stands input x x
    itself x = record { site = refl; evaluates = λ cells. refl; does = λ w. refl }

    -- what follows a leaf, where no region stands behind it
    leaf_left : (x : Stmt) {rest : List Stmt} (h : Stmt-F Stmt) (z : ℤ) → IsLeaf h → behind_region rest ≡ [] → Left p plan m s read rest →
        Left p plan m s read (followed x rest h z)
    leaf_left x (Assign site v e) z l none t = t
    leaf_left x (Store site v i e) z l none t = t
    leaf_left x (Print site e) z l none t = t
    leaf_left x (Break site cond) z l none t = choose_left z (subst (Left p plan m s read) (sym none) ends) t
    leaf_left x _ z l none t = absurd l

    leaf_next : (x : Stmt) (rest : List Stmt) (h : Stmt-F Stmt) (z : ℤ) → IsLeaf h → behind_region rest ≡ [] → behind_region (leaned p plan m s rest) ≡ [] →
        followed x (leaned p plan m s rest) h z ≡ leaned p plan m s (followed x rest h z)
    leaf_next x rest (Assign site v e) z l none also = refl
    leaf_next x rest (Store site v i e) z l none also = refl
    leaf_next x rest (Print site e) z l none also = refl
    leaf_next x rest (Break site cond) z l none also =
        ap (λ (ys : List Stmt). choose z ys (leaned p plan m s rest)) (also ∙ ap (leaned p plan m s) (sym none))
        ∙ sym (leaned_choose z (behind_region rest) rest)
    leaf_next x rest _ z l none also = absurd l

    leaf_drops : (x : Stmt) (rest : List Stmt) (h : Stmt-F Stmt) (z : ℤ) → IsLeaf h → leaf_test h ≡ false → followed x rest h z ≡ rest
    leaf_drops x rest (Assign site v e) z l q = refl
    leaf_drops x rest (Store site v i e) z l q = refl
    leaf_drops x rest (Print site e) z l q = refl
    leaf_drops x rest (Break site cond) z l q = absurd (cc q)
    leaf_drops x rest _ z l q = absurd l

    leaf_headed : (x : Stmt) (rest : List Stmt) → Plain m x → IsLeaf (out-Stmt x) → ReadAt p plan m s read x → behind_region rest ≡ [] →
        behind_region (leaned p plan m s rest) ≡ [] → Left p plan m s read rest → Headed x rest
    leaf_headed x rest plain l r none also t = elim (cases_Bool (leaf_test (out-Stmt x))) [
      | inl q ↦
          let is : lean p plan m s x ≡ x ∷ [] = leaf_is x (out-Stmt x) refl l ∙ ap (λ (b : Bool). kept_when b x) q in
          stays plain (r ∙ ap (λ (xs : List Stmt). not (is_nil xs)) is) x (itself x)
          (lean_alone p plan m s x rest plain.0 ∙ ap (λ (xs : List Stmt). xs ++ leaned p plan m s rest) is)
          (λ z. leaf_left x (out-Stmt x) z l none t) (λ z. leaf_next x rest (out-Stmt x) z l none also)
      | inr q ↦
          let is : lean p plan m s x ≡ [] = leaf_is x (out-Stmt x) refl l ∙ ap (λ (b : Bool). kept_when b x) q in
          gone plain (r ∙ ap (λ (xs : List Stmt). not (is_nil xs)) is) (leaf_gone (out-Stmt x) l q)
          (lean_alone p plan m s x rest plain.0 ∙ ap (λ (xs : List Stmt). xs ++ leaned p plan m s rest) is)
          (λ z. leaf_left x (out-Stmt x) z l none t) (λ z. ap (leaned p plan m s) (leaf_drops x rest (out-Stmt x) z l q))
    ]

    module _ (x : Stmt) (rest : List Stmt) (plain : Plain m x) (r : ReadAt p plan m s read x) (t : Left p plan m s read rest)
        (site : SiteId) (cond : Expr) where
      if_headed : (a b : List Stmt) → out-Stmt x ≡ If site cond a b → Left p plan m s read a → Left p plan m s read b → Headed x rest
      if_headed a b is c d = elim (cases_Bool test) [
        | inl q ↦
            let left : lean p plan m s x ≡ y ∷ [] = lean_is ∙ ap (λ (k : Bool). kept_when k y) q in
            stays plain (r ∙ ap (λ (xs : List Stmt). not (is_nil xs)) left) y
            (record {
              site = ap site_of outs ∙ sym (ap site_of is);
              evaluates = λ cells. ap (evaluated p input cells) outs ∙ sym (ap (evaluated p input cells)
                  is);
              does = λ w. ap (λ (h : Stmt-F Stmt). effect_by p h w) outs ∙ sym (ap (λ (h : Stmt-F Stmt). effect_by p h w) is);
            })
            (lean_alone p plan m s x rest plain.0 ∙ ap (λ (xs : List Stmt). xs ++ leaned p plan m s rest) left) lefts
            (λ z. ap (λ (h : Stmt-F Stmt). followed y (leaned p plan m s rest) h z) outs ∙ ap (λ (xs : List Stmt). xs ++ leaned p plan m s rest)
            (sym (leaned_choose z a b))
            ∙ sym (lean_join p plan m s (choose_left z c d) rest) ∙ ap (λ (h : Stmt-F Stmt). leaned p plan m s (followed x rest h z)) (sym is))
        | inr q ↦
            let left : lean p plan m s x ≡ [] = lean_is ∙ ap (λ (k : Bool). kept_when k y) q in
            let both = or_parts (is_kept_site p plan s site.0) (has_some p plan m s (leaned p plan m s a) (leaned p plan m s b)) q in
            let none = or_parts (not (is_nil (leaned p plan m s a))) (not (is_nil (leaned p plan m s b))) both.1 in
            gone plain (r ∙ ap (λ (xs : List Stmt). not (is_nil xs)) left)
            (subst Gone (sym is) (record { other = both.0; undone = refl; mute = λ z f. absurd f; inner = λ z f. f }))
            (lean_alone p plan m s x rest plain.0 ∙ ap (λ (xs : List Stmt). xs ++ leaned p plan m s rest) left) lefts
            (λ z. ap (λ (h : Stmt-F Stmt). leaned p plan m s (followed x rest h z)) is ∙ lean_join p plan m s (choose_left z c d) rest
            ∙ ap (λ (xs : List Stmt). xs ++ leaned p plan m s rest) (leaned_choose z a b ∙ choose_same z _ _ [] (nil_is _ none.0) (nil_is _ none.1)))
      ]
        where
          y : Stmt
          y = tree.If site cond (leaned p plan m s a) (leaned p plan m s b)

          test : Bool
          test = is_kept_site p plan s site.0 || has_some p plan m s (leaned p plan m s a) (leaned p plan m s b)

          outs : out-Stmt y ≡ If site cond (leaned p plan m s a) (leaned p plan m s b)
          outs = outs-If site cond (leaned p plan m s a) (leaned p plan m s b)

          lean_is : lean p plan m s x ≡ kept_when test y
          lean_is = lean_out p plan m s x ∙ ap (lean_at p plan m s) is

          lefts : (z : ℤ) → Left p plan m s read (followed x rest (out-Stmt x) z)
          lefts z = subst (λ (h : Stmt-F Stmt). Left p plan m s read (followed x rest h z)) (sym is) (left_join p plan m s (choose_left z c d) t)

      while_headed : (a : List Stmt) → out-Stmt x ≡ While site cond a → Left p plan m s read a → Headed x rest
      while_headed a is c = elim (cases_Bool test) [
        | inl q ↦
            let left : lean p plan m s x ≡ y ∷ [] = lean_is ∙ ap (λ (k : Bool). kept_when k y) q in
            let whole_is : leaned p plan m s (x ∷ rest) ≡ y ∷ leaned p plan m s rest = lean_alone p plan m s x rest plain.0
            ∙ ap (λ (xs : List Stmt). xs ++ leaned p plan m s rest) left in
            stays plain (r ∙ ap (λ (xs : List Stmt). not (is_nil xs)) left) y
            (record {
              site = ap site_of outs ∙ sym (ap site_of is);
              evaluates = λ cells. ap (evaluated p input cells) outs ∙ sym (ap (evaluated p input cells)
                  is);
              does = λ w. ap (λ (h : Stmt-F Stmt). effect_by p h w) outs ∙ sym (ap (λ (h : Stmt-F Stmt). effect_by p h w) is);
            })
            whole_is lefts
            (λ z. ap (λ (h : Stmt-F Stmt). followed y (leaned p plan m s rest) h z) outs
            ∙ ap (λ (xs : List Stmt). choose z (leaned p plan m s a ++ xs) (leaned p plan m s rest)) (sym whole_is)
            ∙ ap (λ (xs : List Stmt). choose z xs (leaned p plan m s rest)) (sym (lean_join p plan m s c (x ∷ rest)))
            ∙ sym (leaned_choose z (a ++ x ∷ rest) rest) ∙ ap (λ (h : Stmt-F Stmt). leaned p plan m s (followed x rest h z)) (sym is))
        | inr q ↦
            let left : lean p plan m s x ≡ [] = lean_is ∙ ap (λ (k : Bool). kept_when k y) q in
            let both = or_parts (is_kept_site p plan s site.0) (has_some p plan m s (leaned p plan m s a) []) q in
            let none = or_parts (not (is_nil (leaned p plan m s a))) false both.1 in
            let whole_is : leaned p plan m s (x ∷ rest) ≡ leaned p plan m s rest = lean_alone p plan m s x rest plain.0
            ∙ ap (λ (xs : List Stmt). xs ++ leaned p plan m s rest) left in
            gone plain (r ∙ ap (λ (xs : List Stmt). not (is_nil xs)) left)
            (subst Gone (sym is) (record { other = both.0; undone = refl; mute = λ z f. absurd f; inner = λ z f. f }))
            whole_is lefts
            (λ z. ap (λ (h : Stmt-F Stmt). leaned p plan m s (followed x rest h z)) is ∙ leaned_choose z (a ++ x ∷ rest) rest
            ∙ choose_same z _ _ (leaned p plan m s rest) (lean_join p plan m s c (x ∷ rest) ∙ ap (λ (xs : List Stmt). xs ++ leaned p plan m s (x ∷ rest))
            (nil_is _ none.0) ∙ whole_is) refl)
      ]
        where
          y : Stmt
          y = tree.While site cond (leaned p plan m s a)

          test : Bool
          test = is_kept_site p plan s site.0 || has_some p plan m s (leaned p plan m s a) []

          outs : out-Stmt y ≡ While site cond (leaned p plan m s a)
          outs = outs-While site cond (leaned p plan m s a)

          lean_is : lean p plan m s x ≡ kept_when test y
          lean_is = lean_out p plan m s x ∙ ap (lean_at p plan m s) is

          lefts : (z : ℤ) → Left p plan m s read (followed x rest (out-Stmt x) z)
          lefts z = subst (λ (h : Stmt-F Stmt). Left p plan m s read (followed x rest h z)) (sym is)
              (choose_left z (left_join p plan m s c (loop plain is r c t)) t)

    pub headed : Marked p plan m input → (x : Stmt) (rest : List Stmt) → Left p plan m s read (x ∷ rest) → Headed x rest
    headed marked x rest (leaf plain l r t) =
        leaf_headed x rest plain l r (text_left m p plan input marked (left_text p plan m s t)) (text_left m p plan input marked (lean_texts p plan m s t)) t
    headed marked x rest (choice {a = a} {b = b} {site = site} {cond = cond} plain is r c d t) = if_headed x rest plain r t site cond a b is c d
    headed marked x rest (loop {a = a} {site = site} {cond = cond} plain is r c t) = while_headed x rest plain r t site cond a is c
    headed marked x rest (block {b = b} {rest = more} at is r t) = whole b more at is r t
