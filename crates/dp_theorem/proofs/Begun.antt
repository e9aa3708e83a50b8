-- A run that begins within `main` begins before the region, in an iteration, or beyond it.
use Rattle.dp_semantics.proofs.Names.{◌≡◌, ◌⊎◌, inl, inr, refl, sym, ap, ◌∙◌, append_assoc, true, List, [], ◌∷◌, ◌++◌, ℕ, list_all, list_all-append, and_parts}
use Rattle.dp_semantics.proofs.Names.{and_from, Stmt, Program, Config, StandsInMain, is_free}
use Rattle.dp_tree.specs.Numbering.{is_inner}
use Rattle.dp_semantics.proofs.Setting.{all_free}
use Rattle.dp_theorem.proofs.Regions.{inner_free}

module _ (r : ℕ) where
  free_plain_all : (xs : List Stmt) → list_all is_inner xs ≡ true → all_free r xs ≡ true
  free_plain_all [] w = refl
  free_plain_all (x ∷ xs) w = let both = and_parts (is_inner x) (list_all is_inner xs) w in
      and_from (is_free r x) (all_free r xs) (inner_free r x both.0) (free_plain_all xs both.1)

  free_join : (a b : List Stmt) → all_free r a ≡ true → all_free r b ≡ true → all_free r (a ++ b) ≡ true
  free_join a b h k = list_all-append (is_free r) a b ∙ and_from (all_free r a) (all_free r b) h k

  free_behind : (a b tail : List Stmt) → a ++ b ≡ tail → all_free r tail ≡ true → all_free r b ≡ true
  free_behind a b tail e h = (and_parts (all_free r a) (all_free r b) (sym (list_all-append (is_free r) a b) ∙ ap (all_free r) e ∙ h)).1

  -- what is left of statements among which the region stands once: those from before it on, or some behind it
  pub record Ahead (statement : Stmt) (tail rest : List Stmt) : Type 0 where
    pub between : List Stmt
    pub is : rest ≡ between ++ statement ∷ tail
    pub free : all_free r between ≡ true

  left_of : (statement : Stmt) (tail : List Stmt) → all_free r tail ≡ true → (before rest front : List Stmt) → before ++ rest ≡ front ++ statement ∷ tail →
      all_free r front ≡ true →
      Ahead statement tail rest ⊎ (all_free r rest ≡ true)
  left_of statement tail after [] rest front e w = inl (record { between = front; is = e; free = w })
  left_of statement tail after (x ∷ before) rest [] e w = let more : before ++ rest ≡ tail = cc in inr (free_behind before rest tail more after)
  left_of statement tail after (x ∷ before) rest (y ∷ front) e w =
      let more : before ++ rest ≡ front ++ statement ∷ tail = cc in
      left_of statement tail after before rest front more (and_parts (is_free r y) (all_free r front) w).1

  -- what such a configuration has to do: statements without the region before it, or none with the region
  pub reach : {p : Program} {c : Config} (statement : Stmt) (tail front : List Stmt) → p.main ≡ front ++ statement ∷ tail → all_free r front ≡ true →
      all_free r tail ≡ true → (s : StandsInMain p c) →
      Ahead statement tail (s.inner ++ s.behind) ⊎ (all_free r (s.inner ++ s.behind) ≡ true)
  reach statement tail front main before after s = by (left_of statement tail after s.before s.behind front (sym s.main_is ∙ main) before)
    where
      by : Ahead statement tail s.behind ⊎ (all_free r s.behind ≡ true) → Ahead statement tail (s.inner ++ s.behind) ⊎ (all_free r (s.inner ++ s.behind) ≡ true)
      by (inl q) = inl (record {
        between = s.inner ++ q.between;
        is = ap (λ (ys : List Stmt). s.inner ++ ys) q.is ∙ sym (append_assoc s.inner q.between (statement ∷ tail));
        free = free_join s.inner q.between (free_plain_all s.inner s.plain) q.free;
      })
      by (inr w) = inr (free_join s.inner s.behind (free_plain_all s.inner s.plain) w)
