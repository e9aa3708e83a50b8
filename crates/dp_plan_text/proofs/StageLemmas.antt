-- The sites of a line, word by word; the stage of a site, line by line; neighbours that pass a test, as neighbouring stages.
use Rattle.std.proofs.Common.{◌≡◌, refl, sym, ◌∙◌, ap, arith, ℕ, suc, ◌+◌, ◌<◌, ◌≤◌, if◌then◌else◌, true, false, List, ◌∷◌, length, drop, get_or, add-one}
use Rattle.std.proofs.Common.{drop-cons, length-drop, None, Bool, Option, Some, ◌++◌}
use Rattle.dp_plan.specs.Written.{has, stage_from}
use Rattle.dp_plan.specs.declared.WrittenStage.{WrittenStage}
use Rattle.dp_plan.specs.Rules.{second_neighbour, least_site_in}

module _ (lines : List WrittenStage) (i site whole : ℕ) (line : WrittenStage) (lt : i < length lines) (is : line ≡ get_or lines i line)
    (so_far : stage_from (i + 1) (drop i lines) site ≡ whole) where
  next_line : drop i lines ≡ line ∷ drop (i + 1) lines
  next_line = rw add-one (drop-cons lines i line lt ∙ ap (λ (l : WrittenStage). l ∷ drop (suc i) lines) (sym is))

  pub stage_here : has site line.sites ≡ true → i + 1 ≡ whole
  stage_here e =
      sym (ap (λ l. stage_from (i + 1) l site) next_line ∙ ap (λ b. if b then i + 1 else stage_from (suc (i + 1)) (drop (i + 1) lines) site) e) ∙ so_far

  pub stage_later : has site line.sites ≡ false → stage_from (i + 1 + 1) (drop (i + 1) lines) site ≡ whole
  stage_later e =
      let plus : i + 1 + 1 ≡ suc (i + 1) = omega arith in
      ap (λ n. stage_from n (drop (i + 1) lines) site) plus
      ∙ sym (ap (λ l. stage_from (i + 1) l site) next_line ∙ ap (λ b. if b then i + 1 else stage_from (suc (i + 1)) (drop (i + 1) lines) site) e) ∙ so_far

alone : (lines : List WrittenStage) → length lines ≤ 1 → second_neighbour lines ≡ None
alone (line ∷ next ∷ rest) h = absurd (omega (arith, h))
alone _ h = refl

pub no_neighbours : (lines : List WrittenStage) (k i : ℕ) → k + 1 ≡ i → length lines ≤ i → second_neighbour (drop k lines) ≡ second_neighbour lines
    → None ≡ least_site_in (second_neighbour lines)
no_neighbours lines k i next le so_far = ap least_site_in (sym (alone (drop k lines) (omega (arith, length-drop k lines, next, le))) ∙ so_far)

module _ {X : Type 0} (test : X → X → Bool) where
  -- the later one of the first two
  abbrev pub first_pair : List X → Option X
  first_pair (x ∷ y ∷ rest) = if test x y then Some y else first_pair (y ∷ rest)
  first_pair _ = None

  short : (xs : List X) → length xs ≤ 1 → first_pair xs ≡ None
  short (x ∷ y ∷ rest) h = absurd (omega (arith, h))
  short _ h = refl

  module _ (xs : List X) (k : ℕ) (so_far : first_pair (drop k xs) ≡ first_pair xs) where
    pub no_pair : length xs ≤ k + 1 → None ≡ first_pair xs
    no_pair le = sym (short (drop k xs) (omega (arith, length-drop k xs))) ∙ so_far

    module _ (x y : X) (lt : k + 1 < length xs) (first : x ≡ get_or xs k x) (second : y ≡ get_or xs (k + 1) y) where
      two : drop k xs ≡ x ∷ y ∷ drop (k + 2) xs
      two =
          let later : drop (k + 1) xs ≡ y ∷ drop (suc (k + 1)) xs = drop-cons xs (k + 1) y lt ∙ ap (λ (e : X). e ∷ drop (suc (k + 1)) xs) (sym second) in
          let plus : suc k ≡ k + 1 = omega arith in let more : suc (k + 1) ≡ k + 2 = omega arith in
          drop-cons xs k x (omega (arith, lt)) ∙ ap (λ (e : X). e ∷ drop (suc k) xs) (sym first) ∙ ap (λ n. x ∷ drop n xs) plus ∙ ap (λ l. x ∷ l) later
          ∙ ap (λ n. x ∷ y ∷ drop n xs) more

      pub pair_here : test x y ≡ true → Some y ≡ first_pair xs
      pair_here e = sym (ap first_pair two ∙ ap (λ b. if b then Some y else first_pair (y ∷ drop (k + 2) xs)) e) ∙ so_far

-- earlier sites, before what the later words give
abbrev pub behind_sites : List ℕ → Option (List ℕ) → Option (List ℕ)
behind_sites earlier None = None
behind_sites earlier (Some sites) = Some (earlier ++ sites)

-- more than the length of what follows a space, and 0 where nothing follows
abbrev pub length_behind : Option (List ℕ) → ℕ
length_behind None = 0
length_behind (Some text) = suc (length text)
