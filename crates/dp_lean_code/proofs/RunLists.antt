-- Quiet statements and runs of them, found one statement after the other.
use Rattle.dp_semantics.proofs.Names.{◌≡◌, sym, ap, ◌∙◌, arith, ℕ, suc, ◌+◌, ◌<◌, ◌≤◌, ◌==◌, ◌&&◌, ◌||◌, if◌then◌else◌, Bool, true, false, List, [], ◌∷◌}
use Rattle.dp_semantics.proofs.Names.{length, drop, take, get_or, list_all, Option, Stmt, Program, Plan, first_cell}
use Rattle.std.proofs.Common.{add-one, drop-cons}
use Rattle.std.proofs.Math.ListN.{drop_of_length-le}
use Rattle.dp_tree.specs.Statements.{everywhere}
use Rattle.dp_lean_code.specs.steps.Runs.{is_home, joins, pays_in, count_in}
unfoldable use Rattle.dp_lean_code.specs.steps.Runs.{quiet_in, all_quiet_in, run_in, hides_from}
use Rattle.dp_lean_code.proofs.CountForms.{run_taken}

module _ (p : Program) (plan : Plan) (t : ℕ) where
  -- a run is no longer than what it is the front of
  run_short : (xs : List Stmt) → length (run_in p plan t xs) ≤ length xs
  unfolding run_in
  run_short [] = omega arith
  run_short (x ∷ xs) = by (quiet_in p plan t x) (run_short xs)
    where
      by : (c : Bool) → length (run_in p plan t xs) ≤ length xs → length (if c then x ∷ run_in p plan t xs else []) ≤ length (x ∷ xs)
      by true h = omega (arith, h)
      by false h = omega arith

  module _ (all : List Stmt) (i : ℕ) where
    module _ (x : Stmt) (h : i < length all) (is : x ≡ get_or all i x) where
      cons : drop i all ≡ x ∷ drop (i + 1) all
      cons = rw add-one (drop-cons all i x h ∙ ap (λ (y : Stmt). y ∷ drop (suc i) all) (sym is))

      all_next : all_quiet_in p plan t (drop i all) ≡ (quiet_in p plan t x && all_quiet_in p plan t (drop (i + 1) all))
      unfolding quiet_in all_quiet_in
      all_next = ap (λ xs. all_quiet_in p plan t xs) cons

      run_next : run_in p plan t (drop i all) ≡ (if quiet_in p plan t x then x ∷ run_in p plan t (drop (i + 1) all) else [])
      unfolding run_in
      run_next = ap (λ xs. run_in p plan t xs) cons

      module _ (kept : all_quiet_in p plan t (drop i all) ≡ all_quiet_in p plan t all) where
        -- one isn't quiet
        pub quiet_broken : quiet_in p plan t x ≡ false → false ≡ all_quiet_in p plan t all
        quiet_broken e = sym (ap (λ c. c && all_quiet_in p plan t (drop (i + 1) all)) e) ∙ sym all_next ∙ kept

        -- .. or is
        pub quiet_on : quiet_in p plan t x ≡ true → all_quiet_in p plan t (drop (i + 1) all) ≡ all_quiet_in p plan t all
        quiet_on e = sym (ap (λ c. c && all_quiet_in p plan t (drop (i + 1) all)) e) ∙ sym all_next ∙ kept

      module _ (kept : i + length (run_in p plan t (drop i all)) ≡ length (run_in p plan t all)) where
        -- the run ends in front of the statement
        pub run_broken : quiet_in p plan t x ≡ false → i ≡ length (run_in p plan t all)
        run_broken e =
            let none : run_in p plan t (drop i all) ≡ [] = run_next ∙ ap (λ (c : Bool). if c then x ∷ run_in p plan t (drop (i + 1) all) else []) e in
            let n = ap length none in omega (arith, n, kept)

        -- .. or goes on behind it
        pub run_on : quiet_in p plan t x ≡ true → i + 1 + length (run_in p plan t (drop (i + 1) all)) ≡ length (run_in p plan t all)
        run_on e =
            let more : run_in p plan t (drop i all) ≡ x ∷ run_in p plan t (drop (i + 1) all) = run_next
            ∙ ap (λ (c : Bool). if c then x ∷ run_in p plan t (drop (i + 1) all) else []) e in
            let n = ap length more in omega (arith, n, kept)

    pub quiet_all : all_quiet_in p plan t (drop i all) ≡ all_quiet_in p plan t all → length all ≤ i → true ≡ all_quiet_in p plan t all
    unfolding all_quiet_in
    quiet_all kept h = sym (ap (list_all (everywhere (Rattle.dp_lean_code.specs.steps.Runs.quiet_here p plan t))) (drop_of_length-le all h)) ∙ kept

    -- all are quiet
    pub run_over : i + length (run_in p plan t (drop i all)) ≡ length (run_in p plan t all) → length all ≤ i → length all ≡ length (run_in p plan t all)
    run_over kept h = let short = run_short all in omega (arith, short, kept, h)

  -- a variable whose cell is hidden
  module _ (c : ℕ) (homes : List (Option ℕ)) (i : ℕ) (kept : hides_from p plan t c i (drop i homes) ≡ hides_from p plan t c 0 homes) where
    module _ (d : Option ℕ) (h : i < length homes) where
      hides_next : hides_from p plan t c i (drop i homes) ≡ ((is_home t (get_or homes i d) && (first_cell p (record { 0 = i }) == c)) || hides_from p plan t c
          (i + 1) (drop (i + 1) homes))
      unfolding hides_from
      hides_next =
          let cons : drop i homes ≡ get_or homes i d ∷ drop (i + 1) homes = rw add-one (drop-cons homes i d h) in
          ap (λ (hs : List (Option ℕ)). hides_from p plan t c i hs) cons

      pub hides_found : is_home t (get_or homes i d) ≡ true → (first_cell p (record { 0 = i }) == c) ≡ true → true ≡ hides_from p plan t c 0 homes
      hides_found e f =
          sym (ap (λ b. (b && (first_cell p (record { 0 = i }) == c)) || hides_from p plan t c (i + 1) (drop (i + 1) homes)) e
          ∙ ap (λ b. b || hides_from p plan t c (i + 1) (drop (i + 1) homes)) f) ∙ sym hides_next ∙ kept

      pub hides_past : (is_home t (get_or homes i d) && (first_cell p (record { 0 = i }) == c)) ≡ false →
          hides_from p plan t c (i + 1) (drop (i + 1) homes) ≡ hides_from p plan t c 0 homes
      hides_past e = sym (ap (λ b. b || hides_from p plan t c (i + 1) (drop (i + 1) homes)) e) ∙ sym hides_next ∙ kept

    pub hides_over : length homes ≤ i → false ≡ hides_from p plan t c 0 homes
    unfolding hides_from
    hides_over h = sym (ap (λ hs. hides_from p plan t c i hs) (drop_of_length-le homes h)) ∙ kept

  -- the block in front
  module _ (homes : List (Option ℕ)) (before : Option ℕ) (all block : List Stmt) (length_of : ℕ) (joined pays : Bool) (joins_is : joined ≡ joins t before)
      (length_is : length_of ≡ length (run_in p plan t all))
      (block_is : block ≡ take length_of all) (pays_is : pays ≡ pays_in p plan homes t block) (apart : joined ≡ false) where
    paid : pays_in p plan homes t (run_in p plan t all) ≡ pays
    paid = sym (pays_is ∙ ap (λ xs. pays_in p plan homes t xs) (block_is ∙ ap (λ n. take n all) length_is ∙ run_taken p plan t all))

    counted : (if pays then length (run_in p plan t all) else 0) ≡ count_in p plan homes before t all
    counted = sym (ap (λ (c : Bool). if c then 0 else if pays_in p plan homes t (run_in p plan t all) then length (run_in p plan t all) else 0)
        (sym joins_is ∙ apart)
        ∙ ap (λ (c : Bool). if c then length (run_in p plan t all) else 0) paid)

    pub count_none : pays ≡ false → 0 ≡ count_in p plan homes before t all
    count_none e = sym (ap (λ (c : Bool). if c then length (run_in p plan t all) else 0) e) ∙ counted

    pub count_some : pays ≡ true → length_of ≡ count_in p plan homes before t all
    count_some e = length_is ∙ sym (ap (λ (c : Bool). if c then length (run_in p plan t all) else 0) e) ∙ counted
