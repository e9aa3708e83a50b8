-- The numbers at the sites of statements, appended one statement after the other.
use Rattle.dp_semantics.proofs.Names.{◌≡◌, refl, sym, ap, ◌∙◌, append_assoc, append-nil, ℕ, suc, ◌+◌, ◌<◌, if◌then◌else◌, Bool, true, false, List, [], ◌∷◌}
use Rattle.dp_semantics.proofs.Names.{◌++◌, length, drop, get_or, filter, flat_map, Option, Some, None, Stmt, Program, Plan, is_region_at}
use Rattle.std.proofs.Common.{add-one, drop-cons, slice_set}
use Rattle.dp_tree.specs.Statements.{asked}
use Rattle.dp_plan.specs.Walks.{is_region_of}
use Rattle.dp_room.proofs.ListLemmas.{next_of}
use Rattle.dp_net.specs.BlockText.{own_stage}
use Rattle.dp_lean_code.specs.steps.Runs.{none_at, quiet_in, inner_counts, head_counts, count_in}
unfoldable use Rattle.dp_lean_code.specs.steps.Runs.{list_counts, region_counts}

module _ (p : Program) (plan : Plan) (homes : List (Option ℕ)) where
  -- two pieces, one behind the other
  pub two_parts : (old one two a b : List ℕ) → one ≡ old ++ a → two ≡ one ++ b → two ≡ old ++ (a ++ b)
  two_parts old one two a b e f = f ∙ ap (λ l. l ++ b) e ∙ append_assoc old a b

  module _ (all : List Stmt) (i : ℕ) (x : Stmt) (h : i < length all) (is : x ≡ get_or all i x) (before : Option ℕ) (out whole : List ℕ)
      (kept : out ++ list_counts p plan homes before (drop i all) ≡ whole) where
    abbrev rest : List Stmt
    rest = drop (i + 1) all

    cons : drop i all ≡ x ∷ drop (i + 1) all
    cons = rw add-one (drop-cons all i x h ∙ ap (λ (y : Stmt). y ∷ drop (suc i) all) (sym is))

    by_quiet : (c : Bool) → quiet_in p plan (own_stage p plan x) x ≡ c →
        out ++ (head_counts p plan homes c before x rest (inner_counts p plan homes x) ++ list_counts p plan homes (if c then Some (own_stage p plan x)
        else None) rest) ≡ whole
    unfolding list_counts
    by_quiet c q =
        ap (λ (d : Bool). out ++ (head_counts p plan homes d before x rest (inner_counts p plan homes x) ++ list_counts p plan homes
        (if d then Some (own_stage p plan x) else None) rest)) (sym q)
        ∙ ap (λ xs. out ++ list_counts p plan homes before xs) (sym cons) ∙ kept

    -- a quiet statement more
    pub quiet_next : (t count : ℕ) (new : List ℕ) → t ≡ own_stage p plan x → quiet_in p plan t x ≡ true → count ≡ count_in p plan homes before t (drop i all) →
        new ≡ out ++ slice_set (asked none_at x) 0 count → new ++ list_counts p plan homes (Some t) rest ≡ whole
    quiet_next t count new stage q counted new_is =
        let more = list_counts p plan homes (Some t) rest in
        let at = count_in p plan homes before (own_stage p plan x) (x ∷ rest) in
        let same : count ≡ count_in p plan homes before (own_stage p plan x) (x ∷ rest) =
        counted ∙ ap (λ n. count_in p plan homes before n (drop i all)) stage ∙ ap (λ xs. count_in p plan homes before (own_stage p plan x) xs) cons in
        ap (λ ns. ns ++ more) new_is ∙ append_assoc out (slice_set (asked none_at x) 0 count) more
        ∙ ap (λ n. out ++ (slice_set (asked none_at x) 0 n ++ more)) same
        ∙ ap (λ n. out ++ (slice_set (asked none_at x) 0 at ++ list_counts p plan homes (Some n) rest)) stage
        ∙ by_quiet true (ap (λ n. quiet_in p plan n x) (sym stage) ∙ q)

    -- .. or another one
    pub plain_next : (t : ℕ) (one new : List ℕ) → t ≡ own_stage p plan x → quiet_in p plan t x ≡ false → one ≡ out ++ none_at x →
        new ≡ one ++ inner_counts p plan homes x →
        new ++ list_counts p plan homes None rest ≡ whole
    plain_next t one new stage q one_is new_is =
        let more = list_counts p plan homes None rest in
        ap (λ ns. ns ++ more) (two_parts out one new (none_at x) (inner_counts p plan homes x) one_is new_is)
        ∙ append_assoc out (none_at x ++ inner_counts p plan homes x) more ∙ by_quiet false (ap (λ n. quiet_in p plan n x) (sym stage) ∙ q)

  pub counts_done : (before : Option ℕ) (xs : List Stmt) (out whole : List ℕ) → out ++ list_counts p plan homes before xs ≡ whole → xs ≡ [] → out ≡ whole
  unfolding list_counts
  counts_done before xs out whole kept none = sym (append-nil out) ∙ ap (λ ys. out ++ list_counts p plan homes before ys) (sym none) ∙ kept

  -- ---- the plan's region among statements

  abbrev pub in_region : List Stmt → List ℕ
  in_region xs = flat_map (region_counts p plan homes) (filter (is_region_at plan.region) xs)

  region_case : (x : Stmt) (xs : List Stmt) (b : Bool) → is_region_at plan.region x ≡ b →
      in_region (x ∷ xs) ≡ (if b then region_counts p plan homes x ++ in_region xs else in_region xs)
  region_case x xs true e = rw e refl
  region_case x xs false e = rw e refl

  module _ (all : List Stmt) (i : ℕ) (x : Stmt) (h : i < length all) (is : x ≡ get_or all i x) (out whole : List ℕ)
      (kept : out ++ in_region (drop i all) ≡ whole) where
    pub region_next : (one new : List ℕ) → is_region_of plan.region x ≡ true → one ≡ out ++ none_at x → new ≡ one ++ inner_counts p plan homes x →
        new ++ in_region (drop (i + 1) all) ≡ whole
    unfolding is_region_of region_counts
    region_next one new e one_is new_is =
        ap (λ ns. ns ++ in_region (drop (i + 1) all)) (two_parts out one new (none_at x) (inner_counts p plan homes x) one_is new_is)
        ∙ append_assoc out (none_at x ++ inner_counts p plan homes x) (in_region (drop (i + 1) all))
        ∙ ap (λ ns. out ++ ns) (sym (ap in_region (next_of all i x h is) ∙ region_case x (drop (i + 1) all) true e)) ∙ kept

    pub region_past : is_region_of plan.region x ≡ false → out ++ in_region (drop (i + 1) all) ≡ whole
    unfolding is_region_of
    region_past e = ap (λ ns. out ++ ns) (sym (ap in_region (next_of all i x h is) ∙ region_case x (drop (i + 1) all) false e)) ∙ kept

  pub region_over : (xs : List Stmt) (out whole : List ℕ) → out ++ in_region xs ≡ whole → xs ≡ [] → out ≡ whole
  region_over xs out whole kept none = sym (append-nil out) ∙ ap (λ ys. out ++ in_region ys) (sym none) ∙ kept
