-- The lines of a region as its iterations come.
use Rattle.std.proofs.Common.{◌≡◌, refl, sym, ap, ◌∙◌, ℕ, zero, suc, ◌+◌, ◌-◌, ◌<◌, eq-eqb, ne_eqb, Bool, false, if◌then◌else◌, List, [], ◌++◌, append_assoc}
use Rattle.std.proofs.Common.{arith}
use Rattle.dp_tree.specs.declared.Program.{Program}
use Rattle.dp_tree.specs.Trace.{Run}
use Rattle.dp_tree.specs.Iteration.{begun_count, is_closing}
use Rattle.dp_plan.specs.declared.Plan.{Plan}
use Rattle.dp_meaning.specs.declared.ends.IterEnd.{IterEnd}
use Rattle.dp_meaning.specs.declared.ends.IterEnd.TheVariants as iter_end
use Rattle.dp_log.specs.LogText.{closed_line, iteration_bytes, iterations_bytes, region_bytes, region_line, was_left}
use Rattle.dp_audit.specs.Groups.{is_left}
use Rattle.dp_logging.specs.Lines.{first_lines, last_lines, left_lines, rest_lines}

module _ (p : Program) (plan : Plan) (run : Run) where
  abbrev begun : ℕ
  begun = begun_count run plan.region

  abbrev closing : List ℕ
  closing = if was_left run plan.region then closed_line plan.region else []

  rest_next : (n : ℕ) → n < begun_count run plan.region → rest_lines p plan run n ≡ iteration_bytes p plan run n ++ rest_lines p plan run (suc n)
  rest_next n h =
      let size : begun - n ≡ suc (begun - suc n) = omega (arith, h) in
      let next : n + 1 ≡ suc n = omega arith in
      ap (λ (m : ℕ). iterations_bytes p plan run n m ++ closing) size
      ∙ append_assoc (iteration_bytes p plan run n) (iterations_bytes p plan run (n + 1) (begun - suc n)) closing
      ∙ ap (λ (k : ℕ). iteration_bytes p plan run n ++ (iterations_bytes p plan run k (begun - suc n) ++ closing)) next

  first_left : 0 < begun_count run plan.region → region_bytes p plan run ≡ region_line plan.region ++ rest_lines p plan run 0
  first_left h =
      let all : begun ≡ begun - 0 = omega arith in
      ap (λ (b : Bool). if◌then◌else◌ {A = List ℕ} b [] (region_line plan.region ++ iterations_bytes p plan run 0 begun ++ closing))
      (ne_eqb begun 0 (λ e. omega (arith, e, h)))
      ∙ append_assoc (region_line plan.region) (iterations_bytes p plan run 0 begun) closing
      ∙ ap (λ (m : ℕ). region_line plan.region ++ (iterations_bytes p plan run 0 m ++ closing)) all

  -- the next iteration's lines come first, with the region's first line where it is the first one
  pub left_next : (n : ℕ) → n < begun_count run plan.region → left_lines p plan run n ≡ first_lines plan.region n
      ++ (iteration_bytes p plan run n ++ rest_lines p plan run (suc n))
  left_next zero h = first_left h ∙ ap (λ (x : List ℕ). region_line plan.region ++ x) (rest_next 0 h)
  left_next (suc n) h =
      rest_next (suc n) h ∙ ap (λ (b : Bool). (if◌then◌else◌ {A = List ℕ} b (region_line plan.region) [])
      ++ (iteration_bytes p plan run (suc n) ++ rest_lines p plan run (suc (suc n)))) (sym (ne_eqb (suc n) 0 (λ e. omega (arith, e))))

  -- no lines are left where no iteration is
  pub none_left : (n : ℕ) → begun_count run plan.region ≡ n → ((i : ℕ) → n ≡ suc i → is_closing run plan.region i ≡ false) → left_lines p plan run n ≡ []
  none_left zero e going =
      ap (λ (b : Bool). if◌then◌else◌ {A = List ℕ} b [] (region_line plan.region ++ iterations_bytes p plan run 0 begun ++ closing)) (eq-eqb begun 0 e)
  none_left (suc n) e going =
      let none : begun - suc n ≡ 0 = omega (arith, e) in
      let last : begun - 1 ≡ n = omega (arith, e) in
      ap (λ (m : ℕ). iterations_bytes p plan run (suc n) m ++ closing) none
      ∙ ap (λ (b : Bool). if◌then◌else◌ {A = List ℕ} b (closed_line plan.region) []) (ap (is_closing run plan.region) last ∙ going n refl)

  -- the region's last line is left behind the last iteration, where it left the region
  pub last_left : (n : ℕ) (e : IterEnd) → is_closing run plan.region n ≡ is_left e → begun_count run plan.region ≡ suc n →
      rest_lines p plan run (suc n) ≡ last_lines plan.region e
  last_left n e closes all =
      let none : begun - suc n ≡ 0 = omega (arith, all) in
      let last : begun - 1 ≡ n = omega (arith, all) in
      ap (λ (m : ℕ). iterations_bytes p plan run (suc n) m ++ closing) none
      ∙ ap (λ (b : Bool). if◌then◌else◌ {A = List ℕ} b (closed_line plan.region) []) (ap (is_closing run plan.region) last ∙ closes) ∙ by e
    where
      by : (x : IterEnd) → (if◌then◌else◌ {A = List ℕ} (is_left x) (closed_line plan.region) []) ≡ last_lines plan.region x
      by iter_end.Next = refl
      by iter_end.Closed = refl
      by (iter_end.Fault fault) = refl
      by iter_end.Fuel = refl
      by iter_end.Going = refl
