-- The line that an audit names is the first that isn't the same in both texts.
use Rattle.std.proofs.Common.{◌≡◌, ◌≢◌, refl, sym, ◌∙◌, ap, arith, zero, ℕ, ◌+◌, ◌-◌, ◌<◌, suc, Bool, true, false, if◌then◌else◌, List, [], ◌∷◌, subst, ℤ, Some}
use Rattle.std.proofs.Common.{None, Result, Ok, IfOk, slice_get}
use Rattle.std.specs.Str.{bytes_eq}
use Rattle.std.proofs.lemmas.Slice.Eq.{bytes_eq-Decides}
use Rattle.dp_text.specs.Lines.{lines_of}
use Rattle.dp_auditor.specs.Answered.{Answers}
use Rattle.dp_auditor.specs.declared.AuditEnd.{AuditEnd}
use Rattle.dp_auditor.specs.declared.AuditEnd.TheVariants.{Same, Differs}
use Rattle.dp_log.specs.LogText.{log_bytes}
use Rattle.dp_plan.specs.declared.Plan.{Plan}
use Rattle.dp_room.specs.declared.NoMemory.{NoMemory as Wanting}
use Rattle.dp_run.specs.RunText.{source_run}
use Rattle.dp_tree.specs.declared.Program.{Program}
use Rattle.dp_drive.specs.Audit.{differ_from, first_difference}

same_lines : (n : ℕ) (lines : List (List ℕ)) → differ_from n lines lines ≡ None
same_lines n [] = refl
same_lines n (line ∷ rest) = rw ((bytes_eq-Decides line line).1 refl) (same_lines (n + 1) rest)

-- the lines in front are the same, and these differ
differ_at : (n k : ℕ) (lines others : List (List ℕ)) → ((j : ℕ) → j < k → slice_get lines j ≡ slice_get others j) → slice_get lines k ≢ slice_get others k →
    differ_from n lines others ≡ Some (n + k)
differ_at n k [] [] same differs = absurd (differs refl)
differ_at n zero [] (other ∷ more) same differs = ap Some (omega arith)
differ_at n (suc k) [] (other ∷ more) same differs = let e = same 0 (omega arith) in absurd (cc e)
differ_at n zero (line ∷ rest) [] same differs = ap Some (omega arith)
differ_at n (suc k) (line ∷ rest) [] same differs = let e = same 0 (omega arith) in absurd (cc e)
differ_at n zero (line ∷ rest) (other ∷ more) same differs = by (bytes_eq line other) refl
  where
    by : (b : Bool) → bytes_eq line other ≡ b → (if b then differ_from (n + 1) rest more else Some n) ≡ Some (n + 0)
    by true e = absurd (differs (ap Some ((bytes_eq-Decides line other).0 e)))
    by false e = ap Some (omega arith)
differ_at n (suc k) (line ∷ rest) (other ∷ more) same differs =
    let e : Some line ≡ Some other = same 0 (omega arith) in
    let one : line ≡ other = cc e in
    rw ((bytes_eq-Decides line other).1 one) (differ_at (n + 1) k rest more (λ j less. same (suc j) (omega (arith, less))) differs ∙ ap Some (omega arith))

pub same_as : (text log : List ℕ) → Answers text log Same → None ≡ first_difference text log
same_as text log h = rw h (sym (same_lines 1 (lines_of log)))

pub differs_as : (text log : List ℕ) (line : ℕ) → Answers text log (Differs line) → Some line ≡ first_difference text log
differs_as text log line h =
    let counted = h.counted in
    let whole : line ≡ 1 + (line - 1) = omega (arith, counted) in
    ap Some whole ∙ sym (differ_at 1 (line - 1) (lines_of text) (lines_of log) (λ j less. h.same j (omega (arith, less, counted))) h.differs)

-- what was answered of a list of plans, an input and a text that are lent
pub answered_at : (p : Program) (plans others : List Plan) (input numbers : List ℤ) (fuel : ℕ) (text other : List ℕ) (r : Result AuditEnd Wanting)
    (end : AuditEnd) → others ≡ plans → numbers ≡ input → other ≡ text → r ≡ Ok end →
    IfOk r (Answers other (log_bytes p others (source_run p numbers fuel))) → Answers text (log_bytes p plans (source_run p input fuel)) end
answered_at p plans others input numbers fuel text other r end e f t is h =
    let here : Answers other (log_bytes p others (source_run p numbers fuel)) end = rw is at h in
    subst (λ (x : List ℕ). Answers x (log_bytes p plans (source_run p input fuel)) end) t
    (subst (λ (ps : List Plan). Answers other (log_bytes p ps (source_run p input fuel)) end) e
    (subst (λ (zs : List ℤ). Answers other (log_bytes p others (source_run p zs fuel)) end) f here))
