-- Where a shelf tells what it holds, there is one answer only.
use Rattle.std.proofs.Common.{◌≡◌, refl, sym, ap, ap₂, ◌∙◌, subst, ℕ, List, ℤ, Option, Some, Result, Ok, Err}
use Rattle.dp_tree.specs.declared.Program.{Program}
use Rattle.dp_plan.specs.declared.Plan.{Plan}
use Rattle.dp_profile.specs.declared.Profile.{Profile}
use Rattle.dp_calls.specs.Expand.{expand}
use Rattle.dp_words.specs.Words.{Asked, Asks, AsksNothing, ToRun, ToPlan, ToExplain, ToList, ToTree, ToProfile, ToMake, ToLog, ToAudit, ToSave, ToResume}
use Rattle.dp_words.specs.Words.{ToBatch}
use Rattle.dp_refusal.specs.declared.refusal.Refusal.{Refusal}
use Rattle.dp_refusal.specs.declared.refusal.Refusal.TheVariants.{Words}
use Rattle.dp_refusal.specs.Refusal.{refusal_line, refusal_status}
use Rattle.dp_load.specs.Last.{LastText}
use Rattle.dp_load.specs.Order.{ReadsAll, given_by}
use Rattle.dp_load.proofs.definite.TextsOnce.{all_once, counts_once}
use Rattle.dp_explain.specs.Explanation.{IsExplanation}
use Rattle.dp_explain.proofs.ExplainedOnce.{explained_once}
use Rattle.dp_drive.specs.Answer.{Answer, BytesFor, Done, NotTaken, Refused, status_for}
use Rattle.dp_drive.proofs.definite.AsksOnce.{asks_once}

-- a status and the bytes
abbrev refused : Refusal → ℕ × List ℕ
refused refusal = (refusal_status refusal, refusal_line refusal)

abbrev Read : Type 0
Read = Result ((((Program × List ℤ) × List (List ℤ)) × List Plan) × LastText) Refusal

module _ (held : List ℕ → Option (List ℕ)) where
  -- the bytes of what is done
  bytes_once : (asked : Asked) (read : (((Program × List ℤ) × List (List ℤ)) × List Plan) × LastText) (a b : List ℕ) → ReadsAll (Some held) asked (Ok read) →
      BytesFor (Some held) asked (given_by read) a → BytesFor (Some held) asked (given_by read) b → a ≡ b
  bytes_once (ToRun run) read a b texts x y = x ∙ sym y
  bytes_once (ToPlan planning) read a b texts x y = x ∙ sym y
  bytes_once (ToExplain planning) read a b texts x y =
      let counts : x.profile ≡ y.profile = counts_once held (ToExplain planning) planning.options read planning.profile x.profile y.profile texts
      x.counts y.counts in
      explained_once (expand read.0.0.0.0) y.profile planning.options.rate read.0.1 a b
      (subst (λ (o : Option Profile). IsExplanation (expand read.0.0.0.0) o planning.options.rate read.0.1 a) counts x.text) y.text
  bytes_once (ToList program) read a b texts x y = x ∙ sym y
  bytes_once (ToTree program) read a b texts x y = x ∙ sym y
  bytes_once (ToProfile profiling) read a b texts x y = x ∙ sym y
  bytes_once (ToMake made) read a b texts x y = x ∙ sym y
  bytes_once (ToLog run) read a b texts x y = x ∙ sym y
  bytes_once (ToAudit run log) read a b texts x y = x ∙ sym y
  bytes_once (ToSave run place) read a b texts x y = x ∙ sym y
  bytes_once (ToResume run checkpoint) read a b texts x y = x ∙ sym y
  bytes_once (ToBatch run list) read a b texts x y = x ∙ sym y

  -- what is answered, by what the texts are read as
  abbrev IsGiven : Asked → Read → ℕ × List ℕ → Type 0
  IsGiven asked (Err refusal) answer = answer ≡ refused refusal
  IsGiven asked (Ok read) answer = (answer.0 ≡ status_for asked (given_by read)) × BytesFor (Some held) asked (given_by read) answer.1

  given_once : (asked : Asked) (read : Read) (a b : ℕ × List ℕ) → ReadsAll (Some held) asked read → IsGiven asked read a → IsGiven asked read b → a ≡ b
  given_once asked (Err refusal) a b texts x y = x ∙ sym y
  given_once asked (Ok read) a b texts x y =
      ap₂ (λ (status : ℕ) (bytes : List ℕ). (status, bytes)) (x.0 ∙ sym y.0) (bytes_once asked read a.1 b.1 texts x.1 y.1)

  data Way (words : List (List ℕ)) (answer : ℕ × List ℕ) : Type 0 where
    nothing : AsksNothing words → answer ≡ refused Words → Way words answer
    something : (asked : Asked) (read : Read) → Asks words asked → ReadsAll (Some held) asked read → IsGiven asked read answer → Way words answer

  way : (words : List (List ℕ)) {status : ℕ} {bytes : List ℕ} → Answer words (Some held) status bytes → Way words (status, bytes)
  way words (NotTaken none) = nothing none refl
  way words (Refused asked refusal asks texts) = something asked (Err refusal) asks texts refl
  way words (Done asked read bytes asks texts is) = something asked (Ok read) asks texts (refl, is)

  ways_once : (words : List (List ℕ)) {a b : ℕ × List ℕ} → Way words a → Way words b → a ≡ b
  ways_once words (nothing n e) (nothing m f) = e ∙ sym f
  ways_once words (nothing n e) (something asked read asks h f) = absurd (n asked asks)
  ways_once words (something asked read asks h e) (nothing m f) = absurd (m asked asks)
  ways_once words {a} {b} (something asked read asks h e) (something other more others k f) =
      let one : asked ≡ other = asks_once words asked other asks others in
      let here : ReadsAll (Some held) asked more = subst (λ (z : Asked). ReadsAll (Some held) z more) (sym one) k in
      let same : read ≡ more = all_once held asked read more h here in
      given_once asked read a b h e (subst (λ (r : Read). IsGiven asked r b) (sym same) (subst (λ (z : Asked). IsGiven z more b) (sym one) f))

  pub answers_once : {words : List (List ℕ)} {status other : ℕ} {bytes more : List ℕ} → Answer words (Some held) status bytes →
      Answer words (Some held) other more → (status ≡ other) × (bytes ≡ more)
  answers_once {words = words} a b = let same = ways_once words (way words a) (way words b) in
      (ap (λ (z : ℕ × List ℕ). z.0) same, ap (λ (z : ℕ × List ℕ). z.1) same)
