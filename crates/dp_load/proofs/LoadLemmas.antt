-- What texts are read as.
use Rattle.std.proofs.Common.{◌≡◌, refl, sym, ap, ◌∙◌, rules, arith, ℕ, ◌+◌, ◌<◌, ◌≤◌, nat_lt, Bool, true, false, if◌then◌else◌, List, length, Option, Some}
use Rattle.std.proofs.Common.{None, Result, Ok, Err, IfSome, replicate}
use Rattle.std.proofs.lemmas.List.{length-replicate}
use Rattle.std.specs.Option.{IsSomeAnd}
use Rattle.dp_base.specs.declared.Quantity.{Quantity}
use Rattle.dp_base.specs.declared.Quantity.TheVariants.{InputBytes, ProgramBytes}
use Rattle.dp_tree.specs.declared.Program.{Program}
use Rattle.dp_tree.specs.declared.raw.RawProgram.{RawProgram}
use Rattle.dp_lex.specs.Tokens.{RefusedAt}
use Rattle.dp_parse.specs.Parses.{ParsesAs, NestsTooDeep, DerivesNothing}
use Rattle.dp_check.specs.declared.fail.CheckFail.{CheckFail}
use Rattle.dp_check.specs.CheckAnswer.{check_answer}
use Rattle.dp_inline.specs.declared.fail.InlineFail.{InlineFail}
use Rattle.dp_inline.specs.InlineAnswer.{inline_answer}
use Rattle.dp_inline.proofs.MeaningLemmas.{expands}
use Rattle.dp_edge.specs.Input.{numbers_of}
use Rattle.dp_refusal.specs.declared.refusal.Refusal.{Refusal}
use Rattle.dp_refusal.specs.declared.refusal.Refusal.TheVariants.{Byte, Syntax, Limit}
use Rattle.dp_load.specs.Program.{Reads, ReadsAs, TooLong, NoToken, TooDeep, NoTree, Checked, sized, checked_read, expanded, refusal_of}
use Rattle.dp_load.specs.Inputs.{or_refused}
use Rattle.dp_load.specs.Roles.{Contents, HoldsText, ReadsInput}
use Rattle.dp_load.specs.Loading.{LoadsProgram}
use Rattle.dp_load.proofs.accepted.Lengths.{lengths}
use Rattle.dp_load.proofs.accepted.Exits.{exits}
use Rattle.dp_base.specs.declared.Quantity.TheVariants.{PlanBytes, ProfileBytes}
use Rattle.dp_profile.specs.declared.Profile.{Profile}
use Rattle.dp_profile_text.specs.ProfileText.{ProfileText}
use Rattle.dp_profile_text.specs.Refused.{IsRefusedProfile as IsRefusedProfile}
use Rattle.dp_plan.specs.declared.Plan.{Plan}
use Rattle.dp_plan_text.specs.Refused.{IsRefusedPlans, IsBroken, StandsFor}
use Rattle.dp_refusal.specs.declared.refusal.Refusal.TheVariants.{PlanLine, PlanRule, ProfileLine}
use Rattle.dp_load.specs.Plans.{ReadsPlans, TooLong as PlansTooLong, NotPlans, Broken, Taken}
use Rattle.dp_load.specs.Profiles.{ReadsProfile, TooLong as ProfileTooLong, NoProfile, Taken as TakenProfile}
use Rattle.dp_load.specs.Loading.{LoadsPlans, LoadsProfile}

pub no_token : (text : List ℕ) (place : ℕ) → length text ≤ 65536 → RefusedAt text place → Reads text (Err (Byte place))
no_token text place short h = NoToken place short h

pub too_deep : (text : List ℕ) (quantity : Quantity) (count : ℕ) → length text ≤ 65536 → NestsTooDeep text quantity count →
    Reads text (Err (Limit quantity count))
too_deep text quantity count short h = TooDeep quantity count short h

pub no_tree : (text : List ℕ) (token : ℕ) → length text ≤ 65536 → DerivesNothing text token → Reads text (Err (Syntax token))
no_tree text token short h = NoTree token short h

pub ruleset unread_texts = (no_token, too_deep, no_tree)

pub read : (text : List ℕ) (raw : RawProgram) (read : Result Program Refusal) → length text ≤ 65536 → ParsesAs text raw →
    read ≡ expanded (checked_read (check_answer raw)) → ReadsAs text read
read text raw o short h e = record { source = checked_read (check_answer raw); reads = Checked raw short h; is = e }

pub unread : (text : List ℕ) (refusal : Refusal) → Reads text (Err refusal) → ReadsAs text (Err refusal)
unread text refusal h = record { source = Err refusal; reads = h; is = refl }

pub ruleset checked_texts = (read, unread, lengths, exits)

pub offending : (raw : RawProgram) (fail : CheckFail) (refusal : Refusal) → check_answer raw ≡ Err fail → refusal ≡ refusal_of fail →
    Err refusal ≡ expanded (checked_read (check_answer raw))
offending raw fail refusal is e = ap Err e ∙ sym (ap (λ (v : Result Program CheckFail). expanded (checked_read v)) is)

pub expansion : (p q : Program) → inline_answer p ≡ Ok q → Ok q ≡ expanded (sized p (inline_answer p))
expansion p q h = ap Ok (expands p q h) ∙ sym (ap (λ (v : Result Program InlineFail). expanded (sized p v)) h)

pub ruleset expansions = (expansion)

-- a text that the shelf holds, so far as it tells, and that is longer than the room
abbrev pub LongText : Contents → List ℕ → ℕ → Type 0
LongText contents name most = (text : List ℕ) × (HoldsText contents name text × (most < length text))

long_held : (held : List ℕ → Option (List ℕ)) (name : List ℕ) (most : ℕ) (at : Option (List ℕ)) → held name ≡ at →
    IsSomeAnd at (λ content. most < length content) → LongText (Some held) name most
long_held held name most None e h = absurd h
long_held held name most (Some text) e h = (text, (e, h))

pub long_text : (contents : Contents) (name : List ℕ) (most : ℕ) → IfSome contents (λ held. IsSomeAnd (held name) (λ content. most < length content)) →
    LongText contents name most
long_text None name most h = let zero : ℕ = 0 in (replicate (most + 1) zero, (tt, omega (arith, length-replicate (most + 1) zero)))
long_text (Some held) name most h = long_held held name most (held name) refl h

long_input_of : (text : List ℕ) (b : Bool) → b ≡ true → (if b then Err (Limit InputBytes 2097153) else or_refused (numbers_of text)) ≡ Err
    (Limit InputBytes 2097153)
long_input_of text true e = refl
long_input_of text false e = absurd (cc e)

-- an input that is longer than its limit
pub long_input : (contents : Contents) (name : List ℕ) → IfSome contents (λ held. IsSomeAnd (held name) (λ content. 2097152 < length content)) →
    ReadsInput contents name (Err (Limit InputBytes 2097153))
long_input contents name h =
    let found = long_text contents name 2097152 h in
    let long : nat_lt 2097152 (length found.0) ≡ true = search (rules, found.1.1) in
    record { text = found.0; held = found.1.0; reads = sym (long_input_of found.0 (nat_lt 2097152 (length found.0)) long) }

-- a program's text that is longer than its limit
pub long_program : (contents : Contents) (name : List ℕ) → IfSome contents (λ held. IsSomeAnd (held name) (λ content. 65536 < length content)) →
    LoadsProgram contents name (Err (Limit ProgramBytes 65537))
long_program contents name h =
    let found = long_text contents name 65536 h in
    record { source = Err (Limit ProgramBytes 65537); reads = record { text = found.0; held = found.1.0; reads = TooLong found.1.1 }; is = refl }

-- a text of plans that is longer than its limit
pub long_plans : (contents : Contents) (p : Program) (name : List ℕ) → IfSome contents (λ held. IsSomeAnd (held name) (λ content. 1048576 < length content)) →
    LoadsPlans contents p name (Err (Limit PlanBytes 1048577))
long_plans contents p name h =
    let found = long_text contents name 1048576 h in
    record { text = found.0; held = found.1.0; reads = PlansTooLong found.1.1 }

-- a profile's text that is longer than its limit
pub long_profile : (contents : Contents) (p : Program) (name : List ℕ) → IfSome contents (λ held. IsSomeAnd (held name) (λ content. 67108864 < length content))
    → LoadsProfile contents p name (Err (Limit ProfileBytes 67108865))
long_profile contents p name h =
    let found = long_text contents name 67108864 h in
    record { text = found.0; held = found.1.0; reads = ProfileTooLong found.1.1 }

pub ruleset long_texts = (long_input, long_program, long_plans, long_profile)

-- what a text of plans is read as
pub plans_taken : (p : Program) (text : List ℕ) (plans : List Plan) → length text ≤ 1048576 → StandsFor p text plans → ReadsPlans p text (Ok plans)
plans_taken p text plans short h = Taken plans short h

pub no_plans : (p : Program) (text : List ℕ) (line : ℕ) → length text ≤ 1048576 → IsRefusedPlans p text line → ReadsPlans p text (Err (PlanLine line))
no_plans p text line short h = NotPlans line short h

pub broken_plans : (p : Program) (text : List ℕ) (rule site : ℕ) → length text ≤ 1048576 → IsBroken p text (Some (record { rule = rule; site = site })) →
    ReadsPlans p text (Err (PlanRule rule site))
broken_plans p text rule site short h = Broken rule site short h

pub ruleset plan_texts = (plans_taken, no_plans, broken_plans)

-- what a profile's text is read as
pub profile_taken : (p : Program) (text : List ℕ) (profile : Profile) → length text ≤ 67108864 → ProfileText p text profile → ReadsProfile p text (Ok profile)
profile_taken p text profile short h = TakenProfile profile short h

pub no_profile : (p : Program) (text : List ℕ) (line : ℕ) → length text ≤ 67108864 → IsRefusedProfile p text line → ReadsProfile p text (Err (ProfileLine line))
no_profile p text line short h = NoProfile line short h

pub ruleset profile_texts = (profile_taken, no_profile)
