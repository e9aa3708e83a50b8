-- A value that a parse took passed the parser of its argument.
use Rattle.std.proofs.Common.{◌≡◌, ◌∙◌, ◌<◌, ap, refl, sym, subst, arith, ℕ, zero, suc, Bool, true, false, List, [], ◌∷◌, length, map, Option, Some, None, inl}
use Rattle.std.proofs.Common.{inr, codes}
use Rattle.std.specs.Prelude.{option_map, slice_get}
use Rattle.std.specs.List.{All, slice_index_or, list_all}
use Rattle.std.specs.Str.{bytes_eq}
use Rattle.std.specs.Borrow.{Bor}
use Rattle.std.proofs.lemmas.Bool.{cases_lt, ne_eqb, not-true}
use Rattle.std.proofs.lemmas.Slice.Eq.{bytes_eq-Decides}
use Rattle.clap.proofs.CallerLemmas.{entry_by_id}
use Rattle.clap.proofs.WalkLemmas.{both}
use Rattle.clap.specs.Facts.{Entry, EntryPasses, ValuesPass, PassesArg, parser_of_value}
use Rattle.clap.specs.Built.{IsAuto}
use Rattle.clap.specs.Walk.{is_empty, is_simple_arg}
use Rattle.clap.specs.Words.{Accepts, IsParsedFrom, Rule, SameRules, Text, app_of, args_of, first_value, found_of, groups_of, matched_of, parser_of, rule_of}
use Rattle.clap.specs.declared.builder.arg.Arg.{Arg}
use Rattle.clap.specs.declared.builder.command.Command.{Command}
use Rattle.clap.specs.declared.builder.command.Command.TheViews.{out-Command}
use Rattle.clap.specs.declared.builder.value_parser.ValueParser.{ValueParser}
use Rattle.clap.specs.declared.parser.matches.ArgMatches.{ArgMatches}
use Rattle.clap.specs.declared.parser.matches.Found.{Found}
use Rattle.clap.specs.declared.parser.matches.MatchedArg.{MatchedArg}

-- each rule of a list has this
abbrev pub Each : (Rule → Type 0) → List Rule → Type 0
Each P [] = Unit {0}
Each P (r ∷ rs) = P r × Each P rs

-- a rule with this id has this parser
abbrev pub HasParser : Text → ValueParser → Rule → Type 0
HasParser id parser r = bytes_eq r.id id ≡ true → (r.parser ≡ Some parser) × (r.ignore_case ≡ false)

each_at : (P : Rule → Type 0) (xs : List Arg) (k : ℕ) (d : Arg) → Each P (map rule_of xs) → k < length xs → P (rule_of (slice_index_or xs k d))
each_at P [] k d h lt = absurd (omega (arith, lt))
each_at P (x ∷ xs) zero d h lt = h.0
each_at P (x ∷ xs) (suc k) d h lt = each_at P xs k d h.1 (omega (arith, lt))

none_in : {X : Type 0} (xs : List X) → is_empty xs ≡ true → xs ≡ []
none_in [] e = refl
none_in (x ∷ xs) e =
    let bad : false ≡ true = sym (ne_eqb (suc (length xs)) 0 (λ z. omega (arith, z))) ∙ e in
    absurd (cc bad)

simple_groups : (a : Arg) → is_simple_arg a ≡ true → a.groups.items ≡ []
simple_groups a e = none_in a.groups.items (both _ _ (both _ _ (both _ _ e).1).1).0

no_group_args : (xs : List Arg) → list_all (λ r. r.is_simple) (map rule_of xs) ≡ true → (k : ℕ) (d : Arg) → k < length xs →
    (slice_index_or xs k d).groups.items ≡ []
no_group_args [] e k d lt = absurd (omega (arith, lt))
no_group_args (x ∷ xs) e zero d lt = simple_groups x (both _ _ e).0
no_group_args (x ∷ xs) e (suc k) d lt = no_group_args xs (both _ _ e).1 k d (omega (arith, lt))

no_groups : (c : Command) → (app_of c).top.is_plain ≡ true → groups_of c ≡ []
no_groups c e = none_in (groups_of c) (both _ _ e).0

no_globals : (c : Command) → (app_of c).top.is_plain ≡ true → (out-Command c).has_globals ≡ false
no_globals c e = not-true (out-Command c).has_globals (both _ _ (both _ _ (both _ _ e).1).1).0

-- what the argument of the built command takes, the caller's argument takes
accepts_same : (a x : Arg) (q : ValueParser) (t : Text) → SameRules a x → (a.value_parser ≡ Some q) × (a.ignore_case ≡ false) →
    Accepts x.ignore_case (parser_of x) t → Accepts false q t
accepts_same a x q t s given h =
    let is_q : parser_of x ≡ q = ap parser_of_value (s.parser q given.0) in
    let as_q : Accepts x.ignore_case q t = subst (λ (w : ValueParser). Accepts x.ignore_case w t) is_q h in
    subst (λ (b : Bool). Accepts b q t) (s.ignore_case ∙ given.1) as_q

passes_given : (old : Command) (m : ArgMatches) (p : IsParsedFrom old m) (id : Text) (q : ValueParser) → Each (HasParser id q) (map rule_of (args_of old))
    → (id ≡ codes "help" → ⊥) → (id ≡ codes "version" → ⊥) → (t : Text) → PassesArg p.built id t → Accepts false q t
passes_given old m p id q rules help version t pass =
    let x = pass.1 in
    let x_id : x.id.now ≡ id = (bytes_eq-Decides x.id.now id).0 pass.4.0 in
    elim (cases_lt pass.0 (length (args_of old))) [
      | inl under ↦
          let a = slice_index_or (args_of old) pass.0 x in
          let s = subst (λ w. SameRules a w) pass.3 (p.from.kept pass.0 x under).1 in
          let same : bytes_eq a.id.now id ≡ true = rw (← s.id) pass.4.0 in
          let given = each_at (HasParser id q) (args_of old) pass.0 x rules under same in
          accepts_same a x q t s given pass.4.1
      | inr over ↦
          let flag = subst IsAuto pass.3 (p.from.extra pass.0 x over pass.2) in
          absurd (elim flag [ inl h ↦ help (sym x_id ∙ h) | inr h ↦ version (sym x_id ∙ h) ])
    ]

first_has : (P : Text → Type 0) (vs : List (Bor Text)) (t : Text) → ((k : ℕ) (d : Bor Text) → k < length vs → P (slice_index_or vs k d).now) →
    option_map (λ s. s.now) (slice_get vs 0) ≡ Some t → P t
first_has P [] t all e = absurd (cc e)
first_has P (v ∷ vs) t all e =
    let same : v.now ≡ t = cc e in
    subst P same (all 0 v (omega arith))

entry_values : (built : Command) (e : Entry) (x : MatchedArg) (id t : Text) → groups_of built ≡ [] → (id ≡ [] → ⊥) → e.1 ≡ x →
    e.0.now ≡ id → EntryPasses built e
    → option_map (λ s. s.now) (slice_get x.vals.items 0) ≡ Some t → PassesArg built id t
entry_values built e x id t without named same key passes first = elim passes.0 [
  | inl g ↦ elim (passes.3 g) [
    | inl empty ↦ absurd (named (sym key ∙ empty))
    | inr lots ↦
        let bad : 0 < 0 = rw without at lots in
        absurd (omega (arith, bad))
  ]
  | inr vals ↦
      let here : All (λ v. PassesArg built id v.now) x.vals.items = subst (λ (w : Text). All (λ v. PassesArg built w v.now) x.vals.items) key
      (rw same at vals) in
      first_has (PassesArg built id) x.vals.items t here first
]

-- the first value of an id passed the parser of an argument with it
first_passes : (built : Command) (f : Found) (id t : Text) → groups_of built ≡ [] → (id ≡ [] → ⊥) → ValuesPass built f → first_value f id ≡ Some t →
    PassesArg built id t
first_passes built f id t without named values value = go (matched_of f id) refl value
  where
    go : (o : Option MatchedArg) → matched_of f id ≡ o → first_value f id ≡ Some t → PassesArg built id t
    go None e h =
        let bad : None ≡ Some t = rw e at h in
        absurd (cc bad)
    go (Some x) e h =
        let got = entry_by_id (EntryPasses built) f.entries.items id x values e in
        entry_values built got.0 x id t without named got.1 ((bytes_eq-Decides got.0.0.now id).0 got.2) got.3 (rw e at h)

-- the value of an argument with a parser, of a command that is simple
pub value_passes : (old : Command) (m : ArgMatches) → IsParsedFrom old m → (app_of old).top.is_plain ≡ true →
    list_all (λ r. r.is_simple) (app_of old).top.rules ≡ true
    → (id : Text) (q : ValueParser) → Each (HasParser id q) (app_of old).top.rules → (id ≡ [] → ⊥) → (id ≡ codes "help" → ⊥) → (id ≡ codes "version" → ⊥)
    → (t : Text) → first_value (found_of m) id ≡ Some t → Accepts false q t
value_passes old m p plain simple id q rules named help version t value =
    let parsed = p.parsed (p.from.globals ∙ no_globals old plain) in
    let without : groups_of p.built ≡ [] = (p.from.same_groups (no_group_args (args_of old) simple)).1 ∙ no_groups old plain in
    passes_given old m p id q rules help version t (first_passes p.built (found_of m) id t without named parsed.values value)
