-- The numbers that a command finds are in their ranges.
use Rattle.std.proofs.Common.{◌≡◌, ◌∙◌, ap, ap₂, refl, subst, ℕ, Bool, true, false, ◌==◌, ◌&&◌, not, if◌then◌else◌, List, [], ◌∷◌, Option, Some, None, IfSome}
use Rattle.std.proofs.Common.{codes}
use Rattle.std.proofs.lemmas.Bool.{eqb-true, not-true}
use Rattle.std.specs.List.{list_all}
use Rattle.std.specs.Option.{option_map_or}
use Rattle.std.specs.Str.{bytes_eq}
use Rattle.clap.proofs.WalkLemmas.{both, first_value-rows}
use Rattle.clap.specs.Words.{IsParsedFrom, IsUnsignedIn, Rule, Text, app_of, first_of, found_of, matches_of, rows_of}
use Rattle.clap.specs.declared.builder.command.Command.{Command}
use Rattle.clap.specs.declared.builder.value_parser.ValueParser.{ValueParser}
use Rattle.clap.specs.declared.builder.value_parser.ValueParser.TheVariants as parser
use Rattle.clap.specs.declared.parser.matches.ArgMatches.{ArgMatches}
use Rattle.dp_words.proofs.PassLemmas.{Each, HasParser, value_passes}
use Rattle.dp_words.proofs.VerbLemmas.{apart}
use Rattle.dp_words.specs.Commands.{CommandTakes}
use Rattle.dp_words.specs.steps.Numbers.{KeepsRange, TakesNumbers, is_range, keeps_range}
use Rattle.dp_words.specs.steps.Reading.{Finds, HoldsNumbers, values_of}

range_is : (low high : ℕ) (q : ValueParser) → is_range low high q ≡ true → q ≡ parser.Unsigned low high
range_is low high (parser.Unsigned least most) e =
    let parts = both (least == low) (most == high) e in
    ap₂ (λ (a b : ℕ). parser.Unsigned a b) (eqb-true least low parts.0) (eqb-true most high parts.1)
range_is low high q e = absurd (cc e)

parser_is : (low high : ℕ) (o : Option ValueParser) → option_map_or (is_range low high) o false ≡ true → o ≡ Some (parser.Unsigned low high)
parser_is low high None e = absurd (cc e)
parser_is low high (Some q) e = ap (λ (r : ValueParser). Some r) (range_is low high q e)

one_in_range : (id : Text) (low high : ℕ) (rule : Rule) → keeps_range id low high rule ≡ true → HasParser id (parser.Unsigned low high) rule
one_in_range id low high rule e same =
    let here : option_map_or (is_range low high) rule.parser false && not rule.ignore_case ≡ true =
    subst (λ (b : Bool). (if b then option_map_or (is_range low high) rule.parser false && not rule.ignore_case else true) ≡ true) same e in
    let parts = both (option_map_or (is_range low high) rule.parser false) (not rule.ignore_case) here in
    (parser_is low high rule.parser parts.0, not-true rule.ignore_case parts.1)

each_in_range : (id : Text) (low high : ℕ) (rules : List Rule) → list_all (keeps_range id low high) rules ≡ true →
    Each (HasParser id (parser.Unsigned low high)) rules
each_in_range id low high [] e = tt
each_in_range id low high (rule ∷ rules) e =
    let parts = both (keeps_range id low high rule) (list_all (keeps_range id low high) rules) e in
    (one_in_range id low high rule parts.0, each_in_range id low high rules parts.1)

each_value : (P : Text → Type 0) (o : Option Text) → ((t : Text) → o ≡ Some t → P t) → IfSome o P
each_value P None h = tt
each_value P (Some t) h = h t refl

module _ (command : Command) (m : ArgMatches) (p : IsParsedFrom command m) (takes : TakesNumbers (app_of command)) where
  simple_rules : ((app_of command).top.is_plain ≡ true) × (list_all (λ r. r.is_simple) (app_of command).top.rules ≡ true)
  simple_rules = both _ _ (both _ _ (both _ _ (both _ _ takes.simple).0).0).0

  in_range : (id : Text) (low high : ℕ) → KeepsRange (app_of command) id low high → bytes_eq id [] ≡ false → bytes_eq id (codes "help") ≡ false →
      bytes_eq id (codes "version") ≡ false → IfSome (values_of m id) (IsUnsignedIn low high)
  in_range id low high keeps named help version =
      each_value (IsUnsignedIn low high) (values_of m id)
      (value_passes command m p simple_rules.0 simple_rules.1 id (parser.Unsigned low high) (each_in_range id low high (app_of command).top.rules keeps)
      (apart id [] named) (apart id (codes "help") help) (apart id (codes "version") version))

  pub numbers_hold : HoldsNumbers (values_of m)
  numbers_hold = record {
    rate = in_range (codes "rate") 0 1000 takes.rate refl refl refl;
    stages = in_range (codes "stages") 1 8 takes.stages refl refl refl;
    workers = in_range (codes "workers") 1 8 takes.workers refl refl refl;
    lane = in_range (codes "lane") 1 64 takes.lane refl refl refl;
    fuel = in_range (codes "fuel") 0 1000000000 takes.fuel refl refl refl;
    seed = in_range (codes "seed") 0 2147483647 takes.seed refl refl refl;
    size = in_range (codes "size") 1 65536 takes.size refl refl refl;
    region = in_range (codes "region") 1 4294967295 takes.region refl refl refl;
    after = in_range (codes "after") 0 1000000000 takes.after refl refl refl;
  }

  pub finds : (words : List Text) → CommandTakes (app_of command) words → rows_of (found_of m) ≡ matches_of (app_of command) words →
      Finds (app_of command) words (values_of m)
  finds words taken rows = record { taken = taken; same = λ id. first_value-rows (found_of m) id ∙ ap (first_of id) rows; numbers = numbers_hold }
