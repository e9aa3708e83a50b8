-- An array of a text has an element at least.
use Rattle.std.proofs.Common.{◌≡◌, refl, ◌≤◌, true, nat_lt, List, ℕ, rules}
use Rattle.std.proofs.lemmas.Bool.{and_from}
use Rattle.std.specs.List.{list_all}
use Rattle.dp_lex.specs.Token.{Lexeme}
use Rattle.dp_tree.specs.declared.raw.RawItem.{RawItem}
use Rattle.dp_tree.specs.declared.raw.RawProgram.{RawProgram}
use Rattle.dp_parse.specs.Programs.{DerivesItem, DerivesItems}
use Rattle.dp_parse.specs.Programs as grammar
use Rattle.dp_parse.specs.Parses.{ParsesAs}
use Rattle.dp_check.specs.Checked.{has_length}

some : (n : ℕ) → 1 ≤ n → nat_lt 0 n ≡ true
some n h = search (rules, h)

item_length : {from to : List Lexeme} {item : RawItem} → DerivesItem from to item → has_length item ≡ true
item_length (grammar.scalar a b c) = refl
item_length (grammar.started a b c d e) = refl
item_length (grammar.below_zero a b c d e f) = refl
item_length (grammar.array {n = n} a b c d least e f) = some n least
item_length (grammar.function a b c d e f) = refl

items_lengths : {from to : List Lexeme} {items : List RawItem} → DerivesItems from to items → list_all has_length items ≡ true
items_lengths grammar.none = refl
items_lengths (grammar.more {i = item} {rest = rest} first others) =
    and_from (has_length item) (list_all has_length rest) (item_length first) (items_lengths others)

pub lengths : (text : List ℕ) (raw : RawProgram) → ParsesAs text raw → list_all has_length raw.items ≡ true
lengths text raw h = items_lengths h.derives.items
