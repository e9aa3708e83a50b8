-- What the descent reads as a program, the grammar derives.
use Rattle.std.proofs.Common.{◌≡◌, refl, ap, ◌∙◌, sym, ℕ, zero, suc, pos, Bool, true, false, List, [], ◌∷◌, ◌++◌, length, Ok, append_assoc}
use Rattle.std.proofs.lemmas.List.{append-nil}
use Rattle.dp_base.specs.Arithmetic.{is_zero}
use Rattle.dp_lex.specs.Token.{Lexeme}
use Rattle.dp_tree.specs.declared.raw.RawStmt.{RawStmt}
use Rattle.dp_tree.specs.declared.raw.RawItem.{RawItem}
use Rattle.dp_tree.specs.declared.raw.RawProgram.{RawProgram}
use Rattle.dp_parse.specs.declared.item.Part.{Part}
use Rattle.dp_parse.specs.declared.item.Part.TheVariants.{Item, Main as Body}
use Rattle.dp_tokens.specs.declared.symbol.Symbol.TheVariants.{Mark, Int, Void, Main, Return, OpenParen, CloseParen, OpenBrace, CloseBrace, Semicolon}
use Rattle.dp_tokens.specs.Symbols.{Is}
use Rattle.dp_tokens.specs.Leaves.{IsNumber}
use Rattle.dp_parse.specs.Programs.{DerivesItem, DerivesTops, DerivesReturn, DerivesMain, DerivesItems, Derives}
use Rattle.dp_parse.specs.Programs as programs
use Rattle.dp_tokens.specs.Steps.{Parser, ◌>>=◌, pure, expect, eat, many}
use Rattle.dp_tokens.specs.Numbers as numbers
use Rattle.dp_parse.specs.steps.Statements as statements
use Rattle.dp_parse.specs.steps.Programs as read
use Rattle.dp_parse.proofs.StepLemmas.{Sound, then_of, same_pair, takes, Ate, passed, stayed, ate, moved, taken}
use Rattle.dp_parse.proofs.Lists.{many_sound}
use Rattle.dp_parse.proofs.LeafLemmas.{read_number, sees_of}
use Rattle.dp_parse.proofs.StatementSound.{sound_statement}
use Rattle.dp_parse.proofs.RegionSound.{Marked, by_while, by_for, read_region}
use Rattle.dp_parse.proofs.ItemSound.{zero_is, sound_variable, sound_function}

-- ---- `main`

marked : (n : ℕ) (mark : Lexeme) (from middle to : List Lexeme) (s : RawStmt) (others : List RawStmt) → Is Mark mark →
    Marked (statements.statement n) (sound_statement n) from middle s → DerivesTops middle to others →
    DerivesTops (mark ∷ from) to (s ∷ others)
marked n mark from middle to s others m (by_while word inside inner cond body w splits d b made) ds =
    moved DerivesTops (taken mark splits) refl (ap (λ (x : RawStmt). x ∷ others) made) (programs.region m w d b ds)
marked n mark from middle to s others m (by_for word inside inner first step cond body w splits d b made) ds =
    moved DerivesTops (taken mark splits) refl (ap (λ (x : RawStmt). x ∷ others) made) (programs.for_region m w d b ds)

top_at : (n : ℕ) (from middle to : List Lexeme) (s : RawStmt) (others : List RawStmt) → Ate Mark (read.top_by n) from s middle → DerivesTops middle to others →
    DerivesTops from to (s ∷ others)
top_at n from middle to s others (passed t left is splits e) ds =
    moved DerivesTops splits refl refl (marked n t left middle to s others is (read_region (statements.statement n) (sound_statement n) left middle s e) ds)
top_at n from middle to s others (stayed other e) ds = programs.statement (sound_statement n from middle s e) ds

pub sound_top : (from middle to : List Lexeme) (s : RawStmt) (others : List RawStmt) → read.top from ≡ Ok (s, middle) → DerivesTops middle to others →
    DerivesTops from to (s ∷ others)
unfolding read.top
sound_top from middle to s others h ds = top_at (length from) from middle to s others (ate Mark (read.top_by (length from)) s middle from (λ k. cc) h) ds

pub many_tops : (n : ℕ) (from to : List Lexeme) (found out : List RawStmt) → many read.ends read.top n found from ≡ Ok (out, to) →
    (body : List RawStmt) × (out ≡ found ++ body) × DerivesTops from to body
many_tops = many_sound read.top DerivesTops read.ends (λ to. programs.none) sound_top

pub number_zero : (t : Lexeme) (n : ℕ) → n ≡ 0 → IsNumber t n → IsNumber t 0
number_zero t n e h = rw e at h

-- the 0 and its semicolon
record Zero (from to : List Lexeme) : Type 0 where
  value : Lexeme
  end : Lexeme
  zero : IsNumber value 0
  ends : Is Semicolon end
  splits : from ≡ value ∷ end ∷ to

zero_at : (from to : List Lexeme) (b : Bool) (u : Unit {0}) → numbers.sees_zero from ≡ b → read.zero_by b from ≡ Ok (u, to) → Zero from to
zero_at from to true u seen h =
    let o = then_of (numbers.number from) (λ _. expect Semicolon >>= (λ _. pure tt)) u to h in
    let n = read_number from o.middle o.value o.first in
    let p = takes Semicolon o.middle (λ _. pure tt) u to o.second in
    let parts = same_pair {a = tt} {b = u} {x = p.middle} {y = to} p.second in
    let zero : is_zero (pos n.value) ≡ true = sym (sees_of n.token n.value o.middle n.is) ∙ ap numbers.sees_zero (sym n.splits) ∙ seen in
    record {
      value = n.token;
      end = p.value;
      zero = number_zero n.token n.value (zero_is (pos n.value) n.value refl zero) n.is;
      ends = p.is;
      splits = n.splits ∙ taken n.token (p.splits ∙ taken p.value parts.1);
    }
zero_at from to false u seen h = absurd (cc)

pub returned_ate : (from to : List Lexeme) (u : Unit {0}) → Ate Return read.returned_by from u to → DerivesReturn from to
returned_ate from to u (passed t left is splits e) =
    let z = zero_at left to (numbers.sees_zero left) u refl e in let all = splits ∙ taken t z.splits in
    rw all (programs.zero is z.zero z.ends)
returned_ate from to u (stayed other e) = let parts = same_pair {a = tt} {b = u} {x = from} {y = to} e in rw parts.1 programs.none

-- the end of `main`
record Ended (from to : List Lexeme) : Type 0 where
  closing : Lexeme
  is : Is CloseBrace closing
  returns : DerivesReturn from (closing ∷ to)

read_end : (from to : List Lexeme) (u : Unit {0}) → read.end from ≡ Ok (u, to) → Ended from to
unfolding read.end read.returned
read_end from to u h =
    let o = then_of ((eat Return >>= read.returned_by) from) (λ _. expect CloseBrace >>= (λ _. pure tt)) u to h in
    let p = takes CloseBrace o.middle (λ _. pure tt) u to o.second in
    let parts = same_pair {a = tt} {b = u} {x = p.middle} {y = to} p.second in
    let all : o.middle ≡ p.value ∷ to = p.splits ∙ taken p.value parts.1 in
    record {
      closing = p.value;
      is = p.is;
      returns = rw all at (returned_ate from o.middle o.value (ate Return read.returned_by o.value o.middle from
          (λ k. cc) o.first));
    }

-- `main` from its opening brace on
record Inside (from to : List Lexeme) (body : List RawStmt) : Type 0 where
  paren : Lexeme
  brace : Lexeme
  inner : List Lexeme
  last : List Lexeme
  is_paren : Is CloseParen paren
  is_brace : Is OpenBrace brace
  splits : from ≡ paren ∷ brace ∷ inner
  tops : DerivesTops inner last body
  ended : Ended last to

abbrev pub inside : Parser (List RawStmt)
inside = expect CloseParen >>= (λ _. expect OpenBrace >>= (λ _. (λ ts. many read.ends read.top (length ts) [] ts) >>= (λ body. read.end >>= (λ _. pure body))))

read_inside : (from to : List Lexeme) (body : List RawStmt) → inside from ≡ Ok (body, to) → Inside from to body
read_inside from to body h =
    let o = takes CloseParen from
    (λ _. expect OpenBrace >>= (λ _. (λ ts. many read.ends read.top (length ts) [] ts) >>= (λ body. read.end >>= (λ _. pure body)))) body to h in
    let p = takes OpenBrace o.middle (λ _. (λ ts. many read.ends read.top (length ts) [] ts) >>= (λ body. read.end >>= (λ _. pure body))) body to o.second in
    let q = then_of (many read.ends read.top (length p.middle) [] p.middle) (λ body. read.end >>= (λ _. pure body)) body to p.second in
    let m = many_tops (length p.middle) p.middle q.middle [] q.value q.first in
    let v = then_of (read.end q.middle) (λ _. pure q.value) body to q.second in
    let parts = same_pair {a = q.value} {b = body} {x = v.middle} {y = to} v.second in
    let e = read_end q.middle v.middle v.value v.first in
    record {
      paren = o.value;
      brace = p.value;
      inner = p.middle;
      last = q.middle;
      is_paren = o.is;
      is_brace = p.is;
      splits = o.splits ∙ taken o.value p.splits;
      tops = moved DerivesTops refl refl (sym parts.0 ∙ m.1) m.2;
      ended = rw parts.1 at e;
    }

main_ate : (int name opening : Lexeme) (from to : List Lexeme) (body : List RawStmt) → Is Int int → Is Main name → Is OpenParen opening →
    Ate Void (λ _. inside) from body to → DerivesMain (int ∷ name ∷ opening ∷ from) to body
main_ate int name opening from to body i m o (passed t left is splits e) =
    let r = read_inside left to body e in
    moved DerivesMain (taken int (taken name (taken opening (splits ∙ taken t r.splits)))) refl refl (programs.main_void i m o is r.is_paren r.is_brace r.tops
    r.ended.returns r.ended.is)
main_ate int name opening from to body i m o (stayed other e) =
    let r = read_inside from to body e in
    moved DerivesMain (taken int (taken name (taken opening r.splits))) refl refl (programs.main i m o r.is_paren r.is_brace r.tops r.ended.returns r.ended.is)

sound_main : (int name : Lexeme) (from to : List Lexeme) (body : List RawStmt) → Is Int int → Is Main name → read.main_part from ≡ Ok (body, to) →
    DerivesMain (int ∷ name ∷ from) to body
unfolding read.main_part
sound_main int name from to body i m h =
    let o = takes OpenParen from (λ _. eat Void >>= (λ _. inside)) body to h in
    moved DerivesMain (taken int (taken name o.splits)) refl refl (main_ate int name o.value o.middle to body i m o.is
    (ate Void (λ _. inside) body to o.middle (λ k. cc) o.second))

-- ---- parts of a program

abbrev pub DerivesPart : List Lexeme → List Lexeme → Part → Type 0
DerivesPart from to (Item i) = DerivesItem from to i
DerivesPart from to (Body body) = DerivesMain from to body

global_ate : (int : Lexeme) (from to : List Lexeme) (p : Part) → Is Int int → Ate Main read.global_by from p to → DerivesPart (int ∷ from) to p
global_ate int from to p i (passed t left is splits e) =
    let o = then_of (read.main_part left) (λ body. pure (Body body)) p to e in
    let parts = same_pair {a = Body o.value} {b = p} {x = o.middle} {y = to} o.second in
    moved DerivesPart (taken int splits) (sym parts.1) (sym parts.0) (sound_main int t left o.middle o.value i is o.first)
global_ate int from to p i (stayed other e) =
    let o = then_of (read.variable from) (λ v. pure (Item v)) p to e in
    let parts = same_pair {a = Item o.value} {b = p} {x = o.middle} {y = to} o.second in
    moved DerivesPart refl (sym parts.1) (sym parts.0) (sound_variable int from o.middle o.value i o.first)

part_ate : (from to : List Lexeme) (p : Part) → Ate Void read.part_by from p to → DerivesPart from to p
part_ate from to p (passed t left is splits e) =
    let o = then_of (read.function left) (λ f. pure (Item f)) p to e in
    let parts = same_pair {a = Item o.value} {b = p} {x = o.middle} {y = to} o.second in
    moved DerivesPart splits (sym parts.1) (sym parts.0) (sound_function t left o.middle o.value is o.first)
part_ate from to p (stayed other e) =
    let o = takes Int from (λ _. eat Main >>= read.global_by) p to e in
    moved DerivesPart o.splits refl refl (global_ate o.value o.middle to p o.is (ate Main read.global_by p to o.middle (λ k. cc) o.second))

pub sound_part : Sound read.part DerivesPart
unfolding read.part
sound_part from to p h = part_ate from to p (ate Void read.part_by p to from (λ k. cc) h)

-- ---- whole programs

-- the parts that are left, behind the items that were found
record Rest (from to : List Lexeme) (found : List RawItem) (p : RawProgram) : Type 0 where
  middle : List Lexeme
  items : List RawItem
  all : p.items ≡ found ++ items
  derives : DerivesItems from middle items
  main : DerivesMain middle [] p.main
  over : to ≡ []

-- a program of these parts
abbrev pub whole : List RawItem → List RawStmt → RawProgram
whole items body = record { items = items; main = body }

finished_at : (found : List RawItem) (body : List RawStmt) (from middle to : List Lexeme) (p : RawProgram) → DerivesMain from middle body →
    read.finished found body middle ≡ Ok (p, to) → Rest from to found p
finished_at found body from [] to p d h =
    let parts = same_pair {a = whole found body} {b = p} {x = []} {y = to} h in
    record {
      middle = from;
      items = [];
      all = ap (λ (q : RawProgram). q.items) (sym parts.0) ∙ sym (append-nil found);
      derives = programs.none;
      main = moved DerivesMain refl refl (ap (λ (q : RawProgram). q.main) (sym parts.0)) d;
      over = sym parts.1;
    }
finished_at found body from (t ∷ middle) to p d h = absurd (cc)

part_at : (again : List RawItem → Parser RawProgram)
    (goes : (from to : List Lexeme) (found : List RawItem) (p : RawProgram) → again found from ≡ Ok (p, to) → Rest from to found p)
    (from middle to : List Lexeme) (found : List RawItem) (part : Part) (p : RawProgram) → DerivesPart from middle part →
    read.program_by again found part middle ≡ Ok (p, to) → Rest from to found p
part_at again goes from middle to found (Item i) p d h =
    let r = goes middle to (found ++ i ∷ []) p h in
    record {
      middle = r.middle;
      items = i ∷ r.items;
      all = r.all ∙ append_assoc found (i
          ∷ []) r.items;
      derives = programs.more d r.derives;
      main = r.main;
      over = r.over;
    }
part_at again goes from middle to found (Body body) p d h = finished_at found body from middle to p d h

sound_program_from : (n : ℕ) (from to : List Lexeme) (found : List RawItem) (p : RawProgram) → read.program_from n found from ≡ Ok (p, to) →
    Rest from to found p
unfolding read.program_from
sound_program_from zero from to found p h = absurd (cc)
sound_program_from (suc n) from to found p h =
    let o = then_of (read.part from) (read.program_by (read.program_from n) found) p to h in
    part_at (read.program_from n) (sound_program_from n) from o.middle to found o.value p (sound_part from o.middle o.value o.first) o.second

pub sound_program : (tokens left : List Lexeme) (p : RawProgram) → read.program tokens ≡ Ok (p, left) → Derives tokens p
unfolding read.program
sound_program tokens left p h =
    let r = sound_program_from (length tokens) tokens left [] p h in
    record { middle = r.middle; items = moved DerivesItems refl refl r.all r.derives; main = r.main }
