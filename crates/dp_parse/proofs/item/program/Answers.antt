use Rattle.std.proofs.Common.{◌≡◌, refl, ap, ◌∙◌, sym, rules, arith, ◌-◌, List, length, Ok, Err}
use Rattle.std.proofs.lemmas.Grind.{common_steps}
use Rattle.dp_parse.specs.steps.Programs as read
use Rattle.dp_lex.specs.Token.{Lexeme}
use Rattle.dp_parse.specs.declared.item.Part.{Part}
use Rattle.dp_parse.specs.declared.item.Part.TheVariants.{Item, Main as Body}
use Rattle.dp_parse.proofs.ProgramSteps.{program_none, program_item, program_main, finished_some, finished_none}
use Rattle.dp_parse.proofs.ProgramSound.{sound_part}
use Rattle.dp_parse.specs.Rules as rule
use Rattle.dp_parse.proofs.Spans.{shorter}
use Rattle.dp_parse.proofs.item.program.Goals as goal

pub loop-items-init : goal.loop-items-init
unfolding read.program
loop-items-init c = (
  length c.args.tokens.now,
  omega arith,
  ap (λ items. read.program_from (length c.args.tokens.now) items c.args.tokens.now) (sym
      c.new-items.ensures),
)

pub returns-in_err-item : goal.returns-in_err-item
returns-in_err-item c =
    let l = c.loop-items in let left = c.next_part.new.tokens in
    let fails : read.part l.tokens ≡ Err left → read.program c.args.tokens.now ≡ Err left = λ h. l.invariant.2
    ∙ program_none l.invariant.0 l.items l.tokens left h l.invariant.1 in
    first_of (search rules, grind (arith, common_steps))

-- a part and what is left
abbrev pair : Part → List Lexeme → Part × List Lexeme
pair p ts = (p, ts)

pub loop-items-smaller : goal.loop-items-smaller
loop-items-smaller c =
    let l = c.loop-items in let i = c.in-Item.item in let new = c.next_part.new.tokens in
    let read : read.part l.tokens ≡ Ok (pair (Item i) new) = c.in_ok-item.ensures ∙ ap (λ (p : Part). Ok (pair p new)) c.in-Item.is in
    shorter rule.Item _ _ refl (_, sound_part l.tokens new (Item i) read)

pub loop-items-preserved : goal.loop-items-preserved
loop-items-preserved c =
    let l = c.loop-items in let i = c.in-Item.item in let new = c.next_part.new.tokens in
    let read : read.part l.tokens ≡ Ok (pair (Item i) new) = c.in_ok-item.ensures ∙ ap (λ (p : Part). Ok (pair p new)) c.in-Item.is in
    let less = shorter rule.Item _ _ refl (_, sound_part l.tokens new (Item i) read) in let fits = l.invariant.1 in
    (l.invariant.0 - 1, omega arith, l.invariant.2 ∙ program_item l.invariant.0 l.items l.tokens new i read less fits ∙ rw c.in_ok-push-in-Item.ensures.ok refl)

pub returns-then-len-gt0 : goal.returns-then-len-gt0
returns-then-len-gt0 c _ =
    let l = c.loop-items in let body = c.in-Main.main in let new = c.next_part.new.tokens in
    let read : read.part l.tokens ≡ Ok (pair (Body body) new) = c.in_ok-item.ensures ∙ ap (λ (p : Part). Ok (pair p new)) c.in-Main.is in
    let less = shorter rule.Body _ _ refl (_, sound_part l.tokens new (Body body) read) in
    l.invariant.2 ∙ program_main l.invariant.0 l.items l.tokens new body read less l.invariant.1 ∙ finished_some l.items body new (omega arith)

pub returns-in-Main : goal.returns-in-Main
returns-in-Main c =
    let l = c.loop-items in let body = c.in-Main.main in let new = c.next_part.new.tokens in
    let read : read.part l.tokens ≡ Ok (pair (Body body) new) = c.in_ok-item.ensures ∙ ap (λ (p : Part). Ok (pair p new)) c.in-Main.is in
    let less = shorter rule.Body _ _ refl (_, sound_part l.tokens new (Body body) read) in
    l.invariant.2 ∙ program_main l.invariant.0 l.items l.tokens new body read less l.invariant.1 ∙ finished_none l.items body new (omega arith)
