-- After the end or a refusal a lexer gives the same answer.
use Rattle.std.proofs.Common.{◌≡◌, ℕ, [], ◌∷◌, length, drop, Option, Some, None, Result, Ok, Err, refl, sym, ◌∙◌, ap, arith}
use Rattle.std.proofs.lemmas.List.{drop_all}
use Rattle.dp_lex.specs.declared.Token.{Token}
use Rattle.dp_lex.specs.declared.LexRefused.{LexRefused}
use Rattle.dp_lex.specs.Front.{IsStuck}
use Rattle.dp_lex.specs.Tokens.{Reading, IsNextToken, IsLastAnswer, lexeme}
use Rattle.dp_lex.proofs.Definite.{IsLast, last_at_end, last_when_stuck, reads_nothing}

-- what comes next where nothing is left
after_end : (to after : Reading) (next : Result (Option Token) LexRefused) → to.place ≡ length to.text → IsNextToken to next after → next ≡ Ok None
after_end to after (Ok (Some t)) e h =
    let last : IsLast (drop to.place to.text) = rw e (last_at_end to.text) in
    absurd (cc (reads_nothing to.text to.place after.place (lexeme t ∷ []) last h).0)
after_end to after (Ok None) e h = refl
after_end to after (Err refused) e h =
    let last : IsLast (drop to.place to.text) = rw e (last_at_end to.text) in
    let same : after.place ≡ to.place = (reads_nothing to.text to.place after.place [] last h.0).1 in
    absurd (h.1.more (drop_all after.place to.text (omega (arith, same, e))))

-- and where no token begins
after_stuck : (to after : Reading) (next : Result (Option Token) LexRefused) (refused : LexRefused) → IsStuck (drop to.place to.text) →
    to.place ≡ refused.place → IsNextToken to next after → next ≡ Err refused
after_stuck to after (Ok (Some t)) refused stuck e h =
    absurd (cc (reads_nothing to.text to.place after.place (lexeme t ∷ []) (last_when_stuck _ stuck) h).0)
after_stuck to after (Ok None) refused stuck e h =
    let same : after.place ≡ to.place = (reads_nothing to.text to.place after.place [] (last_when_stuck _ stuck) h.0).1 in
    absurd (stuck.more (drop_all to.place to.text (omega (arith, same, h.1))))
after_stuck to after (Err other) refused stuck e h =
    let same : after.place ≡ to.place = (reads_nothing to.text to.place after.place [] (last_when_stuck _ stuck) h.0).1 in
    ap (λ (n : ℕ). Err (record { place = n })) (sym h.2 ∙ (same ∙ e))

pub last_again : (from to after : Reading) (answer next : Result (Option Token) LexRefused) → to.text ≡ from.text → IsLastAnswer answer →
    IsNextToken from answer to → IsNextToken to next after → next ≡ answer
last_again from to after (Ok (Some t)) next same last h more = absurd last
last_again from to after (Ok None) next same last h more = after_end to after next (rw same h.1) more
last_again from to after (Err refused) next same last h more = after_stuck to after next refused (rw same h.1) h.2 more
