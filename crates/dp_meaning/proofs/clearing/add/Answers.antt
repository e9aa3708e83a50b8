use Rattle.dp_meaning.proofs.Names.{◌≡◌, ◌<◌, ℕ, List, [], ℤ, arith, length, get_or, subst, sym, ◌∷◌, StoreOf, clear_locals, with_stores}
use Rattle.dp_meaning.proofs.ClearingLemmas.{one_added}
use Rattle.std.proofs.lemmas.Result.{on_ok_weaker}
use Rattle.dp_meaning.proofs.clearing.add.Goals as goal

pub returns-in_ok-grow-in-Body : goal.returns-in_ok-grow-in-Body
returns-in_ok-grow-in-Body c =
    let info = c.args.info.now in let old = c.args.rows.now in let grown = c.grow.new.rows in let grows = c.in_ok-grow-in-Body.ensures in
    let within : c.in-Body.region < length grown = omega (arith, grows.long) in
    on_ok_weaker c.put.result
    (λ is. subst (λ (rows : List (List StoreOf)). (r : ℕ) (cells : List ℤ) → with_stores (get_or rows r []) cells ≡ clear_locals r (info ∷ [])
    (with_stores (get_or old r []) cells)) (sym is) (one_added old grown c.in-Body.region info c.in-Body.is within grows.same)) c.put.ensures
