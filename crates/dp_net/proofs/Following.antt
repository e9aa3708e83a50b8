-- A turn over lists that follow the earlier stages' text tells what its own asks for.
use Rattle.dp_semantics.proofs.Names.{◌≡◌, inl, inr, refl, sym, ap, ◌∙◌, subst, append-nil, ℕ, zero, suc, List, [], ◌∷◌, ℤ, Some, cases_eq, Stmt, Program, Plan}
use Rattle.dp_net.specs.NetItems.{Marks, item_list}
use Rattle.dp_net.specs.NetRun.{NetEnded}
unfoldable use Rattle.dp_net.specs.NetRun.{net_from}
use Rattle.dp_net.specs.Follows.{FollowsText, ended}
use Rattle.dp_net.proofs.Groups.{Marked}
use Rattle.dp_net.proofs.Reading.{read_end}
use Rattle.dp_net.proofs.Texts.{alone, joined, headed}
use Rattle.dp_net.proofs.ItemLists.{with_own, with_here, with_other}
use Rattle.dp_net.proofs.FollowingSites.{part, Came, ReadableText, Tells, TellsIn, site_tells}
use Rattle.dp_net.proofs.FollowingBlocks.{block_tells}

module _ (p : Program) (plan : Plan) (m : Marks) (input : List ℤ) (marked : Marked p plan m input) (s : ℕ) where
  abbrev stage : ℕ
  stage = suc s

  -- A turn tells what its text asks for.
  pub tells : (n : ℕ) → TellsIn p plan m input marked s n
  unfolding net_from
  tells zero xs r cells lists own closing e came q = absurd (cc q)
  tells (suc n) [] r cells lists own closing e came q =
      let same : record { own = own; cells = cells; closing = closing } ≡ e = cc q in
      record { more = []; own_is = ap (λ (f : NetEnded). f.own) (sym same) ∙ sym (append-nil own); follows = ended nothing }
    where
      part_nil : (t : ℕ) → part p plan m input marked s t [] ≡ []
      part_nil zero = refl
      part_nil (suc t) = refl

      nothing : (t : ℕ) → with_own stage [] (item_list lists) t ≡ []
      nothing t = elim (cases_eq t stage) [
        | inl here ↦ with_here stage [] (item_list lists) t here
        | inr other ↦ with_other stage [] (item_list lists) t other
            ∙ read_end p plan m s (subst (λ (ys : List Stmt). FollowsText p plan m ys (item_list lists)) (part_nil s) came) t
      ]
  tells (suc n) (x ∷ rest) r cells lists own closing e came q = elim (headed m p plan input marked x rest r.text) [
    | alone plain texts ↦ site_tells p plan m input marked s n (tells n) x cells lists own closing e rest r came plain texts q
    | joined b behind at is text ↦
        subst (λ (ys : List Stmt). ReadableText p plan m input marked s (x ∷ ys) → Came p plan m input marked s (x ∷ ys) (item_list lists) →
        net_from p plan m input stage (suc n) (record { to_do = x ∷ ys; cells = cells; lists = lists; own = own; closing = closing }) ≡ Some e →
        Tells p plan m input marked s (x ∷ ys) (item_list lists) own e) (sym is)
        (λ r came q. block_tells p plan m input marked s n (tells n) x cells lists own closing e b behind at r text came q) r came q
  ]
