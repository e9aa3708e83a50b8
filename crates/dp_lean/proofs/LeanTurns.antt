-- A lean turn comes to the end that the turn over items comes to.
use Rattle.dp_semantics.proofs.Names.{◌≡◌, refl, sym, ap, ◌∙◌, subst, arith, ℕ, zero, suc, ◌+◌, Bool, true, false, List, [], ◌∷◌, ◌++◌, ℤ, Option, Some, sum_by}
use Rattle.dp_semantics.proofs.Names.{Stmt, out-Stmt, Program, Plan}
use Rattle.dp_semantics.proofs.Setting.{Laid}
use Rattle.dp_net.specs.NetItems.{Marks, Item, item_list}
use Rattle.dp_net.specs.NetRun.{net_by, net_step}
unfoldable use Rattle.dp_net.specs.NetRun.{net_from}
use Rattle.dp_net.proofs.Groups.{Marked}
use Rattle.dp_lean.specs.Needed.{is_judge}
use Rattle.dp_lean.specs.Queues.{Told, told_in}
use Rattle.dp_lean.proofs.LeanLists.{leaned}
use Rattle.dp_lean.proofs.LeanHeads.{Headed, stays, gone, whole, headed}
use Rattle.dp_lean.proofs.Walk.{ended}
use Rattle.dp_lean.proofs.Alongside.{Same, same_end}
use Rattle.dp_lean.proofs.LeanSites.{Held, Alike, net_turn, lean_turn, read, gone_case, stays_case}
use Rattle.dp_lean.proofs.LeanBlocks.{block_case}

module _ (p : Program) (plan : Plan) (m : Marks) (input : List ℤ) (marked : Marked p plan m input) (laid : Laid p plan) (t : ℕ)
    (real : is_judge p plan (suc t) ≡ false) (more : ℕ → List Told) where
  abbrev stage : ℕ
  stage = suc t

  abbrev reads : ℕ → Bool
  reads = read p plan m input marked laid t real more

  one : (n : ℕ) → Alike p plan m input marked laid t real more (net_from p plan m input stage n) n → (x : Stmt) (rest : List Stmt) (cells mem : List ℤ)
      (lists : List (List Item)) (queues : ℕ → List Told) (own : List Item) (closing : Bool) →
      Held p plan m input marked laid t real more (suc n) (x ∷ rest) cells mem lists queues own → Headed p plan m stage reads input x rest →
      Same p plan m input stage more
      (net_by p plan m input stage (net_from p plan m input stage n)
      (net_step p plan m input stage (net_turn p plan m input marked laid t real more (x ∷ rest) cells lists own closing) x rest))
      (lean_turn p plan m input marked laid t real more (leaned p plan m stage (x ∷ rest)) mem queues own closing)
  one n on x rest cells mem lists queues own closing held (stays plain r y stands is lefts nexts) =
      stays_case p plan m input marked laid t real more n (net_from p plan m input stage n) on x rest cells mem lists queues own closing held plain
      lefts y stands is nexts r
  one n on x rest cells mem lists queues own closing held (gone plain r none is lefts nexts) =
      gone_case p plan m input marked laid t real more n (net_from p plan m input stage n) on x rest cells mem lists queues own closing held plain
      lefts r none is nexts
  one n on x rest cells mem lists queues own closing held (whole b behind at is r lefts) =
      subst (λ (ys : List Stmt). Held p plan m input marked laid t real more (suc n) (x ∷ ys) cells mem lists queues own →
      Same p plan m input stage more
      (net_by p plan m input stage (net_from p plan m input stage n)
      (net_step p plan m input stage (net_turn p plan m input marked laid t real more (x ∷ ys) cells lists own closing) x ys))
      (lean_turn p plan m input marked laid t real more (leaned p plan m stage (x ∷ ys)) mem queues own closing)) (sym is)
      (λ k. block_case p plan m input marked laid t real more n (net_from p plan m input stage n) on x b behind cells mem lists queues own
      closing k at r lefts) held

  pub alike : (n : ℕ) → Alike p plan m input marked laid t real more (net_from p plan m input stage n) n
  unfolding net_from
  alike zero xs cells mem lists queues own closing held = let fits = held.fits in let left = held.left in absurd (omega (arith, fits, left))
  alike (suc n) [] cells mem lists queues own closing held =
      same_end p plan m input stage more (record { own = own; cells = cells; closing = closing }) (lean_turn p plan m input marked laid t real more [] mem
      queues own closing) refl
      (record {
        own = refl;
        closing = refl;
        cells = held.agrees;
        left = λ y r. held.fed y r ∙ ap (λ (is : List Item). told_in y is ++ more y) (ended p plan m input marked t reads (item_list lists) held.came
            (Rattle.dp_semantics.proofs.Names.stage_of p plan y));
      })
  alike (suc n) (x ∷ rest) cells mem lists queues own closing held =
      one n (alike n) x rest cells mem lists queues own closing held (headed p plan m stage reads input marked x rest held.walk.left)
