-- A turn over items ends as the definition's turn over the words that they stand for.
use Rattle.dp_semantics.proofs.Names.{◌≡◌, refl, sym, subst, ℕ, zero, suc, ◌+◌, ◌-◌, Bool, true, List, [], ◌∷◌, ◌++◌, ℤ, list_all, arith, Stmt, out-Stmt}
use Rattle.dp_semantics.proofs.Names.{Program, Plan, followed, TurnEnd}
unfoldable use Rattle.dp_net.proofs.Strict.{strict_from}
use Rattle.dp_semantics.proofs.Followed.{Parts}
use Rattle.dp_net.specs.NetItems.{Marks}
use Rattle.dp_net.specs.NetRun.{net_by, net_step}
unfoldable use Rattle.dp_net.specs.NetRun.{net_from}
use Rattle.dp_net.proofs.Groups.{Group, Marked}
use Rattle.dp_net.proofs.Texts.{site_at, Plain, Text, alone, joined, headed}
use Rattle.dp_net.proofs.Ready.{Ready}
use Rattle.dp_net.proofs.SiteRuns.{word_turn, item_turn, Enough, SameEnd, Held, site_case}
use Rattle.dp_net.proofs.BlockRuns.{Through_it, gone, broken, block_case}

module _ (p : Program) (plan : Plan) (m : Marks) (input : List ℤ) (marked : Marked p plan m input) (test : Stmt → Bool) where
  module _ (ready : (x : Stmt) → test x ≡ true → Ready p plan m (out-Stmt x) × Parts (λ xs. list_all test xs ≡ true) (out-Stmt x)) (s : ℕ) where
    -- with so many steps for the items, whatever more the words have
    abbrev AlikeIn : ℕ → Type 0
    AlikeIn k = (n : ℕ) (to_do : List Stmt) (cells mem : List ℤ) (groups : List (List Group)) (made : List Group) (closing : Bool) →
        Held p plan m input marked test ready s to_do cells mem groups made → Enough p plan m input marked test ready s k groups made →
        Enough p plan m input marked test ready s n groups made →
        SameEnd p plan m input marked test ready s (strict_from p plan input s n (word_turn p plan m input marked test ready s to_do cells groups made closing))
        (net_from p plan m input s k (item_turn p plan m input marked test ready s to_do mem groups made closing))

    module _ (k : ℕ) (go : AlikeIn k) (n : ℕ) (x : Stmt) (cells mem : List ℤ) (groups : List (List Group)) (made : List Group) (closing : Bool) where
      at_site : (rest : List Stmt) → Held p plan m input marked test ready s (x ∷ rest) cells mem groups made →
          Enough p plan m input marked test ready s (suc k) groups made → Enough p plan m input marked test ready s (suc n) groups made → Plain m x →
          ((z : ℤ) → Text m (followed x rest (out-Stmt x) z)) →
          SameEnd p plan m input marked test ready s (strict_from p plan input s (suc n)
          (word_turn p plan m input marked test ready s (x ∷ rest) cells groups made closing))
          (net_from p plan m input s (suc k) (item_turn p plan m input marked test ready s (x ∷ rest) mem groups made closing))
      unfolding strict_from net_from
      at_site rest held many more plain texts = site_case p plan m input marked test ready s x rest cells mem groups made closing held plain texts
          (strict_from p plan input s n) (net_from p plan m input s k)
          (λ to_do cells' mem' groups' made' closing' held' paid. go n to_do cells' mem' groups' made' closing' held' (omega (arith, many, paid))
          (omega (arith, more, paid)))

      at_block : (b rest : List Stmt) → Held p plan m input marked test ready s (x ∷ (b ++ rest)) cells mem groups made →
          Enough p plan m input marked test ready s (suc k) groups made → Enough p plan m input marked test ready s (suc n) groups made →
          m.block_at (site_at x) ≡ x ∷ b → Text m rest →
          SameEnd p plan m input marked test ready s (strict_from p plan input s (suc n)
          (word_turn p plan m input marked test ready s (x ∷ (b ++ rest)) cells groups made closing))
          (net_from p plan m input s (suc k) (item_turn p plan m input marked test ready s (x ∷ (b ++ rest)) mem groups made closing))
      unfolding net_from
      at_block b rest held many more at text = by (block_case p plan m input marked test ready s x b rest cells mem groups made closing held at text)
        where
          by : Through_it p plan m input marked test ready s x b rest cells mem groups made closing held at text →
              SameEnd p plan m input marked test ready s (strict_from p plan input s (suc n)
              (word_turn p plan m input marked test ready s (x ∷ (b ++ rest)) cells groups made closing))
              (net_by p plan m input s (net_from p plan m input s k)
              (net_step p plan m input s (item_turn p plan m input marked test ready s (x ∷ (b ++ rest)) mem groups made closing) x (b ++ rest)))
          by (broken nothing stops) = let r = stops (suc n) more in
              subst (λ (u : TurnEnd). SameEnd p plan m input marked test ready s u (net_by p plan m input s (net_from p plan m input s k)
              (net_step p plan m input s (item_turn p plan m input marked test ready s (x ∷ (b ++ rest)) mem groups made closing) x (b ++ rest))))
              (sym r.1) (rw nothing tt)
          by (gone w) =
              let h = w.held_then in
              let fits = h.fits in
              let left : suc n ≡ w.steps + (suc n - w.steps) = omega (arith, more, w.paid, fits) in
              rw (w.runs (suc n) (suc n - w.steps) left, w.made_is)
              (go (suc n - w.steps) rest w.cells_then w.mem_then w.groups_then w.made_then closing w.held_then (omega (arith, many, w.paid, w.some))
              (omega (arith, more, w.paid, w.some, left)))

    -- The run over items ends as the definition's turn.
    pub alike : (k : ℕ) → AlikeIn k
    unfolding strict_from net_from
    alike zero n to_do cells mem groups made closing held many more = let fits = held.fits in absurd (omega (arith, many, fits))
    alike (suc k) zero to_do cells mem groups made closing held many more = let fits = held.fits in absurd (omega (arith, more, fits))
    alike (suc k) (suc n) [] cells mem groups made closing held many more =
        record { made = made; own = refl; net = refl; good = held.made_good; cells = held.agrees; closing = refl }
    alike (suc k) (suc n) (x ∷ rest) cells mem groups made closing held many more = elim (headed m p plan input marked x rest held.text) [
      | alone plain texts ↦ at_site k (alike k) n x cells mem groups made closing rest held many more plain texts
      | joined b behind at is text ↦
          subst (λ (ys : List Stmt). Held p plan m input marked test ready s (x ∷ ys) cells mem groups made →
          SameEnd p plan m input marked test ready s (strict_from p plan input s (suc n)
          (word_turn p plan m input marked test ready s (x ∷ ys) cells groups made closing))
          (net_from p plan m input s (suc k) (item_turn p plan m input marked test ready s (x ∷ ys) mem groups made closing))) (sym is)
          (λ h. at_block k (alike k) n x cells mem groups made closing b behind h many more at text) held
    ]
