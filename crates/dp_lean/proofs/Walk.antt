-- What a reader of a text finds at its head, where the lists that came follow the text of the stage before.
use Rattle.dp_semantics.proofs.Names.{◌≡◌, inl, inr, refl, sym, ◌∙◌, subst, arith, ℕ, zero, suc, ◌<◌, ◌≤◌, Bool, true, List, [], ◌∷◌, ◌++◌, ℤ, list_all}
use Rattle.dp_semantics.proofs.Names.{list_all-append, flat_map-append, and_parts, cases_eq, Stmt, out-Stmt, Stmt-F, Program, Plan, Event, Effect, site_of}
use Rattle.dp_semantics.proofs.Names.{value_of, followed, stage_of, event_as_assumed, project_all, Access, accesses, well_nested}
use Rattle.dp_semantics.proofs.Each.{Each, each_split}
use Rattle.dp_semantics.proofs.Evaluation.{Form}
use Rattle.dp_semantics.proofs.Heads.{accesses_all, accesses_at, accesses_out, head_access, all_well, well_at, well_out}
use Rattle.dp_semantics.proofs.Setting.{Sound}
use Rattle.dp_semantics.proofs.Followed.{followed_has, all_joins}
use Rattle.dp_theorem.proofs.Source.{well_parts, each_joins, each_parts, head_fact}
use Rattle.dp_net.specs.NetItems.{Marks, Item, Net, is_store}
use Rattle.dp_net.specs.Follows.{Says, Others, FollowsText}
use Rattle.dp_net.proofs.Groups.{Marked}
use Rattle.dp_net.proofs.Projections.{Kept, AllKept}
use Rattle.dp_net.proofs.Reading.{follows_same, read_site, read_past, read_block, read_past_block, read_end}
use Rattle.dp_net.proofs.Silent.{AllQuiet}
use Rattle.dp_net.proofs.Texts.{site_at}
use Rattle.dp_lean.proofs.LeftTexts.{Left}

module _ (p : Program) (plan : Plan) (m : Marks) (input : List ℤ) (marked : Marked p plan m input) (t : ℕ) where
  abbrev pub stage : ℕ
  stage = suc t

  -- the text of which the lists tell
  abbrev pub came_part : ℕ → List Stmt → List Stmt
  came_part zero xs = []
  came_part (suc n) xs = project_all p plan (suc n) xs

  abbrev pub Brings : List Stmt → (ℕ → List Item) → Type 0
  Brings xs left = FollowsText p plan m (came_part t xs) left

  module _ (read : ℕ → Bool) where
    pub record Walkable (xs : List Stmt) : Type 0 where
      pub well : all_well p plan xs ≡ true
      pub sites : AllKept p plan stage (Sound p plan) xs
      pub left : Left p plan m stage read xs

    -- at the end nothing is left
    pub ended : (left : ℕ → List Item) → Brings [] left → (y : ℕ) → left y ≡ []
    ended left came y = by t came
      where
        by : (n : ℕ) → FollowsText p plan m (came_part n []) left → left y ≡ []
        by zero f = read_end p plan m zero f y
        by (suc n) f = read_end p plan m (suc n) f y

    module _ (x : Stmt) (rest : List Stmt) (r : Walkable (x ∷ rest)) where
      abbrev h : Stmt-F Stmt
      h = out-Stmt x

      abbrev u : ℕ
      u = stage_of p plan (site_at x)

      parts : (well_nested p plan x ≡ true) × (all_well p plan rest ≡ true)
      parts = and_parts (well_nested p plan x) (all_well p plan rest) r.well

      pub head_well : well_at p plan h ≡ true
      head_well = sym (well_out p plan x) ∙ parts.0

      split : Each (Kept p plan stage (Sound p plan)) (accesses_at h) × Each (Kept p plan stage (Sound p plan)) (accesses_all rest)
      split =
          let both = each_split (Kept p plan stage (Sound p plan)) (accesses x) (accesses_all rest) r.sites in
          (subst (λ (l : List Access). Each (Kept p plan stage (Sound p plan)) l) (accesses_out x) both.0, both.1)

      pub own_site : Kept p plan stage (Sound p plan) (head_access h)
      own_site = head_fact (Kept p plan stage (Sound p plan)) p plan h head_well split.0

      pub low : 0 < u
      low = own_site.0.staged

      -- a step further
      pub next : (z : ℤ) → Left p plan m stage read (followed x rest h z) → Walkable (followed x rest h z)
      next z left = record {
        well = followed_has (λ (xs : List Stmt). all_well p plan xs ≡ true) (all_joins (well_nested p plan)) x rest h z r.well parts.1
            (well_parts p plan h head_well);
        sites = followed_has (AllKept p plan stage (Sound p plan)) (each_joins (Kept p plan stage (Sound p plan))) x rest h z r.sites split.1
            (each_parts (Kept p plan stage (Sound p plan)) h split.0);
        left = left;
      }

      -- an own site leaves the lists as they are, if it goes as assumed
      pub own_past : u ≡ stage → (left : ℕ → List Item) → Brings (x ∷ rest) left → (effect : Effect) → Form p h effect →
          event_as_assumed p plan (record { site = (site_of h).0; loads = []; effect = effect }) ≡ true → Brings (followed x rest h (value_of effect)) left
      own_past here left came effect form assumed = by t refl came
        where
          by : (n : ℕ) → t ≡ n → FollowsText p plan m (came_part n (x ∷ rest)) left →
              FollowsText p plan m (came_part n (followed x rest h (value_of effect))) left
          by zero is f = f
          by (suc n) is f = read_past p plan m (suc n) x rest head_well parts.1 (omega arith) (omega (arith, here, is)) effect form assumed f

      -- what is read at another stage's site
      pub record Reads (left : ℕ → List Item) : Type 0 where
        pub event : Event
        pub next_left : ℕ → List Item
        pub says : Says p plan h event (left u) (next_left u)
        pub others : Others u left next_left
        pub later : (other : ℕ → List Item) → ((y : ℕ) → other y ≡ next_left y) → Brings (followed x rest h (value_of event.effect)) other

      pub reads : m.block_at (site_at x) ≡ [] → (u ≡ stage → ⊥) → (left : ℕ → List Item) → Brings (x ∷ rest) left → Reads left
      reads none other left came = by t refl came
        where
          by : (n : ℕ) → t ≡ n → FollowsText p plan m (came_part n (x ∷ rest)) left → Reads left
          by zero is f = let reach = own_site.1 in let real = low in absurd (other (omega (arith, reach, real, is)))
          by (suc n) is f =
              let found = read_site p plan m (suc n) x rest head_well parts.1 (reach_of own_site.1) none f in
              record {
                event = found.event;
                next_left = found.next;
                says = found.says;
                others = found.others;
                later = λ o same. subst (λ (k : ℕ). FollowsText p plan m (came_part k (followed x rest h (value_of found.event.effect))) o) (sym is)
                    (follows_same p plan m found.later o same);
              }
            where
              reach_of : u ≤ stage → u ≤ suc n
              reach_of reach = elim (cases_eq u stage) [ inl same ↦ absurd (other same) | inr less ↦ omega (arith, reach, less, is) ]

    -- a block at the head
    module _ (x : Stmt) (b more : List Stmt) (at : m.block_at (site_at x) ≡ x ∷ b) (r : Walkable (x ∷ (b ++ more))) where
      abbrev v : ℕ
      v = stage_of p plan (site_at x)

      pub quiet : AllQuiet p plan v (x ∷ b)
      quiet = marked.quiet (site_at x) x b at

      pub behind : Left p plan m stage read more → Walkable more
      behind left = record {
        well = (and_parts (all_well p plan (x ∷ b)) (all_well p plan more) (sym (list_all-append (well_nested p plan) (x ∷ b) more) ∙ r.well)).1;
        sites = (each_split (Kept p plan stage (Sound p plan)) (accesses_all (x ∷ b)) (accesses_all more)
            (subst (λ (l : List Access). Each (Kept p plan stage (Sound p plan)) l) (flat_map-append accesses (x ∷ b) more) r.sites)).1;
        left = left;
      }

      pub block_well : all_well p plan (x ∷ b) ≡ true
      block_well = (and_parts (all_well p plan (x ∷ b)) (all_well p plan more) (sym (list_all-append (well_nested p plan) (x ∷ b) more) ∙ r.well)).0

      pub block_sites : AllKept p plan stage (Sound p plan) (x ∷ b)
      block_sites = (each_split (Kept p plan stage (Sound p plan)) (accesses_all (x ∷ b)) (accesses_all more)
          (subst (λ (l : List Access). Each (Kept p plan stage (Sound p plan)) l) (flat_map-append accesses (x ∷ b) more) r.sites)).0

      pub block_low : 0 < v
      block_low = low x (b ++ more) r

      pub block_past : v ≡ stage → (left : ℕ → List Item) → Brings (x ∷ (b ++ more)) left → Brings more left
      block_past here left came = by t refl came
        where
          by : (n : ℕ) → t ≡ n → FollowsText p plan m (came_part n (x ∷ (b ++ more))) left → FollowsText p plan m (came_part n more) left
          by zero is f = f
          by (suc n) is f = read_past_block p plan m (suc n) v x b more at quiet (omega (arith, here, is)) f

      pub record ReadsBlock (left : ℕ → List Item) : Type 0 where
        pub count : ℕ
        pub stores : List Effect
        pub next_left : ℕ → List Item
        pub some : 0 < count
        pub all : list_all is_store stores ≡ true
        pub front : left v ≡ Net (site_at x) count stores ∷ next_left v
        pub others : Others v left next_left
        pub later : (other : ℕ → List Item) → ((y : ℕ) → other y ≡ next_left y) → Brings more other

      pub reads_block : (v ≡ stage → ⊥) → (left : ℕ → List Item) → Brings (x ∷ (b ++ more)) left → ReadsBlock left
      reads_block other left came = by t refl came
        where
          by : (n : ℕ) → t ≡ n → FollowsText p plan m (came_part n (x ∷ (b ++ more))) left → ReadsBlock left
          by zero is f = let reach = (own_site x (b ++ more) r).1 in let real = block_low in absurd (other (omega (arith, reach, real, is)))
          by (suc n) is f =
              let found = read_block p plan m (suc n) v x b more at quiet (reach_of (own_site x (b ++ more) r).1) f in
              record {
                count = found.count;
                stores = found.stores;
                next_left = found.next;
                some = found.some;
                all = found.all;
                front = found.front;
                others = found.others;
                later = λ o same. subst (λ (k : ℕ). FollowsText p plan m (came_part k more) o) (sym is) (follows_same p plan m found.later o same);
              }
            where
              reach_of : v ≤ stage → v ≤ suc n
              reach_of reach = elim (cases_eq v stage) [ inl same ↦ absurd (other same) | inr less ↦ omega (arith, reach, less, is) ]
