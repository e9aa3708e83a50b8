-- A packet whose steps pass the limit is judged unclean.
use Rattle.dp_semantics.proofs.Names.{◌≡◌, refl, sym, ap, ◌∙◌, subst, arith, leb-true, ℕ, zero, suc, ◌+◌, ◌<◌, ◌≤◌, Bool, true, false, if◌then◌else◌, List, []}
use Rattle.dp_semantics.proofs.Names.{◌∷◌, ◌++◌, ℤ, length, Some, None, list_all, nat_le, Stmt, out-Stmt, Program, Plan, Effect, value_of, followed, is_checked}
use Rattle.dp_net.specs.NetItems.{Marks, Item, item_list}
use Rattle.dp_net.specs.NetJudge.{net_judge_by, net_judge_step}
unfoldable use Rattle.dp_net.specs.NetJudge.{net_judge_from}
use Rattle.dp_net.proofs.Groups.{Marked}
use Rattle.dp_net.proofs.Texts.{site_at, Plain}
use Rattle.dp_lean.specs.Queues.{all_steps}
use Rattle.dp_lean.specs.LeanJudge.{load_holds}
use Rattle.dp_lean.proofs.LeftTexts.{Left}
use Rattle.dp_lean.proofs.LeanHeads.{Headed, stays, gone, whole, headed}
use Rattle.dp_lean.proofs.Walk.{Brings, Walkable, next, behind, ended}
use Rattle.dp_lean.proofs.JudgeSteps.{net_judging_at, found, taken, lists_next, steps_left, after, judged_is, found_block, taken_block, block_lists}
use Rattle.dp_lean.proofs.JudgeSteps.{block_steps, after_block, block_is, no_steps}

module _ (p : Program) (plan : Plan) (m : Marks) (input : List ℤ) (marked : Marked p plan m input) (read : ℕ → Bool) (limit : ℕ) where
  abbrev t : ℕ
  t = length plan.stages

  abbrev Spends : ℕ → Type 0
  Spends n = (xs : List Stmt) (cells : List ℤ) (lists : List (List Item)) (closing : Bool) (effects : List Effect) (sites : List ℕ) (steps : ℕ) →
      Walkable p plan m input marked t read xs →
      Brings p plan m input marked t xs (item_list lists) → steps ≤ limit → limit < steps + all_steps lists →
      net_judge_from p plan m limit n (net_judging_at p plan m input marked read limit xs cells lists closing effects sites steps) ≡ None

  module _ (n : ℕ) (go : Spends n) (x : Stmt) (cells : List ℤ) (lists : List (List Item)) (closing : Bool) (effects : List Effect) (sites : List ℕ) (steps : ℕ)
      (within : steps ≤ limit) (over : limit < steps + all_steps lists) where
    at_site : (rest : List Stmt) (walked : Walkable p plan m input marked t read (x ∷ rest))
        (came : Brings p plan m input marked t (x ∷ rest) (item_list lists)) → Plain m x →
        ((z : ℤ) → Left p plan m (suc t) read (followed x rest (out-Stmt x) z)) →
        net_judge_by p plan (net_judge_from p plan m limit n)
        (net_judge_step p plan m limit (net_judging_at p plan m input marked read limit (x ∷ rest) cells lists closing effects sites steps) x rest) ≡ None
    at_site rest walked came plain lefts =
        ap (net_judge_by p plan (net_judge_from p plan m limit n)) (judged_is p plan m input marked read limit x rest cells lists closing effects sites
        steps walked came plain)
        ∙ by (nat_le (steps + 1) limit) refl (if is_checked p plan (site_at x) then list_all (load_holds cells)
        (found p plan m input marked read limit x rest cells lists closing effects sites steps walked came plain).event.loads else true)
      where
        by : (b : Bool) → nat_le (steps + 1) limit ≡ b → (c : Bool) →
            net_judge_by p plan (net_judge_from p plan m limit n)
            (if b then (if c then Some (after p plan m input marked read limit x rest cells lists closing effects sites steps walked came plain)
            else None) else None) ≡ None
        by false e c = refl
        by true e false = refl
        by true e true =
            let f = found p plan m input marked read limit x rest cells lists closing effects sites steps walked came plain in
            let left = steps_left p plan m input marked read limit x rest cells lists closing effects sites steps walked came plain in
            let few = leb-true (steps + 1) limit e in
            go (followed x rest (out-Stmt x) (value_of f.event.effect)) _ (lists_next p plan m input marked read limit x rest cells lists closing effects sites
            steps walked came plain) _ _ _ (steps + 1)
            (next p plan m input marked t read x rest walked (value_of f.event.effect) (lefts (value_of f.event.effect)))
            (f.later _ (taken p plan m input marked read limit x rest cells lists closing effects sites steps walked came plain).same) (omega (arith, few))
            (omega (arith, left, over))

    at_block : (b rest : List Stmt) (at : m.block_at (site_at x) ≡ x ∷ b) (walked : Walkable p plan m input marked t read (x ∷ (b ++ rest)))
        (came : Brings p plan m input marked t (x ∷ (b ++ rest)) (item_list lists)) →
        Left p plan m (suc t) read rest →
        net_judge_by p plan (net_judge_from p plan m limit n)
        (net_judge_step p plan m limit (net_judging_at p plan m input marked read limit (x ∷ (b ++ rest)) cells lists closing effects sites steps)
        x (b ++ rest)) ≡ None
    at_block b rest at walked came lefts =
        ap (net_judge_by p plan (net_judge_from p plan m limit n)) (block_is p plan m input marked read limit x b rest cells lists closing effects sites
        steps at walked came)
        ∙ by (nat_le (steps + (found_block p plan m input marked read limit x b rest cells lists closing effects sites steps at walked came).count) limit) refl
      where
        by : (c : Bool) → nat_le (steps + (found_block p plan m input marked read limit x b rest cells lists closing effects sites steps at walked came).count)
            limit ≡ c →
            net_judge_by p plan (net_judge_from p plan m limit n)
            (if c then Some (after_block p plan m input marked read limit x b rest cells lists closing effects sites steps at walked came) else None) ≡ None
        by false e = refl
        by true e =
            let f = found_block p plan m input marked read limit x b rest cells lists closing effects sites steps at walked came in
            let left = block_steps p plan m input marked read limit x b rest cells lists closing effects sites steps at walked came in
            let few = leb-true (steps + f.count) limit e in
            go rest _ (block_lists p plan m input marked read limit x b rest cells lists closing effects sites steps at walked came) _ _ _ (steps + f.count)
            (behind p plan m input marked t read x b rest at walked lefts)
            (f.later _ (taken_block p plan m input marked read limit x b rest cells lists closing effects sites steps at walked came).same) (omega (arith, few))
            (omega (arith, left, over))

  one : (n : ℕ) → Spends n → (x : Stmt) (rest : List Stmt) (cells : List ℤ) (lists : List (List Item)) (closing : Bool) (effects : List Effect) (sites : List ℕ)
      (steps : ℕ) → Walkable p plan m input marked t read (x ∷ rest) →
      Brings p plan m input marked t (x ∷ rest) (item_list lists) → steps ≤ limit → limit < steps + all_steps lists →
      Headed p plan m (suc t) read input x rest →
      net_judge_by p plan (net_judge_from p plan m limit n)
      (net_judge_step p plan m limit (net_judging_at p plan m input marked read limit (x ∷ rest) cells lists closing effects sites steps) x rest) ≡ None
  one n go x rest cells lists closing effects sites steps walked came within over (stays plain r y stands is lefts nexts) =
      at_site n go x cells lists closing effects sites steps within over rest walked came plain lefts
  one n go x rest cells lists closing effects sites steps walked came within over (gone plain r none is lefts nexts) =
      at_site n go x cells lists closing effects sites steps within over rest walked came plain lefts
  one n go x rest cells lists closing effects sites steps walked came within over (whole b more at is r lefts) =
      subst (λ (ys : List Stmt). Walkable p plan m input marked t read (x ∷ ys) → Brings p plan m input marked t (x ∷ ys) (item_list lists) →
      net_judge_by p plan (net_judge_from p plan m limit n)
      (net_judge_step p plan m limit (net_judging_at p plan m input marked read limit (x ∷ ys) cells lists closing effects sites steps) x ys) ≡ None) (sym is)
      (λ w c. at_block n go x cells lists closing effects sites steps within over b more at w c lefts) walked came

  pub spends : (n : ℕ) → Spends n
  unfolding net_judge_from
  spends zero xs cells lists closing effects sites steps walked came within over = refl
  spends (suc n) [] cells lists closing effects sites steps walked came within over =
      let none = no_steps lists (ended p plan m input marked t read (item_list lists) came) in absurd (omega (arith, none, within, over))
  spends (suc n) (x ∷ rest) cells lists closing effects sites steps walked came within over =
      one n (spends n) x rest cells lists closing effects sites steps walked came within over (headed p plan m (suc t) read input marked x rest walked.left)
