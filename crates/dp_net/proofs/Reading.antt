-- A reader of a later stage's text, where the lists follow what an earlier stage has of it: what it finds at each statement.
use Rattle.dp_semantics.proofs.Names.{list_all, ◌≡◌, refl, sym, ap, ◌∙◌, subst, append_assoc, append_cancel_left, ℕ, ◌<◌, ◌≤◌, Bool, true, false, if◌then◌else◌}
use Rattle.dp_semantics.proofs.Names.{List, [], ◌∷◌, ◌++◌, Some, eq-eqb, Stmt, out-Stmt, roll-Stmt, out-roll-Stmt, Stmt-F, If, While, Program, Plan, Word, Load}
use Rattle.dp_semantics.proofs.Names.{Event, Effect, site_of, value_of, followed, stage_of, is_checked, as_assumed, load_words, done_word, words_of, is_load_of}
use Rattle.dp_semantics.proofs.Names.{effect_by, project_all}
use Rattle.dp_semantics.proofs.Evaluation.{Form}
use Rattle.dp_semantics.proofs.Heads.{all_well, well_at, project_out}
use Rattle.dp_semantics.proofs.Taking.{load_here, done_no_load}
use Rattle.dp_theorem.proofs.Projected.{proj_head, unseen, assumed_of}
use Rattle.dp_theorem.proofs.Stepping.{site_proj}
use Rattle.dp_net.specs.NetItems.{Marks, Item, Said, Net, said_all, behind_loads, net_done_from, net_taken_from, is_store}
use Rattle.dp_net.specs.Follows.{Says, Others, FollowsText, ended, told, met}
use Rattle.dp_net.proofs.Texts.{site_at}
use Rattle.dp_net.proofs.Silent.{AllQuiet}
use Rattle.dp_net.proofs.BlockPlaces.{run_kept, run_gone, project_join}
use Rattle.dp_net.proofs.Stepped.{text_is, next_is}

-- The words of an event are taken from the front.
said_join : (a b : List Word) → said_all (a ++ b) ≡ said_all a ++ said_all b
said_join [] b = refl
said_join (w ∷ a) b = ap (λ (is : List Item). Said w ∷ is) (said_join a b)

loads_behind : (site : ℕ) (loads : List Load) (w : Word) (rest : List Item) → is_load_of site w ≡ false →
    behind_loads site (said_all (load_words site loads) ++ Said w ∷ rest) ≡ Said w ∷ rest
loads_behind site [] w rest e = rw e refl
loads_behind site (l ∷ loads) w rest e = rw (load_here site l) (loads_behind site loads w rest e)

module _ (p : Program) (plan : Plan) where
  words_behind : (event : Event) (rest : List Item) →
      behind_loads event.site (said_all (words_of p plan event) ++ rest) ≡ Said (done_word event.site event.effect) ∷ rest
  words_behind event rest = by (is_checked p plan event.site)
    where
      one : List Word
      one = done_word event.site event.effect ∷ []

      by : (b : Bool) →
          behind_loads event.site (said_all ((if b then load_words event.site event.loads else []) ++ done_word event.site event.effect ∷ []) ++ rest) ≡ Said
          (done_word event.site event.effect) ∷ rest
      by true =
          ap (λ (is : List Item). behind_loads event.site (is ++ rest)) (said_join (load_words event.site event.loads) (done_word event.site event.effect ∷ []))
          ∙ ap (behind_loads event.site) (append_assoc (said_all (load_words event.site event.loads)) (Said (done_word event.site event.effect) ∷ []) rest)
          ∙ loads_behind event.site event.loads (done_word event.site event.effect) rest (done_no_load event.site event.effect)
      by false = loads_behind event.site [] (done_word event.site event.effect) rest (done_no_load event.site event.effect)

  pub said_taken : (head : Stmt-F Stmt) (event : Event) (items rest : List Item) → Says p plan head event items rest →
      net_taken_from p head items ≡ Some (record { effect = event.effect; rest = rest })
  said_taken head event items rest says =
      ap (net_taken_from p head) says.front
      ∙ ap (λ (site : ℕ). net_done_from p head (behind_loads site (said_all (words_of p plan event) ++ rest))) (sym says.site)
      ∙ ap (net_done_from p head) (words_behind event rest)
      ∙ rw (eq-eqb event.site (site_of head).0 says.site, says.does) refl

  -- Lists that are equal one by one follow the same text.
  pub follows_same : (m : Marks) {xs : List Stmt} {left : ℕ → List Item} → FollowsText p plan m xs left → (other : ℕ → List Item) →
      ((t : ℕ) → other t ≡ left t) → FollowsText p plan m xs other
  follows_same m (ended none) other same = ended (λ t. same t ∙ none t)
  follows_same m (told {x = x} event at says others later) other same =
      told event at (record { site = says.site; does = says.does; assumed = says.assumed; front = same (stage_of p plan (site_at x)) ∙ says.front })
      (λ t differs. others t differs ∙ sym (same t)) later
  follows_same m (met {x = x} count stores at is some all front others later) other same =
      met count stores at is some all (same (stage_of p plan (site_at x)) ∙ front) (λ t differs. others t differs ∙ sym (same t)) later

  effect_proj : (s : ℕ) (h : Stmt-F Stmt) (w : Word) → effect_by p (proj_head p plan s h) w ≡ effect_by p h w
  effect_proj s (If site cond a b) w = refl
  effect_proj s (While site cond a) w = refl
  effect_proj s _ w = refl

  module _ (m : Marks) (s : ℕ) where
    -- At the end nothing is left.
    pub read_end : {left : ℕ → List Item} → FollowsText p plan m [] left → (t : ℕ) → left t ≡ []
    read_end (ended none) t = none t

    -- what a reader finds at a site of its text
    pub record Found (x : Stmt) (rest : List Stmt) (left : ℕ → List Item) : Type 0 where
      pub event : Event
      pub next : ℕ → List Item
      pub says : Says p plan (out-Stmt x) event (left (stage_of p plan (site_at x))) (next (stage_of p plan (site_at x)))
      pub others : Others (stage_of p plan (site_at x)) left next
      pub later : FollowsText p plan m (project_all p plan s (followed x rest (out-Stmt x) (value_of event.effect))) next

    -- .. and at a block
    pub record FoundBlock (x : Stmt) (rest : List Stmt) (left : ℕ → List Item) : Type 0 where
      pub count : ℕ
      pub stores : List Effect
      pub next : ℕ → List Item
      pub some : 0 < count
      pub all : list_all is_store stores ≡ true
      pub front : left (stage_of p plan (site_at x)) ≡ Net (site_at x) count stores ∷ next (stage_of p plan (site_at x))
      pub others : Others (stage_of p plan (site_at x)) left next
      pub later : FollowsText p plan m (project_all p plan s rest) next

    no_block : {y : Stmt} {b : List Stmt} → [] ≡ y ∷ b → ⊥
    no_block e = absurd (cc e)

    module _ (x : Stmt) (rest : List Stmt) (well : well_at p plan (out-Stmt x) ≡ true) (behind : all_well p plan rest ≡ true) where
      -- At a site of an earlier stage, outside of the blocks, its words stand in front.
      pub read_site : (reach : stage_of p plan (site_at x) ≤ s) → m.block_at (site_at x) ≡ [] → {left : ℕ → List Item} →
          FollowsText p plan m (project_all p plan s (x ∷ rest)) left → Found x rest left
      read_site reach none {left} f = by (roll-Stmt hs)
          (project_all p plan s rest) refl refl (subst (λ (ys : List Stmt). FollowsText p plan m ys left) (text_is p plan [] x rest well behind s reach) f)
        where
          hs : Stmt-F Stmt
          hs = proj_head p plan s (out-Stmt x)

          by : (y : Stmt) (onward : List Stmt) → y ≡ roll-Stmt (proj_head p plan s (out-Stmt x)) → onward ≡ project_all p plan s rest →
              FollowsText p plan m (y ∷ onward) left → Found x rest left
          by y onward y_is onward_is (told {next = next} event at says others later) =
              let head : out-Stmt y ≡ proj_head p plan s (out-Stmt x) = ap out-Stmt y_is ∙ out-roll-Stmt (proj_head p plan s (out-Stmt x)) in
              let site : (site_of (out-Stmt y)).0 ≡ site_at x = ap (λ (h : Stmt-F Stmt). (site_of h).0) head
              ∙ ap (λ n. n.0) (site_proj p plan s (out-Stmt x)) in
              let stage : stage_of p plan (site_of (out-Stmt y)).0 ≡ stage_of p plan (site_at x) = ap (stage_of p plan) site in
              record {
                event = event;
                next = next;
                says = record {
                  site = says.site ∙ site;
                  does = sym (effect_proj s (out-Stmt x) (done_word event.site event.effect))
                      ∙ ap (λ (h : Stmt-F Stmt). effect_by p h (done_word event.site event.effect)) (sym head) ∙ says.does;
                  assumed = says.assumed;
                  front = subst (λ (u : ℕ). left u ≡ said_all (words_of p plan event) ++ next u) stage says.front;
                };
                others = subst (λ (u : ℕ). Others u left next) stage others;
                later = subst (λ (ys : List Stmt). FollowsText p plan m ys next)
                    (ap (λ (h : Stmt-F Stmt). followed y onward h (value_of event.effect)) head
                    ∙ ap (λ (z : Stmt). followed z onward (proj_head p plan s (out-Stmt x)) (value_of event.effect)) y_is
                    ∙ ap (λ (ys : List Stmt). followed (roll-Stmt (proj_head p plan s (out-Stmt x))) ys (proj_head p plan s (out-Stmt x))
                    (value_of event.effect)) onward_is ∙ next_is p plan [] x rest well behind s reach (value_of event.effect)) later;
              }
          by y onward y_is onward_is (met count stores at is some all front others later) =
              let head : out-Stmt y ≡ proj_head p plan s (out-Stmt x) = ap out-Stmt y_is ∙ out-roll-Stmt (proj_head p plan s (out-Stmt x)) in
              let site : (site_of (out-Stmt y)).0 ≡ site_at x = ap (λ (h : Stmt-F Stmt). (site_of h).0) head
              ∙ ap (λ n. n.0) (site_proj p plan s (out-Stmt x)) in
              absurd (no_block (sym none ∙ ap m.block_at (sym site) ∙ at))

      -- A site of a later stage, which goes as assumed, leaves the lists as they are.
      pub read_past : 0 < s → s < stage_of p plan (site_at x) → (effect : Effect) → Form p (out-Stmt x) effect →
          as_assumed p plan (site_at x) effect ≡ true → {left : ℕ → List Item} →
          FollowsText p plan m (project_all p plan s (x ∷ rest)) left →
          FollowsText p plan m (project_all p plan s (followed x rest (out-Stmt x) (value_of effect))) left
      read_past real late effect form assumed {left} f =
          subst (λ (ys : List Stmt). FollowsText p plan m ys left)
          (unseen p plan s x rest (out-Stmt x) effect well (project_out p plan s x) late form (assumed_of p plan (site_at x) effect assumed) real) f

    module _ (t : ℕ) (x : Stmt) (b rest : List Stmt) (at : m.block_at (site_at x) ≡ x ∷ b) (quiet : AllQuiet p plan t (x ∷ b)) where
      -- At a block of an earlier stage its item stands in front.
      pub read_block : t ≤ s → {left : ℕ → List Item} → FollowsText p plan m (project_all p plan s (x ∷ (b ++ rest))) left → FoundBlock x rest left
      read_block early {left} f = by (b ++ project_all p plan s rest) refl (subst (λ (ys : List Stmt). FollowsText p plan m ys left) text f)
        where
          text : project_all p plan s (x ∷ (b ++ rest)) ≡ x ∷ (b ++ project_all p plan s rest)
          text = project_join p plan s (x ∷ b) rest ∙ ap (λ (ys : List Stmt). ys ++ project_all p plan s rest) (run_kept p plan t s early (x ∷ b) quiet)

          by : (behind : List Stmt) → behind ≡ b ++ project_all p plan s rest → FollowsText p plan m (x ∷ behind) left → FoundBlock x rest left
          by behind is (told event none says others later) = absurd (no_block (sym none ∙ at))
          by behind is (met {b = c} {rest = after} {next = next} count stores there behind_is some all front others later) =
              let same : x ∷ c ≡ x ∷ b = sym there ∙ at in
              let inner : c ≡ b = cc same in
              let after_is : after ≡ project_all p plan s rest = append_cancel_left b after (project_all p plan s rest)
              (ap (λ (ys : List Stmt). ys ++ after) (sym inner) ∙ sym behind_is ∙ is) in
              record {
                count = count;
                stores = stores;
                next = next;
                some = some;
                all = all;
                front = front;
                others = others;
                later = subst (λ (ys : List Stmt).
                    FollowsText p plan m ys next) after_is later;
              }

      -- A block of a later stage leaves them.
      pub read_past_block : s < t → {left : ℕ → List Item} → FollowsText p plan m (project_all p plan s (x ∷ (b ++ rest))) left →
          FollowsText p plan m (project_all p plan s rest) left
      read_past_block late {left} f =
          subst (λ (ys : List Stmt). FollowsText p plan m ys left) (project_join p plan s (x ∷ b) rest
          ∙ ap (λ (ys : List Stmt). ys ++ project_all p plan s rest) (run_gone p plan t s late (x ∷ b) quiet)) f
