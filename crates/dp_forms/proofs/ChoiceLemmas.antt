-- How code goes through statements one after the other, choices and loops.
use Rattle.std.proofs.Common.{◌≡◌, ◌≢◌, refl, sym, ◌∙◌, subst, ℕ, ◌-◌, ◌≤◌, true, false, List, [], ◌∷◌, ◌++◌, append_assoc, ℤ, length}
use Rattle.dp_base.specs.Arithmetic.{is_zero}
use Rattle.dp_base.specs.declared.SiteId.{SiteId}
use Rattle.dp_tree.specs.declared.Stmt.{Stmt}
use Rattle.dp_tree.specs.declared.Stmt.TheVariants as stmt
use Rattle.dp_tree.specs.declared.Program.{Program}
use Rattle.dp_tree.specs.Step.{standing}
use Rattle.dp_native.specs.Reaches.{Reaches}
use Rattle.dp_native.proofs.ReachLemmas.{reaches_none, reaches_on}
use Rattle.dp_forms.specs.Registers.{merged}
use Rattle.dp_forms.specs.Values.{HasEvaluated, ValueRelation}
use Rattle.dp_meaning.specs.Places.{site_number}
use Rattle.dp_forms.specs.Codes.{StandsAtSite, Goes, Entered, Runs, Enters, LoopRound, IsLeft, IsWhile, CodeRelation, OfSet, OfPut, OfSay, OfIf, OfWhile}
use Rattle.dp_forms.specs.Codes.{OfThen}
use Rattle.dp_forms.proofs.StepLemmas.{step_then, step_else, step_turn, step_past}
unfoldable use Rattle.dp_forms.proofs.StepLemmas.{statement_opened}
use Rattle.dp_forms.proofs.SiteLemmas.{left_own, left_in_front, left_in_back, left_in_body, left_in_then, left_in_else}
use Rattle.dp_forms.proofs.GoesLemmas.{stays, stepped}

-- the same, where what is left of a part is left of the whole
wider : {inner behind' stmts behind to_do : List Stmt} {at : ℕ} → behind' ≡ behind → (IsLeft inner behind' at to_do → IsLeft stmts behind at to_do) →
    StandsAtSite inner behind' at to_do → StandsAtSite stmts behind at to_do
wider e widen stands = record { done = λ z. stands.done z ∙ e; left = λ n. widen (stands.left n) }

module _ {input registers memory out registers' memory' out' : List ℤ} {fuel fuel' at : ℕ} (A B : CodeRelation) where
  left_there : {p : Program} {homes : List ℕ} {here front : List Stmt} (back : List Stmt) {behind : List Stmt} → at ≢ 0 →
      Goes p homes front (back ++ behind) here input fuel registers memory out at fuel' registers' memory' out' →
      Goes p homes (front ++ back) behind here input fuel registers memory out at fuel' registers' memory' out'
  left_there {p} {homes} {here} {front} back {behind} some first =
      record {
        to_do = first.to_do;
        stands = record { done = λ z. absurd (some z); left = λ n. left_in_front front back (first.stands.left n) };
        reaches = first.reaches;
      }

  pub then_left : at ≢ 0 → Runs A input fuel registers memory out at fuel' registers' memory' out' →
      Runs (OfThen A B) input fuel registers memory out at fuel' registers' memory' out'
  then_left some first p homes stmts behind is =
      subst (λ (l : List Stmt). Goes p homes l behind (l ++ behind) input fuel registers memory out at fuel' registers' memory' out') (sym is.is)
      (subst (λ (l : List Stmt). Goes p homes (is.front ++ is.back) behind l input fuel registers memory out at fuel' registers' memory' out')
      (sym (append_assoc is.front is.back behind))
      (left_there is.back some (first p homes is.front (is.back ++ behind) is.first_is)))

  pub then_entered : {site : ℕ} → at ≢ 0 → Enters A site input fuel registers memory out at fuel' registers' memory' out' →
      Enters (OfThen A B) site input fuel registers memory out at fuel' registers' memory' out'
  then_entered {site} some first p homes stmts behind is =
      let entered = first p homes is.front (is.back ++ behind) is.first_is in
      subst (λ (l : List Stmt). Entered p homes l behind site input fuel registers memory out at fuel' registers' memory' out') (sym is.is)
      (record {
        here = entered.here;
        is_here = left_in_front is.front is.back entered.is_here;
        plain = entered.plain;
        goes = left_there is.back some entered.goes;
      })

  pub then_behind : {site : ℕ} → Enters B site input fuel registers memory out at fuel' registers' memory' out' →
      Enters (OfThen A B) site input fuel registers memory out at fuel' registers' memory' out'
  then_behind {site} second p homes stmts behind is =
      let entered = second p homes is.back behind is.second_is in
      subst (λ (l : List Stmt). Entered p homes l behind site input fuel registers memory out at fuel' registers' memory' out') (sym is.is)
      (record {
        here = entered.here;
        is_here = left_in_back is.front is.back entered.is_here;
        plain = entered.plain;
        goes = record { to_do = entered.goes.to_do; stands = wider refl (left_in_back is.front is.back) entered.goes.stands; reaches = entered.goes.reaches };
      })

module _ {input registers memory out registers' memory' out' registers'' memory'' out'' : List ℤ} {fuel fuel' fuel'' at at' : ℕ} (A B : CodeRelation) where
  -- the second part goes on from where the first one ended
  gone_on : {p : Program} {homes : List ℕ} {here front back behind : List Stmt} → at ≡ 0 → Goes p homes front (back ++ behind) here input fuel registers memory
      out at fuel' registers' memory' out' →
      Goes p homes back behind (back ++ behind) input fuel' registers' memory' out' at' fuel'' registers'' memory'' out'' →
      Goes p homes (front ++ back) behind here input fuel registers memory out at' fuel'' registers'' memory'' out''
  gone_on {p} {homes} {here} {front} {back} {behind} zero first second =
      record {
        to_do = second.to_do;
        stands = wider refl (left_in_back front back) second.stands;
        reaches = reaches_on p input (subst (λ (l : List Stmt). Reaches p input fuel out (standing p here (merged homes registers memory)) fuel' out'
            (standing p l (merged homes registers' memory'))) (first.stands.done zero) first.reaches) second.reaches;
      }

  pub then_runs : at ≡ 0 → length memory' ≡ length memory → Runs A input fuel registers memory out at fuel' registers' memory' out' →
      Runs B input fuel' registers' memory' out' at' fuel'' registers'' memory'' out'' →
      Runs (OfThen A B) input fuel registers memory out at' fuel'' registers'' memory'' out''
  then_runs zero long first second p homes stmts behind is =
      let second_is : B p homes (length memory') is.back = subst (λ (n : ℕ). B p homes n is.back) (sym long) is.second_is in
      subst (λ (l : List Stmt). Goes p homes l behind (l ++ behind) input fuel registers memory out at' fuel'' registers'' memory'' out'') (sym is.is)
      (subst (λ (l : List Stmt). Goes p homes (is.front ++ is.back) behind l input fuel registers memory out at' fuel'' registers'' memory'' out'')
      (sym (append_assoc is.front is.back behind))
      (gone_on zero (first p homes is.front (is.back ++ behind) is.first_is) (second p homes is.back behind second_is)))

  pub then_enters : {site : ℕ} → at ≡ 0 → length memory' ≡ length memory → Enters A site input fuel registers memory out at fuel' registers' memory' out' →
      Runs B input fuel' registers' memory' out' at' fuel'' registers'' memory'' out'' →
      Enters (OfThen A B) site input fuel registers memory out at' fuel'' registers'' memory'' out''
  then_enters {site} zero long first second p homes stmts behind is =
      let second_is : B p homes (length memory') is.back = subst (λ (n : ℕ). B p homes n is.back) (sym long) is.second_is in
      let entered = first p homes is.front (is.back ++ behind) is.first_is in
      subst (λ (l : List Stmt). Entered p homes l behind site input fuel registers memory out at' fuel'' registers'' memory'' out'') (sym is.is)
      (record {
        here = entered.here;
        is_here = left_in_front is.front is.back entered.is_here;
        plain = entered.plain;
        goes = gone_on zero entered.goes (second p
            homes is.back behind second_is);
      })

module _ {input registers memory out : List ℤ} {fuel : ℕ} (Condition : ValueRelation) (A B : CodeRelation) (S : ℕ) where
  pub if_stays : Runs (OfIf S Condition A B) input fuel registers memory out S fuel registers memory out
  unfolding statement_opened
  if_stays p homes stmts behind is = stays stmts behind (stmt.If (record { 0 = S }) is.condition is.then_part is.else_part) is.is refl is.numbered

module _ {input registers memory out registers' memory' out' : List ℤ} {fuel fuel' at : ℕ} (Condition : ValueRelation) (A B : CodeRelation) (S : ℕ) where
  pub if_then : (v : ℤ) → 1 ≤ fuel → is_zero v ≡ false → HasEvaluated Condition input memory registers v →
      Runs A input (fuel - 1) registers memory out at fuel' registers' memory' out' → Runs (OfIf S Condition A B) input fuel registers memory out at fuel'
      registers' memory' out'
  if_then v some test gives runs p homes stmts behind is =
      let step = step_then p input (merged homes registers memory) out behind (record { 0 = S }) is.condition v
      (gives.gives p homes is.condition is.condition_is) is.then_part is.else_part test in
      let goes = runs p homes is.then_part behind is.then_is in
      subst (λ (l : List Stmt). Goes p homes l behind (l ++ behind) input fuel registers memory out at fuel' registers' memory' out') (sym is.is)
      (record {
        to_do = goes.to_do;
        stands = wider refl (left_in_then (record { 0 = S }) is.condition is.then_part
            is.else_part) goes.stands;
        reaches = reaches_on p input (stepped some step) goes.reaches;
      })

  pub if_else : (v : ℤ) → 1 ≤ fuel → is_zero v ≡ true → HasEvaluated Condition input memory registers v →
      Runs B input (fuel - 1) registers memory out at fuel' registers' memory' out' → Runs (OfIf S Condition A B) input fuel registers memory out at fuel'
      registers' memory' out'
  if_else v some test gives runs p homes stmts behind is =
      let step = step_else p input (merged homes registers memory) out behind (record { 0 = S }) is.condition v
      (gives.gives p homes is.condition is.condition_is) is.then_part is.else_part test in
      let goes = runs p homes is.else_part behind is.else_is in
      subst (λ (l : List Stmt). Goes p homes l behind (l ++ behind) input fuel registers memory out at fuel' registers' memory' out') (sym is.is)
      (record {
        to_do = goes.to_do;
        stands = wider refl (left_in_else (record { 0 = S }) is.condition is.then_part
            is.else_part) goes.stands;
        reaches = reaches_on p input (stepped some step) goes.reaches;
      })

module _ {input registers memory out : List ℤ} {fuel : ℕ} (Condition : ValueRelation) (A : CodeRelation) (S : ℕ) where
  pub kept_none : LoopRound (OfWhile S Condition A) input fuel registers memory out fuel registers memory out
  kept_none = record { reaches = λ p homes stmts behind is. reaches_none p input fuel out (standing p (stmts ++ behind) (merged homes registers memory)) }

module _ {input registers memory out registers' memory' out' : List ℤ} {fuel fuel' : ℕ} (Condition : ValueRelation) (A : CodeRelation) (S : ℕ) where
  -- the loop stands at its head, with these turns behind it
  module _ (kept : LoopRound (OfWhile S Condition A) input fuel registers memory out fuel' registers' memory' out')
      (long : length memory' ≡ length memory) where
    pub while_stays : Runs (OfWhile S Condition A) input fuel registers memory out S fuel' registers' memory' out'
    unfolding statement_opened
    while_stays p homes stmts behind is =
        let s = stmt.While (record { 0 = S }) is.condition is.body in
        let at_head = stays {p = p} {homes = homes} {input = input} {registers = registers'} {cells = memory'} {out = out'} {fuel = fuel'} {site = S} stmts
        behind s is.is refl is.numbered in
        record { to_do = at_head.to_do; stands = at_head.stands; reaches = reaches_on p input (kept.reaches p homes stmts behind is) at_head.reaches }

    module _ (v : ℤ) (some : 1 ≤ fuel') (gives : HasEvaluated Condition input memory' registers' v) where
      pub while_past : is_zero v ≡ true → Runs (OfWhile S Condition A) input fuel registers memory out 0 (fuel' - 1) registers' memory' out'
      while_past test p homes stmts behind is =
          let condition_is : Condition p homes (length memory') is.condition = subst (λ (n : ℕ). Condition p homes n is.condition) (sym long) is.condition_is in
          let step = step_past p input (merged homes registers' memory') out' behind (record { 0 = S }) is.condition v
          (gives.gives p homes is.condition condition_is) is.body test in
          let last = subst (λ (l : List Stmt). Reaches p input fuel' out' (standing p (l ++ behind) (merged homes registers' memory')) (fuel' - 1) out'
          (standing p behind (merged homes registers' memory'))) (sym is.is) (stepped some step) in
          record {
            to_do = behind;
            stands = record { done = λ e. refl; left = λ n. absurd (n refl) };
            reaches = reaches_on p input (kept.reaches p homes
                stmts behind is) last;
          }

      module _ {registers'' memory'' out'' : List ℤ} {fuel'' at : ℕ} (test : is_zero v ≡ false)
          (runs : Runs A input (fuel' - 1) registers' memory' out' at fuel'' registers'' memory'' out'') where
        -- the turn: through the condition, and through the body as far as it went
        turn : (p : Program) (homes : List ℕ) (stmts behind : List Stmt)
            (is : IsWhile S (Condition p homes (length memory)) (A p homes (length memory)) stmts) →
            Goes p homes is.body (stmt.While (record { 0 = S }) is.condition is.body ∷ behind) (stmt.While (record { 0 = S }) is.condition is.body ∷ behind)
            input fuel' registers' memory' out' at fuel'' registers'' memory'' out''
        turn p homes stmts behind is =
            let s = stmt.While (record { 0 = S }) is.condition is.body in
            let condition_is : Condition p homes (length memory') is.condition = subst (λ (n : ℕ). Condition p homes n is.condition)
            (sym long) is.condition_is in
            let body_is : A p homes (length memory') is.body = subst (λ (n : ℕ). A p homes n is.body) (sym long) is.body_is in
            let step = step_turn p input (merged homes registers' memory') out' behind (record { 0 = S }) is.condition v
            (gives.gives p homes is.condition condition_is) is.body test in
            let goes = runs p homes is.body (s ∷ behind) body_is in
            record { to_do = goes.to_do; stands = goes.stands; reaches = reaches_on p input (stepped some step) goes.reaches }

        pub kept_more : at ≡ 0 → LoopRound (OfWhile S Condition A) input fuel registers memory out fuel'' registers'' memory'' out''
        kept_more zero = record {
          reaches = λ p homes stmts behind is.
              let goes = turn p homes stmts behind is in
              let s = stmt.While (record { 0 = S }) is.condition is.body in
              let there : goes.to_do ≡ s ∷ behind = goes.stands.done zero in
              let last = subst (λ (l : List Stmt). Reaches p input fuel' out' (standing p (s ∷ behind) (merged homes registers' memory')) fuel'' out''
              (standing p l (merged homes registers'' memory''))) there goes.reaches in
              reaches_on p input (kept.reaches p homes stmts behind is)
              (subst (λ (l : List Stmt). Reaches p input fuel' out' (standing p (l ++ behind) (merged homes registers' memory')) fuel'' out''
              (standing p (l ++ behind) (merged homes registers'' memory''))) (sym is.is) last);
        }

        pub while_left : at ≢ 0 → Runs (OfWhile S Condition A) input fuel registers memory out at fuel'' registers'' memory'' out''
        while_left n p homes stmts behind is =
            let goes = turn p homes stmts behind is in
            let left = left_in_body (record { 0 = S }) is.condition (goes.stands.left n) in
            let last = subst (λ (l : List Stmt). Reaches p input fuel' out' (standing p (l ++ behind) (merged homes registers' memory')) fuel'' out''
            (standing p goes.to_do (merged homes registers'' memory''))) (sym is.is) goes.reaches in
            record {
              to_do = goes.to_do;
              stands = record { done = λ z. absurd (n z); left = λ m. subst (λ (l : List Stmt). IsLeft l behind at goes.to_do) (sym is.is) left };
              reaches = reaches_on p input (kept.reaches p homes stmts behind is) last;
            }

  -- entered at its own head, the loop runs
  pub while_enters : {at : ℕ} → Runs (OfWhile S Condition A) input fuel registers memory out at fuel' registers' memory' out' →
      Enters (OfWhile S Condition A) S input fuel registers memory out at fuel' registers' memory' out'
  unfolding statement_opened
  while_enters runs p homes stmts behind is =
      let s = stmt.While (record { 0 = S }) is.condition is.body in
      record {
        here = stmts ++ behind;
        is_here = subst (λ (l : List Stmt). IsLeft l behind S (l ++ behind)) (sym is.is) (left_own s behind S refl
            is.numbered);
        plain = λ xs. subst (λ (l : List Stmt). standing p (l ++ behind) xs ≡ record { to_do = l ++ behind; cells = xs }) (sym is.is) refl;
        goes = runs p homes stmts behind is;
      }

-- entered at a site inside, a form goes on from there
module _ {input registers memory out registers' memory' out' : List ℤ} {fuel fuel' at site : ℕ} (Condition : ValueRelation) (A B : CodeRelation) (S : ℕ) where
  pub if_enters_then : Enters A site input fuel registers memory out at fuel' registers' memory' out' →
      Enters (OfIf S Condition A B) site input fuel registers memory out at fuel' registers' memory' out'
  if_enters_then first p homes stmts behind is =
      let own : SiteId = record { 0 = S } in
      let entered = first p homes is.then_part behind is.then_is in
      subst (λ (l : List Stmt). Entered p homes l behind site input fuel registers memory out at fuel' registers' memory' out') (sym is.is)
      (record {
        here = entered.here;
        is_here = left_in_then own is.condition is.then_part is.else_part entered.is_here;
        plain = entered.plain;
        goes = record {
          to_do = entered.goes.to_do;
          stands = wider refl (left_in_then own is.condition is.then_part
              is.else_part) entered.goes.stands;
          reaches = entered.goes.reaches;
        };
      })

  pub if_enters_else : Enters B site input fuel registers memory out at fuel' registers' memory' out' →
      Enters (OfIf S Condition A B) site input fuel registers memory out at fuel' registers' memory' out'
  if_enters_else second p homes stmts behind is =
      let own : SiteId = record { 0 = S } in
      let entered = second p homes is.else_part behind is.else_is in
      subst (λ (l : List Stmt). Entered p homes l behind site input fuel registers memory out at fuel' registers' memory' out') (sym is.is)
      (record {
        here = entered.here;
        is_here = left_in_else own is.condition is.then_part is.else_part entered.is_here;
        plain = entered.plain;
        goes = record {
          to_do = entered.goes.to_do;
          stands = wider refl (left_in_else own is.condition is.then_part
              is.else_part) entered.goes.stands;
          reaches = entered.goes.reaches;
        };
      })

  pub while_entered : at ≢ 0 → Enters A site input fuel registers memory out at fuel' registers' memory' out' →
      Enters (OfWhile S Condition A) site input fuel registers memory out at fuel' registers' memory' out'
  while_entered n first p homes stmts behind is =
      let own : SiteId = record { 0 = S } in
      let s = stmt.While own is.condition is.body in
      let entered = first p homes is.body (s ∷ behind) is.body_is in
      subst (λ (l : List Stmt). Entered p homes l behind site input fuel registers memory out at fuel' registers' memory' out') (sym is.is)
      (record {
        here = entered.here;
        is_here = left_in_body own is.condition entered.is_here;
        plain = entered.plain;
        goes = record {
          to_do = entered.goes.to_do;
          stands = record {
            done = λ z. absurd (n
                z);
            left = λ m. left_in_body own is.condition (entered.goes.stands.left m);
          };
          reaches = entered.goes.reaches;
        };
      })

module _ {input registers memory out registers' memory' out' registers'' memory'' out'' : List ℤ} {fuel fuel' fuel'' at at' site : ℕ}
    (Condition : ValueRelation) (A B : CodeRelation) (S : ℕ) where
  -- the body was entered and ended, and the loop goes on
  pub while_enters_body : at ≡ 0 → length memory' ≡ length memory → Enters A site input fuel registers memory out at fuel' registers' memory' out' →
      Runs (OfWhile S Condition A) input fuel' registers' memory' out' at' fuel'' registers'' memory'' out'' →
      Enters (OfWhile S Condition A) site input fuel registers memory out at' fuel'' registers'' memory'' out''
  while_enters_body zero long first runs p homes stmts behind is =
      let own : SiteId = record { 0 = S } in
      let s = stmt.While own is.condition is.body in
      let entered = first p homes is.body (s ∷ behind) is.body_is in
      let there : IsWhile S (Condition p homes (length memory')) (A p homes (length memory')) stmts = subst
      (λ (n : ℕ). IsWhile S (Condition p homes n) (A p homes n) stmts) (sym long) is in
      let goes = runs p homes stmts behind there in
      let begun = subst (λ (l : List Stmt). Reaches p input fuel' out' (standing p (l ++ behind) (merged homes registers' memory')) fuel'' out''
      (standing p goes.to_do (merged homes registers'' memory''))) is.is goes.reaches in
      let first_turn = subst (λ (l : List Stmt). Reaches p input fuel out (standing p entered.here (merged homes registers memory)) fuel' out'
      (standing p l (merged homes registers' memory'))) (entered.goes.stands.done zero) entered.goes.reaches in
      record {
        here = entered.here;
        is_here = subst (λ (l : List Stmt). IsLeft l behind site entered.here) (sym is.is) (left_in_body own is.condition entered.is_here);
        plain = entered.plain;
        goes = record { to_do = goes.to_do; stands = goes.stands; reaches = reaches_on p input first_turn begun };
      }

-- the second of two was entered, where the first changed nothing
pub entered_at : (Is : CodeRelation) {input registers memory out memory0 out0 registers' memory' out' : List ℤ} {fuel fuel' at site : ℕ} → memory ≡ memory0 →
    out ≡ out0 → Enters Is site input fuel registers memory out at fuel' registers' memory' out' →
    Enters Is site input fuel registers memory0 out0 at fuel' registers' memory' out'
entered_at Is {input} {registers} {memory} {out} {memory0} {out0} {registers'} {memory'} {out'} {fuel} {fuel'} {at} {site} e f enters =
    subst (λ (xs : List ℤ). Enters Is site input fuel registers xs out0 at fuel' registers' memory' out') e
    (subst (λ (xs : List ℤ). Enters Is site input fuel registers memory xs at fuel' registers' memory' out') f enters)

-- one statement, at whose own site code can be entered
pub record Own (stmts : List Stmt) (site : ℕ) : Type 0 where
  pub statement : Stmt
  pub is : stmts ≡ statement ∷ []
  pub number : site_number statement ≡ site
  pub some : site ≢ 0
  pub plain : (p : Program) (behind : List Stmt) (xs : List ℤ) → standing p (statement ∷ behind) xs ≡ record { to_do = statement ∷ behind; cells = xs }

pub own_enters : (Is : CodeRelation) (S : ℕ) → ((p : Program) (homes : List ℕ) (size : ℕ) (stmts : List Stmt) → Is p homes size stmts → Own stmts S) →
    {input registers memory out registers' memory' out' : List ℤ} {fuel fuel' at : ℕ} →
    Runs Is input fuel registers memory out at fuel' registers' memory' out' → Enters Is S input fuel registers memory out at fuel' registers' memory' out'
own_enters Is S own {memory = memory} runs p homes stmts behind is =
    let o = own p homes (length memory) stmts is in
    record {
      here = stmts ++ behind;
      is_here = subst (λ (l : List Stmt). IsLeft l behind S (l ++ behind)) (sym o.is) (left_own o.statement behind S o.number o.some);
      plain = λ xs. subst (λ (l : List Stmt). standing p (l ++ behind) xs ≡ record { to_do = l ++ behind; cells = xs }) (sym o.is) (o.plain p behind xs);
      goes = runs p homes stmts behind is;
    }

pub own_set : (S K : ℕ) (Value : ValueRelation) (p : Program) (homes : List ℕ) (size : ℕ) (stmts : List Stmt) → OfSet S K Value p homes size stmts → Own stmts S
unfolding statement_opened
own_set S K Value p homes size stmts is =
    record { statement = stmt.Assign (record { 0 = S }) is.variable is.value; is = is.is; number = refl; some = is.numbered; plain = λ q behind xs. refl }

pub own_put : (S F C : ℕ) (Index Value : ValueRelation) (p : Program) (homes : List ℕ) (size : ℕ) (stmts : List Stmt) →
    OfPut S F C Index Value p homes size stmts → Own stmts S
unfolding statement_opened
own_put S F C Index Value p homes size stmts is =
    record {
      statement = stmt.Store (record { 0 = S }) is.variable is.index is.value;
      is = is.is;
      number = refl;
      some = is.numbered;
      plain = λ q behind xs. refl;
    }

pub own_say : (S : ℕ) (Value : ValueRelation) (p : Program) (homes : List ℕ) (size : ℕ) (stmts : List Stmt) → OfSay S Value p homes size stmts → Own stmts S
unfolding statement_opened
own_say S Value p homes size stmts is =
    record { statement = stmt.Print (record { 0 = S }) is.value; is = is.is; number = refl; some = is.numbered; plain = λ q behind xs. refl }

pub own_if : (S : ℕ) (Condition : ValueRelation) (A B : CodeRelation) (p : Program) (homes : List ℕ) (size : ℕ) (stmts : List Stmt) →
    OfIf S Condition A B p homes size stmts → Own stmts S
unfolding statement_opened
own_if S Condition A B p homes size stmts is =
    record {
      statement = stmt.If (record { 0 = S }) is.condition is.then_part is.else_part;
      is = is.is;
      number = refl;
      some = is.numbered;
      plain = λ q behind xs. refl;
    }
