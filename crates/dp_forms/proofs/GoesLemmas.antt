-- How code goes through each form of statement.
use Rattle.std.proofs.Common.{◌≡◌, ◌≢◌, refl, sym, ap, ◌∙◌, subst, ℕ, suc, ◌+◌, ◌-◌, ◌<◌, ◌≤◌, List, [], ◌∷◌, ◌++◌, ℤ, length, set, arith}
use Rattle.dp_tree.specs.declared.Stmt.{Stmt}
use Rattle.dp_tree.specs.declared.Stmt.TheVariants as stmt
use Rattle.dp_tree.specs.declared.Program.{Program}
use Rattle.dp_tree.specs.Eval.{first_cell, cell_count, place, just}
use Rattle.dp_tree.specs.Step.{Config, standing}
use Rattle.dp_meaning.specs.Places.{site_number}
use Rattle.dp_meaning.specs.steps.PlainSteps.{PlainStep}
use Rattle.dp_native.specs.Reaches.{Reaches}
use Rattle.dp_native.proofs.ReachLemmas.{one, reaches_none}
use Rattle.dp_forms.specs.Registers.{merged}
use Rattle.dp_native.specs.Element.{index_of}
use Rattle.dp_forms.specs.Values.{HasEvaluated, ValueRelation}
use Rattle.dp_forms.specs.Codes.{StandsAtSite, Goes, Runs, IsLeft, StoresElement, CodeRelation, OfSet, OfPut, OfSay, OfNothing, OfOther}
use Rattle.dp_forms.proofs.RegisterLemmas.{set_register, set_apart}
use Rattle.dp_forms.proofs.StepLemmas.{step_set, step_put, step_say}
unfoldable use Rattle.dp_forms.proofs.StepLemmas.{statement_opened}
use Rattle.dp_forms.proofs.SiteLemmas.{left_own}

-- a step costs one of the fuel
pub stepped : {p : Program} {input : List ℤ} {fuel : ℕ} {c d : Config} {out out' : List ℤ} → 1 ≤ fuel → PlainStep p input c d out out' →
    Reaches p input fuel out c (fuel - 1) out' d
stepped {p} {input} {fuel} {c} {d} {out} {out'} some step =
    let e : suc (fuel - 1) ≡ fuel = omega (arith, some) in subst (λ (k : ℕ). Reaches p input k out c (fuel - 1) out' d) e (one p input {m = fuel - 1} step)

ended : {stmts behind : List Stmt} → StandsAtSite stmts behind 0 behind
ended = record { done = λ e. refl; left = λ n. absurd (n refl) }

paused : {stmts behind to_do : List Stmt} {site : ℕ} → site ≢ 0 → IsLeft stmts behind site to_do → StandsAtSite stmts behind site to_do
paused some left = record { done = λ e. absurd (some e); left = λ n. left }

-- a single statement is left to the machine
pub stays : {p : Program} {homes : List ℕ} {input registers cells out : List ℤ} {fuel site : ℕ} (stmts behind : List Stmt) (s : Stmt) → stmts ≡ s ∷ [] →
    site_number s ≡ site → site ≢ 0 →
    Goes p homes stmts behind (stmts ++ behind) input fuel registers cells out site fuel registers cells out
stays {p} {homes} {input} {registers} {cells} {out} {fuel} {site} stmts behind s is number some =
    subst (λ (l : List Stmt). Goes p homes l behind (l ++ behind) input fuel registers cells out site fuel registers cells out) (sym is)
    (record {
      to_do = s ∷ behind;
      stands = paused some (left_own s behind site number some);
      reaches = reaches_none p input fuel out (standing p (s ∷ behind)
          (merged homes registers cells));
    })

module _ {input registers memory out : List ℤ} {fuel : ℕ} (Value : ValueRelation) (S : ℕ) where
  pub set_stays : (K : ℕ) → Runs (OfSet S K Value) input fuel registers memory out S fuel registers memory out
  unfolding statement_opened
  set_stays K p homes stmts behind is = stays stmts behind (stmt.Assign (record { 0 = S }) is.variable is.value) is.is refl is.numbered

  pub set_goes : (K : ℕ) (v : ℤ) → K < length registers → 1 ≤ fuel → HasEvaluated Value input memory registers v →
      Runs (OfSet S K Value) input fuel registers memory out 0 (fuel - 1) (set registers K v) memory out
  set_goes K v within some gives p homes stmts behind is =
      let step = step_set p input (merged homes registers memory) out behind (record { 0 = S }) is.variable is.value v
      (gives.gives p homes is.value is.value_is) in
      let stored : set (merged homes registers memory) (first_cell p is.variable) v ≡ merged homes (set registers K v) memory = set_register homes registers
      memory K (first_cell p is.variable) v is.register_is.home within in
      subst (λ (l : List Stmt). Goes p homes l behind (l ++ behind) input fuel registers memory out 0 (fuel - 1) (set registers K v) memory out) (sym is.is)
      (record {
        to_do = behind;
        stands = ended;
        reaches = subst (λ (xs : List ℤ). Reaches p input fuel out
            (standing p (stmt.Assign (record { 0 = S }) is.variable is.value ∷ behind) (merged homes registers memory)) (fuel - 1) out (standing p behind xs))
            stored (stepped some step);
      })

  pub say_stays : Runs (OfSay S Value) input fuel registers memory out S fuel registers memory out
  unfolding statement_opened
  say_stays p homes stmts behind is = stays stmts behind (stmt.Print (record { 0 = S }) is.value) is.is refl is.numbered

  pub say_goes : (v : ℤ) → 1 ≤ fuel → HasEvaluated Value input memory registers v → Runs (OfSay S Value) input fuel registers memory out 0 (fuel - 1) registers
      memory (out ++ (v ∷ []))
  say_goes v some gives p homes stmts behind is =
      let step = step_say p input (merged homes registers memory) out behind (record { 0 = S }) is.value v (gives.gives p homes is.value is.value_is) in
      subst (λ (l : List Stmt). Goes p homes l behind (l ++ behind) input fuel registers memory out 0 (fuel - 1) registers memory (out ++ (v ∷ []))) (sym is.is)
      (record { to_do = behind; stands = ended; reaches = stepped some step })

module _ {input registers memory out : List ℤ} {fuel : ℕ} (Index Value : ValueRelation) (S F C : ℕ) where
  pub put_stays : Runs (OfPut S F C Index Value) input fuel registers memory out S fuel registers memory out
  unfolding statement_opened
  put_stays p homes stmts behind is = stays stmts behind (stmt.Store (record { 0 = S }) is.variable is.index is.value) is.is refl is.numbered

  pub put_goes : {memory' : List ℤ} → 1 ≤ fuel → StoresElement Index Value F C input registers memory memory' →
      Runs (OfPut S F C Index Value) input fuel registers memory out 0 (fuel - 1) registers memory' out
  put_goes {memory'} some stored p homes stmts behind is =
      let i = stored.0 in let v = stored.1 in let put = stored.4 in
      let k = index_of i in
      let x = is.variable in
      let s = stmt.Store (record { 0 = S }) x is.index is.value in
      let placed : place i (cell_count p x) ≡ just k = subst (λ (n : ℕ). place i n ≡ just k) (sym is.array.count_is) put.placed in
      let step = step_put p input (merged homes registers memory) out behind (record { 0 = S }) x is.index is.value i v k
      (stored.2.gives p homes is.index is.index_is) (stored.3.gives p homes is.value is.value_is) placed in
      let there : set (merged homes registers memory) (first_cell p x + k) v ≡ merged homes registers memory' =
      ap (λ (n : ℕ). set (merged homes registers memory) (n + k) v) is.array.first_is ∙ set_apart homes registers memory F C k v is.array.apart put.below
      ∙ ap (λ (xs : List ℤ). merged homes registers xs) (sym put.is) in
      subst (λ (l : List Stmt). Goes p homes l behind (l ++ behind) input fuel registers memory out 0 (fuel - 1) registers memory' out) (sym is.is)
      (record {
        to_do = behind;
        stands = ended;
        reaches = subst (λ (xs : List ℤ). Reaches p input fuel out
            (standing p (s ∷ behind) (merged homes registers memory)) (fuel - 1) out (standing p behind xs)) there (stepped some step);
      })

pub other_stays : {input registers memory out : List ℤ} {fuel : ℕ} (S : ℕ) → Runs (OfOther S) input fuel registers memory out S fuel registers memory out
other_stays S p homes stmts behind is = stays stmts behind is.statement is.is is.site_is is.numbered

-- the same, at equal values
pub moved : (Is : CodeRelation) {input registers memory out registers' memory' out' registers'' memory'' out'' : List ℤ} {fuel fuel' fuel'' at at' : ℕ} →
    Runs Is input fuel registers memory out at fuel' registers' memory' out' → at' ≡ at → fuel'' ≡ fuel' → registers'' ≡ registers' → memory'' ≡ memory' →
    out'' ≡ out' → Runs Is input fuel registers memory out at' fuel'' registers'' memory'' out''
moved Is {input} {registers} {memory} {out} {registers'} {memory'} {out'} {registers''} {memory''} {out''} {fuel} {fuel'} {fuel''} {at} {at'} runs e f g h k =
    subst (λ (n : ℕ). Runs Is input fuel registers memory out n fuel'' registers'' memory'' out'') (sym e)
    (subst (λ (n : ℕ). Runs Is input fuel registers memory out at n registers'' memory'' out'') (sym f)
    (subst (λ (xs : List ℤ). Runs Is input fuel registers memory out at fuel' xs memory'' out'') (sym g)
    (subst (λ (xs : List ℤ). Runs Is input fuel registers memory out at fuel' registers' xs out'') (sym h)
    (subst (λ (xs : List ℤ). Runs Is input fuel registers memory out at fuel' registers' memory' xs) (sym k) runs))))

pub begun : (Is : CodeRelation) {input registers memory out registers' memory' out' next : List ℤ} {fuel fuel' at left : ℕ} → left ≡ fuel → next ≡ registers →
    Runs Is input left next memory out at fuel' registers' memory' out' → Runs Is input fuel registers memory out at fuel' registers' memory' out'
begun Is {input} {registers} {memory} {out} {registers'} {memory'} {out'} {next} {fuel} {fuel'} {at} {left} e f runs =
    subst (λ (n : ℕ). Runs Is input n registers memory out at fuel' registers' memory' out') e
    (subst (λ (xs : List ℤ). Runs Is input left xs memory out at fuel' registers' memory' out') f runs)

pub nothing_goes : {input registers memory out : List ℤ} {fuel : ℕ} → Runs OfNothing input fuel registers memory out 0 fuel registers memory out
nothing_goes {input} {registers} {memory} {out} {fuel} p homes stmts behind is =
    subst (λ (l : List Stmt). Goes p homes l behind (l ++ behind) input fuel registers memory out 0 fuel registers memory out) (sym is)
    (record { to_do = behind; stands = ended; reaches = reaches_none p input fuel out (standing p behind (merged homes registers memory)) })
