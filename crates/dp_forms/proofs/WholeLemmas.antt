-- The code of a whole program, between two places of the machine.
use Rattle.std.proofs.Common.{◌≡◌, ◌≢◌, refl, sym, ap, ◌∙◌, subst, ℕ, zero, suc, ◌+◌, ◌-◌, ◌<◌, ◌≤◌, List, [], ◌∷◌, map, drop, take, ℤ, pos, length, get_or}
use Rattle.std.proofs.Common.{set, ◌⊎◌, inl, inr, arith}
use Rattle.std.proofs.lemmas.List.{set-get_or, length-map, get_or_past, take_all, set_past, get_or-set_same, get_or-set_other}
use Rattle.std.proofs.lemmas.Bool.{cases_lt}
use Rattle.dp_tree.specs.declared.Stmt.{Stmt, out-Stmt}
use Rattle.dp_tree.specs.declared.Stmt.TheOpen.{Stmt-F, Region}
use Rattle.dp_tree.specs.declared.Program.{Program}
use Rattle.dp_tree.specs.Inlined.{IsInlined}
use Rattle.dp_tree.specs.Numbering.{numbers_from}
use Rattle.dp_tree.specs.Step.{Config, standing, cleared_at}
use Rattle.dp_meaning.specs.Places.{rests, config_at}
unfoldable use Rattle.dp_meaning.specs.Places.{rest_at}
use Rattle.dp_meaning.proofs.RestLemmas.{numbers_all}
use Rattle.dp_native.specs.Reaches.{Reaches}
use Rattle.dp_native.proofs.ReachLemmas.{reaches_none}
use Rattle.dp_meaning.specs.declared.ends.Part.TheVariants.{Plain}
use Rattle.dp_meaning.specs.MachineState.{part_of, part_from}
unfoldable use Rattle.dp_forms.specs.Registers.{merged}
use Rattle.dp_forms.specs.Codes.{Among, here, later, IsLeft, Enters, CodeRelation, IsWhole, first_number}

-- in lists whose heads are numbered in order, one stands at its number
record At (n : ℕ) (x : List Stmt) (xs : List (List Stmt)) : Type 0 where
  from : n ≤ first_number x
  is : get_or xs (first_number x - n) [] ≡ x

heads : (m n : ℕ) (ms ns : List ℕ) → m ∷ ms ≡ n ∷ ns → m ≡ n
heads m n ms ns e = cc

tails : (m n : ℕ) (ms ns : List ℕ) → m ∷ ms ≡ n ∷ ns → ms ≡ ns
tails m n ms ns e = cc

at_number : {x : List Stmt} {xs : List (List Stmt)} (n count : ℕ) → map first_number xs ≡ numbers_from n count → Among x xs → At n x xs
at_number n zero e here = absurd (cc e)
at_number n zero e (later a) = absurd (cc e)
at_number {x} n (suc count) e (here {xs = rest}) =
    let own : first_number x ≡ n = heads (first_number x) n (map first_number rest) (numbers_from (n + 1) count) e in
    let none : first_number x - n ≡ 0 = omega (arith, own) in
    record { from = omega (arith, own); is = rw none refl }
at_number {x} n (suc count) e (later {y = y} {xs = rest} a) =
    let more : At (n + 1) x rest = at_number (n + 1) count (tails (first_number y) n (map first_number rest) (numbers_from (n + 1) count) e) a in
    let next : first_number x - n ≡ suc (first_number x - (n + 1)) = omega (arith, more.from) in
    record { from = omega (arith, more.from); is = rw next more.is }

module _ (p : Program) (inlined : IsInlined p) where
  numbered : map first_number (rests p.main []) ≡ numbers_from 1 (length p.sites)
  numbered = numbers_all p.main [] ∙ inlined.sites

  pub place_is : {site : ℕ} {to_do : List Stmt} → IsLeft p.main [] site to_do → rest_at p (site - 1) ≡ to_do
  unfolding rest_at
  place_is {site} {to_do} left =
      subst (λ (n : ℕ). get_or (rests p.main []) (n - 1) [] ≡ to_do) left.site_is (at_number 1 (length p.sites) numbered left.among).is

  length_numbers : (n count : ℕ) → length (numbers_from n count) ≡ count
  length_numbers n zero = refl
  length_numbers n (suc count) = let more = length_numbers (n + 1) count in ap (λ (k : ℕ). suc k) more

  pub end_is : rest_at p (length p.sites) ≡ []
  unfolding rest_at
  end_is =
      let count : length (rests p.main []) ≡ length p.sites = sym (length-map (rests p.main []) first_number) ∙ ap (λ (ns : List ℕ). length ns) numbered
      ∙ length_numbers 1 (length p.sites) in
      get_or_past (rests p.main []) (length p.sites) [] (omega (arith, count))

-- registers that hold what stands in their home cells
pub merged_same : (homes : List ℕ) (values cells : List ℤ) → ((k : ℕ) → k < length homes → get_or values k (pos 0) ≡ get_or cells (get_or homes k 0) (pos 0)) →
    length values ≤ length homes → merged homes values cells ≡ cells
unfolding merged
merged_same [] values cells same long = refl
merged_same (home ∷ homes) [] cells same long = refl
merged_same (home ∷ homes) (value ∷ values) cells same long =
    let first : value ≡ get_or cells home (pos 0) = same 0 (omega arith) in
    let rest : merged homes values cells ≡ cells = merged_same homes values cells (λ k below. same (suc k) (omega (arith, below))) (omega (arith, long)) in
    ap (λ (xs : List ℤ). set xs home value) rest ∙ ap (λ (v : ℤ). set cells home v) first ∙ set-get_or cells home (pos 0)

zero_or : (n : ℕ) → (n ≡ 0) ⊎ (n ≢ 0)
zero_or zero = inl refl
zero_or (suc n) = inr (λ (e : suc n ≡ 0). absurd (omega (arith, e)))

-- one more register holds what stands in its home cell
pub loaded_more : (homes : List ℕ) (registers cells : List ℤ) (k : ℕ) (v : ℤ) →
    ((j : ℕ) → j < k → get_or registers j (pos 0) ≡ get_or cells (get_or homes j 0) (pos 0)) → k < length registers →
    v ≡ get_or cells (get_or homes k 0) (pos 0) →
    (j : ℕ) → j < k + 1 → get_or (set registers k v) j (pos 0) ≡ get_or cells (get_or homes j 0) (pos 0)
loaded_more homes registers cells k v before within is j below = elim (cases_lt j k) [
  | inl less ↦ get_or-set_other registers k j v (pos 0) (λ (e : j ≡ k). absurd (omega (arith, less, e))) ∙ before j less
  | inr more ↦
      let same : j ≡ k = omega (arith, below, more) in
      subst (λ (i : ℕ). get_or (set registers k v) i (pos 0) ≡ get_or cells (get_or homes i 0) (pos 0)) (sym same)
      (get_or-set_same registers k v (pos 0) within ∙ is)
]

-- the registers are put into their home cells from the last one on
pub put_no_home : (homes : List ℕ) (values cells : List ℤ) → length homes < 1 → cells ≡ merged homes values cells
unfolding merged
put_no_home [] values cells none = refl
put_no_home (home ∷ homes) values cells none = absurd (omega (arith, none))

pub put_no_value : (homes : List ℕ) (values cells : List ℤ) → length values < 1 → cells ≡ merged homes values cells
unfolding merged
put_no_value [] values cells none = refl
put_no_value (home ∷ homes) [] cells none = refl
put_no_value (home ∷ homes) (value ∷ values) cells none = absurd (omega (arith, none))

rest_all : {X : Type 0} (xs : List X) → take (length xs - 1) (drop 1 xs) ≡ drop 1 xs
rest_all [] = refl
rest_all (x ∷ xs) = let e : suc (length xs) - 1 ≡ length xs = omega arith in let fits : length xs ≤ length xs = omega arith in
    rw e (take_all (length xs) xs fits)

pub put_more : (homes : List ℕ) (values cells rest : List ℤ) → 1 ≤ length homes → 1 ≤ length values → rest ≡ merged (take (length homes - 1) (drop 1 homes))
    (take (length values - 1) (drop 1 values)) cells → set rest (get_or homes 0 0) (get_or values 0 (pos 0)) ≡ merged homes values cells
unfolding merged
put_more [] values cells rest some more is = absurd (omega (arith, some))
put_more (home ∷ homes) [] cells rest some more is = absurd (omega (arith, more))
put_more (home ∷ homes) (value ∷ values) cells rest some more is =
    ap (λ (xs : List ℤ). set xs home value) (subst (λ (hs : List ℕ). rest ≡ merged hs values cells) (rest_all (home ∷ homes))
    (subst (λ (vs : List ℤ). rest ≡ merged (take (length (home ∷ homes) - 1) (drop 1 (home ∷ homes))) vs cells) (rest_all (value ∷ values)) is))

pub put_outside : (homes : List ℕ) (values cells rest : List ℤ) → 1 ≤ length homes → 1 ≤ length values → rest ≡ merged (take (length homes - 1) (drop 1 homes))
    (take (length values - 1) (drop 1 values)) cells → length rest ≤ get_or homes 0 0 → rest ≡ merged homes values cells
put_outside homes values cells rest some more is past =
    sym (set_past rest (get_or homes 0 0) (get_or values 0 (pos 0)) past) ∙ put_more homes values cells rest some more is

-- where no region is next, nothing is to be cleared
uncleared : (p : Program) (h : Stmt-F Stmt) (cells : List ℤ) → part_from h ≡ Plain → cleared_at p h cells ≡ cells
uncleared p (Region r site cond body) cells e = absurd (cc e)
uncleared p _ cells e = refl

stands_so : (p : Program) (to_do : List Stmt) (cells : List ℤ) → part_of to_do ≡ Plain → standing p to_do cells ≡ record { to_do = to_do; cells = cells }
stands_so p [] cells plain = refl
stands_so p (s ∷ rest) cells plain = ap (λ (xs : List ℤ). record { to_do = s ∷ rest; cells = xs }) (uncleared p (out-Stmt s) cells plain)

pub idle : {input out : List ℤ} {fuel : ℕ} (p : Program) (place : ℕ) (cells : List ℤ) → part_of (rest_at p place) ≡ Plain →
    Reaches p input fuel out (config_at p (record { place = place; cells = cells })) fuel out (standing p (rest_at p place) cells)
idle {input} {out} {fuel} p place cells plain =
    subst (λ (c : Config). Reaches p input fuel out (record { to_do = rest_at p place; cells = cells }) fuel out c)
    (sym (stands_so p (rest_at p place) cells plain)) (reaches_none p input fuel out (record { to_do = rest_at p place; cells = cells }))

-- the code was entered at a place, and went on from there
pub gone : {Main : CodeRelation} {input registers memory out registers' memory' out' cells' : List ℤ} {homes : List ℕ} {fuel fuel' at size sites : ℕ}
    (place place' : ℕ) →
    Enters Main (place + 1) input fuel registers memory out at fuel' registers' memory' out' → length memory ≡ size → merged homes registers memory ≡ memory →
    cells' ≡ merged homes registers' memory' →
    (at ≡ 0 → place' ≡ sites) → (at ≢ 0 → place' ≡ at - 1) →
    (p : Program) → IsInlined p → IsWhole Main homes size sites p → Reaches p input fuel out (config_at p (record { place = place; cells = memory })) fuel' out'
    (standing p (rest_at p place') cells')
gone {Main} {input} {registers} {memory} {out} {registers'} {memory'} {out'} {cells'} {homes} {fuel} {fuel'} {at} {size} {sites} place place' enters long same
    back ends leaves p inlined whole =
    let is : Main p homes (length memory) p.main = subst (λ (n : ℕ). Main p homes n p.main) (sym long) whole.main_is in
    let entered = enters p homes p.main [] is in
    let own : place + 1 - 1 ≡ place = omega arith in
    let here_is : rest_at p place ≡ entered.here = ap (λ (k : ℕ). rest_at p k) (sym own) ∙ place_is p inlined entered.is_here in
    let there_is : rest_at p place' ≡ entered.goes.to_do = elim (zero_or at) [
      | inl none ↦ ap (λ (k : ℕ). rest_at p k) (ends none ∙ sym whole.sites_are) ∙ end_is p inlined ∙ sym (entered.goes.stands.done none)
      | inr some ↦ ap (λ (k : ℕ). rest_at p k) (leaves some) ∙ place_is p inlined (entered.goes.stands.left some)
    ] in
    subst (λ (l : List Stmt). Reaches p input fuel out (record { to_do = l; cells = memory }) fuel' out' (standing p (rest_at p place') cells')) (sym here_is)
    (subst (λ (l : List Stmt). Reaches p input fuel out (record { to_do = entered.here; cells = memory }) fuel' out' (standing p l cells')) (sym there_is)
    (subst (λ (xs : List ℤ). Reaches p input fuel out (record { to_do = entered.here; cells = memory }) fuel' out'
    (standing p entered.goes.to_do xs)) (sym back)
    (subst (λ (c : Config). Reaches p input fuel out c fuel' out' (standing p entered.goes.to_do (merged homes registers' memory'))) (entered.plain memory)
    (subst (λ (xs : List ℤ). Reaches p input fuel out (standing p entered.here xs) fuel' out' (standing p entered.goes.to_do (merged homes registers' memory')))
    same entered.goes.reaches))))
