-- What is left of a stage's words is shorter than what was there, and each event makes a word.
use Rattle.dp_semantics.proofs.Names.{◌≡◌, ap, ◌∙◌, arith, length-append, ℕ, zero, suc, ◌-◌, ◌<◌, ◌≤◌, if◌then◌else◌, List, [], ◌∷◌, length, Option, Some, None}
use Rattle.dp_semantics.proofs.Names.{Ok, Err, sum_by, slice_set, get_or, get_or_past, sum_by-set, cases_lt, inl, inr, cases_Bool, sym, Word, Stmt, Stmt-F}
use Rattle.dp_semantics.proofs.Names.{Program, Plan, Event, Effect, site_of, effect_by, words_of, is_checked, load_words, done_word, after_loads_of, is_load_of}
use Rattle.dp_semantics.proofs.Names.{is_done_of, Taken, taken_from, word_list}
use Rattle.dp_semantics.specs.Words.{Astray, done_from, taken_by}
use Rattle.dp_semantics.proofs.Taking.{word_list_is}

loads_shorter : (site : ℕ) (words : List Word) → length (after_loads_of site words) ≤ length words
loads_shorter site [] = omega arith
loads_shorter site (w ∷ words) = elim (cases_Bool (is_load_of site w)) [
  | inl q ↦ rw q (let h = loads_shorter site words in omega (arith, h))
  | inr q ↦ rw q (omega arith)
]

effect_shorter : (site : ℕ) (w : Word) (words : List Word) (o : Option Effect) (t : Taken) → taken_by site w words o ≡ Ok t → t.rest ≡ words
effect_shorter site w words None t e = absurd (cc)
effect_shorter site w words (Some effect) t e = let same : record { effect = effect; rest = words } ≡ t = cc e in ap (λ (u : Taken). u.rest) (sym same)

done_shorter : (p : Program) (head : Stmt-F Stmt) (words : List Word) (t : Taken) → done_from p head words ≡ Ok t → length t.rest < length words
done_shorter p head [] t e = absurd (cc)
done_shorter p head (w ∷ words) t e = elim (cases_Bool (is_done_of (site_of head).0 w)) [
  | inl q ↦ let same = ap length (effect_shorter (site_of head).0 w words (effect_by p head w) t (rw q at e)) in omega (arith, same)
  | inr q ↦ let clash : Err (Astray (site_of head).0 (Some w)) ≡ Ok t = rw q at e in absurd (cc clash)
]

pub taken_shorter : (p : Program) (head : Stmt-F Stmt) (words : List Word) (t : Taken) → taken_from p head words ≡ Ok t → length t.rest < length words
taken_shorter p head words t e =
    let a = done_shorter p head (after_loads_of (site_of head).0 words) t e in
    let b = loads_shorter (site_of head).0 words in
    omega (arith, a, b)

pub lists_shorter : (lists : List (List Word)) (t : ℕ) (rest : List Word) → length rest < length (word_list lists t) →
    sum_by length (slice_set lists (t - 1) rest) < sum_by length lists
lists_shorter lists zero rest h = absurd (omega (arith, h))
lists_shorter lists (suc t) rest h =
    let e : suc t - 1 ≡ t = omega arith in
    let is : word_list lists (suc t) ≡ get_or lists t [] = word_list_is lists (suc t) (omega arith) ∙ ap (λ (n : ℕ). get_or lists n []) e in
    elim (cases_lt t (length lists)) [
      | inl within ↦
          let sums = sum_by-set length lists t rest [] within in
          let same = ap length is in
          rw e (omega (arith, sums, same, h))
      | inr beyond ↦ let none = ap length (is ∙ get_or_past lists t [] beyond) in absurd (omega (arith, none, h))
    ]

pub some_word : (p : Program) (plan : Plan) (event : Event) → 0 < length (words_of p plan event)
some_word p plan event =
    omega (arith, length-append (if is_checked p plan event.site then load_words event.site event.loads else []) (done_word event.site event.effect ∷ []))
