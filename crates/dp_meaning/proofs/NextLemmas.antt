-- The next iteration of a machine's run, from the pieces of the run.
use Rattle.dp_meaning.proofs.Names.{◌≡◌, refl, sym, ap, ◌∙◌, ℕ, zero, suc, ◌+◌, ◌-◌, ◌==◌, Bool, true, false, ◌||◌, if◌then◌else◌, List, [], ◌∷◌, ◌++◌, take}
use Rattle.dp_meaning.proofs.Names.{drop, length, All, Option, Some, None, is_some, slice_get, ℤ, eq-eqb, append-nil, arith, list_any, take-append_seam}
use Rattle.dp_meaning.proofs.Names.{All-head, All-tail, Program, Stmt, out-Stmt, Stmt-F, Config, Event, Step, Finished, Faulted, Stepped, step, Run, run_by}
use Rattle.dp_meaning.proofs.Names.{is_region, begins_with, stands_at_head, places, start, decides_zero, is_leaving, upto_leaving, last_events, closes}
use Rattle.dp_meaning.proofs.Names.{events_from, iteration, has_ended, is_closing, Part, part_from, part_of}
use Rattle.std.proofs.lemmas.Bool.{or_parts}
unfoldable use Rattle.dp_meaning.proofs.Names.{run_of}
use Rattle.dp_meaning.specs.declared.ends.Part.TheVariants as part
use Rattle.dp_tree.specs.declared.Stmt.TheOpen.{Region}
use Rattle.dp_meaning.proofs.StretchLemmas.{IsPlain}

-- whether the part is region r
abbrev pub part_is : ℕ → Part → Bool
part_is r (part.Region q) = q == r
part_is r _ = false

pub head_is : (r : ℕ) (xs : List Stmt) → begins_with r xs ≡ part_is r (part_of xs)
head_is r [] = refl
head_is r (s ∷ rest) = by (out-Stmt s)
  where
    by : (x : Stmt-F Stmt) → is_region r x ≡ part_is r (part_from x)
    by (Region q site cond a) = refl
    by _ = refl

off_plain : (r : ℕ) (c : Config) → IsPlain c → stands_at_head r c ≡ false
off_plain r c e = head_is r c.to_do ∙ ap (part_is r) e

pub on_region : (r : ℕ) (c : Config) → part_of c.to_do ≡ part.Region r → stands_at_head r c ≡ true
on_region r c e = head_is r c.to_do ∙ ap (part_is r) e ∙ eq-eqb r r refl

-- a run begins where it stands
pub run_begins : (p : Program) (input : List ℤ) (k : ℕ) (e : Config) → (more : List Config) × ((run_of p input k e).configs ≡ e ∷ more)
unfolding run_of
run_begins p input zero e = ([], refl)
run_begins p input (suc k) e = by (step p input e)
  where
    by : (s : Step) → (more : List Config) × ((run_by (run_of p input k) (suc k) e s).configs ≡ e ∷ more)
    by (Stepped event next) = ((run_of p input k next).configs, refl)
    by Finished = ([], refl)
    by (Faulted fault) = ([], refl)

meet : (r k : ℕ) (c : Config) (more : List Config) (b : Bool) → stands_at_head r c ≡ b →
    places (stands_at_head r) k (c ∷ more) ≡ (if b then k ∷ places (stands_at_head r) (suc k) more else places (stands_at_head r) (suc k) more)
meet r k c more b e = ap (λ (b : Bool). if b then k ∷ places (stands_at_head r) (suc k) more else places (stands_at_head r) (suc k) more) e

places_off : (r k : ℕ) (configs more : List Config) → All IsPlain configs → places (stands_at_head r) k (configs ++ more) ≡ places (stands_at_head r)
    (k + length configs) more
places_off r k [] more h = let same : k ≡ k + 0 = omega arith in ap (λ (i : ℕ). places (stands_at_head r) i more) same
places_off r k (c ∷ configs) more h =
    meet r k c (configs ++ more) false (off_plain r c (All-head IsPlain c configs h)) ∙ places_off r (suc k) configs more (All-tail IsPlain c configs h)
    ∙ (let same : suc k + length configs ≡ k + suc (length configs) = omega arith in ap (λ (i : ℕ). places (stands_at_head r) i more) same)

-- events of which none leaves are all of them, and those up to one that leaves stay so with others behind
upto_all : (es : List Event) → list_any is_leaving es ≡ false → upto_leaving es ≡ es
upto_all [] h = refl
upto_all (e ∷ es) h =
    let r = or_parts (is_leaving e) (list_any is_leaving es) h in
    ap (λ (b : Bool). e ∷ (if b then [] else upto_leaving es)) r.0 ∙ ap (λ (xs : List Event). e ∷ xs) (upto_all es r.1)

pub upto_front : (es more : List Event) → list_any is_leaving es ≡ true → upto_leaving (es ++ more) ≡ upto_leaving es
upto_front [] more h = absurd (cc)
upto_front (e ∷ es) more h = by (is_leaving e) h (upto_front es more)
  where
    by : (b : Bool) → (b || list_any is_leaving es) ≡ true → (list_any is_leaving es ≡ true → upto_leaving (es ++ more) ≡ upto_leaving es) →
        e ∷ (if b then [] else upto_leaving (es ++ more)) ≡ e ∷ (if b then [] else upto_leaving es)
    by true k go = refl
    by false k go = ap (λ (xs : List Event). e ∷ xs) (go k)

pub last_front : (es more : List Event) → closes es ≡ true → last_events (es ++ more) ≡ last_events es
last_front [] more c = absurd (cc)
last_front (e ∷ es) more c = by (decides_zero e.effect) c
  where
    by : (b : Bool) → (b || list_any is_leaving (e ∷ es)) ≡ true → (if b then e ∷ [] else upto_leaving (e ∷ es ++ more)) ≡ (if b then e ∷ []
        else upto_leaving (e ∷ es))
    by true k = refl
    by false k = upto_front (e ∷ es) more k

pub last_open : (es : List Event) → closes es ≡ false → last_events es ≡ es
last_open [] h = refl
last_open (e ∷ es) h =
    let r = or_parts (decides_zero e.effect) (list_any is_leaving (e ∷ es)) h in
    ap (λ (b : Bool). if b then e ∷ [] else upto_leaving (e ∷ es)) r.0 ∙ upto_all (e ∷ es) r.1

-- A run that begins at its region, with the configurations of an iteration first.
module _ (region : ℕ) (run : Run) (c : Config) (configs more : List Config) (here : part_of c.to_do ≡ part.Region region)
    (are : run.configs ≡ c ∷ configs ++ more) (plain : All IsPlain configs) where
  starts_are : (i : ℕ) → start run region i ≡ slice_get (0 ∷ places (stands_at_head region) (1 + length configs) more) i
  starts_are i = ap (λ (cs : List Config). slice_get (places (stands_at_head region) 0 cs) i) are ∙ ap (λ (ks : List ℕ). slice_get ks i)
      (meet region 0 c (configs ++ more) true (on_region region c here) ∙ ap (λ (ks : List ℕ). 0 ∷ ks) (places_off region 1 configs more plain))

  -- the next one starts behind it
  pub next_events : (d : Config) (rest : List Config) (events later : List Event) → more ≡ d ∷ rest → part_of d.to_do ≡ part.Region region →
      length events ≡ 1 + length configs → run.trace ≡ events ++ later → iteration run region 0 ≡ events
  next_events d rest events later begins again size trace =
      ap (λ (k : Option ℕ). events_from run k (start run region 1)) (starts_are 0)
      ∙ ap (events_from run (Some 0)) (starts_are 1 ∙ ap (λ (cs : List Config). slice_get (places (stands_at_head region) (1 + length configs) cs) 0) begins
      ∙ ap (λ (ks : List ℕ). slice_get ks 0) (meet region (1 + length configs) d rest true (on_region region d again)) ∙ ap Some (sym size))
      ∙ (let same : length events - 0 ≡ length events = omega arith in ap (λ (k : ℕ). take k run.trace) same) ∙ ap (take (length events)) trace
      ∙ take-append_seam events later

  -- none follows it
  pub last_iteration : (events later : List Event) → places (stands_at_head region) (1 + length configs) more ≡ [] → run.trace ≡ events ++ later →
      last_events (events ++ later) ≡ events → (start run region 1 ≡ None) × (iteration run region 0 ≡ events)
  last_iteration events later quiet trace last =
      let none : start run region 1 ≡ None = starts_are 1 ∙ ap (λ (ks : List ℕ). slice_get ks 0) quiet in (
        none,
        ap (λ (k : Option ℕ). events_from run k (start run region 1)) (starts_are 0) ∙ ap (events_from run (Some 0)) none
            ∙ (let size : 0 + length (last_events (drop 0 run.trace)) - 0 ≡ length (last_events run.trace) = omega arith in ap (λ (k : ℕ).
            take k run.trace) size)
            ∙ ap (λ (t : List Event). take (length (last_events t)) t) trace ∙ ap (λ (xs : List Event). take (length xs) (events ++ later)) last
            ∙ take-append_seam events later,
      )

  -- and it hasn't ended, where none of its events leaves
  pub open_iteration : places (stands_at_head region) (1 + length configs) more ≡ [] → closes run.trace ≡ false → has_ended run region 0 ≡ false
  open_iteration quiet c =
      let whole = sym (append-nil run.trace) in
      let is = last_iteration run.trace [] quiet whole (ap last_events (append-nil run.trace) ∙ last_open run.trace c) in
      ap (λ (k : Option ℕ). is_some k || is_closing run region 0) is.0 ∙ ap closes is.1 ∙ c
