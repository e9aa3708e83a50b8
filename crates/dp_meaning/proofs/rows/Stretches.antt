-- Two stretches of steps from one machine on: the longer one goes on where the shorter one stops.
use Rattle.dp_meaning.proofs.Names.{◌≡◌, refl, sym, ◌∙◌, ap, subst, ℕ, ◌+◌, ◌-◌, ◌<◌, ◌≤◌, Bool, Option, List, [], ◌∷◌, ◌++◌, append-nil, length, length-append}
use Rattle.dp_meaning.proofs.Names.{All, ℤ, arith, All-tail, Program, Config, Event, prints, MachineState, rest_of_run, Moved}
use Rattle.dp_meaning.proofs.NextLemmas.{run_begins}
use Rattle.std.proofs.lemmas.List.{nil_from_length}

-- one front of a list, and a longer one or the same
record Fronts {X : Type 0} (front longer rest further : List X) : Type 0 where
  more : List X
  longer_is : longer ≡ front ++ more
  rest_is : rest ≡ more ++ further

fronts : {X : Type 0} (xs ys r s : List X) → xs ++ r ≡ ys ++ s → length xs ≤ length ys → Fronts xs ys r s
fronts [] ys r s e h = record { more = ys; longer_is = refl; rest_is = e }
fronts (x ∷ xs) [] r s e h = absurd (omega (arith, h))
fronts {X = X} (x ∷ xs) (y ∷ ys) r s e h =
    let same : y ≡ x = cc in
    let tails : xs ++ r ≡ ys ++ s = cc in
    let so = fronts xs ys r s tails (omega (arith, h)) in
    record { more = so.more; longer_is = ap (λ (z : X). z ∷ ys) same ∙ ap (λ (zs : List X). x ∷ zs) so.longer_is; rest_is = so.rest_is }

pub behind_all : {X : Type 0} (P : X → Type 0) (xs ys : List X) → All P (xs ++ ys) → All P ys
behind_all P [] ys h = h
behind_all P (x ∷ xs) ys h = behind_all P xs ys (All-tail P x (xs ++ ys) h)

-- the list begins with this configuration
abbrev Begins : List Config → Config → Type 0
Begins configs c = (tail : List Config) × (configs ≡ c ∷ tail)

begins_here : (m : MachineState) → Begins (rest_of_run m).configs m.config
begins_here m = run_begins m.program m.input (m.fuel - m.steps) m.config

same_first : (configs : List Config) (c d : Config) → Begins configs c → Begins configs d → c ≡ d
same_first configs c d b e = let k = sym b.1 ∙ e.1 in cc

front_begins : (more rest configs : List Config) (c : Config) → 0 < length more → Begins configs c → configs ≡ more ++ rest → Begins more c
front_begins [] rest configs c h b e = absurd (omega (arith, h))
front_begins (d ∷ more) rest configs c h b e =
    let k = sym b.1 ∙ e in
    let same : d ≡ c = cc in
    (more, ap (λ (x : Config). x ∷ more) same)

-- Where the first stretch stops, the second one makes a step.
pub record Further (a : MachineState) (es fs : List Event) (cs ds : List Config) : Type 0 where
  pub some : 0 < length (rest_of_run a).trace
  pub events : List Event
  pub events_are : fs ≡ es ++ events
  pub configs : List Config
  pub configs_are : ds ≡ cs ++ a.config ∷ configs

-- Both stop at the same place.
pub record Alike (a b : MachineState) (es fs : List Event) (cs ds : List Config) : Type 0 where
  pub events : fs ≡ es
  pub configs : ds ≡ cs
  pub config : a.config ≡ b.config

module _ (old a b : MachineState) (x y z : List ℤ) (es fs : List Event) (cs ds : List Config) (m : Moved old a x y es cs) (n : Moved old b x z fs ds) where
  trace_fronts : length es ≤ length fs → Fronts es fs (rest_of_run a).trace (rest_of_run b).trace
  trace_fronts h = fronts es fs (rest_of_run a).trace (rest_of_run b).trace (sym m.run.trace ∙ n.run.trace) h

  config_fronts : length es ≤ length fs → Fronts cs ds (rest_of_run a).configs (rest_of_run b).configs
  config_fronts h =
      let p = m.run.paired in
      let q = n.run.paired in
      fronts cs ds (rest_of_run a).configs (rest_of_run b).configs (sym m.run.configs ∙ n.run.configs) (omega (arith, h, p, q))

  pub further : length es < length fs → Further a es fs cs ds
  further h =
      let t = trace_fronts (omega (arith, h)) in
      let c = config_fronts (omega (arith, h)) in
      let p = m.run.paired in
      let q = n.run.paired in
      let longer : length fs ≡ length es + length t.more = ap (λ (xs : List Event). length xs) t.longer_is ∙ length-append es t.more in
      let rest : length (rest_of_run a).trace ≡ length t.more + length (rest_of_run b).trace = ap (λ (xs : List Event). length xs) t.rest_is
      ∙ length-append t.more (rest_of_run b).trace in
      let listed : length ds ≡ length cs + length c.more = ap (λ (xs : List Config). length xs) c.longer_is ∙ length-append cs c.more in
      let first = front_begins c.more (rest_of_run b).configs (rest_of_run a).configs a.config (omega (arith, h, p, q, listed)) (begins_here a) c.rest_is in
      record {
        some = omega (arith, h, longer, rest);
        events = t.more;
        events_are = t.longer_is;
        configs = first.0;
        configs_are = c.longer_is ∙ ap (λ (xs : List Config). cs ++ xs) first.1;
      }

  pub alike : length es ≡ length fs → Alike a b es fs cs ds
  alike h =
      let t = trace_fronts (omega (arith, h)) in
      let c = config_fronts (omega (arith, h)) in
      let p = m.run.paired in
      let q = n.run.paired in
      let longer : length fs ≡ length es + length t.more = ap (λ (xs : List Event). length xs) t.longer_is ∙ length-append es t.more in
      let listed : length ds ≡ length cs + length c.more = ap (λ (xs : List Config). length xs) c.longer_is ∙ length-append cs c.more in
      let no_event = nil_from_length t.more (omega (arith, h, longer)) in
      let no_config = nil_from_length c.more (omega (arith, h, p, q, listed)) in
      let same : (rest_of_run a).configs ≡ (rest_of_run b).configs = c.rest_is ∙ ap (λ (xs : List Config). xs ++ (rest_of_run b).configs) no_config in
      record {
        events = t.longer_is ∙ ap (λ (xs : List Event). es ++ xs) no_event ∙ append-nil es;
        configs = c.longer_is ∙ ap (λ (xs : List Config). cs ++ xs) no_config ∙ append-nil cs;
        config = same_first (rest_of_run b).configs a.config b.config (subst (λ (xs : List Config). Begins xs a.config) same (begins_here a)) (begins_here b);
      }

  -- then the prints are the same, and so is the machine but for what the call says of it
  pub same_prints : Alike a b es fs cs ds → z ≡ y
  same_prints k = n.prints ∙ ap (λ (xs : List Event). x ++ prints xs) k.events ∙ sym m.prints

  pub same_but : Alike a b es fs cs ds → a ≡ record b { current = a.current; spoiled = a.spoiled }
  same_but k =
      let steps : a.steps ≡ b.steps = m.steps ∙ ap (λ (xs : List Event). old.steps + length xs) (sym k.events) ∙ sym n.steps in
      ap (λ (v : Program). record a { program = v }) (m.program ∙ sym n.program) ∙
      ap (λ (v : List ℤ). record a { program = b.program; input = v }) (m.input ∙ sym n.input) ∙
      ap (λ (v : Config). record a { program = b.program; input = b.input; config = v }) k.config ∙
      ap (λ (v : ℕ). record a { program = b.program; input = b.input; config = b.config; steps = v }) steps ∙
      ap (λ (v : ℕ). record a { program = b.program; input = b.input; config = b.config; steps = b.steps; fuel = v }) (m.fuel ∙ sym n.fuel)

pub same_machine : (a b : MachineState) → a ≡ record b { current = a.current; spoiled = a.spoiled } → a.current ≡ b.current → a.spoiled ≡ b.spoiled → a ≡ b
same_machine a b e current spoiled =
    e ∙ ap (λ (v : Option ℕ). record b { current = v; spoiled = a.spoiled }) current ∙ ap (λ (v : Bool). record b { spoiled = v }) spoiled
