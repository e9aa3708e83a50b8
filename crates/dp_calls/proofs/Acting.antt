-- A step at a statement with a site, with frames and expanded.
use Rattle.std.proofs.Common.{◌≡◌, refl, sym, ap, ap₂, ◌∙◌, subst, ℕ, ◌+◌, Bool, true, false, if◌then◌else◌, List, ◌∷◌, ◌++◌, ℤ, length, take, drop, Option}
use Rattle.std.proofs.Common.{Some, arith}
use Rattle.std.proofs.lemmas.List.{take_at, drop_at}
use Rattle.dp_base.specs.Arithmetic.{is_zero}
use Rattle.dp_base.specs.declared.Fault.{Fault as FaultAt}
use Rattle.dp_base.specs.declared.SiteId.{SiteId}
use Rattle.dp_tree.specs.declared.Stmt.{Stmt, out-Stmt}
use Rattle.dp_tree.specs.declared.Stmt.TheOpen.{Stmt-F, Break, Call}
use Rattle.dp_tree.specs.declared.Program.{Program}
use Rattle.dp_tree.specs.Eval.{Evaluated, first_cell}
use Rattle.dp_tree.specs.Event.{Effect, Event, value_of, stored}
use Rattle.dp_tree.specs.Step.{Config, Step, Finished, Faulted, Stepped, choose, followed, region_number, site_of, line_of, evaluated, standing, step_by}
use Rattle.dp_tree.specs.Step.{step_at, step_from, step}
use Rattle.dp_tree.specs.Trace.{printed_by}
use Rattle.dp_calls.specs.Frame.{Frame, State, global_count, fresh_frame, frames_settled}
use Rattle.dp_calls.specs.FrameStep.{FrameStep, Ends, Faults, Goes, frame_step, step_head, step_frame, step_frames}
use Rattle.dp_calls.specs.Renaming.{target_of}
use Rattle.dp_tree.proofs.Heads.{taken, followed-append, standing_to_do}
use Rattle.dp_calls.proofs.Relation.{Env, file_count, Laid, IsEnv, Acts, assigns, stores, prints, branches, loops, marks, act, Block, Body, Quiet, Todo, next}
use Rattle.dp_calls.proofs.Relation.{Agree, Room}
use Rattle.dp_calls.proofs.Written.{After}
use Rattle.dp_calls.proofs.Stacks.{Suits, Stack, Ready, Alike, block_then, stack_kept, Sim}
use Rattle.dp_calls.proofs.Exits.{body_then}
use Rattle.dp_calls.proofs.Effects.{EvaluatesAlike, faults, goes, stores_alike, prints_alike, decides_alike, elements_alike, values, nothing_stored}
use Rattle.dp_calls.proofs.Effects.{element_stored, same_length, declared_stored}
use Rattle.dp_calls.proofs.Clears.{stands}
use Rattle.dp_calls.proofs.Settles.{settles_running}

-- the statement is a call or a break
abbrev pub is_apart : Stmt-F Stmt → Bool
is_apart (Call f line args) = true
is_apart (Break site cond) = true
is_apart _ = false

untaken : (h : Stmt-F Stmt) (z : ℤ) → is_apart h ≡ false → taken h z ≡ false
untaken (Break site cond) z w = absurd (cc)
untaken _ z w = refl

-- the configuration where these statements follow an effect
abbrev pub after_store : Program → (ℤ → List Stmt) → List ℤ → Effect → Config
after_store r nexts cells effect = standing r (nexts (value_of effect)) (stored effect cells)

module _ (p q : Program) where
  -- both end, both have the same fault, or both go on alike with the same print
  pub data StepsAlike : FrameStep → Step → Type 0 where
    both_end : StepsAlike Ends Finished
    both_fault : (fault : FaultAt) → StepsAlike (Faults fault) (Faulted fault)
    both_go : {z : Option ℤ} {c : State} {event : Event} {d : Config} → printed_by event.effect ≡ z → Alike p q c d → StepsAlike (Goes z c) (Stepped event d)

  pub step_plain : (r : Program) (input cells : List ℤ) (s : Stmt) (rest : List Stmt) (head : Stmt-F Stmt) → is_apart head ≡ false →
      step_at r input cells s rest head ≡ step_by r (site_of head) (evaluated r input cells head) (after_store r (followed s rest head) cells)
  step_plain r input cells s rest (Break site cond) h = absurd (cc)
  step_plain r input cells s rest (Call f line args) h = absurd (cc)
  step_plain r input cells s rest _ h = refl

  step_head_plain : (input : List ℤ) (c : State) (f : Frame) (below : List Frame) (rest : List Stmt) (head : Stmt-F Stmt) → is_apart head ≡ false →
      step_head p input c f below rest head ≡ frame_step p f below (step p input (record { to_do = f.to_do; cells = c.globals ++ f.locals }))
  step_head_plain input c f below rest (Break site cond) h = absurd (cc)
  step_head_plain input c f below rest (Call g line args) h = absurd (cc)
  step_head_plain input c f below rest _ h = refl

  -- the step of the running frame
  pub frame_plain : (input : List ℤ) (c : State) (f : Frame) (below : List Frame) (s : Stmt) (rest : List Stmt) → f.to_do ≡ s ∷ rest →
      is_apart (out-Stmt s) ≡ false →
      step_frames p input c (f ∷ below)
      ≡ frame_step p f below (step_by p (site_of (out-Stmt s)) (evaluated p input (c.globals ++ f.locals) (out-Stmt s))
      (after_store p (followed s rest (out-Stmt s)) (c.globals ++ f.locals)))
  frame_plain input c f below s rest is plain =
      ap (λ (xs : List Stmt). step_frame p input c f below xs) is
      ∙ step_head_plain input c f below rest (out-Stmt s) plain
      ∙ ap (λ (xs : List Stmt). frame_step p f below (step_from p input (c.globals ++ f.locals) xs)) is
      ∙ ap (frame_step p f below) (step_plain p input (c.globals ++ f.locals) s rest (out-Stmt s) plain)

  -- both statements have a site, with the same line
  pub record SitesAlike (s t : Stmt) : Type 0 where
    pub source : is_apart (out-Stmt s) ≡ false
    pub target : is_apart (out-Stmt t) ≡ false
    pub line : line_of q (site_of (out-Stmt t)) ≡ line_of p (site_of (out-Stmt s))

  sites_by : (s t : Stmt) (a b : Stmt-F Stmt) → out-Stmt s ≡ a → out-Stmt t ≡ b → is_apart a ≡ false → is_apart b ≡ false →
      line_of q (site_of b) ≡ line_of p (site_of a) → SitesAlike s t
  sites_by s t a b is there plain plainly line = record {
    source = ap is_apart is ∙ plain;
    target = ap is_apart there ∙ plainly;
    line = ap (λ (x : Stmt-F Stmt). line_of q (site_of x)) there ∙ line ∙ sym (ap (λ (x : Stmt-F Stmt). line_of p (site_of x)) is);
  }

  acts_sites : {e : Env} {visible behind : List ℕ} {s t : Stmt} → Acts p q e visible behind s t → SitesAlike s t
  acts_sites {s = s} {t = t} (assigns a b line _ _) = sites_by s t _ _ a b refl refl line
  acts_sites {s = s} {t = t} (stores a b line _ _ _) = sites_by s t _ _ a b refl refl line
  acts_sites {s = s} {t = t} (prints a b line _) = sites_by s t _ _ a b refl refl line
  acts_sites {s = s} {t = t} (branches a b line _ _ _) = sites_by s t _ _ a b refl refl line
  acts_sites {s = s} {t = t} (loops a b line _ _) = sites_by s t _ _ a b refl refl line
  acts_sites {s = s} {t = t} (marks a b line _ _ _ _) = sites_by s t _ _ a b refl refl line

  -- what follows is alike
  module _ {e : Env} {behind : List ℕ} {statements text : List Stmt} (todo : Todo p q e behind statements text) where
    abbrev Follows : Stmt → Stmt → ℤ → Stmt-F Stmt → Stmt-F Stmt → Type 0
    Follows s t z a b = Todo p q e behind (followed s statements a z) (followed t text b z)

    chosen : (z : ℤ) {a b c d : List Stmt} → Block p q e behind a c → Block p q e behind b d →
        Todo p q e behind (choose z a b ++ statements) (choose z c d ++ text)
    chosen z {a = a} {b = b} {c = c} {d = d} one other = by (is_zero z)
      where
        by : (u : Bool) → Todo p q e behind ((if u then b else a) ++ statements) ((if u then d else c) ++ text)
        by true = block_then p q todo other (λ x seen. seen)
        by false = block_then p q todo one (λ x seen. seen)

    again : (z : ℤ) (s t : Stmt) {a c : List Stmt} → Acts p q e behind behind s t → Block p q e behind a c →
        Todo p q e behind (choose z (a ++ s ∷ statements) statements) (choose z (c ++ t ∷ text) text)
    again z s t {a = a} {c = c} acts block = by (is_zero z)
      where
        by : (u : Bool) → Todo p q e behind (if u then statements else a ++ s ∷ statements) (if u then text else c ++ t ∷ text)
        by true = todo
        by false = block_then p q (next (act acts) todo refl) block (λ x seen. seen)

    follows_as : (s t : Stmt) (z : ℤ) {a b : Stmt-F Stmt} → out-Stmt s ≡ a → out-Stmt t ≡ b → Follows s t z a b → Follows s t z (out-Stmt s) (out-Stmt t)
    follows_as s t z {a = a} {b = b} is there h =
        subst (λ (x : Stmt-F Stmt). Follows s t z x (out-Stmt t)) (sym is) (subst (λ (x : Stmt-F Stmt). Follows s t z a x) (sym there) h)

    again_marked : (z : ℤ) (s t : Stmt) (r : ℕ) {a c : List Stmt} → region_number (out-Stmt s) ≡ Some r → region_number (out-Stmt t) ≡ Some r →
        Acts p q e behind behind s t → Body p q e behind a c → Quiet p q e behind r → e.calls ≡ length p.functions →
        Todo p q e behind (choose z (a ++ s ∷ statements) statements) (choose z (c ++ t ∷ text) text)
    again_marked z s t r {a = a} {c = c} source target acts body quiet main = by (is_zero z)
      where
        by : (u : Bool) → Todo p q e behind (if u then statements else a ++ s ∷ statements) (if u then text else c ++ t ∷ text)
        by true = todo
        by false = body_then p q quiet main source target (next (act acts) todo refl) todo body (λ x seen. seen)

    pub follows : {visible : List ℕ} (s t : Stmt) → Acts p q e visible behind s t → (z : ℤ) → Follows s t z (out-Stmt s) (out-Stmt t)
    follows s t (assigns a b _ _ _) z = follows_as s t z a b todo
    follows s t (stores a b _ _ _ _) z = follows_as s t z a b todo
    follows s t (prints a b _ _) z = follows_as s t z a b todo
    follows s t (branches a b _ _ one other) z = follows_as s t z a b (chosen z one other)
    follows s t (loops a b line known block) z = follows_as s t z a b (again z s t (loops a b line known block) block)
    follows s t (marks a b line known block quiet main) z =
        follows_as s t z a b (again_marked z s t _ (ap region_number a) (ap region_number b) (marks a b line known block quiet main) block quiet main)

  module _ (laid : Laid p q) (input : List ℤ) {e : Env} (env : IsEnv p q e) (visible : List ℕ) (g l h : List ℤ)
      (whole : length g ≡ global_count p) (room : Room p q l h) (agree : Agree p q e visible l h) where
    abbrev Evaluates : List ℕ → Stmt-F Stmt → Stmt-F Stmt → Type 0
    Evaluates behind a b = EvaluatesAlike (After p q e behind h) (g ++ l) (g ++ h) (evaluated p input (g ++ l) a) (evaluated q input (g ++ h) b)

    evaluates_as : (behind : List ℕ) (s t : Stmt) {a b : Stmt-F Stmt} → out-Stmt s ≡ a → out-Stmt t ≡ b → Evaluates behind a b →
        Evaluates behind (out-Stmt s) (out-Stmt t)
    evaluates_as behind s t {a = a} {b = b} is there w =
        subst (λ (x : Stmt-F Stmt). Evaluates behind x (out-Stmt t)) (sym is) (subst (λ (x : Stmt-F Stmt). Evaluates behind a x) (sym there) w)

    pub evaluates : {behind : List ℕ} (s t : Stmt) → Acts p q e visible behind s t → Evaluates behind (out-Stmt s) (out-Stmt t)
    evaluates {behind = behind} s t (assigns {x = x} {v = v} a b _ known declares) =
        evaluates_as behind s t a b
        (stores_alike (first_cell p x) (first_cell q (target_of e.names x))
        (declared_stored p q laid input e env visible g l h whole room agree x behind declares)
        _ _ (values p q laid input e env visible g l h whole room agree v known))
    evaluates s t (stores {x = x} {i = i} {v = v} a b _ known_index known seen) =
        evaluates_as visible s t a b
        (elements_alike (first_cell p x) (first_cell q (target_of e.names x)) _ _
        (same_length p q laid input e env visible g l h whole room agree x seen)
        (element_stored p q laid input e env visible g l h whole room agree x seen)
        _ _ _ _ (values p q laid input e env visible g l h whole room agree i known_index) (values p q laid input e env visible g l h whole room agree v known))
    evaluates s t (prints {v = v} a b _ known) =
        evaluates_as visible s t a b (prints_alike (nothing_stored p q laid input e env visible g l h whole room agree) _ _
        (values p q laid input e env visible g l h whole room agree v known))
    evaluates s t (branches {v = v} a b _ known _ _) =
        evaluates_as visible s t a b (decides_alike (nothing_stored p q laid input e env visible g l h whole room agree) _ _
        (values p q laid input e env visible g l h whole room agree v known))
    evaluates s t (loops {v = v} a b _ known _) =
        evaluates_as visible s t a b (decides_alike (nothing_stored p q laid input e env visible g l h whole room agree) _ _
        (values p q laid input e env visible g l h whole room agree v known))
    evaluates s t (marks {v = v} a b _ known _ _ _) =
        evaluates_as visible s t a b (decides_alike (nothing_stored p q laid input e env visible g l h whole room agree) _ _
        (values p q laid input e env visible g l h whole room agree v known))

  -- where the state behind a step is
  abbrev pub state_of : Frame → List Frame → List ℤ → List ℤ → List Stmt → State
  state_of f below globals locals to_do = record { globals = globals; frames = frames_settled p (record f { to_do = to_do; locals = locals } ∷ below) }

  abbrev pub left_at : Frame → List Frame → Config → State
  left_at f below c = state_of f below (take (global_count p) c.cells) (drop (global_count p) c.cells) c.to_do

  state_is : (f : Frame) (below : List Frame) (c : Config) (globals locals : List ℤ) (to_do : List Stmt) → c.cells ≡ globals ++ locals → c.to_do ≡ to_do →
      length globals ≡ global_count p →
      state_of f below (take (global_count p) c.cells) (drop (global_count p) c.cells) c.to_do ≡ state_of f below globals locals to_do
  state_is f below c globals locals to_do cells is whole =
      let first : take (global_count p) c.cells ≡ globals = ap (take (global_count p)) cells ∙ take_at globals locals (global_count p) whole in
      let second : drop (global_count p) c.cells ≡ locals = ap (drop (global_count p)) cells ∙ drop_at globals locals (global_count p) whole in
      ap₂ (λ (a b : List ℤ). state_of f below a b c.to_do) first second ∙ ap (state_of f below globals locals) is

  module _ (laid : Laid p q) {e : Env} {behind : List ℕ} (f : Frame) {below : List Frame} {rest : List Stmt} (env : IsEnv p q e)
      (callee : f.callee ≡ fresh_frame p) where
    -- the state and the configuration where such texts stand with such memories
    pub alike_at : (statements text code : List Stmt) (a b globals locals cells : List ℤ) → Todo p q e behind statements text → code ≡ text ++ rest →
        a ≡ globals ++ locals → b ≡ globals ++ cells →
        length globals ≡ global_count p → Room p q locals cells → Agree p q e behind locals cells → Stack p q e below rest cells →
        Alike p q (left_at f below (standing p statements a)) (standing q code b)
    alike_at statements text code a b globals locals cells todo is first second whole room agree stack =
        let st = stands p q laid env locals cells agree todo in
        let cells_are : (standing p statements a).cells ≡ globals ++ st.locals = ap (λ (m : List ℤ). (standing p statements m).cells) first
        ∙ st.is globals whole in
        let suits : Suits p q e st.outer (record f { to_do = statements; locals = st.locals }) text cells = record {
          env = env;
          todo = st.todo;
          agree = st.agree;
          room = (ap (λ (n : ℕ). n + file_count p) st.long ∙ room.0, room.1);
          callee = callee;
        } in
        let s = settles_running p q laid suits stack in
        let there : standing q code b ≡ standing q (text ++ rest) (globals ++ cells) = ap₂ (λ (xs : List Stmt) (m : List ℤ). standing q xs m) is second in
        subst (λ (c : State). Alike p q c (standing q code b))
        (sym (state_is f below (standing p statements a) globals st.locals statements cells_are (standing_to_do p statements a) whole))
        (subst (λ (d : Config). Alike p q (state_of f below globals st.locals statements) d) (sym there)
        (record {
          own = s.own;
          whole = whole;
          cells = s.stands globals whole;
          sim = subst (λ (xs : List Stmt). Sim p q s.own (frames_settled p (record f { to_do = statements; locals = st.locals } ∷ below)) xs)
              (sym (standing_to_do q (text ++ rest) (globals ++ cells))) s.sim;
        }))

  module _ (laid : Laid p q) {e : Env} {visible behind : List ℕ} {f : Frame} {below : List Frame} {rest : List Stmt} {h : List ℤ}
      (ready : Ready p q e visible f below rest h) (callee : f.callee ≡ fresh_frame p) (g : List ℤ) where
    -- the state and the configuration behind such a step
    behind_alike : (statements text code : List Stmt) (a b : List ℤ) → Todo p q e behind statements text → code ≡ text ++ rest → After p q e behind h a b →
        Alike p q (left_at f below (standing p statements a)) (standing q code b)
    behind_alike statements text code a b todo is after =
        let wide : length after.cells ≡ length h = omega (arith, after.room.1, ready.room.1) in
        alike_at laid f ready.env callee statements text code a b after.globals after.locals after.cells todo is after.first after.second after.whole after.room
        after.agree (stack_kept p q h after.cells wide after.keeps ready.stack)

    act_by : (site here : SiteId) (nexts next_texts texts : ℤ → List Stmt) → line_of q here ≡ line_of p site →
        ((z : ℤ) → Todo p q e behind (nexts z) (texts z)) → ((z : ℤ) → next_texts z ≡ texts z ++ rest) →
        (a b : List ℤ) (u v : Evaluated Effect) → EvaluatesAlike (After p q e behind h) a b u v →
        StepsAlike (frame_step p f below (step_by p site u (after_store p nexts a))) (step_by q here v (after_store q next_texts b))
    act_by site here nexts next_texts texts line todo is a b u v (faults kind) =
        subst (λ (n : ℕ). StepsAlike (Faults (record { kind = kind; line = line_of p site })) (Faulted (record { kind = kind; line = n }))) (sym line)
        (both_fault (record { kind = kind; line = line_of p site }))
    act_by site here nexts next_texts texts line todo is a b u v (goes x y alike) =
        both_go (sym alike.printed)
        (behind_alike (nexts (value_of x.value)) (texts (value_of x.value)) (next_texts (value_of y.value)) (stored x.value a) (stored y.value b)
        (todo (value_of x.value))
        (sym (ap next_texts alike.value) ∙ is (value_of x.value)) alike.after)

    pub acting_steps : (input : List ℤ) (c : State) (s t : Stmt) (statements text code : List Stmt) → c.globals ≡ g → length g ≡ global_count p →
        f.to_do ≡ s ∷ statements → Acts p q e visible behind s t → Todo p q e behind statements text → code ≡ t ∷ (text ++ rest) →
        StepsAlike (step_frames p input c (f ∷ below)) (step_from q input (c.globals ++ h) code)
    acting_steps input c s t statements text code same whole is acts todo code_is =
        let sites = acts_sites acts in let left = frame_plain input c f below s statements is sites.source in
        let right : step_from q input (c.globals ++ h) code ≡ step_by q (site_of (out-Stmt t)) (evaluated q input (c.globals ++ h) (out-Stmt t))
        (after_store q (followed t (text ++ rest) (out-Stmt t)) (c.globals ++ h)) =
        ap (λ (xs : List Stmt). step_from q input (c.globals ++ h) xs) code_is ∙ step_plain q input (c.globals ++ h) t (text ++ rest)
        (out-Stmt t) sites.target in
        subst (λ (x : FrameStep). StepsAlike x (step_from q input (c.globals ++ h) code)) (sym left)
        (subst (λ (x : Step). StepsAlike (frame_step p f below (step_by p (site_of (out-Stmt s)) (evaluated p input (c.globals ++ f.locals) (out-Stmt s))
        (after_store p (followed s statements (out-Stmt s)) (c.globals ++ f.locals)))) x) (sym right)
        (act_by (site_of (out-Stmt s)) (site_of (out-Stmt t)) (followed s statements (out-Stmt s)) (followed t (text ++ rest) (out-Stmt t))
        (followed t text (out-Stmt t)) sites.line
        (follows todo s t acts) (λ z. followed-append t text rest (out-Stmt t) z (untaken (out-Stmt t) z sites.target))
        (c.globals ++ f.locals) (c.globals ++ h) _ _
        (evaluates laid input ready.env visible c.globals f.locals h (ap length same ∙ whole) ready.room ready.agree s t acts)))
