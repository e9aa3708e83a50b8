-- Steps that the stages see one by one.
use Rattle.std.proofs.Common.{◌≡◌, refl, sym, ap, ◌∙◌, subst, arith, ℕ, ◌<◌, ◌≤◌, List, ℤ, Option, Some, None}
use Rattle.dp_meaning.specs.MachineState.{MachineState}
use Rattle.dp_meaning.specs.Watched.{WatchedStep}
use Rattle.dp_meaning.specs.declared.sight.Sight.{Sight}
use Rattle.dp_meaning.specs.declared.sight.Sight.TheVariants as sight
use Rattle.dp_view.specs.Heard.{Comes, Hears, after_sight}
use Rattle.dp_view.specs.Viewed.{Viewed, after_all}
use Rattle.dp_view.proofs.WatchLemmas.{follows_step}
use Rattle.dp_meaning.specs.declared.ends.IterEnd.{IterEnd}
use Rattle.dp_commit.specs.CommittedState.{CommittedState}
use Rattle.dp_epoch.specs.declared.account.Account.{Account}
use Rattle.dp_epoch.specs.Accounts.{HearsOn}
use Rattle.dp_epoch.specs.Remade.{Remade}

-- no step
pub hears_none : (m n : MachineState) (v w : Viewed) → n ≡ m → w ≡ v → Hears m n v w
hears_none m n v w same still until events later comes within = (
  events,
  subst (λ (x : Viewed). Comes n until x.source events later) (sym still) (subst (λ (x : MachineState). Comes x until v.source events later)
      (sym same) comes),
  ap (after_all events) still,
)

-- one
pub hears_step : (m n : MachineState) (seen : Sight) (cells : List ℕ) (v w : Viewed) → WatchedStep seen cells m n → w ≡ after_sight seen cells v → Hears m n v w
hears_step m n (sight.Step site effect) cells v w step is = λ until events later comes within.
    (let made = step.steps in
    let less : m.steps < until = omega (arith, made, within) in
    follows_step m n until v w site effect cells step less is events later comes)
hears_step m n sight.Finished cells v w step is = hears_none m n v w step.same is
hears_step m n sight.Fuel cells v w step is = hears_none m n v w step.same is
hears_step m n (sight.Fault fault) cells v w step is = hears_none m n v w step.same is

-- some, and then more, which make the number of steps no less
pub hears_join : (a b c : MachineState) (u v w : Viewed) → b.steps ≤ c.steps → Hears a b u v → Hears b c v w → Hears a c u w
hears_join a b c u v w more first second until events later comes within =
    let one = first until events later comes (omega (arith, more, within)) in
    let two = second until one.0 later one.1 within in
    (two.0, two.1, two.2 ∙ one.2)

-- the same of what may be kept
pub hears_on_none : (m : MachineState) (views : Option Viewed) → HearsOn m m views views
hears_on_none m None = tt
hears_on_none m (Some v) = hears_none m m v v refl refl

pub hears_on_join : (a b c : MachineState) (u v w : Option Viewed) → b.steps ≤ c.steps → HearsOn a b u v → HearsOn b c v w → HearsOn a c u w
hears_on_join a b c None None None more first second = tt
hears_on_join a b c None None (Some w) more first second = second
hears_on_join a b c None (Some v) w more first second = absurd first
hears_on_join a b c (Some u) None w more first second = absurd first
hears_on_join a b c (Some u) (Some v) None more first second = second
hears_on_join a b c (Some u) (Some v) (Some w) more first second = hears_join a b c u v w more first second

-- steps that were made are no fewer then
pub remade_more : (old new : CommittedState) (printed : List ℤ) (end : IterEnd) → Remade old new printed end → old.machine.steps ≤ new.machine.steps
remade_more old new printed end s = let made = s.call.moved.steps in omega (arith, made)

-- what is told stays but for what the stages see
pub kept_both : (a b c : Account) → b ≡ record a { views = b.views } → c ≡ record b { views = c.views } → c ≡ record a { views = c.views }
kept_both a b c first second = second ∙ ap (λ (x : Account). record x { views = c.views }) first
