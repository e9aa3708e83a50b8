-- What comes to the first stage is a batch of which nothing is told.
use Rattle.std.proofs.Common.{arith, ◌≡◌, ◌≤◌, ℕ, suc, ◌+◌, Bool, false, Option, Some, None, IfSome, Result, Ok, Err, OnOk, OnErr, sym, ap, ◌∙◌, subst, refl}
use Rattle.dp_relay.specs.UnitsKey.{UnitsKey}
use Rattle.dp_lane.specs.declared.rule.View.{View}
use Rattle.dp_lane.specs.Ends.{End, moved_end, refused_once}
use Rattle.dp_lane.specs.Views as views
use Rattle.dp_lean_epoch.specs.LeanBatch.{IsLeanBatch}
use Rattle.dp_lean_region.specs.LeanEpoch.{LeanEpoch, epoch_marks, kept_in}
use Rattle.dp_lean_region.specs.Line.{IsLineOf}
use Rattle.dp_lean_region.specs.declared.line.Line.{Line}
use Rattle.dp_lean_machine.specs.declared.batch.LeanBatch.{LeanBatch}
use Rattle.dp_lean_machine.specs.declared.batch.BatchStatus.{BatchStatus}
use Rattle.dp_lean_machine.specs.declared.batch.BatchStatus.TheVariants.{NoMemory}
use Rattle.dp_lean_machine.specs.Fresh.{IsFresh}
use Rattle.dp_lean_machine.specs.Sent.{IsSent, Unless, item_sent}
use Rattle.dp_pipeline.specs.declared.keys.LaneKey.{LaneKey}
use Rattle.dp_pipeline.specs.declared.carried.Carried.{Carried}
use Rattle.dp_pipeline.specs.declared.spare.Spare.{Spare}
use Rattle.dp_pipeline.specs.declared.start.Start.{Start}
use Rattle.dp_pipeline.specs.declared.supply.Supply.{Supply}
use Rattle.dp_pipeline.specs.Carried.{lean_of, IsCarried}
use Rattle.dp_pipeline.specs.Keys.{key_of}
use Rattle.dp_pipeline.specs.Lanes.{ComesBack, GoesBack}
use Rattle.dp_pipeline.specs.Sizes.{batch_begins, size}
use Rattle.dp_pipeline.specs.Standing.{Starts}
use Rattle.dp_pipeline.specs.steps.Supplying.{Supplies, IsSupplied}

-- what a spare is in its lane
abbrev pub is_spare : LaneKey → ℕ → Spare → Type 0
is_spare key k x = IsLineOf (lean_of (key_of key.epoch)) x.batch.line

-- a batch came back: it is one of the epoch's line
pub came_back : (old new : View LaneKey) (x : Spare) → views.TakesItem is_spare old x new → (key : UnitsKey) → ComesBack old key
    → IsLineOf (lean_of key) x.batch.line × ComesBack new key
came_back old new x takes key (s, n, at) =
    let got = subst (λ (v : View LaneKey). views.TakesItem is_spare v x new) at.view_is takes in (
      subst (λ (e : UnitsKey). IsLineOf (lean_of e) x.batch.line) at.epoch got.0,
      (s, n + 1, record { lane = at.lane; view_is = got.1; epoch = at.epoch; stage = at.stage }),
    )

pub went_back : (view : View LaneKey) (x : Spare) (is_ending : LaneKey → Spare → Bool) (key : UnitsKey) → GoesBack view key →
    GoesBack (views.after_send is_ending view x) key
went_back view x is_ending key (s, n, at) =
    subst (λ (v : View LaneKey). GoesBack (views.after_send is_ending v x) key) (sym at.view_is)
    (s, n + 1, record { lane = at.lane; ended = is_ending at.lane x; view_is = refl; epoch = at.epoch; stage = at.stage })

-- .. or didn't go
pub sent_back : {U : Type 0} (r : Result U Spare) (old new : End LaneKey) (x : Spare) →
    OnOk r (new ≡ moved_end old (views.after_send (λ (key : LaneKey) (y : Spare). false) old.view x)) → OnErr r (new ≡ refused_once old)
    → (key : UnitsKey) → GoesBack old.view key → GoesBack new.view key
sent_back (Ok u) old new x ok err key at =
    subst (λ (e : End LaneKey). GoesBack e.view key) (sym ok) (went_back old.view x (λ (k : LaneKey) (y : Spare). false) key at)
sent_back (Err y) old new x ok err key at = subst (λ (e : End LaneKey). GoesBack e.view key) (sym err) at

-- the last one is of the line
pub last_line : (key : UnitsKey) (line : Line) (o : Option Spare) → IsLineOf (lean_of key) line → IfSome o (λ (spare : Spare). spare.batch.line ≡ line)
    → IfSome o (λ (spare : Spare). IsLineOf (lean_of key) spare.batch.line)
last_line key line (Some spare) is same = subst (IsLineOf (lean_of key)) (sym same) is
last_line key line None is same = tt

-- the batch that says that memory is wanting
pub wanting_sent : (e : LeanEpoch) (b : ℕ) (x y : LeanBatch) → IsSent e 0 b x → y.status ≡ NoMemory → y.line ≡ x.line → y.first ≡ x.first → IsSent e 0 b y
wanting_sent e b x y is wanting line first = record {
  line = subst (IsLineOf e) (sym line) is.line;
  first = first ∙ is.first;
  item = subst (λ (status : BatchStatus). Unless status (λ ends. IsLeanBatch (epoch_marks e) e.key (kept_in e) e.cap 0 b (item_sent 0 ends y))) (sym wanting)
      tt;
}

-- a batch that came back is given again
pub came_supplies : (x y : Supply) (came : Spare) → views.TakesItem is_spare x.spares.view came y.spares.view → y.line ≡ x.line → y.last ≡ x.last
    → (key : UnitsKey) → Supplies x key → Supplies y key
came_supplies x y came takes line last key at = record {
  epoch = at.epoch;
  line = subst (IsLineOf (lean_of key)) (sym line) at.line;
  spares = (came_back x.spares.view y.spares.view came takes key at.spares).1;
  last = subst (λ (o : Option Spare). IfSome o (λ (spare : Spare). IsLineOf (lean_of key) spare.batch.line)) (sym last) at.last;
}

pub came_fresh : (x : Supply) (new : View LaneKey) (came : Spare) (made : LeanBatch) (first count : ℕ) → views.TakesItem is_spare x.spares.view came new
    → IsFresh came.batch.line first count made → IsSupplied x first count made
came_fresh x new came made first count takes fresh key b at first_is count_is =
    fresh (lean_of key) b at.epoch (came_back x.spares.view new came takes key at.spares).0 first_is count_is

-- the same where none came back
pub none_supplies : (x y : Supply) → y.spares.view ≡ x.spares.view → y.line ≡ x.line → y.last ≡ x.last → (key : UnitsKey) → Supplies x key → Supplies y key
none_supplies x y spares line last key at = record {
  epoch = at.epoch;
  line = subst (IsLineOf (lean_of key)) (sym line) at.line;
  spares = subst (λ (v : View LaneKey). ComesBack v key) (sym spares) at.spares;
  last = subst (λ (o : Option Spare). IfSome o (λ (spare : Spare). IsLineOf (lean_of key) spare.batch.line)) (sym last) at.last;
}

pub none_supplied : (x y : Supply) (made : Option Spare) (first count : ℕ) → y.spares.view ≡ x.spares.view → y.line ≡ x.line → y.last ≡ x.last
    → IfSome made (λ (spare : Spare). IsSupplied y first count spare.batch) → IfSome made (λ (spare : Spare). IsSupplied x first count spare.batch)
none_supplied x y (Some spare) first count spares line last fresh = λ key b at. fresh key b (none_supplies x y spares line last key at)
none_supplied x y None first count spares line last fresh = tt

-- a new one is of the line, and so is the last
pub new_supplied : (x : Supply) (made : LeanBatch) (first count : ℕ) → IsFresh x.line first count made → IsSupplied x first count made
new_supplied x made first count fresh key b at first_is count_is = fresh (lean_of key) b at.epoch at.line first_is count_is

pub last_supplied : (x : Supply) (last : Spare) (renewed made : LeanBatch) (first count : ℕ) → x.last ≡ Some last →
    IsFresh last.batch.line first count renewed
    → made.status ≡ NoMemory → made.line ≡ renewed.line → made.first ≡ renewed.first → IsSupplied x first count made
last_supplied x last renewed made first count there fresh wanting line begin key b at first_is count_is =
    let own = subst (λ (o : Option Spare). IfSome o (λ (spare : Spare). IsLineOf (lean_of key) spare.batch.line)) there at.last in
    wanting_sent (lean_of key) b renewed made (fresh (lean_of key) b at.epoch own first_is count_is) wanting line begin

-- what the start gives is its next batch, and it stands at the one behind
module _ (old new : Start) (x : Carried) (many : ℕ) (fresh : IsSupplied old.supply old.next many x.batch)
    (stays : (key : UnitsKey) → Supplies old.supply key → Supplies new.supply key) (low : old.next ≤ old.fuel)
    (first : new.first ≡ old.first) (next : new.next ≡ old.next + many) (fuel : new.fuel ≡ old.fuel) (cap : new.cap ≡ old.cap) where
  pub starts_batch : (key : UnitsKey) (s n : ℕ) → Starts old key s n → many ≡ size key n → IsCarried key s n x × Starts new key s (n + 1)
  starts_batch key s n at full =
      let one : suc n ≡ n + 1 = omega arith in
      let next_is = at.next in
      let sum : new.next ≡ key.epoch.first + (batch_begins key n + size key n) = omega (arith, next, next_is, full) in
      let sent = fresh key n at.supply at.next full in
      let first_is = sent.first in let fuel_is = at.fuel in
      let within : x.batch.first ≤ key.epoch.fuel = omega (arith, first_is, next_is, low, fuel_is) in (
        subst (λ (t : ℕ). IsCarried key t n x) (sym at.stage) (record { sent = sent; within = within }),
        record {
          first = first ∙ at.first;
          next = sum ∙ ap (λ (b : ℕ). key.epoch.first + batch_begins key b) one;
          fuel = fuel ∙ at.fuel;
          cap = cap ∙ at.cap;
          supply = stays key at.supply;
          stage = at.stage;
        },
      )
