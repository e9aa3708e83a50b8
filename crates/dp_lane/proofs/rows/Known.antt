-- What the view of an end says.
use Rattle.std.proofs.Common.{◌≡◌, refl, ℕ, Bool, true, false}
use Rattle.dp_lane.specs.declared.rule.View.TheVariants.{Sender, Taker}
use Rattle.dp_lane.specs.Ends.{is_sender}
use Rattle.dp_lane.specs.Views.{sent_by}

module _ {K : Type 0} (key : K) (n : ℕ) (ended : Bool) where
  sent_so_many : sent_by (Sender key n ended) ≡ n
  sent_so_many = refl

  sender_alone : (is_sender (Sender key n ended) ≡ true) × (is_sender (Taker key n) ≡ false)
  sender_alone = (refl, refl)
