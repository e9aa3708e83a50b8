-- A text beside those of a shelf.
use Rattle.std.proofs.Common.{◌≡◌, sym, ap, subst, ℕ, Bool, true, false, if◌then◌else◌, List, Option, Some, None, Result, Ok, Vec, IfSome}
use Rattle.std.specs.Option.{option_map}
use Rattle.std.specs.declared.alloc.Global.{Global}
use Rattle.dp_edge.specs.MemShelf.{is_same}
use Rattle.dp_edge.specs.Shelf.{ReadsContent}
use Rattle.dp_edge.specs.declared.shelf.ShelfFail.{ShelfFail}
use Rattle.dp_system.specs.OwnText.{beside}

module _ (own text given : List ℕ) (room : ℕ) where
  pub other_content : (o : Option (List ℕ → Option (List ℕ))) (r : Result (Vec ℕ Global) ShelfFail) → is_same given own ≡ false →
      IfSome o (λ held. ReadsContent r (held given) room) →
      IfSome (option_map (beside own text) o) (λ held. ReadsContent r (held given) room)
  other_content None r other h = h
  other_content (Some held) r other h = subst (λ (b : Bool). ReadsContent r (if b then Some text else held given) room) (sym other) h

  pub own_content : (o : Option (List ℕ → Option (List ℕ))) (bytes : Vec ℕ Global) → is_same given own ≡ true → bytes.items ≡ text →
      IfSome (option_map (beside own text) o) (λ held. ReadsContent (Ok bytes) (held given) room)
  own_content None bytes same e = tt
  own_content (Some held) bytes same e = subst (λ (b : Bool). ReadsContent (Ok bytes) (if b then Some text else held given) room) (sym same) (ap Some (sym e))
