-- What is written of a text, bit by bit.
use Rattle.std.proofs.Common.{◌≡◌, refl, sym, ap, ◌∙◌, ℕ, List, [], ◌++◌, take, drop, append-nil, append_assoc, Option, Some, None}
use Rattle.std.proofs.lemmas.List.{take-append-drop}
use Rattle.dp_edge.specs.Sink.{appended}
use Rattle.dp_edge.specs.Writing.{WritesFront}

pub appended-nil : (told : Option (List ℕ)) → appended [] told ≡ told
appended-nil None = refl
appended-nil (Some written) = ap Some (append-nil written)

pub appended-append : (a b : List ℕ) (told : Option (List ℕ)) → appended b (appended a told) ≡ appended (a ++ b) told
appended-append a b None = refl
appended-append a b (Some written) = ap Some (append_assoc written a b)

-- nothing was written
pub front_nothing : (text : List ℕ) (told tells : Option (List ℕ)) → tells ≡ told → WritesFront text told tells
front_nothing text told tells e = record { front = []; rest = text; splits = refl; sink = rw (appended-nil told) e }

-- some bytes from the front were written
pub front_taken : (text : List ℕ) (told tells : Option (List ℕ)) → ((n : ℕ) × (tells ≡ appended (take n text) told)) → WritesFront text told tells
front_taken text told tells h = record { front = take h.0 text; rest = drop h.0 text; splits = sym (take-append-drop h.0 text); sink = h.1 }

-- a front of what follows a text that was written
pub front_behind : (text a b : List ℕ) (told mid tells : Option (List ℕ)) → text ≡ a ++ b → mid ≡ appended a told → WritesFront b mid tells →
    WritesFront text told tells
front_behind text a b told mid tells e m w = record {
  front = a ++ w.front;
  rest = w.rest;
  splits = e ∙ ap (λ (x : List ℕ). a ++ x) w.splits ∙ sym (append_assoc a w.front w.rest);
  sink = w.sink ∙ ap (appended w.front) m ∙ appended-append a w.front told;
}

-- a front of a text is one of each longer text
pub front_more : (a b : List ℕ) (told tells : Option (List ℕ)) → WritesFront a told tells → WritesFront (a ++ b) told tells
front_more a b told tells w =
    record { front = w.front; rest = w.rest ++ b; splits = ap (λ (x : List ℕ). x ++ b) w.splits ∙ append_assoc w.front w.rest b; sink = w.sink }
