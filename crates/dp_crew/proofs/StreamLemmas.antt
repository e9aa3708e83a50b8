-- Prints that are written bit by bit.
use Rattle.std.proofs.Common.{◌≡◌, refl, sym, ap, ◌∙◌, subst, ℕ, List, [], ◌++◌, append_assoc, ℤ, Option, Result, Ok, Err}
use Rattle.std.proofs.lemmas.Grind.{flat_map-append}
use Rattle.dp_edge.specs.Sink.{appended}
use Rattle.dp_report.specs.PrintsText.{print_line, prints_bytes}
use Rattle.dp_edge.specs.Writing.{WritesFront}
use Rattle.dp_crew.specs.Output.{Emits, Streams}
use Rattle.std.specs.Result.{IsErr}
use Rattle.dp_edge.proofs.FrontLemmas.{appended-append, appended-nil, front_behind, front_more}

pub prints-split : (a b : List ℤ) → prints_bytes (a ++ b) ≡ prints_bytes a ++ prints_bytes b
prints-split a b = flat_map-append print_line a b

-- first these, then those
pub emits_on : (a b d : List ℤ) (told mid tells : Option (List ℕ)) → Emits a b told mid → Emits b d mid tells → Emits a d told tells
emits_on a b d told mid tells e f = record {
  written = e.written ++ f.written;
  splits = e.splits ∙ ap (λ (x : List ℤ). e.written ++ x) f.splits ∙ sym (append_assoc e.written f.written d);
  sink = f.sink ∙ ap (appended (prints_bytes f.written)) e.sink ∙ appended-append (prints_bytes e.written) (prints_bytes f.written) told
      ∙ ap (λ (x : List ℕ). appended x told) (sym (prints-split e.written f.written));
}

pub emits_front : (a b : List ℤ) (told mid tells : Option (List ℕ)) → Emits a b told mid → WritesFront (prints_bytes b) mid tells →
    WritesFront (prints_bytes a) told tells
emits_front a b told mid tells e w =
    front_behind (prints_bytes a) (prints_bytes e.written) (prints_bytes b) told mid tells (ap prints_bytes e.splits ∙ prints-split e.written b) e.sink w

pub emits_ahead : (a b more : List ℤ) (told tells : Option (List ℕ)) → Emits a b told tells → Emits (a ++ more) (b ++ more) told tells
emits_ahead a b more told tells e =
    record { written = e.written; splits = ap (λ (x : List ℤ). x ++ more) e.splits ∙ append_assoc e.written b more; sink = e.sink }

pub front_ahead : (a more : List ℤ) (told tells : Option (List ℕ)) → WritesFront (prints_bytes a) told tells → WritesFront (prints_bytes (a ++ more)) told tells
front_ahead a more told tells w = rw (prints-split a more) (front_more (prints_bytes a) (prints_bytes more) told tells w)

-- what was written is a front, where it stops now
pub emits_stopped : (prints left : List ℤ) (told tells : Option (List ℕ)) → Emits prints left told tells → WritesFront (prints_bytes prints) told tells
emits_stopped prints left told tells e = record {
  front = prints_bytes e.written;
  rest = prints_bytes left;
  splits = ap prints_bytes e.splits ∙ prints-split e.written left;
  sink = e.sink;
}

-- a front of the front of these prints
pub front_within : (a b : List ℤ) (told tells : Option (List ℕ)) → ((more : List ℤ) × (b ≡ a ++ more)) → WritesFront (prints_bytes a) told tells →
    WritesFront (prints_bytes b) told tells
front_within a b told tells h w = subst (λ (all : List ℤ). WritesFront (prints_bytes all) told tells) (sym h.1) (front_ahead a h.0 told tells w)

-- Something stopped, and this was written.
pub streams_stopped : {X E : Type 0} (r : Result X E) (prints : List ℤ) (left : X → List ℤ) (told tells : Option (List ℕ)) → IsErr r →
    WritesFront (prints_bytes prints) told tells → Streams r prints left told tells
streams_stopped (Ok x) prints left told tells h w = absurd (cc)
streams_stopped (Err stop) prints left told tells h w = w

-- nothing was written yet
pub emits_nothing : (prints : List ℤ) (told : Option (List ℕ)) → Emits prints prints told told
emits_nothing prints told = record { written = []; splits = refl; sink = sym (appended-nil told) }
