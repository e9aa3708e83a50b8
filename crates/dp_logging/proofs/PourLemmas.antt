-- A text that is written bit by bit.
use Rattle.std.proofs.Common.{◌≡◌, sym, ap, ◌∙◌, subst, ℕ, List, [], ◌++◌, append-nil, append_assoc, Option, Result, Ok, Err}
use Rattle.std.specs.Result.{IsErr}
use Rattle.dp_edge.specs.Sink.{appended}
use Rattle.dp_edge.specs.Writing.{WritesFront}
use Rattle.dp_edge.proofs.FrontLemmas.{appended-append, appended-nil, front_behind, front_more}
use Rattle.dp_logging.specs.Pouring.{Pours, StreamsText}

-- first these, then those
pub pours_on : (a b d : List ℕ) (told mid tells : Option (List ℕ)) → Pours a b told mid → Pours b d mid tells → Pours a d told tells
pours_on a b d told mid tells e f = record {
  written = e.written ++ f.written;
  splits = e.splits ∙ ap (λ (x : List ℕ). e.written ++ x) f.splits ∙ sym (append_assoc e.written f.written d);
  sink = f.sink ∙ ap (appended f.written) e.sink ∙ appended-append e.written f.written told;
}

pub pours_front : (a b : List ℕ) (told mid tells : Option (List ℕ)) → Pours a b told mid → WritesFront b mid tells → WritesFront a told tells
pours_front a b told mid tells e w = front_behind a e.written b told mid tells e.splits e.sink w

-- with more behind it
pub pours_ahead : (a b more : List ℕ) (told tells : Option (List ℕ)) → Pours a b told tells → Pours (a ++ more) (b ++ more) told tells
pours_ahead a b more told tells e =
    record { written = e.written; splits = ap (λ (x : List ℕ). x ++ more) e.splits ∙ append_assoc e.written b more; sink = e.sink }

-- what was written is a front, where it stops now
pub pours_stopped : (a b : List ℕ) (told tells : Option (List ℕ)) → Pours a b told tells → WritesFront a told tells
pours_stopped a b told tells e = record { front = e.written; rest = b; splits = e.splits; sink = e.sink }

-- nothing was written
pub pours_nothing : (a b : List ℕ) (told tells : Option (List ℕ)) → a ≡ b → tells ≡ told → Pours a b told tells
pours_nothing a b told tells same is = record { written = []; splits = same; sink = is ∙ sym (appended-nil told) }

pub poured_all : (a b : List ℕ) (told tells : Option (List ℕ)) → b ≡ [] → Pours a b told tells → tells ≡ appended a told
poured_all a b told tells none e =
    e.sink ∙ ap (λ (x : List ℕ). appended x told) (sym (e.splits ∙ ap (λ (x : List ℕ). e.written ++ x) none ∙ append-nil e.written))

-- Something stopped, and this was written.
pub stopped : {X E : Type 0} (r : Result X E) (text : List ℕ) (left : X → List ℕ) (told tells : Option (List ℕ)) → IsErr r → WritesFront text told tells →
    StreamsText r text left told tells
stopped (Ok x) text left told tells h w = absurd (cc)
stopped (Err stop) text left told tells h w = w

-- ---- a part of what is left is written

module _ (first out here rest : List ℕ) (told mid tells : Option (List ℕ)) (e : Pours first (out ++ (here ++ rest)) told mid) where
  pub part_front : WritesFront (out ++ here) mid tells → WritesFront first told tells
  part_front w = pours_front first (out ++ (here ++ rest)) told mid tells e (subst (λ (x : List ℕ). WritesFront x mid tells) (append_assoc out here rest)
      (front_more (out ++ here) rest mid tells w))

  pub part_pours : (more : List ℕ) → Pours (out ++ here) more mid tells → Pours first (more ++ rest) told tells
  part_pours more f = pours_on first (out ++ (here ++ rest)) (more ++ rest) told mid tells e (subst (λ (x : List ℕ). Pours x (more ++ rest) mid tells)
      (append_assoc out here rest) (pours_ahead (out ++ here) more rest mid tells f))

-- what is left is split so
pub split_so : (first out left here rest : List ℕ) (told mid : Option (List ℕ)) → left ≡ here ++ rest → Pours first (out ++ left) told mid →
    Pours first (out ++ (here ++ rest)) told mid
split_so first out left here rest told mid is e = subst (λ (x : List ℕ). Pours first (out ++ x) told mid) is e

-- nothing is left
pub left_none : (first out left : List ℕ) (told mid : Option (List ℕ)) → left ≡ [] → Pours first (out ++ left) told mid → Pours first out told mid
left_none first out left told mid none e = subst (λ (x : List ℕ). Pours first x told mid) (ap (λ (x : List ℕ). out ++ x) none ∙ append-nil out) e

-- ---- some lines are written of what is left

module _ (out lines rest left more : List ℕ) (is : more ≡ out ++ lines) (split : left ≡ lines ++ rest) (told tells : Option (List ℕ)) where
  all_is : more ++ rest ≡ out ++ left
  all_is = ap (λ (x : List ℕ). x ++ rest) is ∙ append_assoc out lines rest ∙ ap (λ (x : List ℕ). out ++ x) (sym split)

  pub lines_front : WritesFront more told tells → WritesFront (out ++ left) told tells
  lines_front w = subst (λ (x : List ℕ). WritesFront x told tells) all_is (front_more more rest told tells w)

  pub lines_pour : (after : List ℕ) → Pours more after told tells → Pours (out ++ left) (after ++ rest) told tells
  lines_pour after f = subst (λ (x : List ℕ). Pours x (after ++ rest) told tells) all_is (pours_ahead more after rest told tells f)
