-- What a line's words say.
use Rattle.std.specs.Prelude.{ℕ, if◌then◌else◌, Bool, true, false, nat_le, nat_lt, List, [], ◌∷◌, codes, Option, Some, None}
use Rattle.std.specs.Str.{bytes_eq}
use Rattle.dp_profile_text.specs.declared.line.Line.{Line}
use Rattle.dp_profile_text.specs.declared.line.Line.TheVariants as line
use Rattle.dp_text.specs.Words.{small_number, number_upto}
use Rattle.dp_profile.specs.ProfileFits.{most_count}

-- a count
abbrev pub count : List ℕ → Option ℕ
count word = number_upto most_count word

abbrev pub region_of : Option ℕ → Option Line
region_of None = None
region_of (Some r) = Some (line.Region r)

abbrev pub region_line : List (List ℕ) → Option Line
region_line (r ∷ []) = region_of (small_number r)
region_line _ = None

-- a site's counts
abbrev pub runs_of : Option ℕ → Option ℕ → Option ℕ → Option Line
runs_of None runs nonzero = None
runs_of (Some site) None nonzero = None
runs_of (Some site) (Some runs) None = None
runs_of (Some site) (Some runs) (Some nonzero) =
    if nat_le nonzero runs then Some (line.Runs (record { 0 = site }) (record { runs = runs; nonzero = nonzero })) else None

abbrev pub runs_line : List (List ℕ) → Option Line
runs_line (site ∷ runs ∷ nonzero ∷ []) = runs_of (small_number site) (count runs) (count nonzero)
runs_line _ = None

-- whether the word says that the store was of an earlier iteration
abbrev pub kind : List ℕ → Option Bool
kind word = if bytes_eq word (codes "intra") then Some false else (if bytes_eq word (codes "carried") then Some true else None)

abbrev pub flow_of : Option ℕ → Option ℕ → Option Bool → Option ℕ → Option Line
flow_of None to carried shown = None
flow_of (Some from) None carried shown = None
flow_of (Some from) (Some to) None shown = None
flow_of (Some from) (Some to) (Some carried) None = None
flow_of (Some from) (Some to) (Some carried) (Some shown) =
    if nat_lt 0 shown then Some (line.Flow (record { from = record { 0 = from }; to = record { 0 = to }; carried = carried; shown = shown })) else None

abbrev pub flow_line : List (List ℕ) → Option Line
flow_line (from ∷ to ∷ carried ∷ shown ∷ []) = flow_of (small_number from) (small_number to) (kind carried) (count shown)
flow_line _ = None

abbrev pub head_of : List ℕ → Option Line
head_of version = if bytes_eq version (codes "1") then Some line.Head else None

abbrev pub head_line : List (List ℕ) → Option Line
head_line (version ∷ []) = head_of version
head_line _ = None

abbrev pub end_line : List (List ℕ) → Option Line
end_line [] = Some line.End
end_line _ = None

-- the line with this first word
abbrev pub labelled_line : List ℕ → List (List ℕ) → Option Line
labelled_line label rest =
    if bytes_eq label (codes "flow") then flow_line rest else
    (if bytes_eq label (codes "runs") then runs_line rest else
    (if bytes_eq label (codes "region") then region_line rest else
    (if bytes_eq label (codes "profile") then head_line rest else
    (if bytes_eq label (codes "end") then end_line rest else None))))

-- the line that these words are, if they are one
unfoldable pub line_of : List (List ℕ) → Option Line
line_of [] = None
line_of (label ∷ rest) = labelled_line label rest
