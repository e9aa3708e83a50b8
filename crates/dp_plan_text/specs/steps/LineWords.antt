-- What a line's words say.
use Rattle.std.specs.Prelude.{ℕ, ◌==◌, if◌then◌else◌, Bool, true, false, ◌&&◌, nat_le, nat_lt, List, [], ◌∷◌, codes, Option, Some, None}
use Rattle.std.specs.Str.{bytes_eq}
use Rattle.dp_base.specs.declared.limits.TheConstants.{LEAST_WORDS, MOST_WORDS}
use Rattle.dp_plan.specs.declared.StageKind.{StageKind}
use Rattle.dp_plan.specs.declared.StageKind.TheVariants.{Seq, Par}
use Rattle.dp_plan_text.specs.declared.line.Line.{Line}
use Rattle.dp_plan_text.specs.declared.line.Line.TheVariants as line
use Rattle.dp_text.specs.Words.{small_number}

-- a site that a word writes, where it is above another
abbrev pub above : ℕ → Option ℕ → Option ℕ
above low None = None
above low (Some site) = if nat_lt low site then Some site else None

-- a site in front of others
abbrev pub onto_sites : ℕ → Option (List ℕ) → Option (List ℕ)
onto_sites site None = None
onto_sites site (Some sites) = Some (site ∷ sites)

-- a site before later ones
abbrev pub site_before : Option ℕ → (ℕ → Option (List ℕ)) → Option (List ℕ)
site_before None later = None
site_before (Some site) later = onto_sites site (later site)

-- sites that ascend strictly from above `low`
abbrev pub sites_above : ℕ → List (List ℕ) → Option (List ℕ)
sites_above low [] = Some []
sites_above low (word ∷ rest) = site_before (above low (small_number word)) (λ site. sites_above site rest)

abbrev pub stage_line : StageKind → Option (List ℕ) → Option Line
stage_line kind None = None
stage_line kind (Some []) = None
stage_line kind (Some (site ∷ rest)) = Some (line.Stage (record { kind = kind; sites = site ∷ rest }))

-- a region's number and W
abbrev pub region_of : Option ℕ → Option ℕ → Option Line
region_of None w = None
region_of (Some r) None = None
region_of (Some r) (Some w) = if nat_le LEAST_WORDS w && nat_le w MOST_WORDS then Some (line.Region r w) else None

-- the same where `words` stands between
abbrev pub region_labelled : List ℕ → Option ℕ → Option ℕ → Option Line
region_labelled label r w = if bytes_eq label (codes "words") then region_of r w else None

abbrev pub region_line : List (List ℕ) → Option Line
region_line (r ∷ label ∷ w ∷ []) = region_labelled label (small_number r) (small_number w)
region_line _ = None

-- the outcome that a number stands for
abbrev pub outcome : Option ℕ → Option Bool
outcome None = None
outcome (Some n) = if n == 0 then Some false else (if n == 1 then Some true else None)

abbrev pub assume_of : Option ℕ → Option Bool → Option Line
assume_of None taken = None
assume_of (Some site) None = None
assume_of (Some site) (Some taken) = Some (line.Assume (record { site = record { 0 = site }; taken = taken }))

abbrev pub assume_line : List (List ℕ) → Option Line
assume_line (site ∷ taken ∷ []) = assume_of (above 0 (small_number site)) (outcome (small_number taken))
assume_line _ = None

-- the first line, by the version that it names
abbrev pub head_of : List ℕ → Option Line
head_of version = if bytes_eq version (codes "1") then Some (line.Head false) else (if bytes_eq version (codes "2") then Some (line.Head true) else None)

abbrev pub head_line : List (List ℕ) → Option Line
head_line (version ∷ []) = head_of version
head_line _ = None

abbrev pub end_line : List (List ℕ) → Option Line
end_line [] = Some line.End
end_line _ = None

-- the line with this first word
abbrev pub labelled_line : List ℕ → List (List ℕ) → Option Line
labelled_line label rest =
    if bytes_eq label (codes "seq") then stage_line Seq (sites_above 0 rest) else
    (if bytes_eq label (codes "par") then stage_line Par (sites_above 0 rest) else
    (if bytes_eq label (codes "assume") then assume_line rest else
    (if bytes_eq label (codes "region") then region_line rest else
    (if bytes_eq label (codes "plan") then head_line rest else
    (if bytes_eq label (codes "end") then end_line rest else None)))))

-- the line that these words are, if they are one
unfoldable pub line_of : List (List ℕ) → Option Line
line_of [] = None
line_of (label ∷ rest) = labelled_line label rest
