-- What the pages of a version are.
use Rattle.std.specs.Prelude.{◌≡◌, ℤ, List, [], ◌∷◌, ◌++◌, length}
use Rattle.dp_memory.specs.declared.book.Book.{Book}
use Rattle.dp_memory.specs.Table.{table_pages, InGroups}

-- the pages, in order
abbrev pub book_pages : Book → List (List ℤ)
book_pages book = table_pages book.table ++ book.last.items ∷ []

-- so many pages stand in front of the last one
abbrev pub IsBook : Book → Type 0
IsBook book = InGroups book.table × (book.before ≡ length (table_pages book.table))
