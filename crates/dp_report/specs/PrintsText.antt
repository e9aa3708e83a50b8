-- What a program prints.
use Rattle.std.specs.Prelude.{ℕ, ℤ, List}
use Rattle.std.specs.Fmt.{signed_decimal}
use Rattle.std.specs.List.{flat_map}
use Rattle.dp_report.specs.Lines.{line}

-- the line of one print
abbrev pub print_line : ℤ → List ℕ
print_line z = line (signed_decimal z)

-- one line per print
abbrev pub prints_bytes : List ℤ → List ℕ
prints_bytes prints = flat_map print_line prints
