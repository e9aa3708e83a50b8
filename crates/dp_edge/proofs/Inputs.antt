-- The numbers of an input, word by word.
use Rattle.std.proofs.Common.{List, ◌++◌, ℤ, Result, Ok, Err}
use Rattle.dp_edge.specs.declared.input.InputFail.{InputFail}

-- the numbers of earlier words, before what the later ones give
abbrev pub numbers_behind : List ℤ → Result (List ℤ) InputFail → Result (List ℤ) InputFail
numbers_behind earlier (Ok numbers) = Ok (earlier ++ numbers)
numbers_behind earlier (Err fail) = Err fail
