-- Each use of a name against each meaning that it can have.
use Rattle.std.proofs.Common.{◌≡◌, refl, List, [], ◌∷◌, map, Option, Some, None, codes}
use Rattle.dp_check.specs.declared.fail.CheckFail.{CheckFail}
use Rattle.dp_check.specs.declared.fail.CheckFail.TheVariants.{Unknown, Twice, NotArray, NotScalar, Arguments, ReadOnly}
use Rattle.dp_check.specs.declared.names.Meaning.{Meaning}
use Rattle.dp_check.specs.declared.names.Meaning.TheVariants.{Scalar, Array, Input, InputLen, Function}
use Rattle.dp_check.specs.Names.{Named, named, predeclared}
use Rattle.dp_check.specs.Offence.{Use, Declares, Reads, ReadsElement, Assigns, AssignsElement, Calls, offence_of}

-- no meaning, a scalar, an array, the input, its length, and a function with two parameters
abbrev meanings : List (Option Meaning)
meanings = None ∷ Some (Scalar (record { 0 = 3 })) ∷ Some (Array (record { 0 = 4 })) ∷ Some Input ∷ Some InputLen ∷ Some (Function 1 2) ∷ []

-- the offences on line 7
abbrev offences : Use → List (Option CheckFail)
offences purpose = map (offence_of 7 purpose) meanings

declares : offences Declares ≡ None ∷ Some (Twice 7) ∷ Some (Twice 7) ∷ Some (Twice 7) ∷ Some (Twice 7) ∷ Some (Twice 7) ∷ []
declares = refl

reads : offences Reads ≡ Some (Unknown 7) ∷ None ∷ Some (NotScalar 7) ∷ Some (NotScalar 7) ∷ None ∷ Some (Unknown 7) ∷ []
reads = refl

reads_an_element : offences ReadsElement ≡ Some (Unknown 7) ∷ Some (NotArray 7) ∷ None ∷ None ∷ Some (NotArray 7) ∷ Some (Unknown 7) ∷ []
reads_an_element = refl

assigns : offences Assigns ≡ Some (Unknown 7) ∷ None ∷ Some (NotScalar 7) ∷ Some (NotScalar 7) ∷ Some (ReadOnly 7) ∷ Some (Unknown 7) ∷ []
assigns = refl

assigns_an_element : offences AssignsElement ≡ Some (Unknown 7) ∷ Some (NotArray 7) ∷ None ∷ Some (ReadOnly 7) ∷ Some (NotArray 7) ∷ Some (Unknown 7) ∷ []
assigns_an_element = refl

calls_with_two : offences (Calls 2) ≡ Some (Unknown 7) ∷ Some (Unknown 7) ∷ Some (Unknown 7) ∷ Some (Unknown 7) ∷ Some (Unknown 7) ∷ None ∷ []
calls_with_two = refl

other_numbers_of_arguments : map (λ count. offence_of 7 (Calls count) (Some (Function 1 2))) (0 ∷ 1 ∷ 3 ∷ []) ≡ Some (Arguments 7) ∷ Some (Arguments 7)
    ∷ Some (Arguments 7) ∷ []
other_numbers_of_arguments = refl

-- names are compared whole
abbrev names : List Named
names = record { name = codes "ab"; meaning = Scalar (record { 0 = 5 }) } ∷ record { name = codes "a"; meaning = Scalar (record { 0 = 6 }) } ∷ []

whole_names : map (named names) (codes "a" ∷ codes "ab" ∷ codes "abc" ∷ codes "b" ∷ codes "A" ∷ [] ∷ []) ≡ Some (Scalar (record { 0 = 6 }))
    ∷ Some (Scalar (record { 0 = 5 })) ∷ None ∷ None ∷ None ∷ None ∷ []
whole_names = refl

stand_before_every_text : map (named predeclared) (codes "input" ∷ codes "input_len" ∷ codes "main" ∷ codes "print" ∷ []) ≡ Some Input
    ∷ Some InputLen ∷ None ∷ None ∷ []
stand_before_every_text = refl
