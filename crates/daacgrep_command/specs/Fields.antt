-- A text after its labels.
use Rattle.std.specs.Prelude.{ℕ, Bool, true, false, List, [], ◌∷◌, ◌++◌, decimal}
use Rattle.daacgrep_command.specs.declared.printing.Labels.{Labels}

-- a name or a value with a colon after it, where it is wanted
abbrev pub name_field : Bool → List ℕ → List ℕ
name_field true name = name ++ 58 ∷ []
name_field false name = []

-- a number with a colon after it, where it is wanted
abbrev pub number_field : Bool → ℕ → List ℕ
number_field true n = decimal n ++ 58 ∷ []
number_field false n = []

-- a text after its labels, and the mark at its end
abbrev pub entry : Labels → List ℕ → ℕ → ℕ → List ℕ → List ℕ → List ℕ
entry labels name number place value text =
    name_field labels.names name
    ++ (number_field labels.numbers number
    ++ (number_field labels.places place ++ (name_field labels.values value ++ (text ++ labels.end ∷ []))))
