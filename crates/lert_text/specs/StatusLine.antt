-- The line that the program writes on standard error where it doesn't end well. Numbers are decimal, and the line ends
-- with byte 10.
use Rattle.std.specs.{Prelude.{ℕ, List, [], ◌∷◌, ◌++◌, get_or, codes, decimal}, List.flat_map}

-- a part of what went wrong: a text, or the field at this place of the status's fields, which count from 0
pub data Part : Type 0 where
  text : List ℕ → Part
  field : ℕ → Part

-- what went wrong, at the place that is the status's number: status 0 has no line
abbrev pub causes : List (List Part)
causes =
    [] ∷
    (text (codes "usage rule ") ∷ field 0 ∷ []) ∷
    (text (codes "place fault") ∷ []) ∷
    (text (codes "trace ") ∷ field 0 ∷ text (codes " fault") ∷ []) ∷
    (text (codes "trace ") ∷ field 0 ∷ text (codes " bad at ") ∷ field 1 ∷ []) ∷
    (text (codes "trace ") ∷ field 0 ∷ text (codes " too long") ∷ []) ∷
    (text (codes "cone ") ∷ field 0 ∷ text (codes " not fresh") ∷ []) ∷
    (text (codes "cone ") ∷ field 0 ∷ text (codes " disk fault") ∷ []) ∷
    (text (codes "cone ") ∷ field 0 ∷ text (codes " full at ") ∷ field 1 ∷ text (codes " plus ") ∷ field 2 ∷ []) ∷
    (text (codes "cone ") ∷ field 0 ∷ text (codes " file ") ∷ field 1 ∷ text (codes " malformed at ") ∷ field 2 ∷ []) ∷
    (text (codes "cone ") ∷ field 0 ∷ text (codes " has other settings") ∷ []) ∷
    (text (codes "output fault") ∷ []) ∷
    (text (codes "out of memory") ∷ []) ∷
    (text (codes "cone ") ∷ field 0 ∷ text (codes " weight full at ") ∷ field 1 ∷ text (codes " plus ") ∷ field 2 ∷ []) ∷
    []

abbrev pub parts : ℕ → List Part
parts number = get_or causes number []

-- how a part is printed
abbrev pub part_text : List ℕ → Part → List ℕ
part_text fields (text bytes) = bytes
part_text fields (field place) = decimal (get_or fields place 0)

-- what went wrong, by the number of the status and its fields in their order
abbrev pub cause : ℕ → List ℕ → List ℕ
cause number fields = flat_map (part_text fields) (parts number)

abbrev pub status_line : ℕ → ℕ → ℕ → ℕ → ℕ → ℕ → List ℕ
status_line number a b d e f = codes "lert: " ++ cause number (a ∷ b ∷ d ∷ e ∷ f ∷ []) ++ codes "\n"
