-- Beginnings of lists: of texts, and of items.
use Rattle.std.specs.Prelude.{◌≡◌, List, ◌++◌}

-- a list begins with a part
abbrev pub BeginsWith : {A : Type 0} → List A → List A → Type 0
BeginsWith {A} whole part = (rest : List A) × (part ++ rest ≡ whole)
