-- What the table of the code says, in the parts of the definition.
use Rattle.std.specs.{Prelude.{ℕ, ◌<◌, List, length, map}, Borrow.Bor}
use Rattle.lert_text.specs.{declared.causes.Part.Part as Entry, declared.causes.Part.TheVariants.{Text, Field}}
use Rattle.lert_text.specs.StatusLine.{Part, text, field}

abbrev pub part_of : Entry → Part
part_of (Text bytes) = text bytes.now
part_of (Field place) = field place

-- what the rows of a table say
abbrev pub rows_of : List (Bor (List Entry)) → List (List Part)
rows_of rows = map (λ row. map part_of row.now) rows

-- it names a field that there is
abbrev pub NamesField : ℕ → Part → Type 0
NamesField fields (text bytes) = Unit {0}
NamesField fields (field place) = place < fields

-- how many bytes it takes at most, where a number has at most 20 digits
abbrev pub most_bytes : Part → ℕ
most_bytes (text bytes) = length bytes
most_bytes (field place) = 20
