-- The list that a trail of snapshots stands for.
use Rattle.std.specs.Prelude.{List, [], ◌∷◌, ◌++◌}
use Rattle.lert_io.specs.{declared.seen.Link.Link, declared.seen.Link.TheVariants.{Start, Then}}

-- the items of a trail, oldest first
abbrev pub items : {T : Type 0} → Link T → List T
items Start = []
items (Then before item) = before.value ++ item.value ∷ []
