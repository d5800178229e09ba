-- The list that a chain of snapshots stands for.
use Rattle.std.specs.Prelude.{◌+◌, [], ◌∷◌, ◌++◌}
use Rattle.lert_bay.specs.{Chain.Chain, declared.past.Link.Link, declared.past.Link.TheVariants.{Start, Then, Same}}

-- what a link stands for
abbrev pub chain : {T : Type 0} → Link T → Chain T
chain Start = record { items = []; depth = 0 }
chain (Then before item) = record { items = before.value.items ++ item.value ∷ []; depth = before.value.depth + 1 }
chain (Same other) = record { items = other.value.value.items; depth = other.value.value.depth + 1 }
