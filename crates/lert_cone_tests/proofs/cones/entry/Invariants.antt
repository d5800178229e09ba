use Rattle.std.proofs.Common.{◌≡◌, length, take, All}
use Rattle.lert_spec.specs.{Items.units, Mix.cone_of}
use Rattle.lert_cone_tests.proofs.cones.entry.Given as goal

-- the list has the keys so far, all of the only cone, and room for all
abbrev pub invariant-loop-key : goal.invariant-loop-key
invariant-loop-key g l = record {
  taken : l.list.items ≡ units (take l.key-index l.keys);
  room : l.list.room ≡ length l.keys;
  own : All (λ key. cone_of l.settings key ≡ 0) (take l.key-index l.keys);
}
