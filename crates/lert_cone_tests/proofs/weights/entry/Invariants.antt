use Rattle.std.proofs.Common.{◌≡◌, length, take, All}
use Rattle.lert_spec.specs.{Items.{AreOfVersion, keys_in}, Mix.cone_of}
use Rattle.lert_cone.specs.History.{most_version}
use Rattle.lert_cone_tests.proofs.weights.entry.Given as goal

-- the list has the items so far, all of the only cone and of some weight, and room for all
abbrev pub invariant-loop-item : goal.invariant-loop-item
invariant-loop-item g l = record {
  taken : l.list.items ≡ take l.item-index l.items;
  room : l.list.room ≡ length l.items;
  own : All (λ key. cone_of l.settings key ≡ 0) (keys_in (take l.item-index l.items));
  light : AreOfVersion most_version (take l.item-index l.items);
}
