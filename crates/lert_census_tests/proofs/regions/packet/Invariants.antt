use Rattle.std.proofs.Common.{◌≡◌, length, take, All}
use Rattle.lert_spec.specs.{Items.{AreOfVersion, keys_in}, Mix.cone_of}
use Rattle.lert_census_tests.proofs.regions.packet.Given as goal

-- the list has the items so far, all of the only cone and of some weight, and room for all
abbrev pub invariant-loop-item : goal.invariant-loop-item
invariant-loop-item g l = record {
  taken : l.list.items ≡ take l.item-index l.items;
  room : l.list.room ≡ length l.items;
  own : All (λ key. cone_of l.settings key ≡ l.region) (keys_in (take l.item-index l.items));
  light : AreOfVersion 2 (take l.item-index l.items);
}
