-- By what rule a cone of a run refuses a packet: by its capacity, or by its weight. Its files are of the version in which an item may
-- weigh more than 1.
use Rattle.std.proofs.Common.{◌≡◌, ◌⊎◌, ◌+◌, ◌<◌, ◌≤◌, List, length, inl, inr, arith}
use Rattle.lert_base.specs.declared.cone_fault.ConeFault.{ConeFault}
use Rattle.lert_base.specs.declared.cone_fault.ConeFault.TheVariants.{Closed, Broken, CapacityFull, BayFailed, Unsound, WeightFull, OldJournal}
use Rattle.lert_cone.specs.{History.most_version, Refuses.IsRefused}
use Rattle.lert_spec.specs.{Counts.{weighed, weight_of}, Edges.{capacity, weight_room}, declared.item.Item.Item, declared.numbers.Numbers.Numbers}

-- the items of a packet are more than a cone takes behind some others
pub record IsOverCapacity (s : Numbers) (past items : List Item) (fault : ConeFault) : Type 0 where
  pub fault_is : fault ≡ CapacityFull (length past) (length items)
  pub over : capacity s < length past + length items

-- they aren't, and weigh more than it takes
pub record IsOverWeight (s : Numbers) (past items : List Item) (fault : ConeFault) : Type 0 where
  pub fault_is : fault ≡ WeightFull (weight_of weighed past) (weight_of weighed items)
  pub within : length past + length items ≤ capacity s
  pub over : weight_room s < weight_of weighed past + weight_of weighed items

pub by_rule : (s : Numbers) (past items : List Item) (fault : ConeFault) → IsRefused s most_version (length past) (weight_of weighed past) items fault →
    IsOverCapacity s past items fault ⊎ IsOverWeight s past items fault
by_rule s past items Closed none = absurd none
by_rule s past items Broken none = absurd none
by_rule s past items (CapacityFull n len) why = inl (record { fault_is = λ i. CapacityFull (why.0 i) (why.1 i); over = why.2 })
by_rule s past items BayFailed none = absurd none
by_rule s past items (Unsound file at) none = absurd none
by_rule s past items (WeightFull weight more) why = inr (record { fault_is = λ i. WeightFull (why.0 i) (why.1 i); within = why.2; over = why.3 })
by_rule s past items (OldJournal place) why = absurd (omega (arith, why.2))
