use Rattle.std.proofs.Common.{◌-◌, ◌∙◌, ap, rules, arith}
use Rattle.std.specs.Int.{div_ceil}
use Rattle.lert_spec.specs.Table.{plus}
use Rattle.lert_levels.proofs.{rows.YoungAdds.{Adds, add_place, add_fits, add_below, add_filled, add_bins}, rows.YoungBounds.added_bounded}
use Rattle.lert_levels.proofs.rows.YoungNumbers.{IsNumbered, numbered, small_bins, small_end}
use Rattle.lert_levels.proofs.rows.zero.Zero.add.Given as given
use Rattle.lert_levels.proofs.rows.zero.Zero.add.Goals.{After-grow}
use Rattle.lert_levels.proofs.rows.zero.Zero.add.Goals as goal

-- the newest bin has the position
newest : (g : given.Over) (c : After-grow g) → IsNumbered c.self.inside.settings c.grow.new.self.from c.args.m c.span.result c.grow.new.self.bins c.grow.new.self.end
newest g c =
    numbered g.T.CountTable c.self.invariant.0 c.self.view_is c.requires.position c.self.invariant.2 c.grow.ensures.from c.span.ensures.value c.span.ensures.positive c.grow.ensures.begins
    c.grow.ensures.grows

known : (g : given.Over) (c : After-grow g) → Adds g.T.CountTable c.self.inside.settings c.self.inside.tables.items c.self.inside.extent.from c.self.inside.extent.to c.args.self.now c.args.m
    c.grow.new.self.from c.span.result (c.grow.new.self.bins - 1)
known g c = record {
  filled = c.self.invariant.0;
  seen = c.self.view_is;
  next = c.requires.position;
  begin_is = c.grow.ensures.from;
  wide_is = c.span.ensures.value;
  positive = c.span.ensures.positive;
  at_is = (newest g c).at_is;
}

pub grow-requires : goal.grow-requires
grow-requires g c = record {
  first = c.requires.position.first;
  last = small_end g.T.CountTable c.self.invariant.0 c.self.view_is c.requires.position c.span.ensures.value;
  few = small_bins c.self.invariant.0 c.self.invariant.2;
}

pub overflow_sub-newest : goal.overflow_sub-newest
overflow_sub-newest g c = (newest g (goal.at.overflow_sub-newest g c).After-grow).some

pub index_mut-requires : goal.index_mut-requires
index_mut-requires g c = let place = add_place (known g (goal.at.index_mut-requires g c).After-grow) in search rules

pub add-requires : goal.add-requires
add-requires g c =
    let known = known g (goal.at.add-requires g c).After-grow in
    record {
      some = omega (arith, c.from.ensures, c.requires.some);
      few = omega (arith, c.from.ensures, c.ranges.weight.fits);
      has_room = add_fits known c.index_mut.result.now c.index_mut.ensures.value;
      below = add_below known c.index_mut.result.now c.index_mut.ensures.value c.args.tail c.requires.below;
    }

pub invariant_of-self : goal.invariant_of-self
invariant_of-self g c =
    let at = (goal.at.invariant_of-self g c).After-grow in
    let known = known g at in
    let pieces = c.add.ensures.pieces ∙ ap (plus (g.T.CountTable.pieces c.index_mut.result.now) c.args.tail) c.from.ensures in
    rw c.grow.ensures.to (
      add_filled known c.index_mut.result.now c.add.new.self c.args.tail c.args.weight c.requires.some (omega (arith, c.ranges.weight.fits))
          c.index_mut.ensures.value pieces c.add.ensures.adds c.add.ensures.room
          c.add.ensures.quotient_bits c.add.ensures.width,
      added_bounded known c.index_mut.result.now c.add.new.self c.args.tail c.args.weight c.index_mut.ensures.value pieces
          c.self.inside.bound c.add-2.new.self c.self.inside.unit c.self.inside.earlier c.units.result c.self.invariant.1
          (c.units.ensures.value ∙ ap (λ weight. div_ceil weight c.self.inside.unit) c.from-2.ensures) c.add-2.ensures.counts,
      (newest g at).numbers,
    )

pub returns : goal.returns
returns g c =
    rw c.grow.ensures.to
    (add_bins (known g (goal.at.returns g c).After-grow) c.index_mut.result.now c.add.new.self c.args.tail c.args.weight c.index_mut.ensures.value
    (c.add.ensures.pieces ∙ ap (plus (g.T.CountTable.pieces c.index_mut.result.now) c.args.tail) c.from.ensures))
