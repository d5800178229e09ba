use Rattle.lert_levels.proofs.{rows.YoungBounds.dropped_bounded, rows.YoungDrops.{Drops, drops_whole, dropped_filled, dropped_bins}, rows.YoungNumbers.{some_numbered, dropped_numbered}}
use Rattle.lert_levels.proofs.rows.zero.Zero.drop_oldest.Given as given
use Rattle.lert_levels.proofs.rows.zero.Zero.drop_oldest.Goals.{After-rotate_left}
use Rattle.lert_levels.proofs.rows.zero.Zero.drop_oldest.Goals as goal

known : (g : given.Over) (c : After-rotate_left g) → Drops g.T.CountTable c.self.inside.settings c.self.inside.tables.items c.self.inside.extent.from c.self.inside.extent.to c.args.self.now
    c.span-span.result c.clear.new.self c.rotate_left.new.self.items
known g c = record {
  filled = c.self.invariant.0;
  seen = c.self.view_is;
  whole = c.requires;
  wide_is = c.span-span.ensures.value;
  positive = c.span-span.ensures.positive;
  after_is = c.rotate_left.ensures.items;
}

pub overflow_sub-self : goal.overflow_sub-self
overflow_sub-self g c =
    some_numbered c.self.inside.settings c.self.invariant.2 c.span-span.ensures.value c.span-span.ensures.positive (drops_whole (known g (goal.at.overflow_sub-self g c).After-rotate_left))

pub overflow_sub-stay : goal.overflow_sub-stay
overflow_sub-stay g c = drops_whole (known g (goal.at.overflow_sub-stay g c).After-rotate_left)

pub invariant_of-self : goal.invariant_of-self
invariant_of-self g c =
    let known = known g (goal.at.invariant_of-self g c).After-rotate_left in
    let filled = dropped_filled known
    c.index_mut.result.now c.index_mut.ensures.value c.clear.ensures.pieces c.clear.ensures.adds c.clear.ensures.room c.clear.ensures.quotient_bits c.clear.ensures.width in (
      filled,
      dropped_bounded known filled c.clear.ensures.pieces c.self.inside.bound c.aged-self-inside.new.bound c.self.inside.unit c.self.inside.earlier c.aged-self-inside.result c.self.invariant.1
          c.aged-self-inside.ensures.some c.aged-self-inside.ensures.part c.aged-self-inside.ensures.none,
      dropped_numbered c.self.inside.settings c.self.invariant.2 c.span-span.ensures.value c.span-span.ensures.positive (drops_whole known),
    )

pub returns : goal.returns
returns g c = dropped_bins (known g (goal.at.returns g c).After-rotate_left)
