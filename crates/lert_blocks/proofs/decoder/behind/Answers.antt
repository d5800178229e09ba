use Rattle.std.proofs.Common.{sym, ap, drop, refl}
use Rattle.lert_blocks.proofs.PlaceLaws.{places_of}
use Rattle.lert_blocks.proofs.decoder.behind.Goals as goal

pub returns-then-step : goal.returns-then-step
returns-then-step c = record {
  least = rw c.if-step.true refl;
  quotients = λ first. rw c.if-step.true (sym (ap (drop 1) (places_of first c.args.occupied c.requires.some c.ranges.occupied.fits)));
}
