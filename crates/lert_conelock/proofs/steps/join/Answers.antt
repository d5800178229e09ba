use Rattle.std.proofs.Common.{rules}
use Rattle.lert_conelock.proofs.Joining.{join_at}
use Rattle.lert_conelock.proofs.steps.join.Goals as goal

pub join_seat-requires : goal.join_seat-requires
join_seat-requires g c = let other = c.requires.idle.1 in (
  search rules,
  search rules,
  (λ i. (other.me_is i).1),
  search rules,
  join_at _ _ _ _ _ _ _ c.requires.idle.0 other c.requires.meets,
)
