use Rattle.std.proofs.Common.{List, map, ap, subst, sym, vec_capacity}
use Rattle.lert_conelock.specs.Sight.{LockSight}
use Rattle.lert_fleet.specs.{Cones.FleetPassSight, Each.EachTwo, Rows.IsWholePass}
use Rattle.lert_fleet.proofs.{Locking.whole_each, Closing.{closes_each, room_all}}
use Rattle.crossbeam_utils.specs.Padded.{padded_value}
use Rattle.lert_fleet.proofs.fleet.Fleet.close.Goals as goal

pub close_each-requires-clause-whole : goal.close_each-requires-clause-whole
close_each-requires-clause-whole g c =
    subst (λ (fleet : List (LockSight g.row.S.Denot)). EachTwo IsWholePass fleet c.pass.inside.cones.items) (sym c.self.view_is)
    (subst (λ (pass : FleetPassSight g.row.S.Denot g.row.S-Refusal.Denot). EachTwo IsWholePass c.args.self pass.cones) (sym c.pass.view_is)
    (whole_each c.args.self c.args.pass c.requires.belongs c.requires.whole))

pub close_each-requires-clause-room : goal.close_each-requires-clause-room
close_each-requires-clause-room g c =
    room_all c.args.self c.args.pass c.self.inside.locks.items c.pass.inside.lo c.pass.inside.hi c.pass.inside.cones.items c.pass.inside.states.items
    (vec_capacity c.pass.inside.states) c.requires.belongs c.requires.whole.lo_is c.self.view_is c.pass.view_is c.pass.invariant.0 c.pass.invariant.1

pub returns : goal.returns
returns g c =
    closes_each g.S.Held c.args.self (map padded_value c.self.inside.locks.items) c.args.pass c.pass.inside.cones.items c.pass.inside.states.items c.close_each.result.items
    c.close_each.ensures c.pass.invariant.0 c.self.view_is (ap (λ (x : FleetPassSight g.row.S.Denot g.row.S-Refusal.Denot). x.cones) c.pass.view_is)
