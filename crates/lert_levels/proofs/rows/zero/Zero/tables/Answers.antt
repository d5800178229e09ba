use Rattle.std.proofs.{Common.sym, lemmas.List.length-take-le}
use Rattle.lert_levels.proofs.rows.LoadLaws.{used, used_within, used_are, used_rooms, used_of_zero, used_light, used_narrow, used_some, used_few}
use Rattle.lert_levels.proofs.rows.zero.Zero.tables.Goals as goal

pub slice_bounds-result-end : goal.slice_bounds-result-end
slice_bounds-result-end g c =
    sym (length-take-le c.self.inside.extent.bins c.deref.result.now (used_within (used g.T.CountTable c.self.invariant.0 c.self.view_is c.deref.ensures.value c.self.invariant.2)))

pub returns : goal.returns
returns g c =
    let used = used g.T.CountTable c.self.invariant.0 c.self.view_is c.deref.ensures.value c.self.invariant.2 in
    record {
      pieces = used_are used;
      of_zero = used_of_zero used;
      rooms = used_rooms used;
      light = used_light used;
      narrow = used_narrow used;
      some = used_some used;
      few = used_few used;
    }
