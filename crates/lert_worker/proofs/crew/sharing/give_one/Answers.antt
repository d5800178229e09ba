use Rattle.std.proofs.{Common.{◌%◌, arith, length}, Math.Nat.mod-le, lemmas.Nat.mod_below, lemmas.Option.slice_get-get_or}
use Rattle.lert_worker.proofs.crew.{Pouring.set_back, Shared.given_one}
use Rattle.lert_worker.proofs.crew.sharing.give_one.Goals as goal

pub give-requires-clause-most : goal.give-requires-clause-most
give-requires-clause-most g c = c.requires.most

pub returns-in-Ok : goal.returns-in-Ok
returns-in-Ok g c = record {
  given = given_one c.args.trace c.args.reader c.args.crew.now c.index-crew-by.result c.give.new.self
      (mod_below c.args.trace (length c.args.crew.now) c.requires.some) c.in-Ok.ensures.given;
  back = tt;
  unchanged = tt;
}

pub returns-in-Err : goal.returns-in-Err
returns-in-Err g c = record {
  given = tt;
  back = c.in-Err.ensures.back.0;
  unchanged = set_back c.args.crew.now _ c.index-crew-by.result c.give.new.self c.in-Err.ensures.back.1;
}

pub nonzero_rem-by : goal.nonzero_rem-by
nonzero_rem-by g c = c.requires.some

pub offset_bounds-crew-by : goal.offset_bounds-crew-by
offset_bounds-crew-by g c =
    let least = mod-le c.args.trace (length c.args.crew.now) in
    let most = c.requires.most in
    record { fits = omega (arith, least, most) }

pub give-requires-clause-above : goal.give-requires-clause-above
give-requires-clause-above g c =
    c.requires.above (c.args.trace % length c.args.crew.now) _ (slice_get-get_or c.args.crew.now (c.args.trace % length c.args.crew.now) c.index-crew-by.result
    (mod_below c.args.trace (length c.args.crew.now) c.requires.some))
