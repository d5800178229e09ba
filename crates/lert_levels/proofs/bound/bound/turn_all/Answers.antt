use Rattle.std.proofs.{Common.{◌<◌, length, arith}, Math.ListN.get_or, lemmas.List.get_or_default, lemmas.List.Edits.map_over_more}
use Rattle.lert_levels.specs.bound.Bytes.{nothing, turned}
use Rattle.lert_levels.proofs.bound.bound.turn_all.Goals as goal

pub loop-pair-preserved : goal.loop-pair-preserved
loop-pair-preserved c =
    let pairs = c.loop-pair.pairs in
    let at = c.loop-pair.pair-index in
    let within : at < length pairs = omega arith in
    let pair = get_or pairs at nothing in
    map_over_more turned c.args.pairs.now pairs at pair (omega arith) c.loop-pair.invariant (get_or_default pairs at nothing pair within)
