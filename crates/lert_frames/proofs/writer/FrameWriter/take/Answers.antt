use Rattle.std.proofs.Common.{◌+◌, ◌*◌, ◌%◌, ◌-◌, ◌^◌, ◌∷◌, ◌++◌, List, [], sym, ap, subst, arith}
use Rattle.lert_blocks.specs.Text.{blocks_text, pieces_in}
use Rattle.lert_frames.{specs.Growing.IsHolding, specs.Place.{slots_each, tail_limit}, specs.Spilt.IsBehind, proofs.GrowingLaws.growing_take, proofs.RoomLaws.group_fits}
use Rattle.lert_frames.proofs.WritingLaws.{last_count, costs_push, width_from, passed_take, ahead_take, stands_take}
use Rattle.lert_spec.{specs.declared.piece.Piece.Piece, specs.Table.AscendsFrom}
use Rattle.lert_frames.proofs.writer.FrameWriter.take.Goals as goal

pub put-requires-clause-narrow : goal.put-requires-clause-narrow
put-requires-clause-narrow c = let w = c.args.self.now in (width_from w.settings w.level w.width w.growing.valid w.growing.last w.growing.width_is).0

pub put-requires-clause-wide : goal.put-requires-clause-wide
put-requires-clause-wide c = let w = c.args.self.now in (width_from w.settings w.level w.width w.growing.valid w.growing.last w.growing.width_is).1

pub put-requires-clause-count : goal.put-requires-clause-count
put-requires-clause-count c = last_count (tail_limit c.args.self.now.settings) c.args.self.now.put c.args.piece c.requires.given

pub cost-spent-requires : goal.cost-spent-requires
cost-spent-requires c = (last_count (tail_limit c.args.self.now.settings) c.args.self.now.put c.args.piece c.requires.given).1

pub overflow_sub-self : goal.overflow_sub-self
overflow_sub-self c = let w = c.args.self.now in omega (arith, w.holding.left_is, c.requires.fits, costs_push w.version w.put c.args.piece, c.cost-spent.ensures)

pub invariant_of-self-clause-holding : goal.invariant_of-self-clause-holding
invariant_of-self-clause-holding c =
    let w = c.args.self.now in
    let p = c.args.piece in
    let wide = width_from w.settings w.level w.width w.growing.valid w.growing.last w.growing.width_is in
    let count = last_count (tail_limit w.settings) w.put p c.requires.given in
    let spent = c.cost-spent.ensures in
    let sum = costs_push w.version w.put p in
    let few = group_fits w.version w.width (p.tail % 2 ^ w.width) p.count wide.0 count.0 in
    let reserve = ap (λ n. slots_each w.version * n) spent in
    subst (λ (ps : List Piece). IsHolding w.settings w.version w.level w.place w.number (w.left - c.cost-spent.result) w.outlet w.ends c.put.new.self.len w.long ps) (sym c.push.ensures)
    (growing_take w.growing w.holding c.put.new.self.len c.cost-spent.result (w.left - c.cost-spent.result) (w.put ++ p ∷ []) c.put.ensures.more
    (omega (arith, c.put.ensures.grows, few, reserve)) (omega (arith, w.holding.left_is, c.requires.fits, sum, spent)) (omega (arith, sum, spent)))

pub returns-clause-writing : goal.returns-clause-writing
returns-clause-writing c file here at =
    let w = c.args.self.now in
    let p = c.args.piece in
    let limit = tail_limit w.settings in
    record {
      ahead = λ piece up. ahead_take w.width w.number limit w.put p here piece (subst (λ (ps : List Piece). AscendsFrom 0 limit (ps ++ piece ∷ [])) c.push.ensures up);
      at = record {
        passed = subst (λ (ps : List Piece). AscendsFrom 0 (64 * (w.number + 1) * 2 ^ w.width) ps) (sym c.push.ensures) (passed_take w.width w.number limit w.put p c.requires.given.table here);
        stands = subst (λ (ps : List Piece). IsBehind w.long w.place (blocks_text w.width 0 w.number ps) w.width w.number
            (pieces_in w.width w.number ps) file w.ends w.outlet c.put.new.self) (sym c.push.ensures)
            (stands_take w.long w.place w.width w.number limit w.put p file w.ends w.outlet w.block c.put.new.self c.requires.given.table here w.holding.some c.put.ensures.filled at.stands);
      };
    }
