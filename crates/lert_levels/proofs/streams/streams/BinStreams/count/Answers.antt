use Rattle.std.proofs.Common.{◌+◌, ◌∙◌, sym, ap, length, arith}
use Rattle.lert_levels.{proofs.streams.AskLaws.set_length, proofs.streams.TableLaws.bins_length, specs.streams.BinSet.BinSet, specs.streams.Tables.bins_at}
use Rattle.lert_levels.proofs.streams.streams.BinStreams.count.Goals as goal

pub overflow_add-result : goal.overflow_add-result
overflow_add-result g c = omega (arith, c.self.invariant.few, c.self.invariant.within, c.self.invariant.readers_are.few)

pub returns : goal.returns
returns g c =
    let tables = bins_length (λ table. g.T.CountTable.quotient_bits table + g.T.CountTable.width table) (λ table cursor. g.T.CountTable.left table cursor.place)
    (λ cursor. cursor.gave) (λ table cursor. g.T.CountTable.stands table cursor.place) c.self.inside.tables.now c.self.inside.cursors.items c.self.invariant.standing in
    let all = set_length (bins_at (λ table. g.T.CountTable.quotient_bits table + g.T.CountTable.width table) (λ table cursor. g.T.CountTable.left table cursor.place)
    (λ cursor. cursor.gave) c.self.inside.tables.now c.self.inside.cursors.items) c.self.inside.frames c.self.inside.readers.items c.self.invariant.within in
    ap (λ n. n + c.self.inside.frames) (sym tables) ∙ sym all ∙ ap (λ (set : BinSet). length set.bins) c.self.view_is
