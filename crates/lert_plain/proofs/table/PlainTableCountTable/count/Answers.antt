use Rattle.std.proofs.Common.{◌+◌, ◌^◌, ◌∙◌, sym, ap}
use Rattle.lert_spec.specs.Table.{count_of}
use Rattle.lert_plain.specs.Contents.{Contents}
use Rattle.lert_plain.proofs.Places.{count_of-present, count_of-absent}
use Rattle.lert_plain.proofs.table.PlainTableCountTable.count.Goals as goal

pub returns-in-Ok : goal.returns-in-Ok
returns-in-Ok c =
    let pieces = c.self.inside.pieces.items in
    let here = rw c.deref.ensures.value at c.in-Ok.ensures in
    let count = count_of-present 0 (2 ^ (c.self.inside.quotient_bits + c.self.inside.width)) pieces c.args.tail c.in-Ok.at c.index.result.now c.self.invariant.ascending here in
    ap (λ p. p.count) c.index.ensures ∙ sym count ∙ ap (λ (t : Contents). count_of t.pieces c.args.tail) c.self.view_is

pub returns-in-Err : goal.returns-in-Err
returns-in-Err c =
    let pieces = c.self.inside.pieces.items in
    let gone = rw c.deref.ensures.value at c.in-Err.ensures in
    let count = count_of-absent 0 (2 ^ (c.self.inside.quotient_bits + c.self.inside.width)) pieces c.args.tail c.in-Err.field-0 c.self.invariant.ascending gone in
    sym count ∙ ap (λ (t : Contents). count_of t.pieces c.args.tail) c.self.view_is
