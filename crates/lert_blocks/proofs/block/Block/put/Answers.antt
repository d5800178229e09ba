use Rattle.std.proofs.Common.{◌≡◌, ◌+◌, ◌-◌, ap, ◌∙◌, refl, arith, length}
use Rattle.lert_counter.specs.Group.{group}
use Rattle.lert_blocks.specs.Text.{group_of}
use Rattle.lert_blocks.proofs.{BlockLaws.quotient_small, FillingLaws.filled_more, PartLaws.{length_rest, row_marked, take-put_end}}
use Rattle.lert_blocks.proofs.block.Block.put.Goals as goal

pub put_group-used-requires-clause-narrow : goal.put_group-used-requires-clause-narrow
put_group-used-requires-clause-narrow c = c.requires.narrow

pub put_group-used-requires-clause-wide : goal.put_group-used-requires-clause-wide
put_group-used-requires-clause-wide c = c.requires.wide

pub put_group-used-requires-clause-count : goal.put_group-used-requires-clause-count
put_group-used-requires-clause-count c = c.requires.count

pub put_group-used-requires-clause-room : goal.put_group-used-requires-clause-room
put_group-used-requires-clause-room c =
    let self = c.args.self.now in
    let slots = c.deref_mut.result.now in
    let all : length slots ≡ 512 = ap length c.deref_mut.ensures.value ∙ self.sized.0 in
    omega (arith, all, length_rest slots self.len, c.requires.room)

pub remainder_of-requires : goal.remainder_of-requires
remainder_of-requires c = omega (arith, c.requires.wide)

pub clear_if-requires : goal.clear_if-requires
clear_if-requires c =
    let self = c.args.self.now in
    let all : length c.deref_mut-2.result.now ≡ 8 = ap length c.deref_mut-2.ensures.value ∙ self.sized.1 in
    omega (arith, all, c.saturating_sub.ensures, c.requires.room)

pub mark-requires : goal.mark-requires
mark-requires c =
    let self = c.args.self.now in
    omega (arith, c.deref_mut-3.ensures.len, self.ends.ok.0, self.sized.1, c.put_group-used.ensures.within, c.requires.room)

pub returns-clause-grows : goal.returns-clause-grows
returns-clause-grows c =
    ap (λ n. c.args.self.now.len + n)
    (c.put_group-used.ensures.len ∙ ap (λ x. length (group c.args.width x c.args.piece.count)) c.remainder_of.ensures)

pub returns-clause-len : goal.returns-clause-len
returns-clause-len c = omega (arith, c.put_group-used.ensures.within)

pub returns-clause-more : goal.returns-clause-more
returns-clause-more c = omega (arith, c.put_group-used.ensures.some)

pub returns-clause-filled : goal.returns-clause-filled
returns-clause-filled c = λ block skip limit pieces was next.
    let self = c.args.self.now in
    let call = c.put_group-used in
    let slots = c.deref_mut.result.now in
    let text : group c.args.width c.remainder_of.result c.args.piece.count ≡ group_of c.args.width c.args.piece = ap (λ x. group c.args.width x c.args.piece.count) c.remainder_of.ensures in
    let used : call.result ≡ length (group_of c.args.width c.args.piece) = call.ensures.len ∙ ap length text in
    let all : length slots ≡ 512 = ap length c.deref_mut.ensures.value ∙ self.sized.0 in
    let part : length call.new.into ≡ length slots - self.len = call.auto.into ∙ length_rest slots self.len in
    filled_more c.args.width block skip limit pieces c.args.piece self _ was next (record {
      some = omega (arith, used, call.ensures.some);
      room = omega (arith, used, call.ensures.within, c.requires.room);
      small = quotient_small c.args.width c.args.piece c.requires.narrow (omega arith);
      here = c.with_bit-self.ensures.here;
      others = c.with_bit-self.ensures.others;
      last = refl;
      len = ap (λ n. self.len + n) used;
      slots = take-put_end self.slots slots call.new.into _ self.len call.result c.deref_mut.ensures.value self.slots.ok.0 (omega arith) part
          (omega (arith, call.ensures.within, c.requires.room)) (call.ensures.front ∙ text);
      row = row_marked self.ends c.deref_mut-2.result.now c.clear_if.new.words c.deref_mut-3.result.now c.mark.new.words _ c.saturating_sub.result _ self.len _
          c.deref_mut-2.ensures.value (c.clear_if.auto.words ∙ c.deref_mut-2.ensures.len) c.clear_if.ensures c.saturating_sub.ensures
          c.deref_mut-3.ensures.value (c.mark.auto.words ∙ c.deref_mut-3.ensures.len) c.mark.ensures (ap (λ n. self.len + n - 1) used);
    })
