use Rattle.std.{proofs.Common.{◌<◌, ◌≤◌, refl, arith}, proofs.lemmas.Result.err_from_is_err_and}
use Rattle.lert_spec.{specs.Edges.quotient_bits, proofs.LimitLaws.quotient_bits_by_zeros}
use Rattle.lert_frames.{specs.declared.writer.FrameWriter.FrameWriter, proofs.ProceedLaws.{proceeds_as, proceeds_on, stays_on}, proofs.WritingLaws.block_within, proofs.WriteLaws.on_ok}
use Rattle.lert_frames.proofs.writer.FrameWriter.ready.Goals as goal

-- a remainder is shorter than a word
narrow : (w : FrameWriter) → w.width < 64
narrow w =
    let from : 6 ≤ quotient_bits w.settings w.level = omega (arith, (quotient_bits_by_zeros w.settings w.level w.growing.valid w.growing.last).0) in
    omega (arith, w.growing.width_is, from)

pub overflow_shr-piece : goal.overflow_shr-piece
overflow_shr-piece g c = narrow c.args.self.now

pub reach-requires : goal.reach-requires
reach-requires g c =
    let w = c.args.self.now in
    block_within w.settings w.level w.width c.args.piece w.growing.valid w.growing.last w.growing.width_is c.requires

pub returns-in_err-reach : goal.returns-in_err-reach
returns-in_err-reach g c =
    let p = err_from_is_err_and c.from_residual.result c.from_residual.ensures.1 in
    rw p.1 (record {
      proceeds = proceeds_as (λ _. refl) c.in_err-reach.ensures.proceeds;
      stays = tt;
      number = tt;
      room = tt;
    })

pub returns : goal.returns
returns g c = record {
  room = c.make_room.ensures.room;
  proceeds = proceeds_on g.met.B.Bay.since_earlier c.in_ok-reach.ensures.proceeds c.make_room.ensures.proceeds;
  stays =
      on_ok _ _ c.make_room.result c.make_room.ensures.stays
      (λ stays. stays_on c.in_ok-reach.ensures.proceeds c.in_ok-reach.ensures.stays stays);
  number = on_ok _ _ c.make_room.result c.make_room.ensures.stays (λ _ low. omega (arith, c.make_room.ensures.number, c.in_ok-reach.ensures.number, low));
}
