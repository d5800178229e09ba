use Rattle.std.{proofs.Common.{◌≡◌, refl, arith}, proofs.lemmas.Result.err_from_is_err_and}
use Rattle.lert_bay.specs.declared.bay.TheConstants.{FRAMES}
use Rattle.lert_frames.{specs.Place.block_count, proofs.CallLaws.told_then, proofs.ProceedLaws.{frame_writes, frame_outside, holds_same, proceeds_as, proceeds_on}, proofs.WriteLaws.on_ok}
use Rattle.lert_frames.proofs.writer.FrameWriter.end.Goals as goal

pub reach-requires : goal.reach-requires
reach-requires g c = omega (arith, c.last_block.ensures)

pub end_last-requires : goal.end_last-requires
end_last-requires g c =
    let same = c.in_ok-reach.ensures.proceeds.same in
    let w = c.args.self.now in
    let blocks : block_count c.reach.new.self.settings c.reach.new.self.level ≡ block_count w.settings w.level = λ i. block_count (same.settings i) (same.level i) in
    omega (arith, blocks, c.last_block.ensures, c.in_ok-reach.ensures.number, w.holding.below)

pub returns-in_err-reach : goal.returns-in_err-reach
returns-in_err-reach g c =
    let p = err_from_is_err_and c.from_residual.result c.from_residual.ensures.1 in
    let one = c.in_err-reach.ensures.proceeds in
    let writes = frame_writes (proceeds_as (λ _. refl) one) in
    rw p.1 (record {
      stands = tt;
      settings = one.same.settings;
      version = one.same.version;
      level = one.same.level;
      frame = one.same.frame;
      within = writes.within;
      outside = λ seen told. frame_outside one seen;
      kept = writes.kept;
    })

pub returns : goal.returns
returns g c =
    let one = c.in_ok-reach.ensures in
    let both = proceeds_on g.met.B.Bay.since_earlier one.proceeds c.end_last.ensures.proceeds in
    record {
      stands = on_ok _ _ c.end_last.result c.end_last.ensures.stands (λ ends seen told writing later told_later.
          let mid = told_then one.proceeds.writes.within told in
          holds_same c.args.self.now c.reach.new.self (later FRAMES) one.proceeds.same (ends mid.0 mid.1 later told_later (one.stays seen told mid.0 mid.1 writing.at)));
      settings = both.same.settings;
      version = both.same.version;
      level = both.same.level;
      frame = both.same.frame;
      within = (frame_writes both).within;
      outside = λ seen told. frame_outside both seen;
      kept = both.writes.kept;
    }
