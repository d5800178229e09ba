use Rattle.lert_bay.specs.Kept.{seen_by}
use Rattle.std.{proofs.Common.{◌≡◌, refl, arith}, proofs.lemmas.Bool.false≢true}
use Rattle.lert_frames.{specs.Place.block_count, proofs.ProceedLaws.{proceeds_none, proceeds_on, proceeds_as, stays_none, stays_on}}
use Rattle.lert_frames.proofs.writer.FrameWriter.reach.Goals as goal

pub end_block-requires : goal.end_block-requires
end_block-requires g c =
    let same = c.loop-self.invariant.proceeds.same in
    let blocks : block_count c.loop-self.self.settings c.loop-self.self.level ≡ block_count c.args.self.now.settings c.args.self.now.level =
    λ i. block_count (same.settings i) (same.level i) in
    omega (arith, blocks, c.requires)

pub returns-in_err-end_block-clause-proceeds : goal.returns-in_err-end_block-clause-proceeds
returns-in_err-end_block-clause-proceeds g c =
    proceeds_on g.met.B.Bay.since_earlier c.loop-self.invariant.proceeds
    (proceeds_as (λ _. refl) c.in_err-end_block.ensures.proceeds)

pub loop-self-init : goal.loop-self-init
loop-self-init g c =
    let w = c.args.self.now in
    record {
      proceeds = proceeds_none (seen_by g.B.Faulty g.B.Bay) g.met.B.Bay.only_now
          (record { settings = refl; version = refl; level = refl; frame = refl; width = refl; place = refl; put = refl; left = refl }) (λ never. never);
      stays = stays_none (seen_by g.B.Faulty g.B.Bay) w c.args.bay.now;
      from = omega arith;
      upto = omega arith;
    }

pub loop-self-preserved : goal.loop-self-preserved
loop-self-preserved g c =
    let inv = c.loop-self.invariant in
    let step = c.in_ok-end_block.ensures in
    record {
      proceeds = proceeds_on g.met.B.Bay.since_earlier inv.proceeds
          (proceeds_as (λ never. absurd never) step.proceeds);
      stays = stays_on inv.proceeds inv.stays step.stays;
      from = omega (arith, inv.from, step.number);
      upto = omega (arith, inv.upto, step.number);
    }

pub returns-clause-proceeds : goal.returns-clause-proceeds
returns-clause-proceeds g c =
    proceeds_as (λ e. absurd (false≢true e)) c.loop-self.invariant.proceeds

pub returns-clause-stays : goal.returns-clause-stays
returns-clause-stays g c = c.loop-self.invariant.stays
