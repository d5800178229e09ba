use Rattle.lert_bay.specs.Kept.{seen_by}
use Rattle.std.{proofs.Common.{◌∙◌, Some, refl, ap}, proofs.lemmas.Result.err_from_is_err_and}
use Rattle.lert_bay.specs.declared.bay.TheConstants.{FRAMES}
use Rattle.lert_frames.{specs.Decoded.decoder_found, specs.Reading.verdict, specs.ToCome.known_or, proofs.FaultLaws.{not_failed, place_is}}
use Rattle.lert_frames.{proofs.ToComeLaws.{same_frame_on, same_to_come_on, left_before}, proofs.WriteLaws.same_err, proofs.CallLaws.{reads_turned, reads_then, reads_same}}
use Rattle.lert_frames.proofs.reader.FrameReader.fill.Goals as goal

pub loop-self-init : goal.loop-self-init
loop-self-init g c =
    let e = c.let_go.ensures in
    record {
      fault = e.fault ∙ c.in_default.is;
      given = e.given;
      frame = e.frame;
      to_come = λ seen told. e.to_come (seen FRAMES);
      within = λ seen told. e.within (seen FRAMES);
      only_reads = reads_same (seen_by g.B.Faulty g.B.Bay) g.met.B.Bay.only_now (λ none. none);
    }

pub loop-self-preserved : goal.loop-self-preserved
loop-self-preserved g c =
    let is = c.loop-self.invariant in
    let e = c.in_ok-advance.ensures in
    record {
      fault = e.fault;
      given = e.given ∙ is.given;
      frame = same_frame_on c.args.self.now c.loop-self.self c.advance.new.self is.frame e.frame;
      to_come = λ seen told. same_to_come_on c.args.self.now c.loop-self.self c.advance.new.self (seen FRAMES) (is.to_come seen told) (e.to_come seen (is.only_reads.seen ∙ told));
      within = λ seen told within. e.within seen (is.only_reads.seen ∙ told) (is.within seen told within);
      only_reads = reads_then g.met.B.Bay.since_earlier is.only_reads
          (reads_turned (λ none. absurd none) e.only_reads);
    }

pub let_go-requires : goal.let_go-requires
let_go-requires g c = c.requires

pub advance-requires : goal.advance-requires
advance-requires g c = record { fault = c.loop-self.invariant.fault; few = c.wants_more.ensures.few c.loop-self-test.true; more = c.wants_more.ensures.more c.loop-self-test.true }

pub judge-requires : goal.judge-requires
judge-requires g c = record { fault = c.loop-self.invariant.fault; given = c.loop-self.invariant.given; enough = c.wants_more.ensures.enough c.loop-self-test.false }

-- ---- a place that was found

pub returns-in-Some : goal.returns-in-Some
returns-in-Some g c =
    let self = c.args.self.now in
    record {
      frame = record { settings = refl; version = refl; level = refl; place = refl; wide = refl; gave = refl };
      to_come = λ seen told. record { left = refl; pieces = λ _. refl };
      malformed = λ seen told at is.
          ap (λ fault. known_or fault (verdict self.version self.sum self.place (decoder_found self.decoder (seen FRAMES)))) c.in-Some.is ∙ ap Some (place_is c.in-Some.at at is);
      over = tt;
      within = λ seen told within. tt;
      only_reads = reads_same (seen_by g.B.Faulty g.B.Bay) g.met.B.Bay.only_now (λ is. not_failed _ _ refl is);
    }

-- ---- a step that stops

pub returns-in_err-advance : goal.returns-in_err-advance
returns-in_err-advance g c =
    let is = c.loop-self.invariant in
    let self = c.args.self.now in
    let e = c.in_err-advance.ensures in
    let p = err_from_is_err_and c.from_residual.result c.from_residual.ensures.1 in
    rw (p.1, p.2) (record {
      frame = same_frame_on self c.loop-self.self c.advance.new.self is.frame e.frame;
      to_come = λ seen told. same_to_come_on self c.loop-self.self c.advance.new.self (seen FRAMES) (is.to_come seen told) (e.to_come seen (is.only_reads.seen ∙ told));
      malformed = λ seen told at broken. left_before self c.loop-self.self (seen FRAMES) at (is.to_come seen told) (e.malformed seen (is.only_reads.seen ∙ told) at (same_err _ _ broken));
      over = tt;
      within = λ seen told within. tt;
      only_reads = reads_then g.met.B.Bay.since_earlier is.only_reads
          (reads_turned (λ is. same_err _ _ is) e.only_reads);
    })

-- ---- and at the end

pub returns : goal.returns
returns g c =
    let is = c.loop-self.invariant in
    let self = c.args.self.now in
    let judged = c.judge.ensures in
    record {
      frame = same_frame_on self c.loop-self.self c.judge.new.self is.frame judged.frame;
      to_come = λ seen told. same_to_come_on self c.loop-self.self c.judge.new.self (seen FRAMES) (is.to_come seen told) (judged.to_come (seen FRAMES));
      malformed = λ seen told at broken. left_before self c.loop-self.self (seen FRAMES) at (is.to_come seen told) (judged.malformed (seen FRAMES) at broken);
      over = judged.over;
      within = λ seen told within. judged.within (seen FRAMES) (is.within seen told within);
      only_reads = reads_turned (λ failed. judged.failed failed) is.only_reads;
    }
