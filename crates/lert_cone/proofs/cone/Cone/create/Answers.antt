use Rattle.std.proofs.Common.{◌≡◌, ◌∙◌, None, Err, ap, refl, false}
use Rattle.lert_reports.specs.declared.log_point.LogPoint.{LogPoint}
use Rattle.lert_cone.specs.{Record.LogPlace, declared.state.ConeState.ConeState}
use Rattle.lert_gatelog.specs.Gated.{Log}
use Rattle.lert_cone.proofs.StandLaws.{new_cone, new_stands, new_was_sound}
use Rattle.lert_cone.proofs.cone.Cone.create.Goals as goal
use Rattle.lert_cone.specs.History.{most_version}

pub invariant_of-result : goal.invariant_of-result
invariant_of-result g c =
    new_cone g.B.Bay.files g.B.Bay.leaves g.B.Faulty.faults g.B.Faulty.mark c.begin.new.bay c.of.result.value c.args.room.settings c.args.cone c.into_parts-tally.result.0 _ _ _ _ _
    (ap (λ (p : LogPoint). p.version) c.without_record.ensures)
    (ap (λ (p : LogPoint). p.n0) c.without_record.ensures, ap (λ (p : LogPoint). p.weight) c.without_record.ensures) c.requires.room.valid c.into_parts-tally.ensures.listing
    c.into_parts-tally.ensures.counted c.in-Ok.ensures.journal
    c.in-Ok.ensures.log c.into_parts-tally.ensures.buffer
    c.into_parts-tally.ensures.entry c.of.ensures
    c.in-Ok.ensures.begun

pub returns-in-Ok-clause-was_sound : goal.returns-in-Ok-clause-was_sound
returns-in-Ok-clause-was_sound g c =
    new_was_sound g.B.Bay.files g.B.Bay.leaves g.B.Faulty.faults c.begin.new.bay c.of.result.value c.args.room.settings c.args.cone c.into_parts-tally.result.0 _ _
    c.of.ensures c.into_parts-tally.ensures.listing (ap (λ (log : Log). log.gate) c.in-Ok.ensures.journal) c.in-Ok.ensures.log c.into_parts-tally.ensures.rows c.into_parts-tally.ensures.none
    c.into_parts-tally.ensures.counted
    c.in-Ok.ensures.begun (g.met.B.Bay.as_read c.begin.new.bay)

pub returns-in-Ok-clause-stands_for : goal.returns-in-Ok-clause-stands_for
returns-in-Ok-clause-stands_for g c =
    new_stands g.B.Bay.files g.B.Bay.leaves g.B.Faulty.faults c.begin.new.bay c.of.result.value c.args.room.settings c.args.cone c.into_parts-tally.result.0 _ _ _
    c.requires.room.valid c.into_parts-tally.ensures.listing (ap (λ (log : Log). log.gate) c.in-Ok.ensures.journal) c.in-Ok.ensures.log c.into_parts-tally.ensures.rows
    c.into_parts-tally.ensures.none c.into_parts-tally.ensures.counted
    c.in-Ok.ensures.begun (g.met.B.Bay.as_read c.begin.new.bay)

pub returns-in-Err-clause-not_fresh : goal.returns-in-Err-clause-not_fresh
returns-in-Err-clause-not_fresh g c seen told same = c.in-Err.ensures.not_fresh seen told (ap Err same)

pub returns-in-Ok-clause-made : goal.returns-in-Ok-clause-made
returns-in-Ok-clause-made g c =
    let last_is : c.without_record.result ≡ record { n0 = 0; offset = 32; first = 1; closed = false; log_end = 8; version = most_version; weight = 0 } =
    c.without_record.ensures
    ∙ ap (λ at. (let last : LogPoint = record { n0 = 0; offset = 32; first = 1; closed = false; log_end = at; version = most_version; weight = 0 } in last))
    (c.gate.ensures ∙ ap (λ (log : LogPlace). log.gate) c.in-Ok.ensures.log) in
    λ i. record {
      bay = c.begin.new.bay;
      made = c.of.ensures i;
      listing = c.into_parts-tally.ensures.listing i;
      rows = c.into_parts-tally.ensures.rows i;
      reports = c.into_parts-tally.ensures.none i;
      events = 0;
      weight = 0;
      state = ConeState.Running;
      over = None;
      gate = (c.in-Ok.ensures.journal i).gate;
      log = c.in-Ok.ensures.log i;
      last = last_is i;
    }

pub returns-in-Ok-clause-kept : goal.returns-in-Ok-clause-kept
returns-in-Ok-clause-kept g c = record {
  time = c.begin.ensures.kept.time;
  never_falls = c.begin.ensures.kept.never_falls;
  failed = λ never. absurd never;
  mark = c.begin.ensures.kept.mark;
  journal = c.begin.ensures.kept.journal;
}

pub returns-in-Ok-clause-fresh : goal.returns-in-Ok-clause-fresh
returns-in-Ok-clause-fresh g c = c.in-Ok.ensures.fresh

pub returns-in-Ok-clause-frames : goal.returns-in-Ok-clause-frames
returns-in-Ok-clause-frames g c = c.begin.ensures.frames

pub into_parts-tally-requires-clause-room : goal.into_parts-tally-requires-clause-room
into_parts-tally-requires-clause-room g c = c.requires.room

pub returns-in-Err-clause-kept : goal.returns-in-Err-clause-kept
returns-in-Err-clause-kept g c = record {
  time = c.begin.ensures.kept.time;
  never_falls = c.begin.ensures.kept.never_falls;
  failed = λ same. c.in-Err.ensures.kept.failed (ap Err same);
  mark = c.begin.ensures.kept.mark;
  journal = c.begin.ensures.kept.journal;
}

pub returns-in-Err-clause-unwritten : goal.returns-in-Err-clause-unwritten
returns-in-Err-clause-unwritten g c = c.in-Err.ensures.unwritten

pub returns-in-Err-clause-handed_back : goal.returns-in-Err-clause-handed_back
returns-in-Err-clause-handed_back g c = (refl, c.begin.ensures.frames)
