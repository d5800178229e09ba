use Rattle.std.proofs.{Common.{ℕ, ◌++◌, [], ◌+◌, length, take, drop, replicate, ap, ◌∙◌, arith}, lemmas.Result.err_from_is_err_and}
use Rattle.lert_bay.proofs.Laid.{zeros_past}
use Rattle.lert_gatelog.proofs.{Looking.{text_alone, header_text, closed_text}, Appending.{keeps_others, settled}, Seen.{others_seen, short_text}}
use Rattle.lert_bay.specs.Kept.{Bays, seen_by}
use Rattle.lert_gatelog.proofs.gate_log.GateLog.create.Given as given
use Rattle.lert_gatelog.proofs.gate_log.GateLog.create.Goals as goal

abbrev bays : (g : given.Over) → Bays g.row.B.Denot
bays g = seen_by g.B.Faulty g.B.Bay

pub write_durably-requires : goal.write_durably-requires
write_durably-requires g c = record { file = c.requires.file; reach = short_text (length c.args.header.now) _ c.requires.header }

pub returns-in_err-write_durably : goal.returns-in_err-write_durably
returns-in_err-write_durably g c =
    let p = err_from_is_err_and c.from_residual.result c.from_residual.ensures.1 in
    rw p.1 (record {
      made = tt;
      text = λ seen told. tt;
      closed = λ seen told. tt;
      settled = tt;
      others = keeps_others (bays g) c.args.bay.now c.write_durably.new.bay c.write_durably.ensures.moments;
      seen = others_seen _ _ _ _ c.write_durably.ensures.seen;
      kept = c.in_err-write_durably.ensures.kept;
    })

pub returns-clause-made : goal.returns-clause-made
returns-clause-made g c = c.at_gate.ensures

pub returns-clause-seen : goal.returns-clause-seen
returns-clause-seen g c = others_seen _ _ _ _ c.write_durably.ensures.seen

pub returns-clause-kept : goal.returns-clause-kept
returns-clause-kept g c = c.in_ok-write_durably.ensures.kept

pub returns-clause-others : goal.returns-clause-others
returns-clause-others g c = keeps_others (bays g) c.args.bay.now c.write_durably.new.bay c.write_durably.ensures.moments

pub returns-clause-settled : goal.returns-clause-settled
returns-clause-settled g c = settled c.in_ok-write_durably.ensures

pub returns-clause-text : goal.returns-clause-text
returns-clause-text g c seen told image now =
    let wrote = c.in_ok-write_durably.ensures.written.told seen told in
    c.in_ok-write_durably.ensures.durable wrote.0 wrote.1 image now
    ∙ (text_alone (seen c.args.file) _ (wrote.0 c.args.file) wrote.2.here (c.requires.empty seen told)
    ∙ (ap (λ front. take (length c.args.header.now + 1) (front ++ drop (length c.args.header.now) (replicate {A = ℕ} 33 0))) c.copy_from_slice.ensures.after
    ∙ header_text c.args.header.now (replicate {A = ℕ} 33 0) (omega (arith, c.requires.header)) (zeros_past [] 33)))

pub returns-clause-closed : goal.returns-clause-closed
returns-clause-closed g c seen told image now = closed_text c.args.header.now (image c.args.file) (returns-clause-text g c seen told image now)
