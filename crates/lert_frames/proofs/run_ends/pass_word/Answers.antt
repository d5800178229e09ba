use Rattle.std.{proofs.Common.{◌+◌, ◌∙◌, length, drop, sym, ap, arith, length-append}, proofs.lemmas.Result.err_from_is_err_and}
use Rattle.byteorder.specs.Endian.{little_number}
use Rattle.lert_bay.specs.declared.bay.TheConstants.{FRAMES}
use Rattle.lert_frames.{specs.Window.at_hand, proofs.FaultLaws.not_err, proofs.FieldLaws.length_hand, proofs.NumberLaws.little_number-append, proofs.WriteLaws.same_err}
use Rattle.lert_frames.proofs.CallLaws.{reads_turned}
use Rattle.lert_frames.proofs.run_ends.pass_word.Goals as goal

pub returns-in_err-demand : goal.returns-in_err-demand
returns-in_err-demand g c =
    let p = err_from_is_err_and c.from_residual.result c.from_residual.ensures.1 in
    let asked = c.in_err-demand.ensures in
    rw (p.1, p.2) (record {
      word = λ seen told. tt;
      long = λ seen told. tt;
      short = λ seen told at is. asked.short seen told at (same_err _ _ is);
      end = λ seen told at is. asked.end seen told at (same_err _ _ is);
      come = λ seen told. tt;
      bytes = asked.ahead.read;
      behind = tt;
      within = omega (arith, asked.ahead.place);
      later = asked.ahead.later;
      room = asked.ahead.room;
      only_reads = reads_turned (λ is. same_err _ _ is) asked.only_reads;
    })

pub returns : goal.returns
returns g c =
    let asked = c.in_ok-demand.ensures in
    let skipped = c.skip.ensures in
    let w = c.demand.new.window in
    record {
      word = λ seen told.
          c.read_u64-word.ensures
          ∙ (ap (little_number 8) c.at_hand.ensures.value
          ∙ (sym (little_number-append 8 (at_hand w) (drop w.at (seen FRAMES)) (omega (arith, length_hand w, asked.enough)))
          ∙ ap (little_number 8) (asked.ahead.come seen told)));
      long = λ seen told. omega (arith, ap length (asked.ahead.come seen told), length-append (at_hand w) (drop w.at (seen FRAMES)), length_hand w, asked.enough);
      short = λ seen told at is. absurd (not_err _ _ is);
      end = λ seen told at is. absurd (not_err _ _ is);
      come = λ seen told. skipped.come (seen FRAMES) ∙ ap (drop 8) (asked.ahead.come seen told);
      bytes = λ seen told from near is. skipped.read from (seen FRAMES) (asked.ahead.read seen told from near is);
      behind = skipped.place ∙ ap (λ n. n + 8) asked.ahead.place;
      within = omega (arith, skipped.place, asked.ahead.place);
      later = omega (arith, asked.ahead.later, skipped.end);
      room = skipped.room ∙ asked.ahead.room;
      only_reads = reads_turned (λ is. absurd (not_err _ _ is)) asked.only_reads;
    }
