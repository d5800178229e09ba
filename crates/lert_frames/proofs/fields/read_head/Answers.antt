use Rattle.std.{proofs.Common.{◌+◌, ◌∙◌, ℕ, List, Some, length, ap, refl, sym, subst}, proofs.lemmas.Result.err_from_is_err_and}
use Rattle.lert_bay.specs.declared.bay.TheConstants.{FRAMES}
use Rattle.lert_frames.{specs.Steps.AreFields, specs.Window.{place_of, to_come}, proofs.FaultLaws.{not_err, not_failed, place_is}, proofs.FieldLaws.{fields_told, head_short, head_unfit}}
use Rattle.lert_frames.{proofs.WriteLaws.same_err, proofs.CallLaws.reads_turned}
use Rattle.lert_frames.proofs.fields.read_head.Goals as goal

pub returns-in_err-demand : goal.returns-in_err-demand
returns-in_err-demand g c =
    let p = err_from_is_err_and c.from_residual.result c.from_residual.ensures.1 in
    let asked = c.in_err-demand.ensures in
    rw (p.1, p.2) (record {
      fields = tt;
      fits = tt;
      small = tt;
      malformed = λ seen told at is.
          head_short c.args.most (place_of c.args.window.now) (length (seen FRAMES)) (to_come c.args.window.now (seen FRAMES)) (asked.short seen told at (same_err _ _ is))
          ∙ ap Some (sym (asked.end seen told at (same_err _ _ is)));
      ahead = asked.ahead;
      only_reads = reads_turned (λ is. same_err _ _ is) asked.only_reads;
    })

pub returns-then-not-is_fitting : goal.returns-then-not-is_fitting
returns-then-not-is_fitting g c =
    let asked = c.in_ok-demand.ensures in
    record {
      fields = tt;
      fits = tt;
      small = tt;
      malformed = λ seen told at is.
          let xs = to_come c.args.window.now (seen FRAMES) in
          head_unfit c.args.most (place_of c.args.window.now) (length (seen FRAMES)) c.of-head.result xs
          (fields_told c.of-head.result c.at_hand.result.now xs c.demand.new.window (seen FRAMES) c.at_hand.ensures.value (asked.ahead.come seen told) c.of-head.ensures.fields)
          (c.is_fitting.ensures.not c.if-not-is_fitting.true)
          ∙ ap Some (ap (λ n. n + 8) (sym (c.place.ensures ∙ asked.ahead.place)) ∙ place_is (c.place.result + 8) at is);
      ahead = asked.ahead;
      only_reads = reads_turned (λ is. absurd (not_failed (c.place.result + 8) _ refl is)) asked.only_reads;
    }

pub returns : goal.returns
returns g c =
    let asked = c.in_ok-demand.ensures in
    record {
      fields = subst (λ (bytes : List ℕ). AreFields c.of-head.result bytes) c.at_hand.ensures.value c.of-head.ensures.fields;
      fits = c.is_fitting.ensures.fits c.if-not-is_fitting.false;
      small = c.of-head.ensures.small;
      malformed = λ seen told at is. absurd (not_err _ _ is);
      ahead = asked.ahead;
      only_reads = reads_turned (λ is. absurd (not_err _ _ is)) asked.only_reads;
    }
