use Rattle.lert_bay.specs.Kept.{Bays, seen_by}
use Rattle.std.proofs.{Common.{ℕ, ◌≡◌, ◌+◌, true, false, length, take, refl, ap, sym, ◌∙◌, subst, arith, inr}, lemmas.Bool.true≢false, lemmas.List.length-take-le, lemmas.Result.err_from_is_err_and}
use Rattle.lert_gatelog.specs.Gated.{IsOpen, Log}
use Rattle.lert_reports.specs.{Log.{most_record, HasLogUpTo}, LogText.log_payload_of}
use Rattle.lert_bay.specs.declared.bay.TheConstants.{LOG}
use Rattle.lert_files.proofs.{GateLaws.{same_place, same_fault, not_err, malformed_or_failed, gate_leaves, payload_leaves}, StepLaws.up_more}
use Rattle.lert_bay.proofs.KeptLaws.{IsLawful, reads_as}
use Rattle.lert_files.proofs.log_record.read_log_record.Given as given
use Rattle.lert_files.proofs.log_record.read_log_record.Goals as goal

abbrev bays : (g : given.Over) → Bays g.row.B.Denot
bays g = seen_by g.B.Faulty g.B.Bay

lawful : (g : given.Over) → IsLawful (bays g)
lawful g = record { as_read = g.met.B.Bay.as_read; since_now = g.met.B.Bay.since_now; only_now = g.met.B.Bay.only_now; since_earlier = g.met.B.Bay.since_earlier }

pub returns-in_err-count : goal.returns-in_err-count
returns-in_err-count g c =
    let p = err_from_is_err_and c.from_residual.result c.from_residual.ensures.1 in
    let read = c.in_err-count.ensures in
    rw (p.1, p.2) (record {
      more = λ records has. tt;
      closed = λ seen told. tt;
      malformed = λ seen told records has up file at is.
          gate_leaves c.args.settings.now c.args.cone c.args.log.now.most c.args.progress.now.closed (seen LOG) records c.args.log.now.gate at c.requires.most
          has.is_read.closed_is up
          (read.malformed seen told file at (same_fault _ _ is));
      waits = tt;
      steps = tt;
      forward = tt;
      log = tt;
      same = refl;
      fault = read.fault;
      only_reads = reads_as (bays g) (lawful g) c.args.bay.now c.read_payload.new.bay _ _ (λ is. same_fault _ _ is) read.only_reads;
    })

pub returns-in_default : goal.returns-in_default
returns-in_default g c =
    let read = c.in_ok-count.ensures in
    let moved = rw c.in_default.is at read.moved in
    record {
      more = λ records has more. absurd (true≢false (sym more));
      closed = λ seen told waits. rw c.in_default.is at (read.shut seen told);
      malformed = λ seen told records has up file at is. absurd (not_err false _ is);
      waits = λ waits. (moved, refl, refl, refl);
      steps = λ more. absurd (true≢false (sym more));
      forward = λ more. absurd (true≢false (sym more));
      log = (ap (λ (log : Log). log.file) moved, ap (λ (log : Log). log.most) moved);
      same = refl;
      fault = tt;
      only_reads = reads_as (bays g) (lawful g) c.args.bay.now c.read_payload.new.bay _ _ (λ is. absurd (not_err false _ is)) read.only_reads;
    }

pub returns-in-Err : goal.returns-in-Err
returns-in-Err g c =
    let read = c.in_ok-count.ensures in
    let payload = take c.in-Some.count c.read_payload.new.into in
    record {
      more = λ records has. tt;
      closed = λ seen told. tt;
      malformed = λ seen told records has up file at is.
          let opened = rw c.in-Some.is at (read.opened seen told) in
          let stands = subst (λ (most : ℕ). IsOpen most (seen LOG) c.args.log.now.gate payload) c.requires.most opened in
          let still_open = rw c.in-Some.is at read.still_open in
          let at_is = sym (same_place LOG (c.gate-gate.result + 5 + c.in-Err.place) file at is) ∙ ap (λ gate. gate + 5 + c.in-Err.place) c.gate-gate.ensures.value in
          payload_leaves c.args.settings.now c.args.cone (seen LOG) records c.args.log.now.gate at c.in-Err.place payload up stands
          (sym has.is_read.closed_is ∙ still_open) (c.in-Err.ensures.taken records has) at_is;
      waits = tt;
      steps = tt;
      forward = tt;
      log = tt;
      same = c.take_record.ensures.same;
      fault = inr (c.gate-gate.result + 5 + c.in-Err.place, refl);
      only_reads = reads_as (bays g) (lawful g) c.args.bay.now c.read_payload.new.bay _ _ (λ is. absurd (malformed_or_failed LOG _ is)) read.only_reads;
    }

pub returns : goal.returns
returns g c =
    let s = c.args.settings.now in
    let count = c.in-Some.count in
    let payload = take count c.read_payload.new.into in
    let read = c.in_ok-count.ensures in
    let moved = rw c.in-Some.is at read.moved in
    let counted = rw c.in-Some.is at read.counted in
    let long : length payload ≡ count = length-take-le count c.read_payload.new.into (omega (arith, counted.1, c.requires.most, c.requires.room, c.read_payload.auto.into)) in
    let gate = ap (λ (log : Log). log.gate) moved in
    record {
      more = λ records has more.
          let taken = c.in_default-take_record.ensures.taken records has in
          let one = taken.0 in
          let gate_is : c.read_payload.new.log.gate ≡ c.args.log.now.gate + 5 + length (log_payload_of one) =
          gate ∙ ap (λ n. c.args.log.now.gate + 5 + n) (sym long ∙ ap (length {A = ℕ}) taken.2) in (
            one,
            taken.1,
            λ seen told up.
                let opened = rw c.in-Some.is at (read.opened seen told) in
                let stands = subst (λ (most : ℕ). IsOpen most (seen LOG) c.args.log.now.gate payload) c.requires.most opened in
                let stands_one = subst (IsOpen (most_record s) (seen LOG) c.args.log.now.gate) taken.2 stands in
                subst (HasLogUpTo s c.args.cone (seen LOG) _) (sym gate_is)
                (up_more s c.args.cone (seen LOG) records one c.args.log.now.gate up stands_one taken.1.is_read.rules),
          );
      closed = λ seen told waits. absurd (true≢false waits);
      malformed = λ seen told records has up file at is. absurd (not_err true _ is);
      waits = λ waits. absurd (true≢false waits);
      steps = λ more. c.in_default-take_record.ensures.steps;
      forward = λ more. omega (arith, gate, counted.1, c.requires.most);
      log = (ap (λ (log : Log). log.file) moved, ap (λ (log : Log). log.most) moved);
      same = c.take_record.ensures.same;
      fault = tt;
      only_reads = reads_as (bays g) (lawful g) c.args.bay.now c.read_payload.new.bay _ _ (λ is. absurd (not_err true _ is)) read.only_reads;
    }

pub read_payload-requires : goal.read_payload-requires
read_payload-requires g c = record {
  file = c.requires.file;
  room = omega (arith, c.requires.most, c.requires.room);
  reach = c.requires.reach;
}

pub take_record-requires : goal.take_record-requires
take_record-requires g c =
    let read = c.in_ok-count.ensures in
    let count = c.in-Some.count in
    let counted = rw c.in-Some.is at read.counted in
    let long : length (take count c.read_payload.new.into) ≡ count = length-take-le count c.read_payload.new.into
    (omega (arith, counted.1, c.requires.most, c.requires.room, c.read_payload.auto.into)) in
    record {
      same = c.requires.same;
      short = omega (arith, long, counted.1, c.gate-gate.ensures.most);
      still_open = rw c.in-Some.is at read.still_open;
      read = c.requires.read;
    }
