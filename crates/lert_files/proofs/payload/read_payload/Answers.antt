use Rattle.lert_bay.specs.Kept.{Bays, seen_by}
use Rattle.std.proofs.Common.{◌≡◌, ◌≤◌, ℕ, Err, take, refl, ap, sym, ◌∙◌, subst, inl, inr}
use Rattle.lert_gatelog.specs.Gated.{IsOpen, IsClosed, BreaksAt}
use Rattle.lert_bay.specs.declared.bay.TheConstants.{LOG}
use Rattle.lert_files.proofs.{GateLaws.{failed_or_malformed, gate_left, malformed_or_failed, not_err, same_place}, QuietLaws.log_reads}
use Rattle.lert_bay.proofs.KeptLaws.{IsLawful, reads_as}
use Rattle.lert_files.specs.Read.{GateLeavesAt}
use Rattle.lert_files.proofs.payload.read_payload.Given as given
use Rattle.lert_files.proofs.payload.read_payload.Goals as goal

abbrev bays : (g : given.Over) → Bays g.row.B.Denot
bays g = seen_by g.B.Faulty g.B.Bay

lawful : (g : given.Over) → IsLawful (bays g)
lawful g = record { as_read = g.met.B.Bay.as_read; since_now = g.met.B.Bay.since_now; only_now = g.met.B.Bay.only_now; since_earlier = g.met.B.Bay.since_earlier }

pub returns-in-Ok-None : goal.returns-in-Ok-None
returns-in-Ok-None g c =
    let next = c.in-Ok-None.ensures in
    record {
      opened = λ seen told. tt;
      shut = λ seen told. subst (λ (f : ℕ). IsClosed (seen f) c.args.log.now.gate) c.requires.file (rw c.in-Ok-None.field-0-is at (next.closed seen told));
      malformed = λ seen told file at is. absurd (not_err _ _ is);
      still_open = tt;
      counted = tt;
      moved = rw c.in-Ok-None.field-0-is at next.moved;
      fault = tt;
      only_reads = reads_as (bays g) (lawful g) c.args.bay.now c.next.new.bay _ _ (λ is. absurd (not_err _ _ is))
          (log_reads (bays g) c.args.log.now.file _ c.args.bay.now c.next.new.bay _ c.requires.file next.only_reads next.handed);
    }

pub returns-then-closed : goal.returns-then-closed
returns-then-closed g c =
    let next = c.in-Ok-Some.ensures in
    record {
      opened = λ seen told. tt;
      shut = λ seen told. tt;
      malformed = λ seen told file at is.
          let opened = rw c.in-Ok-Some.field-0-is at (next.opened seen told) in
          let there = subst (λ (f : ℕ). IsOpen c.args.log.now.most (seen f) c.args.log.now.gate (take c.in-Ok-Some.count c.next.new.into)) c.requires.file opened in
          inr (c.if-closed.true, there.opened, sym (same_place LOG c.gate-gate.result file at is) ∙ c.gate-gate.ensures.value);
      still_open = tt;
      counted = tt;
      moved = tt;
      fault = inr (c.gate-gate.result, refl);
      only_reads = reads_as (bays g) (lawful g) c.args.bay.now c.next.new.bay _ _ (λ is. absurd (malformed_or_failed _ _ is))
          (log_reads (bays g) c.args.log.now.file _ c.args.bay.now c.next.new.bay _ c.requires.file next.only_reads next.handed);
    }

pub returns-else-closed : goal.returns-else-closed
returns-else-closed g c =
    let next = c.in-Ok-Some.ensures in
    record {
      opened = λ seen told.
          let opened = rw c.in-Ok-Some.field-0-is at (next.opened seen told) in
          subst (λ (f : ℕ). IsOpen c.args.log.now.most (seen f) c.args.log.now.gate (take c.in-Ok-Some.count c.next.new.into)) c.requires.file opened;
      shut = λ seen told. tt;
      malformed = λ seen told file at is. absurd (not_err _ _ is);
      still_open = c.if-closed.false;
      counted = rw c.in-Ok-Some.field-0-is at next.counted;
      moved = rw c.in-Ok-Some.field-0-is at next.moved;
      fault = tt;
      only_reads = reads_as (bays g) (lawful g) c.args.bay.now c.next.new.bay _ _ (λ is. absurd (not_err _ _ is))
          (log_reads (bays g) c.args.log.now.file _ c.args.bay.now c.next.new.bay _ c.requires.file next.only_reads next.handed);
    }

pub returns-in-Err-Failed : goal.returns-in-Err-Failed
returns-in-Err-Failed g c =
    let next = c.in-Err-Failed.ensures in
    record {
      opened = λ seen told. tt;
      shut = λ seen told. tt;
      malformed = λ seen told file at is. absurd (failed_or_malformed _ _ is);
      still_open = tt;
      counted = tt;
      moved = tt;
      fault = inl refl;
      only_reads = reads_as (bays g) (lawful g) c.args.bay.now c.next.new.bay _ _ (λ is. ap Err c.in-Err-Failed.field-0-is)
          (log_reads (bays g) c.args.log.now.file _ c.args.bay.now c.next.new.bay _ c.requires.file next.only_reads next.handed);
    }

pub returns-in-Err-Malformed : goal.returns-in-Err-Malformed
returns-in-Err-Malformed g c =
    let next = c.in-Err-Malformed.ensures in
    record {
      opened = λ seen told. tt;
      shut = λ seen told. tt;
      malformed = λ seen told file at is.
          let log = c.args.log.now in
          let broken = next.malformed seen told c.in-Err-Malformed.at (ap Err c.in-Err-Malformed.field-0-is) in
          let there = subst (λ (f : ℕ). BreaksAt log.most (seen f) log.gate c.in-Err-Malformed.at) c.requires.file broken in
          let gate_is : c.gate-gate.result ≡ log.gate = c.gate-gate.ensures.value in
          let found = c.left_behind.ensures in
          subst (GateLeavesAt log.most c.args.closed (seen LOG) log.gate) (same_place LOG c.left_behind.result file at is)
          (gate_left log.most c.args.closed (seen LOG) log.gate c.in-Err-Malformed.at c.left_behind.result there found.alone
          (λ less closed. found.behind (subst (λ (n : ℕ). n ≤ c.in-Err-Malformed.at) (sym gate_is) less) closed ∙ gate_is)
          (λ less. found.none (subst (λ (n : ℕ). c.in-Err-Malformed.at ≤ n) (sym gate_is) less)));
      still_open = tt;
      counted = tt;
      moved = tt;
      fault = inr (c.left_behind.result, refl);
      only_reads = reads_as (bays g) (lawful g) c.args.bay.now c.next.new.bay _ _ (λ is. absurd (malformed_or_failed _ _ is))
          (log_reads (bays g) c.args.log.now.file _ c.args.bay.now c.next.new.bay _ c.requires.file next.only_reads next.handed);
    }
