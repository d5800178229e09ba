use Rattle.std.{proofs.Common.{◌≡◌, ℕ, ◌<◌, ◌≤◌, ◌∙◌, Bool, false, List, length, inl, inr, sym, ap, subst}, specs.Prelude.{◌↔◌, IsTrue}, proofs.lemmas.Bool.{cases_lt, false≢true}}
use Rattle.std.proofs.lemmas.Result.{err_from_is_err_and}
use Rattle.lert_frames.{specs.Window.count_of, proofs.FaultLaws.{fault_is, no_place, not_err}, proofs.FieldLaws.length_hand, proofs.WriteLaws.same_err, proofs.CallLaws.{reads_turned, reads_then}}
use Rattle.lert_frames.proofs.ending.demand.Goals as goal

pub returns-in_err-need : goal.returns-in_err-need
returns-in_err-need g c =
    let p = err_from_is_err_and c.from_residual.result c.from_residual.ensures.1 in
    let asked = c.in_err-need.ensures in
    rw (p.1, p.2) (record {
      enough = tt;
      short = λ seen told at is. absurd (no_place at _ asked.failed (fault_is _ _ is));
      end = λ seen told at is. absurd (no_place at _ asked.failed (fault_is _ _ is));
      ahead = asked.ahead;
      only_reads = reads_turned (λ is. same_err _ _ is) asked.only_reads;
    })

-- what isn't at hand is missing
missing : (enough : Bool) (count had : ℕ) → enough ≡ false → (IsTrue enough ↔ (count ≤ had)) → had < count
missing enough count had off means = elim (cases_lt had count) [
  | inl short ↦ short
  | inr there ↦ absurd (false≢true (sym off ∙ means.1 there))
]

pub returns-then-branch : goal.returns-then-branch
returns-then-branch g c =
    let asked = c.in_ok-need.ensures in
    record {
      enough = asked.enough.0 c.if-branch.true;
      short = λ seen told at is. absurd (not_err _ _ is);
      end = λ seen told at is. absurd (not_err _ _ is);
      ahead = asked.ahead;
      only_reads = reads_turned (λ is. absurd (not_err _ _ is)) asked.only_reads;
    }

pub returns : goal.returns
returns g c =
    let asked = c.in_ok-need.ensures in
    let before = c.args.bay.now in
    let between = c.need.new.bay in
    let w = c.need.new.window in
    record {
      enough = tt;
      short = λ seen told at is.
          let all = ap (λ (xs : List ℕ). length xs) (asked.ends seen told c.if-branch.false) in
          subst (λ n. n < c.args.count) (sym (length_hand w) ∙ all) (missing c.in_ok-need.field-0 c.args.count (count_of w) c.if-branch.false asked.enough);
      end = λ seen told at is. c.file_end.ensures.told seen (asked.only_reads.seen ∙ told) at (fault_is _ _ is);
      ahead = asked.ahead;
      only_reads = reads_then g.met.B.Bay.since_earlier asked.only_reads
          (reads_turned (λ is. fault_is _ _ is) c.file_end.ensures.only_reads);
    }
