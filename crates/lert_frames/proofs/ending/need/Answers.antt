use Rattle.std.proofs.Common.{refl}
use Rattle.lert_frames.{proofs.FaultLaws.not_err, proofs.CallLaws.reads_turned}
use Rattle.lert_frames.proofs.ending.need.Goals as goal

pub returns-in-Ok : goal.returns-in-Ok
returns-in-Ok g c =
    let asked = c.in-Ok.ensures in
    record {
      enough = asked.enough;
      ends = asked.ends;
      ahead = asked.ahead;
      failed = tt;
      only_reads = reads_turned (λ is. absurd (not_err _ _ is)) asked.only_reads;
    }

pub returns-in-Err : goal.returns-in-Err
returns-in-Err g c =
    let asked = c.in-Err.ensures in
    record {
      enough = tt;
      ends = λ seen told. tt;
      ahead = asked.ahead;
      failed = refl;
      only_reads = reads_turned (λ _. refl) asked.only_reads;
    }
