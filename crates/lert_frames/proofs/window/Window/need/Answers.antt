use Rattle.std.{proofs.Common.{length, refl, arith}, proofs.lemmas.Result.err_from_is_err_and}
use Rattle.lert_frames.{specs.Window.count_of, proofs.WindowLaws.{is_enough, too_few}, proofs.CallLaws.reads_turned}
use Rattle.lert_frames.proofs.window.Window.need.Goals as goal

pub returns-in_err-fill : goal.returns-in_err-fill
returns-in_err-fill g c =
    let p = err_from_is_err_and c.from_residual.result c.from_residual.ensures.1 in
    let filled = c.in_err-fill.ensures in
    rw p.1 (record {
      enough = tt;
      ends = λ seen told. tt;
      ahead = filled.ahead;
      only_reads = reads_turned (λ _. refl) filled.only_reads;
    })

pub fill-requires : goal.fill-requires
fill-requires g c = c.requires.reach

pub returns-clause-enough : goal.returns-clause-enough
returns-clause-enough g c = is_enough c.args.count (length c.at_hand-2.result.now) (count_of c.fill.new.self) c.at_hand-2.ensures.count

pub returns-clause-ends : goal.returns-clause-ends
returns-clause-ends g c seen told missing =
    let short = too_few c.args.count (length c.at_hand-2.result.now) (count_of c.fill.new.self) c.at_hand-2.ensures.count missing in
    c.in_ok-fill.ensures.full seen told (omega (arith, short, c.requires.fits, c.in_ok-fill.ensures.ahead.room))

pub returns-clause-ahead : goal.returns-clause-ahead
returns-clause-ahead g c = c.in_ok-fill.ensures.ahead
