use Rattle.std.proofs.{Common.{◌≡◌, ◌<◌, length, take, arith}, lemmas.Result.{on_ok_weaker, on_err_weaker}}
use Rattle.lert_bay.specs.Files.{Holds}
use Rattle.lert_bay.proofs.Steps.{rewrites}
use Rattle.lert_bay.proofs.mem_bay.MemBay.write_part.Goals as goal

pub returns-clause-ok : goal.returns-clause-ok
returns-clause-ok c =
    let within : c.args.file < length c.self.inside.files = omega (arith, c.requires.file, c.self.invariant.0) in
    rw (← c.self.view_is)
    (on_ok_weaker c.write.result (λ held. rewrites _ c.args.file c.args.at (length c.args.bytes.now) (Holds c.args.at (take c.args.landing c.args.bytes.now))
    c.index-self-file.result c.write.new.self within c.write.ensures.as_read c.write.ensures.synced c.write.ensures.written held) c.write.ensures.ok)

pub returns-clause-err : goal.returns-clause-err
returns-clause-err c =
    let within : c.args.file < length c.self.inside.files = omega (arith, c.requires.file, c.self.invariant.0) in
    rw (← c.self.view_is)
    (on_err_weaker c.write.result (λ same. rewrites _ c.args.file c.args.at (length c.args.bytes.now) (λ old new. new ≡ old) c.index-self-file.result c.write.new.self within
    c.write.ensures.as_read c.write.ensures.synced c.write.ensures.written same) c.write.ensures.err)
