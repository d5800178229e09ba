use Rattle.std.{proofs.Common.◌∙◌, proofs.lemmas.Result.err_from_is_err_and}
use Rattle.lert_frames.proofs.writer.FrameWriter.new.Goals as goal

pub returns-in_err-outlet : goal.returns-in_err-outlet
returns-in_err-outlet c =
    let p = err_from_is_err_and c.from_residual.result c.from_residual.ensures.1 in
    rw p.1 (record { writing = tt; put = tt; frame = tt; settings = tt; version = tt; level = tt })

pub returns-in_err-ends : goal.returns-in_err-ends
returns-in_err-ends c =
    let p = err_from_is_err_and c.from_residual-in_err-ends.result c.from_residual-in_err-ends.ensures.1 in
    rw p.1 (record { writing = tt; put = tt; frame = tt; settings = tt; version = tt; level = tt })

pub returns-in_err-block : goal.returns-in_err-block
returns-in_err-block c =
    let p = err_from_is_err_and c.from_residual-in_err-block.result c.from_residual-in_err-block.ensures.1 in
    rw p.1 (record { writing = tt; put = tt; frame = tt; settings = tt; version = tt; level = tt })

pub of-writer-requires-clause-size : goal.of-writer-requires-clause-size
of-writer-requires-clause-size c = c.in_ok-outlet.ensures.0

pub of-writer-requires-clause-ends_size : goal.of-writer-requires-clause-ends_size
of-writer-requires-clause-ends_size c = c.in_ok-ends.ensures.0

pub returns-clause-writing : goal.returns-clause-writing
returns-clause-writing c = c.start.ensures.writing

pub returns-clause-settings : goal.returns-clause-settings
returns-clause-settings c = c.start.ensures.settings ∙ c.of-writer.ensures.settings

pub returns-clause-level : goal.returns-clause-level
returns-clause-level c = c.start.ensures.level ∙ c.of-writer.ensures.level
