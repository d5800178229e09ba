use Rattle.lert_frames.proofs.reader.FrameReader.start.Goals as goal

pub returns-clause-left : goal.returns-clause-left
returns-clause-left c = c.start_at.ensures.left

pub returns-clause-pieces : goal.returns-clause-pieces
returns-clause-pieces c = c.start_at.ensures.pieces

pub returns-clause-place : goal.returns-clause-place
returns-clause-place c = c.start_at.ensures.place
