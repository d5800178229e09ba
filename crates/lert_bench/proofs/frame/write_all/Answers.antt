use Rattle.std.proofs.Common.{ℕ, ◌≤◌, ◌++◌, [], ◌∷◌, List, get_or, sym, subst, arith}
use Rattle.lert_frames.specs.Place.{tail_limit}
use Rattle.lert_spec.specs.declared.numbers.Numbers.{Numbers}
use Rattle.lert_spec.specs.declared.piece.Piece.{Piece}
use Rattle.lert_spec.specs.Edges.{span}
use Rattle.lert_spec.specs.Table.{costs, AreGiven}
use Rattle.lert_spec.proofs.CostLaws.{costs_to}
use Rattle.lert_frames.proofs.PutLaws.{put_given, put_fits}
use Rattle.lert_bench.proofs.frame.write_all.Goals as goal

abbrev nothing : Piece
nothing = record { tail = 0; count = 0 }

pub put-requires : goal.put-requires
put-requires g c =
    let was = c.loop-piece.invariant in
    let w = c.loop-piece.writer in
    let i = c.loop-piece.piece-index in
    let first = c.args.writer.now in
    let more : List Piece = w.put ++ get_or c.args.pieces.now i nothing ∷ [] in
    record {
      given = subst (λ (s : Numbers). AreGiven (tail_limit s) more) (sym was.settings)
          (put_given (tail_limit first.settings) i c.args.pieces.now w.put nothing c.loop-piece-test.true was.put c.requires.given);
      fits =
          let few : costs w.version c.args.pieces.now ≤ span first.settings first.level = omega (arith, costs_to w.version c.args.pieces.now, c.requires.fits) in
          subst (λ (s : Numbers). costs w.version more ≤ span s w.level) (sym was.settings) (subst (λ (n : ℕ). costs w.version more ≤ span first.settings n) (sym was.level)
          (put_fits (tail_limit first.settings) i c.args.pieces.now w.put nothing c.loop-piece-test.true was.put w.version (span first.settings first.level) few));
    }
