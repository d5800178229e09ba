use Rattle.std.{proofs.Common.{◌≡◌, ◌/◌, ◌∷◌, ◌++◌, ◌∙◌, List, [], sym, ap, subst, refl, arith}, proofs.lemmas.Result.err_from_is_err_and}
use Rattle.lert_bay.specs.declared.bay.TheConstants.{FRAMES}
use Rattle.lert_blocks.specs.Text.{quotient_of}
use Rattle.lert_frames.{specs.Place.tail_limit, proofs.ProceedLaws.{frame_writes, frame_outside, proceeds_as}, proofs.WritingLaws.last_piece}
use Rattle.lert_spec.{specs.declared.numbers.Numbers.Numbers, specs.declared.piece.Piece.Piece, specs.Edges.span, specs.Table.{AreGiven, costs}}
use Rattle.lert_frames.proofs.writer.FrameWriter.put.Goals as goal

pub ready-requires : goal.ready-requires
ready-requires g c = let w = c.args.self.now in (last_piece 0 (tail_limit w.settings) w.put c.args.piece c.requires.given.table).0

pub take-requires : goal.take-requires
take-requires g c =
    let w = c.args.self.now in
    let m = c.ready.new.self in
    let same = c.in_ok-ready.ensures.proceeds.same in
    let sum : costs m.version (m.put ++ c.args.piece ∷ []) ≡ costs w.version (w.put ++ c.args.piece ∷ []) =
    λ i. costs (same.version i) (same.put i ++ c.args.piece ∷ []) in
    let wide : span m.settings m.level ≡ span w.settings w.level = λ i. span (same.settings i) (same.level i) in
    record {
      given = subst (λ (ps : List Piece). AreGiven (tail_limit m.settings) (ps ++ c.args.piece ∷ [])) (sym same.put)
          (subst (λ (s : Numbers). AreGiven (tail_limit s) (w.put ++ c.args.piece ∷ [])) (sym same.settings) c.requires.given);
      fits = omega (arith, sum, wide, c.requires.fits);
      room = c.in_ok-ready.ensures.room;
    }

pub returns-in_err-ready : goal.returns-in_err-ready
returns-in_err-ready g c =
    let p = err_from_is_err_and c.from_residual.result c.from_residual.ensures.1 in
    let one = c.in_err-ready.ensures.proceeds in
    let writes = frame_writes (proceeds_as (λ _. refl) one) in
    rw p.1 (record {
      put = tt;
      writing = tt;
      failed = one.same.put;
      settings = one.same.settings;
      version = one.same.version;
      level = one.same.level;
      frame = one.same.frame;
      within = writes.within;
      outside = λ seen told. frame_outside one seen;
      kept = writes.kept;
    })

pub returns : goal.returns
returns g c =
    let piece = c.args.piece in
    let one = c.in_ok-ready.ensures in
    let same = one.proceeds.same in
    record {
      put = c.take.ensures.put ∙ ap (λ (ps : List Piece). ps ++ piece ∷ []) same.put;
      writing = λ seen told writing later told_later. c.take.ensures.writing (later FRAMES)
          (ap (λ k. quotient_of k piece / 64) same.width ∙ sym (one.number (writing.ahead piece c.requires.given.table))) (one.stays seen told later told_later writing.at);
      failed = tt;
      settings = c.take.ensures.settings ∙ same.settings;
      version = c.take.ensures.version ∙ same.version;
      level = c.take.ensures.level ∙ same.level;
      frame = c.take.ensures.frame ∙ same.frame;
      within = (frame_writes one.proceeds).within;
      outside = λ seen told. frame_outside one.proceeds seen;
      kept = one.proceeds.writes.kept;
    }
