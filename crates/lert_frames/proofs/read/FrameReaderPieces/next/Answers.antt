use Rattle.lert_bay.specs.Kept.{seen_by}
use Rattle.std.{proofs.Common.{◌≡◌, ◌∙◌, ◌++◌, Option, None, Some, ap, refl, subst}, specs.Prelude.option_to_list, proofs.lemmas.Result.err_from_is_err_and}
use Rattle.lert_bay.{specs.declared.bay.TheConstants.FRAMES, specs.Files.Files}
use Rattle.lert_frames.{specs.InOrder.gave_given, specs.Place.tail_limit, specs.ToCome.{told_of, Breaks, HandsOut, IsSameToCome}}
use Rattle.lert_frames.proofs.FaultLaws.{not_err, ok_not_err, err_not_ok, some_not_none, same_ok}
use Rattle.lert_frames.proofs.ToComeLaws.{same_to_come_on, left_before, told_stays, broken_stays, broken_untold, handed_broken, handed_gave, handed_over, handed_untold, handed_within}
use Rattle.lert_frames.{proofs.ToComeLaws.{handed_none, told_first, told_next, given_within, given_all}, proofs.WriteLaws.same_err, proofs.CallLaws.{reads_turned, reads_same}}
use Rattle.lert_spec.specs.declared.piece.Piece.{Piece}
use Rattle.lert_frames.proofs.read.FrameReaderPieces.next.Goals as goal

-- ---- a piece that was ready

pub returns-in-Some : goal.returns-in-Some
returns-in-Some g c =
    let bay = c.args.ctx.now in
    let self = c.args.self.now in
    let after = c.give.new.self in
    let files = g.B.Bay.files bay in
    let hands = subst (λ (piece : Option Piece). HandsOut self after piece) c.in-Some.is c.give.ensures in
    let none = reads_same (seen_by g.B.Faulty g.B.Bay) g.met.B.Bay.only_now (λ none. none) in
    record {
      told = λ ps told. told_first files self after c.in-Some.piece ps hands told;
      untold = handed_untold self after _ hands files;
      given = hands.given.1;
      refused = tt;
      ascending = gave_given after;
      limit = ap tail_limit hands.settings;
      failed = λ is. absurd (ok_not_err _ _ is);
      malformed = λ at is. absurd (ok_not_err _ _ is);
      breaks = handed_broken self after _ hands files;
      faults = none.kept.never_falls;
      mark = refl;
      keeps = none;
      sum = given_within after;
      all = λ is. absurd (some_not_none _ is);
      settings = hands.settings;
      version = hands.version;
      level = hands.level;
      place = hands.place;
      wide = hands.wide;
      within = λ seen told within. handed_within self after _ hands (seen FRAMES) within;
      over = λ is. absurd (some_not_none _ is);
      only_reads = reads_same (seen_by g.B.Faulty g.B.Bay) g.met.B.Bay.only_now (λ is. not_err _ _ is);
    }

-- ---- where none was

pub returns-in_err-fill : goal.returns-in_err-fill
returns-in_err-fill g c =
    let before = c.args.ctx.now in
    let later = c.fill.new.bay in
    let self = c.args.self.now in
    let after = c.fill.new.self in
    let files = g.B.Bay.files before in
    let none : HandsOut self c.give.new.self None = subst (λ (piece : Option Piece). HandsOut self c.give.new.self piece) c.in_default.is c.give.ensures in
    let e = c.in_err-fill.ensures in
    let same : (seen : Files) → files ≡ Some seen → IsSameToCome self after (seen FRAMES) =
    λ seen told. same_to_come_on self c.give.new.self after (seen FRAMES) (handed_none self c.give.new.self none (seen FRAMES)) (e.to_come seen told) in
    let p = err_from_is_err_and c.from_residual.result c.from_residual.ensures.1 in
    rw (p.1, p.2) (record {
      told = λ ps told. tt;
      untold = λ untold. told_stays files (g.B.Bay.files later) self after e.only_reads.seen same ∙ untold;
      given = tt;
      refused = e.frame.gave ∙ none.given.2;
      ascending = gave_given after;
      limit = ap tail_limit (e.frame.settings ∙ none.settings);
      failed = λ is. e.only_reads.kept.failed (same_err _ _ is);
      malformed = λ at broken.
          let breaks : Breaks files self at = λ seen told. left_before self c.give.new.self (seen FRAMES) at (handed_none self c.give.new.self none (seen FRAMES))
          (e.malformed seen told at (same_err _ _ broken)) in
          (broken_untold files self at breaks, breaks);
      breaks = broken_stays files (g.B.Bay.files later) self after e.only_reads.seen same;
      faults = e.only_reads.kept.never_falls;
      mark = e.only_reads.kept.mark;
      keeps = reads_turned (λ none. absurd none) e.only_reads;
      sum = tt;
      all = λ is. absurd (err_not_ok _ _ is);
      settings = e.frame.settings ∙ none.settings;
      version = e.frame.version ∙ none.version;
      level = e.frame.level ∙ none.level;
      place = e.frame.place ∙ none.place;
      wide = e.frame.wide ∙ none.wide;
      within = λ seen told within. tt;
      over = λ is. absurd (err_not_ok _ _ is);
      only_reads = reads_turned (λ is. same_err _ _ is) e.only_reads;
    })

pub returns : goal.returns
returns g c =
    let before = c.args.ctx.now in
    let later = c.fill.new.bay in
    let self = c.args.self.now in
    let filled = c.fill.new.self in
    let after = c.give-2.new.self in
    let piece = c.give-2.result in
    let hands = c.give-2.ensures in
    let files = g.B.Bay.files before in
    let files_later = g.B.Bay.files later in
    let none : HandsOut self c.give.new.self None = subst (λ (piece : Option Piece). HandsOut self c.give.new.self piece) c.in_default.is c.give.ensures in
    let e = c.in_ok-fill.ensures in
    let same : (seen : Files) → files ≡ Some seen → IsSameToCome self filled (seen FRAMES) =
    λ seen told. same_to_come_on self c.give.new.self filled (seen FRAMES) (handed_none self c.give.new.self none (seen FRAMES)) (e.to_come seen told) in
    let told_is : told_of files_later filled ≡ told_of files self = told_stays files files_later self filled e.only_reads.seen same in
    let broken = broken_stays files files_later self filled e.only_reads.seen same in
    let handed = handed_broken filled after piece hands files_later in
    let ended : piece ≡ None → HandsOut filled after None = λ is. subst (λ (piece : Option Piece). HandsOut filled after piece) is hands in
    record {
      told = λ ps told. told_next files_later filled after piece ps hands e.over (told_is ∙ told);
      untold = λ untold. handed_untold filled after piece hands files_later (told_is ∙ untold);
      given = handed_gave filled after piece hands ∙ ap (λ gave. gave ++ option_to_list piece) (e.frame.gave ∙ none.given.2);
      refused = tt;
      ascending = gave_given after;
      limit = ap tail_limit (hands.settings ∙ (e.frame.settings ∙ none.settings));
      failed = λ is. absurd (ok_not_err _ _ is);
      malformed = λ at is. absurd (ok_not_err _ _ is);
      breaks = λ at. (λ breaks. (broken at).0 ((handed at).0 breaks), λ breaks. (handed at).1 ((broken at).1 breaks));
      faults = e.only_reads.kept.never_falls;
      mark = e.only_reads.kept.mark;
      keeps = reads_turned (λ none. absurd none) e.only_reads;
      sum = given_within after;
      all = λ is. let end : piece ≡ None = same_ok _ _ is in given_all filled after (ended end) (handed_over filled after (ended end) e.over);
      settings = hands.settings ∙ (e.frame.settings ∙ none.settings);
      version = hands.version ∙ (e.frame.version ∙ none.version);
      level = hands.level ∙ (e.frame.level ∙ none.level);
      place = hands.place ∙ (e.frame.place ∙ none.place);
      wide = hands.wide ∙ (e.frame.wide ∙ none.wide);
      within = λ seen told within. handed_within filled after piece hands (seen FRAMES) (e.within seen told (handed_within self c.give.new.self None none (seen FRAMES) within));
      over = λ is. let end : piece ≡ None = same_ok _ _ is in handed_over filled after (ended end) e.over;
      only_reads = reads_turned (λ is. absurd (not_err _ _ is)) e.only_reads;
    }
