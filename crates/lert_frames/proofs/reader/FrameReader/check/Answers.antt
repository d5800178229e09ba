use Rattle.lert_bay.specs.Kept.{seen_by}
use Rattle.std.{proofs.Common.{◌≡◌, ℕ, ◌-◌, ◌<◌, ◌≤◌, ◌∙◌, ◌++◌, ◌*◌, ◌∷◌, [], List, Ok, None, append-nil, refl, sym, ap, subst, arith}, specs.Prelude.option_to_list}
use Rattle.std.{proofs.lemmas.Result.err_from_is_err_and}
use Rattle.lert_bay.{specs.declared.bay.TheConstants.FRAMES, specs.Files.IfTold}
use Rattle.lert_spec.specs.{Items.most_weight, Table.{costs, total, AreGiven}, declared.piece.Piece.Piece}
use Rattle.lert_frames.{specs.Frame.{frame_left, frame_pieces}, specs.Place.{frame_place, tail_limit}, specs.ToCome.{left_of, pieces_of, told_of, IsOver}}
use Rattle.lert_frames.proofs.CheckLaws.{all_told, costs_grow, few_wide, gave_more, none_told, some_told, sum_between, sum_fits, sum_step, told_more, whole_bin, left_started, whole_from}
use Rattle.lert_frames.proofs.CheckLaws.{stands_from}
use Rattle.lert_frames.{proofs.FaultLaws.not_err, proofs.WriteLaws.same_err, proofs.CallLaws.{reads_turned, reads_then, reads_same}}
use Rattle.lert_frames.proofs.reader.FrameReader.check.Given as given
use Rattle.lert_frames.proofs.reader.FrameReader.check.Goals as goal

pub loop-piece-init : goal.loop-piece-init
loop-piece-init g c = record {
  settings = refl;
  version = refl;
  level = refl;
  place = refl;
  wide = refl;
  breaks = λ at. (λ same. same, λ same. same);
  within = λ seen told. c.start.ensures.within (seen FRAMES);
  sum = sym (ap total c.start.ensures.gave);
  coming = λ all told. (all, ap (λ gave. gave ++ all) (sym c.start.ensures.gave), told);
  only_reads = reads_same (seen_by g.B.Faulty g.B.Bay) g.met.B.Bay.only_now (λ none. none);
}

pub loop-piece-preserved : goal.loop-piece-preserved
loop-piece-preserved g c =
    let is = c.loop-piece.invariant in
    let e = c.in_ok-piece.ensures in
    let given = gave_more _ c.in-Some.piece c.loop-piece.self.gave c.next.new.self.gave e.given c.in-Some.is in
    record {
      settings = e.settings ∙ is.settings;
      version = e.version ∙ is.version;
      level = e.level ∙ is.level;
      place = e.place ∙ is.place;
      wide = e.wide ∙ is.wide;
      breaks = λ at. (λ later. (is.breaks at).0 ((e.breaks at).0 later), λ before. (e.breaks at).1 ((is.breaks at).1 before));
      within = λ seen told. e.within seen (is.only_reads.seen ∙ told) (is.within seen told);
      sum = sum_step c.loop-piece.sum c.loop-piece.self.gave c.next.new.self.gave c.in-Some.piece is.sum given;
      coming = λ all told. (
          let before = is.coming all told in
          let after = some_told _ c.in-Some.piece before.0 _ c.in-Some.is (e.told before.0 before.2) in
          (after.0, told_more all c.loop-piece.self.gave c.next.new.self.gave before.0 after.0 c.in-Some.piece before.1 after.1 given, after.2));
      only_reads = reads_then g.met.B.Bay.since_earlier is.only_reads e.keeps;
    }

smaller_by : (wide later before more after : ℕ) → before < more → after ≡ more → after ≤ later → later ≡ wide → later - after < wide - before
smaller_by wide later before more after grows is within same = omega (arith, grows, is, within, same)

pub loop-piece-smaller : goal.loop-piece-smaller
loop-piece-smaller g c =
    let e = c.in_ok-piece.ensures in
    let before = c.loop-piece.self.gave in
    let given = gave_more _ c.in-Some.piece before c.next.new.self.gave e.given c.in-Some.is in
    let more = costs_grow c.loop-piece.self.version (tail_limit c.next.new.self.settings) before c.in-Some.piece (subst (AreGiven (tail_limit c.next.new.self.settings)) given e.ascending) in
    smaller_by c.loop-piece.self.wide c.next.new.self.wide (costs c.loop-piece.self.version before) (costs c.loop-piece.self.version (before ++ c.in-Some.piece ∷ []))
    (costs c.next.new.self.version c.next.new.self.gave) more (λ i. costs (e.version i) (given i)) e.sum e.wide

-- ---- a step that stops

pub returns-in_err-piece-clause-malformed : goal.returns-in_err-piece-clause-malformed
returns-in_err-piece-clause-malformed g c seen told at =
    let self = c.args.self.now in
    let p = err_from_is_err_and c.from_residual.result c.from_residual.ensures.1 in
    rw (p.1, p.2) (λ broken.
    let breaks = (c.loop-piece.invariant.breaks at).0 (c.in_err-piece.ensures.malformed at (same_err _ _ broken)).1 in
    sym (left_started c.start.new.self self.settings c.args.version self.level c.args.frame c.args.width (seen FRAMES) (c.start.ensures.left (seen FRAMES))
    c.start.ensures.settings c.start.ensures.level)
    ∙ breaks seen told)

pub returns-in_err-piece-clause-only_reads : goal.returns-in_err-piece-clause-only_reads
returns-in_err-piece-clause-only_reads g c =
    let p = err_from_is_err_and c.from_residual.result c.from_residual.ensures.1 in
    rw (p.1, p.2) (reads_then g.met.B.Bay.since_earlier c.loop-piece.invariant.only_reads
    (reads_turned (same_err _ _) c.in_err-piece.ensures.only_reads))

-- ---- at the end

over : (g : given.Over) (c : goal.In_default g) → IsOver c.next.new.self
over g c = c.in_ok-piece.ensures.over (ap Ok c.in_default.is)

begun_whole : (g : given.Over) (c : goal.In_default g) → IfTold (g.B.Bay.files c.args.bay.now) (λ seen. left_of c.start.new.self (seen FRAMES) ≡ None)
begun_whole g c seen told =
    let is = c.loop-piece.invariant in
    let e = c.in_ok-piece.ensures in
    whole_from (g.B.Bay.files c.args.bay.now) (g.B.Bay.files c.next.new.ctx) c.start.new.self c.next.new.self seen told (e.keeps.seen ∙ (is.only_reads.seen ∙ told))
    (λ at broken. (e.breaks at).1 ((is.breaks at).1 broken)) (over g c)

-- what the frame leaves its text at, as it was begun, it leaves it at then
whole : (g : given.Over) (c : goal.In_default g) → IfTold (g.B.Bay.files c.args.bay.now) (λ seen.
    frame_left c.args.self.now.settings c.args.version c.args.self.now.level c.args.frame c.args.width (seen FRAMES) ≡ None)
whole g c seen told =
    let self = c.args.self.now in
    sym (left_started c.start.new.self self.settings c.args.version self.level c.args.frame c.args.width (seen FRAMES) (c.start.ensures.left (seen FRAMES))
    c.start.ensures.settings c.start.ensures.level)
    ∙ begun_whole g c seen told

pub returns-clause-whole : goal.returns-clause-whole
returns-clause-whole g c = whole g c

pub returns-clause-bin : goal.returns-clause-bin
returns-clause-bin g c seen told =
    let self = c.args.self.now in
    whole_bin self.settings c.args.version self.level c.args.frame c.args.width (seen FRAMES) (whole g c seen told) self.reading.valid self.reading.last

pub returns-clause-stands : goal.returns-clause-stands
returns-clause-stands g c seen told =
    let self = c.args.self.now in
    let is = c.loop-piece.invariant in
    let e = c.in_ok-piece.ensures in
    let settings = e.settings ∙ (is.settings ∙ c.start.ensures.settings) in
    let level = e.level ∙ (is.level ∙ c.start.ensures.level) in
    let place = e.place ∙ (is.place ∙ (c.start.ensures.place ∙ (λ i. frame_place (c.start.ensures.settings i) c.args.version (c.start.ensures.level i) c.args.frame))) in
    stands_from c.next.new.self self.settings c.args.version self.level c.args.frame c.args.width (seen FRAMES) (e.within seen (is.only_reads.seen ∙ told) (is.within seen told)) (over g c)
    settings level place (whole g c seen told)

pub returns-clause-only_reads : goal.returns-clause-only_reads
returns-clause-only_reads g c =
    reads_then g.met.B.Bay.since_earlier c.loop-piece.invariant.only_reads
    (reads_turned (λ failed. not_err _ _ failed) c.in_ok-piece.ensures.keeps)

-- ---- the sum

pub returns-clause-between : goal.returns-clause-between
returns-clause-between g c =
    let is = c.loop-piece.invariant in
    let e = c.in_ok-piece.ensures in
    let last = c.next.new.self in
    let gave = c.loop-piece.self.gave in
    let given : last.gave ≡ gave = e.given ∙ (ap (λ piece. gave ++ option_to_list piece) c.in_default.is ∙ append-nil gave) in
    let version = e.version ∙ (is.version ∙ c.start.ensures.version) in
    let wide = e.wide ∙ (is.wide ∙ c.start.ensures.wide) in
    let sum = c.loop-piece.sum in
    subst (λ v. (c.args.width ≤ sum) × (sum ≤ most_weight v * c.args.width)) version
    (subst (λ w. (w ≤ sum) × (sum ≤ most_weight last.version * w)) wide
    (sum_between last.version last.wide sum last.gave (is.sum ∙ ap total (sym given)) e.sum (e.all (ap Ok c.in_default.is))))

pub returns-clause-sum : goal.returns-clause-sum
returns-clause-sum g c seen told =
    let is = c.loop-piece.invariant in
    let first = c.start.new.self in
    let gave = c.loop-piece.self.gave in
    let coming = is.coming (pieces_of first (seen FRAMES)) (all_told (g.B.Bay.files c.args.bay.now) first seen told (begun_whole g c seen told)) in
    let none = none_told _ coming.0 _ c.in_default.is (c.in_ok-piece.ensures.told coming.0 coming.2) in
    let pieces : pieces_of first (seen FRAMES) ≡ frame_pieces c.args.self.now.settings c.args.version c.args.self.now.level c.args.frame (seen FRAMES) =
    c.start.ensures.pieces (seen FRAMES) ∙ (λ i. frame_pieces (c.start.ensures.settings i) c.args.version (c.start.ensures.level i) c.args.frame (seen FRAMES)) in
    is.sum ∙ (ap total (sym (append-nil gave)) ∙ (ap (λ rest. total (gave ++ rest)) (sym none) ∙ (ap total (sym coming.1) ∙ ap total pieces)))

pub overflow_add-sum : goal.overflow_add-sum
overflow_add-sum g c =
    let is = c.loop-piece.invariant in
    let e = c.in_ok-piece.ensures in
    let self = c.args.self.now in
    let wide = e.wide ∙ (is.wide ∙ c.start.ensures.wide) in
    record {
      fits = sum_fits c.next.new.self.version c.args.width c.loop-piece.sum c.loop-piece.self.gave c.next.new.self.gave c.in-Some.piece is.sum
          (gave_more _ c.in-Some.piece c.loop-piece.self.gave c.next.new.self.gave e.given c.in-Some.is)
          (subst (λ w. costs c.next.new.self.version c.next.new.self.gave ≤ w) wide e.sum) (few_wide self.settings self.level c.args.width self.reading.valid self.reading.last c.requires.width);
    }
