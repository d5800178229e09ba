use Rattle.std.proofs.Common.{◌++◌, Option, refl, ap, sym, ◌∙◌}
use Rattle.std.specs.Prelude.{option_to_list}
use Rattle.lert_bay.specs.{declared.bay.TheConstants.FRAMES, Kept.{Bays, seen_by}}
use Rattle.lert_frames.proofs.WriteLaws.{on_ok}
use Rattle.lert_spec.specs.declared.piece.Piece.{Piece}
use Rattle.lert_levels.specs.landing.Landed.{taken}
use Rattle.lert_levels.proofs.landing.LandingLaws.{taken_none, taking_anew, frame_stands, can_end, rest_of, holds_turned}
use Rattle.lert_levels.proofs.landing.landing.Landing.end.Given as given
use Rattle.lert_levels.proofs.landing.landing.Landing.end.Goals as goal

abbrev bays : (g : given.Over) → Bays g.row.B.Denot
bays g = seen_by g.B.Faulty g.B.Bay

pub end_frame-ended-requires : goal.end_frame-ended-requires
end_frame-ended-requires g c = can_end c.args.self.now c.take-last.result c.take-last.ensures.finished

pub start-requires : goal.start-requires
start-requires g c = record { version = c.args.self.now.taking.known; frame = frame_stands c.args.self.now c.end_frame-ended.new.writer c.end_frame-ended.ensures.settings }

pub invariant_of-self : goal.invariant_of-self
invariant_of-self g c = taking_anew c.start.new.self c.take-last.new.self c.start.ensures.put c.take-last.ensures.none c.args.self.now.version
    c.args.self.now.frame c.args.self.now.taking.known c.start.ensures.version c.start.ensures.frame

pub returns : goal.returns
returns g c =
    let l = c.args.self.now in
    let w = l.writer in
    let ended = c.end_frame-ended.ensures in
    let started = c.start.ensures in
    record {
      stands = on_ok _ _ c.end_frame-ended.result ended.stands (λ stands seen told writing later told_later.
          holds_turned w.settings w.settings w.version w.version w.level w.level w.frame l.frame (later FRAMES) (w.put ++ option_to_list c.take-last.result) (taken l) refl refl refl l.taking.frame_is
          (ap (λ (o : Option Piece). w.put ++ option_to_list o) c.take-last.ensures.finished) (stands seen told writing later told_later));
      taken = taken_none c.start.new.self c.take-last.new.self started.put c.take-last.ensures.none;
      lands = record {
        same = record { settings = started.settings ∙ ended.settings; version = started.version ∙ sym l.taking.version_is; level = started.level ∙ ended.level; frame = refl };
        landing = λ seen told landing later told_later. started.writing (later FRAMES);
        rest = rest_of (bays g) l c.args.bay.now c.end_frame-ended.new.bay ended.rest;
        kept = ended.kept;
      };
    }
