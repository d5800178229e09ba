use Rattle.std.proofs.Common.{◌++◌, Option, append-nil, refl, ap, sym, ◌∙◌}
use Rattle.std.specs.Prelude.{option_to_list}
use Rattle.lert_bay.specs.{declared.bay.TheConstants.FRAMES, Kept.{Bays, seen_by}}
use Rattle.lert_bay.proofs.KeptLaws.{IsLawful, keeps_on}
use Rattle.lert_frames.proofs.WriteLaws.{on_ok}
use Rattle.lert_levels.specs.rows.Landing.{IsApart}
use Rattle.lert_levels.proofs.{rows.LandLaws.{within_rest, rest_on}, landing.LandingLaws.{holds_turned, rest_turned}}
use Rattle.lert_spec.specs.declared.piece.Piece.{Piece}
use Rattle.lert_levels.proofs.landing.landing.end_frame.Given as given
use Rattle.lert_levels.proofs.landing.landing.end_frame.Goals as goal

abbrev bays : (g : given.Over) → Bays g.row.B.Denot
bays g = seen_by g.B.Faulty g.B.Bay

lawful : (g : given.Over) → IsLawful (bays g)
lawful g = record { as_read = g.met.B.Bay.as_read; since_now = g.met.B.Bay.since_now; only_now = g.met.B.Bay.only_now; since_earlier = g.met.B.Bay.since_earlier }

pub returns-in_default : goal.returns-in_default
returns-in_default g c =
    let w = c.args.writer.now in
    let e = c.end.ensures in
    record {
      stands = on_ok _ _ c.end.result e.stands (λ stands seen told writing later told_later.
          holds_turned w.settings w.settings w.version w.version w.level w.level w.frame w.frame (later FRAMES) w.put (w.put ++ option_to_list c.args.last) refl refl refl refl
          (sym (ap (λ (o : Option Piece). w.put ++ option_to_list o) c.in_default.is ∙ append-nil w.put)) (stands seen told writing later told_later));
      settings = e.settings;
      version = e.version;
      level = e.level;
      rest = within_rest (bays g) w.settings w.version w.level w.frame c.args.bay.now c.end.new.bay e.within;
      kept = e.kept;
    }

pub returns-in_err-put-clause-rest : goal.returns-in_err-put-clause-rest
returns-in_err-put-clause-rest g c =
    let w = c.args.writer.now in
    within_rest (bays g) w.settings w.version w.level w.frame c.args.bay.now c.put.new.bay c.put.ensures.within

pub returns : goal.returns
returns g c =
    let w = c.args.writer.now in
    let v = c.put.new.self in
    let put = c.in_ok-put.ensures in
    let e = c.end-2.ensures in
    record {
      stands = on_ok _ _ c.end-2.result e.stands (λ stands seen told writing later told_later.
          let middle = put.within.wrote.seen.told seen told in
          holds_turned v.settings w.settings v.version w.version v.level w.level v.frame w.frame (later FRAMES) v.put (w.put ++ option_to_list c.args.last) put.settings put.version put.level put.frame
          (put.put ∙ ap (λ (o : Option Piece). w.put ++ option_to_list o) (sym c.in-Some.is))
          (stands middle.0 middle.1 (put.writing seen told writing middle.0 middle.1) later told_later));
      settings = e.settings ∙ put.settings;
      version = e.version ∙ put.version;
      level = e.level ∙ put.level;
      rest = rest_on (bays g) (lawful g) (IsApart w.settings w.version w.level w.frame) c.args.bay.now c.put.new.bay c.end-2.new.bay _ _ put.kept e.kept
          (within_rest (bays g) w.settings w.version w.level w.frame c.args.bay.now c.put.new.bay put.within)
          (rest_turned (bays g) v.settings w.settings v.version w.version v.level w.level v.frame w.frame c.put.new.bay c.end-2.new.bay put.settings put.version put.level put.frame
          (within_rest (bays g) v.settings v.version v.level v.frame c.put.new.bay c.end-2.new.bay e.within));
      kept = keeps_on (bays g) (lawful g) c.args.bay.now c.put.new.bay c.end-2.new.bay _ _ put.kept e.kept;
    }
