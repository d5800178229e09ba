use Rattle.std.proofs.{Common.{List, map, get_or, set, ap, sym, ◌∙◌}, lemmas.List.{get_or_default, map-set}}
use Rattle.lert_bay.specs.Kept.{Bays, seen_by}
use Rattle.lert_frames.proofs.{WithinLaws.turns_to, WriteLaws.{on_ok, on_err_from}}
use Rattle.lert_levels.specs.{rows.Landing.{IsApart, LeavesRest}, landing.Landed.taken}
use Rattle.lert_spec.specs.{declared.piece.Piece.Piece, Table.plus}
use Rattle.lert_levels.proofs.landing.LandingsLaws.{apart_one, homes_set, taken_here, others_set, landing_set}
use Rattle.lert_levels.proofs.landing.landings.add_to.Given as given
use Rattle.lert_levels.proofs.landing.landings.add_to.Goals as goal

abbrev bays : (g : given.Over) → Bays g.row.B.Denot
bays g = seen_by g.B.Faulty g.B.Bay

pub bounds-landings-part : goal.bounds-landings-part
bounds-landings-part g c = c.requires.part

pub add-requires : goal.add-requires
add-requires g c = c.requires.piece c.index-landings-part.result

pub returns : goal.returns
returns g c =
    let xs = c.args.landings.now in
    let i = c.args.part in
    let l = get_or xs i c.index-landings-part.result in
    let l_is = get_or_default xs i c.index-landings-part.result l c.requires.part in
    let new = c.add.new.self in
    let e = c.add.ensures in
    record {
      taken = on_ok _ _ c.add.result e.taken (λ taken_is.
          map-set taken xs i new
          ∙ ap (set (map taken xs) i) (taken_is ∙ ap (λ (ps : List Piece). plus ps c.args.piece.tail c.args.piece.count) (sym (taken_here xs i l new c.requires.part l_is))));
      failed = on_err_from _ _ c.add.result e.failed (λ none. map-set taken xs i new ∙ ap (set (map taken xs) i) none);
      others = others_set xs i l new c.requires.part l_is;
      homes = homes_set xs i l new c.requires.part l_is e.lands.same;
      landing = λ s version are seen told landing later told_later.
          landing_set xs i l new c.requires.part l_is s version are seen later
          (turns_to (LeavesRest (IsApart l.writer.settings l.writer.version l.writer.level l.frame)) (g.B.Bay.files c.args.bay.now)
          (g.B.Bay.files c.add.new.bay) seen later e.lands.rest.seen told told_later)
          (e.lands.landing seen told (landing i c.index-landings-part.result c.requires.part) later told_later) landing;
      rest = apart_one (bays g) xs i l c.args.bay.now c.add.new.bay c.requires.part l_is e.lands.rest;
      kept = e.lands.kept;
    }
