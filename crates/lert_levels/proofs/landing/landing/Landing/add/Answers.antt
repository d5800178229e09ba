use Rattle.std.proofs.{Common.{List, append-nil, refl, ap, sym, ◌∙◌}, lemmas.Bool.false≢true}
use Rattle.lert_bay.specs.{declared.bay.TheConstants.FRAMES, Kept.{Bays, seen_by}}
use Rattle.lert_bay.proofs.KeptLaws.{IsLawful}
use Rattle.lert_spec.specs.declared.piece.Piece.{Piece}
use Rattle.lert_levels.specs.landing.Whole.{whole}
use Rattle.lert_levels.proofs.landing.LandingLaws.{sum_ascends, sum_fits, finished_given, finished_fits, taken_none, taking_anew, frame_stands, put_below, taking_after, lands_none, lands_wrote}
use Rattle.lert_levels.proofs.landing.landing.Landing.add.Given as given
use Rattle.lert_levels.proofs.landing.landing.Landing.add.Goals as goal

abbrev bays : (g : given.Over) → Bays g.row.B.Denot
bays g = seen_by g.B.Faulty g.B.Bay

lawful : (g : given.Over) → IsLawful (bays g)
lawful g = record { as_read = g.met.B.Bay.as_read; since_now = g.met.B.Bay.since_now; only_now = g.met.B.Bay.only_now; since_earlier = g.met.B.Bay.since_earlier }

pub add-requires : goal.add-requires
add-requires g c = record { ascends = sum_ascends c.args.self.now c.args.piece c.requires; fits = sum_fits c.args.self.now c.args.piece c.requires }

pub put-requires : goal.put-requires
put-requires g c = record { given = finished_given c.args.self.now _ c.in-Some.ensures.finished.0; fits = finished_fits c.args.self.now _ c.in-Some.ensures.finished.0 }

-- ---- a sum that is finished by no piece

pub invariant_of-self : goal.invariant_of-self
invariant_of-self g c =
    let l = c.args.self.now in
    let all_is = ap (λ (front : List Piece). whole front c.add.new.self) (sym (append-nil l.writer.put)) ∙ c.in_default.ensures.whole l.writer.put (put_below l c.args.piece c.requires) in
    taking_after l c.args.piece c.requires l.writer c.add.new.self refl refl refl all_is refl c.in_default.ensures.last

pub returns-in_default : goal.returns-in_default
returns-in_default g c =
    let l = c.args.self.now in
    record {
      taken = ap (λ (front : List Piece). whole front c.add.new.self) (sym (append-nil l.writer.put)) ∙ c.in_default.ensures.whole l.writer.put (put_below l c.args.piece c.requires);
      failed = tt;
      lands = lands_none (bays g) (lawful g) l _ c.args.bay.now _ (λ failed. false≢true failed) refl refl;
    }

-- ---- one that was put

pub invariant_of-self-in_default-put : goal.invariant_of-self-in_default-put
invariant_of-self-in_default-put g c =
    let l = c.args.self.now in
    let put = c.in_default-put.ensures in
    let all_is = ap (λ (front : List Piece). whole front c.add.new.self) put.put ∙ c.in-Some.ensures.whole l.writer.put (put_below l c.args.piece c.requires) in
    taking_after l c.args.piece c.requires c.put.new.self c.add.new.self put.settings put.version put.level all_is put.frame c.in-Some.ensures.last

pub returns : goal.returns
returns g c =
    let l = c.args.self.now in
    let put = c.in_default-put.ensures in
    record {
      taken = ap (λ (front : List Piece). whole front c.add.new.self) put.put ∙ c.in-Some.ensures.whole l.writer.put (put_below l c.args.piece c.requires);
      failed = tt;
      lands = lands_wrote (bays g) l _ c.args.bay.now c.put.new.bay _ (record { settings = put.settings; version = put.version; level = put.level; frame = refl }) put.within put.kept put.writing;
    }

-- ---- one whose put failed

pub start-requires : goal.start-requires
start-requires g c = record { version = c.args.self.now.taking.known; frame = frame_stands c.args.self.now c.put.new.self c.in-Err.ensures.settings }

pub invariant_of-self-in-Err : goal.invariant_of-self-in-Err
invariant_of-self-in-Err g c = taking_anew c.start.new.self c.new-self.result c.start.ensures.put c.new-self.ensures c.args.self.now.version
    c.args.self.now.frame c.args.self.now.taking.known c.start.ensures.version c.start.ensures.frame

pub returns-in-Err : goal.returns-in-Err
returns-in-Err g c =
    let put = c.in-Err.ensures in
    let started = c.start.ensures in
    record {
      taken = tt;
      failed = taken_none c.start.new.self c.new-self.result started.put c.new-self.ensures;
      lands = lands_wrote (bays g) c.args.self.now _ c.args.bay.now c.put.new.bay _
          (record {
            settings = started.settings ∙ put.settings;
            version = started.version ∙ sym c.args.self.now.taking.version_is;
            level = started.level ∙ put.level;
            frame = refl;
          }) put.within put.kept
          (λ seen told landing later told_later. started.writing (later FRAMES));
    }
