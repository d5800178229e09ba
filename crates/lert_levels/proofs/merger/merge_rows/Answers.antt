use Rattle.std.proofs.Common.{ℕ, ◌≡◌, ◌∙◌, Option, Some, Result, refl, sym, subst, le_refl}
use Rattle.std.specs.Prelude.{Err, OnOk, IsErrOf}
use Rattle.lert_bay.specs.{declared.bay.TheConstants.FRAMES, Files.Files, Kept.{Bays, KeepsBay, seen_by}}
use Rattle.lert_bay.proofs.KeptLaws.{IsLawful, keeps_on}
use Rattle.lert_levels.specs.{rows.Landing.AreApart, rows.Loading.OneBreaks, rows.Rows.AreFirst, declared.rows.fault.FlushFault.FlushFault}
use Rattle.lert_levels.specs.{declared.rows.fault.FlushFault.TheVariants.{Failed, Malformed}, Ready.HasMade, Sources.AreSecure}
use Rattle.lert_levels.proofs.rows.LandLaws.{rest_on, read_rest}
use Rattle.lert_spec.specs.declared.numbers.Numbers.{Numbers}
use Rattle.lert_levels.proofs.merger.merge_rows.Given as given
use Rattle.lert_levels.proofs.merger.merge_rows.Goals as goal

abbrev bays : (g : given.Over) → Bays g.row.B.Denot
bays g = seen_by g.B.Faulty g.B.Bay

lawful : (g : given.Over) → IsLawful (bays g)
lawful g = record { as_read = g.met.B.Bay.as_read; since_now = g.met.B.Bay.since_now; only_now = g.met.B.Bay.only_now; since_earlier = g.met.B.Bay.since_earlier }

pub secure_rows-requires : goal.secure_rows-requires
secure_rows-requires g c = record {
  same = c.requires.same ∙ sym c.settings.ensures;
  version = c.requires.version;
  rows = subst (λ (t : Numbers). AreFirst t c.args.rows.now) (sym c.settings.ensures) c.requires.reached.are;
}

pub merge_secure-requires : goal.merge_secure-requires
merge_secure-requires g c = record {
  same = c.secure_rows.ensures.room ∙ c.settings.ensures;
  ahead = c.requires.ahead;
  landings = c.requires.landings;
  enough = c.requires.enough;
  parts = c.requires.parts;
  first = c.requires.first;
  last = c.requires.last;
  version = c.requires.version;
  light = c.requires.light;
  reached = c.requires.reached;
  secure = subst (λ (t : Numbers). (seen : Files) → g.B.Bay.files c.secure_rows.new.bay ≡ Some seen → AreSecure t c.args.version (seen FRAMES) 1 c.args.rows.now) c.settings.ensures
      (λ seen told. c.in_default.ensures.secure seen (sym c.secure_rows.ensures.only_reads.seen ∙ told));
  none_taken = c.requires.none_taken;
}

-- ---- a frame that isn't whole, or a call that failed

pub returns-in-Err : goal.returns-in-Err
returns-in-Err g c =
    let e = c.secure_rows.ensures in
    let s = c.args.zero.now.settings in
    let version = c.args.version in
    let broken : (seen : Files) → g.B.Bay.files c.args.bay.now ≡ Some seen → (at : ℕ) → c.secure_rows.result ≡ Err (Malformed at) → OneBreaks s version c.args.rows.now (seen FRAMES) at =
    λ seen told at is. subst (λ (t : Numbers). OneBreaks t version c.args.rows.now (seen FRAMES) at) c.settings.ensures (e.malformed seen told at is) in
    record {
      room = e.room ∙ c.settings.ensures;
      ahead = refl;
      landings = c.requires.landings;
      count = refl;
      parts = le_refl _;
      made = tt;
      malformed = λ seen told at is. broken seen told at (c.in-Err.is ∙ is);
      malformed_after = λ later told at is. broken later (sym e.only_reads.seen ∙ told) at (c.in-Err.is ∙ is);
      rest = read_rest (bays g) (AreApart s version c.args.m c.args.rows.now) c.args.bay.now c.secure_rows.new.bay _ e.only_reads;
      kept = subst (λ (r : Result (Unit {0}) FlushFault). KeepsBay (bays g) c.args.bay.now c.secure_rows.new.bay (IsErrOf r Failed)) c.in-Err.is e.only_reads.kept;
    }

-- ---- the merge

pub returns : goal.returns
returns g c =
    let read = c.secure_rows.ensures.only_reads in
    let e = c.merge_secure.ensures in
    let s = c.args.zero.now.settings in
    let version = c.args.version in
    let kept = AreApart s version c.args.m c.args.rows.now in
    record {
      room = e.room;
      ahead = e.ahead;
      landings = e.landings;
      count = e.count;
      parts = e.parts;
      made = subst (λ (files : Option Files). OnOk c.merge_secure.result.1 (HasMade s version c.args.m c.args.zero.now.bins c.args.rows.now
          (g.O.Totals.took c.merge_secure.new.totals) files (g.B.Bay.files c.merge_secure.new.bay))) read.seen e.made;
      malformed = λ seen told at is. e.malformed seen (read.seen ∙ told) at is;
      malformed_after = e.malformed_after;
      rest = rest_on (bays g) (lawful g) kept c.args.bay.now c.secure_rows.new.bay c.merge_secure.new.bay _ _ read.kept e.kept
          (read_rest (bays g) kept c.args.bay.now c.secure_rows.new.bay _ read) e.rest;
      kept = keeps_on (bays g) (lawful g) c.args.bay.now c.secure_rows.new.bay c.merge_secure.new.bay _ _ read.kept e.kept;
    }
