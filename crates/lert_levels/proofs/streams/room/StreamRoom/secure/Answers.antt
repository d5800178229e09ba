use Rattle.std.proofs.Common.{ℕ, ◌≡◌, ◌∙◌, ◌≤◌, List, sym, subst, arith, inr}
use Rattle.lert_bay.specs.declared.bay.TheConstants.{FRAMES}
use Rattle.lert_frames.specs.Frame.{frame_left}
use Rattle.lert_spec.{specs.declared.numbers.Numbers.Numbers, specs.Edges.span}
use Rattle.std.proofs.lemmas.Result.{err_from_is_err_and}
use Rattle.lert_bay.{specs.Kept.{Bays, seen_by}, proofs.KeptLaws.{IsLawful, reads_as}}
use Rattle.lert_frames.proofs.{FaultLaws.not_err, WriteLaws.same_err}
use Rattle.lert_levels.proofs.streams.TableLaws.{reader_here, readers_with}
use Rattle.lert_levels.proofs.streams.room.StreamRoom.secure.Given as given
use Rattle.lert_levels.proofs.streams.room.StreamRoom.secure.Goals as goal

abbrev bays : (g : given.Over) → Bays g.row.B.Denot
bays g = seen_by g.B.Faulty g.B.Bay

lawful : (g : given.Over) → IsLawful (bays g)
lawful g = record { as_read = g.met.B.Bay.as_read; since_now = g.met.B.Bay.since_now; only_now = g.met.B.Bay.only_now; since_earlier = g.met.B.Bay.since_earlier }

pub index_mut-reader-requires : goal.index_mut-reader-requires
index_mut-reader-requires g c = omega (arith, c.self.invariant.readers_are.some, c.self.inside.readers.ok.0)

-- the reader's settings are those of the memory
pub start_at-requires : goal.start_at-requires
start_at-requires g c =
    let readers = c.self.invariant.readers_are in
    let same = sym (reader_here c.self.inside.settings c.self.inside.readers.items 0 c.index_mut-reader.result.now readers.of_settings readers.some
    c.index_mut-reader.ensures.value ∙ c.self.view_is) in
    record {
      version = c.requires.version;
      first = c.requires.first;
      last = subst (λ (s : Numbers). c.args.level ≤ s.levels) same c.requires.last;
      frame = subst (λ (s : Numbers). c.args.frame ≤ s.bins) same c.requires.frame;
      some = c.requires.some;
      width = subst (λ (s : Numbers). c.args.width ≤ span s c.args.level) same c.requires.width;
    }

pub check-requires : goal.check-requires
check-requires g c =
    let readers = c.self.invariant.readers_are in
    let same = sym (c.start_at.ensures.settings ∙ reader_here c.self.inside.settings c.self.inside.readers.items 0 c.index_mut-reader.result.now readers.of_settings readers.some
    c.index_mut-reader.ensures.value ∙ c.self.view_is) in
    record {
      version = c.requires.version;
      frame = subst (λ (s : Numbers). c.args.frame ≤ s.bins) same c.requires.frame;
      some = c.requires.some;
      width = subst (λ (level : ℕ). c.args.width ≤ span c.start_at.new.self.settings level) (sym c.start_at.ensures.level)
          (subst (λ (s : Numbers). c.args.width ≤ span s c.args.level) same c.requires.width);
    }

pub invariant_of-self : goal.invariant_of-self
invariant_of-self g c =
    let readers = c.self.invariant.readers_are in
    let same = c.check.ensures.settings ∙ c.start_at.ensures.settings ∙ reader_here c.self.inside.settings c.self.inside.readers.items 0 c.index_mut-reader.result.now
    readers.of_settings readers.some c.index_mut-reader.ensures.value in
    record {
      none = c.self.invariant.none;
      few = c.self.invariant.few;
      room = c.self.invariant.room;
      readers_are = readers_with c.self.inside.settings c.self.inside.readers.items 0 c.check.new.self readers same;
    }

pub returns : goal.returns
returns g c =
    let readers = c.self.invariant.readers_are in
    let same = c.start_at.ensures.settings ∙ reader_here c.self.inside.settings c.self.inside.readers.items 0 c.index_mut-reader.result.now readers.of_settings readers.some
    c.index_mut-reader.ensures.value ∙ c.self.view_is in
    let left : (file : List ℕ) → frame_left c.start_at.new.self.settings c.args.version c.start_at.new.self.level c.args.frame c.args.width file
    ≡ frame_left c.args.self.now c.args.version c.args.level c.args.frame c.args.width file =
    λ file i. frame_left (same i) c.args.version (c.start_at.ensures.level i) c.args.frame c.args.width file in
    let e = c.in_ok-check.ensures in
    record {
      secured = λ seen told long. inr (sym (left (seen FRAMES)) ∙ e.whole seen told);
      malformed = λ seen told at is. absurd (not_err _ _ is);
      settings = c.self.view_is;
      only_reads = reads_as (bays g) (lawful g) c.args.bay.now c.check.new.bay _ _ (λ failed. absurd (not_err _ _ failed)) e.only_reads;
    }

pub returns-in_err-check : goal.returns-in_err-check
returns-in_err-check g c =
    let p = err_from_is_err_and c.from_residual.result c.from_residual.ensures.1 in
    let readers = c.self.invariant.readers_are in
    let same = c.start_at.ensures.settings ∙ reader_here c.self.inside.settings c.self.inside.readers.items 0 c.index_mut-reader.result.now readers.of_settings readers.some
    c.index_mut-reader.ensures.value ∙ c.self.view_is in
    let left : (file : List ℕ) → frame_left c.start_at.new.self.settings c.args.version c.start_at.new.self.level c.args.frame c.args.width file
    ≡ frame_left c.args.self.now c.args.version c.args.level c.args.frame c.args.width file =
    λ file i. frame_left (same i) c.args.version (c.start_at.ensures.level i) c.args.frame c.args.width file in
    let e = c.in_err-check.ensures in
    rw (p.1, p.2) (record {
      secured = λ seen told long. tt;
      malformed = λ seen told at is. sym (left (seen FRAMES)) ∙ e.malformed seen told at (same_err _ _ is);
      settings = c.self.view_is;
      only_reads = reads_as (bays g) (lawful g) c.args.bay.now c.check.new.bay _ _ (λ failed. same_err _ _ failed) e.only_reads;
    })
