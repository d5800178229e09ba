use Rattle.std.proofs.{Common.{ℕ, ◌≡◌, ◌+◌, ◌*◌, ◌≤◌, ◌∙◌, List, None, [], take, length, ap, sym, subst, arith, refl}, lemmas.List.take_all}
use Rattle.lert_bay.specs.{Files.IfTold, declared.bay.TheConstants.FRAMES}
use Rattle.std.specs.Prelude.{OnOk, IsErrOf}
use Rattle.lert_frames.specs.Place.{tail_limit}
use Rattle.lert_spec.specs.{Table.IsTable, declared.piece.Piece.Piece, declared.numbers.Numbers.Numbers, Bins.tally, Counts.weighed, Limits.IsValid}
use Rattle.lert_levels.specs.{declared.rows.bin_at.BinAt.BinAt, rows.Checked.rows_left, rows.Loading.{AllStand, OneBreaks}, rows.Rows.{AreFirst, AreRows, tallied_in}, Merged.{IsMade, IsFrames}}
use Rattle.lert_levels.specs.{OnDisk.OnDisk, declared.rows.fault.FlushFault.TheVariants.Malformed}
use Rattle.lert_levels.specs.rows.Young.{loosened}
use Rattle.lert_levels.proofs.{FlushLaws.{scan_took, scan_taken}, HoldLaws.rows_stand, LandedLaws.on_ok, rows.RowLaws.all_rows, ReachLaws.{held, turned, no_break, sound_by, matched_by, at_ok}}
use Rattle.lert_levels.proofs.levels.Levels.scan.Goals as goal

pub count_rows-reading-requires : goal.count_rows-reading-requires
count_rows-reading-requires g c =
    let same : c.self.inside.settings ≡ c.args.zero.now.settings = ap (λ (v : OnDisk). v.settings) c.self.view_is ∙ sym c.requires.same in
    let reading = held _ c.self.inside.reading c.take.result c.in-Some.reading c.self.invariant.1 c.take.ensures.value c.in-Some.is in
    record {
      same = reading.0 ∙ same;
      version = c.self.invariant.0.of_version;
      ahead = subst (λ (t : Numbers). (t.levels + 1) * t.bins ≤ c.in-Some.reading.ahead.room) same reading.1;
      rows = subst (λ (s : Numbers). AreFirst s c.deref.result.now) same
          (subst (AreFirst c.self.inside.settings) (sym c.deref.ensures.value) (all_rows c.self.inside.settings c.self.inside.rows.items c.self.invariant.0.are));
      none_taken = c.requires.none_taken;
    }

pub invariant_of-self : goal.invariant_of-self
invariant_of-self g c =
    let settings_is : c.args.zero.now.settings ≡ c.self.inside.settings = c.requires.same ∙ sym (ap (λ (v : OnDisk). v.settings) c.self.view_is) in
    let e = c.count_rows-reading.ensures in
    let before = held _ c.self.inside.reading c.take.result c.in-Some.reading c.self.invariant.1 c.take.ensures.value c.in-Some.is in
    (c.self.invariant.0, (e.room ∙ settings_is, omega (arith, e.ahead, before.1)), c.self.invariant.2)

-- ---- behind the merge

pub returns : goal.returns
returns g c =
    let s = c.args.self.now.settings in
    let version = c.args.self.now.version in
    let rows = c.args.self.now.rows in
    let young = c.args.zero.now.bins in
    let wide = loosened young in
    let result = c.count_rows-reading.result.1 in
    let took = g.O.Totals.took c.count_rows-reading.new.totals in
    let before = g.B.Bay.files c.args.bay.now in
    let e = c.count_rows-reading.ensures in
    let valid : IsValid s = subst IsValid (c.numbers-valid.ensures.value ∙ ap (λ (v : OnDisk). v.settings) c.self.view_is) c.numbers-valid.ensures.valid in
    let are : AreRows s rows = subst (λ (v : OnDisk). AreRows v.settings v.rows) c.self.view_is c.self.invariant.0.are in
    let whole : take s.levels rows ≡ rows = take_all s.levels rows (omega (arith, are.levels)) in
    let said : (P : Numbers → ℕ → List (List BinAt) → Type 0) → P c.args.zero.now.settings c.self.inside.version c.deref.result.now → P s version rows =
    λ P is. turned (λ n rs. P n version rs) s c.args.zero.now.settings rows _ c.requires.same (c.deref.ensures.value ∙ ap (λ (v : OnDisk). v.rows) c.self.view_is)
    (subst (λ (v : ℕ). P c.args.zero.now.settings v c.deref.result.now) (ap (λ (v : OnDisk). v.version) c.self.view_is) is) in
    let made : OnOk result (IsMade s version wide (take s.levels rows) [] took (IsFrames before) []) =
    subst (λ (rs : List (List BinAt)). OnOk result (IsMade s version wide rs [] took (IsFrames before) [])) (sym whole)
    (said (λ t v rs. OnOk result (IsMade t v wide rs [] took (IsFrames before) [])) e.made) in
    let malformed : IfTold before (λ seen. (at : ℕ) → IsErrOf result (Malformed at) → OneBreaks s version rows (seen FRAMES) at) =
    λ seen told at is. said (λ t v rs. OneBreaks t v rs (seen FRAMES) at) (e.malformed seen told at is) in
    record {
      same = c.self.view_is;
      told = λ seen told events of.
          (let stand = rows_stand s version events (length events) rows (seen FRAMES) of.at are (omega arith) of.weighed of.held s.levels (omega arith) in
          matched_by (λ _. took (tally weighed s events)) result
          (λ value is. scan_taken s version valid rows young [] took (IsFrames before) [] (at_ok _ result value is made) (seen FRAMES) events
          (record { seen = seen; told = told; is = refl }) are of)
          (λ at is. no_break s version valid rows (seen FRAMES) (tallied_in s events) at (all_rows s rows are) (subst (AllStand s version (seen FRAMES) (tallied_in s events)) whole stand)
          (malformed seen told at is)));
      took = on_ok result _ ((list : List Piece) × took list × IsTable (tail_limit s) list) (λ is. scan_took s version valid rows young [] took (IsFrames before) [] is) made;
      whole = λ seen told.
          on_ok result _ (rows_left s version (seen FRAMES) rows ≡ None) (λ is. said (λ t v rs. rows_left t v (seen FRAMES) rs ≡ None)
          (is.whole (seen FRAMES) (record { seen = seen; told = told; is = refl })))
          e.made;
      sound = λ seen told hold stand. sound_by result (λ at is. no_break s version valid rows (seen FRAMES) hold at (all_rows s rows are) stand (malformed seen told at is));
      malformed = malformed;
      only_reads = e.only_reads;
    }
