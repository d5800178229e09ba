use Rattle.std.proofs.{Common.{ℕ, ◌≡◌, ◌∙◌, List, Some, None, take, ap, sym, subst, arith}, lemmas.Option.none-some, lemmas.List.take_all, lemmas.Result.err_from_is_err_and}
use Rattle.std.specs.Prelude.{Err}
use Rattle.lert_bay.specs.{declared.bay.TheConstants.FRAMES, Files.IfTold, Kept.{Bays, seen_by}}
use Rattle.lert_bay.proofs.KeptLaws.{IsLawful, reads_as}
use Rattle.lert_base.specs.declared.pieces.PieceFault.TheVariants.{Malformed}
use Rattle.lert_frames.proofs.FaultLaws.{not_err}
use Rattle.lert_spec.specs.{declared.numbers.Numbers.Numbers, Limits.IsValid}
use Rattle.lert_levels.specs.{declared.rows.bin_at.BinAt.BinAt, rows.Checked.{IsWeightOf, EachStands, rows_left, rows_total, rows_width}, rows.Loading.AllStand, OnDisk.OnDisk}
use Rattle.lert_levels.specs.{rows.Rows.{AreFirst, AreRows, tallied_in}}
use Rattle.lert_levels.proofs.{rows.CheckLaws.{all_whole, check_refuses, check_passes}, rows.HeldLaws.all_stand, rows.SumLaws.{rows_width-edge, rows_total-weighs}, HoldLaws.edges_stand}
use Rattle.lert_levels.proofs.{rows.ReadLaws.{failed_there, malformed_there}, LevelLaws.read_on}
use Rattle.lert_levels.proofs.rows.RowLaws.{all_rows}
use Rattle.lert_levels.proofs.levels.Levels.check.Given as given
use Rattle.lert_levels.proofs.levels.Levels.check.Goals.{After-check_rows}
use Rattle.lert_levels.proofs.levels.Levels.check.Goals as goal

abbrev bays : (g : given.Over) → Bays g.row.B.Denot
bays g = seen_by g.B.Faulty g.B.Bay

lawful : (g : given.Over) → IsLawful (bays g)
lawful g = record { as_read = g.met.B.Bay.as_read; since_now = g.met.B.Bay.since_now; only_now = g.met.B.Bay.only_now; since_earlier = g.met.B.Bay.since_earlier }

-- what the check said of the rows as they were lent it says of these
said : (g : given.Over) (c : After-check_rows g) (P : Numbers → ℕ → List (List BinAt) → Type 0) → P c.self.inside.settings c.self.inside.version c.deref.result.now →
    P c.args.self.now.settings c.args.self.now.version c.args.self.now.rows
said g c P is = subst (λ (v : OnDisk). P v.settings v.version v.rows) c.self.view_is (subst (P c.self.inside.settings c.self.inside.version) c.deref.ensures.value is)

valid : (g : given.Over) (c : After-check_rows g) → IsValid c.args.self.now.settings
valid g c = said g c (λ s _ _. IsValid s) (subst IsValid c.numbers-valid.ensures.value c.numbers-valid.ensures.valid)

pub check_rows-requires : goal.check_rows-requires
check_rows-requires g c = record {
  version = c.self.invariant.0.of_version;
  rows = subst (AreFirst c.self.inside.settings) (sym c.deref.ensures.value) (all_rows c.self.inside.settings c.self.inside.rows.items c.self.invariant.0.are);
  reader = c.self.invariant.0.read_by;
}

-- ---- each frame stands

pub returns : goal.returns
returns g c =
    let at = (goal.at.returns g c).After-check_rows in
    let s = c.args.self.now.settings in
    let version = c.args.self.now.version in
    let e = c.in_ok-check_rows.ensures in
    let stand : IfTold (g.B.Bay.files c.args.bay.now) (λ seen. EachStands s version (seen FRAMES) c.args.self.now.rows) = λ seen told.
    said g at (λ s v rows. EachStands s v (seen FRAMES) rows) (e.stand seen told) in
    let whole : IfTold (g.B.Bay.files c.args.bay.now) (λ seen. rows_left s version (seen FRAMES) c.args.self.now.rows ≡ None) = λ seen told.
    said g at (λ s v rows. rows_left s v (seen FRAMES) rows ≡ None) (e.whole seen told) in
    let limits = (valid g at).limits in
    let rows = c.args.self.now.rows in
    let counted = c.in_ok-check_rows.field-0 in
    let are : AreRows s rows = subst (λ (v : OnDisk). AreRows v.settings v.rows) c.self.view_is c.self.invariant.0.are in
    let all : take s.levels rows ≡ rows = take_all s.levels rows (omega (arith, are.levels)) in
    let sum : IfTold (g.B.Bay.files c.args.bay.now) (λ seen. counted ≡ rows_total s version (seen FRAMES) 1 rows) = λ seen told.
    said g at (λ s v rows. counted ≡ rows_total s v (seen FRAMES) 1 rows) (e.sum seen told) in
    record {
      same = c.self.view_is;
      between = λ n fits is.
          subst (λ width. IsWeightOf version width counted) (rows_width-edge s (valid g at) n fits rows is) (said g at (λ _ v rows. IsWeightOf v (rows_width rows) counted) e.between);
      sum = sum;
      weighs = λ seen told n events fits is long of holds.
          sum seen told
          ∙ rows_total-weighs s (valid g at) n fits rows is version events (seen FRAMES) are
          (subst (AllStand s version (seen FRAMES) (tallied_in s events)) all (edges_stand s (valid g at) version events n rows (seen FRAMES) is are long of holds s.levels (omega arith)));
      stand = stand;
      held = λ seen told n is. all_stand s version (omega (arith, limits.base_from)) (omega (arith, limits.ratio_from)) n c.args.self.now.rows is (seen FRAMES) (stand seen told);
      whole = whole;
      malformed = λ seen told at is. absurd (not_err _ _ is);
      refuses = λ seen told at left. absurd (none-some at (sym (whole seen told) ∙ left));
      sound = λ seen told held stand. tt;
      only_reads = reads_as (bays g) (lawful g) c.args.bay.now c.check_rows.new.bay _ _ (λ is. absurd (not_err _ _ is)) e.only_reads;
    }

-- ---- one doesn't, or a call failed

pub returns-in_err-check_rows : goal.returns-in_err-check_rows
returns-in_err-check_rows g c =
    let at = (goal.at.returns-in_err-check_rows g c).After-check_rows in
    let s = c.args.self.now.settings in
    let version = c.args.self.now.version in
    let rows = c.args.self.now.rows in
    let r = c.from_residual in
    let fault = c.in_err-check_rows.field-0.0 in
    let e = c.in_err-check_rows.ensures in
    let broken : IfTold (g.B.Bay.files c.args.bay.now) (λ seen. (at : ℕ) → fault ≡ Malformed at → rows_left s version (seen FRAMES) rows ≡ Some at) = λ seen told spot same.
    said g at (λ s v rows. rows_left s v (seen FRAMES) rows ≡ Some spot) (e.malformed seen told spot (ap Err same)) in
    let are : AreRows s rows = subst (λ (v : OnDisk). AreRows v.settings v.rows) c.self.view_is c.self.invariant.0.are in
    let p = err_from_is_err_and r.result r.ensures.1 in
    record {
      same = c.self.view_is;
      between = λ n fits is. rw p.1 tt;
      sum = λ seen told. rw p.1 tt;
      weighs = λ seen told n events fits is long of holds. rw p.1 tt;
      stand = λ seen told. rw p.1 tt;
      held = λ seen told n at. rw p.1 tt;
      whole = λ seen told. rw p.1 tt;
      malformed = λ seen told spot is. broken seen told spot (malformed_there r.result fault spot r.ensures.1 is);
      refuses = λ seen told spot left. check_refuses r.result fault (rows_left s version (seen FRAMES) rows) spot left r.ensures.1 (broken seen told);
      sound = λ seen told held stand.
          check_passes r.result fault (rows_left s version (seen FRAMES) rows) (all_whole s version rows (seen FRAMES) held (valid g at) are stand) r.ensures.1 (broken seen told);
      only_reads = reads_as (bays g) (lawful g) c.args.bay.now c.check_rows.new.bay _ _ (λ is. ap Err (failed_there r.result fault r.ensures.1 is)) e.only_reads;
    }

-- ---- what stays

pub invariant_of-self : goal.invariant_of-self
invariant_of-self g c = (read_on c.self.invariant.0 c.check_rows.ensures.reader, c.self.invariant.1, c.self.invariant.2)

pub invariant_of-self-2 : goal.invariant_of-self-2
invariant_of-self-2 g c = (read_on c.self.invariant.0 c.check_rows.ensures.reader, c.self.invariant.1, c.self.invariant.2)
