use Rattle.lert_spec.specs.Counts.{weighed}
use Rattle.lert_spec.specs.declared.item.Item.{Item}
use Rattle.std.proofs.Common.{◌≡◌, ◌∙◌, false, All, List, [], replicate, length, ap, sym, subst, arith}
use Rattle.lert_levels.specs.{declared.rows.bin_at.BinAt.BinAt, OnDisk.OnDisk, rows.Rows.{IsAt, AreRows, HoldsBins}}
use Rattle.lert_levels.proofs.{LaterLaws.HoldsBins-none, rows.MoveLaws.AreRows-none}
use Rattle.lert_reports.specs.Stored.{Stored}
use Rattle.lert_spec.specs.{Items.AreOfVersion, declared.report.Report.Report, Limits.IsValid, Mix.cone_of}
use Rattle.lert_spec.proofs.{LookLaws.HaveKeys, TailLaws.IsPartOf}
use Rattle.lert_cone.specs.Listing.{Listing, reports_of}
use Rattle.lert_cone.proofs.{RecountLaws.counted_from_none, TallyLaws.rows_none}
use Rattle.lert_cone.proofs.tally.Tally.new.Goals as goal

pub adopted-requires-clause-are : goal.adopted-requires-clause-are
adopted-requires-clause-are g c =
    subst (λ (rows : List (List BinAt)). AreRows c.args.settings.now rows) (sym (ap (λ (v : OnDisk). v.rows) c.requires.levels)) (AreRows-none c.args.settings.now)

pub adopted-requires-clause-keys : goal.adopted-requires-clause-keys
adopted-requires-clause-keys g c = subst (HaveKeys c.args.settings.now weighed) (sym c.requires.unread) tt

pub adopted-requires-clause-keys_own : goal.adopted-requires-clause-keys_own
adopted-requires-clause-keys_own g c = subst (IsPartOf weighed c.args.settings.now c.args.cone) (sym c.requires.unread) tt

pub adopted-requires-clause-light : goal.adopted-requires-clause-light
adopted-requires-clause-light g c = subst (AreOfVersion c.args.version) (sym c.requires.unread) (λ k d below. absurd (omega (arith, below)))

pub adopted-requires-clause-version : goal.adopted-requires-clause-version
adopted-requires-clause-version g c = ap (λ (v : OnDisk). v.version) c.requires.levels

pub adopted-requires-clause-within : goal.adopted-requires-clause-within
adopted-requires-clause-within g c = omega (arith, ap (length {A = Item}) c.requires.unread)

pub returns-clause-listing : goal.returns-clause-listing
returns-clause-listing g c =
    c.adopted.ensures.listing ∙ ap (λ (keys : List Item). record { settings = c.args.settings.now; version = c.args.version; cone = c.args.cone; events = keys; closed = false }) c.requires.unread

pub returns-clause-counted : goal.returns-clause-counted
returns-clause-counted g c =
    let at = subst (λ (rows : List (List BinAt)). IsAt c.args.settings.now 0 rows) (sym (ap (λ (v : OnDisk). v.rows) c.requires.levels)) (rows_none c.args.settings.now
    (subst IsValid c.numbers-valid.ensures.value c.numbers-valid.ensures.valid)) in
    counted_from_none c.adopted.result (c.adopted.ensures.recounted 0 (omega arith) at (omega (arith, ap (length {A = Item}) c.requires.unread)))

pub adopted-requires-clause-levels : goal.adopted-requires-clause-levels
adopted-requires-clause-levels g c = ap (λ (v : OnDisk). v.settings) c.requires.levels

pub adopted-requires-clause-store : goal.adopted-requires-clause-store
adopted-requires-clause-store g c = ap (λ (v : Stored). v.settings) c.requires.store

pub adopted-requires-clause-own : goal.adopted-requires-clause-own
adopted-requires-clause-own g c =
    subst (λ (reports : List Report). All (λ report. cone_of c.args.settings.now report.key ≡ c.args.cone) reports)
    (sym (ap (λ (v : Stored). v.reports) c.requires.store)) (λ k d below. absurd (omega (arith, below)))

pub returns-clause-rows : goal.returns-clause-rows
returns-clause-rows g c = c.adopted.ensures.rows ∙ ap (λ (v : OnDisk). v.rows) c.requires.levels

pub returns-clause-none : goal.returns-clause-none
returns-clause-none g c = c.adopted.ensures.reports ∙ ap (λ (v : Stored). v.reports) c.requires.store

pub returns-clause-held : goal.returns-clause-held
returns-clause-held g c seen =
    let is = returns-clause-listing g c in
    let rows_are : c.adopted.result.rows ≡ replicate c.adopted.result.listing.settings.levels [] =
    returns-clause-rows g c ∙ ap (λ (l : Listing). replicate l.settings.levels []) (sym is) in
    record {
      frames = subst
          (λ (rows : List (List BinAt)). HoldsBins c.adopted.result.listing.settings c.adopted.result.listing.version c.adopted.result.listing.events rows (seen 2))
          (sym rows_are) (HoldsBins-none c.adopted.result.listing.settings c.adopted.result.listing.version c.adopted.result.listing.events (seen 2));
      reports = returns-clause-none g c ∙ ap (λ (l : Listing). reports_of l) (sym is);
    }
