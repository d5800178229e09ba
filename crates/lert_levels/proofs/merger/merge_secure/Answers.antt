use Rattle.std.proofs.{Common.{ℕ, ◌≡◌, ◌+◌, ◌*◌, ◌<◌, ◌≤◌, ◌∙◌, List, [], vec_capacity, take, length, get_or, refl, sym, subst, arith, Option, Some}, lemmas.List.length-take-le}
use Rattle.lert_bay.specs.{declared.bay.TheConstants.FRAMES, Files.Files, Kept.{Bays, seen_by}}
use Rattle.lert_bay.proofs.KeptLaws.{IsLawful}
use Rattle.lert_frames.specs.Frame.{HoldsFrame}
use Rattle.lert_levels.specs.{landing.Summed.sums_of, flush.Merged.{AreParts, picked}, landing.Landings.{AreOfLevels, IsOutside}, rows.Landing.{LeavesRest, AreApart}}
use Rattle.lert_levels.specs.{declared.rows.fault.FlushFault.TheVariants.Malformed, rows.Loading.OneBreaks, rows.Rows.AreFirst, Merged.widths_of, Parts.{parts_at, HaveParts}, Ready.HasMade}
use Rattle.lert_levels.specs.{streams.Bin.{version_of, wide_of}, Sources.sources}
use Rattle.lert_merge.specs.order.Members.{limit_at}
use Rattle.lert_spec.specs.{Edges.{span, capacity}, Limits.IsValid, Table.costs, declared.numbers.Numbers.Numbers}
use Rattle.std.specs.Prelude.{IsErrOf, sum}
use Rattle.lert_frames.proofs.WriteLaws.{turns_back}
use Rattle.lert_levels.proofs.{rows.LandLaws.rest_fewer, LandedLaws.{on_ok, laid, begun_number, widths_number, begun_wide, made_of, parts_are, part_fits, apart_landings, reads_apart, has_made}}
use Rattle.lert_levels.proofs.{PlacedLaws.{begun_breaks, begun_sure, breaks_stay}, ReadyLaws.{first_landings, levels_same, same_count, rest_landings, rest_count}}
use Rattle.lert_levels.proofs.rows.LoadLaws.{narrow_more}
use Rattle.lert_levels.proofs.SourceLaws.{begun_given, begun_limit, begun_version, widths_small}
use Rattle.lert_levels.proofs.merger.merge_secure.Given as given
use Rattle.lert_levels.proofs.merger.merge_secure.Goals as goal

abbrev bays : (g : given.Over) → Bays g.row.B.Denot
bays g = seen_by g.B.Faulty g.B.Bay

lawful : (g : given.Over) → IsLawful (bays g)
lawful g = record { as_read = g.met.B.Bay.as_read; since_now = g.met.B.Bay.since_now; only_now = g.met.B.Bay.only_now; since_earlier = g.met.B.Bay.since_earlier }

-- ---- what the calls ask for

pub start_landings-requires : goal.start_landings-requires
start_landings-requires g c =
    let back = sym c.settings-settings.ensures in
    record {
      version = c.requires.version;
      first = c.requires.first;
      last = subst (λ (t : Numbers). c.args.m ≤ capacity t) back c.requires.last;
      rows = subst (λ (t : Numbers). AreFirst t c.args.rows.now) back c.requires.reached.are;
      landings = subst (λ (t : Numbers). AreOfLevels t c.args.landings.now) back c.requires.landings;
      enough = c.requires.enough;
    }

pub lay_parts-requires : goal.lay_parts-requires
lay_parts-requires g c =
    let back = sym c.settings-settings.ensures in
    record {
      first = c.requires.first;
      last = subst (λ (t : Numbers). c.args.m ≤ capacity t) back c.requires.last;
      some = omega (arith, c.len.ensures.count, c.requires.reached.some);
      few_young = subst (λ (t : Numbers). c.len.result ≤ t.bins) back c.len.ensures.few;
      rows = subst (λ (t : Numbers). AreFirst t c.args.rows.now) back c.requires.reached.are;
      parts = subst (λ (t : Numbers). HaveParts t c.args.m c.args.rows.now) back c.requires.reached.parts;
      room = subst (λ (t : Numbers). (t.levels + 1) * t.bins ≤ vec_capacity c.args.parts.now) back c.requires.parts;
    }

pub begin_order-order-requires : goal.begin_order-order-requires
begin_order-order-requires g c = record {
  same = c.requires.same;
  ahead = c.requires.ahead;
  rows = c.requires.reached.are;
  version = c.requires.version;
}

pub slice_bounds-first-end : goal.slice_bounds-first-end
slice_bounds-first-end g c = subst (λ n. length c.args.rows.now ≤ n) (sym c.start_landings.ensures.len) c.requires.enough

pub slice_bounds-first-end-2 : goal.slice_bounds-first-end-2
slice_bounds-first-end-2 g c = sym (length-take-le _ c.start_landings.new.landings (omega (arith, c.start_landings.ensures.len, c.requires.enough)))

-- ---- what the merge is given

pub land_bins-landed-requires : goal.land_bins-landed-requires
land_bins-landed-requires g c =
    let s = c.args.zero.now.settings in
    let version = c.args.version in
    let m = c.args.m in
    let young = c.args.zero.now.bins in
    let rows = c.args.rows.now in
    let bins = c.begin_order-order.result.streams.bins in
    let begun = c.begin_order-order.ensures.begun young refl (λ k d below. (c.requires.light k d below).0) in
    let settings = c.settings-settings.ensures in
    let reached = c.requires.reached in
    let valid : IsValid s = subst IsValid (c.numbers-valid.ensures.value ∙ settings) c.numbers-valid.ensures.valid in
    let parts = c.lay_parts.new.parts.items in
    let all = c.start_landings.new.landings in
    let n = length c.args.rows.now in
    let landings = take n all in
    let laid = laid s c.settings-settings.result.now version m c.len.result young rows parts all settings c.len.ensures.count
    (omega (arith, c.start_landings.ensures.len, c.requires.enough)) c.lay_parts.ensures.parts c.start_landings.ensures.landings c.start_landings.ensures.started in
    record {
      unread = record {
        given = λ k below. begun_given s version (sources young rows) bins k begun;
        counts = c.begin_order-order.ensures.counts;
        last = c.begin_order-order.ensures.last;
      };
      parts = subst (λ ps. AreParts ps (length bins) (length landings)) (sym c.deref.ensures.value)
          (parts_are s version m young rows reached parts landings laid (length bins) (begun_number s version young rows bins begun));
      room = record {
        settings = s;
        number = version;
        of_streams = λ k below. subst (λ v. limit_at (version_of v) bins k ≡ version) (sym c.begin_order-order.ensures.version)
            (begun_version s version (sources young rows) bins k begun below);
        landings_are = laid.are;
        limits = λ k below. omega (arith, begun_limit s version (sources young rows) bins k begun below);
        widths = widths_of young rows;
        wide = record {
          len = widths_number young rows ∙ sym (begun_number s version young rows bins begun);
          each = λ k below. subst (λ v. limit_at (wide_of v) bins k ≤ get_or (widths_of young rows) k 0) (sym c.begin_order-order.ensures.version)
              (begun_wide s version young rows bins k begun);
          all = widths_small s valid young rows (omega (arith, c.len.ensures.few, c.len.ensures.count)) reached.are (narrow_more s young reached.narrow);
        };
        fits = λ part below. subst (λ (ps : List (Option ℕ)). sum (picked ps part (widths_of young rows)) ≤ span s (part + 1)) (sym c.deref.ensures.value)
            (part_fits s version m young rows reached parts landings laid part below);
        empty = λ part d below. laid.started.empty part d (omega (arith, below, laid.count));
      };
      apart = reads_apart s version m young rows reached parts landings laid bins begun;
      sure = λ seen told. begun_sure s version (seen FRAMES) young rows bins begun (c.requires.secure seen told);
      totals = c.requires.none_taken;
      landing = λ seen told k d below. laid.started.landing k d (omega (arith, below, laid.count)) (seen FRAMES);
    }

-- ---- what it leaves

pub returns : goal.returns
returns g c =
    let s = c.args.zero.now.settings in
    let version = c.args.version in
    let m = c.args.m in
    let young = c.args.zero.now.bins in
    let rows = c.args.rows.now in
    let bins = c.begin_order-order.result.streams.bins in
    let begun = c.begin_order-order.ensures.begun young refl (λ k d below. (c.requires.light k d below).0) in
    let settings = c.settings-settings.ensures in
    let reached = c.requires.reached in
    let valid : IsValid s = subst IsValid (c.numbers-valid.ensures.value ∙ settings) c.numbers-valid.ensures.valid in
    let parts = c.lay_parts.new.parts.items in
    let all = c.start_landings.new.landings in
    let n = length c.args.rows.now in
    let landings = take n all in
    let laid = laid s c.settings-settings.result.now version m c.len.result young rows parts all settings c.len.ensures.count
    (omega (arith, c.start_landings.ensures.len, c.requires.enough)) c.lay_parts.ensures.parts c.start_landings.ensures.landings c.start_landings.ensures.started in
    let new = c.land_bins-landed.new.landings in
    let same = same_count landings new c.land_bins-landed.ensures.homes in
    let took = g.O.Totals.took c.land_bins-landed.new.totals in
    let before = g.B.Bay.files c.args.bay.now in
    let after = g.B.Bay.files c.land_bins-landed.new.bay in
    let malformed : (seen : Files) → before ≡ Some seen → (at : ℕ) → IsErrOf c.land_bins-landed.result (Malformed at) → OneBreaks s version rows (seen FRAMES) at = λ seen told at is.
    let breaks = c.land_bins-landed.ensures.malformed at is in
    begun_breaks s version young rows bins breaks.stream at before seen told begun breaks.at_it in
    record {
      room = c.end_order.ensures.room ∙ c.land_bins-landed.ensures.streams.settings ∙ c.begin_order-order.ensures.settings;
      ahead = c.end_order.ensures.ahead ∙ c.land_bins-landed.ensures.ahead ∙ c.begin_order-order.ensures.room;
      landings = rest_landings s n new all (omega (arith, same, laid.count)) (levels_same landings new c.land_bins-landed.ensures.homes s
          (first_landings s n all (subst (λ (t : Numbers). AreOfLevels t all) settings c.start_landings.ensures.landings)))
          (subst (λ (t : Numbers). AreOfLevels t all) settings c.start_landings.ensures.landings);
      count = rest_count n new all (omega (arith, same, laid.count)) (omega (arith, c.start_landings.ensures.len, c.requires.enough)) ∙ c.start_landings.ensures.len;
      parts = c.lay_parts.ensures.room;
      made = on_ok c.land_bins-landed.result _ (HasMade s version m young rows took before after)
          (λ landed. has_made s version m young rows reached parts landings laid took before after landed.lists
          (landed.all.len ∙ begun_number s version young rows bins begun)
          (made_of s version valid young rows reached.are bins begun took before landed.lists landed.all.len landed.all.given
          (subst (λ v. (k : ℕ) → k < length bins → costs (limit_at (version_of v) bins k) (get_or landed.lists k []) ≤ limit_at (wide_of v) bins k) c.begin_order-order.ensures.version landed.all.fits)
          landed.all.totals_are
          (λ all len told. landed.all.told all (record { len = len; told = told }))
          (λ files k below. (landed.all.whole files).told k below) (parts_at s m (length young) rows))
          (λ seen told k d below. subst (λ (ps : List (Option ℕ)). HoldsFrame s version (k + 1) (get_or landings k d).frame (seen FRAMES) (sums_of (picked ps k landed.lists)))
          c.deref.ensures.value (landed.stand s version laid.are seen told k d below)))
          c.land_bins-landed.ensures.landed;
      malformed = malformed;
      malformed_after = λ later told at is.
          let back = turns_back (LeavesRest (IsOutside landings)) before after later c.land_bins-landed.ensures.rest.seen told in
          breaks_stay s version rows back.0 later at (c.requires.secure back.0 back.1) (IsOutside landings)
          (λ from to inside. apart_landings s version m young rows reached parts landings laid from to (reached.apart from to inside)) reached.are.few
          back.2 (malformed back.0 back.1 at is);
      rest = rest_fewer (bays g) (IsOutside landings) (AreApart s version m rows) c.args.bay.now c.land_bins-landed.new.bay
          (apart_landings s version m young rows reached parts landings laid) c.land_bins-landed.ensures.rest;
      kept = c.land_bins-landed.ensures.kept;
    }
