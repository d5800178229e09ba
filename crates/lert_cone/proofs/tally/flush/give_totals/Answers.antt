use Rattle.lert_bay.specs.Kept.{Bays, seen_by}
use Rattle.std.proofs.{Common.{◌≡◌, ℕ, ◌+◌, List, [], ◌∷◌, drop, refl, subst, sym, sum_by, ap, ap₂, ◌∙◌, arith}, lemmas.Option.same_Some}
use Rattle.lert_bay.specs.Files.{Files}
use Rattle.lert_cone.proofs.{TallyLaws.{young_total, flush_total, rows_still, dropped_edge, dropped_bins}, NextFlush.{moves_deep, stays_shallow}, Refusals.no_fault}
use Rattle.lert_cone.proofs.TotalLaws.{edge_within}
use Rattle.lert_bay.proofs.{KeptLaws.IsLawful, Lasting.lasts_none}
use Rattle.lert_spec.specs.{declared.numbers.Numbers.Numbers, declared.piece.Piece.Piece, Bins.Bin, Edges.span, Table.count_of}
use Rattle.lert_levels.specs.{Flushed.InNamed, rows.Loading.OneBreaks, OnDisk.OnDisk, rows.Ranges.young_bins, rows.Rows.{IsAt, AreRows, HoldsBins}, rows.Young.Young}
use Rattle.lert_levels.proofs.{rows.LandLaws.rest_none, rows.RowLaws.{IsAt-moved, AreRows-moved}}
use Rattle.lert_levels.proofs.rows.WeightLaws.{version_weigh}
use Rattle.lert_cone.specs.Due.{TookFrom}
use Rattle.lert_cone.proofs.tally.flush.give_totals.Given as given
use Rattle.lert_cone.proofs.tally.flush.give_totals.Goals as goal

abbrev bays : (g : given.Over) → Bays g.row.B.Denot
bays g = seen_by g.B.Faulty g.B.Bay

lawful : (g : given.Over) → IsLawful (bays g)
lawful g = record { as_read = g.met.B.Bay.as_read; since_now = g.met.B.Bay.since_now; only_now = g.met.B.Bay.only_now; since_earlier = g.met.B.Bay.since_earlier }

pub returns-then-not-flushes-clause-gives : goal.returns-then-not-flushes-clause-gives
returns-then-not-flushes-clause-gives g c = record {
  young_settings = refl;
  settings = refl;
  version = refl;
  from = c.requires.from ∙ sym (c.requires.stays c.if-not-flushes.true);
  to = c.requires.to;
  bins = λ events long light bins.
      let s = c.args.levels.now.settings in
      let still = c.requires.stays c.if-not-flushes.true in
      record { is = bins.is ∙ ap (λ p. young_bins c.args.levels.now.settings events p) (c.requires.from ∙ sym still) };
  rows = rows_still c.args.levels.now.settings c.requires.valid c.args.m c.args.levels.now.rows
      (stays_shallow c.args.levels.now.settings c.requires.valid c.args.m (c.requires.stays c.if-not-flushes.true)) c.requires.rows;
  holds = λ events long light bins seen told holds after told_after.
      subst (λ (files : Files). HoldsBins c.args.levels.now.settings c.args.levels.now.version events c.args.levels.now.rows (files 2)) (same_Some seen after (sym told ∙ told_after)) holds;
  totals = λ events long light bins seen told holds.
      let s = c.args.levels.now.settings in
      let is = young_total s c.requires.valid events (version_weigh c.args.levels.now.version events light) c.args.m c.args.tail (sum_by (λ (bin : Bin). count_of bin.pieces c.args.tail)
      c.args.zero.now.bins)
      c.args.zero.now.from c.args.zero.now.bins long c.requires.from
      (stays_shallow c.args.levels.now.settings c.requires.valid c.args.m (c.requires.stays c.if-not-flushes.true)) bins refl in
      subst (λ (pieces : List Piece). TookFrom g.N.Begun.start c.total_of_key.new.due pieces) is
      (c.total_of_key.ensures g.N.Begun.start (let start = rw c.in-Some.is at c.requires.start in start));
  took = (
    record { tail = c.args.tail; count = sum_by (λ (bin : Bin). count_of bin.pieces c.args.tail) c.args.zero.now.bins } ∷ [],
    c.total_of_key.ensures g.N.Begun.start (let start = rw c.in-Some.is at c.requires.start in start),
  );
  sound = λ events long light bins seen told holds at same. no_fault same;
  malformed = λ seen told at same. absurd (no_fault same);
  malformed_after = λ after told at same. absurd (no_fault same);
  images = λ events long light bins seen told holds each after told_after. each;
  are = λ are. are;
  still = λ stays. refl;
  unflushed = λ stays. refl;
  rest = rest_none (bays g) (lawful g) (InNamed c.args.levels.now.settings c.args.levels.now.version c.args.levels.now.rows) c.args.bay.now;
  kept = record {
    time = lasts_none (g.B.Bay.moment c.args.bay.now) (g.B.Bay.left_since c.args.bay.now);
    never_falls = omega arith;
    failed = λ same. absurd (no_fault same);
    mark = refl;
    journal = refl;
  };
}

pub flush_into-taken-requires-clause-flushes : goal.flush_into-taken-requires-clause-flushes
flush_into-taken-requires-clause-flushes g c =
    c.requires.moves c.if-not-flushes.false

pub drop_oldest-requires : goal.drop_oldest-requires
drop_oldest-requires g c =
    let next = dropped_edge c.args.levels.now.settings c.requires.valid c.args.m (moves_deep c.args.levels.now.settings c.requires.valid c.args.m (c.requires.moves c.if-not-flushes.false)) in
    let wide : span c.args.zero.now.settings 0 ≡ span c.args.levels.now.settings 0 = ap (λ (t : Numbers). span t 0) c.requires.settings in
    omega (arith, next, wide, c.requires.from, c.requires.to, edge_within c.args.levels.now.settings 0 c.args.m)

pub returns-in-Ok-clause-gives : goal.returns-in-Ok-clause-gives
returns-in-Ok-clause-gives g c = let did = rw c.in-Ok.is at c.flush_into-taken.ensures in record {
  young_settings = ap (λ (y : Young). y.settings) c.drop_oldest.ensures;
  settings = ap (λ (v : OnDisk). v.settings) did.flushed;
  version = ap (λ (v : OnDisk). v.version) did.flushed;
  from = (let next = dropped_edge c.args.levels.now.settings c.requires.valid c.args.m (moves_deep c.args.levels.now.settings c.requires.valid c.args.m (c.requires.moves c.if-not-flushes.false)) in
      ap (λ (y : Young). y.from) c.drop_oldest.ensures
      ∙ ap₂ (λ (from : ℕ) (t : Numbers). from + span t 0) c.requires.from c.requires.settings
      ∙ sym next);
  to = ap (λ (y : Young). y.to) c.drop_oldest.ensures ∙ c.requires.to;
  bins = λ events long light bins.
      let dropped = dropped_bins c.args.levels.now.settings c.requires.valid events c.args.m long
      (moves_deep c.args.levels.now.settings c.requires.valid c.args.m (c.requires.moves c.if-not-flushes.false)) in
      record {
        is = ap (λ (y : Young). y.bins) c.drop_oldest.ensures
            ∙ ap (drop 1) (bins.is ∙ ap (λ p. young_bins c.args.levels.now.settings events p) c.requires.from)
            ∙ dropped;
      };
  rows = subst (λ (v : OnDisk). IsAt c.args.levels.now.settings c.args.m v.rows) (sym did.flushed)
      (IsAt-moved c.args.levels.now.settings c.requires.valid c.args.m c.requires.first c.requires.last c.args.levels.now.rows c.requires.rows);
  holds = λ events long light bins seen told holds after told_after.
      let held = did.holds events long light bins seen told holds in
      subst (λ (t : Numbers). HoldsBins t c.args.levels.now.version events c.flush_into-taken.new.levels.rows (after 2)) (ap (λ (v : OnDisk). v.settings) did.flushed) (held after told_after);
  totals = λ events long light bins seen told holds.
      let took = did.totals events long light bins seen told holds in
      subst (λ (pieces : List Piece). TookFrom g.N.Begun.start c.flush_into-taken.result.0 pieces)
      (flush_total c.args.levels.now.settings c.requires.valid events c.args.m c.args.tail (moves_deep c.args.levels.now.settings c.requires.valid c.args.m (c.requires.moves c.if-not-flushes.false)))
      took;
  took = did.took;
  sound = λ events long light bins seen told holds at same. no_fault same;
  malformed = λ seen told at same. absurd (no_fault same);
  malformed_after = λ after told at same. absurd (no_fault same);
  images = λ events long light bins seen told holds each after told_after image may.
      let held = did.holds events long light bins seen told holds in
      let durable = did.durable in
      subst (λ (bytes : List ℕ). HoldsBins c.args.levels.now.settings c.args.levels.now.version events c.flush_into-taken.new.levels.rows bytes) (sym (durable after told_after image may))
      (subst (λ (t : Numbers). HoldsBins t c.args.levels.now.version events c.flush_into-taken.new.levels.rows (after 2)) (ap (λ (v : OnDisk). v.settings) did.flushed) (held after told_after));
  are = λ are.
      subst (λ (v : OnDisk). AreRows c.args.levels.now.settings v.rows) (sym did.flushed)
      (AreRows-moved c.args.levels.now.settings c.requires.valid c.args.m c.requires.first c.requires.last c.args.levels.now.rows c.requires.rows are);
  still = λ stays.
      absurd (c.requires.moves c.if-not-flushes.false stays);
  unflushed = λ stays.
      absurd (c.requires.moves c.if-not-flushes.false stays);
  rest = c.flush_into-taken.ensures.rest;
  kept = record {
    time = c.flush_into-taken.ensures.kept.time;
    never_falls = c.flush_into-taken.ensures.kept.never_falls;
    failed = λ same. absurd (no_fault same);
    mark = c.flush_into-taken.ensures.kept.mark;
    journal = c.flush_into-taken.ensures.kept.journal;
  };
}

pub returns-in-Err-clause-gives : goal.returns-in-Err-clause-gives
returns-in-Err-clause-gives g c = let did = rw c.in-Err.is at c.flush_into-taken.ensures in record {
  young_settings = refl;
  settings = ap (λ (v : OnDisk). v.settings) did.refused;
  version = ap (λ (v : OnDisk). v.version) did.refused;
  from = tt;
  to = tt;
  bins = λ events long light bins. tt;
  rows = tt;
  holds = λ events long light bins seen told holds. tt;
  totals = λ events long light bins seen told holds. tt;
  took = tt;
  sound = λ events long light bins seen told holds at same.
      c.flush_into-taken.ensures.sound events long light bins seen told holds at (c.in-Err.is ∙ same);
  malformed = λ seen told at same.
      subst (λ (v : OnDisk). OneBreaks v.settings c.args.levels.now.version v.rows (seen 2) at) (sym did.refused) (c.flush_into-taken.ensures.malformed seen told at (c.in-Err.is ∙ same));
  malformed_after = λ after told at same.
      subst (λ (v : OnDisk). OneBreaks v.settings c.args.levels.now.version v.rows (after 2) at) (sym did.refused) (c.flush_into-taken.ensures.malformed_after after told at (c.in-Err.is ∙ same));
  images = λ events long light bins seen told holds each. tt;
  are = tt;
  still = λ stays. tt;
  unflushed = λ stays.
      absurd (c.requires.moves c.if-not-flushes.false stays);
  rest = c.flush_into-taken.ensures.rest;
  kept = record {
    time = c.flush_into-taken.ensures.kept.time;
    never_falls = c.flush_into-taken.ensures.kept.never_falls;
    failed = λ same. c.flush_into-taken.ensures.kept.failed (c.in-Err.is ∙ same);
    mark = c.flush_into-taken.ensures.kept.mark;
    journal = c.flush_into-taken.ensures.kept.journal;
  };
}
