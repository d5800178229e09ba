use Rattle.std.proofs.Common.{ℕ, ◌+◌, ◌*◌, ◌<◌, ◌≤◌, Some, length, ap, ap₂, sym, ◌∙◌, subst, arith}
use Rattle.lert_journal.specs.Payload.{stray_spot}
use Rattle.lert_journal.proofs.PayloadWhole.{whole_packet}
use Rattle.lert_journal.proofs.Leaving.{left_by_count, left_by_bringer, left_by_trace, left_by_item, counted_long, more_than, some_length, at_least, stray_within, behind_four, trace_there}
use Rattle.lert_journal.proofs.payload.place_left.Goals as goal

pub returns-then-not-is_counted : goal.returns-then-not-is_counted
returns-then-not-is_counted c = record {
  within = some_length (length c.args.payload.now);
  holds = tt;
  place = sym (left_by_count c.args.version c.args.settings.now c.args.cone c.args.payload.now (sym c.is_counted.ensures ∙ c.if-not-is_counted.true));
}

pub read_u32-requires : goal.read_u32-requires
read_u32-requires c = at_least 4 _ (omega arith) (counted_long c.args.version c.args.settings.now _ (sym c.is_counted.ensures ∙ c.if-not-is_counted.false))

pub returns-then-read_u32-gt-MOST_BY : goal.returns-then-read_u32-gt-MOST_BY
returns-then-read_u32-gt-MOST_BY c =
    let counted = sym c.is_counted.ensures ∙ c.if-not-is_counted.false in
    record {
      within = more_than 4 (length c.args.payload.now) (omega arith) (counted_long c.args.version c.args.settings.now _ counted);
      holds = tt;
      place = sym (left_by_bringer c.args.version c.args.settings.now c.args.cone c.args.payload.now counted (subst (λ n. 63 < n) c.read_u32.ensures c.if-read_u32-gt-MOST_BY.true));
    }

pub read_u32-requires-2 : goal.read_u32-requires-2
read_u32-requires-2 c = behind_four c.args.payload.now (counted_long c.args.version c.args.settings.now _ (sym c.is_counted.ensures ∙ c.if-not-is_counted.false))

pub returns-then-read_u32-gt-MOST_TRACE : goal.returns-then-read_u32-gt-MOST_TRACE
returns-then-read_u32-gt-MOST_TRACE c =
    let counted = sym c.is_counted.ensures ∙ c.if-not-is_counted.false in
    record {
      within = more_than 8 (length c.args.payload.now) (omega arith) (counted_long c.args.version c.args.settings.now _ counted);
      holds = tt;
      place = sym (left_by_trace c.args.version c.args.settings.now c.args.cone c.args.payload.now counted (subst (λ n. n ≤ 63) c.read_u32.ensures c.if-read_u32-gt-MOST_BY.false)
          (subst (λ n. 1023 < n) (c.read_u32-2.ensures ∙ trace_there c.args.payload.now) c.if-read_u32-gt-MOST_TRACE.true));
    }

pub first_stray-requires : goal.first_stray-requires
first_stray-requires c = at_least 8 _ (omega arith) (counted_long c.args.version c.args.settings.now _ (sym c.is_counted.ensures ∙ c.if-not-is_counted.false))

pub returns-in_err-stray : goal.returns-in_err-stray
returns-in_err-stray c =
    let none = left_by_item c.args.version c.args.settings.now c.args.cone c.args.payload.now (sym c.is_counted.ensures ∙ c.if-not-is_counted.false)
    (subst (λ n. n ≤ 63) c.read_u32.ensures c.if-read_u32-gt-MOST_BY.false)
    (subst (λ n. n ≤ 1023) (c.read_u32-2.ensures ∙ trace_there c.args.payload.now) c.if-read_u32-gt-MOST_TRACE.false) _ c.in_err-stray.ensures.first in
    rw c.from_residual.ensures (record {
      within = tt;
      place = none;
      holds = whole_packet c.args.version c.args.settings.now c.args.cone c.args.payload.now (λ k. (c.type_inv.payload k).fits) (sym none);
    })

pub returns : goal.returns
returns c =
    let each = c.item_len.ensures.value in
    let n = c.in_ok-stray.stray in
    record {
      within = subst (λ (e : ℕ). 12 + e * n + c.stray_spot.result < length c.args.payload.now + 4) (sym each)
          (stray_within _ n c.stray_spot.result (length c.args.payload.now) c.in_ok-stray.ensures.within c.stray_spot.ensures.within);
      holds = tt;
      place = ap₂ (λ (e : ℕ) (spot : ℕ). Some (12 + e * n + spot)) each
          (c.stray_spot.ensures.value ∙ ap (stray_spot c.args.version c.args.settings.now c.args.cone) c.item_in-item.ensures)
          ∙ left_by_item c.args.version c.args.settings.now c.args.cone c.args.payload.now (sym c.is_counted.ensures ∙ c.if-not-is_counted.false)
          (subst (λ n. n ≤ 63) c.read_u32.ensures c.if-read_u32-gt-MOST_BY.false)
          (subst (λ n. n ≤ 1023) (c.read_u32-2.ensures ∙ trace_there c.args.payload.now) c.if-read_u32-gt-MOST_TRACE.false) _ c.in_ok-stray.ensures.first;
    }
