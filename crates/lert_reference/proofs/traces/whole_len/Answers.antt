use Rattle.std.proofs.{Common.{◌≤◌, [], cond, take, sym, ap, ◌∙◌, subst}, lemmas.{Bool.le-ltb, List.FromFn.take-map-range_with_len}}
use Rattle.std.specs.List.{take_while}
use Rattle.lert_trace.specs.Trace.{full, full_len, header_len, item_at, version_in, weighs}
use Rattle.lert_reference.proofs.traces.whole_len.Goals as goal

pub returns-else-header_len-lt-HEADER-clause-value : goal.returns-else-header_len-lt-HEADER-clause-value
returns-else-header_len-lt-HEADER-clause-value c =
    let bytes = c.args.bytes.now in
    let count = c.weighed_len in
    sym (take-map-range_with_len (item_at (version_in bytes) bytes) 0 (full_len bytes) count.result count.ensures.within)
    ∙ ap (λ n. take n (full bytes)) count.ensures.value
    ∙ sym (ap (λ b. cond b [] (take_while weighs (full bytes))) (le-ltb (header_len bytes) 8 (subst (λ n. 8 ≤ n) c.header_len.ensures c.if-header_len-lt-HEADER.false)))
