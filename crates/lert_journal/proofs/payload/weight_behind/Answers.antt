use Rattle.std.proofs.{Common.{◌≡◌, ℕ, ◌+◌, ◌-◌, ◌/◌, length, map, sym, ap, ap₂, min, ◌∙◌, arith}, lemmas.List.FromFn.{length-map-range_with_len, sum_by-map-range_with_len_more}}
use Rattle.std.specs.List.{range_with_len}
use Rattle.lert_spec.specs.declared.item.Item.{Item}
use Rattle.lert_spec.specs.Counts.{weighed, weight_of}
use Rattle.lert_journal.specs.Payload.{item_in, item_len}
use Rattle.lert_journal.proofs.PayloadLaws.{behind_first}
use Rattle.lert_journal.proofs.payload.weight_behind.Goals as goal

pub loop-n-preserved : goal.loop-n-preserved
loop-n-preserved c =
    let items = item_in c.args.version c.args.payload.now in
    let first = c.min-first.result in
    let n = c.loop-n.n in
    let long : n + 1 - first ≡ n - first + 1 = omega (arith, c.loop-n.auto.n) in
    let here : c.from-weight.result ≡ (items n).weight = c.from-weight.ensures ∙ ap (λ (item : Item). item.weight) c.item_in.ensures in
    record {
      sum =
          ap (λ (w : ℕ). c.loop-n.weight + w) here
          ∙ (ap (λ (w : ℕ). w + (items n).weight) c.loop-n.invariant.sum
          ∙ (sym (sum_by-map-range_with_len_more (λ (item : Item). item.weight) items first (n - first) n (omega (arith, c.loop-n.auto.n)))
          ∙ ap (λ (k : ℕ). weight_of weighed (map items (range_with_len first k))) (sym long)));
      most = omega (arith, c.loop-n.invariant.most, long, c.from-weight.type_inv);
    }

pub returns-clause-value : goal.returns-clause-value
returns-clause-value c =
    let items = item_in c.args.version c.args.payload.now in
    let first = c.min-first.result in
    let all = (length c.args.payload.now - 8) / item_len c.args.version in
    let count : c.saturating_sub.result / c.item_len.result ≡ all =
    ap₂ (λ (bytes each : ℕ). bytes / each) c.saturating_sub.ensures c.item_len.ensures.value in
    let ended : c.loop-n.n - first ≡ all - first = omega (arith, count, c.loop-n.auto.n, c.loop-n-test.false, c.loop-n.auto.n-end) in
    c.loop-n.invariant.sum
    ∙ (ap (λ (k : ℕ). weight_of weighed (map items (range_with_len first k))) ended
    ∙ ap (weight_of weighed) (behind_first items all c.args.skip first (c.min-first.ensures ∙ ap (λ (n : ℕ). min n c.args.skip) count)))

pub returns-clause-most : goal.returns-clause-most
returns-clause-most c =
    let all = (length c.args.payload.now - 8) / item_len c.args.version in
    let count : c.saturating_sub.result / c.item_len.result ≡ all =
    ap₂ (λ (bytes each : ℕ). bytes / each) c.saturating_sub.ensures c.item_len.ensures.value in
    let long = length-map-range_with_len (item_in c.args.version c.args.payload.now) 0 all in
    omega (arith, c.loop-n.invariant.most, count, long, c.loop-n.auto.n-end)
