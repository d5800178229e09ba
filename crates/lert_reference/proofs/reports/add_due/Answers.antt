use Rattle.std.proofs.Common.{◌≡◌, ℕ, Bool, List, [], ◌∷◌, ◌++◌, get_or, length, take, sym, ap, ap₂, ◌∙◌, arith}
use Rattle.std.proofs.Math.Seq.{take-append_seam}
use Rattle.lert_spec.specs.{declared.report.Report.Report, Counts.weighed, Look.is_due_in}
use Rattle.lert_reference.proofs.AddingLaws.{kept, dropped}
use Rattle.lert_reference.proofs.reports.add_due.Goals as goal
use Rattle.lert_reference.proofs.reports.add_due.Goals.{then-is_due+in_ok-push, else-is_due}

pub loop-key-preserved : goal.loop-key-preserved
loop-key-preserved c =
    let old = c.args.reports.now.items in
    let keys = c.args.keys.now in
    let k = c.loop-key.key-index in
    let test : ℕ → Bool = is_due_in weighed c.args.threshold c.args.events.now c.args.from c.args.to old in
    let before : take c.len-before.result c.deref.result.now ≡ old =
    ap₂ (λ n (rs : List Report). take n rs) (let len : c.len-before.result ≡ length old = omega (arith, c.len-before.ensures) in len) (c.deref.ensures.value ∙ c.loop-key.invariant)
    ∙ take-append_seam old _ in
    let said : c.is_due.result ≡ test (get_or keys k 0) =
    c.is_due.ensures ∙ ap (λ (rs : List Report). is_due_in weighed c.args.threshold c.args.events.now c.args.from c.args.to rs (get_or keys k 0)) before in
    elim c.if-is_due.branch [
      | then-is_due+in_ok-push w ↦ ap (λ v. v.items) w.reports-is ∙ w.in_ok-push.ensures.items ∙ ap (λ rs. rs ++ record { key = get_or keys k 0; at = c.args.to } ∷ []) c.loop-key.invariant
          ∙ sym (kept test c.args.to old keys k 0 (omega (arith, c.loop-key-test.true)) (sym said ∙ w.if-is_due.true))
      | else-is_due w ↦ ap (λ v. v.items) w.reports-is ∙ c.loop-key.invariant ∙ sym (dropped test c.args.to old keys k 0 (omega (arith, c.loop-key-test.true)) (sym said ∙ w.if-is_due.false))
    ]
