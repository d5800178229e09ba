use Rattle.std.proofs.Common.{ℕ, suc, ◌+◌, ◌++◌, ◌∷◌, [], take, get_or, ap, append_assoc, arith, ◌∙◌}
use Rattle.std.specs.Prelude.{flat_map}
use Rattle.byteorder.specs.Endian.{little_bytes}
use Rattle.lert_base.specs.Keys.{items_of}
use Rattle.lert_journal.specs.Payload.{item_bytes}
use Rattle.lert_journal.proofs.TextLaws.{weighed_more}
use Rattle.lert_journal.proofs.entries.put_weighed.Goals as goal

pub loop-n-preserved : goal.loop-n-preserved
loop-n-preserved c = (
  omega (arith, c.loop-n.invariant.0),
  let n = c.loop-n.n in
      let keys = c.args.keys.now in
      let weights = c.args.weights.now in
      let front = take 12 c.args.into.now in
      let before = flat_map (item_bytes 2) (items_of (take n keys) (take n weights)) in
      ap (λ (k : ℕ). take k c.put.new.into) (omega arith)
      ∙ (c.put.ensures.text
      ∙ (ap (λ bytes. bytes ++ get_or weights n 0 ∷ []) (c.put_u64.ensures.text ∙ ap (λ bytes. bytes ++ little_bytes 8 (get_or keys n 0)) c.loop-n.invariant.1)
      ∙ (append_assoc (front ++ before) (little_bytes 8 (get_or keys n 0)) (get_or weights n 0 ∷ [])
      ∙ (append_assoc front before (little_bytes 8 (get_or keys n 0) ++ get_or weights n 0 ∷ [])
      ∙ (ap (λ bytes. front ++ bytes) (weighed_more keys weights n c.loop-n-test.true c.requires.same)
      ∙ ap (λ (k : ℕ). front ++ flat_map (item_bytes 2) (items_of (take k keys) (take k weights))) {x = suc n} {y = n + 1} (omega arith)))))),
)
