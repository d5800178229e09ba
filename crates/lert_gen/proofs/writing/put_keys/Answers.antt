use Rattle.std.proofs.Common.{◌≡◌, ◌+◌, ◌*◌, ◌++◌, take, ap, sym, ◌∙◌, arith, append_assoc}
use Rattle.byteorder.specs.Endian.{little_bytes}
use Rattle.lert_gen.specs.Generated.{key_at}
use Rattle.lert_gen.proofs.Blocks.{keys_text, keys_text-more}
use Rattle.lert_gen.proofs.writing.put_keys.Goals as goal

pub loop-number-preserved : goal.loop-number-preserved
loop-number-preserved c =
    let seed = c.args.seed in
    let done = c.args.done in
    let number = c.loop-number.number in
    let front = take c.args.filled c.args.block.now in
    let place : c.args.filled + 8 * (number + 1) ≡ c.args.filled + 8 * number + 8 = omega arith in
    record {
      within = omega arith;
      front =
          ap (λ n. take n c.put_key.new.block) place ∙ c.put_key.ensures.front
          ∙ ap (λ xs. xs ++ little_bytes 8 c.key_at.result) c.loop-number.invariant.front
          ∙ ap (λ k. front ++ keys_text seed done number ++ little_bytes 8 k) c.key_at.ensures
          ∙ append_assoc front (keys_text seed done number) (little_bytes 8 (key_at seed (done + number + 1)))
          ∙ ap (λ xs. front ++ xs) (sym (keys_text-more seed done number));
    }
