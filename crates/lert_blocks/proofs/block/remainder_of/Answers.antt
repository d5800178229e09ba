use Rattle.std.proofs.{lemmas.Nat.{one_shl, and_mask}, Common.{◌-◌, ap, ◌∙◌, bit_and}}
use Rattle.lert_blocks.proofs.block.remainder_of.Goals as goal

pub returns : goal.returns
returns c = ap (λ n. bit_and c.args.tail (n - 1)) (one_shl c.args.width 64 c.requires) ∙ and_mask c.args.tail c.args.width
