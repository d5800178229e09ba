use Rattle.std.proofs.Common.{◌≡◌, ℕ, ◌-◌, ◌*◌, ap, ◌∙◌, refl, arith, take, drop, replicate}
use lib.Seq.{paste}
use Rattle.lert_blocks.proofs.{FillingLaws.filled_behind, PartLaws.{length_rest, moved_zeros, take-moved}}
use Rattle.lert_blocks.proofs.block.Block.drop_front.Goals as goal

pub returns-clause-filled : goal.returns-clause-filled
returns-clause-filled c = λ width block skip pieces was.
    let self = c.args.self.now in
    let words = c.args.words in
    let ends = self.ends.items in
    let kept = c.deref_mut.result.now in
    let eight : self.ends.len ≡ 8 = self.ends.ok.0 ∙ self.sized.1 in
    filled_behind width block skip words pieces self _ was c.requires (self.sized.2) self.sized.1 refl refl refl
    (ap (take (self.len - 64 * words)) c.copy_within.ensures.items ∙ take-moved self.slots.items (64 * words) (self.len - 64 * words) (omega (arith, self.sized, c.requires)))
    (moved_zeros c.copy_within-2.new.self ends kept c.fill.new.self words self.sized.1 (omega (arith, self.sized, c.requires))
    (c.copy_within-2.ensures.items ∙ ap (λ n. paste ends 0 (drop words ends) (n - words)) eight) c.copy_within-2.new.self.ok.0 c.deref_mut.ensures.value
    (c.fill.ensures.after (λ y same. same) ∙ ap (λ n. replicate {A = ℕ} n 0) (length_rest kept (8 - words))) (c.fill.ensures.len ∙ length_rest kept (8 - words)))
