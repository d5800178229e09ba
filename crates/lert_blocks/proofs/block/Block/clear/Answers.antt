use Rattle.std.proofs.Common.{arith, refl, replicate, ap, ◌∙◌, ◌≡◌}
use Rattle.lert_blocks.proofs.FillingLaws.{filled_none}
use Rattle.lert_blocks.proofs.block.Block.clear.Goals as goal

pub returns : goal.returns
returns c = λ width block.
    let long : c.args.self.now.ends.len ≡ 8 = omega (arith, c.args.self.now.sized, c.args.self.now.ends.ok) in
    filled_none width block _ refl (omega arith) refl (c.fill.ensures.items (λ y same. same) ∙ ap (λ n. replicate n 0) long)
