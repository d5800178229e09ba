use Rattle.std.proofs.{Common.{◌≡◌, ◌-◌, ◌^◌, ◌%◌, ◌<◌, ap, sym, ◌∙◌, bit_and, w64}, lemmas.Nat.{one_shl, and_mask}, lemmas.Nat.Bits.bit_at-trailing_zeros}
use Rattle.std.specs.Int.{trailing_zeros}
use Rattle.lert_levels.proofs.bound.place.place_of.Goals as goal

-- The number is the power of two that was asked for, and its mask leaves the remainder.
pub returns-then-places : goal.returns-then-places
returns-then-places c =
    let width = trailing_zeros w64 c.args.places in
    let narrow : width < 64 = (bit_at-trailing_zeros w64 c.args.places c.requires c.ranges.places.fits).0 in
    let whole : c.args.places ≡ 2 ^ width = sym c.if-places.true ∙ one_shl width 64 narrow in
    ap (λ n. bit_and c.args.tail (n - 1)) whole ∙ and_mask c.args.tail width ∙ ap (λ n. c.args.tail % n) (sym whole)
