use Rattle.std.proofs.{Common.{ℕ, ◌+◌, ◌*◌, ◌^◌, List, ◌∷◌, drop, refl, sym, ap, ◌∙◌, arith}, lemmas.Nat.Bits.bit_at-trailing_zeros}
use Rattle.std.specs.Int.{w64, trailing_zeros}
use Rattle.lert_blocks.proofs.PlaceLaws.{places_of, tail_fits, shifted_is}
use Rattle.lert_blocks.proofs.decoder.piece_of.Goals as goal

pub overflow_add-result : goal.overflow_add-result
overflow_add-result c =
    let lowest = bit_at-trailing_zeros w64 c.args.occupied c.requires.some c.ranges.occupied.fits in
    let within = lowest.0 in
    let zeros = c.from.ensures in
    let same = shifted_is c.args.width c.args.first (c.args.first + c.from.result) c.args.group.x (omega arith) c.requires.remainder c.requires.reach in
    let fits = tail_fits c.args.width c.args.first (c.args.first + c.from.result) c.args.group.x (omega arith) c.requires.remainder c.requires.reach in
    omega arith

pub returns : goal.returns
returns c =
    let lowest = bit_at-trailing_zeros w64 c.args.occupied c.requires.some c.ranges.occupied.fits in
    let within = lowest.0 in
    let zeros = c.from.ensures in
    let heads = places_of c.args.first c.args.occupied c.requires.some c.ranges.occupied.fits in
    record {
      quotient = c.args.first + trailing_zeros w64 c.args.occupied;
      head = heads ∙ ap (λ (qs : List ℕ). (c.args.first + trailing_zeros w64 c.args.occupied) ∷ qs) (sym (ap (drop 1) heads));
      tail = ap (λ n. n + c.args.group.x)
          (shifted_is c.args.width c.args.first (c.args.first + c.from.result) c.args.group.x (omega arith) c.requires.remainder c.requires.reach
          ∙ ap (λ n. (c.args.first + n) * 2 ^ c.args.width) zeros);
      count = refl;
    }
