use Rattle.std.proofs.{Common.{◌≡◌, ℕ, ◌-◌, ◌*◌, ◌%◌, ◌^◌, ◌<◌, ap, ◌∙◌, bit_and}, Math.Nat.{mod-eq_of_lt, zero-mul}, lemmas.Nat.and_mask, lemmas.Nat.Bits.{bit_at_clear_same, bit_at_clear_other}}
use Rattle.std.specs.Int.{w64, bit_at}
use mir.Val.{bool_byte}
use Rattle.lert_blocks.proofs.block.without_if.Goals as goal

nothing : (n at : ℕ) → n ≡ 0 → n * 2 ^ at % 18446744073709551616 ≡ 0
nothing n at none = let e : n * 2 ^ at ≡ 0 = ap (λ m. m * 2 ^ at) none ∙ zero-mul (2 ^ at) in ap (λ m. m % 18446744073709551616) e

-- a word with nothing cleared
kept : (word shift : ℕ) → shift ≡ 0 → word < 2 ^ 64 → bit_and word (18446744073709551615 - shift) ≡ word
kept word shift none fits = ap (λ n. bit_and word (18446744073709551615 - n)) none ∙ and_mask word 64 ∙ mod-eq_of_lt fits

pub returns-clause-off : goal.returns-clause-off
returns-clause-off c = λ off.
    let none : c.from.result ≡ 0 = c.from.ensures ∙ ap bool_byte off in
    kept c.args.word _ (nothing c.from.result c.args.at none) c.ranges.word.fits

pub returns-clause-here : goal.returns-clause-here
returns-clause-here c = λ on.
    let one : c.from.result ≡ 1 = c.from.ensures ∙ ap bool_byte on in
    ap (λ n. bit_at (bit_and c.args.word (18446744073709551615 - n * 2 ^ c.args.at % 18446744073709551616)) c.args.at) one
    ∙ bit_at_clear_same w64 c.args.word c.args.at c.requires

pub returns-clause-others : goal.returns-clause-others
returns-clause-others c = λ on i within apart.
    let one : c.from.result ≡ 1 = c.from.ensures ∙ ap bool_byte on in
    ap (λ n. bit_at (bit_and c.args.word (18446744073709551615 - n * 2 ^ c.args.at % 18446744073709551616)) i) one
    ∙ bit_at_clear_other w64 c.args.word c.args.at c.requires i within apart
