use Rattle.std.proofs.{Common.{◌≡◌, ℕ, ◌*◌, ◌/◌, ◌%◌, ◌<◌, ◌≢◌, Bool, true, false, cond, List, length, get_or, set, ap, ◌∙◌, refl}, lemmas.List.set-get_or}
use Rattle.std.specs.Int.{bit_at}
use Rattle.lert_slotbits.specs.Bits.{row_of}
use Rattle.lert_slotbits.proofs.RowLemmas.{row-set}
use Rattle.lert_blocks.proofs.block.clear_if.Goals as goal

cleared : (ws : List ℕ) (i word : ℕ) (on : Bool) → i < 64 * length ws → (on ≡ false → word ≡ get_or ws (i / 64) 0) → (on ≡ true → bit_at word (i % 64) ≡ 0)
    → (on ≡ true → (k : ℕ) → k < 64 → k ≢ i % 64 → bit_at word k ≡ bit_at (get_or ws (i / 64) 0) k) → row_of (set ws (i / 64) word) ≡ cond on (set (row_of ws) i false) (row_of ws)
cleared ws i word true within off here others = row-set ws i word false within (here refl) (others refl)
cleared ws i word false within off here others = ap (λ w. row_of (set ws (i / 64) w)) (off refl) ∙ ap row_of (set-get_or ws (i / 64) 0)

pub returns : goal.returns
returns c = cleared c.args.words.now c.args.i c.without_if.result c.args.on c.requires c.without_if.ensures.off c.without_if.ensures.here c.without_if.ensures.others
