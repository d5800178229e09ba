-- Hexadecimal digits that are written from the last one on.
use Rattle.std.proofs.{Common.{◌≡◌, ℕ, ◌+◌, ◌/◌, ◌%◌, ◌<◌, suc, List, [], ◌∷◌, ◌++◌, length, set, drop, ap, sym, ◌∙◌, append_assoc, arith}, lemmas.List.drop-set}
use Rattle.lert_text.specs.Drill.{hex_digit, hexadecimal}

-- one digit more before those that were written
pub one_more : (place rest : ℕ) (digits whole : List ℕ) (digit : ℕ) → place < length digits → digit ≡ hex_digit (rest % 16) →
    hexadecimal (place + 1) rest ++ drop (place + 1) digits ≡ whole → hexadecimal place (rest / 16) ++ drop place (set digits place digit) ≡ whole
one_more place rest digits whole digit below is so_far =
    ap (λ xs. hexadecimal place (rest / 16) ++ xs) (drop-set digits place digit below)
    ∙ (ap (λ d. hexadecimal place (rest / 16) ++ d ∷ drop (place + 1) digits) is
    ∙ (sym (append_assoc (hexadecimal place (rest / 16)) (hex_digit (rest % 16) ∷ []) (drop (place + 1) digits))
    ∙ (ap (λ n. hexadecimal n rest ++ drop (place + 1) digits) (let same : suc place ≡ place + 1 = omega arith in same) ∙ so_far)))
