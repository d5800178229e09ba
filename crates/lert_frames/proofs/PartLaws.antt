-- Parts of a file.
use Rattle.std.{proofs.Common.{◌≡◌, ℕ, ◌+◌, ◌-◌, ◌≤◌, List, ◌++◌, length, take, drop, sym, ap, ◌∙◌, arith, length-take}, proofs.lemmas.List.{drop-append-le, drop-take, take-take}}
use Rattle.std.{proofs.lemmas.Slice.between_is, proofs.Math.Seq.take-add}
use Rattle.lert_bay.specs.Settled.{part}

-- a part by its length
pub part_is : (file : List ℕ) (from count to : ℕ) → to ≡ from + count → part file from to ≡ take count (drop from file)
part_is file from count to end = ap (λ n. drop from (take n file)) end ∙ drop-take from count file

-- two parts, one behind the other
pub part_join : (file : List ℕ) (from middle to : ℕ) → from ≤ middle → middle ≤ to → middle ≤ length file → part file from middle ++ part file middle to ≡ part file from to
part_join file from middle to low high within =
    let front = take middle file in
    let sum : to ≡ middle + (to - middle) = omega (arith, high) in
    let all : take to file ≡ front ++ take (to - middle) (drop middle file) = ap (λ n. take n file) sum ∙ take-add middle (to - middle) file in
    let behind = part_is file middle (to - middle) to sum in
    sym (ap (drop from) all
    ∙ (drop-append-le from front (take (to - middle) (drop middle file)) (omega (arith, low, within, length-take middle file))
    ∙ ap (λ xs. drop from front ++ xs) (sym behind)))

-- a shorter one
pub part_less : (file : List ℕ) (from upto at : ℕ) → upto ≤ at → part file from upto ≡ take (upto - from) (part file from at)
part_less file from upto at fewer =
    sym (between_is file from upto)
    ∙ (sym (take-take (upto - from) (at - from) (drop from file) (omega (arith, fewer))) ∙ ap (take (upto - from)) (between_is file from at))
