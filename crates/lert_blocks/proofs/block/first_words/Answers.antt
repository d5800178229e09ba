use Rattle.std.proofs.{Common.{ℕ, ◌<◌, ◌^◌, List, sym, subst, inl, inr, arith, take, get_or, length-take}, lemmas.Bool.cases_lt, lemmas.List.{get_or-take, get_or_past}}
use Rattle.lert_blocks.proofs.block.first_words.Goals as goal

fits_front : (n : ℕ) (words : List ℕ) → ((i : ℕ) → get_or words i 0 < 2 ^ 64) → (i : ℕ) → get_or (take n words) i 0 < 2 ^ 64
fits_front n words fit i =
    elim (cases_lt i n) [
      | inl here ↦ subst (λ w. w < 2 ^ 64) (sym (get_or-take n words i 0 here)) (fit i)
      | inr past ↦ subst (λ w. w < 2 ^ 64) (sym (get_or_past (take n words) i 0 (omega (arith, length-take n words)))) (omega arith)
    ]

pub returns-clause-fit : goal.returns-clause-fit
returns-clause-fit c = λ i. fits_front c.args.count c.args.words.now (λ k. (c.type_inv.words k).fits) i
