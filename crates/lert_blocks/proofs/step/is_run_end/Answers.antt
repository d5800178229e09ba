use Rattle.std.proofs.{Common.{◌==◌, ◌-◌, sym, ap, ◌∙◌}, lemmas.Nat.Bits.shr_and_one}
use Rattle.lert_blocks.proofs.EndLaws.{end_in_word, end_behind}
use Rattle.lert_blocks.proofs.step.is_run_end.Goals as goal

pub returns-then-at-lt64 : goal.returns-then-at-lt64
returns-then-at-lt64 c = λ ends more are.
    end_in_word c.args.slots ends more c.args.at are c.if-at-lt64.true c.requires.within ∙ ap (λ b. b == 1) (sym (shr_and_one c.args.slots.ends c.args.at))

pub returns : goal.returns
returns c = λ ends more are.
    end_behind c.args.slots ends more c.args.at are c.if-at-lt64.false c.requires.near c.requires.within
    ∙ ap (λ b. b == 1) (sym (shr_and_one c.args.slots.next_ends (c.args.at - 64)))
