use Rattle.std.proofs.{Common.{◌∙◌, sym, arith, length}, lemmas.Bool.eqb-false}
use Rattle.lert_args.proofs.Parsing.{number_of-parsed}
use Rattle.lert_args.proofs.word.number.Goals as goal

pub returns : goal.returns
returns c =
    let some = eqb-false (length c.args.word.now) 0 (sym c.is_empty.ensures ∙ c.if-is_empty.false) in
    c.ok.ensures.value
    ∙ number_of-parsed c.args.word.now (omega (arith, some)) (omega arith) (sym c.is_digits.ensures ∙ c.if-not-is_digits.false) c.parse.result c.parse.ensures.value.0
