use Rattle.std.proofs.{Common.{Some, ap, arith, length, sym, ◌∙◌, refl}, lemmas.Bool.{eqb-false, eqb-true}}
use Rattle.lert_args.specs.{Command.gen_said, declared.line.Line.TheVariants.Gen}
use Rattle.lert_args.proofs.CommandLaws.{IsAnswered-none, answered, by_said, unnamed-is, unnamed-none}
use Rattle.lert_args.proofs.commands.read_gen.Goals as goal

pub returns-then-not-is_empty : goal.returns-then-not-is_empty
returns-then-not-is_empty c =
    let said = c.in_ok-given.ensures.said in
    let some = eqb-false c.in_ok-given.given.names.len 0 (sym c.is_empty.ensures ∙ c.if-not-is_empty.true) in
    IsAnswered-none _ (by_said gen_said _ said.0 _ said.1 (unnamed-none said.0.names _ (omega (arith, some, c.in_ok-given.given.names.ok.0, ap length said.2))))

pub returns : goal.returns
returns c =
    let said = c.in_ok-given.ensures.said in
    let s = said.0 in
    let none = eqb-true c.in_ok-given.given.names.len 0 (sym c.is_empty.ensures ∙ c.if-not-is_empty.false) in
    answered c.gen_of.result _ _
    (by_said gen_said _ s _ said.1 (unnamed-is s.names _ (omega (arith, none, c.in_ok-given.given.names.ok.0, ap length said.2)))
    ∙ sym (λ i. Some (Gen (c.value_or.ensures s said.3 refl i) (c.value_or-2.ensures s said.3 refl i))))
    c.gen_of.ensures
