use Rattle.std.proofs.{Common.{Some, ap, arith, length, sym, ◌∙◌, refl}, lemmas.Bool.{eqb-false, eqb-true}}
use Rattle.lert_args.specs.{Command.drill_said, declared.line.Line.TheVariants.Drill}
use Rattle.lert_args.proofs.CommandLaws.{IsAnswered-none, answered, by_said, unnamed-is, unnamed-none}
use Rattle.lert_args.proofs.commands.read_drill.Goals as goal

pub returns-then-not-is_empty : goal.returns-then-not-is_empty
returns-then-not-is_empty c =
    let said = c.in_ok-given.ensures.said in
    let some = eqb-false c.in_ok-given.given.names.len 0 (sym c.is_empty.ensures ∙ c.if-not-is_empty.true) in
    IsAnswered-none _ (by_said drill_said _ said.0 _ said.1 (unnamed-none said.0.names _ (omega (arith, some, c.in_ok-given.given.names.ok.0, ap length said.2))))

pub returns : goal.returns
returns c =
    let said = c.in_ok-given.ensures.said in
    let s = said.0 in
    let none = eqb-true c.in_ok-given.given.names.len 0 (sym c.is_empty.ensures ∙ c.if-not-is_empty.false) in
    answered c.drill_of.result _ _
    (by_said drill_said _ s _ said.1 (unnamed-is s.names _ (omega (arith, none, c.in_ok-given.given.names.ok.0, ap length said.2)))
    ∙ sym (λ i. Some (Drill (c.numbers.ensures s said.3 refl i) (c.value_or-workers.ensures s said.3 refl i) (c.value_or-seed.ensures s said.3 refl i)
    (c.value_or-events.ensures s said.3 refl i))))
    c.drill_of.ensures
