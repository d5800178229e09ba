use Rattle.std.proofs.Common.{Some, ap, arith, length, sym, ◌∙◌, refl}
use Rattle.lert_args.specs.{Command.{run_named, run_said}, declared.line.Line.TheVariants.Run}
use Rattle.lert_args.proofs.CommandLaws.{IsAnswered-none, answered, by_said, run_named-is, run_named-none}
use Rattle.lert_args.proofs.commands.read_run.Goals as goal

pub returns-then-len-lt2 : goal.returns-then-len-lt2
returns-then-len-lt2 c =
    let said = c.in_ok-given.ensures.said in
    IsAnswered-none _ (by_said run_said _ said.0 _ said.1 (run_named-none said.0 said.0.names (omega (arith, c.if-len-lt2.true, c.len.ensures, c.in_ok-given.given.names.ok.0, ap length said.2))))

pub returns : goal.returns
returns c =
    let said = c.in_ok-given.ensures.said in
    let s = said.0 in
    let names = c.in_ok-given.given.names.items in
    answered c.run_of.result _ _
    (by_said run_said _ s _ said.1
    (ap (run_named s) (sym said.2)
    ∙ run_named-is s names c.remove-dir.result c.new.result (omega (arith, c.if-len-lt2.false, c.len.ensures, c.in_ok-given.given.names.ok.0)) c.remove-dir.ensures.value
    (c.new.ensures ∙ c.remove-dir.ensures.items))
    ∙ sym (λ i. Some (Run (c.numbers-numbers.ensures s said.3 refl i) (c.value_or-workers.ensures s said.3 refl i) c.remove-dir.result c.new.result)))
    c.run_of.ensures
