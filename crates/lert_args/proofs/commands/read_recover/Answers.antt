use Rattle.std.proofs.{Common.{Some, inl, inr, rules, get_or, ap, sym, ◌∙◌, refl}, lemmas.Result.err_from_is_err_and}
use Rattle.lert_args.specs.{Command.{recover_named, recover_said}, declared.line.Line.TheVariants.Recover}
use Rattle.lert_args.proofs.CommandLaws.{IsAnswered-none, answered, by_said, recover_named-is, recover_named-none, unsaid}
use Rattle.lert_args.proofs.commands.read_recover.Goals.{in_default-via-then-as_slice-lt1, in_default-via-else-as_slice-lt1+else-this-lt2}
use Rattle.lert_args.proofs.commands.read_recover.Goals as goal

pub returns-in_err-given : goal.returns-in_err-given
returns-in_err-given c =
    let p = err_from_is_err_and c.from_residual.result c.from_residual.ensures.1 in
    rw (p.1, p.2) (unsaid recover_said _ _ c.in_err-given.ensures.refused)

pub returns-in-len1 : goal.returns-in-len1
returns-in-len1 c =
    let said = c.in_ok-given.ensures.said in
    let s = said.0 in
    let names = c.as_slice in
    answered c.recover_of.result _ _
    (by_said recover_said _ s _ said.1
    (recover_named-is s s.names names.result.now 0 (names.ensures.value ∙ said.2) c.in-len1.len_at_least c.in-len1.len_below
    ∙ sym (λ i. Some (Recover (c.numbers.ensures s said.3 refl i) (get_or names.result.now 0 0)))))
    c.recover_of.ensures

pub returns : goal.returns
returns c =
    let said = c.in_ok-given.ensures.said in
    let names = c.as_slice in
    IsAnswered-none _ (by_said recover_said _ said.0 _ said.1
    (recover_named-none said.0 said.0.names names.result.now (names.ensures.value ∙ said.2) (elim c.in_default.branch [
      | in_default-via-then-as_slice-lt1 w ↦ inl (search rules)
      | in_default-via-else-as_slice-lt1+else-this-lt2 w ↦ inr (search rules)
    ])))
