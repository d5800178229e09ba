use Rattle.std.proofs.{Common.{◌∙◌, ap, map}, lemmas.Result.{IfErr-weaker, IfOk-weaker}}
use Rattle.clap.specs.{Simple.is_simple, Words.{app_of, found_of}, Faults.is_simple_and_free}
use Rattle.clap.proofs.WalkLemmas.{IfOk-both}
use Rattle.lert_args.proofs.{Building.{simple, simple_and_free}, Outcomes.{given_said, refused_said, unread_said}}
use Rattle.lert_args.proofs.by_clap.values_given.Goals as goal

pub returns-in-Ok-clause-said :
    goal.returns-in-Ok-clause-said
returns-in-Ok-clause-said c =
    let names = map (λ option. option.now) c.args.options.now in
    let words = map (λ text. text.now) c.args.texts.now in
    let is = c.in_ok-command.ensures in
    let passed = c.in-Ok.ensures.kinds (ap is_simple_and_free is ∙ simple_and_free names) in
    let found = (c.in-Ok.ensures.matches (ap is_simple is ∙ simple names)).0 in
    IfOk-weaker c.values_of.result _ _
    (λ values both.
    given_said c.args.options.now words c.requires.apart c.requires.taken (app_of c.in_ok-command.command) is (found_of c.in-Ok.matches) found passed both.1 values.items both.0)
    (IfOk-both c.values_of.result _ _ c.values_of.ensures.values c.values_of.ensures.read)

pub returns-in-Ok-clause-refused :
    goal.returns-in-Ok-clause-refused
returns-in-Ok-clause-refused c =
    let names = map (λ option. option.now) c.args.options.now in
    let words = map (λ text. text.now) c.args.texts.now in
    let is = c.in_ok-command.ensures in
    let passed = c.in-Ok.ensures.kinds (ap is_simple_and_free is ∙ simple_and_free names) in
    let found = (c.in-Ok.ensures.matches (ap is_simple is ∙ simple names)).0 in
    IfErr-weaker c.values_of.result _ _
    (λ fault refused rule usage.
    let r = refused rule usage in
    (r.0, unread_said c.args.options.now words c.requires.apart c.requires.taken (app_of c.in_ok-command.command) is (found_of c.in-Ok.matches) found passed r.1))
    c.values_of.ensures.refused

pub returns-in-Err-clause-refused : goal.returns-in-Err-clause-refused
returns-in-Err-clause-refused c =
    let names = map (λ option. option.now) c.args.options.now in
    let words = map (λ text. text.now) c.args.texts.now in
    let is = c.in_ok-command.ensures in
    λ rule usage.
    let r = c.fault_of.ensures rule usage in (
      r.0,
      refused_said c.args.options.now words c.requires.apart c.requires.taken (app_of c.in_ok-command.command) is c.in-Err.error
          (c.in-Err.ensures.kinds (ap is_simple_and_free is ∙ simple_and_free names)) (λ memory. r.1 (c.kind.ensures ∙ memory)),
    )
