use Rattle.std.proofs.{Common.{◌∙◌, ap, drop, map, sym}, lemmas.Result.err_from_is_err_and}
use Rattle.lert_args.specs.{Scan.places_from, declared.scan.Stand.TheVariants.Between}
use Rattle.lert_args.proofs.Refusing.{refused_by_scan}
use Rattle.lert_args.proofs.by_clap.read_given.Goals as goal

pub returns-in_err-names-clause-refused : goal.returns-in_err-names-clause-refused
returns-in_err-names-clause-refused c =
    let p = err_from_is_err_and c.from_residual-in_err-names.result c.from_residual-in_err-names.ensures.1 in
    rw (p.1, p.2)
    (λ rule usage.
    let r = c.in_err-names.ensures.refused rule usage in
    let behind = ap (map (λ text. text.now)) c.as_slice.ensures.value ∙ c.in_ok-texts.ensures in
    (r.0, refused_by_scan (map (λ option. option.now) c.args.options.now) (drop 1 c.args.words.now) (ap (λ words. places_from 1 words Between) (sym behind) ∙ r.1)))
