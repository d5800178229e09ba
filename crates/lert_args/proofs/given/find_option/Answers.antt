use Rattle.std.proofs.{Common.{rules, tests}, lemmas.Iterator.YieldsList-from_slice, lemmas.Iterator.Search.position_from_yields_List}
use Rattle.std.specs.Str.{bytes_eq}
use Rattle.lert_args.proofs.LookupLaws.{found_place}
use Rattle.lert_args.proofs.given.find_option.Goals as goal

pub returns : goal.returns
returns c =
    found_place c.args.options.now c.args.name.now c.position.result
    (position_from_yields_List (λ option. bytes_eq option.now c.args.name.now) _ _ c.position.result c.position.ensures.ran (YieldsList-from_slice _ c.iter.ensures.rest)
    (λ x b q k. search (rules, tests)))
