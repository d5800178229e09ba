-- Where the scan refuses words, nothing is said.
use Rattle.std.proofs.Common.{◌≡◌, ◌∙◌, ℕ, List, Option, Some, None, refl, ap}
use Rattle.std.specs.Prelude.{option_and_then}
use Rattle.lert_args.specs.{Said.{between, said_once, spelt}, Scan.places_from, declared.scan.Stand.TheVariants.Between}
use Rattle.lert_args.proofs.{Finding.{FoundBy, found}, Heard.{Heard, heard, numbered, said-heard}}

pub refused_by_scan : (options words : List (List ℕ)) → places_from 1 words Between ≡ None → spelt options words ≡ None
refused_by_scan options words none = go (heard options 1 words between) refl (found options 1 words between)
  where
    go : (o : Option Heard) → heard options 1 words between ≡ o → FoundBy (places_from 1 words Between) o → spelt options words ≡ None
    go None is by = ap (option_and_then said_once) (said-heard options 1 words between ∙ ap (option_and_then numbered) is)
    go (Some h) is by = absurd (cc)
