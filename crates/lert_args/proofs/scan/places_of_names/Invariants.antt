use Rattle.std.proofs.Common.{◌≡◌, ◌≤◌, ◌+◌, ◌++◌, drop, length, map, vec_len, vec_capacity}
use Rattle.std.specs.Prelude.{option_map}
use Rattle.lert_args.specs.{Scan.places_from, declared.scan.Stand.TheVariants.Between}
use Rattle.lert_args.proofs.scan.places_of_names.Given as goal

-- the places so far, and those to come, are all; there is room for all
abbrev pub invariant-loop-index : goal.invariant-loop-index
invariant-loop-index l = record {
  all : option_map (λ places. l.places.items ++ places) (places_from (l.index + 1) (map (λ word. word.now) (drop l.index l.words)) l.stand)
      ≡ places_from 1 (map (λ word. word.now) l.words) Between;
  room : length l.words ≤ vec_capacity l.places;
  number : vec_len l.places ≤ l.index;
}
