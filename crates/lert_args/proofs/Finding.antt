-- The places of the names that words say are those that the scan finds.
use Rattle.std.proofs.Common.{◌≡◌, ℕ, ◌+◌, Bool, true, false, cond, List, [], ◌∷◌, Option, Some, None, refl, sym, ap, subst, option_map}
use Rattle.std.specs.{Prelude.option_and_then, List.{list_any, before_first, after_first}}
use Rattle.lert_args.specs.{Word.{is_hyphened, is_late_name}, Said.{Reading, awaits, behind, between, is_among, is_equals_sign, option_kind, refused, value_of, valued}}
use Rattle.lert_args.specs.{Scan.{places_by, places_from, turn_of, turn_of_option}, declared.scan.Stand.Stand, declared.scan.Turn.TheVariants.{Name, Other}}
use Rattle.lert_args.specs.declared.scan.Stand.TheVariants as stand
use Rattle.lert_args.proofs.{Heard.{Heard, heard, heard_by, heard_with, with_place, with_use}, Shapes.{Shape, is_end, is_named, is_option, is_other, kind_of-name, kind_of-none, shape, turn_of-name}}

abbrev pub stand_of : Reading → Stand
stand_of between = stand.Between
stand_of (value_of name) = stand.Value
stand_of behind = stand.Behind

-- what a scan found, of what was heard
abbrev pub FoundBy : Option (List ℕ) → Option Heard → Type 0
FoundBy found None = Unit {0}
FoundBy found (Some h) = found ≡ Some h.names

used : (found : Option (List ℕ)) (option text : List ℕ) (o : Option Heard) → FoundBy found o → FoundBy found (with_use option text o)
used found option text None by = tt
used found option text (Some h) by = by

placed : (found : Option (List ℕ)) (place : ℕ) (o : Option Heard) → FoundBy found o → FoundBy (option_map (λ places. place ∷ places) found) (with_place place o)
placed found place None by = tt
placed found place (Some h) by = ap (option_map (λ places. place ∷ places)) by

module _ (options : List (List ℕ)) (place : ℕ) (finds : Stand → Option (List ℕ)) (hears : Reading → Option Heard) (same : (r : Reading) → FoundBy (finds (stand_of r)) (hears r)) where
  found_option : (byte : ℕ) (bytes : List ℕ)
      → FoundBy (places_by place finds (turn_of_option (byte ∷ bytes))) (heard_by place (option_kind options (byte ∷ bytes)) hears)
  found_option byte bytes = go (list_any is_equals_sign (byte ∷ bytes)) (is_among options (before_first is_equals_sign (byte ∷ bytes)))
    where
      go : (has known : Bool) → FoundBy (places_by place finds (cond has (Other stand.Between) (Other stand.Value)))
          (heard_by place (cond known (cond has (valued (before_first is_equals_sign (byte ∷ bytes)) (after_first is_equals_sign (byte ∷ bytes))) (awaits (byte ∷ bytes))) refused) hears)
      go true true = used _ (before_first is_equals_sign (byte ∷ bytes)) (after_first is_equals_sign (byte ∷ bytes)) (hears between) (same between)
      go false true = same (value_of (byte ∷ bytes))
      go true false = tt
      go false false = tt

  abbrev FoundWord : Reading → List ℕ → Type 0
  FoundWord reading word = FoundBy (option_and_then (places_by place finds) (turn_of (stand_of reading) word)) (heard_with options reading place word hears)

  found_between : (word : List ℕ) → Shape word → FoundWord between word
  found_between word (is_end is) =
      let at : FoundWord between (45 ∷ 45 ∷ []) = same behind in
      subst (FoundWord between) (sym is) at
  found_between word (is_option byte bytes is) = subst (FoundWord between) (sym is) (found_option byte bytes)
  found_between word (is_named byte bytes differs is) =
      let at : FoundWord between (byte ∷ bytes) = rw (kind_of-name options byte bytes differs, turn_of-name byte bytes differs) (placed _ place (hears between) (same between)) in
      subst (FoundWord between) (sym is) at
  found_between word (is_other none) = rw (kind_of-none options word none) tt

  found_word : (reading : Reading) (word : List ℕ) → FoundWord reading word
  found_word between word = found_between word (shape word)
  found_word (value_of option) word = go (is_hyphened word)
    where
      go : (b : Bool) → FoundBy (option_and_then (places_by place finds) (cond b None (Some (Other stand.Between)))) (cond b None (with_use option word (hears between)))
      go true = tt
      go false = used _ option word (hears between) (same between)
  found_word behind word = go (is_late_name word)
    where
      go : (b : Bool) → FoundBy (option_and_then (places_by place finds) (cond b (Some (Name stand.Behind)) None)) (cond b (with_place place (hears behind)) None)
      go true = placed _ place (hears behind) (same behind)
      go false = tt

-- where words are heard, the scan finds the places of their names
pub found : (options : List (List ℕ)) (place : ℕ) (words : List (List ℕ)) (reading : Reading)
    → FoundBy (places_from place words (stand_of reading)) (heard options place words reading)
found options place [] between = refl
found options place [] (value_of option) = tt
found options place [] behind = refl
found options place (word ∷ words) reading =
    found_word options place (places_from (place + 1) words) (heard options (place + 1) words) (λ r. found options (place + 1) words r) reading word
