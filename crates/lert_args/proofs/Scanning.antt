-- One more word of the scan for the places of names.
use Rattle.std.proofs.Common.{◌≡◌, ◌∙◌, ℕ, ◌+◌, ◌<◌, ◌≤◌, List, [], ◌∷◌, ◌++◌, length, map, drop, get_or, Option, Some, None, refl, sym, ap, append_assoc, append-nil}
use Rattle.std.proofs.lemmas.List.{at_drop_more, at_drop_all}
use Rattle.std.specs.{Borrow.Bor, Prelude.{option_and_then, option_map}}
use Rattle.lert_args.specs.{Scan.{places_by, places_from, turn_of}, declared.scan.Stand.Stand, declared.scan.Turn.Turn, declared.scan.Turn.TheVariants.{Name, Other}}

pushed : (so_far : List ℕ) (place : ℕ) (o : Option (List ℕ)) →
    option_map (λ places. so_far ++ places) (option_map (λ places. place ∷ places) o) ≡ option_map (λ places. (so_far ++ place ∷ []) ++ places) o
pushed so_far place None = refl
pushed so_far place (Some places) = ap Some (sym (append_assoc so_far (place ∷ []) places))

module _ (words : List (Bor (List ℕ))) (stand : Stand) (i : ℕ) (so_far : List ℕ) (total : Option (List ℕ))
    (all : option_map (λ places. so_far ++ places) (places_from (i + 1) (map (λ word. word.now) (drop i words)) stand) ≡ total) where
  abbrev others : Stand → Option (List ℕ)
  others next = places_from (i + 1 + 1) (map (λ (w : Bor (List ℕ)). w.now) (drop (i + 1) words)) next

  by_turn : (d : Bor (List ℕ)) (turn : Option Turn) → i < length words → turn ≡ turn_of stand (get_or words i d).now →
      total ≡ option_map (λ places. so_far ++ places) (option_and_then (places_by (i + 1) others) turn)
  by_turn d turn within is =
      sym all
      ∙ ap (λ xs. option_map (λ places. so_far ++ places) (places_from (i + 1) (map (λ (w : Bor (List ℕ)). w.now) xs) stand)) (at_drop_more (λ xs. xs) words i d within)
      ∙ ap (λ t. option_map (λ places. so_far ++ places) (option_and_then (places_by (i + 1) others) t)) (sym is)

  -- a word that no line has there
  pub nothing : (d : Bor (List ℕ)) (turn : Option Turn) → i < length words → turn ≡ turn_of stand (get_or words i d).now → turn ≡ None → total ≡ None
  nothing d turn within is none =
      by_turn d turn within is ∙ ap (λ t. option_map (λ places. so_far ++ places) (option_and_then (places_by (i + 1) others) t)) none

  -- another word, and a name, whose place is kept
  pub passed : (d : Bor (List ℕ)) (turn : Option Turn) (next : Stand) (kept : List ℕ) → i < length words → turn ≡ turn_of stand (get_or words i d).now →
      turn ≡ Some (Other next) → kept ≡ so_far → option_map (λ places. kept ++ places) (others next) ≡ total
  passed d turn next kept within is other same =
      ap (λ xs. option_map (λ places. xs ++ places) (others next)) same
      ∙ ap (λ t. option_map (λ places. so_far ++ places) (option_and_then (places_by (i + 1) others) t)) (sym other)
      ∙ sym (by_turn d turn within is)

  pub named : (d : Bor (List ℕ)) (turn : Option Turn) (next : Stand) (kept : List ℕ) → i < length words → turn ≡ turn_of stand (get_or words i d).now →
      turn ≡ Some (Name next) → kept ≡ so_far ++ (i + 1) ∷ [] → option_map (λ places. kept ++ places) (others next) ≡ total
  named d turn next kept within is name more =
      ap (λ xs. option_map (λ places. xs ++ places) (others next)) more
      ∙ sym (pushed so_far (i + 1) (others next))
      ∙ ap (λ t. option_map (λ places. so_far ++ places) (option_and_then (places_by (i + 1) others) t)) (sym name)
      ∙ sym (by_turn d turn within is)

  -- the end of the words
  pub ended : length words ≤ i → total ≡ Some so_far
  ended over =
      sym all
      ∙ ap (λ xs. option_map (λ places. so_far ++ places) (places_from (i + 1) (map (λ (w : Bor (List ℕ)). w.now) xs) stand)) (at_drop_all (λ xs. xs) words i over)
      ∙ ap Some (append-nil so_far)
