-- What the scan says of the words behind a word that it takes.
use Rattle.std.proofs.Common.{◌≡◌, ◌∙◌, ℕ, ◌+◌, Bool, true, false, cond, List, ◌∷◌, Option, Some, None, refl, sym, ap, option_map, true≢false}
use Rattle.std.specs.{Prelude.{◌==◌, is_some, option_and_then}, List.list_any}
use Rattle.lert_args.specs.{Word.{is_hyphened, is_late_name}, Said.is_equals_sign, Scan.{places_by, places_from, turn_between}, declared.scan.Stand.Stand}
use Rattle.lert_args.specs.{declared.scan.Stand.TheVariants.{Behind, Between, Value}, declared.scan.Turn.Turn, declared.scan.Turn.TheVariants.{Name, Other}}
use Rattle.lert_args.proofs.Shapes.{turn_of-name}

-- the scan takes the words, of which the first stands at this place
abbrev pub IsTaken : ℕ → List (List ℕ) → Stand → Type 0
IsTaken place words from = is_some (places_from place words from) ≡ true

some_mapped : (place : ℕ) (o : Option (List ℕ)) → is_some (option_map (λ places. place ∷ places) o) ≡ true → is_some o ≡ true
some_mapped place None is = is
some_mapped place (Some places) is = refl

module _ (place : ℕ) (words : List (List ℕ)) where
  abbrev TakenBy : Option Turn → Type 0
  TakenBy turn = is_some (option_and_then (places_by place (places_from (place + 1) words)) turn) ≡ true

  pub taken_behind : (word : List ℕ) → IsTaken place (word ∷ words) Behind → (is_late_name word ≡ true) × IsTaken (place + 1) words Behind
  taken_behind word taken = go (is_late_name word) taken
    where
      go : (b : Bool) → TakenBy (cond b (Some (Name Behind)) None) → (b ≡ true) × IsTaken (place + 1) words Behind
      go true taken = (refl, some_mapped place (places_from (place + 1) words Behind) taken)
      go false taken = absurd (true≢false (sym taken))

  pub taken_value : (word : List ℕ) → IsTaken place (word ∷ words) Value → (is_hyphened word ≡ false) × IsTaken (place + 1) words Between
  taken_value word taken = go (is_hyphened word) taken
    where
      go : (b : Bool) → TakenBy (cond b None (Some (Other Between))) → (b ≡ false) × IsTaken (place + 1) words Between
      go false taken = (refl, taken)
      go true taken = absurd (true≢false (sym taken))

  pub taken_name : (byte : ℕ) (bytes : List ℕ) → (byte == 45) ≡ false → IsTaken place ((byte ∷ bytes) ∷ words) Between → IsTaken (place + 1) words Between
  taken_name byte bytes differs taken =
      some_mapped place (places_from (place + 1) words Between)
      (sym (ap (λ t. is_some (option_and_then (places_by place (places_from (place + 1) words)) t)) (turn_of-name byte bytes differs)) ∙ taken)

  pub taken_valued : (byte : ℕ) (bytes : List ℕ) → list_any is_equals_sign (byte ∷ bytes) ≡ true → IsTaken place ((45 ∷ 45 ∷ byte ∷ bytes) ∷ words) Between
      → IsTaken (place + 1) words Between
  taken_valued byte bytes has taken = sym (ap (λ b. is_some (places_by place (places_from (place + 1) words) (cond b (Other Between) (Other Value)))) has) ∙ taken

  pub taken_bare : (byte : ℕ) (bytes : List ℕ) → list_any is_equals_sign (byte ∷ bytes) ≡ false → IsTaken place ((45 ∷ 45 ∷ byte ∷ bytes) ∷ words) Between
      → IsTaken (place + 1) words Value
  taken_bare byte bytes has taken = sym (ap (λ b. is_some (places_by place (places_from (place + 1) words) (cond b (Other Between) (Other Value)))) has) ∙ taken

  pub not_taken : (word : List ℕ) → turn_between word ≡ None → IsTaken place (word ∷ words) Between → ⊥
  not_taken word none taken = true≢false (sym taken ∙ ap (λ t. is_some (option_and_then (places_by place (places_from (place + 1) words)) t)) none)
