-- What a merge picks for a part: what belongs to its two streams, or its one.
use Rattle.std.proofs.Common.{ℕ, ◌≡◌, ◌+◌, ◌<◌, ◌≤◌, zero, suc, true, false, List, [], ◌∷◌, length, get_or, Option, Some, None, refl, ap, sym, ◌∙◌, arith, inl, inr, ◌⊎◌}
use Rattle.std.proofs.{lemmas.Bool.{eq-eqb, ne_eqb}, lemmas.Option.none-some}
use Rattle.lert_levels.specs.{flush.Merged.{is_of, pick, picked}, declared.rows.bin_at.BinAt.BinAt, Parts.{streams_to, oldest_stream, newest_in, in_part, part_at, HaveParts, ArePartsOf}}
use Rattle.lert_spec.specs.declared.numbers.Numbers.{Numbers}
use Rattle.lert_levels.proofs.PartLaws.{oldest_below, newest_above, streams_grow}

own_is : (own : Option ℕ) (part : ℕ) → own ≡ Some part → is_of own part ≡ true
own_is None part is = absurd (none-some part is)
own_is (Some one) part is = eq-eqb one part (let same : one ≡ part = cc in same)

own_not : (own : Option ℕ) (part : ℕ) → (own ≡ Some part → ⊥) → is_of own part ≡ false
own_not None part never = refl
own_not (Some one) part never = ne_eqb one part (λ same. never (ap Some same))

module _ {A : Type 0} where
  -- nothing of the part
  picked_none : (parts : List (Option ℕ)) (part : ℕ) (xs : List A) → ((stream : ℕ) → get_or parts stream None ≡ Some part → ⊥) → picked parts part xs ≡ []
  picked_none [] part xs never = refl
  picked_none (own ∷ parts) part [] never = refl
  picked_none (own ∷ parts) part (x ∷ xs) never =
      ap (λ t. pick t x (picked parts part xs)) (own_not own part (never 0)) ∙ picked_none parts part xs (λ stream. never (suc stream))

  -- one stream is of it
  picked_one : (parts : List (Option ℕ)) (part : ℕ) (xs : List A) (e : A) (a : ℕ) → length parts ≡ length xs → a < length xs → get_or parts a None ≡ Some part →
      ((stream : ℕ) → get_or parts stream None ≡ Some part → stream ≡ a) → picked parts part xs ≡ get_or xs a e ∷ []
  picked_one [] part xs e a len below is only = absurd (omega (arith, len, below))
  picked_one (own ∷ parts) part [] e a len below is only = absurd (omega (arith, below))
  picked_one (own ∷ parts) part (x ∷ xs) e zero len below is only =
      ap (λ t. pick t x (picked parts part xs)) (own_is own part is)
      ∙ ap (λ rest. x ∷ rest) (picked_none parts part xs (λ stream there. absurd (let same = only (suc stream) there in omega (arith, same))))
  picked_one (own ∷ parts) part (x ∷ xs) e (suc a) len below is only =
      ap (λ t. pick t x (picked parts part xs)) (own_not own part (λ here. absurd (let same = only 0 here in omega (arith, same))))
      ∙ picked_one parts part xs e a (omega (arith, len)) (omega (arith, below)) is (λ stream there. let same = only (suc stream) there in omega (arith, same))

  -- two are
  picked_two : (parts : List (Option ℕ)) (part : ℕ) (xs : List A) (e : A) (a b : ℕ) → length parts ≡ length xs → a < b → b < length xs →
      get_or parts a None ≡ Some part → get_or parts b None ≡ Some part →
      ((stream : ℕ) → get_or parts stream None ≡ Some part → (stream ≡ a) ⊎ (stream ≡ b)) → picked parts part xs ≡ get_or xs a e ∷ get_or xs b e ∷ []
  picked_two [] part xs e a b len less below is is_b only = absurd (omega (arith, len, below))
  picked_two (own ∷ parts) part [] e a b len less below is is_b only = absurd (omega (arith, below))
  picked_two (own ∷ parts) part (x ∷ xs) e zero zero len less below is is_b only = absurd (omega (arith, less))
  picked_two (own ∷ parts) part (x ∷ xs) e (suc a) zero len less below is is_b only = absurd (omega (arith, less))
  picked_two (own ∷ parts) part (x ∷ xs) e zero (suc b) len less below is is_b only =
      ap (λ t. pick t x (picked parts part xs)) (own_is own part is)
      ∙ ap (λ rest. x ∷ rest) (picked_one parts part xs e b (omega (arith, len)) (omega (arith, below)) is_b (λ stream there. elim (only (suc stream) there) [
        | inl same ↦ absurd (omega (arith, same))
        | inr same ↦ omega (arith, same)
      ]))
  picked_two (own ∷ parts) part (x ∷ xs) e (suc a) (suc b) len less below is is_b only =
      ap (λ t. pick t x (picked parts part xs)) (own_not own part (λ here. elim (only 0 here) [
        | inl same ↦ absurd (omega (arith, same))
        | inr same ↦ absurd (omega (arith, same))
      ]))
      ∙ picked_two parts part xs e a b (omega (arith, len)) (omega (arith, less)) (omega (arith, below)) is is_b (λ stream there. elim (only (suc stream) there) [
        | inl same ↦ inl (omega (arith, same))
        | inr same ↦ inr (omega (arith, same))
      ])

  picked_in : (parts : List (Option ℕ)) (part : ℕ) (xs : List A) (e : A) (oldest : ℕ) (newest : Option ℕ) → length parts ≡ length xs → oldest < length xs →
      ((stream : ℕ) → newest ≡ Some stream → (oldest < stream) × (stream < length xs)) →
      ((stream : ℕ) → (stream ≡ oldest) ⊎ (newest ≡ Some stream) → get_or parts stream None ≡ Some part) →
      ((stream : ℕ) → get_or parts stream None ≡ Some part → (stream ≡ oldest) ⊎ (newest ≡ Some stream)) →
      picked parts part xs ≡ get_or xs oldest e ∷ newest_in e xs newest
  picked_in parts part xs e oldest None len below above each only =
      picked_one parts part xs e oldest len below (each oldest (inl refl)) (λ stream there. elim (only stream there) [
        | inl same ↦ same
        | inr is ↦ absurd (none-some stream is)
      ])
  picked_in parts part xs e oldest (Some other) len below above each only =
      let here = above other refl in
      picked_two parts part xs e oldest other len here.0 here.1 (each oldest (inl refl)) (each other (inr refl)) (λ stream there. elim (only stream there) [
        | inl same ↦ inl same
        | inr is ↦ inr (let same : stream ≡ other = cc in same)
      ])

-- what is picked for the part of a level
pub picked_part : {A : Type 0} (s : Numbers) (m young : ℕ) (rows : List (List BinAt)) (some : 1 ≤ young) (have : HaveParts s m rows) (parts : List (Option ℕ)) (xs : List A) (e : A) →
    ArePartsOf s m young rows (streams_to young rows (length rows)) (length rows) parts → length xs ≡ streams_to young rows (length rows) → (k : ℕ) → k < length rows →
    picked parts k xs ≡ in_part e xs (part_at s m young rows k)
picked_part s m young rows some have parts xs e are len k below =
    let oldest = oldest_below s m young rows some have k below in
    let grown = streams_grow young rows k (length rows) (omega (arith, below)) in
    let upto = streams_grow young rows (k + 1) (length rows) (omega (arith, below)) in
    picked_in parts k xs e (oldest_stream young rows k) (part_at s m young rows k).newest (are.len ∙ sym len) (omega (arith, oldest, grown, len))
    (λ stream is. let above = newest_above s m young rows some have k stream below is in (omega (arith, oldest, above.0), omega (arith, above.1, upto, len)))
    (λ stream of. are.each k stream below of)
    (λ stream there. (are.no_other stream k there).1)
