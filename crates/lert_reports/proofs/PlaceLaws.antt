-- What stands in a payload from a place on, piece by piece.
use Rattle.std.proofs.{Common.{◌≡◌, ℕ, ◌+◌, ◌<◌, ◌^◌, List, ◌∷◌, ◌++◌, length, drop, get_or, refl, sym, ap, ◌∙◌, arith, length-append}, lemmas.List.{drop-drop, drop_at, get_or-drop}}
use Rattle.std.specs.Prelude.{slice_index}
use Rattle.byteorder.specs.{Endian.{little_number, little_bytes}, Numbers.little_number-reads_back}
use Rattle.lert_reports.specs.LogText.{number_in}

-- from a place on, these bytes are the rest of a payload
pub record Stands (payload : List ℕ) (place : ℕ) (rest : List ℕ) : Type 0 where
  pub within : place + length rest ≡ length payload
  pub is : drop place payload ≡ rest

-- behind some of them the others stand
pub stands_behind : (payload front rest : List ℕ) (place next : ℕ) → place + length front ≡ next → Stands payload place (front ++ rest) → Stands payload next rest
stands_behind payload front rest place next next_is stands = record {
  within = omega (arith, next_is, stands.within, length-append front rest);
  is =
      ap (λ n. drop n payload) (sym next_is)
      ∙ (sym (drop-drop (length front) place payload)
      ∙ (ap (drop (length front)) stands.is
      ∙ drop_at front rest (length front) refl));
}

-- the byte there
pub byte_there : (payload rest : List ℕ) (place byte : ℕ) → Stands payload place (byte ∷ rest) → slice_index payload place ≡ byte
byte_there payload rest place byte stands =
    ap (λ k. get_or payload k 0) (let same : place ≡ place + 0 = omega arith in same)
    ∙ (sym (get_or-drop place payload 0 0)
    ∙ ap (λ bytes. get_or bytes 0 0) stands.is)

-- the number there
pub number_there : (payload rest : List ℕ) (size place number : ℕ) → number < 256 ^ size → Stands payload place (little_bytes size number ++ rest) →
    number_in size payload place ≡ number
number_there payload rest size place number fits stands = ap (little_number size) stands.is ∙ little_number-reads_back size number rest fits
