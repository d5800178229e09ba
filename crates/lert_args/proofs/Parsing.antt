-- What a parse of decimal digits says of the number that a word spells.
use Rattle.std.proofs.Common.{◌≡◌, ℕ, ◌<◌, ◌≤◌, ◌^◌, Bool, true, false, ◌&&◌, ltb, leb, cond, List, length, Some, None, Result, Ok, Err, ap, sym, ◌∙◌, rules, lt-ltb, le-leb, le-ltb, inl, inr}
use Rattle.std.proofs.{lemmas.Bool.cases_lt, lemmas.Str.Parse.{IsNumeralModel, numerals_by_value, parse_digits}}
use Rattle.std.specs.{Char.is_ascii_digit, List.list_all, Result.{OkIff, result_ok}, Str.Parse.{digits_value, ParsesUnsigned}}
use Rattle.lert_args.specs.Word.{number_of}

digits : IsNumeralModel (λ ds. list_all is_ascii_digit ds ≡ true) (digits_value 10)
digits = numerals_by_value _ (search rules)

module _ (word : List ℕ) (some : 0 < length word) (few : length word ≤ 20) (all : list_all is_ascii_digit word ≡ true) where
  number_of-digits : (b : Bool) → ltb (digits_value 10 word) 18446744073709551616 ≡ b → number_of word ≡ cond b (Some (digits_value 10 word)) None
  number_of-digits b fits =
      ap (λ x. cond (x && leb (length word) 20 && list_all is_ascii_digit word && ltb (digits_value 10 word) 18446744073709551616) (Some (digits_value 10 word)) None)
      (lt-ltb 0 (length word) some)
      ∙ ap (λ x. cond (x && list_all is_ascii_digit word && ltb (digits_value 10 word) 18446744073709551616) (Some (digits_value 10 word)) None) (le-leb (length word) 20 few)
      ∙ ap (λ x. cond (x && ltb (digits_value 10 word) 18446744073709551616) (Some (digits_value 10 word)) None) all
      ∙ ap (λ x. cond x (Some (digits_value 10 word)) None) fits

  parsed : {E : Type 0} (r : Result ℕ E) → OkIff r ((0 < length word) × (digits_value 10 word < 2 ^ 64)) (digits_value 10 word) → result_ok r ≡ number_of word
  parsed (Ok x) is =
      ap Some is.1 ∙ sym (number_of-digits true (lt-ltb _ 18446744073709551616 is.0.1))
  parsed (Err e) is =
      elim (cases_lt (digits_value 10 word) 18446744073709551616) [
        | inl below ↦ absurd (is (some, below))
        | inr above ↦ sym (number_of-digits false (le-ltb _ 18446744073709551616 above))
      ]

  pub number_of-parsed : {E : Type 0} (r : Result ℕ E) → ParsesUnsigned 64 10 word r → result_ok r ≡ number_of word
  number_of-parsed r parses = parsed r (parse_digits digits 64 word r parses all)
