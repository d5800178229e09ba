-- Words that are read one after another, in their order, say what is defined from the last one on.
use Rattle.std.proofs.Common.{◌≡◌, ℕ, ◌+◌, Bool, true, false, cond, ◌&&◌, ◌||◌, not, List, [], ◌∷◌, ◌++◌, Option, Some, None, refl, ap, ap₂, sym, ◌∙◌, append_assoc}
use Rattle.std.specs.Prelude.{option_map, option_and_then}
use Rattle.std.specs.Str.{bytes_eq}
use Rattle.std.proofs.lemmas.List.{map-append}
use Rattle.std.proofs.lemmas.List.Folds.{list_any-append}
use Rattle.lert_args.specs.Word.{is_late_name, number_of}
use Rattle.lert_args.specs.Said.{Given, Kind, ends, awaits, valued, named, refused, Reading, between, value_of, behind, Said, are_distinct, is_among, kind_of, said, said_by, said_once}
use Rattle.lert_args.specs.Said.{said_with, with_name, with_value}
use Rattle.lert_words_tests.specs.Steps.{State, after_kind, after_reading, after_word, giving, names_of_given, naming}
use Rattle.lert_args.proofs.Texts.{equal_texts, same_text, text_swap}
use Rattle.lert_words_tests.proofs.ValueLaws.{neither}

-- what words say behind these options and names
abbrev pub prepend : List Given → List ℕ → Option Said → Option Said
prepend given names = option_map (λ s. record { given = given ++ s.given; names = names ++ s.names })

abbrev pub said_behind : State → Option Said → Option Said
said_behind s others = option_and_then said_once (prepend s.given s.names others)

-- what words say from a state on, of which the first stands at this place
abbrev pub spelt_from : List (List ℕ) → State → ℕ → List (List ℕ) → Option Said
spelt_from options s place words = said_behind s (said options place words s.reading)

-- what words say behind a step
abbrev pub onwards : Option State → (Reading → Option Said) → Option Said
onwards None others = None
onwards (Some s) others = said_behind s (others s.reading)

or_true : (a : Bool) → (a || true) ≡ true
or_true true = refl
or_true false = refl

and_false : (a : Bool) → (a && false) ≡ false
and_false true = refl
and_false false = refl

-- a name that is given twice
among_behind : (xs ys : List (List ℕ)) (y : List ℕ) → is_among (xs ++ y ∷ ys) y ≡ true
among_behind [] ys y = ap (λ b. b || is_among ys y) (same_text y)
among_behind (x ∷ xs) ys y = ap (λ b. bytes_eq x y || b) (among_behind xs ys y) ∙ or_true (bytes_eq x y)

twice_next : (a b first others : Bool) → (a || b) ≡ true → (a ≡ true → first ≡ true) → (b ≡ true → others ≡ false) → (not first && others) ≡ false
twice_next true b first others is here there = ap (λ t. not t && others) (here refl)
twice_next false b first others is here there = ap (λ t. not first && t) (there is) ∙ and_false (not first)

twice : (xs ys : List (List ℕ)) (y : List ℕ) → is_among xs y ≡ true → are_distinct (xs ++ y ∷ ys) ≡ false
twice [] ys y is = absurd (cc)
twice (x ∷ xs) ys y is =
    twice_next (bytes_eq x y) (is_among xs y) (is_among (xs ++ y ∷ ys) x) (are_distinct (xs ++ y ∷ ys)) is
    (λ same. ap (is_among (xs ++ y ∷ ys)) (equal_texts x y same) ∙ among_behind xs ys y) (λ again. twice xs ys y again)

both : (a b : Bool) → (not a && b) ≡ true → (a ≡ false) × (b ≡ true)
both true b is = absurd (cc)
both false b is = (refl, is)

pub distinct-push : (xs : List (List ℕ)) (y : List ℕ) → are_distinct xs ≡ true → is_among xs y ≡ false → are_distinct (xs ++ y ∷ []) ≡ true
distinct-push [] y are absent = refl
distinct-push (x ∷ xs) y are absent =
    let apart = neither (bytes_eq x y) (is_among xs y) absent in
    let others = both (is_among xs x) (are_distinct xs) are in
    let swapped : bytes_eq y x ≡ false = text_swap y x ∙ apart.0 in
    let first : is_among (xs ++ y ∷ []) x ≡ false =
    list_any-append (λ option. bytes_eq option x) xs (y ∷ []) ∙ ap₂ (λ a b. a || (b || false)) others.0 swapped in
    ap₂ (λ a b. not a && b) first (distinct-push xs y others.1 apart.1)

module _ (s : State) (others : Reading → Option Said) where
  by_giving : (name : List ℕ) (number : Option ℕ) → said_behind s (with_value name number (others between)) ≡ onwards (giving s name number) others
  by_giving name None = refl
  by_giving name (Some value) = by_rest (others between) (is_among (names_of_given s.given) name) refl ∙ sym (by_test (is_among (names_of_given s.given) name))
    where
      one : Given
      one = record { name = name; value = value }

      given_more : State
      given_more = record { given = s.given ++ one ∷ []; names = s.names; reading = between }

      by_test : (b : Bool) → onwards (cond b None (Some given_more)) others ≡ cond b None (said_behind given_more (others between))
      by_test true = refl
      by_test false = refl

      by_rest : (rest : Option Said) (b : Bool) → is_among (names_of_given s.given) name ≡ b →
          said_behind s (with_value name (Some value) rest) ≡ cond b None (said_behind given_more rest)
      by_rest None true is = refl
      by_rest None false is = refl
      by_rest (Some rest) true is =
          ap (λ b. cond b (Some (record { given = s.given ++ one ∷ rest.given; names = s.names ++ rest.names })) None)
          (ap are_distinct (map-append (λ g. g.name) s.given (one ∷ rest.given)) ∙ twice (names_of_given s.given) (names_of_given rest.given) name is)
      by_rest (Some rest) false is =
          ap (λ given. said_once (record { given = given; names = s.names ++ rest.names })) (sym (append_assoc s.given (one ∷ []) rest.given))

  by_naming : (place : ℕ) (reading : Reading) → said_behind s (with_name place (others reading)) ≡ onwards (naming s place reading) others
  by_naming place reading = by_rest (others reading)
    where
      by_rest : (rest : Option Said) → said_behind s (with_name place rest) ≡ said_behind (record { given = s.given; names = s.names ++ place ∷ []; reading = reading }) rest
      by_rest None = refl
      by_rest (Some rest) =
          ap (λ names. said_once (record { given = s.given ++ rest.given; names = names })) (sym (append_assoc s.names (place ∷ []) rest.names))

  by_kind : (place : ℕ) (kind : Kind) → said_behind s (said_by place kind others) ≡ onwards (after_kind s place kind) others
  by_kind place ends = refl
  by_kind place (awaits name) = refl
  by_kind place (valued name value) = by_giving name (number_of value)
  by_kind place named = by_naming place between
  by_kind place refused = refl

  by_late : (place : ℕ) (b : Bool) → said_behind s (cond b (with_name place (others behind)) None) ≡ onwards (cond b (naming s place behind) None) others
  by_late place true = by_naming place behind
  by_late place false = refl

  by_reading : (options : List (List ℕ)) (place : ℕ) (word : List ℕ) (reading : Reading) →
      said_behind s (said_with options reading place word others) ≡ onwards (after_reading options s place word reading) others
  by_reading options place word between = by_kind place (kind_of options word)
  by_reading options place word (value_of name) = by_giving name (number_of word)
  by_reading options place word behind = by_late place (is_late_name word)

-- a word more
pub spelt_from-more : (options : List (List ℕ)) (s : State) (place : ℕ) (word : List ℕ) (words : List (List ℕ)) →
    spelt_from options s place (word ∷ words) ≡ onwards (after_word options s place word) (said options (place + 1) words)
spelt_from-more options s place word words = by_reading s (said options (place + 1) words) options place word s.reading
