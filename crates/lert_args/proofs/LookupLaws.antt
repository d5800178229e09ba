-- The place of an option by its name, and its value there.
use Rattle.std.proofs.Common.{◌≡◌, ◌∙◌, ℕ, zero, suc, ◌+◌, ◌<◌, ◌≤◌, Bool, true, false, cond, ◌||◌, not, ltb, List, [], ◌∷◌, length, get_or, map}
use Rattle.std.proofs.Common.{Option, Some, None, MatchOption, refl, ap, sym, arith, Bor}
use Rattle.std.specs.List.{position_or_len}
use Rattle.std.specs.Str.{bytes_eq}
use Rattle.std.proofs.lemmas.Bool.{ltb-false, ltb-true}
use Rattle.lert_args.specs.Said.{Said, is_among, value_given}
use Rattle.lert_args.specs.Lookups.{texts}
use Rattle.lert_args.proofs.Texts.{equal_texts}

-- the place of a name among options
record Finds (options : List (Bor (List ℕ))) (name : List ℕ) (place : ℕ) : Type 0 where
  found : place < length options → (is_among (texts options) name ≡ true) × (get_or (texts options) place [] ≡ name)
  missing : length options ≤ place → is_among (texts options) name ≡ false

finds_next : (b : Bool) (option : Bor (List ℕ)) (options : List (Bor (List ℕ))) (name : List ℕ) (place : ℕ) → bytes_eq option.now name ≡ b → Finds options name place →
    Finds (option ∷ options) name (cond (not b) (1 + place) 0)
finds_next true option options name place is finds = record {
  found = λ within. (ap (λ b. b || is_among (texts options) name) is, equal_texts option.now name is);
  missing = λ past. absurd (omega arith);
}
finds_next false option options name place is finds = record {
  found = λ within.
      let both = finds.found (omega arith) in
      let step : 1 + place ≡ suc place = omega arith in
      (ap (λ b. b || is_among (texts options) name) is ∙ both.0, ap (λ n. get_or (texts (option ∷ options)) n []) step ∙ both.1);
  missing = λ past. ap (λ b. b || is_among (texts options) name) is ∙ finds.missing (omega arith);
}

finds : (options : List (Bor (List ℕ))) (name : List ℕ) → Finds options name (position_or_len (λ option. bytes_eq option.now name) options)
finds [] name = record { found = λ within. absurd (omega arith); missing = λ past. refl }
finds (option ∷ options) name =
    finds_next (bytes_eq option.now name) option options name (position_or_len (λ option. bytes_eq option.now name) options) refl (finds options name)

pub found_place : (options : List (Bor (List ℕ))) (name : List ℕ) (result : Option ℕ) →
    result ≡ cond (ltb (position_or_len (λ option. bytes_eq option.now name) options) (length options)) (Some (position_or_len (λ option. bytes_eq option.now name) options)) None →
    MatchOption result (is_among (texts options) name ≡ false)
    (λ place. (place < length options) × (is_among (texts options) name ≡ true) × (get_or (texts options) place [] ≡ name))
found_place options name result is =
    by_test (ltb (position_or_len (λ option. bytes_eq option.now name) options) (length options)) result is refl
  where
    by_test : (b : Bool) (r : Option ℕ) → r ≡ cond b (Some (position_or_len (λ option. bytes_eq option.now name) options)) None →
        ltb (position_or_len (λ option. bytes_eq option.now name) options) (length options) ≡ b →
        MatchOption r (is_among (texts options) name ≡ false)
        (λ place. (place < length options) × (is_among (texts options) name ≡ true) × (get_or (texts options) place [] ≡ name))
    by_test true (Some place) is within =
        let same : position_or_len (λ option. bytes_eq option.now name) options ≡ place = cc in
        let below = ltb-true (position_or_len (λ option. bytes_eq option.now name) options) (length options) within in
        let both = (finds options name).found below in
        (omega (arith, same, below), both.0, ap (λ n. get_or (texts options) n []) (sym same) ∙ both.1)
    by_test true None is within = absurd (cc)
    by_test false (Some place) is within = absurd (cc)
    by_test false None is within = (finds options name).missing (ltb-false (position_or_len (λ option. bytes_eq option.now name) options) (length options) within)

-- the value that is held of an option at a place
at_text : (f : List ℕ → Option ℕ) (options : List (Bor (List ℕ))) (k : ℕ) (d : Option ℕ) → k < length options →
    get_or (map (λ option. f option.now) options) k d ≡ f (get_or (texts options) k [])
at_text f [] k d below = absurd (omega arith)
at_text f (option ∷ options) zero d below = refl
at_text f (option ∷ options) (suc k) d below = at_text f options k d (omega arith)

-- the value of an option, by its place
pub value_at : (s : Said) (options : List (Bor (List ℕ))) (values : List (Option ℕ)) (place : ℕ) (value : Option ℕ) (name : List ℕ) →
    value ≡ get_or values place value → values ≡ map (λ option. value_given s option.now) options → place < length options → get_or (texts options) place [] ≡ name →
    value ≡ value_given s name
value_at s options values place value name at are within named =
    at ∙ ap (λ xs. get_or xs place value) are ∙ at_text (value_given s) options place value within ∙ ap (value_given s) named
