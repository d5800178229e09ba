-- The numbers that the values of options spell, option by option.
use Rattle.std.proofs.Common.{◌≡◌, ◌∙◌, ℕ, Bool, true, false, cond, ◌||◌, not, List, [], ◌∷◌, map, Option, Some, None, refl, sym, ap, subst, option_map, true≢false}
use Rattle.std.specs.{Prelude.{option_and_then, is_some, find}, List.list_all, Str.bytes_eq}
use Rattle.lert_args.specs.{App.is_read, Word.number_of, Said.{Given, are_distinct, is_among}}
use Rattle.lert_args.proofs.{Texts.{both, equal_texts, is_not, same_text}, Heard.{Use, numbered_use, numbers}}

-- the text that an option is given
abbrev pub text_of : List ℕ → List Use → Option (List ℕ)
text_of name uses = option_map (λ use_. use_.text) (find (λ use_. bytes_eq use_.name name) uses)

abbrev pub use_names : List Use → List (List ℕ)
use_names uses = map (λ use_. use_.name) uses

-- each option's value by the numbers, where all are numbers
abbrev pub value_in : List ℕ → List Given → Option ℕ
value_in name given = option_map (λ one. one.value) (find (λ one. bytes_eq one.name name) given)

-- what holds of the numbers of uses, where there are some
pub record Numbered (uses : List Use) (given : List Given) : Type 0 where
  pub names : map (λ one. one.name) given ≡ use_names uses
  pub values : (name : List ℕ) → value_in name given ≡ option_and_then number_of (text_of name uses)
  pub reads : (name : List ℕ) → is_read (text_of name uses) ≡ true

numbered_more : (name text : List ℕ) (uses : List Use) (given : List Given) (value : ℕ) → number_of text ≡ Some value → Numbered uses given
    → Numbered (record { name = name; text = text } ∷ uses) (record { name = name; value = value } ∷ given)
numbered_more name text uses given value is rest = record {
  names = ap (λ names. name ∷ names) rest.names;
  values = λ other. value_by other (bytes_eq name other);
  reads = λ other. read_by other (bytes_eq name other);
}
  where
    value_by : (other : List ℕ) (b : Bool)
        → option_map (λ one. one.value) (cond b (Some (record { name = name; value = value })) (find (λ one. bytes_eq one.name other) given))
        ≡ option_and_then number_of (option_map (λ use_. use_.text) (cond b (Some (record { name = name; text = text })) (find (λ use_. bytes_eq use_.name other) uses)))
    value_by other true = sym is
    value_by other false = rest.values other

    read_by : (other : List ℕ) (b : Bool)
        → is_read (option_map (λ use_. use_.text) (cond b (Some (record { name = name; text = text })) (find (λ use_. bytes_eq use_.name other) uses))) ≡ true
    read_by other true = ap is_some is
    read_by other false = rest.reads other

pub numbers_read : (uses : List Use) (given : List Given) → numbers uses ≡ Some given → Numbered uses given
numbers_read [] given is =
    let same : [] ≡ given = cc in
    subst (Numbered []) same (record { names = refl; values = λ name. refl; reads = λ name. refl })
numbers_read (one ∷ uses) given is = go (number_of one.text) (numbers uses) refl refl is (numbers_read uses)
  where
    go : (value : Option ℕ) (rest : Option (List Given)) → number_of one.text ≡ value → numbers uses ≡ rest → numbered_use one.name value rest ≡ Some given
        → ((others : List Given) → numbers uses ≡ Some others → Numbered uses others) → Numbered (one ∷ uses) given
    go None rest v r is more = absurd (cc)
    go (Some value) None v r is more = absurd (cc)
    go (Some value) (Some others) v r is more =
        let same : record { name = one.name; value = value } ∷ others ≡ given = cc in
        subst (Numbered (one ∷ uses)) same (numbered_more one.name one.text uses others value v (more others r))

-- a name that is among the uses has a text
among_text : (name : List ℕ) (uses : List Use) (text : List ℕ) → text_of name uses ≡ Some text → is_among (use_names uses) name ≡ true
among_text name [] text is = absurd (cc)
among_text name (one ∷ uses) text is = go (bytes_eq one.name name) is (among_text name uses text)
  where
    go : (b : Bool) → option_map (λ (u : Use). u.text) (cond b (Some one) (find (λ u. bytes_eq u.name name) uses)) ≡ Some text
        → (text_of name uses ≡ Some text → is_among (use_names uses) name ≡ true) → (b || is_among (use_names uses) name) ≡ true
    go true is more = refl
    go false is more = more is

-- where the options' texts are numbers, those of distinct names have numbers
pub numbers_exist : (options : List (List ℕ)) (uses : List Use) → are_distinct (use_names uses) ≡ true → list_all (is_among options) (use_names uses) ≡ true
    → ((name : List ℕ) → is_among options name ≡ true → is_read (text_of name uses) ≡ true) → is_some (numbers uses) ≡ true
numbers_exist options [] distinct among reads = refl
numbers_exist options (one ∷ uses) distinct among reads =
    let apart = both (not (is_among (use_names uses) one.name)) (are_distinct (use_names uses)) distinct in
    let known = both (is_among options one.name) (list_all (is_among options) (use_names uses)) among in
    more (number_of one.text) (numbers uses)
    (ap (λ b. is_read (option_map (λ (u : Use). u.text) (cond b (Some one) (find (λ u. bytes_eq u.name one.name) uses)))) (sym (same_text one.name)) ∙ reads one.name known.0)
    (numbers_exist options uses apart.1 known.1 (λ name of. later name apart.0 (reads name of)))
  where
    more : (value : Option ℕ) (rest : Option (List Given)) → is_some value ≡ true → is_some rest ≡ true → is_some (numbered_use one.name value rest) ≡ true
    more None rest v r = absurd (cc)
    more (Some value) None v r = absurd (cc)
    more (Some value) (Some rest) v r = refl

    later : (name : List ℕ) → not (is_among (use_names uses) one.name) ≡ true → is_read (text_of name (one ∷ uses)) ≡ true → is_read (text_of name uses) ≡ true
    later name apart read = by_name (bytes_eq one.name name) refl read
      where
        by_name : (b : Bool) → bytes_eq one.name name ≡ b → is_read (option_map (λ (u : Use). u.text) (cond b (Some one) (find (λ u. bytes_eq u.name name) uses))) ≡ true
            → is_read (text_of name uses) ≡ true
        by_name false differs read = read
        by_name true same read = by_text (text_of name uses) refl
          where
            by_text : (text : Option (List ℕ)) → text_of name uses ≡ text → is_read text ≡ true
            by_text None is = refl
            by_text (Some text) is =
                let twice : is_among (use_names uses) one.name ≡ true = ap (is_among (use_names uses)) (equal_texts one.name name same) ∙ among_text name uses text is in
                absurd (true≢false (sym twice ∙ is_not (is_among (use_names uses) one.name) apart))
