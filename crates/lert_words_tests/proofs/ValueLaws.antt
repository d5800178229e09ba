-- The values of options among those that are given.
use Rattle.std.proofs.Common.{◌≡◌, ℕ, zero, suc, ◌<◌, Bool, true, false, cond, ◌||◌, List, [], ◌∷◌, ◌++◌, length, get_or, map, replicate, Option, Some, None, refl, ap, ap₂, sym, ◌∙◌, arith, Bor}
use Rattle.std.specs.{Prelude.{is_some, option_map}, List.find, Str.bytes_eq}
use Rattle.lert_args.specs.Said.{Given, is_among}
use Rattle.lert_words_tests.specs.Steps.{names_of_given, value_among}
use Rattle.lert_args.proofs.Texts.{equal_texts, text_swap}

-- neither of two truths
pub neither : (a b : Bool) → (a || b) ≡ false → (a ≡ false) × (b ≡ false)
neither true b is = absurd (cc)
neither false b is = (refl, is)

-- an option has a value just where its name is among those given
is_some_next : (b : Bool) (one : Given) (others : Option Given) (among : Bool) → is_some (option_map (λ g. g.value) others) ≡ among →
    is_some (option_map (λ g. g.value) (cond b (Some one) others)) ≡ (b || among)
is_some_next true one others among is = refl
is_some_next false one others among is = is

pub is_some-value_among : (given : List Given) (name : List ℕ) → is_some (value_among given name) ≡ is_among (names_of_given given) name
is_some-value_among [] name = refl
is_some-value_among (one ∷ given) name =
    is_some_next (bytes_eq one.name name) one (find (λ g. bytes_eq g.name name) given) (is_among (names_of_given given) name) (is_some-value_among given name)

-- with one option more, whose name isn't given yet
alone : (b : Bool) (one : Given) → option_map (λ g. g.value) (cond b (Some one) None) ≡ cond b (Some one.value) None
alone true one = refl
alone false one = refl

first_of_more : (b c : Bool) (value : ℕ) (one : Given) (others more : Option Given) → (b ≡ true → c ≡ false) →
    option_map (λ g. g.value) more ≡ cond c (Some value) (option_map (λ g. g.value) others) →
    option_map (λ g. g.value) (cond b (Some one) more) ≡ cond c (Some value) (option_map (λ g. g.value) (cond b (Some one) others))
first_of_more true c value one others more apart is = ap (λ t. cond t (Some value) (Some one.value)) (sym (apart refl))
first_of_more false c value one others more apart is = is

pub value_among-push : (given : List Given) (name : List ℕ) (value : ℕ) (option : List ℕ) → is_among (names_of_given given) name ≡ false →
    value_among (given ++ record { name = name; value = value } ∷ []) option ≡ cond (bytes_eq option name) (Some value) (value_among given option)
value_among-push [] name value option absent =
    alone (bytes_eq name option) (record { name = name; value = value }) ∙ ap (λ b. cond b (Some value) None) (text_swap name option)
value_among-push (one ∷ given) name value option absent =
    let both = neither (bytes_eq one.name name) (is_among (names_of_given given) name) absent in
    first_of_more (bytes_eq one.name option) (bytes_eq option name) value one (find (λ g. bytes_eq g.name option) given)
    (find (λ g. bytes_eq g.name option) (given ++ record { name = name; value = value } ∷ []))
    (λ is. ap (λ x. bytes_eq x name) (sym (equal_texts one.name option is)) ∙ both.0)
    (value_among-push given name value option both.1)

-- no option is given yet
pub values-none : (options : List (Bor (List ℕ))) → replicate (length options) None ≡ map (λ option. value_among [] option.now) options
values-none [] = refl
values-none (option ∷ options) = ap (λ xs. None ∷ xs) (values-none options)

-- a list by its places
pub by_places : (f : Bor (List ℕ) → Option ℕ) (options : List (Bor (List ℕ))) (values : List (Option ℕ)) → length values ≡ length options →
    ((k : ℕ) (d : Bor (List ℕ)) → k < length options → get_or values k None ≡ f (get_or options k d)) → values ≡ map f options
by_places f [] [] same each = refl
by_places f [] (value ∷ values) same each = absurd (omega arith)
by_places f (option ∷ options) [] same each = absurd (omega arith)
by_places f (option ∷ options) (value ∷ values) same each =
    ap₂ (λ x xs. x ∷ xs) (each 0 option (omega arith)) (by_places f options values (omega arith) (λ k d below. each (suc k) d (omega arith)))

pub at_place : (f : Bor (List ℕ) → Option ℕ) (options : List (Bor (List ℕ))) (k : ℕ) (d : Bor (List ℕ)) → k < length options → get_or (map f options) k None ≡ f (get_or options k d)
at_place f [] k d below = absurd (omega arith)
at_place f (option ∷ options) zero d below = refl
at_place f (option ∷ options) (suc k) d below = at_place f options k d (omega arith)
