-- One more step of the reader's loops.
use Rattle.std.proofs.Common.{◌≡◌, ◌∙◌, ℕ, ◌+◌, ◌<◌, ◌≤◌, Bool, true, ◌&&◌, zero, suc, List, [], ◌∷◌, ◌++◌, length, map, take, drop, Some, slice_get, get_or, sym, ap, ap₂, append_assoc, arith}
use Rattle.std.proofs.{lemmas.List.{append-nil, drop_all, map-append, map_more}, lemmas.List.Folds.list_all_more}
use Rattle.std.specs.{Borrow.Bor, List.list_all}
use Rattle.clap.specs.Words.{App, Rule, with_rule}
use Rattle.lert_args.specs.{App.{app_with, names_rule, option_rule}, declared.line.LineFault.LineFault, declared.line.LineFault.TheVariants.Usage}

from_here : (words : List (List ℕ)) (n : ℕ) (word : List ℕ) → slice_get words n ≡ Some word → drop n words ≡ word ∷ drop (n + 1) words
from_here [] n word at = absurd (cc)
from_here (first ∷ words) zero word at = let same : first ≡ word = cc in ap (λ w. w ∷ words) same
from_here (first ∷ words) (suc n) word at =
    let next : suc n + 1 ≡ suc (n + 1) = omega arith in
    from_here words n word at ∙ ap (λ k. word ∷ drop k (first ∷ words)) (sym next)

-- one more word behind the command
pub text_more : (texts after : List (Bor (List ℕ))) (word : Bor (List ℕ)) (words all : List (List ℕ)) (n : ℕ) → after ≡ texts ++ word ∷ [] → slice_get words n ≡ Some word.now
    → map (λ text. text.now) texts ++ drop n words ≡ all → map (λ text. text.now) after ++ drop (n + 1) words ≡ all
text_more texts after word words all n items at so_far =
    ap (λ xs. map (λ (text : Bor (List ℕ)). text.now) xs ++ drop (n + 1) words) items
    ∙ ap (λ xs. xs ++ drop (n + 1) words) (map-append (λ (text : Bor (List ℕ)). text.now) texts (word ∷ []))
    ∙ append_assoc (map (λ (text : Bor (List ℕ)). text.now) texts) (word.now ∷ []) (drop (n + 1) words)
    ∙ ap (λ xs. map (λ (text : Bor (List ℕ)). text.now) texts ++ xs) (sym (from_here words n word.now at)) ∙ so_far

-- one more option of the command
pub option_more : (options : List (Bor (List ℕ))) (i : ℕ) (d : Bor (List ℕ)) (old new : App) (rule : Rule) → i < length options → rule ≡ option_rule (get_or options i d).now
    → old ≡ app_with (map (λ o. o.now) (take i options)) → new ≡ with_rule old rule → new ≡ app_with (map (λ o. o.now) (take (i + 1) options))
option_more options i d old new rule lt rule_is so_far is =
    is ∙ ap₂ with_rule so_far rule_is
    ∙ ap (λ rules. record (app_with []) { top = record (app_with []).top { rules = names_rule ∷ rules } })
    (sym (map-append option_rule (map (λ (o : Bor (List ℕ)). o.now) (take i options)) ((get_or options i d).now ∷ [])))
    ∙ ap app_with (sym (map_more (λ (o : Bor (List ℕ)). o.now) options i d lt))

-- one more value that was read
pub values_more : {A B : Type 0} (f : A → B) (xs : List A) (i : ℕ) (d : A) (old new : List B) (value : B) → i < length xs → old ≡ map f (take i xs)
    → value ≡ f (get_or xs i d) → new ≡ old ++ value ∷ [] → new ≡ map f (take (i + 1) xs)
values_more f xs i d old new value lt so_far is items = items ∙ ap₂ (λ a b. a ++ b ∷ []) so_far is ∙ sym (map_more f xs i d lt)

pub all_more : {A : Type 0} (p : A → Bool) (xs : List A) (i : ℕ) (d : A) → i < length xs → list_all p (take i xs) ≡ true → p (get_or xs i d) ≡ true
    → list_all p (take (i + 1) xs) ≡ true
all_more p xs i d lt so_far is = list_all_more p xs i d lt ∙ ap₂ (λ a b. a && b) so_far is

pub room_more : (len capacity number all : ℕ) → len ≡ number → all ≤ capacity → number < all → len < capacity
room_more len capacity number all is room lt = omega arith

pub same_rule : (fault : LineFault) (a b : ℕ) → fault ≡ Usage a → fault ≡ Usage b → b ≡ a
same_rule fault a b is_a is_b = cc

-- all words behind the command
pub texts_done : (texts words all : List (List ℕ)) (n : ℕ) → length words ≤ n → texts ++ drop n words ≡ all → texts ≡ all
texts_done texts words all n most is = sym (append-nil texts) ∙ ap (λ xs. texts ++ xs) (sym (drop_all n words most)) ∙ is
