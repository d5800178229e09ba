-- What a place in memory finds behind those that it looked at.
use Rattle.std.proofs.{Common.{◌≡◌, ℕ, ◌+◌, ◌<◌, List, ◌∷◌, length, get_or, drop, Some, Result, Ok, Err, sym, ap, subst, ◌∙◌}, lemmas.List.at_drop_more}
use Rattle.std.specs.Result.{result_ok, IfOk}

-- the one at a place of a list that is read is the first of those from there on
pub at_place : {X Y : Type 0} (F : List X → Y) (xs read : List X) (i : ℕ) (x : X) → read ≡ xs → i < length read → x ≡ get_or read i x
    → F (drop i xs) ≡ F (x ∷ drop (i + 1) xs)
at_place F xs read i x same within here =
    at_drop_more F xs i x (subst (λ ys. i < length ys) same within) ∙ ap (λ y. F (y ∷ drop (i + 1) xs)) (sym (here ∙ ap (λ ys. get_or ys i x) same))

-- what was copied is the copy
pub copied_is : {T E : Type 0} (r : Result T E) (copy from : T) → Some copy ≡ result_ok r → IfOk r (λ x. x ≡ from) → copy ≡ from
copied_is (Ok x) copy from e h = cc
copied_is (Err y) copy from e h = cc
