-- Lists that begin others.
use Rattle.std.proofs.Common.{◌≡◌, ◌≤◌, List, [], ◌∷◌, ◌++◌, length, sym, refl, ap, ◌∙◌, append_assoc, append-nil, arith}
use Rattle.lert_conelock.specs.Prefix.{IsPrefix}

pub prefix_itself : {A : Type 0} (xs : List A) → IsPrefix xs xs
prefix_itself xs = record { rest = []; splits = sym (append-nil xs) }

pub prefix_nil : {A : Type 0} (xs : List A) → IsPrefix [] xs
prefix_nil xs = record { rest = xs; splits = refl }

pub prefix_append : {A : Type 0} (xs ys : List A) → IsPrefix xs (xs ++ ys)
prefix_append xs ys = record { rest = ys; splits = refl }

pub prefix_trans : {A : Type 0} {xs ys zs : List A} → IsPrefix xs ys → IsPrefix ys zs → IsPrefix xs zs
prefix_trans {A} {xs} {ys} {zs} a b = record {
  rest = a.rest ++ b.rest;
  splits = b.splits ∙ (ap (λ (l : List A). l ++ b.rest) a.splits ∙ append_assoc xs a.rest b.rest);
}

module _ {A : Type 0} where
  abbrev rest_of : A → List A → List A
  rest_of d [] = []
  rest_of d (x ∷ xs) = xs

  same_rest : (x y : A) (xs ys : List A) → ◌≡◌ {A = List A} (x ∷ xs) (y ∷ ys) → xs ≡ ys
  same_rest x y xs ys e = ap (rest_of x) e

  abbrev head_of : A → List A → A
  head_of d [] = d
  head_of d (x ∷ xs) = x

  -- two lists that both begin a third: where xs ++ more ≡ ys ++ rest and xs is no longer than ys
  splits_at : (xs ys more rest : List A) → xs ++ more ≡ ys ++ rest → length xs ≤ length ys → IsPrefix xs ys
  splits_at [] ys more rest e h = prefix_nil ys
  splits_at (x ∷ xs) [] more rest e h = absurd (omega arith)
  splits_at (x ∷ xs) (y ∷ ys) more rest e h =
      let tail = splits_at xs ys more rest (same_rest x y (xs ++ more) (ys ++ rest) e) (omega arith) in
      let same : x ≡ y = ap (head_of x) e in
      record { rest = tail.rest; splits = λ i. sym same i ∷ tail.splits i }

  pub comparable : (xs ys whole : List A) → IsPrefix xs whole → IsPrefix ys whole → length xs ≤ length ys → IsPrefix xs ys
  comparable xs ys whole a b h = splits_at xs ys a.rest b.rest (sym a.splits ∙ b.splits) h
