-- Items that weigh 1 count as their keys do.
use Rattle.std.proofs.Common.{◌≡◌, ℕ, Bool, true, false, cond, eqb, List, [], ◌∷◌, map, sum_by, refl, ap, ◌∙◌, arith}
use Rattle.std.proofs.lemmas.List.Sums.{sum_by-cons}
use Rattle.lert_spec.specs.{declared.item.Item.Item, declared.numbers.Numbers.Numbers, Counts.{weighed, weight_for}, Items.{unit, units}, Mix.{cone_of, part_in, part_of}}
use Rattle.lert_spec.proofs.ReportLaws.{times}

pub sum_by-map : {A B : Type 0} (f : A → B) (g : B → ℕ) (xs : List A) → sum_by g (map f xs) ≡ sum_by (λ x. g (f x)) xs
sum_by-map f g [] = refl
sum_by-map f g (x ∷ xs) = omega (arith, sum_by-cons g (f x) (map f xs), sum_by-cons (λ y. g (f y)) x xs, sum_by-map f g xs)

-- a key weighs as much among them all as it stands there often
pub weight-units : (key : ℕ) (keys : List ℕ) → sum_by (weight_for weighed key) (units keys) ≡ times key keys
weight-units key keys = sum_by-map unit (weight_for weighed key) keys

-- a cone's part of them is that of their keys
pub part-units : (s : Numbers) (cone : ℕ) (keys : List ℕ) → part_in weighed s cone (units keys) ≡ units (part_of s cone keys)
part-units s cone [] = refl
part-units s cone (key ∷ keys) =
    let test = eqb (cone_of s key) cone in
    ap (λ (items : List Item). cond test (unit key ∷ items) items) (part-units s cone keys) ∙ one test (part_of s cone keys)
  where
    one : (b : Bool) (rest : List ℕ) → cond b (unit key ∷ units rest) (units rest) ≡ units (cond b (key ∷ rest) rest)
    one true rest = refl
    one false rest = refl
