-- Elements of a list by their place.
use Rattle.std.proofs.Common.{◌≡◌, ◌+◌, ◌≢◌, ℕ, suc, zero, ◌<◌, ◌≤◌, List, [], ◌∷◌, ◌++◌, length, set, get_or, map, Some, slice_get, refl, sym, ap, ◌∙◌, arith}
use Rattle.std.proofs.{lemmas.List.{length-set, length_push, get_or-set_same}, lemmas.Option.{slice_get-get_or, slice_get-map, slice_get_read, none-some, same_Some}}
use Rattle.std.specs.Option.{option_map}

pub slice_get-set_same : {X : Type 0} (xs : List X) (i : ℕ) (y : X) → i < length xs → slice_get (set xs i y) i ≡ Some y
slice_get-set_same xs i y within =
    slice_get-get_or (set xs i y) i y (omega (arith, length-set xs i y)) ∙ ap Some (get_or-set_same xs i y y within)

pub slice_get-set_other : {X : Type 0} (xs : List X) (i j : ℕ) (y : X) → j ≢ i → slice_get (set xs i y) j ≡ slice_get xs j
slice_get-set_other [] i j y apart = refl
slice_get-set_other (x ∷ xs) zero zero y apart = absurd (apart refl)
slice_get-set_other (x ∷ xs) zero (suc j) y apart = refl
slice_get-set_other (x ∷ xs) (suc i) zero y apart = refl
slice_get-set_other (x ∷ xs) (suc i) (suc j) y apart = slice_get-set_other xs i j y (λ e. apart (ap suc e))

pub slice_get_seam : {X : Type 0} (xs : List X) (y : X) (ys : List X) → slice_get (xs ++ y ∷ ys) (length xs) ≡ Some y
slice_get_seam [] y ys = refl
slice_get_seam (x ∷ xs) y ys = slice_get_seam xs y ys

-- within a list there is an element
pub some_at : {X : Type 0} (xs : List X) (i : ℕ) → i < length xs → (x : X) × (slice_get xs i ≡ Some x)
some_at [] i within = absurd (omega arith)
some_at (x ∷ xs) zero within = (x, refl)
some_at (x ∷ xs) (suc i) within = some_at xs i (omega arith)

-- what is read of a list stands there, and what it is seen as stands in the list of what all are seen as
pub read_at : {X : Type 0} (xs : List X) (i : ℕ) (x : X) → i < length xs → x ≡ get_or xs i x → slice_get xs i ≡ Some x
read_at xs i x within is = slice_get_read xs (length xs) i x refl within is

pub seen_at : {X Y : Type 0} (view : X → Y) (xs : List X) (ys : List Y) → map view xs ≡ ys → (i : ℕ) (x : X) (y : Y)
    → i < length xs → x ≡ get_or xs i x → y ≡ view x → slice_get ys i ≡ Some y
seen_at view xs ys all i x y within read seen =
    ap (λ zs. slice_get zs i) (sym all) ∙ (slice_get-map view xs i ∙ (ap (option_map view) (read_at xs i x within read) ∙ ap Some (sym seen)))

-- an element of a list of images is the image of an element
pub image_at : {X Y : Type 0} (f : X → Y) (xs : List X) (i : ℕ) (y : Y) → slice_get (map f xs) i ≡ Some y
    → (x : X) × (slice_get xs i ≡ Some x) × (f x ≡ y)
image_at f [] i y is = absurd (none-some y is)
image_at f (x ∷ xs) zero y is = (x, refl, same_Some (f x) y is)
image_at f (x ∷ xs) (suc i) y is = image_at f xs i y is

-- a list that another one and an element make is longer by one
pub length_pushed : {X : Type 0} (xs ys : List X) (y : X) → xs ≡ ys ++ y ∷ [] → length xs ≡ length ys + 1
length_pushed xs ys y is = ap length is ∙ length_push ys y

pub is_fewer : {X : Type 0} (all left : List X) (last : X) → all ≡ left ++ last ∷ [] → length left < length all
is_fewer all left last popped = omega (arith, length_pushed all left last popped)

-- a list that isn't empty isn't as long as one that is
pub not_alone : {X Y : Type 0} (left : List X) (last : X) (all : List X) (others : List Y) → all ≡ left ++ last ∷ [] → length others ≡ length all → length others ≡ 0 → ⊥
not_alone left last all others popped many none = omega (arith, length_pushed all left last popped, many, none)

-- where there is room for the elements of two lists, there is for one more in the one
pub has_room : {X Y : Type 0} (xs : List X) (long room : ℕ) (all left : List Y) (last : Y) → long ≡ length xs → all ≡ left ++ last ∷ [] → length xs + length all ≤ room → long < room
has_room xs long room all left last is popped fits = omega (arith, is, length_pushed all left last popped, fits)

-- a place that is told by a list's length
pub at_length : {X Y : Type 0} (place long most : ℕ) (xs : List X) (ys : List Y) → place ≡ long → long ≡ length xs → most ≡ length ys → length xs < length ys → place < most
at_length place long most xs ys is xs_are ys_are within = omega (arith, is, xs_are, ys_are, within)
