-- Lists by their places, and parts of them.
use Rattle.std.proofs.Common.{◌≡◌, ℕ, ◌+◌, ◌<◌, zero, suc, List, [], ◌∷◌, ◌++◌, length, take, get_or, Some, slice_get, refl, ap, sym, ◌∙◌, subst, inl, inr, arith, length-append}
use Rattle.std.proofs.{lemmas.Bool.cases_lt, lemmas.List.{get_or-append-add, length-map, length-take-le, take_all, take_more}}
use Rattle.std.proofs.lemmas.Option.{get_or_from_slice_get, none-some, same_Some, slice_get_within}
use Rattle.std.specs.Prelude.{All}
use Rattle.lert_fleet.proofs.Places.{seen_at, slice_get_seam}
use Rattle.lert_worker.specs.{Ran.Working, crew.Ready.ends_of, declared.end.WorkerEnd.WorkerEnd}
use Rattle.lert_worker.proofs.LaneLaws.{slice_get-first}

-- a list of what there is at each place
pub record IsListOf {A : Type 0} (count : ℕ) (P : ℕ → A → Type 0) : Type 0 where
  pub items : List A
  pub number : length items ≡ count
  pub each : (place : ℕ) (x : A) → slice_get items place ≡ Some x → P place x

pub list_of : {A : Type 0} (P : ℕ → A → Type 0) (count : ℕ) → ((place : ℕ) → place < count → (x : A) × P place x) → IsListOf count P
list_of P zero each = record { items = []; number = refl; each = λ place x is. absurd (none-some x is) }
list_of P (suc count) each =
    let less = list_of P count (λ place below. each place (omega (arith, below))) in
    let last = each count (omega arith) in
    record {
      items = less.items ++ last.0 ∷ [];
      number = (let n = less.number in let sum = length-append less.items (last.0 ∷ []) in omega (arith, n, sum));
      each = λ place x is. elim (cases_lt place (length less.items)) [
        | inl below ↦ less.each place x (sym (slice_get-first less.items (last.0 ∷ []) place below) ∙ is)
        | inr above ↦
            let within = slice_get_within (less.items ++ last.0 ∷ []) place x is in
            let sum = length-append less.items (last.0 ∷ []) in
            let at : place ≡ length less.items = omega (arith, within, sum, above) in
            let same : last.0 ≡ x = same_Some last.0 x (sym (slice_get_seam less.items last.0 []) ∙ (ap (slice_get (less.items ++ last.0 ∷ [])) (sym at) ∙ is)) in
            subst (λ n. P n x) (let e : count ≡ place = (let n = less.number in omega (arith, n, at)) in e) (subst (P count) same last.1)
      ];
    }

pub All-behind : {X : Type 0} (P : X → Type 0) (xs ys : List X) → All P (xs ++ ys) → All P ys
All-behind P xs ys all = λ k d below. subst P (get_or-append-add xs ys k d) (all (length xs + k) d (omega (arith, below, length-append xs ys)))

-- lists that agree place by place
pub same_lists : {A : Type 0} (xs ys : List A) → length xs ≡ length ys → ((k : ℕ) (x y : A) → slice_get xs k ≡ Some x → slice_get ys k ≡ Some y → x ≡ y) → xs ≡ ys
same_lists [] [] long each = refl
same_lists [] (y ∷ ys) long each = absurd (omega (arith, long))
same_lists (x ∷ xs) [] long each = absurd (omega (arith, long))
same_lists (x ∷ xs) (y ∷ ys) long each =
    ap (λ z. z ∷ xs) (each 0 x y refl refl) ∙ ap (λ zs. y ∷ zs) (same_lists xs ys (omega (arith, long)) (λ k. each (suc k)))

-- the first items of a list
pub taken_at : {A : Type 0} (n : ℕ) (xs : List A) (k : ℕ) (x : A) → slice_get (take n xs) k ≡ Some x → slice_get xs k ≡ Some x
taken_at zero xs k x is = absurd (none-some x is)
taken_at (suc n) [] k x is = absurd (none-some x is)
taken_at (suc n) (y ∷ xs) zero x is = is
taken_at (suc n) (y ∷ xs) (suc k) x is = taken_at n xs k x is

-- ---- how the first so many workers of a list ended
module _ {S H : Type 0} where
  pub ends_more : (workers : List (Working S H)) (by : ℕ) (worker : Working S H) (end : WorkerEnd) (ends : List WorkerEnd) → by < length workers → worker ≡ get_or workers by worker →
      end ≡ worker.end → ends ≡ take by (ends_of workers) → ends ++ end ∷ [] ≡ take (by + 1) (ends_of workers)
  ends_more workers by worker end ends below is end_is are =
      ap (λ (es : List WorkerEnd). es ++ end ∷ []) are ∙ (ap (λ (e : WorkerEnd). take by (ends_of workers) ++ e ∷ []) (sym last)
      ∙ sym (take_more (ends_of workers) by end (let n = length-map workers (λ (w : Working S H). w.end) in omega (arith, n, below))))
    where
      last : get_or (ends_of workers) by end ≡ end
      last = get_or_from_slice_get (ends_of workers) by end end (seen_at (λ (w : Working S H). w.end) workers (ends_of workers) refl by worker end below is end_is)

  pub ends_room : (workers : List (Working S H)) (by : ℕ) (ends : List WorkerEnd) → by < length workers → ends ≡ take by (ends_of workers) → length ends ≡ by
  ends_room workers by ends below are =
      ap (λ (es : List WorkerEnd). length es) are ∙ length-take-le by (ends_of workers) (let n = length-map workers (λ (w : Working S H). w.end) in omega (arith, n, below))

  pub all_ends : (workers : List (Working S H)) (by : ℕ) → by ≡ length workers → take by (ends_of workers) ≡ ends_of workers
  all_ends workers by all = take_all by (ends_of workers) (let n = length-map workers (λ (w : Working S H). w.end) in omega (arith, n, all))
