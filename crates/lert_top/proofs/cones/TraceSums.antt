-- Sums over packets, taken trace by trace.
use Rattle.std.proofs.Common.{◌≡◌, ◌≢◌, ℕ, ◌+◌, ◌<◌, ◌≤◌, zero, suc, Bool, cond, List, [], ◌∷◌, ◌++◌, length, flat_map, sum_by, Some, slice_get, refl, ap, sym, ◌∙◌, inl, inr, arith}
use Rattle.std.proofs.{lemmas.Bool.{cases_eq, eq-eqb, ne_eqb}, lemmas.List.Concat.flat_map-cons, lemmas.List.Elements.{All-head, All-tail}, lemmas.List.Sums.sum_by-cons}
use Rattle.std.specs.Prelude.{All}
use Rattle.lert_base.specs.Packet.{Packet, of_trace}

-- the sum of a function of so many numbers, from one on
abbrev pub sum_from : (ℕ → ℕ) → ℕ → ℕ → ℕ
sum_from g at zero = 0
sum_from g at (suc n) = g at + sum_from g (suc at) n

pub none_in : (g G : ℕ → ℕ) (t at n : ℕ) → t < at → ((k : ℕ) → k ≢ t → G k ≡ g k) → sum_from G at n ≡ sum_from g at n
none_in g G t at zero above same = refl
none_in g G t at (suc n) above same =
    let here = same at (λ is. absurd (omega (arith, is, above))) in
    let rest = none_in g G t (suc at) n (omega (arith, above)) same in
    omega (arith, here, rest)

-- a function that is another one but at a place, where it is so much more
pub one_in : (g G : ℕ → ℕ) (t w at n : ℕ) → G t ≡ w + g t → ((k : ℕ) → k ≢ t → G k ≡ g k) → at ≤ t → t < at + n → sum_from G at n ≡ w + sum_from g at n
one_in g G t w at zero more same from below = absurd (omega (arith, from, below))
one_in g G t w at (suc n) more same from below =
    elim (cases_eq at t) [
      | inl is ↦
          let here : G at ≡ w + g at = ap G is ∙ (more ∙ ap (λ k. w + g k) (sym is)) in
          let rest = none_in g G t (suc at) n (omega (arith, is)) same in
          omega (arith, here, rest)
      | inr differs ↦
          let here = same at differs in
          let rest = one_in g G t w (suc at) n more same (omega (arith, from, differs)) (omega (arith, below)) in
          omega (arith, here, rest)
    ]

pub nothing_in : (at n : ℕ) → sum_from (λ k. 0) at n ≡ 0
nothing_in at zero = refl
nothing_in at (suc n) = let rest = nothing_in (suc at) n in omega (arith, rest)

-- a sum over a list, place by place
pub by_place : {X : Type 0} (F : X → ℕ) (G : ℕ → ℕ) (xs : List X) (at : ℕ) → ((k : ℕ) (x : X) → slice_get xs k ≡ Some x → G (at + k) ≡ F x) →
    sum_by F xs ≡ sum_from G at (length xs)
by_place F G [] at each = refl
by_place F G (x ∷ xs) at each =
    let here : G at ≡ F x = ap G (let same : at ≡ at + 0 = omega arith in same) ∙ each 0 x refl in
    let rest = by_place F G xs (suc at) (λ k y is. ap G (let same : suc at + k ≡ at + suc k = omega arith in same) ∙ each (suc k) y is) in
    omega (arith, sum_by-cons F x xs, here, rest)

pub sum_by-same : {X : Type 0} (F G : X → ℕ) (xs : List X) → ((x : X) → F x ≡ G x) → sum_by F xs ≡ sum_by G xs
sum_by-same F G xs same = λ i. sum_by (λ x. same x i) xs

pub sum_by-none : {X : Type 0} (xs : List X) → sum_by (λ (x : X). 0) xs ≡ 0
sum_by-none [] = refl
sum_by-none {X} (x ∷ xs) = omega (arith, sum_by-cons (λ (y : X). 0) x xs, sum_by-none xs)

-- the packets of a trace, with one more in front
of_trace-same : (packet : Packet) (history : List Packet) (trace : ℕ) → packet.trace ≡ trace → of_trace (packet ∷ history) trace ≡ packet ∷ of_trace history trace
of_trace-same packet history trace is =
    ap (λ (b : Bool). cond b (packet ∷ of_trace history trace) (of_trace history trace)) (eq-eqb packet.trace trace is)

of_trace-other : (packet : Packet) (history : List Packet) (trace : ℕ) → packet.trace ≢ trace → of_trace (packet ∷ history) trace ≡ of_trace history trace
of_trace-other packet history trace differs =
    ap (λ (b : Bool). cond b (packet ∷ of_trace history trace) (of_trace history trace)) (ne_eqb packet.trace trace differs)

-- of packets that are of one of so many traces, the sum over all is the sum over those of each trace
pub by_trace : (w : Packet → ℕ) (P : Packet → Type 0) (n : ℕ) → ((packet : Packet) → P packet → packet.trace < n) → (history : List Packet) → All P history →
    sum_by w history ≡ sum_from (λ trace. sum_by w (of_trace history trace)) 0 n
by_trace w P n named [] all = sym (nothing_in 0 n)
by_trace w P n named (packet ∷ history) all =
    let rest = by_trace w P n named history (All-tail P packet history all) in
    let below : packet.trace < 0 + n = omega (arith, named packet (All-head P packet history all)) in
    let same = ap (sum_by w) (of_trace-same packet history packet.trace refl) ∙ sum_by-cons w packet (of_trace history packet.trace) in
    let one = one_in (λ trace. sum_by w (of_trace history trace)) (λ trace. sum_by w (of_trace (packet ∷ history) trace)) packet.trace (w packet) 0 n same
    (λ k differs. ap (sum_by w) (of_trace-other packet history k (λ is. differs (sym is)))) (omega arith) below in
    omega (arith, sum_by-cons w packet history, rest, one)

-- of the only trace are all packets
pub of_first : (P : Packet → Type 0) → ((packet : Packet) → P packet → packet.trace < 1) → (history : List Packet) → All P history → of_trace history 0 ≡ history
of_first P named [] all = refl
of_first P named (packet ∷ history) all =
    let zero_is : packet.trace ≡ 0 = omega (arith, named packet (All-head P packet history all)) in
    of_trace-same packet history 0 zero_is ∙ ap (λ l. packet ∷ l) (of_first P named history (All-tail P packet history all))

-- what adds up over lists does so over lists that are joined
pub joined : {X A : Type 0} (f : List A → ℕ) → f [] ≡ 0 → ((xs ys : List A) → f (xs ++ ys) ≡ f xs + f ys) → (g : X → List A) (xs : List X) →
    f (flat_map g xs) ≡ sum_by (λ x. f (g x)) xs
joined f none joins g [] = none
joined f none joins g (x ∷ xs) =
    ap f (flat_map-cons g x xs) ∙ (joins (g x) (flat_map g xs) ∙ (ap (λ n. f (g x) + n) (joined f none joins g xs) ∙ sym (sum_by-cons (λ y. f (g y)) x xs)))
