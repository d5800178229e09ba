use Rattle.std.proofs.Common.{◌≡◌, ℕ, ◌<◌, ◌≤◌, ◌*◌, arith, ap, true, false, length, get_or, List, Bool, subst}
use Rattle.lert_slotbits.specs.Bits.{row_of, IsFirst}
use Rattle.lert_slotbits.proofs.{RowLemmas.length_row, ViewLemmas.{long_enough, length_view, first_shown, none_shown}}
use Rattle.lert_slotbits.proofs.bits.Bits.next_false.Goals as goal

-- no bit that is shown is false
abbrev AreNone : ℕ → List Bool → Type 0
AreNone from bits = (k : ℕ) → from ≤ k → k < length bits → get_or bits k false ≡ true

pub first_bit-requires-clause-within : goal.first_bit-requires-clause-within
first_bit-requires-clause-within c =
    let words = c.self.inside.words.items in
    let all : length c.deref.result.now ≡ length words = ap length c.deref.ensures.value in
    let shown = length_view words c.self.inside.len c.self.invariant.0 in
    omega (arith, all, c.self.invariant.0, c.requires, shown, ap length c.self.view_is)

pub first_bit-requires-clause-fits : goal.first_bit-requires-clause-fits
first_bit-requires-clause-fits c =
    let all : length c.deref.result.now ≡ length c.self.inside.words.items = ap length c.deref.ensures.value in
    omega (arith, all, c.self.invariant.0, c.self.invariant.1)

pub returns-in_err-place : goal.returns-in_err-place
returns-in_err-place c =
    let words = c.self.inside.words.items in
    let len = c.self.inside.len in
    let long = long_enough words len c.self.invariant.0 in
    let none = subst (λ (ws : List ℕ). (k : ℕ) → c.args.from ≤ k → k < 64 * length ws → get_or (row_of ws) k false ≡ false → ⊥) c.deref.ensures.value c.in_err-place.ensures in
    rw c.from_residual.ensures
    (subst (AreNone c.args.from) c.self.view_is
    (none_shown false (row_of words) len c.args.from (64 * length words) none (omega (arith, long, length_row words)) (omega (arith, long))))

pub returns-then-place-self : goal.returns-then-place-self
returns-then-place-self c =
    let words = c.self.inside.words.items in
    let len = c.self.inside.len in
    let long = long_enough words len c.self.invariant.0 in
    let first = subst (λ (ws : List ℕ). IsFirst false (row_of ws) c.args.from c.in_ok-place.place) c.deref.ensures.value c.in_ok-place.ensures in
    subst (λ (bits : List Bool). IsFirst false bits c.args.from c.in_ok-place.place) c.self.view_is
    (first_shown false (row_of words) len c.args.from c.in_ok-place.place first c.if-place-self.true (omega (arith, long)))

pub returns-else-place-self : goal.returns-else-place-self
returns-else-place-self c =
    let words = c.self.inside.words.items in
    let len = c.self.inside.len in
    let long = long_enough words len c.self.invariant.0 in
    let first = subst (λ (ws : List ℕ). IsFirst false (row_of ws) c.args.from c.in_ok-place.place) c.deref.ensures.value c.in_ok-place.ensures in
    subst (AreNone c.args.from) c.self.view_is
    (none_shown false (row_of words) len c.args.from c.in_ok-place.place first.others (omega (arith, c.if-place-self.false)) (omega (arith, long)))
