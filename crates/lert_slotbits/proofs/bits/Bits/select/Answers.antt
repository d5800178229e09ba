use Rattle.std.proofs.Common.{◌≡◌, ◌<◌, ◌≤◌, ◌*◌, arith, get_or, true, false, take, length, slice_get, Some, List, Bool, subst, refl}
use Rattle.lert_slotbits.specs.Bits.{row_of, trues}
use Rattle.lert_slotbits.proofs.{CountLemmas.trues_take_grows, ViewLemmas.{long_enough, selected}}
use Rattle.lert_slotbits.proofs.bits.Bits.select.Goals as goal

pub returns-then-place-self-clause-found : goal.returns-then-place-self-clause-found
returns-then-place-self-clause-found c =
    let words = c.self.inside.words.items in
    let there : (c.in_ok-place.place < 64 * length c.deref.result.now) × (get_or (row_of c.deref.result.now) c.in_ok-place.place false ≡ true)
    × (trues (take c.in_ok-place.place (row_of c.deref.result.now)) ≡ c.args.k) = c.in_ok-place.ensures in
    let here = rw c.deref.ensures.value at there in
    let s = selected c.self.inside.len c.in_ok-place.place c.args.k (row_of words) c.if-place-self.true (let long = long_enough words c.self.inside.len (c.self.invariant).0 in omega arith) here.1
    here.2 in
    subst (λ (bs : List Bool). (slice_get bs c.in_ok-place.place ≡ Some true) × (trues (take c.in_ok-place.place bs) ≡ c.args.k)) c.self.view_is (s.0, s.1)

pub returns-then-place-self-clause-none : goal.returns-then-place-self-clause-none
returns-then-place-self-clause-none c =
    let words = c.self.inside.words.items in
    let there : (c.in_ok-place.place < 64 * length c.deref.result.now) × (get_or (row_of c.deref.result.now) c.in_ok-place.place false ≡ true)
    × (trues (take c.in_ok-place.place (row_of c.deref.result.now)) ≡ c.args.k) = c.in_ok-place.ensures in
    let here = rw c.deref.ensures.value at there in
    let s = selected c.self.inside.len c.in_ok-place.place c.args.k (row_of words) c.if-place-self.true (let long = long_enough words c.self.inside.len (c.self.invariant).0 in omega arith) here.1
    here.2 in
    let more : c.args.k < trues c.args.self.now = subst (λ (bs : List Bool). c.args.k < trues bs) c.self.view_is s.2 in
    (λ none. cc none, λ few. absurd (omega arith))

pub returns-else-place-self-clause-none : goal.returns-else-place-self-clause-none
returns-else-place-self-clause-none c =
    let words = c.self.inside.words.items in
    let there : (c.in_ok-place.place < 64 * length c.deref.result.now) × (get_or (row_of c.deref.result.now) c.in_ok-place.place false ≡ true)
    × (trues (take c.in_ok-place.place (row_of c.deref.result.now)) ≡ c.args.k) = c.in_ok-place.ensures in
    let here = rw c.deref.ensures.value at there in
    let grows = trues_take_grows (row_of words) c.self.inside.len c.in_ok-place.place (omega arith) in
    let few : trues (take c.self.inside.len (row_of words)) ≤ c.args.k = omega (arith, here.2) in
    (λ _. subst (λ (bs : List Bool). trues bs ≤ c.args.k) c.self.view_is few, λ _. refl)
