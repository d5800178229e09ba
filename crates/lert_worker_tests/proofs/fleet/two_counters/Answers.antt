use Rattle.std.proofs.{Common.{◌≡◌, ◌∙◌, ℕ, ◌+◌, List, [], ◌∷◌, ◌++◌, All, ap, arith, length, refl, subst, sym}, lemmas.Result.IfOk-at_ok}
use Rattle.lert_base.specs.Packet.{Packet, own}
use Rattle.lert_worker_tests.proofs.PairLaws.{both}
use Rattle.lert_worker_tests.specs.declared.counter.Counter.{Counter}
use Rattle.lert_worker_tests.proofs.fleet.two_counters.Goals as goal

-- pushed onto nothing, two are all
two : {A : Type 0} (none one all : List A) (a b : A) → none ≡ [] → one ≡ none ++ a ∷ [] → all ≡ one ++ b ∷ [] → all ≡ a ∷ b ∷ []
two none one all a b none_is one_is all_is = all_is ∙ ap (λ (xs : List _). xs ++ b ∷ []) (one_is ∙ ap (λ (xs : List _). xs ++ a ∷ []) none_is)

-- a counter stands for some packets
abbrev Opened : Counter → Type 0
Opened state = (h : List Packet) × ((length (own h 0) ≡ state.zeros) × (length h ≡ state.zeros + state.others))

opened : (state : Counter) → state.zeros ≡ 0 → state.others ≡ 0 → Opened state
opened state zeros others = ([], (sym zeros, omega (arith, zeros, others)))

pub returns-clause-cones : goal.returns-clause-cones
returns-clause-cones g c = ap length (two _ _ _ _ _ (IfOk-at_ok _ c.expect-states.ensures c.with_capacity.ensures.items) c.push_reserved.ensures.items c.push_reserved-2.ensures.items)

pub returns-clause-opened : goal.returns-clause-opened
returns-clause-opened g c =
    let all = two _ _ _ _ _ (IfOk-at_ok _ c.expect-states.ensures c.with_capacity.ensures.items) c.push_reserved.ensures.items c.push_reserved-2.ensures.items in
    subst (λ (states : List Counter). All Opened states) (sym all)
    (both Opened c.new.result c.new-2.result (opened c.new.result c.new.ensures.0 c.new.ensures.1) (opened c.new-2.result c.new-2.ensures.0 c.new-2.ensures.1))
