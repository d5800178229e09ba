-- A state stays at home while the passes change.
use Rattle.std.proofs.Common.{◌≡◌, List, ◌⊎◌, Some, inl, inr, ⊎_elim}
use Rattle.std.specs.Prelude.{Contains}
use Rattle.lert_base.specs.{declared.held.Held.Ghosts as HeldOf, Packet.Packet}
use Rattle.lert_conelock.specs.Rule.{Views, IsStopped, IsRefused, IsHome}

module _ {H T R F : Type 0} (held : HeldOf H T R F) (first : H) where
  pub home_after : (history : List Packet) (before after : Views H F) → (IsStopped after → IsStopped before)
      → ((e : Packet) → IsRefused before e → IsRefused after e)
      → (state : H) → IsHome held first history before state → IsHome held first history after state
  home_after history before after stop_was refused_on state h = record {
    terms_are = h.terms_are;
    stands = h.stands;
    stopped_is = λ x. h.stopped_is (stop_was x);
    over_is = ⊎_elim inl (λ (o : (held.over state ≡ held.over first)
        ⊎ ((d : Packet) × (held.over state ≡ Some d) × IsRefused before d)). inr (⊎_elim inl
        (λ (t : (d : Packet) × (held.over state ≡ Some d) × IsRefused before d). inr (t.0, t.1, refused_on t.0 t.2)) o)) h.over_is;
    fresh_is = ⊎_elim inl (λ (t : (d : Packet) × (Contains history d ⊎ IsRefused before d)). inr
        (t.0, ⊎_elim inl (λ r. inr (refused_on t.0 r)) t.1)) h.fresh_is;
  }
