use Rattle.std.proofs.{Common.{◌≡◌, ◌≤◌, List, length, map, reverse, vec_capacity, refl, ap, subst, sym, ◌∙◌}, lemmas.List.reverse-reverse, lemmas.List.Elements.All-same}
use Rattle.std.proofs.lemmas.Result.{err_from_is_err_and}
use Rattle.crossbeam_utils.specs.Padded.{padded_value}
use Rattle.lert_base.specs.Packet.{Packet}
use Rattle.lert_conelock.specs.Sight.{Sight}
use Rattle.lert_fleet.specs.Cones.{IsFleetOf, IsPassOf}
use Rattle.lert_fleet.proofs.Locking.{All-reverse, locks_few, passes_fit, start_is, start_of}
use Rattle.lert_fleet.proofs.fleet.Fleet.new.Goals as goal

pub lock_each-requires-clause-opened : goal.lock_each-requires-clause-opened
lock_each-requires-clause-opened g c = λ lifetimes outlive.
    All-same (λ state. (h : List Packet) × g.S.Held.stands_for state h) c.reverse.new.self.items (reverse c.args.states.items) c.reverse.ensures.items
    (All-reverse (λ state. (h : List Packet) × g.S.Held.stands_for state h) c.args.states.items c.requires.opened)

pub returns-in_err-locks : goal.returns-in_err-locks
returns-in_err-locks g c =
    let p = err_from_is_err_and c.from_residual.result c.from_residual.ensures.1 in
    rw (p.1, p.2) (record {
      locks = tt;
      pass = tt;
      belongs = tt;
      whole = tt;
      back = c.in_err-locks.ensures.back ∙ (ap reverse c.reverse.ensures.items ∙ reverse-reverse c.args.states.items);
    })

pub returns-clause-belongs : goal.returns-clause-belongs
returns-clause-belongs g c =
    subst (λ (xs : List (Sight g.row.S.Denot g.row.S-Refusal.Denot)). IsPassOf record { lo = 0; hi = c.args.numbers; cones = xs } (map padded_value c.in_ok-locks.locks.items))
    (sym c.in_ok-locks.ensures.passes) (start_of (map padded_value c.in_ok-locks.locks.items) c.args.numbers c.in_ok-locks.ensures.locks.numbers_are)

pub returns-clause-whole : goal.returns-clause-whole
returns-clause-whole g c = record { lo_is = refl; hi_is = λ cone lock is. sym (c.in_ok-locks.ensures.locks.numbers_are cone lock is) }

pub destroy_empty-requires : goal.destroy_empty-requires
destroy_empty-requires g c = c.in-Ok.ensures.len

pub lock_each-requires-clause-numbers : goal.lock_each-requires-clause-numbers
lock_each-requires-clause-numbers g c = λ lifetimes outlive. c.requires.numbers

pub lock_each-requires-clause-none : goal.lock_each-requires-clause-none
lock_each-requires-clause-none g c =
    λ lifetimes outlive. (c.in-Ok.ensures.items, c.in-Ok-with_capacity.ensures.items)

pub lock_each-requires-clause-room : goal.lock_each-requires-clause-room
lock_each-requires-clause-room g c =
    λ lifetimes outlive.
    let same : c.len-cones.result ≡ length c.reverse.new.self.items = c.len-cones.ensures ∙ (sym c.reverse.ensures.len ∙ c.reverse.new.self.ok.0) in (
      subst (λ n. n ≤ vec_capacity c.in-Ok.locks) same c.in-Ok.ensures.capacity,
      subst (λ n. n ≤ vec_capacity c.in-Ok-with_capacity.passes) same c.in-Ok-with_capacity.ensures.capacity,
    )

pub returns-clause-locks : goal.returns-clause-locks
returns-clause-locks g c =
    subst (λ (xs : List g.row.S.Denot). IsFleetOf xs c.args.numbers (map padded_value c.in_ok-locks.locks.items))
    (ap reverse c.reverse.ensures.items ∙ reverse-reverse c.args.states.items) c.in_ok-locks.ensures.locks

pub returns-clause-pass : goal.returns-clause-pass
returns-clause-pass g c =
    start_is (map padded_value c.in_ok-locks.locks.items) c.args.numbers c.in_ok-locks.passes.items c.in_ok-locks.ensures.passes

pub returns-clause-back : goal.returns-clause-back
returns-clause-back g c = tt

pub invariant_of-pass : goal.invariant_of-pass
invariant_of-pass g c = (
  c.in_ok-locks.ensures.emptied.0,
  λ first. subst (λ n. length c.in_ok-locks.passes.items ≤ n) (sym c.in_ok-locks.ensures.emptied.1)
      (passes_fit (map padded_value c.in_ok-locks.locks.items) c.args.numbers c.reverse.new.self.items c.in_ok-locks.passes.items (vec_capacity c.reverse.new.self) c.in_ok-locks.ensures.locks
      c.in_ok-locks.ensures.passes (subst (λ n. n ≤ vec_capacity c.reverse.new.self) c.reverse.new.self.ok.0 c.reverse.new.self.ok.1)),
)

pub returns-in_default-clause-locks : goal.returns-in_default-clause-locks
returns-in_default-clause-locks g c = tt

pub returns-in_default-clause-pass : goal.returns-in_default-clause-pass
returns-in_default-clause-pass g c = tt

pub returns-in_default-clause-belongs : goal.returns-in_default-clause-belongs
returns-in_default-clause-belongs g c = tt

pub returns-in_default-clause-whole : goal.returns-in_default-clause-whole
returns-in_default-clause-whole g c = tt

pub returns-in_default-clause-back : goal.returns-in_default-clause-back
returns-in_default-clause-back g c = refl

pub returns-in_default-with_capacity-clause-locks : goal.returns-in_default-with_capacity-clause-locks
returns-in_default-with_capacity-clause-locks g c = tt

pub returns-in_default-with_capacity-clause-pass : goal.returns-in_default-with_capacity-clause-pass
returns-in_default-with_capacity-clause-pass g c = tt

pub returns-in_default-with_capacity-clause-belongs : goal.returns-in_default-with_capacity-clause-belongs
returns-in_default-with_capacity-clause-belongs g c = tt

pub returns-in_default-with_capacity-clause-whole : goal.returns-in_default-with_capacity-clause-whole
returns-in_default-with_capacity-clause-whole g c = tt

pub returns-in_default-with_capacity-clause-back : goal.returns-in_default-with_capacity-clause-back
returns-in_default-with_capacity-clause-back g c = refl

pub invariant_of-result : goal.invariant_of-result
invariant_of-result g c =
    locks_few c.in_ok-locks.locks.items c.args.numbers c.args.states.items c.reverse.new.self.items 256 c.reverse.ensures.items c.requires.cones.1 c.in_ok-locks.ensures.locks
