use Rattle.std.proofs.Common.{◌≡◌, ◌∙◌, ◌≤◌, None, length, ap, subst, sym, refl}
use Rattle.lert_gatelog.specs.Gated.{Log}
use Rattle.lert_cone.specs.{Replaying.Replaying, Wrote.IsShutIfTold}
use Rattle.lert_cone.proofs.{ReplayStands.{ready_cone, ready_stands, seen_as}}
use Rattle.lert_cone.proofs.cone.replaying.ReplayingCone.ready.Goals as goal
use Rattle.lert_journal.specs.Payload.{most_payload}

pub invariant_of-result : goal.invariant_of-result
invariant_of-result g c =
    let cone = seen_as c.self.inside.bay c.self.inside.made.value c.self.inside.tally c.self.inside.events c.self.inside.weight c.self.inside.stopped c.self.inside.journal.gate c.self.inside.log
    c.self.inside.last in
    let none : c.self.inside.stopped ≡ None = subst (λ (v : Replaying g.row.B.Denot). v.stopped ≡ None) (sym c.self.view_is) c.requires.taking in
    let passed : c.self.inside.last.n0 ≤ length c.self.inside.tally.listing.events = subst (λ (v : Replaying g.row.B.Denot). v.last.n0 ≤ length v.listing.events)
    (sym c.self.view_is) c.requires.passed in
    let gate_is : c.self.inside.journal.gate ≡ c.args.end = subst (λ (v : Replaying g.row.B.Denot). v.gate ≡ c.args.end) (sym c.self.view_is) c.requires.gate in
    let shut = subst (λ (v : Replaying g.row.B.Denot). IsShutIfTold (g.B.Bay.files v.bay) (g.B.Bay.leaves v.bay) 0 c.args.end) (sym c.self.view_is) c.requires.shut in
    ready_cone none c.state_behind-state.ensures passed gate_is
    (c.at_gate.ensures ∙ ap (λ most. record { file = 0; gate = c.args.end; most = most }) (c.greatest_payload-most.ensures.value
    ∙ (λ i. most_payload (sym c.self.invariant.version i) (c.settings.ensures i)))) shut refl c.self.invariant

pub returns-clause-weighs : goal.returns-clause-weighs
returns-clause-weighs g c =
    let none : c.self.inside.stopped ≡ None = subst (λ (v : Replaying g.row.B.Denot). v.stopped ≡ None) (sym c.self.view_is) c.requires.taking in
    let was = c.self.invariant.taking none in
    was.weight_is

pub returns-clause-stands_for : goal.returns-clause-stands_for
returns-clause-stands_for g c = rw (← c.self.view_is) (λ history some counted weighs replays.
    let none : c.self.inside.stopped ≡ None = subst (λ (v : Replaying g.row.B.Denot). v.stopped ≡ None) (sym c.self.view_is) c.requires.taking in
    let passed : c.self.inside.last.n0 ≤ length c.self.inside.tally.listing.events = subst (λ (v : Replaying g.row.B.Denot). v.last.n0 ≤ length v.listing.events)
    (sym c.self.view_is) c.requires.passed in
    let gate_is : c.self.inside.journal.gate ≡ c.args.end = subst (λ (v : Replaying g.row.B.Denot). v.gate ≡ c.args.end) (sym c.self.view_is) c.requires.gate in
    let was = c.self.invariant.taking none in
    ready_stands c.self.inside.bay c.self.inside.made.value c.self.inside.tally c.self.inside.events c.self.inside.weight c.self.inside.journal.gate
    c.at_gate.result.gate c.self.inside.log c.self.inside.last c.self.inside.stopped c.state_behind-state.result history
    c.state_behind-state.ensures (ap (λ (j : Log). j.gate) c.at_gate.ensures ∙ sym gate_is) was.recounted passed c.self.invariant.valid c.self.invariant.within
    some counted weighs (g.met.B.Bay.as_read c.self.inside.bay) replays)
