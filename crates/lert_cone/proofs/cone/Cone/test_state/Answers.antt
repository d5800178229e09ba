-- Each state's answer; the clauses on it are lemmas over the state alone.
use Rattle.std.proofs.Common.{◌∙◌, ap, refl, sym}
use Rattle.lert_cone.specs.Stands.{Standing, is_broken}
use Rattle.lert_cone.proofs.StateLaws.{broken_broken, broken_closed, ended_broken, ended_closed, passed_broken, passed_closed}
use Rattle.lert_cone.proofs.cone.Cone.test_state.Goals as goal

pub returns-in-Running : goal.returns-in-Running
returns-in-Running g c =
    let state = c.args.self.now.state in
    let is = sym (ap (λ (v : Standing g.row.B.Denot). v.state) c.self.view_is) ∙ c.in-Running.is in
    record { ok = is; closed = passed_closed state is; broken = passed_broken state is; refusal = tt; why = tt }

pub returns-in-Finished : goal.returns-in-Finished
returns-in-Finished g c =
    let state = c.args.self.now.state in
    let is = sym (ap (λ (v : Standing g.row.B.Denot). v.state) c.self.view_is) ∙ c.in-Finished.is in
    record { ok = tt; closed = ended_closed state is; broken = ended_broken state is; refusal = refl; why = is }

pub returns-in-BrokenByBay : goal.returns-in-BrokenByBay
returns-in-BrokenByBay g c =
    let state = c.args.self.now.state in
    let is = sym (ap (λ (v : Standing g.row.B.Denot). v.state) c.self.view_is) ∙ c.in-BrokenByBay.is in
    record { ok = tt; closed = broken_closed state (ap is_broken is); broken = broken_broken state (ap is_broken is); refusal = refl; why = ap is_broken is }

pub returns-in-BrokenByRead : goal.returns-in-BrokenByRead
returns-in-BrokenByRead g c =
    let state = c.args.self.now.state in
    let is = sym (ap (λ (v : Standing g.row.B.Denot). v.state) c.self.view_is) ∙ c.in-BrokenByRead.is in
    record { ok = tt; closed = broken_closed state (ap is_broken is); broken = broken_broken state (ap is_broken is); refusal = refl; why = ap is_broken is }
