use Rattle.std.proofs.{Common.{ap, ◌∙◌}, lemmas.Result.err_from_is_err_and}
use Rattle.lert_trace.proofs.{Standing.IsReader-read, Beginning.{Means-header, IsReader-header}}
use Rattle.lert_trace.proofs.reader.TraceReader.begin.Goals as goal

pub invariant_of-self : goal.invariant_of-self
invariant_of-self g c =
    IsReader-read _ _ _ _ _ _ _ _ _ _ _ _ _ c.self.invariant c.read_header.ensures.never_falls c.read_header.ensures.mark
    (ap (λ r. r.fault) c.self.view_is ∙ c.requires) c.in_err-self-inside.ensures.refused

pub returns-in_err-self-inside-clause-cause : goal.returns-in_err-self-inside-clause-cause
returns-in_err-self-inside-clause-cause g c =
    let p = err_from_is_err_and c.from_residual.result c.from_residual.ensures.1 in
    rw (p.1, p.2)
    (Means-header _ _ _ _ _ _ _ _ _ _ _ _ c.self.invariant c.if-self.false c.read_header.ensures.never_falls c.in_err-self-inside.field-0.0 c.in_err-self-inside.ensures.fault)

pub invariant_of-self-2 : goal.invariant_of-self-2
invariant_of-self-2 g c =
    IsReader-header _ _ _ _ _ _ _ _ _ _ _ _ c.self.invariant c.if-self.false c.read_header.ensures.never_falls _ _ c.read_header.ensures.mark
    (ap (λ r. r.fault) c.self.view_is ∙ c.requires) c.in_ok-self-inside.ensures.header
    c.in_ok-self-inside.ensures.version c.in_ok-self-inside.ensures.within c.in_ok-self-inside.ensures.taken c.read_header.ensures.untold
