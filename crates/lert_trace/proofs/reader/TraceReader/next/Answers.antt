use Rattle.std.proofs.{Common.{◌≤◌, refl, sym, ap, ◌∙◌, subst}, lemmas.Bool.false≢true}
use Rattle.lert_io.specs.Fault.{HasRisen}
use Rattle.lert_trace.specs.Reader.{Means}
use Rattle.lert_trace.proofs.Steps.{no_err, none_is, if_none, if_some, some_no_none, none_less}
use Rattle.lert_trace.proofs.reader.TraceReader.next.Goals as goal

-- a kept fault says what it said when it came
pub returns-in-Some : goal.returns-in-Some
returns-in-Some g c =
    let met = sym (ap (λ r. r.fault) c.self.view_is) ∙ c.in-Some.is in
    record {
      same_reader = refl;
      same_limit = refl;
      counted = tt;
      item = λ bytes was. tt;
      weight = tt;
      ended = tt;
      end = λ bytes was. tt;
      no_fault = λ is. absurd (false≢true is);
      fault = (met, refl);
      cause = rw (← c.self.view_is) (c.self.invariant.caused c.in-Some.fault c.in-Some.is);
      read_failed = λ none is. absurd (some_no_none _ _ met none);
      repeats = if_some _ _ _ met (refl, refl);
      never_falls = none_less _;
      mark = refl;
    }

-- a fault that is met now
pub returns-in-Err : goal.returns-in-Err
returns-in-Err g c =
    let seen = c.self-2.view_is in
    let told = c.in-Err.ensures in
    record {
      same_reader = ap (λ r. r.made) seen ∙ told.same.made;
      same_limit = ap (λ r. r.limit) seen ∙ told.same.limit;
      counted = tt;
      item = λ bytes was. tt;
      weight = tt;
      ended = tt;
      end = λ bytes was. tt;
      no_fault = λ is. absurd (false≢true is);
      fault = (refl, ap (λ r. r.given) seen ∙ told.fault);
      cause = subst (λ r. Means g.S.Source.remaining g.S.Faulty.faults r.made r.source r.limit r.given c.in-Err.fault) (sym seen) told.cause;
      read_failed = λ none is. subst (λ r. HasRisen (g.S.Faulty.faults c.args.self.now.source) (g.S.Faulty.faults r.source)) (sym seen) (told.read_failed is);
      repeats = if_none _ _ (sym (ap (λ r. r.fault) c.self.view_is) ∙ none_is _ c.in_default.not-Some);
      never_falls = subst (λ r. g.S.Faulty.faults c.args.self.now.source ≤ g.S.Faulty.faults r.source) (sym seen) told.never_falls;
      mark = ap (λ r. g.S.Faulty.mark r.source) seen ∙ told.mark;
    }

pub returns-in_default-next : goal.returns-in_default-next
returns-in_default-next g c =
    let told = c.advance-next.ensures in
    let none = sym (ap (λ r. r.fault) c.self.view_is) ∙ none_is _ c.in_default.not-Some in
    record {
      same_reader = told.same.made;
      same_limit = told.same.limit;
      counted = told.counted;
      item = told.item;
      weight = told.weight;
      ended = told.ended;
      end = told.end;
      no_fault = λ is. told.same.fault ∙ none;
      fault = no_err _ _ _ c.in_default-next.is;
      cause = told.cause;
      read_failed = λ _. told.read_failed;
      repeats = if_none _ _ none;
      never_falls = told.never_falls;
      mark = told.mark;
    }
