use Rattle.std.proofs.{Common.{◌≡◌, ◌+◌, ◌≤◌, Some, [], IfOk, slice_get, ap, ◌∙◌, subst}, lemmas.Result.err_from_is_err_and}
use Rattle.std.specs.Prelude.{IfSome, IfNone, IfErr}
use Rattle.lert_io.proofs.Rising.{risen_since}
use Rattle.lert_trace.specs.{Trace.whole, Reader.IsTraceOf}
use Rattle.lert_trace.proofs.Steps.{same_again, err_again, never_falls_on}
use Rattle.lert_trace.proofs.reader.TraceReader.advance.Goals as goal

pub returns-in_err-begin : goal.returns-in_err-begin
returns-in_err-begin g c =
    let p = err_from_is_err_and c.from_residual.result c.from_residual.ensures.1 in
    let failed = c.in_err-begin.ensures in
    rw (p.1, p.2)
    (record {
      same = failed.same;
      counted = tt;
      item = λ bytes was. tt;
      weight = tt;
      ended = tt;
      end = λ bytes was. tt;
      fault = failed.given;
      cause = failed.cause;
      read_failed = λ is. failed.read_failed (err_again _ _ is);
      never_falls = failed.never_falls;
      mark = failed.mark;
    })

pub returns : goal.returns
returns g c =
    let begun = c.in_ok-begin.ensures in
    let taken = c.take_item.ensures in
    record {
      same = same_again c.args.self.now c.begin.new.self c.take_item.new.self begun.same taken.same;
      counted = subst (λ n. IfOk c.take_item.result (λ next. IfSome next (λ _. (c.take_item.new.self.given ≡ n + 1) × (c.take_item.new.self.given ≤ c.take_item.new.self.limit))))
          begun.given taken.counted;
      item = λ bytes was.
          subst (λ n. IfOk c.take_item.result (λ next. IfSome next (λ item. slice_get (whole bytes) n ≡ Some item))) begun.given
          (taken.item bytes (ap g.S.Source.remaining begun.same.made ∙ was));
      weight = taken.weight;
      ended = subst (λ n. IfOk c.take_item.result (λ next. IfNone next (c.take_item.new.self.given ≡ n))) begun.given taken.ended;
      end = λ bytes was.
          subst (λ n. IfOk c.take_item.result (λ next. IfNone next (IsTraceOf bytes n × (g.S.Source.remaining c.take_item.new.self.source ≡ Some [])))) begun.given
          (taken.end bytes (ap g.S.Source.remaining begun.same.made ∙ was));
      fault = subst (λ n. IfErr c.take_item.result (λ _. c.take_item.new.self.given ≡ n)) begun.given taken.fault;
      cause = taken.cause;
      read_failed = λ is. risen_since _ _ _ begun.never_falls taken.never_falls (taken.read_failed is);
      never_falls = never_falls_on _ _ _ begun.never_falls taken.never_falls;
      mark = taken.mark ∙ begun.mark;
    }
