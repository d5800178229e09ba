use Rattle.std.proofs.{Common.{◌≤◌, true, sym, ap, ◌∙◌, subst, refl}, lemmas.Result.err_from_is_err_and}
use Rattle.lert_trace.proofs.Heading.{header-ahead, header_read, header-whole, header-within, taken-header}
use Rattle.lert_trace.proofs.header.read_header.Goals as goal

pub returns-in_err-fill : goal.returns-in_err-fill
returns-in_err-fill g c =
    let p = err_from_is_err_and c.from_residual.result c.from_residual.ensures.1 in
    let failed = c.in_err-fill.ensures in
    rw (p.1, p.2)
    (record {
      header = λ bytes was. tt;
      version = λ bytes was. tt;
      within = tt;
      taken = λ bytes was. tt;
      refused = failed.ahead;
      fault = failed.cause.failed (refl {a = true});
      untold = failed.ahead.untold;
      never_falls = failed.cause.never_falls;
      mark = failed.mark;
    })

pub returns-then-agreed-lt-HEADER : goal.returns-then-agreed-lt-HEADER
returns-then-agreed-lt-HEADER g c =
    let read = c.in_ok-fill.ensures in
    record {
      header = λ bytes was. tt;
      version = λ bytes was. tt;
      within = tt;
      taken = λ bytes was. tt;
      refused = read.ahead;
      fault = (
        c.if-agreed-lt-HEADER.true,
        λ bytes was. (header-ahead c.in_ok-fill.field-0 _ _ _ _ read.ahead read.enough read.at_end bytes was).0
            ∙ sym (header_read _ _ _ _ c.agreed-agreed.ensures c.header_of.ensures c.named_version-version.ensures.value),
      );
      untold = read.ahead.untold;
      never_falls = read.cause.never_falls;
      mark = read.mark;
    }

pub take-requires : goal.take-requires
take-requires g c =
    header-within c.fill.new.self.pending
    (subst (λ n. 8 ≤ n) (header_read _ _ _ _ c.agreed-agreed.ensures c.header_of.ensures c.named_version-version.ensures.value) c.if-agreed-lt-HEADER.false)

pub returns : goal.returns
returns g c =
    let read = c.in_ok-fill.ensures in
    let named = c.named_version-version.ensures in
    let all = subst (λ n. 8 ≤ n) (header_read _ _ _ _ c.agreed-agreed.ensures c.header_of.ensures named.value) c.if-agreed-lt-HEADER.false in
    let source = c.take.ensures.source in
    record {
      header = λ bytes was. (header-ahead c.in_ok-fill.field-0 _ _ _ _ read.ahead read.enough read.at_end bytes was).0 ∙ header-whole c.fill.new.self.pending all;
      version = λ bytes was. named.value ∙ sym (header-ahead c.in_ok-fill.field-0 _ _ _ _ read.ahead read.enough read.at_end bytes was).1;
      within = named.within;
      taken = λ bytes was.
          let left = taken-header _ _ _ c.fill.new.self.pending _ read.ahead (header-within c.fill.new.self.pending all) c.take.ensures.pending bytes was in
          (left.0, ap g.S.Source.remaining source ∙ left.1, left.2);
      refused = tt;
      fault = tt;
      untold = λ was. ap g.S.Source.remaining source ∙ read.ahead.untold was;
      never_falls = subst (λ s. g.S.Faulty.faults c.args.window.now.source ≤ g.S.Faulty.faults s) (sym source) read.cause.never_falls;
      mark = ap g.S.Faulty.mark source ∙ read.mark;
    }
