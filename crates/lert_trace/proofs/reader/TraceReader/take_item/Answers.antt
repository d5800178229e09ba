use Rattle.std.proofs.{Common.{◌≡◌, ℕ, ◌+◌, ◌*◌, List, [], slice_get, ◌<◌, ◌≤◌, true, Some, length, drop, refl, sym, ap, ◌∙◌, subst, arith, rules}, lemmas.Result.err_from_is_err_and}
use Rattle.lert_io.specs.Fault.{HasRisen}
use Rattle.lert_io.proofs.Rising.{risen_since}
use Rattle.lert_trace.specs.{Trace.whole, Reader.{IsTraceOf, LeavesItem}}
use Rattle.lert_trace.proofs.{Standing.{IsReader-read, IsReader-item, next_none, next_cut, next_weightless, next_more, next_item}}
use Rattle.lert_trace.proofs.{Steps.{below_limit, behind_header, behind_key, one_at_least, weighs_some, ok_no_err, cut_no_failure, weightless_no_failure, long_no_failure}}
use Rattle.lert_trace.proofs.reader.TraceReader.take_item.Goals as goal

pub invariant_of-self : goal.invariant_of-self
invariant_of-self g c =
    IsReader-read _ _ _ _ _ _ _ _ _ _ _ _ _ c.self.invariant c.fill.ensures.cause.never_falls c.fill.ensures.mark
    (ap (λ r. r.fault) c.self.view_is ∙ c.requires.sound) c.fill.ensures.ahead

pub invariant_of-self-then-len-eq0 : goal.invariant_of-self-then-len-eq0
invariant_of-self-then-len-eq0 g c =
    IsReader-read _ _ _ _ _ _ _ _ _ _ _ _ _ c.self.invariant c.fill.ensures.cause.never_falls c.fill.ensures.mark
    (ap (λ r. r.fault) c.self.view_is ∙ c.requires.sound) c.fill.ensures.ahead

pub invariant_of-self-then-not-branch : goal.invariant_of-self-then-not-branch
invariant_of-self-then-not-branch g c =
    IsReader-read _ _ _ _ _ _ _ _ _ _ _ _ _ c.self.invariant c.fill.ensures.cause.never_falls c.fill.ensures.mark
    (ap (λ r. r.fault) c.self.view_is ∙ c.requires.sound) c.fill.ensures.ahead

pub invariant_of-self-then-self : goal.invariant_of-self-then-self
invariant_of-self-then-self g c =
    IsReader-read _ _ _ _ _ _ _ _ _ _ _ _ _ c.self.invariant c.fill.ensures.cause.never_falls c.fill.ensures.mark
    (ap (λ r. r.fault) c.self.view_is ∙ c.requires.sound) c.fill.ensures.ahead

pub invariant_of-self-then-item-eq0 : goal.invariant_of-self-then-item-eq0
invariant_of-self-then-item-eq0 g c =
    IsReader-read _ _ _ _ _ _ _ _ _ _ _ _ _ c.self.invariant c.fill.ensures.cause.never_falls c.fill.ensures.mark
    (ap (λ r. r.fault) c.self.view_is ∙ c.requires.sound) c.fill.ensures.ahead

pub returns-in_err-fill : goal.returns-in_err-fill
returns-in_err-fill g c =
    let p = err_from_is_err_and c.from_residual.result c.from_residual.ensures.1 in
    let seen = c.self.view_is in
    let read = c.in_err-fill.ensures in
    rw (p.1, p.2)
    (record {
      same = record { made = ap (λ r. r.made) seen; limit = ap (λ r. r.limit) seen; fault = ap (λ r. r.fault) seen };
      counted = tt;
      item = λ bytes was. tt;
      weight = tt;
      ended = tt;
      end = λ bytes was. tt;
      fault = ap (λ r. r.given) seen;
      cause = risen_since _ _ _ c.self.invariant.never_falls read.cause.never_falls (read.cause.failed (refl {a = true}));
      read_failed = λ is.
          subst (λ r. HasRisen (g.S.Faulty.faults r.source) (g.S.Faulty.faults c.fill.new.self.source)) seen (read.cause.failed (refl {a = true}));
      never_falls = subst (λ r. g.S.Faulty.faults r.source ≤ g.S.Faulty.faults c.fill.new.self.source) seen read.cause.never_falls;
      mark = read.mark ∙ ap (λ r. g.S.Faulty.mark r.source) seen;
    })

-- the trace's end
pub returns-then-len-eq0 : goal.returns-then-len-eq0
returns-then-len-eq0 g c =
    let seen = c.self.view_is in
    let read = c.in_ok-fill.ensures in
    record {
      same = record { made = ap (λ r. r.made) seen; limit = ap (λ r. r.limit) seen; fault = ap (λ r. r.fault) seen };
      counted = tt;
      item = λ bytes was. tt;
      weight = tt;
      ended = ap (λ r. r.given) seen;
      end = subst (λ r. (bytes : List ℕ) → g.S.Source.remaining r.made ≡ Some bytes → IsTraceOf bytes r.given × (g.S.Source.remaining c.fill.new.self.source ≡ Some [])) seen
          (λ bytes was. next_none _ _ _ _ _ _ _ _ _ _ _ _ _ c.self.invariant (ap (λ r. r.begun) seen ∙ c.requires.begun) read.ahead bytes was
          (read.at_end c.if-not-branch.true) (sym c.len.ensures ∙ c.if-len-eq0.true));
      fault = tt;
      cause = tt;
      read_failed = λ is. absurd (ok_no_err _ _ is);
      never_falls = subst (λ r. g.S.Faulty.faults r.source ≤ g.S.Faulty.faults c.fill.new.self.source) seen read.cause.never_falls;
      mark = read.mark ∙ ap (λ r. g.S.Faulty.mark r.source) seen;
    }

-- an item that is cut off
pub returns-then-not-branch : goal.returns-then-not-branch
returns-then-not-branch g c =
    let seen = c.self.view_is in
    let read = c.in_ok-fill.ensures in
    let size = c.item_size-size.ensures.value in
    record {
      same = record { made = ap (λ r. r.made) seen; limit = ap (λ r. r.limit) seen; fault = ap (λ r. r.fault) seen };
      counted = tt;
      item = λ bytes was. tt;
      weight = tt;
      ended = tt;
      end = λ bytes was. tt;
      fault = ap (λ r. r.given) seen;
      cause = (
        behind_header c.item_size-size.result c.self.inside.given,
        λ bytes was. subst (λ n. LeavesItem bytes (8 + n * c.self.inside.given) c.self.inside.given 0) (sym size)
            (next_cut _ _ _ _ _ _ _ _ _ _ _ _ _ c.self.invariant (ap (λ r. r.begun) seen ∙ c.requires.begun) read.ahead bytes was
            (read.at_end c.if-not-branch.true) (λ none. c.if-len-eq0.false (c.len.ensures ∙ none))
            (subst (λ n. length c.fill.new.self.pending < n) size (read.short c.if-not-branch.true))),
      );
      read_failed = λ is. absurd (cut_no_failure _ is);
      never_falls = subst (λ r. g.S.Faulty.faults r.source ≤ g.S.Faulty.faults c.fill.new.self.source) seen read.cause.never_falls;
      mark = read.mark ∙ ap (λ r. g.S.Faulty.mark r.source) seen;
    }

pub item-item-requires : goal.item-item-requires
item-item-requires g c = subst (λ n. n ≤ length c.fill.new.self.pending) c.item_size-size.ensures.value (c.in_ok-fill.ensures.enough c.if-not-branch.false)

-- an item that weighs nothing
pub returns-then-item-eq0 : goal.returns-then-item-eq0
returns-then-item-eq0 g c =
    let seen = c.self.view_is in
    let read = c.in_ok-fill.ensures in
    let size = c.item_size-size.ensures.value in
    record {
      same = record { made = ap (λ r. r.made) seen; limit = ap (λ r. r.limit) seen; fault = ap (λ r. r.fault) seen };
      counted = tt;
      item = λ bytes was. tt;
      weight = tt;
      ended = tt;
      end = λ bytes was. tt;
      fault = ap (λ r. r.given) seen;
      cause = (
        behind_key c.item_size-size.result c.self.inside.given,
        λ bytes was. subst (λ n. LeavesItem bytes (8 + n * c.self.inside.given + 8) c.self.inside.given 8) (sym size)
            (next_weightless _ _ _ _ _ _ _ _ _ _ _ _ _ c.self.invariant (ap (λ r. r.begun) seen ∙ c.requires.begun) read.ahead bytes was
            (subst (λ n. n ≤ length c.fill.new.self.pending) size (read.enough c.if-not-branch.false))
            (sym (ap (λ item. item.weight) c.item-item.ensures) ∙ c.if-item-eq0.true)),
      );
      read_failed = λ is. absurd (weightless_no_failure _ is);
      never_falls = subst (λ r. g.S.Faulty.faults r.source ≤ g.S.Faulty.faults c.fill.new.self.source) seen read.cause.never_falls;
      mark = read.mark ∙ ap (λ r. g.S.Faulty.mark r.source) seen;
    }

-- one item more than the limit
pub returns-then-self : goal.returns-then-self
returns-then-self g c =
    let seen = c.self.view_is in
    let read = c.in_ok-fill.ensures in
    record {
      same = record { made = ap (λ r. r.made) seen; limit = ap (λ r. r.limit) seen; fault = ap (λ r. r.fault) seen };
      counted = tt;
      item = λ bytes was. tt;
      weight = tt;
      ended = tt;
      end = λ bytes was. tt;
      fault = ap (λ r. r.given) seen;
      cause = (
        c.if-self.true,
        λ bytes was. subst (λ n. n < length (whole bytes)) c.if-self.true
            (next_more _ _ _ _ _ _ _ _ _ _ _ _ _ c.self.invariant (ap (λ r. r.begun) seen ∙ c.requires.begun) read.ahead bytes was
            (subst (λ n. n ≤ length c.fill.new.self.pending) c.item_size-size.ensures.value (read.enough c.if-not-branch.false))
            (weighs_some _ _ c.item-item.ensures (search rules))),
      );
      read_failed = λ is. absurd (long_no_failure is);
      never_falls = subst (λ r. g.S.Faulty.faults r.source ≤ g.S.Faulty.faults c.fill.new.self.source) seen read.cause.never_falls;
      mark = read.mark ∙ ap (λ r. g.S.Faulty.mark r.source) seen;
    }

pub take-requires : goal.take-requires
take-requires g c = c.in_ok-fill.ensures.enough c.if-not-branch.false

pub invariant_of-self-2 : goal.invariant_of-self-2
invariant_of-self-2 g c =
    let begun = ap (λ r. r.begun) c.self.view_is ∙ c.requires.begun in
    let sound = ap (λ r. r.fault) c.self.view_is ∙ c.requires.sound in
    let size = c.item_size-size.ensures.value in
    let read = IsReader-read _ _ _ _ _ _ _ _ _ _ _ _ _ c.self.invariant c.fill.ensures.cause.never_falls c.fill.ensures.mark sound c.fill.ensures.ahead in
    IsReader-item _ _ _ _ _ _ _ _ _ _ _ _ _ read c.take.ensures.source begun
    (subst (λ n. n ≤ length c.fill.new.self.pending) size (c.in_ok-fill.ensures.enough c.if-not-branch.false))
    (weighs_some _ _ c.item-item.ensures c.if-item-eq0.false)
    (c.take.ensures.pending ∙ ap (λ n. drop n c.fill.new.self.pending) size) (omega (arith, c.self.invariant.within, c.if-self.false)) sound

pub returns : goal.returns
returns g c =
    let seen = c.self.view_is in
    let read = c.in_ok-fill.ensures in
    let source = c.take.ensures.source in
    record {
      same = record { made = ap (λ r. r.made) seen; limit = ap (λ r. r.limit) seen; fault = ap (λ r. r.fault) seen };
      counted = (ap (λ r. r.given + 1) seen, below_limit c.self.inside.given c.self.inside.limit c.self.invariant.within c.if-self.false);
      item = subst (λ r. (bytes : List ℕ) → g.S.Source.remaining r.made ≡ Some bytes → slice_get (whole bytes) r.given ≡ Some c.item-item.result) seen
          (λ bytes was.
          next_item _ _ _ _ _ _ _ _ _ _ _ _ _ c.self.invariant (ap (λ r. r.begun) seen ∙ c.requires.begun) read.ahead bytes was
          (subst (λ n. n ≤ length c.fill.new.self.pending) c.item_size-size.ensures.value (read.enough c.if-not-branch.false))
          (weighs_some _ _ c.item-item.ensures c.if-item-eq0.false)
          ∙ ap Some (sym c.item-item.ensures));
      weight = one_at_least _ c.if-item-eq0.false;
      ended = tt;
      end = λ bytes was. tt;
      fault = tt;
      cause = tt;
      read_failed = λ is. absurd (ok_no_err _ _ is);
      never_falls = subst (λ s. g.S.Faulty.faults c.args.self.now.source ≤ g.S.Faulty.faults s) (sym source)
          (subst (λ r. g.S.Faulty.faults r.source ≤ g.S.Faulty.faults c.fill.new.self.source) seen read.cause.never_falls);
      mark = ap g.S.Faulty.mark source ∙ (read.mark ∙ ap (λ r. g.S.Faulty.mark r.source) seen);
    }
