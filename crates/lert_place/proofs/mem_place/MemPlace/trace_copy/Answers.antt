use Rattle.std.proofs.Common.{◌+◌, cond, List, drop, length, Some, sym, ap, ap₂, ◌∙◌}
use Rattle.std.specs.Str.{bytes_eq}
use Rattle.lert_place.specs.{Kept.Shelf, Shelf.{NamedTrace, trace_named}}
use Rattle.lert_io.specs.Memory.{Feeding}
use Rattle.lert_place.proofs.Shelves.{at_place, copied_is}
use Rattle.lert_place.proofs.mem_place.MemPlace.trace_copy.Goals as goal

pub returns-in_err-copy : goal.returns-in_err-copy
returns-in_err-copy c = rw c.from_residual.ensures tt

-- it is the one that the loop looks at, since none before it is
pub returns-then-eq : goal.returns-then-eq
returns-then-eq c =
    let all = c.self.inside.traces.items in
    let here = c.trace-item.result in
    let behind = trace_named (drop (c.loop-trace.trace-index + 1) all) c.args.name.now in
    let read = c.deref-trace-items in
    let name = c.as_str.ensures.value ∙ ap (λ (x : NamedTrace). x.name) c.trace.view_is in
    let named = sym (c.eq.ensures ∙ ap (λ name. bytes_eq name c.args.name.now) name) in
    record {
      source = here.source;
      found = ap (λ (s : Shelf). trace_named s.traces c.args.name.now) (sym c.self.view_is)
          ∙ c.loop-trace.invariant
          ∙ at_place (λ (xs : List NamedTrace). trace_named xs c.args.name.now) all read.result.now c.loop-trace.trace-index here read.ensures.value c.loop-trace-test.true c.trace-item.is
          ∙ ap (λ is. cond is (Some here.source) behind) (named ∙ c.if-eq.true);
      marked = c.marked.ensures ∙ ap₂ (λ (copy : Feeding) number. record copy { mark = number })
          (copied_is c.copied.result c.in_ok-copy.copy c.trace.inside.source (sym c.in_ok-copy.was ∙ c.ok.ensures.value) c.copied.ensures
          ∙ ap (λ (x : NamedTrace). x.source) c.trace.view_is)
          (c.from.ensures ∙ c.count.ensures ∙ ap (λ (s : Shelf). length s.ledger.traces.handed) c.self.view_is);
    }

pub loop-trace-preserved : goal.loop-trace-preserved
loop-trace-preserved c =
    let all = c.self.inside.traces.items in
    let here = c.trace-item.result in
    let behind = trace_named (drop (c.loop-trace.trace-index + 1) all) c.args.name.now in
    let read = c.deref-trace-items in
    let name = c.as_str.ensures.value ∙ ap (λ (x : NamedTrace). x.name) c.trace.view_is in
    let named = sym (c.eq.ensures ∙ ap (λ name. bytes_eq name c.args.name.now) name) in
    c.loop-trace.invariant
    ∙ at_place (λ (xs : List NamedTrace). trace_named xs c.args.name.now) all read.result.now c.loop-trace.trace-index here read.ensures.value c.loop-trace-test.true c.trace-item.is
    ∙ ap (λ is. cond is (Some here.source) behind) (named ∙ c.if-eq.false)
