use Rattle.std.proofs.Common.{◌≡◌, ℕ, ◌+◌, ◌-◌, ◌*◌, ◌%◌, ◌^◌, List, ◌∷◌, drop, length, arith, refl, sym, ap, ◌∙◌, subst, length-append}
use Rattle.lert_counter.proofs.GroupLemmas.{length_group-positive}
use Rattle.lert_counter.specs.{Group.group, Reading.read_as, declared.group.Group.Group}
use Rattle.lert_runs.specs.RunText.{run_text}
use Rattle.lert_cqf.specs.{Contents.Contents, Standing.{Stands, IsInRun}}
use Rattle.lert_cqf.proofs.StandingLemmas.{next_pair, pair_given, stands_next, tail_word, given_small, tail_is}
use Rattle.lert_cqf.proofs.table.CqfCountTable.step.Goals as goal

pub part-requires-clause-within : goal.part-requires-clause-within
part-requires-clause-within c =
    let e = c.if-not-enter.ensures.entered refl in
    let i = subst (λ (t : Contents). IsInRun t c.enter.new.cursor) (sym c.self.view_is) e.0 in
    let n = next_pair _ _ _ _ _ _ _ _ _ _ c.self.invariant.0 c.enter.new.cursor i e.1 in
    n.within

pub scan_group-requires-clause-some : goal.scan_group-requires-clause-some
scan_group-requires-clause-some c =
    let e = c.if-not-enter.ensures.entered refl in
    let i = subst (λ (t : Contents). IsInRun t c.enter.new.cursor) (sym c.self.view_is) e.0 in
    let n = next_pair _ _ _ _ _ _ _ _ _ _ c.self.invariant.0 c.enter.new.cursor i e.1 in
    let some = length_group-positive c.self.inside.width (n.pair).0 (n.pair).1 (n.counts).0 in
    omega (arith, ap (λ (t : List ℕ). length t) (c.part.ensures ∙ n.text), length-append (group c.self.inside.width (n.pair).0 (n.pair).1) (run_text c.self.inside.width n.back))

pub unreachable-requires : goal.unreachable-requires
unreachable-requires c =
    let e = c.if-not-enter.ensures.entered refl in
    let i = subst (λ (t : Contents). IsInRun t c.enter.new.cursor) (sym c.self.view_is) e.0 in
    let n = next_pair _ _ _ _ _ _ _ _ _ _ c.self.invariant.0 c.enter.new.cursor i e.1 in
    cc (c.scan_group.ensures.there (n.pair).0 (n.pair).1 (run_text c.self.inside.width n.back) n.counts (c.part.ensures ∙ n.text) n.follows, c.in_default.is)

pub overflow_add-cursor : goal.overflow_add-cursor
overflow_add-cursor c =
    let e = c.if-not-enter.ensures.entered refl in
    let i = subst (λ (t : Contents). IsInRun t c.enter.new.cursor) (sym c.self.view_is) e.0 in
    let n = next_pair _ _ _ _ _ _ _ _ _ _ c.self.invariant.0 c.enter.new.cursor i e.1 in
    let same : c.in-Some.group ≡ read_as c.self.inside.width (n.pair).0 (n.pair).1 =
    cc (c.scan_group.ensures.there (n.pair).0 (n.pair).1 (run_text c.self.inside.width n.back) n.counts (c.part.ensures ∙ n.text) n.follows, c.in-Some.is) in
    let used = ap (λ (g : Group). g.used) same in
    let x = ap (λ (g : Group). g.x) same in
    let lengths = ((c.self.invariant.0).stand).lengths in
    omega (arith, n.stop_is, n.within, lengths.short, lengths.slots_long)

pub overflow_add-cursor-2 : goal.overflow_add-cursor-2
overflow_add-cursor-2 c =
    let e = c.if-not-enter.ensures.entered refl in
    let i = subst (λ (t : Contents). IsInRun t c.enter.new.cursor) (sym c.self.view_is) e.0 in
    let n = next_pair _ _ _ _ _ _ _ _ _ _ c.self.invariant.0 c.enter.new.cursor i e.1 in
    let small = given_small _ _ _ _ _ _ _ _ _ _ c.self.invariant.0 c.enter.new.cursor i n in
    omega arith

pub overflow_add-result : goal.overflow_add-result
overflow_add-result c =
    let e = c.if-not-enter.ensures.entered refl in
    let i = subst (λ (t : Contents). IsInRun t c.enter.new.cursor) (sym c.self.view_is) e.0 in
    let n = next_pair _ _ _ _ _ _ _ _ _ _ c.self.invariant.0 c.enter.new.cursor i e.1 in
    let same : c.in-Some.group ≡ read_as c.self.inside.width (n.pair).0 (n.pair).1 =
    cc (c.scan_group.ensures.there (n.pair).0 (n.pair).1 (run_text c.self.inside.width n.back) n.counts (c.part.ensures ∙ n.text) n.follows, c.in-Some.is) in
    let used = ap (λ (g : Group). g.used) same in
    let x = ap (λ (g : Group). g.x) same in
    let word = tail_word _ _ _ _ _ _ _ _ _ _ c.self.invariant.0 c.enter.new.cursor i n in
    let is = tail_is _ _ _ _ _ _ _ _ _ _ c.self.invariant.0 c.enter.new.cursor i n c.in-Some.group.x x in
    omega arith

pub returns-clause-stands : goal.returns-clause-stands
returns-clause-stands c =
    let e = c.if-not-enter.ensures.entered refl in
    let i = subst (λ (t : Contents). IsInRun t c.enter.new.cursor) (sym c.self.view_is) e.0 in
    let n = next_pair _ _ _ _ _ _ _ _ _ _ c.self.invariant.0 c.enter.new.cursor i e.1 in
    let same : c.in-Some.group ≡ read_as c.self.inside.width (n.pair).0 (n.pair).1 =
    cc (c.scan_group.ensures.there (n.pair).0 (n.pair).1 (run_text c.self.inside.width n.back) n.counts (c.part.ensures ∙ n.text) n.follows, c.in-Some.is) in
    let used = ap (λ (g : Group). g.used) same in
    let x = ap (λ (g : Group). g.x) same in
    subst (λ (t : Contents). Stands t (record {
      next = c.enter.new.cursor.next;
      at = c.enter.new.cursor.at + c.in-Some.group.used;
      end = c.enter.new.cursor.end;
      given =
          c.enter.new.cursor.given + 1;
    }))
    c.self.view_is
    (stands_next _ _ _ _ _ _ _ _ _ _ c.self.invariant.0 c.enter.new.cursor i n c.in-Some.group.used used)

pub returns-clause-next : goal.returns-clause-next
returns-clause-next c =
    let e = c.if-not-enter.ensures.entered refl in
    let i = subst (λ (t : Contents). IsInRun t c.enter.new.cursor) (sym c.self.view_is) e.0 in
    let n = next_pair _ _ _ _ _ _ _ _ _ _ c.self.invariant.0 c.enter.new.cursor i e.1 in
    let same : c.in-Some.group ≡ read_as c.self.inside.width (n.pair).0 (n.pair).1 =
    cc (c.scan_group.ensures.there (n.pair).0 (n.pair).1 (run_text c.self.inside.width n.back) n.counts (c.part.ensures ∙ n.text) n.follows, c.in-Some.is) in
    let used = ap (λ (g : Group). g.used) same in
    let x = ap (λ (g : Group). g.x) same in
    let count = ap (λ (g : Group). g.count) same in
    let tail = (c.enter.new.cursor.next - 1) * 2 ^ c.self.inside.width % 2 ^ 64 + c.in-Some.group.x in
    let is = tail_is _ _ _ _ _ _ _ _ _ _ c.self.invariant.0 c.enter.new.cursor i n c.in-Some.group.x x in
    ap (λ g. drop g c.args.self.now.pieces) (sym c.if-not-enter.ensures.given)
    ∙ subst (λ (t : Contents). drop c.enter.new.cursor.given t.pieces ≡ record { tail = tail; count = c.in-Some.group.count } ∷ drop (c.enter.new.cursor.given + 1) t.pieces)
    c.self.view_is
    (pair_given _ _ _ _ _ _ _ _ _ _ c.self.invariant.0 c.enter.new.cursor i n tail c.in-Some.group.count is count)
