use Rattle.std.proofs.{Common.{◌≤◌, subst, ◌≡◌, length, true, Err, refl, sym, ap, ◌∙◌, arith}, lemmas.List.{take_at, length-take-le}, lemmas.Result.err_from_is_err_and}
use Rattle.std.specs.Prelude.{IsErr}
use Rattle.lert_bay.specs.Kept.{Bays, seen_by}
use Rattle.lert_bay.proofs.{KeptLaws.{IsLawful, reading_on, reading_as}, HandedLaws.{up_to_same, up_to_room}}
use Rattle.lert_gatelog.proofs.{Costs.{least_cost, up_to_look}, Announcing.{failed_no_place, malformed_no_fail, ok_no_fault}}
use Rattle.lert_gatelog.proofs.{Seen.{reads_once, behind_payload, at_most, behind_gate, record_small, record_in_reach}, Looking.{opened, cut_payload}}
use Rattle.lert_gatelog.proofs.gate_log.GateLog.next.Given as given
use Rattle.lert_gatelog.proofs.gate_log.GateLog.next.Goals as goal

abbrev bays : (g : given.Over) → Bays g.row.B.Denot
bays g = seen_by g.B.Faulty g.B.Bay

lawful : (g : given.Over) → IsLawful (bays g)
lawful g = record { as_read = g.met.B.Bay.as_read; since_now = g.met.B.Bay.since_now; only_now = g.met.B.Bay.only_now; since_earlier = g.met.B.Bay.since_earlier }

pub look-requires : goal.look-requires
look-requires g c = record {
  reach = c.requires.reach;
  end = λ seen told. c.in_ok-end.ensures.told seen (sym c.len.ensures.seen ∙ told) ∙ ap (λ log. length (seen log.file)) c.self.view_is;
}

-- a call fails, or the look finds a fault
pub returns-in_err-end : goal.returns-in_err-end
returns-in_err-end g c =
    let p = err_from_is_err_and c.from_residual.result c.from_residual.ensures.1 in
    let failed = c.in_err-end.ensures in
    rw (p.1, p.2) (record {
      opened = λ seen told. tt;
      closed = λ seen told. tt;
      malformed = λ seen told at is. absurd (failed_no_place at is);
      counted = tt;
      moved = tt;
      stayed = refl;
      only_reads = reads_once (bays g) (lawful g) c.args.bay.now c.len.new.self _ _ (λ _. refl {a = true}) failed.time failed.cause failed.mark failed.seen failed.images;
      handed = up_to_same _ _ _ _ failed.handed;
    })

pub returns-in_err-count : goal.returns-in_err-count
returns-in_err-count g c =
    let p = err_from_is_err_and c.from_residual-in_err-count.result c.from_residual-in_err-count.ensures.1 in
    let looked = c.in_err-count.ensures in
    rw (p.1, p.2) (record {
      opened = λ seen told. tt;
      closed = λ seen told. tt;
      malformed = λ seen told at. (looked.looked seen (c.len.ensures.seen ∙ told)).malformed at;
      counted = tt;
      moved = tt;
      stayed = refl;
      only_reads = reading_on (bays g) (lawful g) _ _ _ _ _
          (reads_once (bays g) (lawful g) c.args.bay.now c.len.new.self c.len.result (IsErr c.len.result) (λ fails. fails) c.len.ensures.time c.len.ensures.cause
          c.len.ensures.mark c.len.ensures.seen c.len.ensures.images)
          looked.only_reads;
      handed = up_to_look _ 0 _ _ _ _ _ (least_cost c.args.self.now.most (Err c.in_err-count.field-0.0)) c.len.ensures.handed looked.handed (up_to_same _ 0 _ _ refl);
    })

-- a closed gate
pub returns-in_default : goal.returns-in_default
returns-in_default g c =
    let looked = c.in_ok-count.ensures in
    record {
      opened = λ seen told. tt;
      closed = λ seen told. rw c.in_default.is at ((looked.looked seen (c.len.ensures.seen ∙ told)).closed);
      malformed = λ seen told at is. absurd (ok_no_fault _ _ is);
      counted = tt;
      moved = refl;
      stayed = tt;
      only_reads = reading_on (bays g) (lawful g) _ _ _ _ _
          (reads_once (bays g) (lawful g) c.args.bay.now c.len.new.self c.len.result (IsErr c.len.result) (λ fails. fails) c.len.ensures.time c.len.ensures.cause
          c.len.ensures.mark c.len.ensures.seen c.len.ensures.images)
          (reading_as (bays g) (lawful g) _ _ _ _ (λ is. absurd (ok_no_fault _ _ is)) looked.only_reads);
      handed = up_to_look _ 0 _ _ _ _ _ (omega arith) c.len.ensures.handed looked.handed (up_to_same _ 0 _ _ refl);
    }

-- ---- behind an open gate

pub returns-in_err-read_at : goal.returns-in_err-read_at
returns-in_err-read_at g c =
    let p = err_from_is_err_and c.from_residual-in_err-read_at.result c.from_residual-in_err-read_at.ensures.1 in
    let failed = c.in_err-read_at.ensures in
    rw (p.1, p.2) (record {
      opened = λ seen told. tt;
      closed = λ seen told. tt;
      malformed = λ seen told at is. absurd (failed_no_place at is);
      counted = tt;
      moved = tt;
      stayed = refl;
      only_reads = reading_on (bays g) (lawful g) _ _ _ _ _
          (reads_once (bays g) (lawful g) c.args.bay.now c.len.new.self c.len.result (IsErr c.len.result) (λ fails. fails) c.len.ensures.time c.len.ensures.cause
          c.len.ensures.mark c.len.ensures.seen c.len.ensures.images)
          (reading_on (bays g) (lawful g) _ _ _ _ _ c.look.ensures.only_reads
          (reads_once (bays g) (lawful g) c.look.new.bay c.read_at.new.self _ _ (λ _. refl {a = true}) failed.time failed.cause failed.mark failed.seen failed.images));
      handed = up_to_look _ 0 _ _ _ _ _ (omega arith) c.len.ensures.handed c.look.ensures.handed (up_to_same _ 0 _ _ failed.handed.failed);
    })

pub read_at-requires : goal.read_at-requires
read_at-requires g c = c.self.invariant.0

pub returns-then-branch-count-clause-opened : goal.returns-then-branch-count-clause-opened
returns-then-branch-count-clause-opened g c seen told = tt

pub returns-then-branch-count-clause-closed : goal.returns-then-branch-count-clause-closed
returns-then-branch-count-clause-closed g c seen told = tt

pub returns-then-branch-count-clause-counted : goal.returns-then-branch-count-clause-counted
returns-then-branch-count-clause-counted g c = tt

pub returns-then-branch-count-clause-moved : goal.returns-then-branch-count-clause-moved
returns-then-branch-count-clause-moved g c = tt

pub returns-then-branch-count-clause-stayed : goal.returns-then-branch-count-clause-stayed
returns-then-branch-count-clause-stayed g c = refl

pub returns-then-branch-count-clause-only_reads : goal.returns-then-branch-count-clause-only_reads
returns-then-branch-count-clause-only_reads g c =
    reading_on (bays g) (lawful g) _ _ _ _ _
    (reads_once (bays g) (lawful g) c.args.bay.now c.len.new.self c.len.result (IsErr c.len.result) (λ fails. fails) c.len.ensures.time c.len.ensures.cause
    c.len.ensures.mark c.len.ensures.seen c.len.ensures.images)
    (reading_on (bays g) (lawful g) _ _ _ _ _ c.look.ensures.only_reads
    (reads_once (bays g) (lawful g) c.look.new.bay c.read_at.new.self c.read_at.result _ (λ is. absurd (malformed_no_fail _ is)) c.read_at.ensures.time c.read_at.ensures.cause
    c.read_at.ensures.mark c.read_at.ensures.seen c.read_at.ensures.images))

pub returns-then-branch-count-clause-malformed : goal.returns-then-branch-count-clause-malformed
returns-then-branch-count-clause-malformed g c = rw (← c.self.view_is) (λ seen told at is.
    let told_then = c.len.ensures.seen ∙ told in
    let told_later = c.look.ensures.only_reads.seen ∙ told_then in
    let said = rw (c.in-Some.is, ← c.self.view_is) at ((c.in_ok-count.ensures.looked seen told_then).announced) in
    let bounds = rw (c.in-Some.is, ← c.self.view_is) at c.in_ok-count.ensures.counted in
    let most_is : c.self.inside.most ≡ c.args.self.now.most = ap (λ log. log.most) c.self.view_is in
    let long : length c.read_at.new.into ≡ c.in-Some.count = c.read_at.auto.into ∙ length-take-le c.in-Some.count c.args.into.now (omega (arith, bounds.1, c.requires.room, most_is)) in
    cut_payload c.self.inside.most c.self.inside.gate c.in-Some.count c.in_ok-read_at.field-0 c.in_ok-end.end at c.read_at.new.into (seen c.self.inside.file)
    said bounds.0 bounds.1 (c.in_ok-read_at.ensures.told seen told_later) long c.if-branch-count.true (c.in_ok-end.ensures.told seen told) (cc))

pub returns-then-branch-count-clause-handed : goal.returns-then-branch-count-clause-handed
returns-then-branch-count-clause-handed g c = rw (← c.self.view_is) (
    let bounds = rw (c.in-Some.is, ← c.self.view_is) at c.in_ok-count.ensures.counted in
    let most_is : c.self.inside.most ≡ c.args.self.now.most = ap (λ log. log.most) c.self.view_is in
    let long : length c.read_at.new.into ≡ c.in-Some.count = c.read_at.auto.into ∙ length-take-le c.in-Some.count c.args.into.now (omega (arith, bounds.1, c.requires.room, most_is)) in
    up_to_look _ c.in-Some.count _ _ _ _ _ (omega (arith, bounds.1)) c.len.ensures.handed (rw (← c.self.view_is) at c.look.ensures.handed)
    (up_to_room _ _ _ _ _ _ c.in_ok-read_at.ensures.handed (omega (arith, c.in_ok-read_at.ensures.within, long))))

pub returns-clause-opened : goal.returns-clause-opened
returns-clause-opened g c = rw (← c.self.view_is) (λ seen told.
    let told_then = c.len.ensures.seen ∙ told in
    let told_later = c.look.ensures.only_reads.seen ∙ told_then in
    let said = rw (c.in-Some.is, ← c.self.view_is) at ((c.in_ok-count.ensures.looked seen told_then).announced) in
    let bounds = rw (c.in-Some.is, ← c.self.view_is) at c.in_ok-count.ensures.counted in
    let most_is : c.self.inside.most ≡ c.args.self.now.most = ap (λ log. log.most) c.self.view_is in
    let long : length c.read_at.new.into ≡ c.in-Some.count = c.read_at.auto.into ∙ length-take-le c.in-Some.count c.args.into.now (omega (arith, bounds.1, c.requires.room, most_is)) in
    opened c.self.inside.most c.self.inside.gate c.in-Some.count c.in_ok-read_at.field-0 _ c.read_at.new.into (seen c.self.inside.file)
    said bounds.0 bounds.1 (c.in_ok-read_at.ensures.told seen told_later) long c.if-branch-count.false (take_at c.read_at.new.into _ c.in-Some.count long))

pub returns-clause-closed : goal.returns-clause-closed
returns-clause-closed g c seen told = tt

pub returns-clause-malformed : goal.returns-clause-malformed
returns-clause-malformed g c seen told at is = absurd (ok_no_fault _ _ is)

pub returns-clause-stayed : goal.returns-clause-stayed
returns-clause-stayed g c = tt

pub returns-clause-counted : goal.returns-clause-counted
returns-clause-counted g c = rw c.in-Some.is at c.in_ok-count.ensures.counted

pub returns-clause-moved : goal.returns-clause-moved
returns-clause-moved g c = rw (← c.self.view_is) (ap (λ n. record { file = c.self.inside.file; gate = n; most = c.self.inside.most }) (behind_payload c.self.inside.gate c.in-Some.count))

pub returns-clause-only_reads : goal.returns-clause-only_reads
returns-clause-only_reads g c =
    reading_on (bays g) (lawful g) _ _ _ _ _
    (reads_once (bays g) (lawful g) c.args.bay.now c.len.new.self c.len.result (IsErr c.len.result) (λ fails. fails) c.len.ensures.time c.len.ensures.cause
    c.len.ensures.mark c.len.ensures.seen c.len.ensures.images)
    (reading_on (bays g) (lawful g) _ _ _ _ _ c.look.ensures.only_reads
    (reads_once (bays g) (lawful g) c.look.new.bay c.read_at.new.self c.read_at.result _ (λ is. absurd (ok_no_fault _ _ is)) c.read_at.ensures.time c.read_at.ensures.cause
    c.read_at.ensures.mark c.read_at.ensures.seen c.read_at.ensures.images))

pub returns-clause-handed : goal.returns-clause-handed
returns-clause-handed g c = rw (← c.self.view_is) (
    let bounds = rw (c.in-Some.is, ← c.self.view_is) at c.in_ok-count.ensures.counted in
    let most_is : c.self.inside.most ≡ c.args.self.now.most = ap (λ log. log.most) c.self.view_is in
    let long : length c.read_at.new.into ≡ c.in-Some.count = c.read_at.auto.into ∙ length-take-le c.in-Some.count c.args.into.now (omega (arith, bounds.1, c.requires.room, most_is)) in
    up_to_look _ c.in-Some.count _ _ _ _ _ (omega arith) c.len.ensures.handed (rw (← c.self.view_is) at c.look.ensures.handed)
    (up_to_room _ _ _ _ _ _ c.in_ok-read_at.ensures.handed (omega (arith, c.in_ok-read_at.ensures.within, long))))

-- what is read and added stays in range
pub slice_bounds-read_at-end : goal.slice_bounds-read_at-end
slice_bounds-read_at-end g c = let bounds = rw c.in-Some.is at c.in_ok-count.ensures.counted in at_most _ _ _ bounds.1 c.requires.room

pub slice_bounds-read_at-end-2 : goal.slice_bounds-read_at-end-2
slice_bounds-read_at-end-2 g c =
    let bounds = rw c.in-Some.is at c.in_ok-count.ensures.counted in
    sym (length-take-le c.in-Some.count c.args.into.now (at_most _ _ _ bounds.1 c.requires.room))

pub overflow_add-self-inside : goal.overflow_add-self-inside
overflow_add-self-inside g c = record { fits = behind_gate c.self.inside.gate (subst (λ log. log.gate ≤ 4611686018427387904) (sym c.self.view_is) c.requires.reach) }

pub overflow_add-self : goal.overflow_add-self
overflow_add-self g c =
    let bounds = rw (c.in-Some.is, ← c.self.view_is) at c.in_ok-count.ensures.counted in
    record { fits = record_small c.in-Some.count c.self.inside.most bounds.1 c.self.invariant.1 }

pub overflow_add-self-2 : goal.overflow_add-self-2
overflow_add-self-2 g c =
    let bounds = rw (c.in-Some.is, ← c.self.view_is) at c.in_ok-count.ensures.counted in
    record {
      fits = record_in_reach c.self.inside.gate c.in-Some.count c.self.inside.most bounds.1 c.self.invariant.1
          (subst (λ log. log.gate ≤ 4611686018427387904) (sym c.self.view_is) c.requires.reach);
    }

pub invariant_of-self : goal.invariant_of-self
invariant_of-self g c = c.self.invariant
