use Rattle.lert_bay.specs.Kept.{seen_by}
use Rattle.std.proofs.Common.{[], ◌∷◌, length, ap, arith, length-append, subst, sym, ◌∙◌, ◌≤◌}
use Rattle.lert_spec.specs.declared.item.Item.{Item}
use Rattle.lert_spec.specs.{declared.numbers.Numbers.Numbers, Edges.capacity}
use Rattle.lert_cone.specs.{Listing.Listing}
use Rattle.lert_cone.proofs.{KeyTaken.{key_refused, key_between, can_log_then, record_failed, key_flushed}}
use Rattle.lert_bay.proofs.KeptLaws.{IsLawful}
use Rattle.lert_cone.proofs.keys.take_item.Given as given
use Rattle.lert_cone.proofs.keys.take_item.Goals as goal

lawful : (g : given.Over) → IsLawful (seen_by g.B.Faulty g.B.Bay)
lawful g = record { as_read = g.met.B.Bay.as_read; since_now = g.met.B.Bay.since_now; only_now = g.met.B.Bay.only_now; since_earlier = g.met.B.Bay.since_earlier }

pub take-requires-clause-still : goal.take-requires-clause-still
take-requires-clause-still g c = c.requires.can.still

pub take-requires-clause-own : goal.take-requires-clause-own
take-requires-clause-own g c = c.requires.can.own 0 c.args.item (omega arith)

pub take-requires-clause-below : goal.take-requires-clause-below
take-requires-clause-below g c = c.requires.below

pub take-requires-clause-some : goal.take-requires-clause-some
take-requires-clause-some g c = (c.requires.can.light 0 c.args.item (omega arith)).0

pub take-requires-clause-light : goal.take-requires-clause-light
take-requires-clause-light g c = (c.requires.can.light 0 c.args.item (omega arith)).1

pub take-requires-clause-fits : goal.take-requires-clause-fits
take-requires-clause-fits g c = omega (arith, c.requires.can.fits)

pub take-requires-clause-counted : goal.take-requires-clause-counted
take-requires-clause-counted g c = c.requires.can.counted

pub returns-in_err-take : goal.returns-in_err-take
returns-in_err-take g c = key_refused (lawful g) c.args.place c.requires.can c.in_err-take.was c.take.ensures c.from_residual.ensures.1

pub is_flushed-requires-clause-some : goal.is_flushed-requires-clause-some
is_flushed-requires-clause-some g c = omega (arith, ap (length {A = Item}) c.in_ok-take.ensures.taken, length-append c.args.tally.now.listing.events (c.args.item ∷ []))

pub is_flushed-requires-clause-fits : goal.is_flushed-requires-clause-fits
is_flushed-requires-clause-fits g c = c.in_ok-take.ensures.counted.fits

pub pass-requires-clause-forward : goal.pass-requires-clause-forward
pass-requires-clause-forward g c =
    omega (
      arith,
      c.requires.can.can_log.logging.passed,
      c.len.ensures,
      ap (length {A = Item}) c.in_ok-take.ensures.taken,
      length-append c.args.tally.now.listing.events (c.args.item ∷ []),
    )

pub pass-requires-clause-within : goal.pass-requires-clause-within
pass-requires-clause-within g c =
    let settings_are = c.requires.can.can_log.logging.same ∙ sym (ap (λ (l : Listing). l.settings) c.in_ok-take.ensures.listing) in
    subst (λ (s : Numbers). c.len.result ≤ capacity s) (sym settings_are) (omega (arith, c.len.ensures, c.in_ok-take.ensures.counted.fits))

pub returns-then-not-is_flushed : goal.returns-then-not-is_flushed
returns-then-not-is_flushed g c =
    key_between (lawful g) c.args.place c.requires.can c.in_ok-take.ensures c.len.ensures c.pass.ensures.passed c.pass.ensures.rest (c.is_flushed.ensures.still c.if-not-is_flushed.true)

pub write_record-requires-clause-counted : goal.write_record-requires-clause-counted
write_record-requires-clause-counted g c = c.in_ok-take.ensures.counted

pub write_record-requires-clause-can_log : goal.write_record-requires-clause-can_log
write_record-requires-clause-can_log g c = can_log_then (lawful g) c.args.place c.requires.can c.in_ok-take.ensures c.len.ensures c.pass.ensures.passed c.pass.ensures.rest

pub returns-in_err-write_record : goal.returns-in_err-write_record
returns-in_err-write_record g c =
    record_failed (lawful g) c.args.place c.requires.can c.in_ok-take.ensures c.len.ensures c.pass.ensures.passed c.pass.ensures.rest (c.is_flushed.ensures.flushed c.if-not-is_flushed.false)
    c.write_record.ensures.few (rw c.in_err-write_record.was at c.write_record.ensures.appends) c.from_residual-in_err-write_record.ensures.1

pub returns : goal.returns
returns g c =
    key_flushed (lawful g) c.args.place c.requires.can c.in_ok-take.ensures c.len.ensures c.pass.ensures.passed c.pass.ensures.rest (c.is_flushed.ensures.flushed c.if-not-is_flushed.false)
    c.write_record.ensures.few c.write_record.auto.buffer (rw c.in_ok-write_record.was at c.write_record.ensures.appends)
