use Rattle.std.proofs.{Common.{◌+◌, ◌<◌, length, refl, subst, sym}, lemmas.Result.err_from_is_err_and}
use Rattle.lert_bay.specs.Kept.{Bays, seen_by}
use Rattle.lert_bay.proofs.KeptLaws.{IsLawful, keeps_on}
use Rattle.lert_gatelog.specs.Gated.{Log}
use Rattle.lert_gatelog.proofs.{Appending.{appends_once, appends_on, each_moment, settled_before, others, settled, appended, closed_next}, Moments.turns_appended}
use Rattle.lert_gatelog.proofs.Seen.{others_seen, others_on, gate_in_reach}
use Rattle.lert_gatelog.proofs.gate_log.GateLog.append.Given as given
use Rattle.lert_gatelog.proofs.gate_log.GateLog.append.Goals as goal

abbrev bays : (g : given.Over) → Bays g.row.B.Denot
bays g = seen_by g.B.Faulty g.B.Bay

lawful : (g : given.Over) → IsLawful (bays g)
lawful g = record { as_read = g.met.B.Bay.as_read; since_now = g.met.B.Bay.since_now; only_now = g.met.B.Bay.only_now; since_earlier = g.met.B.Bay.since_earlier }

pub write_durably-requires : goal.write_durably-requires
write_durably-requires g c = record {
  file = c.self.invariant.0;
  reach = subst (λ (log : Log). log.gate + 1 + length c.args.text.now < 9223372036854775808) (sym c.self.view_is) c.requires.reach;
}

pub write_durably-requires-2 : goal.write_durably-requires-2
write_durably-requires-2 g c = record {
  file = c.self.invariant.0;
  reach = gate_in_reach c.self.inside.gate (length c.args.text.now)
      (subst (λ (log : Log). log.gate + 1 + length c.args.text.now < 9223372036854775808) (sym c.self.view_is) c.requires.reach);
}

-- the first write or its sync fails
pub returns-in_err-write_durably : goal.returns-in_err-write_durably
returns-in_err-write_durably g c =
    let p = err_from_is_err_and c.from_residual.result c.from_residual.ensures.1 in
    let wrote = c.write_durably.ensures in
    let appends = appends_once (bays g) (lawful g) c.args.self.now c.self.view_is c.requires wrote in
    rw (p.1, ← c.self.view_is) (record {
      moved = tt;
      stayed = refl;
      each_moment = each_moment appends c.self.invariant.1;
      appended = λ seen told first payloads payload is gated. tt;
      closed = λ seen told. tt;
      settled = tt;
      written = tt;
      before = settled_before appends;
      others = others appends;
      seen = others_seen _ _ _ _ wrote.seen;
      kept = c.in_err-write_durably.ensures.kept;
    })

-- the second one fails
pub returns-in_err-write_durably-2 : goal.returns-in_err-write_durably-2
returns-in_err-write_durably-2 g c =
    let p = err_from_is_err_and c.from_residual-in_err-write_durably-2.result c.from_residual-in_err-write_durably-2.ensures.1 in
    let one = c.in_ok-write_durably.ensures in
    let two = c.write_durably-2.ensures in
    let appends = appends_on (bays g) (lawful g) (appends_once (bays g) (lawful g) c.args.self.now c.self.view_is c.requires one) one two in
    rw (p.1, ← c.self.view_is) (record {
      moved = tt;
      stayed = refl;
      each_moment = each_moment appends c.self.invariant.1;
      appended = λ seen told first payloads payload is gated. tt;
      closed = λ seen told. tt;
      settled = tt;
      written = tt;
      before = settled_before appends;
      others = others appends;
      seen = others_on _ _ _ _ (others_seen _ _ _ _ one.seen) (others_seen _ _ _ _ two.seen);
      kept = keeps_on (bays g) (lawful g) _ _ _ _ _ one.kept c.in_err-write_durably-2.ensures.kept;
    })

-- the gate is open on the disk
pub returns : goal.returns
returns g c =
    let one = c.in_ok-write_durably.ensures in
    let two = c.in_ok-write_durably-2.ensures in
    let early = appends_once (bays g) (lawful g) c.args.self.now c.self.view_is c.requires one in
    let appends = appends_on (bays g) (lawful g) early one two in
    rw (← c.self.view_is) (record {
      moved = refl;
      stayed = tt;
      each_moment = each_moment appends c.self.invariant.1;
      appended = appended (bays g) (lawful g) early one two c.self.invariant.1;
      closed = closed_next (bays g) (lawful g) early one two;
      settled = settled two;
      written = turns_appended c.self.inside.file c.self.inside.gate c.args.text.now _ _ _ one.written two.written;
      before = settled_before appends;
      others = others appends;
      seen = others_on _ _ _ _ (others_seen _ _ _ _ one.seen) (others_seen _ _ _ _ two.seen);
      kept = keeps_on (bays g) (lawful g) _ _ _ _ _ one.kept two.kept;
    })
