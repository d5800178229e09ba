-- The text that was written is what a log appends for the record; each part is that of the log's own `append`.
use Rattle.lert_bay.specs.Kept.{Bays, seen_by}
use Rattle.std.proofs.{Common.{◌≡◌, ◌+◌, ◌≤◌, ◌<◌, ℕ, [], ◌∷◌, ◌++◌, length, ap, sym, subst, ◌∙◌, arith}, lemmas.Bool.false≢true}
use Rattle.std.specs.Result.{is_err}
use Rattle.lert_bay.specs.Files.{Turns}
use Rattle.lert_gatelog.specs.{Gated.{IsClosed, IsGated, Log, next_gate}, Kept.{InEach, IsWithOrWithout, IsWhollySettled, KeepsBefore, KeepsOthers, OthersStay}}
use Rattle.lert_cone.specs.Record.{LogPlace, payload_at, payload_len}
use Rattle.lert_cone.proofs.{TextLaws.{few_new, room_new, reach_new}, RecordLaws.{refused_record, text_at, text_long, payload_long, is_appendix}}
use Rattle.lert_cone.proofs.report_log.ReportLog.append.Given as given
use Rattle.lert_cone.proofs.report_log.ReportLog.append.Goals as goal

abbrev bays : (g : given.Over) → Bays g.row.B.Denot
bays g = seen_by g.B.Faulty g.B.Bay

pub write_log-len-requires-clause-few : goal.write_log-len-requires-clause-few
write_log-len-requires-clause-few g c =
    let log : LogPlace = record { gate = c.self.inside.log.gate; most = c.self.inside.log.most; named = c.self.inside.named; places = c.self.inside.places } in
    few_new log c.args.directory.now c.args.reports.now
    (subst (λ (v : LogPlace). payload_len v c.args.directory.now c.args.reports.now ≤ v.most) (sym c.self.view_is) c.requires.fits) c.gate.ensures.most

pub write_log-len-requires-clause-room : goal.write_log-len-requires-clause-room
write_log-len-requires-clause-room g c =
    let log : LogPlace = record { gate = c.self.inside.log.gate; most = c.self.inside.log.most; named = c.self.inside.named; places = c.self.inside.places } in
    room_new log c.args.directory.now c.args.reports.now
    (subst (λ (v : LogPlace). payload_len v c.args.directory.now c.args.reports.now ≤ v.most) (sym c.self.view_is) c.requires.fits)
    (length c.args.buffer.now)
    (subst (λ (v : LogPlace). v.most + 5 ≤ length c.args.buffer.now) (sym c.self.view_is) c.requires.room)

pub append-requires-clause-reach : goal.append-requires-clause-reach
append-requires-clause-reach g c =
    let log : LogPlace = record { gate = c.self.inside.log.gate; most = c.self.inside.log.most; named = c.self.inside.named; places = c.self.inside.places } in
    reach_new log c.args.directory.now c.args.reports.now
    (subst (λ (v : LogPlace). payload_len v c.args.directory.now c.args.reports.now ≤ v.most) (sym c.self.view_is) c.requires.fits) _ _
    (text_long log c.args.kind c.args.n0 c.args.directory.now c.args.reports.now c.oldest-place.result c.oldest-place.ensures c.write_log-len.result c.write_log-len.new.into
    c.write_log-len.ensures.text)
    (payload_long log c.args.kind c.args.n0 c.args.directory.now c.args.reports.now)
    (subst (λ (v : LogPlace). v.gate + v.most + 6 < 9223372036854775808) (sym c.self.view_is) c.requires.reach)

pub append-requires-clause-text : goal.append-requires-clause-text
append-requires-clause-text g c =
    let log : LogPlace = record { gate = c.self.inside.log.gate; most = c.self.inside.log.most; named = c.self.inside.named; places = c.self.inside.places } in
    is_appendix log c.args.kind c.args.n0 c.args.directory.now c.args.reports.now c.oldest-place.result c.oldest-place.ensures c.write_log-len.result c.write_log-len.new.into
    c.write_log-len.ensures.text
    c.self.inside.log.most (subst (λ (v : LogPlace). payload_len v c.args.directory.now c.args.reports.now ≤ v.most) (sym c.self.view_is) c.requires.fits)

pub append-requires-clause-closed : goal.append-requires-clause-closed
append-requires-clause-closed g c = λ seen told image may.
    subst (λ (f : ℕ). IsClosed (image f) c.self.inside.log.gate) (sym c.self.invariant)
    (subst (λ (v : LogPlace). IsClosed (image 1) v.gate) (sym c.self.view_is) (c.requires.closed seen told image may))

pub returns-in_err-append : goal.returns-in_err-append
returns-in_err-append g c =
    let log : LogPlace = record { gate = c.self.inside.log.gate; most = c.self.inside.log.most; named = c.self.inside.named; places = c.self.inside.places } in
    let payload = payload_at log c.args.kind c.args.n0 c.args.directory.now c.args.reports.now in
    let text = text_at log c.args.kind c.args.n0 c.args.directory.now c.args.reports.now c.oldest-place.result c.oldest-place.ensures c.write_log-len.result
    c.write_log-len.new.into c.write_log-len.ensures.text in
    rw (← c.self.view_is) (refused_record (bays g) c.args.kind c.args.n0 c.args.directory.now c.args.reports.now c.args.bay.now c.append.new.bay log
    (record { gate = c.append.new.self.gate; most = c.append.new.self.most; named = c.self.inside.named; places = c.self.inside.places }) c.from_residual.result c.in_err-append.field-0.0
    c.from_residual.ensures.1 (record {
      moved = tt;
      stayed = ap (λ (l : Log). record { gate = l.gate; most = l.most; named = c.self.inside.named; places = c.self.inside.places }) c.in_err-append.ensures.stayed;
      long = ap (λ n. log.gate + 5 + n) (payload_long log c.args.kind c.args.n0 c.args.directory.now c.args.reports.now);
      each_moment = λ seen told first payloads all image may.
          subst (λ (f : ℕ). IsWithOrWithout log.most first payloads log.gate payload (image f)) c.self.invariant (c.append.ensures.each_moment seen told first payloads payload text
          (λ earlier left. subst (λ (f : ℕ). IsGated log.most (earlier f) first payloads log.gate) (sym c.self.invariant) (all earlier left)) image may);
      appended = λ seen told first payloads all. tt;
      closed = λ seen told. tt;
      settled = tt;
      before = λ seen told. subst (λ (f : ℕ). KeepsBefore (g.B.Bay.leaves c.args.bay.now) (g.B.Bay.left_since c.append.new.bay (g.B.Bay.moment c.args.bay.now)) seen f log.gate)
          c.self.invariant (c.append.ensures.before seen told);
      others = λ seen told. subst (λ (f : ℕ). KeepsOthers (g.B.Bay.leaves c.args.bay.now) (g.B.Bay.left_since c.append.new.bay (g.B.Bay.moment c.args.bay.now)) seen f) c.self.invariant
          (c.append.ensures.others seen told);
      seen = subst (λ (f : ℕ). Turns (OthersStay f) (g.B.Bay.files c.args.bay.now) (g.B.Bay.files c.append.new.bay)) c.self.invariant c.append.ensures.seen;
      kept = record {
        time = c.append.ensures.kept.time;
        never_falls = c.append.ensures.kept.never_falls;
        failed = λ _. c.append.ensures.kept.failed (ap is_err c.in_err-append.was);
        mark = c.append.ensures.kept.mark;
        journal = c.append.ensures.kept.journal;
      };
    }))

pub returns : goal.returns
returns g c =
    let log : LogPlace = record { gate = c.self.inside.log.gate; most = c.self.inside.log.most; named = c.self.inside.named; places = c.self.inside.places } in
    let payload = payload_at log c.args.kind c.args.n0 c.args.directory.now c.args.reports.now in
    let text = text_at log c.args.kind c.args.n0 c.args.directory.now c.args.reports.now c.oldest-place.result c.oldest-place.ensures c.write_log-len.result
    c.write_log-len.new.into c.write_log-len.ensures.text in
    let gate_is : c.append.new.self.gate ≡ next_gate log.gate payload = ap (λ (l : Log). l.gate) c.in_ok-append.ensures.moved
    ∙ omega (
      arith,
      text_long log c.args.kind c.args.n0 c.args.directory.now c.args.reports.now c.oldest-place.result c.oldest-place.ensures c.write_log-len.result
          c.write_log-len.new.into c.write_log-len.ensures.text,
    ) in
    rw (← c.self.view_is) (record {
      moved = λ i. record {
        gate = gate_is i;
        most = (ap (λ (l : Log). l.most) c.in_ok-append.ensures.moved) i;
        named = length c.args.reports.now;
        places = c.self.inside.places;
      };
      stayed = tt;
      long = ap (λ n. log.gate + 5 + n) (payload_long log c.args.kind c.args.n0 c.args.directory.now c.args.reports.now);
      each_moment = λ seen told first payloads all image may.
          subst (λ (f : ℕ). IsWithOrWithout log.most first payloads log.gate payload (image f)) c.self.invariant (c.append.ensures.each_moment seen told first payloads payload text
          (λ earlier left. subst (λ (f : ℕ). IsGated log.most (earlier f) first payloads log.gate) (sym c.self.invariant) (all earlier left)) image may);
      appended = λ seen told first payloads all image may.
          subst (λ (f : ℕ). IsGated log.most (image f) first (payloads ++ payload ∷ []) c.append.new.self.gate) c.self.invariant
          (c.in_ok-append.ensures.appended seen told first payloads payload text
          (λ earlier left. subst (λ (f : ℕ). IsGated log.most (earlier f) first payloads log.gate) (sym c.self.invariant) (all earlier left)) image may);
      closed = λ seen told. subst (λ (f : ℕ). InEach (g.B.Bay.leaves c.append.new.bay) f (λ bytes. IsClosed bytes c.append.new.self.gate)) c.self.invariant
          (c.in_ok-append.ensures.closed seen told);
      settled = λ seen told. subst (λ (f : ℕ). IsWhollySettled (g.B.Bay.leaves c.append.new.bay) seen f) c.self.invariant (c.in_ok-append.ensures.settled seen told);
      before = λ seen told. subst (λ (f : ℕ). KeepsBefore (g.B.Bay.leaves c.args.bay.now) (g.B.Bay.left_since c.append.new.bay (g.B.Bay.moment c.args.bay.now)) seen f log.gate)
          c.self.invariant (c.append.ensures.before seen told);
      others = λ seen told. subst (λ (f : ℕ). KeepsOthers (g.B.Bay.leaves c.args.bay.now) (g.B.Bay.left_since c.append.new.bay (g.B.Bay.moment c.args.bay.now)) seen f) c.self.invariant
          (c.append.ensures.others seen told);
      seen = subst (λ (f : ℕ). Turns (OthersStay f) (g.B.Bay.files c.args.bay.now) (g.B.Bay.files c.append.new.bay)) c.self.invariant c.append.ensures.seen;
      kept = record {
        time = c.append.ensures.kept.time;
        never_falls = c.append.ensures.kept.never_falls;
        failed = λ never. absurd (false≢true never);
        mark = c.append.ensures.kept.mark;
        journal = c.append.ensures.kept.journal;
      };
    })

-- ---- where the slices end, and what stays so of the log

pub slice_bounds-new-count : goal.slice_bounds-new-count
slice_bounds-new-count g c = subst (λ (v : LogPlace). v.named ≤ length c.args.reports.now) (sym c.self.view_is) c.requires.named

pub slice_bounds-append-end : goal.slice_bounds-append-end
slice_bounds-append-end g c =
    let log : LogPlace = record { gate = c.self.inside.log.gate; most = c.self.inside.log.most; named = c.self.inside.named; places = c.self.inside.places } in
    let fits = subst (λ (v : LogPlace). payload_len v c.args.directory.now c.args.reports.now ≤ v.most) (sym c.self.view_is) c.requires.fits in
    let room = subst (λ (v : LogPlace). v.most + 5 ≤ length c.args.buffer.now) (sym c.self.view_is) c.requires.room in
    omega (arith, c.write_log-len.ensures.counted, room_new log c.args.directory.now c.args.reports.now fits (length c.args.buffer.now) room, c.write_log-len.auto.into)

pub invariant_of-self : goal.invariant_of-self
invariant_of-self g c = ap (λ (l : Log). l.file) c.in_err-append.ensures.stayed ∙ c.self.invariant

pub invariant_of-self-2 : goal.invariant_of-self-2
invariant_of-self-2 g c = ap (λ (l : Log). l.file) c.in_ok-append.ensures.moved ∙ c.self.invariant
