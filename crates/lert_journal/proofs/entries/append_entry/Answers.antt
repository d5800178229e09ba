-- The text that was written is what a log appends for the entry's packet; each clause is that of `append`.
use Rattle.std.proofs.Common.{◌≡◌, ◌+◌, List, ℕ, length, take, map, subst, arith, OnOk}
use Rattle.lert_base.specs.Entries.{packet_of}
use Rattle.lert_gatelog.specs.{Gated.{IsGated, next_gate}, Kept.InEach}
use Rattle.lert_journal.specs.Payload.{payload_of}
use Rattle.lert_journal.proofs.PayloadLaws.{length_payload, length_text, one_more, payloads-push}
use Rattle.lert_journal.proofs.entries.append_entry.Goals as goal

pub append-requires : goal.append-requires
append-requires g c =
    let packet = packet_of c.args.entry.now in
    let counted = length_payload c.args.version packet in
    let long = length_text c.args.version (take c.write_text-len.result c.write_text-len.new.into) packet c.write_text-len.ensures.text in
    record {
      text = record { payload = payload_of c.args.version packet; is = c.write_text-len.ensures.text; some = omega (arith, counted); fits = omega (arith, counted, c.requires.few) };
      reach = omega (arith, long, counted, c.requires.reach);
      closed = c.requires.closed;
    }

pub returns-clause-moved : goal.returns-clause-moved
returns-clause-moved g c =
    let packet = packet_of c.args.entry.now in
    let text = take c.write_text-len.result c.write_text-len.new.into in
    let gate_is : c.args.log.now.gate + length text ≡ next_gate c.args.log.now.gate (payload_of c.args.version packet) = omega
    (arith, length_text c.args.version text packet c.write_text-len.ensures.text) in
    subst (λ (gate : ℕ). OnOk c.append.result (c.append.new.self ≡ record c.args.log.now { gate = gate })) gate_is c.append.ensures.moved

pub returns-clause-each_moment : goal.returns-clause-each_moment
returns-clause-each_moment g c = λ seen told first packets all image since.
    let packet = packet_of c.args.entry.now in
    one_more c.args.version c.args.log.now.most first c.args.log.now.gate packets packet (image c.args.log.now.file)
    (c.append.ensures.each_moment seen told first (map (payload_of c.args.version) packets) (payload_of c.args.version packet) c.write_text-len.ensures.text all image since)

pub returns-clause-appended : goal.returns-clause-appended
returns-clause-appended g c = λ seen told first packets all.
    let packet = packet_of c.args.entry.now in
    subst (λ (payloads : List (List ℕ)). OnOk c.append.result (InEach (g.B.Bay.leaves c.append.new.bay) c.args.log.now.file
    (λ bytes. IsGated c.args.log.now.most bytes first payloads c.append.new.self.gate))) (payloads-push c.args.version packets packet)
    (c.append.ensures.appended seen told first (map (payload_of c.args.version) packets) (payload_of c.args.version packet) c.write_text-len.ensures.text all)
