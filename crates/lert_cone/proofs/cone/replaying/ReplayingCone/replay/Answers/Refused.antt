-- A record of the journal that isn't taken, since it leaves the format, or a call of the bay failed.
use Rattle.std.proofs.Common.{◌≡◌, ◌∙◌, length, None, Some, Err, refl, sym, ap, subst}
use Rattle.lert_base.specs.Entries.{packet_of}
use Rattle.lert_bay.proofs.KeptLaws.{calls_as}
use Rattle.lert_gatelog.specs.Gated.{Log}
use Rattle.lert_cone.specs.{declared.refusal.ReplayFault.ReplayFault, declared.refusal.ReplayFault.TheVariants.{Failed, Unsound}, Replay.{IsPast, ReplayLeavesAt}, Replays.WhyRefused}
use Rattle.lert_cone.specs.Replaying.{Replaying}
use Rattle.lert_cone.proofs.{ReplayLaws.never_on_way, ReadCosts.refused_read, Calls.alone_reading, ReplayCalls.{read_stays, read_logged, read_unwritten}}
use Rattle.lert_cone.proofs.{ReplayStands.{leaves_listing, never_unsound, failed_record, only_failed, refused_record, seen_as}, Refusals.one_fault}
use Rattle.lert_cone.proofs.cone.replaying.ReplayingCone.replay.Goals as goal
use Rattle.lert_cone.proofs.cone.replaying.ReplayingCone.replay.Answers.Kept.{bays, lawful}
use Rattle.lert_spec.specs.{Counts.{weighed, weight_of}, Edges.edge}
use Rattle.std.proofs.Common.{◌+◌, drop}

-- what stands there isn't taken
pub record_refused : goal.returns-in-Err
record_refused g c =
    rw (← c.self.view_is) (record {
      taken = tt;
      forward = tt;
      ended = tt;
      refused = let cone = seen_as c.self.inside.bay c.self.inside.made.value c.self.inside.tally c.self.inside.events c.self.inside.weight c.self.inside.stopped
          c.self.inside.journal.gate c.self.inside.log c.self.inside.last in
          λ seen told. subst (λ (fault : ReplayFault). WhyRefused cone (seen 0) c.args.gate fault) (sym c.from-fault-in-Err.ensures)
          (refused_record cone (seen 0) c.args.gate c.in-Err.fault (λ at same.
          subst (λ (j : Log). ReplayLeavesAt c.self.inside.tally.listing.version c.self.inside.tally.listing.settings c.self.inside.tally.listing.cone c.self.inside.last.n0 c.self.inside.last.closed
          (length c.self.inside.tally.listing.events) c.self.inside.weight (seen 0) j.gate at) c.at_gate-self-inside.ensures (c.in-Err.ensures.malformed seen told at (ap Err same))));
      broke = λ i. seen_as c.read_packet.new.bay c.self.inside.made.value c.self.inside.tally c.self.inside.events c.self.inside.weight
          (Some c.from-fault-in-Err.result) c.read_packet.new.journal.gate c.self.inside.log c.self.inside.last;
      replays = λ seen told h done way gate_same.
          let past : IsPast c.self.inside.tally.listing.version h done c.self.inside.tally.listing.events c.args.gate = subst (λ g. IsPast c.self.inside.tally.listing.version h done
          c.self.inside.tally.listing.events g) (sym gate_same) way.past in
          let on_way = way.on_way seen told in
          let read = g.met.B.Bay.as_read c.self.inside.bay seen told in
          c.from-fault-in-Err.ensures ∙ only_failed c.in-Err.fault (λ at same. never_on_way (g.B.Bay.leaves c.self.inside.bay) seen h c.self.inside.tally.listing c.self.inside.tally.rows
          c.self.inside.tally.due.reports c.self.inside.log c.self.inside.last.n0 on_way read done c.self.inside.weight c.args.gate at past
          ((c.self.invariant.taking way.taking).weight_is ∙ ap (λ w. w + weight_of weighed (drop (edge c.self.inside.tally.listing.settings 0 c.self.inside.last.n0)
          c.self.inside.tally.listing.events))
          (sym (way.weighed_is seen told)))
          (leaves_listing c.self.inside.tally.listing.settings c.self.inside.tally.listing.cone c.self.inside.last.n0 (length c.self.inside.tally.listing.events) c.self.inside.weight c.args.gate at
          c.self.inside.tally.listing.closed c.self.inside.last.closed (seen 0) (c.self.invariant.taking way.taking).closed
          (subst (λ (j : Log). ReplayLeavesAt c.self.inside.tally.listing.version c.self.inside.tally.listing.settings c.self.inside.tally.listing.cone c.self.inside.last.n0 c.self.inside.last.closed
          (length c.self.inside.tally.listing.events) c.self.inside.weight (seen 0) j.gate at) c.at_gate-self-inside.ensures (c.in-Err.ensures.malformed seen told at (ap Err same)))));
      stays_sound = λ seen told h done way gate_same. read_stays (bays g) (lawful g) c.read_packet.ensures.keeps c.self.inside.tally c.self.inside.log c.self.inside.last
          seen told h done c.args.gate way gate_same (c.self.invariant.taking way.taking).recounted;
      unflushed = λ seen told none. read_unwritten (bays g) (lawful g) c.read_packet.ensures.keeps;
      malformed = λ at same. read_unwritten (bays g) (lawful g) c.read_packet.ensures.keeps;
      log = let taking : c.self.inside.stopped ≡ None = subst (λ (v : Replaying g.row.B.Denot). v.stopped ≡ None) (sym c.self.view_is) c.requires.taking in
          read_logged (bays g) (lawful g) c.read_packet.ensures.keeps c.self.inside.tally.listing.settings _ _ (c.self.invariant.taking taking).log_shut;
      framed = λ seen told some. tt;
      whole = λ seen told some at same.
          let answer : c.from-fault-in-Err.result ≡ Unsound 2 at = one_fault same in never_unsound c.in-Err.fault 2 at (sym c.from-fault-in-Err.ensures ∙ answer);
      unsound = λ file at same.
          let answer : c.from-fault-in-Err.result ≡ Unsound file at = one_fault same in
          absurd (never_unsound c.in-Err.fault file at (sym c.from-fault-in-Err.ensures ∙ answer));
      same_cone = record { settings = refl; cone = refl; made = refl; last = refl };
      journal = alone_reading (lawful g) 0 c.read_packet.ensures.keeps.reads;
      kept = calls_as (bays g) (lawful g) c.self.inside.bay c.read_packet.new.bay _ _ (λ same.
          let answer : c.from-fault-in-Err.result ≡ Failed = one_fault same in
          c.in-Err.is ∙ ap Err (failed_record c.in-Err.fault (sym c.from-fault-in-Err.ensures ∙ answer))) c.read_packet.ensures.keeps.reads.kept;
      handed = refused_read c.self.inside.tally.listing.version c.self.inside.tally.listing.settings (packet_of c.read_packet.new.entry) _ _
          (g.B.Bay.handed_out c.read_packet.new.bay) refl c.in-Err.fault c.in-Err.ensures.handed;
    })
