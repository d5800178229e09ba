use Rattle.lert_spec.specs.declared.item.Item.{Item}
use Rattle.lert_spec.specs.Counts.{weighed}
use Rattle.std.proofs.{Common.{◌≡◌, ◌∙◌, ◌+◌, ◌-◌, ◌≤◌, List, Option, ℕ, length, ap, sym, subst, arith, rules}, Math.Nat.mul-div-le}
use Rattle.lert_base.specs.Keys.{Keys}
use Rattle.lert_bay.specs.Files.{Files}
use Rattle.lert_gatelog.specs.Gated.{Log}
use Rattle.lert_reports.specs.Log.{most_record}
use Rattle.lert_spec.specs.{Items.AreOfVersion, declared.numbers.Numbers.Numbers, declared.report.Report.Report, Edges.{capacity, edge, offset, span}}
use Rattle.lert_spec.proofs.{LookLaws.HaveKeys, TailLaws.IsPartOf}
use Rattle.lert_cone.specs.{Listing.Listing, JournalPlaces.places_from, Record.LogPlace, Unread.unread}
use Rattle.lert_cone.proofs.{AdoptLaws.{adopted, before, past}, AdoptStands.{adopted_cone, adopted_head, adopted_replays}, UnreadLaws.{length_unread, unread_keys, unread_own, unread_light}}
use Rattle.lert_cone.proofs.cone.replaying.ReplayingCone.adopt.Goals as goal
use Rattle.lert_levels.specs.Flushed.{InNamed}
use Rattle.lert_bay.specs.Settled.{IsSettled}
use Rattle.lert_cone.specs.Replay.{IsOnWay, IsPast}

-- the items that aren't read are fewer than those of the log's last record, since level 0 has none of them there
few : (s : Numbers) (n0 first : ℕ) → first ≤ edge s 0 n0 + 1 → (first - 1 ≤ edge s 0 n0) × (first - 1 ≤ n0)
few s n0 first early = (omega (arith, early), omega (arith, early, mul-div-le (n0 - offset s 0) (span s 0)))

few_for : (version : ℕ) (s : Numbers) (cone n0 first : ℕ) (told : Option Files) (keys : List Item) → keys ≡ unread version s cone (first - 1) told → first ≤ edge s 0 n0 + 1 → n0 ≤ capacity s →
    (length keys ≡ first - 1) × (length keys ≤ edge s 0 n0) × (first - 1 ≤ capacity s)
few_for version s cone n0 first told keys is early fits =
    let counted : length keys ≡ first - 1 = ap (length {A = Item}) is ∙ length_unread version s cone (first - 1) told in
    let less = few s n0 first early in
    (counted, omega (arith, counted, less.0), omega (arith, less.1, fits))

pub at-log-requires : goal.at-log-requires
at-log-requires g c =
    omega (arith, (few c.args.room.settings c.args.last.n0 c.args.last.first c.requires.point.names.first_to).1, c.requires.point.within)

pub adopted-tally-requires-clause-keys : goal.adopted-tally-requires-clause-keys
adopted-tally-requires-clause-keys g c =
    subst (HaveKeys c.args.room.settings weighed) (sym c.of-unread.ensures)
    (unread_keys c.args.last.version c.args.room.settings c.args.cone c.requires.room.valid c.requires.named (c.args.last.first - 1) (g.B.Bay.files c.args.bay))

pub adopted-tally-requires-clause-keys_own : goal.adopted-tally-requires-clause-keys_own
adopted-tally-requires-clause-keys_own g c =
    subst (IsPartOf weighed c.args.room.settings c.args.cone) (sym c.of-unread.ensures)
    (unread_own c.args.last.version c.args.room.settings c.args.cone c.requires.room.valid c.requires.named (c.args.last.first - 1) (g.B.Bay.files c.args.bay))

pub adopted-tally-requires-clause-light : goal.adopted-tally-requires-clause-light
adopted-tally-requires-clause-light g c =
    subst (AreOfVersion c.args.last.version) (sym c.of-unread.ensures)
    (unread_light c.args.last.version c.args.room.settings c.args.cone c.requires.room.valid c.requires.named (c.args.last.first - 1) (g.B.Bay.files c.args.bay))

pub adopted-tally-requires-clause-version : goal.adopted-tally-requires-clause-version
adopted-tally-requires-clause-version g c = c.requires.room.version_is

pub adopted-tally-requires-clause-within : goal.adopted-tally-requires-clause-within
adopted-tally-requires-clause-within g c =
    let less = few_for c.args.last.version c.args.room.settings c.args.cone c.args.last.n0 c.args.last.first (g.B.Bay.files c.args.bay) c.of-unread.result c.of-unread.ensures
    c.requires.point.names.first_to
    c.requires.point.within in
    omega (arith, less.0, less.2)

pub invariant_of-result : goal.invariant_of-result
invariant_of-result g c =
    let n = c.args.last.first - 1 in
    let less = few_for c.args.last.version c.args.room.settings c.args.cone c.args.last.n0 c.args.last.first (g.B.Bay.files c.args.bay) c.of-unread.result c.of-unread.ensures
    c.requires.point.names.first_to
    c.requires.point.within in
    let log_is : c.at-log.result ≡ record {
      gate = c.args.last.log_end;
      most = most_record c.args.room.settings;
      named = length c.adopted-tally.result.due.reports;
      places = places_from c.args.room.settings n;
    } =
    c.at-log.ensures ∙ (λ i. record {
      gate = c.args.last.log_end;
      most = c.greatest_record.ensures.value i;
      named = (c.len.ensures.count ∙ ap (length {A = Report})
          (sym c.adopted-tally.ensures.reports)) i;
      places = places_from c.args.room.settings n;
    }) in
    adopted_cone g.B.Bay.files g.B.Bay.leaves g.B.Faulty.faults g.B.Faulty.mark c.args.bay c.of.result.value c.args.room.settings c.args.cone c.of-unread.result n
    c.adopted-tally.result c.at_gate-journal.result c.at-log.result c.args.last _ _
    c.requires.room.valid c.adopted-tally.ensures.listing less.0 less.2 (omega (arith, less.0, less.1)) c.requires.point
    (c.adopted-tally.ensures.recounted c.args.last.n0 c.requires.point.within c.requires.room.at less.1)
    (ap (λ (j : Log). j.file) c.at_gate-journal.ensures) (ap (λ (j : Log). j.most) c.at_gate-journal.ensures ∙ c.greatest_payload.ensures.value)
    (omega (arith, ap (λ (j : Log). j.gate) c.at_gate-journal.ensures, c.requires.point.names.offset_to)) c.requires.point.reach log_is
    c.requires.room.roomy (ap (λ (keys : Keys). keys.room) c.requires.room.keys_are) c.of.ensures c.requires.journal c.requires.log_shut

pub returns-clause-made : goal.returns-clause-made
returns-clause-made g c = search rules

pub returns-clause-log : goal.returns-clause-log
returns-clause-log g c = λ seen told records log last.
    let s = c.args.room.settings in
    let n = c.args.last.first - 1 in
    let less = few s c.args.last.n0 c.args.last.first c.requires.point.names.first_to in
    let long : length c.adopted-tally.result.listing.events ≡ n =
    ap (λ (l : Listing). length l.events) c.adopted-tally.ensures.listing ∙ ap (length {A = Item}) c.of-unread.ensures ∙ length_unread c.args.last.version s c.args.cone n (g.B.Bay.files c.args.bay) in
    adopted_head s c.args.cone c.args.last.n0 c.args.last.offset c.args.last.first c.args.last.closed c.args.room.levels.rows c.args.room.store.reports records c.args.last.log_end (seen 1) _
    c.requires.room.at log last c.adopted-tally.ensures.rows (omega (arith, long, less.1)) (ap (λ (l : LogPlace). l.gate) c.at-log.ensures)

pub returns-clause-replays : goal.returns-clause-replays
returns-clause-replays g c = λ seen told records log last history sound is weighs.
    let s = c.args.room.settings in
    let n = c.args.last.first - 1 in
    let log_is : c.at-log.result ≡ record { gate = c.args.last.log_end; most = most_record s; named = length c.args.room.store.reports; places = places_from s n } =
    c.at-log.ensures ∙ (λ i. record { gate = c.args.last.log_end; most = c.greatest_record.ensures.value i; named = c.len.ensures.count i; places = places_from s n }) in
    let keys = unread c.args.last.version s c.args.cone n (g.B.Bay.files c.args.bay) in
    let settled = subst (λ v. (from to : ℕ) → InNamed s v c.args.room.levels.rows from to → to ≤ length (seen 2) → IsSettled (g.B.Bay.leaves c.args.bay) seen 2 from to) (sym is)
    (c.requires.frames seen told) in
    let before_it = before (g.B.Bay.leaves c.args.bay) seen s c.args.cone history c.args.room.levels.rows c.args.room.store.reports records c.args.last.log_end c.args.last.n0
    c.args.last.offset c.args.last.first c.args.last.closed
    c.requires.room.valid c.requires.room.at c.requires.room.are log last sound c.requires.point.names.first_to
    (c.requires.journal seen told) (c.requires.log_shut seen told).settled settled in (
      before_it.done,
      adopted_replays g.B.Bay.files g.B.Bay.leaves g.B.Faulty.faults c.args.bay c.of.result.value s c.args.cone c.at_gate-journal.result.gate keys n c.adopted-tally.result
          c.at-log.result c.args.last c.args.room.levels.rows c.args.room.store.reports history before_it.done seen
          (c.adopted-tally.ensures.listing ∙ ap (λ (ks : List Item). record { settings = s; version = c.args.last.version; cone = c.args.cone; events = ks; closed = c.args.last.closed })
          c.of-unread.ensures)
          c.adopted-tally.ensures.rows c.adopted-tally.ensures.reports (ap (λ (j : Log). j.gate) c.at_gate-journal.ensures) log_is told weighs
          (subst (λ v. IsPast v history before_it.done (unread v s c.args.cone n (g.B.Bay.files c.args.bay)) c.args.last.offset) is
          (past (g.B.Bay.leaves c.args.bay) seen s c.args.cone history c.args.room.levels.rows c.args.room.store.reports records c.args.last.log_end c.args.last.n0
          c.args.last.offset c.args.last.first c.args.last.closed
          c.requires.room.valid c.requires.room.at c.requires.room.are log last sound c.requires.point.names.first_to
          (c.requires.journal seen told) (c.requires.log_shut seen told).settled settled c.requires.named (g.B.Bay.files c.args.bay) told))
          (subst (λ v. IsOnWay (g.B.Bay.leaves c.args.bay) seen history (record { settings = s; version = v; cone = c.args.cone; events = keys; closed = c.args.last.closed })
          c.args.room.levels.rows c.args.room.store.reports (record { gate = c.args.last.log_end; most = most_record s; named = length c.args.room.store.reports; places = places_from s n })
          c.args.last.n0) is
          (adopted (g.B.Bay.leaves c.args.bay) seen s c.args.cone history c.args.room.levels.rows c.args.room.store.reports records c.args.last.log_end c.args.last.n0
          c.args.last.offset c.args.last.first c.args.last.closed
          c.requires.room.valid c.requires.room.at c.requires.room.are log last sound c.requires.point.names.first_to
          (c.requires.journal seen told) (c.requires.log_shut seen told).settled settled keys (length_unread c.args.last.version s c.args.cone n (g.B.Bay.files c.args.bay)))),
    )
