use Rattle.std.proofs.{Common.{◌≡◌, ℕ, ◌+◌, Err, length, take, ap, sym, ◌∙◌, subst, arith}, lemmas.Bool.true≢false, lemmas.List.length-take-le}
use Rattle.lert_bay.specs.declared.bay.TheConstants.{JOURNAL}
use Rattle.lert_bay.specs.Kept.{Bays, seen_by}
use Rattle.lert_bay.proofs.KeptLaws.{IsLawful, reading_as}
use Rattle.lert_gatelog.specs.Gated.{BreaksAt, IsClosed, IsOpen, Log, next_gate}
use Rattle.lert_journal.specs.Payload.{most_payload}
use Rattle.lert_recover.specs.Rest.{GoesOn, IsFound}
use Rattle.lert_recover.proofs.RestLaws.{found_broken}
use Rattle.lert_recover.proofs.journal_rest.find_here.Given as given
use Rattle.lert_recover.proofs.journal_rest.find_here.Goals as goal

abbrev bays : (g : given.Over) → Bays g.row.B.Denot
bays g = seen_by g.B.Faulty g.B.Bay

lawful : (g : given.Over) → IsLawful (bays g)
lawful g = record { as_read = g.met.B.Bay.as_read; since_now = g.met.B.Bay.since_now; only_now = g.met.B.Bay.only_now; since_earlier = g.met.B.Bay.since_earlier }

pub packet_here-requires : goal.packet_here-requires
packet_here-requires g c =
    let counted = rw c.in-Ok-Some.field-0-is at c.in-Ok-Some.ensures.counted in
    let long : length (take c.in-Ok-Some.count c.next.new.into) ≡ c.in-Ok-Some.count = length-take-le c.in-Ok-Some.count c.next.new.into
    (omega (arith, counted.1, c.requires.most, c.requires.room, c.next.auto.into)) in
    record {
      known = c.requires.known;
      short = omega (arith, long, counted.1, c.requires.most);
      reach = omega (arith, c.requires.reach, c.gate-gate.ensures.value);
      place = c.requires.place;
      within = c.requires.within;
      light = c.requires.light;
    }

pub returns-in-Ok-None : goal.returns-in-Ok-None
returns-in-Ok-None g c =
    let next = c.in-Ok-None.ensures in
    let moved = rw c.in-Ok-None.field-0-is at next.moved in
    record {
      told = λ seen told.
          let s = c.args.settings.now in
          let last = c.args.last.now in
          let gate_is = c.gate-gate.ensures.value in
          let next_gate_is = c.next.new.self.gate in
          let shut = rw c.in-Ok-None.field-0-is at (c.in-Ok-None.ensures.closed seen told) in
          let own = subst (λ (file : ℕ). IsClosed (seen file) c.args.log.now.gate) c.requires.file shut in
          subst (λ (gate : ℕ). IsFound last.version s c.args.cone last.n0 last.closed c.args.before.events c.args.before.weight (seen JOURNAL) gate next_gate_is c.end_here.result) gate_is
          (c.end_here.ensures.told s c.args.cone c.args.before.weight (seen JOURNAL) next_gate_is (subst (λ (gate : ℕ). IsClosed (seen JOURNAL) gate) (sym gate_is) own));
      forward =
          subst (λ (gate : ℕ). GoesOn c.args.settings.now c.args.before.events c.args.before.weight gate c.next.new.self.gate c.end_here.result) c.gate-gate.ensures.value
          (c.end_here.ensures.forward c.args.settings.now c.args.before.weight c.next.new.self.gate);
      file = ap (λ (log : Log). log.file) moved;
      most = ap (λ (log : Log). log.most) moved;
      only_reads = reading_as (bays g) (lawful g) c.args.bay.now c.next.new.bay _ _ (λ is. absurd (true≢false (sym is))) next.only_reads;
    }

pub returns-in-Ok-Some : goal.returns-in-Ok-Some
returns-in-Ok-Some g c =
    let s = c.args.settings.now in
    let last = c.args.last.now in
    let count = c.in-Ok-Some.count in
    let payload = take count c.next.new.into in
    let next = c.in-Ok-Some.ensures in
    let gate_is = c.gate-gate.ensures.value in
    let moved = rw c.in-Ok-Some.field-0-is at next.moved in
    let counted = rw c.in-Ok-Some.field-0-is at next.counted in
    let long : length payload ≡ count = length-take-le count c.next.new.into (omega (arith, counted.1, c.requires.most, c.requires.room, c.next.auto.into)) in
    let next_is : c.next.new.self.gate ≡ next_gate c.args.log.now.gate payload = ap (λ (log : Log). log.gate) moved ∙ ap (λ n. c.args.log.now.gate + 5 + n) (sym long) in
    record {
      told = λ seen told.
          let opened = rw c.in-Ok-Some.field-0-is at (next.opened seen told) in
          let own = subst (λ (file : ℕ). IsOpen c.args.log.now.most (seen file) c.args.log.now.gate payload) c.requires.file opened in
          let stands = subst (λ (most : ℕ). IsOpen most (seen JOURNAL) c.args.log.now.gate payload) c.requires.most own in
          subst (λ (after : ℕ). IsFound last.version s c.args.cone last.n0 last.closed c.args.before.events c.args.before.weight (seen JOURNAL) c.args.log.now.gate after c.packet_here.result) (sym
          next_is)
          (subst (λ (gate : ℕ). IsFound last.version s c.args.cone last.n0 last.closed c.args.before.events c.args.before.weight (seen JOURNAL) gate (next_gate gate payload) c.packet_here.result)
          gate_is
          (c.packet_here.ensures.told (seen JOURNAL) (subst (λ (gate : ℕ). IsOpen (most_payload last.version s) (seen JOURNAL) gate payload) (sym gate_is) stands)));
      forward = subst (λ (after : ℕ). GoesOn s c.args.before.events c.args.before.weight c.args.log.now.gate after c.packet_here.result) (sym next_is)
          (subst (λ (gate : ℕ). GoesOn s c.args.before.events c.args.before.weight gate (next_gate gate payload) c.packet_here.result) gate_is c.packet_here.ensures.forward);
      file = ap (λ (log : Log). log.file) moved;
      most = ap (λ (log : Log). log.most) moved;
      only_reads = reading_as (bays g) (lawful g) c.args.bay.now c.next.new.bay _ _ (λ is. absurd (true≢false (sym is))) next.only_reads;
    }

pub returns-in-Err-Malformed : goal.returns-in-Err-Malformed
returns-in-Err-Malformed g c =
    let next = c.in-Err-Malformed.ensures in
    record {
      told = λ seen told.
          let last = c.args.last.now in
          let at = c.in-Err-Malformed.at in
          rw c.in-Err-Malformed.field-0-is
          (found_broken c.args.settings.now c.args.cone last.n0 last.closed c.args.before.events c.args.before.weight c.args.log.now.most (seen JOURNAL) c.args.log.now.gate at c.requires.most
          (subst (λ (file : ℕ). BreaksAt c.args.log.now.most (seen file) c.args.log.now.gate at) c.requires.file
          (c.in-Err-Malformed.ensures.malformed seen told at (ap Err c.in-Err-Malformed.field-0-is))));
      forward = tt;
      file = ap (λ (log : Log). log.file) next.stayed;
      most = ap (λ (log : Log). log.most) next.stayed;
      only_reads = reading_as (bays g) (lawful g) c.args.bay.now c.next.new.bay _ _ (λ is. absurd (true≢false (sym is))) next.only_reads;
    }

pub returns-in-Err-Failed : goal.returns-in-Err-Failed
returns-in-Err-Failed g c =
    let next = c.in-Err-Failed.ensures in
    record {
      told = λ seen told. tt;
      forward = tt;
      file = ap (λ (log : Log). log.file) next.stayed;
      most = ap (λ (log : Log). log.most) next.stayed;
      only_reads = reading_as (bays g) (lawful g) c.args.bay.now c.next.new.bay _ _ (λ is. ap Err c.in-Err-Failed.field-0-is) next.only_reads;
    }
