-- A record of the journal through the calls that a cone makes for it as it is read again: it is read, and then its items are taken.
use Rattle.lert_spec.specs.declared.item.Item.{Item}
use Rattle.std.proofs.Common.{◌≡◌, ℕ, ◌+◌, ◌≤◌, List, ◌++◌, length, take, drop, max, Option, Some, Result, Ok, OnOk, sym, ap, ◌∙◌, subst, inl, inr, arith, length-append}
use Rattle.std.specs.List.{length_refill}
use Rattle.lert_base.specs.Packet.{Packet, events_of}
use Rattle.lert_bay.specs.{Files.{Files, IfTold}, Images.Lasts, Kept.{Bays, CallsBay, KeepsBay}}
use Rattle.lert_bay.proofs.KeptLaws.{IsLawful, calls, calls_as, calls_on}
use Rattle.lert_gatelog.specs.{Gated.{IsClosed, Log, next_gate}, Kept.IsWhollySettled}
use Rattle.lert_journal.specs.Journal.{HoldsPacket}
use Rattle.lert_reports.specs.declared.log_point.LogPoint.{LogPoint}
use Rattle.lert_spec.specs.declared.numbers.Numbers.{Numbers}
use Rattle.lert_cone.specs.{declared.journal_places.JournalPlace.JournalPlace, declared.refusal.ReplayFault.ReplayFault, declared.tally.TakeFault.TakeFault, Framed.last_flush}
use Rattle.lert_cone.specs.{KeepsLog.{KeepsLogOf, LogHead}, Listing.Listing, Reads.OnlyReadsJournal, Record.LogPlace, Replay.{IsOnWay, IsPast, IsNext}, Replays.{HasEnded, IsUnwritten, Replays}}
use Rattle.lert_cone.specs.{Sound.{IsSound, StaysSound}, Takes.{Workplace, ReplaysItems}, Tally.{Tallied, IsRecounted}, Wrote.{IsShutIfTold, LeavesAlone}}
use Rattle.lert_cone.proofs.{Calls.{now_since, alone_on, alone_reading}, GateLaws.{ends_there, keys_past, keys_next}, KeepsLogSteps.{log_as, log_on, log_unwritten}, JournalPlaceLaws.next_holds}
use Rattle.lert_cone.proofs.{ReplayLaws.{journal_on_way, on_way_read, sound_recounted}, ReplayStands.{next_there, read_settled, seen_as, shut_there}, ReplayStep.told_once}
use Rattle.lert_journal.specs.Payload.{most_payload}

-- a packet that stands at the gate of a journal, said of another name of it
pub held_at : {version : ℕ} {s : Numbers} {cone most : ℕ} {journal there : Log} {bytes : List ℕ} {packet : Packet} → journal ≡ there → HoldsPacket version s cone most bytes journal.gate packet →
    HoldsPacket version s cone most bytes there.gate packet
held_at {version} {s} {cone} {most} {journal} {there} {bytes} {packet} is holds = subst (λ (j : Log). HoldsPacket version s cone most bytes j.gate packet) is holds

-- a journal that moved on
pub moved_on : {journal there after : Log} (payload : List ℕ) → after ≡ record journal { gate = next_gate journal.gate payload } → journal ≡ there →
    after.gate ≡ next_gate there.gate payload
moved_on payload moved is = ap (λ (j : Log). j.gate) moved ∙ ap (λ (j : Log). next_gate j.gate payload) is

-- a listing with items more
pub listing_more : (old new : Listing) (keys taken : List Item) → new ≡ record old { events = new.events } → new.events ≡ old.events ++ taken → taken ≡ keys →
    new ≡ record old { events = old.events ++ keys }
listing_more old new keys taken is took same =
    is ∙ ap (λ (ks : List Item). record old { events = ks }) (took ∙ ap (λ ks. old.events ++ ks) same)

pub length_more : (old new : Listing) (keys : List Item) (events len : ℕ) → new ≡ record old { events = old.events ++ keys } →
    length old.events ≡ events → len ≡ length new.events → len ≡ events + length keys
length_more old new keys events len is counted len_is = omega (arith, len_is, ap (λ (l : Listing). length l.events) is, length-append old.events keys, counted)

-- a buffer that was lent keeps its length
pub refilled : (len : ℕ) (items new : List ℕ) → len ≡ length items → length (take len (new ++ drop (length new) items)) ≡ length items
refilled len items new len_is = sym (length_refill len items new len_is) ∙ len_is

pub refilled_twice : (len : ℕ) (items read new : List ℕ) → len ≡ length items →
    length (take len (new ++ drop (length new) (take len (read ++ drop (length read) items)))) ≡ length items
refilled_twice len items read new len_is =
    let first = refilled len items read len_is in
    refilled len (take len (read ++ drop (length read) items)) new (len_is ∙ sym first) ∙ first

-- what was lent then is as long as what stands there
pub lent_again : (len : ℕ) (items read new lent : List ℕ) → len ≡ length items → lent ≡ take len (read ++ drop (length read) items) → length new ≡ length lent →
    length new ≡ length (take len (new ++ drop (length new) (take len (read ++ drop (length read) items))))
lent_again len items read new lent len_is lent_is same =
    same ∙ ap (length {A = ℕ}) lent_is ∙ refilled len items read len_is ∙ sym (refilled_twice len items read new len_is)

module _ {B : Type 0} (bays : Bays B) (lawful : IsLawful bays) where
  -- what is sound in each image of each moment is so as the bay then reads
  pub stays_by : (s : Numbers) (cone : ℕ) (history : List Packet) (before after : B) → bays.moment before ≤ bays.moment after →
      ((image : Files) → bays.left_since after (bays.moment before) image → IsSound s cone history image) → StaysSound bays s cone history before after
  stays_by s cone history before after later each = record {
    each_moment = each;
    as_read = λ seen told. each seen (now_since lawful later seen (lawful.as_read after seen told));
  }

  -- calls behind others
  pub stays_on : (s : Numbers) (cone : ℕ) (history : List Packet) (before between after : B) → bays.moment before ≤ bays.moment between →
      Lasts (bays.moment between) (bays.moment after) (bays.left_since between) (bays.left_since after) → StaysSound bays s cone history before between →
      StaysSound bays s cone history between after → StaysSound bays s cone history before after
  stays_on s cone history before between after later time one two = record {
    each_moment = λ image may. elim (time.known (bays.moment before) image later may) [
      | inl past ↦ one.each_moment image past
      | inr here ↦ two.each_moment image here
    ];
    as_read = two.as_read;
  }

  -- a record is read at the gate
  module _ {bay bay_read : B} {journal journal_read : Log} {room room_read : ℕ} {Failed : Type 0}
      (read : OnlyReadsJournal bays bay bay_read journal journal_read room room_read Failed) where
    pub read_unwritten : IsUnwritten bays bay bay_read
    read_unwritten = record { seen = read.reads.seen; images = read.reads.images; moments = read.reads.moments }

    -- and calls behind that hand out no byte of the journal
    pub calls_behind : (after : B) (First Other : Type 0) → (Other → First) → KeepsBay bays bay_read after First → CallsBay bays bay after Other
    calls_behind after First Other turned keeps =
        calls_on bays lawful bay bay_read after Failed Other read.reads.kept
        (calls_as bays lawful bay_read after First Other turned (calls bays bay_read after First keeps))

    -- and calls behind that leave a file alone
    pub alone_behind : (file : ℕ) (after : B) → LeavesAlone bays file bay_read after → LeavesAlone bays file bay after
    alone_behind file after left =
        alone_on lawful
        (alone_reading lawful file read.reads) left

    -- a log whose gate is closed stays through the reading
    pub read_logged : {version : ℕ} {U F : Type 0} (s : Numbers) (head : LogHead) (answer : Result U F) → IsShutIfTold (bays.files bay) (bays.leaves bay) 1 head.gate →
        KeepsLogOf bays version s head head bay bay_read answer
    read_logged s head answer shut = log_unwritten bays lawful s head bay bay_read answer read_unwritten shut

    -- and so through calls behind
    pub logged_behind : {version : ℕ} {T E U F : Type 0} (s : Numbers) (old new : LogHead) (after : B) (result : Result T E) (answer : Result U F) →
        IsShutIfTold (bays.files bay) (bays.leaves bay) 1 old.gate → LeavesAlone bays 0 bay_read after →
        ((P : LogHead → Type 0) → OnOk result (P new) → OnOk answer (P new)) → KeepsLogOf bays version s old new bay_read after result → KeepsLogOf bays version s old new bay after answer
    logged_behind s old new after result answer shut left goes did =
        log_as bays lawful s old new new bay after result answer goes
        (log_on bays lawful s {U = Unit {0}} {F = Unit {0}} old old new bay bay_read after tt result (alone_reading lawful 0 read.reads).seen read.reads.kept.time.later left.time
        (read_logged s old (Ok tt) shut) did)

    -- no flush comes with its items
    pub keys_unwritten : (s : Numbers) (n n0 : ℕ) (packet : Packet) (keys : List Item) (new : B) → keys ≡ packet.items → last_flush s (n + length packet.items) ≤ max n0 n →
        (last_flush s (n + length keys) ≤ max n0 n → new ≡ bay_read) → IsUnwritten bays bay new
    keys_unwritten s n n0 packet keys new keys_are passed unflushed =
        subst (λ (b : B). IsUnwritten bays bay b) (sym (unflushed (omega (arith, passed, ap (λ (ks : List Item). last_flush s (n + length ks)) keys_are)))) read_unwritten

    -- a closed gate stands there
    pub ended_at : (made : B) (t : Tallied) (events weight : ℕ) (stopped : Option ReplayFault) (before after at : ℕ) (log : LogPlace) (last : LogPoint) → after ≡ at →
        last.n0 ≤ length t.listing.events → IfTold (bays.files bay) (λ seen. IsWhollySettled (bays.leaves bay) seen 0) → IfTold (bays.files bay) (λ seen. IsClosed (seen 0) at) →
        HasEnded bays.files bays.leaves (seen_as bay made t events weight stopped before log last) (seen_as bay_read made t events weight stopped after log last) at
    ended_at made t events weight stopped before after at log last after_is enough settled closed = record {
      enough = enough;
      stands = closed;
      shut = shut_there (read_settled read.reads.seen read.reads.images settled) (λ seen told. closed seen (sym read.reads.seen ∙ told));
      seen = read.reads.seen;
      images = read.reads.images;
      is = λ i. seen_as bay_read made t events weight stopped (after_is i) log last;
    }

    -- the cone is on its way through the journal of a history
    module _ (t : Tallied) (log : LogPlace) (last : LogPoint) (seen : Files) (told : bays.files bay ≡ Some seen) (history done : List Packet) (gate : ℕ) {made : B} {events weight own : ℕ}
        {stopped : Option ReplayFault} (way : Replays bays.files bays.leaves (seen_as bay made t events weight stopped own log last) history done) (gate_same : gate ≡ own) where
      on_way : IsOnWay (bays.leaves bay) seen history t.listing t.rows t.due.reports log last.n0
      on_way = way.on_way seen told

      past : IsPast t.listing.version history done t.listing.events gate
      past = subst (IsPast t.listing.version history done t.listing.events) (sym gate_same) way.past

      -- a packet that stands there is the next one, and memory and files are where they were
      pub with_keys : (packet : Packet) → HoldsPacket t.listing.version t.listing.settings t.listing.cone (most_payload t.listing.version t.listing.settings) (seen 0) gate packet →
          (keys : List Item) → keys ≡ packet.items →
          {X : Type 0} → (bays.files bay_read ≡ Some seen → (next : IsNext history done packet) → events_of history ≡ t.listing.events ++ (keys ++ events_of next.rest) →
          IsOnWay (bays.leaves bay_read) seen history t.listing t.rows t.due.reports log last.n0 → X) → X
      with_keys packet holds keys keys_are goes =
          let next = next_there (bays.leaves bay) seen history done t.listing t.rows t.due.reports log last.n0 gate packet on_way (lawful.as_read bay seen told) past holds in
          goes (read.reads.seen ∙ told) next
          (keys_next history done t.listing.events gate packet past next ∙ ap (λ (ks : List Item). t.listing.events ++ (ks ++ events_of next.rest)) (sym keys_are))
          (on_way_read (bays.leaves bay) seen history t.listing t.rows t.due.reports log last.n0 on_way (bays.leaves bay_read) (λ image may. (read.reads.images image).0 may))

      -- a closed gate that stands there is behind the last packet
      pub ended_replays : (after : ℕ) → after ≡ gate → IsClosed (seen 0) gate →
          (done ≡ history) × Replays bays.files bays.leaves (seen_as bay_read made t events weight stopped after log last) history done
      ended_replays after after_is closed = (
        ends_there t.listing.settings t.listing.cone (seen 0) history done t.listing.events gate
            (journal_on_way (bays.leaves bay) seen history t.listing t.rows t.due.reports log last.n0 on_way (lawful.as_read bay seen told)) past closed,
        record {
          taking = way.taking;
          weighed_is = λ seen_after told_after. way.weighed_is seen told;
          past = subst (λ at. IsPast t.listing.version history done t.listing.events at) (sym after_is) past;
          on_way = λ seen_after told_after.
              subst (λ (files : Files). IsOnWay (bays.leaves bay_read) files history t.listing t.rows t.due.reports log last.n0)
              (told_once (bays.files bay_read) seen seen_after (read.reads.seen ∙ told) told_after)
              (on_way_read (bays.leaves bay) seen history t.listing t.rows t.due.reports log last.n0 on_way (bays.leaves bay_read) (λ image may. (read.reads.images image).0 may));
        },
      )

      module _ (recounted : IsRecounted t last.n0) where
        pub read_stays : StaysSound bays t.listing.settings t.listing.cone history bay bay_read
        read_stays =
            stays_by t.listing.settings t.listing.cone history bay bay_read read.reads.kept.time.later
            (λ image may. sound_recounted (bays.leaves bay) seen history t log last.n0 recounted on_way (events_of past.rest) (keys_past history done t.listing.events gate past) image
            (read.reads.moments image may))

        pub keys_stay : (packet : Packet) → HoldsPacket t.listing.version t.listing.settings t.listing.cone (most_payload t.listing.version t.listing.settings) (seen 0) gate packet →
            (keys : List Item) →
            keys ≡ packet.items →
            (place : JournalPlace) → place.gate ≡ gate → place.first ≡ length t.listing.events + 1 → (buffer : ℕ) (new : Workplace B) (result : Result (Unit {0}) TakeFault) →
            ReplaysItems bays last.n0 place keys (record { bay = bay_read; counts = t; log = log; room = buffer }) new result →
            StaysSound bays t.listing.settings t.listing.cone history bay new.bay
        keys_stay packet holds keys keys_are place gate_is first_is buffer new result did =
            with_keys packet holds keys keys_are (λ told_read next is on_read.
            stays_on t.listing.settings t.listing.cone history bay bay_read new.bay read.reads.kept.time.later did.keeps.journal.time read_stays
            (stays_by t.listing.settings t.listing.cone history bay_read new.bay did.keeps.journal.time.later (did.each_moment seen told_read history (events_of next.rest) is
            (next_holds history done t.listing.events gate packet keys place past next keys_are gate_is first_is) on_read)))
