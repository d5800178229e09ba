-- A cone that replays one packet more, or stops.
use Rattle.std.proofs.Common.{ℕ, ◌≡◌, ◌+◌, ◌-◌, ◌*◌, ◌^◌, ◌<◌, ◌≤◌, Some, Option, List, ◌++◌, length, max, refl, ap, sym, ◌∙◌, subst, arith, length-append}
use Rattle.lert_cone.proofs.SoundLaws.{some_keys_of}
use Rattle.lert_base.specs.Packet.{Packet}
use Rattle.lert_bay.specs.{declared.bay.TheConstants.{JOURNAL, FRAMES}, Files.{Files, IfTold}, Kept.{Bays, CallsBay}}
use Rattle.lert_reports.specs.declared.log_point.LogPoint.{LogPoint}
use Rattle.lert_cone.specs.{Framed.{HoldsSome, last_flush}, Listing.Listing, Replay.{MayFollow, ReplayLeavesAt, weight_behind}, Replaying.{Replaying, IsSameReplay}}
use Rattle.lert_cone.specs.{Replays.{BringsNoFlush, HasTaken, IsUnwritten}, Sound.IsSound}
use Rattle.lert_files.specs.Opened.{WritesNothing}
use Rattle.lert_gatelog.specs.Gated.{IsClosed, IsOpen, next_gate}
use Rattle.lert_journal.specs.{Journal.HoldsPacket, Payload.{most_payload, payload_of}}
use Rattle.lert_levels.specs.declared.rows.bin_at.BinAt.{BinAt}
use Rattle.lert_spec.specs.{declared.item.Item.Item, declared.numbers.Numbers.Numbers, Edges.{edge, capacity, weight_room}}
use Rattle.lert_recover.specs.Replayed.{FlushesNothing, HasReplayed, IsJournalSame}
use Rattle.lert_recover.proofs.ReplayedLaws.{none_flushed, replayed_more}

-- the journal through several calls
pub journal_none : (files : Option Files) → IsJournalSame files files
journal_none files = record { told = λ old told. (old, told, refl); untold = λ none. none }

pub journal_same : (before after : Option Files) → after ≡ before → IsJournalSame before after
journal_same before after same = record { told = λ old told. (old, same ∙ told, refl); untold = λ none. same ∙ none }

pub journal_on : {first middle last : Option Files} → IsJournalSame first middle → IsJournalSame middle last → IsJournalSame first last
journal_on one two = record {
  told = λ old told.
      let came = one.told old told in
      let went = two.told came.0 came.1 in
      (went.0, went.1, went.2 ∙ came.2);
  untold = λ none. two.untold (one.untold none);
}

-- before the first packet
pub framed_none : {version : ℕ} (files : Option Files) (s : Numbers) (n0 : ℕ) (rows : List (List BinAt)) (events : List Item) → length events ≤ n0 → (seen there : Files) → files ≡ Some seen →
    files ≡ Some there → HoldsSome version s n0 rows (seen FRAMES) → HoldsSome version s (max n0 (length events)) rows (there FRAMES)
framed_none {version} files s n0 rows events few seen there told told_there some =
    let n_is : n0 ≡ max n0 (length events) = omega (arith, few) in
    let same : seen ≡ there = one_told seen there (sym told ∙ told_there) in
    subst (λ (n : ℕ). HoldsSome version s n rows (there FRAMES)) n_is (subst (λ (f : Files). HoldsSome version s n0 rows (f FRAMES)) same some)
  where
    one_told : (one other : Files) → Some one ≡ Some other → one ≡ other
    one_told one other is = cc

pub same_none : {B : Type 0} (start : Replaying B) → IsSameReplay start start
same_none start = record { settings = refl; cone = refl; made = refl; last = refl }

pub same_on : {B : Type 0} (start old new : Replaying B) → IsSameReplay start old → IsSameReplay old new → IsSameReplay start new
same_on start old new one two = record { settings = two.settings ∙ one.settings; cone = two.cone ∙ one.cone; made = two.made ∙ one.made; last = two.last ∙ one.last }

module _ {B : Type 0} (files : B → Option Files) (start old new : Replaying B) where
  module _ (seen : Files) (told : files start.bay ≡ Some seen) (same : IsSameReplay start old) (version_is : old.listing.version ≡ start.listing.version)
      (journal : IsJournalSame (files start.bay) (files old.bay)) (first gate : ℕ) where
    abbrev Read : ℕ → List Item → ℕ → Type 0
    Read end events weight =
        HasReplayed start.listing.version start.listing.settings start.listing.cone start.last.n0 start.last.closed (seen JOURNAL) start.listing.events start.weight first end events weight

    -- what a call took
    abbrev pub Takes : Files → ℕ → Type 0
    Takes now next =
        (packet : Packet)
        × HoldsPacket old.listing.version old.listing.settings old.listing.cone (most_payload old.listing.version old.listing.settings) (now JOURNAL) gate packet
        × MayFollow old.listing.settings old.last.n0 old.last.closed (length old.listing.events) old.weight packet
        × (next ≡ next_gate gate (payload_of old.listing.version packet))
        × (new.listing ≡ record old.listing { events = old.listing.events ++ packet.items })
        × (new.weight ≡ old.weight + weight_behind (edge old.listing.settings 0 old.last.n0) (length old.listing.events) packet.items)

    pub read_on : (next : ℕ) → Read gate old.listing.events old.weight → ((now : Files) → files old.bay ≡ Some now → Takes now next) → Read next new.listing.events new.weight
    read_on next has taken =
        let there = journal.told seen told in
        let now = there.0 in
        let took = taken now there.1 in
        let packet = took.0 in
        let s = start.listing.settings in
        let v = start.listing.version in
        let own : HoldsPacket v s start.listing.cone (most_payload v s) (seen JOURNAL) gate packet =
        subst (λ (bytes : List ℕ). HoldsPacket v s start.listing.cone (most_payload v s) bytes gate packet) there.2
        (subst (λ (cone : ℕ). HoldsPacket v s cone (most_payload v s) (now JOURNAL) gate packet) same.cone
        (subst (λ (t : Numbers). HoldsPacket v t old.listing.cone (most_payload v t) (now JOURNAL) gate packet) same.settings
        (subst (λ (w : ℕ). HoldsPacket w old.listing.settings old.listing.cone (most_payload w old.listing.settings) (now JOURNAL) gate packet) version_is took.1))) in
        let may : MayFollow s start.last.n0 start.last.closed (length old.listing.events) old.weight packet =
        subst (λ (last : LogPoint). MayFollow s last.n0 last.closed (length old.listing.events) old.weight packet) same.last
        (subst (λ (t : Numbers). MayFollow t old.last.n0 old.last.closed (length old.listing.events) old.weight packet) same.settings took.2) in
        let weight : new.weight ≡ old.weight + weight_behind (edge s 0 start.last.n0) (length old.listing.events) packet.items =
        took.5 ∙ (λ i. old.weight + weight_behind (edge (same.settings i) 0 (same.last i).n0) (length old.listing.events) packet.items) in
        subst (λ (w : ℕ). Read next new.listing.events w) (sym weight)
        (subst (λ (events : List Item). Read next events (old.weight + weight_behind (edge s 0 start.last.n0) (length old.listing.events) packet.items)) (sym (ap (λ (l : Listing). l.events) took.4))
        (subst (λ (g : ℕ). Read g (old.listing.events ++ packet.items) (old.weight + weight_behind (edge s 0 start.last.n0) (length old.listing.events) packet.items)) (sym (took.3 ∙ ap (λ (w : ℕ).
        next_gate gate (payload_of w packet)) version_is))
        (replayed_more v s start.listing.cone start.last.n0 start.last.closed (seen JOURNAL) start.listing.events start.weight first gate old.listing.events old.weight packet has own may)))

    -- where a call found the format left
    pub left_on : (at n w : ℕ) → n ≡ length old.listing.events → w ≡ old.weight → ((now : Files) → files old.bay ≡ Some now →
        ReplayLeavesAt old.listing.version old.listing.settings old.listing.cone old.last.n0 old.last.closed (length old.listing.events) old.weight (now JOURNAL) gate at) →
        ReplayLeavesAt start.listing.version start.listing.settings start.listing.cone start.last.n0 start.last.closed n w (seen JOURNAL) gate at
    left_on at n w n_is w_is left =
        let there = journal.told seen told in
        let now = there.0 in
        let s = start.listing.settings in
        let v = start.listing.version in
        subst (λ (m : ℕ). ReplayLeavesAt v s start.listing.cone start.last.n0 start.last.closed m w (seen JOURNAL) gate at) (sym n_is)
        (subst (λ (m : ℕ). ReplayLeavesAt v s start.listing.cone start.last.n0 start.last.closed (length old.listing.events) m (seen JOURNAL) gate at) (sym w_is)
        (subst (λ (bytes : List ℕ). ReplayLeavesAt v s start.listing.cone start.last.n0 start.last.closed (length old.listing.events) old.weight bytes gate at) there.2
        (subst (λ (last : LogPoint). ReplayLeavesAt v s start.listing.cone last.n0 last.closed (length old.listing.events) old.weight (now JOURNAL) gate at) same.last
        (subst (λ (cone : ℕ). ReplayLeavesAt v s cone old.last.n0 old.last.closed (length old.listing.events) old.weight (now JOURNAL) gate at) same.cone
        (subst (λ (t : Numbers). ReplayLeavesAt v t old.listing.cone old.last.n0 old.last.closed (length old.listing.events) old.weight (now JOURNAL) gate at) same.settings
        (subst (λ (w : ℕ). ReplayLeavesAt w old.listing.settings old.listing.cone old.last.n0 old.last.closed (length old.listing.events) old.weight (now JOURNAL) gate at) version_is
        (left now there.1)))))))

    -- and where it found a closed gate
    pub shut_on : ((now : Files) → files old.bay ≡ Some now → IsClosed (now JOURNAL) gate) → IsClosed (seen JOURNAL) gate
    shut_on shut =
        let there = journal.told seen told in
        subst (λ (bytes : List ℕ). IsClosed bytes gate) there.2 (shut there.0 there.1)

    -- and where no flush comes with what stands at the gate
    pub still_on : Read gate old.listing.events old.weight → FlushesNothing start.listing.version start.listing.settings start.last.n0 (seen JOURNAL) (length start.listing.events) first →
        BringsNoFlush old ((journal.told seen told).0 JOURNAL) gate
    still_on has nothing packet holds may =
        let there = journal.told seen told in
        let s = start.listing.settings in
        let v = start.listing.version in
        let n = length old.listing.events in
        let opened : IsOpen (most_payload v s) (seen JOURNAL) gate (payload_of v packet) =
        subst (λ (bytes : List ℕ). IsOpen (most_payload v s) bytes gate (payload_of v packet)) there.2
        (subst (λ (t : Numbers). IsOpen (most_payload v t) (there.0 JOURNAL) gate (payload_of v packet)) same.settings
        (subst (λ (w : ℕ). IsOpen (most_payload w old.listing.settings) (there.0 JOURNAL) gate (payload_of w packet)) version_is holds.stands)) in
        let none = none_flushed v s start.listing.cone start.last.n0 start.last.closed (seen JOURNAL) start.listing.events start.weight first gate old.listing.events old.weight packet has nothing
        opened in
        subst (λ (t : Numbers). last_flush t (n + length packet.items) ≤ max old.last.n0 n) (sym same.settings)
        (omega (arith, none, ap (λ (last : LogPoint). last.n0) same.last))

-- each packet has a key, so fewer are left
pub fewer_left : (most count keys : ℕ) → 0 < keys → count + keys ≤ most → most - (count + keys) < most - count
fewer_left most count keys some within = omega (arith, some, within)

-- what one packet more makes of a cone's counts and its gate
pub record HasGrown {B : Type 0} (start old new : Replaying B) (next : ℕ) : Type 0 where
  pub taking : new.stopped ≡ old.stopped
  pub version : new.listing.version ≡ old.listing.version
  pub closed : new.listing.closed ≡ old.listing.closed
  pub gate_is : new.gate ≡ next
  pub counted : new.events ≡ length new.listing.events
  pub within : length new.listing.events ≤ capacity start.listing.settings
  pub light : new.weight ≤ weight_room start.listing.settings
  pub near : next ≤ 2 ^ 46 + 65536 * length new.listing.events
  pub fewer : capacity start.listing.settings - length new.listing.events < capacity start.listing.settings - length old.listing.events

pub has_grown : {B : Type 0} (files : B → Option Files) (start old new : Replaying B) (gate next : ℕ) → IsSameReplay start old → old.events ≡ length old.listing.events →
    gate ≤ 2 ^ 46 + 65536 * length old.listing.events → HasTaken files old new gate next → next ≤ gate + 65536 → HasGrown start old new next
has_grown {B = B} files start old new gate next same counted near took forward =
    let n = length old.listing.events in
    let keys = took.packet.items in
    let count : length new.listing.events ≡ n + length keys = ap (λ (k : Replaying B). length k.listing.events) took.is ∙ length-append old.listing.events keys in
    let some : 0 < length keys = some_keys_of old.listing.settings old.listing.cone took.packet took.journaled in
    let within : n + length keys ≤ capacity start.listing.settings = subst (λ (s : Numbers). n + length keys ≤ capacity s) same.settings took.follows.within in
    record {
      taking = ap (λ (k : Replaying B). k.stopped) took.is;
      version = ap (λ (k : Replaying B). k.listing.version) took.is;
      closed = ap (λ (k : Replaying B). k.listing.closed) took.is;
      gate_is = ap (λ (k : Replaying B). k.gate) took.is;
      counted = omega (arith, ap (λ (k : Replaying B). k.events) took.is, counted, count);
      within = omega (arith, within, count);
      light = subst (λ (s : Numbers). new.weight ≤ weight_room s) same.settings (omega (arith, ap (λ (k : Replaying B). k.weight) took.is, took.follows.light));
      near = omega (arith, near, forward, some, count);
      fewer = subst (λ (m : ℕ). capacity start.listing.settings - m < capacity start.listing.settings - n) (sym count)
          (fewer_left (capacity start.listing.settings) n (length keys) some within);
    }

-- what is told of soundness in the words of the cone as it is, in those of the cone as it was
pub sound_on : {B : Type 0} (start old : Replaying B) (told : Option Files) (h : List Packet) → IsSameReplay start old →
    IfTold told (IsSound old.listing.settings old.listing.cone h) → IfTold told (IsSound start.listing.settings start.listing.cone h)
sound_on start old told h same sound seen is =
    subst (λ (s : Numbers). IsSound s start.listing.cone h seen) same.settings
    (subst (λ (cone : ℕ). IsSound old.listing.settings cone h seen) same.cone (sound seen is))

-- calls that leave the files as they were
pub quiet_of : {B : Type 0} {bays : Bays B} {before after : B} {Failed : Type 0} → CallsBay bays before after Failed → IsUnwritten bays before after →
    WritesNothing bays before after Failed
quiet_of kept unwritten = record {
  kept = kept;
  seen = unwritten.seen;
  images = λ seen told image may. (unwritten.images image).0 may;
  moments = λ seen told image since. unwritten.moments image since;
}
