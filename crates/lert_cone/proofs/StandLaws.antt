-- Which lists a cone stands for: when it is made, through an append and the items behind it, and when it is finished.
use Rattle.lert_spec.specs.Counts.{weighed, weight_of}
use Rattle.lert_spec.specs.declared.item.Item.{Item}
use Rattle.std.proofs.{Common.{◌≡◌, ℕ, ◌+◌, ◌*◌, ◌<◌, ◌≤◌, true, false, List, [], ◌++◌, length, Option, None, All, cond, refl, sym, ap, ◌∙◌, subst, arith, length-append}, lemmas.Bool.false≢true}
use Rattle.std.proofs.lemmas.List.Elements.{All-nil}
use Rattle.std.specs.Prelude.{replicate}
use Rattle.lert_spec.proofs.ItemLaws.{length-keys_in}
use Rattle.lert_base.specs.Packet.{Packet, events_of}
use Rattle.lert_bay.specs.Files.{Files, IfTold, Turns}
use Rattle.lert_gatelog.specs.Gated.{IsClosed, Log, next_gate}
use Rattle.lert_io.specs.Fault.{HasRisen}
use Rattle.lert_journal.specs.Payload.{payload_of}
use Rattle.lert_journal.proofs.PayloadLaws.{length_payload}
use Rattle.lert_levels.specs.declared.rows.bin_at.BinAt.{BinAt}
use Rattle.lert_levels.proofs.LaterLaws.{HoldsBins-none}
use Rattle.lert_reports.specs.{Log.most_record, declared.log_point.LogPoint.LogPoint}
use Rattle.lert_spec.specs.{declared.numbers.Numbers.Numbers, declared.report.Report.Report, Edges.{capacity}, Limits.IsValid, Look.{look_of, closing_of}}
use Rattle.lert_cone.specs.{declared.state.ConeState.ConeState, declared.state.ConeState.TheVariants.{Running, Finished, BrokenByBay, BrokenByRead}}
use Rattle.lert_cone.specs.{InStep.{IsInStep, IsLogging, AreNew}, Listing.{Listing, reports_of}, JournalPlaces.places_at_start, Record.LogPlace, Room.room_of, Sound.{IsSound, IsSoundOver, IsKept}}
use Rattle.lert_cone.specs.{Stands.{Standing, StandsFor, IsCone, IsSameCone, IsWhole, WasSound, is_broken, is_finished}, Tally.{Tallied, IsCounted}, Wrote.{Anything, IsShutIfTold}}
use Rattle.lert_cone.proofs.{LogLaws.log_none, JournalPlaceLaws.{places_none, names_none}, AppendLaws.whole_of, FaultLaws.{turns_as, turns_on}}
use Rattle.lert_journal.specs.Payload.{most_payload}
use Rattle.lert_cone.specs.History.{most_version}
use Rattle.lert_cone.proofs.ItemLaws.{end_none, items_most}
use Rattle.lert_levels.specs.rows.Checked.{IsWeightOf}
use Rattle.lert_levels.proofs.rows.SumLaws.{weight_more, weight_none}
use Rattle.lert_cone.proofs.WeighLaws.{edge_to, weight_from_more, weight_from_none, weight_within}
use Rattle.lert_cone.specs.Room.{weight_from}
use Rattle.lert_spec.specs.Items.{AreOfVersion}

-- ---- a cone

-- what it is seen as
abbrev pub cone_at : {B : Type 0} → B → B → Tallied → ℕ → ℕ → ConeState → Option Packet → ℕ → LogPlace → LogPoint → Standing B
cone_at bay made tally events weight state over gate log last = record {
  bay = bay;
  made = made;
  listing = tally.listing;
  rows = tally.rows;
  reports = tally.due.reports;
  events = events;
  weight = weight;
  state = state;
  over = over;
  gate = gate;
  log = log;
  last = last;
}

-- the reports of a list of these items
pub reports_running : (listing : Listing) (keys : List Item) → listing.closed ≡ false → listing.events ≡ keys → reports_of listing ≡ look_of weighed listing.settings keys
reports_running listing keys still is = ap (λ b. cond b (closing_of weighed listing.settings listing.events) (look_of weighed listing.settings listing.events)) still ∙ ap (look_of weighed
    listing.settings) is

pub reports_finished : (listing : Listing) (keys : List Item) → listing.closed ≡ true → listing.events ≡ keys → reports_of listing ≡ closing_of weighed listing.settings keys
reports_finished listing keys ended is = ap (λ b. cond b (closing_of weighed listing.settings listing.events) (look_of weighed listing.settings listing.events)) ended ∙ ap (closing_of weighed
    listing.settings) is

module _ {B : Type 0} (files : B → Option Files) (leaves : B → Files → Type 0) (faults : B → ℕ) where
  -- a new one
  new_step : (after : Files → Type 0) (seen : Files) (s : Numbers) (cone : ℕ) (rows : List (List BinAt)) → rows ≡ replicate s.levels [] → AreNew most_version s cone after seen →
      IsInStep after seen [] (record { settings = s; version = most_version; cone = cone; events = []; closed = false }) rows [] (record {
        gate = 8;
        most = most_record s;
        named = 0;
        places =
            places_at_start s;
      })
  new_step after seen s cone rows none new =
      subst (λ (rs : List (List BinAt)). IsInStep after seen [] (record { settings = s; version = most_version; cone = cone; events = []; closed = false }) rs []
      (record { gate = 8; most = most_record s; named = 0; places = places_at_start s }))
      (sym none)
      (record {
        logged = [];
        log_of = log_none s cone;
        named_is = refl;
        journal = new.journal;
        log_there = new.log_there;
        frames = λ image may. HoldsBins-none s most_version [] (image 2);
        journal_settled = new.journal_settled;
        log_settled = new.log_settled;
        reports_are = refl;
        begins = names_none s [];
        placed = places_none [] (places_at_start s) refl;
        reach = omega arith;
      })

  new_whole : (bay : B) (s : Numbers) (cone : ℕ) (tally : Tallied) (gate : ℕ) (log : LogPlace) → tally.listing ≡ record {
    settings = s;
    version = most_version;
    cone = cone;
    events = [];
    closed =
        false;
  } →
      gate ≡ 32
      → log ≡ record { gate = 8; most = most_record s; named = 0; places = places_at_start s } → tally.rows ≡ replicate s.levels [] → tally.due.reports ≡ [] → IsCounted tally
      → IfTold (files bay) (λ seen. AreNew most_version s cone (leaves bay) seen) → IfTold (files bay) (leaves bay)
      → IfTold (files bay) (λ seen. IsWhole (leaves bay) seen tally.listing tally.rows tally.due.reports gate log [])
  new_whole bay s cone tally gate log is gate_is log_is rows_are none counted new as_read seen told =
      whole_of (leaves bay) seen [] tally gate log counted
      (subst (λ (l : LogPlace). IsInStep (leaves bay) seen [] tally.listing tally.rows tally.due.reports l) (sym log_is)
      (subst (λ (reports : List Report). IsInStep (leaves bay) seen [] tally.listing tally.rows reports (record { gate = 8; most = most_record s; named = 0; places = places_at_start s })) (sym none)
      (subst (λ (l : Listing). IsInStep (leaves bay) seen [] l tally.rows [] (record { gate = 8; most = most_record s; named = 0; places = places_at_start s })) (sym is)
      (new_step (leaves bay) seen s cone tally.rows rows_are (new seen told)))))
      (as_read seen told) (ap (λ (l : Listing). l.events) is) (gate_is ∙ sym (end_none tally.listing.version))

  pub new_stands : (bay made : B) (s : Numbers) (cone : ℕ) (tally : Tallied) (gate : ℕ) (log : LogPlace) (last : LogPoint) → IsValid s → tally.listing ≡ record {
    settings = s;
    version = most_version;
    cone = cone;
    events = [];
    closed = false;
  } → gate ≡ 32
      → log ≡ record { gate = 8; most = most_record s; named = 0; places = places_at_start s } → tally.rows ≡ replicate s.levels [] → tally.due.reports ≡ [] → IsCounted tally
      → IfTold (files bay) (λ seen. AreNew most_version s cone (leaves bay) seen) → IfTold (files bay) (leaves bay)
      → StandsFor files leaves faults (cone_at bay made tally 0 0 Running None gate log last) []
  new_stands bay made s cone tally gate log last valid is gate_is log_is rows_are none counted new as_read = record {
    some = All-nil (λ packet. 0 < length packet.items);
    counted = refl;
    within = omega arith;
    weighed = λ _. refl;
    valid = subst (λ (l : Listing). IsValid l.settings) (sym is) valid;
    whole = λ _ _. new_whole bay s cone tally gate log is gate_is log_is rows_are none counted new as_read;
    broken = λ never. absurd (false≢true never);
    none_over = λ _. refl;
    by_bay = λ never. absurd (false≢true (ap is_broken never));
    by_read = λ file at never. absurd (false≢true (ap is_broken never));
  }

  -- its files were sound for no packet
  pub new_was_sound : (bay made : B) (s : Numbers) (cone : ℕ) (tally : Tallied) (gate : ℕ) (log : LogPlace) → made ≡ bay → tally.listing ≡ record {
    settings = s;
    version = most_version;
    cone = cone;
    events = [];
    closed = false;
  } → gate ≡ 32
      → log ≡ record { gate = 8; most = most_record s; named = 0; places = places_at_start s } → tally.rows ≡ replicate s.levels [] → tally.due.reports ≡ [] → IsCounted tally
      → IfTold (files bay) (λ seen. AreNew most_version s cone (leaves bay) seen) → IfTold (files bay) (leaves bay)
      → IfTold (files made) (λ first. (history : List Packet) × IsSound tally.listing.settings tally.listing.cone history first)
  new_was_sound bay made s cone tally gate log made_is is gate_is log_is rows_are none counted new as_read first told =
      ([], (new_whole bay s cone tally gate log is gate_is log_is rows_are none counted new as_read first (ap files (sym made_is) ∙ told)).files.kept.as_read.sound)

  pub new_cone : (mark : B → ℕ) (bay made : B) (s : Numbers) (cone : ℕ) (tally : Tallied) (journal : Log) (log : LogPlace) (last : LogPoint) (room keys_room : ℕ) → last.version ≡ most_version →
      (last.n0 ≡ 0) × (last.weight ≡ 0) → IsValid s →
      tally.listing ≡ record { settings = s; version = most_version; cone = cone; events = []; closed = false }
      → IsCounted tally → journal ≡ record { file = 0; gate = 32; most = most_payload most_version s } → log ≡ record { gate = 8; most = most_record s; named = 0; places = places_at_start s } →
      room ≡ room_of s →
      keys_room ≡ 4 * s.packet → made ≡ bay
      → IfTold (files bay) (λ seen. AreNew most_version s cone (leaves bay) seen)
      → IsCone files leaves faults mark (cone_at bay made tally 0 0 Running None journal.gate log last) tally journal room keys_room
  new_cone mark bay made s cone tally journal log last room keys_room version_is none_is valid is counted journal_is log_is room_is keys_room_is made_is new = record {
    file = ap (λ (j : Log). j.file) journal_is;
    most = ap (λ (j : Log). j.most) journal_is ∙ ap (λ (l : Listing). most_payload l.version l.settings) (sym is);
    roomy = room_is ∙ ap (λ (l : Listing). room_of l.settings) (sym is);
    keys_roomy = keys_room_is ∙ ap (λ (l : Listing). 4 * l.settings.packet) (sym is);
    within = omega arith;
    weighs = weight_none last.version;
    passed = omega (arith, none_is.0);
    version = ap (λ (l : Listing). l.version) is ∙ sym version_is;
    valid = subst (λ (l : Listing). IsValid l.settings) (sym is) valid;
    never_falls = omega (arith, ap faults made_is);
    marked = ap mark (sym made_is);
    tells = turns_as (ap files (sym made_is));
    by_bay = λ never. absurd (false≢true (ap is_broken never));
    none_over = λ _. refl;
    counted = λ _. ap (λ (l : Listing). length l.events) is;
    weight_is = λ _. sym (ap (λ (l : Listing). weight_from l.settings last l.events) is ∙ weight_from_none s last [] (omega arith) ∙ none_is.1);
    tallied = λ _. counted;
    closed = λ _. ap (λ (l : Listing). l.closed) is;
    near = λ _. omega (arith, ap (λ (j : Log). j.gate) journal_is);
    shut = λ _ seen told. record {
      settled = (new seen told).journal_settled;
      closed = λ image may. subst (λ g. IsClosed (image 0) g) (sym (ap (λ (j : Log). j.gate) journal_is)) ((new seen told).journal image may).records.closed;
    };
    logging = λ _. record {
      most = ap (λ (l : LogPlace). l.most) log_is ∙ ap (λ (l : Listing). most_record l.settings) (sym is);
      named = omega (arith, ap (λ (l : LogPlace). l.named) log_is);
      near = omega (arith, ap (λ (l : LogPlace). l.gate) log_is);
      roomy = omega (arith, ap (λ (l : LogPlace). l.most) log_is, room_is);
      same = ap (λ (l : LogPlace). l.places.settings) log_is ∙ ap (λ (l : Listing). l.settings) (sym is);
      passed = ap (λ (l : LogPlace). l.places.passed) log_is ∙ ap (λ (l : Listing). length l.events) (sym is);
    };
    log_shut = λ _ seen told. record {
      settled = (new seen told).log_settled;
      closed = λ image may. subst (λ g. IsClosed (image 1) g) (sym (ap (λ (l : LogPlace). l.gate) log_is)) ((new seen told).log_there image may).records_stand.closed;
    };
  }

-- what was so of the files when the cone was made
was_before : {B : Type 0} (files : B → Option Files) {old new : Standing B} → IsSameCone old new → WasSound files new → WasSound files old
was_before files {old = old} {new = new} same was first told =
    let then = was first (ap files same.made ∙ told) in
    (then.0, subst (λ n. IsSound old.listing.settings n then.0 first) same.cone (subst (λ (s : Numbers). IsSound s new.listing.cone then.0 first) same.settings then.1))

module _ {B : Type 0} {files : B → Option Files} {leaves : B → Files → Type 0} {faults : B → ℕ} where
  -- one in another state that isn't broken, or with a packet more
  pub stands_whole : {old new : Standing B} {history more : List Packet} → IsSameCone old new → is_broken new.state ≡ false → new.over ≡ None
      → All (λ packet. 0 < length packet.items) more → length (events_of more) ≡ new.events → new.events ≤ capacity old.listing.settings
      → weight_of weighed (events_of more) ≡ new.weight
      → (WasSound files old → IfTold (files new.bay) (λ seen. IsWhole (leaves new.bay) seen new.listing new.rows new.reports new.gate new.log more)) →
      StandsFor files leaves faults old history
      → StandsFor files leaves faults new more
  stands_whole {new = new} same still none_over some counted within weighs whole stands = record {
    some = some;
    counted = counted;
    within = subst (λ (s : Numbers). new.events ≤ capacity s) (sym same.settings) within;
    weighed = λ _. weighs;
    valid = subst IsValid (sym same.settings) stands.valid;
    whole = λ _ sound. whole (was_before files same sound);
    broken = λ never. absurd (false≢true (sym still ∙ never));
    none_over = λ _. none_over;
    by_bay = λ never. absurd (false≢true (sym still ∙ ap is_broken never));
    by_read = λ file at never. absurd (false≢true (sym still ∙ ap is_broken never));
  }

  -- one that broke off in the middle
  pub stands_broken : {old new : Standing B} {history : List Packet} → IsSameCone old new → is_broken new.state ≡ true → new.events ≡ old.events
      → (new.state ≡ BrokenByBay → HasRisen (faults new.made) (faults new.bay)) → ((file at : ℕ) → new.state ≡ BrokenByRead file at → WasSound files old → files new.bay ≡ None)
      → (WasSound files old → IfTold (files new.bay) (λ seen. IsKept (leaves new.bay) seen (IsSoundOver new.listing.settings new.listing.cone history new.over))) →
      StandsFor files leaves faults old history
      → StandsFor files leaves faults new history
  stands_broken {new = new} same broken events_are by_bay by_read kept stands = record {
    some = stands.some;
    counted = stands.counted ∙ sym events_are;
    within = subst (λ (s : Numbers). new.events ≤ capacity s) (sym same.settings) (omega (arith, events_are, stands.within));
    weighed = λ never. absurd (false≢true (sym never ∙ broken));
    valid = subst IsValid (sym same.settings) stands.valid;
    whole = λ never. absurd (false≢true (sym never ∙ broken));
    broken = λ _ sound. kept (was_before files same sound);
    none_over = λ never. absurd (false≢true (sym never ∙ broken));
    by_bay = by_bay;
    by_read = λ file at is sound. by_read file at is (was_before files same sound);
  }

  -- a packet more, and its items
  pub more_cone : {mark : B → ℕ} {bay made last : B} {tally after : Tallied} {events events_after weight weight_after room room_after keys_room : ℕ} {state : ConeState} {over : Option Packet}
      {journal journal_after : Log} {log log_after : LogPlace} {point : LogPoint} (packet : Packet)
      → state ≡ Running → after.listing ≡ record tally.listing { events = tally.listing.events ++ packet.items } → IsCounted after → events_after ≡ events + length packet.items
      → journal_after ≡ record journal { gate = next_gate journal.gate (payload_of tally.listing.version packet) } → room_after ≡ room → 0 < length packet.items →
      events + length packet.items ≤ capacity tally.listing.settings → weight_after ≡ weight + weight_of weighed packet.items → AreOfVersion point.version packet.items
      → faults bay ≤ faults last → Turns Anything (files bay) (files last) → mark last ≡ mark bay → IsShutIfTold (files last) (leaves last) 0 journal_after.gate
      → IsLogging after log_after room_after →
      IsShutIfTold (files last) (leaves last) 1 log_after.gate
      → IsCone files leaves faults mark (cone_at bay made tally events weight state over journal.gate log point) tally journal room keys_room
      → IsCone files leaves faults mark (cone_at last made after events_after weight_after state over journal_after.gate log_after point) after journal_after room_after keys_room
  more_cone {tally = tally} {events = events} {events_after = events_after} {weight = weight} {weight_after = weight_after} {point = point} packet running is counted events_is journal_is room_is
      some fits weight_is light falls
      turns marked shut logging log_shut cone = record {
        file = ap (λ (j : Log). j.file) journal_is ∙ cone.file;
        most = ap (λ (j : Log). j.most) journal_is ∙ cone.most ∙ ap (λ (l : Listing). most_payload l.version l.settings) (sym is);
        roomy = room_is ∙ (cone.roomy ∙ ap (λ (l : Listing). room_of l.settings) (sym is));
        keys_roomy = cone.keys_roomy ∙ ap (λ (l : Listing). 4 * l.settings.packet) (sym is);
        within = subst (λ (l : Listing). events_after ≤ capacity l.settings) (sym is) (omega (arith, events_is, fits));
        weighs = subst (λ n. IsWeightOf point.version n weight_after) (sym events_is) (subst (λ w. IsWeightOf point.version (events + length packet.items) w) (sym weight_is)
            (weight_more point.version events (length packet.items) weight (weight_of weighed packet.items) cone.weighs (weight_within point.version packet.items light)));
        passed = omega (arith, cone.passed, events_is);
        version = ap (λ (l : Listing). l.version) is ∙ cone.version;
        valid = subst (λ (l : Listing). IsValid l.settings) (sym is) cone.valid;
        never_falls = omega (arith, cone.never_falls, falls);
        marked = marked ∙ cone.marked;
        tells = turns_on cone.tells turns;
        by_bay = λ never. absurd (false≢true (sym (ap is_broken running) ∙ ap is_broken never));
        none_over = cone.none_over;
        counted = λ still. omega (arith, ap (λ (l : Listing). length l.events) is, length-append tally.listing.events packet.items, cone.counted still, events_is);
        weight_is = λ still. weight_is ∙ ap (λ w. w + weight_of weighed packet.items) (cone.weight_is still)
            ∙ sym (weight_from_more tally.listing.settings point tally.listing.events packet.items (omega (arith, edge_to tally.listing.settings point.n0, cone.passed, cone.counted still)))
            ∙ ap (λ (l : Listing). weight_from l.settings point l.events) (sym is);
        tallied = λ _. counted;
        closed = λ still. ap (λ (l : Listing). l.closed) is ∙ cone.closed still;
        near = λ still. omega (
          arith,
          cone.near still,
          ap (λ (j : Log). j.gate) journal_is,
          length_payload tally.listing.version packet,
          items_most tally.listing.version (length packet.items),
          length-keys_in packet.items,
          events_is,
          some,
        );
        shut = λ _. shut;
        logging = λ _. logging;
        log_shut = λ _. log_shut;
      }

  -- the end
  pub ended_cone : {mark : B → ℕ} {bay made last : B} {tally after : Tallied} {events weight room room_after keys_room : ℕ} {state ended : ConeState} {over : Option Packet} {journal : Log}
      {log log_after : LogPlace} {point : LogPoint}
      → state ≡ Running → ended ≡ Finished → after.listing ≡ record tally.listing { closed = true } → IsCounted after → room_after ≡ room → faults bay ≤ faults last
      → Turns Anything (files bay) (files last) → mark last ≡ mark bay
      → IsCone files leaves faults mark (cone_at bay made tally events weight state over journal.gate log point) tally journal room keys_room
      → IsCone files leaves faults mark (cone_at last made after events weight ended over journal.gate log_after point) after journal room_after keys_room
  ended_cone {events = events} {point = point} running finished is counted room_is falls turns marked cone = record {
    file = cone.file;
    most = cone.most ∙ ap (λ (l : Listing). most_payload l.version l.settings) (sym is);
    roomy = room_is ∙ cone.roomy ∙ ap (λ (l : Listing). room_of l.settings) (sym is);
    keys_roomy = cone.keys_roomy ∙ ap (λ (l : Listing). 4 * l.settings.packet) (sym is);
    within = subst (λ (l : Listing). events ≤ capacity l.settings) (sym is) cone.within;
    weighs = cone.weighs;
    passed = cone.passed;
    version = ap (λ (l : Listing). l.version) is ∙ cone.version;
    valid = subst (λ (l : Listing). IsValid l.settings) (sym is) cone.valid;
    never_falls = omega (arith, cone.never_falls, falls);
    marked = marked ∙ cone.marked;
    tells = turns_on cone.tells turns;
    by_bay = λ never. absurd (false≢true (sym (ap is_broken finished) ∙ ap is_broken never));
    none_over = λ _. cone.none_over (ap is_broken running);
    counted = λ _. ap (λ (l : Listing). length l.events) is ∙ cone.counted (ap is_broken running);
    weight_is = λ _. cone.weight_is (ap is_broken running) ∙ ap (λ (l : Listing). weight_from l.settings point l.events) (sym is);
    tallied = λ _. counted;
    closed = λ _. ap (λ (l : Listing). l.closed) is ∙ sym (ap is_finished finished);
    near = λ _. cone.near (ap is_broken running);
    shut = λ never. absurd (false≢true (sym (ap is_finished never) ∙ ap is_finished finished));
    logging = λ never. absurd (false≢true (sym (ap is_finished never) ∙ ap is_finished finished));
    log_shut = λ never. absurd (false≢true (sym (ap is_finished never) ∙ ap is_finished finished));
  }

  -- one that broke off
  pub broken_cone : {mark : B → ℕ} {old new : Standing B} {tally after : Tallied} {journal journal_after : Log} {room room_after keys_room keys_room_after : ℕ}
      → is_broken new.state ≡ true →
      new.listing.settings ≡ old.listing.settings → new.listing.version ≡ old.listing.version → new.last ≡ old.last → new.events ≡ old.events → new.weight ≡ old.weight → new.made ≡ old.made
      → journal_after.file ≡ journal.file → journal_after.most ≡ journal.most → room_after ≡ room → keys_room_after ≡ keys_room → faults old.bay ≤ faults new.bay
      → Turns Anything (files old.bay) (files new.bay) → mark new.bay ≡ mark old.bay →
      (new.state ≡ BrokenByBay →
      HasRisen (faults new.made) (faults new.bay))
      → IsCone files leaves faults mark old tally journal room keys_room → IsCone files leaves faults mark new after journal_after room_after keys_room_after
  broken_cone {mark = mark} {old = old} {new = new} broken same version_is last_is events_are weight_are made_is file_is most_is room_is keys_room_is falls turns marked by_bay cone =
      record {
        file = file_is ∙ cone.file;
        most = most_is ∙ cone.most ∙ (λ i. most_payload (sym version_is i) (sym same i));
        version = version_is ∙ cone.version ∙ ap (λ (p : LogPoint). p.version) (sym last_is);
        roomy = room_is ∙ cone.roomy ∙ ap room_of (sym same);
        keys_roomy = keys_room_is ∙ cone.keys_roomy ∙ ap (λ (s : Numbers). 4 * s.packet) (sym same);
        within = subst (λ (s : Numbers). new.events ≤ capacity s) (sym same) (omega (arith, events_are, cone.within));
        weighs = subst (λ (p : LogPoint). IsWeightOf p.version new.events new.weight) (sym last_is) (subst (λ n. IsWeightOf old.last.version n new.weight) (sym events_are)
            (subst (IsWeightOf old.last.version old.events) (sym weight_are) cone.weighs));
        passed = omega (arith, cone.passed, events_are, ap (λ (p : LogPoint). p.n0) last_is);
        valid = subst IsValid (sym same) cone.valid;
        never_falls = omega (arith, ap faults made_is, cone.never_falls, falls);
        marked = marked ∙ cone.marked ∙ ap mark (sym made_is);
        tells = turns_on (subst (λ (m : B). Turns Anything (files m) (files old.bay)) (sym made_is) cone.tells) turns;
        by_bay = by_bay;
        none_over = λ still. absurd (false≢true (sym still ∙ broken));
        counted = λ still. absurd (false≢true (sym still ∙ broken));
        weight_is = λ still. absurd (false≢true (sym still ∙ broken));
        tallied = λ still. absurd (false≢true (sym still ∙ broken));
        closed = λ still. absurd (false≢true (sym still ∙ broken));
        near = λ still. absurd (false≢true (sym still ∙ broken));
        shut = λ never. absurd (false≢true (sym (ap is_broken never) ∙ broken));
        logging = λ never. absurd (false≢true (sym (ap is_broken never) ∙ broken));
        log_shut = λ never. absurd (false≢true (sym (ap is_broken never) ∙ broken));
      }
