-- The files of a cone as their headers leave them, and through an append.
use Rattle.lert_spec.specs.declared.item.Item.{Item}
use Rattle.lert_spec.specs.Items.{AreOfVersion, most_weight}
use Rattle.std.proofs.lemmas.List.Elements.{All-head, All-append, All-tail}
use Rattle.std.proofs.Common.{◌≡◌, ℕ, ◌+◌, ◌<◌, ◌≤◌, List, [], ◌∷◌, ◌++◌, length, take, get_or, Option, Some, None, All, refl, sym, ap, ◌∙◌, subst, arith, length-append, append-nil}
use Rattle.std.proofs.{Math.Seq.get_or-append_seam, lemmas.Grind.flat_map-append, lemmas.List.{take-take, take_at, take_all}, lemmas.List.Elements.All-nil, lemmas.Option.{none-some, same_Some}}
use Rattle.lert_spec.proofs.ItemLaws.{length-keys_in}
use Rattle.lert_base.specs.Packet.{keys_of, Packet, events_of}
use Rattle.lert_bay.specs.{Files.{Files, Turns}, Settled.{part, Keeps}}
use Rattle.lert_gatelog.specs.{Gated.{IsClosed, next_gate}, Kept.{InEach, KeepsOthers, IsWhollySettled, OthersStay}}
use Rattle.lert_gatelog.proofs.GatedLaws.{byte_of_part, part_within}
use Rattle.lert_journal.specs.{Header.{magic, header}, Payload.{payload_of, IsJournaled}}
use Rattle.lert_journal.proofs.PayloadLaws.{length_payload}
use Rattle.lert_journal.specs.Payload.{item_len}
use Rattle.lert_cone.proofs.ItemLaws.{items_add}
use Rattle.lert_cone.specs.History.{most_version}
use Rattle.lert_spec.specs.{declared.numbers.Numbers.Numbers, Edges.key_limit}
use Rattle.lert_cone.specs.{History.end_of, InStep.AreNew, Sound.IsJournal}
use Rattle.lert_reports.specs.Log.{HasLog, log_header}
use Rattle.lert_reports.proofs.LogLaws.{records_none}
use Rattle.std.proofs.Common.{◌*◌}

-- ---- told files

-- files that are told after a step were told before it
pub turns_back : {step : Files → Files → Type 0} {before after : Option Files} → Turns step before after → (new : Files) → after ≡ Some new →
    (old : Files) × (before ≡ Some old) × step old new
turns_back {step = step} {before = Some old} turns new told =
    let came = turns.told old refl in
    (old, refl, subst (step old) (same_Some came.0 new (sym came.1 ∙ told)) came.2)
turns_back {before = None} turns new told = absurd (none-some new (sym (turns.untold refl) ∙ told))

-- ---- histories

-- the items of one packet more
pub events_more : (history : List Packet) (packet : Packet) → events_of (history ++ packet ∷ []) ≡ events_of history ++ packet.items
events_more history packet = flat_map-append (λ p. p.items) history (packet ∷ []) ∙ ap (λ keys. events_of history ++ keys) (append-nil packet.items)

pub counted_more : (history : List Packet) (packet : Packet) → length (events_of (history ++ packet ∷ [])) ≡ length (events_of history) + length packet.items
counted_more history packet = ap length (events_more history packet) ∙ length-append (events_of history) packet.items

-- a packet that a journal may hold has a key
pub some_keys_of : {version : ℕ} (s : Numbers) (cone : ℕ) (packet : Packet) → IsJournaled version s cone packet → 0 < length packet.items
some_keys_of {version} s cone packet may = omega (arith, may.some, length-keys_in packet.items)

-- the items of packets that a journal may hold weigh what its version allows
pub history_light : {version : ℕ} (s : Numbers) (cone : ℕ) (history : List Packet) → All (IsJournaled version s cone) history → AreOfVersion version (events_of history)
history_light {version} s cone [] journaled = All-nil (λ (item : Item). (1 ≤ item.weight) × (item.weight ≤ most_weight version))
history_light {version} s cone (packet ∷ history) journaled =
    All-append (λ (item : Item). (1 ≤ item.weight) × (item.weight ≤ most_weight version)) packet.items (events_of history)
    (All-head (IsJournaled version s cone) packet history journaled).weighed
    (history_light s cone history (All-tail (IsJournaled version s cone) packet history journaled))

-- the gate behind one packet more
pub end_more : (version : ℕ) (history : List Packet) (packet : Packet) → next_gate (end_of version history) (payload_of version packet) ≡ end_of version (history ++ packet ∷ [])
end_more version history packet = omega (
  arith,
  length_payload version packet,
  length-keys_in packet.items,
  ap (λ n. item_len version * n) (counted_more history packet) ∙ items_add version (length (events_of history)) (length packet.items),
  length-append history (packet ∷ []),
)

-- ---- the headers

-- a text that begins with a header of 32 bytes and a byte 0
pub begins : (head bytes : List ℕ) → length head ≡ 32 → part bytes 0 33 ≡ head ++ 0 ∷ [] → (part bytes 0 32 ≡ head) × IsClosed bytes 32
begins head bytes long is =
    let longer : length (head ++ 0 ∷ []) ≡ 33 = omega (arith, length-append head (0 ∷ []), long) in
    let within : 33 ≤ length bytes = part_within bytes (head ++ 0 ∷ []) 0 33 is (omega (arith, longer)) (omega (arith, longer)) in
    let here : get_or bytes 32 0 ≡ 0 = byte_of_part bytes (head ++ 0 ∷ []) 0 33 32 is (omega (arith, longer)) (omega (arith, longer)) ∙ (ap (λ n. get_or (head ++ 0 ∷ []) n 0) (sym long)
    ∙ get_or-append_seam head 0 [] 0) in (
      sym (take-take 32 33 bytes (omega arith)) ∙ (ap (take 32) is ∙ take_at head (0 ∷ []) 32 long),
      record { within = omega (arith, within); shut = λ one. absurd (omega (arith, here, one)) },
    )

-- what is known once the headers are on the disk: `leaves_one` and `seen_one` stand behind the journal's, `leaves` and
-- `seen` behind the log's, and `since` are the images from the one to the other
pub record IsBegun (head : List ℕ) (leaves_one leaves since : Files → Type 0) (seen_one seen : Files) : Type 0 where
  pub journal : InEach leaves_one 0 (λ bytes. bytes ≡ head ++ 0 ∷ [])
  pub journal_settled : IsWhollySettled leaves_one seen_one 0
  pub first_read : leaves_one seen_one
  pub others : KeepsOthers leaves_one since seen_one 1
  pub now : (image : Files) → leaves image → since image
  pub stay : OthersStay 1 seen_one seen
  pub log : InEach leaves 1 (λ bytes. bytes ≡ log_header ++ 0 ∷ [])
  pub log_settled : IsWhollySettled leaves seen 1

-- a log's header and a closed gate are a log without a record
log_none : (s : Numbers) (cone : ℕ) → HasLog s cone (log_header ++ 0 ∷ []) [] 8
log_none s cone = record {
  headed = refl;
  records_stand = record { records = refl; closed = record { within = omega arith; shut = λ one. absurd (omega (arith, one)) } };
  rules = records_none s cone;
}

module _ (s : Numbers) (cone : ℕ) (leaves_one leaves since : Files → Type 0) (seen_one seen : Files) (long : length (header (magic most_version) s cone) ≡ 32)
    (begun : IsBegun (header (magic most_version) s cone) leaves_one leaves since seen_one seen) where
  first_text : seen_one 0 ≡ header (magic most_version) s cone ++ 0 ∷ []
  first_text = begun.journal seen_one begun.first_read

  first_long : length (seen_one 0) ≡ 33
  first_long = ap length first_text ∙ omega (arith, length-append (header (magic most_version) s cone) (0 ∷ []), long)

  keeps : Keeps leaves seen_one 0 0 33
  keeps image may = subst (λ (to : ℕ). part (image 0) 0 to ≡ part (seen_one 0) 0 to) first_long
      (begun.others 0 0 (length (seen_one 0)) (λ same. absurd (omega (arith, same))) begun.journal_settled image (begun.now image may))

  front : (image : Files) → leaves image → part (image 0) 0 33 ≡ header (magic most_version) s cone ++ 0 ∷ []
  front image may = keeps image may ∙ (take_all 33 (seen_one 0) (omega (arith, first_long)) ∙ first_text)

  begun_journal : InEach leaves 0 (IsJournal most_version s cone [])
  begun_journal image may = record {
    headed = (begins (header (magic most_version) s cone) (image 0) long (front image may)).0;
    records = record { records = refl; closed = (begins (header (magic most_version) s cone) (image 0) long (front image may)).1 };
    journaled = All-nil (IsJournaled most_version s cone);
    fit = All-nil (λ packet. All (λ key. key < key_limit s) (keys_of packet));
    within = omega arith;
    light = omega arith;
  }

  pub begun_new : AreNew most_version s cone leaves seen
  begun_new = record {
    journal = begun_journal;
    log_there = λ image may. subst (λ (bytes : List ℕ). HasLog s cone bytes [] 8) (sym (begun.log image may)) (log_none s cone);
    journal_settled = record {
      within = omega arith;
      same = λ image may. subst (λ (bytes : List ℕ). part (image 0) 0 (length bytes) ≡ part bytes 0 (length bytes)) (sym (begun.stay 0 (λ same. absurd (omega (arith, same)))))
          (subst (λ (to : ℕ). part (image 0) 0 to ≡ part (seen_one 0) 0 to) (sym first_long) (keeps image may));
    };
    log_settled = begun.log_settled;
  }
