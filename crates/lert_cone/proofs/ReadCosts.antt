-- How many bytes of the journal the replay of a packet hands out.
use Rattle.std.proofs.{Common.{◌≡◌, ℕ, ◌+◌, ◌-◌, ◌≤◌, Bool, true, false, Ok, Err, length, refl, subst, arith}, lemmas.Bool.{false≢true, true≢false}}
use Rattle.lert_base.specs.Packet.{Packet}
use Rattle.lert_bay.specs.{Handed.ReadsUpTo, declared.bay.TheConstants.JOURNAL}
use Rattle.lert_bay.proofs.HandedLaws.{up_to_more}
use Rattle.lert_gatelog.specs.{Gated.next_gate, declared.fault.LogFault.LogFault, declared.fault.LogFault.TheVariants.{Failed, Malformed}}
use Rattle.lert_journal.specs.{Cost.entry_cost, Payload.payload_of}
use Rattle.lert_spec.specs.declared.numbers.Numbers.{Numbers}
use Rattle.lert_journal.specs.Payload.{most_payload}

-- ---- a packet is read

-- the file is the journal, and the cost is no less
pub journal_up_to : (file cost more : ℕ) (before after : ℕ → ℕ) → file ≡ JOURNAL → cost ≤ more → ReadsUpTo file cost before after → ReadsUpTo JOURNAL more before after
journal_up_to file cost more before after file_is within read =
    up_to_more JOURNAL cost more before after within (subst (λ (f : ℕ). ReadsUpTo f cost before after) file_is read)

pub found_cost : (version : ℕ) (most : ℕ) (packet : Packet) (found : Bool) → found ≡ true → entry_cost version most packet (Ok found) ≡ 5 + length (payload_of version packet)
found_cost version most packet true found_is = refl
found_cost version most packet false found_is = absurd (false≢true found_is)

pub ended_cost : (version : ℕ) (most : ℕ) (packet : Packet) (found : Bool) → found ≡ false → entry_cost version most packet (Ok found) ≡ 5
ended_cost version most packet true found_is = absurd (true≢false found_is)
ended_cost version most packet false found_is = refl

pub same_cost : (version : ℕ) (most other : ℕ) (packet : Packet) (fault : LogFault) → most ≡ other → entry_cost version most packet (Err fault) ≤ entry_cost version other packet (Err fault)
same_cost version most other packet Failed same = omega arith
same_cost version most other packet (Malformed at) same = omega (arith, same)

pub refused_cost : (version : ℕ) (most : ℕ) (packet : Packet) (fault : LogFault) → entry_cost version most packet (Err fault) ≤ 5 + most
refused_cost version most packet Failed = omega arith
refused_cost version most packet (Malformed at) = omega arith

-- ---- and what comes behind it reads nothing of the journal

module _ (version : ℕ) (s : Numbers) (packet : Packet) (before between after : ℕ → ℕ) (unread : after JOURNAL ≡ between JOURNAL) where
  -- the items are taken
  pub taken_read : (found : Bool) (gate next : ℕ) → ReadsUpTo JOURNAL (entry_cost version (most_payload version s) packet (Ok found)) before between → found ≡ true →
      next ≡ next_gate gate (payload_of version packet) → after JOURNAL ≤ before JOURNAL + (next - gate)
  taken_read found gate next read found_is next_is = omega (arith, read.at_most, unread, found_cost version (most_payload version s) packet found found_is, next_is)

  -- they aren't
  pub broken_read : (found : Bool) (gate next : ℕ) → ReadsUpTo JOURNAL (entry_cost version (most_payload version s) packet (Ok found)) before between → found ≡ true →
      next ≡ next_gate gate (payload_of version packet) → next ≤ gate + 5 + most_payload version s → after JOURNAL ≤ before JOURNAL + (5 + most_payload version s)
  broken_read found gate next read found_is next_is short = omega (arith, read.at_most, unread, found_cost version (most_payload version s) packet found found_is, next_is, short)

  -- a closed gate stands there
  pub ended_read : (found : Bool) → ReadsUpTo JOURNAL (entry_cost version (most_payload version s) packet (Ok found)) before between → found ≡ false → after JOURNAL ≤ before JOURNAL + 5
  ended_read found read found_is = omega (arith, read.at_most, unread, ended_cost version (most_payload version s) packet found found_is)

  -- nothing that may stand there
  pub refused_read : (fault : LogFault) → ReadsUpTo JOURNAL (entry_cost version (most_payload version s) packet (Err fault)) before between →
      after JOURNAL ≤ before JOURNAL + (5 + most_payload version s)
  refused_read fault read = omega (arith, read.at_most, unread, refused_cost version (most_payload version s) packet fault)
