-- What a cone that is reopened says of its files, and why one isn't.
use Rattle.std.specs.Prelude.{◌≡◌, ℕ, ◌+◌, ◌-◌, ◌*◌, ◌≤◌, Bool, List, Some, length}
use Rattle.std.proofs.Common.{◌⊎◌}
use Rattle.lert_base.specs.{declared.kept.Kept.Kept, Packet.Packet}
use Rattle.lert_bay.specs.{declared.bay.TheConstants.{JOURNAL, LOG}, Files.Files}
use Rattle.lert_cone.specs.{declared.refusal.ReplayFault.ReplayFault, declared.refusal.ReplayFault.TheVariants.{Failed as ReplayFailed, Malformed as ReplayMalformed, Unsound as ReplayUnsound}}
use Rattle.lert_cone.specs.{Sound.IsSound, Unread.unread}
use Rattle.lert_gatelog.specs.Gated.{IsClosed}
use Rattle.lert_levels.specs.declared.rows.bin_at.BinAt.{BinAt}
use Rattle.lert_files.specs.{declared.fault.ReopenFault.ReopenFault, declared.fault.ReopenFault.TheVariants.{Failed, Malformed, OtherSettings}}
use Rattle.lert_files.specs.{Headed.{HasOther, IsHeaded}, Opened.{AreLastRows, AreOpened}}
use Rattle.lert_recover.specs.Replayed.{AreInFormat, FirstLeaves, frames_weigh, HasReplayed, JournalEnds, JournalLeavesAt}
use Rattle.lert_reports.specs.{Log.{is_closed, last_first, last_n0, last_offset, HasLog}, LogText.LogRecord}
use Rattle.lert_spec.specs.declared.{item.Item.Item, numbers.Numbers.Numbers}
use Rattle.lert_journal.specs.Header.{version_in}

-- All of the files is in its format, but for what stands before the record of the journal that the log's last one names. These are
-- the items that aren't read, and behind them those of the packets from that record on, up to the closed gate.
pub record IsReopened (s : Numbers) (cone : ℕ) (seen : Files) (closed : Bool) (events : List Item) (weight gate : ℕ) : Type 0 where
  pub records : List LogRecord
  pub log_end : ℕ
  pub rows : List (List BinAt)
  pub opened : AreOpened s cone seen records log_end rows
  pub closed_is : closed ≡ is_closed records
  pub replayed : HasReplayed (version_in (seen JOURNAL)) s cone (last_n0 records) (is_closed records) (seen JOURNAL)
      (unread (version_in (seen JOURNAL)) s cone (last_first records - 1) (Some seen)) (frames_weigh s seen rows) (last_offset records) gate events weight
  pub shut : IsClosed (seen JOURNAL) gate
  pub enough : last_n0 records ≤ length events

-- of that the journal alone: it has the cone's header, and these are the items that a reopening has of it, and what they weigh, with the
-- frames that the log's last record names
pub record IsReadOn (s : Numbers) (cone : ℕ) (seen : Files) (events : List Item) (weight gate : ℕ) : Type 0 where
  pub headed : IsHeaded s cone (seen JOURNAL)
  pub records : List LogRecord
  pub log_end : ℕ
  pub log : HasLog s cone (seen LOG) records log_end
  pub rows : List (List BinAt)
  pub named : AreLastRows s records rows
  pub replayed : HasReplayed (version_in (seen JOURNAL)) s cone (last_n0 records) (is_closed records) (seen JOURNAL)
      (unread (version_in (seen JOURNAL)) s cone (last_first records - 1) (Some seen)) (frames_weigh s seen rows) (last_offset records) gate events weight
  pub shut : IsClosed (seen JOURNAL) gate
  pub enough : last_n0 records ≤ length events

-- Files that are in their format to their end, and sound for no list. The one place that is told of them is the start of the log.
pub record IsUnsoundAt (s : Numbers) (cone : ℕ) (seen : Files) (file at : ℕ) : Type 0 where
  pub whole : AreInFormat s cone seen
  pub none : (history : List Packet) → IsSound s cone history seen → ⊥
  pub file_is : file ≡ LOG
  pub at_is : at ≡ 0

-- why a cone isn't reopened: a call failed, or what stands in its files, which leave their format first at a place,
-- or begin with other numbers, or are sound for no list
pub data IsReopenRefused (s : Numbers) (cone : ℕ) (seen : Files) (fault : ReopenFault) : Type 0 where
  Of_call : fault ≡ Failed → IsReopenRefused s cone seen fault
  Of_place : (file at : ℕ) → fault ≡ Malformed file at → FirstLeaves s cone seen file at → IsReopenRefused s cone seen fault
  Of_header : (kept : Kept) → fault ≡ OtherSettings kept → HasOther s cone (seen JOURNAL) kept → IsReopenRefused s cone seen fault
  Of_sight : (file at : ℕ) → fault ≡ Malformed file at → IsUnsoundAt s cone seen file at → IsReopenRefused s cone seen fault

-- ---- the journal alone

-- why a replay stopped that began at a gate, behind n events that weigh w
pub data IsStopped (version : ℕ) (s : Numbers) (cone n0 : ℕ) (closed : Bool) (bytes : List ℕ) (n w gate : ℕ) (fault : ReopenFault) : Type 0 where
  At_call : fault ≡ Failed → IsStopped version s cone n0 closed bytes n w gate fault
  At_place : (at : ℕ) → fault ≡ Malformed JOURNAL at → JournalLeavesAt version s cone n0 closed bytes n w gate at → IsStopped version s cone n0 closed bytes n w gate fault
  At_sight : (file at : ℕ) → fault ≡ Malformed file at → JournalEnds version s cone n0 closed bytes n w gate → file ≡ LOG → at ≡ 0 → IsStopped version s cone n0 closed bytes n w gate fault

-- what a fault of a replay is that stopped at a gate, behind n events that weigh w: that the files are sound for no list is told
-- only where the rest of the journal is in its format
abbrev pub IsWhy : ℕ → Numbers → ℕ → ℕ → Bool → List ℕ → (n w gate : ℕ) → ReplayFault → ReopenFault → Type 0
IsWhy version s cone n0 closed bytes n w gate ReplayFailed fault = fault ≡ Failed
IsWhy version s cone n0 closed bytes n w gate (ReplayMalformed at) fault = fault ≡ Malformed JOURNAL at
IsWhy version s cone n0 closed bytes n w gate (ReplayUnsound file at) fault =
    (fault ≡ Failed)
    ⊎ (((fault ≡ Malformed file at) × JournalEnds version s cone n0 closed bytes n w gate)
    ⊎ ((place : ℕ) × (fault ≡ Malformed JOURNAL place) × JournalLeavesAt version s cone n0 closed bytes n w gate place))

-- ---- how much of it is read

-- How many bytes of a journal a reopening reads at most, where the files are sound for a list. An item takes at most 22 bytes; these are
-- those of the items in all bins of level 0, and in eight packets more, and 64 for the header and what is looked at besides.
abbrev pub most_read : Numbers → ℕ
most_read s = 22 * (s.bins * s.base + 8 * s.packet) + 64
