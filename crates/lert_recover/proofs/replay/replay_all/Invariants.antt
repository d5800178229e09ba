use Rattle.std.proofs.Common.{◌≡◌, ◌+◌, ◌-◌, ◌*◌, ◌^◌, ◌<◌, ◌≤◌, max, None, Some, Ok, List, length}
use Rattle.lert_base.specs.Packet.{Packet}
use Rattle.lert_bay.specs.{declared.bay.TheConstants.{JOURNAL, FRAMES}, Files.Files, Kept.CallsBay}
use Rattle.lert_bay.specs.Kept.{Bays, seen_by}
use Rattle.lert_cone.specs.{Framed.HoldsSome, KeepsLog.{KeepsLogOf, head_of}, Replaying.IsSameReplay, Sound.StaysSound}
use Rattle.lert_files.specs.Opened.{WritesNothing}
use Rattle.lert_spec.specs.Edges.{capacity}
use Rattle.lert_recover.specs.{Moments.AreSound, Replayed.{FlushesNothing, HasReplayed, IsJournalSame, ReplaysSome}}
use Rattle.lert_recover.proofs.replay.replay_all.Given as goal

abbrev pub bays : (g : goal.Over) → Bays g.row.B.Denot
bays g = seen_by g.B.Faulty g.B.Bay

-- the packets up to this gate were replayed
abbrev pub invariant-packets : goal.invariant-packets
invariant-packets g l = record {
  taking : l.cone.stopped ≡ None;
  same : IsSameReplay l.fn.cone l.cone;
  version : l.cone.listing.version ≡ l.fn.cone.listing.version;
  closed : l.cone.listing.closed ≡ l.fn.cone.listing.closed;
  gate_is : l.cone.gate ≡ l.gate;
  counted : l.cone.events ≡ length l.cone.listing.events;
  within : length l.cone.listing.events ≤ capacity l.fn.cone.listing.settings;
  light : l.cone.weight < 2 ^ 62;
  near : l.gate ≤ 2 ^ 46 + 65536 * length l.cone.listing.events;
  read : (seen : Files) → g.B.Bay.files l.fn.cone.bay ≡ Some seen → HasReplayed l.fn.cone.listing.version l.fn.cone.listing.settings l.fn.cone.listing.cone l.fn.cone.last.n0 l.fn.cone.last.closed
      (seen JOURNAL) l.fn.cone.listing.events l.fn.cone.weight l.fn.first l.gate l.cone.listing.events l.cone.weight;
  sound : (seen : Files) → g.B.Bay.files l.fn.cone.bay ≡ Some seen → (h : List Packet) → ReplaysSome g.B.Bay.files g.B.Bay.leaves l.fn.cone h →
      ReplaysSome g.B.Bay.files g.B.Bay.leaves l.cone h;
  throughout : (seen : Files) → g.B.Bay.files l.fn.cone.bay ≡ Some seen → (h : List Packet) → ReplaysSome g.B.Bay.files g.B.Bay.leaves l.fn.cone h →
      AreSound (g.B.Bay.leaves l.fn.cone.bay) l.fn.cone.listing.settings l.fn.cone.listing.cone h →
      StaysSound (bays g) l.fn.cone.listing.settings l.fn.cone.listing.cone h l.fn.cone.bay l.cone.bay;
  framed : (seen : Files) → g.B.Bay.files l.fn.cone.bay ≡ Some seen → HoldsSome l.fn.cone.listing.version l.fn.cone.listing.settings l.fn.cone.last.n0 l.fn.cone.rows (seen FRAMES) →
      (there : Files) → g.B.Bay.files l.cone.bay ≡ Some there → HoldsSome l.cone.listing.version l.cone.listing.settings (max l.cone.last.n0 (length l.cone.listing.events)) l.cone.rows (there FRAMES);
  journal : IsJournalSame (g.B.Bay.files l.fn.cone.bay) (g.B.Bay.files l.cone.bay);
  kept : CallsBay (bays g) l.fn.cone.bay l.cone.bay ⊥;
  unwritten : (seen : Files) → g.B.Bay.files l.fn.cone.bay ≡ Some seen → FlushesNothing l.fn.cone.listing.version l.fn.cone.listing.settings l.fn.cone.last.n0 (seen JOURNAL)
      (length l.fn.cone.listing.events) l.fn.first → WritesNothing (bays g) l.fn.cone.bay l.cone.bay ⊥;
  logged : KeepsLogOf {T = Unit {0}} {E = Unit {0}} (bays g) l.fn.cone.listing.version l.fn.cone.listing.settings (head_of l.fn.cone) (head_of l.cone) l.fn.cone.bay l.cone.bay (Ok tt);
  handed : g.B.Bay.handed_out l.cone.bay JOURNAL + l.fn.first ≤ g.B.Bay.handed_out l.fn.cone.bay JOURNAL + l.gate;
}

-- each packet has a key
abbrev pub decreases-packets : goal.decreases-packets
decreases-packets g l = capacity l.fn.cone.listing.settings - length l.cone.listing.events
