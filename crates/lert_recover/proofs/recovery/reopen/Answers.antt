use Rattle.std.proofs.Common.{◌≡◌, ◌++◌, Bool, Some, length}
use Rattle.lert_bay.specs.Kept.{Bays, seen_by}
use Rattle.lert_bay.proofs.KeptLaws.{IsLawful}
use Rattle.lert_bay.specs.Files.{Files}
use Rattle.lert_cone.specs.{declared.state.ConeState.TheVariants.{Finished, Running}, Stands.{Standing, StandsFor}}
use Rattle.std.specs.Prelude.{if◌then◌else◌}
use Rattle.lert_files.specs.declared.fault.ReopenFault.TheVariants.{Failed}
use Rattle.lert_reports.specs.Log.{is_closed}
use Rattle.lert_recover.specs.declared.recovery.ReopenRefused.{ReopenRefused}
use Rattle.lert_recover.proofs.{FinalLaws.{Says, says, sound_told}, ReopenLaws.ok_on}
use Rattle.lert_recover.proofs.{ShownLaws.{reports_told, shown_told}, UnharmedLaws.other_quiet}
use Rattle.lert_recover.proofs.recovery.reopen.Given as given
use Rattle.lert_recover.proofs.recovery.reopen.Goals as goal
use Rattle.lert_recover.proofs.recovery.reopen.Goals.{After-reopen_in_order}

abbrev bays : (g : given.Over) → Bays g.row.B.Denot
bays g = seen_by g.B.Faulty g.B.Bay

lawful : (g : given.Over) → IsLawful (bays g)
lawful g = record { as_read = g.met.B.Bay.as_read; since_now = g.met.B.Bay.since_now; only_now = g.met.B.Bay.only_now; since_earlier = g.met.B.Bay.since_earlier }

said : (g : given.Over) (c : After-reopen_in_order g) (seen : Files) → g.B.Bay.files c.args.bay ≡ Some seen → Says c.args.room.settings c.args.cone c.requires.room.valid
    c.requires.named c.ranges.cone.fits seen (λ (now : Standing g.row.B.Denot). now.listing.closed) (λ (now : Standing g.row.B.Denot). now.listing.events)
    (λ (now : Standing g.row.B.Denot). now.weight) (λ (now : Standing g.row.B.Denot). now.gate) (λ (refused : ReopenRefused g.row.B.Denot). refused.fault) c.reopen_in_order.result
said g c seen told = says c.args.room.settings c.args.cone c.requires.room.valid c.requires.named c.ranges.cone.fits seen (λ (now : Standing g.row.B.Denot). now.listing.closed)
    (λ (now : Standing g.row.B.Denot). now.listing.events) (λ (now : Standing g.row.B.Denot). now.weight) (λ (now : Standing g.row.B.Denot). now.gate) (λ (refused : ReopenRefused g.row.B.Denot).
    refused.fault)
    c.reopen_in_order.result (c.reopen_in_order.ensures.told seen told)

pub returns-clause-journal : goal.returns-clause-journal
returns-clause-journal g c seen told = (said g c seen told).journal

pub returns-clause-journal_whole : goal.returns-clause-journal_whole
returns-clause-journal_whole g c seen told = (said g c seen told).journal_whole

pub returns-clause-closed : goal.returns-clause-closed
returns-clause-closed g c seen told = (said g c seen told).closed

pub returns-clause-malformed : goal.returns-clause-malformed
returns-clause-malformed g c seen told = (said g c seen told).malformed

pub returns-clause-other : goal.returns-clause-other
returns-clause-other g c seen told = (said g c seen told).other

pub returns-clause-refuses : goal.returns-clause-refuses
returns-clause-refuses g c seen told = (said g c seen told).refuses

pub returns-clause-differs : goal.returns-clause-differs
returns-clause-differs g c seen told = (said g c seen told).differs

pub returns-clause-other_untouched : goal.returns-clause-other_untouched
returns-clause-other_untouched g c =
    other_quiet (bays g) c.args.room.settings c.args.cone c.args.bay (lawful g) (λ (refused : ReopenRefused g.row.B.Denot). refused.bay)
    (λ (refused : ReopenRefused g.row.B.Denot). refused.fault) c.reopen_in_order.result
    (record { reads = c.reopen_in_order.ensures.reads; kept = c.reopen_in_order.ensures.kept }) (returns-clause-other g c) c.reopen_in_order.ensures.unharmed

pub returns-clause-sound_opens : goal.returns-clause-sound_opens
returns-clause-sound_opens g c seen told h sound =
    let counted = λ (now : Standing g.row.B.Denot). now.events ≡ length now.listing.events in
    let finished = λ (now : Standing g.row.B.Denot). now.state ≡ if now.listing.closed then Finished else Running in
    let own = λ (now : Standing g.row.B.Denot). (now.listing.settings ≡ c.args.room.settings) × (now.listing.cone ≡ c.args.cone) × (now.events ≡ length now.listing.events) ×
    (now.state ≡ if now.listing.closed then Finished else Running) in
    sound_told c.args.room.settings c.args.cone c.requires.room.valid c.requires.named c.ranges.cone.fits seen
    (λ (now : Standing g.row.B.Denot). now.listing.closed) (λ (now : Standing g.row.B.Denot). now.listing.events) (λ (now : Standing g.row.B.Denot). now.weight)
    (λ (now : Standing g.row.B.Denot). now.gate)
    (λ (refused : ReopenRefused g.row.B.Denot). refused.fault)
    (g.B.Bay.files c.args.bay) told (λ (now : Standing g.row.B.Denot). now.events)
    (λ (now : Standing g.row.B.Denot) h. StandsFor g.B.Bay.files g.B.Bay.leaves g.B.Faulty.faults now h)
    (λ (now : Standing g.row.B.Denot) (closed : Bool). now.state ≡ if closed then Finished else Running)
    h sound c.reopen_in_order.result (c.reopen_in_order.ensures.told seen told) (c.reopen_in_order.ensures.fails seen told) c.reopen_in_order.ensures.stands
    (ok_on own counted c.reopen_in_order.result (λ now is. is.2) c.reopen_in_order.ensures.own)
    (ok_on own finished c.reopen_in_order.result (λ now is. is.3) c.reopen_in_order.ensures.own)

pub returns-clause-reports : goal.returns-clause-reports
returns-clause-reports g c seen told h sound =
    reports_told g.B.Bay.files g.B.Bay.leaves g.B.Faulty.faults g.B.Faulty.mark c.args.room.settings c.args.cone c.args.bay seen told h sound
    (λ (refused : ReopenRefused g.row.B.Denot). refused.bay) (λ (refused : ReopenRefused g.row.B.Denot). refused.fault ≡ Failed)
    c.reopen_in_order.result (returns-clause-sound_opens g c seen told h sound) c.reopen_in_order.ensures.own c.reopen_in_order.ensures.made c.reopen_in_order.ensures.reads

pub returns-clause-shown : goal.returns-clause-shown
returns-clause-shown g c seen told h more sound =
    shown_told c.args.room.settings c.args.cone seen h more (is_closed sound.logged) c.requires.room.valid sound c.reopen_in_order.result
    (returns-clause-reports g c seen told (h ++ more) sound)
