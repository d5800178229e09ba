use Rattle.lert_bay.specs.Kept.{seen_by}
use Rattle.std.proofs.Common.{◌≡◌, false, Option, ap, refl, sym, ◌∙◌, subst}
use Rattle.lert_cone.proofs.{EndCounted.{not_ended, no_room_left, all_counted}}
use Rattle.lert_bay.proofs.KeptLaws.{IsLawful}
use Rattle.std.specs.Prelude.{Result}
use Rattle.lert_levels.specs.{declared.rows.fault.FlushFault.FlushFault, OnDisk.OnDisk, rows.Young.Young}
use Rattle.lert_cone.specs.{Counts.Scans}
use Rattle.lert_cone.specs.{Due.{Dues, started}, Tally.{Tallied, IsCounted, due_in}}
use Rattle.lert_cone.proofs.tally.Tally.finish.Given as given
use Rattle.lert_cone.proofs.tally.Tally.finish.Goals as goal
use Rattle.std.proofs.Common.{ℕ}

lawful : (g : given.Over) → IsLawful (seen_by g.B.Faulty g.B.Bay)
lawful g = record { as_read = g.met.B.Bay.as_read; since_now = g.met.B.Bay.since_now; only_now = g.met.B.Bay.only_now; since_earlier = g.met.B.Bay.since_earlier }

-- a scan of levels of the cone's version
of_version : (g : given.Over) (levels : OnDisk) {version : ℕ} → levels.version ≡ version → {start due : Dues} {bay after : g.row.B.Denot} {zero : Young} {levels_after : OnDisk} {result : Result
    (Unit {0}) FlushFault} →
    Scans (seen_by g.B.Faulty g.B.Bay) start bay after zero levels levels_after due result →
    Scans (seen_by g.B.Faulty g.B.Bay) start bay after zero (record { settings = levels.settings; version = version; rows = levels.rows }) levels_after due result
of_version g levels {version} is {start} {due} {bay} {after} {zero} {levels_after} {result} scans =
    subst (λ v. Scans (seen_by g.B.Faulty g.B.Bay) start bay after zero (record { settings = levels.settings; version = v; rows = levels.rows }) levels_after due result) is scans

pub returns-in_err-result : goal.returns-in_err-result
returns-in_err-result g c =
    let counted = subst (λ (v : Tallied). IsCounted v) (sym c.self.view_is) c.requires.counted in
    let start_is : c.begin.new.self ≡ started (due_in c.self.inside.due) c.self.inside.len =
    c.begin.ensures.begun ∙ ap (λ (d : Option Dues). started (due_in d) c.self.inside.len) (sym c.in-Some.is ∙ c.take.ensures.value) in
    rw (← c.self.view_is) (not_ended (lawful g) c.self.invariant.levels_settings c.self.invariant.valid c.self.invariant.named counted c.self.invariant.len_is start_is
    c.scan_into-due.result.0 c.args.bay.now c.scan_into-due.new.bay c.scan_into-due.new.levels c.in_err-result.was
    (of_version g c.self.inside.levels c.self.invariant.version c.scan_into-due.ensures) c.from_residual.ensures.1)

pub returns-then-is_full : goal.returns-then-is_full
returns-then-is_full g c =
    let counted = subst (λ (v : Tallied). IsCounted v) (sym c.self.view_is) c.requires.counted in
    let start_is : c.begin.new.self ≡ started (due_in c.self.inside.due) c.self.inside.len =
    c.begin.ensures.begun ∙ ap (λ (d : Option Dues). started (due_in d) c.self.inside.len) (sym c.in-Some.is ∙ c.take.ensures.value) in
    let still : c.self.inside.closed ≡ false = subst (λ (v : Tallied). v.listing.closed ≡ false) (sym c.self.view_is) c.requires.still in
    let scans = of_version g c.self.inside.levels c.self.invariant.version (rw c.in_ok-result.was at c.scan_into-due.ensures) in
    rw (← c.self.view_is) (no_room_left (lawful g) c.self.invariant.levels_settings c.self.invariant.valid c.self.invariant.named counted c.self.invariant.len_is start_is
    c.scan_into-due.result.0 c.args.bay.now c.scan_into-due.new.bay c.scan_into-due.new.levels still scans (sym c.is_full-is_full.ensures.value ∙ c.if-is_full.true)
    (c.is_full-is_full.ensures.full c.if-is_full.true))

pub returns : goal.returns
returns g c =
    let counted = subst (λ (v : Tallied). IsCounted v) (sym c.self.view_is) c.requires.counted in
    let start_is : c.begin.new.self ≡ started (due_in c.self.inside.due) c.self.inside.len =
    c.begin.ensures.begun ∙ ap (λ (d : Option Dues). started (due_in d) c.self.inside.len) (sym c.in-Some.is ∙ c.take.ensures.value) in
    let still : c.self.inside.closed ≡ false = subst (λ (v : Tallied). v.listing.closed ≡ false) (sym c.self.view_is) c.requires.still in
    let scans = of_version g c.self.inside.levels c.self.invariant.version (rw c.in_ok-result.was at c.scan_into-due.ensures) in
    rw (← c.self.view_is) (all_counted (lawful g) c.self.invariant.levels_settings c.self.invariant.valid c.self.invariant.named counted c.self.invariant.len_is start_is
    c.scan_into-due.result.0 c.args.bay.now c.scan_into-due.new.bay c.scan_into-due.new.levels still scans (sym c.is_full-is_full.ensures.value ∙ c.if-is_full.false))

pub scan_into-due-requires-clause-start : goal.scan_into-due-requires-clause-start
scan_into-due-requires-clause-start g c = c.begin.ensures.took

pub scan_into-due-requires-clause-settings : goal.scan_into-due-requires-clause-settings
scan_into-due-requires-clause-settings g c = c.self.invariant.young_settings ∙ sym c.self.invariant.levels_settings

pub invariant_of-self : goal.invariant_of-self
invariant_of-self g c = record {
  valid = c.self.invariant.valid;
  named = c.self.invariant.named;
  young_settings = c.self.invariant.young_settings;
  levels_settings = ap (λ (l : OnDisk). l.settings) c.scan_into-due.ensures.stays ∙ c.self.invariant.levels_settings;
  version = ap (λ (l : OnDisk). l.version) c.scan_into-due.ensures.stays ∙ c.self.invariant.version;
  known = c.self.invariant.known;
  there = refl;
  len_is = c.self.invariant.len_is;
  flush_is = c.self.invariant.flush_is;
}

pub invariant_of-self-2 : goal.invariant_of-self-2
invariant_of-self-2 g c = record {
  valid = c.self.invariant.valid;
  named = c.self.invariant.named;
  young_settings = c.self.invariant.young_settings;
  levels_settings = ap (λ (l : OnDisk). l.settings) c.scan_into-due.ensures.stays ∙ c.self.invariant.levels_settings;
  version = ap (λ (l : OnDisk). l.version) c.scan_into-due.ensures.stays ∙ c.self.invariant.version;
  known = c.self.invariant.known;
  there = refl;
  len_is = c.self.invariant.len_is;
  flush_is = c.self.invariant.flush_is;
}

pub invariant_of-self-then-is_full : goal.invariant_of-self-then-is_full
invariant_of-self-then-is_full g c = record {
  valid = c.self.invariant.valid;
  named = c.self.invariant.named;
  young_settings = c.self.invariant.young_settings;
  levels_settings = ap (λ (l : OnDisk). l.settings) c.scan_into-due.ensures.stays ∙ c.self.invariant.levels_settings;
  version = ap (λ (l : OnDisk). l.version) c.scan_into-due.ensures.stays ∙ c.self.invariant.version;
  known = c.self.invariant.known;
  there = refl;
  len_is = c.self.invariant.len_is;
  flush_is = c.self.invariant.flush_is;
}
