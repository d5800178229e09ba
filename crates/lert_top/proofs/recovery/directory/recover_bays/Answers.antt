use Rattle.std.proofs.{Common.{◌≡◌, ℕ, ◌≤◌, ◌++◌, List, length, map, Some, refl, ap, sym, ◌∙◌, subst, arith, append-nil}, Math.Pow.pow_mono}
use Rattle.lert_cone.specs.Stands.{Standing}
use Rattle.lert_spec.specs.{declared.numbers.Numbers.Numbers, Lines.lines}
use Rattle.lert_ingest.specs.Bays.{bays_of}
use Rattle.lert_text.specs.Page.{IsCut}
use Rattle.lert_top.specs.{cones.Print.{ArePrintable, printed_as}, recovery.Recovered.{AreRecovered, printed, printed_partly, unopened, unopened_memory}, recovery.Moments.AreReread}
use Rattle.lert_top.proofs.{recovery.RecoverLaws.{all_formed, open_printable, open_recovered}, recovery.MomentLaws.reread_same}
use Rattle.lert_bay.specs.Kept.{Bays, seen_by}
use Rattle.lert_bay.proofs.KeptLaws.{IsLawful}
use Rattle.lert_top.proofs.recovery.directory.recover_bays.Given as given
use Rattle.lert_top.proofs.recovery.directory.recover_bays.Goals as goal

abbrev bays_in : (g : given.Over) → Bays g.row.B.Denot
bays_in g = seen_by g.B.Faulty g.B.Bay

lawful : (g : given.Over) → IsLawful (bays_in g)
lawful g = record { as_read = g.met.B.Bay.as_read; since_now = g.met.B.Bay.since_now; only_now = g.met.B.Bay.only_now; since_earlier = g.met.B.Bay.since_earlier }

few_bits : (known bits : ℕ) → known ≡ bits → known ≤ 8 → bits ≤ 8
few_bits known bits same few = omega (arith, same, few)

pub returns-in-Err-reopen_cones : goal.returns-in-Err-reopen_cones
returns-in-Err-reopen_cones g c = record {
  reread = c.in-Err-reopen_cones.ensures.reread_kept;
  shows = unopened c.in-Err-reopen_cones.ensures.unopened refl;
}

pub print_cones-printed-requires-clause-few : goal.print_cones-printed-requires-clause-few
print_cones-printed-requires-clause-few g c =
    let bits = ap (λ (s : Numbers). s.cone_bits) c.numbers-valid.ensures.value in
    omega (
      arith,
      ap (λ (xs : List (Standing g.row.B.Denot)). length xs) c.as_slice.ensures.value,
      c.in-Ok-reopen_cones.ensures.number,
      pow_mono (few_bits c.numbers-valid.result.cone_bits c.args.settings.now.cone_bits bits c.numbers-valid.ensures.valid.limits.cone_bits_to),
    )

pub print_cones-printed-requires-clause-printable : goal.print_cones-printed-requires-clause-printable
print_cones-printed-requires-clause-printable g c =
    let cones = c.in-Ok-reopen_cones.cones.items in
    let number : length cones ≡ length c.args.bays.now.items = omega (arith, c.in-Ok-reopen_cones.ensures.number, c.requires.number) in
    subst (ArePrintable c.args.settings.now) (sym c.as_slice.ensures.value)
    (open_printable g.B.Bay.files g.B.Bay.leaves g.B.Faulty.faults g.B.Faulty.mark c.args.settings.now c.args.bays.now.items cones c.in-Ok-reopen_cones.ensures.open number
    c.in-Ok-reopen_cones.ensures.reread.later)

pub returns-in-Ok-printed : goal.returns-in-Ok-printed
returns-in-Ok-printed g c =
    let cones = c.in-Ok-reopen_cones.cones.items in
    let back = c.bring_back.ensures.bays ∙ (ap (λ xs. bays_of cones ++ xs) c.in-Ok-reopen_cones.ensures.emptied ∙ append-nil (bays_of cones)) in
    record {
      reread = subst (AreReread (bays_in g) c.args.settings.now c.args.bays.now.items) (sym back) c.in-Ok-reopen_cones.ensures.reread;
      shows =
          let s = c.args.settings.now in
          let bays = c.args.bays.now.items in
          let number : length cones ≡ length bays = omega (arith, c.in-Ok-reopen_cones.ensures.number, c.requires.number) in
          printed (all_formed g.B.Bay.files g.B.Bay.leaves g.B.Faulty.faults g.B.Faulty.mark s bays cones c.in-Ok-reopen_cones.ensures.open number c.in-Ok-reopen_cones.ensures.reread.later)
          (map printed_as cones) (subst (λ (xs : List g.row.B.Denot). AreRecovered g.B.Bay.files s bays xs (map printed_as cones)) (sym back)
          (open_recovered g.B.Bay.files g.B.Bay.leaves g.B.Faulty.faults g.B.Faulty.mark s bays cones c.in-Ok-reopen_cones.ensures.open number c.in-Ok-reopen_cones.ensures.reread.later
          c.requires.number)) (λ text had. c.in-Ok-printed.ensures.ok text had ∙ ap (λ (xs : List (Standing g.row.B.Denot)). Some (text ++ lines (map printed_as xs))) c.as_slice.ensures.value);
    }

pub returns : goal.returns
returns g c =
    let cones = c.in-Ok-reopen_cones.cones.items in
    let back = c.bring_back.ensures.bays ∙ (ap (λ xs. bays_of cones ++ xs) c.in-Ok-reopen_cones.ensures.emptied ∙ append-nil (bays_of cones)) in
    record {
      reread = subst (AreReread (bays_in g) c.args.settings.now c.args.bays.now.items) (sym back) c.in-Ok-reopen_cones.ensures.reread;
      shows =
          let s = c.args.settings.now in
          let bays = c.args.bays.now.items in
          let number : length cones ≡ length bays = omega (arith, c.in-Ok-reopen_cones.ensures.number, c.requires.number) in
          printed_partly (all_formed g.B.Bay.files g.B.Bay.leaves g.B.Faulty.faults g.B.Faulty.mark s bays cones c.in-Ok-reopen_cones.ensures.open number c.in-Ok-reopen_cones.ensures.reread.later)
          (map printed_as cones) (subst (λ (xs : List g.row.B.Denot). AreRecovered g.B.Bay.files s bays xs (map printed_as cones)) (sym back)
          (open_recovered g.B.Bay.files g.B.Bay.leaves g.B.Faulty.faults g.B.Faulty.mark s bays cones c.in-Ok-reopen_cones.ensures.open number c.in-Ok-reopen_cones.ensures.reread.later
          c.requires.number)) (c.in-Err-printed.ensures.cause.failed refl)
          (subst (λ (xs : List (Standing g.row.B.Denot)). IsCut (g.K.Sink.taken c.args.out.now) (g.K.Sink.taken c.print_cones-printed.new.out) (lines (map printed_as xs))) c.as_slice.ensures.value
          c.in-Err-printed.ensures.cut);
    }

pub reopen_cones-requires : goal.reopen_cones-requires
reopen_cones-requires g c = record { number = c.requires.number; room = c.requires.room }

pub returns-in-Err : goal.returns-in-Err
returns-in-Err g c = record {
  reread = reread_same (bays_in g) (lawful g) c.args.settings.now c.args.bays.now.items;
  shows = unopened (unopened_memory refl) refl;
}

pub bring_back-requires : goal.bring_back-requires
bring_back-requires g c =
    omega (arith, c.in-Ok-reopen_cones.ensures.number, c.requires.number, c.requires.room, ap length c.in-Ok-reopen_cones.ensures.emptied, c.reopen_cones.ensures.room)
