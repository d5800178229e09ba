use Rattle.std.proofs.{Common.{◌≡◌, ◌+◌, ◌∙◌, [], get_or, map, subst, arith}, lemmas.List.take_all, lemmas.Result.err_from_is_err_and}
use Rattle.lert_bay.specs.declared.bay.TheConstants.{FRAMES}
use Rattle.lert_bay.proofs.KeptLaws.{IsLawful, reads_none, reads_on, reads_as}
use Rattle.lert_frames.proofs.{FaultLaws.not_err, WriteLaws.same_err}
use Rattle.lert_spec.specs.declared.numbers.Numbers.{Numbers}
use Rattle.lert_levels.specs.{rows.Loading.RowBreaks, rows.Rows.IsRow, Sources.{of_bin, placed_at, AllOf, IsSecure, AreSecure}}
use Rattle.lert_levels.proofs.{rows.ReadLaws.{row_here, hand_from}, PlacedLaws.rows_more}
use Rattle.lert_levels.proofs.secure.secure_levels.Given as given
use Rattle.lert_levels.proofs.{secure.secure_levels.Invariants.bays, secure.secure_levels.Goals.After-bins}
use Rattle.lert_levels.proofs.secure.secure_levels.Goals as goal

lawful : (g : given.Over) → IsLawful (bays g)
lawful g = record { as_read = g.met.B.Bay.as_read; since_now = g.met.B.Bay.since_now; only_now = g.met.B.Bay.only_now; since_earlier = g.met.B.Bay.since_earlier }

-- the row that is read
here : (g : given.Over) (c : After-bins g) → get_or c.args.rows.now c.loop-lower.lower [] ≡ c.bins.result.now
here g c = row_here c.args.rows.now c.loop-lower.lower c.index-rows-lower.result c.bins.result.now c.loop-lower-test.true c.index-rows-lower.is c.bins.ensures.bins

pub bounds-rows-lower : goal.bounds-rows-lower
bounds-rows-lower g c = c.loop-lower-test.true

pub secure_row-requires : goal.secure_row-requires
secure_row-requires g c =
    let i = c.loop-lower.lower in
    rw c.loop-lower.invariant.room (record {
      version = c.requires.version;
      first = omega arith;
      last = omega (arith, c.requires.rows.few, c.loop-lower-test.true);
      row = subst (IsRow c.args.settings.now (i + 1)) (here g (goal.at.secure_row-requires g c).After-bins) (c.requires.rows.each i c.loop-lower-test.true);
    })

pub loop-lower-init : goal.loop-lower-init
loop-lower-init g c = record { secure = λ seen told long. tt; room = c.requires.same; only_reads = reads_none (bays g) (lawful g) c.args.bay.now ⊥ (λ none. none) }

pub loop-lower-preserved : goal.loop-lower-preserved
loop-lower-preserved g c =
    let i = c.loop-lower.lower in
    let s = c.args.settings.now in
    let now = c.bins.result.now in
    let is = c.loop-lower.invariant in
    let e = c.in_ok-secure_row.ensures in
    record {
      secure = λ seen told long.
          rows_more (IsSecure s c.args.version (seen FRAMES)) c.args.rows.now i now (here g (goal.at.loop-lower-preserved g c).After-bins) c.loop-lower-test.true (is.secure seen told long)
          (subst (λ (t : Numbers). AllOf (IsSecure t c.args.version (seen FRAMES)) (map of_bin (map (placed_at (i + 1)) now))) is.room (e.secure seen (is.only_reads.seen ∙ told) long));
      room = e.room ∙ is.room;
      only_reads = reads_on (bays g) (lawful g) c.args.bay.now c.loop-lower.bay c.secure_row.new.bay ⊥ ⊥ is.only_reads
          (reads_as (bays g) (lawful g) c.loop-lower.bay c.secure_row.new.bay _ ⊥ (λ none. absurd none) e.only_reads);
    }

pub returns : goal.returns
returns g c =
    let is = c.loop-lower.invariant in
    record {
      secure = λ seen told long. subst (AreSecure c.args.settings.now c.args.version (seen FRAMES) 1) (take_all c.loop-lower.lower c.args.rows.now c.loop-lower-test.false) (is.secure seen told long);
      malformed = λ seen told at broken. absurd (not_err _ _ broken);
      room = is.room;
      only_reads = reads_as (bays g) (lawful g) c.args.bay.now c.loop-lower.bay ⊥ _ (λ failed. not_err _ _ failed) is.only_reads;
    }

pub returns-in_err-secure_row : goal.returns-in_err-secure_row
returns-in_err-secure_row g c =
    let i = c.loop-lower.lower in
    let now = c.bins.result.now in
    let p = err_from_is_err_and c.from_residual.result c.from_residual.ensures.1 in
    let is = c.loop-lower.invariant in
    let e = c.in_err-secure_row.ensures in
    rw (p.1, p.2) (record {
      secure = λ seen told long. tt;
      malformed = λ seen told at broken. record {
        number = i;
        within = c.loop-lower-test.true;
        breaks = hand_from (λ t row. RowBreaks t c.args.version (i + 1) row (seen FRAMES) at) c.args.settings.now _ c.args.rows.now i now
            (here g (goal.at.returns-in_err-secure_row g c).After-bins) is.room
            (e.malformed seen (is.only_reads.seen ∙ told) at (same_err _ _ broken));
      };
      room = e.room ∙ is.room;
      only_reads = reads_as (bays g) (lawful g) c.args.bay.now c.secure_row.new.bay _ _ (λ failed. same_err _ _ failed)
          (reads_on (bays g) (lawful g) c.args.bay.now c.loop-lower.bay c.secure_row.new.bay ⊥ _ is.only_reads e.only_reads);
    })
