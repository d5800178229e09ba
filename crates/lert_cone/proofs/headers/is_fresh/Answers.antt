use Rattle.std.proofs.{Common.{◌≡◌, ◌∙◌, false, true, ap, refl, sym}, lemmas.Bool.false≢true}
use Rattle.std.specs.Result.{is_err}
use Rattle.lert_bay.specs.Kept.{OnlyReads, Bays, seen_by}
use Rattle.lert_bay.proofs.KeptLaws.{IsLawful, reads_as, reads_on}
use Rattle.lert_cone.proofs.headers.is_fresh.Given as given
use Rattle.lert_cone.proofs.headers.is_fresh.Goals as goal

abbrev bays : (g : given.Over) → Bays g.row.B.Denot
bays g = seen_by g.B.Faulty g.B.Bay

lawful : (g : given.Over) → IsLawful (bays g)
lawful g = record { as_read = g.met.B.Bay.as_read; since_now = g.met.B.Bay.since_now; only_now = g.met.B.Bay.only_now; since_earlier = g.met.B.Bay.since_earlier }

-- behind two looks and behind three
both : (g : given.Over) (before one two : g.row.B.Denot) (First Second : Type 0) →
    OnlyReads (bays g) before one First → OnlyReads (bays g) one two Second → OnlyReads (bays g) before two Second
both g before one two First Second = reads_on (bays g) (lawful g) before one two First Second

all : (g : given.Over) (before one two three : g.row.B.Denot) (First Second Third : Type 0) →
    OnlyReads (bays g) before one First → OnlyReads (bays g) one two Second → OnlyReads (bays g) two three Third → OnlyReads (bays g) before three Third
all g before one two three First Second Third is then last = both g before two three Second Third (both g before one two First Second is then) last

-- where the answer is no fault
well : (g : given.Over) (before after : g.row.B.Denot) (First : Type 0) → OnlyReads (bays g) before after First → OnlyReads (bays g) before after (false ≡ true)
well g before after First one = reads_as (bays g) (lawful g) before after First _ (λ failed. absurd (false≢true failed)) one

pub returns-in_err-is_empty-clause-only_reads : goal.returns-in_err-is_empty-clause-only_reads
returns-in_err-is_empty-clause-only_reads g c =
    reads_as (bays g) (lawful g) c.args.bay.now c.is_empty.new.bay _ _ (λ _. ap is_err c.in_err-is_empty.was) c.is_empty.ensures.only_reads

pub returns-in_err-is_empty-2-clause-only_reads : goal.returns-in_err-is_empty-2-clause-only_reads
returns-in_err-is_empty-2-clause-only_reads g c =
    reads_as (bays g) (lawful g) c.args.bay.now c.is_empty-2.new.bay _ _ (λ _. ap is_err c.in_err-is_empty-2.was)
    (both g _ _ _ _ _ c.is_empty.ensures.only_reads c.is_empty-2.ensures.only_reads)

pub returns-in_err-is_empty-3-clause-only_reads : goal.returns-in_err-is_empty-3-clause-only_reads
returns-in_err-is_empty-3-clause-only_reads g c =
    reads_as (bays g) (lawful g) c.args.bay.now c.is_empty-3.new.bay _ _ (λ _. ap is_err c.in_err-is_empty-3.was)
    (all g _ _ _ _ _ _ _ c.is_empty.ensures.only_reads c.is_empty-2.ensures.only_reads c.is_empty-3.ensures.only_reads)

pub returns-then-not-branch : goal.returns-then-not-branch
returns-then-not-branch g c = record {
  fresh = λ seen told. (
    (λ never. absurd (false≢true never)),
    (λ empty. absurd (false≢true (sym c.if-not-branch.true ∙ (c.in_ok-is_empty.ensures.told seen told).1 empty.journal))),
  );
  only_reads = well g _ _ _ c.is_empty.ensures.only_reads;
}

pub returns-then-not-branch-2 : goal.returns-then-not-branch-2
returns-then-not-branch-2 g c = record {
  fresh = λ seen told. (
    (λ never. absurd (false≢true never)),
    (λ empty. absurd (false≢true (sym c.if-not-branch-2.true ∙ (c.in_ok-is_empty-2.ensures.told seen (c.is_empty.ensures.only_reads.seen ∙ told)).1 empty.log))),
  );
  only_reads = well g _ _ _ (both g _ _ _ _ _ c.is_empty.ensures.only_reads c.is_empty-2.ensures.only_reads);
}

pub returns-then-not-branch-3 : goal.returns-then-not-branch-3
returns-then-not-branch-3 g c =
    let one = c.is_empty.ensures.only_reads in
    let two = c.is_empty-2.ensures.only_reads in
    record {
      fresh = λ seen told. (
        (λ never. absurd (false≢true never)),
        (λ empty. absurd (false≢true (sym c.if-not-branch-3.true ∙ (c.in_ok-is_empty-3.ensures.told seen (two.seen ∙ (one.seen ∙ told))).1 empty.frames))),
      );
      only_reads = well g _ _ _ (all g _ _ _ _ _ _ _ one two c.is_empty-3.ensures.only_reads);
    }

pub returns : goal.returns
returns g c =
    let one = c.is_empty.ensures.only_reads in
    let two = c.is_empty-2.ensures.only_reads in
    record {
      fresh = λ seen told. (
        (λ all. record {
          journal = (c.in_ok-is_empty.ensures.told seen told).0 c.if-not-branch.false;
          log = (c.in_ok-is_empty-2.ensures.told seen (one.seen ∙ told)).0 c.if-not-branch-2.false;
          frames = (c.in_ok-is_empty-3.ensures.told seen (two.seen ∙ (one.seen ∙ told))).0 c.if-not-branch-3.false;
        }),
        (λ empty. refl),
      );
      only_reads = well g _ _ _ (all g _ _ _ _ _ _ _ one two c.is_empty-3.ensures.only_reads);
    }
