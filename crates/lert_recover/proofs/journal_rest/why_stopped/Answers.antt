use Rattle.std.proofs.Common.{◌∙◌, inl, inr, refl, sym}
use Rattle.lert_bay.specs.Kept.{Bays, seen_by}
use Rattle.lert_bay.proofs.KeptLaws.{IsLawful, reading_as, reading_none}
use Rattle.lert_recover.proofs.StopLaws.{failed_or_unsound, named_a_place}
use Rattle.lert_recover.proofs.journal_rest.why_stopped.Given as given
use Rattle.lert_recover.proofs.journal_rest.why_stopped.Goals as goal

abbrev bays : (g : given.Over) → Bays g.row.B.Denot
bays g = seen_by g.B.Faulty g.B.Bay

lawful : (g : given.Over) → IsLawful (bays g)
lawful g = record { as_read = g.met.B.Bay.as_read; since_now = g.met.B.Bay.since_now; only_now = g.met.B.Bay.only_now; since_earlier = g.met.B.Bay.since_earlier }

pub find_left-requires : goal.find_left-requires
find_left-requires g c = record { known = c.requires.known; place = c.requires.place; within = c.requires.within; light = c.requires.light; near = c.requires.near }

-- ---- nothing more is read

pub returns-in-Failed : goal.returns-in-Failed
returns-in-Failed g c = record {
  told = λ seen told. rw c.in-Failed.is refl;
  failed = λ is. inl c.in-Failed.is;
  only_reads = reading_none (bays g) (lawful g) c.args.bay.now ⊥ (λ never. never);
  unread = λ is. refl;
}

pub returns-in-Malformed : goal.returns-in-Malformed
returns-in-Malformed g c = record {
  told = λ seen told. rw c.in-Malformed.is refl;
  failed = λ is. absurd (named_a_place _ _ is);
  only_reads = reading_none (bays g) (lawful g) c.args.bay.now ⊥ (λ never. never);
  unread = λ is. refl;
}

-- ---- behind the rest of the journal

pub returns-in-Err : goal.returns-in-Err
returns-in-Err g c = record {
  told = λ seen told. rw c.in-Unsound.is (inl refl);
  failed = λ is. inr (c.in-Err.ensures.only_reads.kept.failed refl);
  only_reads = reading_as (bays g) (lawful g) c.args.bay.now c.find_left.new.bay _ ⊥ (λ never. absurd never) c.in-Err.ensures.only_reads;
  unread = λ is. absurd (failed_or_unsound c.in-Unsound.file c.in-Unsound.at (sym c.in-Unsound.is ∙ is));
}

pub returns-in-Ok-None : goal.returns-in-Ok-None
returns-in-Ok-None g c = record {
  told = λ seen told. rw c.in-Unsound.is (inr (inl (refl, rw c.in-Ok-None.field-0-is at (c.in-Ok-None.ensures.told seen told))));
  failed = λ is. absurd (named_a_place _ _ is);
  only_reads = reading_as (bays g) (lawful g) c.args.bay.now c.find_left.new.bay _ ⊥ (λ never. absurd never) c.in-Ok-None.ensures.only_reads;
  unread = λ is. absurd (failed_or_unsound c.in-Unsound.file c.in-Unsound.at (sym c.in-Unsound.is ∙ is));
}

pub returns-in-Ok-Some : goal.returns-in-Ok-Some
returns-in-Ok-Some g c =
    let place = c.in-Ok-Some.place in
    record {
      told = λ seen told. rw c.in-Unsound.is (inr (inr (place, refl, rw c.in-Ok-Some.field-0-is at (c.in-Ok-Some.ensures.told seen told))));
      failed = λ is. absurd (named_a_place _ _ is);
      only_reads = reading_as (bays g) (lawful g) c.args.bay.now c.find_left.new.bay _ ⊥ (λ never. absurd never) c.in-Ok-Some.ensures.only_reads;
      unread = λ is. absurd (failed_or_unsound c.in-Unsound.file c.in-Unsound.at (sym c.in-Unsound.is ∙ is));
    }
