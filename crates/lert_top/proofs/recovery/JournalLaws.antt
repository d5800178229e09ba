-- Journals that stay as they were.
use Rattle.std.proofs.Common.{List, [], ◌∷◌, ◌++◌, Option, refl, sym, ◌∙◌, subst, length-append}
use Rattle.lert_bay.specs.Files.{Files}
use Rattle.lert_cone.specs.Stands.{Standing}
use Rattle.lert_recover.specs.Replayed.{IsJournalSame}
use Rattle.lert_ingest.specs.Bays.{bays_of}
use Rattle.lert_ingest.proofs.{BayLaws.bays_of-push, EachLaws.{each_more, each_same, each_seam}}
use Rattle.lert_top.specs.recovery.Recovered.{AreJournalsSame}

journal_still : (told : Option Files) → IsJournalSame told told
journal_still told = record { told = λ old was. (old, was, refl); untold = λ was. was }

journal_joins : (a b c : Option Files) → IsJournalSame a b → IsJournalSame b c → IsJournalSame a c
journal_joins a b c one two = record {
  told = λ old was.
      let mid = one.told old was in
      let last = two.told mid.0 mid.1 in
      (last.0, last.1, last.2 ∙ mid.2);
  untold = λ was. two.untold (one.untold was);
}

module _ {B : Type 0} (files : B → Option Files) where
  pub journals_same : (bays : List B) → AreJournalsSame files bays bays
  journals_same bays = each_same (λ _ before now. IsJournalSame (files before) (files now)) (λ cone bay. journal_still (files bay)) bays

  module _ (bays : List B) (cones : List (Standing B)) (bay : B) (rest : List B) (so_far : AreJournalsSame files bays (bays_of cones ++ bay ∷ rest)) where
    -- the bay at hand is handed back
    pub journals_back : (back : B) → IsJournalSame (files bay) (files back) → AreJournalsSame files bays (bays_of cones ++ back ∷ rest)
    journals_back back one =
        each_more (λ _ before now. IsJournalSame (files before) (files now)) (λ cone a b c. journal_joins (files a) (files b) (files c)) bays (bays_of cones ++ bay ∷ rest)
        (bays_of cones ++ back ∷ rest) (length-append (bays_of cones) (back ∷ rest) ∙ sym (length-append (bays_of cones) (bay ∷ rest))) so_far
        (each_seam (λ _ before now. IsJournalSame (files before) (files now)) (λ cone b. journal_still (files b)) (bays_of cones) bay back rest one)

    -- a cone is opened over it
    pub journals_made : (cone : Standing B) → IsJournalSame (files bay) (files cone.bay) → AreJournalsSame files bays (bays_of (cones ++ cone ∷ []) ++ rest)
    journals_made cone one = subst (AreJournalsSame files bays) (sym (bays_of-push cones cone rest)) (journals_back cone.bay one)
