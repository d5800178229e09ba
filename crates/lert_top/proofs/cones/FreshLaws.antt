-- What one more look at a bay says of all.
use Rattle.std.proofs.{Common.{◌≡◌, ℕ, ◌+◌, ◌<◌, ◌≤◌, List, length, set, Option, Some, slice_get, ap, sym, ◌∙◌, subst, inl, inr, arith}, lemmas.Bool.cases_eq, lemmas.List.length-set}
use Rattle.std.proofs.lemmas.Option.{slice_get_within, same_Some}
use Rattle.lert_bay.specs.Files.{Files, IfTold}
use Rattle.lert_cone.specs.Sound.{AreEmpty}
use Rattle.lert_io.specs.Fault.{HasRisen}
use Rattle.lert_spec.specs.declared.numbers.Numbers.{Numbers}
use Rattle.lert_ingest.specs.{declared.status.Status.TheVariants.{BayFault, NotFresh}, Bays.{AreFresh, AreFreshBelow, AreKept, AreLater, HasFailed, IfHeld, IsLater, IsStale}}
use Rattle.lert_top.specs.cones.Unmade.{IsUnmade, unmade_stale, unmade_failed}
use Rattle.lert_ingest.proofs.{BayLaws.{are_more, later_set, slice_get-set_other, slice_get-set_same}, EachLaws.{kept_more, kept_set, kept_unused}}

-- a look at a bay, behind looks at those below it
pub record IsLooked {B : Type 0} (files : B → Option Files) (faults mark : B → ℕ) (bays now : List B) (cone : ℕ) (old new : B) : Type 0 where
  pub later : AreLater files faults mark bays now
  pub rest : (other : ℕ) → cone ≤ other → slice_get now other ≡ slice_get bays other
  pub found : slice_get now cone ≡ Some old
  pub same : files new ≡ files old
  pub falls : faults old ≤ faults new
  pub marked : mark new ≡ mark old

module _ {B : Type 0} (files : B → Option Files) (faults mark : B → ℕ) (bays now : List B) (cone : ℕ) (old new : B) (at : IsLooked files faults mark bays now cone old new) where
  here : slice_get bays cone ≡ Some old
  here = sym (at.rest cone (omega arith)) ∙ at.found

  call_later : IsLater files faults mark old new
  call_later = record {
    marked = at.marked;
    never_falls = at.falls;
    tells = record { told = λ seen was. (seen, at.same ∙ was, tt); untold = λ was. at.same ∙ was };
  }

  pub looked_later : AreLater files faults mark bays (set now cone new)
  looked_later = are_more files faults mark bays now (set now cone new) at.later (later_set files faults mark now cone old new at.found call_later)

  pub looked_kept : AreKept files bays now → AreKept files bays (set now cone new)
  looked_kept kept = kept_more files bays now (set now cone new) (length-set now cone new) kept (kept_set files now cone old new at.found at.same)

  pub looked_rest : (other : ℕ) → cone + 1 ≤ other → slice_get (set now cone new) other ≡ slice_get bays other
  looked_rest other above = slice_get-set_other now cone other new (λ equal. absurd (omega (arith, above, equal))) ∙ at.rest other (omega (arith, above))

  pub looked_fresh : ((other : ℕ) → other < cone → IfHeld files bays other AreEmpty) → IfTold (files old) AreEmpty → (other : ℕ) → other < cone + 1 →
      IfHeld files bays other AreEmpty
  looked_fresh lower empty other below =
      elim (cases_eq other cone) [
        | inl equal ↦ λ bay there. subst (λ b. IfTold (files b) AreEmpty) (same_Some old bay (sym here ∙ (ap (slice_get bays) (sym equal) ∙ there))) empty
        | inr differs ↦ lower other (omega arith)
      ]

  pub looked_fresh_now : ((other : ℕ) → other < cone → IfHeld files now other AreEmpty) → IfTold (files old) AreEmpty →
      (other : ℕ) → other < cone + 1 → IfHeld files (set now cone new) other AreEmpty
  looked_fresh_now lower empty other below =
      elim (cases_eq other cone) [
        | inl equal ↦ λ bay there seen told.
            let is = same_Some new bay (sym (slice_get-set_same now cone new (slice_get_within now cone old at.found)) ∙ (ap (slice_get (set now cone new)) (sym equal) ∙ there)) in
            empty seen (sym at.same ∙ (ap files is ∙ told))
        | inr differs ↦ λ bay there. lower other (omega arith) bay (sym (slice_get-set_other now cone other new differs) ∙ there)
      ]

  looked_stale : ((other : ℕ) → other < cone → IfHeld files bays other AreEmpty) → IfTold (files old) (λ seen. AreEmpty seen → ⊥) → IsStale files bays cone
  looked_stale lower not_empty = record {
    named = slice_get_within bays cone old here;
    not_empty = λ bay there. subst (λ b. IfTold (files b) (λ seen. AreEmpty seen → ⊥)) (same_Some old bay (sym here ∙ there)) not_empty;
    lower = lower;
  }

  looked_failed : HasRisen (faults old) (faults new) → HasFailed faults bays (set now cone new) cone
  looked_failed rose = record { before = old; now = new; was = here; is = slice_get-set_same now cone new (slice_get_within now cone old at.found); rose = rose }

  -- why no cones are made over the bays
  pub stale_unmade : AreKept files bays now → AreFreshBelow files bays cone → IfTold (files old) (λ seen. AreEmpty seen → ⊥) → (s : Numbers) →
      IsUnmade files faults s bays (set now cone new) (NotFresh cone)
  stale_unmade kept lower not_empty s =
      let all = looked_kept kept in
      unmade_stale cone (looked_stale lower not_empty) (λ bay there seen told. all) (kept_unused files s bays (set now cone new) all)

  pub failed_unmade : AreKept files bays now → AreFreshBelow files bays cone → HasRisen (faults old) (faults new) → (s : Numbers) →
      IsUnmade files faults s bays (set now cone new) (BayFault cone)
  failed_unmade kept lower rose s = unmade_failed cone (looked_failed rose) (inl (record { below = lower; kept = looked_kept kept }))

-- all bays that a look met are all bays
pub looked_all : {B : Type 0} (files : B → Option Files) (bays : List B) (cone : ℕ) → length bays ≤ cone →
    ((other : ℕ) → other < cone → IfHeld files bays other AreEmpty) → AreFresh files bays
looked_all files bays cone all lower = λ other bay there. lower other (omega (arith, slice_get_within bays other bay there, all)) bay there
