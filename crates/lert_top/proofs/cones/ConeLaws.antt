-- Cones that are made over bays one by one.
use Rattle.std.proofs.{Common.{◌≡◌, ℕ, ◌+◌, ◌<◌, ◌≤◌, List, [], ◌∷◌, ◌++◌, length, get_or, Option, Some, slice_get, refl, ap, sym, ◌∙◌, subst, inl, inr, arith, length-append}, lemmas.Bool.cases_eq}
use Rattle.std.proofs.{lemmas.List.length-map, lemmas.Option.{slice_get-get_or, slice_get_within, same_Some}}
use Rattle.lert_bay.specs.Files.{Files, IfTold, Turns}
use Rattle.lert_cone.specs.{Sound.{AreEmpty, FramesStay}, Stands.Standing, declared.refusal.CreateFault.CreateFault}
use Rattle.lert_cone.specs.declared.refusal.CreateFault.TheVariants as create_fault
use Rattle.lert_io.specs.Fault.{HasRisen}
use Rattle.lert_spec.specs.declared.numbers.Numbers.{Numbers}
use Rattle.lert_ingest.specs.{Bays.{AreFresh, AreKept, AreLater, AreUnused, AreUnusedBut, IsLater, IsUnused, bays_of}, Cones.IsNew, Status.create_status, declared.status.Status.Status}
use Rattle.lert_top.specs.cones.Unmade.{IsUnmade, unmade_stale, unmade_failed, unmade_memory}
use Rattle.lert_ingest.proofs.BayLaws.{are_more, bays_of-push, failed_since, later_seam, slice_get-first, slice_get-seam, slice_get-some}
use Rattle.lert_ingest.proofs.EachLaws.{but_more, each_seam, kept_more, kept_refused, kept_unused, new_unused, unused_all, unused_more}

-- a fact of each item and its place, with one item more behind the list
pub each-push : {X : Type 0} (P : ℕ → X → Type 0) (xs : List X) (y : X) → ((k : ℕ) (x : X) → slice_get xs k ≡ Some x → P k x) → P (length xs) y →
    (k : ℕ) (x : X) → slice_get (xs ++ y ∷ []) k ≡ Some x → P k x
each-push P xs y each last k x is =
    elim (cases_eq k (length xs)) [
      | inl same ↦
          let there : y ≡ x = same_Some y x (sym (slice_get-seam xs y []) ∙ (ap (slice_get (xs ++ y ∷ [])) (sym same) ∙ is)) in
          subst (λ n. P n x) (sym same) (subst (P (length xs)) there last)
      | inr other ↦
          let below : k < length xs = omega (arith, slice_get_within (xs ++ y ∷ []) k x is, length-append xs (y ∷ []), other) in
          each k x (sym (slice_get-first xs (y ∷ []) k below) ∙ is)
    ]

-- a list without an item
pub none_left : {X : Type 0} (xs : List X) → length xs ≡ 0 → xs ≡ []
none_left [] none = refl
none_left (x ∷ xs) none = absurd (omega (arith, none))

module _ {B : Type 0} (files : B → Option Files) (faults mark : B → ℕ) where
  -- cones and the bays that are left are as many as the bays before
  pub cones_and_left : (bays : List B) (cones : List (Standing B)) (rest : List B) → AreLater files faults mark bays (bays_of cones ++ rest) → length cones + length rest ≡ length bays
  cones_and_left bays cones rest later = omega (arith, later.number, length-append (bays_of cones) rest, length-map cones (λ (c : Standing B). c.bay))

  -- what a call of a bay leaves
  pub call_later : (old new : B) → mark new ≡ mark old → faults old ≤ faults new → {step : Files → Files → Type 0} → Turns step (files old) (files new) →
      IsLater files faults mark old new
  call_later old new marked falls turns = record {
    marked = marked;
    never_falls = falls;
    tells = record { told = λ seen was. let x = turns.told seen was in (x.0, x.1, tt); untold = turns.untold };
  }

  module _ (bays front : List B) (bay : B) (rest : List B) (cones : List (Standing B)) (split : front ++ bay ∷ rest ≡ bays) (length_is : length front ≡ length cones)
      (later : AreLater files faults mark bays (bays_of cones ++ bay ∷ rest)) where
    -- the bay at hand is the next one
    pub bay_there : slice_get bays (length cones) ≡ Some bay
    bay_there = ap (slice_get bays) (sym length_is) ∙ (ap (λ xs. slice_get xs (length front)) (sym split) ∙ slice_get-seam front bay rest)

    -- a cone is made over it
    pub made_later : (cone : Standing B) → IsLater files faults mark bay cone.bay → AreLater files faults mark bays (bays_of (cones ++ cone ∷ []) ++ rest)
    made_later cone one = are_more files faults mark bays (bays_of cones ++ bay ∷ rest) (bays_of (cones ++ cone ∷ []) ++ rest) later
        (subst (AreLater files faults mark (bays_of cones ++ bay ∷ rest)) (sym (bays_of-push cones cone rest)) (later_seam files faults mark (bays_of cones) bay cone.bay rest one))

    -- it's handed back
    pub back_later : (back : B) → IsLater files faults mark bay back → AreLater files faults mark bays (bays_of cones ++ back ∷ rest)
    back_later back one = are_more files faults mark bays (bays_of cones ++ bay ∷ rest) (bays_of cones ++ back ∷ rest) later (later_seam files faults mark (bays_of cones) bay back rest one)

    module _ (s : Numbers) (unused : AreUnused files s bays (bays_of cones ++ bay ∷ rest)) where
      at_bay : length (bays_of cones) ≡ length cones
      at_bay = length-map cones (λ (c : Standing B). c.bay)

      as_many : (other : B) → length (bays_of cones ++ other ∷ rest) ≡ length (bays_of cones ++ bay ∷ rest)
      as_many other = length-append (bays_of cones) (other ∷ rest) ∙ sym (length-append (bays_of cones) (bay ∷ rest))

      -- a cone is made over it
      pub made_unused : (leaves : B → Files → Type 0) (cone : Standing B) → IfTold (files bay) AreEmpty → IsNew files leaves faults s (length cones) cone →
          AreUnused files s bays (bays_of (cones ++ cone ∷ []) ++ rest)
      made_unused leaves cone empty new =
          let here = subst (λ k. IsUnused files s k bay cone.bay) (sym at_bay) (new_unused files s leaves faults (length cones) bay cone empty new) in
          subst (AreUnused files s bays) (sym (bays_of-push cones cone rest))
          (unused_more files s bays (bays_of cones ++ bay ∷ rest) (bays_of cones ++ cone.bay ∷ rest) (as_many cone.bay) unused
          (each_seam (IsUnused files s) (λ k b. inl refl) (bays_of cones) bay cone.bay rest here))

      -- it's handed back
      back_unused : (broke : ℕ → Type 0) (back : B) → ((broke (length cones) → ⊥) → IsUnused files s (length cones) bay back) →
          AreUnusedBut files s broke bays (bays_of cones ++ back ∷ rest)
      back_unused broke back here =
          but_more files s broke bays (bays_of cones ++ bay ∷ rest) (bays_of cones ++ back ∷ rest) (as_many back) unused
          (each_seam (λ k a b. (broke k → ⊥) → IsUnused files s k a b) (λ k b not. inl refl) (bays_of cones) bay back rest
          (subst (λ k. (broke k → ⊥) → IsUnused files s k bay back) (sym at_bay) here))

      back_there : (back : B) → slice_get (bays_of cones ++ back ∷ rest) (length cones) ≡ Some back
      back_there back = ap (slice_get (bays_of cones ++ back ∷ rest)) (sym at_bay) ∙ slice_get-seam (bays_of cones) back rest

      pub unmade_by : (back : B) (fault : CreateFault) → AreFresh files bays → Turns FramesStay (files bay) (files back) →
          IfTold (files bay) (λ seen. fault ≡ create_fault.NotFresh → AreEmpty seen → ⊥) → (fault ≡ create_fault.Failed → HasRisen (faults bay) (faults back)) →
          IsUnmade files faults s bays (bays_of cones ++ back ∷ rest) (create_status (length cones) fault)
      unmade_by back create_fault.Failed fresh turns stale failed =
          unmade_failed (length cones) (record { before = bay; now = back; was = bay_there; is = back_there back; rose = failed refl }) (inr (record {
            fresh = fresh;
            frames = λ before now was is.
                subst (λ x. Turns FramesStay (files x) (files now)) (same_Some bay before (sym bay_there ∙ was))
                (subst (λ y. Turns FramesStay (files bay) (files y)) (same_Some back now (sym (back_there back) ∙ is)) turns);
            others = back_unused (λ other. other ≡ length cones) back (λ not. absurd (not refl));
          }))
      unmade_by back create_fault.NotFresh fresh turns stale failed =
          let untold : IfTold (files bay) (λ _. ⊥) = λ seen told. stale seen told refl (fresh (length cones) bay bay_there seen told) in
          unmade_stale (length cones) (record {
            named = slice_get_within bays (length cones) bay bay_there;
            not_empty = λ other there seen told empty. untold seen (ap files (same_Some bay other (sym bay_there ∙ there)) ∙ told);
            lower = λ other below. fresh other;
          }) (λ other there seen told. absurd (untold seen (ap files (same_Some bay other (sym bay_there ∙ there)) ∙ told)))
          (unused_all files s (λ _. ⊥) bays (bays_of cones ++ back ∷ rest) (λ k none. none) (back_unused (λ _. ⊥) back (λ not. inl (kept_refused files bay back turns untold))))

  -- why cones weren't made over bays says it of these bays earlier, which had the same files, and no byte in them as far as they tell
  pub unmade_since : (s : Numbers) (first then now : List B) → AreLater files faults mark first then → AreLater files faults mark then now → AreKept files first then →
      AreFresh files first → AreFresh files then → (status : Status) → IsUnmade files faults s then now status → IsUnmade files faults s first now status
  unmade_since s first then now one two kept fresh fresh_then status (unmade_stale cone stale same unused) =
      let clash : (bay : B) (seen : Files) → slice_get first cone ≡ Some bay → files bay ≡ Some seen → ⊥ = λ bay seen there told.
      let mid = slice_get-get_or then cone bay stale.named in
      let told_mid = kept cone bay (get_or then cone bay) there mid ∙ told in
      stale.not_empty (get_or then cone bay) mid seen told_mid (fresh_then cone (get_or then cone bay) mid seen told_mid) in
      unmade_stale cone (record { named = omega (arith, stale.named, one.number); not_empty = λ bay there seen told empty. clash bay seen there told; lower = λ other below. fresh other })
      (λ bay there seen told. absurd (clash bay seen there told)) (unused_more files s first then now two.number (kept_unused files s first then kept) unused)
  unmade_since s first then now one two kept fresh fresh_then status (unmade_failed cone risen early) = unmade_failed cone (failed_since files faults mark first then now cone one two risen)
      (elim early [
        | inl unasked ↦ inl (record { below = λ other below. fresh other; kept = kept_more files first then now two.number kept unasked.kept })
        | inr unheaded ↦ inr (record {
          fresh = fresh;
          frames = λ before after was is.
              let mid = slice_get-some then cone (omega (arith, slice_get_within now cone after is, two.number)) in
              subst (λ f. Turns FramesStay f (files after)) (kept cone before mid.0 was mid.1) (unheaded.frames mid.0 after mid.1 is);
          others = but_more files s (λ other. other ≡ cone) first then now two.number (kept_unused files s first then kept) unheaded.others;
        })
      ])
  unmade_since s first then now one two kept fresh fresh_then status (unmade_memory unused) =
      unmade_memory (unused_more files s first then now two.number (kept_unused files s first then kept) unused)
