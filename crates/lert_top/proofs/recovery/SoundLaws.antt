-- Files that stay sound for each list for which they were.
use Rattle.std.proofs.{Common.{ℕ, List, [], ◌∷◌, ◌++◌, length, Option, sym, ap, ◌∙◌, subst, length-append}, lemmas.List.length-map}
use Rattle.lert_base.specs.Packet.{Packet}
use Rattle.lert_bay.specs.Files.{Files, IfTold}
use Rattle.lert_cone.specs.{Sound.IsSound, Stands.{Standing, is_broken}}
use Rattle.lert_recover.specs.Replayed.{IsJournalSame}
use Rattle.lert_spec.specs.declared.numbers.Numbers.{Numbers}
use Rattle.lert_ingest.specs.Bays.{bays_of}
use Rattle.lert_ingest.proofs.{BayLaws.bays_of-push, EachLaws.{each_more, each_same, each_seam}}
use Rattle.lert_top.specs.recovery.Recovered.{AreSoundStill, IsOpenOver, IsSoundStill}
use Rattle.lert_top.proofs.recovery.RecoverLaws.{open_is}

module _ {B : Type 0} (files : B → Option Files) where
  -- a bay that is told where it was, and sound where it is told
  pub stays_by : (s : Numbers) (cone : ℕ) (bay back : B) → IsJournalSame (files bay) (files back) →
      IfTold (files bay) (λ seen. (history : List Packet) → IsSound s cone history seen → IfTold (files back) (IsSound s cone history)) →
      IsSoundStill files s cone bay back
  stays_by s cone bay back same keeps = λ seen told history sound.
      let now = same.told seen told in
      (now.0, now.1, keeps seen told history sound now.0 now.1)

  -- that of a cone which was opened over it
  pub stays_open : (leaves : B → Files → Type 0) (faults : B → ℕ) (s : Numbers) (cone : ℕ) (bay : B) (made : Standing B) →
      IsOpenOver files leaves faults s cone bay made → IsJournalSame (files bay) (files made.bay) → IsSoundStill files s cone bay made.bay
  stays_open leaves faults s cone bay made opened same =
      stays_by s cone bay made.bay same (λ seen told history sound now now_told.
      let all = opened.sound seen told history sound in
      let unbroken = ap is_broken opened.state_is ∙ open_is made.listing.closed in
      let whole = all.0.whole unbroken all.1 now now_told in
      subst (λ (t : Numbers). IsSound t cone history now) opened.settings_are (subst (λ n. IsSound made.listing.settings n history now) opened.number_is whole.files.kept.as_read.sound))

  module _ (s : Numbers) where
    still : (cone : ℕ) (bay : B) → IsSoundStill files s cone bay bay
    still cone bay = λ seen told history sound. (seen, told, sound)

    joins : (cone : ℕ) (a b c : B) → IsSoundStill files s cone a b → IsSoundStill files s cone b c → IsSoundStill files s cone a c
    joins cone a b c one two = λ seen told history sound.
        let mid = one seen told history sound in
        two mid.0 mid.1 history mid.2

    pub sound_same : (bays : List B) → AreSoundStill files s bays bays
    sound_same bays = each_same (IsSoundStill files s) still bays

    module _ (bays : List B) (cones : List (Standing B)) (bay : B) (rest : List B) (so_far : AreSoundStill files s bays (bays_of cones ++ bay ∷ rest)) where
      -- the bay at hand is handed back
      pub sound_back : (back : B) → IsSoundStill files s (length cones) bay back → AreSoundStill files s bays (bays_of cones ++ back ∷ rest)
      sound_back back one =
          let number = sym (length-map cones (λ (c : Standing B). c.bay)) in
          each_more (IsSoundStill files s) joins bays (bays_of cones ++ bay ∷ rest) (bays_of cones ++ back ∷ rest)
          (length-append (bays_of cones) (back ∷ rest) ∙ sym (length-append (bays_of cones) (bay ∷ rest))) so_far
          (each_seam (IsSoundStill files s) still (bays_of cones) bay back rest (subst (λ k. IsSoundStill files s k bay back) number one))

      -- a cone is opened over it
      pub sound_made : (cone : Standing B) → IsSoundStill files s (length cones) bay cone.bay → AreSoundStill files s bays (bays_of (cones ++ cone ∷ []) ++ rest)
      sound_made cone one = subst (AreSoundStill files s bays) (sym (bays_of-push cones cone rest)) (sound_back cone.bay one)
