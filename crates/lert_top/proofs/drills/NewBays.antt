-- Bays in memory that were just made have empty files, and tell them.
use Rattle.std.proofs.{Common.{◌≡◌, List, Some, refl, ap, sym, ◌∙◌}, lemmas.Option.{get_or_from_slice_get, slice_get_within}}
use Rattle.std.specs.Prelude.{All}
use Rattle.lert_bay.specs.Memory.{Disk, seen_of}
use Rattle.lert_top.specs.drills.Dealt.{new_bay}
use Rattle.lert_ingest.specs.Bays.{AreToldFresh}

pub fresh_bays : (bays : List Disk) → All (λ bay. bay ≡ new_bay) bays → AreToldFresh (λ bay. Some (seen_of bay.files)) bays
fresh_bays bays are cone bay is =
    let new : bay ≡ new_bay = sym (get_or_from_slice_get bays cone bay new_bay is) ∙ are cone new_bay (slice_get_within bays cone bay is) in
    let files = ap (λ (d : Disk). d.files) new in
    (seen_of bay.files, refl, record { journal = ap (λ fs. seen_of fs 0) files; log = ap (λ fs. seen_of fs 1) files; frames = ap (λ fs. seen_of fs 2) files })
