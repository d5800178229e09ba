-- What the first bytes of a journal say: that it is a cone's own, that it was written with other numbers, or where they
-- leave the format.
use Rattle.std.specs.Prelude.{◌≡◌, ℕ, ◌<◌, List, length, take, Some, None}
use Rattle.std.proofs.Common.{◌⊎◌}
use Rattle.lert_base.specs.declared.kept.Kept.{Kept}
use Rattle.lert_bay.specs.declared.bay.TheConstants.{JOURNAL}
use Rattle.lert_journal.specs.Header.{magic, header, header_left, kept_in, version_in}
use Rattle.lert_files.specs.{declared.fault.ReopenFault.ReopenFault, declared.fault.ReopenFault.TheVariants.{Malformed, OtherSettings}}
use Rattle.lert_spec.specs.{declared.numbers.Numbers.Numbers, Items.IsVersion}

-- what a header says is of this cone and has these numbers, in whatever version
abbrev pub IsOwn : Numbers → ℕ → Kept → Type 0
IsOwn s cone kept = (kept.cone ≡ cone) × (kept.numbers ≡ s)

-- a file is the header of this cone's journal, and no gate stands behind it
pub record IsGateless (s : Numbers) (cone : ℕ) (bytes : List ℕ) : Type 0 where
  pub whole : header_left bytes ≡ None
  pub own : IsOwn s cone (kept_in (take 32 bytes))
  pub short : length bytes < 33

-- a file leaves the beginning of this cone's journal, a header and a gate behind it, at this place: in the header, or at its
-- length, where it ends before the gate. A whole header of other numbers leaves it nowhere
abbrev pub BeginningLeaves : Numbers → ℕ → List ℕ → ℕ → Type 0
BeginningLeaves s cone bytes at = (header_left bytes ≡ Some at) ⊎ (IsGateless s cone bytes × (at ≡ length bytes))

-- a file begins with the header of this cone's journal, of a version that there is, and has a gate behind it
pub record IsHeaded (s : Numbers) (cone : ℕ) (bytes : List ℕ) : Type 0 where
  pub headed : take 32 bytes ≡ header (magic (version_in bytes)) s cone
  pub known : IsVersion (version_in bytes)
  pub gate : 32 < length bytes

-- it has the whole header of a journal, but that was written with another number, or by another cone
pub record HasOther (s : Numbers) (cone : ℕ) (bytes : List ℕ) (kept : Kept) : Type 0 where
  pub whole : header_left bytes ≡ None
  pub kept_is : kept ≡ kept_in (take 32 bytes)
  pub other : ¬ IsOwn s cone kept

-- why the beginning of a journal is refused: it leaves the format, or it is another's
abbrev pub IsHeaderFault : Numbers → ℕ → List ℕ → ReopenFault → Type 0
IsHeaderFault s cone bytes fault =
    ((at : ℕ) × (fault ≡ Malformed JOURNAL at) × BeginningLeaves s cone bytes at)
    ⊎ ((kept : Kept) × (fault ≡ OtherSettings kept) × HasOther s cone bytes kept)

-- a place of the journal, or other numbers
abbrev pub IsOfHeader : ReopenFault → Type 0
IsOfHeader fault = ((at : ℕ) × (fault ≡ Malformed JOURNAL at)) ⊎ ((kept : Kept) × (fault ≡ OtherSettings kept))
