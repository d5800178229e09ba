-- The images of a bay: what a crash may leave of its three files, and how calls and time change that.
use Rattle.std.specs.Prelude.{◌≡◌, ◌↔◌, ℕ, ◌≤◌, List}
use Rattle.std.proofs.Common.{◌⊎◌}
use Rattle.lert_bay.specs.Files.{Files, Changes, Torn}

-- the images after a call are those from before it
abbrev pub KeepsImages : (Files → Type 0) → (Files → Type 0) → Type 0
KeepsImages before after = (image : Files) → after image ↔ before image

-- the images after a call are those from before it after a step: each comes from one by the step, and each that
-- comes so is one
pub record Follow (step : Files → Files → Type 0) (before after : Files → Type 0) : Type 0 where
  pub comes : (image : Files) → after image → (earlier : Files) × before earlier × step earlier image
  pub goes : (earlier image : Files) → before earlier → step earlier image → after image

-- an image that comes by one write into a range of a file, torn or whole, from one of these
abbrev pub ComesByWrite : (Files → Type 0) → ℕ → ℕ → ℕ → Files → Type 0
ComesByWrite leaves file at count image = (earlier : Files) × leaves earlier × Changes (Torn at count) file earlier image

-- the images after the sync of a file are those from before it that have there what a read gives
pub record Settles (file : ℕ) (seen : List ℕ) (before after : Files → Type 0) : Type 0 where
  pub durable : (image : Files) → after image → image file ≡ seen
  pub was : (image : Files) → after image → before image
  pub stays : (image : Files) → before image → image file ≡ seen → after image

-- Time goes on: what a crash since an earlier moment might have left is what it might have left before the call, and
-- what it may leave after the call.
pub record Elapses (before after : ℕ) (since_before since_after : ℕ → Files → Type 0) (leaves : Files → Type 0) : Type 0 where
  pub later : before ≤ after
  pub known : (t : ℕ) (image : Files) → t ≤ before → since_after t image → since_before t image ⊎ leaves image
  pub kept : (t : ℕ) (image : Files) → t ≤ before → since_before t image → since_after t image
  pub added : (t : ℕ) (image : Files) → t ≤ before → leaves image → since_after t image

-- Time goes on through several calls: what a crash since an earlier moment might have left is what it might have left
-- before the first of them, or since then.
pub record Lasts (before after : ℕ) (since_before since_after : ℕ → Files → Type 0) : Type 0 where
  pub later : before ≤ after
  pub known : (t : ℕ) (image : Files) → t ≤ before → since_after t image → since_before t image ⊎ since_after before image
  pub kept : (t : ℕ) (image : Files) → t ≤ before → since_before t image → since_after t image
