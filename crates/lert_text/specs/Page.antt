-- How far a text has come to a sink that takes it page by page.
use Rattle.std.specs.Prelude.{◌≡◌, List, ℕ, ◌++◌, Option, Some, None}
use Rattle.lert_base.specs.Beginning.{BeginsWith}
use Rattle.lert_io.specs.Reading.{IfTold}

-- since a moment a sink took a part of a text, and the page holds the rest of it
pub record IsPrinting (start now : Option (List ℕ)) (page text : List ℕ) : Type 0 where
  pub told : IfTold start (λ before. (done : List ℕ) × (now ≡ Some (before ++ done)) × (done ++ page ≡ text))
  pub untold : start ≡ None → now ≡ None

-- since a moment a sink took some part of a text
pub record IsCut (start now : Option (List ℕ)) (text : List ℕ) : Type 0 where
  pub told : IfTold start (λ before. (done : List ℕ) × (now ≡ Some (before ++ done)) × BeginsWith text done)
  pub untold : start ≡ None → now ≡ None
