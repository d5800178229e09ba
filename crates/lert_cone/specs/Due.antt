-- Which pieces of a table bring a report, and what a taker of totals is seen as.
use Rattle.std.specs.Prelude.{ℕ, ◌≡◌, ◌<◌, ◌≤◌, ◌^◌, ◌==◌, Bool, true, false, List, [], ◌∷◌, ◌++◌, length, map, filter, All, Option, Some, None, if◌then◌else◌}
use Rattle.lert_spec.specs.Edges.{tail_bits}
use Rattle.lert_spec.specs.{declared.numbers.Numbers.Numbers, declared.piece.Piece.Piece, declared.report.Report.Report, Limits.IsValid, Mix.cone_of, Table.IsTable}
use Rattle.lert_spec.proofs.TailLaws.{key_with, keys_of, is_due_piece}
use Rattle.lert_reports.specs.Stored.{Stored}

-- the reports of the pieces that are due, in ascending tails
abbrev pub due_reports : Numbers → ℕ → List Report → ℕ → List Piece → List Report
due_reports s cone listed at pieces = map (λ key. record { key = key; at = at }) (keys_of s cone (filter (is_due_piece s cone s.threshold listed) pieces))

-- a taker of totals: the settings and the number of its cone, its reports, those of them that stood as the totals began, the
-- position at which it reports, and whether a report found no room
pub record Dues : Type 0 where
  pub settings : Numbers
  pub cone : ℕ
  pub reports : List Report
  pub before : List Report
  pub at : ℕ
  pub is_full : Bool

-- it took these totals: behind the reports from before stand those of the pieces that are due, or they are too many
pub record TookTotals (dues : Dues) (pieces : List Piece) : Type 0 where
  pub reported : IsTable (2 ^ tail_bits dues.settings) pieces → dues.is_full ≡ false →
      dues.reports ≡ dues.before ++ due_reports dues.settings dues.cone dues.before dues.at pieces
  pub too_many : IsTable (2 ^ tail_bits dues.settings) pieces → dues.is_full ≡ true →
      dues.settings.room < length (dues.before ++ due_reports dues.settings dues.cone dues.before dues.at pieces)

-- the key of a piece that reaches the threshold and isn't reported
abbrev pub due_key : Numbers → ℕ → List Report → Piece → Option ℕ
due_key s cone listed piece = if is_due_piece s cone s.threshold listed piece then Some (key_with s cone piece.tail) else None

-- no taker
abbrev pub unbegun : Dues
unbegun = record {
  settings = record { threshold = 0; bins = 0; ratio = 0; base = 0; levels = 0; cone_bits = 0; room = 0; packet = 0 };
  cone = 0;
  reports = [];
  before = [];
  at = 0;
  is_full = false;
}

-- the taker as totals begin at a position
abbrev pub started : Dues → ℕ → Dues
started dues at = record dues { before = dues.reports; at = at; is_full = false }

-- since a state it took these totals, no report went, and all else is as it was
pub record TookFrom (start dues : Dues) (pieces : List Piece) : Type 0 where
  pub settings_are : dues.settings ≡ start.settings
  pub cone_is : dues.cone ≡ start.cone
  pub before_is : dues.before ≡ start.before
  pub at_is : dues.at ≡ start.at
  pub grows : length dues.before ≤ length dues.reports
  pub took : TookTotals dues pieces

-- a total that changes nothing: untaken it leaves the reports that it would leave if it were taken
abbrev pub PassesOver : Dues → Piece → Type 0
PassesOver dues piece =
    (start : Dues) (pieces : List Piece) → TookFrom start dues pieces → All (λ lesser. lesser.tail < piece.tail) pieces →
    TookFrom start dues (pieces ++ piece ∷ [])

-- one more report of a key, where there is one, and room for it
abbrev pub with_report : Dues → Option ℕ → Dues
with_report dues None = dues
with_report dues (Some key) =
    if length dues.reports == dues.settings.room then record dues { is_full = true }
    else record dues { reports = dues.reports ++ record { key = key; at = dues.at } ∷ [] }

-- after one more total
abbrev pub with_total : Dues → Piece → Dues
with_total dues piece =
    if dues.is_full then dues else with_report dues (due_key dues.settings dues.cone dues.reports piece)

-- what is so of every taker: its settings are valid and those of its store, its reports are of its cone, and a report finds
-- no room only where they fill it
pub record IsTaker (settings : Numbers) (cone : ℕ) (store : Stored) (is_full : Bool) : Type 0 where
  pub valid : IsValid settings
  pub named : cone < 2 ^ settings.cone_bits
  pub same : store.settings ≡ settings
  pub own : All (λ report. cone_of settings report.key ≡ cone) store.reports
  pub full : is_full ≡ true → length store.reports ≡ settings.room
