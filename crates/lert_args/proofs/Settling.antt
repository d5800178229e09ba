-- What settles between two words, and the walk over the words that are left.
use Rattle.std.proofs.Common.{◌≡◌, ◌∙◌, ℕ, ◌+◌, Bool, true, false, cond, ◌&&◌, ◌||◌, not, List, [], ◌∷◌, Option, refl, sym, ap, ap₂, arith, suc, take, true≢false}
use Rattle.std.specs.{Prelude.{codes, fold}, List.{before_first, list_any, position_or_len}, Option.option_map_or}
use Rattle.clap.specs.{Walk.{Held, Row, Rule, Text, Walk, has_row, settled, used, used_by_id, walked}, Kinds.{Kinds, or_else}, Faults.{settle_fault, turn_fault, use_fault, walk_fault}}
use Rattle.clap.specs.declared.error.kind.ErrorKind.TheVariants.{ArgumentConflict}
use Rattle.lert_args.specs.Said.{is_among}
use Rattle.lert_args.proofs.{Building.{built_option, by_id, rules, shape_of_options}, Turning.{awaiting, fails, holding}}

-- a name without the byte is all that stands before it
pub all_before : (p : ℕ → Bool) (text : List ℕ) → list_any p text ≡ false → before_first p text ≡ text
all_before p [] none = refl
all_before p (byte ∷ bytes) none = go (p byte) none (all_before p bytes)
  where
    go : (b : Bool) → (b || list_any p bytes) ≡ false → (list_any p bytes ≡ false → before_first p bytes ≡ bytes)
        → take (cond (not b) (1 + position_or_len p bytes) 0) (byte ∷ bytes) ≡ byte ∷ bytes
    go true none rest = absurd (true≢false none)
    go false none rest =
        let next : 1 + position_or_len p bytes ≡ suc (position_or_len p bytes) = omega arith in
        ap (λ n. take n (byte ∷ bytes)) next ∙ ap (λ more. byte ∷ more) (rest none)

-- a use of an option fails exactly where it has a row
abbrev pub use_by : Bool → Kinds
use_by has = or_else (cond (has && true) (ArgumentConflict ∷ []) []) []

module _ (options : List Text) where
  pub use_is : (name text : Text) (rows : List Row) → use_fault false (built_option name) (text ∷ []) rows ≡ use_by (has_row name rows)
  use_is name text rows = refl

  pub names_settle : (text : Text) (h : Held) → settle_fault (rules options) false (holding (codes "NAMES") text h) ≡ []
  names_settle text h = refl

  module _ (clear : is_among options (codes "NAMES") ≡ false) (name : Text) (among : is_among options name ≡ true) (h : Held) where
    abbrev settle_by : List Text → Option Rule → Kinds
    settle_by values found = option_map_or (λ a. use_fault false a values h.rows) found []

    -- an option with its value
    pub option_settle : (text : Text) → settle_fault (rules options) false (holding name text h) ≡ use_by (has_row name h.rows)
    option_settle text = ap (settle_by (text ∷ [])) (by_id options name clear among)

    pub option_settled : (text : Text) → (settled (rules options) (holding name text h)).rows ≡ used (built_option name) (text ∷ []) h.rows
    option_settled text = ap (λ found. used_by_id found (text ∷ []) h.rows) (by_id options name clear among)

    -- an option without one fails
    pub awaiting_settle : fails (settle_fault (rules options) false (awaiting name h)) ≡ true
    awaiting_settle = ap (λ found. fails (settle_by [] found)) (by_id options name clear among)

  -- ---- the walk

  abbrev pub end_of : Walk → List Text → Held
  end_of w words = (fold (walked (rules options) []) w words).held

  abbrev pub faults : Walk → List Text → Kinds
  faults w words = or_else (walk_fault (shape_of_options options) [] w words) (settle_fault (rules options) false (end_of w words))

  abbrev pub rows_end : Walk → List Text → List Row
  rows_end w words = (settled (rules options) (end_of w words)).rows

  module _ (w v : Walk) (word : Text) (words : List Text) (is : walked (rules options) [] w word ≡ v) where
    pub faults_on : turn_fault (shape_of_options options) [] w word ≡ [] → faults w (word ∷ words) ≡ faults v words
    unfolding walk_fault
    faults_on passes =
        ap₂ (λ (k : Kinds) (u : Walk). or_else (or_else k (walk_fault (shape_of_options options) [] u words)) (settle_fault (rules options) false (end_of u words))) passes is

    pub rows_on : rows_end w (word ∷ words) ≡ rows_end v words
    rows_on = ap (λ (u : Walk). rows_end u words) is

  first_fails : (a b d : Kinds) → fails a ≡ true → fails (or_else (or_else a b) d) ≡ true
  first_fails [] b d is = absurd (true≢false (sym is))
  first_fails (kind ∷ kinds) b d is = refl

  pub stops : (w : Walk) (word : Text) (words : List Text) → fails (turn_fault (shape_of_options options) [] w word) ≡ true → fails (faults w (word ∷ words)) ≡ true
  unfolding walk_fault
  stops w word words is =
      first_fails (turn_fault (shape_of_options options) [] w word) (walk_fault (shape_of_options options) [] (walked (rules options) [] w word) words)
      (settle_fault (rules options) false (end_of (walked (rules options) [] w word) words)) is

  -- at the end
  pub faults_end : (w : Walk) → faults w [] ≡ settle_fault (rules options) false w.held
  unfolding walk_fault
  faults_end w = refl
