-- Each option that is heard is one of the command's.
use Rattle.std.proofs.Common.{◌≡◌, ◌∙◌, ℕ, ◌+◌, Bool, true, false, cond, ◌&&◌, ◌||◌, List, [], ◌∷◌, Option, Some, None, refl, sym, take, drop, ap, ap₂, true≢false}
use Rattle.std.specs.{List.{after_first, before_first, list_all, list_any}, Str.bytes_eq}
use Rattle.lert_args.specs.Word.{is_hyphened, is_late_name, is_name}
use Rattle.lert_args.specs.Said.{Kind, Reading, awaits, behind, between, ends, is_among, is_equals_sign, kind_of, named, option_kind, refused, value_of, valued}
use Rattle.lert_args.proofs.{Heard.{Heard, heard, heard_by, heard_with, with_place, with_use}, Numbers.use_names, Settling.all_before, Texts.{both, equal_texts, same_text}}

-- what holds of each option holds of one that is among them
pub each_among : (p : List ℕ → Bool) (options : List (List ℕ)) (name : List ℕ) → list_all p options ≡ true → is_among options name ≡ true → p name ≡ true
each_among p [] name all among = absurd (true≢false (sym among))
each_among p (option ∷ options) name all among = go (bytes_eq option name) refl among (both (p option) (list_all p options) all) (each_among p options name)
  where
    go : (b : Bool) → bytes_eq option name ≡ b → (b || is_among options name) ≡ true → (p option ≡ true) × (list_all p options ≡ true)
        → (list_all p options ≡ true → is_among options name ≡ true → p name ≡ true) → p name ≡ true
    go true is among parts rest = sym (ap p (equal_texts option name is)) ∙ parts.0
    go false is among parts rest = rest parts.1 among

or_right : (a b : Bool) → b ≡ true → (a || b) ≡ true
or_right true b is = refl
or_right false b is = is

pub all_among : (p : List ℕ → Bool) (options : List (List ℕ)) → ((name : List ℕ) → is_among options name ≡ true → p name ≡ true) → list_all p options ≡ true
all_among p [] each = refl
all_among p (option ∷ options) each =
    ap₂ (λ a b. a && b) (each option (ap (λ b. b || is_among options option) (same_text option)))
    (all_among p options (λ name among. each name (or_right (bytes_eq option name) (is_among options name) among)))

module _ (options : List (List ℕ)) where
  abbrev pub AreKnown : Option Heard → Type 0
  AreKnown None = Unit {0}
  AreKnown (Some h) = list_all (is_among options) (use_names h.uses) ≡ true

  abbrev pub IsKnown : Reading → Type 0
  IsKnown (value_of name) = is_among options name ≡ true
  IsKnown _ = Unit {0}

  known_use : (name text : List ℕ) (o : Option Heard) → is_among options name ≡ true → AreKnown o → AreKnown (with_use name text o)
  known_use name text None among known = tt
  known_use name text (Some h) among known = ap₂ (λ a b. a && b) among known

  known_place : (place : ℕ) (o : Option Heard) → AreKnown o → AreKnown (with_place place o)
  known_place place None known = tt
  known_place place (Some h) known = known

  abbrev IsKnownKind : Kind → Type 0
  IsKnownKind (awaits name) = is_among options name ≡ true
  IsKnownKind (valued name text) = is_among options name ≡ true
  IsKnownKind _ = Unit {0}

  option_known : (text : List ℕ) → IsKnownKind (option_kind options text)
  option_known text = go (is_among options (before_first is_equals_sign text)) (list_any is_equals_sign text) refl refl
    where
      go : (known has : Bool) → is_among options (before_first is_equals_sign text) ≡ known → list_any is_equals_sign text ≡ has
          → IsKnownKind (cond known (cond has (valued (before_first is_equals_sign text) (after_first is_equals_sign text)) (awaits text)) refused)
      go false has known_is has_is = tt
      go true true known_is has_is = known_is
      go true false known_is has_is = sym (ap (is_among options) (all_before is_equals_sign text has_is)) ∙ known_is

  kind_known : (word : List ℕ) → IsKnownKind (kind_of options word)
  kind_known word = go (bytes_eq word (45 ∷ 45 ∷ [])) (bytes_eq (take 2 word) (45 ∷ 45 ∷ [])) (is_name word)
    where
      go : (a b d : Bool) → IsKnownKind (cond a ends (cond b (option_kind options (drop 2 word)) (cond d named refused)))
      go true b d = tt
      go false true d = option_known (drop 2 word)
      go false false true = tt
      go false false false = tt

  module _ (place : ℕ) (hears : Reading → Option Heard) (rest : (r : Reading) → IsKnown r → AreKnown (hears r)) where
    known_by : (kind : Kind) → IsKnownKind kind → AreKnown (heard_by place kind hears)
    known_by ends known = rest behind tt
    known_by (awaits name) known = rest (value_of name) known
    known_by (valued name text) known = known_use name text (hears between) known (rest between tt)
    known_by named known = known_place place (hears between) (rest between tt)
    known_by refused known = tt

    known_with : (reading : Reading) (word : List ℕ) → IsKnown reading → AreKnown (heard_with options reading place word hears)
    known_with between word known = known_by (kind_of options word) (kind_known word)
    known_with (value_of name) word known = go (is_hyphened word)
      where
        go : (b : Bool) → AreKnown (cond b None (with_use name word (hears between)))
        go true = tt
        go false = known_use name word (hears between) known (rest between tt)
    known_with behind word known = go (is_late_name word)
      where
        go : (b : Bool) → AreKnown (cond b (with_place place (hears behind)) None)
        go true = known_place place (hears behind) (rest behind tt)
        go false = tt

  pub heard_known : (words : List (List ℕ)) (place : ℕ) (reading : Reading) → IsKnown reading → AreKnown (heard options place words reading)
  heard_known [] place between known = refl
  heard_known [] place (value_of name) known = tt
  heard_known [] place behind known = refl
  heard_known (word ∷ words) place reading known =
      known_with place (heard options (place + 1) words) (λ r is. heard_known words (place + 1) r is) reading word known
