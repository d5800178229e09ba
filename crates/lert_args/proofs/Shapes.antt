-- The shapes of a word where options may stand.
use Rattle.std.proofs.{Common.{◌≡◌, ◌∙◌, ℕ, Bool, true, false, cond, List, [], ◌∷◌, Some, None, refl, ap}, lemmas.Bool.eqb-true}
use Rattle.std.specs.Prelude.{◌==◌}
use Rattle.lert_args.specs.{Said.{kind_of, named, refused}, Scan.{turn_between, turn_hyphened, turn_of_option}, declared.scan.Stand.TheVariants.Between, declared.scan.Turn.TheVariants.Name}

-- `--`, an option, a name, or a word that no line has there
pub data Shape (word : List ℕ) : Type 0 where
  is_end : word ≡ 45 ∷ 45 ∷ [] → Shape word
  is_option : (byte : ℕ) (bytes : List ℕ) → word ≡ 45 ∷ 45 ∷ byte ∷ bytes → Shape word
  is_named : (byte : ℕ) (bytes : List ℕ) → (byte == 45) ≡ false → word ≡ byte ∷ bytes → Shape word
  is_other : turn_between word ≡ None → Shape word

behind_two : (rest : List ℕ) (word : List ℕ) → word ≡ 45 ∷ 45 ∷ rest → Shape word
behind_two [] word is = is_end is
behind_two (byte ∷ bytes) word is = is_option byte bytes is

behind_one : (rest : List ℕ) (word : List ℕ) → word ≡ 45 ∷ rest → Shape word
behind_one [] word is = is_other (ap turn_between is)
behind_one (second ∷ rest) word is = go (second == 45) refl
  where
    go : (b : Bool) → (second == 45) ≡ b → Shape word
    go true same = behind_two rest word (is ∙ ap (λ n. 45 ∷ n ∷ rest) (eqb-true second 45 same))
    go false differs =
        let none : turn_hyphened (second ∷ rest) ≡ None = rw differs refl in
        is_other (ap turn_between is ∙ none)

pub shape : (word : List ℕ) → Shape word
shape [] = is_other refl
shape (first ∷ rest) = go (first == 45) refl
  where
    go : (b : Bool) → (first == 45) ≡ b → Shape (first ∷ rest)
    go true same = behind_one rest (first ∷ rest) (ap (λ n. n ∷ rest) (eqb-true first 45 same))
    go false differs = is_named first rest differs refl

-- what a name is
pub kind_of-name : (options : List (List ℕ)) (byte : ℕ) (bytes : List ℕ) → (byte == 45) ≡ false → kind_of options (byte ∷ bytes) ≡ named
kind_of-name options byte bytes differs = go bytes
  where
    go : (rest : List ℕ) → kind_of options (byte ∷ rest) ≡ named
    go [] = rw differs refl
    go (second ∷ rest) = rw differs refl

pub turn_of-name : (byte : ℕ) (bytes : List ℕ) → (byte == 45) ≡ false → turn_between (byte ∷ bytes) ≡ Some (Name Between)
turn_of-name byte bytes differs = rw differs refl

-- a word that no line has there says nothing
one_hyphen : (options : List (List ℕ)) (rest : List ℕ) → turn_hyphened rest ≡ None → kind_of options (45 ∷ rest) ≡ refused
one_hyphen options [] none = refl
one_hyphen options (second ∷ rest) none = go (second == 45) refl none
  where
    go : (b : Bool) → (second == 45) ≡ b → cond b (Some (turn_of_option rest)) None ≡ None → kind_of options (45 ∷ second ∷ rest) ≡ refused
    go true same none = absurd (cc)
    go false differs none = rw differs refl

pub kind_of-none : (options : List (List ℕ)) (word : List ℕ) → turn_between word ≡ None → kind_of options word ≡ refused
kind_of-none options [] none = refl
kind_of-none options (first ∷ rest) none = go (first == 45) refl none
  where
    go : (b : Bool) → (first == 45) ≡ b → cond b (turn_hyphened rest) (Some (Name Between)) ≡ None → kind_of options (first ∷ rest) ≡ refused
    go true same none = ap (λ n. kind_of options (n ∷ rest)) (eqb-true first 45 same) ∙ one_hyphen options rest none
    go false differs none = absurd (cc)
