-- What words say before their values are read as numbers, and that it says what the definition says.
use Rattle.std.proofs.{Common.{◌≡◌, ◌∙◌, ℕ, ◌+◌, Bool, true, false, cond, ◌&&◌, List, [], ◌∷◌, length, Option, Some, None, refl, ap, option_map}, Math.Bool.and-false, lemmas.Bool.eqb-true}
use Rattle.std.specs.{Prelude.{option_and_then, if◌then◌else◌, nat_lt, nat_le}, Str.Parse.digits_value}
use Rattle.lert_args.specs.Word.{is_hyphened, is_late_name, number_of}
use Rattle.lert_args.specs.Said.{Given, Kind, Reading, Said, awaits, behind, between, ends, kind_of, named, refused, said, said_by, said_with, value_of, valued, with_name, with_value}

-- an option with the text of its value
pub record Use : Type 0 where
  pub name : List ℕ
  pub text : List ℕ

pub record Heard : Type 0 where
  pub uses : List Use
  pub names : List ℕ

abbrev pub with_use : List ℕ → List ℕ → Option Heard → Option Heard
with_use name text = option_map {T = Heard} (λ h. record h { uses = record { name = name; text = text } ∷ h.uses })

abbrev pub with_place : ℕ → Option Heard → Option Heard
with_place place = option_map {T = Heard} (λ h. record h { names = place ∷ h.names })

abbrev pub heard_by : ℕ → Kind → (Reading → Option Heard) → Option Heard
heard_by place ends others = others behind
heard_by place (awaits name) others = others (value_of name)
heard_by place (valued name text) others = with_use name text (others between)
heard_by place named others = with_place place (others between)
heard_by place refused others = None

abbrev pub heard_with : List (List ℕ) → Reading → ℕ → List ℕ → (Reading → Option Heard) → Option Heard
heard_with options between place word others = heard_by place (kind_of options word) others
heard_with options (value_of name) place word others = if is_hyphened word then None else with_use name word (others between)
heard_with options behind place word others = if is_late_name word then with_place place (others behind) else None

abbrev pub heard_at_end : Reading → Option Heard
heard_at_end between = Some (record { uses = []; names = [] })
heard_at_end (value_of name) = None
heard_at_end behind = Some (record { uses = []; names = [] })

abbrev pub heard : List (List ℕ) → ℕ → List (List ℕ) → Reading → Option Heard
heard options place [] reading = heard_at_end reading
heard options place (word ∷ words) reading = heard_with options reading place word (heard options (place + 1) words)

-- the values as numbers
abbrev pub numbered_use : List ℕ → Option ℕ → Option (List Given) → Option (List Given)
numbered_use name None others = None
numbered_use name (Some value) others = option_map {T = List Given} (λ given. record { name = name; value = value } ∷ given) others

abbrev pub numbers : List Use → Option (List Given)
numbers [] = Some []
numbers (use_ ∷ uses) = numbered_use use_.name (number_of use_.text) (numbers uses)

abbrev pub said_of : List ℕ → List Given → Said
said_of names given = record { given = given; names = names }

abbrev pub numbered : Heard → Option Said
numbered h = option_map (said_of h.names) (numbers h.uses)

-- no number begins with a hyphen
number_of-hyphened : (word : List ℕ) → is_hyphened word ≡ true → number_of word ≡ None
number_of-hyphened [] is = absurd (cc)
number_of-hyphened (byte ∷ bytes) is =
    let same : byte ≡ 45 = eqb-true byte 45 is in
    ap (λ b. number_of (b ∷ bytes)) same
    ∙ ap (λ t. cond (t && nat_lt (digits_value 10 (45 ∷ bytes)) 18446744073709551616) (Some (digits_value 10 (45 ∷ bytes))) None)
    (and-false (nat_lt 0 (length (45 ∷ bytes)) && nat_le (length (45 ∷ bytes)) 20))

with_value-use : (name text : List ℕ) (o : Option Heard) → with_value name (number_of text) (option_and_then numbered o) ≡ option_and_then numbered (with_use name text o)
with_value-use name text None = go (number_of text)
  where
    go : (n : Option ℕ) → with_value name n None ≡ None
    go None = refl
    go (Some v) = refl
with_value-use name text (Some h) = go (number_of text) (numbers h.uses)
  where
    go : (n : Option ℕ) (given : Option (List Given)) → with_value name n (option_map (said_of h.names) given) ≡ option_map (said_of h.names) (numbered_use name n given)
    go None given = refl
    go (Some v) None = refl
    go (Some v) (Some given) = refl

with_name-place : (place : ℕ) (o : Option Heard) → with_name place (option_and_then numbered o) ≡ option_and_then numbered (with_place place o)
with_name-place place None = refl
with_name-place place (Some h) = go (numbers h.uses)
  where
    go : (given : Option (List Given)) → with_name place (option_map (said_of h.names) given) ≡ option_map (said_of (place ∷ h.names)) given
    go None = refl
    go (Some given) = refl

no_value : (name : List ℕ) (others : Option Said) → with_value name None others ≡ None
no_value name others = refl

said_by-heard : (place : ℕ) (kind : Kind) (says : Reading → Option Said) (hears : Reading → Option Heard) → ((r : Reading) → says r ≡ option_and_then numbered (hears r))
    → said_by place kind says ≡ option_and_then numbered (heard_by place kind hears)
said_by-heard place ends says hears same = same behind
said_by-heard place (awaits name) says hears same = same (value_of name)
said_by-heard place (valued name text) says hears same = ap (with_value name (number_of text)) (same between) ∙ with_value-use name text (hears between)
said_by-heard place named says hears same = ap (with_name place) (same between) ∙ with_name-place place (hears between)
said_by-heard place refused says hears same = refl

said_with-heard : (options : List (List ℕ)) (reading : Reading) (place : ℕ) (word : List ℕ) (says : Reading → Option Said) (hears : Reading → Option Heard)
    → ((r : Reading) → says r ≡ option_and_then numbered (hears r)) → said_with options reading place word says ≡ option_and_then numbered (heard_with options reading place word hears)
said_with-heard options between place word says hears same = said_by-heard place (kind_of options word) says hears same
said_with-heard options (value_of name) place word says hears same = go (is_hyphened word) refl
  where
    go : (b : Bool) → is_hyphened word ≡ b
        → with_value name (number_of word) (says between) ≡ option_and_then numbered (cond b None (with_use name word (hears between)))
    go true is = ap (λ n. with_value name n (says between)) (number_of-hyphened word is)
    go false is = ap (with_value name (number_of word)) (same between) ∙ with_value-use name word (hears between)
said_with-heard options behind place word says hears same = go (is_late_name word)
  where
    go : (b : Bool) → cond b (with_name place (says behind)) None ≡ option_and_then numbered (cond b (with_place place (hears behind)) None)
    go true = ap (with_name place) (same behind) ∙ with_name-place place (hears behind)
    go false = refl

-- what words say is what they say before, with the values as numbers
pub said-heard : (options : List (List ℕ)) (place : ℕ) (words : List (List ℕ)) (reading : Reading)
    → said options place words reading ≡ option_and_then numbered (heard options place words reading)
said-heard options place [] between = refl
said-heard options place [] (value_of name) = refl
said-heard options place [] behind = refl
said-heard options place (word ∷ words) reading =
    said_with-heard options reading place word (said options (place + 1) words) (heard options (place + 1) words) (λ r. said-heard options (place + 1) words r)
