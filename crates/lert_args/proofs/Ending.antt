-- How the walk over words ends, by what is heard of them.
use Rattle.std.proofs.Common.{◌≡◌, ◌∙◌, ℕ, Bool, true, false, ◌&&◌, not, List, [], ◌∷◌, Option, Some, None, sym, subst}
use Rattle.std.specs.Prelude.{is_some}
use Rattle.clap.specs.{Walk.{Row, Text}, Kinds.Kinds}
use Rattle.lert_args.specs.Said.{is_among}
use Rattle.lert_args.proofs.{Heard.{Heard, Use, with_place, with_use}, Numbers.use_names, Rows.{and_row, fresh, fresh_behind, joined, joined_assoc, one_row, row_at, use_row}, Turning.fails}

-- the walk's end, where it fails and where not, by what is heard
abbrev pub Taken : List Text → Bool → (Text → Option Row) → List Use → Kinds → List Row → Type 0
Taken options false f uses kinds rows = fails kinds ≡ true
Taken options true f uses kinds rows = (kinds ≡ []) × ((name : Text) → is_among options name ≡ true → row_at name rows ≡ joined (f name) (use_row name uses))

abbrev pub Ended : List Text → (Text → Option Row) → Option Heard → Kinds → List Row → Type 0
Ended options f None kinds rows = fails kinds ≡ true
Ended options f (Some h) kinds rows = Taken options (fresh f (use_names h.uses)) f h.uses kinds rows

module _ (options : List Text) where
  pub placed : (f : Text → Option Row) (place : ℕ) (o : Option Heard) (kinds : Kinds) (rows : List Row) → Ended options f o kinds rows → Ended options f (with_place place o) kinds rows
  placed f place None kinds rows e = e
  placed f place (Some h) kinds rows e = e

  pub moved : (f g : Text → Option Row) (o : Option Heard) (k l : Kinds) (r s : List Row) → ((name : Text) → g name ≡ f name) → l ≡ k → s ≡ r → Ended options f o k r → Ended options g o l s
  moved f g o k l r s fs ks rs e =
      let same : g ≡ f = λ i name. fs name i in
      subst (λ (x : Text → Option Row). Ended options x o l s) (sym same) (subst (λ x. Ended options f o x s) (sym ks) (subst (λ x. Ended options f o k x) (sym rs) e))

  -- a failure, where an option is given twice
  pub twice : (f : Text → Option Row) (name text : Text) (o : Option Heard) (kinds : Kinds) (rows : List Row) → is_some (f name) ≡ true → fails kinds ≡ true
      → Ended options f (with_use name text o) kinds rows
  twice f name text None kinds rows has failed = failed
  twice f name text (Some h) kinds rows has failed =
      subst (λ b. Taken options (not b && (not (is_among (use_names h.uses) name) && fresh f (use_names h.uses))) f (record { name = name; text = text } ∷ h.uses) kinds rows) (sym has) failed

  -- an option that is given once
  pub once : (f : Text → Option Row) (name text : Text) (o : Option Heard) (kinds : Kinds) (rows : List Row) → is_some (f name) ≡ false
      → Ended options (and_row f name text) o kinds rows → Ended options f (with_use name text o) kinds rows
  once f name text None kinds rows none e = e
  once f name text (Some h) kinds rows none e =
      subst (λ b. Taken options (not b && (not (is_among (use_names h.uses) name) && fresh f (use_names h.uses))) f (record { name = name; text = text } ∷ h.uses) kinds rows) (sym none)
      (go (not (is_among (use_names h.uses) name) && fresh f (use_names h.uses))
      (subst (λ b. Taken options b (and_row f name text) h.uses kinds rows) (fresh_behind f name text (use_names h.uses)) e))
    where
      go : (b : Bool) → Taken options b (and_row f name text) h.uses kinds rows → Taken options b f (record { name = name; text = text } ∷ h.uses) kinds rows
      go false e = e
      go true e = (e.0, λ other among. e.1 other among ∙ joined_assoc (f other) (one_row name text other) (use_row other h.uses))
