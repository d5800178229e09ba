-- Keys taken again in turn: none, one more, and all.
use Rattle.lert_spec.specs.declared.item.Item.{Item}
use Rattle.lert_spec.specs.Items.{unit}
use Rattle.std.proofs.Common.{◌≡◌, ◌∙◌, ℕ, ◌+◌, ◌<◌, ◌≤◌, List, [], ◌∷◌, ◌++◌, All, length, take, get_or, sym, ap, subst, arith, append_assoc, append-nil, length-append, length-take}
use Rattle.std.proofs.lemmas.List.{take_all, take_more}
use Rattle.lert_spec.specs.Mix.{cone_of}
use Rattle.lert_cone.specs.Listing.{Listing}

-- a cone with other keys
abbrev pub with_keys : Listing → List Item → Listing
with_keys cone events = record cone { events = events }

pub none_again : (old : Listing) → old ≡ with_keys old (old.events ++ [])
none_again old = ap (with_keys old) (sym (append-nil old.events))

pub zero_least : (n : ℕ) → 0 ≤ n
zero_least n = omega arith

module _ (old mid : Listing) (keys : List Item) (i : ℕ) (is : mid ≡ with_keys old (old.events ++ take i keys)) where
  pub own_again : All (λ item. cone_of old.settings item.key ≡ old.cone) keys → i < length keys → cone_of mid.settings (get_or keys i (unit 0)).key ≡ mid.cone
  own_again own within = subst (λ (l : Listing). cone_of l.settings (get_or keys i (unit 0)).key ≡ l.cone) (sym is) (own i (unit 0) within)

  pub within_again : (n0 : ℕ) → length old.events + length keys ≤ n0 → i < length keys → length mid.events < n0
  within_again n0 fits within = subst (λ (l : Listing). length l.events < n0) (sym is) (omega (arith, fits, within, length-append old.events (take i keys), length-take i keys))

  pub one_again : (next : Listing) → next ≡ with_keys mid (mid.events ++ get_or keys i (unit 0) ∷ []) → i < length keys → next ≡ with_keys old (old.events ++ take (i + 1) keys)
  one_again next more within =
      more
      ∙ (ap (λ (l : Listing). with_keys l (l.events ++ get_or keys i (unit 0) ∷ [])) is
      ∙ ap (with_keys old) (append_assoc old.events (take i keys) (get_or keys i (unit 0) ∷ []) ∙ ap (λ ks. old.events ++ ks) (sym (take_more keys i (unit 0) within))))

  pub all_again : length keys ≤ i → mid ≡ with_keys old (old.events ++ keys)
  all_again over = is ∙ ap (λ ks. with_keys old (old.events ++ ks)) (take_all i keys over)
