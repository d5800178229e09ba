-- What one key more adds to the reports.
use Rattle.std.proofs.Common.{◌≡◌, ℕ, ◌+◌, ◌<◌, suc, Bool, true, false, cond, List, [], ◌∷◌, ◌++◌, length, take, get_or, map, filter, ap, sym, ◌∙◌, arith, append_assoc, append-nil}
use Rattle.std.proofs.{Math.Seq.take-suc, lemmas.List.map-append, lemmas.List.Elements.filter-append}
use Rattle.lert_spec.specs.declared.report.Report.{Report}

module _ (test : ℕ → Bool) (at : ℕ) (old : List Report) (keys : List ℕ) (k d : ℕ) (below : k < length keys) where
  abbrev each : ℕ → Report
  each key = record { key = key; at = at }

  abbrev upto : ℕ → List Report
  upto n = old ++ map each (filter test (take n keys))

  one_more : (b : Bool) → test (get_or keys k d) ≡ b → upto (k + 1) ≡ upto k ++ map each (cond b (get_or keys k d ∷ []) [])
  one_more b is =
      let next : k + 1 ≡ suc k = omega arith in
      ap upto next
      ∙ ap (λ ks. old ++ map each (filter test ks)) (take-suc keys k d below)
      ∙ ap (λ ks. old ++ map each ks) (filter-append test (take k keys) (get_or keys k d ∷ []))
      ∙ ap (λ t. old ++ map each (filter test (take k keys) ++ cond t (get_or keys k d ∷ []) [])) is
      ∙ ap (λ rs. old ++ rs) (map-append each (filter test (take k keys)) (cond b (get_or keys k d ∷ []) []))
      ∙ sym (append_assoc old (map each (filter test (take k keys))) (map each (cond b (get_or keys k d ∷ []) [])))

  pub kept : test (get_or keys k d) ≡ true → upto (k + 1) ≡ upto k ++ each (get_or keys k d) ∷ []
  kept passes = one_more true passes

  pub dropped : test (get_or keys k d) ≡ false → upto (k + 1) ≡ upto k
  dropped fails = one_more false fails ∙ append-nil (upto k)
