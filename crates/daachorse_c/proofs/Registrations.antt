-- The patterns that were read and those that are left are all of them.
use Rattle.std.proofs.Common.{◌≡◌, ℕ, ◌+◌, ◌<◌, ◌≤◌, List, [], ◌∷◌, ◌++◌, length, drop, get_or, slice_range, sym, ap, ◌∙◌, subst, append_assoc}
use Rattle.std.proofs.lemmas.List.{drop_more, map-append}
use Rattle.std.specs.Borrow.{Bor}
use Rattle.daachorse_model.specs.Dictionary.{registrations_of}
use Rattle.daachorse_c.specs.Patterns.{AreEnds, registrations}

module _ (ends : List ℕ) (start size i : ℕ) (here : i < length ends) where
  pub ends_next : AreEnds start size (drop i ends) → (start ≤ get_or ends i 0) × (get_or ends i 0 ≤ size) × AreEnds (get_or ends i 0) size (drop (i + 1) ends)
  ends_next are = subst (AreEnds start size) (drop_more ends i 0 here) are

  pub ends_from_next : start ≤ get_or ends i 0 → get_or ends i 0 ≤ size → AreEnds (get_or ends i 0) size (drop (i + 1) ends) → AreEnds start size (drop i ends)
  ends_from_next up in_size are = subst (AreEnds start size) (sym (drop_more ends i 0 here)) (up, in_size, are)

module _ (bytes ends values : List ℕ) (start i : ℕ) (here : i < length ends) (there : i < length values) where
  next : registrations bytes start (drop i ends) (drop i values)
      ≡ (slice_range bytes start (get_or ends i 0), get_or values i 0) ∷ registrations bytes (get_or ends i 0) (drop (i + 1) ends) (drop (i + 1) values)
  next = ap (λ es. registrations bytes start es (drop i values)) (drop_more ends i 0 here)
      ∙ ap (λ vs. registrations bytes start (get_or ends i 0 ∷ drop (i + 1) ends) vs) (drop_more values i 0 there)

  pub one_read : (before after : List (Bor (List ℕ) × ℕ)) (p : Bor (List ℕ)) → p.now ≡ slice_range bytes start (get_or ends i 0) → after ≡ before ++ (p, get_or values i 0) ∷ []
      → registrations_of before ++ registrations bytes start (drop i ends) (drop i values) ≡ registrations_of after ++ registrations bytes (get_or ends i 0) (drop (i + 1) ends) (drop (i + 1) values)
  one_read before after p is grown =
      let left = registrations bytes (get_or ends i 0) (drop (i + 1) ends) (drop (i + 1) values) in let v = get_or values i 0 in
      ap (λ l. registrations_of before ++ l) (next ∙ ap (λ w. (w, v) ∷ left) (sym is)) ∙ sym (append_assoc (registrations_of before) ((p.now, v) ∷ []) left)
      ∙ ap (λ l. l ++ left) (sym (map-append (λ (q : Bor (List ℕ) × ℕ). (q.0.now, q.1)) before ((p, v) ∷ [])) ∙ ap registrations_of (sym grown))
