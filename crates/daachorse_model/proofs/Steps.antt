-- The state after one more unit, found by following links: each candidate is an end of the text, and no longer end goes on.
use Rattle.std.proofs.Common.{◌≡◌, ℕ, ◌≤◌, ◌⊎◌, inl, inr, List, [], ◌∷◌, ◌++◌, length, refl, sym, ap, ◌∙◌, subst, append_assoc, append-nil, length-append, arith}
use Rattle.daachorse_model.specs.Dictionary.{Dictionary}
use Rattle.daachorse_model.specs.Prefixes.{IsSuffix, IsKey, IsPrefix, IsLong, IsLink}
use Rattle.daachorse_model.proofs.Suffixes.{le_or_lt, IsSuffix-nil, IsSuffix-same, IsSuffix-through, IsSuffix-append, IsSuffix-join, IsSuffix-push, IsSuffix-length, IsSuffix-of_longer, IsSuffix-as_long, IsSuffix-of_join, IsSuffix-of_push}

module _ {V : Type 0} (K : Dictionary V) where
  pub IsPrefix-nil : IsPrefix K []
  IsPrefix-nil = inl refl

  -- a beginning of what begins a key begins it too
  pub IsPrefix-less : (w v : List ℕ) → IsPrefix K (w ++ v) → IsPrefix K w
  IsPrefix-less [] v p = inl refl
  IsPrefix-less (x ∷ w) v (inl e) = absurd (cc)
  IsPrefix-less (x ∷ w) v (inr q) = inr (v ++ q.0, λ e. q.1 (ap K (append_assoc (x ∷ w) v q.0) ∙ e))

  pub IsPrefix-key : (w : List ℕ) → IsKey K w → IsPrefix K w
  IsPrefix-key w h = inr ([], λ e. h (sym (ap K (append-nil w)) ∙ e))

  pub IsLong-nil : IsLong K [] []
  IsLong-nil = record { ends = IsSuffix-same []; begins = IsPrefix-nil; longest = λ t p _. IsSuffix-length t [] p }

  -- c is a end of w, and no longer one begins a key that goes on with u
  pub record IsCandidate (w : List ℕ) (u : ℕ) (c : List ℕ) : Type 0 where
    pub ends : IsSuffix c w
    pub above : (t : List ℕ) → IsSuffix t w → IsPrefix K (t ++ u ∷ []) → length t ≤ length c

  pub IsCandidate-first : (w : List ℕ) (u : ℕ) → IsCandidate w u w
  IsCandidate-first w u = record { ends = IsSuffix-same w; above = λ t p _. IsSuffix-length t w p }

  -- the link of a candidate that does not go on is the next one
  pub IsCandidate-link : (w : List ℕ) (u : ℕ) (c s : List ℕ) → IsCandidate w u c → (¬ IsPrefix K (c ++ u ∷ [])) → IsLink K c s → IsCandidate w u s
  IsCandidate-link w u c s h stuck link = record {
    ends = IsSuffix-through s c w link.ends h.ends;
    above = λ t p begins.
        elim (le_or_lt (length c) (length t)) [
          | inl as_long ↦
              let is_c : c ≡ t = IsSuffix-as_long c t (IsSuffix-of_longer w c t h.ends p as_long) (h.above t p begins) in
              absurd (stuck (let P : List ℕ → Type 0 = λ x. IsPrefix K (x ++ u ∷ []) in subst P (sym is_c) begins))
          | inr less ↦ link.longest t (IsSuffix-of_longer w t c p h.ends (omega arith)) less (IsPrefix-less t (u ∷ []) begins)
        ];
  }

  pub IsCandidate-goes_on : (w : List ℕ) (u : ℕ) (c : List ℕ) → IsCandidate w u c → IsPrefix K (c ++ u ∷ []) → IsLong K (w ++ u ∷ []) (c ++ u ∷ [])
  IsCandidate-goes_on w u c h begins = record {
    ends = IsSuffix-push c w u h.ends;
    begins = begins;
    longest = λ t p q.
        elim (IsSuffix-of_push w t u p) [
          | inl e ↦ omega (arith, ap length e)
          | inr s ↦
              let fits : length s.0 ≤ length c = h.above s.0 s.1 (let P : List ℕ → Type 0 = λ x. IsPrefix K x in subst P s.2 q) in
              omega (arith, ap length s.2, length-append s.0 (u ∷ []), length-append c (u ∷ []))
        ];
  }

  pub IsCandidate-stops : (w : List ℕ) (u : ℕ) → IsCandidate w u [] → (¬ IsPrefix K (u ∷ [])) → IsLong K (w ++ u ∷ []) []
  IsCandidate-stops w u h stuck = record {
    ends = IsSuffix-nil (w ++ u ∷ []);
    begins = IsPrefix-nil;
    longest = λ t p q.
        elim (IsSuffix-of_push w t u p) [
          | inl e ↦ omega (arith, ap length e)
          | inr s ↦
              let begins : IsPrefix K (s.0 ++ u ∷ []) = let P : List ℕ → Type 0 = λ x. IsPrefix K x in subst P s.2 q in
              absurd (stuck (at_start s.0 (h.above s.0 s.1 begins) begins))
        ];
  }
    where
      at_start : (t : List ℕ) → length t ≤ 0 → IsPrefix K (t ++ u ∷ []) → IsPrefix K (u ∷ [])
      at_start [] short begins = begins
      at_start (x ∷ t) short begins = absurd (omega arith)

  -- What a run of units leads to from the state of all that was read is the state of all that was read and the run.
  pub IsLong-more : (all w r x : List ℕ) → IsLong K all w → IsLong K (w ++ x) r → IsLong K (all ++ x) r
  IsLong-more all w r x before after = record {
    ends = IsSuffix-through r (w ++ x) (all ++ x) after.ends (IsSuffix-join w all x before.ends);
    begins = after.begins;
    longest = λ t p q.
        elim (IsSuffix-of_join all t x p) [
          | inl end ↦ after.longest t (IsSuffix-append w t x end) q
          | inr s ↦
              let begins : IsPrefix K (s.0 ++ x) = let P : List ℕ → Type 0 = λ y. IsPrefix K y in subst P s.2 q in
              let short : length s.0 ≤ length w = before.longest s.0 s.1 (IsPrefix-less s.0 x begins) in
              let inside : IsSuffix (s.0 ++ x) (w ++ x) = IsSuffix-join s.0 w x (IsSuffix-of_longer all s.0 w s.1 before.ends short) in
              omega (arith, ap length s.2, after.longest (s.0 ++ x) inside begins)
        ];
  }

  -- the same for one unit
  pub IsLong-step : (all w r : List ℕ) (u : ℕ) → IsLong K all w → IsLong K (w ++ u ∷ []) r → IsLong K (all ++ u ∷ []) r
  IsLong-step all w r u before after = IsLong-more all w r (u ∷ []) before after

  -- a turn that ends the step, of an automaton whose link is alive there, ends it at the state of the text and the unit
  pub IsLong-turn : (dead : List ℕ → Type 0) (w : List ℕ) (u : ℕ) (c t : List ℕ) → IsCandidate w u c → (¬ dead c) → (IsPrefix K (c ++ u ∷ []) × (t ≡ c ++ u ∷ [])) ⊎ ((¬ IsPrefix K (c ++ u ∷ [])) × ((c ≡ []) ⊎ dead c) × (t ≡ [])) → IsLong K (w ++ u ∷ []) t
  IsLong-turn dead w u c t h alive (inl on) =
      let P : List ℕ → Type 0 = λ x. IsLong K (w ++ u ∷ []) x in subst P (sym on.1) (IsCandidate-goes_on w u c h on.0)
  IsLong-turn dead w u c t h alive (inr (stuck, inr bad, empty)) = absurd (alive bad)
  IsLong-turn dead w u c t h alive (inr (stuck, inl root, empty)) =
      let P : List ℕ → Type 0 = λ x. IsLong K (w ++ u ∷ []) x in
      let Q : List ℕ → Type 0 = λ x. IsCandidate w u x in
      let R : List ℕ → Type 0 = λ x. ¬ IsPrefix K (x ++ u ∷ []) in
      subst P (sym empty) (IsCandidate-stops w u (subst Q root h) (subst R root stuck))

  -- a unit that no key has leads to the root
  pub IsLong-no_label : (w : List ℕ) (u : ℕ) (t : List ℕ) → ((x : List ℕ) → ¬ IsPrefix K (x ++ u ∷ [])) → t ≡ [] → IsLong K (w ++ u ∷ []) t
  IsLong-no_label w u t none empty =
      let P : List ℕ → Type 0 = λ x. IsLong K (w ++ u ∷ []) x in
      subst P (sym empty) (record {
        ends = IsSuffix-nil (w ++ u ∷ []);
        begins = IsPrefix-nil;
        longest = λ s p q.
            elim (IsSuffix-of_push w s u p) [
              | inl e ↦ omega (arith, ap length e)
              | inr r ↦ absurd (none r.0 (let Q : List ℕ → Type 0 = λ x. IsPrefix K x in subst Q r.2 q))
            ];
      })

  -- there is one longest end
  pub IsLong-same : (w s t : List ℕ) → IsLong K w s → IsLong K w t → s ≡ t
  IsLong-same w s t p q =
      let fits : length s ≤ length t = q.longest s p.ends p.begins in
      IsSuffix-as_long s t (IsSuffix-of_longer w s t p.ends q.ends fits) (p.longest t q.ends q.begins)
