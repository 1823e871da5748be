-- Where keys occur in a text that grows by one unit: an occurrence ends with that unit, or was there before.
use Rattle.std.proofs.Common.{◌≡◌, ℕ, ◌+◌, ◌≤◌, ◌⊎◌, inl, inr, List, [], ◌∷◌, ◌++◌, length, refl, sym, ap, ◌∙◌, append_assoc, append-nil, length-append, arith}
use Rattle.daachorse_model.specs.Dictionary.{Dictionary}
use Rattle.daachorse_model.specs.Prefixes.{IsSuffix, IsLong, IsLink, Occurs, StartsBefore, IsDead}
use Rattle.daachorse_model.proofs.Suffixes.{le_or_lt}
use Rattle.daachorse_model.proofs.Steps.{IsPrefix-key}
use Rattle.daachorse_model.proofs.Links.{none_before, none_before-back}

-- two splits of one text, where the first front is no longer
pub split_after : (f c a x : List ℕ) → f ++ c ≡ a ++ x → length f ≤ length a → (d : List ℕ) × (a ≡ f ++ d) × (c ≡ d ++ x)
split_after [] c a x e h = (a, refl, e)
split_after (y ∷ f) c [] x e h = absurd (omega arith)
split_after (y ∷ f) c (z ∷ a) x e h =
    let r = split_after f c a x (cc) (omega arith) in
    (r.0, (let heads : z ≡ y = cc in ap (λ v. v ∷ a) heads ∙ ap (λ v. y ∷ v) r.1), r.2)

-- a part of a text with one more unit ends with it, or before it
last_split : (f w s : List ℕ) (u : ℕ) → f ++ s ≡ w ++ u ∷ [] → (s ≡ []) ⊎ ((t : List ℕ) × (s ≡ t ++ u ∷ []) × (f ++ t ≡ w))
last_split f w s u e = elim (le_or_lt (length f) (length w)) [
  | inl fits ↦ let r = split_after f s w (u ∷ []) e fits in inr (r.0, r.2, sym r.1)
  | inr over ↦ inl (empty s (omega (arith, over, ap length e, length-append f s, length-append w (u ∷ []))))
]
  where
    empty : (s : List ℕ) → length s ≤ 0 → s ≡ []
    empty [] h = refl
    empty (x ∷ s) h = absurd (omega arith)

module _ {V : Type 0} (K : Dictionary V) where
  pub occurs_length : (w a k b : List ℕ) → Occurs K w a k b → length w ≡ length a + (length k + length b)
  occurs_length w a k b o = ap length o.parts ∙ (length-append a (k ++ b) ∙ ap (λ n. length a + n) (length-append k b))

  -- an occurrence in an end of w is one in w
  pub occurs_in_end : (w c a k b : List ℕ) → (ends : IsSuffix c w) → Occurs K c a k b → Occurs K w (ends.0 ++ a) k b
  occurs_in_end w c a k b ends o = record { parts = sym ends.1 ∙ (ap (λ x. ends.0 ++ x) o.parts ∙ sym (append_assoc ends.0 a (k ++ b))); key = o.key }

  pub occurs_push : (w a k b : List ℕ) (u : ℕ) → Occurs K (w ++ u ∷ []) a k b → ((b ≡ []) × IsSuffix k (w ++ u ∷ [])) ⊎ ((rest : List ℕ) × (b ≡ rest ++ u ∷ []) × Occurs K w a k rest)
  occurs_push w a k b u o =
      elim (last_split (a ++ k) w b u (append_assoc a k b ∙ sym o.parts)) [
        | inl none ↦ inl (none, (a, ap (λ x. a ++ x) (sym (append-nil k) ∙ ap (λ x. k ++ x) (sym none)) ∙ sym o.parts))
        | inr q ↦ inr (q.0, q.1, record { parts = sym q.2 ∙ append_assoc a k q.0; key = o.key })
      ]

  -- an occurrence stays one where the text goes on
  pub occurs_more : (w a k b more : List ℕ) → Occurs K w a k b → Occurs K (w ++ more) a k (b ++ more)
  occurs_more w a k b more o = record {
    parts = ap (λ x. x ++ more) o.parts ∙ (append_assoc a (k ++ b) more ∙ ap (λ x. a ++ x) (append_assoc k b more));
    key = o.key;
  }

  -- where no key starts before the end c, and its link s is not dead, none starts before s
  pub none_before-link : (w c s : List ℕ) → IsSuffix c w → (¬ StartsBefore K w c) → IsLink K c s → (¬ IsDead K c) → ¬ StartsBefore K w s
  none_before-link w c s ends none link alive early =
      let o = early.3 in
      let whole : length w ≡ length ends.0 + length c = ap length (sym ends.1) ∙ length-append ends.0 c in
      let r = split_after ends.0 c early.0 (early.1 ++ early.2) (ends.1 ∙ o.parts) (omega (arith, none_before K w c none early.0 early.1 early.2 o, whole)) in
      alive (s, link, (r.0, early.1, early.2, record { parts = r.2; key = o.key }, omega (arith, early.4, whole, ap length r.1, length-append ends.0 r.0)))

  -- a step to a longest end before whose start no key started leads to one before which none starts
  pub none_before-goes_on : (w : List ℕ) (u : ℕ) (c : List ℕ) → IsLong K (w ++ u ∷ []) (c ++ u ∷ []) → (¬ StartsBefore K w c) → ¬ StartsBefore K (w ++ u ∷ []) (c ++ u ∷ [])
  none_before-goes_on w u c long none = none_before-back K (w ++ u ∷ []) (c ++ u ∷ []) each
    where
      each : (a k b : List ℕ) → Occurs K (w ++ u ∷ []) a k b → length (w ++ u ∷ []) ≤ length a + length (c ++ u ∷ [])
      each a k b o =
          let all = occurs_length (w ++ u ∷ []) a k b o in
          elim (occurs_push w a k b u o) [
            | inl p ↦ omega (arith, all, ap length p.0, long.longest k p.1 (IsPrefix-key K k o.key))
            | inr q ↦ omega (arith, none_before K w c none a k q.0 q.2, length-append w (u ∷ []), length-append c (u ∷ []))
          ]
