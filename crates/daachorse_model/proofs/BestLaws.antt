-- A leftmost scan keeps the best occurrence, and knows when it is final: past a candidate that is stuck at the root or at a dead link nothing starts as early.
use Rattle.std.proofs.Common.{◌≡◌, ◌≢◌, ℕ, ◌+◌, ◌<◌, ◌≤◌, ◌⊎◌, inl, inr, List, [], ◌∷◌, ◌++◌, map, length, Option, Some, None, refl, sym, ap, ◌∙◌, subst, append_assoc, append-nil, length-append, arith}
use Rattle.daachorse_model.specs.Units.{size}
use Rattle.daachorse_model.specs.Dictionary.{Dictionary}
use Rattle.daachorse_model.specs.Prefixes.{IsSuffix, IsKey, IsPrefix, IsLong, IsLink, Occurs, StartsBefore, IsDead}
use Rattle.daachorse_model.specs.Outputs.{own_outputs, IsChain, at_root, at_dead, before_link}
use Rattle.daachorse_model.specs.Best.{IsBest, IsBestSoFar, IsSteady, LeftSteps, IsLeftmost}
use Rattle.daachorse_model.proofs.Suffixes.{le_or_lt, IsSuffix-nil, IsSuffix-same, IsSuffix-through, IsSuffix-length, IsSuffix-of_longer, IsSuffix-as_long}
use Rattle.daachorse_model.proofs.Steps.{IsPrefix-less, IsPrefix-key, IsLong-nil, IsCandidate, IsCandidate-first, IsCandidate-link, IsCandidate-goes_on, IsCandidate-stops, IsLong-step}
use Rattle.daachorse_model.proofs.Links.{none_before}
use Rattle.daachorse_model.proofs.Occurrences.{split_after, occurs_length, occurs_in_end, occurs_push, occurs_more, none_before-link, none_before-goes_on}

module _ {V : Type 0} (K : Dictionary V) where
  pub IsSteady-nil : IsSteady K [] []
  IsSteady-nil = record { long = IsLong-nil K; none = λ early. omega (arith, early.4) }

  -- what a candidate is in a leftmost step
  pub record IsLeftCandidate (w t : List ℕ) (u : ℕ) (c : List ℕ) : Type 0 where
    pub candidate : IsCandidate K t u c
    pub none : (¬ StartsBefore K w c)

  pub IsLeftCandidate-first : (w t : List ℕ) (u : ℕ) → IsSteady K w t → IsLeftCandidate w t u t
  IsLeftCandidate-first w t u h = record { candidate = IsCandidate-first K t u; none = h.none }

  pub IsLeftCandidate-link : (w t : List ℕ) (u : ℕ) (c s : List ℕ) → IsSteady K w t → IsLeftCandidate w t u c → (¬ IsPrefix K (c ++ u ∷ [])) → (¬ IsDead K c) → IsLink K c s → IsLeftCandidate w t u s
  IsLeftCandidate-link w t u c s steady h stuck alive link = record {
    candidate = IsCandidate-link K t u c s h.candidate stuck link;
    none = none_before-link K w c s (IsSuffix-through c t w h.candidate.ends steady.long.ends) h.none link alive;
  }

  -- a step that goes on stays steady
  pub IsSteady-goes_on : (w t : List ℕ) (u : ℕ) (c : List ℕ) → IsLong K (w ++ u ∷ []) (c ++ u ∷ []) → (¬ StartsBefore K w c) → IsSteady K (w ++ u ∷ []) (c ++ u ∷ [])
  IsSteady-goes_on w t u c long none = record {
    long = long;
    none = none_before-goes_on K w u c long none;
  }

  -- The best is final where a candidate that is stuck is the root or has a dead link: nothing that goes on past the unit starts as early.
  pub IsBest-final : (w t : List ℕ) (u : ℕ) (c best key rest : List ℕ) → IsSteady K w t → IsCandidate K t u c → (¬ IsPrefix K (c ++ u ∷ [])) → (c ≡ []) ⊎ IsDead K c → IsBest K w best key → IsBest K (w ++ u ∷ rest) best key
  IsBest-final w t u c best key rest steady h stuck stops is = record {
    rest = is.rest ++ u ∷ rest;
    occurs = occurs_more K w best key is.rest (u ∷ rest) is.occurs;
    least = λ a k b o. later a k b o;
  }
    where
      -- a key that goes on past the unit from an end d of w starts later
      past : (a d : List ℕ) → a ++ d ≡ w → IsPrefix K (d ++ u ∷ []) → length best < length a
      past a d e begins =
          let ends = IsSuffix-through c t w h.ends steady.long.ends in
          let in_t : IsSuffix d t = IsSuffix-of_longer w d t (a, e) steady.long.ends (steady.long.longest d (a, e) (IsPrefix-less K d (u ∷ []) begins)) in
          let fits : length d ≤ length c = h.above d in_t begins in
          elim (le_or_lt (length c) (length d)) [
            | inl as_long ↦
                let is_c : c ≡ d = IsSuffix-as_long c d (IsSuffix-of_longer t c d h.ends in_t as_long) fits in
                absurd (stuck (let P : List ℕ → Type 0 = λ x. IsPrefix K (x ++ u ∷ []) in subst P (sym is_c) begins))
            | inr less ↦
                elim stops [
                  | inl root ↦ absurd (omega (arith, ap length root))
                  | inr dead ↦
                      let in_c : IsSuffix d c = IsSuffix-of_longer t d c in_t h.ends fits in
                      let short : length d ≤ length dead.0 = dead.1.longest d in_c less (IsPrefix-less K d (u ∷ []) begins) in
                      let early = dead.2 in
                      let here = is.least (ends.0 ++ early.0) early.1 early.2 (occurs_in_end K w c early.0 early.1 early.2 ends early.3) in
                      let at_most : length best ≤ length (ends.0 ++ early.0) = elim here [ inl p ↦ omega arith | inr q ↦ omega (arith, q.0) ] in
                      omega (arith, at_most, early.4, short, length-append ends.0 early.0, ap length ends.1, length-append ends.0 c, ap length e, length-append a d)
                ]
          ]

      begins_past : (d x k b : List ℕ) → IsKey K k → k ≡ d ++ x → u ∷ rest ≡ x ++ b → length d < length k → IsPrefix K (d ++ u ∷ [])
      begins_past d [] k b key is_k e more = absurd (omega (arith, ap length is_k, length-append d []))
      begins_past d (y ∷ x) k b key is_k e more =
          let heads : u ≡ y = cc in
          let P : List ℕ → Type 0 = λ z. IsPrefix K z in
          let is : k ≡ (d ++ u ∷ []) ++ x = is_k ∙ (ap (λ z. d ++ z ∷ x) (sym heads) ∙ sym (append_assoc d (u ∷ []) x)) in
          IsPrefix-less K (d ++ u ∷ []) x (subst P is (IsPrefix-key K k key))

      later : (a k b : List ℕ) → Occurs K (w ++ u ∷ rest) a k b → (length best < length a) ⊎ ((length best ≡ length a) × (length k ≤ length key))
      later a k b o =
          let parts : a ++ (k ++ b) ≡ w ++ u ∷ rest = sym o.parts in
          elim (le_or_lt (length (a ++ k)) (length w)) [
            | inl inside ↦
                let r = split_after (a ++ k) b w (u ∷ rest) (append_assoc a k b ∙ parts) inside in
                is.least a k r.0 (record { parts = r.1 ∙ append_assoc a k r.0; key = o.key })
            | inr over ↦
                elim (le_or_lt (length a) (length w)) [
                  | inl starts ↦
                      let r = split_after a (k ++ b) w (u ∷ rest) parts starts in
                      let more : length r.0 < length k = omega (arith, over, ap length r.1, length-append a r.0, length-append a k) in
                      let q = split_after r.0 (u ∷ rest) k b (sym r.2) (omega (arith, more)) in
                      inl (past a r.0 (sym r.1) (begins_past r.0 q.0 k b o.key q.1 q.2 more))
                  | inr behind ↦ inl (omega (arith, behind, occurs_length K w best key is.rest is.occurs))
                ]
          ]

  -- where nothing occurs so far, a scan that is stuck goes on at the root
  stuck_none : (w t : List ℕ) (u : ℕ) (c : List ℕ) → IsSteady K w t → IsCandidate K t u c → (¬ IsPrefix K (c ++ u ∷ [])) → (c ≡ []) ⊎ IsDead K c → IsBestSoFar K w None → IsSteady K (w ++ u ∷ []) [] × IsBestSoFar K (w ++ u ∷ []) None
  stuck_none w t u c steady h stuck (inr dead) none =
      let ends = IsSuffix-through c t w h.ends steady.long.ends in
      let early = dead.2 in
      absurd (none (ends.0 ++ early.0) early.1 early.2 (occurs_in_end K w c early.0 early.1 early.2 ends early.3))
  stuck_none w t u c steady h stuck (inl root) none =
      let P : List ℕ → Type 0 = λ x. IsCandidate K t u x in
      let Q : List ℕ → Type 0 = λ x. ¬ IsPrefix K (x ++ u ∷ []) in
      let long : IsLong K (w ++ u ∷ []) [] = IsLong-step K w t [] u steady.long (IsCandidate-stops K t u (subst P root h) (subst Q root stuck)) in
      let clear : IsBestSoFar K (w ++ u ∷ []) None =
      λ a k b o. elim (occurs_push K w a k b u o) [
        | inl p ↦ none [] [] w (record { parts = refl; key = is_empty k (long.longest k p.1 (IsPrefix-key K k o.key)) o.key })
        | inr q ↦ none a k q.0 q.2
      ] in
      (record { long = long; none = λ early. clear early.0 early.1 early.2 early.3 }, clear)
    where
      is_empty : (k : List ℕ) → length k ≤ 0 → IsKey K k → K [] ≢ []
      is_empty [] fits key = key
      is_empty (x ∷ k) fits key = absurd (omega arith)

  -- a turn that ends a leftmost step
  pub LeftSteps-turn : (dead : List ℕ → Type 0) → IsLeftmost K dead → (w t : List ℕ) (u : ℕ) (c r : List ℕ) → IsSteady K w t → IsLeftCandidate w t u c → (IsPrefix K (c ++ u ∷ []) × (r ≡ c ++ u ∷ [])) ⊎ ((¬ IsPrefix K (c ++ u ∷ [])) × ((c ≡ []) ⊎ dead c) × (r ≡ [])) → LeftSteps K w u r
  LeftSteps-turn dead kind w t u c r steady h (inl on) =
      let P : List ℕ → Type 0 = λ x. IsSteady K (w ++ u ∷ []) x × (x ≢ []) in
      inl (subst P (sym on.1) (IsSteady-goes_on w t u c (IsLong-step K w t (c ++ u ∷ []) u steady.long (IsCandidate-goes_on K t u c h.candidate on.0)) h.none, λ e. omega (arith, ap length e, length-append c (u ∷ []))))
  LeftSteps-turn dead kind w t u c r steady h (inr (stuck, stops, empty)) =
      let ends : (c ≡ []) ⊎ IsDead K c = elim stops [ inl e ↦ inl e | inr d ↦ inr ((kind c).0 d) ] in
      inr (empty, record { best = λ a k rest is. IsBest-final w t u c a k rest steady h.candidate stuck ends is; none = λ none. stuck_none w t u c steady h.candidate stuck ends none })

  -- at a unit that no key has, a step stops
  pub LeftSteps-foreign : (w t : List ℕ) (u : ℕ) (r : List ℕ) → IsSteady K w t → ((x : List ℕ) → ¬ IsPrefix K (x ++ u ∷ [])) → r ≡ [] → LeftSteps K w u r
  LeftSteps-foreign w t u r steady none empty =
      let h : IsCandidate K t u [] = record { ends = IsSuffix-nil t; above = λ s p begins. absurd (none s begins) } in
      inr (empty, record { best = λ a k rest is. IsBest-final w t u [] a k rest steady h (none []) (inl refl) is; none = λ clear. stuck_none w t u [] steady h (none []) (inl refl) clear })

module _ {V : Type 0} (width : ℕ → ℕ) (K : Dictionary V) where
  -- what the outputs of a steady state tell of the keys that end where the units end
  abbrev pub Told : List ℕ → List (V × ℕ) → Type 0
  Told w [] = (k : List ℕ) → IsSuffix k w → IsKey K k → (a : List ℕ) × (k' : List ℕ) × (b : List ℕ) × Occurs K w a k' b × (0 < length b) × (length a + length k < length w)
  Told w (o ∷ l) = (k : List ℕ) × IsSuffix k w × (¬ StartsBefore K w k) × (o.1 ≡ size width k) × ((vs : List V) × (K k ≡ o.0 ∷ vs))

  told_from : (w t : List ℕ) (vs : List V) (l : List (V × ℕ)) → K t ≡ vs → IsSuffix t w → (¬ StartsBefore K w t) → (K t ≡ [] → Told w l) → Told w (map (λ v. (v, size width t)) vs ++ l)
  told_from w t [] l e ends none rest = rest e
  told_from w t (v ∷ vs) l e ends none rest = (t, ends, none, refl, (vs, e))

  -- a key that ends where w ends is shorter than t, which is no key
  shorter : (w t k : List ℕ) → IsSuffix t w → IsSuffix k w → length k ≤ length t → K t ≡ [] → IsKey K k → length k < length t
  shorter w t k ends here fits none key =
      elim (le_or_lt (length t) (length k)) [
        | inl as_long ↦
            let is_t : t ≡ k = IsSuffix-as_long t k (IsSuffix-of_longer w t k ends here as_long) fits in
            absurd (key (sym (ap K is_t) ∙ none))
        | inr less ↦ less
      ]

  -- what occurs at a dead link ends before the text does
  ends_before : (t s a k b : List ℕ) → IsLink K t s → Occurs K t a k b → length a + length s < length t → K t ≡ [] → 0 < length b
  ends_before t s a k [] link o less none =
      let here : IsSuffix k t = (a, ap (λ x. a ++ x) (sym (append-nil k)) ∙ sym o.parts) in
      let fits : length k ≤ length t = IsSuffix-length k t here in
      let short : length k ≤ length s = link.longest k here (shorter t t k (IsSuffix-same t) here fits none o.key) (IsPrefix-key K k o.key) in
      absurd (omega (arith, short, less, occurs_length K t a k [] o))
  ends_before t s a k (x ∷ b) link o less none = omega arith

  told : {dead : List ℕ → Type 0} → IsLeftmost K dead → {t : List ℕ} {l : List (V × ℕ)} → IsChain width K dead t l → (w : List ℕ) → IsSuffix t w → (¬ StartsBefore K w t) → ((k : List ℕ) → IsSuffix k w → IsKey K k → length k ≤ length t) → Told w l
  told kind at_root w ends none within =
      let P : List (V × ℕ) → Type 0 = λ l. Told w l in
      subst P (append-nil (own_outputs width K [])) (told_from w [] (K []) [] refl ends none (λ empty. λ k here key. absurd (key (is_empty k (within k here key) empty))))
    where
      is_empty : (k : List ℕ) → length k ≤ 0 → K [] ≡ [] → K k ≡ []
      is_empty [] fits e = e
      is_empty (x ∷ k) fits e = absurd (omega arith)
  told kind (at_dead {w = t} is_dead) w ends none within =
      let dead : IsDead K t = (kind t).0 is_dead in
      let P : List (V × ℕ) → Type 0 = λ l. Told w l in
      let early = dead.2 in
      subst P (append-nil (own_outputs width K t)) (told_from w t (K t) [] refl ends none (λ empty. λ k here key.
      let less : length k < length t = shorter w t k ends here (within k here key) empty key in
      let short : length k ≤ length dead.0 = dead.1.longest k (IsSuffix-of_longer w k t here ends (within k here key)) less (IsPrefix-key K k key) in (
        ends.0 ++ early.0,
        early.1,
        early.2,
        occurs_in_end K w t early.0 early.1 early.2 ends early.3,
        ends_before t dead.0 early.0 early.1 early.2 dead.1 early.3 early.4 empty,
        omega (arith, short, early.4, length-append ends.0 early.0, ap length ends.1, length-append ends.0 t),
      )))
  told kind (before_link {w = t} {s} {l} link live chain) w ends none within =
      told_from w t (K t) l refl ends none (λ empty. told kind chain w (IsSuffix-through s t w link.ends ends) (none_before-link K w t s ends none link (λ d. live ((kind t).1 d))) (λ k here key.
      link.longest k (IsSuffix-of_longer w k t here ends (within k here key)) (shorter w t k ends here (within k here key) empty key) (IsPrefix-key K k key)))

  pub Told-IsSteady : (dead : List ℕ → Type 0) → IsLeftmost K dead → (w t : List ℕ) (l : List (V × ℕ)) → IsSteady K w t → IsChain width K dead t l → Told w l
  Told-IsSteady dead kind w t l steady chain = told kind chain w steady.long.ends steady.none (λ k here key. steady.long.longest k here (IsPrefix-key K k key))

  -- with no output, the best so far stays
  pub IsBestSoFar-keeps : (w : List ℕ) (u : ℕ) (old : Option (List ℕ × List ℕ)) → Told (w ++ u ∷ []) [] → IsBestSoFar K w old → IsBestSoFar K (w ++ u ∷ []) old
  IsBestSoFar-keeps w u None tells none =
      λ a k b o. elim (occurs_push K w a k b u o) [
        | inl p ↦
            let early = tells k p.1 o.key in
            elim (occurs_push K w early.0 early.1 early.2 u early.3) [ inl q ↦ absurd (omega (arith, ap length q.0, early.4)) | inr q ↦ none early.0 early.1 q.0 q.2 ]
        | inr q ↦ none a k q.0 q.2
      ]
  IsBestSoFar-keeps w u (Some best) tells is = record {
    rest = is.rest ++ u ∷ [];
    occurs = occurs_more K w best.0 best.1 is.rest (u ∷ []) is.occurs;
    least = λ a k b o.
        elim (occurs_push K w a k b u o) [
          | inl p ↦
              let early = tells k p.1 o.key in
              elim (occurs_push K w early.0 early.1 early.2 u early.3) [
                | inl q ↦ absurd (omega (arith, ap length q.0, early.4))
                | inr q ↦
                    let at_most : length best.0 ≤ length early.0 = elim (is.least early.0 early.1 q.0 q.2) [ inl x ↦ omega arith | inr y ↦ omega (arith, y.0) ] in
                    inl (omega (arith, at_most, early.5, ap length p.0, occurs_length K (w ++ u ∷ []) a k b o))
              ]
          | inr q ↦ is.least a k q.0 q.2
        ];
  }

  -- and an output is the new best
  pub IsBest-new : (w : List ℕ) (o : V × ℕ) (l : List (V × ℕ)) → (tells : Told w (o ∷ l)) → IsBest K w tells.1.0 tells.0
  IsBest-new w o l tells =
      let k = tells.0 in let ends = tells.1 in let values = tells.4 in
      let key : IsKey K k = λ none. (let bad : o.0 ∷ values.0 ≡ [] = sym values.1 ∙ none in cc) in
      record {
        rest = [];
        occurs = record { parts = sym ends.1 ∙ ap (λ x. ends.0 ++ x) (sym (append-nil k)); key = key };
        least = λ a' k' b' o'.
            let whole : length w ≡ length ends.0 + length k = ap length (sym ends.1) ∙ length-append ends.0 k in
            let parts = occurs_length K w a' k' b' o' in
            let none = none_before K w k tells.2 a' k' b' o' in
            elim (le_or_lt (length a') (length ends.0)) [ inl p ↦ inr (omega (arith, whole, none, p), omega (arith, whole, none, parts, p)) | inr q ↦ inl q ];
      }
