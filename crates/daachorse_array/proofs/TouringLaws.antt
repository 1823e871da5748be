-- The steps of a tour.
use Rattle.std.proofs.Common.{◌≡◌, ◌≢◌, ℕ, zero, suc, ◌+◌, ◌<◌, ◌≤◌, ◌⊎◌, ◌==◌, Bool, cond, List, [], ◌∷◌, length, refl, sym, ap, ◌∙◌}
use Rattle.std.proofs.Common.{subst, inl, inr, arith, get_or}
use Rattle.std.proofs.lemmas.List.{nil_from_length}
use Rattle.std.proofs.lemmas.Bool.Decides.{nat_tests}
use Rattle.daachorse_array.specs.Ranks.{IsTrieOfRanks, LinksFall}
use Rattle.daachorse_array.specs.Near.{up, top, above, IsAbove, AreNear, IsChecked, IsSaved}
use Rattle.daachorse_array.specs.Tours.{IsThreaded, IsTour, IsTouring}
use Rattle.daachorse_array.proofs.NearLaws.{up_past, ups_fall, near_top}
use Rattle.daachorse_array.proofs.TopLaws.{top_next}

module _ (up : ℕ → ℕ) where
  above_above : (i j p : ℕ) → above up j (above up i p) ≡ above up (i + j) p
  above_above zero j p = let e : 0 + j ≡ j = omega arith in ap (λ k. above up k p) (sym e)
  above_above (suc i) j p = let e : suc i + j ≡ suc (i + j) = omega arith in above_above i j (up p) ∙ ap (λ k. above up k p) (sym e)

  above_top : (n : ℕ) → up n ≡ n → (k : ℕ) → above up k n ≡ n
  above_top n top zero = refl
  above_top n top (suc k) = ap (λ x. above up k x) top ∙ above_top n top k

  -- another rank above one is above its link
  pub above_next : (here to : ℕ) → IsAbove up to here → here ≢ to → IsAbove up to (up here)
  above_next here to (zero, e) ne = absurd (ne e)
  above_next here to (suc k, e) ne = (k, e)

module _ (fails : List ℕ) where
  above_end : (k : ℕ) → above (up fails) k (length fails) ≡ length fails
  above_end k = above_top (up fails) (length fails) (up_past fails (length fails) (omega arith)) k

  -- a rank with another above it is not the top
  pub not_top : (here to : ℕ) → here ≤ length fails → IsAbove (up fails) to here → here ≢ to → here < length fails
  not_top here to le s ne = omega (
    arith,
    le,
    λ (e : here ≡ length fails).
        ne (e ∙ sym (above_end s.0) ∙ ap (λ x. above (up fails) s.0 x) (sym e) ∙ s.1),
  )

  -- a rank with a rank above it is not the top
  not_top_of : (here to : ℕ) → here ≤ length fails → IsAbove (up fails) to here → to ≢ length fails → here < length fails
  not_top_of here to le s ne = omega (
    arith,
    le,
    λ (e : here ≡ length fails).
        ne (sym s.1 ∙ ap (λ x. above (up fails) s.0 x) e ∙ above_end s.0),
  )

module _ {parents labels : List ℕ} {stops : List Bool} {fails : List ℕ} {alphabet : ℕ} (trie : IsTrieOfRanks parents labels alphabet)
    (each : length fails ≡ length parents) where
  pub touring_start : (next array saved : List ℕ) → IsTour (up fails) (length fails) next (length fails)
      → ((c : ℕ) → c < length array → get_or array c 0 ≡ 0) → IsTouring parents labels stops fails next array saved 0 (length fails)
      (get_or next (length fails) 0) (length fails)
  touring_start next array saved tour zeros = record {
    rest = tour.list;
    linked = tour.linked;
    count = omega (arith, tour.count);
    below = tour.below;
    each = λ x lt. inl (tour.all x lt);
    near = λ c lt. zeros c lt ∙ sym (near_top parents labels fails alphabet trie each (length fails) c refl);
    path = λ j m pos lt is. absurd (omega (arith, trie.order.earlier m pos lt, lt, is, above_end fails j, each));
    low = omega arith;
    comes = tour.steps (length fails) (omega arith);
    other = λ lt. absurd (omega (arith, lt));
  }

  module _ {next array saved : List ℕ} {k here p t : ℕ} (touring : IsTouring parents labels stops fails next array saved k here p t) where
    -- the next is a rank
    pub next_in : k < length fails → p < length fails
    next_in lt = (elim touring.rest as (λ xs. touring.rest ≡ xs → p < length fails) [
      | [] ↦ λ is. absurd (omega (arith, touring.count, ap length is, lt))
      | x ∷ xs ↦ λ is. omega (arith, (rw is at touring.linked).0, touring.below x (rw is (inl refl)))
    ]) refl

    -- whose link is above the last
    pub next_above : k < length fails → IsAbove (up fails) (up fails p) here
    next_above lt = elim touring.comes [ inl e ↦ absurd (omega (arith, e, next_in lt)) | inr s ↦ s ]

    path_to : (q : ℕ) → IsAbove (up fails) q here → (j : ℕ) → IsSaved parents labels fails saved (above (up fails) j q)
    path_to q (i, e) j =
        subst (λ x. IsSaved parents labels fails saved x) (sym (above_above (up fails) i j here) ∙ ap (λ x. above (up fails) j x) e)
        (touring.path (i + j))

    path_next : (saved' : List ℕ) → ((q : ℕ) → IsSaved parents labels fails saved q → IsSaved parents labels fails saved' q)
        → k < length fails → IsSaved parents labels fails saved' p → (j : ℕ) → IsSaved parents labels fails saved' (above (up fails) j p)
    path_next saved' kept lt done zero = done
    path_next saved' kept lt done (suc j) = kept (above (up fails) j (up fails p)) (path_to (up fails p) (next_above lt) j)

    top_above : LinksFall fails → (i h q : ℕ) → h < length fails → above (up fails) i h ≡ q → q < length fails
        → top stops fails h ≡ top stops fails q
    top_above falls zero h q lt e low = ap (top stops fails) e
    top_above falls (suc i) h q lt e low =
        elim (ups_fall fails h (λ r pos _ high. falls r pos high) h (omega arith) lt) [
          | inr z ↦ absurd (omega (arith, low, sym e ∙ ap (λ x. above (up fails) i x) z ∙ above_end fails i))
          | inl z ↦ top_next (up fails) stops (length fails) h (ups_fall fails h (λ r pos _ high. falls r pos high)) h lt (omega arith) z
              ∙ top_above falls i (up fails h) q (omega (arith, z, lt)) e low
        ]

    -- where the next rank's link is a rank, it has the same top
    pub same_other : LinksFall fails → k < length fails → up fails p ≢ length fails → t ≡ top stops fails p
    same_other falls lt ne =
        let low = next_in lt in
        let at = next_above lt in
        let fall : up fails p < p = elim (ups_fall fails p (λ r pos _ high. falls r pos high) p (omega arith) low) [
          | inl z ↦ z
          | inr z ↦
              absurd (ne z)
        ] in
        let in' : here < length fails = not_top_of fails here (up fails p) touring.low at ne in
        touring.other in' ∙ top_above falls at.0 here (up fails p) in' at.1 (omega (arith, fall, low))
        ∙ sym (top_next (up fails) stops (length fails) p (ups_fall fails p (λ r pos _ high. falls r pos high)) p low
        (omega arith) fall)

    -- the next rank is entered
    pub touring_step : IsTour (up fails) (length fails) next (length fails) → (array' saved' : List ℕ) (t' : ℕ) → k < length fails
        → IsChecked parents labels stops fails p → AreNear parents labels fails array' p → IsSaved parents labels fails saved' p →
        ((q : ℕ) → IsSaved parents labels fails saved q → IsSaved parents labels fails saved' q) → t' ≡ top stops fails p
        → IsTouring parents labels stops fails next array' saved' (k + 1) p (get_or next p 0) t'
    touring_step tour array' saved' t' lt done near' mine kept other' = at touring.rest refl
      where
        at : (xs : List ℕ) → touring.rest ≡ xs → IsTouring parents labels stops fails next array' saved' (k + 1) p (get_or next p 0) t'
        at [] is = absurd (omega (arith, touring.count, ap length is, lt))
        at (x ∷ xs) is =
            let linked = rw is at touring.linked in
            record {
              rest = xs;
              linked = subst (λ z. IsThreaded next (length fails) (get_or next z 0) xs) (sym linked.0) linked.1;
              count = omega (arith, touring.count, ap length is);
              below = λ y h. touring.below y (rw is (inr h));
              each = λ y h. elim (rw is at (touring.each y h)) [
                | inl a ↦ elim a [
                  | inl g ↦ inr (subst (λ z. IsChecked parents labels stops fails z) (linked.0 ∙ sym g) done)
                  | inr b ↦
                      inl b
                ]
                | inr b ↦ inr b
              ];
              near = near';
              path = path_next saved' kept lt mine;
              low = omega (arith, next_in lt);
              comes = tour.steps p (omega (arith, next_in lt));
              other = λ _. other';
            }

    -- at the end each rank was entered
    pub touring_end : length fails ≤ k → (x : ℕ) → x < length fails → IsChecked parents labels stops fails x
    touring_end le x lt = elim (touring.each x lt) [
      | inl h ↦ absurd (rw (nil_from_length touring.rest (omega (arith, touring.count, le))) at h)
      | inr checked ↦ checked
    ]

-- the way back gets shorter
pub shorter : (n here next : ℕ) → here < n → (next < here) ⊎ (next ≡ n) → cond (next == n) 0 (suc next) < cond (here == n) 0 (suc here)
shorter n here next lt fall = grind (arith, nat_tests)
