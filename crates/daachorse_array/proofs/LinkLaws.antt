-- Where all children have the links that what is near above their parents says, the links are right, and the other way round.
use Rattle.std.proofs.Common.{◌≡◌, ℕ, zero, suc, ◌<◌, ◌≤◌, ◌⊎◌, Bool, true, false, cond, List, [], ◌∷◌, ◌++◌, length, Option, Some, None}
use Rattle.std.proofs.Common.{is_some, refl, sym, ap, ◌∙◌, subst, inl, inr, arith, get_or}
use Rattle.std.proofs.lemmas.Option.{same_Some}
use Rattle.std.proofs.lemmas.Bool.{cases_Bool, cond_both, cond-true, cond-false, or_parts, or_from, false≢true}
use Rattle.daachorse_model.specs.Paths.{walk}
use Rattle.daachorse_model.proofs.Paths.{walk-push}
use Rattle.daachorse_array.specs.Links.{left_long, left_link, IsRankOf, IsLinkOf}
use Rattle.daachorse_array.specs.Ranks.{child, IsTrieOfRanks, HasLinks, LinksFall, stop}
use Rattle.daachorse_array.specs.Near.{up, near, top, or_top, right, root_value, IsChecked}
use Rattle.daachorse_array.proofs.ChildByLabel.{edge, back}
use Rattle.daachorse_array.proofs.NearLaws.{up_link, ups_fall, near_top, near_child, near_other}
use Rattle.daachorse_array.proofs.TopLaws.{or_top_some, top_end, top_next, top_low}
use Rattle.daachorse_array.proofs.TextLaws.{walk_later, root_text, one_text, text_of}
use Rattle.daachorse_array.proofs.LeftLaws.{left_state, left_next, left_root, dead_by_stop, dead_by_parent, link_by_walk, link_of_first}

module _ (parents labels : List ℕ) (stops : List Bool) (fails : List ℕ) (alphabet : ℕ) (trie : IsTrieOfRanks parents labels alphabet)
    (each : length fails ≡ length parents) where
  abbrev kid : ℕ → ℕ → Option ℕ
  kid = child parents labels

  abbrev n : ℕ
  n = length fails

  -- the ranks up to b have right links, which lead to earlier ranks or are dead
  abbrev Falls : ℕ → Type 0
  Falls b = (q : ℕ) → 0 < q → q ≤ b → q < length fails → (get_or fails q 0 < q) ⊎ (get_or fails q 0 ≡ length fails)

  abbrev Right : ℕ → Type 0
  Right b = (q : ℕ) → 0 < q → q ≤ b → q < length fails → IsLinkOf kid (stop stops) n q (get_or fails q 0)

  -- the link of a text of q and the label c
  abbrev value : ℕ → ℕ → ℕ
  value q c = or_top (near parents labels fails q c) (top stops fails q)

  abbrev LeadsNear : ℕ → ℕ → List ℕ → Type 0
  LeadsNear q c w = IsRankOf kid n (left_long kid (stop stops) (w ++ c ∷ [])) (value q c)

  reached_in : (w : List ℕ) (t : ℕ) → walk kid 0 w ≡ Some t → t < n
  reached_in [] t h = omega (arith, same_Some 0 t h, trie.order.some, each)
  reached_in (c ∷ cs) t h = omega (arith, (walk_later parents labels alphabet trie c cs t h).1, each)

  no_dead : (w : List ℕ) → walk kid 0 w ≡ Some n → ⊥
  no_dead w h = omega (arith, reached_in w n h)

  one : (t : ℕ) (v w : List ℕ) → walk kid 0 v ≡ Some t → walk kid 0 w ≡ Some t → v ≡ w
  one t v w h g = one_text parents labels alphabet trie v w t h g

  module _ (b : ℕ) (falls : Falls b) where
    value_child : (q c j : ℕ) → q ≤ b → q < n → kid q c ≡ Some j → value q c ≡ j
    value_child q c j le lt e =
        grind (
          arith,
          or_top_some,
          near_child parents labels fails alphabet trie each b falls q c j le lt e,
          back parents labels alphabet trie q c j e,
        )

    value_end : (q c : ℕ) → q ≤ b → q < n → kid q c ≡ None → up fails q ≡ n → value q c ≡ root_value stops n q
    value_end q c le lt e u =
        ap (λ x. or_top x (top stops fails q)) (near_other parents labels fails alphabet trie each b falls q c le lt e
        ∙ near_top parents labels fails alphabet trie each (up fails q) c u)
        ∙ top_end (up fails) stops n n q u

    value_next : (q c : ℕ) → q ≤ b → q < n → kid q c ≡ None → up fails q < q → value q c ≡ value (up fails q) c
    value_next q c le lt e u =
        ap (λ x. or_top x (top stops fails q)) (near_other parents labels fails alphabet trie each b falls q c le lt e)
        ∙ ap (λ t. or_top (near parents labels fails (up fails q) c) t) (top_next (up fails) stops n b (ups_fall fails b falls) q lt le u)

    hit : (q c j : ℕ) (w : List ℕ) → q ≤ b → q < n → walk kid 0 w ≡ Some q → kid q c ≡ Some j → LeadsNear q c w
    hit q c j w le lt h e =
        let to : walk kid 0 (w ++ c ∷ []) ≡ Some j = walk-push kid 0 w c q h ∙ e in
        let state : left_long kid (stop stops) (w ++ c ∷ []) ≡ Some (w ++ c ∷ []) =
        left_state kid (stop stops) n (w ++ c ∷ []) (ap is_some to) in
        let at : walk kid 0 (w ++ c ∷ []) ≡ Some (value q c) = to ∙ ap Some (sym (value_child q c j le lt e)) in
        subst (λ o. IsRankOf kid n o (value q c)) (sym state) at

    root_at : (c : ℕ) (w : List ℕ) → w ≡ [] → 0 < n → kid 0 c ≡ None → LeadsNear 0 c w
    root_at c w e lt none = subst (λ v. LeadsNear 0 c v) (sym e) (
        subst (λ o. IsRankOf kid n o (value 0 c)) (sym (left_root kid (stop stops) n c none))
        (subst (IsRankOf kid n (cond (stop stops 0) None (Some []))) (sym (value_end 0 c (omega arith) lt none refl)) (by (stop stops 0))))
      where
        by : (b : Bool) → IsRankOf kid n (cond b None (Some [])) (cond b n 0)
        by true = refl
        by false = refl

    module _ (links : Right b) where
      -- where links are right up to b, what is near q says where a text of q with the label leads
      pub near_leads : (k q c : ℕ) (w : List ℕ) (o : Option ℕ) → kid q c ≡ o → q ≤ k → q ≤ b → q < n → walk kid 0 w ≡ Some q
          → LeadsNear q c w
      near_leads k q c w (Some j) e hk le lt h = hit q c j w le lt h e
      near_leads k zero c w None e hk le lt h = root_at c w (root_text parents labels alphabet trie w h) lt e
      near_leads zero (suc q) c w None e hk le lt h = absurd (omega (arith, hk))
      near_leads (suc k) (suc q) c [] None e hk le lt h = absurd (omega (arith, same_Some 0 (suc q) h))
      near_leads (suc k) (suc q) c (d ∷ ds) None e hk le lt h =
          let f = get_or fails (suc q) 0 in
          let at = up_link fails (suc q) (omega arith) lt in
          elim (left_next kid (stop stops) n c (suc q) f d ds h e (links (suc q) (omega arith) le lt)) [
            | inl (dead, o) ↦
                let v : value (suc q) c ≡ n = value_end (suc q) c le lt e (at ∙ dead) in
                subst (λ o. IsRankOf kid n o (value (suc q) c)) (sym o) v
            | inr (u, to, o) ↦
                let low : f < n = reached_in u f to in
                let fall : f < suc q = elim (falls (suc q) (omega arith) le lt) [ inl x ↦ x | inr x ↦ absurd (omega (arith, x, low)) ] in
                let ih = near_leads k f c u (kid f c) refl (omega (arith, fall, hk)) (omega (arith, fall, le)) low to in
                let v : value (suc q) c ≡ value f c = value_next (suc q) c le lt e (omega (arith, at, fall)) ∙ ap (λ x. value x c) at in
                subst (λ x. IsRankOf kid n (left_long kid (stop stops) ((d ∷ ds) ++ c ∷ [])) x) (sym v)
                (subst (λ o. IsRankOf kid n o (value f c)) o ih)
          ]

      stopped : (p c m : ℕ) (v : List ℕ) → walk kid 0 v ≡ Some p → kid p c ≡ Some m → stop stops m ≡ true → IsLinkOf kid (stop stops) n m n
      stopped p c m (d ∷ ds) h edge' yes' = dead_by_stop kid (stop stops) n one no_dead p c m d ds h edge' yes'
      stopped p c m [] h edge' yes' =
          link_of_first kid (stop stops) n one no_dead c m n (ap (λ x. kid x c) (same_Some 0 p h) ∙ edge') (λ _. refl)
          (λ no'. absurd (false≢true (sym (or_parts (stop stops 0) (stop stops m) no').1 ∙ yes')))

      first : (c m r : ℕ) → kid 0 c ≡ Some m → stop stops m ≡ false → r ≡ root_value stops n 0 → IsLinkOf kid (stop stops) n m r
      first c m r edge' no' is =
          link_of_first kid (stop stops) n one no_dead c m r edge'
          (λ met. elim (cases_Bool (stop stops 0)) [
            | inl a ↦ is
                ∙ cond-true (stop stops 0) n 0 a
            | inr z ↦ absurd (false≢true (sym (or_from (stop stops 0) (stop stops m) z no') ∙ met))
          ])
          (λ unmet. is ∙ cond-false (stop stops 0) n 0 (or_parts (stop stops 0) (stop stops m) unmet).0)

      going : (p c m : ℕ) (v : List ℕ) → p ≤ b → p < n → walk kid 0 v ≡ Some p → kid p c ≡ Some m → stop stops m ≡ false
          → IsLinkOf kid (stop stops) n m (or_top (near parents labels fails (up fails p) c) (top stops fails p))
      going zero c m v le lt h edge' no' =
          first c m (or_top (near parents labels fails (up fails 0) c) (top stops fails 0)) edge' no'
          (ap (λ x. or_top x (top stops fails 0)) (near_top parents labels fails alphabet trie each (up fails 0) c refl)
          ∙ top_end (up fails) stops n n 0 refl)
      going (suc p) c m [] le lt h edge' no' = absurd (omega (arith, same_Some 0 (suc p) h))
      going (suc p) c m (d ∷ ds) le lt h edge' no' =
          let f = get_or fails (suc p) 0 in
          let at = up_link fails (suc p) (omega arith) lt in
          let link = links (suc p) (omega arith) le lt in
          elim (falls (suc p) (omega arith) le lt) [
            | inr dead ↦
                let r : or_top (near parents labels fails (up fails (suc p)) c) (top stops fails (suc p)) ≡ n =
                ap (λ x. or_top x (top stops fails (suc p)))
                (near_top parents labels fails alphabet trie each (up fails (suc p)) c (at ∙ dead))
                ∙ top_end (up fails) stops n n (suc p) (at ∙ dead) in
                subst (λ x. IsLinkOf kid (stop stops) n m x) (sym r)
                (dead_by_parent kid (stop stops) n one no_dead (suc p) c m d ds h edge'
                (subst (λ x. IsLinkOf kid (stop stops) n (suc p) x) dead link))
            | inl fall ↦
                let r : or_top (near parents labels fails (up fails (suc p)) c) (top stops fails (suc p)) ≡ value f c =
                ap (λ t. or_top (near parents labels fails (up fails (suc p)) c) t)
                (top_next (up fails) stops n b (ups_fall fails b falls) (suc p) lt le (omega (arith, at, fall)))
                ∙ ap (λ x. value x c) at in
                subst (λ x. IsLinkOf kid (stop stops) n m x) (sym r)
                (link_by_walk kid (stop stops) n one no_dead (suc p) c m f (value f c) d ds h edge'
                (λ z. omega (arith, z, fall, lt)) no' link
                (λ x hx. near_leads f f c x (kid f c) refl (omega arith) (omega (arith, fall, le)) (omega (arith, fall, lt)) hx))
          ]

      -- what the link of rank m has to be, where those of its parent and of the ranks before are right
      pub right_link : (m : ℕ) → 0 < m → m < length parents → get_or parents m 0 ≤ b
          → IsLinkOf kid (stop stops) n m (right parents labels stops fails (get_or parents m 0) m (get_or labels m 0))
      right_link m pos lt le =
          let p = get_or parents m 0 in
          let c = get_or labels m 0 in
          let early = trie.order.earlier m pos lt in
          let text = text_of parents labels alphabet trie p (omega (arith, early, lt)) in
          let edge' = edge parents labels alphabet trie m pos lt in
          cond_both (stop stops m) n (or_top (near parents labels fails (up fails p) c) (top stops fails p))
          (λ x. IsLinkOf kid (stop stops) n m x)
          (λ yes'. stopped p c m text.0 text.1 edge' yes')
          (λ no'. going p c m text.0 le (omega (arith, early, lt, each)) text.1 edge' no')

  -- ---- sound
  module _ (falls : LinksFall fails) (checked : (p : ℕ) → p < length fails → IsChecked parents labels stops fails p) where
    right_to : (b : ℕ) → Right b
    right_to zero q pos le lt = absurd (omega arith)
    right_to (suc b) q pos le lt =
        let early = trie.order.earlier q pos (omega (arith, lt, each)) in
        subst (λ f. IsLinkOf kid (stop stops) n q f)
        (sym (checked (get_or parents q 0) (omega (arith, early, lt)) q pos (omega (arith, lt, each)) refl))
        (right_link b (λ r low _ high. falls r low high) (right_to b) q pos (omega (arith, lt, each)) (omega (arith, early, le)))

    pub sound : HasLinks parents labels stops fails
    sound t u w h =
        let in' = walk_later parents labels alphabet trie u w t h in
        right_to t t in'.0 (omega arith) (omega (arith, in'.1, each)) u w h

  -- ---- complete
  one_state : (o : Option (List ℕ)) (f r : ℕ) → IsRankOf kid n o f → IsRankOf kid n o r → f ≡ r
  one_state None f r h g = h ∙ sym g
  one_state (Some x) f r h g = same_Some f r (sym h ∙ g)

  module _ (links : HasLinks parents labels stops fails) where
    exact_at : (m r : ℕ) (w : List ℕ) → 0 < m → walk kid 0 w ≡ Some m → IsLinkOf kid (stop stops) n m r → get_or fails m 0 ≡ r
    exact_at m r [] pos h is = absurd (omega (arith, same_Some 0 m h))
    exact_at m r (u ∷ w) pos h is = one_state (left_link kid (stop stops) u w) (get_or fails m 0) r (links m u w h) (is u w h)

    exact : (b : ℕ) → Falls b → (m : ℕ) → 0 < m → m < length parents → get_or parents m 0 ≤ b
        → get_or fails m 0 ≡ right parents labels stops fails (get_or parents m 0) m (get_or labels m 0)
    exact b falls m pos lt le =
        let text = text_of parents labels alphabet trie m lt in
        exact_at m (right parents labels stops fails (get_or parents m 0) m (get_or labels m 0)) text.0 pos text.1
        (right_link b falls (λ q _ _ _. links q) m pos lt le)

    abbrev Low : ℕ → ℕ → Type 0
    Low q x = (x ≡ 0) ⊎ ((x < length parents) × (0 < x) × (get_or parents x 0 ≤ q))

    -- what is near q is nothing, or a child of q or of an earlier rank
    low_by : (b : ℕ) → Falls b → (k q c : ℕ) (o : Option ℕ) → kid q c ≡ o → q ≤ k → q ≤ b → q < length fails
        → Low q (near parents labels fails q c)
    low_by b falls k q c (Some j) e hk le lt =
        let is = near_child parents labels fails alphabet trie each b falls q c j le lt e in
        let r = back parents labels alphabet trie q c j e in
        rw is (inr (r.1, r.0, omega (arith, r.2)))
    low_by b falls k zero c None e hk le lt =
        inl (near_other parents labels fails alphabet trie each b falls 0 c le lt e
        ∙ near_top parents labels fails alphabet trie each (up fails 0) c refl)
    low_by b falls zero (suc q) c None e hk le lt = absurd (omega (arith, hk))
    low_by b falls (suc k) (suc q) c None e hk le lt =
        let is = near_other parents labels fails alphabet trie each b falls (suc q) c le lt e in
        elim (ups_fall fails b falls (suc q) le lt) [
          | inr dead ↦ inl (is ∙ near_top parents labels fails alphabet trie each (up fails (suc q)) c dead)
          | inl fall ↦ elim (low_by b falls k (up fails (suc q)) c (kid (up fails (suc q)) c) refl (omega (arith, fall, hk))
              (omega (arith, fall, le)) (omega (arith, fall, lt))) [
                | inl z ↦ inl (is ∙ z)
                | inr r ↦ inr (omega (arith, is, r.0), omega (arith, is, r.1), omega (arith, ap (λ i. get_or parents i 0) is, r.2, fall))
              ]
        ]

    none_falls : (m p x : ℕ) → 0 < m → x ≡ 0 → (or_top x (top stops fails p) < m) ⊎ (or_top x (top stops fails p) ≡ length fails)
    none_falls m p x pos z = let low = top_low (up fails) stops n (suc n) p in grind arith

    some_falls : (m p x : ℕ) → 0 < m → m < length parents → get_or parents m 0 ≡ p → x < length parents → 0 < x → get_or parents x 0 < p
        → (or_top x (top stops fails p) < m) ⊎ (or_top x (top stops fails p) ≡ length fails)
    some_falls m p x pos lt e hx px low = grind (arith, or_top_some x, trie.order.rising m x pos)

    fall_at : (b m p c : ℕ) → Falls b → 0 < m → m < length parents → get_or parents m 0 ≡ p → p ≤ b → p < length fails
        → (or_top (near parents labels fails (up fails p) c) (top stops fails p) < m)
        ⊎ (or_top (near parents labels fails (up fails p) c) (top stops fails p) ≡ length fails)
    fall_at b m p c falls pos lt e le hp =
        elim (ups_fall fails b falls p le hp) [
          | inr dead ↦ none_falls m p (near parents labels fails (up fails p) c) pos
              (near_top parents labels fails alphabet trie each (up fails p) c dead)
          | inl fall ↦ elim (low_by b falls (up fails p) (up fails p) c (kid (up fails p) c) refl (omega arith) (omega (arith, fall, le))
              (omega (arith, fall, hp))) [
                | inl z ↦ none_falls m p (near parents labels fails (up fails p) c) pos z
                | inr r ↦ some_falls m p (near parents labels fails (up fails p) c) pos lt e r.0 r.1 (omega (arith, r.2, fall))
              ]
        ]

    right_falls_at : (b m : ℕ) → Falls b → 0 < m → m < length parents → get_or parents m 0 ≤ b → (get_or fails m 0 < m)
        ⊎ (get_or fails m 0 ≡ length fails)
    right_falls_at b m falls pos lt le =
        let p = get_or parents m 0 in
        let c = get_or labels m 0 in
        subst (λ f. (f < m) ⊎ (f ≡ length fails)) (sym (exact b falls m pos lt le)) (
        cond_both (stop stops m) n (or_top (near parents labels fails (up fails p) c) (top stops fails p))
        (λ f. (f < m) ⊎ (f ≡ length fails))
        (λ _. inr refl) (λ _. fall_at b m p c falls pos lt refl le (omega (arith, trie.order.earlier m pos lt, lt, each))))

    falls_to : (b : ℕ) → Falls b
    falls_to zero q pos le lt = absurd (omega arith)
    falls_to (suc b) q pos le lt =
        let lt' : q < length parents = omega (arith, lt, each) in
        right_falls_at b q (falls_to b) pos lt' (omega (arith, trie.order.earlier q pos lt', le))

    -- right links lead to earlier ranks, or are dead
    pub right_falls : LinksFall fails
    right_falls m pos lt = falls_to m m pos (omega arith) lt

    -- right links are what is near above the parents
    pub right_checked : (p : ℕ) → IsChecked parents labels stops fails p
    right_checked p m pos lt e =
        subst (λ q. get_or fails m 0 ≡ right parents labels stops fails q m (get_or labels m 0)) e
        (exact (length fails) (λ r low _ high. right_falls r low high) m pos lt (omega (arith, trie.order.earlier m pos lt, lt, each)))
