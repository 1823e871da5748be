-- How the link of a child is found in leftmost searches.
use Rattle.std.proofs.Common.{◌≡◌, ◌≢◌, ℕ, ◌<◌, ◌⊎◌, Bool, true, false, cond, List, [], ◌∷◌, ◌++◌, Option, Some, None, option_and_then, is_some, refl, sym, ap, ◌∙◌, subst, inl, inr, arith, unwrap_or}
use Rattle.std.specs.Prelude.{option_map, ◌||◌}
use Rattle.std.proofs.lemmas.Option.{none-some, same_Some}
use Rattle.std.proofs.lemmas.Bool.{cases_Bool, cond_both, cond-true, cond-false, false≢true, or_parts}
use Rattle.daachorse_model.specs.Paths.{walk, is_reached}
use Rattle.daachorse_model.specs.Prefixes.{long}
use Rattle.daachorse_model.proofs.Booleans.{or-none}
use Rattle.daachorse_model.proofs.Paths.{walk-push, is_reached-push}
use Rattle.daachorse_build.specs.Trie.{IsTrie, IsFailOf}
use Rattle.daachorse_build.specs.Left.{meets, long_unless_stop, left_link, IsStateOf, IsLeftFailOf}
use Rattle.daachorse_build.proofs.Walks.{label_of, walk-same, walk-bounds}

module _ {A : Type 0} (child : ℕ → A → Option ℕ) (stops : ℕ → Bool) where
  -- a label that leads nowhere meets nothing more
  meets_other : (s : ℕ) (w : List A) (c : A) → is_some (walk child s (w ++ c ∷ [])) ≡ false → meets child stops s (w ++ c ∷ []) ≡ meets child stops s w
  meets_other s [] c h =
      elim (child s c) as (λ o. is_some (option_and_then (λ t. Some t) o) ≡ false → (stops s || unwrap_or (option_map (λ t. stops t) o) false) ≡ stops s)
      [ None ↦ λ _. or-none (stops s) | Some t ↦ λ k. absurd (false≢true (sym k)) ] h
  meets_other s (a ∷ as') c h =
      elim (child s a) as (λ o. is_some (option_and_then (λ t. walk child t (as' ++ c ∷ [])) o) ≡ false → (stops s || unwrap_or (option_map (λ t. meets child stops t (as' ++ c ∷ [])) o) false) ≡ (stops s || unwrap_or (option_map (λ t. meets child stops t as') o) false))
      [ None ↦ λ _. refl | Some t ↦ λ k. ap (λ b. stops s || b) (meets_other t as' c k) ] h

  -- a label more, to a state
  meets_push : (s : ℕ) (w : List A) (c : A) (u t : ℕ) → walk child s w ≡ Some u → child u c ≡ Some t → meets child stops s (w ++ c ∷ []) ≡ (meets child stops s w || stops t)
  meets_push s [] c u t h e =
      let at : child s c ≡ Some t = ap (λ x. child x c) (same_Some s u h) ∙ e in
      ap (λ o. stops s || unwrap_or (option_map (λ x. stops x) o) false) at
  meets_push s (a ∷ as') c u t h e =
      elim (child s a) as (λ o. option_and_then (λ x. walk child x as') o ≡ Some u → (stops s || unwrap_or (option_map (λ x. meets child stops x (as' ++ c ∷ [])) o) false) ≡ ((stops s || unwrap_or (option_map (λ x. meets child stops x as') o) false) || stops t)) [
        | None ↦ λ k. absurd (none-some u k)
        | Some x ↦ λ k. ap (λ b. stops s || b) (meets_push x as' c u t k e) ∙ or_assoc (stops s) (meets child stops x as') (stops t)
      ] h
    where
      or_assoc : (p q r : Bool) → (p || (q || r)) ≡ ((p || q) || r)
      or_assoc true q r = refl
      or_assoc false q r = refl

  left_state : (w : List A) → is_reached child w ≡ true → long_unless_stop child stops w ≡ Some w
  left_state [] h = refl
  left_state (c ∷ cs) h = cond-true _ _ _ h

  -- ---- one label more
  -- what a text stands for, after a label more
  abbrev after : A → Option (List A) → Option (List A)
  after c o = option_and_then (λ x. long_unless_stop child stops (x ++ c ∷ [])) o

  none_before : (m stop : Bool) (c : A) (o : Option (List A)) → cond (m || stop) None (after c o) ≡ cond stop None (after c (cond m None o))
  none_before true true c o = refl
  none_before true false c o = refl
  none_before false stop c o = refl

  -- where the text is no state's, the label comes after its link
  skip_by : (d : A) (ds : List A) (c : A) → long_unless_stop child stops (ds ++ c ∷ []) ≡ after c (long_unless_stop child stops ds) → is_reached child ((d ∷ ds) ++ c ∷ []) ≡ false → long_unless_stop child stops ((d ∷ ds) ++ c ∷ []) ≡ after c (left_link child stops d ds)
  skip_by d ds c rest missing =
      cond-false _ _ _ missing
      ∙ ap (λ b. cond b None (long_unless_stop child stops (ds ++ c ∷ []))) (meets_other 0 (d ∷ ds) c missing ∙ sym (or-none (meets child stops 0 (d ∷ ds))))
      ∙ ap (cond (meets child stops 0 (d ∷ ds) || false) None) rest
      ∙ none_before (meets child stops 0 (d ∷ ds)) false c (long_unless_stop child stops ds)

  left_push : (w : List A) (c : A) → long_unless_stop child stops (w ++ c ∷ []) ≡ after c (long_unless_stop child stops w)
  left_push [] c = refl
  left_push (a ∷ as') c =
      elim (cases_Bool (is_reached child (a ∷ as'))) [
        | inl state ↦ sym (ap (after c) (left_state (a ∷ as') state))
        | inr other ↦ skip_by a as' c (left_push as' c) (is_reached-push child (a ∷ as') c other) ∙ sym (ap (after c) (cond-false _ _ _ other))
      ]

  -- the link of a child: none where the child stops, and else what its parent's link stands for after the label
  link_push : (s : ℕ) (c : A) (t : ℕ) (d : A) (ds : List A) → walk child 0 (d ∷ ds) ≡ Some s → child s c ≡ Some t → left_link child stops d (ds ++ c ∷ []) ≡ cond (stops t) None (after c (left_link child stops d ds))
  link_push s c t d ds at edge =
      ap (λ b. cond b None (long_unless_stop child stops (ds ++ c ∷ []))) (meets_push 0 (d ∷ ds) c s t at edge)
      ∙ ap (cond (meets child stops 0 (d ∷ ds) || stops t) None) (left_push ds c)
      ∙ none_before (meets child stops 0 (d ∷ ds)) (stops t) c (long_unless_stop child stops ds)

  -- what a link that is alive stands for
  some_of : (o : Option (List A)) (f : ℕ) → IsStateOf child o f → f ≢ 1 → (x : List A) × (o ≡ Some x) × (walk child 0 x ≡ Some f)
  some_of None f is ne = absurd (ne is)
  some_of (Some x) f is ne = (x, refl, is)

  state_along : (o q : Option (List A)) (t : ℕ) → o ≡ q → IsStateOf child o t → IsStateOf child q t
  state_along o q t e h = let P : Option (List A) → Type 0 = λ x. IsStateOf child x t in subst P e h

  -- ---- in a trie
  module _ (n : ℕ) (trie : IsTrie child n) where
    -- id has what the label leads to from start, for each text of start
    abbrev pub LeadsAs : ℕ → A → ℕ → Type 0
    LeadsAs start c id =
        (w : List A) → walk child 0 w ≡ Some start → (v : List A) × (walk child 0 v ≡ Some id) × (long_unless_stop child stops (v ++ c ∷ []) ≡ long_unless_stop child stops (w ++ c ∷ []))

    -- t is what the label leads to from start and its links
    abbrev pub LeadsTo : ℕ → A → ℕ → Type 0
    LeadsTo start c t = (w : List A) → walk child 0 w ≡ Some start → IsStateOf child (long_unless_stop child stops (w ++ c ∷ [])) t

    -- a dead link stands for no text
    none_of : (o : Option (List A)) (f : ℕ) → IsStateOf child o f → f ≡ 1 → o ≡ None
    none_of None f is e = refl
    none_of (Some x) f is e = absurd ((walk-bounds child n trie x f is).1 e)

    -- a state has one text, and its link is found at that
    link_at : (t r : ℕ) (d : A) (ds : List A) → walk child 0 (d ∷ ds) ≡ Some t → IsStateOf child (left_link child stops d ds) r → IsLeftFailOf child stops t r
    link_at t r d ds at is e es h =
        let same = walk-same child n trie (e ∷ es) (d ∷ ds) t h at in
        let head : e ≡ d = cc in
        let tail : es ≡ ds = cc in
        rw (head, tail) is

    -- a child of the root
    pub link_of_first : (c : A) (t r : ℕ) → child 0 c ≡ Some t → ((stops 0 || stops t) ≡ true → r ≡ 1) → ((stops 0 || stops t) ≡ false → r ≡ 0) → IsLeftFailOf child stops t r
    link_of_first c t r edge dead alive =
        let met = meets_push 0 [] c 0 t refl edge in
        link_at t r c [] (walk-push child 0 [] c 0 refl ∙ edge)
        (elim (cases_Bool (stops 0 || stops t)) [
          | inl yes' ↦ state_along None _ r (sym (cond-true _ _ _ (met ∙ yes'))) (dead yes')
          | inr no' ↦ state_along (Some []) _ r (sym (cond-false _ _ _ (met ∙ no'))) (ap Some (sym (alive no')))
        ])

    -- a child is dead where its parent's link is, or where it stops
    pub link_dead : (s : ℕ) (c : A) (t f : ℕ) → 1 < s → child s c ≡ Some t → IsLeftFailOf child stops s f → (f ≡ 1) ⊎ (stops t ≡ true) → IsLeftFailOf child stops t 1
    link_dead s c t f low edge link why =
        let b = trie.bounds s c t edge in
        let (d, ds, at) = label_of child n trie s low (omega (arith, b.0, b.3)) in
        let o = left_link child stops d ds in
        let none : cond (stops t) None (after c o) ≡ None = elim why [
          | inl dead ↦ ap (λ p. cond (stops t) None (after c p)) (none_of o f (link d ds at) dead) ∙ cond_both (stops t) None None (λ p. p ≡ None) (λ _. refl) (λ _. refl)
          | inr stop ↦ cond-true _ _ _ stop
        ] in
        link_at t 1 d (ds ++ c ∷ []) (walk-push child 0 (d ∷ ds) c s at ∙ edge) (state_along None _ 1 (sym (link_push s c t d ds at edge ∙ none)) refl)

    -- else it is what the label leads to from there
    pub link_alive : (s : ℕ) (c : A) (t f r : ℕ) → 1 < s → child s c ≡ Some t → f ≢ 1 → stops t ≡ false → IsLeftFailOf child stops s f → LeadsTo f c r → IsLeftFailOf child stops t r
    link_alive s c t f r low edge ne go link to =
        let b = trie.bounds s c t edge in
        let (d, ds, at) = label_of child n trie s low (omega (arith, b.0, b.3)) in
        let x = some_of (left_link child stops d ds) f (link d ds at) ne in
        link_at t r d (ds ++ c ∷ []) (walk-push child 0 (d ∷ ds) c s at ∙ edge)
        (state_along _ _ r (sym (link_push s c t d ds at edge ∙ cond-false _ _ _ go ∙ ap (after c) x.1)) (to x.0 x.2))

    -- along the links of a state, none of which is dead so far, the root doesn't stop
    pub root_goes : (s f : ℕ) → 1 < s → s < n → f ≢ 1 → IsLeftFailOf child stops s f → stops 0 ≡ false
    root_goes s f low high ne link =
        let (d, ds, at) = label_of child n trie s low high in
        elim (cases_Bool (meets child stops 0 (d ∷ ds))) [
          | inl yes' ↦ absurd (ne (state_along _ None f (cond-true _ _ _ yes') (link d ds at)))
          | inr no' ↦ (or_parts (stops 0) _ no').0
        ]

    pub leads_hit : (start : ℕ) (c : A) (id t : ℕ) → LeadsAs start c id → child id c ≡ Some t → LeadsTo start c t
    leads_hit start c id t same e w h =
        let v = same w h in
        let to : walk child 0 (v.0 ++ c ∷ []) ≡ Some t = walk-push child 0 v.0 c id v.1 ∙ e in
        state_along _ _ t (sym (left_state (v.0 ++ c ∷ []) (ap is_some to)) ∙ v.2) to

    pub leads_root : (start : ℕ) (c : A) → LeadsAs start c 0 → child 0 c ≡ None → stops 0 ≡ false → LeadsTo start c 0
    leads_root start c same none go w h =
        let v = same w h in
        let nil : v.0 ≡ [] = walk-same child n trie v.0 [] 0 v.1 refl in
        let missing : is_reached child (c ∷ []) ≡ false = ap is_some (walk-push child 0 [] c 0 refl ∙ none) in
        let root : long_unless_stop child stops (c ∷ []) ≡ Some [] = cond-false _ _ _ missing ∙ cond-false _ _ _ (meets_other 0 [] c missing ∙ go) in
        state_along (Some []) _ 0 (sym root ∙ sym (ap (λ x. long_unless_stop child stops (x ++ c ∷ [])) nil) ∙ v.2) refl

    -- at the root: its child by the label, and the root where there is none
    pub leads_from_root : (start : ℕ) (c : A) (o : Option ℕ) → child 0 c ≡ o → LeadsAs start c 0 → stops 0 ≡ false → LeadsTo start c (unwrap_or o 0)
    leads_from_root start c None e same go = leads_root start c same e go
    leads_from_root start c (Some t) e same go = leads_hit start c 0 t same e

    -- one step, from a state whose link is known
    left_next : (c : A) (id f : ℕ) (v : List A) → walk child 0 v ≡ Some id → id ≢ 0 → child id c ≡ None → IsLeftFailOf child stops id f → (o : Option (List A)) × IsStateOf child o f × (long_unless_stop child stops (v ++ c ∷ []) ≡ after c o)
    left_next c id f [] at ne none link = absurd (ne (sym (same_Some 0 id at)))
    left_next c id f (d ∷ ds) at ne none link =
        (left_link child stops d ds, link d ds at, skip_by d ds c (left_push ds c) (ap is_some (walk-push child 0 (d ∷ ds) c id at ∙ none)))

    pub leads_dead : (start : ℕ) (c : A) (id f : ℕ) → LeadsAs start c id → id ≢ 0 → child id c ≡ None → IsLeftFailOf child stops id f → f ≡ 1 → LeadsTo start c 1
    leads_dead start c id f same ne none link dead w h =
        let v = same w h in
        let o = left_next c id f v.0 v.1 ne none link in
        state_along None _ 1 (sym (o.2 ∙ ap (after c) (none_of o.0 f o.1 dead)) ∙ v.2) refl

    pub leads_next : (start : ℕ) (c : A) (id f : ℕ) → LeadsAs start c id → id ≢ 0 → child id c ≡ None → IsLeftFailOf child stops id f → f ≢ 1 → LeadsAs start c f
    leads_next start c id f same ne none link alive w h =
        let v = same w h in
        let o = left_next c id f v.0 v.1 ne none link in
        let x = some_of o.0 f o.1 alive in
        (x.0, x.2, sym (o.2 ∙ ap (after c) x.1) ∙ v.2)

-- ---- where no state stops, leftmost links are the standard ones
module _ {A : Type 0} (child : ℕ → A → Option ℕ) (stops : ℕ → Bool) (never : (s : ℕ) → stops s ≡ false) where
  pub meets_never : (s : ℕ) (w : List A) → meets child stops s w ≡ false
  meets_never s [] = never s
  meets_never s (c ∷ w) =
      ap (λ b. b || unwrap_or (option_map (λ t. meets child stops t w) (child s c)) false) (never s)
      ∙ (elim (child s c) as (λ o. unwrap_or (option_map (λ t. meets child stops t w) o) false ≡ false) [ None ↦ refl | Some t ↦ meets_never t w ])

  some_cond : (b : Bool) (x y : List A) → cond b (Some x) (Some y) ≡ Some (cond b x y)
  some_cond true x y = refl
  some_cond false x y = refl

  long_never : (w : List A) → long_unless_stop child stops w ≡ Some (long (is_reached child) w)
  long_never [] = refl
  long_never (c ∷ w) =
      ap (cond (is_reached child (c ∷ w)) (Some (c ∷ w))) (cond-false _ _ _ (meets_never 0 (c ∷ w)) ∙ long_never w)
      ∙ some_cond (is_reached child (c ∷ w)) (c ∷ w) (long (is_reached child) w)

  pub fail_of_left : (t f : ℕ) → IsLeftFailOf child stops t f → IsFailOf child t f
  fail_of_left t f link c w h =
      let P : Option (List A) → Type 0 = λ o. IsStateOf child o f in
      subst P (cond-false _ _ _ (meets_never 0 (c ∷ w)) ∙ long_never w) (link c w h)

  -- a standard link is not dead
  pub alive : (n : ℕ) → IsTrie child n → (t f : ℕ) → 1 < t → t < n → IsLeftFailOf child stops t f → f ≢ 1
  alive n trie t f low high link =
      let (c, w, at) = label_of child n trie t low high in
      (walk-bounds child n trie (long (is_reached child) w) f (fail_of_left t f link c w at)).1

  pub left_of_fail : (t f : ℕ) → IsFailOf child t f → IsLeftFailOf child stops t f
  left_of_fail t f link c w h =
      let P : Option (List A) → Type 0 = λ o. IsStateOf child o f in
      subst P (sym (cond-false _ _ _ (meets_never 0 (c ∷ w)) ∙ long_never w)) (link c w h)
