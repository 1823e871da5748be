-- How the link of a child is found: a text that grows by a unit meets one key more, or leads on from its longest end.
use Rattle.std.proofs.Common.{◌≡◌, ◌≢◌, ℕ, ◌⊎◌, Bool, true, false, cond, List, [], ◌∷◌, ◌++◌, Option, Some, None, is_some, refl, sym, ap}
use Rattle.std.proofs.Common.{◌∙◌, subst, inl, inr, append_assoc, arith}
use Rattle.std.specs.Prelude.{◌||◌}
use Rattle.std.proofs.lemmas.Bool.{cases_Bool, cond-true, cond-false}
use Rattle.daachorse_model.specs.Dictionary.{Dictionary}
use Rattle.daachorse_model.specs.Paths.{walk, is_reached}
use Rattle.daachorse_model.specs.Prefixes.{is_key, key_begins, left_fail}
use Rattle.daachorse_model.proofs.Booleans.{or-none}
use Rattle.daachorse_model.proofs.Paths.{walk-push, is_reached-push}
use Rattle.daachorse_array.specs.Links.{value_at, keys, met, left_long, left_link, IsRankOf, IsLinkOf}

-- a key that begins w and a unit begins w, or is both
pub key_begins-push : {V : Type 0} (K : Dictionary V) (t w : List ℕ) (c : ℕ)
    → key_begins K t (w ++ c ∷ []) ≡ (key_begins K t w || is_key K (t ++ (w ++ c ∷ [])))
key_begins-push K t [] c = grind arith
key_begins-push K t (a ∷ w) c =
    let rest = key_begins-push K (t ++ a ∷ []) w c ∙ ap (λ v. key_begins K (t ++ a ∷ []) w || is_key K v)
    (append_assoc t (a ∷ []) (w ++ c ∷ [])) in
    grind arith

module _ (child : ℕ → ℕ → Option ℕ) (stops : ℕ → Bool) (dead : ℕ) where
  -- whether there is a value
  abbrev pub some_value : List Bool → Bool
  some_value vs = is_key (λ (_ : List ℕ). vs) []

  pub value_at-stops : (b : Bool) → some_value (cond b (true ∷ []) []) ≡ b
  value_at-stops true = refl
  value_at-stops false = refl

  -- a rank stops where its text is a key
  pub key_at : (w : List ℕ) (i : ℕ) → walk child 0 w ≡ Some i → is_key (keys child stops) w ≡ stops i
  key_at w i h = ap (λ o. some_value (value_at child stops o)) h ∙ value_at-stops (stops i)

  no_value : (o : Option ℕ) → is_some o ≡ false → some_value (value_at child stops o) ≡ false
  no_value None h = refl
  no_value (Some i) h = cc

  -- what leads nowhere is no key
  pub key_out : (w : List ℕ) → is_reached child w ≡ false → is_key (keys child stops) w ≡ false
  key_out w h = no_value (walk child 0 w) h

  pub met_empty : met child stops [] ≡ stops 0
  met_empty = key_at [] 0 refl

  -- a unit that leads nowhere meets nothing more
  pub meets_other : (w : List ℕ) (c : ℕ) → is_reached child (w ++ c ∷ []) ≡ false → met child stops (w ++ c ∷ []) ≡ met child stops w
  meets_other w c h = key_begins-push (keys child stops) [] w c ∙ ap (λ b. met child stops w || b) (key_out (w ++ c ∷ []) h)
      ∙ or-none (met child stops w)

  -- a unit more, to a rank
  pub meets_push : (w : List ℕ) (c s t : ℕ) → walk child 0 w ≡ Some s → child s c ≡ Some t
      → met child stops (w ++ c ∷ []) ≡ (met child stops w || stops t)
  meets_push w c s t h e = key_begins-push (keys child stops) [] w c
      ∙ ap (λ b. met child stops w || b) (key_at (w ++ c ∷ []) t (walk-push child 0 w c s h ∙ e))

  -- ---- the three cases of a text
  pub left_state : (w : List ℕ) → is_reached child w ≡ true → left_long child stops w ≡ Some w
  left_state [] h = refl
  left_state (c ∷ cs) h = cond-true _ _ _ h

  pub left_met : (c : ℕ) (cs : List ℕ) → is_reached child (c ∷ cs) ≡ false → met child stops (c ∷ cs) ≡ true
      → left_long child stops (c ∷ cs) ≡ None
  left_met c cs h k = cond-false _ _ _ h ∙ cond-true _ _ _ k

  pub left_rest : (c : ℕ) (cs : List ℕ) → is_reached child (c ∷ cs) ≡ false → met child stops (c ∷ cs) ≡ false
      → left_long child stops (c ∷ cs) ≡ left_long child stops cs
  left_rest c cs h k = cond-false _ _ _ h ∙ cond-false _ _ _ k

  -- ---- one unit more
  abbrev after : Option (List ℕ) → ℕ → Option (List ℕ)
  after None c = None
  after (Some x) c = left_long child stops (x ++ c ∷ [])

  left_step : (a : ℕ) (as' : List ℕ) (c : ℕ) → left_long child stops (as' ++ c ∷ []) ≡ after (left_long child stops as') c
      → left_long child stops ((a ∷ as') ++ c ∷ []) ≡ after (left_long child stops (a ∷ as')) c
  left_step a as' c ih =
      elim (cases_Bool (is_reached child (a ∷ as'))) [
        | inl reached ↦ sym (ap (λ o. after o c) (left_state (a ∷ as') reached))
        | inr other ↦
            let more = is_reached-push child (a ∷ as') c other in
            let met' = meets_other (a ∷ as') c more in
            elim (cases_Bool (met child stops (a ∷ as'))) [
              | inl yes' ↦ left_met a (as' ++ c ∷ []) more (met' ∙ yes') ∙ sym (ap (λ o. after o c) (left_met a as' other yes'))
              | inr no' ↦ left_rest a (as' ++ c ∷ []) more (met' ∙ no') ∙ ih ∙ sym (ap (λ o. after o c) (left_rest a as' other no'))
            ]
      ]

  left_push : (w : List ℕ) (c : ℕ) → left_long child stops (w ++ c ∷ []) ≡ after (left_long child stops w) c
  left_push [] c = refl
  left_push (a ∷ as') c = left_step a as' c (left_push as' c)

  -- ---- the walk along the links
  -- one step, from a rank whose link is known
  at_option : (d : ℕ) (ds : List ℕ) (c : ℕ) (f : ℕ) (o : Option (List ℕ)) → left_long child stops ds ≡ o → IsRankOf child dead o f
      → left_long child stops ((d ∷ ds) ++ c ∷ []) ≡ left_long child stops (ds ++ c ∷ [])
      → ((f ≡ dead) × (left_long child stops ((d ∷ ds) ++ c ∷ []) ≡ None))
      ⊎ ((u : List ℕ) × (walk child 0 u ≡ Some f) × (left_long child stops (u ++ c ∷ []) ≡ left_long child stops ((d ∷ ds) ++ c ∷ [])))
  at_option d ds c f None e is rest = inl (is, rest ∙ left_push ds c ∙ ap (λ o. after o c) e)
  at_option d ds c f (Some x) e is rest = inr (x, is, sym (rest ∙ left_push ds c ∙ ap (λ o. after o c) e))

  pub left_next : (c : ℕ) (id f : ℕ) (d : ℕ) (ds : List ℕ) → walk child 0 (d ∷ ds) ≡ Some id → child id c ≡ None
      → IsLinkOf child stops dead id f → ((f ≡ dead) × (left_long child stops ((d ∷ ds) ++ c ∷ []) ≡ None))
      ⊎ ((u : List ℕ) × (walk child 0 u ≡ Some f) × (left_long child stops (u ++ c ∷ []) ≡ left_long child stops ((d ∷ ds) ++ c ∷ [])))
  left_next c id f d ds at none link =
      let missing : is_reached child ((d ∷ ds) ++ c ∷ []) ≡ false = ap is_some (walk-push child 0 (d ∷ ds) c id at ∙ none) in
      let met' = meets_other (d ∷ ds) c missing in
      let P : Option (List ℕ) → Type 0 = λ o. IsRankOf child dead o f in
      elim (cases_Bool (met child stops (d ∷ ds))) [
        | inl yes' ↦ inl (subst P (cond-true _ _ _ yes') (link d ds at), left_met d (ds ++ c ∷ []) missing (met' ∙ yes'))
        | inr no' ↦ at_option d ds c f (left_long child stops ds) refl (subst P (cond-false _ _ _ no') (link d ds at))
            (left_rest d (ds ++ c ∷ []) missing (met' ∙ no'))
      ]

  -- at the root
  pub left_root : (c : ℕ) → child 0 c ≡ None → left_long child stops (c ∷ []) ≡ cond (stops 0) None (Some [])
  left_root c none =
      let missing : is_reached child (c ∷ []) ≡ false = ap is_some (walk-push child 0 [] c 0 refl ∙ none) in
      cond-false _ _ _ missing ∙ ap (λ b. cond b None (Some [])) (meets_other [] c missing ∙ met_empty)

  -- ---- the link of a child of s, whose link is f
  module _ (one : (t : ℕ) (v w : List ℕ) → walk child 0 v ≡ Some t → walk child 0 w ≡ Some t → v ≡ w)
      (no_dead : (w : List ℕ) → walk child 0 w ≡ Some dead → ⊥) where
    link_text : (t r d : ℕ) (ds : List ℕ) → walk child 0 (d ∷ ds) ≡ Some t → IsRankOf child dead (left_link child stops d ds) r
        → IsLinkOf child stops dead t r
    link_text t r d ds at is e es h =
        subst (λ (w : List ℕ). IsRankOf child dead (left_fail (keys child stops) (is_reached child) w) r) (one t (d ∷ ds) (e ∷ es) at h) is

    link_push : (s c t d : ℕ) (ds : List ℕ) → walk child 0 (d ∷ ds) ≡ Some s → child s c ≡ Some t
        → left_link child stops d (ds ++ c ∷ []) ≡ cond (stops t) None (after (left_link child stops d ds) c)
    link_push s c t d ds at edge =
        ap (λ b. cond b None (left_long child stops (ds ++ c ∷ []))) (meets_push (d ∷ ds) c s t at edge)
        ∙ ap (λ o. cond (met child stops (d ∷ ds) || stops t) None o) (left_push ds c) ∙ by (met child stops (d ∷ ds)) (stops t)
      where
        by : (b e : Bool) → cond (b || e) None (after (left_long child stops ds) c) ≡ cond e None
            (after (cond b None (left_long child stops ds)) c)
        by true true = refl
        by true false = refl
        by false e = refl

    link_at : (s c t r d : ℕ) (ds : List ℕ) → walk child 0 (d ∷ ds) ≡ Some s → child s c ≡ Some t
        → IsRankOf child dead (cond (stops t) None (after (left_link child stops d ds) c)) r → IsLinkOf child stops dead t r
    link_at s c t r d ds at edge is =
        link_text t r d (ds ++ c ∷ []) (walk-push child 0 (d ∷ ds) c s at ∙ edge)
        (subst (λ o. IsRankOf child dead o r) (sym (link_push s c t d ds at edge)) is)

    -- a child that stops is dead
    pub dead_by_stop : (s : ℕ) (c : ℕ) (t : ℕ) (d : ℕ) (ds : List ℕ) → walk child 0 (d ∷ ds) ≡ Some s → child s c ≡ Some t → stops t ≡ true
        → IsLinkOf child stops dead t dead
    dead_by_stop s c t d ds at edge stop = link_at s c t dead d ds at edge (rw stop refl)

    -- a child of a rank whose link is dead
    pub dead_by_parent : (s : ℕ) (c : ℕ) (t : ℕ) (d : ℕ) (ds : List ℕ) → walk child 0 (d ∷ ds) ≡ Some s → child s c ≡ Some t
        → IsLinkOf child stops dead s dead → IsLinkOf child stops dead t dead
    dead_by_parent s c t d ds at edge link = link_at s c t dead d ds at edge (by (stops t) (left_link child stops d ds) (link d ds at))
      where
        by : (b : Bool) (o : Option (List ℕ)) → IsRankOf child dead o dead → IsRankOf child dead (cond b None (after o c)) dead
        by true o is = refl
        by false None is = refl
        by false (Some x) is = absurd (no_dead x is)

    -- a child that doesn't stop, of a rank whose link is alive
    pub link_by_walk : (s : ℕ) (c : ℕ) (t f r : ℕ) (d : ℕ) (ds : List ℕ) → walk child 0 (d ∷ ds) ≡ Some s → child s c ≡ Some t → f ≢ dead
        → stops t ≡ false → IsLinkOf child stops dead s f
        → ((x : List ℕ) → walk child 0 x ≡ Some f → IsRankOf child dead (left_long child stops (x ++ c ∷ [])) r)
        → IsLinkOf child stops dead t r
    link_by_walk s c t f r d ds at edge ne go link to = link_at s c t r d ds at edge
        (rw go (by (left_link child stops d ds) (link d ds at)))
      where
        by : (o : Option (List ℕ)) → IsRankOf child dead o f → IsRankOf child dead (after o c) r
        by None is = absurd (ne is)
        by (Some x) is = to x is

    -- a child of the root
    pub link_of_first : (c : ℕ) (t r : ℕ) → child 0 c ≡ Some t → ((stops 0 || stops t) ≡ true → r ≡ dead)
        → ((stops 0 || stops t) ≡ false → r ≡ 0) → IsLinkOf child stops dead t r
    link_of_first c t r edge when_dead when_alive =
        let met' = meets_push [] c 0 t refl edge ∙ ap (λ b. b || stops t) met_empty in
        link_text t r c [] (walk-push child 0 [] c 0 refl ∙ edge) (elim (cases_Bool (stops 0 || stops t)) [
          | inl yes' ↦ subst (λ o. IsRankOf child dead o r) (sym (cond-true _ _ _ (met' ∙ yes'))) (when_dead yes')
          | inr no' ↦ subst (λ o. IsRankOf child dead o r) (sym (cond-false _ _ _ (met' ∙ no'))) (ap Some (sym (when_alive no')))
        ])
