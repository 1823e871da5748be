-- Under `LeftmostFirst` a registration is left out where a proper prefix of its text was registered before, which is so just where a proper prefix is a key.
use Rattle.std.proofs.Common.{◌≡◌, ◌≢◌, ℕ, ◌⊎◌, Bool, true, false, cond, List, [], ◌∷◌, ◌++◌, map, refl, sym, ap, ◌∙◌, subst, inl, inr, append-nil, append_assoc}
use Rattle.std.specs.Prelude.{◌==◌}
use Rattle.std.specs.List.{list_any}
use Rattle.std.proofs.lemmas.List.{map-append}
use Rattle.std.proofs.lemmas.Bool.{and_parts, and_from, cases_Bool, cond_both, cond-true, eq-eqb, eqb-true, false_from_ne_true, false≢true, or_cases, or_left, or_right}
use Rattle.daachorse_model.specs.declared.MatchKind.{MatchKind}
use Rattle.daachorse_model.specs.declared.MatchKind.TheVariants.{Standard, LeftmostLongest, LeftmostFirst}
use Rattle.daachorse_model.specs.Kinds.{is_leftmost_first}
use Rattle.daachorse_model.specs.Units.{same_text}
use Rattle.daachorse_model.specs.Dictionary.{is_proper_prefix, without_extensions, values_of, dictionary, kept_registrations}
use Rattle.daachorse_model.proofs.Listings.{value_later}
use Rattle.daachorse_build.specs.Holds.{in_units}
use Rattle.daachorse_build.proofs.Registrations.{text_same, text_refl}

-- ---- proper prefixes
-- a beginning that is shorter
pub proper_from : (v : List ℕ) (u : ℕ) (rest : List ℕ) → is_proper_prefix v (v ++ u ∷ rest) ≡ true
proper_from [] u rest = refl
proper_from (a ∷ v) u rest = and_from (a == a) _ (eq-eqb a a refl) (proper_from v u rest)

pub proper_rest : (v w : List ℕ) → is_proper_prefix v w ≡ true → (u : ℕ) × (rest : List ℕ) × (w ≡ v ++ u ∷ rest)
proper_rest v [] h = absurd (false≢true h)
proper_rest [] (u ∷ w) h = (u, w, refl)
proper_rest (a ∷ v) (u ∷ w) h =
    let x = and_parts (a == u) (is_proper_prefix v w) h in
    let r = proper_rest v w x.1 in
    (r.0, r.1, ap (λ y. u ∷ y) r.2 ∙ ap (λ y. y ∷ (v ++ r.0 ∷ r.1)) (sym (eqb-true a u x.0)))

proper_through : (p q w : List ℕ) → is_proper_prefix p q ≡ true → is_proper_prefix q w ≡ true → is_proper_prefix p w ≡ true
proper_through p q w h k =
    let x = proper_rest p q h in
    let y = proper_rest q w k in
    let e = y.2 ∙ ap (λ v. v ++ y.0 ∷ y.1) x.2 ∙ append_assoc p (x.0 ∷ x.1) (y.0 ∷ y.1) in
    ap (is_proper_prefix p) e ∙ proper_from p x.0 (x.1 ++ y.0 ∷ y.1)

any_through : (before : List (List ℕ)) (q w : List ℕ) → is_proper_prefix q w ≡ true → list_any (λ p. is_proper_prefix p q) before ≡ true → list_any (λ p. is_proper_prefix p w) before ≡ true
any_through [] q w h k = k
any_through (p ∷ before) q w h k =
    elim (or_cases (is_proper_prefix p q) _ k)
    [ inl e ↦ or_left (is_proper_prefix p w) _ (proper_through p q w e h) | inr later ↦ or_right (is_proper_prefix p w) _ (any_through before q w h later) ]

module _ {V : Type 0} where
  -- whether a text before it is a proper prefix of w
  abbrev pub drops : List (List ℕ) → List (List ℕ × V) → List ℕ → Bool
  drops before [] w = list_any (λ p. is_proper_prefix p w) before
  drops before (r ∷ rs) w = drops (r.0 ∷ before) rs w

  cond-push : (b : Bool) (x : List ℕ × V) (xs ys : List (List ℕ × V)) → cond b (xs ++ ys) (x ∷ (xs ++ ys)) ≡ cond b xs (x ∷ xs) ++ ys
  cond-push true x xs ys = refl
  cond-push false x xs ys = refl

  -- one registration more is left out, or counts
  pub without_extensions-push : (before : List (List ℕ)) (rs : List (List ℕ × V)) (r : List ℕ × V) → without_extensions before (rs ++ r ∷ []) ≡ without_extensions before rs ++ cond (drops before rs r.0) [] (r ∷ [])
  without_extensions-push before [] r = refl
  without_extensions-push before (q ∷ rs) r =
      let out = list_any (λ p. is_proper_prefix p q.0) before in
      ap (λ xs. cond out xs (q ∷ xs)) (without_extensions-push (q.0 ∷ before) rs r)
      ∙ cond-push out q (without_extensions (q.0 ∷ before) rs) (cond (drops (q.0 ∷ before) rs r.0) [] (r ∷ []))

  drops_before : (before : List (List ℕ)) (rs : List (List ℕ × V)) (w : List ℕ) → list_any (λ p. is_proper_prefix p w) before ≡ true → drops before rs w ≡ true
  drops_before before [] w h = h
  drops_before before (r ∷ rs) w h = drops_before (r.0 ∷ before) rs w (or_right (is_proper_prefix r.0 w) _ h)

  values_there : (b : Bool) (r : List ℕ × V) (rest : List (List ℕ × V)) (x : List ℕ) → values_of (cond b rest (r ∷ rest)) x ≢ [] → (same_text r.0 x ≡ true) ⊎ (values_of rest x ≢ [])
  values_there true r rest x = λ h. inr h
  values_there false r rest x =
      cond_both (same_text r.0 x) _ _ (λ vs. vs ≢ [] → (same_text r.0 x ≡ true) ⊎ (values_of rest x ≢ [])) (λ e _. inl e) (λ _ k. inr k)

  -- a key that is a proper prefix was registered before
  pub drops_by_key : (before : List (List ℕ)) (rs : List (List ℕ × V)) (x w : List ℕ) → is_proper_prefix x w ≡ true → values_of (without_extensions before rs) x ≢ [] → drops before rs w ≡ true
  drops_by_key before [] x w h key = absurd (key refl)
  drops_by_key before (r ∷ rs) x w h key =
      elim (values_there (list_any (λ p. is_proper_prefix p r.0) before) r (without_extensions (r.0 ∷ before) rs) x key) [
        | inl same ↦
            let is : is_proper_prefix r.0 w ≡ true = subst (λ y. is_proper_prefix y w ≡ true) (sym (text_same r.0 x same)) h in
            drops_before (r.0 ∷ before) rs w (or_left (is_proper_prefix r.0 w) _ is)
        | inr later ↦ drops_by_key (r.0 ∷ before) rs x w h later
      ]

  -- a key among the registrations that is a proper prefix of w
  abbrev pub HasKey : List (List ℕ) → List (List ℕ × V) → List ℕ → Type 0
  HasKey before rs w = (x : List ℕ) × (is_proper_prefix x w ≡ true) × (values_of (without_extensions before rs) x ≢ [])

  pub value_first : (r : List ℕ × V) (rs : List (List ℕ × V)) (w : List ℕ) → r.0 ≡ w → values_of (r ∷ rs) w ≢ []
  value_first r rs w e none =
      let value : r.1 ∷ values_of rs w ≡ [] = sym (cond-true (same_text r.0 w) _ _ (ap (same_text r.0) (sym e) ∙ text_refl r.0)) ∙ none in
      cc

  key_first : (before : List (List ℕ)) (r : List ℕ × V) (rs : List (List ℕ × V)) (w : List ℕ) → is_proper_prefix r.0 w ≡ true → (list_any (λ p. is_proper_prefix p w) before ≡ true) ⊎ HasKey before (r ∷ rs) w
  key_first before r rs w h =
      let rest = without_extensions (r.0 ∷ before) rs in
      elim (cases_Bool (list_any (λ p. is_proper_prefix p r.0) before)) [
        | inl e ↦ inl (any_through before r.0 w h e)
        | inr e ↦ inr (r.0, h, λ none. value_first r rest r.0 refl (sym (ap (λ b. values_of (cond b rest (r ∷ rest)) r.0) e) ∙ none))
      ]

  -- a proper prefix that was registered before, or one of its own, is a key
  pub key_of_drops : (before : List (List ℕ)) (rs : List (List ℕ × V)) (w : List ℕ) → drops before rs w ≡ true → (list_any (λ p. is_proper_prefix p w) before ≡ true) ⊎ HasKey before rs w
  key_of_drops before [] w h = inl h
  key_of_drops before (r ∷ rs) w h =
      elim (key_of_drops (r.0 ∷ before) rs w h) [
        | inr key ↦ inr (
          key.0,
          key.1,
          cond_both (list_any (λ p. is_proper_prefix p r.0) before) _ _ (λ l. values_of l key.0 ≢ []) (λ _. key.2)
              (λ _. value_later r (without_extensions (r.0 ∷ before) rs) key.0 key.2),
        )
        | inl any ↦ elim (or_cases (is_proper_prefix r.0 w) _ any) [ inl e ↦ key_first before r rs w e | inr e ↦ inl e ]
      ]

-- ---- by the kind
units_push : {L V : Type 0} (unit : L → ℕ) (rs : List (List L × V)) (p : List L) (v : V) → in_units unit (rs ++ (p, v) ∷ []) ≡ in_units unit rs ++ (map unit p, v) ∷ []
units_push unit rs p v = map-append (λ r. (map unit r.0, r.1)) rs ((p, v) ∷ [])

first_drops : {L V : Type 0} (unit : L → ℕ) (rs : List (List L × V)) (p : List L) (v : V) → kept_registrations LeftmostFirst (in_units unit (rs ++ (p, v) ∷ [])) ≡ kept_registrations LeftmostFirst (in_units unit rs) ++ cond (drops [] (in_units unit rs) (map unit p)) [] ((map unit p, v) ∷ [])
first_drops unit rs p v = ap (without_extensions []) (units_push unit rs p v) ∙ without_extensions-push [] (in_units unit rs) (map unit p, v)

-- under each kind a pattern counts, unless matches are leftmost first and a key is a proper prefix
pub kept_one : {L V : Type 0} (unit : L → ℕ) (kind : MatchKind) (rs : List (List L × V)) (p : List L) (v : V) → (is_leftmost_first kind ≡ false) ⊎ ((x : List ℕ) → is_proper_prefix x (map unit p) ≡ true → dictionary kind (in_units unit rs) x ≡ []) → kept_registrations kind (in_units unit (rs ++ (p, v) ∷ [])) ≡ kept_registrations kind (in_units unit rs) ++ (map unit p, v) ∷ []
kept_one unit Standard rs p v why = units_push unit rs p v
kept_one unit LeftmostLongest rs p v why = units_push unit rs p v
kept_one unit LeftmostFirst rs p v (inl no') = absurd (false≢true (sym no'))
kept_one unit LeftmostFirst rs p v (inr none) =
    let stays = false_from_ne_true (drops [] (in_units unit rs) (map unit p)) (λ e.
    elim (key_of_drops [] (in_units unit rs) (map unit p) e) [
      | inl none' ↦ false≢true none'
      | inr key ↦ key.2 (none key.0 key.1)
    ]) in
    first_drops unit rs p v ∙ ap (λ b. without_extensions [] (in_units unit rs) ++ cond b [] ((map unit p, v) ∷ [])) stays

-- a pattern that extends a key is left out
pub kept_same : {L V : Type 0} (unit : L → ℕ) (kind : MatchKind) (rs : List (List L × V)) (p : List L) (v : V) → is_leftmost_first kind ≡ true → (x : List ℕ) → is_proper_prefix x (map unit p) ≡ true → dictionary kind (in_units unit rs) x ≢ [] → kept_registrations kind (in_units unit (rs ++ (p, v) ∷ [])) ≡ kept_registrations kind (in_units unit rs)
kept_same unit Standard rs p v is x h key = absurd (false≢true is)
kept_same unit LeftmostLongest rs p v is x h key = absurd (false≢true is)
kept_same unit LeftmostFirst rs p v is x h key =
    first_drops unit rs p v
    ∙ ap (λ b. without_extensions [] (in_units unit rs) ++ cond b [] ((map unit p, v) ∷ [])) (drops_by_key [] (in_units unit rs) x (map unit p) h key)
    ∙ append-nil (without_extensions [] (in_units unit rs))
