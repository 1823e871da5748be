-- A list of matches by kind is empty exactly where the overlapping search has none: it gives the first of what it passes, and each of its
-- matches is an occurrence.
use Rattle.std.proofs.Common.{
  ◌≡◌,
  ◌≢◌,
  ◌↔◌,
  ◌⊎◌,
  inl,
  inr,
  ℕ,
  zero,
  ◌+◌,
  false,
  List,
  [],
  ◌∷◌,
  ◌++◌,
  length,
  map,
  take,
  Option,
  Some,
  None,
  IsTrue,
  slice_get,
  option_map,
  refl,
  sym,
  ap,
  ◌∙◌,
  subst,
  append-nil,
  append_assoc,
  arith,
}
use Rattle.std.specs.Option.{is_some}
use Rattle.std.specs.Prelude.{All, Contains}
use Rattle.std.proofs.lemmas.Bool.{false≢true}
use Rattle.std.proofs.lemmas.List.Elements.{All-head}
use Rattle.daachorse_model.specs.declared.Match.{Match}
use Rattle.daachorse_model.specs.declared.MatchKind.{MatchKind}
use Rattle.daachorse_model.specs.declared.MatchKind.TheVariants.{Standard, LeftmostLongest, LeftmostFirst}
use Rattle.daachorse_model.specs.Units.{size}
use Rattle.daachorse_model.specs.Dictionary.{Dictionary}
use Rattle.daachorse_model.specs.Laws.{IsOccurrence}
use Rattle.daachorse_model.specs.Leftmost.{match_at, is_after, key_with_value, leftmost, leftmost_from, longest_key, units_to_skip}
use Rattle.daachorse_model.specs.Matches.{
  at_each_end,
  empty_matches,
  ending_at,
  matches_after,
  matches_of,
  overlapping,
  standard,
  standard_from,
}
use Rattle.daachorse_model.proofs.Complete.{overlapping_complete}
use Rattle.daachorse_model.proofs.Find.{leftmost_occur, standard_occur}
use Rattle.daachorse_model.proofs.Occur.{overlapping_occur}
use Rattle.daachorse_model.proofs.Searches.{first_or}
use Rattle.daachorse_model.proofs.Lists.{no_front, no_back, none_either}
use Rattle.daachorse_search.specs.Matches.{GivesFirst, Progress}
use Rattle.daachorse_streams.specs.ByKind.{non_overlapping}

not-contained : {A : Type 0} (xs : List A) (x : A) → xs ≡ [] → Contains xs x → ⊥
not-contained xs x e has = omega (arith, has.1, ap length e)

module _ {V : Type 0} (width : ℕ → ℕ) (K : Dictionary V) where
  -- ---- standard

  none_first : (ms none found : List (Match V)) → first_or ms none found ≡ [] → (ms ≡ []) × (none ≡ [])
  none_first [] none found e = (refl, e)
  none_first (m ∷ ms) none found e = cc

  none_standard : (t w : List ℕ) → matches_after width K t ≡ [] → standard_from width K 0 t w ≡ []
      → at_each_end (matches_after width K) t w ≡ []
  none_standard t [] here e = here
  none_standard t (u ∷ w) here e =
      let x = t ++ u ∷ [] in
      let none = none_first (ending_at width K 0 (0 + size width x) x) (standard_from width K 0 x w)
      (standard_from width K (0 + size width x) [] w) e in
      let same : 0 + size width x ≡ size width x = omega arith in
      let later = none_standard x w (subst (λ n. ending_at width K 0 n x ≡ []) same none.0) none.1 in
      ap (λ l. l ++ at_each_end (matches_after width K) x w) here ∙ later

  none_empty : (h : List ℕ) (v : V) (vs : List V) → K [] ≡ v ∷ vs → empty_matches width K h ≢ []
  none_empty [] v vs some e = cc
  none_empty (u ∷ w) v vs some e = (let none = no_front (take 1 (matches_of K 0 0 [])) _ e in cc)

  standard_none : (h : List ℕ) → standard width K h ≡ [] → overlapping width K h ≡ []
  standard_none h = from (K []) refl
    where
      from : (vs : List V) → K [] ≡ vs
          → ◌≡◌ {A = List (Match V)} (elim vs [ [] ↦ standard_from width K 0 [] h | _ ∷ _ ↦ empty_matches width K h ]) []
          → overlapping width K h ≡ []
      from [] is e = none_standard [] h (ap (map (λ v. record { start = 0; end = 0; value = v })) is) e
      from (v ∷ vs) is e = absurd (none_empty h v vs is e)

  -- ---- leftmost

  none_keyed : (t : List ℕ) → key_with_value K t ≡ None → K t ≡ []
  none_keyed t e = from (K t) refl e
    where
      from : (vs : List V) → K t ≡ vs → option_map {U = List ℕ × V} (λ v. (t, v)) (slice_get vs 0) ≡ None → K t ≡ []
      from [] is e = is
      from (v ∷ vs) is e = cc

  none_here : (t w : List ℕ) → longest_key K t w ≡ None → K t ≡ []
  none_here t [] e = none_keyed t e
  none_here t (u ∷ w) e = none_keyed t (none_either (longest_key K (t ++ u ∷ []) w) (key_with_value K t) e).1

  some_key : (t key after : List ℕ) (v : V) → Contains (K (t ++ key)) v → longest_key K t (key ++ after) ≢ None
  some_key t [] after v has none = not-contained (K (t ++ [])) v (ap K (append-nil t) ∙ none_here t after none) has
  some_key t (u ∷ key) after v has none =
      some_key (t ++ u ∷ []) key after v (subst (λ x. Contains (K x) v) (sym (append_assoc t (u ∷ []) key)) has)
      (none_either (longest_key K (t ++ u ∷ []) (key ++ after)) (key_with_value K t) none).0

  none_given : (s : ℕ) (best : Option (List ℕ × V)) → match_at width s false best ≡ [] → best ≡ None
  none_given s None e = refl
  none_given s (Some ([], v)) e = cc
  none_given s (Some (c ∷ p, v)) e = cc

  none_best : (s : ℕ) (w : List ℕ) → leftmost_from width K s zero false w ≡ [] → longest_key K [] w ≡ None
  none_best s [] e = none_given s (longest_key K [] []) e
  none_best s (u ∷ w) e = none_given s (longest_key K [] (u ∷ w)) (no_front (match_at width s false (longest_key K [] (u ∷ w))) _ e)

  none_leftmost : (s : ℕ) (before key after : List ℕ) (v : V) → Contains (K key) v
      → leftmost_from width K s zero false (before ++ (key ++ after)) ≢ []
  none_leftmost s [] key after v has e = some_key [] key after v has (none_best s (key ++ after) e)
  none_leftmost s (u ∷ before) key after v has e =
      let w = before ++ (key ++ after) in
      let best = longest_key K [] (u ∷ w) in
      let none : best ≡ None = none_best s (u ∷ w) e in
      let later = no_back (match_at width s false best) _ e in
      none_leftmost (s + width u) before key after v has
      (subst (λ b. leftmost_from width K (s + width u) (units_to_skip b) (is_after false b) w ≡ []) none later)

  leftmost_none : (h : List ℕ) → leftmost width K h ≡ [] → overlapping width K h ≡ []
  leftmost_none h e = from (overlapping width K h) (overlapping_occur width K h)
    where
      from : (ms : List (Match V)) → All (IsOccurrence width K h) ms → ms ≡ []
      from [] all = refl
      from (m ∷ ms) all =
          let o = All-head (IsOccurrence width K h) m ms all in
          absurd (none_leftmost 0 o.before o.key o.after m.value o.has (ap (leftmost width K) (sym o.splits) ∙ e))

  -- ---- by kind

  -- what the kind names, where an answer tells the kind
  pub standard_named : (asked kind : MatchKind) (h : List ℕ) → asked ≡ Standard → asked ≡ kind
      → standard width K h ≡ non_overlapping kind width K h
  standard_named asked kind h is same = ap (λ k. non_overlapping k width K h) (sym is ∙ same)

  pub leftmost_named : (asked kind : MatchKind) (h : List ℕ) → (asked ≡ LeftmostLongest) ⊎ (asked ≡ LeftmostFirst) → asked ≡ kind
      → leftmost width K h ≡ non_overlapping kind width K h
  leftmost_named asked kind h (inl is) same = ap (λ k. non_overlapping k width K h) (sym is ∙ same)
  leftmost_named asked kind h (inr is) same = ap (λ k. non_overlapping k width K h) (sym is ∙ same)

  pub by_kind_none : (kind : MatchKind) (h : List ℕ) → non_overlapping kind width K h ≡ [] → overlapping width K h ≡ []
  by_kind_none Standard h e = standard_none h e
  by_kind_none LeftmostLongest h e = leftmost_none h e
  by_kind_none LeftmostFirst h e = leftmost_none h e

  pub by_kind_occur : (kind : MatchKind) (h : List ℕ) → All (IsOccurrence width K h) (non_overlapping kind width K h)
  by_kind_occur Standard h = standard_occur width K h
  by_kind_occur LeftmostLongest h = leftmost_occur width K h
  by_kind_occur LeftmostFirst h = leftmost_occur width K h

  -- there is a first match by kind exactly where some pattern occurs
  pub first_by_kind : (kind : MatchKind) (h : List ℕ) (first : Option (Match V)) → first ≡ slice_get (non_overlapping kind width K h) 0
      → IsTrue (is_some first) ↔ (overlapping width K h ≢ [])
  first_by_kind kind h first is = from (non_overlapping kind width K h) refl first is
    where
      from : (ms : List (Match V)) → non_overlapping kind width K h ≡ ms → (first : Option (Match V)) → first ≡ slice_get ms 0
          → IsTrue (is_some first) ↔ (overlapping width K h ≢ [])
      from [] at None e = (λ t. absurd (false≢true t), λ some. absurd (some (by_kind_none kind h at)))
      from [] at (Some m) e = cc
      from (m ∷ ms) at None e = cc
      from (m ∷ ms) at (Some x) e =
          let o = All-head (IsOccurrence width K h) m ms (subst (All (IsOccurrence width K h)) at (by_kind_occur kind h)) in
          ((λ _ none. not-contained _ m none (overlapping_complete width K h m o)), λ _. refl)

-- what a search gives first is the first of the matches that are left
pub first_of_search : {V A F : Type 0} (stands : Match V → List ℕ → List ℕ → Type 0) (s : Progress V A F) (r : Option (Match V))
    (t : Progress V A F) (ms : List (Match V))
    → GivesFirst stands s r t → s.left ≡ ms → r ≡ slice_get ms 0
first_of_search stands s None t ms h is = ap (λ l. slice_get l 0) (sym h.none ∙ is)
first_of_search stands s (Some m) t ms h is = ap (λ l. slice_get l 0) (sym h.first ∙ is)
