-- The links of a trie, standard and leftmost, are the failure links of the dictionary that it holds.
use Rattle.std.proofs.Common.{◌≡◌, ◌≢◌, ℕ, Bool, true, false, cond, List, [], ◌∷◌, ◌++◌, length, map, get_or, Contains, Option, Some, None, is_some, refl, sym, ap, ◌∙◌, subst, inl, inr, arith}
use Rattle.std.specs.Prelude.{option_map, not, ◌==◌}
use Rattle.std.specs.List.{list_any}
use Rattle.std.proofs.lemmas.Bool.{cond_both, false≢true, or_cases, or_left, or_right}
use Rattle.std.specs.declared.cmp.Ordering.{Ordering}
use Rattle.daachorse_model.specs.declared.MatchKind.{MatchKind}
use Rattle.daachorse_model.specs.Units.{same_text}
use Rattle.daachorse_model.specs.Dictionary.{Dictionary, dictionary, kept_registrations, values_of, is_prefix}
use Rattle.daachorse_model.specs.Prefixes.{IsPrefix, IsLink, IsLeftFail, long, key_begins, long_unless_key, left_fail}
use Rattle.daachorse_model.specs.Paths.{walk, is_reached, Leads}
use Rattle.daachorse_model.proofs.Links.{link-is, left_fail-is, IsDead-not}
use Rattle.daachorse_model.proofs.Earliest.{is_prefix-splits, is_prefix-append}
use Rattle.daachorse_model.proofs.Listings.{value_later}
use Rattle.daachorse_build.specs.declared.nfa_builder.NfaBuilderState.{NfaBuilderState}
use Rattle.daachorse_build.specs.Tables.{child_in, child_of, edges_of, own_at, fails_of, stops_of, HoldTrie}
use Rattle.daachorse_build.specs.Growth.{HasTrieOf}
use Rattle.daachorse_build.specs.Orders.{IsBreadthFirst, HoldLinks, HoldLeftLinks}
use Rattle.std.specs.Cmp.{IsTotalOrder}
use Rattle.daachorse_build.proofs.Walks.{walk-same, walk-bounds}
use Rattle.daachorse_build.proofs.Queue.{all_in_order}
use Rattle.daachorse_build.specs.Holds.{in_units, Holds}
use Rattle.daachorse_build.specs.Trie.{IsFailOf, LinksTo}
use Rattle.daachorse_build.specs.Left.{meets, long_unless_stop, left_link, IsStateOf, IsLeftFailOf, LinksLeft}
use Rattle.daachorse_build.proofs.Registrations.{text_same}
use Rattle.daachorse_build.proofs.Dropped.{value_first}
use Rattle.daachorse_build.proofs.Keys.{meets-key}

-- ---- a test for the prefixes of keys

module _ {V : Type 0} where
  -- the text begins a registered one, or is empty
  abbrev pub known : List (List ℕ × V) → List ℕ → Bool
  known rs [] = true
  known rs (u ∷ w) = list_any (λ r. is_prefix (u ∷ w) r.0) rs

  any_key : (rs : List (List ℕ × V)) (v : List ℕ) → list_any (λ r. is_prefix v r.0) rs ≡ true → (x : List ℕ) × (values_of rs (v ++ x) ≢ [])
  any_key [] v h = absurd (false≢true h)
  any_key (r ∷ rs) v h =
      elim (or_cases (is_prefix v r.0) _ h) [
        | inl e ↦ let p = is_prefix-splits v r.0 e in (p.0, value_first r rs (v ++ p.0) p.1)
        | inr later ↦ let p = any_key rs v later in (p.0, value_later r rs (v ++ p.0) p.1)
      ]

  key_any : (rs : List (List ℕ × V)) (v x : List ℕ) → values_of rs (v ++ x) ≢ [] → list_any (λ r. is_prefix v r.0) rs ≡ true
  key_any [] v x = λ h. absurd (h refl)
  key_any (r ∷ rs) v x =
      cond_both (same_text r.0 (v ++ x)) _ _ (λ vs. vs ≢ [] → list_any (λ q. is_prefix v q.0) (r ∷ rs) ≡ true)
      (λ e _. or_left (is_prefix v r.0) _ (ap (is_prefix v) (text_same r.0 (v ++ x) e) ∙ is_prefix-append v x))
      (λ _ k. or_right (is_prefix v r.0) _ (key_any rs v x k))

  pub known-fore : (rs : List (List ℕ × V)) (w : List ℕ) → known rs w ≡ true → IsPrefix (values_of rs) w
  known-fore rs [] h = inl refl
  known-fore rs (u ∷ w) h = inr (any_key rs (u ∷ w) h)

  pub known-back : (rs : List (List ℕ × V)) (w : List ℕ) → IsPrefix (values_of rs) w → known rs w ≡ true
  known-back rs [] h = refl
  known-back rs (u ∷ w) (inl e) = absurd (cc)
  known-back rs (u ∷ w) (inr (x, key)) = key_any rs (u ∷ w) x key

-- ---- the links
module _ {L V A : Type 0} (cmp : L → L → Ordering) (unit : L → ℕ) (width : ℕ → ℕ) (kind : MatchKind) (states : List (NfaBuilderState L V A)) (rs : List (List L × V)) (holds : Holds cmp unit width kind states rs) where
  abbrev keys : Dictionary V
  keys = dictionary kind (in_units unit rs)

  abbrev test : List ℕ → Bool
  test = known (kept_registrations kind (in_units unit rs))

  same_test : (w : List L) → is_reached (child_of cmp states) w ≡ test (map unit w)
  same_test w = at (is_reached (child_of cmp states) w) (test (map unit w)) refl refl
    where
      there : (o : Option ℕ) → walk (child_of cmp states) 0 w ≡ o → is_some o ≡ true → IsPrefix keys (map unit w)
      there None e h = absurd (false≢true h)
      there (Some s) e h = holds.only w s e

      at : (a b : Bool) → is_reached (child_of cmp states) w ≡ a → test (map unit w) ≡ b → a ≡ b
      at true true h k = refl
      at false false h k = refl
      at true false h k = sym (known-back (kept_registrations kind (in_units unit rs)) (map unit w) (there (walk (child_of cmp states) 0 w) refl h)) ∙ k
      at false true h k = let s = holds.begins w (known-fore (kept_registrations kind (in_units unit rs)) (map unit w) k) in sym h ∙ ap is_some s.1

  map_either : (b : Bool) (x y : List L) → map unit (cond b x y) ≡ cond b (map unit x) (map unit y)
  map_either true x y = refl
  map_either false x y = refl

  long-test : (w : List L) → map unit (long (is_reached (child_of cmp states)) w) ≡ long test (map unit w)
  long-test [] = refl
  long-test (c ∷ w) =
      map_either (is_reached (child_of cmp states) (c ∷ w)) (c ∷ w) (long (is_reached (child_of cmp states)) w)
      ∙ ap (λ b. cond b (map unit (c ∷ w)) (map unit (long (is_reached (child_of cmp states)) w))) (same_test (c ∷ w))
      ∙ ap (λ x. cond (test (map unit (c ∷ w))) (map unit (c ∷ w)) x) (long-test w)

  -- the standard link of a text is that of its units
  pub standard_link-is : (c : L) (w : List L) → IsLink keys (map unit (c ∷ w)) (map unit (long (is_reached (child_of cmp states)) w))
  standard_link-is c w =
      let P : List ℕ → Type 0 = λ x. IsLink keys (map unit (c ∷ w)) x in
      subst P (sym (long-test w)) (link-is keys test (known-fore (kept_registrations kind (in_units unit rs))) (known-back (kept_registrations kind (in_units unit rs))) (unit c) (map unit w))

  map_cond : (a b : Bool) (w : List L) (o : Option (List L)) → option_map (map unit) (cond a (Some w) (cond b None o)) ≡ cond a (Some (map unit w)) (cond b None (option_map (map unit) o))
  map_cond true b w o = refl
  map_cond false true w o = refl
  map_cond false false w o = refl

  long-units : (w : List L) → option_map (map unit) (long_unless_stop (child_of cmp states) (stops_of true states) w) ≡ long_unless_key keys test (map unit w)
  long-units [] = refl
  long-units (c ∷ w) =
      map_cond (is_reached (child_of cmp states) (c ∷ w)) (meets (child_of cmp states) (stops_of true states) 0 (c ∷ w)) (c ∷ w) (long_unless_stop (child_of cmp states) (stops_of true states) w)
      ∙ ap (λ b. cond b (Some (map unit (c ∷ w))) (cond (meets (child_of cmp states) (stops_of true states) 0 (c ∷ w)) None (option_map (map unit) (long_unless_stop (child_of cmp states) (stops_of true states) w)))) (same_test (c ∷ w))
      ∙ ap (λ b. cond (test (map unit (c ∷ w))) (Some (map unit (c ∷ w))) (cond b None (option_map (map unit) (long_unless_stop (child_of cmp states) (stops_of true states) w)))) (meets-key cmp unit width kind states rs holds (c ∷ w))
      ∙ ap (λ o. cond (test (map unit (c ∷ w))) (Some (map unit (c ∷ w))) (cond (key_begins keys [] (map unit (c ∷ w))) None o)) (long-units w)

  none_cond : (b : Bool) (o : Option (List L)) → option_map (map unit) (cond b None o) ≡ cond b None (option_map (map unit) o)
  none_cond true o = refl
  none_cond false o = refl

  link-units : (c : L) (w : List L) → option_map (map unit) (left_link (child_of cmp states) (stops_of true states) c w) ≡ left_fail keys test (map unit (c ∷ w))
  link-units c w =
      none_cond (meets (child_of cmp states) (stops_of true states) 0 (c ∷ w)) (long_unless_stop (child_of cmp states) (stops_of true states) w)
      ∙ ap (λ b. cond b None (option_map (map unit) (long_unless_stop (child_of cmp states) (stops_of true states) w))) (meets-key cmp unit width kind states rs holds (c ∷ w))
      ∙ ap (λ o. cond (key_begins keys [] (map unit (c ∷ w))) None o) (long-units w)

  -- the leftmost link of a text is that of its units
  pub left_link-is : (c : L) (w : List L) → IsLeftFail keys (map unit (c ∷ w)) (option_map (map unit) (left_link (child_of cmp states) (stops_of true states) c w))
  left_link-is c w =
      rw (link-units c w) (left_fail-is keys test (known-fore (kept_registrations kind (in_units unit rs))) (known-back (kept_registrations kind (in_units unit rs))) (unit c) (map unit w))

  -- the state of the leftmost link, in the words of the dictionary
  pub links_left : (c : L) (w : List L) (f : ℕ) → IsStateOf (child_of cmp states) (left_link (child_of cmp states) (stops_of true states) c w) f → LinksLeft keys unit (child_of cmp states) (c ∷ w) f
  links_left c w f h =
      (elim (left_link (child_of cmp states) (stops_of true states) c w) as (λ o. IsStateOf (child_of cmp states) o f → IsLeftFail keys (map unit (c ∷ w)) (option_map (map unit) o) → LinksLeft keys unit (child_of cmp states) (c ∷ w) f)
      [ None ↦ λ is dead. inl (is, dead) | Some x ↦ λ is l. inr (x, is, l.0, IsDead-not keys (map unit (c ∷ w)) (map unit x) l.0 l.1) ]) h (left_link-is c w)

-- ---- where the links are built
module _ {L V A : Type 0} (cmp : L → L → Ordering) (total : IsTotalOrder cmp) (old new : List (NfaBuilderState L V A)) (table : HoldTrie cmp old) (kept_registrations' : HasTrieOf old new) (order : List ℕ) (first : IsBreadthFirst (edges_of new) order) where
  -- a state but the root stands in the order
  in_order : (c : L) (w : List L) (t : ℕ) → Leads (child_of cmp old) (c ∷ w) t → Contains order t
  in_order c w t h =
      let b = walk-bounds (child_of cmp old) (length (edges_of old)) table.trie (c ∷ w) t h in
      let apart : t ≢ 0 = λ e. (let nil : c ∷ w ≡ [] = walk-same (child_of cmp old) (length (edges_of old)) table.trie (c ∷ w) [] 0 (h ∙ ap Some e) refl in cc) in
      let P : List (List (L × ℕ)) → Type 0 = λ es. IsBreadthFirst es order in
      all_in_order cmp total (edges_of old) table order (subst P kept_registrations'.edges first) t (omega (arith, b.1, apart)) b.0

  left_fail_of : HoldLeftLinks cmp true new order → (c : L) (w : List L) (t : ℕ) → Leads (child_of cmp old) (c ∷ w) t → IsLeftFailOf (child_of cmp old) (stops_of true old) t (get_or (fails_of new) t 0)
  left_fail_of links c w t h =
      let E : List (List (L × ℕ)) → Type 0 = λ es. IsLeftFailOf (child_in cmp es) (stops_of true new) t (get_or (fails_of new) t 0) in
      let O : List (List (V × ℕ)) → Type 0 = λ os. IsLeftFailOf (child_of cmp old) (λ s. not (length (own_at os s) == 0)) t (get_or (fails_of new) t 0) in
      subst O kept_registrations'.outputs (subst E kept_registrations'.edges (links.linked t (in_order c w t h)))

  -- the links that were built are those of the dictionary
  pub links_standard_built : HoldLinks cmp new order → (unit : L → ℕ) (width : ℕ → ℕ) (kind : MatchKind) (rs : List (List L × V)) → Holds cmp unit width kind old rs → (w : List L) (t : ℕ) → w ≢ [] → Leads (child_of cmp old) w t → LinksTo (dictionary kind (in_units unit rs)) unit (child_of cmp old) w (get_or (fails_of new) t 0)
  links_standard_built links unit width kind rs holds [] t ne h = absurd (ne refl)
  links_standard_built links unit width kind rs holds (c ∷ w) t ne h =
      let E : List (List (L × ℕ)) → Type 0 = λ es. IsFailOf (child_in cmp es) t (get_or (fails_of new) t 0) in
      (long (is_reached (child_of cmp old)) w, subst E kept_registrations'.edges (links.linked t (in_order c w t h)) c w h, standard_link-is cmp unit width kind old rs holds c w)

  pub links_left_built : HoldLeftLinks cmp true new order → (unit : L → ℕ) (width : ℕ → ℕ) (kind : MatchKind) (rs : List (List L × V)) → Holds cmp unit width kind old rs → (w : List L) (t : ℕ) → w ≢ [] → Leads (child_of cmp old) w t → LinksLeft (dictionary kind (in_units unit rs)) unit (child_of cmp old) w (get_or (fails_of new) t 0)
  links_left_built links unit width kind rs holds [] t ne h = absurd (ne refl)
  links_left_built links unit width kind rs holds (c ∷ w) t ne h =
      links_left cmp unit width kind old rs holds c w (get_or (fails_of new) t 0) (left_fail_of links c w t h c w h)
