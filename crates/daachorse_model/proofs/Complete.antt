-- Each occurrence is a match of an overlapping search.
use Rattle.std.proofs.Common.{◌≡◌, ℕ, ◌+◌, List, [], ◌∷◌, ◌++◌, map, ap, sym, ◌∙◌, subst, arith, add-zero}
use Rattle.std.specs.Prelude.{Contains}
use Rattle.std.proofs.lemmas.List.{append_assoc, append-nil, length-map, get_or-map}
use Rattle.std.proofs.lemmas.List.Elements.{Contains-append_left, Contains-append_right}
use Rattle.daachorse_model.specs.declared.Match.{Match}
use Rattle.daachorse_model.specs.Units.{size}
use Rattle.daachorse_model.specs.Dictionary.{Dictionary}
use Rattle.daachorse_model.specs.Matches.{matches_of, ending_at, matches_after, at_each_end, overlapping}
use Rattle.daachorse_model.specs.Laws.{IsOccurrence}
use Rattle.daachorse_model.proofs.Suffixes.{size-append}

Contains-map : {X Y : Type 0} (f : X → Y) (xs : List X) (x : X) → Contains xs x → Contains (map f xs) (f x)
Contains-map f xs x (k, within, here) = (k, rw length-map within, get_or-map f xs k x (f x) within ∙ ap f here)

module _ {V : Type 0} (width : ℕ → ℕ) (K : Dictionary V) where
  key_has : (s e : ℕ) (w : List ℕ) (v : V) → Contains (K w) v → Contains (ending_at width K s e w) (record { start = s; end = e; value = v })
  key_has s e [] v has = Contains-map (λ x. record { start = s; end = e; value = x }) (K []) v has
  key_has s e (u ∷ w) v has =
      Contains-append_left (matches_of K s e (u ∷ w)) (ending_at width K (s + width u) e w) _ (Contains-map (λ x. record { start = s; end = e; value = x }) (K (u ∷ w)) v has)

  end_has : (s e : ℕ) (y key : List ℕ) (v : V) → Contains (K key) v → Contains (ending_at width K s e (y ++ key)) (record { start = s + size width y; end = e; value = v })
  end_has s e [] key v has = rw add-zero (key_has s e key v has)
  end_has s e (u ∷ y) key v has =
      let deeper = end_has (s + width u) e y key v has in
      Contains-append_right (matches_of K s e (u ∷ (y ++ key))) (ending_at width K (s + width u) e (y ++ key)) _
      (subst (λ n. Contains (ending_at width K (s + width u) e (y ++ key)) (record { start = n; end = e; value = v })) (omega arith) deeper)

  here_has : (f : List ℕ → List (Match V)) (t w : List ℕ) (m : Match V) → Contains (f t) m → Contains (at_each_end f t w) m
  here_has f t [] m has = has
  here_has f t (u ∷ w) m has = Contains-append_left (f t) (at_each_end f (t ++ u ∷ []) w) m has

  later_has : (f : List ℕ → List (Match V)) (t x w : List ℕ) (m : Match V) → Contains (f (t ++ x)) m → Contains (at_each_end f t (x ++ w)) m
  later_has f t [] w m has = here_has f t w m (subst (λ r. Contains (f r) m) (append-nil t) has)
  later_has f t (u ∷ x) w m has =
      Contains-append_right (f t) (at_each_end f (t ++ u ∷ []) (x ++ w)) m
      (later_has f (t ++ u ∷ []) x w m (subst (λ r. Contains (f r) m) (sym (append_assoc t (u ∷ []) x)) has))

  pub overlapping_complete : (h : List ℕ) (m : Match V) → IsOccurrence width K h m → Contains (overlapping width K h) m
  overlapping_complete h m o =
      let there = end_has 0 (size width (o.before ++ o.key)) o.before o.key m.value o.has in
      let start : 0 + size width o.before ≡ m.start = omega (arith, o.starts) in
      let end : size width (o.before ++ o.key) ≡ m.end = size-append width o.before o.key ∙ sym o.ends in
      let same : record { start = 0 + size width o.before; end = size width (o.before ++ o.key); value = m.value } ≡ m =
      (λ i. record { start = start i; end = end i; value = m.value }) in
      rw (o.splits, ← append_assoc) (later_has (matches_after width K) [] (o.before ++ o.key) o.after m
      (subst (λ r. Contains (matches_after width K (o.before ++ o.key)) r) same there))
