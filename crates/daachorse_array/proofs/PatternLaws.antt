-- What is left of a walk over the patterns: an element's values one by one, and then those of the element that is taken next. Before it comes to another element a pattern is left, since each way down ends at an element without children, which has values.
use Rattle.std.proofs.Common.{◌≡◌, ◌≢◌, ℕ, zero, suc, ◌+◌, ◌-◌, ◌<◌, ◌≤◌, ◌⊎◌, inl, inr, List, [], ◌∷◌, ◌++◌, length, map, reverse, take, Option, Some, None, refl, sym, ap, ◌∙◌, add-one, arith, subst, sub-one, length-append}
use Rattle.std.specs.Prelude.{slice_get}
use Rattle.std.proofs.lemmas.List.{nil_from_length, reverse-append, take_all}
use Rattle.daachorse_core.specs.declared.outputs.Output.{Output}
use Rattle.daachorse_core.specs.Outputs.{value_of, parent_of}
use Rattle.daachorse_array.specs.Texts.{IsReached, text_of}
use Rattle.daachorse_array.specs.Edges.{children_below, put_before}
use Rattle.daachorse_array.specs.Listing.{AreEntries, HasPatterns, IsAside, values_until, with_values, patterns_of, left_of, unit_of, IsListingWalk}
use Rattle.daachorse_array.specs.Trees.{IsAmong, IsWalk, elements_of, taken_from}
use Rattle.daachorse_array.proofs.EntryLaws.{entries-elements, entries-longer, entries-put, entries-written, text-written, child-entry}
use Rattle.daachorse_array.proofs.ListingLaws.{values_until-step, values_until-end}
use Rattle.daachorse_array.proofs.Members.{All-among, among-children, children_below-among, elements-pop}
use Rattle.daachorse_array.proofs.SortLaws.{no_some}
use Rattle.daachorse_array.proofs.WalkLaws.{child-not-root, reached-inside, root-text, walk-next, walk-pop, taken-few, taken-none, taken-step}

-- ---- lists

-- what is put before others begins with one of them
put-first : (k : ℕ) (kids l : List ℕ) → (x : ℕ) × (rest : List ℕ) × IsAmong (k ∷ kids) x × (put_before (k ∷ kids) l ≡ x ∷ rest)
put-first k [] l = (k, l, inl refl, refl)
put-first k (j ∷ kids) l = let more = put-first j kids (k ∷ l) in (more.0, more.1, inr more.2, more.3)

pub some-cons : {X : Type 0} (l : List X) → l ≢ [] → (x : X) × (rest : List X) × (l ≡ x ∷ rest)
some-cons [] some = absurd (some refl)
some-cons (x ∷ l) some = (x, l, refl)

append-some : {X : Type 0} (xs ys : List X) → ys ≢ [] → xs ++ ys ≢ []
append-some [] ys some = some
append-some (x ∷ xs) ys some = λ bad. cc

-- ---- the values of a text

module _ {V : Type 0} {child : ℕ → ℕ → Option ℕ} {group : ℕ → Option ℕ} {edge : ℕ → Option (ℕ × ℕ)} {n m : ℕ} {outputs : List (Output V)} {first stop : ℕ → ℕ} (patterns : HasPatterns child group edge n m outputs first stop) where
  -- the patterns of the elements that are taken from these on
  abbrev taken-patterns : List ℕ → List (List ℕ × V)
  taken-patterns aside = patterns_of (text_of child m n) outputs first stop (taken_from child n m n aside)

  module _ (text : List ℕ) where
    -- nothing is left of the text
    pub left-of-rest : (aside : List ℕ) (end position : ℕ) → (position ≡ end) ⊎ (position ≡ 0) → left_of child n m outputs first stop text aside end position ≡ taken-patterns aside
    left-of-rest aside end position h = ap (λ vs. with_values text vs ++ taken-patterns aside) (values_until-end outputs patterns.falls end position h)

    -- nor is anything put aside
    pub left-of-none : (aside : List (ℕ × ℕ)) (end position : ℕ) → (position ≡ end) ⊎ (position ≡ 0) → length aside ≡ 0 → left_of child n m outputs first stop text (elements_of aside) end position ≡ []
    left-of-none aside end position h none =
        left-of-rest (elements_of aside) end position h
        ∙ (ap (λ l. taken-patterns (elements_of l)) (nil_from_length aside none) ∙ ap (λ l. patterns_of (text_of child m n) outputs first stop l) (taken-none child n m n))

    -- a value is given
    pub left-of-value : (aside : List ℕ) (end position : ℕ) (o : Output V) → position ≢ end → position ≢ 0 → slice_get outputs (position - 1) ≡ Some o
        → left_of child n m outputs first stop text aside end position ≡ (text, value_of o) ∷ left_of child n m outputs first stop text aside end (parent_of o)
    left-of-value aside end zero o other some e = absurd (some refl)
    left-of-value aside end (suc q) o other some e =
        ap (λ vs. with_values text vs ++ taken-patterns aside) (values_until-step outputs patterns.falls end q o other (rw sub-one at e))

  -- ---- a pattern is left

  -- of an element without children: it has values
  leaf-some : (x : ℕ) → IsReached child m n x → (x ≢ 0) ⊎ (children_below child x m ≢ []) → children_below child x m ≡ [] → (after : List (List ℕ × V)) → with_values (text_of child m n x) (values_until outputs (stop x) (first x)) ++ after ≢ []
  leaf-some x r h e after = given (values_until outputs (stop x) (first x)) (patterns.leaves x (elim h [ inl other ↦ other | inr some ↦ absurd (some e) ]) r none)
    where
      none : (c : ℕ) → child x c ≡ None
      none c = no_some (child x c) (λ j is. subst (λ l. IsAmong l j) e (children_below-among child x m c j (patterns.tree.inside x c j is).1 is))

      given : (vs : List V) → vs ≢ [] → with_values (text_of child m n x) vs ++ after ≢ []
      given [] some = absurd (some refl)
      given (v ∷ vs) some = λ bad. cc

  -- of the element that is taken next, or of those that its children lead to: if it is not the root, or has a child
  some-left : (steps : ℕ) (taken rest : List ℕ) (x : ℕ) → IsWalk child n m taken (x ∷ rest) → n ≤ length taken + steps → (x ≢ 0) ⊎ (children_below child x m ≢ [])
      → patterns_of (text_of child m n) outputs first stop (taken_from child n m steps (x ∷ rest)) ≢ []
  some-left zero taken rest x w enough h = absurd (let few = taken-few patterns.tree taken rest x w in omega (arith, few, enough))
  some-left (suc steps) taken rest x w enough h =
      at (λ l y under other. some-left steps (taken ++ x ∷ []) l y under (omega (arith, enough, length-append taken (x ∷ []))) (inl other)) (children_below child x m) refl
    where
      here : IsReached child m n x
      here = w.reached x (inr (inl refl))

      after : List ℕ → List (List ℕ × V)
      after aside = patterns_of (text_of child m n) outputs first stop (taken_from child n m steps aside)

      at : ((l : List ℕ) (y : ℕ) → IsWalk child n m (taken ++ x ∷ []) (y ∷ l) → y ≢ 0 → after (y ∷ l) ≢ []) → (kids : List ℕ) → children_below child x m ≡ kids
          → with_values (text_of child m n x) (values_until outputs (stop x) (first x)) ++ after (put_before (children_below child x m) rest) ≢ []
      at below [] e = leaf-some x here h e (after (put_before (children_below child x m) rest))
      at below (k ∷ kids) e =
          let next = put-first k kids rest in
          let put : put_before (children_below child x m) rest ≡ next.0 ∷ next.1 = ap (λ l. put_before l rest) e ∙ next.3 in
          let under : IsWalk child n m (taken ++ x ∷ []) (next.0 ∷ next.1) = subst (IsWalk child n m (taken ++ x ∷ [])) put (walk-next patterns.tree taken rest x w) in
          let kid = among-children child x m next.0 (subst (λ l. IsAmong l next.0) (sym e) next.2) in
          append-some (with_values (text_of child m n x) (values_until outputs (stop x) (first x))) (after (put_before (children_below child x m) rest))
          (rw put (below next.1 next.0 under (λ root. child-not-root patterns.tree x kid.0 here (kid.1 ∙ ap (λ i. Some i) root))))

-- ---- the next element

module _ {V : Type 0} {child : ℕ → ℕ → Option ℕ} {group : ℕ → Option ℕ} {edge : ℕ → Option (ℕ × ℕ)} {n m : ℕ} {outputs : List (Output V)} {first stop : ℕ → ℕ} {groups : List (List ℕ)} {aside : List (ℕ × ℕ)} {last_text : List ℕ} {position : ℕ}
    (w : IsListingWalk child group edge n m outputs first stop groups aside last_text position) where
  module _ (rest : List (ℕ × ℕ)) (d x : ℕ) (e : aside ≡ rest ++ (d, x) ∷ []) where
    abbrev kids : List ℕ
    kids = children_below child x m

    some : 0 < length aside
    some = omega (arith, ap length e, length-append rest ((d, x) ∷ []))

    abbrev taken : List ℕ
    taken = (w.walk some).0

    under : IsWalk child n m taken (x ∷ elements_of rest)
    under = walk-pop taken aside rest (d, x) e (w.walk some).1

    next-reached : IsReached child m n x
    next-reached = under.reached x (inr (inl refl))

    pub next-inside : x < n
    next-inside = reached-inside w.patterns.tree x next-reached

    entries : AreEntries child n m last_text (suc (length last_text)) ((d, x) ∷ reverse rest)
    entries = let P : List (ℕ × ℕ) → Type 0 = AreEntries child n m last_text (suc (length last_text)) in subst P (ap reverse e ∙ reverse-append rest ((d, x) ∷ [])) w.entries

    next-deep : d ≡ length (text_of child m n x)
    next-deep = entries.1.0

    pub next-low : d < 4294967295
    next-low = omega (arith, next-deep, w.patterns.tree.shallow x (text_of child m n x) next-reached)

    -- a pattern is left where its text has a unit, or it has a child
    pub next-some : (0 < d) ⊎ (kids ≢ []) → patterns_of (text_of child m n) outputs first stop (taken_from child n m n (elements_of aside)) ≢ []
    next-some h =
        let deep : 0 < d → x ≢ 0 = λ long root. omega (arith, long, next-deep, ap (λ i. length (text_of child m n i)) root, ap length (root-text w.patterns.tree)) in
        rw (elements-pop aside rest (d, x) e) (some-left w.patterns n taken (elements_of rest) x under (omega arith) (elim h [ inl long ↦ inl (deep long) | inr some ↦ inr some ]))

    -- what is taken from here on is the next element and what its children lead to
    next-taken : taken_from child n m n (elements_of aside) ≡ x ∷ taken_from child n m n (put_before kids (elements_of rest))
    next-taken = ap (λ l. taken_from child n m n l) (elements-pop aside rest (d, x) e) ∙ taken-step w.patterns.tree taken (elements_of rest) x under

    module _ (more : List (ℕ × ℕ)) (put : reverse more ≡ put_before (map (λ j. (d + 1, j)) kids) (reverse rest)) where
      next-aside : elements_of more ≡ put_before kids (elements_of rest)
      next-aside = ap (map (λ p. p.1)) put ∙ entries-elements (d + 1) kids (reverse rest)

      -- fewer are left to be taken
      pub next-fewer : length (taken_from child n m n (elements_of more)) < length (taken_from child n m n (elements_of aside))
      next-fewer = omega (arith, ap length next-taken, ap (λ l. length (taken_from child n m n l)) next-aside)

      module _ (new : List ℕ) (none : d ≡ 0 → new ≡ []) (last : 0 < d → new ≡ take (d - 1) last_text ++ unit_of (edge x) ∷ []) (at : ℕ) (is : at ≡ first x) where
        next-text : new ≡ text_of child m n x
        next-text = text-written w.patterns.tree w.patterns.tell last_text new x d next-reached entries.1 none last

        next-begun : take d new ≡ text_of child m n x
        next-begun = ap (take d) next-text ∙ take_all d (text_of child m n x) (omega (arith, next-deep))

        pub next-walking : IsListingWalk child group edge n m outputs first stop groups more new at
        next-walking = record {
          patterns = w.patterns;
          groups_are = w.groups_are;
          each = w.each;
          walk = λ some. (taken ++ x ∷ [], rw next-aside (walk-next w.patterns.tree taken (elements_of rest) x under));
          entries =
              let long : length new ≡ d = ap length next-text ∙ sym next-deep in
              let begun : (j : ℕ) → IsAmong kids j → IsAside child n m new (d + 1, j) =
              λ j a. (let kid = among-children child x m j a in rw (add-one d) (child-entry w.patterns.tree new x d kid.0 j next-reached next-deep next-begun kid.1)) in
              let kept = entries-written child n m last_text new d d (reverse rest) (ap (take (d - 1)) next-text ∙ sym entries.1.1) (omega arith) entries.2 in
              let all = entries-put child n m new (d + 1) kids (reverse rest) (All-among (λ j. IsAside child n m new (d + 1, j)) kids begun)
              (entries-longer child n m new d (d + 1) (reverse rest) (omega arith) kept) in
              rw put (entries-longer child n m new (d + 1) (suc (length new)) (put_before (map (λ j. (d + 1, j)) kids) (reverse rest)) (omega (arith, long)) all);
          inside = omega (arith, w.patterns.inside x next-inside, is);
        }

        -- What was left are its values and what is left behind it. Where its own outputs end matters only where it has an output.
        pub next-left-of : (end : ℕ) → (0 < at → end ≡ stop x)
            → left_of child n m outputs first stop new (elements_of more) end at ≡ patterns_of (text_of child m n) outputs first stop (taken_from child n m n (elements_of aside))
        next-left-of end ends =
            ap (λ t. with_values t (values_until outputs end at) ++ patterns_of (text_of child m n) outputs first stop (taken_from child n m n (elements_of more))) next-text
            ∙ (ap (λ vs. with_values (text_of child m n x) vs ++ patterns_of (text_of child m n) outputs first stop (taken_from child n m n (elements_of more))) (own at is ends)
            ∙ ap (λ l. patterns_of (text_of child m n) outputs first stop l) (ap (λ l. x ∷ taken_from child n m n l) next-aside ∙ sym next-taken))
          where
            own : (p : ℕ) → p ≡ first x → (0 < p → end ≡ stop x) → values_until outputs end p ≡ values_until outputs (stop x) (first x)
            own zero is ends = ap (values_until outputs (stop x)) is
            own (suc k) is ends = ap (λ t. values_until outputs t (suc k)) (ends (omega arith)) ∙ ap (values_until outputs (stop x)) is
