-- The texts of elements that are put aside begin as that of the element that was taken last, in all units but their own last: this one is
-- written when the element is taken, and its text stands there for its children.
use Rattle.std.proofs.Common.{◌≡◌, ◌≢◌, ℕ, zero, suc, ◌<◌, ◌≤◌, ◌-◌, inl, inr, List, [], ◌∷◌, ◌++◌, length, take, map, Option, Some, refl}
use Rattle.std.proofs.Common.{sym, ap, ◌∙◌, arith, length-append}
use Rattle.std.proofs.lemmas.List.{nil_from_length, take-append-le, take-take, take_all}
use Rattle.std.proofs.lemmas.Option.{same_Some}
use Rattle.std.specs.List.{AllByRecursion}
use Rattle.daachorse_model.specs.Paths.{walk}
use Rattle.daachorse_model.proofs.Lists.{ends_in}
use Rattle.daachorse_model.proofs.Paths.{push-parts}
use Rattle.daachorse_array.specs.Texts.{IsReached}
use Rattle.daachorse_array.specs.Edges.{IsTree, TellChildren, put_before}
use Rattle.daachorse_array.specs.Listing.{AreEntries, IsAside, unit_of}
use Rattle.daachorse_array.specs.Trees.{text}
use Rattle.daachorse_array.proofs.WalkLaws.{root-text, reached-is, reached-inside, child-text, unit-is}

-- the elements of entries that are put before others
pub entries-elements : (depth : ℕ) (kids : List ℕ) (l : List (ℕ × ℕ))
    → map (λ e. e.1) (put_before (map (λ j. (depth, j)) kids) l) ≡ put_before kids (map (λ e. e.1) l)
entries-elements depth [] l = refl
entries-elements depth (k ∷ kids) l = entries-elements depth kids ((depth, k) ∷ l)

module _ (child : ℕ → ℕ → Option ℕ) (n m : ℕ) where
  -- entries with shorter texts ahead of others
  pub entries-longer : (last_text : List ℕ) (most more : ℕ) (l : List (ℕ × ℕ)) → most ≤ more → AreEntries child n m last_text most l
      → AreEntries child n m last_text more l
  entries-longer last_text most more [] up h = tt
  entries-longer last_text most more (e ∷ l) up h = (omega (arith, up, h.0), h.1, h.2)

  pub entries-put : (last_text : List ℕ) (depth : ℕ) (kids : List ℕ) (l : List (ℕ × ℕ))
      → AllByRecursion (λ j. IsAside child n m last_text (depth, j)) kids → AreEntries child n m last_text depth l
      → AreEntries child n m last_text depth (put_before (map (λ j. (depth, j)) kids) l)
  entries-put last_text depth [] l all h = h
  entries-put last_text depth (k ∷ kids) l all h = entries-put last_text depth kids ((depth, k) ∷ l) all.1 (omega arith, all.0, h)

  -- another text that begins with the same units but for the last changes no entry
  pub entries-written : (last_text new : List ℕ) (depth most : ℕ) (l : List (ℕ × ℕ)) → take (depth - 1) new ≡ take (depth - 1) last_text
      → most ≤ depth
      → AreEntries child n m last_text most l → AreEntries child n m new most l
  entries-written last_text new depth most [] same low h = tt
  entries-written last_text new depth most (e ∷ l) same low h =
      let fewer : e.0 - 1 ≤ depth - 1 = omega (arith, h.0, low) in
      let begun : take (e.0 - 1) new ≡ take (e.0 - 1) last_text = sym (take-take (e.0 - 1) (depth - 1) new fewer)
      ∙ (ap (take (e.0 - 1)) same ∙ take-take (e.0 - 1) (depth - 1) last_text fewer) in
      (h.0, (h.1.0, begun ∙ h.1.1), entries-written last_text new depth e.0 l same (omega (arith, h.0, low)) h.2)

module _ {child : ℕ → ℕ → Option ℕ} {n m : ℕ} (tree : IsTree child n m) where
  -- a reached element that is not the root has a parent
  pub parent-of : (i : ℕ) → IsReached child m n i → i ≢ 0 → (p : ℕ) × (c : ℕ) × IsReached child m n p × (child p c ≡ Some i)
  parent-of i r other = elim (ends_in (text child n m i)) [
    | inl none ↦ absurd (other (sym (same_Some 0 i (ap (walk child 0) (sym none) ∙ r))))
    | inr ends ↦ (
        let parts = push-parts child 0 ends.0 ends.1 i (ap (walk child 0) (sym ends.2) ∙ r) in
        (parts.0, ends.1, reached-is tree ends.0 parts.0 parts.1, parts.2))
  ]

  -- its last unit is written behind the others
  pub text-written : {group : ℕ → Option ℕ} {edge : ℕ → Option (ℕ × ℕ)} → TellChildren child group edge n
      → (last_text new : List ℕ) (x d : ℕ) → IsReached child m n x → IsAside child n m last_text (d, x)
      → (d ≡ 0 → new ≡ []) → (0 < d → new ≡ take (d - 1) last_text ++ unit_of (edge x) ∷ []) → new ≡ text child n m x
  text-written tell last_text new x zero r e none some = none refl ∙ sym (nil_from_length (text child n m x) (sym e.0))
  text-written {edge = edge} tell last_text new x (suc k) r e none some =
      let other : x ≢ 0 = λ root. (let long = e.0 ∙ (ap (λ i. length (text child n m i)) root ∙ ap length (root-text tree)) in
      omega (arith, long)) in
      let parent = parent-of x r other in
      let p = parent.0 in
      let c = parent.1 in
      let longer : text child n m x ≡ text child n m p ++ c ∷ [] = child-text tree p c x parent.2 parent.3 in
      let count : k ≡ length (text child n m p) = (let long = e.0 ∙ ap length longer in
      omega (arith, long, length-append (text child n m p) (c ∷ []))) in
      let unit : unit_of (edge x) ≡ c = unit-is tell p c x (reached-inside tree p parent.2) parent.3 in
      let back : suc k - 1 ≡ k = omega arith in
      let begun : take (suc k - 1) last_text ≡ text child n m p =
      e.1 ∙ (ap (λ j. take j (text child n m x)) back
      ∙ (ap (take k) longer ∙ (take-append-le k (text child n m p) (c ∷ []) (omega (arith, count))
      ∙ take_all k (text child n m p) (omega (arith, count))))) in
      some (omega arith) ∙ (ap (λ w. w ++ unit_of (edge x) ∷ []) begun ∙ (ap (λ u. text child n m p ++ u ∷ []) unit ∙ sym longer))

  -- the text of an element is that of its children but for the last unit
  pub child-entry : (last_text : List ℕ) (x d c j : ℕ) → IsReached child m n x → d ≡ length (text child n m x)
      → take d last_text ≡ text child n m x → child x c ≡ Some j → IsAside child n m last_text (suc d, j)
  child-entry last_text x d c j r deep begun e =
      let longer : text child n m j ≡ text child n m x ++ c ∷ [] = child-text tree x c j r e in
      let back : suc d - 1 ≡ d = omega arith in (
        (let long = ap length longer in omega (arith, long, deep, length-append (text child n m x) (c ∷ []))),
        ap (λ k. take k last_text) back
            ∙ (begun ∙ sym (ap (λ k. take k (text child n m j)) back
            ∙ (ap (take d) longer ∙ (take-append-le d (text child n m x) (c ∷ []) (omega (arith, deep))
            ∙ take_all d (text child n m x) (omega (arith, deep)))))),
      )
