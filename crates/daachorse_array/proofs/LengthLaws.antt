-- The first output of an element with outputs of its own has the length of its text, so that the longest text is found by the outputs
-- alone.
use Rattle.std.proofs.Common.{◌≡◌, ◌≢◌, ℕ, zero, suc, ◌+◌, ◌-◌, ◌<◌, ◌≤◌, ◌⊎◌, inl, inr, Bool, true, false, ◌==◌, List, [], ◌∷◌, ◌++◌}
use Rattle.std.proofs.Common.{length, Option, Some, None, refl, sym, ap, ◌∙◌, arith, length-append, subst}
use Rattle.std.specs.Prelude.{max, slice_get, slice_index}
use Rattle.std.proofs.lemmas.Bool.{cases_eq, cases_lt, false≢true}
use Rattle.std.proofs.lemmas.Option.{get_or_from_slice_get, none-some, same_Some}
use Rattle.daachorse_core.specs.declared.outputs.Output.{Output}
use Rattle.daachorse_core.specs.Outputs.{ParentsFall, length_of, parent_of}
use Rattle.daachorse_model.specs.Paths.{walk}
use Rattle.daachorse_model.specs.Prefixes.{is_key}
use Rattle.daachorse_model.specs.Units.{size}
use Rattle.daachorse_array.specs.Depths.{IsDepthTable}
use Rattle.daachorse_array.specs.Listing.{HasMoved, IsListingWalk, Texts, has_own, values_until, with_values}
use Rattle.daachorse_array.specs.Machines.{Machine, IsMachine, content, own_from, own_next, own_step, values_at}
use Rattle.daachorse_array.specs.Texts.{IsReached, text_of}
use Rattle.daachorse_array.proofs.MachineLaws.{Reached-Leads, Reached-inside, text-Leads}
use Rattle.daachorse_array.proofs.ListingLaws.{values_until-step}
use Rattle.daachorse_array.proofs.MachineListings.{key_at}

some_key : {V : Type 0} (vs : List V) → is_key (λ (_ : List ℕ). vs) [] ≡ true → vs ≢ []
some_key [] h = absurd (false≢true h)
some_key (v ∷ vs) h = λ none. cc

key_some : {V : Type 0} (vs : List V) → vs ≢ [] → is_key (λ (_ : List ℕ). vs) [] ≡ true
key_some [] some = absurd (some refl)
key_some (v ∷ vs) some = refl

-- where values of length n come first in a chain, its first output has that length
first-length : {V : Type 0} (outputs : List (Output V)) (n p : ℕ) → is_key (λ (_ : List ℕ). (own_from outputs p n p).0) [] ≡ true
    → (o : Output V) × (0 < p) × (slice_get outputs (p - 1) ≡ Some o) × (length_of o ≡ n)
first-length outputs n zero h = absurd (false≢true h)
first-length {V} outputs n (suc q) h = go (slice_get outputs q) refl h
  where
    go : (o : Option (Output V)) → slice_get outputs q ≡ o
        → is_key (λ (_ : List ℕ). (own_step outputs o n q (λ r. own_from outputs q n r)).0) [] ≡ true
        → (o : Output V) × (0 < suc q) × (slice_get outputs (suc q - 1) ≡ Some o) × (length_of o ≡ n)
    go None is h = absurd (false≢true h)
    go (Some o) is h = elim (cases_eq (length_of o) n) [
      | inl same ↦ (let back : suc q - 1 ≡ q = omega arith in (o, omega arith, ap (slice_get outputs) back ∙ is, same))
      | inr other ↦ (
          let test : (length_of o == n) ≡ false = grind (arith, other) in
          absurd (false≢true (sym (ap (λ b. is_key (λ (_ : List ℕ). (own_next outputs b o q (own_from outputs q n (parent_of o))).0) [])
          test) ∙ h)))
    ]

module _ {V : Type 0} (width : ℕ → ℕ) (a : Machine V) (n m : ℕ) where
  abbrev text : ℕ → List ℕ
  text i = text_of a.child m n i

  -- among the first k elements no longer text has outputs of its own, and some text is as long
  pub record IsLongestTo (k longest : ℕ) : Type 0 where
    pub none_longer : (i : ℕ) → i < k → IsReached a.child m n i → has_own a.fail a.output i ≡ true → size width (text i) ≤ longest
    pub some : (longest ≡ 0) ⊎ ((i : ℕ) × IsReached a.child m n i × (has_own a.fail a.output i ≡ true) × (size width (text i) ≡ longest))

  pub longest-start : IsLongestTo 0 0
  longest-start = record { none_longer = λ i less. absurd (omega (arith, less)); some = inl refl }

  -- one element more, whose own text is so long
  pub longest-next : (k longest more : ℕ) → IsLongestTo k longest → (IsReached a.child m n k → has_own a.fail a.output k ≡ true
      → more ≡ size width (text k))
      → (more ≡ 0) ⊎ (IsReached a.child m n k × (has_own a.fail a.output k ≡ true)) → IsLongestTo (k + 1) (max longest more)
  longest-next k longest more to own some = record {
    none_longer = λ i less r has. elim (cases_eq i k) [
      | inl same ↦ (
          let here = own (subst (IsReached a.child m n) same r) (ap (has_own a.fail a.output) (sym same) ∙ has) in
          let text_same : size width (text i) ≡ size width (text k) = ap (λ j. size width (text j)) same in
          omega (arith, here, text_same))
      | inr other ↦ (let least = to.none_longer i (omega (arith, less, other)) r has in omega (arith, least))
    ];
    some = elim (cases_lt longest more) [
      | inl greater ↦ (
          let new : max longest more ≡ more = omega (arith, greater) in
          elim some [ inl none ↦ inl (new ∙ none) | inr at ↦ inr (k, at.0, at.1, sym (own at.0 at.1) ∙ sym new) ])
      | inr least ↦ (
          let old : max longest more ≡ longest = omega (arith, least) in
          elim to.some [ inl none ↦ inl (old ∙ none) | inr at ↦ inr (at.0, at.1, at.2, at.3 ∙ sym old) ])
    ];
  }

module _ {V : Type 0} (width : ℕ → ℕ) (a : Machine V) (leftmost : Bool) (n m : ℕ) (machine : IsMachine width a leftmost n m) where
  -- the length of an element's text, by its first output
  pub own-length : (i : ℕ) → IsReached a.child m n i → has_own a.fail a.output i ≡ true
      → (o : Output V) × (0 < a.output i) × (slice_get a.outputs (a.output i - 1) ≡ Some o) × (length_of o ≡ size width (text_of a.child
      m n i))
  own-length i r own =
      let at : has_own a.fail a.output i ≡ is_key (content width a) (text_of a.child m n i) = key_at width a leftmost n m machine i
      (text_of a.child m n i) r in
      let values : is_key (λ (_ : List ℕ). values_at width a (text_of a.child m n i) (Some i)) [] ≡ true = sym (ap (λ o. is_key (λ (_ :
      List ℕ). values_at width a (text_of a.child m n i) o) []) r) ∙ (sym at ∙ own) in
      first-length a.outputs (size width (text_of a.child m n i)) (a.output i) values

  -- of all elements: the longest key
  pub longest-key : (longest : ℕ) → IsLongestTo width a n m n longest → (w : List ℕ) → content width a w ≢ [] → size width w ≤ longest
  longest-key longest to w some = at (walk a.child 0 w) refl
    where
      at : (o : Option ℕ) → walk a.child 0 w ≡ o → size width w ≤ longest
      at None e = absurd (some (ap (values_at width a w) e))
      at (Some i) e =
          let same : text_of a.child m n i ≡ w = text-Leads width a leftmost n m machine w i e in
          let r : IsReached a.child m n i = Reached-Leads width a leftmost n m machine w i e in
          let inside : i < n = Reached-inside width a leftmost n m machine i r in
          let own : has_own a.fail a.output i ≡ true = key_at width a leftmost n m machine i w e ∙ key_some (content width a w) some in
          let least = to.none_longer i inside r own in
          omega (arith, least, ap (size width) same)

  pub some-key : (longest : ℕ) → IsLongestTo width a n m n longest
      → (longest ≡ 0) ⊎ ((w : List ℕ) × (content width a w ≢ []) × (size width w ≡ longest))
  some-key longest to = elim to.some [
    | inl none ↦ inl none
    | inr at ↦ inr (
      text_of a.child m n at.0,
      some_key (content width a (text_of a.child m n at.0)) (sym (key_at width a leftmost n m machine at.0 (text_of a.child m n at.0)
          at.1) ∙ at.2),
      at.3,
    )
  ]

-- an element is reached or not
pub reached-either : (child : ℕ → ℕ → Option ℕ) (m n i : ℕ) → IsReached child m n i ⊎ (¬ IsReached child m n i)
reached-either child m n i = at (walk child 0 (text_of child m n i))
  where
    at : (o : Option ℕ) → (o ≡ Some i) ⊎ (¬ (o ≡ Some i))
    at None = inr (λ bad. none-some i bad)
    at (Some j) = elim (cases_eq j i) [ inl same ↦ inl (ap (λ k. Some k) same) | inr other ↦ inr (λ e. other (same_Some j i e)) ]

-- an element that has a depth in the table is reached
pub deep-reached : {child : ℕ → ℕ → Option ℕ} {n m : ℕ} (depths : List ℕ) → IsDepthTable child m n depths → (i : ℕ) → i < n
    → slice_index depths i ≢ 4294967295 → IsReached child m n i
deep-reached {child} {n} {m} depths table i inside deep = elim (reached-either child m n i) [
  | inl r ↦ r
  | inr out ↦ absurd (deep (get_or_from_slice_get depths i 4294967295 0 (table.others i inside out)))
]

-- ---- a walk over texts

-- it stands at no output
pub standing : {V : Type 0} {child : ℕ → ℕ → Option ℕ} {group : ℕ → Option ℕ} {edge : ℕ
    → Option (ℕ × ℕ)} {n m : ℕ} {outputs : List (Output V)} {first stop : ℕ
    → ℕ} {groups : List (List ℕ)} {aside : List (ℕ × ℕ)} {text : List ℕ} {position : ℕ}
    → IsListingWalk child group edge n m outputs first stop groups aside text position
    → IsListingWalk child group edge n m outputs first stop groups aside text 0
standing w = record {
  patterns = w.patterns;
  groups_are = w.groups_are;
  each = w.each;
  walk = w.walk;
  entries = w.entries;
  inside = omega
      arith;
}

item-at : {X : Type 0} (xs : List X) (q : ℕ) → q < length xs → (x : X) × (slice_get xs q ≡ Some x)
item-at [] q h = absurd (omega (arith, h))
item-at (x ∷ xs) zero h = (x, refl)
item-at (x ∷ xs) (suc q) h = item-at xs q (omega (arith, h))

-- an element whose chain begins elsewhere than its own outputs end has a value
pub values-some : {V : Type 0} (outputs : List (Output V)) → ParentsFall outputs → (stop p : ℕ) → p ≢ stop → p ≢ 0 → p ≤ length outputs
    → values_until outputs stop p ≢ []
values-some outputs falls stop zero other some inside = absurd (some refl)
values-some outputs falls stop (suc q) other some inside = λ none.
    (let at = item-at outputs q (omega (arith, inside)) in let bad = sym none ∙ values_until-step outputs falls stop q at.0 other at.1 in
    cc)

-- fewer patterns are left after a text
pub fewer-left : {V : Type 0} (s : List (List ℕ × V)) (t : Texts V) → HasMoved s true t → length t.left < length s
fewer-left {V} s t (vs, some, is) = by vs some is
  where
    by : (us : List V) → us ≢ [] → s ≡ with_values t.text us ++ t.left → length t.left < length s
    by [] some is = absurd (some refl)
    by (v ∷ us) some is = omega (arith, ap length is, length-append (with_values t.text us) t.left)
