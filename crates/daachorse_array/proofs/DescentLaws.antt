-- A walk down finds what the dictionary has: the own values of the element that a text leads to are the text's, and so its matches are those of the texts that begin what is read.
use Rattle.std.proofs.Common.{◌≡◌, ℕ, zero, suc, ◌+◌, ◌-◌, ◌<◌, ◌≤◌, Bool, true, false, cond, ◌==◌, List, [], ◌∷◌, ◌++◌, length, Option, Some, None, refl, sym, ap, ◌∙◌, append-nil, arith, slice_index_or}
use Rattle.std.specs.Prelude.{option_and_then, slice_get}
use Rattle.std.specs.Option.{option_map, option_or}
use Rattle.daachorse_core.specs.declared.outputs.Output.{Output}
use Rattle.std.specs.declared.num.NonZeroU32.{NonZeroU32}
use Rattle.daachorse_core.specs.Outputs.{length_of, list_from, list_step, number, outputs_at, parent_of, value_of}
use Rattle.daachorse_model.specs.declared.Match.{Match}
use Rattle.daachorse_model.specs.Dictionary.{Dictionary}
use Rattle.daachorse_model.specs.Leftmost.{key_with_value, longest_key}
use Rattle.daachorse_model.specs.Matches.{at_each_end, matches_of}
use Rattle.daachorse_model.specs.Paths.{walk}
use Rattle.daachorse_model.specs.Units.{size}
use Rattle.daachorse_model.proofs.Paths.{walk-append}
use Rattle.daachorse_model.proofs.Suffixes.{size-push}
use Rattle.daachorse_array.specs.Machines.{Machine, content, own_from, own_next, own_step, values_at}
use Rattle.daachorse_array.proofs.OutputLaws.{output_read}
use Rattle.daachorse_array.specs.Descents.{MayRead, first_at, matches_left, matches_past, matches_to, own_values, values_in}
use Rattle.daachorse_array.specs.Lookups.{common_prefixes, longest_prefix, prefix_match}

-- the values of the outputs that come first are the own values of the chain
own-values : {V : Type 0} (outputs : List (Output V)) (s n p : ℕ) → (own_from outputs s n p).0 ≡ own_values n (list_from outputs s p)
own-values outputs zero n p = refl
own-values outputs (suc s) n zero = refl
own-values {V} outputs (suc s) n (suc q) = go (slice_get outputs q) (λ r. own-values outputs s n r)
  where
    at : (o : Output V) (b : Bool) → (own_from outputs s n (parent_of o)).0 ≡ own_values n (list_from outputs s (parent_of o)) → (own_next outputs b o q (own_from outputs s n (parent_of o))).0 ≡ cond b (value_of o ∷ own_values n (list_from outputs s (parent_of o))) []
    at o true more = ap (λ l. value_of o ∷ l) more
    at o false more = refl

    go : (o : Option (Output V)) → ((r : ℕ) → (own_from outputs s n r).0 ≡ own_values n (list_from outputs s r)) → (own_step outputs o n q (λ r. own_from outputs s n r)).0 ≡ own_values n (list_step outputs o (λ r. list_from outputs s r))
    go None more = refl
    go (Some o) more = at o (length_of o == n) (more (parent_of o))

-- an output of the length that is asked for is the next value
pub value-read : {V : Type 0} (outputs : List (Output V)) (n : ℕ) (position : Option NonZeroU32) (q : ℕ) (o : Output V) → MayRead outputs (number position) → number position ≡ q → 0 < q → o ≡ slice_index_or outputs (q - 1) o → length_of o ≡ n
    → own_values n (outputs_at outputs (number position)) ≡ value_of o ∷ own_values n (outputs_at outputs (parent_of o))
value-read outputs n position q o may at low is same =
    let high : q ≤ length outputs = omega (arith, may.1, at) in
    let read = (output_read outputs may.0 q o low high is).1 in
    let test : (length_of o == n) ≡ true = grind (arith, same) in
    ap (λ p. own_values n (outputs_at outputs p)) at
    ∙ (ap (λ l. own_values n l) read ∙ ap (λ b. cond b (value_of o ∷ own_values n (outputs_at outputs (parent_of o))) []) test)

module _ {V : Type 0} (width : ℕ → ℕ) (a : Machine V) where
  -- the values of a text, where it leads to this element
  values-at : (w : List ℕ) (o : Option ℕ) → values_at width a w o ≡ values_in a (size width w) o
  values-at w None = refl
  values-at w (Some i) = own-values a.outputs (a.output i) (size width w) (a.output i)

  pub content-walk : (w : List ℕ) → content width a w ≡ values_in a (size width w) (walk a.child 0 w)
  content-walk w = values-at w (walk a.child 0 w)

  -- ---- one unit more
  some-walk : (o : Option ℕ) → option_and_then (λ j. walk a.child j []) o ≡ o
  some-walk None = refl
  some-walk (Some j) = refl

  step-walk : (t : List ℕ) (u : ℕ) → walk a.child 0 (t ++ u ∷ []) ≡ option_and_then (λ i. a.child i u) (walk a.child 0 t)
  step-walk t u = walk-append a.child 0 t (u ∷ []) ∙ go (walk a.child 0 t)
    where
      go : (o : Option ℕ) → option_and_then (λ i. walk a.child i (u ∷ [])) o ≡ option_and_then (λ i. a.child i u) o
      go None = refl
      go (Some i) = some-walk (a.child i u)

  -- ---- all keys that begin a text
  past-none : (place : ℕ) (o : Option ℕ) → matches_past width a place o [] ≡ []
  past-none place None = refl
  past-none place (Some i) = refl

  past-step : (place : ℕ) (o : Option ℕ) (u : ℕ) (w : List ℕ)
      → matches_left width a (place + width u) (values_in a (place + width u) (option_and_then (λ i. a.child i u) o)) (option_and_then (λ i. a.child i u) o) w ≡ matches_past width a place o (u ∷ w)
  past-step place None u w = refl
  past-step place (Some i) u w = refl

  abbrev K : Dictionary V
  K = content width a

  prefixes-left : (t w : List ℕ) → at_each_end (λ t. matches_of K 0 (size width t) t) t w ≡ matches_left width a (size width t) (K t) (walk a.child 0 t) w
  prefixes-left t [] =
      sym (ap (λ l. matches_to (size width t) (K t) ++ l) (past-none (size width t) (walk a.child 0 t)) ∙ append-nil (matches_to (size width t) (K t)))
  prefixes-left t (u ∷ w) =
      let next = t ++ u ∷ [] in let end = size width t + width u in let to = walk a.child 0 next in
      ap (λ l. matches_to (size width t) (K t) ++ l) (prefixes-left next w
      ∙ (ap (λ vs. matches_left width a (size width next) vs to w) (content-walk next)
      ∙ (ap (λ n. matches_left width a n (values_in a n to) to w) (size-push width t u)
      ∙ (ap (λ o. matches_left width a end (values_in a end o) o w) (step-walk t u)
      ∙ past-step (size width t) (walk a.child 0 t) u w))))

  pub prefixes-all : (w : List ℕ) → common_prefixes width K w ≡ matches_left width a 0 (values_in a 0 (Some 0)) (Some 0) w
  prefixes-all w = prefixes-left [] w ∙ ap (λ vs. matches_left width a 0 vs (Some 0) w) (content-walk [])

  -- ---- the longest of them
  -- the last match that ends past a place, with its first value
  abbrev pub best_past : ℕ → Option ℕ → List ℕ → Option (Match V)
  best_past place None w = None
  best_past place (Some i) [] = None
  best_past place (Some i) (u ∷ w) =
      let next = a.child i u in
      let end = place + width u in
      option_or (best_past end next w) (first_at a end next)

  best-none : (place : ℕ) (o : Option ℕ) → best_past place o [] ≡ None
  best-none place None = refl
  best-none place (Some i) = refl

  best-step : (place : ℕ) (o : Option ℕ) (u : ℕ) (w : List ℕ)
      → option_or (best_past (place + width u) (option_and_then (λ i. a.child i u) o) w) (first_at a (place + width u) (option_and_then (λ i. a.child i u) o)) ≡ best_past place o (u ∷ w)
  best-step place None u w = refl
  best-step place (Some i) u w = refl

  first-key : (t : List ℕ) (vs : List V) → option_map (prefix_match width) (option_map (λ v. (t, v)) (slice_get vs 0)) ≡ slice_get (matches_to (size width t) vs) 0
  first-key t [] = refl
  first-key t (v ∷ vs) = refl

  key-first : (t : List ℕ) → option_map (prefix_match width) (key_with_value K t) ≡ first_at a (size width t) (walk a.child 0 t)
  key-first t = first-key t (K t) ∙ ap (λ vs. slice_get (matches_to (size width t) vs) 0) (content-walk t)

  or-map : {A B : Type 0} (f : A → B) (x y : Option A) → option_map f (option_or x y) ≡ option_or (option_map f x) (option_map f y)
  or-map f None y = refl
  or-map f (Some x) y = refl

  longest-left : (t w : List ℕ) → option_map (prefix_match width) (longest_key K t w) ≡ option_or (best_past (size width t) (walk a.child 0 t) w) (first_at a (size width t) (walk a.child 0 t))
  longest-left t [] = key-first t ∙ sym (ap (λ b. option_or b (first_at a (size width t) (walk a.child 0 t))) (best-none (size width t) (walk a.child 0 t)))
  longest-left t (u ∷ w) =
      let next = t ++ u ∷ [] in let end = size width t + width u in let to = walk a.child 0 next in
      or-map (prefix_match width) (longest_key K next w) (key_with_value K t)
      ∙ (ap (λ b. option_or b (option_map (prefix_match width) (key_with_value K t))) (longest-left next w
      ∙ (ap (λ n. option_or (best_past n to w) (first_at a n to)) (size-push width t u)
      ∙ (ap (λ o. option_or (best_past end o w) (first_at a end o)) (step-walk t u)
      ∙ best-step (size width t) (walk a.child 0 t) u w)))
      ∙ ap (λ b. option_or (best_past (size width t) (walk a.child 0 t) (u ∷ w)) b) (key-first t))

  pub longest-all : (w : List ℕ) → longest_prefix width K w ≡ option_or (best_past 0 (Some 0) w) (first_at a 0 (Some 0))
  longest-all w = longest-left [] w

  or-assoc : {A : Type 0} (x y z : Option A) → option_or (option_or x y) z ≡ option_or x (option_or y z)
  or-assoc None y z = refl
  or-assoc (Some x) y z = refl

  -- one element further down, where the best so far was this
  pub best-next : (place i u : ℕ) (w : List ℕ) (j : ℕ) (best : Option (Match V)) → a.child i u ≡ Some j
      → option_or (best_past place (Some i) (u ∷ w)) best ≡ option_or (best_past (place + width u) (Some j) w) (option_or (first_at a (place + width u) (Some j)) best)
  best-next place i u w j best is =
      ap (λ o. option_or (option_or (best_past (place + width u) o w) (first_at a (place + width u) o)) best) is
      ∙ or-assoc (best_past (place + width u) (Some j) w) (first_at a (place + width u) (Some j)) best

  pub best-last : (place i u : ℕ) (w : List ℕ) (best : Option (Match V)) → a.child i u ≡ None → option_or (best_past place (Some i) (u ∷ w)) best ≡ best
  best-last place i u w best is = ap (λ o. option_or (option_or (best_past (place + width u) o w) (first_at a (place + width u) o)) best) is
