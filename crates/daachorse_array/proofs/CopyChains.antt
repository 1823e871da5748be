-- The own values of a text stop where the chain of its link begins, since each output there is of a shorter text.
use Rattle.std.proofs.Common.{◌≡◌, ◌≢◌, ℕ, zero, suc, ◌<◌, ◌≤◌, Bool, true, false, ◌==◌, cond, List, [], ◌∷◌, ◌++◌, map, length, Option}
use Rattle.std.proofs.Common.{Some, None, refl, sym, ap, ◌∙◌, subst, inl, inr, arith}
use Rattle.std.proofs.lemmas.Option.{none-some}
use Rattle.std.specs.Prelude.{option_map}
use Rattle.daachorse_core.specs.declared.outputs.Output.{Output}
use Rattle.daachorse_core.specs.Outputs.{value_of, length_of, parent_of, ParentsFall}
use Rattle.daachorse_core.specs.Chains.{Passes}
use Rattle.daachorse_model.specs.Units.{size}
use Rattle.daachorse_model.specs.Dictionary.{Dictionary}
use Rattle.daachorse_model.specs.Paths.{walk, Leads}
use Rattle.daachorse_model.specs.Prefixes.{IsSuffix}
use Rattle.daachorse_model.proofs.Suffixes.{size-append}
use Rattle.daachorse_model.proofs.Steps.{IsPrefix-key}
use Rattle.daachorse_array.specs.Machines.{Machine, own_next, own_step, own_from, own, values_at, content}
use Rattle.daachorse_array.specs.Copies.{LinkedTrie, next_output, IsLinkedTo, HoldsDictionary, IsCopy}
use Rattle.daachorse_array.proofs.CopyPaths.{walk-copy}

module _ {V : Type 0} (outputs : List (Output V)) where
  -- no output of length n stands first from position q on
  abbrev pub Stops : ℕ → ℕ → Type 0
  Stops n q = (steps : ℕ) → own_from outputs steps n q ≡ ([], q)

  pub Stops-zero : (n : ℕ) → Stops n 0
  Stops-zero n zero = refl
  Stops-zero n (suc steps) = refl

  -- where outputs of another length come first, none of length n does
  pub Stops-passes : (m n p q : ℕ) (vs : List V) → m ≢ n → Passes outputs p (map (λ v. (v, m)) vs) q → Stops n q → Stops n p
  Stops-passes m n p q [] other e stops = let P : ℕ → Type 0 = λ r. Stops n r in subst P (sym e) stops
  Stops-passes m n zero q (v ∷ vs) other none stops = absurd none
  Stops-passes m n (suc p) q (v ∷ vs) other (o, is, same, more) stops = here
    where
      here : Stops n (suc p)
      here zero = refl
      here (suc steps) =
          let len : length_of o ≡ m = ap (λ (x : V × ℕ). x.1) same in
          let test : (length_of o == n) ≡ false = grind (arith, len, other) in
          ap (λ x. own_step outputs x n p (λ r. own_from outputs steps n r)) is
          ∙ ap (λ b. own_next outputs b o p (own_from outputs steps n (parent_of o))) test

  -- the values of length n that come first are those up to where they stop
  pub own-passes : ParentsFall outputs → (steps n p q : ℕ) (vs : List V) → p ≤ steps → Passes outputs p (map (λ v. (v, n)) vs) q → Stops n q
      → own_from outputs steps n p ≡ (vs, q)
  own-passes falls steps n p q [] h e stops = let P : ℕ → Type 0 = λ r. own_from outputs steps n r ≡ ([], q) in
      subst P (sym e) (stops steps)
  own-passes falls steps n zero q (v ∷ vs) h none stops = absurd none
  own-passes falls zero n (suc p) q (v ∷ vs) h some stops = absurd (omega arith)
  own-passes falls (suc steps) n (suc p) q (v ∷ vs) h (o, is, same, more) stops =
      let len : length_of o ≡ n = ap (λ (x : V × ℕ). x.1) same in
      let value : value_of o ≡ v = ap (λ (x : V × ℕ). x.0) same in
      let test : (length_of o == n) ≡ true = grind (arith, len) in
      let low : parent_of o ≤ p = falls p o is in
      let rest : own_from outputs steps n (parent_of o) ≡ (vs, q) =
      own-passes falls steps n (parent_of o) q vs (omega (arith, low, h)) more stops in
      ap (λ x. own_step outputs x n p (λ r. own_from outputs steps n r)) is
      ∙ ap (λ b. own_next outputs b o p (own_from outputs steps n (parent_of o))) test
      ∙ ap (λ (r : List V × ℕ). (value_of o ∷ r.0, r.1)) rest
      ∙ ap (λ x. (x ∷ vs, q)) value

module _ {V : Type 0} (width : ℕ → ℕ) (wide : (u : ℕ) → 1 ≤ width u) (K : Dictionary V) (leftmost : Bool) (t : LinkedTrie)
    (outputs : List (Output V)) (holds : HoldsDictionary width K leftmost t outputs) where
  -- a shorter end takes fewer bytes
  shorter-size : (v w : List ℕ) → IsSuffix v w → length v < length w → size width v < size width w
  shorter-size v w (front, e) less = by front e
    where
      by : (front : List ℕ) → front ++ v ≡ w → size width v < size width w
      by [] e = absurd (omega (arith, ap length e, less))
      by (u ∷ front) e = omega (arith, size-append width (u ∷ front) v, ap (size width) e, wide u)

  -- where a chain goes on behind the own outputs of a text, no output is as long as the text
  next_stops : (n s : ℕ) (w : List ℕ) → Leads t.child w s → size width w ≤ n
      → ((r : ℕ) (v : List ℕ) → length v < length w → Leads t.child v r → size width v < n → Stops outputs n (t.output r))
      → Stops outputs n (next_output t w s)
  next_stops n s [] e fits more = Stops-zero outputs n
  next_stops n s (u ∷ w) e fits more = go (holds.links u s w e)
    where
      P : ℕ → Type 0
      P q = Stops outputs n q

      go : IsLinkedTo K leftmost t (u ∷ w) (t.fail s) → Stops outputs n (next_output t (u ∷ w) s)
      go (inl (one, dead)) =
          let test : (t.fail s == 1) ≡ true = ap (λ f. f == 1) one in
          subst P (sym (ap (λ b. cond b 0 (t.output (t.fail s))) test)) (Stops-zero outputs n)
      go (inr (other, alive, (v, leads, link))) =
          let test : (t.fail s == 1) ≡ false = grind (arith, other) in
          let less : size width v < size width (u ∷ w) = shorter-size v (u ∷ w) link.ends link.shorter in
          subst P (sym (ap (λ b. cond b 0 (t.output (t.fail s))) test)) (more (t.fail s) v link.shorter leads (omega (arith, less, fits)))

  -- no output of a state is longer than its text
  stops_in : (steps n s : ℕ) (w : List ℕ) → length w ≤ steps → Leads t.child w s → size width w < n → Stops outputs n (t.output s)
  stops_in zero n s w short e less =
      Stops-passes outputs (size width w) n (t.output s) (next_output t w s) (K w) (λ same. omega (arith, same, less)) (holds.chains s w e)
      (next_stops n s w e (omega (arith, less)) (λ r v shorter leads low. absurd (omega (arith, shorter, short))))
  stops_in (suc steps) n s w short e less =
      Stops-passes outputs (size width w) n (t.output s) (next_output t w s) (K w) (λ same. omega (arith, same, less)) (holds.chains s w e)
      (next_stops n s w e (omega (arith, less)) (λ r v shorter leads low. stops_in steps n r v (omega (arith, shorter, short)) leads low))

  -- the own values of a state are those of its text
  pub own-held : (s : ℕ) (w : List ℕ) → Leads t.child w s → own_from outputs (t.output s) (size width w)
      (t.output s) ≡ (K w, next_output t w s)
  own-held s w e =
      own-passes outputs holds.parents_fall (t.output s) (size width w) (t.output s) (next_output t w s) (K w) (omega arith)
      (holds.chains s w e)
      (next_stops (size width w) s w e (omega arith)
      (λ r v shorter leads low. stops_in (length v) (size width w) r v (omega arith) leads low))

  module _ (a : Machine V) (idx : ℕ → ℕ) (copy : IsCopy t outputs a idx) where
    -- the same of an element
    pub own-copy : (s : ℕ) (w : List ℕ) → Leads t.child w s → own width a w (idx s) ≡ (K w, next_output t w s)
    own-copy s w e =
        ap (λ os. own_from os (a.output (idx s)) (size width w) (a.output (idx s))) copy.same_outputs
        ∙ ap (λ p. own_from outputs p (size width w) p) (copy.positions s w e)
        ∙ own-held s w e

    -- a text that leads nowhere has no value
    lost : (w : List ℕ) → walk t.child 0 w ≡ None → (vs : List V) → K w ≡ vs → [] ≡ vs
    lost w none [] is = refl
    lost w none (v ∷ vs) is =
        let key : K w ≢ [] = λ e. (let bad : v ∷ vs ≡ [] = sym is ∙ e in cc) in
        let end = holds.begins w (IsPrefix-key K w key) in
        absurd (none-some end.0 (sym none ∙ end.1))

    -- the dictionary of the machine is that of the trie
    pub content-copy : (w : List ℕ) → content width a w ≡ K w
    content-copy w = ap (values_at width a w) (walk-copy t outputs a idx copy w) ∙ go (walk t.child 0 w) refl
      where
        go : (o : Option ℕ) → walk t.child 0 w ≡ o → values_at width a w (option_map idx o) ≡ K w
        go None is = lost w is (K w) refl
        go (Some s) is = ap (λ (r : List V × ℕ). r.0) (own-copy s w is)
