-- What a walk over the patterns of a right machine gives is the listing of its dictionary: an element's own outputs end where its chain goes on.
use Rattle.std.proofs.Common.{◌≡◌, ◌≢◌, ℕ, ◌<◌, ◌==◌, Bool, false, cond, List, [], ◌∷◌, Option, None, refl, sym, ap, ◌∙◌, arith, subst}
use Rattle.daachorse_model.specs.Paths.{walk, Leads}
use Rattle.daachorse_model.specs.Prefixes.{IsListing, is_key}
use Rattle.daachorse_model.specs.Units.{size}
use Rattle.daachorse_array.specs.Machines.{Machine, IsCounted, IsMachine, content, own, values_at}
use Rattle.daachorse_array.specs.Texts.{IsReached, text_of}
use Rattle.daachorse_array.proofs.MachineLaws.{Reached-Leads, root-text, text-Leads, text-root}
use Rattle.daachorse_array.specs.Edges.{TellChildren}
use Rattle.daachorse_array.specs.Listing.{HasPatterns, IsPatterns, has_own, own_end, values_until}
use Rattle.daachorse_array.proofs.ListingLaws.{listing-is, own-any, own-until}
use Rattle.daachorse_array.proofs.MachineTrees.{machine_tree}

module _ {V : Type 0} (width : ℕ → ℕ) (a : Machine V) (leftmost : Bool) (n m : ℕ) (machine : IsMachine width a leftmost n m) where
  ends : (i : ℕ) → IsReached a.child m n i → (own width a (text_of a.child m n i) i).1 ≡ own_end a.fail a.output i
  ends i r = at (text_of a.child m n i) refl
    where
      at : (w : List ℕ) → text_of a.child m n i ≡ w → (own width a w i).1 ≡ own_end a.fail a.output i
      at [] e =
          let root : i ≡ 0 = root-text width a leftmost n m machine i r e in
          ap (λ k. (own width a [] k).1) root ∙ (machine.right.root_chain ∙ sym (ap (own_end a.fail a.output) root))
      at (u ∷ w) e =
          let leads : Leads a.child (u ∷ w) i = sym (ap (walk a.child 0) e) ∙ r in
          let other : i ≢ 0 = λ root. (let none : [] ≡ u ∷ w = sym (text-root width a leftmost n m machine i root) ∙ e in cc) in
          let test : (i == 0) ≡ false = grind (arith, other) in
          machine.right.chains u i w leads ∙ sym (ap (λ b. cond b 0 (cond (a.fail i == 1) 0 (a.output (a.fail i)))) test)

  -- an element other than the root without children has values
  leaf-values : (i : ℕ) → i ≢ 0 → IsReached a.child m n i → ((c : ℕ) → a.child i c ≡ None) → values_until a.outputs (own_end a.fail a.output i) (a.output i) ≢ []
  leaf-values i other r none = at (text_of a.child m n i) refl
    where
      at : (w : List ℕ) → text_of a.child m n i ≡ w → values_until a.outputs (own_end a.fail a.output i) (a.output i) ≢ []
      at [] e = absurd (other (root-text width a leftmost n m machine i r e))
      at (u ∷ w) e = λ empty.
          (let leads : Leads a.child (u ∷ w) i = sym (ap (walk a.child 0) e) ∙ r in
          let end : (own width a (u ∷ w) i).1 ≡ own_end a.fail a.output i = ap (λ v. (own width a v i).1) (sym e) ∙ ends i r in
          let vals = own-until a.outputs machine.parents_fall (size width (u ∷ w)) (a.output i) (own_end a.fail a.output i) end in
          machine.right.leaf_has_own u i w leads none (ap (values_at width a (u ∷ w)) leads ∙ (sym vals ∙ empty)))

  pub machine_patterns : (k : ℕ) → IsCounted a k → k < 4294967296 → (group : ℕ → Option ℕ) (edge : ℕ → Option (ℕ × ℕ)) → TellChildren a.child group edge n → HasPatterns a.child group edge n m a.outputs a.output (own_end a.fail a.output)
  machine_patterns k counted few group edge tell = record {
    tree = machine_tree width a leftmost n m k machine counted few;
    tell = tell;
    falls = machine.parents_fall;
    inside = machine.outputs_inside;
    leaves = leaf-values;
  }

  -- whether the text of an element is a key, by its positions
  pub key_at : (i : ℕ) (w : List ℕ) → Leads a.child w i → has_own a.fail a.output i ≡ is_key (content width a) w
  key_at i w leads =
      let text : text_of a.child m n i ≡ w = text-Leads width a leftmost n m machine w i leads in
      let end : (own width a w i).1 ≡ own_end a.fail a.output i = ap (λ v. (own width a v i).1) (sym text) ∙ ends i (Reached-Leads width a leftmost n m machine w i leads) in
      own-any a.outputs machine.parents_fall (size width w) (a.output i) (own_end a.fail a.output i) end
      ∙ sym (ap (λ o. is_key (λ (_ : List ℕ). values_at width a w o) []) leads)

  pub machine_listing : (entries : List (List ℕ × V)) → IsPatterns a.child n m a.outputs a.output (own_end a.fail a.output) entries → IsListing (content width a) entries
  machine_listing entries (taken, listed, is) =
      let P : List (List ℕ × V) → Type 0 = λ l. IsListing (content width a) l in
      subst P (sym is) (listing-is width a leftmost n m machine taken listed (own_end a.fail a.output) ends)
