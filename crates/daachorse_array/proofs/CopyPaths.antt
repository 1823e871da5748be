-- Texts lead to the elements of the states to which they lead in the trie, and to nothing else.
use Rattle.std.proofs.Common.{◌≡◌, ◌≢◌, ℕ, ◌<◌, List, [], ◌∷◌, ◌++◌, Option, Some, None, refl, sym, ap, ◌∙◌, arith}
use Rattle.std.proofs.lemmas.Option.{same_Some}
use Rattle.std.specs.Prelude.{is_some, option_map, option_and_then}
use Rattle.daachorse_core.specs.declared.outputs.Output.{Output}
use Rattle.daachorse_model.specs.Paths.{walk, is_reached, Leads}
use Rattle.daachorse_model.proofs.Paths.{walk-push}
use Rattle.daachorse_model.proofs.Lists.{some_of_map}
use Rattle.daachorse_array.specs.Machines.{Machine}
use Rattle.daachorse_array.specs.Copies.{LinkedTrie, IsCopy}

map_inv : {A B : Type 0} (f : A → B) (o : Option A) (y : B) → option_map f o ≡ Some y → (x : A) × (o ≡ Some x) × (y ≡ f x)
map_inv f (Some x) y e = (x, refl, sym (same_Some (f x) y e))
map_inv f None y e = absurd (cc)

module _ {V : Type 0} (t : LinkedTrie) (outputs : List (Output V)) (a : Machine V) (idx : ℕ → ℕ) (copy : IsCopy t outputs a idx) where
  walk_from : (s : ℕ) (v w : List ℕ) → Leads t.child v s → walk a.child (idx s) w ≡ option_map idx (walk t.child s w)
  walk_from s v [] e = refl
  walk_from s v (c ∷ w) e =
      ap (λ o. option_and_then (λ j. walk a.child j w) o) (copy.children s c v e)
      ∙ on (t.child s c) refl (λ r leads. walk_from r (v ++ c ∷ []) w leads)
    where
      on : (o : Option ℕ) → t.child s c ≡ o → ((r : ℕ) → Leads t.child (v ++ c ∷ []) r → walk a.child (idx r) w ≡ option_map idx (walk t.child r w))
          → option_and_then (λ j. walk a.child j w) (option_map idx o) ≡ option_map idx (option_and_then (λ j. walk t.child j w) o)
      on None is more = refl
      on (Some r) is more = more r (walk-push t.child 0 v c s e ∙ is)

  -- where a text leads
  pub walk-copy : (w : List ℕ) → walk a.child 0 w ≡ option_map idx (walk t.child 0 w)
  walk-copy w = ap (λ i. walk a.child i w) (sym copy.root) ∙ walk_from 0 [] w refl

  pub Leads-copy : (s : ℕ) (w : List ℕ) → Leads t.child w s → Leads a.child w (idx s)
  Leads-copy s w e = walk-copy w ∙ ap (λ o. option_map idx o) e

  -- each element that a text leads to is that of a state
  pub Leads-origin : (i : ℕ) (w : List ℕ) → Leads a.child w i → (s : ℕ) × Leads t.child w s × (i ≡ idx s)
  Leads-origin i w e = map_inv idx (walk t.child 0 w) i (sym (walk-copy w) ∙ e)

  pub reached-copy : (w : List ℕ) → is_reached a.child w ≡ is_reached t.child w
  reached-copy w = ap is_some (walk-copy w) ∙ some_of_map idx (walk t.child 0 w)

  -- no state's element is the dead one
  pub idx-alive : (s : ℕ) (w : List ℕ) → Leads t.child w s → idx s ≢ 1
  idx-alive s [] e = let root : 0 ≡ s = same_Some 0 s e in let zero_at : idx s ≡ 0 = ap idx (sym root) ∙ copy.root in omega (arith, zero_at)
  idx-alive s (u ∷ w) e = let high : 1 < idx s = copy.above u s w e in omega (arith, high)

  -- no text leads to the dead state
  pub copy-dead : (w : List ℕ) → ¬ Leads a.child w 1
  copy-dead w e = let from = Leads-origin 1 w e in idx-alive from.0 w from.1 (sym from.2)

  -- no two texts lead to one element, if none lead to one state
  pub copy-one_path : ((s : ℕ) (v w : List ℕ) → Leads t.child v s → Leads t.child w s → v ≡ w) → (i : ℕ) (v w : List ℕ) → Leads a.child v i → Leads a.child w i → v ≡ w
  copy-one_path one i v w d e =
      let left = Leads-origin i v d in
      let right = Leads-origin i w e in
      let same : left.0 ≡ right.0 = copy.apart left.0 right.0 v w left.1 right.1 (sym left.2 ∙ right.2) in
      one right.0 v w (left.1 ∙ ap (λ s. Some s) same) right.1
