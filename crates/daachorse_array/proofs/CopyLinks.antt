-- The links of a copy are those that the rules on machines compute, since a text has one link.
use Rattle.std.proofs.Common.{◌≡◌, ◌≢◌, ℕ, Bool, true, false, ◌==◌, cond, List, ◌∷◌, Option, Some, None, sym, ap, ◌∙◌, inl, inr, arith}
use Rattle.daachorse_core.specs.declared.outputs.Output.{Output}
use Rattle.daachorse_model.specs.Dictionary.{Dictionary}
use Rattle.daachorse_model.specs.Paths.{walk, is_reached, Leads}
use Rattle.daachorse_model.specs.Prefixes.{IsPrefix, IsLeftFail, long, left_fail}
use Rattle.daachorse_model.proofs.Congruence.{dictionary-same}
use Rattle.daachorse_model.proofs.Links.{IsLink-same, IsDead-not, link-is, left_fail-is}
use Rattle.daachorse_array.specs.Machines.{Machine, content, element_of, right_fail}
use Rattle.daachorse_array.specs.Copies.{LinkedTrie, IsLinkedTo, HoldsDictionary, IsCopy}
use Rattle.daachorse_array.proofs.PathLaws.{element_reached, reached_element}
use Rattle.daachorse_array.proofs.CopyPaths.{Leads-copy, Leads-origin, idx-alive}

module _ {V : Type 0} (width : ℕ → ℕ) (K : Dictionary V) (leftmost : Bool) (t : LinkedTrie) (outputs : List (Output V)) (holds : HoldsDictionary width K leftmost t outputs) (a : Machine V) (idx : ℕ → ℕ) (copy : IsCopy t outputs a idx) where
  -- a text that leads somewhere is a prefix of a key
  pub fore-copy : (w : List ℕ) → is_reached a.child w ≡ true → IsPrefix K w
  fore-copy w h =
      let end = element_reached a.child w h in
      let from = Leads-origin t outputs a idx copy end.0 w end.1 in
      holds.only from.0 w from.1

  -- a prefix of a key leads somewhere
  pub back-copy : (w : List ℕ) → IsPrefix K w → is_reached a.child w ≡ true
  back-copy w p =
      let end = holds.begins w p in
      reached_element a.child w (idx end.0) (Leads-copy t outputs a idx copy end.0 w end.1)

  -- the link of the element of a state: dead, or the element of the state's link
  fail_dead : (u s : ℕ) (w : List ℕ) → Leads t.child (u ∷ w) s → t.fail s ≡ 1 → a.fail (idx s) ≡ 1
  fail_dead u s w e one = copy.links u s w e ∙ ap (λ b. cond b 1 (idx (t.fail s))) (ap (λ f. f == 1) one)

  fail_alive : (u s : ℕ) (w : List ℕ) → Leads t.child (u ∷ w) s → t.fail s ≢ 1 → a.fail (idx s) ≡ idx (t.fail s)
  fail_alive u s w e other =
      let test : (t.fail s == 1) ≡ false = grind (arith, other) in
      copy.links u s w e ∙ ap (λ b. cond b 1 (idx (t.fail s))) test

  fail_leads : (u s : ℕ) (w v : List ℕ) → Leads t.child (u ∷ w) s → t.fail s ≢ 1 → Leads t.child v (t.fail s) → Leads a.child v (a.fail (idx s))
  fail_leads u s w v e other leads = Leads-copy t outputs a idx copy (t.fail s) v leads ∙ ap (λ i. Some i) (sym (fail_alive u s w e other))

  -- the link is the one that the machine has to have
  pub right_fail-copy : ((w : List ℕ) → content width a w ≡ K w) → (b : Bool) (u s : ℕ) (w : List ℕ) → Leads t.child (u ∷ w) s → IsLinkedTo K b t (u ∷ w) (t.fail s) → right_fail width a b (u ∷ w) ≡ Some (a.fail (idx s))
  right_fail-copy same false u s w e (inl (one, dead)) = absurd dead
  right_fail-copy same false u s w e (inr (other, alive, (v, leads, link))) =
      ap (λ x. walk a.child 0 x) (IsLink-same K (u ∷ w) (long (is_reached a.child) w) v (link-is K (is_reached a.child) fore-copy back-copy u w) link)
      ∙ fail_leads u s w v e other leads
  right_fail-copy same true u s w e linked =
      ap (λ (D : Dictionary V). element_of width a (left_fail D (is_reached a.child) (u ∷ w))) (dictionary-same (content width a) K same)
      ∙ go (left_fail K (is_reached a.child) (u ∷ w)) (left_fail-is K (is_reached a.child) fore-copy back-copy u w) linked
    where
      go : (o : Option (List ℕ)) → IsLeftFail K (u ∷ w) o → IsLinkedTo K true t (u ∷ w) (t.fail s) → element_of width a o ≡ Some (a.fail (idx s))
      go None dead (inl (one, _)) = ap (λ i. Some i) (sym (fail_dead u s w e one))
      go None dead (inr (other, alive, _)) = absurd (alive dead)
      go (Some l) link (inl (one, dead)) = absurd (IsDead-not K (u ∷ w) l link.0 link.1 dead)
      go (Some l) link (inr (other, alive, (v, leads, is))) =
          ap (λ x. walk a.child 0 x) (IsLink-same K (u ∷ w) l v link.0 is) ∙ fail_leads u s w v e other leads

  -- where the chain of a text goes on, in the trie and in the machine
  pub next-copy : (u s : ℕ) (w : List ℕ) → Leads t.child (u ∷ w) s → cond (t.fail s == 1) 0 (t.output (t.fail s)) ≡ cond (a.fail (idx s) == 1) 0 (a.output (a.fail (idx s)))
  next-copy u s w e = go (holds.links u s w e)
    where
      go : IsLinkedTo K leftmost t (u ∷ w) (t.fail s) → cond (t.fail s == 1) 0 (t.output (t.fail s)) ≡ cond (a.fail (idx s) == 1) 0 (a.output (a.fail (idx s)))
      go (inl (one, _)) =
          ap (λ b. cond b 0 (t.output (t.fail s))) (ap (λ f. f == 1) one)
          ∙ sym (ap (λ b. cond b 0 (a.output (a.fail (idx s)))) (ap (λ f. f == 1) (fail_dead u s w e one)))
      go (inr (other, _, (v, leads, _))) =
          let here : (t.fail s == 1) ≡ false = grind (arith, other) in
          let at : a.fail (idx s) ≡ idx (t.fail s) = fail_alive u s w e other in
          let apart : idx (t.fail s) ≢ 1 = idx-alive t outputs a idx copy (t.fail s) v leads in
          let there : (a.fail (idx s) == 1) ≡ false = ap (λ f. f == 1) at ∙ grind (arith, apart) in
          ap (λ b. cond b 0 (t.output (t.fail s))) here
          ∙ sym (copy.positions (t.fail s) v leads)
          ∙ sym (ap (λ f. a.output f) at)
          ∙ sym (ap (λ b. cond b 0 (a.output (a.fail (idx s)))) there)
