-- The outputs of a text up to the first suffix that stops are its output chain, where links are leftmost.
use Rattle.std.proofs.Common.{◌≡◌, ℕ, zero, suc, ◌≤◌, Bool, true, false, cond, List, [], ◌∷◌, ◌++◌, length, map, Option, Some, None, sym, subst, arith, append-nil}
use Rattle.std.specs.Prelude.{option_map}
use Rattle.std.proofs.lemmas.List.{length-map}
use Rattle.std.specs.declared.cmp.Ordering.{Ordering}
use Rattle.std.specs.declared.cmp.Ordering.TheVariants.{Equal}
use Rattle.std.specs.Cmp.{IsTotalOrder}
use Rattle.daachorse_model.specs.declared.MatchKind.{MatchKind}
use Rattle.daachorse_model.specs.Dictionary.{Dictionary, dictionary}
use Rattle.daachorse_model.specs.Prefixes.{IsDead, IsLeftFail}
use Rattle.daachorse_model.specs.Outputs.{own_outputs, IsChain, at_root, at_dead, before_link}
use Rattle.daachorse_model.proofs.Links.{IsDead-not}
use Rattle.daachorse_build.specs.declared.nfa_builder.NfaBuilderState.{NfaBuilderState}
use Rattle.daachorse_build.specs.Tables.{child_of, stops_of}
use Rattle.daachorse_build.specs.Holds.{in_units, Holds}
use Rattle.daachorse_build.specs.Left.{meets, long_unless_stop}
use Rattle.daachorse_build.specs.Lists.{left_outputs}
use Rattle.daachorse_build.proofs.OutputLists.{link_outputs, link_outputs-long}
use Rattle.daachorse_build.proofs.Leftmost.{left_link-is}

module _ {L V A : Type 0} (cmp : L → L → Ordering) (total : IsTotalOrder cmp) (exact : (x y : L) → cmp x y ≡ Equal → x ≡ y) (unit : L → ℕ) (width : ℕ → ℕ) (kind : MatchKind) (states : List (NfaBuilderState L V A)) (rs : List (List L × V)) (holds : Holds cmp unit width kind states rs) where
  abbrev keys : Dictionary V
  keys = dictionary kind (in_units unit rs)

  abbrev Chain : List L → List (V × ℕ) → Type 0
  Chain w l = IsChain width keys (IsDead keys) (map unit w) l

  -- one step, by the link
  chain_step : (c : L) (cs : List L) (b : Bool) (o : Option (List L)) → IsLeftFail keys (map unit (c ∷ cs)) (option_map (map unit) (cond b None o)) → link_outputs cmp total exact (stops_of true states) states o ≡ left_outputs cmp (stops_of true states) states cs
      → ((x : List L) → length x ≤ length cs → Chain x (left_outputs cmp (stops_of true states) states x))
      → Chain (c ∷ cs) (own_outputs width keys (map unit (c ∷ cs)) ++ cond b [] (left_outputs cmp (stops_of true states) states cs))
  chain_step c cs true o link rest ih =
      rw (append-nil _) (at_dead link)
  chain_step c cs false None link rest ih =
      let P : List (V × ℕ) → Type 0 = λ l. Chain (c ∷ cs) (own_outputs width keys (map unit (c ∷ cs)) ++ l) in
      let Q : List (V × ℕ) → Type 0 = λ l. Chain (c ∷ cs) l in
      subst P rest (subst Q (sym (append-nil _)) (at_dead link))
  chain_step c cs false (Some x) link rest ih =
      let P : List (V × ℕ) → Type 0 = λ l. Chain (c ∷ cs) (own_outputs width keys (map unit (c ∷ cs)) ++ l) in
      let short : length x ≤ length cs = omega (arith, link.0.shorter, length-map x unit, length-map cs unit) in
      subst P rest (before_link link.0 (IsDead-not keys (map unit (c ∷ cs)) (map unit x) link.0 link.1) (ih x short))

  chain_below : (n : ℕ) (w : List L) → length w ≤ n → Chain w (left_outputs cmp (stops_of true states) states w)
  chain_below n [] h = let P : List (V × ℕ) → Type 0 = λ l. Chain [] l in subst P (sym (holds.outputs [])) at_root
  chain_below zero (c ∷ cs) h = absurd (omega arith)
  chain_below (suc n) (c ∷ cs) h =
      let P : List (V × ℕ) → Type 0 = λ l. Chain (c ∷ cs) (l ++ cond (meets (child_of cmp states) (stops_of true states) 0 (c ∷ cs)) [] (left_outputs cmp (stops_of true states) states cs)) in
      subst P (sym (holds.outputs (c ∷ cs)))
      (chain_step c cs (meets (child_of cmp states) (stops_of true states) 0 (c ∷ cs)) (long_unless_stop (child_of cmp states) (stops_of true states) cs) (left_link-is cmp unit width kind states rs holds c cs) (link_outputs-long cmp total exact (stops_of true states) states cs)
      (λ x l. chain_below n x (omega (arith, l, h))))

  -- the outputs of a text are its chain
  pub chain-left : (w : List L) → Chain w (left_outputs cmp (stops_of true states) states w)
  chain-left w = chain_below (length w) w (omega arith)
