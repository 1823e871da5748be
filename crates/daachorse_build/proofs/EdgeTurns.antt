-- What a walk over the edges of a state reads: an edge at each turn, and all of them in the end.
use Rattle.std.proofs.Common.{◌≡◌, ℕ, ◌<◌, ◌≤◌, List, [], length, get_or, take, Option, Some, None, Bor, sym, ap, ◌∙◌, arith}
use Rattle.std.specs.Iterator.{Yields}
use Rattle.std.specs.List.{slice_get}
use Rattle.std.specs.Map.Iter.{TakesFirst, deref_pair}
use Rattle.std.proofs.lemmas.List.{get_or-map, take_all}
use Rattle.std.proofs.lemmas.Map.Entries.{length-values_of}
use Rattle.std.proofs.lemmas.Map.Iter.{iter_turn, iter_end}
use Rattle.daachorse_build.specs.declared.nfa_builder.NfaBuilderState.{NfaBuilderState}
use Rattle.daachorse_build.specs.Orders.{children}
use Rattle.daachorse_build.specs.Tables.{edges_of}

module _ {L V A : Type 0} (states : List (NfaBuilderState L V A)) (s : ℕ) (x : NfaBuilderState L V A) (low : s < length states) (is : x ≡ get_or states s x) where
  -- the edges of the state at an index
  pub edges_read : get_or (edges_of states) s [] ≡ x.edges
  edges_read = get_or-map (λ y. y.edges) states s x [] low ∙ ap (λ y. y.edges) (sym is)

  module _ (yielded : List (Bor L × Bor ℕ)) (start now next : List (L × ℕ)) (r : Option (Bor L × Bor ℕ)) (begun : start ≡ x.edges) (calls : Yields (TakesFirst deref_pair) start yielded now) (steps : TakesFirst deref_pair now r next) where
    pub edge_read : (e : Bor L × Bor ℕ) → r ≡ Some e → slice_get (get_or (edges_of states) s []) (length yielded) ≡ Some (deref_pair e)
    edge_read e given =
        ap (λ es. slice_get es (length yielded)) edges_read ∙ (iter_turn deref_pair x.edges yielded start now next r begun calls e given steps).1

    pub all_read : r ≡ None → take (length yielded) (children (edges_of states) s) ≡ children (edges_of states) s
    all_read none =
        let end = iter_end deref_pair x.edges yielded start now next r begun calls none steps in
        take_all (length yielded) (children (edges_of states) s) (omega (arith, end.1, length-values_of (get_or (edges_of states) s []), ap length edges_read))

    pub all_passed : r ≡ None → length (get_or (edges_of states) s []) ≤ length yielded
    all_passed none =
        let end = iter_end deref_pair x.edges yielded start now next r begun calls none steps in
        omega (arith, end.1, ap length edges_read)
