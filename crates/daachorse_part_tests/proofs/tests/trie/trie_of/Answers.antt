-- The links that were built stay while the outputs are made.
use Rattle.std.proofs.Common.{List, ℕ, true, refl, ap, subst, Global}
use Rattle.daachorse_build.specs.declared.nfa_builder.NfaBuilderState.{NfaBuilderState}
use Rattle.daachorse_build.specs.Tables.{HoldTrie}
use Rattle.daachorse_build.proofs.LinksBack.{back_of_left_links, back_of_links, back_of_same}
use Rattle.daachorse_part_tests.proofs.tests.trie.trie_of.Goals as goal

pub returns-then-is_leftmost : goal.returns-then-is_leftmost
returns-then-is_leftmost g c =
    let old = c.build_fails_leftmost.new.self.states in
    let H : List (NfaBuilderState g.row.L.Denot ℕ Global) → Type 0 = λ states. HoldTrie g.L.Ord.cmp states in
    let table = subst H (ap (λ b. b.states) c.builder.view_is) c.builder.invariant in
    let back = back_of_left_links g.L.Ord.cmp g.met.L.Ord.total old table c.in_ok-order.order.items true (c.in_ok-order.ensures.links.leftmost refl) in
    back_of_same g.L.Ord.cmp old c.build_outputs.new.self.states c.in_ok-build_outputs.ensures.kept.kept.edges c.in_ok-build_outputs.ensures.links back

pub returns : goal.returns
returns g c =
    let old = c.build_fails.new.self.states in
    let H : List (NfaBuilderState g.row.L.Denot ℕ Global) → Type 0 = λ states. HoldTrie g.L.Ord.cmp states in
    let table = subst H (ap (λ b. b.states) c.builder-2.view_is) c.builder-2.invariant in
    let back = back_of_links g.L.Ord.cmp g.met.L.Ord.total old table c.in_ok-order-2.order.items (c.in_ok-order-2.ensures.links.standard refl) in
    back_of_same g.L.Ord.cmp old c.build_outputs-2.new.self.states c.in_ok-build_outputs-2.ensures.kept.kept.edges c.in_ok-build_outputs-2.ensures.links back
