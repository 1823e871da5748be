-- From a builder's trie, links and outputs to the dictionary of its patterns.
use Rattle.std.proofs.Common.{◌≡◌, ◌≢◌, ℕ, ◌<◌, ◌≤◌, Bool, true, false, List, [], ◌∷◌, length, map, Option, Some, None, refl, sym, ap, ◌∙◌, subst, arith, inl, inr}
use Rattle.std.specs.Prelude.{slice_index, is_some, option_map, unwrap_or, IfSome}
use Rattle.std.specs.declared.cmp.Ordering.{Ordering}
use Rattle.std.specs.Cmp.{IsTotalOrder}
use Rattle.std.proofs.lemmas.Bool.{cond-true, cond-false, eq-eqb, ne_eqb}
use Rattle.std.proofs.lemmas.List.{length-map}
use Rattle.std.proofs.lemmas.Option.{same_Some}
use Rattle.daachorse_core.specs.Chains.{Passes}
use Rattle.daachorse_core.specs.Outputs.{ParentsFall}
use Rattle.daachorse_model.specs.declared.MatchKind.{MatchKind}
use Rattle.daachorse_model.specs.Dictionary.{Dictionary, dictionary, kept_registrations}
use Rattle.daachorse_model.specs.Kinds.{is_leftmost}
use Rattle.daachorse_model.specs.Outputs.{own_outputs}
use Rattle.daachorse_model.specs.Paths.{Leads, walk, is_reached}
use Rattle.daachorse_model.specs.Prefixes.{IsDead, IsLink, IsPrefix, long}
use Rattle.daachorse_model.proofs.Links.{link-is}
use Rattle.daachorse_build.specs.declared.nfa_builder.NfaBuilder.{NfaBuilder}
use Rattle.daachorse_build.specs.Builders.{Registered, states_of, outputs_of, kind_of}
use Rattle.daachorse_build.specs.Growth.{HasTrieOf}
use Rattle.daachorse_build.specs.Holds.{Holds, in_units}
use Rattle.daachorse_build.specs.Left.{LinksLeft}
use Rattle.daachorse_build.specs.Lists.{IsChainedAt, IsRest}
use Rattle.daachorse_build.specs.Orders.{HoldLinks}
use Rattle.daachorse_build.specs.Steps.{AreLeft, HoldEitherLinks, HasLinksOf, HasOutputsOf, KeepsPatterns}
use Rattle.daachorse_build.specs.Tables.{child_in, child_of, edge_map, edges_of, fails_of, own_outputs_at, own_at, own_of, positions_of}
use Rattle.daachorse_build.proofs.Fitting.{state_of}
use Rattle.daachorse_build.proofs.Queue.{all_in_order}
use Rattle.daachorse_build.proofs.Registrations.{holds_twin}
use Rattle.daachorse_build.proofs.Walks.{walk-bounds, walk-same}
use Rattle.daachorse_array.specs.Copies.{HoldsDictionary, IsLinkedTo, LinkedTrie, next_output}
use Rattle.daachorse_patterns.specs.Tries.{HasTexts, IsBuilt, LeadsByUnit, trie_by}
use Rattle.daachorse_patterns.proofs.UnitTries.{long-units, text_of_units, walk-units}

module _ {L V A : Type 0} (cmp : L → L → Ordering) (unit : L → ℕ) (width : ℕ → ℕ) where
  -- the links of either kind
  pub either_linked : (leftmost : Bool) (o b : NfaBuilder L V A) (order : List ℕ) → HasLinksOf cmp unit width leftmost o b order → HoldEitherLinks cmp (states_of b) order
  either_linked false o b order linked = inl (linked.standard refl)
  either_linked true o b order linked = inr (linked.leftmost refl)

  -- what was registered stays so where the trie and its outputs do
  Registered-kept : (b d : NfaBuilder L V A) (rs : List (List L × V)) → KeepsPatterns b d → Registered cmp unit width b rs → Registered cmp unit width d rs
  Registered-kept b d rs keeps was =
      let P : MatchKind → Type 0 = λ k. Holds cmp unit width k (states_of d) rs in
      record {
        holds = subst P (sym keeps.kind) (holds_twin cmp unit width (kind_of b) (states_of b) (states_of d) rs keeps.kept was.holds);
        count = keeps.patterns ∙ was.count ∙ ap (λ k. length (kept_registrations k (in_units unit rs))) (sym keeps.kind);
      }

  pub HasTexts-kept : (b d : NfaBuilder L V A) (rs : List (List ℕ × V)) → KeepsPatterns b d → HasTexts cmp unit width b rs → HasTexts cmp unit width d rs
  HasTexts-kept b d rs keeps was = record { labels = was.labels; registered = Registered-kept b d was.labels keeps was.registered; units = was.units }

  -- the leftmost links, as the builder has them once they are built
  AreLeft-kept : (o b : NfaBuilder L V A) (rs : List (List L × V)) → KeepsPatterns o b → AreLeft cmp unit (kind_of o) (states_of o) (states_of b) rs → AreLeft cmp unit (kind_of b) (states_of b) (states_of b) rs
  AreLeft-kept o b rs keeps left =
      let E : List (List (L × ℕ)) → Type 0 = λ es. (w : List L) (t : ℕ) → w ≢ [] → Leads (child_in cmp es) w t
      → LinksLeft (dictionary (kind_of o) (in_units unit rs)) unit (child_in cmp es) w (slice_index (fails_of (states_of b)) t) in
      rw keeps.kind (subst E (sym keeps.kept.edges) left)

-- The trie of a builder with patterns, read by units.
module _ {L V A : Type 0} (cmp : L → L → Ordering) (unit : L → ℕ) (width : ℕ → ℕ) (total : IsTotalOrder cmp) (d : NfaBuilder L V A) (rs : List (List L × V)) (was : Registered cmp unit width d rs)
    (child : ℕ → ℕ → Option ℕ) (by : LeadsByUnit cmp unit (edges_of (states_of d)) child) where
  abbrev K : Dictionary V
  K = dictionary (kind_of d) (in_units unit rs)

  abbrev to : ℕ → L → Option ℕ
  to = child_in cmp (edges_of (states_of d))

  abbrev link_at : ℕ → ℕ
  link_at = slice_index (fails_of (states_of d))

  abbrev trie : LinkedTrie
  trie = trie_by child (fails_of (states_of d)) (positions_of (states_of d))

  -- the text of labels whose units lead to a state
  read : (w : List ℕ) (s : ℕ) → Leads child w s → (x : List L) × (map unit x ≡ w) × Leads to x s
  read w s e = text_of_units cmp unit (edges_of (states_of d)) child by 0 w s e

  leads : (x : List L) (w : List ℕ) (s : ℕ) → map unit x ≡ w → Leads to x s → Leads child w s
  leads x w s is e =
      let P : List ℕ → Type 0 = λ y. Leads child y s in
      subst P is (walk-units cmp unit (edges_of (states_of d)) child by 0 x ∙ e)

  one_path : (s : ℕ) (v w : List ℕ) → Leads child v s → Leads child w s → v ≡ w
  one_path s v w e f =
      let a = read v s e in let b = read w s f in
      sym a.1 ∙ ap (map unit) (walk-same to (length (edges_of (states_of d))) was.holds.trie.trie a.0 b.0 s a.2 b.2) ∙ b.1

  begins : (w : List ℕ) → IsPrefix K w → (s : ℕ) × Leads child w s
  begins w h =
      let s = state_of cmp unit width (kind_of d) (states_of d) rs was.holds w h in
      (s.0, leads s.1.0 w s.0 s.1.1 s.1.2)

  only : (s : ℕ) (w : List ℕ) → Leads child w s → IsPrefix K w
  only s w e =
      let a = read w s e in
      let P : List ℕ → Type 0 = λ y. IsPrefix K y in
      subst P a.1 (was.holds.only a.0 s a.2)

  fore : (w : List ℕ) → is_reached child w ≡ true → IsPrefix K w
  fore w h = go (walk child 0 w) refl h
    where
      go : (o : Option ℕ) → walk child 0 w ≡ o → is_some o ≡ true → IsPrefix K w
      go None is h = absurd (cc)
      go (Some s) is h = only s w is

  back : (w : List ℕ) → IsPrefix K w → is_reached child w ≡ true
  back w h = let r = begins w h in ap is_some r.1

  bounds : (w : List ℕ) (s : ℕ) → Leads child w s → (s < length (edges_of (states_of d))) × (s ≢ 1)
  bounds w s e =
      let a = read w s e in
      walk-bounds to (length (edges_of (states_of d))) was.holds.trie.trie a.0 s a.2

  -- a state with a nonempty text is not the root
  inner : (u s : ℕ) (w : List ℕ) → Leads child (u ∷ w) s → s ≢ 0
  inner u s w e root =
      let P : ℕ → Type 0 = λ k. Leads child (u ∷ w) k in
      let none : u ∷ w ≡ [] = one_path 0 (u ∷ w) [] (subst P root e) refl in
      cc

  links-standard : (order : List ℕ) → HoldLinks cmp (states_of d) order → (u s : ℕ) (w : List ℕ) → Leads child (u ∷ w) s → IsLinkedTo K false trie (u ∷ w) (link_at s)
  links-standard order linked u s w e = (let a = read (u ∷ w) s e in go a.0 a.1 a.2)
    where
      go : (x : List L) → map unit x ≡ u ∷ w → Leads to x s → IsLinkedTo K false trie (u ∷ w) (link_at s)
      go [] is f = absurd (cc)
      go (c ∷ x) is f =
          let rest : map unit x ≡ w = cc in
          let at = bounds (u ∷ w) s e in let other = inner u s w e in
          let link = linked.linked s (all_in_order cmp total (edges_of (states_of d)) was.holds.trie order linked.first s (omega (arith, at.1, other)) at.0) c x f in
          let same : map unit (long (is_reached to) x) ≡ long (is_reached child) w = sym (long-units cmp unit (edges_of (states_of d)) child by x) ∙ ap (long (is_reached child)) rest in
          let there = leads (long (is_reached to) x) (long (is_reached child) w) (link_at s) same link in
          inr ((bounds (long (is_reached child) w) (link_at s) there).1, (λ dead. dead), (long (is_reached child) w, there, link-is K (is_reached child) fore back u w))

  links-left : AreLeft cmp unit (kind_of d) (states_of d) (states_of d) rs → (u s : ℕ) (w : List ℕ) → Leads child (u ∷ w) s → IsLinkedTo K true trie (u ∷ w) (link_at s)
  links-left left u s w e =
      let a = read (u ∷ w) s e in
      let some : a.0 ≢ [] = λ none. (let bad : [] ≡ u ∷ w = sym (ap (map unit) none) ∙ a.1 in cc) in
      let D : List ℕ → Type 0 = λ y. IsDead K y in
      elim (left a.0 s some a.2) [
        | inl dead ↦ inl (dead.0, subst D a.1 dead.1)
        | inr alive ↦
            let M : List ℕ → Type 0 = λ y. IsLink K y (map unit alive.0) in
            let at = leads alive.0 (map unit alive.0) (link_at s) refl alive.1 in
            inr ((bounds (map unit alive.0) (link_at s) at).1, (λ dead. alive.3 (subst D (sym a.1) dead)), (map unit alive.0, at, subst M a.1 alive.2))
      ]

  -- where the chain of a state goes on, as the trie has it
  rest_is : (w : List ℕ) (s q : ℕ) → Leads child w s → IsRest (fails_of (states_of d)) (positions_of (states_of d)) s q → q ≡ next_output trie w s
  rest_is [] s q e (inl root) = root.1
  rest_is [] s q e (inr other) = absurd (other.0 (sym (same_Some 0 s e)))
  rest_is (u ∷ w) s q e (inl root) = absurd (inner u s w e root.0)
  rest_is (u ∷ w) s q e (inr (other, inl dead)) = dead.1 ∙ sym (cond-true _ _ _ (eq-eqb (link_at s) 1 dead.0))
  rest_is (u ∷ w) s q e (inr (other, inr alive)) = alive.1 ∙ sym (cond-false _ _ _ (ne_eqb (link_at s) 1 alive.0))

  -- the own outputs of a state are the values of its text
  own_is : (w : List ℕ) (s : ℕ) → Leads child w s → own_at (own_of (states_of d)) s ≡ own_outputs width K w
  own_is w s e =
      let a = read w s e in
      let at : own_outputs_at cmp (states_of d) a.0 ≡ own_at (own_of (states_of d)) s = ap (λ o. unwrap_or (option_map (own_at (own_of (states_of d))) o) []) a.2 in
      sym at ∙ was.holds.outputs a.0 ∙ ap (λ y. own_outputs width K y) a.1

  chains : ((w : List L) (s : ℕ) → Leads to w s → IsChainedAt (own_of (states_of d)) (fails_of (states_of d)) (outputs_of d) (positions_of (states_of d)) s)
      → (s : ℕ) (w : List ℕ) → Leads child w s → Passes (outputs_of d) (slice_index (positions_of (states_of d)) s) (own_outputs width K w) (next_output trie w s)
  chains follows s w e =
      let a = read w s e in
      let at = follows a.0 s a.2 in
      let P : List (V × ℕ) → Type 0 = λ own. Passes (outputs_of d) (slice_index (positions_of (states_of d)) s) own at.0 in
      let Q : ℕ → Type 0 = λ q. Passes (outputs_of d) (slice_index (positions_of (states_of d)) s) (own_outputs width K w) q in
      subst Q (rest_is w s at.0 e at.1) (subst P (own_is w s e) at.2)

  holds : (leftmost : Bool) → ((u s : ℕ) (w : List ℕ) → Leads child (u ∷ w) s → IsLinkedTo K leftmost trie (u ∷ w) (link_at s))
      → ((w : List L) (s : ℕ) → Leads to w s → IsChainedAt (own_of (states_of d)) (fails_of (states_of d)) (outputs_of d) (positions_of (states_of d)) s)
      → ParentsFall (outputs_of d) → HoldsDictionary width K leftmost trie (outputs_of d)
  holds leftmost links follows parents = record { one_path = one_path; begins = begins; only = only; links = links; chains = chains follows; parents_fall = parents }

  -- standard links in an order, or leftmost ones
  pub holds_linked : (kind : MatchKind) (order : List ℕ) → (is_leftmost kind ≡ false → HoldLinks cmp (states_of d) order) → (is_leftmost kind ≡ true → AreLeft cmp unit (kind_of d) (states_of d) (states_of d) rs)
      → ((w : List L) (s : ℕ) → Leads to w s → IsChainedAt (own_of (states_of d)) (fails_of (states_of d)) (outputs_of d) (positions_of (states_of d)) s)
      → ParentsFall (outputs_of d) → HoldsDictionary width K (is_leftmost kind) trie (outputs_of d)
  holds_linked kind order standard left follows parents = go (is_leftmost kind) standard left
    where
      go : (b : Bool) → (b ≡ false → HoldLinks cmp (states_of d) order) → (b ≡ true → AreLeft cmp unit (kind_of d) (states_of d) (states_of d) rs) → HoldsDictionary width K b trie (outputs_of d)
      go false standard left = holds false (links-standard order (standard refl)) follows parents
      go true standard left = holds true (links-left (left refl)) follows parents

-- a number below a limit, and below the one that holds where none is given
pub few_for : (most : Option ℕ) (n : ℕ) → IfSome most (λ m. n ≤ m) → n ≤ 4294967295 → n ≤ unwrap_or most 4294967295
few_for None n low few = few
few_for (Some m) n low few = low

-- what the builder o becomes: b with its links, and d with its outputs too
module _ {L V A : Type 0} (cmp : L → L → Ordering) (unit : L → ℕ) (width : ℕ → ℕ) (total : IsTotalOrder cmp) (most : Option ℕ) (kind : MatchKind) (o b d : NfaBuilder L V A) (order : List ℕ) (is_kind : kind_of o ≡ kind) (fits : length (states_of o) ≤ 4294967296)
    (keeps : KeepsPatterns o b) (linked : HasLinksOf cmp unit width (is_leftmost kind) o b order)
    (keeps-d : KeepsPatterns b d) (fails : fails_of (states_of d) ≡ fails_of (states_of b)) (parents : ParentsFall (outputs_of d)) (made : HasOutputsOf cmp unit width b d order) (few : length (outputs_of d) ≤ unwrap_or most 4294967295) where
  finished : (rs : List (List L × V)) → Registered cmp unit width o rs → IsBuilt cmp unit width most kind d (dictionary (kind_of d) (in_units unit rs))
  finished rs was = record {
    trie = held.holds.trie;
    holds = all;
    root = ap (λ fs. slice_index fs 0) fails ∙ linked.root;
    positions = rw put.edges made.positions;
    few_outputs = few;
    few_states = omega (arith, fits, ap length (put.edges ∙ keeps.kept.edges), length-map (states_of d) edge_map, length-map (states_of o) edge_map);
  }
    where
      put : HasTrieOf (states_of b) (states_of d)
      put = keeps-d.kept

      held : Registered cmp unit width d rs
      held = Registered-kept cmp unit width b d rs keeps-d (Registered-kept cmp unit width o b rs keeps was)

      all : (child : ℕ → ℕ → Option ℕ) → LeadsByUnit cmp unit (edges_of (states_of d)) child → HoldsDictionary width (dictionary (kind_of d) (in_units unit rs)) (is_leftmost kind) (trie_by child (fails_of (states_of d)) (positions_of (states_of d))) (outputs_of d)
      all child by =
          let K : MatchKind → Type 0 = λ k. AreLeft cmp unit k (states_of d) (states_of d) rs in
          holds_linked cmp unit width total d rs held child by kind order (λ is. rw (fails, put.edges) (linked.standard is))
          (λ is. subst K (sym keeps-d.kind) (rw (fails, child_of, put.edges) (AreLeft-kept cmp unit width o b rs keeps (linked.left is rs was)))) (rw (fails, put.outputs, put.edges) made.follows) parents

  -- the builder holds the dictionary of its patterns
  pub finished_for : (rs : List (List ℕ × V)) → HasTexts cmp unit width o rs → IsBuilt cmp unit width most kind d (dictionary kind rs)
  finished_for rs texts =
      let P : MatchKind → Type 0 = λ k. IsBuilt cmp unit width most kind d (dictionary k (in_units unit texts.labels)) in
      let R : List (List ℕ × V) → Type 0 = λ xs. IsBuilt cmp unit width most kind d (dictionary kind xs) in
      subst R texts.units (subst P (keeps-d.kind ∙ (keeps.kind ∙ is_kind)) (finished texts.labels texts.registered))
