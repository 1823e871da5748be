-- Parts that hold the trie of a builder are valid, and hold the builder's dictionary: a copy of the trie is right.
use Rattle.std.proofs.Common.{◌≡◌, ℕ, ◌-◌, ◌*◌, ◌%◌, ◌^◌, ◌<◌, ◌≤◌, true, List, [], ◌∷◌, ◌++◌, length, get_or, None, sym, ap, ◌∙◌, subst, inl, inr, append_assoc, arith}
use Rattle.std.specs.Prelude.{is_some, max}
use Rattle.std.specs.Int.{IsNextPowerOfTwo}
use Rattle.std.specs.Ordering.{nat_cmp}
use Rattle.std.proofs.Math.Nat.{mul-mod_left}
use Rattle.daachorse_core.specs.CharForms.{char_wide}
use Rattle.daachorse_model.specs.declared.MatchKind.{MatchKind}
use Rattle.daachorse_model.specs.Dictionary.{Dictionary}
use Rattle.daachorse_model.specs.Kinds.{is_leftmost}
use Rattle.daachorse_model.specs.Paths.{is_reached}
use Rattle.daachorse_model.specs.Prefixes.{IsPrefix, PassesAt}
use Rattle.daachorse_model.specs.Units.{char_width}
use Rattle.daachorse_model.proofs.Paths.{walk-push}
use Rattle.daachorse_build.specs.declared.nfa_builder.NfaBuilder.{NfaBuilder}
use Rattle.daachorse_build.specs.Builders.{outputs_of, states_of}
use Rattle.daachorse_build.specs.Tables.{child_in, edges_of, fails_of, positions_of}
use Rattle.daachorse_array.specs.Copies.{IsCopy}
use Rattle.daachorse_array.proofs.CopyLaws.{content-same, copy-counted, copy-right}
use Rattle.daachorse_charwise_states.specs.Codings.{Coding, IsCoding}
use Rattle.daachorse_patterns.specs.Settled.{trie_of}
use Rattle.daachorse_patterns.proofs.ReadyToPack.{built-count, built-holds, built-text}
use Rattle.daachorse_patterns.proofs.Held.{held-in_range, settled-states}
use Rattle.daachorse_patterns.proofs.Places.{place-dead, place-inside, some-elements}
use Rattle.daachorse_charwise_states.specs.declared.state.State.{State}
use Rattle.daachorse_charwise_states.specs.Packing.{AreCoded, AreEdgesCoded, ArePackedOf, IsBuiltFor}
use Rattle.daachorse_charwise_states.specs.Parts.{Parts, base_of, char_code, content, fail_of, machine, output_of}
use Rattle.daachorse_charwise_states.specs.Valid.{IsValid}
use Rattle.daachorse_charwise_states.proofs.PackedTrie.{packed-IsCopy}

-- a character that follows a text in a prefix of a key has a code
coded_behind : {V : Type 0} (coding : Coding) (K : Dictionary V) → AreCoded coding K → (v : List ℕ) (c : ℕ) → IsPrefix K (v ++ c ∷ []) → is_some (char_code coding c) ≡ true
coded_behind coding K coded [] c (inl none) = absurd (cc)
coded_behind coding K coded (u ∷ v) c (inl none) = absurd (cc)
coded_behind coding K coded v c (inr (x, key)) = coded v x c (λ empty. key (ap K (append_assoc v (c ∷ []) x) ∙ empty))

module _ {V A : Type 0} (kind : MatchKind) (b : NfaBuilder ℕ V A) (K : Dictionary V) (built : IsBuiltFor kind b K) where
  pub edges-coded : (coding : Coding) → AreCoded coding K → AreEdgesCoded coding (edges_of (states_of b))
  edges-coded coding coded s c t e =
      let edges = edges_of (states_of b) in
      let bounds = built.trie.trie.bounds s c t e in
      let less : s < length (states_of b) = (let low : s < t = bounds.0 in let high : t < length edges = bounds.3 in omega (arith, low, high, built-count char_width None kind b K built)) in
      let text = built-text char_width None kind b K built s less bounds.1 in
      coded_behind coding K coded text.0 c ((built-holds char_width None kind b K built).only t (text.0 ++ c ∷ []) (walk-push (child_in nat_cmp edges) 0 text.0 c s text.1 ∙ e))

  module _ (coding : Coding) (block : ℕ) (is : IsCoding coding) (coded : AreEdgesCoded coding (edges_of (states_of b))) (es : List State) (p : ArePackedOf coding block (states_of b) es) where
    abbrev parts : ℕ → Parts V
    parts n = record { kind = kind; states = es; coding = coding; outputs = outputs_of b; num_states = n }

    copy : (n : ℕ) → IsCopy (trie_of (edges_of (states_of b)) (fails_of (states_of b)) (positions_of (states_of b))) (outputs_of b) (machine (parts n)) (λ t. get_or p.layout.idx t 0)
    copy n = packed-IsCopy is coded p.settled p.held kind (outputs_of b) n

    -- the parts hold the dictionary
    pub built-content : (n : ℕ) (w : List ℕ) → content (parts n) w ≡ K w
    built-content n w = content-same char_width char_wide K (is_leftmost kind) (trie_of (edges_of (states_of b)) (fails_of (states_of b)) (positions_of (states_of b))) (outputs_of b) (built-holds char_width None kind b K built) (machine (parts n)) (λ t. get_or p.layout.idx t 0) (copy n) w

    -- the dead state has an element
    two_elements : 1 < length p.layout.used
    two_elements =
        let inside : get_or p.layout.idx 1 0 < length p.layout.used = place-inside p.settled 1 p.settled.of_trie.table.trie.two in
        let dead : get_or p.layout.idx 1 0 ≡ 1 = place-dead p.settled in
        omega (arith, inside, dead)

    inside_at : (n i : ℕ) → i < length es → (base_of (parts n) i < length es) × (fail_of (parts n) i < length es) × (output_of (parts n) i ≤ length (outputs_of b))
    inside_at n i low =
        let size : length es ≡ length p.layout.used = p.held.size in
        let range = held-in_range p.settled (fails_of (states_of b)) (positions_of (states_of b)) p.held.states char_width (is_leftmost kind) K (outputs_of b) (built-holds char_width None kind b K built) built.root built.positions two_elements i (omega (arith, low, size)) in
        (omega (arith, range.base, size), omega (arith, range.fail, size), range.output)

    -- they are those of an automaton
    pub built-valid : IsNextPowerOfTwo (max 2 coding.alphabet_size) block → block < 4294967296 → length es < 2 ^ 32 → IsValid (parts (length (states_of b) - 1))
    built-valid least fits few =
        let trie = trie_of (edges_of (states_of b)) (fails_of (states_of b)) (positions_of (states_of b)) in
        let n = length (states_of b) - 1 in
        let size : length es ≡ p.layout.blocks * block = p.held.size ∙ p.settled.sizes.elements in
        record {
          grouped = record {
            blocks = record { block = block; power = least; fits = fits; whole = ap (λ m. m % block) size ∙ mul-mod_left p.layout.blocks block };
            some = (let some : 0 < length p.layout.used = some-elements p.settled in omega (arith, some, p.held.size));
            bases = λ i low. (inside_at n i low).0;
            codes = is;
          };
          few = record { elements = few; outputs = omega (arith, built.few_outputs) };
          sound = record {
            ranges = record { links = λ i low. (inside_at n i low).1; positions = λ i low. (inside_at n i low).2 };
            parents_fall = (built-holds char_width None kind b K built).parents_fall;
            right = copy-right char_width char_wide K (is_leftmost kind) trie (outputs_of b) (built-holds char_width None kind b K built) (machine (parts n)) (λ t. get_or p.layout.idx t 0) (copy n);
            counted = subst (λ (m : ℕ). PassesAt (is_reached (machine (parts n)).child) (m - 1)) (sym (built-count char_width None kind b K built)) (copy-counted char_width char_wide K (is_leftmost kind) trie (outputs_of b) (built-holds char_width None kind b K built) (machine (parts n)) (λ t. get_or p.layout.idx t 0) (copy n) (length (edges_of (states_of b))) (settled-states p.settled (fails_of (states_of b)) (positions_of (states_of b))));
          };
        }
