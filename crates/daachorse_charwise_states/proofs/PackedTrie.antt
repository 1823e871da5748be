-- Elements that hold a trie are a copy of it: a character leads from a state's element to its child's alone, since a check names one parent, and no state stands at the element that vacant ones name.
use Rattle.std.proofs.Common.{◌≡◌, ◌≢◌, ℕ, ◌<◌, inl, inr, false, List, length, get_or, Option, Some, None, refl, sym, ap, ◌∙◌, arith}
use Rattle.std.specs.Prelude.{bit_xor, option_and_then, option_map, unwrap_or}
use Rattle.std.specs.Ordering.{nat_cmp}
use Rattle.daachorse_core.proofs.Xor.{xor_same_left}
use Rattle.daachorse_core.specs.declared.outputs.Output.{Output}
use Rattle.daachorse_model.specs.declared.MatchKind.{MatchKind}
use Rattle.daachorse_placement.specs.declared.build_helper.SiblingGroup.{SiblingGroup}
use Rattle.daachorse_placement.specs.Layout.{Layout}
use Rattle.daachorse_build.specs.Tables.{child_in}
use Rattle.daachorse_array.specs.Copies.{IsCopy}
use Rattle.daachorse_charwise_states.specs.Codings.{Coding, IsCoding, code_of}
use Rattle.daachorse_patterns.specs.Settled.{AreSettled, trie_of}
use Rattle.daachorse_patterns.proofs.Held.{held-IsCopy}
use Rattle.daachorse_patterns.proofs.Looks.{look, look_none, look_some}
use Rattle.daachorse_patterns.proofs.Places.{edge-at, place-alive, place-apart, place-inside, place_from, state_from}
use Rattle.daachorse_charwise_states.specs.declared.state.State.{State}
use Rattle.daachorse_charwise_states.specs.Elements.{check_in}
use Rattle.daachorse_charwise_states.specs.Parts.{Parts, char_code, child_among, coded_child, machine}
use Rattle.daachorse_charwise_states.specs.Packing.{AreEdgesCoded, HoldElements, code_in, element_at}
use Rattle.daachorse_charwise_states.proofs.Codes.{char_code-is, code_same}

module _ {A : Type 0} {coding : Coding} {block : ℕ} {gs : List (SiblingGroup A)} {l : Layout} {edges : List (List (ℕ × ℕ))} {fails positions : List ℕ} {es : List State}
    (is : IsCoding coding) (coded : AreEdgesCoded coding edges) (q : AreSettled (code_in coding) block false gs l edges) (held : HoldElements l edges fails positions es) where
  abbrev to : ℕ → ℕ → Option ℕ
  to s c = child_in nat_cmp edges s c

  abbrev place : ℕ → ℕ
  place t = get_or l.idx t 0

  abbrev base_at : ℕ → ℕ
  base_at s = get_or l.bases s 0

  abbrev check_at : ℕ → ℕ
  check_at i = check_in (element_at es i)

  -- a state's element to which the code of no edge leads has another parent
  state_apart : (s c k t : ℕ) → s < length edges → s ≢ 1 → code_of coding c ≡ Some k → to s c ≡ None → t < length edges → t ≢ 1 → place t ≡ bit_xor (base_at s) k → check_at (place t) ≢ place s
  state_apart s c k t less alive code none inside other at check = elim (state_from q t inside other) [
    | inl root ↦ place-alive q s less alive (sym check ∙ (ap (λ x. check_at (place x)) root ∙ held.root))
    | inr edge ↦ by_edge edge.0 edge.1 edge.2
  ]
    where
      by_edge : (r d : ℕ) → to r d ≡ Some t → ⊥
      by_edge r d e =
          let edge = edge-at q r d t e in
          let bounds = q.of_trie.table.trie.bounds r d t e in
          let low : r < length edges = (let below : r < t = bounds.0 in omega (arith, below, inside)) in
          let parents : r ≡ s = place-apart q r s low bounds.1 less alive (sym (held.children r d t e) ∙ check) in
          let moved : bit_xor (base_at s) (code_in coding d) ≡ bit_xor (base_at s) k = ap (λ x. bit_xor (base_at x) (code_in coding d)) (sym parents) ∙ (sym edge.at ∙ at) in
          let label : d ≡ c = code_same coding is c d k code (coded r d t e) (xor_same_left (base_at s) (code_in coding d) k moved) in
          let bad : None ≡ Some t = sym none ∙ (ap (λ x. to s x) (sym label) ∙ (ap (λ x. to x d) (sym parents) ∙ e)) in
          cc

  -- a code that is no edge's finds another check
  not_child : (s c k : ℕ) → s < length edges → s ≢ 1 → code_of coding c ≡ Some k → to s c ≡ None → bit_xor (base_at s) k < length es → check_at (bit_xor (base_at s) k) ≢ place s
  not_child s c k less alive code none inside check = elim (place_from q (bit_xor (base_at s) k)) [
    | inl t ↦ state_apart s c k t.0 less alive code none t.1 t.2 t.3 (ap check_at t.3 ∙ check)
    | inr vacant ↦ place-alive q s less alive (sym check ∙ held.others (bit_xor (base_at s) k) inside vacant)
  ]

  -- what a code leads to from a state's element
  by_code : (s c k : ℕ) → s < length edges → s ≢ 1 → code_of coding c ≡ Some k → child_among es (place s) k ≡ option_map (λ t. place t) (to s c)
  by_code s c k less alive code =
      ap (λ b. look (length es) b (bit_xor b k) (check_at (bit_xor b k)) (place s)) (held.states.base s less alive) ∙ go (to s c) refl
    where
      go : (o : Option ℕ) → to s c ≡ o → look (length es) (base_at s) (bit_xor (base_at s) k) (check_at (bit_xor (base_at s) k)) (place s) ≡ option_map (λ t. place t) o
      go None e = look_none (length es) (base_at s) (bit_xor (base_at s) k) (check_at (bit_xor (base_at s) k)) (place s) (λ some low. not_child s c k less alive code e low)
      go (Some t) e =
          let edge = edge-at q s c t e in
          let bounds = q.of_trie.table.trie.bounds s c t e in
          let label : code_in coding c ≡ k = ap (λ o. unwrap_or o 0) code in
          let at : bit_xor (base_at s) k ≡ place t = ap (λ x. bit_xor (base_at s) x) (sym label) ∙ sym edge.at in
          let fits : place t < length l.used = place-inside q t bounds.3 in
          let inside : bit_xor (base_at s) k < length es = omega (arith, at, fits, held.size) in
          let check : check_at (bit_xor (base_at s) k) ≡ place s = ap check_at at ∙ held.children s c t e in
          look_some (length es) (base_at s) (bit_xor (base_at s) k) (check_at (bit_xor (base_at s) k)) (place s) edge.nonzero inside check ∙ ap (λ x. Some x) at

  -- what a character leads to from a state's element
  pub element_at-child : (s c : ℕ) → s < length edges → s ≢ 1 → coded_child es coding (place s) c ≡ option_map (λ t. place t) (to s c)
  element_at-child s c less alive = go (char_code coding c) refl
    where
      no_edge : (o : Option ℕ) → char_code coding c ≡ None → to s c ≡ o → None ≡ option_map (λ t. place t) o
      no_edge None code e = refl
      no_edge (Some t) code e = (let some = coded s c t e in absurd (cc))

      go : (o : Option ℕ) → char_code coding c ≡ o → option_and_then (λ k. child_among es (place s) k) o ≡ option_map (λ t. place t) (to s c)
      go None code = no_edge (to s c) code refl
      go (Some k) code = by_code s c k less alive (char_code-is coding c k code).1

  abbrev parts : {V : Type 0} → MatchKind → List (Output V) → ℕ → Parts V
  parts kind outputs n = record { kind = kind; states = es; coding = coding; outputs = outputs; num_states = n }

  pub packed-IsCopy : {V : Type 0} (kind : MatchKind) (outputs : List (Output V)) (n : ℕ) → IsCopy (trie_of edges fails positions) outputs (machine (parts kind outputs n)) (λ t. place t)
  packed-IsCopy kind outputs n = held-IsCopy q fails positions held.states (machine (parts kind outputs n)) outputs refl refl refl element_at-child
