-- Parts that hold the trie of a dictionary are valid and hold the dictionary: a copy of the trie is right, and what an element holds is in range, since it is a state's or vacant.
use Rattle.std.proofs.Common.{◌≡◌, ℕ, ◌-◌, ◌%◌, ◌^◌, ◌<◌, ◌≤◌, List, length, get_or, refl, sym, ◌∙◌, subst, arith}
use Rattle.std.specs.Ordering.{nat_cmp}
use Rattle.std.proofs.lemmas.List.{length-map}
use Rattle.daachorse_core.specs.declared.outputs.Output.{Output}
use Rattle.daachorse_model.specs.declared.MatchKind.{MatchKind}
use Rattle.daachorse_model.specs.declared.MatchKind.TheVariants.{Standard, LeftmostLongest, LeftmostFirst}
use Rattle.daachorse_model.specs.Dictionary.{Dictionary}
use Rattle.daachorse_model.specs.Kinds.{is_leftmost}
use Rattle.daachorse_model.specs.Units.{byte_width}
use Rattle.daachorse_model.specs.Paths.{Leads}
use Rattle.daachorse_placement.specs.declared.build_helper.SiblingGroup.{SiblingGroup}
use Rattle.daachorse_placement.specs.Layout.{Layout}
use Rattle.daachorse_build.specs.Tables.{child_in as edge_to}
use Rattle.daachorse_array.specs.Machines.{IsCounted}
use Rattle.daachorse_array.specs.Copies.{HoldsDictionary, IsCopy}
use Rattle.daachorse_array.proofs.CopyLaws.{content-same, copy-counted, copy-right}
use Rattle.daachorse_bytewise_states.specs.declared.state.State.{State}
use Rattle.daachorse_bytewise_states.specs.Elements.{base_in, fail_in, output_in}
use Rattle.daachorse_bytewise_states.specs.Parts.{Parts, base_of, content, count, fail_of, machine, output_of, parts_of, without_link}
use Rattle.daachorse_bytewise_states.specs.Packing.{element_at, ArePacked}
use Rattle.daachorse_bytewise_states.specs.Grouped.{HasShape}
use Rattle.daachorse_bytewise_states.specs.Valid.{IsValid}
use Rattle.daachorse_patterns.specs.Settled.{trie_of}
use Rattle.daachorse_patterns.proofs.Held.{held-in_range, settled-states}
use Rattle.daachorse_patterns.proofs.Places.{some-elements}
use Rattle.std.proofs.Math.Nat.{mul-mod_left}
use Rattle.daachorse_bytewise_states.proofs.PackedParts.{packed-IsCopy, parts-base, parts-count, parts-fail, parts-output}

-- which lists are used
parts-shape : {V : Type 0} (kind : MatchKind) (es : List (State ℕ)) (outputs : List (Output V)) (n : ℕ) → HasShape (parts_of kind es outputs n) (is_leftmost kind)
parts-shape Standard es outputs n = (refl, refl)
parts-shape LeftmostLongest es outputs n = (refl, length-map es fail_in ∙ sym (length-map es without_link))
parts-shape LeftmostFirst es outputs n = (refl, length-map es fail_in ∙ sym (length-map es without_link))

-- the parts of a dictionary's trie, whose positions are those of outputs
module _ {A V : Type 0} {gs : List (SiblingGroup A)} {l : Layout} {edges : List (List (ℕ × ℕ))} {fails positions : List ℕ} {es : List (State ℕ)} (p : ArePacked gs l edges fails positions es) (kind : MatchKind) (K : Dictionary V) (outputs : List (Output V)) (holds : HoldsDictionary byte_width K (is_leftmost kind) (trie_of edges fails positions) outputs) (root_link : get_or fails 0 0 ≡ 0) (fits : (w : List ℕ) (t : ℕ) → Leads (edge_to nat_cmp edges) w t → get_or positions t 0 ≤ length outputs) (n : ℕ) where
  abbrev parts : Parts V
  parts = parts_of kind es outputs n

  inside_at : (i : ℕ) → i < count parts → (base_of parts i < count parts) × (fail_of parts i < count parts) × (output_of parts i ≤ length parts.outputs)
  inside_at i low =
      let size : count parts ≡ length es = parts-count es outputs n kind in
      let range = held-in_range p.settled fails positions p.held.states byte_width (is_leftmost kind) K outputs holds root_link fits (some-elements p.settled) i (subst (λ (x : ℕ). i < x) (size ∙ p.held.size) low) in
      let base : base_of parts i ≡ base_in (element_at es i) = parts-base es outputs n kind i in
      let fail : fail_of parts i ≡ fail_in (element_at es i) = parts-fail es outputs n kind i in
      let output : output_of parts i ≡ output_in (element_at es i) = parts-output es outputs n kind i in (
        subst (λ (x : ℕ). base_of parts i < x) (sym size) (subst (λ (x : ℕ). x < length es) (sym base) (subst (λ (x : ℕ). base_in (element_at es i) < x) (sym p.held.size) range.base)),
        subst (λ (x : ℕ). fail_of parts i < x) (sym size) (subst (λ (x : ℕ). x < length es) (sym fail) (subst (λ (x : ℕ). fail_in (element_at es i) < x) (sym p.held.size) range.fail)),
        subst (λ (x : ℕ). x ≤ length outputs) (sym output) range.output,
      )

  wide : (u : ℕ) → 1 ≤ byte_width u
  wide u = omega arith

  copy : IsCopy (trie_of edges fails positions) outputs (machine parts) (λ t. get_or l.idx t 0)
  copy = packed-IsCopy p kind outputs n

  pub packed-IsValid : length es < 2 ^ 32 → length outputs < 2 ^ 32 → n ≡ length edges - 1 → IsValid parts
  packed-IsValid few few_outputs counted = record {
    grouped = record {
      blocks = subst (λ (x : ℕ). x % 256 ≡ 0) (sym (parts-count es outputs n kind ∙ p.held.size ∙ p.settled.sizes.elements)) (mul-mod_left l.blocks 256);
      some = subst (λ (x : ℕ). 0 < x) (sym (parts-count es outputs n kind)) (subst (λ (x : ℕ). 0 < x) (sym p.held.size) (some-elements p.settled));
      few = record { elements = subst (λ (x : ℕ). x < 2 ^ 32) (sym (parts-count es outputs n kind)) few; outputs = few_outputs };
      shape = parts-shape kind es outputs n;
      bases = λ i low. (inside_at i low).0;
    };
    sound = record {
      ranges = record { links = λ i low. (inside_at i low).1; positions = λ i low. (inside_at i low).2 };
      parents_fall = holds.parents_fall;
      right = copy-right byte_width wide K (is_leftmost kind) (trie_of edges fails positions) outputs holds (machine parts) (λ t. get_or l.idx t 0) copy;
      counted = subst (λ (m : ℕ). IsCounted (machine parts) m) (sym counted) (copy-counted byte_width wide K (is_leftmost kind) (trie_of edges fails positions) outputs holds (machine parts) (λ t. get_or l.idx t 0) copy (length edges) (settled-states p.settled fails positions));
    };
  }

  -- the parts hold the dictionary
  pub packed-content : (w : List ℕ) → content parts w ≡ K w
  packed-content w = content-same byte_width wide K (is_leftmost kind) (trie_of edges fails positions) outputs holds (machine parts) (λ t. get_or l.idx t 0) copy w
