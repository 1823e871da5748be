-- Each group has a parent of its own, whose text begins a longer key: groups too many for the elements are as many such texts.
use Rattle.std.proofs.Common.{◌≡◌, ℕ, zero, suc, ◌+◌, ◌-◌, ◌*◌, ◌/◌, ◌^◌, ◌<◌, ◌≤◌, false, List, [], ◌∷◌, ◌++◌, length, get_or, Some, refl, sym, ap, ◌∙◌, subst, inl, inr, append_assoc, arith}
use Rattle.std.proofs.Math.Nat.{div-le_of_le-mul}
use Rattle.std.proofs.lemmas.Bool.{false_from_ne_true, cond-true}
use Rattle.std.proofs.lemmas.List.{length-map}
use Rattle.std.proofs.lemmas.Option.{same_Some}
use Rattle.std.proofs.lemmas.Slice.Eq.{bytes_eq-Decides}
use Rattle.std.specs.Cmp.{nat_cmp_is}
use Rattle.std.specs.declared.cmp.Ordering.TheVariants.{Equal}
use Rattle.std.specs.Ordering.{nat_cmp, is_eq}
use Rattle.std.specs.List.{AllByRecursion, IsDistinct}
use Rattle.daachorse_model.specs.Units.{same_text}
use Rattle.daachorse_model.specs.Dictionary.{Dictionary}
use Rattle.daachorse_model.specs.Paths.{walk, Leads}
use Rattle.daachorse_model.specs.Prefixes.{IsPrefix}
use Rattle.daachorse_model.proofs.Paths.{walk-push}
use Rattle.daachorse_placement.specs.declared.build_helper.SiblingGroup.{SiblingGroup}
use Rattle.daachorse_placement.specs.Placement.{children_of, group_parent}
use Rattle.daachorse_build.specs.EdgeMaps.{id_at}
use Rattle.daachorse_build.specs.Tables.{child_in}
use Rattle.daachorse_build.proofs.Full.{all_mapped}
use Rattle.daachorse_build.proofs.Walks.{text_of}
use Rattle.daachorse_patterns.specs.Settled.{AreGroupsOf}
use Rattle.daachorse_patterns.specs.Prefixes.{HasMoreProperPrefixes, IsProperPrefix}

-- the first of some edges leads somewhere
first_edge : (es : List (ℕ × ℕ)) → 0 < length es → (c : ℕ) × (t : ℕ) × (id_at nat_cmp es c ≡ Some t)
first_edge [] some = absurd (omega arith)
first_edge (e ∷ es) some = (e.0, e.1, cond-true (is_eq (nat_cmp e.0 e.0)) _ _ (ap is_eq (sym (nat_cmp_is e.0 e.0 Equal refl))))

-- what goes on to a prefix of a key begins a longer key
goes_on : {V : Type 0} (K : Dictionary V) (w : List ℕ) (c : ℕ) → IsPrefix K (w ++ c ∷ []) → IsProperPrefix K w
goes_on K [] c (inl none) = absurd (cc)
goes_on K (u ∷ w) c (inl none) = absurd (cc)
goes_on K w c (inr (x, key)) = (c ∷ x, λ none. (cc), λ empty. key (ap K (append_assoc w (c ∷ []) x) ∙ empty))

-- where so many blocks are too many elements, a number of groups passes that of the blocks that there may be but the first
pub many-blocks : (groups block : ℕ) → 0 < block → block < 2 ^ 32 → 2 ^ 32 ≤ (groups + 1) * block → (2 ^ 32 - block) / block - 1 < groups
many-blocks groups block some fits full =
    let product : (groups + 1) * block ≡ groups * block + block = grind arith in
    let rest : 2 ^ 32 - block ≤ block * groups = grind (arith, product) in
    let blocks : (2 ^ 32 - block) / block ≤ groups = div-le_of_le-mul block rest in
    let one : 0 < groups = one_group groups full in
    omega (arith, blocks, one)
  where
    one_group : (n : ℕ) → 2 ^ 32 ≤ (n + 1) * block → 0 < n
    one_group zero h = absurd (omega (arith, fits, h))
    one_group (suc n) h = omega arith

module _ {A : Type 0} {code : ℕ → ℕ} {block : ℕ} {gs : List (SiblingGroup A)} {edges : List (List (ℕ × ℕ))} (g : AreGroupsOf code block gs edges) where
  -- the text leads to the parent of one of the first m groups
  abbrev IsParentText : ℕ → List ℕ → Type 0
  IsParentText m w = (k : ℕ) × (k < m) × Leads (child_in nat_cmp edges) w (group_parent gs k)

  parent_edge : (k : ℕ) → k < length gs → (c : ℕ) × (t : ℕ) × (child_in nat_cmp edges (group_parent gs k) c ≡ Some t)
  parent_edge k inside =
      let es : List (ℕ × ℕ) = get_or edges (group_parent gs k) [] in
      let list : length (children_of gs k) ≡ length es = ap length (g.children k inside) ∙ length-map es (λ e. (code e.0, e.1)) in
      let some : 0 < length es = subst (λ (n : ℕ). 0 < n) list (g.groups.some k inside) in
      first_edge es some

  parent_text : (k : ℕ) → k < length gs → (w : List ℕ) × Leads (child_in nat_cmp edges) w (group_parent gs k)
  parent_text k inside =
      let edge = parent_edge k inside in
      let alive = (g.table.trie.bounds (group_parent gs k) edge.0 edge.1 edge.2).1 in
      text_of (child_in nat_cmp edges) (length edges) g.table.trie (group_parent gs k) (g.groups.parents k inside) alive

  record AreTexts (m : ℕ) : Type 0 where
    texts : List (List ℕ)
    count : length texts ≡ m
    leads : AllByRecursion (IsParentText m) texts
    distinct : IsDistinct same_text texts

  -- the text of one group's parent more
  new_text : (m : ℕ) → m < length gs → (w : List ℕ) → Leads (child_in nat_cmp edges) w (group_parent gs m) → (v : List ℕ) → IsParentText m v → same_text w v ≡ false
  new_text m inside w at v (k, less, leads) = false_from_ne_true (same_text w v) (λ same.
      let one : group_parent gs m ≡ group_parent gs k = same_Some (group_parent gs m) (group_parent gs k) (sym at ∙ (ap (λ x. walk (child_in nat_cmp edges) 0 x) ((bytes_eq-Decides w v).0 same) ∙ leads)) in
      let group : m ≡ k = g.groups.one_parent m k inside (omega (arith, less, inside)) one in
      omega (arith, group, less))

  texts_of : (m : ℕ) → m ≤ length gs → AreTexts m
  unfolding IsDistinct
  texts_of zero fits = record { texts = []; count = refl; leads = tt; distinct = tt }
  texts_of (suc m) fits =
      let rest = texts_of m (omega arith) in
      let text = parent_text m (omega arith) in
      record {
        texts = text.0 ∷ rest.texts;
        count = ap (λ k. suc k) rest.count;
        leads = ((m, omega arith, text.1), all_mapped (IsParentText m) (IsParentText (suc m)) (λ w from. (from.0, omega (arith, from.1), from.2)) rest.texts rest.leads);
        distinct = (all_mapped (IsParentText m) (λ v. same_text text.0 v ≡ false) (new_text m (omega arith) text.0 text.1) rest.texts rest.leads, rest.distinct);
      }

  -- groups too many for 2^32 elements
  pub many-groups : {V : Type 0} (K : Dictionary V) → 0 < block → block < 2 ^ 32 → ((s : ℕ) (w : List ℕ) → Leads (child_in nat_cmp edges) w s → IsPrefix K w) → 2 ^ 32 ≤ (length gs + 1) * block → HasMoreProperPrefixes K ((2 ^ 32 - block) / block - 1)
  many-groups K some fits only full =
      let all = texts_of (length gs) (omega arith) in
      let count : length all.texts ≡ length gs = all.count in
      let many : (2 ^ 32 - block) / block - 1 < length gs = many-blocks (length gs) block some fits full in
      record {
        texts = all.texts;
        distinct = all.distinct;
        prefixes = all_mapped (IsParentText (length gs)) (IsProperPrefix K) begins all.texts all.leads;
        more = omega (arith, count, many);
      }
    where
      begins : (w : List ℕ) → IsParentText (length gs) w → IsProperPrefix K w
      begins w (k, inside, leads) =
          let edge = parent_edge k inside in
          goes_on K w edge.0 (only edge.1 (w ++ edge.0 ∷ []) (walk-push (child_in nat_cmp edges) 0 w edge.0 (group_parent gs k) leads ∙ edge.2))
