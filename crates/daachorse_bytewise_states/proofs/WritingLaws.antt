-- Labels and elements are written one after another: each write keeps those before it.
use Rattle.std.proofs.Common.{◌≡◌, ◌≢◌, ℕ, ◌<◌, ◌⊎◌, inl, inr, Bool, true, false, ◌==◌, List, [], ◌∷◌, length, set, Some, refl, sym, ap, ◌∙◌, subst, arith, cond, ◌+◌, ◌-◌, ◌*◌, ◌/◌, ◌%◌, ◌≤◌, bit_xor, Option, None}
use Rattle.std.specs.Prelude.{slice_index, nat_lt, slice_index_or, unwrap_or, IfNone, IfSome}
use Rattle.std.specs.declared.cmp.Ordering.TheVariants.{Less, Equal, Greater}
use Rattle.std.proofs.lemmas.List.{length-set, get_or-set_same, get_or-set_other, get_or-map}
use Rattle.std.proofs.lemmas.Bool.{cond-true, cond-false}
use Rattle.std.proofs.lemmas.Map.Keys.{sorted_head, sorted_tail}
use Rattle.std.specs.List.{AllByRecursion}
use Rattle.std.proofs.lemmas.Option.{same_Some}
use Rattle.std.specs.Ordering.{nat_cmp, is_eq}
use Rattle.std.specs.Map.{keys_of}
use Rattle.daachorse_bytewise_states.specs.declared.state.State.{State}
use Rattle.daachorse_bytewise_states.specs.Elements.{base_in, check_in, fail_in, output_in, vacant}
use Rattle.daachorse_bytewise_states.specs.Packing.{IsVacant, element_at}
use Rattle.daachorse_bytewise_states.specs.Writing.{HasWritten, HasVacants}
use Rattle.daachorse_patterns.specs.Settled.{HavePlaces}
use Rattle.daachorse_patterns.proofs.Written.{written_at}
use Rattle.std.proofs.lemmas.Nat.{xor_shr}
use Rattle.std.specs.Int.Bits.{xor_self}
use Rattle.daachorse_model.proofs.Lists.{below_or_at}
use Rattle.daachorse_placement.specs.Layout.{AreAllSet, IsLeastUnused, Layout}
use Rattle.daachorse_build.specs.declared.nfa_builder.NfaBuilderState.{NfaBuilderState}
use Rattle.daachorse_build.specs.Tables.{IsTable, child_in, edge_map, edges_of}
use Rattle.daachorse_build.specs.EdgeMaps.{id_at, IsOrdered}

-- the labels of the edges that are passed are set; `rest` are the edges to come
pub record IsLabelling (edges rest : List (ℕ × ℕ)) (old new : List ℕ) : Type 0 where
  pub size : length new ≡ length old
  pub ordered : IsOrdered nat_cmp rest
  pub still : (c t : ℕ) → id_at nat_cmp rest c ≡ Some t → id_at nat_cmp edges c ≡ Some t
  pub done : (c t : ℕ) → id_at nat_cmp edges c ≡ Some t → (id_at nat_cmp rest c ≡ Some t) ⊎ (slice_index new t ≡ c)
  pub kept : (t : ℕ) → ((c : ℕ) → id_at nat_cmp edges c ≢ Some t) → slice_index new t ≡ slice_index old t

same-label : (c d : ℕ) → is_eq (nat_cmp c d) ≡ true → c ≡ d
same-label c d = go (nat_lt c d) (c == d) refl
  where
    go : (a b : Bool) → (c == d) ≡ b → is_eq (cond a Less (cond b Equal Greater)) ≡ true → c ≡ d
    go true b is e = absurd (cc)
    go false true is e = grind (arith, is)
    go false false is e = absurd (cc)

at-label : (c : ℕ) → is_eq (nat_cmp c c) ≡ true
at-label c =
    let low : nat_lt c c ≡ false = grind arith in
    let same : (c == c) ≡ true = grind arith in
    ap (λ a. is_eq (cond a Less (cond (c == c) Equal Greater))) low ∙ ap (λ b. is_eq (cond b Equal Greater)) same

-- an edge is the first, or one of the others
first_or_later : (c d t s : ℕ) (rest : List (ℕ × ℕ)) → id_at nat_cmp ((d, s) ∷ rest) c ≡ Some t → ((c ≡ d) × (s ≡ t)) ⊎ (id_at nat_cmp rest c ≡ Some t)
first_or_later c d t s rest e = go (is_eq (nat_cmp c d)) refl e
  where
    go : (b : Bool) → is_eq (nat_cmp c d) ≡ b → cond b (Some s) (id_at nat_cmp rest c) ≡ Some t → ((c ≡ d) × (s ≡ t)) ⊎ (id_at nat_cmp rest c ≡ Some t)
    go true is e = inl (same-label c d is, same_Some s t e)
    go false is e = inr e

-- the first edge is found at its label
at_first : (c t : ℕ) (rest : List (ℕ × ℕ)) → id_at nat_cmp ((c, t) ∷ rest) c ≡ Some t
at_first c t rest = cond-true _ _ _ (at-label c)

-- no edge behind the first has its label
absent_in : (d t : ℕ) (rest : List (ℕ × ℕ)) → AllByRecursion (λ y. nat_cmp d y ≡ Less) (keys_of rest) → id_at nat_cmp rest d ≢ Some t
absent_in d t [] above e = absurd (cc)
absent_in d t ((c, s) ∷ rest) above e =
    absent_in d t rest above.1 (sym (cond-false _ _ _ (ap is_eq above.0)) ∙ e)

absent : (d s : ℕ) (rest : List (ℕ × ℕ)) → IsOrdered nat_cmp ((d, s) ∷ rest) → (t : ℕ) → id_at nat_cmp rest d ≢ Some t
absent d s rest ordered t = absent_in d t rest (sorted_head nat_cmp d (keys_of rest) ordered)

-- a later edge is found behind the first, whose label is below its own
behind : (c d t s : ℕ) (rest : List (ℕ × ℕ)) → IsOrdered nat_cmp ((d, s) ∷ rest) → id_at nat_cmp rest c ≡ Some t → id_at nat_cmp ((d, s) ∷ rest) c ≡ Some t
behind c d t s rest ordered e = go (is_eq (nat_cmp c d)) refl
  where
    go : (b : Bool) → is_eq (nat_cmp c d) ≡ b → cond (is_eq (nat_cmp c d)) (Some s) (id_at nat_cmp rest c) ≡ Some t
    go false is = cond-false _ _ _ is ∙ e
    go true is = absurd (absent d s rest ordered t (let P : ℕ → Type 0 = λ x. id_at nat_cmp rest x ≡ Some t in subst P (same-label c d is) e))

module _ (edges : List (ℕ × ℕ)) (c t : ℕ) (rest : List (ℕ × ℕ)) (old new : List ℕ) (was : IsLabelling edges ((c, t) ∷ rest) old new)
    (apart : (c d t : ℕ) → id_at nat_cmp edges c ≡ Some t → id_at nat_cmp edges d ≡ Some t → c ≡ d) where
  first : id_at nat_cmp edges c ≡ Some t
  first = was.still c t (at_first c t rest)

  pub first_inside : ((c t : ℕ) → id_at nat_cmp edges c ≡ Some t → t < length old) → t < length new
  first_inside fits = omega (arith, fits c t first, was.size)

  pub labelling_more : t < length new → IsLabelling edges rest old (set new t c)
  labelling_more inside = record {
    size = length-set new t c ∙ was.size;
    ordered = sorted_tail nat_cmp c (keys_of rest) was.ordered;
    still = λ d s e. was.still d s (behind d c s t rest was.ordered e);
    done = λ d s e. elim (was.done d s e) [
      | inl found ↦ elim (first_or_later d c s t rest found) [
        | inl here ↦ inr (ap (λ k. slice_index (set new t c) k) (sym here.1) ∙ get_or-set_same new t c 0 inside ∙ sym here.0)
        | inr later ↦ inl later
      ]
      | inr set_before ↦ inr (put inside d s e set_before (nat_or d c))
    ];
    kept = λ s none. get_or-set_other new t s c 0 (λ same. none c (first ∙ ap (λ k. Some k) (sym same))) ∙ was.kept s none;
  }
    where
      nat_or : (d e : ℕ) → (d ≡ e) ⊎ (d ≢ e)
      nat_or d e = grind arith

      put : t < length new → (d s : ℕ) → id_at nat_cmp edges d ≡ Some s → slice_index new s ≡ d → (d ≡ c) ⊎ (d ≢ c) → slice_index (set new t c) s ≡ d
      put inside d s e is (inl same) = let one : t ≡ s = same_Some t s (sym first ∙ (ap (λ k. id_at nat_cmp edges k) (sym same) ∙ e)) in ap (λ k. slice_index (set new t c) k) (sym one) ∙ get_or-set_same new t c 0 inside ∙ sym same
      put inside d s e is (inr other) = get_or-set_other new t s c 0 (λ same. other (apart d c t (e ∙ ap (λ k. Some k) same) first)) ∙ is

-- all edges are passed
pub labelling_all : (edges : List (ℕ × ℕ)) (old new : List ℕ) → IsLabelling edges [] old new → (c t : ℕ) → id_at nat_cmp edges c ≡ Some t → slice_index new t ≡ c
labelling_all edges old new was c t e = elim (was.done c t e) [
  | inl none ↦ absurd (cc)
  | inr set_to ↦ set_to
]

-- ---- what is read of the states of a builder

module _ {V A : Type 0} (states : List (NfaBuilderState ℕ V A)) (i : ℕ) (s : NfaBuilderState ℕ V A) (inside : i < length states) (is : s ≡ slice_index_or states i s) where
  pub edges_at : slice_index_or (edges_of states) i [] ≡ edge_map s
  edges_at = get_or-map edge_map states i s [] inside ∙ ap edge_map (sym is)

-- ---- the labels of the children of one state more

module _ (edges : List (List (ℕ × ℕ))) (table : IsTable nat_cmp edges) (m : ℕ) where
  pub inside-all : (c t : ℕ) → child_in nat_cmp edges m c ≡ Some t → t < length edges
  inside-all c t e = (table.trie.bounds m c t e).3

  pub apart-all : (c d t : ℕ) → child_in nat_cmp edges m c ≡ Some t → child_in nat_cmp edges m d ≡ Some t → c ≡ d
  apart-all c d t e f = (table.trie.one_parent m c m d t e f).1

module _ (edges : List (List (ℕ × ℕ))) (table : IsTable nat_cmp edges) (m : ℕ) (old new : List ℕ)
    (set_to : (c t : ℕ) → child_in nat_cmp edges m c ≡ Some t → slice_index new t ≡ c)
    (kept : (t : ℕ) → ((c : ℕ) → child_in nat_cmp edges m c ≢ Some t) → slice_index new t ≡ slice_index old t) where
  pub root-kept : slice_index old 0 ≡ 0 → slice_index new 0 ≡ 0
  root-kept root = kept 0 (λ c e. let high : 1 < 0 = (table.trie.bounds m c 0 e).2 in omega (arith, high)) ∙ root

  pub children-more : ((s c t : ℕ) → s < m → child_in nat_cmp edges s c ≡ Some t → slice_index old t ≡ c)
      → (s c t : ℕ) → s < m + 1 → child_in nat_cmp edges s c ≡ Some t → slice_index new t ≡ c
  children-more was s c t less e = here (below_or_at s m less)
    where
      here : (s < m) ⊎ (s ≡ m) → slice_index new t ≡ c
      here (inl before) = kept t (λ d f. let one : s ≡ m = (table.trie.one_parent s c m d t e f).0 in omega (arith, before, one)) ∙ was s c t before e
      here (inr same) = set_to c t (ap (λ k. child_in nat_cmp edges k c) (sym same) ∙ e)

-- ---- one block more is vacant

-- two indexes of one block are a byte apart
block-apart : (q i u : ℕ) → q * 256 ≤ i → i < q * 256 + 256 → q * 256 ≤ u → u < q * 256 + 256 → bit_xor i u < 256
block-apart q i u low high from to =
    let same : bit_xor i u / 256 ≡ bit_xor (i / 256) (u / 256) = xor_shr i u 8 in
    let a : i / 256 ≡ q = grind arith in
    let b : u / 256 ≡ q = grind arith in
    let none : bit_xor i u / 256 ≡ 0 = same ∙ (ap (λ x. bit_xor x (u / 256)) a ∙ (ap (λ x. bit_xor q x) b ∙ xor_self q)) in
    grind (arith, none)

-- the least unused base is one
least-one : (marks : List Bool) (q u v : ℕ) → IsLeastUnused marks 256 q u → IsLeastUnused marks 256 q v → u ≡ v
least-one marks q u v a b = go (below u v) (below v u)
  where
    below : (x y : ℕ) → (x < y) ⊎ (y ≤ x)
    below x y = grind arith

    clash : (x y : ℕ) → IsLeastUnused marks 256 q x → IsLeastUnused marks 256 q y → x < y → ⊥
    clash x y f g less = let bad : false ≡ true = sym f.free ∙ g.least x f.from less in cc

    go : (u < v) ⊎ (v ≤ u) → (v < u) ⊎ (u ≤ v) → u ≡ v
    go (inl less) other = absurd (clash u v a b less)
    go (inr more) (inl less) = absurd (clash v u b a less)
    go (inr more) (inr most) = omega arith

-- what was found of the block: the least unused base, or that there is none
pub Found : List Bool → ℕ → ℕ → Option ℕ → Type 0
Found marks n q None = AreAllSet marks n q
Found marks n q (Some u) = IsLeastUnused marks n q u

pub found-is : (marks : List Bool) (n q : ℕ) (unused : Option ℕ) → IfSome unused (IsLeastUnused marks n q) → IfNone unused (AreAllSet marks n q) → Found marks n q unused
unfolding Found
found-is marks n q None found taken = taken
found-is marks n q (Some u) found taken = found

found-least : (marks : List Bool) (q v : ℕ) (unused : Option ℕ) → Found marks 256 q unused → IsLeastUnused marks 256 q v → unwrap_or unused 0 ≡ v
unfolding Found
found-least marks q v None all least =
    absurd (let inside : v - q * 256 < 256 = (let to = least.to in omega (arith, to)) in
    let back : q * 256 + (v - q * 256) ≡ v = (let from = least.from in omega (arith, from)) in
    let bad : true ≡ false = sym (ap (λ k. slice_index_or marks k false) (sym back) ∙ all (v - q * 256) inside) ∙ least.free in cc)
found-least marks q v (Some u) found least = least-one marks q u v found least

pub blocks-more : (l : Layout) (q : ℕ) (unused : Option ℕ) (old new : List (State ℕ)) → Found l.marks 256 q unused → length old ≡ q * 256 → ((i : ℕ) → i < length old → IsVacant l i (element_at old i)) → HasVacants 256 (unwrap_or unused 0) old new
    → (i : ℕ) → i < length new → IsVacant l i (element_at new i)
blocks-more l q unused old new found size was more i less = elim before_or_in [
  | inl before ↦ let P : State ℕ → Type 0 = λ e. IsVacant l i e in subst P (sym (more.kept i before)) (was i before)
  | inr here ↦ record {
    base = more.base i here less;
    fail = more.fail i here less;
    output = more.output i here less;
    check = λ u least. more.check i here less ∙ (checked u (let at : i / 256 ≡ q = in_block here in subst (λ (k : ℕ). IsLeastUnused l.marks 256 k u) at least) here);
  }
]
  where
    before_or_in : (i < length old) ⊎ (length old ≤ i)
    before_or_in = grind arith

    in_block : length old ≤ i → i / 256 ≡ q
    in_block here = let end : i < q * 256 + 256 = omega (arith, size, more.size, less) in let start : q * 256 ≤ i = omega (arith, here, size) in grind arith

    checked : (u : ℕ) → IsLeastUnused l.marks 256 q u → length old ≤ i → bit_xor i (unwrap_or unused 0) % 256 ≡ bit_xor i u
    checked u least here =
        let same = found-least l.marks q u unused found least in
        let small : bit_xor i u < 256 = block-apart q i u (omega (arith, here, size)) (omega (arith, less, size, more.size)) least.from least.to in
        ap (λ x. bit_xor i x % 256) same ∙ grind (arith, small)
