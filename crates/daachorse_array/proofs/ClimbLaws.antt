-- A climb to the first element whose depth is known gives each element that it passed its own, since a text leads to an element by way of its parent.
use Rattle.std.proofs.Common.{◌≡◌, ◌≢◌, ℕ, zero, suc, ◌+◌, ◌<◌, ◌≤◌, inl, inr, List, [], ◌∷◌, length, get_or, set, replicate, Option, Some, None, refl, sym, ap, ◌∙◌, arith, subst, length-append}
use Rattle.std.proofs.lemmas.List.{get_or-replicate, get_or-set_same, get_or-set_other, length-set, length-replicate}
use Rattle.std.proofs.lemmas.Bool.{cases_eq}
use Rattle.std.proofs.lemmas.Option.{none-some, same_Some, slice_get-get_or}
use Rattle.daachorse_array.specs.Texts.{IsReached}
use Rattle.std.specs.List.{AllByRecursion}
use Rattle.daachorse_array.specs.Climbs.{AreKnown, IsDepthOf, IsPathBelow, depths_along}
use Rattle.daachorse_array.specs.Depths.{IsDepthTable}
use Rattle.daachorse_array.specs.Edges.{IsTree, TellChildren}
use Rattle.daachorse_array.specs.Trees.{IsAmong, text}
use Rattle.daachorse_array.proofs.EntryLaws.{parent-of}
use Rattle.daachorse_array.proofs.Members.{All-among, among-either}
use Rattle.daachorse_array.proofs.WalkLaws.{root-text, root-reached, reached-inside, child-text, child-reached}

-- ---- entries that are 0

-- how many entries are 0
abbrev pub num_unknown : List ℕ → ℕ
num_unknown [] = 0
num_unknown (zero ∷ depths) = suc (num_unknown depths)
num_unknown (suc d ∷ depths) = num_unknown depths

pub unknown-few : (depths : List ℕ) → num_unknown depths ≤ length depths
unknown-few [] = omega arith
unknown-few (zero ∷ depths) = omega (arith, unknown-few depths)
unknown-few (suc d ∷ depths) = omega (arith, unknown-few depths)

-- an entry that was 0 is so no more
pub unknown-set : (depths : List ℕ) (i d : ℕ) → i < length depths → get_or depths i 0 ≡ 0 → suc (num_unknown (set depths i (suc d))) ≡ num_unknown depths
unknown-set [] i d less none = absurd (omega arith)
unknown-set (zero ∷ depths) zero d less none = refl
unknown-set (suc e ∷ depths) zero d less none = absurd (omega arith)
unknown-set (zero ∷ depths) (suc i) d less none = ap suc (unknown-set depths i d (omega arith) none)
unknown-set (suc e ∷ depths) (suc i) d less none = unknown-set depths i d (omega arith) none

-- what is written is not 0, so that no entry becomes it
pub set-kept : (depths : List ℕ) (i k d : ℕ) → get_or depths i 0 ≢ 0 → get_or (set depths k (suc d)) i 0 ≢ 0
set-kept [] i k d some = some
set-kept (e ∷ depths) zero zero d some = λ bad. omega (arith, bad)
set-kept (e ∷ depths) zero (suc k) d some = some
set-kept (e ∷ depths) (suc i) zero d some = some
set-kept (e ∷ depths) (suc i) (suc k) d some = set-kept depths i k d some

pub depths_along-kept : (path depths : List ℕ) (d i : ℕ) → get_or depths i 0 ≢ 0 → get_or (depths_along d path depths) i 0 ≢ 0
depths_along-kept [] depths d i some = some
depths_along-kept (x ∷ path) depths d i some = depths_along-kept path (set depths x (suc d)) (suc d) i (set-kept depths i x d some)

-- ---- parents

module _ (child : ℕ → ℕ → Option ℕ) (n m : ℕ) where
  -- x is reached where p is, with one unit more
  abbrev pub IsBelow : ℕ → ℕ → Type 0
  IsBelow x p = (IsReached child m n x → IsReached child m n p) × (IsReached child m n p → IsReached child m n x × (length (text child n m x) ≡ suc (length (text child n m p))))

  -- each element of a path is below the one behind it, the last one below p
  abbrev pub IsClimb : List ℕ → ℕ → Type 0
  IsClimb [] p = Unit {0}
  IsClimb (x ∷ path) p = IsBelow x p × IsClimb path x

module _ {child : ℕ → ℕ → Option ℕ} {n m : ℕ} (tree : IsTree child n m) where
  shallow : (i : ℕ) → IsReached child m n i → length (text child n m i) < 4294967295
  shallow i r = tree.shallow i (text child n m i) r

  climb-below : (path : List ℕ) (p d : ℕ) → IsClimb child n m path p → IsReached child m n p → length (text child n m p) ≡ d → IsPathBelow child n m d path
  climb-below [] p d climb r e = tt
  climb-below (x ∷ path) p d climb r e =
      let one = climb.0.1 r in
      let more : length (text child n m x) ≡ suc d = one.1 ∙ ap suc e in
      ((one.0, more), climb-below path x (suc d) climb.1 one.0 more)

  climb-reached : (path : List ℕ) (p i : ℕ) → IsClimb child n m path p → IsAmong path i → IsReached child m n i → IsReached child m n p
  climb-reached [] p i climb a r = absurd a
  climb-reached (x ∷ path) p i climb (inl same) r = climb.0.0 (subst (IsReached child m n) same r)
  climb-reached (x ∷ path) p i climb (inr a) r = climb.0.0 (climb-reached path x i climb.1 a r)

  below-longer : (path : List ℕ) (d i : ℕ) → IsPathBelow child n m d path → IsAmong path i → d < length (text child n m i)
  below-longer [] d i below a = absurd a
  below-longer (x ∷ path) d i below (inl same) = omega (arith, ap (λ k. length (text child n m k)) same, below.0.1)
  below-longer (x ∷ path) d i below (inr a) = omega (arith, below-longer path (suc d) i below.1 a)

  -- an element that is reached does not stand below itself
  climb-apart : (path : List ℕ) (p : ℕ) → IsClimb child n m path p → IsReached child m n p → ¬ IsAmong path p
  climb-apart path p climb r a = let less : length (text child n m p) < length (text child n m p) = below-longer path (length (text child n m p)) p (climb-below path p (length (text child n m p)) climb r refl) a in omega (arith, less)

  -- depths on a path are numbers of 32 bits
  pub below-few : (path : List ℕ) (d : ℕ) → d < 4294967296 → IsPathBelow child n m d path → d + length path < 4294967296
  below-few [] d few below = omega (arith, few)
  below-few (x ∷ path) d few below =
      let less : length (text child n m x) < 4294967295 = shallow x below.0.0 in
      let rest = below-few path (suc d) (omega (arith, less, below.0.1)) below.1 in
      omega (arith, rest)

  -- ---- what is known of the depths

  pub known-start : (depths : List ℕ) → depths ≡ replicate n 0 → AreKnown child n m [] depths
  known-start depths e = record {
    size = ap length e ∙ length-replicate n 0;
    root = none 0 tree.some;
    known = λ i less some out. absurd (some (none i less));
    waiting = λ i a. absurd a;
  }
    where
      none : (i : ℕ) → i < n → get_or depths i 0 ≡ 0
      none i less = ap (λ l. get_or l i 0) e ∙ get_or-replicate n i 0 0 less

  -- a path to which no text leads is known
  pub known-lost : (path depths : List ℕ) → AreKnown child n m path depths → ((i : ℕ) → IsAmong path i → ¬ IsReached child m n i) → AreKnown child n m [] depths
  known-lost path depths k lost = record {
    size = k.size;
    root = k.root;
    known = λ i less some out. elim (among-either path i) [ inl a ↦ inr (lost i a, (k.waiting i a).2) | inr other ↦ k.known i less some other ];
    waiting = λ i a. absurd a;
  }

  -- an element is put on the path
  pub known-push : (path depths : List ℕ) (x : ℕ) → AreKnown child n m path depths → 0 < x → x < n → get_or depths x 0 ≡ 0 → AreKnown child n m (x ∷ path) (set depths x 4294967295)
  known-push path depths x k some less none = record {
    size = length-set depths x 4294967295 ∙ k.size;
    root = get_or-set_other depths x 0 4294967295 0 (omega (arith, some)) ∙ k.root;
    known = λ i low is out. (
        let same : get_or (set depths x 4294967295) i 0 ≡ get_or depths i 0 = get_or-set_other depths x i 4294967295 0 (λ e. out (inl e)) in
        subst (IsDepthOf child n m i) (sym same) (k.known i low (λ e. is (same ∙ e)) (λ a. out (inr a))));
    waiting = λ i a. elim a [
      | inl same ↦ (omega (arith, some, same), omega (arith, less, same), ap (λ q. get_or (set depths x 4294967295) q 0) same ∙ get_or-set_same depths x 4294967295 0 (omega (arith, less, k.size)))
      | inr old ↦ (
          let at = k.waiting i old in
          (at.0, at.1, get_or-set_other depths x i 4294967295 0 (λ e. omega (arith, none, at.2, ap (λ q. get_or depths q 0) e)) ∙ at.2))
    ];
  }

  -- the elements of the path are given their depths
  pub known-deepened : (path depths : List ℕ) (d : ℕ) → AreKnown child n m path depths → IsPathBelow child n m d path → AreKnown child n m [] (depths_along d path depths)
  known-deepened [] depths d k below = k
  known-deepened (x ∷ path) depths d k below = known-deepened path (set depths x (suc d)) (suc d) next below.1
    where
      at : (0 < x) × (x < n) × (get_or depths x 0 ≡ 4294967295)
      at = k.waiting x (inl refl)

      written : get_or (set depths x (suc d)) x 0 ≡ suc d
      written = get_or-set_same depths x (suc d) 0 (omega (arith, at.1, k.size))

      other : (i : ℕ) → i ≢ x → get_or (set depths x (suc d)) i 0 ≡ get_or depths i 0
      other i apart = get_or-set_other depths x i (suc d) 0 apart

      here : IsDepthOf child n m x (get_or (set depths x (suc d)) x 0)
      here = inl (below.0.0, written ∙ sym below.0.1)

      known : (i : ℕ) → i < n → get_or (set depths x (suc d)) i 0 ≢ 0 → ¬ IsAmong path i → IsDepthOf child n m i (get_or (set depths x (suc d)) i 0)
      known i low is out = elim (cases_eq i x) [
        | inl same ↦ (let P : ℕ → Type 0 = λ q. IsDepthOf child n m q (get_or (set depths x (suc d)) q 0) in subst P (sym same) here)
        | inr apart ↦
            subst (IsDepthOf child n m i) (sym (other i apart)) (k.known i low (λ e. is (other i apart ∙ e)) (λ a. elim a [ inl e ↦ apart e | inr old ↦ out old ]))
      ]

      next : AreKnown child n m path (set depths x (suc d))
      next = record {
        size = length-set depths x (suc d) ∙ k.size;
        root = other 0 (λ e. omega (arith, at.0, e)) ∙ k.root;
        known = known;
        waiting = λ i a. (
            let old = k.waiting i (inr a) in
            (old.0, old.1, other i (λ e. (let longer : suc d < length (text child n m i) = below-longer path (suc d) i below.1 a in omega (arith, longer, below.0.1, ap (λ q. length (text child n m q)) e))) ∙ old.2));
      }

  -- the elements of a path stand in the table
  pub waiting-inside : (path depths : List ℕ) → AreKnown child n m path depths → AllByRecursion (λ i. i < length depths) path
  waiting-inside path depths k = All-among (λ i. i < length depths) path (λ i a. (let at = k.waiting i a in omega (arith, at.1, k.size)))

  -- where each entry but the root's is known, the depths are
  pub known-end : (depths : List ℕ) → AreKnown child n m [] depths → ((i : ℕ) → 0 < i → i < n → get_or depths i 0 ≢ 0) → IsDepthTable child m n depths
  known-end depths k all = record {
    size = k.size;
    reached = λ i r. (let less : i < n = reached-inside tree i r in slice_get-get_or depths i 0 (omega (arith, less, k.size)) ∙ ap (λ d. Some d) (value i r less));
    others = λ i less out. slice_get-get_or depths i 0 (omega (arith, less, k.size)) ∙ ap (λ d. Some d) (greatest i less out);
  }
    where
      value : (i : ℕ) → IsReached child m n i → i < n → get_or depths i 0 ≡ length (text child n m i)
      value zero r less = k.root ∙ sym (ap length (root-text tree))
      value (suc i) r less = elim (k.known (suc i) less (all (suc i) (omega arith) less) (λ a. a)) [ inl both ↦ both.1 | inr both ↦ absurd (both.0 r) ]

      greatest : (i : ℕ) → i < n → ¬ IsReached child m n i → get_or depths i 0 ≡ 4294967295
      greatest zero less out = absurd (out (root-reached tree))
      greatest (suc i) less out = elim (k.known (suc i) less (all (suc i) (omega arith) less) (λ a. a)) [ inl both ↦ absurd (out both.0) | inr both ↦ both.1 ]

  -- ---- where a climb ends

  -- at an element to which no text leads, or which was passed before
  pub climb-lost : (path depths : List ℕ) (p : ℕ) → AreKnown child n m path depths → IsClimb child n m path p → p < n → get_or depths p 0 ≡ 4294967295 → (i : ℕ) → IsAmong path i → ¬ IsReached child m n i
  climb-lost path depths p k climb less e i a r =
      let up = climb-reached path p i climb a r in
      elim (k.known p less (λ none. omega (arith, e, none)) (climb-apart path p climb up)) [
        | inl both ↦ (let short = shallow p both.0 in omega (arith, short, both.1, e))
        | inr both ↦ both.0 up
      ]

  -- at one whose depth is known
  pub climb-found : (path depths : List ℕ) (p d : ℕ) → AreKnown child n m path depths → IsClimb child n m path p → p < n → get_or depths p 0 ≡ d → d ≢ 0 → d ≢ 4294967295 → IsPathBelow child n m d path
  climb-found path depths p d k climb less e some low =
      elim (k.known p less (λ none. some (sym e ∙ none)) (λ a. low (sym e ∙ (k.waiting p a).2))) [
        | inl both ↦ climb-below path p d climb both.0 (sym both.1 ∙ e)
        | inr both ↦ absurd (low (sym e ∙ both.1))
      ]

  -- at the root
  pub climb-root : (path : List ℕ) (p : ℕ) → p ≡ 0 → IsClimb child n m path p → IsPathBelow child n m 0 path
  climb-root path p e climb = climb-below path 0 0 (subst (IsClimb child n m path) e climb) (root-reached tree) (ap length (root-text tree))

  module _ {edge : ℕ → Option (ℕ × ℕ)} (tell : TellChildren child (λ i. Some i) edge n) where
    -- an element that is reached and is not the root has a parent
    parent-reached : (x : ℕ) → 0 < x → IsReached child m n x → (q : ℕ) × (c : ℕ) × IsReached child m n q × (edge x ≡ Some (q, c))
    parent-reached x some r =
        let up = parent-of tree x r (λ e. omega (arith, some, e)) in
        (up.0, up.1, up.2, tell.from_child up.0 up.0 up.1 x (reached-inside tree up.0 up.2) refl up.3)

    -- an element is below its parent
    pub edge-below : (x p u : ℕ) → 0 < x → x < n → p < n → edge x ≡ Some (p, u) → IsBelow child n m x p
    edge-below x p u some less inside e =
        let kid : child p u ≡ Some x = tell.to_child p p u x inside refl less e in (
          λ r. (
              let up = parent-reached x some r in
              let both : (up.0, up.1) ≡ (p, u) = same_Some (up.0, up.1) (p, u) (sym up.3 ∙ e) in
              subst (IsReached child m n) (ap (λ (q : ℕ × ℕ). q.0) both) up.2),
          λ r. (child-reached tree p u x r kid, (let one = ap length (child-text tree p u x r kid) in omega (arith, one, length-append (text child n m p) (u ∷ [])))),
        )

    -- at an element that is no child
    pub climb-orphan : (path : List ℕ) (p : ℕ) → IsClimb child n m path p → 0 < p → edge p ≡ None → (i : ℕ) → IsAmong (p ∷ path) i → ¬ IsReached child m n i
    climb-orphan path p climb some none i a r = elim a [ inl same ↦ alone (subst (IsReached child m n) same r) | inr old ↦ alone (climb-reached path p i climb old r) ]
      where
        alone : ¬ IsReached child m n p
        alone up = let above = parent-reached p some up in none-some (above.0, above.1) (sym none ∙ above.3)
