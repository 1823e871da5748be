-- A walk along the list of the elements that were reached, each of which puts its children at the end, comes to each element once.
use Rattle.std.proofs.Common.{◌≡◌, ◌≢◌, ℕ, zero, suc, ◌+◌, ◌<◌, ◌≤◌, ◌⊎◌, inl, inr, true, List, [], ◌∷◌, ◌++◌, length, get_or, set, take, drop, replicate, Option, Some, None, refl, sym, ap, ◌∙◌, arith, subst, length-append, append-nil, add-one}
use Rattle.std.proofs.Math.Seq.{take-suc}
use Rattle.std.proofs.lemmas.List.{get_or-replicate, get_or-set_same, get_or-set_other, get_or_read, length-set, length-replicate, same_from_push, take-append-drop, take-append-le, take_all}
use Rattle.std.proofs.lemmas.Option.{none-some, same_Some, slice_get-get_or}
use Rattle.daachorse_model.specs.Paths.{walk}
use Rattle.daachorse_array.specs.Texts.{IsReached}
use Rattle.daachorse_array.specs.Depths.{IsDepthTable}
use Rattle.daachorse_array.specs.Edges.{is_in, members, IsTree, TellChildren}
use Rattle.daachorse_array.specs.Listing.{unit_of}
use Rattle.daachorse_array.specs.Trees.{IsAmong, Pairs, IsMarking, IsNoting, text}
use Rattle.daachorse_array.proofs.Members.{among-read, among-append, among-left, among-right, among-All, Pairs-append, Pairs-map, Pairs-few, marking-start}
use Rattle.daachorse_array.proofs.SortLaws.{below-All, below-falls, below-has, in-edge, edge-in}
use Rattle.daachorse_array.proofs.WalkLaws.{along, root-text, root-reached, reached-inside, child-text, child-reached, child-not-root}

-- ---- lists whose entries differ

-- an entry is none of those before it
once-before : (l : List ℕ) (k : ℕ) → Pairs ◌≢◌ l → k < length l → ¬ IsAmong (take k l) (get_or l k 0)
once-before [] k p h a = absurd (omega arith)
once-before (x ∷ l) zero p h a = a
once-before (x ∷ l) (suc k) p h (inl same) = among-All (λ j. x ≢ j) l (get_or l k 0) p.0 (among-read l k (omega arith)) (sym same)
once-before (x ∷ l) (suc k) p h (inr a) = once-before l k p.1 (omega arith) a

among-take : (l : List ℕ) (k i : ℕ) → IsAmong (take k l) i → IsAmong l i
among-take l k i a = subst (λ xs. IsAmong xs i) (take-append-drop k l) (among-left (take k l) (drop k l) i a)

-- ---- the children of one element are the members of its group

pub noting-none : (from : ℕ → Option ℕ) (depth : ℕ) (reached depths : List ℕ) → ((c : ℕ) → from c ≡ None) → IsNoting from depth reached depths reached depths
noting-none from depth reached depths none = record {
  kids = [];
  all = sym (append-nil reached);
  child = λ j bad. absurd bad;
  complete = λ c j e. absurd (none-some j (sym (none c) ∙ e));
  once = tt;
  marked = marking-start [] depth depths;
}

module _ {child : ℕ → ℕ → Option ℕ} {group : ℕ → Option ℕ} {edge : ℕ → Option (ℕ × ℕ)} {n : ℕ} (tell : TellChildren child group edge n) (i g : ℕ) (real : i < n) (own : group i ≡ Some g) where
  member-child : (j : ℕ) → IsAmong (members edge g n) j → (c : ℕ) × (child i c ≡ Some j)
  member-child j a =
      let both = among-All (λ k. (k < n) × (is_in g (edge k) ≡ true)) (members edge g n) j (below-All (λ k. is_in g (edge k)) n) a in
      (unit_of (edge j), tell.to_child i g (unit_of (edge j)) j real own both.0 (in-edge g (edge j) both.1))

members-once : (edge : ℕ → Option (ℕ × ℕ)) (g n : ℕ) → Pairs ◌≢◌ (members edge g n)
members-once edge g n = Pairs-map (λ a b. b < a) ◌≢◌ (members edge g n) (λ a b less. omega (arith, less)) (below-falls (λ k. is_in g (edge k)) n)

pub noting-members : {child : ℕ → ℕ → Option ℕ} {group : ℕ → Option ℕ} {edge : ℕ → Option (ℕ × ℕ)} {n m : ℕ} → TellChildren child group edge n → ((i c j : ℕ) → child i c ≡ Some j → (j < n) × (c < m))
    → (i g : ℕ) → i < n → group i ≡ Some g → (depth : ℕ) (reached depths more deeper : List ℕ) → more ≡ reached ++ members edge g n → IsMarking (members edge g n) [] depth depths deeper
    → IsNoting (child i) depth reached depths more deeper
noting-members {child} {group} {edge} {n} {m} tell inside i g real own depth reached depths more deeper is marked = record {
  kids = members edge g n;
  all = is;
  child = member-child tell i g real own;
  complete = λ c j e. (
      let at = below-has (λ k. is_in g (edge k)) n j (inside i c j e).0 (edge-in g c (edge j) (tell.from_child i g c j real own e)).0 in
      subst (IsAmong (members edge g n)) at.2 (among-read (members edge g n) at.0 at.1));
  once = members-once edge g n;
  marked = marked;
}

-- ---- the walk

-- of the elements that were reached the first k were entered: their children were reached too
pub record IsReaching (child : ℕ → ℕ → Option ℕ) (n m : ℕ) (all : List ℕ) (k : ℕ) (depths : List ℕ) : Type 0 where
  pub reached : (i : ℕ) → IsAmong all i → IsReached child m n i
  pub root : IsAmong all 0
  pub closed : (i c j : ℕ) → IsAmong (take k all) i → child i c ≡ Some j → IsAmong all j
  pub from : (i : ℕ) → IsAmong all i → (i ≡ 0) ⊎ ((p c : ℕ) × IsAmong (take k all) p × (child p c ≡ Some i))
  pub once : Pairs ◌≢◌ all
  pub size : length depths ≡ n
  pub depth : (i : ℕ) → IsAmong all i → get_or depths i 0 ≡ length (text child n m i)
  pub others : (i : ℕ) → i < n → ¬ IsAmong all i → get_or depths i 0 ≡ 4294967295

module _ {child : ℕ → ℕ → Option ℕ} {n m : ℕ} (tree : IsTree child n m) where
  pub reaching-start : (all depths : List ℕ) → all ≡ 0 ∷ [] → depths ≡ replicate n 4294967295 → IsReaching child n m all 0 (set depths 0 0)
  reaching-start all depths a e = rw a (record {
    reached = λ i h. elim h [ inl same ↦ subst (IsReached child m n) (sym same) (root-reached tree) | inr bad ↦ absurd bad ];
    root = inl refl;
    closed = λ i c j bad f. absurd bad;
    from = λ i h. elim h [ inl same ↦ inl same | inr bad ↦ absurd bad ];
    once = (tt, tt);
    size = length-set depths 0 0 ∙ long;
    depth = λ i h. elim h [ inl same ↦ rw same (get_or-set_same depths 0 0 0 inside ∙ sym (ap length (root-text tree))) | inr bad ↦ absurd bad ];
    others = λ i less out.
        get_or-set_other depths 0 i 0 0 (λ same. out (inl same)) ∙ (ap (λ l. get_or l i 0) e ∙ get_or-replicate n i 4294967295 0 less);
  })
    where
      long : length depths ≡ n
      long = ap length e ∙ length-replicate n 4294967295

      inside : 0 < length depths
      inside = let some : 0 < n = tree.some in omega (arith, long, some)

  module _ {all depths : List ℕ} {k x : ℕ} (w : IsReaching child n m all k depths) (less : k < length all) (read : x ≡ get_or all k x) where
    is : x ≡ get_or all k 0
    is = get_or_read all k x less read 0

    here : IsAmong all x
    here = subst (IsAmong all) (sym is) (among-read all k less)

    pub entered-inside : x < n
    entered-inside = reached-inside tree x (w.reached x here)

    -- the depth of a child is a number of 32 bits below the greatest
    pub entered-shallow : get_or depths x 0 < 4294967295
    entered-shallow = let low : length (text child n m x) < 4294967295 = tree.shallow x (text child n m x) (w.reached x here) in omega (arith, w.depth x here, low)

    -- fewer were entered than there are
    pub entered-few : k < n
    entered-few = let few = Pairs-few ◌≢◌ all n w.once (λ i h. h refl) (λ i a. reached-inside tree i (w.reached i a)) in omega (arith, less, few)

    not-entered : ¬ IsAmong (take k all) x
    not-entered a = once-before all k w.once less (subst (IsAmong (take k all)) is a)

    -- a child was not reached before: its parent is the one element of the parent's text
    fresh : (i j c : ℕ) → IsAmong all i → child x c ≡ Some j → i ≢ j
    fresh i j c a kid same =
        let leads : child x c ≡ Some i = kid ∙ ap (λ q. Some q) (sym same) in
        elim (w.from i a) [
          | inl zero_is ↦ child-not-root tree x c (w.reached x here) (leads ∙ ap (λ q. Some q) zero_is)
          | inr other ↦ (
              let p = other.0 in
              let at : IsReached child m n p = w.reached p (among-take all k p other.2) in
              let longer = sym (child-text tree p other.1 i at other.3) ∙ child-text tree x c i (w.reached x here) leads in
              let texts : text child n m p ≡ text child n m x = (same_from_push (text child n m p) (text child n m x) other.1 c longer).0 in
              let one : p ≡ x = same_Some p x (sym at ∙ (ap (walk child 0) texts ∙ w.reached x here)) in
              not-entered (subst (IsAmong (take k all)) one other.2))
        ]

    -- the list of those that were reached has room for the members of the element's group
    pub entered-room : {group : ℕ → Option ℕ} {edge : ℕ → Option (ℕ × ℕ)} → TellChildren child group edge n → (g : ℕ) → group x ≡ Some g → length all + length (members edge g n) ≤ n
    entered-room {group} {edge} tell g own =
        let kid = member-child tell x g entered-inside own in
        let few = Pairs-few ◌≢◌ (all ++ members edge g n) n
        (Pairs-append ◌≢◌ all (members edge g n) w.once (members-once edge g n) (λ i j a b. fresh i j (kid j b).0 a (kid j b).1))
        (λ i h. h refl) (λ i a. elim (among-append all (members edge g n) i a) [ inl old ↦ reached-inside tree i (w.reached i old) | inr new ↦ (tree.inside x (kid i new).0 i (kid i new).1).0 ]) in
        omega (arith, few, length-append all (members edge g n))

    module _ (more deeper : List ℕ) (depth : ℕ) (deep : depth ≡ suc (get_or depths x 0)) (noting : IsNoting (child x) depth all depths more deeper) where
      first : take (k + 1) (all ++ noting.kids) ≡ take k all ++ x ∷ []
      first =
          take-append-le (k + 1) all noting.kids (omega (arith, less)) ∙ (ap (λ q. take q all) (add-one k) ∙ (take-suc all k 0 less ∙ ap (λ y. take k all ++ y ∷ []) (sym is)))

      kid-fresh : (i j : ℕ) → IsAmong all i → IsAmong noting.kids j → i ≢ j
      kid-fresh i j a b = fresh i j (noting.child j b).0 a (noting.child j b).1

      walked : IsReaching child n m (all ++ noting.kids) (k + 1) deeper
      walked = record {
        reached = λ i a. elim (among-append all noting.kids i a) [ inl old ↦ w.reached i old | inr new ↦ (let kid = noting.child i new in child-reached tree x kid.0 i (w.reached x here) kid.1) ];
        root = among-left all noting.kids 0 w.root;
        closed = λ i c j a e. elim (among-append (take k all) (x ∷ []) i (subst (λ l. IsAmong l i) first a)) [
          | inl old ↦ among-left all noting.kids j (w.closed i c j old e)
          | inr new ↦ elim new [ inl same ↦ among-right all noting.kids j (noting.complete c j (ap (λ q. child q c) (sym same) ∙ e)) | inr bad ↦ absurd bad ]
        ];
        from = λ i a. elim (among-append all noting.kids i a) [
          | inl old ↦ elim (w.from i old) [
            | inl root ↦ inl root
            | inr other ↦ inr (other.0, other.1, subst (λ l. IsAmong l other.0) (sym first) (among-left (take k all) (x ∷ []) other.0 other.2), other.3)
          ]
          | inr new ↦ (let kid = noting.child i new in inr (x, kid.0, subst (λ l. IsAmong l x) (sym first) (among-right (take k all) (x ∷ []) x (inl refl)), kid.1))
        ];
        once = Pairs-append ◌≢◌ all noting.kids w.once noting.once kid-fresh;
        size = noting.marked.size ∙ w.size;
        depth = λ i a. elim (among-append all noting.kids i a) [
          | inl old ↦ noting.marked.other i (λ new. kid-fresh i i old new refl) ∙ w.depth i old
          | inr new ↦ elim (noting.marked.written i new) [
            | inl bad ↦ absurd bad
            | inr written ↦ (let kid = noting.child i new in let long = ap length (child-text tree x kid.0 i (w.reached x here) kid.1) in
                omega (arith, written, deep, w.depth x here, long, length-append (text child n m x) (kid.0 ∷ [])))
          ]
        ];
        others = λ i low out.
            noting.marked.other i (λ new. out (among-right all noting.kids i new)) ∙ w.others i low (λ old. out (among-left all noting.kids i old));
      }

      pub reaching-next : IsReaching child n m more (k + 1) deeper
      reaching-next = subst (λ l. IsReaching child n m l (k + 1) deeper) (sym noting.all) walked

  -- all that were reached were entered
  pub reaching-end : (all depths : List ℕ) (k : ℕ) → IsReaching child n m all k depths → length all ≤ k → IsDepthTable child m n depths
  reaching-end all depths k w over = record {
    size = w.size;
    reached = λ i r.
        slice_get-get_or depths i 0 (omega (arith, reached-inside tree i r, w.size))
        ∙ ap (λ d. Some d) (w.depth i (along (IsAmong all) (λ q c j a e. w.closed q c j (rw (take_all k all over) a) e) (text child n m i) 0 i w.root r));
    others = λ i less out. slice_get-get_or depths i 0 (omega (arith, less, w.size)) ∙ ap (λ d. Some d) (w.others i less (λ a. out (w.reached i a)));
  }
