-- How the states of a trie change.
use Rattle.std.proofs.Common.{◌≡◌, ◌≢◌, ℕ, ◌+◌, ◌<◌, ◌≤◌, cond, List, [], ◌∷◌, ◌++◌, length, get_or, take, set, map, Option, Some, None, refl, sym, ap, ◌∙◌, subst, inl, inr, arith, append_assoc, get_or-set_same, get_or-set_other, unwrap_or}
use Rattle.std.specs.Prelude.{option_map}
use Rattle.std.proofs.lemmas.Option.{none-some, option_and_then_some, same_Some}
use Rattle.std.proofs.lemmas.List.{append-nil, length_push, length-set, get_or_past, map_push, map-set, set-get_or, length-map, get_or-map, take_more, take_more_set}
use Rattle.std.specs.declared.cmp.Ordering.{Ordering}
use Rattle.std.specs.declared.cmp.Ordering.TheVariants.{Equal}
use Rattle.std.specs.Cmp.{IsTotalOrder}
use Rattle.std.specs.BTreeMap.{is_at}
use Rattle.std.specs.Map.{lookup}
use Rattle.daachorse_build.specs.declared.nfa_builder.NfaBuilderState.{NfaBuilderState}
use Rattle.daachorse_model.specs.Paths.{walk}
use Rattle.daachorse_model.proofs.Paths.{walk-push, walk-append}
use Rattle.daachorse_build.specs.EdgeMaps.{IsOrdered, Updates}
use Rattle.daachorse_build.specs.Tables.{child_in, child_of, edges_of, fails_of, own_of, own_at, positions_of, own_outputs_at, output_count, HoldTrie}
use Rattle.daachorse_build.specs.Growth.{IsPrefixOf, AddsEdge, Extends, IsAdding, IsAdded, HasTrieOf}
use Rattle.std.proofs.lemmas.List.Sums.{sum_by-set, sum_by-append}
use Rattle.daachorse_build.proofs.Walks.{walk-same, walk-bounds}
use Rattle.daachorse_build.specs.Few.{items_of}
use Rattle.daachorse_build.proofs.EdgeTurns.{edges_read}
use Rattle.daachorse_build.proofs.Growing.{nil_more, adds_edge, table_grows, walk_stays, walk_came, is_here}

-- a text leads to a state, and not to the dead one
pub leads_low : {L V A : Type 0} (cmp : L → L → Ordering) (states : List (NfaBuilderState L V A)) → HoldTrie cmp states → (w : List L) (t : ℕ) → walk (child_of cmp states) 0 w ≡ Some t → (t < length states) × (t ≢ 1)
leads_low cmp states table w t at =
    let b = walk-bounds (child_of cmp states) (length (edges_of states)) table.trie w t at in
    (omega (arith, b.0, length-map states (λ s. s.edges)), b.1)

-- one element changed, and one more
map_edit : {X Y : Type 0} (f : X → Y) (xs : List X) (i : ℕ) (y z : X) → map f (set xs i y ++ z ∷ []) ≡ set (map f xs) i (f y) ++ f z ∷ []
map_edit f xs i y z = map_push f (set xs i y) z ∙ ap (λ ys. ys ++ f z ∷ []) (map-set f xs i y)

-- a change of an element that f doesn't see
pub map_kept : {X Y : Type 0} (f : X → Y) (xs : List X) (i : ℕ) (x y : X) → i < length xs → x ≡ get_or xs i x → f y ≡ f x → set (map f xs) i (f y) ≡ map f xs
map_kept f xs i x y l is same =
    ap (set (map f xs) i) (same ∙ ap f is ∙ sym (get_or-map f xs i x (f x) l)) ∙ set-get_or (map f xs) i (f x)

-- the same, after the change
pub map_stays : {X Y : Type 0} (f : X → Y) (xs : List X) (i : ℕ) (x y : X) → i < length xs → x ≡ get_or xs i x → f y ≡ f x → map f (set xs i y) ≡ map f xs
map_stays f xs i x y l is same = map-set f xs i y ∙ map_kept f xs i x y l is same

-- one output more for a state
pub output_pushed : {L V A : Type 0} (states : List (NfaBuilderState L V A)) (id : ℕ) (x y : NfaBuilderState L V A) (out : V × ℕ) → id < length states → x ≡ get_or states id x → items_of y.output ≡ items_of x.output ++ out ∷ [] → own_of (set states id y) ≡ set (own_of states) id (own_at (own_of states) id ++ out ∷ [])
output_pushed states id x y out l is pushed =
    let here : own_at (own_of states) id ≡ items_of x.output = get_or-map (λ s. items_of s.output) states id x [] l ∙ ap (λ s. items_of s.output) (sym is) in
    map-set (λ s. items_of s.output) states id y ∙ ap (set (own_of states) id) (pushed ∙ ap (λ os. os ++ out ∷ []) (sym here))

prefix_more : {L : Type 0} (w p : List L) (c : L) → IsPrefixOf w p → IsPrefixOf w (p ++ c ∷ [])
prefix_more w p c h = (h.0 ++ c ∷ [], sym (append_assoc w h.0 (c ∷ [])) ∙ ap (λ x. x ++ c ∷ []) h.1)

module _ {L V A : Type 0} (cmp : L → L → Ordering) (total : IsTotalOrder cmp) (exact : (x y : L) → cmp x y ≡ Equal → x ≡ y) where
  -- a new child of the state at id
  pub extends_new : (old new : List (NfaBuilderState L V A)) (id : ℕ) (label : L) (parent : NfaBuilderState L V A) (m : List (L × ℕ)) (state : NfaBuilderState L V A) → HoldTrie cmp old → id < length old → id ≢ 1 → child_of cmp old id label ≡ None → parent ≡ get_or old id parent → IsOrdered cmp m → Updates cmp parent.edges m label (length old) → state.edges ≡ [] → items_of state.output ≡ [] → new ≡ set old id (record parent { edges = m }) ++ state ∷ [] → Extends cmp old new id label (length old)
  extends_new old new id label parent m state table l ne none is ordered updates no_edges no_output e =
      let edges = edges_of old in
      let count : length edges ≡ length old = length-map old (λ s. s.edges) in
      let at : get_or edges id [] ≡ parent.edges = edges_read old id parent l is in
      let low : id < length edges = omega (arith, count, l) in
      let found : (q : L) → lookup (is_at (cmp q)) m ≡ cond (is_at (cmp label) q) (Some (length edges)) (lookup (is_at (cmp q)) (get_or edges id [])) =
      λ q. updates q ∙ ap (λ es. cond (is_at (cmp label) q) (Some (length old)) (lookup (is_at (cmp q)) es)) (sym at) ∙ ap (λ n. cond (is_at (cmp label) q) (Some n) (lookup (is_at (cmp q)) (get_or edges id []))) (sym count) in
      let made : edges_of new ≡ set edges id m ++ [] ∷ [] =
      ap edges_of e ∙ map_edit (λ s. s.edges) old id (record parent { edges = m }) state ∙ ap (λ es. set edges id m ++ es ∷ []) no_edges in
      let outputs : own_of new ≡ own_of old ++ [] ∷ [] =
      ap own_of e ∙ map_edit (λ s. items_of s.output) old id (record parent { edges = m }) state ∙ ap (λ os. set (own_of old) id (items_of parent.output) ++ os ∷ []) no_output ∙ ap (λ os. os ++ [] ∷ []) (map_kept (λ s. items_of s.output) old id parent (record parent { edges = m }) l is refl) in
      let adds = adds_edge cmp total exact edges table id label m low ne none ordered found in
      let grown = table_grows cmp total exact edges table id label m low ne none ordered found in
      let hit = is_here cmp total exact edges table id label m low ne none ordered found in
      record {
        trie = rw made grown;
        leads = ap (λ es. child_in cmp es id label) made ∙ hit ∙ ap Some count;
        outputs = λ v. ap (λ os. get_or os v []) outputs ∙ nil_more (own_of old) v;
        count = ap output_count outputs ∙ (omega (arith, sum_by-append length (own_of old) ([] ∷ [])));
        longer = omega (arith, ap length e, length_push (set old id (record parent { edges = m })) state, length-set old id (record parent { edges = m }));
        grows =
            let P : (ℕ → L → Option ℕ) → Type 0 = λ f. AddsEdge (child_of cmp old) f id label (length edges) in
            let Q : ℕ → Type 0 = λ n. AddsEdge (child_of cmp old) (child_of cmp new) id label n in
            inr (subst Q count (subst P (ap (λ es. child_in cmp es) (sym made)) adds), refl);
      }

  -- ---- a pattern, label by label
  pub adding_start : (states : List (NfaBuilderState L V A)) → HoldTrie cmp states → IsAdding cmp states states [] 0
  adding_start states table = record {
    trie = table;
    here = refl;
    outputs = λ v. refl;
    count = refl;
    longer = omega arith;
    grows = record { keeps = λ w v h. h; news = λ w v h. inl h };
  }

  pub adding_more : (old mid new : List (NfaBuilderState L V A)) (p : List L) (id : ℕ) (c : L) (t : ℕ) → IsAdding cmp old mid p id → Extends cmp mid new id c t → IsAdding cmp old new (p ++ c ∷ []) t
  adding_more old mid new p id c t adding extends =
      let W : List L → ℕ → List (List (L × ℕ)) → Type 0 = λ w v es. walk (child_in cmp es) 0 w ≡ Some v in
      let stays : (w : List L) (v : ℕ) → walk (child_of cmp mid) 0 w ≡ Some v → walk (child_of cmp new) 0 w ≡ Some v = λ w v h. elim extends.grows [
        | inl same ↦ subst (W w v) (sym same) h
        | inr adds ↦ walk_stays (child_of cmp mid) (child_of cmp new) id c t adds.0 0 w v h
      ] in
      record {
        trie = extends.trie;
        here = walk-push (child_of cmp new) 0 p c id (stays p id adding.here) ∙ extends.leads;
        outputs = λ v. extends.outputs v ∙ adding.outputs v;
        count = extends.count ∙ adding.count;
        longer = omega (arith, adding.longer, extends.longer);
        grows = record {
          keeps = λ w v h. stays w v (adding.grows.keeps w v h);
          news = λ w v h. elim extends.grows [
            | inl same ↦ elim (adding.grows.news w v (subst (W w v) same h)) [ inl a ↦ inl a | inr b ↦ inr (b.0, prefix_more w p c b.1) ]
            | inr adds ↦ elim (walk_came (child_of cmp mid) (child_of cmp new) id c t adds.0 0 w v h) [
              | inl came ↦ elim (adding.grows.news w v came) [ inl a ↦ inl a | inr b ↦ inr (b.0, prefix_more w p c b.1) ]
              | inr came ↦
                  let front : came.0 ≡ p = walk-same (child_of cmp mid) (length (edges_of mid)) adding.trie.trie came.0 p id came.2 adding.here in
                  inr (omega (arith, came.3, adds.1, adding.longer), ([], append-nil w ∙ came.1 ∙ ap (λ x. x ++ c ∷ []) front))
            ]
          ];
        };
      }

  -- ---- the output at the end
  -- what a text has where its state is known
  pub outputs_found : (states : List (NfaBuilderState L V A)) (w : List L) (v : ℕ) → walk (child_of cmp states) 0 w ≡ Some v → own_outputs_at cmp states w ≡ own_at (own_of states) v
  outputs_found states w v h = ap (λ o. unwrap_or (option_map (own_at (own_of states)) o) []) h

  pub outputs_missing : (states : List (NfaBuilderState L V A)) (w : List L) → walk (child_of cmp states) 0 w ≡ None → own_outputs_at cmp states w ≡ []
  outputs_missing states w h = ap (λ o. unwrap_or (option_map (own_at (own_of states)) o) []) h

  -- the outputs of each text are the same before the last step
  pub outputs_kept : (old mid : List (NfaBuilderState L V A)) (p : List L) (id : ℕ) → HoldTrie cmp old → IsAdding cmp old mid p id → (w : List L) → own_outputs_at cmp mid w ≡ own_outputs_at cmp old w
  outputs_kept old mid p id table adding w = at (walk (child_of cmp mid) 0 w) (walk (child_of cmp old) 0 w) refl refl
    where
      at : (m o : Option ℕ) → walk (child_of cmp mid) 0 w ≡ m → walk (child_of cmp old) 0 w ≡ o → own_outputs_at cmp mid w ≡ own_outputs_at cmp old w
      at None None e f = outputs_missing mid w e ∙ sym (outputs_missing old w f)
      at None (Some v) e f = absurd (none-some v (sym e ∙ adding.grows.keeps w v f))
      at (Some v) (Some u) e f =
          let same : v ≡ u = same_Some v u (sym e ∙ adding.grows.keeps w u f) in
          outputs_found mid w v e ∙ adding.outputs v ∙ ap (own_at (own_of old)) same ∙ sym (outputs_found old w u f)
      at (Some v) None e f =
          elim (adding.grows.news w v e) [
            | inl was ↦ absurd (none-some v (sym f ∙ was))
            | inr fresh ↦
                let past : length (own_of old) ≤ v = omega (arith, fresh.0, length-map old (λ s. items_of s.output)) in
                outputs_found mid w v e ∙ adding.outputs v ∙ get_or_past (own_of old) v [] past ∙ sym (outputs_missing old w f)
          ]

  -- the output goes to the state at the end
  pub added : (old mid new : List (NfaBuilderState L V A)) (p : List L) (id : ℕ) (out : V × ℕ) → HoldTrie cmp old → IsAdding cmp old mid p id → edges_of new ≡ edges_of mid → own_of new ≡ set (own_of mid) id (own_at (own_of mid) id ++ out ∷ []) → IsAdded cmp old new p out
  added old mid new p id out table adding edges outputs =
      let kept = outputs_kept old mid p id table adding in
      let W : List L → ℕ → List (List (L × ℕ)) → Type 0 = λ w v es. walk (child_in cmp es) 0 w ≡ Some v in
      let bound = walk-bounds (child_of cmp mid) (length (edges_of mid)) adding.trie.trie p id adding.here in
      let count : length (edges_of mid) ≡ length (own_of mid) = length-map mid (λ s. s.edges) ∙ sym (length-map mid (λ s. items_of s.output)) in
      let low : id < length (own_of mid) = omega (arith, bound.0, count) in
      let same : (w : List L) → own_outputs_at cmp new w ≡ unwrap_or (option_map (own_at (set (own_of mid) id (own_at (own_of mid) id ++ out ∷ []))) (walk (child_of cmp mid) 0 w)) [] =
      λ w. ap (λ es. unwrap_or (option_map (own_at (own_of new)) (walk (child_in cmp es) 0 w)) []) edges ∙ ap (λ os. unwrap_or (option_map (own_at os) (walk (child_of cmp mid) 0 w)) []) outputs in
      record {
        trie = rw edges adding.trie;
        keeps = λ w v h. subst (W w v) (sym edges) (adding.grows.keeps w v h);
        begins = λ w h. begins w h;
        only = λ w v h. elim (adding.grows.news w v (subst (W w v) edges h)) [ inl a ↦ inl a | inr b ↦ inr b.1 ];
        here =
            same p
            ∙ ap (λ o. unwrap_or (option_map (own_at (set (own_of mid) id (own_at (own_of mid) id ++ out ∷ []))) o) []) adding.here
            ∙ get_or-set_same (own_of mid) id (own_at (own_of mid) id ++ out ∷ []) [] low
            ∙ ap (λ os. os ++ out ∷ []) (sym (outputs_found mid p id adding.here) ∙ kept p);
        others = λ w apart. same w ∙ other w apart (walk (child_of cmp mid) 0 w) refl ∙ kept w;
        dead = ap (λ os. own_at os 1) outputs ∙ (get_or-set_other (own_of mid) id 1 (own_at (own_of mid) id ++ out ∷ []) [] (λ one. bound.1 (sym one)) ∙ adding.outputs 1);
        count =
            let set' = sum_by-set length (own_of mid) id (own_at (own_of mid) id ++ out ∷ []) [] low in
            omega (arith, set', ap output_count outputs, adding.count, length_push (own_at (own_of mid) id) out);
      }
    where
      other : (w : List L) → w ≢ p → (m : Option ℕ) → walk (child_of cmp mid) 0 w ≡ m → unwrap_or (option_map (own_at (set (own_of mid) id (own_at (own_of mid) id ++ out ∷ []))) (walk (child_of cmp mid) 0 w)) [] ≡ own_outputs_at cmp mid w
      other w apart None e =
          ap (λ o. unwrap_or (option_map (own_at (set (own_of mid) id (own_at (own_of mid) id ++ out ∷ []))) o) []) e ∙ sym (outputs_missing mid w e)
      other w apart (Some v) e =
          let ne : v ≢ id = λ k. apart (walk-same (child_of cmp mid) (length (edges_of mid)) adding.trie.trie w p id (e ∙ ap Some k) adding.here) in
          ap (λ o. unwrap_or (option_map (own_at (set (own_of mid) id (own_at (own_of mid) id ++ out ∷ []))) o) []) e
          ∙ get_or-set_other (own_of mid) id v (own_at (own_of mid) id ++ out ∷ []) [] ne
          ∙ sym (outputs_found mid w v e)

      begins : (w : List L) → IsPrefixOf w p → (v : ℕ) × (walk (child_of cmp new) 0 w ≡ Some v)
      begins w h =
          let W : ℕ → List (List (L × ℕ)) → Type 0 = λ v es. walk (child_in cmp es) 0 w ≡ Some v in
          option_and_then_some (λ t. walk (child_of cmp mid) t h.0) (walk (child_of cmp mid) 0 w) id
          (sym (walk-append (child_of cmp mid) 0 w h.0) ∙ ap (walk (child_of cmp mid) 0) h.1 ∙ adding.here) (λ v at _. (v, subst (W v) (sym edges) at))

-- one link more is set
pub link_set : {L V A : Type 0} (old states : List (NfaBuilderState L V A)) (fails : List ℕ) (i : ℕ) (x y : NfaBuilderState L V A) → i < length states → i < length fails → x ≡ get_or states i x → y ≡ record x { fail = get_or fails i 0 } → HasTrieOf old states → take i (fails_of states) ≡ take i fails → HasTrieOf old (set states i y) × (take (i + 1) (fails_of (set states i y)) ≡ take (i + 1) fails)
link_set old states fails i x y l low is e kept links =
    let count : i < length (fails_of states) = omega (arith, l, length-map states (λ s. s.fail)) in (
      record {
        edges = map_stays (λ s. s.edges) states i x y l is (ap (λ s. s.edges) e) ∙ kept.edges;
        outputs = map_stays (λ s. items_of s.output) states i x y l is (ap (λ s. items_of s.output) e) ∙ kept.outputs;
      },
      ap (take (i + 1)) (map-set (λ s. s.fail) states i y ∙ ap (λ s. set (fails_of states) i s.fail) e)
          ∙ take_more_set (fails_of states) i (get_or fails i 0) count ∙ ap (λ fs. fs ++ get_or fails i 0 ∷ []) links ∙ sym (take_more fails i 0 low),
    )

-- one list more begins
pub position_set : {L V A : Type 0} (states : List (NfaBuilderState L V A)) (i : ℕ) (x y : NfaBuilderState L V A) (p : ℕ) → i < length states → x ≡ get_or states i x → y ≡ record x { output_pos = p } → HasTrieOf states (set states i y) × (fails_of (set states i y) ≡ fails_of states) × (positions_of (set states i y) ≡ set (positions_of states) i p)
position_set states i x y p l is e = (
  record {
    edges = map_stays (λ s. s.edges) states i x y l is (ap (λ s. s.edges) e);
    outputs = map_stays (λ s. items_of s.output) states i x y l is (ap (λ s. items_of s.output) e);
  },
  map_stays (λ s. s.fail) states i x y l is (ap (λ s. s.fail) e),
  map-set (λ s. s.output_pos) states i y ∙ ap (λ s. set (positions_of states) i s.output_pos) e,
)
