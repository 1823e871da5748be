-- The matches of standard and of no-suffix searches are occurrences, and those of standard ones do not overlap.
use Rattle.std.proofs.Common.{◌≡◌, ℕ, ◌+◌, ◌≤◌, List, [], ◌∷◌, ◌++◌, map, take, refl, ap, sym, ◌∙◌, arith}
use Rattle.std.specs.Prelude.{All, Contains}
use Rattle.std.proofs.lemmas.List.{append_assoc}
use Rattle.std.proofs.lemmas.List.Elements.{All-append, All-cons, All-nil, All-head, All-take, All-map, All-weaker, All-contains_itself}
use Rattle.daachorse_model.specs.declared.Match.{Match}
use Rattle.daachorse_model.specs.Units.{size}
use Rattle.daachorse_model.specs.Dictionary.{Dictionary}
use Rattle.daachorse_model.specs.Matches.{matches_of, at_each_end, ending_at, matches_after, no_suffix, empty_matches, standard_from, standard}
use Rattle.daachorse_model.specs.Laws.{IsOccurrence, Follows}
use Rattle.daachorse_model.proofs.Suffixes.{size-append}
use Rattle.daachorse_model.proofs.Occur.{matches_occur, ending_occur}
use Rattle.daachorse_model.specs.Leftmost.{leftmost}
use Rattle.daachorse_model.proofs.Longest.{IsFoundAtStart, leftmost_found}
use Rattle.daachorse_model.proofs.Overlap.{Follows-earlier, longest_key-begins}
use Rattle.daachorse_model.proofs.Searches.{first_or}

All-at_each_end : {A : Type 0} (P : A → Type 0) (f : List ℕ → List A) (h t w : List ℕ) → ((x y : List ℕ) → h ≡ x ++ y → All P (f x)) → h ≡ t ++ w → All P (at_each_end f t w)
All-at_each_end P f h t [] each cut = each t [] cut
All-at_each_end P f h t (u ∷ w) each cut =
    All-append P (f t) (at_each_end f (t ++ u ∷ []) w) (each t (u ∷ w) cut) (All-at_each_end P f h (t ++ u ∷ []) w each (cut ∙ sym (append_assoc t (u ∷ []) w)))

All-first_or : {V : Type 0} (P : Match V → Type 0) (here none found : List (Match V)) → All P here → All P none → All P found → All P (first_or here none found)
All-first_or P [] none found a b c = b
All-first_or P (m ∷ ms) none found a b c = All-cons P m found (All-head P m ms a) c

-- m starts at s or later and ends at e
pub record Within {V : Type 0} (s e : ℕ) (m : Match V) : Type 0 where
  pub starts : s ≤ m.start
  pub ordered : m.start ≤ m.end
  pub ends : m.end ≡ e

Follows-first_or : {V : Type 0} (s e : ℕ) (here none found : List (Match V)) → All (Within s e) here → Follows s none → Follows e found → Follows s (first_or here none found)
Follows-first_or s e [] none found a b c = b
Follows-first_or s e (m ∷ ms) none found a b c =
    let w = All-head (Within s e) m ms a in (w.starts, w.ordered, Follows-earlier m.end e found (omega arith) c)

module _ {V : Type 0} (width : ℕ → ℕ) (K : Dictionary V) where
  matches_within : (s b e : ℕ) (w : List ℕ) → s ≤ b → b ≤ e → All (Within s e) (matches_of K b e w)
  matches_within s b e w low high =
      All-map (Within s e) (λ v. record { start = b; end = e; value = v }) (K w)
      (All-weaker (Contains (K w)) (λ v. Within s e (record { start = b; end = e; value = v })) (λ v has. record { starts = low; ordered = high; ends = refl }) (K w) (All-contains_itself (K w)))

  ending_within : (s b e : ℕ) (w : List ℕ) → s ≤ b → e ≡ b + size width w → All (Within s e) (ending_at width K b e w)
  ending_within s b e [] low sum = matches_within s b e [] low (omega arith)
  ending_within s b e (u ∷ w) low sum =
      All-append (Within s e) (matches_of K b e (u ∷ w)) (ending_at width K (b + width u) e w) (matches_within s b e (u ∷ w) low (omega arith)) (ending_within s (b + width u) e w (omega arith) (omega arith))

  standard_from-follows : (r : ℕ) (t w : List ℕ) → Follows r (standard_from width K r t w)
  standard_from-follows r t [] = tt
  standard_from-follows r t (u ∷ w) =
      let x = t ++ u ∷ [] in
      let e = r + size width x in
      Follows-first_or r e (ending_at width K r e x) (standard_from width K r x w) (standard_from width K e [] w)
      (ending_within r r e x (omega arith) refl) (standard_from-follows r x w) (standard_from-follows e [] w)

  one_empty : (s : ℕ) (vs : List V) (ms : List (Match V)) → Follows s ms → Follows s (take 1 (map (λ v. record { start = s; end = s; value = v }) vs) ++ ms)
  one_empty s [] ms f = f
  one_empty s (v ∷ vs) ms f = (omega arith, omega arith, f)

  empty-follows : (t w : List ℕ) → Follows (size width t) (at_each_end (λ x. take 1 (matches_of K (size width x) (size width x) [])) t w)
  empty-follows t [] = last (K [])
    where
      last : (vs : List V) → Follows (size width t) (take 1 (map (λ v. record { start = size width t; end = size width t; value = v }) vs))
      last [] = tt
      last (v ∷ vs) = (omega arith, omega arith, tt)
  empty-follows t (u ∷ w) =
      one_empty (size width t) (K []) _ (Follows-earlier (size width t) (size width (t ++ u ∷ [])) _ (omega (arith, size-append width t (u ∷ []))) (empty-follows (t ++ u ∷ []) w))

  pub standard_apart : (h : List ℕ) → Follows 0 (standard width K h)
  standard_apart h = either_way (K [])
    where
      either_way : (vs : List V) → Follows 0 (elim vs [ [] ↦ standard_from width K 0 [] h | _ ∷ _ ↦ empty_matches width K h ])
      either_way [] = standard_from-follows 0 [] h
      either_way (v ∷ vs) = empty-follows [] h

module _ {V : Type 0} (width : ℕ → ℕ) (K : Dictionary V) (h : List ℕ) where
  standard_from-occur : (before t w : List ℕ) (r : ℕ) → h ≡ before ++ (t ++ w) → r ≡ size width before → All (IsOccurrence width K h) (standard_from width K r t w)
  standard_from-occur before t [] r cut from = All-nil (IsOccurrence width K h)
  standard_from-occur before t (u ∷ w) r cut from =
      let x = t ++ u ∷ [] in
      let e = r + size width x in
      let cut' : h ≡ before ++ (x ++ w) = cut ∙ ap (λ y. before ++ y) (sym (append_assoc t (u ∷ []) w)) in
      All-first_or (IsOccurrence width K h) (ending_at width K r e x) (standard_from width K r x w) (standard_from width K e [] w)
      (ending_occur width K h before x w r e cut' from (ap (λ n. n + size width x) from))
      (standard_from-occur before x w r cut' from)
      (standard_from-occur (before ++ x) [] w e (cut' ∙ sym (append_assoc before x w)) (ap (λ n. n + size width x) from ∙ sym (size-append width before x)))

  empty_occur : (x y : List ℕ) → h ≡ x ++ y → All (IsOccurrence width K h) (take 1 (matches_of K (size width x) (size width x) []))
  empty_occur x y cut = All-take (IsOccurrence width K h) 1 (matches_of K (size width x) (size width x) []) (matches_occur width K h x [] y (size width x) (size width x) cut refl (omega arith))

  pub standard_occur : All (IsOccurrence width K h) (standard width K h)
  standard_occur = either_way (K [])
    where
      either_way : (vs : List V) → All (IsOccurrence width K h) (elim vs [ [] ↦ standard_from width K 0 [] h | _ ∷ _ ↦ empty_matches width K h ])
      either_way [] = standard_from-occur [] [] h 0 refl refl
      either_way (v ∷ vs) = All-at_each_end (IsOccurrence width K h) (λ x. take 1 (matches_of K (size width x) (size width x) [])) h [] h empty_occur refl

  pub no_suffix_occur : All (IsOccurrence width K h) (no_suffix width K h)
  no_suffix_occur =
      All-at_each_end (IsOccurrence width K h) (λ t. take 1 (matches_after width K t)) h [] h
      (λ x y cut. All-take (IsOccurrence width K h) 1 (matches_after width K x) (ending_occur width K h [] x y 0 (size width x) cut refl (omega arith))) refl

-- a leftmost match is an occurrence too
pub leftmost_occur : {V : Type 0} (width : ℕ → ℕ) (K : Dictionary V) (h : List ℕ) → All (IsOccurrence width K h) (leftmost width K h)
leftmost_occur width K h =
    All-weaker (IsFoundAtStart width K h) (IsOccurrence width K h) occurs (leftmost width K h) (leftmost_found width K h)
  where
    occurs : (m : Match _) → IsFoundAtStart width K h m → IsOccurrence width K h m
    occurs m l =
        let b = longest_key-begins K [] l.rest (l.key, m.value) l.longest in
        record {
          before = l.before;
          key = l.key;
          after = b.rest;
          splits = l.splits ∙ ap (λ r. l.before ++ r) (b.splits ∙ ap (λ r. r ++ b.rest) (sym b.key));
          starts = l.starts;
          ends = l.ends ∙ ap (λ n. n + size width l.key) l.starts;
          has = (0, rw b.first (omega arith), rw b.first);
        }
