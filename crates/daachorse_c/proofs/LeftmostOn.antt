-- Where a leftmost search goes on after a match, and what it finds that begins there.
use Rattle.std.proofs.Common.{◌≡◌, ℕ, ◌+◌, ◌<◌, ◌≤◌, Bool, true, false, List, [], ◌∷◌, ◌++◌, length, Option, Some, None, refl, sym, ap, ◌∙◌, add_assoc, length-append, arith}
use Rattle.std.specs.Prelude.{option_map, slice_get}
use Rattle.daachorse_model.specs.declared.Match.{Match}
use Rattle.daachorse_model.specs.Units.{size}
use Rattle.daachorse_model.specs.Dictionary.{Dictionary}
use Rattle.daachorse_model.specs.Leftmost.{key_with_value, longest_key, match_at, units_to_skip, is_after, leftmost_from}
use Rattle.daachorse_model.proofs.Lists.{none_either}
use Rattle.daachorse_model.proofs.Overlap.{Begins, longest_key-begins}
use Rattle.daachorse_model.proofs.Searches.{key_with_value-none, leftmost_from-skip}
use Rattle.daachorse_c.proofs.Heads.{heads, no_match, tails}

no_key : {V : Type 0} (t : List ℕ) (vs : List V) → option_map {U = List ℕ × V} (λ v. (t, v)) (slice_get vs 0) ≡ None → vs ≡ []
no_key t [] e = refl
no_key t (v ∷ vs) e = cc

-- from s on m is found first, and then these: what it ends, and what follows there
pub record Behind {V : Type 0} (width : ℕ → ℕ) (K : Dictionary V) (s : ℕ) (w : List ℕ) (m : Match V) (ms : List (Match V)) : Type 0 where
  pub passed : List ℕ
  pub rest : List ℕ
  pub splits : w ≡ passed ++ rest
  pub starts : s ≤ m.start
  pub order : m.start ≤ m.end
  pub end : m.end ≡ s + size width passed
  pub nonempty : m.start < m.end → ms ≡ leftmost_from width K m.end 0 true rest
  pub empty : m.end ≤ m.start → (u : ℕ) (more : List ℕ) → rest ≡ u ∷ more → ms ≡ leftmost_from width K (m.end + width u) 0 false more
  pub last : m.end ≤ m.start → rest ≡ [] → ms ≡ []

-- What a search that begins at s finds is what one finds there right after a nonempty match, but for an empty match at s.
pub record IsAfter {V : Type 0} (s : ℕ) (fresh after : List (Match V)) : Type 0 where
  pub none : fresh ≡ [] → after ≡ []
  pub empty : (m : Match V) (ms : List (Match V)) → fresh ≡ m ∷ ms → m.end ≡ s → after ≡ ms
  pub later : (m : Match V) (ms : List (Match V)) → fresh ≡ m ∷ ms → s < m.end → after ≡ m ∷ ms

module _ {V : Type 0} (width : ℕ → ℕ) (wide : (u : ℕ) → 0 < width u) (K : Dictionary V) where
  -- what is found at s, and then after it
  abbrev here : ℕ → ℕ → Bool → List ℕ → Option (List ℕ × V) → List (Match V)
  here s u after w best = match_at width s after best ++ leftmost_from width K (s + width u) (units_to_skip best) (is_after after best) w

  -- ---- after a match

  -- an empty match at s, and then these
  behind_empty : (s : ℕ) (w : List ℕ) (v : V) (rest : List (Match V)) (m : Match V) (ms : List (Match V)) → record { start = s; end = s; value = v } ∷ rest ≡ m ∷ ms
      → ((u : ℕ) (more : List ℕ) → w ≡ u ∷ more → rest ≡ leftmost_from width K (s + width u) 0 false more) → (w ≡ [] → rest ≡ []) → Behind width K s w m ms
  behind_empty s w v rest m ms e more none =
      let first : Match V = record { start = s; end = s; value = v } in
      let same = heads first m rest ms e in
      let start = ap (λ (x : Match V). x.start) same in
      let end = ap (λ (x : Match V). x.end) same in
      let others = sym (tails first m rest ms e) in
      record {
        passed = [];
        rest = w;
        splits = refl;
        starts = omega (arith, start);
        order = omega (arith, start, end);
        end = omega (arith, end);
        nonempty = λ lt. absurd (omega (arith, start, end, lt));
        empty = λ le u rest is. others ∙ more u rest is ∙ ap (λ n. leftmost_from width K (n + width u) 0 false rest) end;
        last = λ le is. others ∙ none is;
      }

  behind_last : (s : ℕ) (after : Bool) (o : Option (List ℕ × V)) (m : Match V) (ms : List (Match V)) → ((k : List ℕ × V) → o ≡ Some k → Begins K [] [] k)
      → match_at width s after o ≡ m ∷ ms → Behind width K s [] m ms
  behind_last s after None m ms begins e = absurd (no_match m ms e)
  behind_last s true (Some ([], v)) m ms begins e = absurd (no_match m ms e)
  behind_last s false (Some ([], v)) m ms begins e = behind_empty s [] v [] m ms e (λ u more is. absurd (omega (arith, ap length is))) (λ is. refl)
  behind_last s after (Some (c ∷ p, v)) m ms begins e =
      let b = begins (c ∷ p, v) refl in
      absurd (omega (arith, ap length b.key, ap length b.splits, length-append b.more b.rest))

  behind-more : (s u : ℕ) (w : List ℕ) (m : Match V) (ms : List (Match V)) → Behind width K (s + width u) w m ms → Behind width K s (u ∷ w) m ms
  behind-more s u w m ms b = record {
    passed = u ∷ b.passed;
    rest = b.rest;
    splits = ap (λ l. u ∷ l) b.splits;
    starts = omega (arith, b.starts);
    order = b.order;
    end = omega (arith, b.end);
    nonempty = b.nonempty;
    empty = b.empty;
    last = b.last;
  }

  -- a nonempty key takes some bytes
  wide_key : (c : ℕ) (p : List ℕ) → 0 < size width (c ∷ p)
  wide_key c p = omega (arith, wide c)

  behind_by : (s u : ℕ) (after : Bool) (w : List ℕ) (o : Option (List ℕ × V)) (m : Match V) (ms : List (Match V)) → ((k : List ℕ × V) → o ≡ Some k → Begins K [] (u ∷ w) k)
      → ((a : Bool) → leftmost_from width K (s + width u) 0 a w ≡ m ∷ ms → Behind width K (s + width u) w m ms) → here s u after w o ≡ m ∷ ms → Behind width K s (u ∷ w) m ms
  behind_by s u after w None m ms begins on e = behind-more s u w m ms (on after e)
  behind_by s u true w (Some ([], v)) m ms begins on e = behind-more s u w m ms (on false e)
  behind_by s u false w (Some ([], v)) m ms begins on e =
      behind_empty s (u ∷ w) v (leftmost_from width K (s + width u) 0 false w) m ms e
      (λ x more is. let head : u ≡ x = cc in let tail : w ≡ more = cc in ap (λ n. leftmost_from width K (s + width n) 0 false w) head ∙ ap (leftmost_from width K (s + width x) 0 false) tail)
      (λ is. absurd (omega (arith, ap length is)))
  behind_by s u after w (Some (c ∷ p, v)) m ms begins on e =
      let b = begins (c ∷ p, v) refl in
      let whole : u ∷ w ≡ c ∷ (p ++ b.rest) = b.splits ∙ ap (λ r. r ++ b.rest) (sym b.key) in
      let others : w ≡ p ++ b.rest = cc in
      let head : u ≡ c = cc in
      let first : Match V = record { start = s; end = s + size width (c ∷ p); value = v } in
      let rest = leftmost_from width K (s + width u) (length p) true w in
      let same = heads first m rest ms e in
      let start = ap (λ (x : Match V). x.start) same in
      let end = ap (λ (x : Match V). x.end) same in
      let long = wide_key c p in
      let far : (s + width u) + size width p ≡ s + size width (c ∷ p) = ap (λ n. (s + width n) + size width p) head ∙ add_assoc s (width c) (size width p) in
      let skips : rest ≡ leftmost_from width K (s + size width (c ∷ p)) 0 true b.rest =
      ap (λ x. leftmost_from width K (s + width u) (length p) true x) others
      ∙ leftmost_from-skip width K (s + width u) (length p) 0 true p b.rest (omega arith)
      ∙ ap (λ n. leftmost_from width K n 0 true b.rest) far in
      record {
        passed = c ∷ p;
        rest = b.rest;
        splits = whole;
        starts = omega (arith, start);
        order = omega (arith, start, end);
        end = sym end;
        nonempty = λ lt. sym (tails first m rest ms e) ∙ skips ∙ ap (λ n. leftmost_from width K n 0 true b.rest) end;
        empty = λ le. absurd (omega (arith, start, end, long, le));
        last = λ le is. absurd (omega (arith, start, end, long, le));
      }

  pub behind : (s : ℕ) (after : Bool) (w : List ℕ) (m : Match V) (ms : List (Match V)) → leftmost_from width K s 0 after w ≡ m ∷ ms → Behind width K s w m ms
  behind s after [] m ms e = behind_last s after (longest_key K [] []) m ms (longest_key-begins K [] []) e
  behind s after (u ∷ w) m ms e = behind_by s u after w (longest_key K [] (u ∷ w)) m ms (longest_key-begins K [] (u ∷ w)) (λ a. behind (s + width u) a w m ms) e

  -- ---- right after a nonempty match

  no_empty : (o : Option (List ℕ × V)) (u : ℕ) (w : List ℕ) (v : V) → K [] ≡ [] → ((k : List ℕ × V) → o ≡ Some k → Begins K [] (u ∷ w) k) → o ≡ Some ([], v) → ⊥
  no_empty o u w v none begins is = let b = begins ([], v) is in let no : [] ≡ v ∷ b.others = sym none ∙ b.first in omega (arith, ap length no)

  without_empty_by : (s u : ℕ) (w : List ℕ) (o : Option (List ℕ × V)) → K [] ≡ [] → ((k : List ℕ × V) → o ≡ Some k → Begins K [] (u ∷ w) k)
      → leftmost_from width K (s + width u) 0 true w ≡ leftmost_from width K (s + width u) 0 false w → here s u true w o ≡ here s u false w o
  without_empty_by s u w None none begins on = on
  without_empty_by s u w (Some ([], v)) none begins on = absurd (no_empty (Some ([], v)) u w v none begins refl)
  without_empty_by s u w (Some (c ∷ p, v)) none begins on = refl

  without_empty : (s : ℕ) (w : List ℕ) → K [] ≡ [] → leftmost_from width K s 0 true w ≡ leftmost_from width K s 0 false w
  without_empty s [] none = ap (match_at width s true) (key_with_value-none K [] none) ∙ sym (ap (match_at width s false) (key_with_value-none K [] none))
  without_empty s (u ∷ w) none = without_empty_by s u w (longest_key K [] (u ∷ w)) none (longest_key-begins K [] (u ∷ w)) (without_empty (s + width u) w none)

  ends_later_by : (s u : ℕ) (after : Bool) (w : List ℕ) (o : Option (List ℕ × V)) (m : Match V) (ms : List (Match V)) → K [] ≡ [] → ((k : List ℕ × V) → o ≡ Some k → Begins K [] (u ∷ w) k)
      → (leftmost_from width K (s + width u) 0 after w ≡ m ∷ ms → s + width u < m.end) → here s u after w o ≡ m ∷ ms → s < m.end
  ends_later_by s u after w None m ms none begins on e = let lt = on e in omega (arith, lt)
  ends_later_by s u after w (Some ([], v)) m ms none begins on e = absurd (no_empty (Some ([], v)) u w v none begins refl)
  ends_later_by s u after w (Some (c ∷ p, v)) m ms none begins on e =
      let first : Match V = record { start = s; end = s + size width (c ∷ p); value = v } in
      let same = heads first m (leftmost_from width K (s + width u) (length p) true w) ms e in
      omega (arith, ap (λ (x : Match V). x.end) same, wide_key c p)

  ends_later : (s : ℕ) (after : Bool) (w : List ℕ) (m : Match V) (ms : List (Match V)) → K [] ≡ [] → leftmost_from width K s 0 after w ≡ m ∷ ms → s < m.end
  ends_later s after [] m ms none e = absurd (no_match m ms (sym (ap (match_at width s after) (key_with_value-none K [] none)) ∙ e))
  ends_later s after (u ∷ w) m ms none e = ends_later_by s u after w (longest_key K [] (u ∷ w)) m ms none (longest_key-begins K [] (u ∷ w)) (ends_later (s + width u) after w m ms none) e

  same_after : (s : ℕ) (l after : List (Match V)) → after ≡ l → ((m : Match V) (ms : List (Match V)) → l ≡ m ∷ ms → s < m.end) → IsAfter s l after
  same_after s l after is ends = record {
    none = λ e. is ∙ e;
    empty = λ m ms e at. absurd (omega (arith, ends m ms e, at));
    later = λ m ms e lt. is ∙ e;
  }

  empty_after : (s : ℕ) (v : V) (ms : List (Match V)) → IsAfter s (record { start = s; end = s; value = v } ∷ ms) ms
  empty_after s v ms = record {
    none = λ e. absurd (no_match (record { start = s; end = s; value = v }) ms (sym e));
    empty = λ m ns e at. tails (record { start = s; end = s; value = v }) m ms ns e;
    later = λ m ns e lt. absurd (omega (arith, lt, ap (λ (x : Match V). x.end) (heads (record { start = s; end = s; value = v }) m ms ns e)));
  }

  after_last : (s : ℕ) (o : Option (List ℕ × V)) → ((k : List ℕ × V) → o ≡ Some k → Begins K [] [] k) → IsAfter s (match_at width s false o) (match_at width s true o)
  after_last s None begins = same_after s [] [] refl (λ m ms e. absurd (no_match m ms e))
  after_last s (Some ([], v)) begins = empty_after s v []
  after_last s (Some (c ∷ p, v)) begins =
      let b = begins (c ∷ p, v) refl in
      absurd (omega (arith, ap length b.key, ap length b.splits, length-append b.more b.rest))

  after_by : (s u : ℕ) (w : List ℕ) (o : Option (List ℕ × V)) → longest_key K [] (u ∷ w) ≡ o → IsAfter s (here s u false w o) (here s u true w o)
  after_by s u w None is =
      let none = no_key [] (K []) (none_either (longest_key K (u ∷ []) w) (key_with_value K []) is).1 in
      same_after s (leftmost_from width K (s + width u) 0 false w) (leftmost_from width K (s + width u) 0 true w) (without_empty (s + width u) w none)
      (λ m ms e. let lt = ends_later (s + width u) false w m ms none e in omega (arith, lt))
  after_by s u w (Some ([], v)) is = empty_after s v (leftmost_from width K (s + width u) 0 false w)
  after_by s u w (Some (c ∷ p, v)) is =
      let first : Match V = record { start = s; end = s + size width (c ∷ p); value = v } in
      let rest = leftmost_from width K (s + width u) (length p) true w in
      same_after s (first ∷ rest) (first ∷ rest) refl (λ m ms e. omega (arith, ap (λ (x : Match V). x.end) (heads first m rest ms e), wide_key c p))

  pub after_nonempty : (s : ℕ) (w : List ℕ) → IsAfter s (leftmost_from width K s 0 false w) (leftmost_from width K s 0 true w)
  after_nonempty s [] = after_last s (longest_key K [] []) (longest_key-begins K [] [])
  after_nonempty s (u ∷ w) = after_by s u w (longest_key K [] (u ∷ w)) refl
