-- Each leftmost match is the longest key at its start; under `LeftmostFirst` the earliest registration there.
use Rattle.std.proofs.Common.{◌≡◌, ◌≢◌, ℕ, zero, suc, ◌+◌, ◌≤◌, Bool, true, false, List, [], ◌∷◌, ◌++◌, length, refl, sym, ap, ◌∙◌, arith, length-append, Option, Some, None}
use Rattle.std.specs.Prelude.{All, option_map, slice_get}
use Rattle.std.specs.Option.{option_or}
use Rattle.std.proofs.lemmas.List.{append_assoc, append-nil}
use Rattle.std.proofs.lemmas.List.Elements.{All-append, All-cons, All-nil, All-weaker}
use Rattle.daachorse_model.specs.declared.MatchKind.TheVariants.{LeftmostFirst}
use Rattle.daachorse_model.specs.Units.{size}
use Rattle.daachorse_model.specs.Dictionary.{Dictionary, dictionary}
use Rattle.daachorse_model.specs.Leftmost.{key_with_value, longest_key, match_at, units_to_skip, is_after, leftmost_from, leftmost}
use Rattle.daachorse_model.specs.declared.Match.{Match}
use Rattle.daachorse_model.specs.Laws.{IsLongestAtStart, IsEarliestAtStart}
use Rattle.daachorse_model.proofs.Suffixes.{size-append}
use Rattle.daachorse_model.proofs.Overlap.{longest_key-begins}
use Rattle.daachorse_model.proofs.Earliest.{earliest}
use Rattle.daachorse_model.proofs.Lists.{none_either}

-- the match is what `longest_key` finds at its start
pub record IsFoundAtStart {V : Type 0} (width : ℕ → ℕ) (K : Dictionary V) (h : List ℕ) (m : Match V) : Type 0 where
  pub before : List ℕ
  pub rest : List ℕ
  pub key : List ℕ
  pub splits : h ≡ before ++ rest
  pub starts : m.start ≡ size width before
  pub longest : longest_key K [] rest ≡ Some (key, m.value)
  pub ends : m.end ≡ m.start + size width key

key_with_value-nothing : {V : Type 0} (K : Dictionary V) (t : List ℕ) (vs : List V) → K t ≡ vs → option_map {U = List ℕ × V} (λ v. (t, v)) (slice_get vs 0) ≡ None → K t ≡ []
key_with_value-nothing K t [] is e = is
key_with_value-nothing K t (v ∷ vs) is e = cc

module _ {V : Type 0} (K : Dictionary V) where
  -- where nothing is found, no key begins
  longest_key-nothing : (t w k rest : List ℕ) → w ≡ k ++ rest → longest_key K t w ≡ None → K (t ++ k) ≡ []
  longest_key-nothing t [] [] rest cut e = rw append-nil (key_with_value-nothing K t (K t) refl e)
  longest_key-nothing t (u ∷ w) [] rest cut e = rw append-nil (key_with_value-nothing K t (K t) refl (none_either (longest_key K (t ++ u ∷ []) w) (key_with_value K t) e).1)
  longest_key-nothing t [] (c ∷ k) rest cut e = cc
  longest_key-nothing t (u ∷ w) (c ∷ k) rest cut e =
      let same : u ≡ c = cc in
      let later = longest_key-nothing (t ++ u ∷ []) w k rest (cc) (none_either (longest_key K (t ++ u ∷ []) w) (key_with_value K t) e).0 in
      ap (λ x. K (t ++ x ∷ k)) (sym same) ∙ ap K (sym (append_assoc t (u ∷ []) k)) ∙ later

  -- where a key begins in the rest, it is the rest that is found
  longest_key-later : (t w k rest : List ℕ) (u : ℕ) (found : List ℕ × V) → w ≡ k ++ rest → K ((t ++ u ∷ []) ++ k) ≢ [] → longest_key K t (u ∷ w) ≡ Some found
      → longest_key K (t ++ u ∷ []) w ≡ Some found
  longest_key-later t w k rest u found cut key is = by_rest (longest_key K (t ++ u ∷ []) w) refl is
    where
      by_rest : (o : Option (List ℕ × V)) → longest_key K (t ++ u ∷ []) w ≡ o → option_or o (key_with_value K t) ≡ Some found → longest_key K (t ++ u ∷ []) w ≡ Some found
      by_rest None e is = absurd (key (longest_key-nothing (t ++ u ∷ []) w k rest cut e))
      by_rest (Some q) e is = e ∙ is

  -- what is found is at least as long as each key that begins there
  longest_key-longest : (t w k rest : List ℕ) (found : List ℕ × V) → w ≡ k ++ rest → K (t ++ k) ≢ [] → longest_key K t w ≡ Some found → length (t ++ k) ≤ length found.0
  longest_key-longest t w [] rest found cut key is =
      let b = longest_key-begins K t w found is in
      omega (arith, ap length b.key, length-append t b.more, length-append t [])
  longest_key-longest t [] (c ∷ k) rest found cut key is = cc
  longest_key-longest t (u ∷ w) (c ∷ k) rest found cut key is =
      let same : u ≡ c = cc in
      let shorter : w ≡ k ++ rest = cc in
      let joined : (t ++ u ∷ []) ++ k ≡ t ++ c ∷ k = append_assoc t (u ∷ []) k ∙ ap (λ x. t ++ x ∷ k) same in
      let later : K ((t ++ u ∷ []) ++ k) ≢ [] = λ no. key (ap K (sym joined) ∙ no) in
      let le = longest_key-longest (t ++ u ∷ []) w k rest found shorter later (longest_key-later t w k rest u found shorter later is) in
      omega (arith, le, ap length joined)

module _ {V : Type 0} (width : ℕ → ℕ) (K : Dictionary V) (h : List ℕ) where
  given_found : (before w : List ℕ) (s : ℕ) (after : Bool) (best : Option (List ℕ × V)) → h ≡ before ++ w → s ≡ size width before → longest_key K [] w ≡ best
      → All (IsFoundAtStart width K h) (match_at width s after best)
  given_found before w s after None cut from is = All-nil (IsFoundAtStart width K h)
  given_found before w s true (Some ([], v)) cut from is = All-nil (IsFoundAtStart width K h)
  given_found before w s false (Some ([], v)) cut from is =
      All-cons (IsFoundAtStart width K h) _ [] (record { before = before; rest = w; key = []; splits = cut; starts = from; longest = is; ends = omega arith }) (All-nil (IsFoundAtStart width K h))
  given_found before w s after (Some (c ∷ p, v)) cut from is =
      All-cons (IsFoundAtStart width K h) _ [] (record { before = before; rest = w; key = c ∷ p; splits = cut; starts = from; longest = is; ends = refl }) (All-nil (IsFoundAtStart width K h))

  from_found : (before w : List ℕ) (s skip : ℕ) (after : Bool) → h ≡ before ++ w → s ≡ size width before
      → All (IsFoundAtStart width K h) (leftmost_from width K s skip after w)
  from_found before [] s (suc skip) after cut from = All-nil (IsFoundAtStart width K h)
  from_found before (u ∷ w) s (suc skip) after cut from =
      from_found (before ++ u ∷ []) w (s + width u) skip after (cut ∙ sym (append_assoc before (u ∷ []) w)) (omega (arith, size-append width before (u ∷ [])))
  from_found before [] s zero after cut from = given_found before [] s after (longest_key K [] []) cut from refl
  from_found before (u ∷ w) s zero after cut from =
      let best = longest_key K [] (u ∷ w) in
      All-append (IsFoundAtStart width K h) (match_at width s after best) (leftmost_from width K (s + width u) (units_to_skip best) (is_after after best) w)
      (given_found before (u ∷ w) s after best cut from refl)
      (from_found (before ++ u ∷ []) w (s + width u) (units_to_skip best) (is_after after best) (cut ∙ sym (append_assoc before (u ∷ []) w)) (omega (arith, size-append width before (u ∷ []))))

  pub leftmost_found : All (IsFoundAtStart width K h) (leftmost width K h)
  leftmost_found = from_found [] h 0 zero false refl refl

  pub leftmost_longest : All (IsLongestAtStart width K h) (leftmost width K h)
  leftmost_longest = All-weaker (IsFoundAtStart width K h) (IsLongestAtStart width K h) longest (leftmost width K h) leftmost_found
    where
      longest : (m : Match V) → IsFoundAtStart width K h m → IsLongestAtStart width K h m
      longest m l =
          let b = longest_key-begins K [] l.rest (l.key, m.value) l.longest in
          let cut : l.rest ≡ l.key ++ b.rest = b.splits ∙ ap (λ r. r ++ b.rest) (sym b.key) in
          record {
            before = l.before;
            key = l.key;
            after = b.rest;
            splits = l.splits ∙ ap (λ r. l.before ++ r) cut;
            starts = l.starts;
            ends = l.ends;
            value = rw b.first;
            longest = λ k rest at some. longest_key-longest K [] l.rest k rest (l.key, m.value) (cut ∙ at) some l.longest;
          }

pub leftmost_earliest : {V : Type 0} (width : ℕ → ℕ) (rs : List (List ℕ × V)) (h : List ℕ) → All (IsEarliestAtStart width rs h) (leftmost width (dictionary LeftmostFirst rs) h)
leftmost_earliest width rs h =
    All-weaker (IsFoundAtStart width (dictionary LeftmostFirst rs) h) (IsEarliestAtStart width rs h)
    (λ m l. record { before = l.before; rest = l.rest; key = l.key; splits = l.splits; starts = l.starts; earliest = sym (earliest rs l.rest) ∙ l.longest; ends = l.ends })
    (leftmost width (dictionary LeftmostFirst rs) h) (leftmost_found width (dictionary LeftmostFirst rs) h)
