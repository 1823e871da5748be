-- No key is longer than the carried units and one more, so what ends behind them starts in them or behind: the units in front of them change nothing but the places.
use Rattle.std.proofs.Common.{◌≡◌, ℕ, ◌+◌, ◌-◌, ◌≤◌, ◌<◌, List, [], ◌∷◌, ◌++◌, length, map, take, drop, nat_lt, refl, sym, ap, ◌∙◌, subst, append_assoc, arith, length-append, take-append-drop, inl, inr}
use Rattle.std.specs.Prelude.{All}
use Rattle.std.proofs.lemmas.List.{map-append, length-take-le, length-drop}
use Rattle.std.proofs.lemmas.List.Elements.{All-append, All-head, All-tail, All-nil, All-map, All-weaker, filter-append}
use Rattle.std.proofs.lemmas.Bool.{lt-ltb, le-ltb}
use Rattle.daachorse_model.specs.declared.Match.{Match}
use Rattle.daachorse_model.specs.Dictionary.{Dictionary}
use Rattle.daachorse_model.specs.Matches.{at_each_end, ending_at, matches_after, matches_of, overlapping, shifted}
use Rattle.daachorse_model.specs.Laws.{IsOccurrence}
use Rattle.daachorse_model.proofs.Occur.{overlapping_occur}
use Rattle.daachorse_model.specs.Units.{size, byte_width}
use Rattle.daachorse_model.proofs.Suffixes.{le_or_lt, size-append, size-bytes}
use Rattle.daachorse_model.proofs.Overlap.{take-append}
use Rattle.daachorse_model.proofs.Shifts.{matches_after-past}
use Rattle.daachorse_search.specs.BestScans.{HasNoLongerKey}
use Rattle.daachorse_search.specs.Scans.{past_each_end}
use Rattle.daachorse_search.proofs.ScanLaws.{at_each_end-split, past_each_end-append}
use Rattle.daachorse_search.proofs.AfreshLaws.{shifted-none}
use Rattle.daachorse_search.specs.Pieces.{IsCutInPieces, ending_behind}

module _ {V : Type 0} (width : ℕ → ℕ) (K : Dictionary V) where
  -- ---- what is too long is no key

  no_key : (m : ℕ) (w : List ℕ) → HasNoLongerKey K m → m < length w → K w ≡ []
  no_key m w longest more = from (K w) refl
    where
      from : (vs : List V) → K w ≡ vs → K w ≡ []
      from [] is = is
      from (v ∷ vs) is = let within : length w ≤ m = longest w (λ none. (let bad : v ∷ vs ≡ [] = sym is ∙ none in cc)) in absurd (omega arith)

  shifted_after : (m : ℕ) (a w : List ℕ) → HasNoLongerKey K m → m ≤ length w → matches_after width K (a ++ w) ≡ map (shifted (size width a)) (matches_after width K w)
  shifted_after m a w longest within = matches_after-past width K a w (λ b ends some. no_key m (b ++ w) longest (omega (arith, length-append b w)))

  shifted_each : (m : ℕ) (a w b : List ℕ) → HasNoLongerKey K m → m ≤ length w → at_each_end (matches_after width K) (a ++ w) b ≡ map (shifted (size width a)) (at_each_end (matches_after width K) w b)
  shifted_each m a w [] longest within = shifted_after m a w longest within
  shifted_each m a w (u ∷ b) longest within =
      let n = size width a in
      let next = w ++ u ∷ [] in
      let here = shifted_after m a w longest within in
      let later = shifted_each m a next b longest (omega (arith, length-append w (u ∷ []))) in
      ap (λ l. l ++ at_each_end (matches_after width K) ((a ++ w) ++ u ∷ []) b) here
      ∙ ap (λ x. map (shifted n) (matches_after width K w) ++ at_each_end (matches_after width K) x b) (append_assoc a w (u ∷ []))
      ∙ ap (λ l. map (shifted n) (matches_after width K w) ++ l) later
      ∙ sym (map-append (shifted n) (matches_after width K w) (at_each_end (matches_after width K) next b))

  shifted_past : (m : ℕ) (a w b : List ℕ) → HasNoLongerKey K m → m ≤ length w + 1 → past_each_end (matches_after width K) (a ++ w) b ≡ map (shifted (size width a)) (past_each_end (matches_after width K) w b)
  shifted_past m a w [] longest within = refl
  shifted_past m a w (u ∷ b) longest within =
      ap (λ x. at_each_end (matches_after width K) x b) (append_assoc a w (u ∷ [])) ∙ shifted_each m a (w ++ u ∷ []) b longest (omega (arith, length-append w (u ∷ [])))

  -- ---- where matches end

  all_end : (s e : ℕ) (w : List ℕ) → All (λ m. m.end ≡ e) (ending_at width K s e w)
  all_end s e [] = All-map (λ m. m.end ≡ e) (λ v. record { start = s; end = e; value = v }) (K []) (λ k d lt. refl)
  all_end s e (u ∷ w) =
      All-append (λ m. m.end ≡ e) (matches_of K s e (u ∷ w)) (ending_at width K (s + width u) e w)
      (All-map (λ m. m.end ≡ e) (λ v. record { start = s; end = e; value = v }) (K (u ∷ w)) (λ k d lt. refl)) (all_end (s + width u) e w)

  all_behind : (p : ℕ) (t w : List ℕ) → p < size width t → All (λ m. p < m.end) (at_each_end (matches_after width K) t w)
  all_behind p t [] less = All-weaker (λ m. m.end ≡ size width t) (λ m. p < m.end) (λ m is. omega arith) _ (all_end 0 (size width t) t)
  all_behind p t (u ∷ w) less =
      All-append (λ m. p < m.end) (matches_after width K t) (at_each_end (matches_after width K) (t ++ u ∷ []) w)
      (All-weaker (λ m. m.end ≡ size width t) (λ m. p < m.end) (λ m is. omega arith) _ (all_end 0 (size width t) t))
      (all_behind p (t ++ u ∷ []) w (omega (arith, size-append width t (u ∷ []))))

  past_behind : ((u : ℕ) → 1 ≤ width u) → (t w : List ℕ) → All (λ m. size width t < m.end) (past_each_end (matches_after width K) t w)
  past_behind some t [] = All-nil (λ m. size width t < m.end)
  past_behind some t (u ∷ w) = all_behind (size width t) (t ++ u ∷ []) w (omega (arith, size-append width t (u ∷ []), some u))

  all_by : (h : List ℕ) → All (λ m. m.end ≤ size width h) (overlapping width K h)
  all_by h = All-weaker (IsOccurrence width K h) (λ m. m.end ≤ size width h) (λ m o. by m o) (overlapping width K h) (overlapping_occur width K h)
    where
      by : (m : Match V) → IsOccurrence width K h m → m.end ≤ size width h
      by m o = omega (arith, o.ends, ap (size width) o.splits, size-append width o.before (o.key ++ o.after), size-append width o.key o.after)

  none_behind : (p : ℕ) (ms : List (Match V)) → All (λ m. m.end ≤ p) ms → ending_behind p ms ≡ []
  none_behind p [] all = refl
  none_behind p (m ∷ ms) all = rw (le-ltb p m.end (All-head (λ x. x.end ≤ p) m ms all)) (none_behind p ms (All-tail (λ x. x.end ≤ p) m ms all))

  only_behind : (p : ℕ) (ms : List (Match V)) → All (λ m. p < m.end) ms → ending_behind p ms ≡ ms
  only_behind p [] all = refl
  only_behind p (m ∷ ms) all = rw (lt-ltb p m.end (All-head (λ x. p < x.end) m ms all)) (ap (λ l. m ∷ l) (only_behind p ms (All-tail (λ x. p < x.end) m ms all)))

  -- ---- the haystack, cut

  cut_behind : (p b : List ℕ) → overlapping width K (p ++ b) ≡ overlapping width K p ++ past_each_end (matches_after width K) p b
  cut_behind p b =
      let f = matches_after width K in
      at_each_end-split f [] (p ++ b) ∙ ap (λ l. f [] ++ l) (past_each_end-append f [] p b)
      ∙ sym (append_assoc (f []) (past_each_end f [] p) (past_each_end f p b)) ∙ ap (λ l. l ++ past_each_end f p b) (sym (at_each_end-split f [] p))

  new_behind : ((u : ℕ) → 1 ≤ width u) → (carried rest : List ℕ) → ending_behind (size width carried) (overlapping width K (carried ++ rest)) ≡ past_each_end (matches_after width K) carried rest
  new_behind some carried rest =
      let p = size width carried in
      let past = past_each_end (matches_after width K) carried rest in
      ap (ending_behind p) (cut_behind carried rest) ∙ filter-append (λ m. nat_lt p m.end) (overlapping width K carried) past
      ∙ ap (λ l. l ++ ending_behind p past) (none_behind p (overlapping width K carried) (all_by carried)) ∙ only_behind p past (past_behind some carried rest)

  cut_from : (front carried rest : List ℕ) → ((u : ℕ) → 1 ≤ width u)
      → past_each_end (matches_after width K) (front ++ carried) rest ≡ map (shifted (size width front)) (past_each_end (matches_after width K) carried rest) → IsCutInPieces width K front carried rest
  cut_from front carried rest some past =
      ap (overlapping width K) (sym (append_assoc front carried rest)) ∙ cut_behind (front ++ carried) rest
      ∙ ap (λ l. overlapping width K (front ++ carried) ++ l) (past ∙ ap (map (shifted (size width front))) (sym (new_behind some carried rest)))

  pub pieces_hold : (front carried rest : List ℕ) → ((u : ℕ) → 1 ≤ width u) → HasNoLongerKey K (length carried + 1) → IsCutInPieces width K front carried rest
  pieces_hold front carried rest some longest = cut_from front carried rest some (shifted_past (length carried + 1) front carried rest longest (omega arith))

  -- nothing stands before what is carried
  pub first_hold : (carried rest : List ℕ) → ((u : ℕ) → 1 ≤ width u) → IsCutInPieces width K [] carried rest
  first_hold carried rest some = cut_from [] carried rest some (sym (shifted-none (past_each_end (matches_after width K) carried rest)))

-- ---- over bytes, by places

module _ {V : Type 0} (K : Dictionary V) where
  -- the cut at `at`, where what is carried begins at `start`
  abbrev pub IsCutAt : List ℕ → ℕ → ℕ → Type 0
  IsCutAt h at start = overlapping byte_width K h ≡ overlapping byte_width K (take at h) ++ map (shifted start) (ending_behind (at - start) (overlapping byte_width K (drop start h)))

  pub cut_at_place : (h : List ℕ) (at longest start : ℕ) → HasNoLongerKey K longest → at ≤ length h → start ≡ at - (longest - 1) → IsCutAt h at start
  cut_at_place h at longest start none within is =
      let behind = drop start h in
      let front = take start h in
      let carried = take (at - start) behind in
      let rest = drop (at - start) behind in
      let found = overlapping byte_width K in
      let first : length front ≡ start = length-take-le start h (omega arith) in
      let held : length carried ≡ at - start = length-take-le (at - start) behind (omega (arith, length-drop start h)) in
      let later : carried ++ rest ≡ behind = take-append-drop (at - start) behind in
      let whole : front ++ (carried ++ rest) ≡ h = ap (λ l. front ++ l) later ∙ take-append-drop start h in
      let both : length (front ++ carried) ≡ at = omega (arith, length-append front carried, first, held) in
      let begun : front ++ carried ≡ take at h =
      sym (take-append (front ++ carried) rest) ∙ ap (λ n. take n ((front ++ carried) ++ rest)) both ∙ ap (take at) (append_assoc front carried rest ∙ whole) in
      let cut : IsCutInPieces byte_width K front carried rest = elim (le_or_lt longest (at + 1)) [
        | inl fits ↦ pieces_hold byte_width K front carried rest (λ u. omega arith) (λ k key. (let short = none k key in omega (arith, held)))
        | inr long ↦
            let nothing : [] ≡ front = sym (ap (λ n. take n h) (let zero_is : start ≡ 0 = omega arith in zero_is)) in
            subst (λ x. IsCutInPieces byte_width K x carried rest) nothing (first_hold byte_width K carried rest (λ u. omega arith))
      ] in
      ap found (sym whole) ∙ cut
      ∙ ap (λ l. found l ++ map (shifted (size byte_width front)) (ending_behind (size byte_width carried) (found (carried ++ rest)))) begun
      ∙ ap (λ n. found (take at h) ++ map (shifted n) (ending_behind (size byte_width carried) (found (carried ++ rest)))) (size-bytes front ∙ first)
      ∙ ap (λ n. found (take at h) ++ map (shifted start) (ending_behind n (found (carried ++ rest)))) (size-bytes carried ∙ held)
      ∙ ap (λ l. found (take at h) ++ map (shifted start) (ending_behind (at - start) (found l))) later
