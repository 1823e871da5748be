-- A match that is not certain yet starts no further before the end of what was read than the longest key is long.
use Rattle.std.proofs.Common.{
  ◌≡◌,
  ℕ,
  zero,
  suc,
  ◌+◌,
  ◌-◌,
  ◌<◌,
  ◌≤◌,
  inl,
  inr,
  Bool,
  true,
  false,
  List,
  [],
  ◌∷◌,
  ◌++◌,
  Option,
  Some,
  None,
  refl,
  sym,
  ap,
  ◌∙◌,
  subst,
  append_assoc,
  append-nil,
  arith,
}
use Rattle.std.proofs.lemmas.List.{append_cancel_left}
use Rattle.std.specs.Option.{option_or}
use Rattle.std.specs.Prelude.{option_map, slice_get}
use Rattle.daachorse_model.specs.declared.Match.{Match}
use Rattle.daachorse_model.specs.Certain.{AreCertain}
use Rattle.daachorse_model.specs.Dictionary.{Dictionary}
use Rattle.daachorse_model.specs.Laws.{Follows}
use Rattle.daachorse_model.specs.Leftmost.{is_after, key_with_value, leftmost, leftmost_from, longest_key, match_at, units_to_skip}
use Rattle.daachorse_model.specs.Units.{size}
use Rattle.daachorse_model.proofs.Lists.{nil_of}
use Rattle.daachorse_model.proofs.Overlap.{Follows-earlier, leftmost_apart}
use Rattle.daachorse_model.proofs.Suffixes.{le_or_lt, size-push}
use Rattle.daachorse_streams.specs.Streams.{HasNoLonger}
use Rattle.daachorse_streams.proofs.StandardMatches.{Follows-from, StartsFrom}

module _ {V : Type 0} where
  starts_earlier : (r s : ℕ) (ms : List (Match V)) → r ≤ s → StartsFrom s ms → StartsFrom r ms
  starts_earlier r s [] le from = tt
  starts_earlier r s (m ∷ ms) le from = omega (arith, le, from)

  -- matches behind others
  Follows-back : (r : ℕ) (before ms : List (Match V)) → Follows r (before ++ ms) → Follows r ms
  Follows-back r [] ms follows = follows
  Follows-back r (m ∷ before) ms follows =
      Follows-earlier r m.end ms (omega (arith, follows.0, follows.1)) (Follows-back m.end before ms follows.2)

module _ {V : Type 0} (width : ℕ → ℕ) (K : Dictionary V) where
  starts_here : (s : ℕ) (after : Bool) (best : Option (List ℕ × V)) (ms : List (Match V)) → StartsFrom s ms
      → StartsFrom s (match_at width s after best ++ ms)
  starts_here s after None ms from = from
  starts_here s true (Some ([], v)) ms from = from
  starts_here s false (Some ([], v)) ms from = omega arith
  starts_here s after (Some (c ∷ p, v)) ms from = omega arith

  starts_from : (s skip : ℕ) (after : Bool) (w : List ℕ) → StartsFrom s (leftmost_from width K s skip after w)
  starts_from s (suc skip) after [] = tt
  starts_from s (suc skip) after (u ∷ w) = starts_earlier s (s + width u) _ (omega arith) (starts_from (s + width u) skip after w)
  starts_from s zero after [] =
      subst (StartsFrom s) (append-nil (match_at width s after (longest_key K [] []))) (starts_here s after (longest_key K [] []) [] tt)
  starts_from s zero after (u ∷ w) =
      let best = longest_key K [] (u ∷ w) in
      starts_here s after best _
      (starts_earlier s (s + width u) _ (omega arith) (starts_from (s + width u) (units_to_skip best) (is_after after best) w))

  module _ (wide : (u : ℕ) → 1 ≤ width u) (longest : ℕ) (bound : HasNoLonger width K longest) where
    no_key : (t : List ℕ) → longest < size width t → key_with_value K t ≡ None
    no_key t long =
        ap (λ vs. option_map {U = List ℕ × V} (λ v. (t, v)) (slice_get vs 0)) (nil_of (K t) (λ key. omega (arith, bound t key, long)))

    no_longest : (t d : List ℕ) → longest < size width t → longest_key K t d ≡ None
    no_longest t [] long = no_key t long
    no_longest t (u ∷ d) long =
        ap (λ o. option_or o (key_with_value K t)) (no_longest (t ++ u ∷ []) d (omega (arith, long, size-push width t u))) ∙ no_key t long

    -- no more units change the longest key in a text that is as long as each key
    same_longest : (t w d : List ℕ) → longest ≤ size width t + size width w → longest_key K t (w ++ d) ≡ longest_key K t w
    same_longest t (u ∷ w) d fits =
        ap (λ o. option_or o (key_with_value K t)) (same_longest (t ++ u ∷ []) w d (omega (arith, fits, size-push width t u)))
    same_longest t [] [] fits = refl
    same_longest t [] (u ∷ d) fits =
        ap (λ o. option_or o (key_with_value K t)) (no_longest (t ++ u ∷ []) d (omega (arith, fits, wide u, size-push width t u)))

    -- a search of w gives these, however the haystack goes on, and then none that starts further before the end of w than the longest key
    -- is long
    record GivesFirst (s skip : ℕ) (after : Bool) (w : List ℕ) : Type 0 where
      given : List (Match V)
      later : (d : List ℕ)
          → (rest : List (Match V)) × (leftmost_from width K s skip after (w ++ d) ≡ given ++ rest)
          × StartsFrom (s + size width w - longest) rest

    none_first : (s skip : ℕ) (after : Bool) (w : List ℕ) → size width w ≤ longest → GivesFirst s skip after w
    none_first s skip after w fits = record {
      given = [];
      later = λ d. (
        leftmost_from width K s skip after (w ++ d),
        refl,
        starts_earlier (s + size width w - longest) s _ (omega (arith, fits)) (starts_from s skip after (w ++ d)),
      );
    }

    gives_first : (s skip : ℕ) (after : Bool) (w : List ℕ) → GivesFirst s skip after w
    gives_first s skip after [] = none_first s skip after [] (omega arith)
    gives_first s (suc skip) after (u ∷ w) =
        let next = gives_first (s + width u) skip after w in
        record {
          given = next.given;
          later = λ d. (let r = next.later d in (r.0, r.1, starts_earlier _ (s + width u + size width w - longest) r.0 (omega arith) r.2));
        }
    gives_first s zero after (u ∷ w) = elim (le_or_lt (size width (u ∷ w)) longest) [
      | inl fits ↦ none_first s zero after (u ∷ w) fits
      | inr less ↦
          let best = longest_key K [] (u ∷ w) in
          let next = gives_first (s + width u) (units_to_skip best) (is_after after best) w in
          record {
            given = match_at width s after best ++ next.given;
            later = λ d. (let r = next.later d in (
              r.0,
              ap (λ b. match_at width s after b ++ leftmost_from width K (s + width u) (units_to_skip b) (is_after after b) (w ++ d))
                  (same_longest [] (u ∷ w) d (omega (arith, less)))
                  ∙ ap (λ l. match_at width s after best ++ l) r.1
                  ∙ sym (append_assoc (match_at width s after best) next.given r.0),
              starts_earlier _ (s + width u + size width w - longest) r.0 (omega arith) r.2,
            ));
          }
    ]

    pub late_matches : (c : List ℕ) (given : List (Match V)) → AreCertain width K c given → (d : List ℕ) (rest : List (Match V))
        → leftmost width K (c ++ d) ≡ given ++ rest → Follows (size width c - longest) rest
    late_matches c given certain d rest is =
        let first = gives_first 0 0 false c in
        let more = certain.1 first.given (λ e. (let r = first.later e in (r.0, r.1))) in
        let later = first.later d in
        let same : later.0 ≡ more.0 ++ rest =
        append_cancel_left first.given later.0 (more.0 ++ rest)
        (sym later.1 ∙ is ∙ ap (λ l. l ++ rest) more.1 ∙ append_assoc first.given more.0 rest) in
        let follows : Follows 0 later.0 = Follows-back 0 first.given later.0
        (subst (Follows 0) later.1 (leftmost_apart width K (c ++ d))) in
        let late = Follows-from 0 (size width c - longest) later.0 follows
        (starts_earlier (size width c - longest) (0 + size width c - longest) later.0 (omega arith) later.2) in
        Follows-back (size width c - longest) more.0 rest (subst (Follows (size width c - longest)) same late)
