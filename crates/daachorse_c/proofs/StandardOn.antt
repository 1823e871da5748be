-- Where the standard search goes on after a match: as one that begins there, further on.
use Rattle.std.proofs.Common.{◌≡◌, ℕ, ◌+◌, ◌<◌, ◌≤◌, List, [], ◌∷◌, ◌++◌, map, take, length, refl, sym, ap, ◌∙◌, add_assoc, append_assoc, arith}
use Rattle.daachorse_model.specs.declared.Match.{Match}
use Rattle.daachorse_model.specs.Dictionary.{Dictionary}
use Rattle.daachorse_model.specs.Matches.{at_each_end, empty_matches, ending_at, matches_of, standard, standard_from, shifted}
use Rattle.daachorse_model.specs.Units.{size}
use Rattle.daachorse_model.proofs.SameSearches.{standard-is}
use Rattle.daachorse_model.proofs.Searches.{first_or}
use Rattle.daachorse_model.proofs.Shifts.{standard_from-shifted}
use Rattle.daachorse_model.proofs.Suffixes.{size-push}
use Rattle.daachorse_c.proofs.Heads.{heads, no_match, tails}

-- the search found m first in w, and then these
pub record FollowsFirst {V : Type 0} (width : ℕ → ℕ) (K : Dictionary V) (w : List ℕ) (m : Match V) (ms : List (Match V)) : Type 0 where
  pub passed : List ℕ
  pub rest : List ℕ
  pub splits : w ≡ passed ++ rest
  pub order : m.start ≤ m.end
  pub end : m.end ≡ size width passed
  pub nonempty : m.start < m.end → ms ≡ map (shifted m.end) (standard width K rest)
  pub empty : m.end ≤ m.start → (u : ℕ) (more : List ℕ) → rest ≡ u ∷ more → ms ≡ map (shifted (m.end + width u)) (standard width K more)
  pub last : m.end ≤ m.start → rest ≡ [] → ms ≡ []

module _ {V : Type 0} (width : ℕ → ℕ) (wide : (u : ℕ) → 0 < width u) (K : Dictionary V) where
  -- ---- without an empty key

  -- the first match that ends at e starts in w, which begins at s
  pub record StartsIn (s e : ℕ) (w : List ℕ) (m : Match V) : Type 0 where
    pub end : m.end ≡ e
    pub least : s ≤ m.start
    pub most : m.start < s + size width w

  starts_in : (s e : ℕ) (w : List ℕ) (m : Match V) (ms : List (Match V)) → K [] ≡ [] → ending_at width K s e w ≡ m ∷ ms → StartsIn s e w m
  starts_in s e [] m ms none is = absurd (no_match m ms (sym (ap (map (λ v. record { start = s; end = e; value = v })) none) ∙ is))
  starts_in s e (u ∷ w) m ms none is = by (K (u ∷ w)) (starts_in (s + width u) e w m ms none) is
    where
      by : (vs : List V) → (ending_at width K (s + width u) e w ≡ m ∷ ms → StartsIn (s + width u) e w m) → map (λ v. record { start = s; end = e; value = v }) vs ++ ending_at width K (s + width u) e w ≡ m ∷ ms → StartsIn s e (u ∷ w) m
      by [] on is = let later = on is in record { end = later.end; least = omega (arith, later.least); most = omega (arith, later.most) }
      by (v ∷ vs) on is =
          let first : Match V = record { start = s; end = e; value = v } in
          let same = heads first m (map (λ v. record { start = s; end = e; value = v }) vs ++ ending_at width K (s + width u) e w) ms is in
          let start = ap (λ (x : Match V). x.start) same in
          record { end = sym (ap (λ (x : Match V). x.end) same); least = omega (arith, start); most = omega (arith, start, wide u) }

  -- t was read since r, and m is the first match that ends in w
  pub record EndsIn (r : ℕ) (t w : List ℕ) (m : Match V) (ms : List (Match V)) : Type 0 where
    pub passed : List ℕ
    pub rest : List ℕ
    pub splits : w ≡ passed ++ rest
    pub end : m.end ≡ r + size width (t ++ passed)
    pub some : m.start < m.end
    pub follows : ms ≡ standard_from width K m.end [] rest

  ends_in : (r : ℕ) (t w : List ℕ) (m : Match V) (ms : List (Match V)) → K [] ≡ [] → standard_from width K r t w ≡ m ∷ ms → EndsIn r t w m ms
  ends_in r t [] m ms none is = absurd (no_match m ms is)
  ends_in r t (u ∷ w) m ms none is = by (ending_at width K r (r + size width (t ++ u ∷ [])) (t ++ u ∷ [])) refl (ends_in r (t ++ u ∷ []) w m ms none) is
    where
      by : (here : List (Match V)) → ending_at width K r (r + size width (t ++ u ∷ [])) (t ++ u ∷ []) ≡ here
          → (standard_from width K r (t ++ u ∷ []) w ≡ m ∷ ms → EndsIn r (t ++ u ∷ []) w m ms)
          → first_or here (standard_from width K r (t ++ u ∷ []) w) (standard_from width K (r + size width (t ++ u ∷ [])) [] w) ≡ m ∷ ms → EndsIn r t (u ∷ w) m ms
      by [] at on is =
          let later = on is in
          record {
            passed = u ∷ later.passed;
            rest = later.rest;
            splits = ap (λ l. u ∷ l) later.splits;
            end = later.end ∙ ap (λ l. r + size width l) (append_assoc t (u ∷ []) later.passed);
            some = later.some;
            follows = later.follows;
          }
      by (x ∷ xs) at on is =
          let e : ℕ = r + size width (t ++ u ∷ []) in
          let same = heads x m (standard_from width K e [] w) ms is in
          let starts = starts_in r e (t ++ u ∷ []) x xs none at in
          let end : m.end ≡ e = sym (ap (λ (y : Match V). y.end) same) ∙ starts.end in
          let start = ap (λ (y : Match V). y.start) same in
          record {
            passed = u ∷ [];
            rest = w;
            splits = refl;
            end = end;
            some = omega (arith, end, start, starts.most);
            follows = sym (tails x m (standard_from width K e [] w) ms is) ∙ ap (λ n. standard_from width K n [] w) (sym end);
          }

  follows_nonempty : (w : List ℕ) (m : Match V) (ms : List (Match V)) → K [] ≡ [] → standard width K w ≡ m ∷ ms → FollowsFirst width K w m ms
  follows_nonempty w m ms none is =
      let b = ends_in 0 [] w m ms none (sym (standard-is width K w none) ∙ is) in
      let far : m.end ≡ m.end + 0 = omega arith in
      record {
        passed = b.passed;
        rest = b.rest;
        splits = b.splits;
        order = omega (arith, b.some);
        end = omega (arith, b.end);
        nonempty = λ lt.
            b.follows
            ∙ ap (λ n. standard_from width K n [] b.rest) far
            ∙ standard_from-shifted width K m.end 0 [] b.rest
            ∙ ap (map (shifted m.end)) (sym (standard-is width K b.rest none));
        empty = λ le. absurd (omega (arith, le, b.some));
        last = λ le at. absurd (omega (arith, le, b.some));
      }

  -- ---- with an empty key, of this first value

  module _ (v : V) (vs : List V) (is : K [] ≡ v ∷ vs) where
    -- one empty match at each boundary, from s on
    abbrev each : ℕ → List ℕ → List (Match V)
    each s [] = record { start = s; end = s; value = v } ∷ []
    each s (u ∷ w) = record { start = s; end = s; value = v } ∷ each (s + width u) w

    each-shifted : (b s : ℕ) (w : List ℕ) → each (b + s) w ≡ map (shifted b) (each s w)
    each-shifted b s [] = refl
    each-shifted b s (u ∷ w) = ap (λ n. record { start = b + s; end = b + s; value = v } ∷ each n w) (add_assoc b s (width u)) ∙ ap (λ l. record { start = b + s; end = b + s; value = v } ∷ l) (each-shifted b (s + width u) w)

    abbrev one_at : List ℕ → List (Match V)
    one_at t = take 1 (matches_of K (size width t) (size width t) [])

    one-is : (t : List ℕ) → one_at t ≡ record { start = size width t; end = size width t; value = v } ∷ []
    one-is t = ap (λ l. take 1 (map (λ x. record { start = size width t; end = size width t; value = x }) l)) is

    each-is : (t w : List ℕ) → at_each_end one_at t w ≡ each (size width t) w
    each-is t [] = one-is t
    each-is t (u ∷ w) =
        ap (λ l. l ++ at_each_end one_at (t ++ u ∷ []) w) (one-is t)
        ∙ ap (λ l. record { start = size width t; end = size width t; value = v } ∷ l) (each-is (t ++ u ∷ []) w ∙ ap (λ n. each n w) (size-push width t u))

    standard-each : (w : List ℕ) → standard width K w ≡ each 0 w
    standard-each w = ap {B = List (Match V)} (λ l. elim l [ [] ↦ standard_from width K 0 [] w | _ ∷ _ ↦ empty_matches width K w ]) is ∙ each-is [] w

    follows_empty : (w : List ℕ) (m : Match V) (ms : List (Match V)) → each 0 w ≡ m ∷ ms → FollowsFirst width K w m ms
    follows_empty [] m ms e =
        let first : Match V = record { start = 0; end = 0; value = v } in
        let same = heads first m [] ms e in
        let start = ap (λ (x : Match V). x.start) same in
        let end = ap (λ (x : Match V). x.end) same in
        record {
          passed = [];
          rest = [];
          splits = refl;
          order = omega (arith, start, end);
          end = omega (arith, end);
          nonempty = λ lt. absurd (omega (arith, start, end, lt));
          empty = λ le u more is. absurd (omega (arith, ap length is));
          last = λ le is. sym (tails first m [] ms e);
        }
    follows_empty (u ∷ w) m ms e =
        let first : Match V = record { start = 0; end = 0; value = v } in
        let same = heads first m (each (0 + width u) w) ms e in
        let start = ap (λ (x : Match V). x.start) same in
        let end = ap (λ (x : Match V). x.end) same in
        record {
          passed = [];
          rest = u ∷ w;
          splits = refl;
          order = omega (arith, start, end);
          end = omega (arith, end);
          nonempty = λ lt. absurd (omega (arith, start, end, lt));
          empty = λ le x more is.
              let head : u ≡ x = cc in
              let tail : w ≡ more = cc in
              let far : 0 + width u ≡ (m.end + width u) + 0 = omega (arith, end) in
              sym (tails first m (each (0 + width u) w) ms e) ∙ ap (λ n. each n w) far ∙ each-shifted (m.end + width u) 0 w ∙ ap (map (shifted (m.end + width u))) (sym (standard-each w))
              ∙ ap (λ n. map (shifted (m.end + width n)) (standard width K w)) head ∙ ap (λ l. map (shifted (m.end + width x)) (standard width K l)) tail;
          last = λ le is. absurd (omega (arith, ap length is));
        }

  pub follows_first : (w : List ℕ) (m : Match V) (ms : List (Match V)) → standard width K w ≡ m ∷ ms → FollowsFirst width K w m ms
  follows_first w m ms e = by (K []) refl
    where
      by : (keys : List V) → K [] ≡ keys → FollowsFirst width K w m ms
      by [] none = follows_nonempty w m ms none e
      by (v ∷ vs) is = follows_empty v vs is w m ms (sym (standard-each v vs is w) ∙ e)
