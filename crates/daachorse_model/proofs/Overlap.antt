-- Leftmost matches do not overlap.
use Rattle.std.proofs.Common.{◌≡◌, ℕ, zero, suc, ◌+◌, ◌≤◌, Bool, true, false, List, [], ◌∷◌, ◌++◌, length, take, refl, ap, sym, ◌∙◌, arith, Option, Some, None, ◌⊎◌, inl, inr}
use Rattle.std.specs.Prelude.{option_map, slice_get}
use Rattle.std.specs.Option.{option_or}
use Rattle.std.proofs.lemmas.List.{append_assoc, append-nil}
use Rattle.daachorse_model.specs.declared.Match.{Match}
use Rattle.daachorse_model.specs.Units.{size}
use Rattle.daachorse_model.specs.Dictionary.{Dictionary}
use Rattle.daachorse_model.specs.Leftmost.{key_with_value, longest_key, match_at, units_to_skip, is_after, leftmost_from, leftmost}
use Rattle.daachorse_model.specs.Laws.{Follows}

-- k is t followed by a beginning of w, and has its first value
pub record Begins {V : Type 0} (K : Dictionary V) (t w : List ℕ) (k : List ℕ × V) : Type 0 where
  pub more : List ℕ
  pub rest : List ℕ
  pub others : List V
  pub key : k.0 ≡ t ++ more
  pub splits : w ≡ more ++ rest
  pub first : K k.0 ≡ k.1 ∷ others

pub take-append : (x y : List ℕ) → take (length x) (x ++ y) ≡ x
take-append [] y = refl
take-append (u ∷ x) y = ap {B = List ℕ} (λ r. u ∷ r) (take-append x y)

option_or-some : {A : Type 0} (a b : Option A) (k : A) → option_or a b ≡ Some k → (a ≡ Some k) ⊎ (b ≡ Some k)
option_or-some None b k e = inr e
option_or-some (Some x) b k e = inl e

key_with_value-begins : {V : Type 0} (K : Dictionary V) (t w : List ℕ) (vs : List V) (k : List ℕ × V) → K t ≡ vs → option_map (λ v. (t, v)) (slice_get vs 0) ≡ Some k → Begins K t w k
key_with_value-begins K t w [] k is e = cc
key_with_value-begins K t w (v ∷ vs) k is e =
    let text : k.0 ≡ t = cc in
    let value : k.1 ≡ v = cc in
    record { more = []; rest = w; others = vs; key = text ∙ sym (append-nil t); splits = refl; first = ap K text ∙ is ∙ ap (λ x. x ∷ vs) (sym value) }

pub longest_key-begins : {V : Type 0} (K : Dictionary V) (t w : List ℕ) (k : List ℕ × V) → longest_key K t w ≡ Some k → Begins K t w k
longest_key-begins K t [] k e = key_with_value-begins K t [] (K t) k refl e
longest_key-begins K t (u ∷ w) k e =
    elim (option_or-some (longest_key K (t ++ u ∷ []) w) (key_with_value K t) k e) [
      | inl longer ↦
          let b = longest_key-begins K (t ++ u ∷ []) w k longer in
          record { more = u ∷ b.more; rest = b.rest; others = b.others; key = b.key ∙ append_assoc t (u ∷ []) b.more; splits = ap (λ r. u ∷ r) b.splits; first = b.first }
      | inr own ↦ key_with_value-begins K t (u ∷ w) (K t) k refl own
    ]

pub Follows-earlier : {V : Type 0} (r s : ℕ) (ms : List (Match V)) → r ≤ s → Follows s ms → Follows r ms
Follows-earlier r s [] le f = tt
Follows-earlier r s (m ∷ ms) le f = (omega arith, f.1, f.2)

-- what is given at s, and then matches that follow its end
match_at-follows : {V : Type 0} (width : ℕ → ℕ) (K : Dictionary V) (s u : ℕ) (after : Bool) (w : List ℕ) (best : Option (List ℕ × V)) (ms : List (Match V))
    → ((k : List ℕ × V) → best ≡ Some k → Begins K [] (u ∷ w) k)
    → Follows (s + width u + size width (take (units_to_skip best) w)) ms → Follows s (match_at width s after best ++ ms)
match_at-follows width K s u after w None ms begins f = Follows-earlier s (s + width u + size width (take 0 w)) ms (omega arith) f
match_at-follows width K s u true w (Some ([], v)) ms begins f = Follows-earlier s (s + width u + size width (take 0 w)) ms (omega arith) f
match_at-follows width K s u false w (Some ([], v)) ms begins f = (omega arith, omega arith, Follows-earlier s (s + width u + size width (take 0 w)) ms (omega arith) f)
match_at-follows width K s u after w (Some (c ∷ p, v)) ms begins f =
    let b = begins (c ∷ p, v) refl in
    let whole : u ∷ w ≡ c ∷ (p ++ b.rest) = b.splits ∙ ap (λ r. r ++ b.rest) (sym b.key) in
    let first : u ≡ c = cc in
    let others : w ≡ p ++ b.rest = cc in
    let skipped : take (length p) w ≡ p = ap (λ r. take (length p) r) others ∙ take-append p b.rest in
    let end : s + width u + size width (take (length p) w) ≡ s + (width c + size width p) = rw (skipped, first) (omega arith) in
    (omega arith, omega arith, Follows-earlier (s + (width c + size width p)) (s + width u + size width (take (length p) w)) ms (omega arith) f)

-- what is given at s alone
match_at-alone : {V : Type 0} (width : ℕ → ℕ) (s : ℕ) (after : Bool) (best : Option (List ℕ × V)) → Follows s (match_at width s after best)
match_at-alone width s after None = tt
match_at-alone width s true (Some ([], v)) = tt
match_at-alone width s false (Some ([], v)) = (omega arith, omega arith, tt)
match_at-alone width s after (Some (c ∷ p, v)) = (omega arith, omega arith, tt)

leftmost-follows : {V : Type 0} (width : ℕ → ℕ) (K : Dictionary V) (s skip : ℕ) (after : Bool) (w : List ℕ)
    → Follows (s + size width (take skip w)) (leftmost_from width K s skip after w)
leftmost-follows width K s (suc skip) after [] = tt
leftmost-follows width K s (suc skip) after (u ∷ w) = Follows-earlier (s + (width u + size width (take skip w))) (s + width u + size width (take skip w)) _ (omega arith) (leftmost-follows width K (s + width u) skip after w)
leftmost-follows width K s zero after [] = Follows-earlier (s + 0) s _ (omega arith) (match_at-alone width s after (longest_key K [] []))
leftmost-follows width K s zero after (u ∷ w) =
    let best = longest_key K [] (u ∷ w) in
    Follows-earlier (s + 0) s _ (omega arith)
    (match_at-follows width K s u after w best (leftmost_from width K (s + width u) (units_to_skip best) (is_after after best) w)
    (λ k e. longest_key-begins K [] (u ∷ w) k e) (leftmost-follows width K (s + width u) (units_to_skip best) (is_after after best) w))

pub leftmost_apart : {V : Type 0} (width : ℕ → ℕ) (K : Dictionary V) (h : List ℕ) → Follows 0 (leftmost width K h)
leftmost_apart width K h = leftmost-follows width K 0 zero false h
