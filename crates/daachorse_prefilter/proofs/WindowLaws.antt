-- A window keeps of a text just what one byte more needs: how many bytes were read, the last of them, and whether their pairs pass.
use Rattle.std.proofs.Common.{◌≡◌, ℕ, zero, suc, ◌+◌, ◌-◌, ◌*◌, ◌<◌, ◌≤◌, Bool, true, ◌&&◌, List, [], ◌∷◌, ◌++◌, length, get_or, refl, sym, ap, ◌∙◌, arith}
use Rattle.std.proofs.lemmas.List.{get_or_append_left, get_or_push, length-append, length_push}
use Rattle.daachorse_model.specs.Filter.{is_clear, pairs_pass}
use Rattle.daachorse_prefilter.specs.Filters.{Filter, admits, entry_of}
use Rattle.daachorse_prefilter.specs.Windows.{HasRead}
use Rattle.daachorse_prefilter.specs.declared.prefilter.window.Window.{Window}
use Rattle.daachorse_prefilter.proofs.NextPlaces.{pairs_pass_more, passes-append}

-- pairs within a text are those of each longer one
pub pairs_pass-front : (t : ℕ → ℕ) (j k : ℕ) (w r : List ℕ) → k < length w → pairs_pass t j k (w ++ r) ≡ pairs_pass t j k w
pairs_pass-front t j zero w r h = refl
pairs_pass-front t j (suc k) [] r h = absurd (omega arith)
pairs_pass-front t j (suc k) (a ∷ []) r h = absurd (omega arith)
pairs_pass-front t j (suc k) (a ∷ b ∷ w) r h = ap (λ x. is_clear (t (a * 256 + b)) j && x) (pairs_pass-front t (suc j) k (b ∷ w) r (omega arith))

-- a byte more behind k + 1 of them
pairs_pass-push : (t : ℕ → ℕ) (k b : ℕ) (w : List ℕ) → length w ≡ suc k → pairs_pass t 0 (suc k) (w ++ b ∷ []) ≡ (pairs_pass t 0 k w && is_clear (t (get_or w k 0 * 256 + b)) k)
pairs_pass-push t k b w size =
    let longer = length_push w b in
    let first : get_or (w ++ b ∷ []) k 0 ≡ get_or w k 0 = get_or_append_left w (b ∷ []) 0 k (omega arith) in
    let second : get_or (w ++ b ∷ []) (suc k) 0 ≡ b = get_or_push w b 0 (suc k) size in
    pairs_pass_more t 0 k k (w ++ b ∷ []) (omega arith) (omega arith)
    ∙ ap (λ p. p && is_clear (t (get_or (w ++ b ∷ []) k 0 * 256 + get_or (w ++ b ∷ []) (suc k) 0)) k) (pairs_pass-front t 0 k w (b ∷ []) (omega arith))
    ∙ ap (λ n. pairs_pass t 0 k w && is_clear (t (n * 256 + get_or (w ++ b ∷ []) (suc k) 0)) k) first
    ∙ ap (λ n. pairs_pass t 0 k w && is_clear (t (get_or w k 0 * 256 + n)) k) second

module _ (f : Filter) (text : List ℕ) (s : Window) (wide : 2 ≤ f.window) (read : HasRead f text s) where
  -- the whole window was read before
  pub whole_read : (r : List ℕ) → f.window ≤ s.len → HasRead f (text ++ r) s
  whole_read r whole =
      let longer = length-append text r in
      record {
        len = omega (arith, read.len);
        last = λ some less. absurd (omega arith);
        passes = read.passes ∙ sym (pairs_pass-front (entry_of f) 0 (s.len - 1) text r (omega (arith, read.len)));
      }

  -- the first byte
  pub first_read : (b : ℕ) → s.len ≡ 0 → HasRead f (text ++ b ∷ []) record { len = s.len + 1; last = b; passes = s.passes }
  first_read b none =
      let longer = length_push text b in
      let empty : length text ≡ 0 = omega (arith, read.len) in
      let before : s.len - 1 ≡ 0 = omega arith in
      let after : s.len + 1 - 1 ≡ 0 = omega arith in
      record {
        len = omega arith;
        last = λ some less. sym (get_or_push text b 0 (s.len + 1 - 1) (empty ∙ sym after));
        passes = read.passes ∙ ap (λ k. pairs_pass (entry_of f) 0 k text) before ∙ sym (ap (λ k. pairs_pass (entry_of f) 0 k (text ++ b ∷ [])) after);
      }

  -- a byte more, which makes a pair with the last
  pub next_read : (b : ℕ) (passes : Bool) → 0 < s.len → s.len < f.window → passes ≡ (s.passes && is_clear (entry_of f (s.last * 256 + b)) (s.len - 1))
      → HasRead f (text ++ b ∷ []) record { len = s.len + 1; last = b; passes = passes }
  next_read b passes some less is =
      let longer = length_push text b in
      let k = s.len - 1 in
      let size : length text ≡ suc k = omega (arith, read.len) in
      let here : length text ≡ s.len + 1 - 1 = omega arith in
      let after : suc k ≡ s.len + 1 - 1 = omega arith in
      record {
        len = omega arith;
        last = λ some less. sym (get_or_push text b 0 (s.len + 1 - 1) here);
        passes =
            is ∙ ap (λ p. p && is_clear (entry_of f (s.last * 256 + b)) k) read.passes
            ∙ ap (λ n. pairs_pass (entry_of f) 0 k text && is_clear (entry_of f (n * 256 + b)) k) (read.last some less)
            ∙ sym (pairs_pass-push (entry_of f) k b text size)
            ∙ ap (λ n. pairs_pass (entry_of f) 0 n (text ++ b ∷ [])) after;
      }

-- where the filter passes at the beginning of a text it passes at that of each longer one
pub admits-append : (f : Filter) (w r : List ℕ) → admits f w ≡ true → admits f (w ++ r) ≡ true
admits-append f w r e = passes-append (entry_of f) f.window w r e
