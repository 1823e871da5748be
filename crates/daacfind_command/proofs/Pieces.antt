-- An empty piece at the end is what `without_empty_end` leaves out.
use Rattle.std.proofs.Common.{◌≡◌, ℕ, ◌-◌, ◌==◌, Bool, IsTrue, Bor, List, [], ◌∷◌}
use Rattle.std.proofs.Common.{length, map, take, Some, slice_get, refl, ap, sym, ◌∙◌, rules, arith}
use Rattle.std.proofs.lemmas.List.{length-map}
use Rattle.std.proofs.lemmas.Option.{slice_get-map}
use Rattle.std.specs.List.{take-map}
use Rattle.std.specs.Option.{option_map}
use Rattle.daachorse_model.specs.Program.{without_empty_end}

-- the first of more pieces stays
first_stays : (p q : List ℕ) (ps : List (List ℕ)) → without_empty_end (p ∷ q ∷ ps) ≡ p ∷ without_empty_end (q ∷ ps)
first_stays [] q ps = refl
first_stays (b ∷ p) q ps = refl

dropped_of : (p : List ℕ) (ps : List (List ℕ)) → slice_get (p ∷ ps) (length ps) ≡ Some []
    → take (length ps) (p ∷ ps) ≡ without_empty_end (p ∷ ps)
dropped_of [] [] e = refl
dropped_of (b ∷ p) [] e = cc
dropped_of p (q ∷ ps) e = ap (λ l. p ∷ l) (dropped_of q ps e) ∙ sym (first_stays p q ps)

kept_of : (p : List ℕ) (ps : List (List ℕ)) → (¬ (slice_get (p ∷ ps) (length ps) ≡ Some [])) → p ∷ ps ≡ without_empty_end (p ∷ ps)
kept_of [] [] h = absurd (h refl)
kept_of (b ∷ p) [] h = refl
kept_of p (q ∷ ps) h = ap (λ l. p ∷ l) (kept_of q ps h) ∙ sym (first_stays p q ps)

-- the last piece is empty
pub without_last : (ps : List (List ℕ)) → slice_get ps (length ps - 1) ≡ Some [] → take (length ps - 1) ps ≡ without_empty_end ps
without_last [] e = refl
without_last (p ∷ ps) e =
    let n : length (p ∷ ps) - 1 ≡ length ps = omega arith in
    ap (λ k. take k (p ∷ ps)) n ∙ dropped_of p ps (rw n at e)

-- the last piece is not empty, or there is none
pub with_last : (ps : List (List ℕ)) → (¬ (slice_get ps (length ps - 1) ≡ Some [])) → ps ≡ without_empty_end ps
with_last [] h = refl
with_last (p ∷ ps) h =
    let n : length (p ∷ ps) - 1 ≡ length ps = omega arith in
    kept_of p ps (rw n at h)

-- the same of slices, of which there are n
pub texts_without_last : (n : ℕ) (ps qs : List (Bor (List ℕ))) → n ≡ length ps → qs ≡ take (n - 1) ps
    → slice_get (map (λ p. p.now) ps) (length ps - 1) ≡ Some []
    → map (λ q. q.now) qs ≡ without_empty_end (map (λ p. p.now) ps)
texts_without_last n ps qs l e h =
    let texts : List (List ℕ) = map (λ p. p.now) ps in
    let many : length texts ≡ length ps = length-map ps (λ p. p.now) in
    ap (map (λ q. q.now)) e ∙ sym (take-map (λ p. p.now) (n - 1) ps) ∙ ap (λ k. take (k - 1) texts) (l ∙ sym many)
    ∙ without_last texts (rw many h)

pub texts_with_last : (ps : List (Bor (List ℕ))) → (¬ (slice_get (map (λ p. p.now) ps) (length ps - 1) ≡ Some []))
    → map (λ p. p.now) ps ≡ without_empty_end (map (λ p. p.now) ps)
texts_with_last ps h =
    let many : length (map (λ p. p.now) ps) ≡ length ps = length-map ps (λ p. p.now) in
    with_last (map (λ p. p.now) ps) (rw many h)

is_empty_text : (l : List ℕ) (b : Bool) → b ≡ (length l == 0) → (IsTrue b → Some l ≡ Some []) × (Some l ≡ Some [] → IsTrue b)
is_empty_text [] b e = (λ _. refl, λ _. search rules)
is_empty_text (a ∷ l) b e = (λ t. search rules, λ f. cc)

-- whether a last slice is empty
pub ends_in_empty : (ps : List (Bor (List ℕ))) (x : Bor (List ℕ)) (k : ℕ) (b : Bool) → Some x ≡ slice_get ps k → b ≡ (length x.now == 0)
    → (IsTrue b → slice_get (map (λ p. p.now) ps) k ≡ Some []) × (slice_get (map (λ p. p.now) ps) k ≡ Some [] → IsTrue b)
ends_in_empty ps x k b e h =
    let at : slice_get (map (λ p. p.now) ps) k ≡ Some x.now = slice_get-map (λ p. p.now) ps k ∙ ap (option_map (λ p. p.now)) (sym e) in
    rw at (is_empty_text x.now b h)
