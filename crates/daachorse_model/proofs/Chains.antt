-- The matches that end where the units read end are the outputs of the ends of the text, and those are the output chain of its state.
use Rattle.std.proofs.Common.{◌≡◌, ◌≢◌, ℕ, ◌+◌, ◌-◌, ◌≤◌, List, [], ◌∷◌, ◌++◌, map, length, refl, sym, ap, ◌∙◌, subst, length-append, le_trans, arith}
use Rattle.std.proofs.lemmas.List.{map-append}
use Rattle.std.proofs.lemmas.Simd.{map-map}
use Rattle.daachorse_model.specs.Units.{size}
use Rattle.daachorse_model.specs.Dictionary.{Dictionary}
use Rattle.daachorse_model.specs.Matches.{matches_of, ending_at}
use Rattle.daachorse_model.specs.Prefixes.{IsSuffix, IsKey, IsLong, IsLink}
use Rattle.daachorse_model.specs.Outputs.{AllWithin, matches_of_outputs, own_outputs, outputs_of_ends, IsChain, at_root, at_dead, before_link}
use Rattle.daachorse_model.proofs.Suffixes.{size-append, IsSuffix-same, IsSuffix-cons, IsSuffix-size}
use Rattle.daachorse_model.proofs.Steps.{IsPrefix-key}
use Rattle.daachorse_model.proofs.Links.{link_of_rest}

pub AllWithin-append : {V : Type 0} (place : ℕ) (a b : List (V × ℕ)) → AllWithin place a → AllWithin place b → AllWithin place (a ++ b)
AllWithin-append place [] b p q = q
AllWithin-append place (x ∷ a) b p q = (p.0, AllWithin-append place a b p.1 q)

AllWithin-map : {V : Type 0} (place n : ℕ) (vs : List V) → n ≤ place → AllWithin place (map (λ v. (v, n)) vs)
AllWithin-map place n [] h = tt
AllWithin-map place n (v ∷ vs) h = (h, AllWithin-map place n vs h)

module _ {V : Type 0} (width : ℕ → ℕ) (K : Dictionary V) where
  no_value : (w : List ℕ) → ¬ IsKey K w → own_outputs width K w ≡ []
  no_value w none = none_of (K w) none
    where
      none_of : (vs : List V) → ¬ (vs ≢ []) → map {B = V × ℕ} (λ v. (v, size width w)) vs ≡ []
      none_of [] h = refl
      none_of (v ∷ vs) h = absurd (h (λ e. cc))

  -- where no key that ends w is longer than the end s
  pub outputs_of_keys : (w s : List ℕ) → IsSuffix s w → ((t : List ℕ) → IsSuffix t w → IsKey K t → length t ≤ length s) → outputs_of_ends width K w ≡ outputs_of_ends width K s
  outputs_of_keys w s ends longest = split w ends.0 ends.1 longest
    where
      split : (w front : List ℕ) → front ++ s ≡ w → ((t : List ℕ) → IsSuffix t w → IsKey K t → length t ≤ length s) → outputs_of_ends width K w ≡ outputs_of_ends width K s
      split w [] e longest = ap (outputs_of_ends width K) (sym e)
      split [] (x ∷ front) e longest = absurd (cc)
      split (u ∷ w) (x ∷ front) e longest =
          let inside : front ++ s ≡ w = cc in
          let none : own_outputs width K (u ∷ w) ≡ [] = no_value (u ∷ w) (λ key. omega (arith, longest (u ∷ w) (IsSuffix-same (u ∷ w)) key, ap length inside, length-append front s)) in
          ap (λ l. l ++ outputs_of_ends width K w) none ∙ split w front inside (λ t p q. longest t (IsSuffix-cons t w u p) q)

  -- the ends that are too long to begin a key have no values
  pub outputs-IsLong : (w s : List ℕ) → IsLong K w s → outputs_of_ends width K w ≡ outputs_of_ends width K s
  outputs-IsLong w s h = outputs_of_keys w s h.ends (λ t p key. h.longest t p (IsPrefix-key K t key))

  pub outputs-IsChain : {dead : List ℕ → Type 0} → ((x : List ℕ) → ¬ dead x) → {w : List ℕ} {l : List (V × ℕ)} → IsChain width K dead w l → l ≡ outputs_of_ends width K w
  outputs-IsChain alive at_root = refl
  outputs-IsChain alive (at_dead {w} dead) = absurd (alive w dead)
  outputs-IsChain alive (before_link {w} {s} {l} link _ rest) = joined w s l link (outputs-IsChain alive rest)
    where
      joined : (w s : List ℕ) (l : List (V × ℕ)) → IsLink K w s → l ≡ outputs_of_ends width K s → own_outputs width K w ++ l ≡ outputs_of_ends width K w
      joined [] s l link e = absurd (omega (arith, link.shorter))
      joined (u ∷ w) s l link e = ap (λ x. own_outputs width K (u ∷ w) ++ x) (e ∙ sym (outputs-IsLong w s (link_of_rest K u w s link)))

  matches-own : (s e : ℕ) (w : List ℕ) → s + size width w ≡ e → matches_of K s e w ≡ matches_of_outputs e (own_outputs width K w)
  matches-own s e w sum =
      let start : s ≡ e - size width w = omega (arith, sum) in
      ap (λ n. map (λ v. record { start = n; end = e; value = v }) (K w)) start ∙ sym (map-map _ _ (K w))

  -- the matches of the ends of w, where it stands from s to e
  pub ending_at-outputs : (s e : ℕ) (w : List ℕ) → s + size width w ≡ e → ending_at width K s e w ≡ matches_of_outputs e (outputs_of_ends width K w)
  ending_at-outputs s e [] sum = matches-own s e [] sum
  ending_at-outputs s e (u ∷ w) sum =
      ap (λ l. l ++ ending_at width K (s + width u) e w) (matches-own s e (u ∷ w) sum)
      ∙ ap (λ l. matches_of_outputs e (own_outputs width K (u ∷ w)) ++ l) (ending_at-outputs (s + width u) e w (omega (arith, sum)))
      ∙ sym (map-append _ (own_outputs width K (u ∷ w)) (outputs_of_ends width K w))

  AllWithin-ends : (place : ℕ) (w : List ℕ) → size width w ≤ place → AllWithin place (outputs_of_ends width K w)
  AllWithin-ends place [] h = AllWithin-map place 0 (K []) h
  AllWithin-ends place (u ∷ w) h =
      AllWithin-append place (own_outputs width K (u ∷ w)) (outputs_of_ends width K w) (AllWithin-map place (size width (u ∷ w)) (K (u ∷ w)) h)
      (AllWithin-ends place w (le_trans (IsSuffix-size width w (u ∷ w) (u ∷ [], refl)) h))

  -- The chain of the state of what was read, of an automaton with no dead link.
  module _ (dead : List ℕ → Type 0) (alive : (x : List ℕ) → ¬ dead x) where
    -- Of a search that began anew after `before`: the matches that start there or later.
    pub ending_at-IsChain : (before since w : List ℕ) (l : List (V × ℕ)) → IsLong K since w → IsChain width K dead w l
        → ending_at width K (size width before) (size width (before ++ since)) since ≡ matches_of_outputs (size width (before ++ since)) l
    ending_at-IsChain before since w l is chain =
        let place : ℕ = size width (before ++ since) in
        ending_at-outputs (size width before) place since (sym (size-append width before since)) ∙ ap (matches_of_outputs place) (outputs-IsLong since w is ∙ sym (outputs-IsChain alive chain))

    -- No output is longer than all that was read.
    pub AllWithin-IsChain : (all w : List ℕ) (l : List (V × ℕ)) → IsSuffix w all → IsChain width K dead w l → AllWithin (size width all) l
    AllWithin-IsChain all w l ends chain =
        let P : List (V × ℕ) → Type 0 = λ x. AllWithin (size width all) x in
        subst P (sym (outputs-IsChain alive chain)) (AllWithin-ends (size width all) w (IsSuffix-size width w all ends))
