-- Counts that grow, from step to step.
use Rattle.std.proofs.Common.{◌≡◌, ℕ, zero, suc, ◌<◌, ◌≤◌, List, [], ◌∷◌, length, get_or, set, refl, sym, ap, ◌∙◌, arith, length-append}
use Rattle.std.proofs.lemmas.List.{length-replicate, length-take}
use Rattle.std.proofs.lemmas.List.Elements.{length_all_zip}
use Rattle.daachorse_placement.specs.Profiles.{first_counts}
use Rattle.daachorse_placement.specs.declared.build_helper.profile.Profile.{Profile}
use Rattle.daachorse_build.specs.Counts.{HasCounts, HasSameCounts, HaveGrown, HasCountedMore}

pub grown_same : (xs : List ℕ) → HaveGrown xs xs
grown_same [] = tt
grown_same (x ∷ xs) = (omega arith, grown_same xs)

pub grown_twice : (xs ys zs : List ℕ) → HaveGrown xs ys → HaveGrown ys zs → HaveGrown xs zs
grown_twice [] [] [] h k = tt
grown_twice [] [] (z ∷ zs) h k = absurd k
grown_twice [] (y ∷ ys) zs h k = absurd h
grown_twice (x ∷ xs) [] zs h k = absurd h
grown_twice (x ∷ xs) (y ∷ ys) [] h k = absurd k
grown_twice (x ∷ xs) (y ∷ ys) (z ∷ zs) h k = (omega (arith, h.0, k.0), grown_twice xs ys zs h.1 k.1)

-- one count is set to a number that is no less
pub grown_set : (xs : List ℕ) (i n : ℕ) → i < length xs → get_or xs i 0 ≤ n → HaveGrown xs (set xs i n)
grown_set [] i n l h = tt
grown_set (x ∷ xs) zero n l h = (h, grown_same xs)
grown_set (x ∷ xs) (suc i) n l h = (omega arith, grown_set xs i n (omega arith) h)

module _ {A : Type 0} where
  pub counted_same : (p : Profile A) → HasCountedMore p p
  counted_same p = record { visits = grown_same p.visits.items; probes = grown_same p.probes.items }

  pub counted_twice : (p q r : Profile A) → HasCountedMore p q → HasCountedMore q r → HasCountedMore p r
  counted_twice p q r h k = record {
    visits = grown_twice p.visits.items q.visits.items r.visits.items h.visits k.visits;
    probes = grown_twice p.probes.items q.probes.items r.probes.items h.probes k.probes;
  }

  -- there are as many counts as before
  pub counts_stay : (n : ℕ) (p q : Profile A) → HasCounts n p → HasCountedMore p q → HasCounts n q
  counts_stay n p q h k = record {
    visits = sym (length_all_zip (λ a b. a ≤ b) p.visits.items q.visits.items k.visits) ∙ h.visits;
    probes = sym (length_all_zip (λ a b. a ≤ b) p.probes.items q.probes.items k.probes) ∙ h.probes;
  }

  pub same_counts : (p : Profile A) → HasSameCounts p p
  same_counts p = record { visits = refl; probes = refl }

  pub same_twice : (p q r : Profile A) → HasSameCounts p q → HasSameCounts q r → HasSameCounts p r
  same_twice p q r h k = record { visits = k.visits ∙ h.visits; probes = k.probes ∙ h.probes }

-- a list whose length changes has that length
pub length-resized : (xs : List ℕ) (n : ℕ) → length (first_counts xs n) ≡ n
length-resized xs n = simp (length-append, length-take, length-replicate) (omega arith)

-- a profile that was resized has a count of each kind for each state
pub counts_resized : {A : Type 0} (n : ℕ) (old new : Profile A) → new.visits.items ≡ first_counts old.visits.items n → new.probes.items ≡ first_counts old.probes.items n → HasCounts n new
counts_resized n old new visits probes = record {
  visits = ap length visits ∙ length-resized old.visits.items n;
  probes = ap length probes ∙ length-resized old.probes.items n;
}
