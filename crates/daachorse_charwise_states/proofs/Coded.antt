-- A table that is filled with the ranks of frequencies is their coding: the code at a code point is its rank.
use Rattle.std.proofs.Common.{◌≡◌, ◌≢◌, ℕ, ◌<◌, ◌^◌, ◌==◌, Bool, true, false, cond, List, length, slice_index, slice_get, Option, Some, None, IsSome, is_some, refl, sym, ap, subst, ◌∙◌, arith}
use Rattle.std.proofs.lemmas.Bool.{ne_eqb}
use Rattle.std.proofs.lemmas.Option.{slice_get_within, slice_get-get_or, get_or_from_slice_get}
use borrow.Author.Tests.{eqb-false}
use Rattle.daachorse_charwise_states.specs.Codings.{Coding, IsCodingOf, code_of, entry_code}
use Rattle.daachorse_charwise_states.specs.Ranks.{AreRanked, IsFilled, index_at, freq_at}

passes : (b : Bool) (n k : ℕ) → (n == 4294967295) ≡ b → cond {A = Option ℕ} b None (Some n) ≡ Some k → (n ≡ k) × (n ≢ 4294967295)
passes true n k t e = cc
passes false n k t e = (cc, eqb-false n 4294967295 t)

-- the entry of a code
entry_of : (o : Option ℕ) (k : ℕ) → entry_code o ≡ Some k → (o ≡ Some k) × (k ≢ 4294967295)
entry_of None k e = cc
entry_of (Some n) k e =
    let p = passes (n == 4294967295) n k refl e in
    let P : ℕ → Type 0 = λ j. j ≢ 4294967295 in
    (ap Some p.0, subst P p.0 p.1)

code_of_entry : (n : ℕ) → n ≢ 4294967295 → entry_code (Some n) ≡ Some n
code_of_entry n h = ap (λ b. cond {A = Option ℕ} b None (Some n)) (ne_eqb n 4294967295 h)

some_is : (o : Option ℕ) → IsSome o → (k : ℕ) × (o ≡ Some k)
some_is None h = cc
some_is (Some k) h = (k, refl)

module _ (freqs : List ℕ) (ranked : List (ℕ × ℕ)) (m : Coding) (few : length ranked < 2 ^ 32) (r : AreRanked freqs ranked)
    (size : m.alphabet_size ≡ length ranked) (entries : length m.table ≡ length freqs) (filled : IsFilled ranked (length ranked) m.table) where
  -- a code is the rank of its code point
  rank_of : (c k : ℕ) → code_of m c ≡ Some k → (k < length ranked) × (index_at ranked k ≡ c)
  rank_of c k e =
      let entry = entry_of (slice_get m.table c) k e in
      let l = slice_get_within m.table c k entry.0 in
      let here : slice_index m.table c ≡ k = get_or_from_slice_get m.table c k 0 entry.0 in
      let some : slice_index m.table c ≢ 4294967295 = λ none. entry.1 (sym here ∙ none) in
      let P : ℕ → Type 0 = λ j. (j < length ranked) × (index_at ranked j ≡ c) in
      subst P here (filled.below c l some, filled.read c l some)

  code_at : (c k : ℕ) → k < length ranked → index_at ranked k ≡ c → code_of m c ≡ Some k
  code_at c k l here =
      let inside : c < length m.table = omega (arith, r.inside k l) in
      let entry : slice_get m.table c ≡ Some k = slice_get-get_or m.table c 0 inside ∙ ap Some (ap (λ i. slice_index m.table i) (sym here) ∙ filled.written k l) in
      ap entry_code entry ∙ code_of_entry k (λ e. omega arith)

  freq_of : (c k : ℕ) → code_of m c ≡ Some k → slice_index freqs c ≡ freq_at ranked k
  freq_of c k e = let rank = rank_of c k e in ap (λ i. slice_index freqs i) (sym rank.1) ∙ r.freq k rank.0

  pub coding_from : IsCodingOf freqs m
  coding_from = record {
    coding = record {
      below = λ c k e. let rank = rank_of c k e in omega (arith, rank.0);
      injective = λ c d k e f. sym (rank_of c k e).1 ∙ (rank_of d k f).1;
    };
    entries = entries;
    coded = λ c. (
      λ some. (let code = some_is (code_of m c) some in let positive = r.positive code.0 (rank_of c code.0 code.1).0 in omega (arith, positive, freq_of c code.0 code.1)),
      λ h. (let rank = r.complete c h in ap is_some (code_at c rank.0 rank.1 rank.2)),
    );
    size = size ∙ r.size;
    falling = λ c d j k e f l. let falls = r.falling j k l (rank_of d k f).0 in omega (arith, falls, freq_of c j e, freq_of d k f);
    ties = λ c d j k e f l same.
        let up = r.ties j k l (rank_of d k f).0 (sym (freq_of c j e) ∙ (same ∙ freq_of d k f)) in
        omega (arith, up, (rank_of c j e).1, (rank_of d k f).1);
  }
