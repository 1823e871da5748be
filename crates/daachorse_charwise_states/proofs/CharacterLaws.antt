-- Going over a mapper's table one gets the character of each code, since no two characters have the same.
use Rattle.std.proofs.Common.{◌≡◌, ◌≢◌, ℕ, suc, ◌<◌, ◌==◌, Bool, true, false, List, cond, length, get_or, set, Option, Some, None, refl, sym, ap, ◌∙◌, subst, arith}
use Rattle.std.proofs.Math.Utf8.{scalar}
use Rattle.std.proofs.lemmas.Option.{same_Some}
use Rattle.std.proofs.lemmas.List.{get_or-set_same, get_or-set_other, length-set}
use Rattle.daachorse_charwise_states.specs.Codings.{Coding, IsCoding, code_of}
use Rattle.daachorse_charwise_states.specs.Edges.{AreCharacters, character_at}
use Rattle.daachorse_charwise_states.specs.Parts.{char_code}
use Rattle.daachorse_charwise_states.proofs.Codes.{char_code-is, char_code-of}

-- the character at a code point is the code point
character_is : (u v : ℕ) → character_at u ≡ Some v → (scalar u ≡ true) × (u ≡ v)
character_is u v e = go (scalar u) e
  where
    go : (b : Bool) → cond b (Some u) None ≡ Some v → (b ≡ true) × (u ≡ v)
    go true is = (refl, same_Some u v is)
    go false is = absurd (cc)

module _ (coding : Coding) (is : IsCoding coding) where
  -- one more code point, which has a code
  character_more : (u k : ℕ) (old : List (Option ℕ)) → code_of coding u ≡ Some k → AreCharacters coding u old → AreCharacters coding (suc u) (set old k (character_at u))
  character_more u k old code so = record {
    size = length-set old k (character_at u) ∙ so.size;
    from_code = λ v j less e. at_code v j less e (v == u) refl;
    to_code = λ v j e. at_place v j e (j == k) refl;
  }
    where
      low : k < length old
      low = let below : k < coding.alphabet_size = is.below u k code in omega (arith, below, so.size)

      same : get_or (set old k (character_at u)) k None ≡ character_at u
      same = get_or-set_same old k (character_at u) None low

      at_code : (v j : ℕ) → v < suc u → char_code coding v ≡ Some j → (b : Bool) → (v == u) ≡ b → get_or (set old k (character_at u)) j None ≡ Some v
      at_code v j less e true test =
          let here : v ≡ u = grind (arith, test) in
          let own = char_code-is coding v j e in
          let place : j ≡ k = same_Some j k (sym own.1 ∙ (ap (code_of coding) here ∙ code)) in
          ap (λ i. get_or (set old k (character_at u)) i None) place ∙ (same ∙ (ap character_at (sym here) ∙ ap (λ b. cond b (Some v) None) own.0))
      at_code v j less e false test =
          let below : v < u = grind (arith, less, test) in
          let other : j ≢ k = λ place. (let here : v ≡ u = is.injective v u k ((char_code-is coding v j e).1 ∙ ap Some place) code in omega (arith, here, below)) in
          get_or-set_other old k j (character_at u) None other ∙ so.from_code v j below e

      at_place : (v j : ℕ) → get_or (set old k (character_at u)) j None ≡ Some v → (b : Bool) → (j == k) ≡ b → char_code coding v ≡ Some j
      at_place v j e true test =
          let place : j ≡ k = grind (arith, test) in
          let own = character_is u v (sym same ∙ (ap (λ i. get_or (set old k (character_at u)) i None) (sym place) ∙ e)) in
          ap (char_code coding) (sym own.1) ∙ (char_code-of coding u own.0 ∙ (code ∙ ap Some (sym place)))
      at_place v j e false test =
          let other : j ≢ k = grind (arith, test) in
          so.to_code v j (sym (get_or-set_other old k j (character_at u) None other) ∙ e)

  -- one more code point, which has none
  character_none : (u : ℕ) (old : List (Option ℕ)) → code_of coding u ≡ None → AreCharacters coding u old → AreCharacters coding (suc u) old
  character_none u old none so = record {
    size = so.size;
    from_code = λ v j less e. at_code v j less e (v == u) refl;
    to_code = so.to_code;
  }
    where
      at_code : (v j : ℕ) → v < suc u → char_code coding v ≡ Some j → (b : Bool) → (v == u) ≡ b → get_or old j None ≡ Some v
      at_code v j less e true test =
          let here : v ≡ u = grind (arith, test) in
          let both : None ≡ Some j = sym none ∙ (ap (code_of coding) (sym here) ∙ (char_code-is coding v j e).1) in absurd (cc)
      at_code v j less e false test = so.from_code v j (grind (arith, less, test)) e

  -- what is written at the code of the next code point
  pub character_written : (u n k : ℕ) (old new : List (Option ℕ)) → n ≡ suc u → code_of coding u ≡ Some k → new ≡ set old k (character_at u) → AreCharacters coding u old → AreCharacters coding n new
  character_written u n k old new next code written so =
      let P : ℕ → Type 0 = λ m. AreCharacters coding m (set old k (character_at u)) in
      let Q : List (Option ℕ) → Type 0 = λ l. AreCharacters coding n l in
      subst Q (sym written) (subst P (sym next) (character_more u k old code so))

  pub character_left : (u n : ℕ) (old : List (Option ℕ)) → n ≡ suc u → code_of coding u ≡ None → AreCharacters coding u old → AreCharacters coding n old
  character_left u n old next none so = let P : ℕ → Type 0 = λ m. AreCharacters coding m old in subst P (sym next) (character_none u old none so)
