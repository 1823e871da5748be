-- A character takes as many places as bytes from a reader, so those of all that it has left fit.
use Rattle.std.proofs.Common.{◌≡◌, ℕ, ◌+◌, List, [], ◌∷◌, ◌++◌, map, Option, Some, ap, arith}
use Rattle.std.specs.Prelude.{⊤}
use Rattle.std.proofs.Math.Utf8.{encode}
use Rattle.std.proofs.lemmas.List.{map-id}
use Rattle.std.proofs.lemmas.Str.{length-encode}
use Rattle.std.specs.Iterator.{Yields, at_most}
use Rattle.daachorse_model.specs.Units.{size, char_width}
use Rattle.daachorse_model.proofs.Suffixes.{size-append}
use Rattle.daachorse_haystack.specs.ByteSources.{Reads-yields}
use Rattle.daachorse_haystack.specs.Sources.{IsReady}
use Rattle.daachorse_search.specs.ByteReaders.{bytes_take}
use Rattle.daachorse_search.specs.Readers.{GivesCharacter, MayReadCharacters, Reading}

module _ {R : Type 0} (known : R → Option (List ℕ)) where
  -- a character takes as many places as it has bytes
  pub character_takes : (s : Reading R) (c : ℕ) (t : Reading R) → GivesCharacter known s (Some c) t → char_width c + t.left ≡ s.left
  character_takes s c t gave = omega (arith, bytes_take known s (encode c) t gave.1, length-encode c)

  characters_take : (s : Reading R) (cs : List ℕ) (t : Reading R) → Yields (GivesCharacter known) s cs t → size char_width cs + t.left ≡ s.left
  characters_take s [] t same = let P : s.left ≡ t.left = ap (λ (x : Reading R). x.left) same in omega arith
  characters_take s (c ∷ cs) t run = omega (arith, character_takes s c run.0 run.1, characters_take run.0 cs t run.2)

  same_size : (cs : List ℕ) → size char_width (map (λ c. c) cs) ≡ size char_width cs
  same_size cs = ap (size char_width) (map-id cs)

  pub MayReadCharacters-ready : (s : Reading R) (read : List ℕ) → MayReadCharacters s read
      → IsReady (λ _. ⊤) (GivesCharacter known) (λ x. at_most x.left) (λ c. c) char_width s (size char_width read)
  MayReadCharacters-ready s read fits = record {
    callable = tt;
    ends = tt;
    fits = λ cs rest reads.
        let run = Reads-yields (λ _. ⊤) (GivesCharacter known) (λ x. at_most x.left) (λ c. c) char_width s cs rest reads in
        omega (arith, characters_take s cs rest run, same_size cs, fits);
  }

  pub MayReadCharacters-kept : (s : Reading R) (read cs : List ℕ) (t : Reading R) → MayReadCharacters s read → Yields (GivesCharacter known) s cs t → MayReadCharacters t (read ++ map (λ c. c) cs)
  MayReadCharacters-kept s read cs t fits run = omega (arith, characters_take s cs t run, same_size cs, size-append char_width read (map (λ c. c) cs), fits)
