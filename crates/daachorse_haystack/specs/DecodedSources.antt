-- A decoded source takes as many places for its characters as the source under it gives bytes for them.
use Rattle.std.proofs.Common.{◌≡◌, ℕ, ◌+◌, ◌≤◌, List, [], ◌∷◌, ◌++◌, map, length, Option, refl, ap, ◌∙◌, ◌<◌, ◌^◌, arith, length-append}
use Rattle.std.proofs.Math.Utf8.{encode, encodes}
use Rattle.std.proofs.lemmas.List.{map-id}
use Rattle.std.proofs.lemmas.Str.{length-encode}
use Rattle.std.specs.Iterator.{Count, Yields, items_left}
use Rattle.daachorse_model.specs.Units.{size, char_width}
use Rattle.daachorse_model.proofs.Suffixes.{size-append}
use Rattle.daachorse_haystack.specs.ByteSources.{Yields_append, Reads-yields, CountFits-run, CountFits-after}
use Rattle.daachorse_haystack.specs.Sources.{IsReady}
use Rattle.daachorse_haystack.specs.TextSources.{IsText, IsTextFrom, TakesCharacter, GivesCharacter}

pub size-encodes : (cs : List ℕ) → size char_width cs ≡ length (encodes cs)
size-encodes [] = refl
size-encodes (c ∷ cs) = omega (arith, length-encode c, length-append (encode c) (encodes cs), size-encodes cs)

size-given : (cs : List ℕ) → size char_width (map (λ c. c) cs) ≡ length (encodes cs)
size-given cs = ap (size char_width) (map-id cs) ∙ size-encodes cs

module _ {S : Type 0} (can : S → Type 0) (steps : S → Option ℕ → S → Type 0) (left : S → Count) where
  -- the bytes of all characters came from the source
  pub Yields-encodes : (source : S) (cs : List ℕ) (rest : S) → Yields (GivesCharacter can steps left) source cs rest → Yields steps source (encodes cs) rest
  Yields-encodes source [] rest same = same
  Yields-encodes source (c ∷ cs) rest run = Yields_append steps source (encode c) run.0 (encodes cs) rest run.1.took (Yields-encodes run.0 cs rest run.2)

  fewer_left : (source : S) (cs : List ℕ) (rest : S) → Yields (GivesCharacter can steps left) source cs rest → length (encodes cs) + items_left left rest ≤ items_left left source
  fewer_left source [] rest same = omega (arith, ap (items_left left) same)
  fewer_left source (c ∷ cs) rest run = omega (arith, run.1.fewer, fewer_left run.0 cs rest run.2, length-encode c, length-append (encode c) (encodes cs))

  pub IsTextFrom-ready : (source : S) (read : List ℕ) → IsTextFrom can steps left source (size char_width read)
      → IsReady (IsText can steps left) (GivesCharacter can steps left) left (λ c. c) char_width source (size char_width read)
  IsTextFrom-ready source read h = record {
    callable = h.text;
    ends = h.text.ends;
    fits = λ cs rest reads.
        let run = Reads-yields (IsText can steps left) (GivesCharacter can steps left) left (λ c. c) char_width source cs rest reads in
        omega (arith, CountFits-run steps left (size char_width read) source (encodes cs) rest (Yields-encodes source cs rest run) (fewer_left source cs rest run) h.fits, size-given cs);
  }

  -- the place behind the characters that were taken fits too
  pub IsTextFrom-kept : (source : S) (read cs : List ℕ) (later : S) → IsTextFrom can steps left source (size char_width read) → Yields (GivesCharacter can steps left) source cs later
      → IsText can steps left later → IsTextFrom can steps left later (size char_width (read ++ map (λ c. c) cs))
  IsTextFrom-kept source read cs later h run text = record {
    text = text;
    fits = CountFits-after steps left (size char_width read) source (encodes cs) later (Yields-encodes source cs later run) (fewer_left source cs later run)
        (size char_width (read ++ map (λ c. c) cs)) (omega (arith, size-append char_width read (map (λ c. c) cs), size-given cs)) h.fits;
  }

  -- the place behind one character fits
  module _ (source : S) (c : ℕ) (rest : S) (place : ℕ) (h : IsTextFrom can steps left source place) (took : TakesCharacter can steps left source c rest) where
    pub IsTextFrom-place : place + char_width c < 2 ^ 64
    IsTextFrom-place = omega (arith, CountFits-run steps left place source (encode c) rest took.took (omega (arith, took.fewer, length-encode c)) h.fits, length-encode c)

    pub IsTextFrom-next : (later : ℕ) → later ≡ place + char_width c → IsText can steps left rest → IsTextFrom can steps left rest later
    IsTextFrom-next later is text = record {
      text = text;
      fits = CountFits-after steps left place source (encode c) rest took.took (omega (arith, took.fewer, length-encode c)) later (omega (arith, is, length-encode c)) h.fits;
    }
