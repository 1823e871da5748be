-- The characters that a decoder gives are those of the bytes that it takes; and a source whose bytes are known is a text where they are UTF-8.
use Rattle.std.proofs.Common.{◌≡◌, ℕ, Option, Some, None, List, [], ◌∷◌, ◌++◌, Bool, true, ◌&&◌, length, arith, refl, sym, ap, ◌∙◌, subst, append-nil}
use Rattle.std.proofs.lemmas.Iterator.{IsCollectResult}
use Rattle.std.proofs.lemmas.Str.{chars-encodes}
use Rattle.std.proofs.Math.Utf8.{scalar, scalars, encodes}
use Rattle.std.specs.Iterator.{Count, IsFinite, Yields, Drains, YieldsFirst}
use Rattle.std.specs.Prelude.{Result, Ok, Err, IfOk, Vec}
use Rattle.std.specs.Str.{IsUtf8, chars}
use Rattle.std.specs.Str.Iter.{bytes_rest, bytes_steps}
use Rattle.std.specs.declared.str.Bytes.{Bytes}
use Rattle.std.specs.Vec.{vec_items}
use Rattle.daachorse_haystack.specs.DecodedSources.{Yields-encodes}
use Rattle.daachorse_haystack.specs.TextSources.{IsText, GivesCharacter}

module _ {S : Type 0} (can : S → Type 0) (steps : S → Option ℕ → S → Type 0) (left : S → Count) where
  pub scalars-run : (source : S) (cs : List ℕ) (rest : S) → Yields (GivesCharacter can steps left) source cs rest → scalars cs ≡ true
  scalars-run source [] rest same = refl
  scalars-run source (c ∷ cs) rest run = both (scalar c) (scalars cs) run.1.scalar (scalars-run run.0 cs rest run.2)
    where
      both : (a b : Bool) → a ≡ true → b ≡ true → (a && b) ≡ true
      both a b e d = rw (e, d)

  -- all characters up to the source's end are those of all its bytes
  pub Drains-chars : (source : S) (cs : List ℕ) → Drains (GivesCharacter can steps left) source cs → (bytes : List ℕ) × Drains steps source bytes × (cs ≡ chars bytes)
  Drains-chars source cs drains =
      let rest = drains.1.0 in let run = drains.1.1 in
      (encodes cs, (drains.0, (rest, Yields-encodes can steps left source cs rest run, drains.1.2)), sym (chars-encodes cs (scalars-run source cs rest run)))

  -- what `collect` made of them
  pub collect-chars : {Z E : Type 0} (source p : S) (r : Result (Vec ℕ Z) E) → source ≡ p → IsCollectResult (GivesCharacter can steps left) source r
      → IfOk r (λ v. (bytes : List ℕ) × Drains steps p bytes × (vec_items v ≡ chars bytes))
  collect-chars source p (Err e) is d = tt
  collect-chars source p (Ok v) is d =
      let run = d.1 in let ended = run.2 tt in
      let whole = Drains-chars source d.0 (ended.0, (run.0, run.1, ended.1)) in
      let D : S → Type 0 = λ s. Drains steps s whole.0 in
      (whole.0, subst D is whole.1, d.2.0 ∙ whole.2)

-- a source that shows the bytes which it gives
module _ {S : Type 0} (steps : S → Option ℕ → S → Type 0) (bytes : S → List ℕ) (gives : (s : S) (r : Option ℕ) (t : S) → steps s r t → YieldsFirst bytes s r t) where
  given : (s : S) (xs : List ℕ) (t : S) → Yields steps s xs t → bytes s ≡ xs ++ bytes t
  given s [] t same = ap bytes same
  given s (b ∷ xs) t run = gives s (Some b) run.0 run.1 ∙ ap (λ w. b ∷ w) (given run.0 xs t run.2)

  pub all_given : (s : S) (xs : List ℕ) → Drains steps s xs → bytes s ≡ xs
  all_given s xs drains = let none = gives drains.1.0 None drains.0 drains.1.2 in given s xs drains.1.0 drains.1.1 ∙ ap (λ w. xs ++ w) none.0 ∙ append-nil xs

  pub IsText-known : (can : S → Type 0) (left : S → Count) (source : S) → can source → IsFinite (left source) → IsUtf8 (bytes source) → IsText can steps left source
  IsText-known can left source callable ends utf8 = record {
    callable = callable;
    ends = ends;
    begins = λ xs rest run. (bytes rest, subst IsUtf8 (given source xs rest run) utf8);
    whole = λ xs drains. subst IsUtf8 (all_given source xs drains) utf8;
  }

empty : (w : List ℕ) → length w ≡ 0 → w ≡ []
empty [] e = refl
empty (b ∷ w) e = absurd (omega (arith, e))

bytes_first : (s : Bytes) (r : Option ℕ) (t : Bytes) → bytes_steps s r t → YieldsFirst bytes_rest s r t
bytes_first s None t h = let none = empty (bytes_rest s) h.0 in (none, ap (λ (x : Bytes). bytes_rest x) h.1 ∙ none)
bytes_first s (Some b) t h = h

-- the bytes of a string are a text, and all of them are the string
pub all_bytes : (source : Bytes) (xs : List ℕ) → Drains bytes_steps source xs → bytes_rest source ≡ xs
all_bytes = all_given bytes_steps (λ s. bytes_rest s) bytes_first

pub IsText-bytes : (can : Bytes → Type 0) (left : Bytes → Count) (source : Bytes) → can source → IsFinite (left source) → IsUtf8 (bytes_rest source) → IsText can bytes_steps left source
IsText-bytes can left source callable ends utf8 = IsText-known bytes_steps (λ s. bytes_rest s) bytes_first can left source callable ends utf8
