-- A byte from a reader takes one place, so those of all that it has left fit.
use Rattle.std.proofs.Common.{◌≡◌, ℕ, ◌+◌, List, [], ◌∷◌, ◌++◌, map, length, Option, ap, arith}
use Rattle.std.proofs.lemmas.List.{length-map}
use Rattle.std.specs.Iterator.{Yields, at_most}
use Rattle.std.specs.Prelude.{⊤}
use Rattle.daachorse_model.specs.Units.{size, byte_width}
use Rattle.daachorse_model.proofs.Suffixes.{size-append, size-bytes}
use Rattle.daachorse_haystack.specs.ByteSources.{Reads-yields}
use Rattle.daachorse_haystack.specs.Sources.{IsReady}
use Rattle.daachorse_search.specs.Readers.{GivesByte, MayReadBytes, Reading}

module _ {R : Type 0} (known : R → Option (List ℕ)) where
  -- each byte takes one place
  pub bytes_take : (s : Reading R) (bytes : List ℕ) (t : Reading R) → Yields (GivesByte known) s bytes t → length bytes + t.left ≡ s.left
  bytes_take s [] t same = let P : s.left ≡ t.left = ap (λ (x : Reading R). x.left) same in omega arith
  bytes_take s (b ∷ bytes) t run = omega (arith, run.1.1, bytes_take run.0 bytes t run.2)

  pub MayReadBytes-ready : (s : Reading R) (read : List ℕ) → MayReadBytes s read → IsReady (λ _. ⊤) (GivesByte known) (λ x. at_most x.left) (λ b. b) byte_width s (size byte_width read)
  MayReadBytes-ready s read fits = record {
    callable = tt;
    ends = tt;
    fits = λ bytes rest reads.
        let run = Reads-yields (λ _. ⊤) (GivesByte known) (λ x. at_most x.left) (λ b. b) byte_width s bytes rest reads in
        omega (arith, bytes_take s bytes rest run, size-bytes (map (λ b. b) bytes), length-map bytes (λ b. b), fits);
  }

  pub MayReadBytes-kept : (s : Reading R) (read bytes : List ℕ) (t : Reading R) → MayReadBytes s read → Yields (GivesByte known) s bytes t → MayReadBytes t (read ++ map (λ b. b) bytes)
  MayReadBytes-kept s read bytes t fits run = omega (arith, bytes_take s bytes t run, size-append byte_width read (map (λ b. b) bytes), size-bytes (map (λ b. b) bytes), length-map bytes (λ b. b), fits)
