-- What is put out of the matches that are left, behind what was put out for those before them.
use Rattle.std.proofs.Common.{◌≡◌, ℕ, suc, List, [], ◌∷◌, length, map, Option, refl, sym, ap, subst, append_assoc}
use Rattle.std.specs.Prelude.{slice_range}
use Rattle.std.specs.Io.KnownBytes.{Appends}
use Rattle.std.proofs.KnownBytes.{Appends-trans}
use Rattle.daachorse_model.specs.declared.Match.{Match}
use Rattle.daachorse_streams.specs.Replaced.{AppendsBeginning, AreGiven, IsGiven, OfReplaced, OfReplacedSoFar, with_pieces_from}
use Rattle.daachorse_streams.proofs.InTurn.{rest_is}
use Rattle.daachorse_streams.proofs.Sending.{AppendsBeginning-behind, AppendsBeginning-more}

module _ {V P : Type 0} (bytes : P → List ℕ) (haystack : List ℕ) (gives : Match V → P → P → Type 0) where
  -- Q of the haystack from s on, with a piece in place of each of these matches
  abbrev OfRest : ℕ → List (Match V) → (List ℕ → Type 0) → Type 0
  OfRest s ms Q =
      (given : List P) × AreGiven bytes haystack gives ms given × (length given ≡ length ms)
      × Q (with_pieces_from haystack s ms (map bytes given))

  abbrev OfRestSoFar : ℕ → List (Match V) → (List ℕ → Type 0) → Type 0
  OfRestSoFar s ms Q = (given : List P) × AreGiven bytes haystack gives ms given × Q (with_pieces_from haystack s ms (map bytes given))

  -- from this output at s on, whatever is put out of the matches that are left is put out of all matches from the start
  pub record PutsOut (whole : List (Match V)) (old : Option (List ℕ)) (s : ℕ) (ms : List (Match V)) (out : Option (List ℕ)) : Type 0 where
    pub all : (new : Option (List ℕ)) → OfRest s ms (Appends out new) → OfReplaced bytes haystack gives whole (Appends old new)
    pub some : (new : Option (List ℕ)) → OfRestSoFar s ms (AppendsBeginning out new)
        → OfReplacedSoFar bytes haystack gives whole (AppendsBeginning old new)

module _ {V P : Type 0} {bytes : P → List ℕ} {haystack : List ℕ} {gives : Match V → P → P → Type 0} {whole ms : List (Match V)}
    {old out : Option (List ℕ)} {s : ℕ} (h : PutsOut bytes haystack gives whole old s ms out) where
  module _ (m : Match V) (rest : List (Match V)) (is : ms ≡ m ∷ rest) where
    next_of : (Q : List ℕ → Type 0) → OfRest bytes haystack gives s (m ∷ rest) Q → OfRest bytes haystack gives s ms Q
    next_of Q = subst (λ (l : List (Match V)). OfRest bytes haystack gives s l Q) (sym is)

    next_so_far : (Q : List ℕ → Type 0) → OfRestSoFar bytes haystack gives s (m ∷ rest) Q → OfRestSoFar bytes haystack gives s ms Q
    next_so_far Q = subst (λ (l : List (Match V)). OfRestSoFar bytes haystack gives s l Q) (sym is)

    -- the output took a beginning of the piece up to the next match
    pub refuses_before : (new : Option (List ℕ)) → AppendsBeginning out new (slice_range haystack s m.start)
        → OfReplacedSoFar bytes haystack gives whole (AppendsBeginning old new)
    refuses_before new part = h.some new (next_so_far (AppendsBeginning out new) ([], tt, part))

    module _ (p : P) (one : IsGiven bytes haystack gives m p) (at : Option (List ℕ))
        (before : Appends out at (slice_range haystack s m.start)) where
      -- the output took a beginning of what was given for the next match
      pub refuses_within : (new : Option (List ℕ)) → AppendsBeginning at new (bytes p)
          → OfReplacedSoFar bytes haystack gives whole (AppendsBeginning old new)
      refuses_within new part =
          h.some new (next_so_far (AppendsBeginning out new) (
            p ∷ [],
            (one, tt),
            AppendsBeginning-more out at new _ (slice_range haystack s m.start) (bytes p)
                (with_pieces_from haystack m.end rest []) refl before part,
          ))

      pub goes_on : (next : Option (List ℕ)) → Appends at next (bytes p) → PutsOut bytes haystack gives whole old m.end rest next
      goes_on next said =
          let both = Appends-trans out at next (slice_range haystack s m.start) (bytes p) before said in
          record {
            all = λ new (given, are, n, went).
                let later = with_pieces_from haystack m.end rest (map bytes given) in
                h.all new (next_of (Appends out new) (
                  p ∷ given,
                  (one, are),
                  ap suc n,
                  subst (Appends out new) (append_assoc (slice_range haystack s m.start) (bytes p) later)
                      (Appends-trans out next new _ later both went),
                ));
            some = λ new (given, are, went).
                let later = with_pieces_from haystack m.end rest (map bytes given) in
                h.some new (next_so_far (AppendsBeginning out new) (
                  p ∷ given,
                  (one, are),
                  subst (AppendsBeginning out new) (append_assoc (slice_range haystack s m.start) (bytes p) later)
                      (AppendsBeginning-behind out next new _ later both went),
                ));
          }

  module _ (none : ms ≡ []) (end : ℕ) (new : Option (List ℕ)) (e : end ≡ length haystack) where
    -- the output took what is left, or a beginning of it
    pub all_out : Appends out new (slice_range haystack s end) → OfReplaced bytes haystack gives whole (Appends old new)
    all_out piece =
        h.all new (subst (λ (l : List (Match V)). OfRest bytes haystack gives s l (Appends out new)) (sym none)
        ([], tt, refl, subst (Appends out new) (rest_is haystack s end e) piece))

    pub refuses_behind : AppendsBeginning out new (slice_range haystack s end)
        → OfReplacedSoFar bytes haystack gives whole (AppendsBeginning old new)
    refuses_behind piece =
        h.some new (subst (λ (l : List (Match V)). OfRestSoFar bytes haystack gives s l (AppendsBeginning out new)) (sym none)
        ([], tt, subst (AppendsBeginning out new) (rest_is haystack s end e) piece))
