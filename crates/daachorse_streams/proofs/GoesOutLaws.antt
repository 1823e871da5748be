-- Certain matches go out one after another.
use Rattle.std.proofs.Common.{
  ◌≡◌,
  ℕ,
  ◌+◌,
  ◌-◌,
  ◌≤◌,
  List,
  [],
  ◌∷◌,
  ◌++◌,
  length,
  take,
  drop,
  Option,
  Result,
  Ok,
  Err,
  refl,
  sym,
  ap,
  ◌∙◌,
  subst,
  append_assoc,
  append-nil,
  arith,
}
use Rattle.std.proofs.lemmas.List.Elements.{All-head, All-tail}
use Rattle.std.specs.Prelude.{All, slice_range}
use Rattle.std.specs.Borrow.{MutBor}
use Rattle.std.specs.Io.KnownBytes.{Appends}
use Rattle.daachorse_model.specs.declared.Match.{Match}
use Rattle.daachorse_model.specs.Dictionary.{Dictionary}
use Rattle.daachorse_model.specs.Laws.{Follows, IsOccurrence}
use Rattle.daachorse_model.specs.Leftmost.{leftmost}
use Rattle.daachorse_model.specs.Units.{size}
use Rattle.daachorse_model.proofs.Find.{leftmost_occur}
use Rattle.daachorse_model.proofs.Suffixes.{size-append}
use Rattle.daachorse_streams.specs.Replaced.{AppendsPart}
use Rattle.daachorse_streams.specs.ReplacedWith.{IsStopped, MayWriteFor}
use Rattle.daachorse_streams.specs.Streams.{IsHeld}
use Rattle.daachorse_streams.proofs.HeldLaws.{answered-at, held-behind, refused-before}
use Rattle.daachorse_streams.proofs.StandardMatches.{Follows-behind, last_end-push}
use Rattle.daachorse_streams.specs.Replacing.{GoesOut, GoesOutSoFar}

one_of : {A : Type 0} (Q : A → Type 0) (before : List A) (x : A) (after : List A) → All Q (before ++ x ∷ after) → Q x
one_of Q [] x after all = All-head Q x after all
one_of Q (y ∷ before) x after all = one_of Q before x after (All-tail Q y (before ++ x ∷ after) all)

-- the next match starts where the bytes held do, or later, and ends within them
pub record IsNext {V : Type 0} (place : ℕ) (held : List ℕ) (m : Match V) (rest : List (Match V)) : Type 0 where
  pub after : Follows place (m ∷ rest)
  pub inner : m.end ≤ place + length held

module _ {V : Type 0} (width : ℕ → ℕ) (K : Dictionary V) where
  -- a match of what was read ends in it
  ends_within : (read : List ℕ) (given rest : List (Match V)) (m : Match V) → leftmost width K read ≡ given ++ m ∷ rest
      → m.end ≤ size width read
  ends_within read given rest m is =
      let o = one_of (IsOccurrence width K read) given m rest (subst (All (IsOccurrence width K read)) is (leftmost_occur width K read)) in
      let whole : size width read ≡ size width o.before + (size width o.key + size width o.after) =
      ap (size width) o.splits ∙ size-append width o.before (o.key ++ o.after)
      ∙ ap (λ n. size width o.before + n) (size-append width o.key o.after) in
      omega (arith, whole, o.ends)

module _ {V P O E F : Type 0} {bytes : P → List ℕ} {taken : O → Option (List ℕ)}
    {step : F → Match V → P → MutBor O → Result (Unit {0}) E → MutBor O → F → Type 0} where
  pub out-nothing : (done : List (Match V)) (place : ℕ) (held : List ℕ) (f : F) (old : O)
      → GoesOut bytes taken step done done place held f old place held f old
  out-nothing done place held f old = record { more = []; gives = sym (append-nil done); ends = refl; holds = λ first start text h. h }

  module _ {done given : List (Match V)} {start place : ℕ} {first held : List ℕ} {f g : F} {old out : O}
      (h : GoesOut bytes taken step done given start first f old place held g out) where
    pub out-next : (width : ℕ → ℕ) (K : Dictionary V) (read : List ℕ) (m : Match V) (rest : List (Match V))
        → ((d : List ℕ) (ms : List (Match V)) → leftmost width K (read ++ d) ≡ done ++ ms → Follows start ms)
        → place + length held ≡ size width read → leftmost width K read ≡ given ++ m ∷ rest
        → (d : List ℕ) (later : List (Match V)) → leftmost width K (read ++ d) ≡ given ++ m ∷ later → IsNext place held m later
    out-next width K read m rest behind count is d later goes_on =
        let all = goes_on ∙ ap (λ l. l ++ m ∷ later) h.gives ∙ append_assoc done h.more (m ∷ later) in
        record {
          after = subst (λ n. Follows n (m ∷ later)) (sym h.ends)
              (Follows-behind start h.more (m ∷ later) (behind d (h.more ++ m ∷ later) all));
          inner = omega (arith, count, ends_within width K read given rest m is);
        }

    module _ (m : Match V) (rest : List (Match V)) (next : IsNext place held m rest) where
      -- one more match went out
      pub out-more : (all : List (Match V)) (left : List ℕ) → all ≡ given ++ m ∷ [] → left ≡ drop (m.end - place) held
          → (at new : O) (then : F) → Appends (taken out) (taken at) (take (m.start - place) held)
          → MayWriteFor bytes step g m (slice_range held (m.start - place) (m.end - place)) at (Ok tt) new then
          → GoesOut bytes taken step done all start first f old m.end left then new
      out-more all left is leaves at new then went call = record {
        more = h.more ++ m ∷ [];
        gives = is ∙ ap (λ l. l ++ m ∷ []) h.gives ∙ append_assoc done h.more (m ∷ []);
        ends = sym (last_end-push start h.more m);
        holds = λ x y text was.
            let G : List (Match V) → Type 0 = λ l. IsHeld bytes taken step x y text l m.end left then new in
            let L : List ℕ → Type 0 = λ l. IsHeld bytes taken step x y text (given ++ m ∷ []) m.end l then new in
            subst G (sym is)
            (subst L (sym leaves) (held-behind bytes taken step x y (h.holds x y text was) m rest next.after next.inner at new then went
            call));
      }

      module _ (all : List (Match V)) (is : all ≡ given ++ m ∷ rest) where
        -- the output refused some of the bytes before it
        pub out-before : (new : O) → AppendsPart (taken out) (taken new) (take (m.start - place) held) → (e : E)
            → GoesOutSoFar bytes taken step e all done start first f old new
        out-before new part e x y text was more =
            let A : List (Match V) → Type 0 = λ l. IsStopped bytes taken (text ++ more) step e l x y new in
            subst A (sym is) (refused-before bytes taken step x y (h.holds x y text was) m rest next.after next.inner new part e more)

        -- the call for it returned this error
        pub out-at : (at new : O) (e : E) (then : F) → Appends (taken out) (taken at) (take (m.start - place) held)
            → MayWriteFor bytes step g m (slice_range held (m.start - place) (m.end - place)) at (Err e) new then
            → GoesOutSoFar bytes taken step e all done start first f old new
        out-at at new e then went call x y text was more =
            let A : List (Match V) → Type 0 = λ l. IsStopped bytes taken (text ++ more) step e l x y new in
            subst A (sym is)
            (answered-at bytes taken step x y (h.holds x y text was) m rest next.after next.inner at new e then went call more)
