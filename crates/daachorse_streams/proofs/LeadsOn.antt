-- What comes of the matches of a stream that are still to come, whatever bytes come with them, behind what was put out for those before
-- them.
use Rattle.std.proofs.Common.{
  ◌≡◌,
  ◌≢◌,
  inl,
  inr,
  ℕ,
  ◌+◌,
  ◌-◌,
  ◌≤◌,
  List,
  [],
  ◌∷◌,
  ◌++◌,
  length,
  take,
  drop,
  Option,
  Result,
  Ok,
  Err,
  refl,
  sym,
  ap,
  ◌∙◌,
  subst,
  append_assoc,
  append-nil,
  take-append-drop,
  arith,
}
use Rattle.std.proofs.lemmas.List.{take-append-le, drop-append-le, drop-drop, length-drop}
use Rattle.std.proofs.Math.Seq.{take-add}
use Rattle.std.specs.Prelude.{slice_range}
use Rattle.std.specs.Borrow.{MutBor}
use Rattle.std.specs.Io.KnownBytes.{Appends}
use Rattle.std.proofs.KnownBytes.{Appends-nil, Appends-trans}
use Rattle.daachorse_model.specs.declared.Match.{Match}
use Rattle.daachorse_model.specs.Laws.{Follows}
use Rattle.daachorse_model.proofs.Overlap.{Follows-earlier}
use Rattle.daachorse_streams.specs.Replaced.{AppendsBeginning, AppendsPart}
use Rattle.daachorse_streams.specs.ReplacedWith.{
  IsReplaced,
  IsReplacedFrom,
  IsReplacedSoFar,
  IsReplacedSoFarFrom,
  IsStopped,
  IsStoppedFrom,
  MayWriteFor,
}
use Rattle.daachorse_streams.specs.Streams.{LeadsOn}

some_more : (a b : List ℕ) → a ≢ [] → a ++ b ≢ []
some_more [] b some is = some refl
some_more (x ∷ a) b some is = absurd (omega (arith, ap length is))

-- what was refused of a beginning was refused of the whole
pub AppendsPart-more : (old new : Option (List ℕ)) (piece later whole : List ℕ) → whole ≡ piece ++ later → AppendsPart old new piece
    → AppendsPart old new whole
AppendsPart-more old new piece later whole e (part, rest, is, some, went) =
    (part, rest ++ later, e ∙ ap (λ l. l ++ later) is ∙ append_assoc part rest later, some_more rest later some, went)

-- nothing was put out
pub AppendsBeginning-nothing : (out : Option (List ℕ)) (text : List ℕ) → AppendsBeginning out out text
AppendsBeginning-nothing out text = ([], text, refl, Appends-nil out)

-- what comes later leaves the parts of a text as they are
pub within : (text future : List ℕ) (s e : ℕ) → s ≤ e → e ≤ length text → slice_range (text ++ future) s e ≡ slice_range text s e
within text future s e ordered inside =
    ap (take (e - s)) (drop-append-le s text future (omega (arith, ordered, inside)))
    ∙ take-append-le (e - s) (drop s text) future (omega (arith, length-drop s text))

-- a part in two
joined : (text : List ℕ) (s n e : ℕ) → s + n ≤ e → slice_range text s e ≡ take n (drop s text) ++ slice_range text (s + n) e
joined text s n e inside =
    let count : e - s ≡ n + (e - (s + n)) = omega (arith, inside) in
    ap (λ k. take k (drop s text)) count ∙ take-add n (e - (s + n)) (drop s text)
    ∙ ap (λ l. take n (drop s text) ++ take (e - (s + n)) l) (drop-drop n s text)

rest_joined : (text : List ℕ) (s n : ℕ) → drop s text ≡ take n (drop s text) ++ drop (s + n) text
rest_joined text s n = sym (take-append-drop n (drop s text)) ∙ ap (λ l. take n (drop s text) ++ l) (drop-drop n s text)

module _ {V P O E F : Type 0} (bytes : P → List ℕ) (taken : O → Option (List ℕ))
    (step : F → Match V → P → MutBor O → Result (Unit {0}) E → MutBor O → F → Type 0) (f : F) (old : O) where
  -- nothing went out yet, whatever the matches are
  pub so_far_nothing : (text : List ℕ) (s : ℕ) (ms : List (Match V)) → IsReplacedSoFarFrom bytes taken text step s ms f old old
  so_far_nothing text s [] = AppendsBeginning-nothing (taken old) (drop s text)
  so_far_nothing text s (m ∷ ms) = inl (AppendsBeginning-nothing (taken old) (slice_range text s m.start))

module _ {V P O E F : Type 0} (bytes : P → List ℕ) (taken : O → Option (List ℕ))
    (step : F → Match V → P → MutBor O → Result (Unit {0}) E → MutBor O → F → Type 0) (first : F) (old : O) where
  abbrev Leads : List ℕ → List (Match V) → ℕ → F → O → Type 0
  Leads = LeadsOn bytes taken step first old

  pub leads_from_start : Leads [] [] 0 first old
  leads_from_start = record { all = λ more ms new after h. h; some = λ more ms new after h. h; stops = λ e more ms new after h. h }

  -- more bytes came
  pub leads_over : (text : List ℕ) (done : List (Match V)) (s : ℕ) (f : F) (out : O) (next : List ℕ) → Leads text done s f out
      → Leads (text ++ next) done s f out
  leads_over text done s f out next h = record {
    all = λ more ms new after rest.
        let P : List ℕ → Type 0 = λ l. IsReplaced bytes taken l step (done ++ ms) first old new in
        let Q : List ℕ → Type 0 = λ l. IsReplacedFrom bytes taken l step s ms f out new in
        let e = append_assoc text next more in
        subst P (sym e) (h.all (next ++ more) ms new after (subst Q e rest));
    some = λ more ms new after rest.
        let P : List ℕ → Type 0 = λ l. IsReplacedSoFar bytes taken l step (done ++ ms) first old new in
        let Q : List ℕ → Type 0 = λ l. IsReplacedSoFarFrom bytes taken l step s ms f out new in
        let e = append_assoc text next more in
        subst P (sym e) (h.some (next ++ more) ms new after (subst Q e rest));
    stops = λ e more ms new after rest.
        let P : List ℕ → Type 0 = λ l. IsStopped bytes taken l step e (done ++ ms) first old new in
        let Q : List ℕ → Type 0 = λ l. IsStoppedFrom bytes taken l step e s ms f out new in
        let same = append_assoc text next more in
        subst P (sym same) (h.stops e (next ++ more) ms new after (subst Q same rest));
  }

  module _ (text : List ℕ) (done : List (Match V)) (s : ℕ) (f : F) (out : O) (h : Leads text done s f out) where
    -- the next n bytes of a longer text
    past_is : (n : ℕ) → s + n ≤ length text → (more : List ℕ) → take n (drop s (text ++ more)) ≡ take n (drop s text)
    past_is n inside more =
        ap (take n) (drop-append-le s text more (omega (arith, inside)))
        ∙ take-append-le n (drop s text) more (omega (arith, inside, length-drop s text))

    -- n bytes went out, before any match that is to come
    pub leads_past : (n : ℕ) (next : O) → s + n ≤ length text → Appends (taken out) (taken next) (take n (drop s text))
        → Leads text done (s + n) f next
    leads_past n next inside went = record {
      all = λ more ms new after rest. h.all more ms new (Follows-earlier s (s + n) ms (omega arith) after) (whole more ms new after rest);
      some = λ more ms new after rest. h.some more ms new (Follows-earlier s (s + n) ms (omega arith) after) (part more ms new after rest);
      stops = λ e more ms new after rest. h.stops e more ms new (Follows-earlier s (s + n) ms (omega arith) after)
          (stop e more ms new after rest);
    }
      where
        join : (more : List ℕ) (b : Option (List ℕ)) (later whole : List ℕ) → whole ≡ take n (drop s (text ++ more)) ++ later
            → Appends (taken next) b later → Appends (taken out) b whole
        join more b later whole e p =
            subst (Appends (taken out) b) (sym (e ∙ ap (λ l. l ++ later) (past_is n inside more)))
            (Appends-trans (taken out) (taken next) b (take n (drop s text)) later went p)

        begin : (more : List ℕ) (b : Option (List ℕ)) (later whole : List ℕ) → whole ≡ take n (drop s (text ++ more)) ++ later
            → AppendsBeginning (taken next) b later → AppendsBeginning (taken out) b whole
        begin more b later whole e (piece, left, is, p) = (
          take n (drop s text) ++ piece,
          left,
          e ∙ ap (λ l. l ++ later) (past_is n inside more) ∙ ap (λ l. take n (drop s text) ++ l) is
              ∙ sym (append_assoc (take n (drop s text)) piece left),
          Appends-trans (taken out) (taken next) b (take n (drop s text)) piece went p,
        )

        whole : (more : List ℕ) (ms : List (Match V)) (new : O) → Follows (s + n) ms
            → IsReplacedFrom bytes taken (text ++ more) step (s + n) ms f next new
            → IsReplacedFrom bytes taken (text ++ more) step s ms f out new
        whole more [] new after rest =
            join more (taken new) (drop (s + n) (text ++ more)) (drop s (text ++ more)) (rest_joined (text ++ more) s n) rest
        whole more (m ∷ ms) new after (at, then, g, before, call, rest) = (
          at,
          then,
          g,
          join more (taken at) (slice_range (text ++ more) (s + n) m.start) (slice_range (text ++ more) s m.start)
              (joined (text ++ more) s n m.start after.0) before,
          call,
          rest,
        )

        part : (more : List ℕ) (ms : List (Match V)) (new : O) → Follows (s + n) ms
            → IsReplacedSoFarFrom bytes taken (text ++ more) step (s + n) ms f next new
            → IsReplacedSoFarFrom bytes taken (text ++ more) step s ms f out new
        part more [] new after rest =
            begin more (taken new) (drop (s + n) (text ++ more)) (drop s (text ++ more)) (rest_joined (text ++ more) s n) rest
        part more (m ∷ ms) new after (inl went) =
            inl (begin more (taken new) (slice_range (text ++ more) (s + n) m.start) (slice_range (text ++ more) s m.start)
            (joined (text ++ more) s n m.start after.0) went)
        part more (m ∷ ms) new after (inr (at, before, rest)) =
            inr (
              at,
              join more (taken at) (slice_range (text ++ more) (s + n) m.start) (slice_range (text ++ more) s m.start)
                  (joined (text ++ more) s n m.start after.0) before,
              rest,
            )

        refuse : (more : List ℕ) (b : Option (List ℕ)) (later whole : List ℕ) → whole ≡ take n (drop s (text ++ more)) ++ later
            → AppendsPart (taken next) b later → AppendsPart (taken out) b whole
        refuse more b later whole e (piece, left, is, some, p) = (
          take n (drop s text) ++ piece,
          left,
          e ∙ ap (λ l. l ++ later) (past_is n inside more) ∙ ap (λ l. take n (drop s text) ++ l) is
              ∙ sym (append_assoc (take n (drop s text)) piece left),
          some,
          Appends-trans (taken out) (taken next) b (take n (drop s text)) piece went p,
        )

        stop : (e : E) (more : List ℕ) (ms : List (Match V)) (new : O) → Follows (s + n) ms
            → IsStoppedFrom bytes taken (text ++ more) step e (s + n) ms f next new
            → IsStoppedFrom bytes taken (text ++ more) step e s ms f out new
        stop e more [] new after rest =
            refuse more (taken new) (drop (s + n) (text ++ more)) (drop s (text ++ more)) (rest_joined (text ++ more) s n) rest
        stop e more (m ∷ ms) new after (inl went) =
            inl (refuse more (taken new) (slice_range (text ++ more) (s + n) m.start) (slice_range (text ++ more) s m.start)
            (joined (text ++ more) s n m.start after.0) went)
        stop e more (m ∷ ms) new after (inr (at, before, rest)) =
            inr (
              at,
              join more (taken at) (slice_range (text ++ more) (s + n) m.start) (slice_range (text ++ more) s m.start)
                  (joined (text ++ more) s n m.start after.0) before,
              rest,
            )

    module _ (m : Match V) (starts : s ≤ m.start) (ordered : m.start ≤ m.end) (ends : m.end ≤ length text) where
      before_is : (more : List ℕ) → slice_range (text ++ more) s m.start ≡ slice_range text s m.start
      before_is more = within text more s m.start starts (omega (arith, ordered, ends))

      matched_is : (more : List ℕ) → slice_range (text ++ more) m.start m.end ≡ slice_range text m.start m.end
      matched_is more = within text more m.start m.end ordered ends

      -- the match went out
      pub leads_behind : (at next : O) (g : F) → Appends (taken out) (taken at) (slice_range text s m.start)
          → MayWriteFor bytes step f m (slice_range text m.start m.end) at (Ok tt) next g
          → Leads text (done ++ m ∷ []) m.end g next
      leads_behind at next g went (p, shown, left, is, was, then, call) = record {
        all = λ more ms new after rest.
            let P : List (Match V) → Type 0 = λ l. IsReplaced bytes taken (text ++ more) step l first old new in
            subst P (sym (append_assoc done (m ∷ []) ms)) (h.all more (m ∷ ms) new (starts, ordered, after) (
              at,
              next,
              g,
              subst (Appends (taken out) (taken at)) (sym (before_is more)) went,
              (p, shown, left, is ∙ sym (matched_is more), was, then, call),
              rest,
            ));
        some = λ more ms new after rest.
            let P : List (Match V) → Type 0 = λ l. IsReplacedSoFar bytes taken (text ++ more) step l first old new in
            subst P (sym (append_assoc done (m ∷ []) ms)) (h.some more (m ∷ ms) new (starts, ordered, after)
            (inr (
              at,
              subst (Appends (taken out) (taken at)) (sym (before_is more)) went,
              inr (next, g, (p, shown, left, is ∙ sym (matched_is more), was, then, call), rest),
            )));
        stops = λ e more ms new after rest.
            let P : List (Match V) → Type 0 = λ l. IsStopped bytes taken (text ++ more) step e l first old new in
            subst P (sym (append_assoc done (m ∷ []) ms)) (h.stops e more (m ∷ ms) new (starts, ordered, after)
            (inr (
              at,
              subst (Appends (taken out) (taken at)) (sym (before_is more)) went,
              inr (next, g, (p, shown, left, is ∙ sym (matched_is more), was, then, call), rest),
            )));
      }

      -- the output refused some of the bytes before the match
      pub refuses_before : (ms : List (Match V)) → Follows m.end ms → (new : O)
          → AppendsPart (taken out) (taken new) (slice_range text s m.start)
          → (e : E) (more : List ℕ) → IsStopped bytes taken (text ++ more) step e (done ++ m ∷ ms) first old new
      refuses_before ms after new went e more =
          h.stops e more (m ∷ ms) new (starts, ordered, after)
          (inl (subst (AppendsPart (taken out) (taken new)) (sym (before_is more)) went))

      -- the call for the match returned this error
      pub answers_at : (ms : List (Match V)) → Follows m.end ms → (at new : O) (e : E) (g : F)
          → Appends (taken out) (taken at) (slice_range text s m.start)
          → MayWriteFor bytes step f m (slice_range text m.start m.end) at (Err e) new g
          → (more : List ℕ) → IsStopped bytes taken (text ++ more) step e (done ++ m ∷ ms) first old new
      answers_at ms after at new e g went call more =
          let C : List ℕ → Type 0 = λ l. MayWriteFor bytes step f m l at (Err e) new g in
          h.stops e more (m ∷ ms) new (starts, ordered, after)
          (inr (at, subst (Appends (taken out) (taken at)) (sym (before_is more)) went, inl (g, subst C (sym (matched_is more)) call)))

    -- the rest went out
    pub all_out : (new : O) → Appends (taken out) (taken new) (drop s text) → IsReplaced bytes taken text step done first old new
    all_out new went =
        let P : List ℕ → Type 0 = λ l. IsReplaced bytes taken l step (done ++ []) first old new in
        let Q : List (Match V) → Type 0 = λ l. IsReplaced bytes taken text step l first old new in
        let R : List ℕ → Type 0 = λ l. Appends (taken out) (taken new) (drop s l) in
        subst Q (append-nil done) (subst P (append-nil text) (h.all [] [] new tt (subst R (sym (append-nil text)) went)))

    -- nothing more went out
    pub nothing_more : (ms : List (Match V)) → Follows s ms → (more : List ℕ)
        → IsReplacedSoFar bytes taken (text ++ more) step (done ++ ms) first old out
    nothing_more ms after more = h.some more ms out after (so_far_nothing bytes taken step f out (text ++ more) s ms)

    -- the output refused some of the next n bytes, before any match that is to come
    pub refuses_within : (n : ℕ) → s + n ≤ length text → (ms : List (Match V)) → Follows (s + n) ms → (new : O)
        → AppendsPart (taken out) (taken new) (take n (drop s text))
        → (e : E) (more : List ℕ) → IsStopped bytes taken (text ++ more) step e (done ++ ms) first old new
    refuses_within n inside ms after new went e more =
        h.stops e more ms new (Follows-earlier s (s + n) ms (omega arith) after)
        (within_more ms after (subst (AppendsPart (taken out) (taken new)) (sym (past_is n inside more)) went))
      where
        within_more : (ms : List (Match V)) → Follows (s + n) ms → AppendsPart (taken out) (taken new) (take n (drop s (text ++ more)))
            → IsStoppedFrom bytes taken (text ++ more) step e s ms f out new
        within_more [] after went =
            AppendsPart-more (taken out) (taken new) _ _ (drop s (text ++ more)) (rest_joined (text ++ more) s n) went
        within_more (m ∷ ms) after went =
            inl (AppendsPart-more (taken out) (taken new) _ _ (slice_range (text ++ more) s m.start)
            (joined (text ++ more) s n m.start after.0) went)
