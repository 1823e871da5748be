-- Where a stream stands: what is held comes behind what was put out, and no match that is to come begins before it.
use Rattle.std.proofs.Common.{
  ◌≡◌,
  ◌⊎◌,
  inl,
  inr,
  ℕ,
  ◌+◌,
  ◌-◌,
  ◌≤◌,
  List,
  [],
  ◌∷◌,
  ◌++◌,
  length,
  take,
  drop,
  Option,
  Some,
  None,
  Result,
  Ok,
  Err,
  refl,
  sym,
  ap,
  ◌∙◌,
  subst,
  append_assoc,
  append-nil,
  length-append,
  arith,
}
use Rattle.std.proofs.lemmas.List.{drop_all, take_rest}
use Rattle.std.specs.Prelude.{IfSome, option_to_list, slice_range}
use Rattle.std.specs.Borrow.{MutBor}
use Rattle.std.specs.Io.KnownBytes.{Appends}
use Rattle.daachorse_model.specs.declared.Match.{Match}
use Rattle.daachorse_model.specs.Dictionary.{Dictionary}
use Rattle.daachorse_model.specs.Laws.{Follows}
use Rattle.daachorse_model.specs.Matches.{last_end, standard, standard_after}
use Rattle.daachorse_model.specs.Units.{size}
use Rattle.daachorse_model.proofs.Suffixes.{size-append}
use Rattle.daachorse_streams.specs.Replaced.{AppendsPart}
use Rattle.daachorse_streams.specs.ReplacedWith.{IsReplaced, IsReplacedSoFar, IsStopped, MayWriteFor}
use Rattle.daachorse_streams.specs.Streams.{EndsWithin, HasNoLonger, IsHeld, IsHeldBack, Settles, SettlesSoFar, before_match, block}
use Rattle.daachorse_streams.proofs.HeldLaws.{
  answered-at,
  held-back,
  held-behind,
  held-count,
  held-first,
  held-more,
  held-past,
  held-whole,
  refused-before,
  refused-whole,
  refused-within,
  held-still,
}
use Rattle.daachorse_streams.proofs.StandardMatches.{EndsHere, last_end-push, standard-behind, standard-late, standard_after-ends}

module _ {V P O E F : Type 0} (bytes : P → List ℕ) (taken : O → Option (List ℕ))
    (step : F → Match V → P → MutBor O → Result (Unit {0}) E → MutBor O → F → Type 0) (first : F) (old : O)
    (width : ℕ → ℕ) (K : Dictionary V) (longest : ℕ) where
  -- of this text, which was read as these units, the bytes up to those held were put out with these matches replaced
  pub record IsSent (text read : List ℕ) (done : List (Match V)) (held : List ℕ) (f : F) (out : O) : Type 0 where
    pub place : ℕ
    pub is : IsHeld bytes taken step first old text done place held f out
    pub sized : length text ≡ size width read
    pub behind : (place ≤ last_end 0 done) ⊎ (place + longest ≤ length text)

  pub sent-first : IsSent [] [] [] [] first old
  sent-first = record { place = 0; is = held-first bytes taken step first old; sized = refl; behind = inl (omega arith) }

  -- more bytes are held
  pub sent-more : {text read : List ℕ} {done : List (Match V)} {held : List ℕ} {f : F} {out : O} → IsSent text read done held f out
      → (next units : List ℕ) → length next ≡ size width units
      → IsSent (text ++ next) (read ++ units) done (held ++ next) f out
  sent-more {text} {read} {done} {held} {f} {out} h next units size_is = record {
    place = h.place;
    is = held-more bytes taken step first old h.is next;
    sized = omega (arith, h.sized, size_is, length-append text next, size-append width read units);
    behind = elim h.behind [ inl p ↦ inl p | inr p ↦ inr (omega (arith, p, length-append text next)) ];
  }

  module _ (bound : HasNoLonger width K longest) {text read : List ℕ} {done : List (Match V)} {held : List ℕ} {f : F} {out : O}
      (h : IsSent text read done held f out) where
    count : h.place + length held ≡ length text
    count = held-count bytes taken step first old h.is

    module _ (m : Match V) (here : standard_after width K read ≡ Some m) (gains : standard width K read ≡ done ++ m ∷ []) where
      ends : EndsHere width K longest read m
      ends = standard_after-ends width K longest bound read m here

      starts : h.place ≤ m.start
      starts = elim h.behind
          [ inl p ↦ omega (arith, p, standard-behind width K done m read gains) | inr p ↦ omega (arith, p, ends.ends, ends.short, h.sized) ]

      after : Follows h.place (m ∷ [])
      after = (starts, ends.ordered, tt)

      inner : m.end ≤ h.place + length held
      inner = omega (arith, count, ends.ends, h.sized)

      before : before_match held m ≡ m.start - h.place
      before = omega (arith, count, starts, ends.ordered, ends.ends, h.sized)

      matched : drop (before_match held m) held ≡ slice_range held (m.start - h.place) (m.end - h.place)
      matched =
          let at : ℕ = m.start - h.place in
          let all : (m.end - h.place) - at ≡ length held - at = omega (arith, count, starts, ends.ordered, ends.ends, h.sized) in
          ap (λ k. drop k held) before ∙ sym (ap (λ k. take k (drop at held)) all ∙ take_rest held at)

      sent-matched : (at next : O) (g : F) → Appends (taken out) (taken at) (take (before_match held m) held)
          → MayWriteFor bytes step f m (drop (before_match held m) held) at (Ok tt) next g
          → IsSent text read (done ++ m ∷ []) [] g next
      sent-matched at next g went call = record {
        place = m.end;
        is =
            let H : List ℕ → Type 0 = λ l. IsHeld bytes taken step first old text (done ++ m ∷ []) m.end l g next in
            let C : List ℕ → Type 0 = λ l. MayWriteFor bytes step f m l at (Ok tt) next g in
            subst H (drop_all (m.end - h.place) held (omega (arith, count, ends.ends, h.sized)))
            (held-behind bytes taken step first old h.is m [] after inner at next g
            (subst (λ k. Appends (taken out) (taken at) (take k held)) before went) (subst C matched call));
        sized = h.sized;
        behind = inl (omega (arith, last_end-push 0 done m));
      }

      module _ (ms : List (Match V)) (later : Follows m.end ms) (new : O) (e : E) where
        refused-matched : SettlesSoFar bytes taken step e longest (Some m) held f out new → (more : List ℕ)
            → IsStopped bytes taken (text ++ more) step e (done ++ m ∷ ms) first old new
        refused-matched (inl part) =
            refused-before bytes taken step first old h.is m ms (starts, ends.ordered, later) inner new
            (subst (λ k. AppendsPart (taken out) (taken new) (take k held)) before part) e
        refused-matched (inr (at, g, went, call)) =
            let C : List ℕ → Type 0 = λ l. MayWriteFor bytes step f m l at (Err e) new g in
            answered-at bytes taken step first old h.is m ms (starts, ends.ordered, later) inner at new e g
            (subst (λ k. Appends (taken out) (taken at) (take k held)) before went) (subst C matched call)

      within-matched : EndsWithin held m
      within-matched = (ends.ordered, omega (arith, count, starts, ends.ends, h.sized))

    -- a match that ends here is within the bytes held
    pub sent-within : (found : Option (Match V)) → found ≡ standard_after width K read
        → standard width K read ≡ done ++ option_to_list (standard_after width K read) → IfSome found (EndsWithin held)
    sent-within None is gains = tt
    sent-within (Some m) is gains = within-matched m (sym is) (gains ∙ ap (λ o. done ++ option_to_list o) (sym is))

    sent-past : (n : ℕ) (next : O) → (n ≡ 0) ⊎ (n + longest ≤ length held) → n ≤ length held
        → Appends (taken out) (taken next) (take n held) → IsSent text read done (drop n held) f next
    sent-past n next many inner went = record {
      place = h.place + n;
      is = held-past bytes taken step first old h.is n next inner went;
      sized = h.sized;
      behind = elim many [
        | inl none ↦ elim h.behind [ inl p ↦ inl (omega (arith, p, none)) | inr p ↦ inr (omega (arith, p, none)) ]
        | inr p ↦ inr
            (omega (arith, p, count))
      ];
    }

    -- what was settled went out with the match that ends here, if there is one
    pub sent-settled : (found : Option (Match V)) → found ≡ standard_after width K read
        → standard width K read ≡ done ++ option_to_list (standard_after width K read)
        → (rest : List ℕ) (g : F) (new : O) → Settles bytes taken step longest found held f out rest g new
        → IsSent text read (standard width K read) rest g new
    sent-settled None is gains rest g new (n, out, same) =
        let none : standard width K read ≡ done = gains ∙ ap (λ o. done ++ option_to_list o) (sym is) ∙ append-nil done in
        let D : List (Match V) → Type 0 = λ l. IsSent text read l rest g new in
        let R : List ℕ → Type 0 = λ l. IsSent text read done l g new in
        let G : F → Type 0 = λ x. IsSent text read done (drop n held) x new in
        subst D (sym none) (subst R (sym out.left) (subst G (sym same) (sent-past n new out.many out.inner out.went)))
    sent-settled (Some m) is gains rest g new (at, went, call, left) =
        let one : standard width K read ≡ done ++ m ∷ [] = gains ∙ ap (λ o. done ++ option_to_list o) (sym is) in
        let D : List (Match V) → Type 0 = λ l. IsSent text read l rest g new in
        let R : List ℕ → Type 0 = λ l. IsSent text read (done ++ m ∷ []) l g new in
        subst D (sym one) (subst R (sym left) (sent-matched m (sym is) one at new g went call))

    -- the bytes held went out
    pub sent-whole : (new : O) → Appends (taken out) (taken new) held → IsReplaced bytes taken text step done first old new
    sent-whole = held-whole bytes taken step first old h.is

    -- or the output refused some of them
    pub refused-all : (new : O) → AppendsPart (taken out) (taken new) held → (e : E) → IsStopped bytes taken text step e done first old new
    refused-all = refused-whole bytes taken step first old h.is

    module _ (wide : (u : ℕ) → 1 ≤ width u) where
      module _ (all : standard width K read ≡ done) (n : ℕ) (many : (n ≡ 0) ⊎ (n + longest ≤ length held)) where
        -- the matches that are left, however the haystack goes on, where n bytes more are settled
        late_from : (d : List ℕ) → (ms : List (Match V)) × (standard width K (read ++ d) ≡ done ++ ms) × Follows (h.place + n) ms
        late_from d =
            let settled : (h.place + n ≤ last_end 0 done) ⊎ (h.place + n + longest ≤ size width read) =
            elim many [
              | inl none ↦ elim h.behind [ inl p ↦ inl (omega (arith, p, none)) | inr p ↦ inr (omega (arith, p, none, h.sized)) ]
              | inr p ↦ inr (omega (arith, p, count, h.sized))
            ] in
            standard-late width K longest bound (h.place + n) wide read d done all settled

        -- the output refused some of n bytes that no later match may need
        refused-past : n ≤ length held → (new : O) → AppendsPart (taken out) (taken new) (take n held)
            → (e : E) (more d : List ℕ) → IsStopped bytes taken (text ++ more) step e (standard width K (read ++ d)) first old new
        refused-past inner new part e more d =
            let late = late_from d in
            let D : List (Match V) → Type 0 = λ l. IsStopped bytes taken (text ++ more) step e l first old new in
            subst D (sym late.1) (refused-within bytes taken step first old h.is n inner late.0 late.2 new part e more)

      module _ (all : standard width K read ≡ done) where
        -- nothing more went out
        late_here : (d : List ℕ) → (ms : List (Match V)) × (standard width K (read ++ d) ≡ done ++ ms) × Follows h.place ms
        late_here d =
            let late = late_from all 0 (inl refl) d in
            let place : h.place + 0 ≡ h.place = omega arith in
            (late.0, late.1, subst (λ n. Follows n late.0) place late.2)

        pub unsent-nothing : (more d : List ℕ)
            → IsReplacedSoFar bytes taken (text ++ more) step (standard width K (read ++ d)) first old out
        unsent-nothing more d =
            let late = late_here d in
            let D : List (Match V) → Type 0 = λ l. IsReplacedSoFar bytes taken (text ++ more) step l first old out in
            subst D (sym late.1) (held-still bytes taken step first old h.is late.0 late.2 more)

        pub sent-back : {X : Type 0} (matches : X → List (Match V))
            → ((more : X) → (d : List ℕ) × (matches more ≡ standard width K (read ++ d)))
            → IsHeldBack bytes taken step matches text held first old out
        sent-back matches later =
            held-back bytes taken step first old h.is matches (λ more. (
            let d = later more in
            let late = late_here d.0 in
            (late.0, d.1 ∙ late.1, late.2)
            ))

      module _ (found : Option (Match V)) (here : found ≡ standard_after width K read)
          (gains : standard width K read ≡ done ++ option_to_list (standard_after width K read)) (new : O) (e : E) where
        none_found : found ≡ None → standard width K read ≡ done
        none_found is = gains ∙ ap (λ o. done ++ option_to_list o) (sym here ∙ is) ∙ append-nil done

        module _ (m : Match V) (is : found ≡ Some m) where
          one_found : standard width K read ≡ done ++ m ∷ []
          one_found = gains ∙ ap (λ o. done ++ option_to_list o) (sym here ∙ is)

          late_after : (d : List ℕ) → (ms : List (Match V)) × (standard width K (read ++ d) ≡ done ++ m ∷ ms) × Follows m.end ms
          late_after d =
              let late = standard-late width K longest bound m.end wide read d (done ++ m ∷ []) one_found
              (inl (omega (arith, last_end-push 0 done m))) in
              (late.0, late.1 ∙ append_assoc done (m ∷ []) late.0, late.2)

        refused-here : (o : Option (Match V)) → found ≡ o → SettlesSoFar bytes taken step e longest o held f out new
            → (more d : List ℕ) → IsStopped bytes taken (text ++ more) step e (standard width K (read ++ d)) first old new
        refused-here None is (n, many, part) more d = refused-past (none_found is) n (inr many) (omega (arith, many)) new part e more d
        refused-here (Some m) is part more d =
            let late = late_after m is d in
            let D : List (Match V) → Type 0 = λ l. IsStopped bytes taken (text ++ more) step e l first old new in
            subst D (sym late.1) (refused-matched m (sym here ∙ is) (one_found m is) late.0 late.2 new e part more)

        -- the output refused some of what was to be settled, or the call returned the error
        pub refused-settled : SettlesSoFar bytes taken step e longest found held f out new → (more d : List ℕ)
            → IsStopped bytes taken (text ++ more) step e (standard width K (read ++ d)) first old new
        refused-settled = refused-here found refl

-- what is held after that is no more than the longest key and a block
pub settled-few : {V P O E F : Type 0} (bytes : P → List ℕ) (taken : O → Option (List ℕ))
    (step : F → Match V → P → MutBor O → Result (Unit {0}) E → MutBor O → F → Type 0)
    (longest : ℕ) (found : Option (Match V)) (held : List ℕ) (f : F) (old : O) (rest : List ℕ) (g : F) (new : O)
    → Settles bytes taken step longest found held f old rest g new → length rest ≤ longest + block
settled-few bytes taken step longest None held f old rest g new (n, out, same) = out.few
settled-few bytes taken step longest (Some m) held f old rest g new (at, went, call, none) = omega (arith, ap length none)
