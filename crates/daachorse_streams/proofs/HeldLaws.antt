-- Some of the bytes held go out, without a match or with the next one, or more bytes come to them.
use Rattle.std.proofs.Common.{
  ◌≡◌,
  ℕ,
  ◌+◌,
  ◌-◌,
  ◌≤◌,
  List,
  [],
  ◌∷◌,
  ◌++◌,
  length,
  take,
  drop,
  Option,
  Result,
  Ok,
  Err,
  refl,
  sym,
  ap,
  ◌∙◌,
  subst,
  append_assoc,
  append-nil,
  take-append-drop,
  length-append,
  arith,
}
use Rattle.std.proofs.lemmas.List.{drop-append-le, drop-drop, drop_all, length-take-le, take_all}
use Rattle.std.specs.Prelude.{slice_range}
use Rattle.std.specs.Borrow.{MutBor}
use Rattle.std.specs.Io.KnownBytes.{Appends}
use Rattle.std.proofs.KnownBytes.{Appends-nil}
use Rattle.daachorse_model.specs.declared.Match.{Match}
use Rattle.daachorse_model.specs.Laws.{Follows}
use Rattle.daachorse_streams.specs.Replaced.{AppendsPart}
use Rattle.daachorse_streams.specs.ReplacedWith.{IsReplaced, IsReplacedSoFar, IsStopped, MayWriteFor}
use Rattle.daachorse_streams.specs.Streams.{IsHeld, IsHeldBack, LeadsOn}
use Rattle.daachorse_streams.proofs.LeadsOn.{
  all_out,
  leads_behind,
  leads_from_start,
  leads_over,
  leads_past,
  answers_at,
  nothing_more,
  refuses_before,
  refuses_within,
  within,
}

-- a part of the bytes held, where they begin at s
part_of : (text : List ℕ) (s a e : ℕ) → s ≤ a → a ≤ e → slice_range (drop s text) (a - s) (e - s) ≡ slice_range text a e
part_of text s a e starts ordered =
    let count : (e - s) - (a - s) ≡ e - a = omega (arith, starts, ordered) in
    let place : s + (a - s) ≡ a = omega (arith, starts) in
    ap (λ k. take k (drop (a - s) (drop s text))) count ∙ ap (take (e - a)) (drop-drop (a - s) s text ∙ ap (λ k. drop k text) place)

module _ {V P O E F : Type 0} (bytes : P → List ℕ) (taken : O → Option (List ℕ))
    (step : F → Match V → P → MutBor O → Result (Unit {0}) E → MutBor O → F → Type 0) (first : F) (old : O) where
  pub held-first : IsHeld bytes taken step first old [] [] 0 [] first old
  held-first = record { front = []; ends = refl; parts = refl; leads = leads_from_start bytes taken step first old }

  module _ {text : List ℕ} {done : List (Match V)} {place : ℕ} {held : List ℕ} {f : F} {out : O}
      (h : IsHeld bytes taken step first old text done place held f out) where
    pub held-count : place + length held ≡ length text
    held-count = omega (arith, h.ends, ap length h.parts, length-append h.front held)

    -- where more bytes came before those held
    behind_front : (next : List ℕ) → next ≡ drop place (h.front ++ next)
    behind_front next =
        sym (drop-append-le place h.front next (omega (arith, h.ends))
        ∙ ap (λ l. l ++ next) (drop_all place h.front (omega (arith, h.ends))))

    holds : held ≡ drop place text
    holds = behind_front held ∙ ap (drop place) (sym h.parts)

    leads : LeadsOn bytes taken step first old text done place f out
    leads = let L : List ℕ → Type 0 = λ l. LeadsOn bytes taken step first old l done place f out in
        subst L (sym h.parts) (leads_over bytes taken step first old h.front done place f out held h.leads)

    -- the same for what n more bytes make of what went out
    leads_to : (n : ℕ) → LeadsOn bytes taken step first old (h.front ++ take n held) done place f out
    leads_to n = leads_over bytes taken step first old h.front done place f out (take n held) h.leads

    front_count : (n : ℕ) → n ≤ length held → length (h.front ++ take n held) ≡ place + n
    front_count n inner = omega (arith, length-append h.front (take n held), length-take-le n held inner, h.ends)

    parts_at : (n : ℕ) → text ≡ (h.front ++ take n held) ++ drop n held
    parts_at n = h.parts ∙ ap (λ l. h.front ++ l) (sym (take-append-drop n held)) ∙ sym (append_assoc h.front (take n held) (drop n held))

    -- what went out is the whole replacement of what is not held
    pub held-out : IsReplaced bytes taken h.front step done first old out
    held-out =
        let D : List (Match V) → Type 0 = λ l. IsReplaced bytes taken h.front step l first old out in
        let T : List ℕ → Type 0 = λ l. IsReplaced bytes taken l step (done ++ []) first old out in
        let nothing : [] ≡ drop place (h.front ++ []) = behind_front [] in
        subst D (append-nil done)
        (subst T (append-nil h.front)
        (h.leads.all [] [] out tt (subst (Appends (taken out) (taken out)) nothing (Appends-nil (taken out)))))

    -- however the text goes on, if no match that is to come begins before what is held
    pub held-back : {X : Type 0} (matches : X → List (Match V))
        → ((more : X) → (rest : List (Match V)) × (matches more ≡ done ++ rest) × Follows place rest)
        → IsHeldBack bytes taken step matches text held first old out
    held-back matches certain = record {
      done = done;
      front = h.front;
      parts = h.parts;
      replaced = held-out;
      certain = λ more. (let c = certain more in (c.0, c.1, subst (λ n. Follows n c.0) (sym h.ends) c.2));
    }

    -- more bytes are held
    pub held-more : (next : List ℕ) → IsHeld bytes taken step first old (text ++ next) done place (held ++ next) f out
    held-more next =
        record { front = h.front; ends = h.ends; parts = ap (λ l. l ++ next) h.parts ∙ append_assoc h.front held next; leads = h.leads }

    -- n bytes went out, before any match that is to come
    pub held-past : (n : ℕ) (next : O) → n ≤ length held → Appends (taken out) (taken next) (take n held)
        → IsHeld bytes taken step first old text done (place + n) (drop n held) f next
    held-past n next inner went = record {
      front = h.front ++ take n held;
      ends = front_count n inner;
      parts = parts_at n;
      leads =
          let sent : take n held ≡ take n (drop place (h.front ++ take n held)) =
          sym (take_all n (take n held) (omega (arith, length-take-le n held inner))) ∙ ap (take n) (behind_front (take n held)) in
          leads_past bytes taken step first old (h.front ++ take n held) done place f out (leads_to n) n next
          (omega (arith, front_count n inner)) (subst (Appends (taken out) (taken next)) sent went);
    }

    -- or nothing more
    pub held-still : (ms : List (Match V)) → Follows place ms → (more : List ℕ)
        → IsReplacedSoFar bytes taken (text ++ more) step (done ++ ms) first old out
    held-still = nothing_more bytes taken step first old text done place f out leads

    -- or the output refused some of the n bytes
    pub refused-within : (n : ℕ) → n ≤ length held → (ms : List (Match V)) → Follows (place + n) ms → (new : O)
        → AppendsPart (taken out) (taken new) (take n held)
        → (e : E) (more : List ℕ) → IsStopped bytes taken (text ++ more) step e (done ++ ms) first old new
    refused-within n inner ms after new part =
        refuses_within bytes taken step first old text done place f out leads n (omega (arith, held-count, inner)) ms after new
        (subst (λ l. AppendsPart (taken out) (taken new) (take n l)) holds part)

    -- or some of all
    pub refused-whole : (new : O) → AppendsPart (taken out) (taken new) held → (e : E)
        → IsStopped bytes taken text step e done first old new
    refused-whole new part e =
        let T : List ℕ → Type 0 = λ l. IsStopped bytes taken l step e done first old new in
        let D : List (Match V) → Type 0 = λ l. IsStopped bytes taken (text ++ []) step e l first old new in
        subst T (append-nil text) (subst D (append-nil done)
        (refused-within (length held) (omega arith) [] tt new
        (subst (AppendsPart (taken out) (taken new)) (sym (take_all (length held) held (omega arith))) part) e []))

    -- all went out
    pub held-whole : (new : O) → Appends (taken out) (taken new) held → IsReplaced bytes taken text step done first old new
    held-whole new went =
        all_out bytes taken step first old text done place f out leads new (subst (Appends (taken out) (taken new)) holds went)

    module _ (m : Match V) (ms : List (Match V)) (after : Follows place (m ∷ ms)) (inner : m.end ≤ place + length held) where
      before_is : take (m.start - place) held ≡ slice_range text place m.start
      before_is = ap (take (m.start - place)) holds

      matched_is : slice_range held (m.start - place) (m.end - place) ≡ slice_range text m.start m.end
      matched_is = ap (λ l. slice_range l (m.start - place) (m.end - place)) holds ∙ part_of text place m.start m.end after.0 after.1

      ends : m.end ≤ length text
      ends = omega (arith, inner, held-count)

      abbrev count : ℕ
      count = m.end - place

      -- the same parts of what went out with the match
      abbrev sent : List ℕ
      sent = h.front ++ take count held

      sent_count : length sent ≡ m.end
      sent_count = omega (arith, front_count (m.end - place) (omega (arith, inner)), after.0, after.1)

      part_sent : (s e : ℕ) → s ≤ e → e ≤ m.end → slice_range text s e ≡ slice_range sent s e
      part_sent s e ordered fits =
          ap (λ l. slice_range l s e) (parts_at count) ∙ within sent (drop count held) s e ordered (omega (arith, fits, sent_count))

      -- the bytes before the next match went out, and then it
      pub held-behind : (at next : O) (g : F) → Appends (taken out) (taken at) (take (m.start - place) held)
          → MayWriteFor bytes step f m (slice_range held (m.start - place) (m.end - place)) at (Ok tt) next g
          → IsHeld bytes taken step first old text (done ++ m ∷ []) m.end (drop (m.end - place) held) g next
      held-behind at next g went call = record {
        front = sent;
        ends = sent_count;
        parts = parts_at count;
        leads = leads_behind bytes taken step first old sent done place f out (leads_to count) m after.0 after.1 (omega (arith, sent_count))
            at next g
            (subst (Appends (taken out) (taken at)) (before_is ∙ part_sent place m.start after.0 after.1) went)
            (let C : List ℕ → Type 0 = λ l. MayWriteFor bytes step f m l at (Ok tt) next g in
            subst C (matched_is ∙ part_sent m.start m.end after.1 (omega arith)) call);
      }

      -- the output refused some of the bytes before it
      pub refused-before : (new : O) → AppendsPart (taken out) (taken new) (take (m.start - place) held)
          → (e : E) (more : List ℕ) → IsStopped bytes taken (text ++ more) step e (done ++ m ∷ ms) first old new
      refused-before new part =
          refuses_before bytes taken step first old text done place f out leads m after.0 after.1 ends ms after.2 new
          (subst (AppendsPart (taken out) (taken new)) before_is part)

      -- the call for it returned this error
      pub answered-at : (at new : O) (e : E) (g : F) → Appends (taken out) (taken at) (take (m.start - place) held)
          → MayWriteFor bytes step f m (slice_range held (m.start - place) (m.end - place)) at (Err e) new g
          → (more : List ℕ) → IsStopped bytes taken (text ++ more) step e (done ++ m ∷ ms) first old new
      answered-at at new e g went call =
          answers_at bytes taken step first old text done place f out leads m after.0 after.1 ends ms after.2 at new e g
          (subst (Appends (taken out) (taken at)) before_is went)
          (let C : List ℕ → Type 0 = λ l. MayWriteFor bytes step f m l at (Err e) new g in subst C matched_is call)
