-- The loop over a source: what it took so far is what its stepper read, and went out but for what is held.
use Rattle.std.proofs.Common.{
  ◌≡◌,
  ◌⊎◌,
  inl,
  inr,
  ℕ,
  ◌+◌,
  ◌<◌,
  ◌≤◌,
  ◌^◌,
  Bool,
  List,
  [],
  ◌∷◌,
  ◌++◌,
  length,
  Option,
  Some,
  None,
  Result,
  refl,
  sym,
  ap,
  ◌∙◌,
  subst,
  arith,
}
use Rattle.std.specs.Prelude.{IfSome, flat_map, map, option_to_list}
use Rattle.std.proofs.lemmas.Grind.{flat_map-append}
use Rattle.std.proofs.lemmas.List.{map-append}
use Rattle.std.specs.Borrow.{MutBor}
use Rattle.std.specs.Io.KnownBytes.{Appends}
use Rattle.std.specs.Iterator.{Count, MakesProgress}
use Rattle.std.specs.declared.io.Error.{Error}
use Rattle.std.specs.declared.io.ErrorKind.TheVariants.{OutOfMemory}
use Rattle.std.specs.IoError.{error_kind}
use Rattle.daachorse_model.specs.declared.Match.{Match}
use Rattle.daachorse_model.specs.Dictionary.{Dictionary}
use Rattle.daachorse_model.specs.Folding.{as_read, folded_unit}
use Rattle.daachorse_model.specs.Matches.{standard, standard_after}
use Rattle.daachorse_model.specs.Units.{size}
use Rattle.daachorse_model.proofs.FoldLaws.{as_read-append}
use Rattle.daachorse_haystack.specs.Sources.{IsReady}
use Rattle.daachorse_streams.specs.Replaced.{AppendsPart}
use Rattle.daachorse_streams.specs.ReplacedWith.{IsReplaced, IsReplacedSoFar, IsStopped}
use Rattle.daachorse_streams.specs.Streams.{EndsWithin, FailsWith, HasNoLonger, IsStreamed, IsStreamedSoFar, Settles, SettlesSoFar}
use Rattle.daachorse_streams.proofs.LeadsOn.{so_far_nothing}
use Rattle.daachorse_model.proofs.Find.{standard_apart}
use Rattle.daachorse_streams.proofs.HeldLaws.{held-back, held-first}
use Rattle.daachorse_streams.proofs.SentLaws.{
  IsSent,
  refused-all,
  refused-settled,
  sent-back,
  sent-first,
  sent-more,
  sent-settled,
  sent-whole,
  sent-within,
  settled-few,
  unsent-nothing,
}
use Rattle.daachorse_streams.proofs.StandardMatches.{standard-first, standard-more}
use Rattle.daachorse_streams.proofs.GaveUnitsLaws.{GaveUnits, form_more, sized_unit, gave-first, gave-fits, gave-more}

module _ {V P O F S U : Type 0} (bytes : P → List ℕ) (taken : O → Option (List ℕ))
    (step : F → Match V → P → MutBor O → Result (Unit {0}) Error → MutBor O → F → Type 0) (first : F) (old : O)
    (can : S → Type 0) (steps : S → Option U → S → Type 0) (left : S → Count) (failure : S → Option Error) (unit : U → ℕ)
    (form : U → List ℕ) (width : ℕ → ℕ)
    (K : Dictionary V) (longest : ℕ) (folds : Bool) (source : S) where
  abbrev Sent : List ℕ → List ℕ → List (Match V) → List ℕ → F → O → Type 0
  Sent = IsSent bytes taken step first old width K longest

  -- an allocation failed before
  pub stops-before : (e : Error) → error_kind e ≡ OutOfMemory
      → IsStreamedSoFar bytes taken step steps failure unit form (λ units. standard width K (as_read folds units)) longest e source first
      old old
  stops-before e memory = record {
    units = [];
    last = source;
    took = refl;
    because = inl (
      inr memory,
      (λ more. so_far_nothing bytes taken step first old (flat_map form more) 0 (standard width K (as_read folds (map unit more)))),
      [],
      omega arith,
      held-back bytes taken step first old (held-first bytes taken step first old)
          (λ more. standard width K (as_read folds (map unit more)))
          (λ more. (standard width K (as_read folds (map unit more)), refl, standard_apart width K (as_read folds (map unit more)))),
    );
  }

  -- at the head of the loop: of the units taken, the match that ends with the last is still to come
  pub record Goes (read : List ℕ) (s : S) (held : List ℕ) (f : F) (out : O) : Type 0 where
    pub units : List U
    pub gave : GaveUnits can steps left unit width folds source units read s
    pub done : List (Match V)
    pub gains : standard width K read ≡ done ++ option_to_list (standard_after width K read)
    pub sent : Sent (flat_map form units) read done held f out

  pub goes-first : ((u : ℕ) → 1 ≤ width u) → IsReady can steps left unit width source 0 → (read held : List ℕ) → read ≡ [] → held ≡ []
      → Goes read source held first old
  goes-first wide ready read held none empty =
      let R : List ℕ → Type 0 = λ l. Goes l source held first old in
      let H : List ℕ → Type 0 = λ l. Goes [] source l first old in
      subst R (sym none) (subst H (sym empty) (record {
        units = [];
        gave = gave-first can steps left unit width folds source ready [] refl;
        done = [];
        gains = standard-first width K wide;
        sent = sent-first bytes taken step first old width K longest;
      }))

module _ {V P O F S U : Type 0} {bytes : P → List ℕ} {taken : O → Option (List ℕ)}
    {step : F → Match V → P → MutBor O → Result (Unit {0}) Error → MutBor O → F → Type 0} {first : F} {old : O}
    {can : S → Type 0} {steps : S → Option U → S → Type 0} {left : S → Count} {failure : S → Option Error} {unit : U → ℕ}
    {form : U → List ℕ} {width : ℕ → ℕ}
    {K : Dictionary V} {longest : ℕ} {folds : Bool} {source : S} (wide : (u : ℕ) → 1 ≤ width u)
    (as_wide : (u : ℕ) → width (folded_unit u) ≡ width u) where
  module _ (bound : HasNoLonger width K longest) {read : List ℕ} {s : S} {held : List ℕ} {f : F} {out : O}
      (h : Goes bytes taken step first old can steps left failure unit form width K longest folds source read s held f out) where
    pub goes-within : (found : Option (Match V)) → found ≡ standard_after width K read → IfSome found (EndsWithin held)
    goes-within found here = sent-within bytes taken step first old width K longest bound h.sent found here h.gains

    -- the place behind the next unit fits
    pub goes-fits : (u : U) (t : S) → steps s (Some u) t → MakesProgress can left s (Some u) t → size width read + width (unit u) < 2 ^ 64
    goes-fits u t took goes = gave-fits can steps left unit width folds source as_wide h.gave u t took goes

    abbrev Stops : Error → O → Type 0
    Stops e new =
        IsStreamedSoFar bytes taken step steps failure unit form (λ units. standard width K (as_read folds units)) longest e source first
        old new

    -- the units of a longer haystack, as they are read
    read_on : (more : List U) → read ++ as_read folds (map unit more) ≡ as_read folds (map unit (h.units ++ more))
    read_on more =
        ap (λ l. l ++ as_read folds (map unit more)) h.gave.is
        ∙ sym (as_read-append folds (map unit h.units) (map unit more))
        ∙ ap (as_read folds) (sym (map-append unit h.units more))

    -- what holds of each longer text holds of what the source may go on to give
    on : (Q : List ℕ → List ℕ → Type 0) → ((more d : List ℕ) → Q (flat_map form h.units ++ more) (read ++ d)) → (more : List U)
        → Q (flat_map form (h.units ++ more)) (as_read folds (map unit (h.units ++ more)))
    on Q each more =
        let d : List ℕ = as_read folds (map unit more) in
        subst (Q (flat_map form (h.units ++ more))) (read_on more)
        (subst (λ text. Q text (read ++ d)) (sym (flat_map-append form h.units more)) (each (flat_map form more) d))

    module _ (found : Option (Match V)) (here : found ≡ standard_after width K read) (new : O) (e : Error)
        (part : SettlesSoFar bytes taken step e longest found held f out new) where
      refused : (more d : List ℕ)
          → IsStopped bytes taken (flat_map form h.units ++ more) step e (standard width K (read ++ d)) first old new
      refused = refused-settled bytes taken step first old width K longest bound h.sent wide found here h.gains new e part

      -- the output or the call for a match refused
      pub refuses-settling : (x : Error) → x ≡ e → Stops x new
      refuses-settling x same = subst (λ y. Stops y new) (sym same) (record {
        units = h.units;
        last = s;
        took = h.gave.took;
        because = inr (inl (on (λ text l. IsStopped bytes taken text step e (standard width K l) first old new) refused));
      })

    module _ (found : Option (Match V)) (here : found ≡ standard_after width K read) (rest : List ℕ) (g : F) (new : O)
        (settles : Settles bytes taken step longest found held f out rest g new) where
      settled : IsSent bytes taken step first old width K longest (flat_map form h.units) read (standard width K read) rest g new
      settled = sent-settled bytes taken step first old width K longest bound h.sent found here h.gains rest g new settles

      -- the source came to its end
      pub goes-to-end : (ended : S) (last : O) → steps s None ended → failure ended ≡ None → Appends (taken new) (taken last) rest
          → IsStreamed bytes taken step steps failure unit form (λ units. standard width K (as_read folds units)) source first old last
      goes-to-end ended last ends whole went = record {
        units = h.units;
        last = s;
        ended = ended;
        took = h.gave.took;
        ends = ends;
        whole = whole;
        replaced =
            let R : List ℕ → Type 0 = λ l. IsReplaced bytes taken (flat_map form h.units) step (standard width K l) first old last in
            subst R h.gave.is (sent-whole bytes taken step first old width K longest bound settled last went);
      }

      -- the source failed, or an allocation did
      pub fails-settled : (e : Error) → FailsWith steps failure e s ⊎ (error_kind e ≡ OutOfMemory) → Stops e new
      fails-settled e why = record {
        units = h.units;
        last = s;
        took = h.gave.took;
        because = inl (
          why,
          on (λ text l. IsReplacedSoFar bytes taken text step (standard width K l) first old new)
              (unsent-nothing bytes taken step first old width K longest bound settled wide refl),
          rest,
          settled-few bytes taken step longest found held f out rest g new settles,
          sent-back bytes taken step first old width K longest bound settled wide refl
              (λ more. standard width K (as_read folds (map unit (h.units ++ more))))
              (λ more. (as_read folds (map unit more), ap (standard width K) (sym (read_on more)))),
        );
      }

      -- or the source came to its end, and the output refused some of what was held
      module _ (ended : S) (last : O) (shown : List ℕ) (e : Error) (same : shown ≡ rest) (ends : steps s None ended) where
        refused-at-end : AppendsPart (taken new) (taken last) shown
            → IsStopped bytes taken (flat_map form h.units) step e (standard width K read) first old last
        refused-at-end part =
            refused-all bytes taken step first old width K longest bound settled last
            (subst (AppendsPart (taken new) (taken last)) same part) e

        pub refuses-finishing : ((failure ended ≡ Some e) × (last ≡ new))
            ⊎ ((failure ended ≡ None) × AppendsPart (taken new) (taken last) shown) → Stops e last
        refuses-finishing (inl (fails, none)) = subst (Stops e) (sym none) (fails-settled e (inl (ended, ends, fails)))
        refuses-finishing (inr (whole, part)) = record {
          units = h.units;
          last = s;
          took = h.gave.took;
          because =
              let R : List ℕ → Type 0 = λ l. IsStopped bytes taken (flat_map form h.units) step e (standard width K l) first old last in
              inr (inr ((ended, ends, whole), subst R h.gave.is (refused-at-end part)));
        }

      -- one unit more
      pub goes-more : (u : U) (t : S) (after more : List ℕ) → steps s (Some u) t → MakesProgress can left s (Some u) t
          → length (form u) ≡ width (unit u)
          → after ≡ read ++ as_read folds (unit u ∷ []) → more ≡ rest ++ form u
          → Goes bytes taken step first old can steps left failure unit form width K longest folds source after t more g new
      goes-more u t after more took goes long reads holds =
          let text = form_more form h.units u in
          let one = sized_unit unit form width as_wide folds u long in
          let next : IsSent bytes taken step first old width K longest (flat_map form h.units ++ form u)
          (read ++ as_read folds (unit u ∷ [])) (standard width K read) (rest ++ form u) g new =
          sent-more bytes taken step first old width K longest settled (form u) (as_read folds (unit u ∷ [])) one in
          record {
            units = h.units ++ u ∷ [];
            gave = gave-more can steps left unit width folds source as_wide h.gave u t after took goes reads;
            done = standard width K read;
            gains =
                let Q : List ℕ → Type 0 = λ l. standard width K l ≡ standard width K read ++ option_to_list (standard_after width K l) in
                subst Q (sym reads) (standard-more width K wide folds read (unit u));
            sent =
                let T : List ℕ
                → Type 0 = λ l. IsSent bytes taken step first old width K longest l after (standard width K read) more g new in
                let R : List ℕ
                → Type 0 = λ l. IsSent bytes taken step first old width K longest (flat_map form h.units ++ form u) l
                (standard width K read) more g new in
                let H : List ℕ
                → Type 0 = λ l. IsSent bytes taken step first old width K longest (flat_map form h.units ++ form u)
                (read ++ as_read folds (unit u ∷ [])) (standard width K read) l g new in
                subst T (sym text) (subst R (sym reads) (subst H (sym holds) next));
          }
