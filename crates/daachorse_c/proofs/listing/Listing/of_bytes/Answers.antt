-- Each pattern that the automaton gives comes after those before it.
use Rattle.std.proofs.Common.{◌≡◌, ℕ, List, ◌∷◌, [], ◌++◌, sym, ap, ◌∙◌, subst, append_assoc, refl, rules, arith}
use Rattle.daachorse_model.specs.Prefixes.{IsListing}
use Rattle.daachorse.specs.bytewise.Automata.{dictionary_of}
use Rattle.daachorse_patterns.proofs.Keys.{all-push}
use Rattle.daachorse_c.specs.declared.unit.Unit.TheVariants.{Byte}
use Rattle.daachorse_c.specs.Listing.{arrays, entries, one_more}
use Rattle.daachorse_c.specs.Patterns.{AreTexts, texts_in}
use Rattle.daachorse_c.specs.Units.{IsTextIn}
use Rattle.daachorse_c.proofs.Listed.{entries-more, kept_none, texts_of_more, whole-more, one-longer, one-wider}
use Rattle.daachorse_c.proofs.listing.Listing.of_bytes.Goals as goal

pub loop-item-init : goal.loop-item-init
loop-item-init c =
    let empty = c.empty-listing.ensures in
    record {
      listed = arrays [] [] [];
      whole = record { right = record { in_order = tt; one_each = refl }; whole = refl };
      size = empty.size;
      count = empty.count;
      kept = λ fits. empty.arrays;
      no_more = kept_none c.empty-listing.result c.args.room empty.arrays;
      texts = tt;
      listing = search rules;
    }

pub loop-item-preserved : goal.loop-item-preserved
loop-item-preserved c =
    let i = c.loop-item.invariant in let p = i.listed in let rest = c.next.new.self in
    let w = c.deref.result.now in let v = c.in_ok-pattern.value in
    let first : c.loop-item.item-iterator ≡ (w, v) ∷ rest = rw c.in_ok-pattern.was at c.in-Some.ensures.steps ∙ ap (λ t. (t, v) ∷ rest) (sym c.deref.ensures.value) in
    let size = c.in_ok-push.ensures.size in let count = c.in_ok-push.ensures.count in
    let listed : List (List ℕ × ℕ) = texts_in Byte (entries p) in
    record {
      listed = one_more p w v;
      whole = whole-more p w v i.whole;
      size = omega (arith, size, i.size, one-wider p w v);
      count = omega (arith, count, i.count, one-longer p w v);
      kept = λ fits. c.in_ok-push.ensures.pushed fits
          ∙ ap (λ q. one_more q w v) (i.kept (record { bytes = omega (arith, fits.bytes, size); patterns = omega (arith, fits.patterns, count) }));
      no_more = c.in_ok-push.ensures.within i.no_more;
      texts = subst (AreTexts Byte) (sym (entries-more p w v i.whole)) (all-push (λ r. IsTextIn Byte r.0) (entries p) (w, v) i.texts tt);
      listing = subst (IsListing (dictionary_of c.args.automaton.now))
          (ap (λ l. listed ++ l) first ∙ sym (append_assoc listed ((w, v) ∷ []) rest) ∙ ap (λ l. l ++ rest) (sym (texts_of_more Byte (entries p) (w, v)) ∙ ap (texts_in Byte) (sym (entries-more p w v i.whole))))
          i.listing;
    }
