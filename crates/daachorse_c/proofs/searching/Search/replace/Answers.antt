-- Each match is replaced after what comes before it.
use Rattle.std.proofs.Common.{ℕ, ◌≤◌, List, ◌++◌, drop, length, slice_range, sym, ap, ◌∙◌, subst, arith}
use Rattle.std.proofs.lemmas.List.{take_rest}
use Rattle.daachorse_model.specs.declared.Match.{Match}
use Rattle.daachorse_streams.specs.Replaced.{AreParts, with_replacements_from}
use Rattle.daachorse_streams.proofs.Cuts.{parts_here}
use Rattle.daachorse_c.specs.Automata.{Reads}
use Rattle.daachorse_c.specs.Held.{haystack_of, searched}
use Rattle.daachorse_c.specs.Places.{left_of}
use Rattle.daachorse_c.specs.Replacing.{IsCut, replaced_by, replacement}
use Rattle.daachorse_c.proofs.Cut.{IsBegun, all_partial, partial_more, partial_nothing}
use Rattle.daachorse_c.proofs.Places.{begins, left_parts, left_whole}
use Rattle.daachorse_c.proofs.searching.Search.replace.Goals as goal

pub loop-found-init : goal.loop-found-init
loop-found-init c =
    let a = searched c.args.self.now in let h = haystack_of c.args.self.now in let bytes = c.args.texts.bytes.now in
    let ends = c.args.texts.ends.now in
    let reads : Reads a h = subst (Reads a) c.bytes-haystack.ensures.bytes c.bytes-haystack.ensures.text in
    let whole = left_whole a h in
    record {
      within = begins a h reads;
      parts = left_parts a h reads;
      partial = subst
          (λ ms. IsBegun (replaced_by bytes ends h a) (with_replacements_from (replacement bytes ends h) h 0 ms) c.args.out.now
          c.args.out.now 0) (sym whole) (partial_nothing (replaced_by bytes ends h a) c.args.out.now);
    }

pub loop-found-smaller : goal.loop-found-smaller
loop-found-smaller c = let shorter = ap length c.in-Some.ensures.some in omega (arith, shorter)

pub slice_bounds-matched-end : goal.slice_bounds-matched-end
slice_bounds-matched-end c =
    let h = haystack_of c.args.self.now in let m = c.in-Some.found in
    let parts = subst (AreParts (λ i. i ≤ length h) c.loop-found.behind) c.in-Some.ensures.some c.loop-found.invariant.parts in
    omega (
      arith,
      ap length c.bytes-haystack.ensures.bytes,
      parts_here (λ i. i ≤ length h) m.end (left_of (searched c.args.self.now) h c.next_match.new.place) parts.4,
    )

-- the bytes grow a text that stands in front
abbrev Puts : List ℕ → ℕ → ℕ → List ℕ → List ℕ → Type 0
Puts bytes size more old new = (text first : List ℕ) → IsCut text first old size → IsCut (text ++ bytes) first new more

pub loop-found-preserved : goal.loop-found-preserved
loop-found-preserved c =
    let a = searched c.args.self.now in let h = haystack_of c.args.self.now in let bytes = c.args.texts.bytes.now in
    let ends = c.args.texts.ends.now in
    let r = replacement bytes ends h in let m = c.in-Some.found in
    let rest = with_replacements_from r h m.end (left_of a h c.next_match.new.place) in
    let from = λ (ms : List (Match ℕ)). IsBegun (replaced_by bytes ends h a) (with_replacements_from r h c.loop-found.behind ms)
    c.args.out.now c.loop-found.out c.loop-found.size in
    let before = partial_more (slice_range h c.loop-found.behind m.start) (r m ++ rest)
    (subst from c.in-Some.ensures.some c.loop-found.invariant.partial)
    (subst (λ x. Puts (slice_range x c.loop-found.behind m.start) c.loop-found.size c.put-size.result c.loop-found.out c.put-size.new.out)
    c.bytes-haystack.ensures.bytes c.put-size.ensures) in
    record {
      within = c.next_match.ensures.within;
      parts = (subst (AreParts (λ i. i ≤ length h) c.loop-found.behind) c.in-Some.ensures.some c.loop-found.invariant.parts).4;
      partial = partial_more (r m) rest before (rw (← c.bytes-haystack.ensures.bytes, ← c.instead_of.ensures) c.put-size-in-Some.ensures);
    }

pub returns : goal.returns
returns c =
    let a = searched c.args.self.now in let h = haystack_of c.args.self.now in let bytes = c.args.texts.bytes.now in
    let ends = c.args.texts.ends.now in
    let from = λ (ms : List (Match ℕ)). IsBegun (replaced_by bytes ends h a)
    (with_replacements_from (replacement bytes ends h) h c.loop-found.behind ms) c.args.out.now c.loop-found.out c.loop-found.size in
    all_partial (drop c.loop-found.behind h) (subst from c.in_default.ensures.none.0 c.loop-found.invariant.partial)
    (subst (λ x. Puts x c.loop-found.size c.put.result c.loop-found.out c.put.new.out)
    (take_rest _ c.loop-found.behind ∙ ap (drop c.loop-found.behind) c.bytes-haystack.ensures.bytes) c.put.ensures)
