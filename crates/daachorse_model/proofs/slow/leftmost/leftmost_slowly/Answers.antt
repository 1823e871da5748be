-- Under `LeftmostFirst` the patterns that are kept are those that extend no earlier one, and under the other kinds they are all patterns.
use Rattle.std.proofs.Common.{◌≡◌, true, false, ap, sym, ◌∙◌}
use Rattle.daachorse_model.specs.Kinds.{is_leftmost_first}
use Rattle.daachorse_model.specs.Dictionary.{kept_registrations, registrations_of}
use Rattle.daachorse_model.proofs.KindLaws.{kept_registrations-first, kept_registrations-all}
use Rattle.daachorse_model.proofs.slow.leftmost.leftmost_slowly.Goals as goal

pub returns-in_ok-kept : goal.returns-in_ok-kept
returns-in_ok-kept g c =
    let patterns = registrations_of c.args.patterns.now in
    let first : is_leftmost_first c.args.kind ≡ true = sym c.if-is_leftmost_first.ensures in
    let same : registrations_of c.deref.result.now ≡ kept_registrations c.args.kind patterns = ap registrations_of c.deref.ensures.value ∙ (c.in_ok-kept.ensures ∙ sym (kept_registrations-first c.args.kind patterns first)) in
    rw (← same) c.search_starts.ensures

pub returns-else-is_leftmost_first : goal.returns-else-is_leftmost_first
returns-else-is_leftmost_first g c =
    let patterns = registrations_of c.args.patterns.now in
    let all : is_leftmost_first c.args.kind ≡ false = sym c.if-is_leftmost_first.ensures in
    rw (kept_registrations-all c.args.kind patterns all) c.search_starts-else-is_leftmost_first.ensures
