-- Each byte that is read moves the state by one pair.
use Rattle.std.proofs.Common.{◌≡◌, ◌+◌, ◌-◌, map, length, sym, ◌∙◌, arith}
use Rattle.std.proofs.lemmas.Bool.{eq-eqb, ne_eqb}
use Rattle.std.proofs.lemmas.List.{length-map}
use Rattle.daachorse_prefilter.proofs.Pairs.{bits_read}
use Rattle.daachorse_prefilter.proofs.Scanned.{begins_behind, none_more, found, found_none}
use Rattle.daachorse_prefilter.proofs.prefilter.scan.scan_rest.Goals as goal

pub overflow_sub-result : goal.overflow_sub-result
overflow_sub-result g c =
    let as_read = g.R.ByteReading.as_read in let h = c.args.haystack.now in let l = c.loop-place in
    let size : length (map as_read h) ≡ length h = length-map h as_read in
    let bits = bits_read c.args.table.now as_read h c.args.last c.args.pos l.place l.state c.pair.result c.from.result c.requires.low (omega arith) (omega arith) c.pair.ensures.first c.pair.ensures.second (c.from.ensures ∙ c.entry-entry.ensures) l.invariant.bits in
    let behind = begins_behind c.args.table.now (map as_read h) c.args.last c.args.pos (l.place + 1 + 1) (sym (bits c.args.last (omega arith)) ∙ eq-eqb _ 0 c.if-state-last-eq0.true) in
    omega arith

pub returns-then-state-last-eq0 : goal.returns-then-state-last-eq0
returns-then-state-last-eq0 g c =
    let as_read = g.R.ByteReading.as_read in let h = c.args.haystack.now in let l = c.loop-place in
    let size : length (map as_read h) ≡ length h = length-map h as_read in
    let bits = bits_read c.args.table.now as_read h c.args.last c.args.pos l.place l.state c.pair.result c.from.result c.requires.low (omega arith) (omega arith) c.pair.ensures.first c.pair.ensures.second (c.from.ensures ∙ c.entry-entry.ensures) l.invariant.bits in
    let place : l.place - c.args.last ≡ l.place + 1 + 1 - (c.args.last + 2) = omega arith in
    rw place (found c.args.table.now (map as_read h) c.args.last c.args.pos (l.place + 1) (omega arith) (sym (bits c.args.last (omega arith)) ∙ eq-eqb _ 0 c.if-state-last-eq0.true) l.invariant.none)

pub loop-place-preserved : goal.loop-place-preserved
loop-place-preserved g c =
    let as_read = g.R.ByteReading.as_read in let h = c.args.haystack.now in let l = c.loop-place in
    let size : length (map as_read h) ≡ length h = length-map h as_read in
    let bits = bits_read c.args.table.now as_read h c.args.last c.args.pos l.place l.state c.pair.result c.from.result c.requires.low (omega arith) (omega arith) c.pair.ensures.first c.pair.ensures.second (c.from.ensures ∙ c.entry-entry.ensures) l.invariant.bits in
    record {
      bits = bits;
      none = none_more c.args.table.now (map as_read h) c.args.last c.args.pos (l.place + 1) (omega arith) (sym (bits c.args.last (omega arith)) ∙ ne_eqb _ 0 c.if-state-last-eq0.false) l.invariant.none;
    }

pub returns : goal.returns
returns g c =
    let as_read = g.R.ByteReading.as_read in let h = c.args.haystack.now in let l = c.loop-place in
    let size : length (map as_read h) ≡ length h = length-map h as_read in
    let end : l.place + 1 ≡ length (map as_read h) = omega arith in
    rw (← size) (found_none c.args.table.now (map as_read h) c.args.last c.args.pos (rw end at l.invariant.none))
