-- Parents rise with the ranks, so the children of all earlier parents end where a later parent's first child stands, and the last parent's
-- with the last rank.
use Rattle.std.proofs.Common.{rules, ◌≡◌, ◌≤◌, ◌++◌, ◌∷◌, [], suc, length, sym, ap, ◌∙◌, subst, arith}
use Rattle.std.proofs.lemmas.List.{length_push}
use Rattle.std.proofs.lemmas.Grind.{elements}
use Rattle.daachorse_array.specs.Ranks.{AreStartsTo}
use Rattle.daachorse_array.proofs.StartLaws.{starts_push}
use Rattle.daachorse_array.proofs.trie.Trie.starts.Goals as goal

pub loop-starts-preserved : goal.loop-starts-preserved
loop-starts-preserved g c =
    let ps = c.args.self.now.parents.items in
    let old = c.loop-starts.starts.items in
    let inv = c.loop-starts.invariant in
    let n = length ps in
    let count : c.len-count.result ≡ n = search rules in
    let items : c.push-in-loop-starts.new.self.items ≡ old ++ c.len-count.result ∷ [] = search rules in
    let small : length old ≤ n = omega (arith, c.loop-starts-test.true, c.len-in-loop-starts.ensures, count) in
    let more : length c.push-in-loop-starts.new.self.items ≡ suc (length old) = ap length items ∙ length_push old c.len-count.result
    ∙ omega arith in
    let to : AreStartsTo ps (old ++ c.len-count.result ∷ []) (suc (length old)) =
    starts_push ps old (length old) c.len-count.result (omega arith) inv.to (omega (arith, count, c.requires.order.some))
    (omega (arith, count)) (λ k low high. inv.past k low (omega (arith, count, high)))
    (λ k low high. absurd (omega (arith, count, low, high))) in
    record {
      to = subst (λ xs. AreStartsTo ps xs (length xs)) (sym items)
          (subst (λ s. AreStartsTo ps (old ++ c.len-count.result ∷ []) s) (sym (length_push old c.len-count.result ∙ omega arith)) to);
      past = λ k low high. omega (arith, more, inv.past k low high);
      most = omega (arith, more, small);
    }

pub loop-parent-preserved : goal.loop-parent-preserved
loop-parent-preserved g c = grind (arith, elements)
