-- The closure gives each pair's frequency, reversed; what the sort then ensures is the order of the ranks.
use Rattle.std.proofs.Common.{◌≡◌, ℕ, subst, List, IsPermutation, rules}
use Rattle.std.specs.declared.cmp.Reverse.{Reverse}
use Rattle.std.specs.List.Sorted.{IsStableBy}
use Rattle.std.proofs.lemmas.Fn.{always_returns_same}
use Rattle.daachorse_charwise_states.proofs.Ranking.{ranked_from, less}
use Rattle.daachorse_charwise_states.proofs.mapper.rank.Goals as goal

pub returns-clause-ranked : goal.returns-clause-ranked
returns-clause-ranked g c =
    let key : ℕ × ℕ → Reverse ℕ = λ x. record { 0 = x.1 } in
    let computes = always_returns_same _ (λ a r. r ≡ key a.0.now) _ (λ a r q k. search rules) in
    let after : List (ℕ × ℕ) = c.sort_by_key.new.self.items in
    let P : List (ℕ × ℕ) → Type 0 = λ xs. IsPermutation xs after in
    let S : List (ℕ × ℕ) → Type 0 = λ xs. IsStableBy less xs after in
    let used = c.in_ok-ranked.ensures.used in
    ranked_from c.args.freqs.now after
    (subst P used c.in_ok-sort_by_key.ensures.permutation)
    (c.in_ok-sort_by_key.ensures.sorted key computes)
    (subst S used (c.in_ok-sort_by_key.ensures.stable key computes))
