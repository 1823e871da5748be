-- Each count grows by itself, and the others stay.
use Rattle.std.proofs.Common.{ℕ, ◌<◌, ◌≤◌, Option, IfSome, length, subst, arith}
use Rattle.std.proofs.lemmas.List.Elements.{length_all_zip}
use Rattle.daachorse_build.proofs.GrownCounts.{grown_same, grown_twice, counted_same}
use Rattle.daachorse_build.proofs.nfa_builder.profile.count_reads.Goals as goal

pub returns-then-id-eq-ROOT_STATE_ID : goal.returns-then-id-eq-ROOT_STATE_ID
returns-then-id-eq-ROOT_STATE_ID g c = counted_same c.args.profile.now

pub count-requires-in-Some : goal.count-requires-in-Some
count-requires-in-Some g c =
    let P : Option ℕ → Type 0 = λ o. IfSome o (λ t. t < length c.args.states.now) in
    let low : c.in-Some.next < length c.args.states.now = subst P c.in-Some.is c.requires.next in
    let same = length_all_zip (λ m n. m ≤ n) c.args.profile.now.visits.items c.count.new.counts.items c.count.ensures in
    omega (arith, low, same, c.requires.counts.visits)

pub returns-in-Some : goal.returns-in-Some
returns-in-Some g c = record {
  visits = grown_twice c.args.profile.now.visits.items c.count.new.counts.items _ c.count.ensures c.count-in-Some.ensures;
  probes = grown_same c.args.profile.now.probes.items;
}

pub returns-else-not-is_empty : goal.returns-else-not-is_empty
returns-else-not-is_empty g c = record {
  visits = c.count.ensures;
  probes = grown_same c.args.profile.now.probes.items;
}
