-- The ranks are a trie with the same texts and keys as the array, so the trie's links are right just where those of the array are, and a
-- link that leads to no rank never is.
use Rattle.std.proofs.Common.{rules, ◌≡◌, length, sym, subst, arith}
use Rattle.std.proofs.lemmas.Bool.{false≢true}
use Rattle.daachorse_array.specs.Ranks.{IsTrieOfRanks}
use Rattle.daachorse_checker.specs.Chains.{machine_of}
use Rattle.daachorse_checker.specs.Links.{AreLinkRanks, LeadsToNoRank}
use Rattle.daachorse_checker.proofs.RankLaws.{few}
use Rattle.daachorse_checker.proofs.CheckedLaws.{trie_of_ranks, no_rank, links_are_right}
use Rattle.daachorse_checker.proofs.checker.links_hold.Goals as goal

pub link_ranks-requires-clause-few : goal.link_ranks-requires-clause-few
link_ranks-requires-clause-few g c = omega (arith, few c.requires.ranks.ranks, c.requires.ranks.marks_each, c.requires.few)

pub returns-in_default-clause-ok : goal.returns-in_default-clause-ok
returns-in_default-clause-ok g c =
    let arr = c.args.array.now in
    let p = c.args.ranks in
    let a = machine_of (g.E.Array.sees arr) c.args.outputs.now in
    let bad : LeadsToNoRank c.args.leftmost (g.E.Array.sees arr).fail p.order.items = search rules in (
      λ e. absurd (false≢true e),
      λ links.
          absurd (no_rank (g.E.Array.sees arr).width a c.requires.edges.tell c.requires.ranks
          (λ i u j h. (c.requires.edges.inside i u j h).1) c.args.leftmost bad links),
    )

pub has_links-requires-clause-trie : goal.has_links-requires-clause-trie
has_links-requires-clause-trie g c =
    let arr = c.args.array.now in
    let p = c.args.ranks in
    let a = machine_of (g.E.Array.sees arr) c.args.outputs.now in
    subst (λ u. IsTrieOfRanks p.parents.items p.labels.items u) (sym c.num_units.ensures.bound)
    (trie_of_ranks (g.E.Array.sees arr).width a c.requires.edges.tell c.requires.ranks (λ i u j h. (c.requires.edges.inside i u j h).1))

pub has_links-requires-clause-few : goal.has_links-requires-clause-few
has_links-requires-clause-few g c =
    omega (arith, few c.requires.ranks.ranks, c.requires.ranks.marks_each, c.requires.ranks.ranks.one_each, c.requires.few)

pub returns-clause-ok : goal.returns-clause-ok
returns-clause-ok g c =
    let arr = c.args.array.now in
    let p = c.args.ranks in
    let a = machine_of (g.E.Array.sees arr) c.args.outputs.now in
    let fails = c.in-Some.fails.items in
    let each : length fails ≡ length p.order.items = search rules in
    let linked : AreLinkRanks (g.E.Array.sees arr).fail p.order.items fails = search rules in
    let same = links_are_right (g.E.Array.sees arr).width a c.requires.edges.tell c.requires.ranks
    (λ i u j h. (c.requires.edges.inside i u j h).1) c.args.leftmost
    c.args.sizes.now c.requires.sized c.requires.sizes c.in_ok-stops.stops.items c.in_ok-stops.ensures.ok c.in_ok-stops.ensures.each fails
    each linked c.requires.tree in
    (λ e. same.0 (c.in_ok-right.ensures.ok.0 e), λ links. c.in_ok-right.ensures.ok.1 (same.1 links))
