-- The lines that are not empty were built into an automaton, or refused.
use Rattle.std.proofs.Common.{rules, tests, ◌≡◌, false, List, map, ap, ◌∙◌, subst}
use Rattle.std.proofs.lemmas.Iterator.{YieldsList-from_map_by}
use Rattle.std.proofs.lemmas.Iterator.Consumers.{YieldsList-at, YieldsList-from_filter}
use Rattle.std.proofs.lemmas.Iterator.Splits.{YieldsList-from_lines}
use Rattle.std.proofs.lemmas.List.{map-id}
use Rattle.std.specs.Prelude.{length, not, ◌==◌}
use Rattle.daachorse_model.specs.declared.MatchKind.TheVariants.{LeftmostLongest}
use Rattle.daachorse_model.specs.Folding.{all_as_read}
use Rattle.daachorse.specs.bytewise.Building.{IsBuildRefusal, IsBuiltOf}
use Rattle.daachorse_uses.specs.Secrets.{secrets_in, value_gives}
use Rattle.daachorse_uses.proofs.Listed.{listed, listed_or}
use Rattle.daachorse_uses.proofs.stream.automaton_of.Goals as goal

pub returns : goal.returns
returns c =
    let text = c.args.secrets.now in let self = c.match_kind.result in
    let kind : self.match_kind ≡ LeftmostLongest = ap (λ s. s.match_kind) c.match_kind.ensures in
    let folds : self.ascii_case_insensitive ≡ false = ap (λ s. s.ascii_case_insensitive) c.match_kind.ensures ∙ c.new.ensures.folds in
    record {
      ok =
          listed c.build.result _ _ _ c.build.ensures.ok (λ t. t.now) (map (λ line. line) (secrets_in text))
          (λ it begins. YieldsList-at begins (YieldsList-from_map_by _ (λ t. t.now) (λ line. line)
          (YieldsList-at c.map.ensures.source (YieldsList-from_filter _ (λ line. not (length line == 0))
          (YieldsList-at c.filter-lines.ensures.source (YieldsList-from_lines text c.lines.ensures.rest)) c.filter-lines.ensures.closure
          (λ x b q k. search (rules, tests)))) c.map.ensures.closure (λ x r q k. search (rules, tests))))
          (λ a p is built.
          subst (λ texts. IsBuiltOf value_gives LeftmostLongest false texts a) (is ∙ map-id (secrets_in text))
          (subst (λ b. IsBuiltOf value_gives LeftmostLongest b (map (λ t. t.now) p.items) a) folds
          (subst (λ k. IsBuiltOf value_gives k self.ascii_case_insensitive (map (λ t. t.now) p.items) a) kind built)));
      err =
          listed_or c.build.result _ _ _ _ c.build.ensures.err (λ t. t.now) (map (λ line. line) (secrets_in text))
          (λ it begins. YieldsList-at begins (YieldsList-from_map_by _ (λ t. t.now) (λ line. line)
          (YieldsList-at c.map.ensures.source (YieldsList-from_filter _ (λ line. not (length line == 0))
          (YieldsList-at c.filter-lines.ensures.source (YieldsList-from_lines text c.lines.ensures.rest)) c.filter-lines.ensures.closure
          (λ x b q k. search (rules, tests)))) c.map.ensures.closure (λ x r q k. search (rules, tests))))
          (λ e p is refused.
          subst (λ texts. IsBuildRefusal value_gives LeftmostLongest texts e) (is ∙ map-id (secrets_in text))
          (subst (λ b. IsBuildRefusal value_gives LeftmostLongest (all_as_read b (map (λ t. t.now) p.items)) e) folds
          (subst (λ k. IsBuildRefusal value_gives k (all_as_read self.ascii_case_insensitive (map (λ t. t.now) p.items)) e) kind refused)));
    }
