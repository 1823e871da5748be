-- What is built of the patterns that were read is built of the registrations that they are.
use Rattle.std.proofs.Common.{◌≡◌, ℕ, List, sym, ap, ◌∙◌, subst}
use Rattle.std.proofs.lemmas.Result.{IfOk-weaker}
use Rattle.daachorse_model.specs.Dictionary.{registrations_of}
use Rattle.daachorse_c.specs.Building.{IsBuiltFrom, IsBuiltOf}
use Rattle.daachorse_c.specs.Held.{automaton_of}
use Rattle.daachorse_c.specs.Patterns.{AreTexts, registrations, texts_in}
use Rattle.daachorse_c.proofs.building.build.Goals as goal

pub returns-clause-built : goal.returns-clause-built
returns-clause-built c =
    let s = c.args.settings in let bytes = c.args.bytes.now in let ends = c.args.ends.now in let values = c.args.values.now in
    let k = c.in_ok-kind.kind in let a = automaton_of c.in_ok-searches.searches in
    let all : registrations_of c.deref.result.now ≡ registrations bytes 0 ends values = ap registrations_of c.deref.ensures.value ∙ c.in_ok-patterns.ensures.all in
    let built : IsBuiltFrom s bytes ends values a = record {
      unit = c.in_ok-searches.ensures.unit;
      its_kind = k;
      kind = c.in_ok-kind.ensures;
      right = c.in_ok-patterns.ensures.right;
      texts = subst (AreTexts s.unit) all c.in_ok-searches.ensures.texts;
      built = subst (λ (rs : List (List ℕ × ℕ)). IsBuiltOf k s.ascii_case_insensitive s.use_prefilter (texts_in s.unit rs) a) all c.in_ok-searches.ensures.built;
    } in
    IfOk-weaker c.new.result _ _ (λ b e. subst (IsBuiltFrom s bytes ends values) (sym e) built) c.new.ensures.searches
