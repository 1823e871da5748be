-- A build that refuses the items of a slice refuses the texts that they are.
use Rattle.std.proofs.Common.{ℕ, List, map, ◌∙◌, ap, sym, subst, inl, inr}
use Rattle.std.proofs.lemmas.Result.{IfErr-weaker}
use Rattle.std.specs.Borrow.{Bor}
use Rattle.daachorse_model.specs.Folding.{all_as_read}
use Rattle.daachorse.specs.bytewise.Building.{IsBuildRefusal}
use Rattle.daachorse.specs.DaachorseError.{DaachorseError}
use Rattle.daacfind_command.specs.Runs.{value_gives}
use Rattle.daacgrep_command.proofs.automaton.build_of.Goals as goal

pub returns-clause-err : goal.returns-clause-err
returns-clause-err c =
    let texts = map (λ (p : Bor (List ℕ)). p.now) c.args.patterns.now in
    IfErr-weaker c.build.result _ (IsBuildRefusal value_gives c.args.kind (all_as_read c.args.folds texts))
    (λ e cause. elim cause [
      | inl memory ↦
          let Q : DaachorseError → Type 0 = λ x. IsBuildRefusal value_gives c.args.kind (all_as_read c.args.folds texts) x in
          subst Q (sym memory) tt
      | inr r ↦
          let copied = c.copied.ensures.runs r.2.0 r.2.0.seen (r.2.1 ∙ r.1) in
          let read = c.iter.ensures.runs copied.0 copied.0.seen in
          let items = copied.2.2 ∙ read.4 (copied.2.0 ∙ r.2.2) ∙ ap (λ it. it.rest.now) copied.1 ∙ c.iter.ensures.rest in
          let P : List (List ℕ) → Type 0 = λ ts. IsBuildRefusal value_gives c.args.kind (all_as_read c.args.folds ts) e in
          subst P (ap (map (λ (t : Bor (List ℕ)). t.now)) items) (rw (c.ascii_case_insensitive-builder.ensures, c.match_kind.ensures) at r.2.3)
    ])
    c.build.ensures.err
