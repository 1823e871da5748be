-- What is built of a vector's items is built of the lines that they are.
use Rattle.std.proofs.Common.{ℕ, false, List, map, ◌∙◌, ap, sym, subst, inl, inr}
use Rattle.std.proofs.lemmas.Result.{IfOk-weaker, IfErr-weaker}
use Rattle.std.specs.Borrow.{Bor}
use Rattle.daachorse.specs.bytewise.Building.{IsBuiltOf, IsBuildRefusal}
use Rattle.daachorse.specs.DaachorseError.{DaachorseError}
use Rattle.daachorse_model.specs.Program.{pattern_lines}
use Rattle.daacfind_command.specs.Runs.{value_gives}
use Rattle.daacfind_command.proofs.run.build.Goals as goal

pub returns-clause-built : goal.returns-clause-built
returns-clause-built g c =
    IfOk-weaker c.build.result _ _
    (λ a r.
    let copied = c.copied.ensures.runs r.2.0 r.2.0.seen (r.2.1 ∙ r.1) in
    let read = c.iter.ensures.runs copied.0 copied.0.seen in
    let items = copied.2.2 ∙ read.4 (copied.2.0 ∙ r.2.2) ∙ ap (λ it. it.rest.now) copied.1 ∙ c.iter.ensures.rest ∙ c.deref.ensures.value in
    let P : List (List ℕ) → Type 0 = λ ts. IsBuiltOf value_gives c.args.kind false ts a in
    subst P (ap (map (λ (t : Bor (List ℕ)). t.now)) items ∙ c.in_ok-patterns.ensures)
    (rw (c.match_kind-builder.ensures, c.new.ensures.folds) at r.2.3))
    c.build.ensures.ok

pub returns-clause-err : goal.returns-clause-err
returns-clause-err g c =
    let lines = pattern_lines c.args.file.now in
    IfErr-weaker c.build.result _ (IsBuildRefusal value_gives c.args.kind lines)
    (λ e cause. elim cause [
      | inl memory ↦ let Q : DaachorseError → Type 0 = λ x. IsBuildRefusal value_gives c.args.kind lines x in subst Q (sym memory) tt
      | inr r ↦
          let copied = c.copied.ensures.runs r.2.0 r.2.0.seen (r.2.1 ∙ r.1) in
          let read = c.iter.ensures.runs copied.0 copied.0.seen in
          let items = copied.2.2 ∙ read.4 (copied.2.0 ∙ r.2.2) ∙ ap (λ it. it.rest.now) copied.1 ∙ c.iter.ensures.rest
          ∙ c.deref.ensures.value in
          let P : List (List ℕ) → Type 0 = λ ts. IsBuildRefusal value_gives c.args.kind ts e in
          subst P (ap (map (λ (t : Bor (List ℕ)). t.now)) items ∙ c.in_ok-patterns.ensures)
          (rw (c.match_kind-builder.ensures, c.new.ensures.folds) at r.2.3)
    ])
    c.build.ensures.err
