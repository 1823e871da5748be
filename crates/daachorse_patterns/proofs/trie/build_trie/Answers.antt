-- The trie of all patterns has its links and outputs, and the first step that refuses refuses the build.
use Rattle.std.proofs.Common.{◌≡◌, ◌≤◌, ℕ, List, length, None, ◌∙◌, ap, subst, arith}
use Rattle.std.specs.Prelude.{IfSome}
use Rattle.std.proofs.lemmas.Option.{IfSome_then}
use Rattle.std.proofs.lemmas.Result.{err_from_is_err_and}
use Rattle.daachorse_core.proofs.Refusals.{at_error}
use Rattle.daachorse_model.specs.declared.MatchKind.{MatchKind}
use Rattle.daachorse_model.specs.Dictionary.{kept_registrations}
use Rattle.daachorse_model.specs.Kinds.{is_leftmost}
use Rattle.daachorse_build.specs.Builders.{kind_of, outputs_of}
use Rattle.daachorse_build.specs.Steps.{HasOutputsOf}
use Rattle.daachorse_patterns.specs.Building.{Fit, IsRefusalWithin, Limits}
use Rattle.daachorse_patterns.specs.Patterns.{texts_of}
use Rattle.daachorse_patterns.proofs.BuiltLaws.{HasTexts-kept, either_linked, few_for, finished_for}
use Rattle.daachorse_patterns.proofs.RefusalLaws.{HasTexts-count, count_refused, outputs_refused}
use Rattle.daachorse_patterns.proofs.trie.build_trie.Goals as goal

pub build_outputs-requires : goal.build_outputs-requires
build_outputs-requires g c =
    rw c.deref.ensures.value (either_linked g.L.Ord.cmp g.L.EdgeLabel.unit g.L.EdgeLabel.width (is_leftmost c.args.kind) c.add_all.new.nfa c.build_links.new.nfa c.in_ok-order.order.items c.in_ok-order.ensures.links)

pub returns-clause-ok : goal.returns-clause-ok
returns-clause-ok g c =
    let cmp = g.L.Ord.cmp in let unit = g.L.EdgeLabel.unit in let width = g.L.EdgeLabel.width in
    let rs : List (List ℕ × g.row.V.Denot) = texts_of g.P.Pattern.units c.args.patterns.now in
    let added = c.in_ok-add_all.ensures in let old = c.in_ok-nfa.ensures.kind in
    let linked = c.in_ok-order.ensures in let made = c.in_ok-build_outputs.ensures in
    let o = c.add_all.new.nfa in let b = c.build_links.new.nfa in let d = c.build_outputs.new.self in
    let texts = HasTexts-kept cmp unit width o b rs linked.kept added.ok in
    let bound = made.outputs.all_kept texts.labels texts.registered in
    let count : c.num_patterns.result ≡ length (kept_registrations c.args.kind rs) = c.num_patterns.ensures ∙ HasTexts-count cmp unit width o rs added.ok ∙ ap (λ k. length (kept_registrations k rs)) (added.kind ∙ old) in
    let few : IfSome c.args.max_patterns (λ n. length (outputs_of d) ≤ n) = IfSome_then c.args.max_patterns c.in_ok-check_count.ensures.ok (λ n low. omega (arith, low, bound, linked.kept.patterns, c.num_patterns.ensures)) in
    let F : MatchKind → Type 0 = λ k. Fit width k rs in
    record {
      built = finished_for cmp unit width g.met.L.Ord.total c.args.max_patterns c.args.kind o b d c.in_ok-order.order.items (added.kind ∙ old) added.fits linked.kept linked.links made.kept made.links made.parents (let P : List ℕ → Type 0 = λ order. HasOutputsOf cmp unit width b d order in subst P c.deref.ensures.value made.outputs) (few_for c.args.max_patterns (length (outputs_of d)) few made.outputs.few) rs added.ok;
      fit = subst F old added.fit;
      outputs = omega (arith, bound, made.outputs.few, linked.kept.patterns, c.num_patterns.ensures, count);
      few = IfSome_then c.args.max_patterns c.in_ok-check_count.ensures.ok (λ n low. omega (arith, low, count));
    }

pub returns-in_err-add_all-clause-err : goal.returns-in_err-add_all-clause-err
returns-in_err-add_all-clause-err g c =
    let p = err_from_is_err_and c.from_residual-in_err-add_all.result c.from_residual-in_err-add_all.ensures.1 in
    let limits : Limits = record { patterns = c.args.max_patterns; parents = None } in
    let P : MatchKind → Type 0 = λ k. IsRefusalWithin g.L.EdgeLabel.width limits k (texts_of g.P.Pattern.units c.args.patterns.now) c.in_err-add_all.field-0.0 in
    rw (p.1, p.2) (subst P c.in_ok-nfa.ensures.kind (c.in_err-add_all.ensures.err limits))

pub returns-in_err-check_count-clause-err : goal.returns-in_err-check_count-clause-err
returns-in_err-check_count-clause-err g c =
    let cmp = g.L.Ord.cmp in let unit = g.L.EdgeLabel.unit in let width = g.L.EdgeLabel.width in
    let rs : List (List ℕ × g.row.V.Denot) = texts_of g.P.Pattern.units c.args.patterns.now in
    let added = c.in_ok-add_all.ensures in let old = c.in_ok-nfa.ensures.kind in
    let count : c.num_patterns.result ≡ length (kept_registrations c.args.kind rs) = c.num_patterns.ensures ∙ HasTexts-count cmp unit width c.add_all.new.nfa rs added.ok ∙ ap (λ k. length (kept_registrations k rs)) (added.kind ∙ old) in
    let F : MatchKind → Type 0 = λ k. Fit width k rs in
    at_error c.from_residual-in_err-check_count.result _ _ c.from_residual-in_err-check_count.ensures.1 (count_refused width (record { patterns = c.args.max_patterns; parents = None }) c.args.kind rs c.num_patterns.result c.in_err-check_count.field-0.0 count (subst F old added.fit) c.in_err-check_count.ensures.err)

pub returns-in_err-build_outputs-clause-err : goal.returns-in_err-build_outputs-clause-err
returns-in_err-build_outputs-clause-err g c =
    let cmp = g.L.Ord.cmp in let unit = g.L.EdgeLabel.unit in let width = g.L.EdgeLabel.width in
    let rs : List (List ℕ × g.row.V.Denot) = texts_of g.P.Pattern.units c.args.patterns.now in
    let added = c.in_ok-add_all.ensures in let old = c.in_ok-nfa.ensures.kind in
    let count : c.num_patterns.result ≡ length (kept_registrations c.args.kind rs) = c.num_patterns.ensures ∙ HasTexts-count cmp unit width c.add_all.new.nfa rs added.ok ∙ ap (λ k. length (kept_registrations k rs)) (added.kind ∙ old) in
    let F : MatchKind → Type 0 = λ k. Fit width k rs in
    let few : IfSome c.args.max_patterns (λ n. length (kept_registrations c.args.kind rs) ≤ n) = IfSome_then c.args.max_patterns c.in_ok-check_count.ensures.ok (λ n low. omega (arith, low, count)) in
    let linked = c.in_ok-order.ensures in let b = c.build_links.new.nfa in
    let texts = HasTexts-kept cmp unit width c.add_all.new.nfa b rs linked.kept added.ok in
    at_error c.from_residual-in_err-build_outputs.result _ _ c.from_residual-in_err-build_outputs.ensures.1 (outputs_refused width c.args.max_patterns None c.args.kind rs c.requires few (subst F old added.fit) c.in_err-build_outputs.field-0.0 _
    (λ passed. let many = passed texts.labels texts.registered in omega (arith, many, ap (λ xs. length (kept_registrations (kind_of b) xs)) texts.units, ap (λ k. length (kept_registrations k rs)) (linked.kept.kind ∙ (added.kind ∙ old))))
    c.in_err-build_outputs.ensures.err)
