-- The length of the window stands before the entries.
use Rattle.std.proofs.Common.{ℕ, List, [], ◌∷◌, ◌++◌, sym, ap, ◌∙◌, append_assoc, append-nil}
use Rattle.daachorse_prefilter.specs.FilterForms.{filter_form}
use Rattle.daachorse_prefilter.specs.Filters.{Filter}
use Rattle.daachorse_prefilter.proofs.prefilter.form.PrefilterSerializableVec.serialize_to_vec.Goals as goal

pub returns-in_err-push-clause-kept : goal.returns-in_err-push-clause-kept
returns-in_err-push-clause-kept g c = ([], c.in_err-push.ensures.items ∙ sym (append-nil c.args.dst.now.items))

pub returns-in_err-push_to-clause-kept : goal.returns-in_err-push_to-clause-kept
returns-in_err-push_to-clause-kept g c =
    let before = c.args.dst.now.items in let byte : List ℕ = c.self.inside.window_len ∷ [] in let kept = c.push_to.ensures.kept in
    (byte ++ kept.0, kept.1 ∙ ap (λ w. w ++ kept.0) c.in_ok-push.ensures.items ∙ append_assoc before byte kept.0)

pub returns-clause-written : goal.returns-clause-written
returns-clause-written g c =
    let before = c.args.dst.now.items in let byte : List ℕ = c.self.inside.window_len ∷ [] in let table = c.self.inside.table in
    c.in_ok-push_to.ensures.appends ∙ ap (λ w. w ++ table) c.in_ok-push.ensures.items ∙ append_assoc before byte table ∙ ap (λ (f : Filter). before ++ filter_form f) c.self.view_is

pub returns-clause-kept : goal.returns-clause-kept
returns-clause-kept g c =
    let before = c.args.dst.now.items in let byte : List ℕ = c.self.inside.window_len ∷ [] in let kept = c.push_to.ensures.kept in
    (byte ++ kept.0, kept.1 ∙ ap (λ w. w ++ kept.0) c.in_ok-push.ensures.items ∙ append_assoc before byte kept.0)
