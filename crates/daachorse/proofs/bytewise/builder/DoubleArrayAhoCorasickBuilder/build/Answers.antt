-- The texts are all that the iterator gives, and the settings are the builder's.
use Rattle.std.proofs.Common.{◌≡◌, map, subst, inr}
use Rattle.std.proofs.lemmas.Result.{IfOk-weaker, IfErr-weaker}
use Rattle.daachorse_model.specs.Folding.{all_as_read}
use Rattle.daachorse.specs.bytewise.Building.{IsBuildRefusal, IsBuiltOf, kept_filter}
use Rattle.daachorse_patterns.proofs.GatheredLaws.{IsAsked, of_all}
use Rattle.daachorse.proofs.bytewise.builder.DoubleArrayAhoCorasickBuilder.build.Goals as goal

pub returns : goal.returns
returns g c =
    let s = c.with_documents_as_read-settings.ensures in
    let same = subst (IsAsked c.with_documents_as_read-settings.result) c.self.view_is (record { kind = s.kind; filter = s.filter; folds = s.fold }) in
    let promise = of_all c.into_iter.result c.into_iter.ensures.into_iter_gives c.in_ok-texts.ensures.ok _ c.deref.ensures.value c.args.self same in
    record {
      ok = IfOk-weaker c.from_texts.result _ _ (λ a. promise (λ k u i ts. IsBuiltOf g.V.TryFrom.try_from_gives k i (map (λ t. t.now) ts) a)) c.from_texts.ensures.ok;
      filter = IfOk-weaker c.from_texts.result _ _ (λ a. promise (λ k u i ts. a.filter ≡ kept_filter u (all_as_read i (map (λ t. t.now) ts)))) c.from_texts.ensures.filter;
      err = IfErr-weaker c.from_texts.result _ _ (λ e h. inr (promise (λ k u i ts. IsBuildRefusal g.V.TryFrom.try_from_gives k (all_as_read i (map (λ t. t.now) ts)) e) h)) c.from_texts.ensures.err;
    }
