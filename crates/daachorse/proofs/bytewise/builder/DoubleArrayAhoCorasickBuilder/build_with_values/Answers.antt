-- The patterns are all that the iterator gives, and the settings are the builder's.
use Rattle.std.proofs.Common.{◌≡◌, map, subst, inr}
use Rattle.std.proofs.lemmas.Result.{IfOk-weaker, IfErr-weaker}
use Rattle.daachorse_model.specs.Dictionary.{registrations_of}
use Rattle.daachorse_model.specs.Folding.{all_as_read, texts_as_read}
use Rattle.daachorse.specs.bytewise.Building.{IsBuiltWith, IsRefusalOf, kept_filter}
use Rattle.daachorse_patterns.proofs.GatheredLaws.{IsAsked, of_all}
use Rattle.daachorse.proofs.bytewise.builder.DoubleArrayAhoCorasickBuilder.build_with_values.Goals as goal

pub returns : goal.returns
returns g c =
    let s = c.with_documents_as_read-settings.ensures in
    let same = subst (IsAsked c.with_documents_as_read-settings.result) c.self.view_is (record { kind = s.kind; filter = s.filter; folds = s.fold }) in
    let promise = of_all c.into_iter.result c.into_iter.ensures.into_iter_gives c.in_ok-patterns.ensures.ok _ c.deref.ensures.value c.args.self same in
    record {
      ok = IfOk-weaker c.from_patterns.result _ _ (λ a. promise (λ k u i ts. IsBuiltWith k i (registrations_of ts) a)) c.from_patterns.ensures.ok;
      filter = IfOk-weaker c.from_patterns.result _ _ (λ a. promise (λ k u i ts. a.filter ≡ kept_filter u (all_as_read i (map (λ t. t.0.now) ts)))) c.from_patterns.ensures.filter;
      err = IfErr-weaker c.from_patterns.result _ _ (λ e h. inr (promise (λ k u i ts. IsRefusalOf k (texts_as_read i (registrations_of ts)) e) h)) c.from_patterns.ensures.err;
    }
