-- The filter and the buckets are asked over the text that is still to come, at its boundaries.
use Rattle.std.proofs.Common.{◌≡◌, ℕ, ◌&&◌, ◌++◌, List, take, drop, Option, Some, sym, ap, ◌∙◌, subst}
use Rattle.std.specs.Borrow.{Bor}
use Rattle.std.specs.Prelude.{option_map, encode_utf8_all}
use Rattle.std.specs.Str.{chars}
use Rattle.daachorse_model.specs.Folding.{as_read}
use Rattle.daachorse_model.specs.Units.{char_width}
use Rattle.daachorse_prefilter.specs.declared.buckets.gate.BucketsGate.{BucketsGate}
use Rattle.daachorse_prefilter.specs.declared.prefilter.gate.PrefilterGate.{PrefilterGate}
use Rattle.daachorse_prefilter.specs.Gates.{HasRecorded}
use Rattle.daachorse_prefilter.specs.Filters.{Filter, admits}
use Rattle.daachorse_haystack.specs.Filters.{IsNextPassing}
use Rattle.daachorse_prefilter.specs.Asked.{Asked, lets_pass}
use Rattle.daachorse_prefilter.specs.Buckets.{may_begin}
use Rattle.daachorse_prefilter.specs.Places.{IsFirstBoundary}
use Rattle.daachorse_prefilter.proofs.SkipLaws.{IsUtf8-as_read, chars-as_read, chars_cut, chars_sized, is_some-mapped, recorded_skip, skipped_chars}
use Rattle.daachorse_prefilter.proofs.skipping.SkippingFilterCharText.skip.Goals as goal

pub after-requires : goal.after-requires
after-requires g c =
    let text = c.unread-folds.result.0.now in let folds = c.unread-folds.result.1 in let u = IsUtf8-as_read folds text c.unread-folds.ensures.utf8 in let whole : chars (as_read folds text) ≡ c.args.rest.now = chars-as_read folds text c.unread-folds.ensures.utf8 ∙ c.unread-folds.ensures.units in
    let bs = as_read folds text in let r : ℕ = c.first_boundary-gain.result in let boundary = c.first_boundary-gain.ensures.told in
    (chars (take r bs), chars (drop r bs), sym whole ∙ chars_cut bs r u boundary, chars_sized bs r u boundary)

pub returns-in-Some-clause-goes : goal.returns-in-Some-clause-goes
returns-in-Some-clause-goes g c =
    let text = c.unread-folds.result.0.now in let folds = c.unread-folds.result.1 in let u = IsUtf8-as_read folds text c.unread-folds.ensures.utf8 in let whole : chars (as_read folds text) ≡ c.args.rest.now = chars-as_read folds text c.unread-folds.ensures.utf8 ∙ c.unread-folds.ensures.units in
    let f = c.in-Some.filter.now in let bs = as_read folds text in let r : ℕ = c.first_boundary-gain.result in let later = c.after.result in
    let marks = c.args.self.now.buckets in
    let S : Asked → Type 0 = λ s. IsFirstBoundary (λ v. may_begin s.buckets v && admits f v) bs 0 r in
    let next = subst S c.self.view_is c.first_boundary-gain.ensures in
    let shown : c.args.self.now.filter ≡ Some f = sym (ap (λ (s : Asked). s.filter) c.self.view_is) ∙ ap (option_map (λ (x : Bor Filter). x.now)) c.in-Some.is in
    let P : Option Filter → Type 0 = λ o. IsNextPassing (λ w. lets_pass (may_begin marks) o (encode_utf8_all w)) c.args.rest.now later in
    let Q : List ℕ → Type 0 = λ h. IsNextPassing (λ w. lets_pass (may_begin marks) (Some f) (encode_utf8_all w)) h later in
    let behind : later ≡ chars (drop r bs) = c.after.ensures (chars (take r bs)) (chars (drop r bs)) (sym whole ∙ chars_cut bs r u next.told) (chars_sized bs r u next.told) in
    subst P (sym shown) (subst Q whole (skipped_chars (λ v. may_begin marks v && admits f v) bs later r u next behind))

pub returns-in-Some-clause-records : goal.returns-in-Some-clause-records
returns-in-Some-clause-records g c = λ gains before.
    let text = c.unread-folds.result.0.now in let folds = c.unread-folds.result.1 in let u = IsUtf8-as_read folds text c.unread-folds.ensures.utf8 in let whole : chars (as_read folds text) ≡ c.args.rest.now = chars-as_read folds text c.unread-folds.ensures.utf8 ∙ c.unread-folds.ensures.units in
    let f = c.in-Some.filter.now in let h = c.args.rest.now in let bs = as_read folds text in let r : ℕ = c.first_boundary-gain.result in let later = c.after.result in
    let boundary = c.first_boundary-gain.ensures.told in
    let shown : c.args.self.now.filter ≡ Some f = sym (ap (λ (s : Asked). s.filter) c.self.view_is) ∙ ap (option_map (λ (x : Bor Filter). x.now)) c.in-Some.is in
    let P : PrefilterGate → Type 0 = λ gate. HasRecorded gate gains in
    let recorded = c.record.ensures gains (subst P (sym (ap (λ (s : Asked). s.gate) c.self.view_is)) before) in
    let cut : h ≡ chars (take r bs) ++ chars (drop r bs) = sym whole ∙ chars_cut bs r u boundary in
    let sized = chars_sized bs r u boundary in
    let behind : later ≡ chars (drop r bs) = c.after.ensures (chars (take r bs)) (chars (drop r bs)) cut sized in
    let parts : h ≡ chars (take r bs) ++ later = cut ∙ ap (λ w. chars (take r bs) ++ w) (sym behind) in
    recorded_skip char_width c.record.new.self c.args.self.now.filter f (chars (take r bs)) h later gains r shown parts sized recorded

pub returns-in-Some-clause-passes : goal.returns-in-Some-clause-passes
returns-in-Some-clause-passes g c = λ w. ap (λ (s : Asked). lets_pass (may_begin s.buckets) s.filter (encode_utf8_all w)) c.self.view_is

pub returns-in-Some-clause-stays : goal.returns-in-Some-clause-stays
returns-in-Some-clause-stays g c = λ none.
    let no_buckets = is_some-mapped (λ (b : Bor (List ℕ)). b.now) c.self.inside.buckets (ap (λ (s : Asked). s.buckets) c.self.view_is ∙ none) in
    ap (λ (gate : BucketsGate). gate.is_open) (c.after-self-inside.ensures (c.is_some.ensures ∙ no_buckets)) ∙ ap (λ (s : Asked). s.buckets_gate_is_open) c.self.view_is
