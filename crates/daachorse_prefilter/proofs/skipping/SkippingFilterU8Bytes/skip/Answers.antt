-- The filter and the buckets are asked over the bytes that are still to come.
use Rattle.std.proofs.Common.{◌≡◌, ℕ, ◌≤◌, ◌&&◌, ◌++◌, List, length, take, drop, Option, Some, sym, ap, ◌∙◌, subst, take-append-drop}
use Rattle.std.specs.Borrow.{Bor}
use Rattle.std.specs.Prelude.{option_map}
use Rattle.daachorse_model.specs.Units.{byte_width}
use Rattle.daachorse_prefilter.specs.declared.buckets.gate.BucketsGate.{BucketsGate}
use Rattle.daachorse_prefilter.specs.declared.prefilter.gate.PrefilterGate.{PrefilterGate}
use Rattle.daachorse_prefilter.specs.Gates.{HasRecorded}
use Rattle.daachorse_prefilter.specs.Filters.{Filter, admits}
use Rattle.daachorse_haystack.specs.Filters.{IsNextPassing}
use Rattle.daachorse_prefilter.specs.Asked.{Asked, lets_pass}
use Rattle.daachorse_prefilter.specs.Buckets.{may_begin}
use Rattle.daachorse_prefilter.specs.Places.{IsFirstPlace}
use Rattle.daachorse_prefilter.proofs.SkipLaws.{bytes_sized, is_some-mapped, recorded_skip, skipped_bytes}
use Rattle.daachorse_prefilter.proofs.skipping.SkippingFilterU8Bytes.skip.Goals as goal

pub after-requires : goal.after-requires
after-requires g c =
    let h = c.args.rest.now in let r : ℕ = c.first_place-gain.result in
    let P : List ℕ → Type 0 = λ w. r ≤ length w in
    (take r h, drop r h, sym (take-append-drop r h), bytes_sized h r (subst P c.unread-folds.ensures c.first_place-gain.ensures.inside))

pub returns-in-Some-clause-goes : goal.returns-in-Some-clause-goes
returns-in-Some-clause-goes g c =
    let f = c.in-Some.filter.now in let h = c.args.rest.now in let r : ℕ = c.first_place-gain.result in let later = c.after.result in
    let marks = c.args.self.now.buckets in
    let P : List ℕ → Type 0 = λ w. IsFirstPlace (λ v. may_begin (option_map (λ (b : Bor (List ℕ)). b.now) c.self.inside.buckets) v && admits f v) w 0 r in
    let Q : Asked → Type 0 = λ s. IsFirstPlace (λ v. may_begin s.buckets v && admits f v) h 0 r in
    let shown : c.args.self.now.filter ≡ Some f = sym (ap (λ (s : Asked). s.filter) c.self.view_is) ∙ ap (option_map (λ (x : Bor Filter). x.now)) c.in-Some.is in
    let first = subst Q c.self.view_is (subst P c.unread-folds.ensures c.first_place-gain.ensures) in
    let R : Option Filter → Type 0 = λ o. IsNextPassing (λ w. lets_pass (may_begin marks) o w) h later in
    subst R (sym shown) (skipped_bytes (λ v. may_begin marks v && admits f v) h later r first (c.after.ensures (take r h) (drop r h) (sym (take-append-drop r h)) (bytes_sized h r first.inside)))

pub returns-in-Some-clause-records : goal.returns-in-Some-clause-records
returns-in-Some-clause-records g c = λ gains before.
    let f = c.in-Some.filter.now in let h = c.args.rest.now in let r : ℕ = c.first_place-gain.result in let later = c.after.result in
    let P : List ℕ → Type 0 = λ w. r ≤ length w in
    let inside = subst P c.unread-folds.ensures c.first_place-gain.ensures.inside in
    let shown : c.args.self.now.filter ≡ Some f = sym (ap (λ (s : Asked). s.filter) c.self.view_is) ∙ ap (option_map (λ (x : Bor Filter). x.now)) c.in-Some.is in
    let G : PrefilterGate → Type 0 = λ gate. HasRecorded gate gains in
    let recorded = c.record.ensures gains (subst G (sym (ap (λ (s : Asked). s.gate) c.self.view_is)) before) in
    let behind : later ≡ drop r h = c.after.ensures (take r h) (drop r h) (sym (take-append-drop r h)) (bytes_sized h r inside) in
    let parts : h ≡ take r h ++ later = sym (take-append-drop r h) ∙ ap (λ w. take r h ++ w) (sym behind) in
    recorded_skip byte_width c.record.new.self c.args.self.now.filter f (take r h) h later gains r shown parts (bytes_sized h r inside) recorded

pub returns-in-Some-clause-passes : goal.returns-in-Some-clause-passes
returns-in-Some-clause-passes g c = λ w. ap (λ (s : Asked). lets_pass (may_begin s.buckets) s.filter w) c.self.view_is

pub returns-in-Some-clause-stays : goal.returns-in-Some-clause-stays
returns-in-Some-clause-stays g c = λ none.
    let no_buckets = is_some-mapped (λ (b : Bor (List ℕ)). b.now) c.self.inside.buckets (ap (λ (s : Asked). s.buckets) c.self.view_is ∙ none) in
    ap (λ (gate : BucketsGate). gate.is_open) (c.after-self-inside.ensures (c.is_some.ensures ∙ no_buckets)) ∙ ap (λ (s : Asked). s.buckets_gate_is_open) c.self.view_is
