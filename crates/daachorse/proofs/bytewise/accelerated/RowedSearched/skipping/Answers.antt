-- The filter is sound for the patterns, and so are the buckets.
use Rattle.std.proofs.Common.{◌≡◌, ℕ, List, Option, refl, ap, ◌∙◌, subst}
use Rattle.daachorse_haystack.specs.Filters.{IsSoundFor}
use Rattle.daachorse_prefilter.specs.Asked.{BeginsAskingBoth, lets_pass}
use Rattle.daachorse_prefilter.specs.Buckets.{may_begin}
use Rattle.daachorse_prefilter.proofs.BucketLaws.{sound_asked}
use Rattle.daachorse.specs.bytewise.Accelerated.{Accelerated}
use Rattle.daachorse.specs.bytewise.Automata.{Automaton, dictionary_of}
use Rattle.daachorse.proofs.bytewise.accelerated.RowedSearched.skipping.Goals as goal

pub returns : goal.returns
returns g c =
    let buckets : c.with_buckets.result.buckets ≡ c.self.inside.buckets = c.with_buckets.ensures.buckets ∙ c.as_ref.ensures.value in
    record {
      asks =
          let P : Accelerated g.row.V.Denot → Type 0 = λ a. BeginsAskingBoth a.buckets a.automaton.filter c.with_buckets.result in
          subst P c.self.view_is (record { filter = c.with_buckets.ensures.filter ∙ c.skipping.ensures.asks.filter ∙ ap (λ (a : Automaton g.row.V.Denot). a.filter) c.searched.ensures; buckets = buckets; gate = rw c.with_buckets.ensures.gate c.skipping.ensures.asks.gate; buckets_gate = rw c.with_buckets.ensures.buckets_gate c.skipping.ensures.asks.buckets_gate });
      sound =
          let M : Option (List ℕ) → Type 0 = λ m. IsSoundFor (λ w. lets_pass (may_begin m) c.skipping.result.filter w) (dictionary_of c.self.inside.automaton) in
          let N : Automaton g.row.V.Denot → Type 0 = λ a. IsSoundFor (λ w. lets_pass (may_begin c.skipping.result.buckets) c.skipping.result.filter w) (dictionary_of a) in
          sound_asked (λ w. w) (dictionary_of c.self.inside.automaton) (λ v w. refl) c.self.inside.buckets c.with_buckets.result.buckets c.skipping.result.filter c.with_buckets.result.filter (dictionary_of c.args.self.now.automaton)
          c.self.invariant.1 (subst M c.skipping.ensures.asks.buckets (subst N c.searched.ensures c.skipping.ensures.sound)) buckets c.with_buckets.ensures.filter (ap (λ (a : Accelerated g.row.V.Denot). dictionary_of a.automaton) c.self.view_is);
    }
