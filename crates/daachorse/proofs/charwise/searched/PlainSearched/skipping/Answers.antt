-- The filter passes at each pattern, and so wherever one is at the beginning of what is to come.
use Rattle.std.proofs.Common.{ℕ, List, Option, None, sym, ◌∙◌, subst}
use Rattle.std.specs.Prelude.{encode_utf8_all}
use Rattle.daachorse_prefilter.specs.Filters.{Filter}
use Rattle.daachorse_haystack.specs.Filters.{IsSoundFor}
use Rattle.daachorse_prefilter.specs.Asked.{BeginsAskingBoth, lets_pass}
use Rattle.daachorse_prefilter.specs.Buckets.{may_begin}
use Rattle.daachorse_prefilter.proofs.SoundFilters.{sound_chars}
use Rattle.daachorse_charwise_states.specs.Parts.{content}
use Rattle.daachorse.specs.charwise.Automata.{Automaton}
use Rattle.daachorse.proofs.charwise.searched.PlainSearched.skipping.Goals as goal

pub returns : goal.returns
returns g c = record {
  asks =
      let P : Automaton g.row.V.Denot → Type 0 = λ a. BeginsAskingBoth None a.filter c.new.result in
      subst P c.self.view_is (record { filter = c.new.ensures.filter ∙ c.as_ref.ensures.value; buckets = c.new.ensures.alone; gate = c.new.ensures.gate; buckets_gate = c.new.ensures.buckets_gate });
  sound =
      let i = c.self.inside in
      let P : Automaton g.row.V.Denot → Type 0 = λ a. IsSoundFor (λ w. lets_pass (may_begin c.new.result.buckets) c.new.result.filter (encode_utf8_all w)) (content a.parts) in
      let M : Option (List ℕ) → Type 0 = λ m. IsSoundFor (λ w. lets_pass (may_begin m) c.new.result.filter (encode_utf8_all w)) (content i.states) in
      let Q : Option Filter → Type 0 = λ f. IsSoundFor (λ w. lets_pass (may_begin None) f (encode_utf8_all w)) (content i.states) in
      subst P c.self.view_is (subst M (sym c.new.ensures.alone) (subst Q (sym (c.new.ensures.filter ∙ c.as_ref.ensures.value)) (sound_chars (content i.states) i.filter c.self.invariant.filter)));
}
