-- Each text that the automaton gives is put into a bucket.
use Rattle.std.proofs.Common.{ap, ◌≡◌, ◌<◌, ℕ, Bool, List, sym, ◌∙◌, subst}
use Rattle.std.specs.Prelude.{◌||◌}
use Rattle.std.proofs.lemmas.List.{map-id}
use Rattle.daachorse_model.specs.Prefixes.{IsListing}
use Rattle.daachorse_array.specs.Listing.{HasMoved}
use Rattle.daachorse_array.proofs.LengthLaws.{fewer-left}
use Rattle.daachorse_patterns.proofs.TextBuckets.{marked_text}
use Rattle.daachorse_prefilter.specs.Buckets.{AreBuckets, is_clear_at, opens}
use Rattle.daachorse_prefilter.proofs.BucketLaws.{AreMarkedSoFar, marked_all, marked_none}
use Rattle.daachorse.specs.bytewise.Automata.{Automaton, dictionary_of}
use Rattle.daachorse.proofs.bytewise.accelerated.DoubleArrayAhoCorasick+V+A.buckets.Goals as goal

pub texts-init : goal.texts-init
texts-init g c =
    let K = dictionary_of c.args.self.now in
    let left = c.in_ok-texts.texts.left in
    let P : Automaton g.row.V.Denot → Type 0 = λ a. IsListing (dictionary_of a) left in
    let lists = subst P (ap (λ s. s.searched) c.self-inside.view_is ∙ c.self.view_is) c.in_ok-texts.ensures.ok in
    record { so_far = marked_none (λ w. w) K left c.in_ok-builder.builder lists c.in_ok-builder.ensures.none }

pub texts-smaller : goal.texts-smaller
texts-smaller g c =
    let P : Bool → Type 0 = λ found. HasMoved c.texts.texts.left found c.advance.new.self in
    fewer-left c.texts.texts.left c.advance.new.self (subst P c.if-branch.true c.in_ok-advance.ensures.moved)

pub texts-preserved : goal.texts-preserved
texts-preserved g c =
    let K = dictionary_of c.args.self.now in
    let t = c.advance.new.self in
    let old = c.texts.builder in
    let new = c.add.new.self in
    let bucket = c.next_bucket-bucket.result in
    let P : Bool → Type 0 = λ found. HasMoved c.texts.texts.left found t in
    let moved = subst P c.if-branch.true c.in_ok-advance.ensures.moved in
    let shown : c.text-text.result.now ≡ t.text = sym (map-id c.text-text.result.now) ∙ c.text-text.ensures in
    let Q : List ℕ → Type 0 =
    λ w. (y i : ℕ) → y < 8192 → i < 64 → is_clear_at new y i ≡ (is_clear_at old y i || opens w bucket 8 y i) in
    let adds = subst Q shown c.add.ensures in
    record {
      so_far = marked_text (λ w. w) K c.texts.texts.left t old new bucket moved c.texts.invariant.so_far c.next_bucket-bucket.ensures adds;
    }

pub returns-clause-told : goal.returns-clause-told
returns-clause-told g c =
    let K = dictionary_of c.args.self.now in
    let P : Bool → Type 0 = λ found. HasMoved c.texts.texts.left found c.advance.new.self in
    let none = subst P c.if-branch.false c.in_ok-advance.ensures.moved in
    let made = c.texts.builder in
    let Q : List (List ℕ × g.row.V.Denot) → Type 0 = λ left. AreMarkedSoFar (λ w. w) K left made in
    let R : List ℕ → Type 0 = λ table. AreBuckets (λ w. w) K table in
    subst R (sym c.close.ensures) (marked_all (λ w. w) K made (subst Q none.0 c.texts.invariant.so_far))
