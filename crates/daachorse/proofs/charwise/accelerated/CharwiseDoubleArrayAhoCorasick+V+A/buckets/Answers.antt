-- Each text that the automaton gives is put into a bucket, as its beginning is spelled.
use Rattle.std.proofs.Common.{◌≡◌, ◌<◌, ℕ, Bool, List, sym, ap, ◌∙◌, subst}
use Rattle.std.specs.Prelude.{◌||◌, encode_utf8_all, take}
use Rattle.std.specs.Str.{chars}
use Rattle.std.proofs.lemmas.Str.{encodes-chars}
use Rattle.std.proofs.lemmas.List.{map-id}
use Rattle.daachorse_model.specs.Prefixes.{IsListing}
use Rattle.daachorse_array.specs.Listing.{HasMoved}
use Rattle.daachorse_array.proofs.LengthLaws.{fewer-left}
use Rattle.daachorse_patterns.proofs.TextBuckets.{marked_text}
use Rattle.daachorse_prefilter.specs.Buckets.{AreBuckets, is_clear_at, opens}
use Rattle.daachorse_prefilter.proofs.BucketLaws.{AreMarkedSoFar, marked_all, marked_none}
use Rattle.daachorse.specs.charwise.Automata.{Automaton, dictionary_of}
use Rattle.daachorse.proofs.Beginnings.{opens-ten}
use Rattle.daachorse.proofs.charwise.accelerated.CharwiseDoubleArrayAhoCorasick+V+A.buckets.Goals as goal

pub texts-init : goal.texts-init
texts-init g c =
    let K = dictionary_of c.args.self.now in
    let left = c.in_ok-texts.texts.left in
    let P : Automaton g.row.V.Denot → Type 0 = λ a. IsListing (dictionary_of a) left in
    let lists = subst P (ap (λ s. s.searched) c.self-inside.view_is ∙ c.self.view_is) c.in_ok-texts.ensures.ok in
    record { so_far = marked_none encode_utf8_all K left c.in_ok-builder.builder lists c.in_ok-builder.ensures.none }

pub texts-smaller : goal.texts-smaller
texts-smaller g c =
    let P : Bool → Type 0 = λ found. HasMoved c.texts.texts.left found c.advance.new.self in
    fewer-left c.texts.texts.left c.advance.new.self (subst P c.if-branch.true c.in_ok-advance.ensures.moved)

pub texts-preserved : goal.texts-preserved
texts-preserved g c =
    let K = dictionary_of c.args.self.now in
    let t = c.advance.new.self in
    let old = c.texts.builder in
    let new = c.add.new.self in
    let bucket = c.next_bucket-bucket.result in
    let P : Bool → Type 0 = λ found. HasMoved c.texts.texts.left found t in
    let moved = subst P c.if-branch.true c.in_ok-advance.ensures.moved in
    let ten : chars c.as_str-text.result.now ≡ take 10 t.text =
    ap chars c.as_str-text.ensures.value
    ∙ (c.in_ok-beginning.ensures.ok ∙ ap (take 10) (sym (map-id c.text.result.now) ∙ c.text.ensures)) in
    let spelled : encode_utf8_all (take 10 t.text) ≡ c.as_bytes.result.now =
    ap encode_utf8_all (sym ten) ∙ (encodes-chars c.as_str-text.result.now c.as_str-text.utf8 ∙ sym c.as_bytes.ensures.value) in
    let adds : (y i : ℕ) → y < 8192 → i < 64
    → is_clear_at new y i ≡ (is_clear_at old y i || opens (encode_utf8_all t.text) bucket 8 y i) =
    λ y i low within. c.add.ensures y i low within
    ∙ ap (λ b. is_clear_at old y i || b) (ap (λ bs. opens bs bucket 8 y i) (sym spelled) ∙ opens-ten t.text bucket y i) in
    record {
      so_far = marked_text encode_utf8_all K c.texts.texts.left t old new bucket moved c.texts.invariant.so_far c.next_bucket-bucket.ensures adds;
    }

pub returns-clause-told : goal.returns-clause-told
returns-clause-told g c =
    let K = dictionary_of c.args.self.now in
    let P : Bool → Type 0 = λ found. HasMoved c.texts.texts.left found c.advance.new.self in
    let none = subst P c.if-branch.false c.in_ok-advance.ensures.moved in
    let made = c.texts.builder in
    let Q : List (List ℕ × g.row.V.Denot) → Type 0 = λ left. AreMarkedSoFar encode_utf8_all K left made in
    let R : List ℕ → Type 0 = λ table. AreBuckets encode_utf8_all K table in
    subst R (sym c.close.ensures) (marked_all encode_utf8_all K made (subst Q none.0 c.texts.invariant.so_far))
