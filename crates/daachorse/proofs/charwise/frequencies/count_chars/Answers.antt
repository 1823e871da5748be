-- A count is one more after its character, and the characters are all when the iterator ends.
use Rattle.std.proofs.Common.{◌≡◌, ℕ, ◌+◌, ◌<◌, ◌≤◌, List, ◌∷◌, ◌++◌, [], length, set, take, replicate, ◌-◌, sym, ap, map-id, ◌∙◌, subst, arith}
use Rattle.std.specs.Prelude.{slice_index}
use Rattle.std.proofs.lemmas.Str.{scalars-chars}
use Rattle.std.proofs.lemmas.Iterator.{YieldsList-from_chars}
use Rattle.std.proofs.lemmas.Iterator.Consumers.{YieldsList-end}
use Rattle.daachorse.specs.charwise.Frequencies.{HasCounted}
use Rattle.daachorse.proofs.CountLaws.{counted_more, padded}
use Rattle.daachorse.proofs.charwise.frequencies.count_chars.Goals as goal
use Rattle.daachorse.proofs.charwise.frequencies.count_chars.Goals.{then-index-len+in_ok-resize, else-index-len}

pub loop-c-preserved : goal.loop-c-preserved
loop-c-preserved g c =
    let mid = c.loop-c.freqs.items in
    let u : ℕ = c.in-Some.c in
    let freqs = c.if-index-len.freqs.items in
    let P : ℕ → Type 0 = λ n. HasCounted c.args.freqs.now.items (c.loop-c.yielded ++ u ∷ []) (set freqs u n) in
    let more = λ (same : (x : ℕ) → slice_index freqs x ≡ slice_index mid x) (few : length freqs ≤ 1114112) (inside : u < length freqs).
    subst P (sym c.saturating_add.ensures) (counted_more c.args.freqs.now.items mid freqs c.loop-c.yielded u c.index.result.now c.loop-c.invariant same few inside c.index.ensures) in
    elim c.if-index-len.branch [
      | then-index-len+in_ok-resize w ↦
          let padding : freqs ≡ take (u + 1) mid ++ replicate (u + 1 - c.loop-c.freqs.len) 0 = ap (λ v. v.items) w.freqs-is ∙ w.in_ok-resize.ensures.items in
          let long : length freqs ≡ u + 1 = omega (arith, ap (λ v. length v.items) w.freqs-is, w.in_ok-resize.ensures.len, w.resize.new.self.ok) in
          more (λ x. ap (λ xs. slice_index xs x) padding ∙ padded mid (u + 1) (u + 1 - c.loop-c.freqs.len) x (omega arith)) (omega arith) (omega arith)
      | else-index-len w ↦
          let same : freqs ≡ mid = ap (λ v. v.items) w.freqs-is in
          more (λ x. ap (λ xs. slice_index xs x) same) (omega (arith, ap length same, c.loop-c.invariant.few)) (omega (arith, ap length same))
    ]

pub returns-clause-ok : goal.returns-clause-ok
returns-clause-ok g c =
    let P : List ℕ → Type 0 = λ w. HasCounted c.args.freqs.now.items w c.loop-c.freqs.items in
    let all = YieldsList-end (YieldsList-from_chars c.args.text.now c.utf8.text cc) c.loop-c.yielded _ c.loop-c.yielded_by _ _ c.in-None.is c.next.ensures.steps in
    subst P (sym (map-id c.loop-c.yielded) ∙ all.0) c.loop-c.invariant

pub returns-clause-text : goal.returns-clause-text
returns-clause-text g c = scalars-chars c.args.text.now c.utf8.text
