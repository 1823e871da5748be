-- One byte more is read with each iteration.
use Rattle.std.proofs.Common.{◌≡◌, ℕ, ◌+◌, ◌<◌, List, [], ◌∷◌, ◌++◌, length, take, get_or, sym, ap, ◌∙◌, subst, append_assoc, append-nil, arith}
use Rattle.std.proofs.lemmas.List.{take_all, take_more}
use Rattle.daachorse_prefilter.specs.Windows.{HasRead}
use Rattle.daachorse_prefilter.proofs.prefilter.Prefilter.read.Goals as goal

one_more : (text bytes : List ℕ) (i : ℕ) → i < length bytes → (text ++ take i bytes) ++ (get_or bytes i 0 ∷ []) ≡ text ++ take (i + 1) bytes
one_more text bytes i within = append_assoc text (take i bytes) (get_or bytes i 0 ∷ []) ∙ ap (λ w. text ++ w) (sym (take_more bytes i 0 within))

pub loop-byte-init : goal.loop-byte-init
loop-byte-init g c = λ text read.
    let P : List ℕ → Type 0 = λ w. HasRead c.args.self.now w c.args.window in
    subst P (sym (append-nil text)) read

pub loop-byte-preserved : goal.loop-byte-preserved
loop-byte-preserved g c = λ text read.
    let bytes = c.args.bytes.now in let i = c.loop-byte.byte-index in
    let P : List ℕ → Type 0 = λ w. HasRead c.args.self.now w c.read_byte-window.result in
    subst P (one_more text bytes i c.loop-byte-test.true) (c.read_byte-window.ensures (text ++ take i bytes) (c.loop-byte.invariant text read))

pub loop-byte-smaller : goal.loop-byte-smaller
loop-byte-smaller g c = let within = c.loop-byte-test.true in omega arith

pub returns : goal.returns
returns g c = λ text read.
    let P : List ℕ → Type 0 = λ w. HasRead c.args.self.now (text ++ w) c.loop-byte.window in
    subst P (take_all c.loop-byte.byte-index c.args.bytes.now c.loop-byte-test.false) (c.loop-byte.invariant text read)
