-- What an output took in several pieces is what it took of each, joined.
use Rattle.std.proofs.Common.{◌≡◌, ℕ, ◌-◌, List, ◌++◌, length, take, drop, Option, sym, ap, ◌∙◌, append_assoc, take-append-drop}
use Rattle.std.proofs.lemmas.List.{take_rest}
use Rattle.std.specs.Io.KnownBytes.{Appends}
use Rattle.std.proofs.KnownBytes.{Appends-trans}
use Rattle.daachorse_streams.specs.Replaced.{AppendsBeginning}

-- n bytes more of the rest were taken
pub Appends-more : (a b c : Option (List ℕ)) (whole sent rest : List ℕ) (n : ℕ) → whole ≡ sent ++ rest → Appends a b sent
    → Appends b c (take n rest)
    → (part : List ℕ) × (whole ≡ part ++ take (length rest - n) (drop n rest)) × Appends a c part
Appends-more a b c whole sent rest n e p q =
    let split : rest ≡ take n rest ++ take (length rest - n) (drop n rest) = sym (take-append-drop n rest)
    ∙ ap (λ l. take n rest ++ l) (sym (take_rest rest n)) in (
      sent ++ take n rest,
      e ∙ ap (λ l. sent ++ l) split ∙ sym (append_assoc sent (take n rest) _),
      Appends-trans a b c sent (take n rest) p q,
    )

-- after what was sent, a beginning of the next piece was taken
pub AppendsBeginning-more : (a b c : Option (List ℕ)) (all sent piece more : List ℕ) → all ≡ sent ++ (piece ++ more) → Appends a b sent
    → AppendsBeginning b c piece → AppendsBeginning a c all
AppendsBeginning-more a b c all sent piece more e p q =
    (sent ++ q.0, q.1 ++ more, e ∙ ap (λ l. sent ++ (l ++ more)) q.2 ∙ simp append_assoc, Appends-trans a b c sent q.0 p q.3)

-- after one piece a beginning of the next was taken
pub AppendsBeginning-behind : (a b c : Option (List ℕ)) (sent piece : List ℕ) → Appends a b sent → AppendsBeginning b c piece
    → AppendsBeginning a c (sent ++ piece)
AppendsBeginning-behind a b c sent piece p q =
    (sent ++ q.0, q.1, ap (λ l. sent ++ l) q.2 ∙ sym (append_assoc sent q.0 q.1), Appends-trans a b c sent q.0 p q.3)
