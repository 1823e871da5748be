-- A text that is written character by character is made of these characters.
use Rattle.std.proofs.Common.{◌≡◌, ℕ, ◌+◌, ◌<◌, ◌&&◌, true, List, [], ◌∷◌, ◌++◌, length, slice_index, take, sym, ap, ◌∙◌}
use Rattle.std.specs.Prelude.{IsTrue}
use Rattle.std.specs.Char.{IsScalar}
use Rattle.std.specs.Str.{all_scalars}
use Rattle.std.proofs.Math.Utf8.{scalar, encode, encodes}
use Rattle.std.proofs.lemmas.List.{append-nil, take_more}
use Rattle.std.proofs.lemmas.Str.{encodes-append}
use Rattle.daachorse_model.proofs.Booleans.{both-true}

scalars_push : (cs : List ℕ) (x : ℕ) → IsTrue (all_scalars cs) → IsScalar x → IsTrue (all_scalars (cs ++ x ∷ []))
scalars_push [] x all is = ap (λ b. b && true) is
scalars_push (c ∷ cs) x all is =
    let both = both-true (scalar c) (all_scalars cs) all in
    ap (λ b. b && all_scalars (cs ++ x ∷ [])) both.0 ∙ scalars_push cs x both.1 is

pub scalars_more : (cs : List ℕ) (i x : ℕ) → i < length cs → slice_index cs i ≡ x → IsTrue (all_scalars (take i cs)) → IsScalar x → IsTrue (all_scalars (take (i + 1) cs))
scalars_more cs i x less at so_far is =
    let more : take (i + 1) cs ≡ take i cs ++ x ∷ [] = take_more cs i 0 less ∙ ap (λ y. take i cs ++ y ∷ []) at in
    ap all_scalars more ∙ scalars_push (take i cs) x so_far is

-- one more character is written
pub written_more : (cs : List ℕ) (i x : ℕ) (old new : List ℕ) → i < length cs → slice_index cs i ≡ x → old ≡ encodes (take i cs) → new ≡ old ++ encode x → new ≡ encodes (take (i + 1) cs)
written_more cs i x old new less at is push =
    let more : take (i + 1) cs ≡ take i cs ++ x ∷ [] = take_more cs i 0 less ∙ ap (λ y. take i cs ++ y ∷ []) at in
    push ∙ (ap (λ l. l ++ encode x) is ∙ (ap (λ l. encodes (take i cs) ++ l) (sym (append-nil (encode x))) ∙ (sym (encodes-append (take i cs) (x ∷ [])) ∙ ap encodes (sym more))))
