-- The longest pattern by its bytes.
use Rattle.std.proofs.Common.{◌≡◌, ℕ, List, [], ◌∷◌, length, refl, ap, ◌∙◌}
use Rattle.std.specs.Prelude.{max}
use Rattle.std.specs.List.{fold}
use Rattle.daachorse_model.specs.Units.{byte_width, size}
use Rattle.daachorse_model.proofs.Suffixes.{size-bytes}

-- where a unit is a byte, the bytes are as many as the units
pub longest-bytes : (listed : List (List ℕ × ℕ)) (longest : ℕ) → fold (λ n r. max n (size byte_width r.0)) longest listed ≡ fold (λ n r. max n (length r.0)) longest listed
longest-bytes [] longest = refl
longest-bytes (r ∷ rs) longest = longest-bytes rs (max longest (size byte_width r.0)) ∙ ap (λ n. fold (λ n r. max n (length r.0)) (max longest n) rs) (size-bytes r.0)
