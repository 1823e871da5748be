-- What was reported, one message after the other.
use Rattle.std.proofs.Common.{List, [], ◌∷◌, ◌++◌, Option, Some, None, option_map, refl, ap, sym, subst, ◌∙◌, append_assoc, append-nil}
use Rattle.daacgrep_command.specs.Messages.{EndWith, Notice, Sends}

pub sends_none : (sent : Option (List Notice)) → Sends sent sent []
sends_none None = refl
sends_none (Some notices) = ap Some (sym (append-nil notices))

pub sends_then : (a b c : Option (List Notice)) (x y : List Notice) → Sends a b x → Sends b c y → Sends a c (x ++ y)
sends_then None b c x y p q = q ∙ ap (option_map (λ before. before ++ y)) p
sends_then (Some notices) b c x y p q = q ∙ ap (option_map (λ before. before ++ y)) p ∙ ap Some (append_assoc notices x y)

-- a message that was sent is the last
pub last_sent : (old new : Option (List Notice)) (notice : Notice) → Sends old new (notice ∷ []) → EndWith new notice
last_sent None new notice is = subst (λ sent. EndWith sent notice) (sym is) tt
last_sent (Some before) new notice is = subst (λ sent. EndWith sent notice) (sym is) (before, refl)
