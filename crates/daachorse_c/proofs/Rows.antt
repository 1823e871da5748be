-- An automaton that was asked for rows has them, or there was no room.
use Rattle.std.proofs.Common.{◌≡◌, Bool, true, false, Option, None, Some, Result, Ok, Err, IfOk, IfErr, IfSome, refl, sym, ◌∙◌, subst}
use Rattle.std.proofs.lemmas.Bool.{false≢true}
use Rattle.daachorse_core.specs.declared.errors.DaachorseError.{DaachorseError}
use Rattle.daachorse_c.specs.declared.refusal.Refusal.{Refusal}
use Rattle.daachorse_c.specs.Refusals.{refusal_of}

module _ {R E B : Type 0} (refusal : E → Option DaachorseError) (has : B → Bool) (rowed : R → B) (plain : E → B)
    (has_rows : (a : R) → has (rowed a) ≡ true) (NoRoom : Type 0) where
  -- what was made has rows, or there is no room
  abbrev HasOrNoRoom : Result B Refusal → Type 0
  HasOrNoRoom made = IfOk made (λ s. has s ≡ false → NoRoom)

  pub rows_or_no_room : (answer : Result R E) (made : Result B Refusal) → IfOk answer (λ a. made ≡ Ok (rowed a))
      → IfErr answer (λ e. refusal e ≡ None → made ≡ Ok (plain e)) → IfErr answer (λ e. IfSome (refusal e) (λ error. made ≡ Err (refusal_of error)))
      → IfErr answer (λ e. refusal e ≡ None → NoRoom) → IfOk made (λ s. has s ≡ false → NoRoom)
  rows_or_no_room (Ok a) made is alone failed none = subst HasOrNoRoom (sym is) (λ no. absurd (false≢true (sym no ∙ has_rows a)))
  rows_or_no_room (Err e) made is alone failed none = by (refusal e) refl
    where
      by : (o : Option DaachorseError) → refusal e ≡ o → HasOrNoRoom made
      by None same = subst HasOrNoRoom (sym (alone same)) (λ no. none same)
      by (Some error) same = subst HasOrNoRoom (sym (subst (λ r. IfSome r (λ x. made ≡ Err (refusal_of x))) same failed)) tt
