-- A text has no flag where no flag is written in so many letters.
use Rattle.std.proofs.Common.{◌≡◌, ℕ, suc, Bool, true, false, ◌&&◌, None, List, [], ◌∷◌, length, refl, sym, ap, ◌∙◌}
use Rattle.std.specs.Prelude.{find, nat_eq}
use Rattle.daachorse_model.specs.Units.{same_text}
use Rattle.daacgrep_command.specs.declared.flag.Flag.{Flag}
use Rattle.daacgrep_command.specs.declared.flag.Flag.TheVariants.{WithName, NoName, OnlyMatches, Places, Numbers, Count, FileNames, Quiet, IgnoreCase, Invert, NullData, Longest, First, Overlapping, Values, Help, Version}
use Rattle.daacgrep_command.specs.Flags.{flag_of, flag_text, flags}

and_false : (b c : Bool) → c ≡ false → (b && c) ≡ false
and_false true c e = e
and_false false c e = refl

unlike : (t u : List ℕ) → (length t ≡ length u → ⊥) → same_text t u ≡ false
unlike [] [] h = absurd (h refl)
unlike [] (y ∷ u) h = refl
unlike (x ∷ t) [] h = refl
unlike (x ∷ t) (y ∷ u) h = and_false (nat_eq x y) (same_text t u) (unlike t u (λ e. h (ap suc e)))

none_of : (fs : List Flag) (text : List ℕ) → ((f : Flag) → same_text (flag_text f) text ≡ false) → find (λ f. same_text (flag_text f) text) fs ≡ None
none_of [] text h = refl
none_of (f ∷ fs) text h = rw (h f) (none_of fs text h)

module _ (n : ℕ) (two : n ≡ 2 → ⊥) (six : n ≡ 6 → ⊥) (seven : n ≡ 7 → ⊥) (eight : n ≡ 8 → ⊥) (nine : n ≡ 9 → ⊥) (eleven : n ≡ 11 → ⊥) (thirteen : n ≡ 13 → ⊥) where
  not_so_long : (f : Flag) → length (flag_text f) ≡ n → ⊥
  not_so_long WithName e = two (sym e)
  not_so_long NoName e = two (sym e)
  not_so_long OnlyMatches e = two (sym e)
  not_so_long Places e = two (sym e)
  not_so_long Numbers e = two (sym e)
  not_so_long Count e = two (sym e)
  not_so_long FileNames e = two (sym e)
  not_so_long Quiet e = two (sym e)
  not_so_long IgnoreCase e = two (sym e)
  not_so_long Invert e = two (sym e)
  not_so_long NullData e = eleven (sym e)
  not_so_long Longest e = nine (sym e)
  not_so_long First e = seven (sym e)
  not_so_long Overlapping e = thirteen (sym e)
  not_so_long Values e = eight (sym e)
  not_so_long Help e = six (sym e)
  not_so_long Version e = nine (sym e)

  pub no_flag : (text : List ℕ) → length text ≡ n → flag_of text ≡ None
  no_flag text is = none_of flags text (λ f. unlike (flag_text f) text (λ e. not_so_long f (e ∙ is)))
