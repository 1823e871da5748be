-- The marks that end lines, in what is held of a file.
use Rattle.std.proofs.Common.{◌≡◌, ℕ, ◌+◌, ◌-◌, ◌==◌, ◌++◌, List, cond, drop, length, length-append, take, ap, subst, sym, zero-add, ◌∙◌, arith}
use Rattle.std.specs.List.{sum_by}
use Rattle.std.proofs.lemmas.List.{take-append-le, take_all, take_rest}
use Rattle.std.proofs.lemmas.List.Sums.{sum_by-take-drop}
use Rattle.daacgrep_command.specs.Windows.{HasNone}

-- no mark stands before a place nor behind it
pub none_in : (mark m : ℕ) (bytes held : List ℕ) (count old r : ℕ) → m ≡ mark → held ≡ bytes → old ≡ length bytes - count → r ≡ 0 → HasNone mark (take (length bytes - count) bytes)
    → HasNone m (drop r (take (length held - old) (drop old held))) → HasNone mark bytes
none_in mark m bytes held count old r same is is_old none front last =
    let marks : List ℕ → ℕ = sum_by (λ b. cond (b == mark) 1 0) in
    let e : drop r (take (length held - old) (drop old held)) ≡ drop old bytes = ap (λ n. drop n (take (length held - old) (drop old held))) none ∙ take_rest held old ∙ ap (drop old) is in
    let behind : HasNone mark (drop old bytes) = subst (λ n. HasNone n (drop old bytes)) same (subst (HasNone m) e last) in
    let before : HasNone mark (take old bytes) = subst (λ n. HasNone mark (take n bytes)) (sym is_old) front in
    sym (sum_by-take-drop (λ b. cond (b == mark) 1 0) bytes old) ∙ ap (λ n. n + marks (drop old bytes)) before ∙ zero-add (marks (drop old bytes)) ∙ behind

-- what was held before is the front of what is held after more was read
pub none_before : (mark : ℕ) (held more new : List ℕ) (count : ℕ) → new ≡ held ++ more → length more ≡ count → HasNone mark held → HasNone mark (take (length new - count) new)
none_before mark held more new count is counted none =
    let len : length new - count ≡ length held = omega (arith, counted, ap length is, length-append held more) in
    let front : take (length new - count) new ≡ held = ap (λ n. take n new) len ∙ ap (take (length held)) is ∙ take-append-le (length held) held more (omega arith) ∙ take_all (length held) held (omega arith) in
    subst (HasNone mark) (sym front) none
