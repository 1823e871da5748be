-- One pattern more that is text.
use Rattle.std.proofs.Common.{◌≡◌, ℕ, ◌+◌, ◌<◌, List, [], ◌∷◌, ◌++◌, length, take, get_or, sym, ap, ◌∙◌, subst, arith}
use Rattle.std.proofs.lemmas.List.{get_or-map, length-map, map_push, take_more}
use Rattle.std.proofs.lemmas.List.Elements.{All-from_recursion, All-get_or}
use Rattle.std.proofs.lemmas.Simd.{map-map}
use Rattle.std.specs.Borrow.{Bor}
use Rattle.std.specs.Str.{IsUtf8, chars}
use Rattle.daachorse_model.specs.Dictionary.{registrations_of}
use Rattle.daachorse.specs.charwise.Building.{registrations_of_strings}
use Rattle.daachorse_patterns.proofs.Keys.{all-push}
use Rattle.daachorse_c.specs.declared.unit.Unit.TheVariants.{Character}
use Rattle.daachorse_c.specs.Patterns.{AreTexts, texts_in}

abbrev registered : Bor (List ℕ) × ℕ → List ℕ × ℕ
registered p = (p.0.now, p.1)

abbrev spelled : Bor (List ℕ) × ℕ → List ℕ × ℕ
spelled p = (chars p.0.now, p.1)

module _ (patterns : List (Bor (List ℕ) × ℕ)) where
  module _ (i : ℕ) (d : Bor (List ℕ) × ℕ) (here : i < length patterns) where
    pub texts-next : AreTexts Character (registrations_of (take i patterns)) → IsUtf8 (get_or patterns i d).0.now → AreTexts Character (registrations_of (take (i + 1) patterns))
    texts-next are text =
        let p = get_or patterns i d in
        subst (AreTexts Character)
        (sym (ap registrations_of (take_more patterns i d here) ∙ map_push registered (take i patterns) p))
        (all-push (λ r. IsUtf8 r.0) (registrations_of (take i patterns)) (registered p) are text)

    pub spelled-next : (texts : List (Bor (List ℕ) × ℕ)) (text : Bor (List ℕ)) → registrations_of_strings texts ≡ registrations_of_strings (take i patterns) → text.now ≡ (get_or patterns i d).0.now
        → registrations_of_strings (texts ++ (text, (get_or patterns i d).1) ∷ []) ≡ registrations_of_strings (take (i + 1) patterns)
    spelled-next texts text before same =
        let p = get_or patterns i d in
        map_push spelled texts (text, p.1)
        ∙ ap (λ l. l ++ (chars text.now, p.1) ∷ []) before
        ∙ ap (λ w. registrations_of_strings (take i patterns) ++ (chars w, p.1) ∷ []) same
        ∙ sym (ap registrations_of_strings (take_more patterns i d here) ∙ map_push spelled (take i patterns) p)

    pub text-at : AreTexts Character (registrations_of patterns) → IsUtf8 (get_or patterns i d).0.now
    text-at are =
        let rs = registrations_of patterns in
        let P : List ℕ × ℕ → Type 0 = λ r. IsUtf8 r.0 in
        subst P (get_or-map registered patterns i d (registered d) here)
        (All-get_or P rs i (registered d) (omega (arith, here, length-map patterns registered)) (All-from_recursion P rs are))

  pub texts-are : registrations_of_strings patterns ≡ texts_in Character (registrations_of patterns)
  texts-are = sym (map-map (λ (r : List ℕ × ℕ). (chars r.0, r.1)) registered patterns)
