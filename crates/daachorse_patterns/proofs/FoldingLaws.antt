-- A key of folded texts is folded, since each key is the text of a registration; and a list is folded element by element.
use Rattle.std.proofs.Common.{◌≡◌, ℕ, zero, suc, ◌+◌, ◌<◌, List, [], ◌∷◌, ◌++◌, length, get_or, set, map, take, drop, refl, ap, ◌∙◌, add-one, arith}
use Rattle.std.specs.Prelude.{All}
use Rattle.std.proofs.lemmas.List.{map_push}
use Rattle.std.proofs.lemmas.List.Elements.{All-cons, All-nil}
use Rattle.daachorse_model.specs.declared.MatchKind.{MatchKind}
use Rattle.daachorse_model.specs.Dictionary.{dictionary}
use Rattle.daachorse_model.specs.Folding.{folded, folded_texts}
use Rattle.daachorse_model.specs.Prefixes.{IsKey}
use Rattle.daachorse_model.proofs.FoldLaws.{folded-again}
use Rattle.daachorse_patterns.specs.Patterns.{texts_of}
use Rattle.daachorse_patterns.proofs.FilterLaws.{key_holds}
use Rattle.daachorse_patterns.proofs.RefusalLaws.{texts_more}

-- ---- the keys of folded texts
module _ {V : Type 0} where
  each_folded : (rs : List (List ℕ × V)) → All (λ r. folded r.0 ≡ r.0) (folded_texts rs)
  each_folded [] = All-nil (λ r. folded r.0 ≡ r.0)
  each_folded (r ∷ rs) = All-cons (λ r. folded r.0 ≡ r.0) (folded r.0, r.1) (folded_texts rs) (folded-again r.0) (each_folded rs)

  pub folded_keys : (kind : MatchKind) (rs : List (List ℕ × V)) (k : List ℕ) → IsKey (dictionary kind (folded_texts rs)) k → folded k ≡ k
  folded_keys kind rs k key = key_holds (λ w. folded w ≡ w) kind (folded_texts rs) (each_folded rs) k key

  pub folded_texts-of : {P : Type 0} (units : P → List ℕ) (ps : List (P × V)) → folded_texts (texts_of units ps) ≡ texts_of (λ p. folded (units p)) ps
  folded_texts-of units [] = refl
  folded_texts-of units (p ∷ ps) = ap (λ rs. (folded (units p.0), p.1) ∷ rs) (folded_texts-of units ps)

  -- one copy more stands for one pattern more
  pub copied_more : {C P : Type 0} (text : C → List ℕ) (units : P → List ℕ) (copies : List (C × V)) (patterns : List (P × V)) (i : ℕ) (c : C) (p : P × V)
      → texts_of text copies ≡ texts_of units (take i patterns) → i < length patterns → p ≡ get_or patterns i p → text c ≡ units p.0
      → texts_of text (copies ++ (c, p.1) ∷ []) ≡ texts_of units (take (i + 1) patterns)
  copied_more text units copies patterns i c p before inside is same =
      map_push (λ x. (text x.0, x.1)) copies (c, p.1)
      ∙ ap (λ rs. rs ++ (text c, p.1) ∷ []) before
      ∙ ap (λ w. texts_of units (take i patterns) ++ (w, p.1) ∷ []) same
      ∙ texts_more units patterns i p inside is

-- ---- lists that are written element by element
-- f of the first i elements, and the others as they are
abbrev pub partly : {B : Type 0} → (B → B) → ℕ → List B → List B
partly f i bs = map f (take i bs) ++ drop i bs

module _ {A B : Type 0} (f : B → B) (g : A → B) where
  written : (xs : List A) (bs : List B) (i : ℕ) (d y : A) → map g xs ≡ partly f i bs → i < length xs → g y ≡ f (g (get_or xs i d)) → map g (set xs i y) ≡ partly f (suc i) bs
  written [] bs i d y same inside new = absurd (omega arith)
  written (x ∷ xs) [] zero d y same inside new = cc
  written (x ∷ xs) [] (suc i) d y same inside new = cc
  written (x ∷ xs) (b ∷ bs) zero d y same inside new = cc
  written (x ∷ xs) (b ∷ bs) (suc i) d y same inside new =
      let rest : map g xs ≡ partly f i bs = cc in
      let more : map g (set xs i y) ≡ partly f (suc i) bs = written xs bs i d y rest (omega arith) new in
      cc

  -- one element more
  pub written_more : (xs : List A) (bs : List B) (i : ℕ) (d y : A) → map g xs ≡ partly f i bs → i < length xs → g y ≡ f (g (get_or xs i d)) → map g (set xs i y) ≡ partly f (i + 1) bs
  written_more xs bs i d y same inside new = rw add-one (written xs bs i d y same inside new)
