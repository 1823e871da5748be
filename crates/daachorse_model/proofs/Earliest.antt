-- Under `LeftmostFirst` the longest key at a start is the earliest registered pattern that occurs there.
use Rattle.std.proofs.Common.{◌≡◌, ◌≢◌, ℕ, true, false, nat_eq, List, [], ◌∷◌, ◌++◌, refl, ap, sym, ◌∙◌, subst, Option, Some, None, inl, inr}
use Rattle.std.specs.Prelude.{find}
use Rattle.std.specs.List.{list_any}
use Rattle.std.proofs.lemmas.Bool.{eqb-true, eq-eqb, or_left, or_right, or_parts}
use Rattle.std.proofs.lemmas.Slice.Eq.{bytes_eq-Decides}
use Rattle.std.proofs.lemmas.List.{append_assoc, append-nil}
use Rattle.std.proofs.lemmas.Option.{same_Some}
use Rattle.daachorse_model.specs.declared.MatchKind.TheVariants.{LeftmostFirst}
use Rattle.daachorse_model.specs.Units.{same_text}
use Rattle.daachorse_model.specs.Dictionary.{Dictionary, is_prefix, is_proper_prefix, without_extensions, values_of, dictionary}
use Rattle.daachorse_model.specs.Leftmost.{key_with_value, longest_key}
use Rattle.daachorse_model.proofs.Booleans.{either, both-true}
use Rattle.daachorse_model.proofs.Searches.{key_with_value-none}

-- ---- prefixes

pub is_prefix-splits : (p w : List ℕ) → is_prefix p w ≡ true → (y : List ℕ) × (w ≡ p ++ y)
is_prefix-splits [] w e = (w, refl)
is_prefix-splits (a ∷ p) [] e = cc
is_prefix-splits (a ∷ p) (u ∷ w) e =
    let parts = both-true (nat_eq a u) (is_prefix p w) e in
    let rest = is_prefix-splits p w parts.1 in
    let same : a ≡ u = eqb-true a u parts.0 in
    (rest.0, ap (λ r. r ∷ w) (sym same) ∙ ap (λ r. a ∷ r) rest.1)

pub is_prefix-append : (p z : List ℕ) → is_prefix p (p ++ z) ≡ true
is_prefix-append [] z = refl
is_prefix-append (a ∷ p) z = rw (eq-eqb a a refl) (is_prefix-append p z)

pub is_proper_prefix-append : (p z : List ℕ) → z ≢ [] → is_proper_prefix p (p ++ z) ≡ true
is_proper_prefix-append [] [] ne = absurd (ne refl)
is_proper_prefix-append [] (u ∷ z) ne = refl
is_proper_prefix-append (a ∷ p) z ne = rw (eq-eqb a a refl) (is_proper_prefix-append p z ne)

-- a proper prefix of a prefix of w is a prefix of w
proper-is_prefix : (p q w : List ℕ) → is_proper_prefix p q ≡ true → is_prefix q w ≡ true → is_prefix p w ≡ true
proper-is_prefix p [] w e f = cc
proper-is_prefix [] (b ∷ q) w e f = refl
proper-is_prefix (a ∷ p) (b ∷ q) [] e f = cc
proper-is_prefix (a ∷ p) (b ∷ q) (u ∷ w) e f =
    let ab = both-true (nat_eq a b) (is_proper_prefix p q) e in
    let bu = both-true (nat_eq b u) (is_prefix q w) f in
    rw (eq-eqb a u (eqb-true a b ab.0 ∙ eqb-true b u bu.0)) (proper-is_prefix p q w ab.1 bu.1)

proper-differs : (p q : List ℕ) → is_proper_prefix p q ≡ true → same_text p q ≡ false
proper-differs p [] e = cc
proper-differs [] (b ∷ q) e = refl
proper-differs (a ∷ p) (b ∷ q) e =
    let ab = both-true (nat_eq a b) (is_proper_prefix p q) e in
    rw (ab.0) (proper-differs p q ab.1)

-- two texts of which one is a prefix of w and the other is not
differs : (p q w : List ℕ) → is_prefix p w ≡ false → is_prefix q w ≡ true → same_text p q ≡ false
differs p q w begins_not begins = elim (either (same_text p q)) [
  | inl same ↦ let eq : p ≡ q = (bytes_eq-Decides p q).0 same in cc
  | inr e ↦ e
]

-- where none of `before` is a prefix of w, none is a proper prefix of a prefix of w
none_proper : (before : List (List ℕ)) (q w : List ℕ) → list_any (λ p. is_prefix p w) before ≡ false → is_prefix q w ≡ true → list_any (λ p. is_proper_prefix p q) before ≡ false
none_proper [] q w none is = refl
none_proper (p ∷ before) q w none is =
    let parts = or_parts (is_prefix p w) (list_any (λ r. is_prefix r w) before) none in
    elim (either (is_proper_prefix p q)) [
      | inl e ↦ let begins = proper-is_prefix p q w e is in cc
      | inr e ↦ rw e (none_proper before q w parts.1 is)
    ]

-- ---- the longest key

key_with_value-some : {V : Type 0} (K : Dictionary V) (t : List ℕ) (v : V) (vs : List V) → K t ≡ v ∷ vs → key_with_value K t ≡ Some (t, v)
key_with_value-some K t v vs e = rw e

-- no key goes on from t in w
pub longest_key-none : {V : Type 0} (K : Dictionary V) (t w : List ℕ) → ((z y : List ℕ) → w ≡ z ++ y → K (t ++ z) ≡ []) → longest_key K t w ≡ None
longest_key-none K t [] none = key_with_value-none K t (ap K (sym (append-nil t)) ∙ none [] [] refl)
longest_key-none K t (u ∷ w) none =
    let longer = longest_key-none K (t ++ u ∷ []) w (λ z y cut. ap K (append_assoc t (u ∷ []) z) ∙ none (u ∷ z) y (ap (λ r. u ∷ r) cut)) in
    let own = key_with_value-none K t (ap K (sym (append-nil t)) ∙ none [] (u ∷ w) refl) in
    rw (longer, own)

-- t is a key, and none goes on from it in w
longest_key-here : {V : Type 0} (K : Dictionary V) (t w : List ℕ) (v : V) (vs : List V) → K t ≡ v ∷ vs
    → ((z y : List ℕ) → w ≡ z ++ y → z ≢ [] → K (t ++ z) ≡ []) → longest_key K t w ≡ Some (t, v)
longest_key-here K t [] v vs has none = key_with_value-some K t v vs has
longest_key-here K t (u ∷ w) v vs has none =
    let longer = longest_key-none K (t ++ u ∷ []) w (λ z y cut. ap K (append_assoc t (u ∷ []) z) ∙ none (u ∷ z) y (ap (λ r. u ∷ r) cut) (λ e. cc)) in
    rw (longer, key_with_value-some K t v vs has)

pub longest_key-is : {V : Type 0} (K : Dictionary V) (t x y : List ℕ) (v : V) (vs : List V) → K (t ++ x) ≡ v ∷ vs
    → ((z r : List ℕ) → y ≡ z ++ r → z ≢ [] → K ((t ++ x) ++ z) ≡ []) → longest_key K t (x ++ y) ≡ Some (t ++ x, v)
longest_key-is K t [] y v vs has none =
    rw (append-nil t) (longest_key-here K t y v vs (ap K (sym (append-nil t)) ∙ has) (λ z r cut ne. ap (λ q. K (q ++ z)) (sym (append-nil t)) ∙ none z r cut ne))
longest_key-is K t (c ∷ x) y v vs has none =
    let joined = append_assoc t (c ∷ []) x in
    let longer = longest_key-is K (t ++ c ∷ []) x y v vs (ap K joined ∙ has) (λ z r cut ne. ap (λ q. K (q ++ z)) joined ∙ none z r cut ne) in
    rw (longer, joined)

-- ---- the dictionary of the kept registrations

-- a text with a proper prefix among those before has no value
values_of-dropped : {V : Type 0} (before : List (List ℕ)) (rs : List (List ℕ × V)) (q : List ℕ) → list_any (λ p. is_proper_prefix p q) before ≡ true
    → values_of (without_extensions before rs) q ≡ []
values_of-dropped before [] q drops = refl
values_of-dropped before (r ∷ rs) q drops =
    let rest = values_of-dropped (r.0 ∷ before) rs q (or_right (is_proper_prefix r.0 q) (list_any (λ p. is_proper_prefix p q) before) drops) in
    elim (either (list_any (λ p. is_proper_prefix p r.0) before)) [
      | inl out ↦ rw out rest
      | inr stays ↦ elim (either (same_text r.0 q)) [
        | inl same ↦ let eq : r.0 ≡ q = (bytes_eq-Decides r.0 q).0 same in absurd (let x : true ≡ false = sym drops ∙ ap (λ t. list_any (λ p. is_proper_prefix p t) before) (sym eq) ∙ stays in cc)
        | inr other ↦ rw (stays, other) rest
      ]
    ]

-- what the kept registrations hold at the prefixes of w, where `found` is the first registration that is one
pub record IsFirst {V : Type 0} (K : Dictionary V) (w : List ℕ) (found : List ℕ × V) : Type 0 where
  pub is : is_prefix found.0 w ≡ true
  pub others : List V
  pub has : K found.0 ≡ found.1 ∷ others
  pub longer : (q : List ℕ) → is_prefix q w ≡ true → is_proper_prefix found.0 q ≡ true → K q ≡ []

values_of-none : {V : Type 0} (before : List (List ℕ)) (rs : List (List ℕ × V)) (w : List ℕ) → find (λ r. is_prefix r.0 w) rs ≡ None
    → (q : List ℕ) → is_prefix q w ≡ true → values_of (without_extensions before rs) q ≡ []
values_of-none before [] w none q is = refl
values_of-none before (r ∷ rs) w none q is =
    elim (either (is_prefix r.0 w)) [
      | inl begins ↦ let bad = rw begins at none in cc
      | inr begins_not ↦
          let rest = values_of-none (r.0 ∷ before) rs w (rw begins_not at none) q is in
          elim (either (list_any (λ p. is_proper_prefix p r.0) before)) [
            | inl out ↦ rw out rest
            | inr stays ↦ rw (stays, differs r.0 q w begins_not is) rest
          ]
    ]

same_text-refl : (p : List ℕ) → same_text p p ≡ true
same_text-refl p = (bytes_eq-Decides p p).1 refl

values_of-first : {V : Type 0} (before : List (List ℕ)) (rs : List (List ℕ × V)) (w : List ℕ) (found : List ℕ × V)
    → list_any (λ p. is_prefix p w) before ≡ false → find (λ r. is_prefix r.0 w) rs ≡ Some found
    → IsFirst (values_of (without_extensions before rs)) w found
values_of-first before [] w found none is = cc
values_of-first before (r ∷ rs) w found none is =
    elim (either (is_prefix r.0 w)) [
      | inl begins ↦
          let first : r ≡ found = same_Some r found (rw begins at is) in
          let stays = none_proper before r.0 w none begins in
          subst (λ f. IsFirst (values_of (without_extensions before (r ∷ rs))) w f) first (record {
            is = begins;
            others = values_of (without_extensions (r.0 ∷ before) rs) r.0;
            has = rw (stays, same_text-refl r.0);
            longer = λ q within proper. rw (stays, proper-differs r.0 q proper)
                (values_of-dropped (r.0 ∷ before) rs q (or_left (is_proper_prefix r.0 q) (list_any (λ p. is_proper_prefix p q) before) proper));
          })
      | inr begins_not ↦
          let rest = values_of-first (r.0 ∷ before) rs w found (rw begins_not none) (rw begins_not at is) in
          elim (either (list_any (λ p. is_proper_prefix p r.0) before)) [
            | inl out ↦ record { is = rest.is; others = rest.others; has = rw out rest.has; longer = λ q within proper. rw out (rest.longer q within proper) }
            | inr stays ↦ record {
              is = rest.is;
              others = rest.others;
              has = rw (stays, differs r.0 found.0 w begins_not rest.is) rest.has;
              longer = λ q within proper. rw (stays, differs r.0 q w begins_not within) (rest.longer q within proper);
            }
          ]
    ]

-- the answer at a start is the earliest registered pattern that occurs there
pub earliest : {V : Type 0} (rs : List (List ℕ × V)) (w : List ℕ) → longest_key (dictionary LeftmostFirst rs) [] w ≡ find (λ r. is_prefix r.0 w) rs
earliest rs w = by_found (find (λ r. is_prefix r.0 w) rs) refl
  where
    by_found : (o : Option (List ℕ × _)) → find (λ r. is_prefix r.0 w) rs ≡ o → longest_key (dictionary LeftmostFirst rs) [] w ≡ o
    by_found None e = longest_key-none (dictionary LeftmostFirst rs) [] w (λ z y cut. values_of-none [] rs w e z (rw cut (is_prefix-append z y)))
    by_found (Some found) e =
        let first = values_of-first [] rs w found refl e in
        let split = is_prefix-splits found.0 w first.is in
        rw split.1 (longest_key-is (dictionary LeftmostFirst rs) [] found.0 split.0 found.1 first.others first.has
        (λ z r cut ne. first.longer (found.0 ++ z) (rw (split.1, cut, ← append_assoc) (is_prefix-append (found.0 ++ z) r)) (is_proper_prefix-append found.0 z ne)))
