-- Members of lists, pairs of them, and tables in which the entries of some are written.
use Rattle.std.proofs.Common.{◌≡◌, ℕ, zero, suc, ◌+◌, ◌<◌, ◌≤◌, ◌⊎◌, inl, inr, List, [], ◌∷◌, ◌++◌, length, map, reverse, get_or, set, Option, Some, None, refl, sym, ap, ◌∙◌, arith, subst}
use Rattle.std.proofs.lemmas.List.{get_or-set_same, get_or-set_other, length-set, length-map, length-reverse, reverse-append}
use Rattle.std.proofs.lemmas.Bool.{cases_eq}
use Rattle.std.specs.List.{AllByRecursion}
use Rattle.daachorse_array.proofs.PathLaws.{pigeon}
use Rattle.daachorse_array.specs.Edges.{put_before, child_before, children_below}
use Rattle.daachorse_array.specs.Trees.{IsAmong, Pairs, IsMarking, elements_of}

-- ---- members

pub among-read : (l : List ℕ) (k : ℕ) → k < length l → IsAmong l (get_or l k 0)
among-read [] k h = absurd (omega arith)
among-read (x ∷ l) zero h = inl refl
among-read (x ∷ l) (suc k) h = inr (among-read l k (omega arith))

pub among-append : (xs ys : List ℕ) (k : ℕ) → IsAmong (xs ++ ys) k → IsAmong xs k ⊎ IsAmong ys k
among-append [] ys k h = inr h
among-append (x ∷ xs) ys k (inl e) = inl (inl e)
among-append (x ∷ xs) ys k (inr h) = elim (among-append xs ys k h) [ inl a ↦ inl (inr a) | inr b ↦ inr b ]

pub among-left : (xs ys : List ℕ) (k : ℕ) → IsAmong xs k → IsAmong (xs ++ ys) k
among-left [] ys k h = absurd h
among-left (x ∷ xs) ys k (inl e) = inl e
among-left (x ∷ xs) ys k (inr h) = inr (among-left xs ys k h)

pub among-right : (xs ys : List ℕ) (k : ℕ) → IsAmong ys k → IsAmong (xs ++ ys) k
among-right [] ys k h = h
among-right (x ∷ xs) ys k h = inr (among-right xs ys k h)

pub among-put : (xs l : List ℕ) (k : ℕ) → IsAmong (put_before xs l) k → IsAmong xs k ⊎ IsAmong l k
among-put [] l k h = inr h
among-put (x ∷ xs) l k h = elim (among-put xs (x ∷ l) k h) [ inl a ↦ inl (inr a) | inr b ↦ elim b [ inl e ↦ inl (inl e) | inr c ↦ inr c ] ]

pub put-right : (xs l : List ℕ) (k : ℕ) → IsAmong l k → IsAmong (put_before xs l) k
put-right [] l k h = h
put-right (x ∷ xs) l k h = put-right xs (x ∷ l) k (inr h)

pub put-left : (xs l : List ℕ) (k : ℕ) → IsAmong xs k → IsAmong (put_before xs l) k
put-left [] l k h = absurd h
put-left (x ∷ xs) l k (inl e) = put-right xs (x ∷ l) k (inl e)
put-left (x ∷ xs) l k (inr h) = put-left xs (x ∷ l) k h

pub among-either : (xs : List ℕ) (k : ℕ) → IsAmong xs k ⊎ (¬ IsAmong xs k)
among-either [] k = inr (λ h. h)
among-either (x ∷ xs) k = elim (cases_eq k x) [
  | inl same ↦ inl (inl same)
  | inr other ↦ elim (among-either xs k) [ inl more ↦ inl (inr more) | inr out ↦ inr (λ h. elim h [ inl same ↦ other same | inr more ↦ out more ]) ]
]

pub All-among : (P : ℕ → Type 0) (xs : List ℕ) → ((k : ℕ) → IsAmong xs k → P k) → AllByRecursion P xs
All-among P [] h = tt
All-among P (x ∷ xs) h = (h x (inl refl), All-among P xs (λ k a. h k (inr a)))

pub among-All : (P : ℕ → Type 0) (xs : List ℕ) (k : ℕ) → AllByRecursion P xs → IsAmong xs k → P k
among-All P [] k all h = absurd h
among-All P (x ∷ xs) k all (inl e) = subst P (sym e) all.0
among-All P (x ∷ xs) k all (inr h) = among-All P xs k all.1 h

pub length-put : (xs l : List ℕ) → length (put_before xs l) ≡ length xs + length l
length-put [] l = omega arith
length-put (x ∷ xs) l = omega (arith, length-put xs (x ∷ l))

-- ---- the children of an element

module _ (child : ℕ → ℕ → Option ℕ) (i : ℕ) where
  pub among-children : (m k : ℕ) → IsAmong (children_below child i m) k → (c : ℕ) × (child i c ≡ Some k)
  among-children zero k h = absurd h
  among-children (suc u) k h = (elim (child i u) as (λ o. child i u ≡ o → IsAmong (child_before o (children_below child i u)) k → (c : ℕ) × (child i c ≡ Some k)) [
    | None ↦ λ is h. among-children u k h
    | Some j ↦ λ is h. elim h [ inl same ↦ (u, is ∙ ap (λ x. Some x) (sym same)) | inr more ↦ among-children u k more ]
  ]) refl h

  pub children_below-among : (m c k : ℕ) → c < m → child i c ≡ Some k → IsAmong (children_below child i m) k
  children_below-among zero c k h e = absurd (omega arith)
  children_below-among (suc u) c k h e = elim (cases_eq c u) [
    | inl same ↦ rw (ap (child i) (sym same) ∙ e) (inl refl)
    | inr other ↦ (
        let more = children_below-among u c k (omega (arith, h, other)) e in
        elim (child i u) as (λ o. IsAmong (child_before o (children_below child i u)) k) [ None ↦ more | Some j ↦ inr more ])
  ]

  pub no-children : (m : ℕ) → ((c : ℕ) → child i c ≡ None) → children_below child i m ≡ []
  no-children zero none = refl
  no-children (suc u) none = ap (λ o. child_before o (children_below child i u)) (none u) ∙ no-children u none

  -- children put before others, where each stands in R to each later one
  pub Pairs-children : (R : ℕ → ℕ → Type 0) (m : ℕ) (l : List ℕ) → Pairs R l → ((c k : ℕ) → c < m → child i c ≡ Some k → AllByRecursion (R k) l)
      → ((c d j k : ℕ) → c < d → d < m → child i c ≡ Some j → child i d ≡ Some k → R j k) → Pairs R (put_before (children_below child i m) l)
  Pairs-children R zero l pairs before rise = pairs
  Pairs-children R (suc u) l pairs before rise = (elim (child i u) as (λ o. child i u ≡ o → Pairs R (put_before (child_before o (children_below child i u)) l)) [
    | None ↦ λ is. Pairs-children R u l pairs (λ c k h e. before c k (omega arith) e) (λ c d j k h less a b. rise c d j k h (omega arith) a b)
    | Some t ↦ λ is.
        Pairs-children R u (t ∷ l) (before u t (omega arith) is, pairs)
        (λ c k h e. (rise c u k t h (omega arith) e is, before c k (omega arith) e))
        (λ c d j k h less a b. rise c d j k h (omega arith) a b)
  ]) refl

-- ---- pairs

pub Pairs-map : (R S : ℕ → ℕ → Type 0) (xs : List ℕ) → ((i j : ℕ) → R i j → S i j) → Pairs R xs → Pairs S xs
Pairs-map R S [] h p = tt
Pairs-map R S (x ∷ xs) h p = (All-among (S x) xs (λ j a. h x j (among-All (R x) xs j p.0 a)), Pairs-map R S xs h p.1)

module _ (R : ℕ → ℕ → Type 0) where
  pub Pairs-append : (xs ys : List ℕ) → Pairs R xs → Pairs R ys → ((i j : ℕ) → IsAmong xs i → IsAmong ys j → R i j) → Pairs R (xs ++ ys)
  Pairs-append [] ys p q cross = q
  Pairs-append (x ∷ xs) ys p q cross = (
    All-among (R x) (xs ++ ys) (λ j a. elim (among-append xs ys j a) [ inl old ↦ among-All (R x) xs j p.0 old | inr new ↦ cross x j (inl refl) new ]),
    Pairs-append xs ys p.1 q (λ i j a b. cross i j (inr a) b),
  )

  pub Pairs-push : (xs : List ℕ) (x : ℕ) → Pairs R xs → ((k : ℕ) → IsAmong xs k → R k x) → Pairs R (xs ++ x ∷ [])
  Pairs-push xs x pairs h = Pairs-append xs (x ∷ []) pairs (tt, tt) (λ k j a new. elim new [ inl same ↦ subst (R k) (sym same) (h k a) | inr none ↦ absurd none ])

  -- two of a list
  pub Pairs-read : (xs : List ℕ) (j k : ℕ) → j < k → k < length xs → Pairs R xs → R (get_or xs j 0) (get_or xs k 0)
  Pairs-read [] j k up h p = absurd (omega arith)
  Pairs-read (x ∷ xs) j zero up h p = absurd (omega arith)
  Pairs-read (x ∷ xs) zero (suc k) up h p = among-All (R x) xs (get_or xs k 0) p.0 (among-read xs k (omega arith))
  Pairs-read (x ∷ xs) (suc j) (suc k) up h p = Pairs-read xs j k (omega arith) (omega arith) p.1

  -- numbers below n, where none stands in R to itself: there are at most n
  pub Pairs-few : (xs : List ℕ) (n : ℕ) → Pairs R xs → ((k : ℕ) → ¬ R k k) → ((k : ℕ) → IsAmong xs k → k < n) → length xs ≤ n
  Pairs-few xs n pairs other less =
      pigeon n (length xs) (λ k. get_or xs k 0) (λ k h. less (get_or xs k 0) (among-read xs k h))
      (λ j k up h same. other (get_or xs k 0) (let P : ℕ → Type 0 = λ x. R x (get_or xs k 0) in subst P same (Pairs-read xs j k up h pairs)))

-- ---- tables

pub marking-start : (kids : List ℕ) (x : ℕ) (old : List ℕ) → IsMarking kids kids x old old
marking-start kids x old = record { size = refl; within = λ k h. h; written = λ k h. inl h; other = λ k h. refl }

pub marking-next : (kids left : List ℕ) (j x : ℕ) (old new : List ℕ) → j < length new → IsMarking kids (j ∷ left) x old new → IsMarking kids left x old (set new j x)
marking-next kids left j x old new inside m = record {
  size = length-set new j x ∙ m.size;
  within = λ k h. m.within k (inr h);
  written = λ k h. elim (cases_eq k j) [
    | inl same ↦ inr (rw same (get_or-set_same new j x 0 inside))
    | inr other ↦ elim (m.written k h) [
      | inl more ↦ elim more [ inl same ↦ absurd (other same) | inr kid ↦ inl kid ]
      | inr done ↦ inr (get_or-set_other new j k x 0 other ∙ done)
    ]
  ];
  other = λ k no. get_or-set_other new j k x 0 (λ same. no (m.within k (inl same))) ∙ m.other k no;
}

-- the last pair of a list is the first of its elements, read backwards
pub elements-pop : (stack rest : List (ℕ × ℕ)) (x : ℕ × ℕ) → stack ≡ rest ++ x ∷ [] → elements_of stack ≡ x.1 ∷ elements_of rest
elements-pop stack rest x e = ap elements_of e ∙ ap (λ l. map (λ p. p.1) l) (reverse-append rest (x ∷ []))

pub length-elements : (stack : List (ℕ × ℕ)) → length (elements_of stack) ≡ length stack
length-elements stack = length-map (reverse stack) (λ p. p.1) ∙ length-reverse stack
