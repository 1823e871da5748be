-- The links that are computed are the links that the relations speak of: the longest end of u ∷ w that is not u ∷ w itself is the longest end of w.
use Rattle.std.proofs.Common.{◌≡◌, ◌≢◌, ℕ, ◌+◌, ◌<◌, ◌≤◌, Bool, true, false, cond, List, [], ◌∷◌, ◌++◌, length, Option, Some, None, refl, sym, ap, ◌∙◌, subst, inl, inr, arith, append_assoc, append-nil}
use Rattle.daachorse_model.specs.Dictionary.{Dictionary}
use Rattle.daachorse_model.specs.Prefixes.{IsSuffix, IsKey, IsPrefix, IsLong, IsLink, Occurs, StartsBefore, IsDead, IsLeftFail, long, link, is_key, key_begins, long_unless_key, left_fail}
use Rattle.daachorse_model.proofs.Suffixes.{le_or_lt, IsSuffix-same, IsSuffix-cons, IsSuffix-tail, IsSuffix-length, IsSuffix-of_longer, IsSuffix-as_long}
use Rattle.daachorse_model.proofs.Steps.{IsLong-nil}

module _ {V : Type 0} (K : Dictionary V) where
  -- the longest end of what follows the first unit is the link
  pub IsLink-IsLong : (u : ℕ) (w s : List ℕ) → IsLong K w s → IsLink K (u ∷ w) s
  IsLink-IsLong u w s h = record {
    ends = IsSuffix-cons s w u h.ends;
    shorter = omega (arith, IsSuffix-length s w h.ends);
    begins = h.begins;
    longest = λ t p less q. h.longest t (IsSuffix-tail t w u p less) q;
  }

  -- and the other way round
  pub link_of_rest : (u : ℕ) (w s : List ℕ) → IsLink K (u ∷ w) s → IsLong K w s
  link_of_rest u w s h = record {
    ends = IsSuffix-tail s w u h.ends h.shorter;
    begins = h.begins;
    longest = λ t p q. h.longest t (IsSuffix-cons t w u p) (omega (arith, IsSuffix-length t w p)) q;
  }

  -- there is one link
  pub IsLink-same : (w s t : List ℕ) → IsLink K w s → IsLink K w t → s ≡ t
  IsLink-same w s t p q =
      let fits : length s ≤ length t = q.longest s p.ends p.shorter p.begins in
      IsSuffix-as_long s t (IsSuffix-of_longer w s t p.ends q.ends fits) (p.longest t q.ends q.shorter q.begins)

  -- no key starts before the end s: each that occurs starts where s does or later
  pub none_before : (w s : List ℕ) → (¬ StartsBefore K w s) → (a k b : List ℕ) → Occurs K w a k b → length w ≤ length a + length s
  none_before w s none a k b o = elim (le_or_lt (length w) (length a + length s)) [ inl p ↦ p | inr less ↦ absurd (none (a, k, b, o, less)) ]

  pub none_before-back : (w s : List ℕ) → ((a k b : List ℕ) → Occurs K w a k b → length w ≤ length a + length s) → ¬ StartsBefore K w s
  none_before-back w s none early = omega (arith, none early.0 early.1 early.2 early.3, early.4)

  -- a link before which no key starts is not dead
  pub IsDead-not : (w s : List ℕ) → IsLink K w s → (¬ StartsBefore K w s) → ¬ IsDead K w
  IsDead-not w s l none dead =
      let P : List ℕ → Type 0 = λ r. StartsBefore K w r in
      none (subst P (IsLink-same w dead.0 s dead.1 l) dead.2)

  has_some : (w : List ℕ) → is_key K w ≡ true → IsKey K w
  has_some w = some (K w)
    where
      some : (vs : List V) → elim vs [ [] ↦ false | _ ∷ _ ↦ true ] ≡ true → vs ≢ []
      some [] h e = absurd (cc)
      some (v ∷ vs) h e = absurd (cc)

  has_none : (w : List ℕ) → is_key K w ≡ false → K w ≡ []
  has_none w = none (K w)
    where
      none : (vs : List V) → elim vs [ [] ↦ false | _ ∷ _ ↦ true ] ≡ false → vs ≡ []
      none [] h = refl
      none (v ∷ vs) h = absurd (cc)

  pub begins_true : (t w : List ℕ) → key_begins K t w ≡ true → (k : List ℕ) × (b : List ℕ) × (w ≡ k ++ b) × IsKey K (t ++ k)
  begins_true t [] h = ([], [], refl, λ e. has_some t h (sym (ap K (append-nil t)) ∙ e))
  begins_true t (u ∷ w) h = here (is_key K t) refl h (λ later. begins_true (t ++ u ∷ []) w later)
    where
      here : (b : Bool) → is_key K t ≡ b → cond b true (key_begins K (t ++ u ∷ []) w) ≡ true
          → (key_begins K (t ++ u ∷ []) w ≡ true → (k : List ℕ) × (b : List ℕ) × (w ≡ k ++ b) × IsKey K ((t ++ u ∷ []) ++ k))
          → (k : List ℕ) × (b : List ℕ) × (u ∷ w ≡ k ++ b) × IsKey K (t ++ k)
      here true is h more = ([], u ∷ w, refl, λ e. has_some t is (sym (ap K (append-nil t)) ∙ e))
      here false is h more =
          let r = more h in
          (u ∷ r.0, r.1, ap (λ l. u ∷ l) r.2, λ e. r.3 (ap K (append_assoc t (u ∷ []) r.0) ∙ e))

  pub begins_false : (t w k b : List ℕ) → key_begins K t w ≡ false → w ≡ k ++ b → K (t ++ k) ≡ []
  begins_false t [] [] b h e = ap K (append-nil t) ∙ has_none t h
  begins_false t [] (x ∷ k) b h e = absurd (cc)
  begins_false t (u ∷ w) [] b h e = ap K (append-nil t) ∙ here (is_key K t) refl h
    where
      here : (c : Bool) → is_key K t ≡ c → cond c true (key_begins K (t ++ u ∷ []) w) ≡ false → K t ≡ []
      here true is h = absurd (cc)
      here false is h = has_none t is
  begins_false t (u ∷ w) (x ∷ k) b h e =
      let same : u ≡ x = cc in
      let rest : w ≡ k ++ b = cc in
      ap K (ap (λ y. t ++ y ∷ k) (sym same) ∙ sym (append_assoc t (u ∷ []) k)) ∙ begins_false (t ++ u ∷ []) w k b (here (is_key K t) h) rest
    where
      here : (c : Bool) → cond c true (key_begins K (t ++ u ∷ []) w) ≡ false → key_begins K (t ++ u ∷ []) w ≡ false
      here true h = absurd (cc)
      here false h = h

  module _ (known : List ℕ → Bool) (fore : (w : List ℕ) → known w ≡ true → IsPrefix K w) (back : (w : List ℕ) → IsPrefix K w → known w ≡ true) where
    longer_none : (u : ℕ) (w l m front : List ℕ) → known (u ∷ w) ≡ false → ((n : List ℕ) → IsSuffix n w → IsPrefix K n → length n ≤ length l) → front ++ m ≡ u ∷ w → IsPrefix K m → length m ≤ length l
    longer_none u w l m [] out below e is = absurd (let bad : true ≡ false = sym (back (u ∷ w) (let P : List ℕ → Type 0 = λ r. IsPrefix K r in subst P e is)) ∙ out in cc)
    longer_none u w l m (c ∷ front) out below e is = below m (front, cc) is

    -- the longest known end
    pub long-is : (w : List ℕ) → IsLong K w (long known w)
    long-is [] = IsLong-nil K
    long-is (u ∷ w) = go (known (u ∷ w)) refl (long-is w)
      where
        go : (b : Bool) → known (u ∷ w) ≡ b → IsLong K w (long known w) → IsLong K (u ∷ w) (cond b (u ∷ w) (long known w))
        go true is rest = record { ends = IsSuffix-same (u ∷ w); begins = fore (u ∷ w) is; longest = λ m s p. IsSuffix-length m (u ∷ w) s }
        go false is rest = record {
          ends = IsSuffix-cons (long known w) w u rest.ends;
          begins = rest.begins;
          longest = λ m s p. longer_none u w (long known w) m s.0 is rest.longest s.1 p;
        }

    pub link-is : (u : ℕ) (w : List ℕ) → IsLink K (u ∷ w) (link known (u ∷ w))
    link-is u w = IsLink-IsLong u w (long known w) (long-is w)

    -- what `long_unless_key` tells
    abbrev Tells : List ℕ → Option (List ℕ) → Type 0
    Tells w None = StartsBefore K w (long known w)
    Tells w (Some l) = (l ≡ long known w) × ¬ StartsBefore K w l

    none_longer : (u : ℕ) (w l : List ℕ) → key_begins K [] (u ∷ w) ≡ false → (¬ StartsBefore K w l) → ¬ StartsBefore K (u ∷ w) l
    none_longer u w l out none early = first early.0 early.1 early.2 early.3 early.4
      where
        first : (a k b : List ℕ) → Occurs K (u ∷ w) a k b → length a + length l < length (u ∷ w) → ⊥
        first [] k b o less = o.key (begins_false [] (u ∷ w) k b out o.parts)
        first (x ∷ a) k b o less = none (a, k, b, record { parts = (let e : u ∷ w ≡ x ∷ (a ++ (k ++ b)) = o.parts in cc); key = o.key }, omega arith)

    -- a key that begins u ∷ w starts before any end of w
    starts_first : (u : ℕ) (w l : List ℕ) → key_begins K [] (u ∷ w) ≡ true → IsSuffix l w → StartsBefore K (u ∷ w) l
    starts_first u w l key ends =
        let r = begins_true [] (u ∷ w) key in
        ([], r.0, r.1, record { parts = r.2; key = r.3 }, omega (arith, IsSuffix-length l w ends))

    starts_later : (u : ℕ) (w l : List ℕ) → StartsBefore K w l → StartsBefore K (u ∷ w) l
    starts_later u w l early = (u ∷ early.0, early.1, early.2, record { parts = ap (λ r. u ∷ r) early.3.parts; key = early.3.key }, omega (arith, early.4))

    long_tells : (w : List ℕ) → Tells w (long_unless_key K known w)
    long_tells [] = (refl, λ early. omega (arith, early.4))
    long_tells (u ∷ w) = go (known (u ∷ w)) (key_begins K [] (u ∷ w)) (long_unless_key K known w) refl refl (long_tells w)
      where
        whole : ¬ StartsBefore K (u ∷ w) (u ∷ w)
        whole early = omega (arith, early.4)

        go : (b c : Bool) (o : Option (List ℕ)) → known (u ∷ w) ≡ b → key_begins K [] (u ∷ w) ≡ c → Tells w o → Tells (u ∷ w) (cond b (Some (u ∷ w)) (cond c None o))
        go true c o is key rest = (ap (λ b. cond b (u ∷ w) (long known w)) (sym is), whole)
        go false true o is key rest = rw is (starts_first u w (long known w) key (long-is w).ends)
        go false false (Some l) is key rest = (rest.0 ∙ sym (ap (λ b. cond b (u ∷ w) (long known w)) is), none_longer u w l key rest.1)
        go false false None is key rest = rw is (starts_later u w (long known w) rest)

    pub left_fail-is : (u : ℕ) (w : List ℕ) → IsLeftFail K (u ∷ w) (left_fail K known (u ∷ w))
    left_fail-is u w = go (key_begins K [] (u ∷ w)) (long_unless_key K known w) refl (long_tells w)
      where
        go : (c : Bool) (o : Option (List ℕ)) → key_begins K [] (u ∷ w) ≡ c → Tells w o → IsLeftFail K (u ∷ w) (cond c None o)
        go true o key rest = (long known w, link-is u w, starts_first u w (long known w) key (long-is w).ends)
        go false None key rest = (long known w, link-is u w, starts_later u w (long known w) rest)
        go false (Some l) key rest =
            let P : List ℕ → Type 0 = λ x. IsLink K (u ∷ w) x in
            (subst P (sym rest.0) (link-is u w), none_longer u w l key rest.1)
