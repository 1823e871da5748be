-- A part that was filled with an item has it in each place, and one match more covers the places that lie in it.
use Rattle.std.proofs.Common.{rules, ◌≡◌, ℕ, ◌+◌, ◌-◌, ◌≤◌, ◌<◌, ◌||◌, Bool, true, false, cond, List, [], ◌∷◌, ◌++◌, length, slice_range, get_or, replicate, inl, inr, refl, sym, ap, ◌∙◌, subst, length-append, arith}
use Rattle.std.specs.Prelude.{All}
use Rattle.std.proofs.lemmas.Bool.{cases_lt}
use Rattle.std.proofs.lemmas.List.{places}
use Rattle.std.proofs.lemmas.List.Edits.{length-between}
use Rattle.std.proofs.lemmas.List.Elements.{All-head, All-tail, All-weaker}
use Rattle.std.proofs.lemmas.List.Folds.{list_any-append}
use borrow.Rule.Slice.PartMut.{put_mid}
use Rattle.daachorse_model.specs.declared.Match.{Match}
use Rattle.daachorse_model.specs.Dictionary.{Dictionary}
use Rattle.daachorse_model.specs.Folding.{as_read}
use Rattle.daachorse_model.specs.Laws.{IsOccurrence}
use Rattle.daachorse_model.specs.Leftmost.{leftmost}
use Rattle.daachorse_model.specs.Units.{byte_width}
use Rattle.daachorse_model.proofs.Find.{leftmost_occur}
use Rattle.daachorse_model.proofs.FoldLaws.{length-as_read}
use Rattle.daachorse_model.proofs.Suffixes.{size-bytes}
use Rattle.daachorse_uses.specs.Covered.{FitsIn, is_covered, is_within}

-- what x was put in each place from s to e
module _ {A : Type 0} (s e : ℕ) (x d : A) (old part : List A) (i : ℕ) (ordered : s ≤ e) (fits : e ≤ length old) (is : part ≡ replicate (length (slice_range old s e)) x) where
  pub filled : i < length old → get_or (put_mid s (e - s) old part) i d ≡ cond (is_within s e i) x (get_or old i d)
  filled here =
      let long : length (slice_range old s e) ≡ e - s = length-between old s e fits in
      rw (is, long) elim (cases_lt i s) [
        | inl before ↦ search (rules, places)
        | inr from ↦ elim (cases_lt i e) [ inl to ↦ search (rules, places) | inr past ↦ search (rules, places) ]
      ]

-- ---- the places of a match

module _ {V : Type 0} where
  pub fits_in : (K : Dictionary V) (h : List ℕ) (m : Match V) → IsOccurrence byte_width K h m → FitsIn (length h) m
  fits_in K h m o =
      let whole : length h ≡ length o.before + (length o.key + length o.after) = ap length o.splits ∙ length-append o.before (o.key ++ o.after) ∙ ap (λ n. length o.before + n) (length-append o.key o.after) in
      record { ordered = omega (arith, o.starts, o.ends); within = omega (arith, o.ends, size-bytes o.before, size-bytes o.key, whole) }

  leftmost_fit : (K : Dictionary V) (h : List ℕ) → All (FitsIn (length h)) (leftmost byte_width K h)
  leftmost_fit K h = All-weaker (IsOccurrence byte_width K h) (FitsIn (length h)) (fits_in K h) (leftmost byte_width K h) (leftmost_occur byte_width K h)

  -- what is within a text as it is read is within the text
  pub fit_as_given : (folds : Bool) (h : List ℕ) (ms : List (Match V)) → All (FitsIn (length (as_read folds h))) ms → All (FitsIn (length h)) ms
  fit_as_given folds h ms all = subst (λ n. All (FitsIn n) ms) (length-as_read folds h) all

  all_at : (P : Match V → Type 0) (xs : List (Match V)) (m : Match V) (ms : List (Match V)) → All P (xs ++ m ∷ ms) → P m
  all_at P [] m ms all = All-head P m ms all
  all_at P (x ∷ xs) m ms all = all_at P xs m ms (All-tail P x (xs ++ m ∷ ms) all)

  pub leftmost_fits : (K : Dictionary V) (folds : Bool) (h : List ℕ) (xs : List (Match V)) (m : Match V) (ms : List (Match V)) → leftmost byte_width K (as_read folds h) ≡ xs ++ m ∷ ms → FitsIn (length h) m
  leftmost_fits K folds h xs m ms is = all_at (FitsIn (length h)) xs m ms (subst (All (FitsIn (length h))) is (fit_as_given folds h (leftmost byte_width K (as_read folds h)) (leftmost_fit K (as_read folds h))))

  pub covered_more : (xs : List (Match V)) (m : Match V) (i : ℕ) → is_covered (xs ++ m ∷ []) i ≡ cond (is_within m.start m.end i) true (is_covered xs i)
  covered_more xs m i = list_any-append (λ m. is_within m.start m.end i) xs (m ∷ []) ∙ by (is_covered xs i) (is_within m.start m.end i)
    where
      by : (a b : Bool) → (a || (b || false)) ≡ cond b true a
      by true true = refl
      by true false = refl
      by false true = refl
      by false false = refl

cond_either : {A : Type 0} (w c : Bool) (x y : A) → cond w x (cond c x y) ≡ cond (cond w true c) x y
cond_either true c x y = refl
cond_either false c x y = refl

-- a match more was filled
pub filled_more : {V A : Type 0} (xs : List (Match V)) (m : Match V) (text out part : List A) (x d : A) → FitsIn (length text) m → length out ≡ length text → part ≡ replicate (length (slice_range out m.start m.end)) x
    → ((i : ℕ) → i < length text → get_or out i d ≡ cond (is_covered xs i) x (get_or text i d))
    → (i : ℕ) → i < length text → get_or (put_mid m.start (m.end - m.start) out part) i d ≡ cond (is_covered (xs ++ m ∷ []) i) x (get_or text i d)
filled_more xs m text out part x d f long is so_far i inside =
    filled m.start m.end x d out part i f.ordered (omega (arith, f.within, long)) is (omega (arith, inside, long))
    ∙ ap (cond (is_within m.start m.end i) x) (so_far i inside)
    ∙ cond_either (is_within m.start m.end i) (is_covered xs i) x (get_or text i d)
    ∙ ap (λ b. cond b x (get_or text i d)) (sym (covered_more xs m i))
