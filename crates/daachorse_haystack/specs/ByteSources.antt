-- A source of bytes takes one place for each item, so a count of items that fits is a place that fits.
use Rattle.std.proofs.Common.{◌≡◌, ℕ, zero, suc, ◌+◌, ◌<◌, ◌≤◌, ◌^◌, inl, inr, false, List, [], ◌∷◌, ◌++◌, map, length, Option, Some, refl, sym, subst, arith, length-append}
use Rattle.std.proofs.lemmas.List.{length-map}
use Rattle.std.specs.Iterator.{Count, IsFinite, Yields, items_left}
use Rattle.std.specs.Iterator.Runs.{CountFits, Run, Trigger, YieldsRun}
use Rattle.std.specs.Option.{option_map}
use Rattle.std.specs.Prelude.{slice_get, slice_index_or}
use Rattle.daachorse_model.specs.Units.{size, byte_width}
use Rattle.daachorse_model.proofs.Suffixes.{size-bytes}
use Rattle.daachorse_haystack.specs.Sources.{IsReady, MayRead, Reads}

met : (n : ℕ) → Trigger n
unfolding Trigger
met n = tt

item_at : {U : Type 0} (xs : List U) (k : ℕ) (d : U) → k < length xs → option_map (λ y. y) (slice_get xs k) ≡ Some (slice_index_or xs k d)
item_at [] k d inside = absurd (omega arith)
item_at (x ∷ xs) zero d inside = refl
item_at (x ∷ xs) (suc k) d inside = item_at xs k d (omega arith)

module _ {S U : Type 0} (steps : S → Option U → S → Type 0) where
  pub Yields_append : (s : S) (xs : List U) (j : S) (ys : List U) (t : S) → Yields steps s xs j → Yields steps j ys t → Yields steps s (xs ++ ys) t
  Yields_append s [] j ys t e run = let P : S → Type 0 = λ k. Yields steps k ys t in subst P (sym e) run
  Yields_append s (x ∷ xs) j ys t first run = (first.0, first.1, Yields_append first.0 xs j ys t first.2 run)

  -- calls that gave items are a run, which need not go on to the end
  yields_run : (s : S) (xs : List U) (t : S) → Yields steps s xs t → YieldsRun steps s xs false (slice_get xs)
  unfolding YieldsRun
  yields_run s xs t yields = ((t, yields, λ e. absurd (cc)), λ k. refl)

  abbrev run_of : (s : S) (xs : List U) (t : S) → Yields steps s xs t → Run steps
  run_of s xs t yields = record {
    from = s;
    items = xs;
    whole = false;
    len = length xs;
    at = slice_get xs;
    seen = met (length xs);
    long = refl;
    reads = λ k d inside. item_at xs k d inside;
    gave = yields_run s xs t yields;
  }

  run_yields : (p : Run steps) → (t : S) × Yields steps p.from p.items t
  unfolding YieldsRun
  run_yields p = (p.gave.0.0, p.gave.0.1)

  module _ (left : S → Count) (n : ℕ) (s : S) (xs : List U) (t : S) (yields : Yields steps s xs t) (fewer : length xs + items_left left t ≤ items_left left s) where
    -- the items that came fit
    pub CountFits-run : CountFits steps left n s → n + length xs < 2 ^ 64
    CountFits-run (inl h) = omega (arith, fewer)
    CountFits-run (inr h) = h (run_of s xs t yields) (met (length xs)) refl (met (2 ^ 64))

    -- and so do those that come after them
    pub CountFits-after : (m : ℕ) → m ≡ n + length xs → CountFits steps left n s → CountFits steps left m t
    CountFits-after m is (inl h) = inl (omega (arith, fewer))
    CountFits-after m is (inr h) = inr (λ p _ from on.
        let later = run_yields p in
        let P : S → Type 0 = λ x. Yields steps x p.items later.0 in
        let all : Yields steps s (xs ++ p.items) later.0 = Yields_append s xs t p.items later.0 yields (subst P from later.1) in
        omega (arith, h (run_of s (xs ++ p.items) later.0 all) (met (length (xs ++ p.items))) refl on, length-append xs p.items, p.long))

module _ {S U : Type 0} (can : S → Type 0) (steps : S → Option U → S → Type 0) (left : S → Count) (unit : U → ℕ) (width : ℕ → ℕ) where
  pub Reads-yields : (s : S) (xs : List U) (t : S) → Reads can steps left unit width s xs t → Yields steps s xs t
  Reads-yields s [] t same = same
  Reads-yields s (x ∷ xs) t run = (run.0, run.1.0, Reads-yields run.0 xs t run.2)

  -- each item that is read lowers the bound
  pub Reads-fewer : (s : S) (xs : List U) (t : S) → IsFinite (left s) → Reads can steps left unit width s xs t → length xs + items_left left t ≤ items_left left s
  Reads-fewer s [] t finite same = let P : S → Type 0 = λ x. 0 + items_left left x ≤ items_left left s in subst P same (omega arith)
  Reads-fewer s (x ∷ xs) t finite run = let on = run.1.1.on finite in omega (arith, on.2, Reads-fewer run.0 xs t on.1 run.2)

-- a source of items that take a byte each is ready where their count fits
pub IsReady-bytes : {S U : Type 0} (can : S → Type 0) (steps : S → Option U → S → Type 0) (left : S → Count) (unit : U → ℕ) (s : S) (place : ℕ) → can s → IsFinite (left s) → CountFits steps left place s → IsReady can steps left unit byte_width s place
IsReady-bytes can steps left unit s place callable ends fits = record {
  callable = callable;
  ends = ends;
  fits = λ xs rest reads.
      omega (arith, CountFits-run steps left place s xs rest (Reads-yields can steps left unit byte_width s xs rest reads) (Reads-fewer can steps left unit byte_width s xs rest ends reads) fits, size-bytes (map unit xs), length-map xs unit);
}

module _ {S : Type 0} (can : S → Type 0) (steps : S → Option ℕ → S → Type 0) (left : S → Count) where
  pub MayRead-ready : (source : S) (read : List ℕ) → MayRead can steps left source read → IsReady can steps left (λ b. b) byte_width source (size byte_width read)
  MayRead-ready source read h =
      let P : ℕ → Type 0 = λ n. CountFits steps left n source in
      IsReady-bytes can steps left (λ b. b) source (size byte_width read) h.callable h.ends (subst P (sym (size-bytes read)) h.fits)

  pub MayRead-kept : (source : S) (read xs : List ℕ) (later : S) (place : ℕ) → MayRead can steps left source read → Yields steps source xs later → length xs + items_left left later ≤ items_left left source
      → IsReady can steps left (λ b. b) byte_width later place → MayRead can steps left later (read ++ map (λ b. b) xs)
  MayRead-kept source read xs later place h yields fewer ready = record {
    callable = ready.callable;
    ends = ready.ends;
    fits = CountFits-after steps left (length read) source xs later yields fewer (length (read ++ map (λ b. b) xs)) (omega (arith, length-append read (map (λ b. b) xs), length-map xs (λ b. b))) h.fits;
  }
