-- A leftmost stream that takes what a reader has at hand: the bytes of a block are given one by one.
use Rattle.std.proofs.Common.{
  ◌≡◌,
  ℕ,
  ◌+◌,
  ◌^◌,
  ◌<◌,
  ◌≤◌,
  inl,
  Bool,
  true,
  false,
  List,
  [],
  ◌∷◌,
  ◌++◌,
  drop,
  length,
  map,
  take,
  Option,
  Some,
  None,
  refl,
  sym,
  ap,
  ◌∙◌,
  subst,
  append_assoc,
  append-nil,
  length-append,
  take-append-drop,
  arith,
}
use Rattle.std.proofs.lemmas.Bool.{and_parts}
use Rattle.std.proofs.lemmas.Grind.{flat_map-append}
use Rattle.std.proofs.lemmas.List.{length-map, map-id}
use Rattle.std.proofs.lemmas.List.Elements.{All-cons, All-nil, All-take}
use Rattle.std.proofs.Math.Utf8.{scalar, scalars}
use Rattle.std.specs.Char.{IsScalar, encode_utf8}
use Rattle.std.specs.Io.KnownBytes.{Consumes, Keeps}
use Rattle.std.specs.Iterator.{Yields, at_most}
use Rattle.std.specs.Prelude.{All, flat_map, ⊤}
use Rattle.daachorse_core.specs.ByteForms.{byte_wide}
use Rattle.daachorse_core.specs.CharForms.{char_wide}
use Rattle.daachorse_core.specs.FoldedForms.{byte_as_wide, char_as_wide}
use Rattle.daachorse_haystack.proofs.Cuts.{front-size, parts-as_read}
use Rattle.daachorse_haystack.specs.Readings.{MayReadAsRead}
use Rattle.daachorse_model.specs.Folding.{as_read, folded_unit}
use Rattle.daachorse_model.specs.Leftmost.{leftmost}
use Rattle.daachorse_model.specs.Units.{byte_width, char_width, size}
use Rattle.daachorse_model.proofs.FoldLaws.{as_read-append, size-as_read}
use Rattle.daachorse_model.proofs.Suffixes.{size-append}
use Rattle.daachorse_streams.specs.SourceLaws.{bytes_are, characters_are}
use Rattle.daachorse_search.specs.Readers.{GivesByte, GivesCharacter, Reading, to_give}
use Rattle.daachorse_search.specs.Views.{AutomatonView}
use Rattle.daachorse_search.proofs.ReaderLaws.{block_given, character_kept, gives_kept, text_given}
use Rattle.daachorse_streams.specs.Advancing.{Advances, ConsumesFront, HasConsumed, SkipsBlock}
use Rattle.daachorse_streams.specs.LeftmostReading.{MayReadOn}
use Rattle.daachorse_streams.specs.Streamed.{HasSkipped, LeftmostStreamed}
use Rattle.daachorse_streams.proofs.LeftmostCertain.{length_size}

pub all_scalars : (units : List ℕ) → scalars units ≡ true → All IsScalar units
all_scalars [] are = All-nil IsScalar
all_scalars (c ∷ units) are =
    let both = and_parts (scalar c) (scalars units) are in All-cons IsScalar c units both.0 (all_scalars units both.1)

-- a source of which the places of all bytes that are left fit behind what was read
abbrev Fits : (ℕ → ℕ) → {R : Type 0} → Reading R → List ℕ → Type 0
Fits width s read = size width read + s.left < 2 ^ 64

module _ (width : ℕ → ℕ) (as_wide : (u : ℕ) → width (folded_unit u) ≡ width u) {R : Type 0} where
  -- as many bytes may come as have a place that fits
  pub fits_as_read : (folds : Bool) (s : Reading R) (read : List ℕ) → MayReadAsRead (Fits width) folds s read
      → size width read + s.left < 2 ^ 64
  fits_as_read true s read (units, may, is) = omega (arith, may, ap (size width) is, size-as_read width as_wide true units)
  fits_as_read false s read may = may

  -- and so after some of them came
  may_behind : (folds : Bool) (s t : Reading R) (read units after : List ℕ) → MayReadAsRead (Fits width) folds s read
      → t.left + size width units ≡ s.left → after ≡ read ++ as_read folds units → MayReadAsRead (Fits width) folds t after
  may_behind true s t read units after (before, may, was) fewer is = (
    before ++ units,
    omega (arith, may, fewer, size-append width before units),
    as_read-append true before units ∙ ap (λ w. w ++ as_read true units) was ∙ sym is,
  )
  may_behind false s t read units after may fewer is = omega (arith, may, fewer, ap (size width) is, size-append width read units)

spelled : (width : ℕ → ℕ) (form : ℕ → List ℕ) → ((u : ℕ) → length (form u) ≡ width u) → (units : List ℕ)
    → length (flat_map form units) ≡ size width units
spelled width form spans [] = refl
spelled width form spans (u ∷ units) = omega (arith, spans u, spelled width form spans units, length-append (form u) (flat_map form units))

-- Where a form has as many bytes as its unit is wide.
module _ {V A : Type 0} (sees : A → AutomatonView V) (is_given : ℕ → Type 0) (width : ℕ → ℕ) (form : ℕ → List ℕ)
    (as_wide : (u : ℕ) → width (folded_unit u) ≡ width u) (wide : (u : ℕ) → 1 ≤ width u) (spans : (u : ℕ) → length (form u) ≡ width u) where
  -- what a stream skips of the units in a block, as they are read, are the first of the block
  pub consumes-front : (folds : Bool) (units block more : List ℕ) (count : ℕ) (s t : LeftmostStreamed V A) → folds ≡ s.folds
      → All is_given units → block ≡ flat_map form units ++ more
      → t.automaton ≡ s.automaton → t.folds ≡ s.folds → HasSkipped width (sees s.automaton).content s (as_read folds units) count t
      → (count ≡ 0 → t ≡ s) → t.given ≡ s.given → t.ended ≡ s.ended
      → ConsumesFront sees is_given width (λ u. u) form s block count t
  consumes-front folds units block more count s t as_folds are spell automaton same skipped none given ended =
      let n = length skipped.front in let first = take n units in let last = drop n units in
      let cut = parts-as_read folds units skipped.front skipped.back skipped.parts in
      let counts : length (flat_map form first) ≡ count = spelled width form spans first
      ∙ sym (front-size width as_wide folds units skipped.front skipped.back count skipped.parts skipped.ends) in
      record {
        bytes = flat_map form first;
        rest = flat_map form last ++ more;
        parts = spell ∙ ap (λ w. flat_map form w ++ more) (sym (take-append-drop n units))
            ∙ ap (λ w. w ++ more) (flat_map-append form first last) ∙ append_assoc (flat_map form first) (flat_map form last) more;
        counts = counts;
        consumes = record {
          units = first;
          are = All-take is_given n units are;
          spell = refl;
          sized = spelled width form spans first ∙ ap (size width) (sym (map-id first));
          consumed = record {
            automaton = automaton;
            folds = same;
            read = skipped.read
                ∙ ap (λ w. s.read ++ w) (sym cut.0 ∙ ap (λ b. as_read b first) as_folds ∙ ap (as_read s.folds) (sym (map-id first)));
            given = given;
            ended = ended;
          };
          clear = λ more. skipped.clear (omega (arith, more, counts, spelled width form spans first, length_size width wide first));
        };
        none = none;
      }

module _ {R : Type 0} (known : R → Option (List ℕ)) where
  -- a source that gives the units of what is taken of its reader in a block, in one go or unit by unit
  pub record GivesBlocks (is_given : ℕ → Type 0) (width : ℕ → ℕ) (form : ℕ → List ℕ)
      (steps : Reading R → Option ℕ → Reading R → Type 0) : Type 0 where
    wide : (u : ℕ) → 1 ≤ width u
    as_wide : (u : ℕ) → width (folded_unit u) ≡ width u
    given : (units : List ℕ) (s t : Reading R) → 0 < length units → All is_given units
        → Consumes (to_give known s) (to_give known t) (flat_map form units) → t.left + length (flat_map form units) ≡ s.left
        → Yields steps s units t
    kept : (s mid t : Reading R) (u : Option ℕ) → Keeps (to_give known s) (to_give known mid) → mid.left ≡ s.left → steps mid u t
        → steps s u t
    ends : (s t : Reading R) → GivesByte known s None t → steps s None t

  pub gives_bytes : GivesBlocks (λ b. ⊤) byte_width (λ b. b ∷ []) (GivesByte known)
  gives_bytes = record {
    wide = byte_wide;
    as_wide = byte_as_wide;
    given = λ units s t some are took fewer.
        let same = bytes_are units in
        block_given known units s t some (subst (Consumes (to_give known s) (to_give known t)) same took)
        (omega (arith, fewer, ap length same));
    kept = gives_kept known;
    ends = λ s t gave. gave;
  }

  pub gives_characters : GivesBlocks IsScalar char_width encode_utf8 (GivesCharacter known)
  gives_characters = record {
    wide = char_wide;
    as_wide = char_as_wide;
    given = λ units s t some are took fewer.
        let same = characters_are units in
        text_given known units s t some are (subst (Consumes (to_give known s) (to_give known t)) same took)
        (omega (arith, fewer, ap length same));
    kept = character_kept known;
    ends = λ s t gave. inl gave;
  }

  module _ {V A K : Type 0} (sees : A → AutomatonView V) (keeps : K → List ℕ → K → Type 0) {is_given : ℕ → Type 0} {width : ℕ → ℕ}
      {form : ℕ → List ℕ} {steps : Reading R → Option ℕ → Reading R → Type 0}
      (gives : GivesBlocks is_given width form steps) (s t : LeftmostStreamed V A) (from to : Reading R) (held more : K) where
    -- what was taken in a block was given by the source
    pub skips-advances : (some : Bool) → SkipsBlock sees is_given width (λ u. u) form keeps known s from held (Some some) t to more
        → Advances sees width steps (λ x. at_most x.left) (λ u. u) form keeps s from held some t to more
    skips-advances false (gave, stays, still) = (gives.ends from to gave, stays, still)
    skips-advances true takes =
        let come = takes.consumes in
        let within : length come.units ≤ length takes.bytes = omega
        (arith, come.sized, length_size width gives.wide (map (λ u. u) come.units), length-map come.units (λ u. u)) in
        record {
          units = come.units;
          some = by come.units (ap length come.spell) takes.some;
          took =
              gives.given come.units from to (by come.units (ap length come.spell) takes.some) come.are
              (subst (Consumes (to_give known from) (to_give known to)) (sym come.spell) takes.took)
              (omega (arith, takes.fewer, ap length come.spell));
          fewer = omega (arith, within, takes.fewer);
          consumed = come.consumed;
          clear = come.clear;
          sized = ap length come.spell ∙ come.sized;
          kept = subst (λ w. keeps held w more) (sym come.spell) takes.kept;
        }
      where
        by : (units : List ℕ) → {n : ℕ} → length (flat_map form units) ≡ n → 0 < n → 0 < length units
        by [] spell some = absurd (omega (arith, spell, some))
        by (u ∷ units) spell some = omega arith

    -- and it may be read on behind it
    pub skips-may : SkipsBlock sees is_given width (λ u. u) form keeps known s from held (Some true) t to more
        → MayReadOn (Fits width) s (Some from) → MayReadOn (Fits width) t (Some to)
    skips-may takes may =
        let come = takes.consumes in let B : Bool → Type 0 = λ b. MayReadAsRead (Fits width) b to t.read in (
          come.consumed.ended ∙ may.0,
          subst B (sym come.consumed.folds)
              (may_behind width gives.as_wide s.folds from to s.read (map (λ u. u) come.units) t.read may.1
              (omega (arith, takes.fewer, come.sized)) come.consumed.read),
        )

    module _ (stays : SkipsBlock sees is_given width (λ u. u) form keeps known s from held None t to more) where
      -- where nothing was taken, it may be read on as before
      pub stays-may : MayReadOn (Fits width) s (Some from) → MayReadOn (Fits width) t (Some to)
      stays-may may =
          let M : LeftmostStreamed V A → Type 0 = λ x. MayReadOn (Fits width) x (Some to) in
          subst M (sym stays.2)
          (may.0, may_behind width gives.as_wide s.folds from to s.read [] s.read may.1 (omega (arith, stays.1)) (none s.folds))
        where
          none : (folds : Bool) → s.read ≡ s.read ++ as_read folds []
          none true = sym (append-nil s.read)
          none false = sym (append-nil s.read)

      -- and what is taken then is taken of what there was before
      pub stays-advances : (some : Bool) (last : LeftmostStreamed V A) (end : Reading R) (all : K)
          → Advances sees width steps (λ x. at_most x.left) (λ u. u) form keeps t to more some last end all
          → Advances sees width steps (λ x. at_most x.left) (λ u. u) form keeps s from held some last end all
      stays-advances false last end all (gave, same, still) =
          (gives.kept from to end None stays.0 stays.1 gave, same ∙ stays.2, still ∙ stays.3)
      stays-advances true last end all h = record {
        units = h.units;
        some = h.some;
        took = by h.units h.some h.took;
        fewer = omega (arith, h.fewer, stays.1);
        consumed = subst (λ x. HasConsumed x (map (λ u. u) h.units) last) stays.2 h.consumed;
        clear = λ more. subst (λ (x : LeftmostStreamed V A). leftmost width (sees x.automaton).content last.read ≡ x.given) stays.2
            (h.clear more);
        sized = h.sized;
        kept = subst (λ x. keeps x (flat_map form h.units) all) stays.3 h.kept;
      }
        where
          by : (units : List ℕ) → 0 < length units → Yields steps to units end → Yields steps from units end
          by [] some run = absurd (omega (arith, some))
          by (u ∷ units) some (next, gave, run) = (next, gives.kept from to next (Some u) stays.0 stays.1 gave, run)
