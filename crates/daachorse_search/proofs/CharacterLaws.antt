-- The bytes of a character: its code is made of the bits in them, and no smaller code has as many bytes.
use Rattle.std.proofs.Common.{◌≡◌, ℕ, ◌+◌, ◌*◌, ◌-◌, ◌/◌, ◌%◌, ◌<◌, ◌≤◌, List, [], ◌∷◌, ◌++◌, Option, Some, None, IfNone, IfSome, inl, inr, refl, sym, ap, ◌∙◌, subst, append_assoc, append-nil, arith}
use Rattle.std.proofs.KnownBytes.{Consumes-nil, Consumes-trans}
use Rattle.std.proofs.Math.Utf8.{encode}
use Rattle.std.proofs.lemmas.Bool.Decides.{nat_tests}
use Rattle.std.specs.Char.{IsScalar}
use Rattle.std.specs.Io.KnownBytes.{Consumes, Keeps}
use Rattle.std.specs.IoError.{error_kind}
use Rattle.std.specs.declared.io.ErrorKind.TheVariants.{FileTooLarge}
use Rattle.std.specs.declared.io.Error.{Error}
use Rattle.std.specs.Iterator.{MakesProgress, Yields, at_most}
use Rattle.std.specs.Prelude.{⊤, IsSome, IsSomeAnd, MatchOption, ◌⊎◌}
use Rattle.daachorse_core.specs.CharForms.{char_wide}
use Rattle.daachorse_search.specs.CharacterReaders.{character_takes}
use Rattle.daachorse_search.specs.Readers.{Fails, GivesByte, GivesCharacter, HasEnded, IsWrongText, Reading, to_give}
use Rattle.daachorse_search.specs.Spellings.{BeginNone, HasCode, NeedsMore, SpellNone}

encode-one : (c : ℕ) → c < 128 → IsScalar c × (encode c ≡ c ∷ [])
unfolding encode
encode-one c small = (grind (arith, nat_tests), grind (arith, nat_tests))

pub encode-two : (a b c : ℕ) → 192 ≤ a → a < 224 → 128 ≤ b → b < 192 → c + 128 ≡ (a - 192) * 64 + b → 128 ≤ c → encode c ≡ a ∷ b ∷ []
unfolding encode
encode-two a b c ha la hb lb is least =
    let x : 192 + c / 64 ≡ a = omega arith in let y : 128 + c % 64 ≡ b = omega arith in
    grind (arith, nat_tests, x, y)

pub encode-three : (a b d c : ℕ) → 224 ≤ a → a < 240 → 128 ≤ b → b < 192 → 128 ≤ d → d < 192 → c + 8320 ≡ (a - 224) * 4096 + b * 64 + d → 2048 ≤ c → encode c ≡ a ∷ b ∷ d ∷ []
unfolding encode
encode-three a b d c ha la hb lb hd ld is least =
    let x : 224 + c / 4096 ≡ a = omega arith in let y : 128 + (c / 64) % 64 ≡ b = omega arith in let z : 128 + c % 64 ≡ d = omega arith in
    grind (arith, nat_tests, x, y, z)

pub encode-four : (a b d e c : ℕ) → 240 ≤ a → 128 ≤ b → b < 192 → 128 ≤ d → d < 192 → 128 ≤ e → e < 192 → c + 532608 ≡ (a - 240) * 262144 + b * 4096 + d * 64 + e → 65536 ≤ c → encode c ≡ a ∷ b ∷ d ∷ e ∷ []
unfolding encode
encode-four a b d e c ha hb lb hd ld he le is least =
    let w : 240 + c / 262144 ≡ a = omega arith in let x : 128 + (c / 4096) % 64 ≡ b = omega arith in let y : 128 + (c / 64) % 64 ≡ d = omega arith in let z : 128 + c % 64 ≡ e = omega arith in
    grind (arith, nat_tests, w, x, y, z)

-- no character begins with a byte that stands inside one
pub inside_begins : (a : ℕ) → 128 ≤ a → a < 192 → BeginNone (a ∷ [])
unfolding encode
inside_begins a ha la rest c scalar is = grind (arith, nat_tests, ha, la, is)

-- a character of more than one byte, more than two or more than three goes on
pub lead_needs : (a : ℕ) → 192 ≤ a → NeedsMore (a ∷ [])
unfolding encode
lead_needs a ha rest c scalar is = grind (arith, nat_tests, ha, is)

pub two_need : (a b : ℕ) → 224 ≤ a → NeedsMore (a ∷ b ∷ [])
unfolding encode
two_need a b ha rest c scalar is = grind (arith, nat_tests, ha, is)

pub three_need : (a b d : ℕ) → 240 ≤ a → NeedsMore (a ∷ b ∷ d ∷ [])
unfolding encode
three_need a b d ha rest c scalar is = grind (arith, nat_tests, ha, is)

-- a character that begins with two bytes, three or four that belong together has the code of their bits
pub two_have : (a b code : ℕ) → 192 ≤ a → a < 224 → code + 128 ≡ (a - 192) * 64 + b → HasCode (a ∷ b ∷ []) code 128
unfolding encode
two_have a b code ha la sum rest c scalar is = grind (arith, nat_tests, ha, la, sum, is)

pub three_have : (a b d code : ℕ) → 224 ≤ a → a < 240 → code + 8320 ≡ (a - 224) * 4096 + b * 64 + d → HasCode (a ∷ b ∷ d ∷ []) code 2048
unfolding encode
three_have a b d code ha la sum rest c scalar is = grind (arith, nat_tests, ha, la, sum, is)

pub four_have : (a b d e code : ℕ) → 240 ≤ a → code + 532608 ≡ (a - 240) * 262144 + b * 4096 + d * 64 + e
    → HasCode (a ∷ b ∷ d ∷ e ∷ []) code 65536
unfolding encode
four_have a b d e code ha sum rest c scalar is = grind (arith, nat_tests, ha, sum, is)

-- where each character that begins so has this code, and it is none's, no character begins so
pub refused_begins : (bytes : List ℕ) (code least : ℕ) → HasCode bytes code least → (least ≤ code → ¬ IsScalar code) → BeginNone bytes
refused_begins bytes code least has refused rest c scalar is =
    let x = has rest c scalar is in
    refused (subst (λ n. least ≤ n) x.0 x.1) (subst IsScalar x.0 scalar)

-- where a byte that stands inside none comes, no character begins so
pub wrong_begins : (bytes : List ℕ) (b : ℕ) → NeedsMore bytes → ¬ ((128 ≤ b) × (b < 192)) → BeginNone (bytes ++ b ∷ [])
wrong_begins bytes b needs wrong rest c scalar is = wrong (needs (b ∷ rest) c scalar (is ∙ append_assoc bytes (b ∷ []) rest))

-- an error of text is an error
wrong_is_some : (failure : Option Error) → IsWrongText failure → IsSome failure
wrong_is_some None wrong = absurd wrong
wrong_is_some (Some e) wrong = refl

pub NeedsMore-none : (bytes : List ℕ) → NeedsMore bytes → SpellNone bytes
NeedsMore-none bytes needs c scalar is = needs [] c scalar (is ∙ sym (append-nil bytes))

pub BeginNone-none : (bytes : List ℕ) → BeginNone bytes → SpellNone bytes
BeginNone-none bytes none = subst SpellNone (append-nil bytes) (none [])

module _ {R : Type 0} (known : R → Option (List ℕ)) where
  -- what was read stays, where only the source failed
  same_left : (s t : Reading R) → t ≡ record s { failure = t.failure } → to_give known t ≡ to_give known s
  same_left s t is = ap (λ (x : Reading R). to_give known x) is

  same_count : (s t : Reading R) → t ≡ record s { failure = t.failure } → t.left ≡ s.left
  same_count s t is = ap (λ (x : Reading R). x.left) is

  -- nothing more was taken, and no character begins with the bytes before
  pub Fails-here : (before : List ℕ) (s t : Reading R) → t ≡ record s { failure = t.failure } → IsWrongText t.failure → BeginNone before
      → Fails known before s t
  Fails-here before s t is wrong begins =
      let same = sym (append-nil before) in
      record {
        bytes = [];
        took = subst (λ o. Consumes (to_give known s) o []) (sym (same_left s t is)) (Consumes-nil (to_give known s));
        fewer = omega (arith, same_count s t is);
        failed = wrong_is_some t.failure wrong;
        none = subst SpellNone same (BeginNone-none before begins);
        cause = inr (wrong, inr (subst BeginNone same begins));
      }

  -- a source that ended with no error came to its reader's end
  at_reader_end : (s : Reading R) → s.failure ≡ None → HasEnded s → s.end ≡ Some None
  at_reader_end s none (inl ended) = ended ∙ ap Some none
  at_reader_end s none (inr full) = absurd (subst (λ f. IsSomeAnd f (λ e. error_kind e ≡ FileTooLarge)) none full.1)

  -- why a source failed that had ended, where it failed then unless it had done so
  record HasFailed (before : List ℕ) (t : Reading R) : Type 0 where
    failed : IsSome t.failure
    cause : HasEnded t ⊎ (IsWrongText t.failure × ((t.end ≡ Some None) ⊎ BeginNone before))

  failed_so : (before : List ℕ) (j t : Reading R) (o : Option Error) → j.failure ≡ o → HasEnded j → t ≡ record j { failure = t.failure }
      → MatchOption o (IsWrongText t.failure) (λ e. t.failure ≡ Some e) → HasFailed before t
  failed_so before j t None was ended is wrong =
      record { failed = wrong_is_some t.failure wrong; cause = inr (wrong, inl (ap (λ (x : Reading R). x.end) is ∙ at_reader_end j was ended)) }
  failed_so before j t (Some e) was ended is kept =
      let same : t ≡ j = is ∙ ap (λ f. record j { failure = f }) (kept ∙ sym was) in
      record { failed = subst IsSome (sym kept) refl; cause = inl (subst HasEnded (sym same) ended) }

  kept_none : (old new : Option (List ℕ)) → Keeps old new → Consumes old new []
  kept_none None new kept = tt
  kept_none (Some xs) None kept = absurd kept
  kept_none (Some xs) (Some ys) kept = sym kept

  -- the source ended where a character needs more, and then it failed unless it had done so
  pub Fails-end : (before : List ℕ) (s j t : Reading R) → GivesByte known s None j → t ≡ record j { failure = t.failure }
      → MatchOption j.failure (IsWrongText t.failure) (λ e. t.failure ≡ Some e)
      → NeedsMore before → Fails known before s t
  Fails-end before s j t gave is fails needs =
      let why = failed_so (before ++ []) j t j.failure refl gave.2 is fails in
      record {
        bytes = [];
        took = subst (λ o. Consumes (to_give known s) o []) (sym (same_left j t is)) (kept_none (to_give known s) (to_give known j) gave.0);
        fewer = omega (arith, same_count j t is, gave.1);
        failed = why.failed;
        none = subst SpellNone (sym (append-nil before)) (NeedsMore-none before needs);
        cause = why.cause;
      }

  -- one more byte was taken before the source failed
  pub Fails-after : (before : List ℕ) (s j t : Reading R) (b : ℕ) → GivesByte known s (Some b) j → Fails known (before ++ b ∷ []) j t
      → Fails known before s t
  Fails-after before s j t b step fails =
      let same : (before ++ b ∷ []) ++ fails.bytes ≡ before ++ (b ∷ fails.bytes) = append_assoc before (b ∷ []) fails.bytes in
      let C : List ℕ → Type 0 = λ w. HasEnded t ⊎ (IsWrongText t.failure × ((t.end ≡ Some None) ⊎ BeginNone w)) in
      record {
        bytes = (b ∷ []) ++ fails.bytes;
        took = Consumes-trans _ _ _ (b ∷ []) fails.bytes step.0 fails.took;
        fewer = omega (arith, fails.fewer, step.1);
        failed = fails.failed;
        none = subst SpellNone same fails.none;
        cause = subst C same fails.cause;
      }

  -- a byte came that stands inside no character, where each that begins so has one
  pub Fails-wrong : (before : List ℕ) (s j t : Reading R) (b : ℕ) → GivesByte known s (Some b) j → t ≡ record j { failure = t.failure }
      → IsWrongText t.failure → ¬ ((128 ≤ b) × (b < 192))
      → NeedsMore before → Fails known before s t
  Fails-wrong before s j t b step is wrong outside needs =
      Fails-after before s j t b step (Fails-here (before ++ b ∷ []) j t is wrong (wrong_begins before b needs outside))

  -- where it did not, the code is that of the bytes that were taken
  pub spelled : (first code least : ℕ) (inner : List ℕ) (s j t : Reading R) (o : Option ℕ) → Yields (GivesByte known) s inner j → (least ≤ code → encode code ≡ first ∷ inner)
      → IfSome o (λ c. (c ≡ code) × (least ≤ c) × IsScalar c × (t ≡ j))
      → IfSome o (λ c. IsScalar c × (inner : List ℕ) × (encode c ≡ first ∷ inner) × Yields (GivesByte known) s inner t)
  spelled first code least inner s j t None run is checked = tt
  spelled first code least inner s j t (Some c) run is checked =
      (checked.2, inner, ap encode checked.0 ∙ is (omega (arith, checked.0, checked.1)), subst (λ (x : Reading R). Yields (GivesByte known) s inner x) (sym checked.3) run)

  -- a character of one byte came
  pub one_byte : (s t : Reading R) (b c : ℕ) → b < 128 → c ≡ b → GivesByte known s (Some b) t → GivesCharacter known s (Some c) t
  one_byte s t b c small same step =
      let one = encode-one b small in
      let P : ℕ → Type 0 = λ k. IsScalar k × Yields (GivesByte known) s (encode k) t in
      subst P (sym same) (one.0, subst (λ l. Yields (GivesByte known) s l t) (sym one.1) (t, step, refl))

  -- the bytes of a character came after the first, or the source failed
  pub more_bytes : (s j t : Reading R) (b : ℕ) (o : Option ℕ) → GivesByte known s (Some b) j
      → IfSome o (λ c. IsScalar c × (inner : List ℕ) × (encode c ≡ b ∷ inner) × Yields (GivesByte known) j inner t)
      → IfNone o (Fails known (b ∷ []) j t) → GivesCharacter known s o t
  more_bytes s j t b None step some none = inr (Fails-after [] s j t b step none)
  more_bytes s j t b (Some c) step some none = (some.0, subst (λ l. Yields (GivesByte known) s l t) (sym some.2) (j, step, some.3))

  -- a character has at least one byte, so fewer are left
  pub character_goes : (s t : Reading R) (o : Option ℕ) → GivesCharacter known s o t → MakesProgress (λ _. ⊤) (λ (x : Reading R). at_most x.left) s o t
  character_goes s t None gave = record { on = λ _. tt; keeps = tt; rests = λ _. tt }
  character_goes s t (Some c) gave = record { on = λ _. (tt, tt, omega (arith, character_takes known s c t gave, char_wide c)); keeps = tt; rests = λ _. tt }

-- what holds anyway holds where there is nothing
pub IfNone-of : {A P : Type 0} (o : Option A) → P → IfNone o P
IfNone-of None p = p
IfNone-of (Some x) p = tt

pub IfNone-weaker : {A P Q : Type 0} (o : Option A) → (P → Q) → IfNone o P → IfNone o Q
IfNone-weaker None more p = more p
IfNone-weaker (Some x) more p = tt
