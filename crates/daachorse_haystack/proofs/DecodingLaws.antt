-- Along a character: the bytes that were taken begin it, and what is still to come completes it.
use Rattle.std.proofs.Common.{◌≡◌, ℕ, suc, ◌+◌, ◌*◌, ◌-◌, ◌%◌, ◌<◌, ◌≤◌, ◌^◌, ◌⊎◌, inl, inr, Option, Some, None, List, [], ◌∷◌, ◌++◌, length, refl, sym, ap, ◌∙◌, subst, append_assoc, length-append, arith}
use Rattle.std.proofs.Math.Utf8.{scalar, scalars, encode, encodes}
use Rattle.std.proofs.lemmas.Bool.{cases_lt}
use Rattle.std.proofs.lemmas.Bool.Decides.{nat_tests}
use Rattle.std.proofs.lemmas.Str.{chars-encodes, len_utf8_bounds, length-encode, IsUtf8-past_char}
use Rattle.std.specs.Char.{IsScalar}
use Rattle.std.specs.Iterator.{Count, IsFinite, MakesProgress, Yields}
use Rattle.std.specs.Str.{chars, chars_after, continuation_len, lead_bits}
use Rattle.daachorse_model.proofs.Booleans.{both-true}
use Rattle.daachorse_model.proofs.SameOnText.{IsInner}
use Rattle.daachorse_haystack.specs.ByteSources.{Yields_append}
use Rattle.daachorse_haystack.proofs.SourceLaws.{Yields_push}
use Rattle.daachorse_model.specs.Units.{char_width}
use Rattle.daachorse_haystack.specs.DecodedSources.{IsTextFrom-next}
use Rattle.daachorse_haystack.specs.Midway.{IsSmall, IsMidway, TakesInner}
use Rattle.daachorse_haystack.specs.TextSources.{Placed, IsText, IsTextFrom, TakesCharacter}
use Rattle.daachorse_haystack.proofs.FirstCharacters.{FirstCharacter, first_character, inner_at, same_front}

pub IsSmall-start : (first : ℕ) → first < 2 ^ 8 → IsSmall (lead_bits first) (continuation_len first)
IsSmall-start first h = record {
  few = grind (arith, nat_tests);
  last = grind (arith, nat_tests);
  one = λ k. grind (arith, nat_tests);
  two = λ k. grind (arith, nat_tests);
  three = λ k. grind (arith, nat_tests);
}

ascii_lead : (first : ℕ) → first < 128 → (first ≡ lead_bits first) × (0 ≡ continuation_len first)
ascii_lead first h = (grind (arith, nat_tests), grind (arith, nat_tests))

pub IsSmall-more : (code n b : ℕ) → IsSmall code (suc n) → IsSmall (code * 64 + b % 64) n
IsSmall-more code n b h = record { few = omega arith; last = omega arith; one = λ k. omega arith; two = λ k. omega arith; three = λ k. omega arith }

-- what the first byte of a character past ASCII tells: its bits, and how many bytes follow
leads_two : (first : ℕ) → 192 ≤ first → first < 224 → (first - 192 ≡ lead_bits first) × (1 ≡ continuation_len first)
leads_two first low high = (grind (arith, nat_tests), grind (arith, nat_tests))

leads_three : (first : ℕ) → 224 ≤ first → first < 240 → (first - 224 ≡ lead_bits first) × (2 ≡ continuation_len first)
leads_three first low high = (grind (arith, nat_tests), grind (arith, nat_tests))

follows : (first : ℕ) → 192 ≤ first → first < 2 ^ 8 → 1 ≤ continuation_len first
follows first low high = grind (arith, nat_tests)

follows_two : (first : ℕ) → 224 ≤ first → first < 2 ^ 8 → 2 ≤ continuation_len first
follows_two first low high = grind (arith, nat_tests)

leads_four : (first : ℕ) → 240 ≤ first → first < 2 ^ 8 → (first - 240 ≡ lead_bits first) × (3 ≡ continuation_len first)
leads_four first low high = (grind (arith, nat_tests), grind (arith, nat_tests))

module _ {S : Type 0} (can : S → Type 0) (steps : S → Option ℕ → S → Type 0) (left : S → Count) where
  abbrev midway : S → ℕ → ℕ → ℕ → S → Type 0
  midway = IsMidway can steps left

  -- what the bytes that were taken begin
  begun : (source : S) → IsText can steps left source → (first code more : ℕ) (now : S) → (h : midway source first code more now) → (later : List ℕ) × FirstCharacter first (h.inner ++ later)
  begun source text first code more now h = let b = text.begins (first ∷ h.inner) now h.took in (b.0, first_character first (h.inner ++ b.0) b.1)

  started : (source : S) (first : ℕ) (now : S) → IsText can steps left source → first < 2 ^ 8 → steps source (Some first) now → MakesProgress can left source (Some first) now
      → midway source first (lead_bits first) (continuation_len first) now
  unfolding chars
  started source first now text byte step goes =
      let on = goes.on text.ends in record {
        inner = [];
        took = (now, step, refl);
        callable = on.0;
        ends = on.1;
        fewer = omega (arith, on.2);
        count = omega arith;
        code_is = λ later. refl;
        small = IsSmall-start first byte;
      }

  IsMidway-start : (source inside : S) (first code more : ℕ) (now : S) → inside ≡ source → IsText can steps left source → first < 2 ^ 8 → steps inside (Some first) now → MakesProgress can left inside (Some first) now
      → code ≡ lead_bits first → more ≡ continuation_len first → midway source first code more now
  IsMidway-start source inside first code more now seen text byte step goes bits follow =
      let Steps : S → Type 0 = λ s. steps s (Some first) now in
      let Goes : S → Type 0 = λ s. MakesProgress can left s (Some first) now in
      let M : ℕ → ℕ → Type 0 = λ c m. midway source first c m now in
      subst (λ (c : ℕ). M c more) (sym bits) (subst (λ (m : ℕ). M (lead_bits first) m) (sym follow) (started source first now text byte (subst Steps seen step) (subst Goes seen goes)))

  taken : (source : S) (first code n b : ℕ) (now next : S) → IsText can steps left source → midway source first code (suc n) now → steps now (Some b) next → MakesProgress can left now (Some b) next
      → midway source first (code * 64 + b % 64) n next
  taken source first code n b now next text h step goes =
      let on = goes.on h.ends in
      let took : Yields steps source (first ∷ (h.inner ++ b ∷ [])) next = Yields_push steps source (first ∷ h.inner) now b next h.took step in
      let more = text.begins (first ∷ (h.inner ++ b ∷ [])) next took in
      let f = first_character first ((h.inner ++ b ∷ []) ++ more.0) more.1 in
      let byte : IsInner b = inner_at f.inner (encodes f.others) h.inner b more.0 f.follow (f.parts ∙ append_assoc h.inner (b ∷ []) more.0) (omega (arith, h.count, f.count)) in
      let digit : b - 128 ≡ b % 64 = omega (arith, byte) in
      record {
        inner = h.inner ++ b ∷ [];
        took = took;
        callable = on.0;
        ends = on.1;
        fewer = omega (arith, on.2, h.fewer, length-append h.inner (b ∷ []));
        count = omega (arith, h.count, length-append h.inner (b ∷ []));
        code_is = λ later. ap (λ d. chars_after n (code * 64 + d) later) (sym digit) ∙ h.code_is (b ∷ later) ∙ ap (λ w. chars (first ∷ w)) (sym (append_assoc h.inner (b ∷ []) later));
        small = IsSmall-more code n b h.small;
      }

  -- a character's first byte is none of those inside
  lead_byte : (source inside : S) (first : ℕ) (now : S) → inside ≡ source → IsText can steps left source → steps inside (Some first) now → 128 ≤ first → 192 ≤ first
  lead_byte source inside first now seen text step h =
      let Steps : S → Type 0 = λ s. steps s (Some first) now in
      let b = text.begins (first ∷ []) now (now, subst Steps seen step, refl) in
      by (first_character first b.0 b.1).leads (cases_lt first 192)
    where
      by : (¬ IsInner first) → (first < 192) ⊎ (192 ≤ first) → 192 ≤ first
      by leads (inl low) = absurd (leads (h, low))
      by leads (inr high) = high

  pub IsMidway-more : (source : S) (first bits code n b digit : ℕ) (now inside next : S) → inside ≡ now → IsText can steps left source → midway source first (bits + code) (suc n) now → steps inside (Some b) next → MakesProgress can left inside (Some b) next
      → digit ≡ b → midway source first (bits * 64 + (code * 64 + digit % 64)) n next
  IsMidway-more source first bits code n b digit now inside next seen text h step goes is =
      let M : ℕ → Type 0 = λ x. midway source first x n next in
      let Steps : S → Type 0 = λ s. steps s (Some b) next in
      let Goes : S → Type 0 = λ s. MakesProgress can left s (Some b) next in
      let same : (bits + code) * 64 + b % 64 ≡ bits * 64 + (code * 64 + digit % 64) = omega (arith, is) in
      subst M same (taken source first (bits + code) n b now next text h (subst Steps seen step) (subst Goes seen goes))

  -- the source does not end inside a character
  pub IsMidway-goes_on : (source : S) (first code n : ℕ) (now inside last : S) → inside ≡ now → IsText can steps left source → midway source first code (suc n) now → steps inside None last → ⊥
  IsMidway-goes_on source first code n now inside last seen text h step =
      let Steps : S → Type 0 = λ s. steps s None last in
      let f = first_character first h.inner (text.whole (first ∷ h.inner) (last, (now, h.took, subst Steps seen step))) in
      omega (arith, h.count, f.count, ap length f.parts, length-append f.inner (encodes f.others))

  -- a first byte past ASCII, behind which at least one follows
  pub record Begun (source : S) (first lead : ℕ) (now : S) : Type 0 where
    pub low : 192 ≤ lead
    pub more : ℕ
    pub count : suc more ≡ continuation_len first
    pub on : midway source first (lead_bits first + 0) (suc more) now

  pub begins : (source inside : S) (first lead : ℕ) (now : S) → inside ≡ source → IsText can steps left source → first < 2 ^ 8 → 128 ≤ first → lead ≡ first → steps inside (Some first) now → MakesProgress can left inside (Some first) now → Begun source first lead now
  begins source inside first lead now seen text byte past is step goes =
      let low = lead_byte source inside first now seen text step past in
      let some = follows first low byte in
      let count : suc (continuation_len first - 1) ≡ continuation_len first = omega (arith, some) in
      record {
        low = omega (arith, low, is);
        more = continuation_len first - 1;
        count = count;
        on = IsMidway-start source inside first (lead_bits first + 0) (suc (continuation_len first - 1)) now seen text byte step goes (omega arith) count;
      }

  front_is : (code : ℕ) (later : List ℕ) (c : ℕ) (cs : List ℕ) → chars_after 0 code later ≡ c ∷ cs → c ≡ code
  front_is code [] c cs e = cc
  front_is code (b ∷ later) c cs e = cc

  ended : (source : S) (first code : ℕ) (now : S) → IsText can steps left source → midway source first code 0 now → TakesCharacter can steps left source code now × (continuation_len first + 1 ≡ char_width code)
  ended source first code now text h =
      let b = begun source text first code 0 now h in
      let f = b.1 in
      let inner : f.inner ≡ h.inner = same_front f.inner h.inner (encodes f.others) b.0 f.parts (omega (arith, h.count, f.count)) in
      let whole : encodes (f.character ∷ f.others) ≡ first ∷ (h.inner ++ b.0) = ap (λ w. w ++ encodes f.others) f.is ∙ ap (λ w. first ∷ w) f.parts in
      let same : f.character ≡ code = front_is code b.0 f.character f.others (h.code_is b.0 ∙ ap chars (sym whole) ∙ chars-encodes (f.character ∷ f.others) f.scalar_values) in
      let is : encode code ≡ first ∷ h.inner = ap encode (sym same) ∙ f.is ∙ ap (λ w. first ∷ w) inner in
      let taken : TakesCharacter can steps left source code now = record {
        scalar = subst IsScalar same (both-true (scalar f.character) (scalars f.others) f.scalar_values).0;
        took = let P : List ℕ → Type 0 = λ w. Yields steps source w now in subst P (sym is) h.took;
        fewer = omega (arith, h.fewer, length-encode code, ap length is);
      } in
      (taken, omega (arith, h.count, length-encode code, ap length is))

  -- a source that may be decoded still may be after a character
  text_after : (source : S) (c : ℕ) (rest : S) → IsText can steps left source → TakesCharacter can steps left source c rest → can rest → IsFinite (left rest) → IsText can steps left rest
  text_after source c rest text took callable ends = record {
    callable = callable;
    ends = ends;
    begins = λ bytes last run.
        let all = text.begins (encode c ++ bytes) last (Yields_append steps source (encode c) rest bytes last took.took run) in
        (all.0, IsUtf8-past_char ((encode c ++ bytes) ++ all.0) (bytes ++ all.0) c all.1 (append_assoc (encode c) bytes all.0));
    whole = λ bytes drains.
        IsUtf8-past_char (encode c ++ bytes) bytes c
        (text.whole (encode c ++ bytes) (drains.0, (drains.1.0, Yields_append steps source (encode c) rest bytes drains.1.0 took.took drains.1.1, drains.1.2))) refl;
  }

  goes_after : (source : S) (first code more c : ℕ) (now : S) → IsText can steps left source → midway source first code more now → TakesCharacter can steps left source c now → MakesProgress (IsText can steps left) left source (Some c) now
  goes_after source first code more c now text h took =
      let later = text_after source c now text took h.callable h.ends in
      record { on = λ _. (later, h.ends, omega (arith, took.fewer, len_utf8_bounds c)); keeps = later; rests = λ _. tt }

  -- behind its last byte a character was taken
  IsMidway-end : (source : S) (first code c bytes : ℕ) (now : S) → IsText can steps left source → midway source first code 0 now → c ≡ code → bytes ≡ continuation_len first + 1
      → TakesCharacter can steps left source c now × MakesProgress (IsText can steps left) left source (Some c) now × (bytes ≡ char_width c)
  IsMidway-end source first code c bytes now text h is count =
      let done = ended source first code now text h in
      let T : ℕ → Type 0 = λ x. TakesCharacter can steps left source x now in
      let took : T c = subst T (sym is) done.0 in
      (took, goes_after source first code 0 c now text h took, count ∙ done.1 ∙ ap char_width (sym is))

  -- a character came, which takes so many bytes
  abbrev pub Came : S → ℕ → ℕ → S → Type 0
  Came source c bytes now = TakesCharacter can steps left source c now × MakesProgress (IsText can steps left) left source (Some c) now × (bytes ≡ char_width c)

  -- one of two bytes, whose first is `first`
  pub two_bytes : (source : S) (first lead : ℕ) (now : S) (two : ℕ) (second : S) (c : ℕ) → IsText can steps left source → first < 224 → lead ≡ first → Begun source first lead now → TakesInner can steps left 0 now two second
      → c ≡ (lead - 192) * 64 + two → Came source c 2 second
  two_bytes source first lead now two second c text high is begun next same =
      let told = leads_two first (omega (arith, begun.low, is)) high in
      let M : ℕ → Type 0 = λ n. midway source first (lead_bits first * 64 + two) n second in
      IsMidway-end source first (lead_bits first * 64 + two) c 2 second text (subst M (omega (arith, begun.count, told.1)) (next source first (lead_bits first) begun.more text begun.on)) (omega (arith, same, told.0, is)) (omega (arith, told.1))

  -- behind the second byte of three or four one more follows
  pub third_comes : (source : S) (first lead : ℕ) (now : S) (two : ℕ) (second : S) → IsText can steps left source → first < 2 ^ 8 → 224 ≤ first → Begun source first lead now → TakesInner can steps left 0 now two second
      → (n : ℕ) × (suc (suc n) ≡ continuation_len first) × midway source first (lead_bits first * 64 + two) (suc n) second
  third_comes source first lead now two second text byte low begun next =
      let more = follows_two first low byte in
      let M : ℕ → Type 0 = λ n. midway source first (lead_bits first * 64 + two) n second in
      let one : begun.more ≡ suc (begun.more - 1) = omega (arith, more, begun.count) in
      (begun.more - 1, omega (arith, more, begun.count), subst M one (next source first (lead_bits first) begun.more text begun.on))

  pub three_bytes : (source : S) (first lead : ℕ) (now : S) (two : ℕ) (second : S) (three : ℕ) (third : S) (c : ℕ) → IsText can steps left source → first < 2 ^ 8 → 224 ≤ first → first < 240 → lead ≡ first → Begun source first lead now → TakesInner can steps left 0 now two second
      → TakesInner can steps left two second three third → c ≡ (lead - 224) * 4096 + three → Came source c 3 third
  three_bytes source first lead now two second three third c text byte low high is begun next then same =
      let told = leads_three first low high in let comes = third_comes source first lead now two second text byte low begun next in
      let M : ℕ → Type 0 = λ n. midway source first (lead_bits first * 64 * 64 + three) n third in
      IsMidway-end source first (lead_bits first * 64 * 64 + three) c 3 third text (subst M (omega (arith, comes.1, told.1)) (then source first (lead_bits first * 64) comes.0 text comes.2)) (omega (arith, same, told.0, is)) (omega (arith, told.1))

  -- behind the third byte of four one more follows
  pub fourth_comes : (source : S) (first lead : ℕ) (now : S) (two : ℕ) (second : S) (three : ℕ) (third : S) → IsText can steps left source → first < 2 ^ 8 → 240 ≤ first → Begun source first lead now → TakesInner can steps left 0 now two second
      → TakesInner can steps left two second three third → midway source first (lead_bits first * 64 * 64 + three) 1 third
  fourth_comes source first lead now two second three third text byte low begun next then =
      let told = leads_four first low byte in let comes = third_comes source first lead now two second text byte (omega (arith, low)) begun next in
      let M : ℕ → Type 0 = λ n. midway source first (lead_bits first * 64 * 64 + three) n third in
      subst M (omega (arith, comes.1, told.1)) (then source first (lead_bits first * 64) comes.0 text comes.2)

  pub four_bytes : (source : S) (first lead : ℕ) (now : S) (two : ℕ) (second : S) (three : ℕ) (third : S) (four : ℕ) (fourth : S) (c : ℕ) → IsText can steps left source → first < 2 ^ 8 → 240 ≤ first → lead ≡ first → Begun source first lead now → TakesInner can steps left 0 now two second
      → TakesInner can steps left two second three third → TakesInner can steps left three third four fourth → c ≡ (lead - 240) * 262144 + four → Came source c 4 fourth
  four_bytes source first lead now two second three third four fourth c text byte low is begun next then last same =
      let told = leads_four first low byte in
      let comes = fourth_comes source first lead now two second three third text byte low begun next then in
      IsMidway-end source first (lead_bits first * 64 * 64 * 64 + four) c 4 fourth text (last source first (lead_bits first * 64 * 64) 0 text comes) (omega (arith, same, told.0, is)) (omega (arith, told.1))

  -- a byte below 128 is a character
  pub ascii_character : (source inside : S) (first c : ℕ) (now : S) → inside ≡ source → IsText can steps left source → first < 128 → c ≡ first → steps inside (Some first) now → MakesProgress can left inside (Some first) now
      → TakesCharacter can steps left source c now × MakesProgress (IsText can steps left) left source (Some c) now
  ascii_character source inside first c now seen text low is step goes =
      let lead = ascii_lead first low in
      let h = IsMidway-start source inside first first 0 now seen text (omega arith) step goes lead.0 lead.1 in
      let took = (ended source first first now text h).0 in
      let P : ℕ → Type 0 = λ x. TakesCharacter can steps left source x now × MakesProgress (IsText can steps left) left source (Some x) now in
      subst P (sym is) (took, goes_after source first first 0 first now text h took)

  -- and so does one that tells places
  pub goes_placed : (source : S) (place c : ℕ) (rest : S) (given later : ℕ) → IsTextFrom can steps left source place → TakesCharacter can steps left source c rest → MakesProgress (IsText can steps left) left source (Some c) rest
      → later ≡ place + char_width c → MakesProgress {A = ℕ × ℕ} (λ (s : Placed S). IsTextFrom can steps left s.source s.place) (λ s. left s.source) (record { source = source; place = place }) (Some (given, c)) (record { source = rest; place = later })
  goes_placed source place c rest given later text took goes is =
      let on = goes.on text.text.ends in
      let next = IsTextFrom-next can steps left source c rest place text took later is on.0 in
      record { on = λ _. (next, on.1, on.2); keeps = next; rests = λ _. tt }
