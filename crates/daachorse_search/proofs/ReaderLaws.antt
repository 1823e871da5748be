-- How a search over a reader begins, and what its last call gives.
use Rattle.std.proofs.Common.{◌≡◌, ℕ, ◌+◌, ◌<◌, inl, inr, Bool, true, false, List, [], ◌∷◌, ◌++◌, length, refl, Option, Some, None, Result, Err, IfSome, sym, ap, ◌∙◌, subst, append_assoc, append-nil, length-append, arith}
use Rattle.std.proofs.KnownBytes.{Keeps-trans, prepend_known-nil}
use Rattle.std.proofs.lemmas.List.Elements.{All-head, All-tail}
use Rattle.std.proofs.lemmas.Str.{len_utf8_bounds, length-encode}
use Rattle.std.specs.Char.{IsScalar, encode_utf8}
use Rattle.std.specs.Io.KnownBytes.{Consumes, IsAtEnd, Keeps, prepend_known}
use Rattle.std.specs.Iterator.{Count, Yields}
use Rattle.std.specs.Option.{option_map}
use Rattle.std.specs.Prelude.{All, encode_utf8_all}
use Rattle.std.specs.declared.io.Error.{Error}
use Rattle.daachorse_model.specs.declared.Match.{Match}
use Rattle.daachorse_haystack.specs.Readings.{MayReadAsRead}
use Rattle.daachorse_search.specs.Readers.{GivesByte, GivesCharacter, GivesRead, IsLasting, Reading, behind, to_give}
use Rattle.daachorse_search.specs.Searches.{GivesFrom, SourceProgress}

-- a source of which nothing was read may be read
pub may_read_first : {S : Type 0} (may_read : S → List ℕ → Type 0) (folds : Bool) (source : S) → may_read source [] → MayReadAsRead may_read folds source []
may_read_first may_read true source may = ([], may, refl)
may_read_first may_read false source may = may

module _ {V A S U : Type 0} (found : A → List ℕ → List (Match V)) (steps : S → Option U → S → Type 0) (left : S → Count) (unit : U → ℕ)
    (width : ℕ → ℕ) (failure : S → Option Error)
    (bounds : A → List ℕ → ℕ → Type 0) where
  last_gives : (s t : SourceProgress V A S) (o : Option Error) → GivesFrom found steps left unit width s None t
      → bounds t.automaton t.read t.turns → o ≡ failure t.source → IfSome o IsLasting
      → GivesRead found steps left unit width failure bounds (Some s) (option_map Err o) None
  last_gives s t None last few is lasting = (t, last, few, ap (option_map Err) is, subst (λ o. IfSome o IsLasting) is lasting)
  last_gives s t (Some e) last few is lasting = (t, last, few, ap (option_map Err) is, subst (λ o. IfSome o IsLasting) is lasting)

  -- the search that stands in `before` ended, and the call gave what its source ended with
  pub GivesRead-last : {before after : Option (SourceProgress V A S)} {s t ended : SourceProgress V A S} {r : Option (Result (Match V) Error)} {o : Option Error}
      → before ≡ Some s → GivesFrom found steps left unit width s None t → ended ≡ t → bounds ended.automaton ended.read ended.turns
      → after ≡ None → o ≡ failure ended.source
      → IfSome o IsLasting → r ≡ option_map Err o → GivesRead found steps left unit width failure bounds before r after
  GivesRead-last {before = before} {after = after} {s = s} {t = t} {ended = ended} {r = r} {o = o} was last same few gone is lasting gave =
      let Last = GivesRead found steps left unit width failure bounds in
      let B : SourceProgress V A S → Type 0 = λ x. bounds x.automaton x.read x.turns in
      let gives : Last (Some s) (option_map Err o) None = last_gives s t o last (subst B same few)
      (is ∙ ap (λ (x : SourceProgress V A S). failure x.source) same) lasting in
      subst (λ x. Last x r after) (sym was) (subst (λ x. Last (Some s) x after) (sym gave) (subst (λ x. Last (Some s) (option_map Err o) x) (sym gone) gives))

-- a character has a byte
spelled : (c : ℕ) → 0 < length (encode_utf8 c)
spelled c = omega (arith, length-encode c, (len_utf8_bounds c).0)

module _ {R : Type 0} (known : R → Option (List ℕ)) where
  -- where more bytes are put ahead of what is left, they come first
  behind_more : (bytes ahead : List ℕ) (left : Option (List ℕ)) → behind (bytes ++ ahead) left ≡ prepend_known bytes (behind ahead left)
  behind_more [] ahead left = sym (prepend_known-nil (behind ahead left))
  behind_more (b ∷ bytes) [] None = refl
  behind_more (b ∷ bytes) [] (Some ys) = ap (λ l. Some (l ++ ys)) (append-nil (b ∷ bytes))
  behind_more (b ∷ bytes) (a ∷ ahead) None = refl
  behind_more (b ∷ bytes) (a ∷ ahead) (Some ys) = ap Some (append_assoc (b ∷ bytes) (a ∷ ahead) ys)

  first_taken : (old new : Option (List ℕ)) (bytes rest : List ℕ) → Consumes old new (bytes ++ rest) → Consumes old (prepend_known rest new) bytes
  first_taken None new bytes rest took = tt
  first_taken (Some xs) None bytes rest took = absurd took
  first_taken (Some xs) (Some ys) bytes rest took = took ∙ append_assoc bytes rest ys

  given_back : (new : Option (List ℕ)) (bytes : List ℕ) → Consumes (prepend_known bytes new) new bytes
  given_back None bytes = tt
  given_back (Some ys) bytes = refl

  -- a source behind the first bytes of those that were taken in a block
  record IsBetween (s : Reading R) (bytes rest : List ℕ) (t : Reading R) : Type 0 where
    mid : Reading R
    took : Consumes (to_give known s) (to_give known mid) bytes
    fewer : mid.left + length bytes ≡ s.left
    goes : Consumes (to_give known mid) (to_give known t) rest
    left : t.left + length rest ≡ mid.left

  between : (s : Reading R) (bytes rest : List ℕ) (t : Reading R) → Consumes (to_give known s) (to_give known t) (bytes ++ rest) → t.left + length (bytes ++ rest) ≡ s.left → IsBetween s bytes rest t
  between s bytes rest t took fewer =
      let mid : Reading R = record t { ahead = rest ++ t.ahead; left = t.left + length rest } in
      let same : to_give known mid ≡ prepend_known rest (to_give known t) = behind_more rest t.ahead (known t.reader) in
      record {
        mid = mid;
        took = subst (λ o. Consumes (to_give known s) o bytes) (sym same) (first_taken (to_give known s) (to_give known t) bytes rest took);
        fewer = omega (arith, fewer, length-append bytes rest);
        goes = subst (λ o. Consumes o (to_give known t) rest) (sym same) (given_back (to_give known t) rest);
        left = refl;
      }

  -- bytes that were taken in a block are given one by one
  pub block_given : (bytes : List ℕ) (s t : Reading R) → 0 < length bytes → Consumes (to_give known s) (to_give known t) bytes → t.left + length bytes ≡ s.left → Yields (GivesByte known) s bytes t
  block_given [] s t some took fewer = absurd (omega (arith, some))
  block_given (b ∷ []) s t some took fewer = (t, (took, fewer), refl)
  block_given (b ∷ (c ∷ bytes)) s t some took fewer =
      let at = between s (b ∷ []) (c ∷ bytes) t took fewer in
      (at.mid, (at.took, at.fewer), block_given (c ∷ bytes) at.mid t (omega arith) at.goes at.left)

  -- and so are the characters that they spell
  pub text_given : (units : List ℕ) (s t : Reading R) → 0 < length units → All IsScalar units → Consumes (to_give known s) (to_give known t) (encode_utf8_all units) → t.left + length (encode_utf8_all units) ≡ s.left → Yields (GivesCharacter known) s units t
  text_given [] s t some are took fewer = absurd (omega (arith, some))
  text_given (c ∷ []) s t some are took fewer =
      let P : List ℕ → Type 0 = λ l. Consumes (to_give known s) (to_give known t) l in
      let one = append-nil (encode_utf8 c) in
      (t, (All-head IsScalar c [] are, block_given (encode_utf8 c) s t (spelled c) (subst P one took) (omega (arith, fewer, ap length one))), refl)
  text_given (c ∷ (d ∷ units)) s t some are took fewer =
      let rest : List ℕ = d ∷ units in
      let at = between s (encode_utf8 c) (encode_utf8_all rest) t took fewer in (
        at.mid,
        (All-head IsScalar c rest are, block_given (encode_utf8 c) s at.mid (spelled c) at.took at.fewer),
        text_given (d ∷ units) at.mid t (omega arith) (All-tail IsScalar c rest are) at.goes at.left,
      )

  kept_taken : (old mid new : Option (List ℕ)) (bytes : List ℕ) → Keeps old mid → Consumes mid new bytes → Consumes old new bytes
  kept_taken None mid new bytes kept took = tt
  kept_taken (Some xs) None new bytes kept took = absurd kept
  kept_taken (Some xs) (Some ys) None bytes kept took = absurd took
  kept_taken (Some xs) (Some ys) (Some zs) bytes kept took = sym kept ∙ took

  kept_ended : (old mid : Option (List ℕ)) → Keeps old mid → IsAtEnd mid → IsAtEnd old
  kept_ended None mid kept ended = tt
  kept_ended (Some xs) None kept ended = absurd kept
  kept_ended (Some xs) (Some ys) kept ended = sym kept ∙ ended

  -- where the reader's bytes were kept, what is given next is what was to be given before
  pub gives_kept : (s mid t : Reading R) (b : Option ℕ) → Keeps (to_give known s) (to_give known mid) → mid.left ≡ s.left → GivesByte known mid b t → GivesByte known s b t
  gives_kept s mid t None kept same gave =
      (Keeps-trans (to_give known s) (to_give known mid) (to_give known t) kept gave.0, gave.1 ∙ same, gave.2, λ whole. kept_ended (to_give known s) (to_give known mid) kept (gave.3 whole))
  gives_kept s mid t (Some b) kept same gave = (kept_taken (to_give known s) (to_give known mid) (to_give known t) (b ∷ []) kept gave.0, gave.1 ∙ same)

  bytes_kept : (s mid t : Reading R) (bytes : List ℕ) → 0 < length bytes → Keeps (to_give known s) (to_give known mid) → mid.left ≡ s.left → Yields (GivesByte known) mid bytes t → Yields (GivesByte known) s bytes t
  bytes_kept s mid t [] some kept same run = absurd (omega (arith, some))
  bytes_kept s mid t (b ∷ bytes) some kept same (next, gave, run) = (next, gives_kept s mid next (Some b) kept same gave, run)

  pub character_kept : (s mid t : Reading R) (c : Option ℕ) → Keeps (to_give known s) (to_give known mid) → mid.left ≡ s.left → GivesCharacter known mid c t → GivesCharacter known s c t
  character_kept s mid t None kept same (inl gave) = inl (gives_kept s mid t None kept same gave)
  character_kept s mid t None kept same (inr fails) = inr (record {
    bytes = fails.bytes;
    took = kept_taken (to_give known s) (to_give known mid) (to_give known t) fails.bytes kept fails.took;
    fewer = fails.fewer ∙ same;
    failed = fails.failed;
    none = fails.none;
    cause = fails.cause;
  })
  character_kept s mid t (Some c) kept same (scalar, run) = (scalar, bytes_kept s mid t (encode_utf8 c) (spelled c) kept same run)
