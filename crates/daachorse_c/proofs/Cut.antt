-- A text that grows stands in front as far as there is room.
use Rattle.std.proofs.Common.{◌≡◌, ℕ, ◌+◌, ◌-◌, ◌<◌, ◌≤◌, ◌^◌, List, [], ◌++◌, drop, length, take, refl, sym, ap, ◌∙◌, subst, append_assoc, append-nil, length-append, arith}
use Rattle.std.specs.Prelude.{min}
use Rattle.std.proofs.Math.Seq.{take-append-add}
use Rattle.std.proofs.lemmas.List.{drop-drop, drop_all, drop_at, drop_min, length-drop, length-take, take-append-le, take_all, take_at, take_min, take_rest}
use borrow.Rule.Slice.PartMut.{mid_of, put_mid}
use Rattle.daachorse_c.specs.Replacing.{IsCut}

-- there is as much room as there was
same_room : {text old new : List ℕ} {size : ℕ} → IsCut text old new size → length new ≡ length old
same_room {text} {old} {new} c =
    let long = ap length c.front ∙ length-append (take (length old) text) (drop (length text) old) in
    omega (arith, long, length-take (length old) text, length-drop (length text) old)

-- so long are both
counted : (text bytes : List ℕ) (size : ℕ) → size ≡ min (length text) (2 ^ 64 - 1) → min (size + length bytes) (2 ^ 64 - 1) ≡ min (length (text ++ bytes)) (2 ^ 64 - 1)
counted text bytes size long = omega (arith, long, length-append text bytes)

-- where there is no room, the front stays
pub cut-full : (text bytes old new : List ℕ) (size : ℕ) → length new ≤ size → IsCut text old new size → IsCut (text ++ bytes) old new (min (size + length bytes) (2 ^ 64 - 1))
cut-full text bytes old new size full c =
    let room = same_room c in
    let long : length old ≤ length text = omega (arith, room, full, c.long) in
    record {
      front =
          c.front
          ∙ ap (λ l. l ++ drop (length text) old) (sym (take-append-le (length old) text bytes long))
          ∙ ap (λ l. take (length old) (text ++ bytes) ++ l) (drop_all (length text) old long ∙ sym (drop_all (length (text ++ bytes)) old (omega (arith, long, length-append text bytes))));
      long = counted text bytes size c.long;
    }

-- where there is room, the front grows
pub cut-more : (text bytes old new last : List ℕ) (size n : ℕ) → size < length new → length new < 2 ^ 64 → IsCut text old new size → n ≡ min (length bytes) (length new - size)
    → last ≡ take n bytes ++ drop (length (take n bytes)) (mid_of size (length new - size) new) → IsCut (text ++ bytes) old (put_mid size (length new - size) new last) (min (size + length bytes) (2 ^ 64 - 1))
cut-more text bytes old new last size n lt fits c count wrote =
    let room = same_room c in
    let is : size ≡ length text = omega (arith, lt, fits, c.long) in
    let behind = drop (length text) old in
    let before : new ≡ text ++ behind = c.front ∙ ap (λ l. l ++ behind) (take_all (length old) text (omega (arith, is, lt, room))) in
    let front : take size new ≡ text = ap (take size) before ∙ take_at text behind size (sym is) in
    let mid : mid_of size (length new - size) new ≡ behind = take_rest new size ∙ ap (drop size) before ∙ drop_at text behind size (sym is) in
    let post : drop (length new - size) (drop size new) ≡ [] = drop_all (length new - size) (drop size new) (omega (arith, length-drop size new)) in
    let left : length behind ≡ length new - size = omega (arith, length-drop (length text) old, is, room) in
    let some : n ≡ min (length new - size) (length bytes) = omega (arith, count) in
    let part : take n bytes ≡ take (length new - size) bytes = ap (λ k. take k bytes) some ∙ take_min (length new - size) bytes in
    let copied : length (take n bytes) ≡ n = omega (arith, length-take n bytes, count) in
    let rest : drop (length (take n bytes)) behind ≡ drop (length (text ++ bytes)) old =
    ap (λ k. drop k behind) (copied ∙ count ∙ ap (min (length bytes)) (sym left)) ∙ drop_min (length bytes) behind ∙ drop-drop (length bytes) (length text) old
    ∙ ap (λ k. drop k old) (sym (length-append text bytes)) in
    let far : length old ≡ length text + (length new - size) = omega (arith, is, lt, room) in
    let whole : take (length old) (text ++ bytes) ≡ text ++ take n bytes = ap (λ k. take k (text ++ bytes)) far ∙ take-append-add text bytes (length new - size) ∙ ap (λ l. text ++ l) (sym part) in
    record {
      front =
          ap (λ l. l ++ (last ++ drop (length new - size) (drop size new))) front
          ∙ ap (λ l. text ++ (last ++ l)) post
          ∙ ap (λ l. text ++ l) (append-nil last ∙ wrote ∙ ap (λ l. take n bytes ++ drop (length (take n bytes)) l) mid ∙ ap (λ l. take n bytes ++ l) rest)
          ∙ sym (append_assoc text (take n bytes) (drop (length (text ++ bytes)) old))
          ∙ ap (λ l. l ++ drop (length (text ++ bytes)) old) (sym whole);
      long = counted text bytes size c.long;
    }

-- of the whole text a beginning was put in front, and the rest is left
pub record IsBegun (whole rest old new : List ℕ) (size : ℕ) : Type 0 where
  pub text : List ℕ
  pub splits : whole ≡ text ++ rest
  pub cut : IsCut text old new size

pub partial_nothing : (whole old : List ℕ) → IsBegun whole whole old old 0
partial_nothing whole old = record {
  text = [];
  splits = refl;
  cut = record {
    front = ap (λ l. l ++ old) (sym (take_all (length old) [] (omega arith)));
    long = omega arith;
  };
}

-- a piece more
pub partial_more : {whole old new next : List ℕ} {size more : ℕ} (piece rest : List ℕ) → IsBegun whole (piece ++ rest) old new size
    → ((text first : List ℕ) → IsCut text first new size → IsCut (text ++ piece) first next more) → IsBegun whole rest old next more
partial_more piece rest b puts = record {
  text = b.text ++ piece;
  splits = b.splits ∙ sym (append_assoc b.text piece rest);
  cut = puts b.text _ b.cut;
}

-- the last piece
pub all_partial : {whole old new next : List ℕ} {size more : ℕ} (piece : List ℕ) → IsBegun whole piece old new size
    → ((text first : List ℕ) → IsCut text first new size → IsCut (text ++ piece) first next more) → IsCut whole old next more
all_partial {whole} {old} {new} {next} {size} {more} piece b puts = subst (λ l. IsCut l old next more) (sym b.splits) (puts b.text old b.cut)
