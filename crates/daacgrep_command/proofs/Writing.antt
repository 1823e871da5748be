-- What an output took of texts that were written one after the other.
use Rattle.std.proofs.Common.{◌≡◌, ℕ, ◌+◌, ◌==◌, Bool, true, false, cond, List, ◌++◌, ◌∷◌, Result, Ok, Err, [], refl, ap}
use Rattle.std.proofs.Common.{sym, subst, ◌∙◌, append_assoc, append-nil}
use Rattle.std.specs.Io.KnownBytes.{Appends, Keeps}
use Rattle.std.proofs.KnownBytes.{Appends-kept, Appends-nil, Appends-trans}
use Rattle.daachorse.specs.Replaced.{AppendsBeginning}
use Rattle.daachorse.proofs.Sending.{AppendsBeginning-behind, AppendsBeginning-more}
use Rattle.daacgrep_command.specs.declared.printing.Labels.{Labels}
use Rattle.daacgrep_command.specs.Fields.{entry, name_field, number_field}
use Rattle.daacgrep_command.specs.Sending.{IsWritten, Sent}

-- what was sent so far, on from a start, with no failure
pub record HasSent (a b : Sent) (sent : List ℕ) : Type 0 where
  pub written : Appends a.taken b.taken sent
  pub unfailed : b.failures ≡ a.failures

pub sent_none : (a : Sent) → HasSent a a []
sent_none a = record { written = Appends-nil a.taken; unfailed = refl }

-- a text was written whole
pub sent_whole : {T E : Type 0} (a b : Sent) (t : List ℕ) (x : T) → IsWritten {E = E} a b (Ok x) t → HasSent a b t
sent_whole a b t x w = record { written = w.whole; unfailed = w.unfailed }

pub sent_then : (a b c : Sent) (t u : List ℕ) → HasSent a b t → HasSent b c u → HasSent a c (t ++ u)
sent_then a b c t u v w = record {
  written = Appends-trans a.taken b.taken c.taken t u v.written w.written;
  unfailed = w.unfailed ∙ v.unfailed;
}

module _ {U E : Type 0} where
  -- more after a text that was written whole
  pub written_then : (a b c : Sent) (t u : List ℕ) (r : Result U E) → HasSent a b t → IsWritten b c r u → IsWritten a c r (t ++ u)
  written_then a b c t u (Ok x) p w = record {
    whole = Appends-trans a.taken b.taken c.taken t u p.written w.whole;
    unfailed = w.unfailed ∙ p.unfailed;
    beginning = tt;
    failed = tt;
  }
  written_then a b c t u (Err x) p w = record {
    whole = tt;
    unfailed = tt;
    beginning = AppendsBeginning-behind a.taken b.taken c.taken t u p.written w.beginning;
    failed = w.failed ∙ ap (λ n. n + 1) p.unfailed;
  }

  -- the same, in one word
  pub then_more : {T : Type 0} (a b c : Sent) (t u : List ℕ) (x : T) (r : Result U E) → IsWritten {E = E} a b (Ok x) t
      → IsWritten b c r u → IsWritten a c r (t ++ u)
  then_more {T} a b c t u x r v w = written_then a b c t u r (sent_whole {T = T} {E = E} a b t x v) w

  -- a failure within the first of two texts
  pub then_none : {T : Type 0} (a b : Sent) (t u : List ℕ) (x : E) → IsWritten {T = T} a b (Err x) t
      → IsWritten {T = U} a b (Err x) (t ++ u)
  then_none a b t u x v =
      let p = v.beginning in
      record {
        whole = tt;
        unfailed = tt;
        beginning = (p.0, p.1 ++ u, ap (λ l. l ++ u) p.2 ∙ append_assoc p.0 p.1 u, p.3);
        failed = v.failed;
      }

  -- a failure within a text
  pub fails_so : {T : Type 0} (a b : Sent) (t u : List ℕ) (x : E) → IsWritten {T = T} a b (Err x) t → t ≡ u
      → IsWritten {T = U} a b (Err x) u
  fails_so a b t u x v e = record {
    whole = tt;
    unfailed = tt;
    beginning = subst (AppendsBeginning a.taken b.taken) e v.beginning;
    failed = v.failed;
  }

  -- a failure within the piece after what was sent, and after all was sent
  pub fails_after : {T : Type 0} (a b c : Sent) (all sent piece more : List ℕ) (x : E) → all ≡ sent ++ (piece ++ more)
      → HasSent a b sent → IsWritten {T = T} b c (Err x) piece → IsWritten {T = U} a c (Err x) all
  fails_after a b c all sent piece more x e p v = record {
    whole = tt;
    unfailed = tt;
    beginning = AppendsBeginning-more a.taken b.taken c.taken all sent piece more e p.written v.beginning;
    failed = v.failed ∙ ap (λ n. n + 1) p.unfailed;
  }

  pub written_all : (a b : Sent) (all sent : List ℕ) (x : U) → all ≡ sent → HasSent a b sent → IsWritten {E = E} a b (Ok x) all
  written_all a b all sent x e p = record {
    whole = subst (Appends a.taken b.taken) (sym e) p.written;
    unfailed = p.unfailed;
    beginning = tt;
    failed = tt;
  }

module _ {T U E F : Type 0} (a b c : Sent) (t : List ℕ) where
  -- a flush takes nothing, and may fail
  pub flushed : (x : T) (y : U) → IsWritten {T = T} {E = E} a b (Ok x) t → Keeps b.taken c.taken → c.failures ≡ b.failures
      → IsWritten {T = U} {E = F} a c (Ok y) t
  flushed x y w kept same = record {
    whole = Appends-kept a.taken b.taken c.taken t w.whole kept;
    unfailed = same ∙ w.unfailed;
    beginning = tt;
    failed = tt;
  }

  pub unflushed : (x : T) (y : F) → IsWritten {T = T} {E = E} a b (Ok x) t → Keeps b.taken c.taken → c.failures ≡ b.failures + 1
      → IsWritten {T = U} {E = F} a c (Err y) t
  unflushed x y w kept more = record {
    whole = tt;
    unfailed = tt;
    beginning = (t, [], sym (append-nil t), Appends-kept a.taken b.taken c.taken t w.whole kept);
    failed = more ∙ ap (λ n. n + 1) w.unfailed;
  }

value_wanted : (b : Bool) (v : List ℕ) → name_field b (cond b v []) ≡ name_field b v
value_wanted true v = refl
value_wanted false v = refl

entry_value : (labels : Labels) (name : List ℕ) (number place : ℕ) (v w text : List ℕ) → w ≡ cond labels.values v []
    → entry labels name number place w text ≡ entry labels name number place v text
entry_value labels name number place v w text e =
    let front : List ℕ → List ℕ = λ x.
    name_field labels.names name ++ (number_field labels.numbers number ++ (number_field labels.places place
    ++ (x ++ (text ++ labels.end ∷ [])))) in
    ap front (ap (name_field labels.values) e ∙ value_wanted labels.values v)

-- a value that is not wanted may be any
pub written_value : {T E : Type 0} (a b : Sent) (r : Result T E) (labels : Labels) (name : List ℕ) (number place : ℕ)
    (v w text : List ℕ) → w ≡ cond labels.values v [] → IsWritten a b r (entry labels name number place w text)
    → IsWritten a b r (entry labels name number place v text)
written_value a b r labels name number place v w text e h = subst (IsWritten a b r) (entry_value labels name number place v w text e) h

-- what is written where two numbers differ
pub part_written : {T E : Type 0} (a b : Sent) (r : Result T E) (m n : ℕ) (t : List ℕ) → (m == n) ≡ false → IsWritten a b r t
    → IsWritten a b r (cond (m == n) [] t)
part_written a b r m n t e h = subst (λ x. IsWritten a b r (cond x [] t)) (sym e) h
