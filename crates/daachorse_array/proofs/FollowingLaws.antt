-- The way up from above a rank ends at the first rank with a child by the label, or at the top.
use Rattle.std.proofs.Common.{◌≡◌, ◌≢◌, ℕ, ◌+◌, ◌<◌, ◌≤◌, ◌⊎◌, Bool, cond, List, length, Some, None, refl, sym, ap, ◌∙◌, inl, inr, arith}
use Rattle.std.proofs.Common.{get_or}
use Rattle.std.proofs.lemmas.Bool.{cases_lt}
use Rattle.daachorse_array.specs.Following.{IsFollowing}
use Rattle.daachorse_array.specs.Ranks.{AreStarts, IsTrieOfRanks, LinksFall, child, stop}
use Rattle.daachorse_array.specs.Near.{near, or_top, pick, right, root_value, top, up}
use Rattle.daachorse_array.proofs.ChildByLabel.{back, edge}
use Rattle.daachorse_array.proofs.NearLaws.{near_child, near_other, near_top, ups_fall}
use Rattle.daachorse_array.proofs.StartLaws.{not_after, not_before}
use Rattle.daachorse_array.proofs.TopLaws.{or_top_some, top_end, top_next}

module _ (fails : List ℕ) (falls : LinksFall fails) where
  fall_to : (b q : ℕ) → 0 < q → q ≤ b → q < length fails → (get_or fails q 0 < q) ⊎ (get_or fails q 0 ≡ length fails)
  fall_to b q pos _ lt = falls q pos lt

  ups : (b q : ℕ) → q ≤ b → q < length fails → (up fails q < q) ⊎ (up fails q ≡ length fails)
  ups b q le lt = ups_fall fails b (fall_to b) q le lt

module _ {parents labels : List ℕ} {alphabet : ℕ} (trie : IsTrieOfRanks parents labels alphabet) where
  -- a rank is the child of its parent by its label
  pub is_picked : (m p c : ℕ) → 0 < m → m < length parents → get_or parents m 0 ≡ p → get_or labels m 0 ≡ c
      → m ≡ pick (child parents labels p c) 0
  is_picked m p c pos lt e g =
      sym (ap (λ o. pick o 0) (sym (ap (λ x. child parents labels x (get_or labels m 0)) e ∙ ap (λ x. child parents labels p x) g)
      ∙ edge parents labels alphabet trie m pos lt))

  -- no child is found where none has the label
  pub none_picked : (starts : List ℕ) (p c : ℕ) → AreStarts parents starts → p < length parents
      → ((m : ℕ) → get_or starts p 0 ≤ m → m < get_or starts (p + 1) 0 → get_or labels m 0 ≢ c) → 0 ≡ pick (child parents labels p c) 0
  none_picked starts p c are within none = (elim (child parents labels p c) as (λ o. child parents labels p c ≡ o → 0 ≡ pick o 0) [
    | None ↦ λ e. refl
    | Some m ↦ λ e.
        let r = back parents labels alphabet trie p c m e in
        let low : get_or starts p 0 ≤ m =
        elim (cases_lt m (get_or starts p 0)) [ inl h ↦ absurd (not_before parents starts are p within m r.0 h r.2) | inr h ↦ h ] in
        let high : m < get_or starts (p + 1) 0 = elim (cases_lt m (get_or starts (p + 1) 0)) [
          | inl h ↦ h
          | inr h ↦
              absurd (not_after parents starts are p within m h r.1 r.2)
        ] in
        absurd (none m low high r.3)
  ]) refl

  -- what was found is the child, and none where nothing was
  pub picked_some : (p c x : ℕ) → x ≡ pick (child parents labels p c) 0 → 0 < x → child parents labels p c ≡ Some x
  picked_some p c x e pos = grind arith

  pub picked_none : (p c x : ℕ) → x ≡ pick (child parents labels p c) 0 → x ≡ 0 → child parents labels p c ≡ None
  picked_none p c x e z = grind (arith, back parents labels alphabet trie p c)

  module _ {stops : List Bool} {fails : List ℕ} (each : length fails ≡ length parents) (falls : LinksFall fails) where
    -- the way begins at the link of p
    pub following_start : (p c : ℕ) → p < length fails → IsFollowing parents labels stops fails p c p (up fails p)
    following_start p c lt = record { low = lt; above = refl; same_near = refl; same_top = refl }

    module _ {p c below here : ℕ} (is : IsFollowing parents labels stops fails p c below here) where
      -- it is at a rank, or at the top
      pub following_low : here ≤ length fails
      following_low = elim (ups fails falls below below (omega arith) is.low) [
        | inl h ↦ omega (arith, h, is.above, is.low)
        | inr h ↦
            omega (arith, h, is.above)
      ]

      -- it goes on from a rank without a child by the label
      pub following_next : here < length fails → child parents labels here c ≡ None
          → IsFollowing parents labels stops fails p c here (up fails here)
      following_next lt none =
          let fall : up fails below < below = elim (ups fails falls below below (omega arith) is.low) [
            | inl h ↦ h
            | inr h ↦
                absurd (omega (arith, h, is.above, lt))
          ] in
          record {
            low = lt;
            above = refl;
            same_near = is.same_near ∙ near_other parents labels fails alphabet trie each here (fall_to fails falls here) here c
                (omega arith) lt none;
            same_top = is.same_top ∙ top_next (up fails) stops (length fails) below (ups fails falls below) below is.low (omega arith) fall
                ∙ ap (λ x. top stops fails x) (sym is.above);
          }

      -- at a rank with one, that is the link
      pub following_found : (m j t : ℕ) → here < length fails → child parents labels here c ≡ Some j
          → cond (stop stops m) (length fails) (or_top j t) ≡ right parents labels stops fails p m c
      following_found m j t lt some =
          let pos = (back parents labels alphabet trie here c j some).0 in
          let e : near parents labels fails (up fails p) c ≡ j = is.same_near
          ∙ near_child parents labels fails alphabet trie each here (fall_to fails falls here) here c j (omega arith) lt some in
          let same : or_top j t ≡ or_top (near parents labels fails (up fails p) c) (top stops fails p) =
          or_top_some j t pos ∙ sym (or_top_some j (top stops fails p) pos) ∙ ap (λ x. or_top x (top stops fails p)) (sym e) in
          ap (λ x. cond (stop stops m) (length fails) x) same

      -- at the top it is what a link is where nothing is near
      pub following_end : (m : ℕ) → here ≡ length fails → cond (stop stops m) (length fails)
          (or_top 0 (root_value stops (length fails) below)) ≡ right parents labels stops fails p m c
      following_end m e =
          let z : near parents labels fails (up fails p) c ≡ 0 = is.same_near ∙ near_top parents labels fails alphabet trie each here c e in
          let t : top stops fails p ≡ root_value stops (length fails) below = is.same_top
          ∙ top_end (up fails) stops (length fails) (length fails) below (sym is.above ∙ e) in
          ap (λ x. cond (stop stops m) (length fails) x) (ap (λ x. or_top 0 x) (sym t) ∙ ap (λ x. or_top x (top stops fails p)) (sym z))
