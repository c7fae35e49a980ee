-- Tokens and labels that stand one operation's behind the other's in two lists: one operation more, and that at an index.
use Rattle.std.proofs.Common.{◌≡◌, ℕ, zero, suc, ◌+◌, ◌-◌, ◌<◌, ◌≤◌, List, [], ◌∷◌, ◌++◌, take, drop, length, get_or, Some, slice_get, refl, sym, ap, ◌∙◌, subst, arith}
use Rattle.std.proofs.Math.Seq.{drop-append_seam, take-length}
use Rattle.std.proofs.lemmas.List.{take-append-le, drop-append-le, length-drop}
use Rattle.std.proofs.lemmas.Option.{slice_get_read}
use Rattle.text_frames.specs.declared.waiting.WaitingRow.{WaitingRow}
use Rattle.text_frames.specs.Waiting.{Pending, tokens_end, labels_end, waiting_from, AreRowEnds, start_from}
use Rattle.ir_program.specs.declared.handles.Ptr.{Ptr}
use Rattle.ir_program.specs.declared.handles.Operation.{Operation}

module _ (end : WaitingRow → ℕ) where
  -- ends don't fall
  ends_rise : (low : ℕ) (rs : List WaitingRow) (high : ℕ) → AreRowEnds end low rs high → low ≤ high
  ends_rise low [] high h = omega (arith, h)
  ends_rise low (r ∷ rs) high h = let b = ends_rise (end r) rs high h.1 in let l = h.0 in omega (arith, b, l)

  -- a row more ends
  pub ends_more : (low : ℕ) (rs : List WaitingRow) (high : ℕ) (r : WaitingRow) → high ≤ end r → AreRowEnds end low rs high → AreRowEnds end low (rs ++ r ∷ []) (end r)
  ends_more low [] high r l h = (omega (arith, l, h), refl)
  ends_more low (q ∷ rs) high r l h = (h.0, ends_more (end q) rs high r l h.1)

  -- what ends with a row is inside the list
  pub row_inside : (low : ℕ) (rs : List WaitingRow) (high k : ℕ) (r : WaitingRow) → slice_get rs k ≡ Some r → AreRowEnds end low rs high → (start_from end low rs k ≤ end r) × (end r ≤ high)
  row_inside low [] high k r e h = absurd (cc e)
  row_inside low (q ∷ rs) high zero r e h = let same : q ≡ r = cc e in
      (subst (λ (x : WaitingRow). low ≤ end x) same h.0, subst (λ (x : WaitingRow). end x ≤ high) same (ends_rise (end q) rs high h.1))
  row_inside low (q ∷ rs) high (suc k) r e h = row_inside (end q) rs high k r e h.1

  pub start_is : (low : ℕ) (rs : List WaitingRow) (k : ℕ) (r : WaitingRow) → slice_get rs k ≡ Some r → start_from end low rs (suc k) ≡ end r
  start_is low [] k r e = absurd (cc e)
  start_is low (q ∷ rs) zero r e = ap end (let same : q ≡ r = cc e in same)
  start_is low (q ∷ rs) (suc k) r e = start_is (end q) rs k r e

pub as_many_wait : (low first : ℕ) (rs : List WaitingRow) (ks ls : List ℕ) → length (waiting_from low first rs ks ls) ≡ length rs
as_many_wait low first [] ks ls = refl
as_many_wait low first (r ∷ rs) ks ls = let m = as_many_wait r.tokens_end r.labels_end rs ks ls in omega (arith, m)

-- what stands before the end of a list stays when the list grows
part_stays : (low e : ℕ) (ks more : List ℕ) → low ≤ e → e ≤ length ks → take (e - low) (drop low (ks ++ more)) ≡ take (e - low) (drop low ks)
part_stays low e ks more l h =
    let d = length-drop low ks in
    ap (take (e - low)) (drop-append-le low ks more (omega (arith, l, h))) ∙ take-append-le (e - low) (drop low ks) more (omega (arith, d, l, h))

last_part : (low n : ℕ) (ks more : List ℕ) → low ≡ length ks → n ≡ length ks + length more → take (n - low) (drop low (ks ++ more)) ≡ more
last_part low n ks more l h =
    let m : n - low ≡ length more = omega (arith, l, h) in
    ap (λ k. take (n - low) (drop k (ks ++ more))) l ∙ ap (take (n - low)) (drop-append_seam ks more) ∙ ap (λ k. take k more) m ∙ take-length more

-- an operation with these tokens and labels
abbrev waits_with : Ptr Operation → List ℕ → List ℕ → Pending
waits_with op ks ls = record { op = op; tokens = ks; labels = ls }

-- one more operation waits
pub one_more_waits : (low first : ℕ) (rs : List WaitingRow) (ks more ls others : List ℕ) (r : WaitingRow) → r.tokens_end ≡ length ks + length more → r.labels_end ≡ length ls + length others
    → AreRowEnds tokens_end low rs (length ks) → AreRowEnds labels_end first rs (length ls)
    → waiting_from low first (rs ++ r ∷ []) (ks ++ more) (ls ++ others) ≡ waiting_from low first rs ks ls ++ waits_with r.op more others ∷ []
one_more_waits low first [] ks more ls others r e f h j =
    ap (λ (xs : List ℕ). waits_with r.op xs (take (r.labels_end - first) (drop first (ls ++ others))) ∷ []) (last_part low r.tokens_end ks more h e)
    ∙ ap (λ (xs : List ℕ). waits_with r.op more xs ∷ []) (last_part first r.labels_end ls others j f)
one_more_waits low first (q ∷ rs) ks more ls others r e f h j =
    let l = ends_rise tokens_end q.tokens_end rs (length ks) h.1 in
    let m = ends_rise labels_end q.labels_end rs (length ls) j.1 in
    let xs : List ℕ = take (q.tokens_end - low) (drop low ks) in
    let ys : List ℕ = take (q.labels_end - first) (drop first ls) in
    ap (λ (z : List ℕ). waits_with q.op z (take (q.labels_end - first) (drop first (ls ++ others))) ∷ waiting_from q.tokens_end q.labels_end (rs ++ r ∷ []) (ks ++ more) (ls ++ others)) (part_stays low q.tokens_end ks more h.0 l)
    ∙ ap (λ (z : List ℕ). waits_with q.op xs z ∷ waiting_from q.tokens_end q.labels_end (rs ++ r ∷ []) (ks ++ more) (ls ++ others)) (part_stays first q.labels_end ls others j.0 m)
    ∙ ap (λ (zs : List Pending). waits_with q.op xs ys ∷ zs) (one_more_waits q.tokens_end q.labels_end rs ks more ls others r e f h.1 j.1)

-- what ends with a row, of a list
abbrev part_of : (WaitingRow → ℕ) → ℕ → List WaitingRow → ℕ → WaitingRow → List ℕ → List ℕ
part_of end low rs k r ks = take (end r - start_from end low rs k) (drop (start_from end low rs k) ks)

-- the operation of a row, with its tokens and labels
pub row_waits : (low first : ℕ) (rs : List WaitingRow) (ks ls : List ℕ) (k : ℕ) (r : WaitingRow) → slice_get rs k ≡ Some r
    → slice_get (waiting_from low first rs ks ls) k ≡ Some (waits_with r.op (part_of tokens_end low rs k r ks) (part_of labels_end first rs k r ls))
row_waits low first [] ks ls k r e = absurd (cc e)
row_waits low first (q ∷ rs) ks ls zero r e = let same : q ≡ r = cc e in
    ap (λ (x : WaitingRow). Some (waits_with x.op (take (x.tokens_end - low) (drop low ks)) (take (x.labels_end - first) (drop first ls)))) same
row_waits low first (q ∷ rs) ks ls (suc k) r e = row_waits q.tokens_end q.labels_end rs ks ls k r e

same_waiting : (x y : Pending) → Some x ≡ Some y → x ≡ y
same_waiting x y e = cc e

pub row_below : (ps : List Pending) (rs : List WaitingRow) (ks ls : List ℕ) (k : ℕ) → waiting_from 0 0 rs ks ls ≡ ps → k < length ps → k < length rs
row_below ps rs ks ls k v h = let m = as_many_wait 0 0 rs ks ls in let l = ap (λ (xs : List Pending). length xs) v in omega (arith, m, l, h)

pub row_read : (ps : List Pending) (rs : List WaitingRow) (ks ls : List ℕ) (k : ℕ) (r : WaitingRow) → waiting_from 0 0 rs ks ls ≡ ps → k < length ps → r ≡ get_or rs k r → slice_get rs k ≡ Some r
row_read ps rs ks ls k r v h e = slice_get_read rs (length rs) k r refl (row_below ps rs ks ls k v h) e

-- the part of a list between two places is that of a row
module _ (end : WaitingRow → ℕ) (rs qs : List WaitingRow) (ks : List ℕ) (k : ℕ) (r : WaitingRow) (at : slice_get rs k ≡ Some r) (start : ℕ) (same : qs ≡ rs) (starts : start ≡ start_from end 0 qs k) where
  start_here : start ≡ start_from end 0 rs k
  start_here = starts ∙ ap (λ (xs : List WaitingRow). start_from end 0 xs k) same

  pub part_inside : AreRowEnds end 0 rs (length ks) → (start ≤ end r) × (end r ≤ length ks)
  part_inside ends = let i = row_inside end 0 rs (length ks) k r at ends in (let l = i.0 in let s = start_here in omega (arith, l, s), i.1)

  part_found : (ms : List ℕ) → ms ≡ ks → take (end r - start) (drop start ms) ≡ part_of end 0 rs k r ks
  part_found ms same_list =
      ap (λ (xs : List ℕ). take (end r - start) (drop start xs)) same_list
      ∙ ap (λ (j : ℕ). take (end r - j) (drop j ks)) start_here

module _ (ps : List Pending) (rs : List WaitingRow) (ks ls : List ℕ) (k : ℕ) (r : WaitingRow) (view : waiting_from 0 0 rs ks ls ≡ ps) (at : slice_get rs k ≡ Some r) where
  pub waits_here : (x : Pending) → slice_get ps k ≡ Some x → waits_with r.op (part_of tokens_end 0 rs k r ks) (part_of labels_end 0 rs k r ls) ≡ x
  waits_here x e = same_waiting _ x (sym (row_waits 0 0 rs ks ls k r at) ∙ ap (λ (xs : List Pending). slice_get xs k) view ∙ e)

  pub op_found : (x : Pending) → slice_get ps k ≡ Some x → r.op ≡ x.op
  op_found x e = ap (λ (y : Pending). y.op) (waits_here x e)

  module _ (qs : List WaitingRow) (start : ℕ) (same : qs ≡ rs) where
    pub tokens_found : start ≡ start_from tokens_end 0 qs k → (ms : List ℕ) → ms ≡ ks → (x : Pending) → slice_get ps k ≡ Some x → take (r.tokens_end - start) (drop start ms) ≡ x.tokens
    tokens_found starts ms same_list x e = part_found tokens_end rs qs ks k r at start same starts ms same_list ∙ ap (λ (y : Pending). y.tokens) (waits_here x e)

    pub labels_found : start ≡ start_from labels_end 0 qs k → (ms : List ℕ) → ms ≡ ls → (x : Pending) → slice_get ps k ≡ Some x → take (r.labels_end - start) (drop start ms) ≡ x.labels
    labels_found starts ms same_list x e = part_found labels_end rs qs ls k r at start same starts ms same_list ∙ ap (λ (y : Pending). y.labels) (waits_here x e)
