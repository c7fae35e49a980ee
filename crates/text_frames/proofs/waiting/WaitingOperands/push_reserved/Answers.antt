use Rattle.std.proofs.Common.{rules, ◌≡◌, ◌++◌, ◌∷◌, [], ℕ, List, length, sym, ap, ◌∙◌, subst, arith}
use Rattle.std.proofs.lemmas.List.{length-append}
use Rattle.text_frames.specs.Waiting.{Waiting, tokens_end, labels_end, waiting_from, AreRowEnds}
use Rattle.text_frames.specs.declared.waiting.WaitingRow.{WaitingRow}
use Rattle.text_frames.proofs.WaitingRows.{ends_more, one_more_waits}
use Rattle.text_frames.proofs.waiting.WaitingOperands.push_reserved.Goals as goal

pub invariant_of-self : goal.invariant_of-self
invariant_of-self c =
    let rs = c.self.inside.rows.items in let ks = c.self.inside.tokens.items in let ls = c.self.inside.labels.items in
    let r : WaitingRow = record { op = c.args.op; tokens_end = c.len-tokens_end.result; labels_end = c.len-labels_end.result } in
    let q : c.extend_from_slice.new.self.items ≡ ks ++ c.args.tokens.now = search rules in
    let q2 : c.extend_from_slice-2.new.self.items ≡ ls ++ c.args.labels.now = search rules in
    let p : c.push_reserved.new.self.items ≡ rs ++ r ∷ [] = c.push_reserved.ensures.items in
    let n : c.len-tokens_end.result ≡ length c.extend_from_slice.new.self.items = search rules in
    let n2 : c.len-labels_end.result ≡ length c.extend_from_slice-2.new.self.items = search rules in
    let l = ap (λ (xs : List ℕ). length xs) q ∙ length-append ks c.args.tokens.now in
    let l2 = ap (λ (xs : List ℕ). length xs) q2 ∙ length-append ls c.args.labels.now in (
      subst (λ (xs : List WaitingRow). AreRowEnds tokens_end 0 xs (length c.extend_from_slice.new.self.items)) (sym p)
          (subst (λ (k : ℕ). AreRowEnds tokens_end 0 (rs ++ r ∷ []) k) n (ends_more tokens_end 0 rs (length ks) r (omega (arith, n, l)) c.self.invariant.0)),
      subst (λ (xs : List WaitingRow). AreRowEnds labels_end 0 xs (length c.extend_from_slice-2.new.self.items)) (sym p)
          (subst (λ (k : ℕ). AreRowEnds labels_end 0 (rs ++ r ∷ []) k) n2 (ends_more labels_end 0 rs (length ls) r (omega (arith, n2, l2)) c.self.invariant.1)),
    )

pub returns : goal.returns
returns c =
    let rs = c.self.inside.rows.items in let ks = c.self.inside.tokens.items in let ls = c.self.inside.labels.items in
    let r : WaitingRow = record { op = c.args.op; tokens_end = c.len-tokens_end.result; labels_end = c.len-labels_end.result } in
    let q : c.extend_from_slice.new.self.items ≡ ks ++ c.args.tokens.now = search rules in
    let q2 : c.extend_from_slice-2.new.self.items ≡ ls ++ c.args.labels.now = search rules in
    let p : c.push_reserved.new.self.items ≡ rs ++ r ∷ [] = c.push_reserved.ensures.items in
    let n : c.len-tokens_end.result ≡ length c.extend_from_slice.new.self.items = search rules in
    let n2 : c.len-labels_end.result ≡ length c.extend_from_slice-2.new.self.items = search rules in
    let l = ap (λ (xs : List ℕ). length xs) q ∙ length-append ks c.args.tokens.now in
    let l2 = ap (λ (xs : List ℕ). length xs) q2 ∙ length-append ls c.args.labels.now in
    ap (λ (xs : List WaitingRow). waiting_from 0 0 xs c.extend_from_slice.new.self.items c.extend_from_slice-2.new.self.items) p
    ∙ ap (λ (xs : List ℕ). waiting_from 0 0 (rs ++ r ∷ []) xs c.extend_from_slice-2.new.self.items) q
    ∙ ap (λ (xs : List ℕ). waiting_from 0 0 (rs ++ r ∷ []) (ks ++ c.args.tokens.now) xs) q2
    ∙ one_more_waits 0 0 rs ks c.args.tokens.now ls c.args.labels.now r (n ∙ l) (n2 ∙ l2) c.self.invariant.0 c.self.invariant.1
    ∙ ap (λ (w : Waiting). w.items ++ record { op = c.args.op; tokens = c.args.tokens.now; labels = c.args.labels.now } ∷ []) c.self.view_is
