use Rattle.std.proofs.Common.{rules, ◌≡◌, ◌++◌, ◌∷◌, [], ℕ, List, length, sym, ap, ◌∙◌, subst, arith}
use Rattle.std.proofs.lemmas.List.{length-append}
use Rattle.opt_rows.specs.Rows.{rows_from, AreEnds}
use Rattle.opt_rows.proofs.Rows.{ends_more, row_more}
use Rattle.opt_rows.proofs.number_rows.NumberRows.push_row.Goals as goal

pub invariant_of-self-2 : goal.invariant_of-self-2
invariant_of-self-2 c =
    let es = c.self.inside.ends.items in let ns = c.self.inside.numbers.items in
    let q : c.extend_from_slice.new.self.items ≡ ns ++ c.args.row.now = c.in_ok-extend_from_slice.ensures.items in
    let p : c.push_reserved.new.self.items ≡ es ++ c.len.result ∷ [] = search rules in
    let n : c.len.result ≡ length c.extend_from_slice.new.self.items = search rules in
    let l = ap (λ (xs : List ℕ). length xs) q ∙ length-append ns c.args.row.now in
    subst (λ (xs : List ℕ). AreEnds 0 xs (length c.extend_from_slice.new.self.items)) (sym p)
    (subst (λ (k : ℕ). AreEnds 0 (es ++ c.len.result ∷ []) k) n (ends_more 0 es (length ns) c.len.result (omega (arith, n, l)) c.self.invariant))

pub returns-clause-ok : goal.returns-clause-ok
returns-clause-ok c =
    let es = c.self.inside.ends.items in let ns = c.self.inside.numbers.items in
    let q : c.extend_from_slice.new.self.items ≡ ns ++ c.args.row.now = c.in_ok-extend_from_slice.ensures.items in
    let p : c.push_reserved.new.self.items ≡ es ++ c.len.result ∷ [] = search rules in
    let n : c.len.result ≡ length c.extend_from_slice.new.self.items = search rules in
    let l = ap (λ (xs : List ℕ). length xs) q ∙ length-append ns c.args.row.now in
    ap (λ (xs : List ℕ). rows_from 0 xs c.extend_from_slice.new.self.items) p
    ∙ ap (λ (xs : List ℕ). rows_from 0 (es ++ c.len.result ∷ []) xs) q
    ∙ row_more 0 es ns c.args.row.now c.len.result (n ∙ l) c.self.invariant
    ∙ ap (λ (rs : List (List ℕ)). rs ++ c.args.row.now ∷ []) c.self.view_is
