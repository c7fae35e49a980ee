use Rattle.std.proofs.Common.{rules, ◌≡◌, ◌∙◌, ap, ◌++◌, ◌∷◌, [], length, refl}
use Rattle.std.specs.Prelude.{is_some, unwrap_or}
use Rattle.opt_rows.specs.Rows.{rows_from}
use Rattle.opt_rows.specs.DeadCandidates.{candidates_of, arounds_of}
use Rattle.opt_rows.proofs.DeadCandidates.{columns_stay, view_stays, columns_more, view_more}
use Rattle.opt_rows.proofs.dead_candidates.Candidates.push.Goals as goal

pub invariant_of-self : goal.invariant_of-self
invariant_of-self c =
    let i = c.self.inside in
    columns_stay i.may_go.items i.is_inside.items i.around.items i.ends.items i.operands.items c.self.invariant _ _ _ _ _ c.reserve_one.ensures.marks refl refl c.reserve_one.ensures.numbers refl

pub returns-in_err-reserve_one-clause-err : goal.returns-in_err-reserve_one-clause-err
returns-in_err-reserve_one-clause-err c =
    let i = c.self.inside in
    let e : candidates_of c.reserve_one.new.marks.items (arounds_of i.is_inside.items i.around.items) (rows_from 0 c.reserve_one.new.numbers.items i.operands.items) ≡ c.args.self.now = view_stays i.may_go.items i.is_inside.items i.around.items i.ends.items i.operands.items c.self.invariant _ _ _ _ _ c.reserve_one.ensures.marks refl refl c.reserve_one.ensures.numbers refl c.args.self.now c.self.view_is in search rules

pub invariant_of-self-in_err-reserve_one-2 : goal.invariant_of-self-in_err-reserve_one-2
invariant_of-self-in_err-reserve_one-2 c =
    let i = c.self.inside in
    columns_stay i.may_go.items i.is_inside.items i.around.items i.ends.items i.operands.items c.self.invariant _ _ _ _ _ c.reserve_one.ensures.marks c.reserve_one-2.ensures.marks c.reserve_one-2.ensures.numbers c.reserve_one.ensures.numbers refl

pub returns-in_err-reserve_one-2-clause-err : goal.returns-in_err-reserve_one-2-clause-err
returns-in_err-reserve_one-2-clause-err c =
    let i = c.self.inside in
    let e : candidates_of c.reserve_one.new.marks.items (arounds_of c.reserve_one-2.new.marks.items c.reserve_one-2.new.numbers.items) (rows_from 0 c.reserve_one.new.numbers.items i.operands.items) ≡ c.args.self.now = view_stays i.may_go.items i.is_inside.items i.around.items i.ends.items i.operands.items c.self.invariant _ _ _ _ _ c.reserve_one.ensures.marks c.reserve_one-2.ensures.marks c.reserve_one-2.ensures.numbers c.reserve_one.ensures.numbers refl c.args.self.now c.self.view_is in search rules

pub invariant_of-self-in_err-extend_from_slice : goal.invariant_of-self-in_err-extend_from_slice
invariant_of-self-in_err-extend_from_slice c =
    let i = c.self.inside in
    columns_stay i.may_go.items i.is_inside.items i.around.items i.ends.items i.operands.items c.self.invariant _ _ _ _ _ c.reserve_one.ensures.marks c.reserve_one-2.ensures.marks c.reserve_one-2.ensures.numbers c.reserve_one.ensures.numbers c.in_err-extend_from_slice.ensures.items

pub returns-in_err-extend_from_slice-clause-err : goal.returns-in_err-extend_from_slice-clause-err
returns-in_err-extend_from_slice-clause-err c =
    let i = c.self.inside in
    let e : candidates_of c.reserve_one.new.marks.items (arounds_of c.reserve_one-2.new.marks.items c.reserve_one-2.new.numbers.items) (rows_from 0 c.reserve_one.new.numbers.items c.extend_from_slice.new.self.items) ≡ c.args.self.now = view_stays i.may_go.items i.is_inside.items i.around.items i.ends.items i.operands.items c.self.invariant _ _ _ _ _ c.reserve_one.ensures.marks c.reserve_one-2.ensures.marks c.reserve_one-2.ensures.numbers c.reserve_one.ensures.numbers c.in_err-extend_from_slice.ensures.items c.args.self.now c.self.view_is in search rules

pub invariant_of-self-2 : goal.invariant_of-self-2
invariant_of-self-2 c =
    let i = c.self.inside in
    let q : c.extend_from_slice.new.self.items ≡ i.operands.items ++ c.args.operands.now = c.in_ok-extend_from_slice.ensures.items in
    let n : c.len.result ≡ length c.extend_from_slice.new.self.items = c.len.ensures ∙ c.extend_from_slice.new.self.ok.0 in
    let es : c.push_reserved.new.self.items ≡ i.ends.items ++ c.len.result ∷ [] = c.push_reserved.ensures.items ∙ ap (λ xs. xs ++ c.len.result ∷ []) c.reserve_one.ensures.numbers in
    let ns : c.push_reserved-2.new.self.items ≡ i.around.items ++ unwrap_or c.args.around 0 ∷ [] = c.push_reserved-2.ensures.items ∙ ap (λ xs. xs ++ c.unwrap_or.result ∷ []) c.reserve_one-2.ensures.numbers ∙ ap (λ x. i.around.items ++ x ∷ []) c.unwrap_or.ensures in
    let bs : c.push_reserved-3.new.self.items ≡ i.is_inside.items ++ is_some c.args.around ∷ [] = c.push_reserved-3.ensures.items ∙ ap (λ xs. xs ++ c.is_some.result ∷ []) c.reserve_one-2.ensures.marks ∙ ap (λ x. i.is_inside.items ++ x ∷ []) c.is_some.ensures in
    let ms : c.push_reserved-4.new.self.items ≡ i.may_go.items ++ c.args.may_go ∷ [] = c.push_reserved-4.ensures.items ∙ ap (λ xs. xs ++ c.args.may_go ∷ []) c.reserve_one.ensures.marks in
    columns_more i.may_go.items i.is_inside.items i.around.items i.ends.items i.operands.items c.self.invariant c.args.may_go c.args.around c.args.operands.now _ _ _ _ _ c.len.result ms bs ns es q n

pub returns-clause-ok : goal.returns-clause-ok
returns-clause-ok c =
    let i = c.self.inside in
    let q : c.extend_from_slice.new.self.items ≡ i.operands.items ++ c.args.operands.now = c.in_ok-extend_from_slice.ensures.items in
    let n : c.len.result ≡ length c.extend_from_slice.new.self.items = c.len.ensures ∙ c.extend_from_slice.new.self.ok.0 in
    let es : c.push_reserved.new.self.items ≡ i.ends.items ++ c.len.result ∷ [] = c.push_reserved.ensures.items ∙ ap (λ xs. xs ++ c.len.result ∷ []) c.reserve_one.ensures.numbers in
    let ns : c.push_reserved-2.new.self.items ≡ i.around.items ++ unwrap_or c.args.around 0 ∷ [] = c.push_reserved-2.ensures.items ∙ ap (λ xs. xs ++ c.unwrap_or.result ∷ []) c.reserve_one-2.ensures.numbers ∙ ap (λ x. i.around.items ++ x ∷ []) c.unwrap_or.ensures in
    let bs : c.push_reserved-3.new.self.items ≡ i.is_inside.items ++ is_some c.args.around ∷ [] = c.push_reserved-3.ensures.items ∙ ap (λ xs. xs ++ c.is_some.result ∷ []) c.reserve_one-2.ensures.marks ∙ ap (λ x. i.is_inside.items ++ x ∷ []) c.is_some.ensures in
    let ms : c.push_reserved-4.new.self.items ≡ i.may_go.items ++ c.args.may_go ∷ [] = c.push_reserved-4.ensures.items ∙ ap (λ xs. xs ++ c.args.may_go ∷ []) c.reserve_one.ensures.marks in
    view_more i.may_go.items i.is_inside.items i.around.items i.ends.items i.operands.items c.self.invariant c.args.may_go c.args.around c.args.operands.now _ _ _ _ _ c.len.result ms bs ns es q n c.args.self.now c.self.view_is
