-- How many operands a branch that fits its format hands on along an edge.
use Rattle.std.proofs.Common.{◌≡◌, ℕ, zero, suc, ◌+◌, ◌-◌, min, true, [], ◌∷◌, take, drop, length, Option, Some}
use Rattle.std.proofs.Common.{slice_get, refl, sym, ap, ◌∙◌, arith}
use Rattle.std.specs.Prelude.{slice_index}
use Rattle.std.proofs.lemmas.Bool.{false≢true}
use Rattle.std.proofs.lemmas.List.{length-take-le, length-drop}
use Rattle.std.proofs.lemmas.Option.{slice_get_within}
use Rattle.ir_names.specs.declared.interfaces.OpInterface.TheVariants as op
use Rattle.ir_names.specs.Dictionary.{attribute_at}
use Rattle.ir_program.specs.declared.handles.BasicBlock.{BasicBlock}
use Rattle.ir_program.specs.declared.handles.Ptr.{Ptr}
use Rattle.ir_program.specs.declared.handles.Value.{Value}
use Rattle.ir_base.specs.declared.types.TypeHandle.{TypeHandle}
use Rattle.kit.specs.Context.{KitTree}
use Rattle.kit_checks.specs.KitWorld.{kit_world}
use Rattle.kit_ops.specs.declared.kinds.KitOp.{KitOp}
use Rattle.kit_ops.specs.declared.kinds.KitOp.TheVariants as ops
use Rattle.kit_ops.specs.declared.types.KitType.{KitType}
use Rattle.kit_ops.specs.Keys as keys
use Rattle.kit_ops.specs.Table.{has_interface}
use Rattle.kit.specs.Meaning.{forwards_of, first_size, range}
use Rattle.kit_checks.specs.Rules.{FitsKind}
use Rattle.kit_checks.specs.Words.{along_edge, segment_sizes, sizes_or_none, is_branch}
use Rattle.kit_ruled_views.proofs.OperationViews.{same_sizes}

range_length : (s n : ℕ) → length (range s n) ≡ n
range_length s zero = refl
range_length s (suc n) = ap suc (range_length (suc s) n)

-- what branches hands operands on
pub hands_on : (k : KitOp) → has_interface k op.Branch ≡ true → is_branch k ≡ true
hands_on ops.Br h = refl
hands_on ops.CondBr h = refl
hands_on _ h = absurd (false≢true h)

module _ (leads : TypeHandle → Option KitType) (typed : Value → Option TypeHandle) (u : KitTree) where
  abbrev first : ℕ
  first = first_size u.head.content.notes.attributes

  abbrev many : ℕ
  many = length u.head.operands

  -- as many as the block takes whose edge it is
  abbrev HandsAsMany : KitOp → ℕ → Type 0
  HandsAsMany k edge = length (forwards_of k first many edge)
      ≡ length (along_edge k (sizes_or_none (segment_sizes (kit_world leads typed) u)) u.head.operands edge)

  br_many : FitsKind (kit_world leads typed) u ops.Br → (edge : ℕ) (target : Ptr BasicBlock)
      → slice_get u.head.successors edge ≡ Some target → HandsAsMany ops.Br edge
  br_many fits zero target there = range_length 0 many
  br_many fits (suc edge) target there =
      let w = slice_get_within u.head.successors (suc edge) target there in
      absurd (omega (arith, w, fits.successors))

  module _ (fits : FitsKind (kit_world leads typed) u ops.CondBr) where
    abbrev one : ℕ
    one = fits.1.2.0

    abbrev two : ℕ
    two = fits.1.2.1

    sizes_are : segment_sizes (kit_world leads typed) u ≡ Some (1 ∷ one ∷ two ∷ [])
    sizes_are = fits.1.1 ∙ ap Some fits.1.2.2

    first_is : first ≡ one
    first_is = ap (λ l. slice_index l 1)
        (same_sizes (attribute_at u.head.content.notes.attributes keys.segment_sizes) (1 ∷ one ∷ two ∷ []) sizes_are)

    many_is : many ≡ 1 + one + two
    many_is = fits.1.2.3

    along : (edge : ℕ) → length (along_edge ops.CondBr (1 ∷ one ∷ two ∷ []) u.head.operands edge)
        ≡ length (along_edge ops.CondBr (sizes_or_none (segment_sizes (kit_world leads typed) u)) u.head.operands edge)
    along edge = sym (ap (λ o. length (along_edge ops.CondBr (sizes_or_none o) u.head.operands edge)) sizes_are)

    cond_br_many : (edge : ℕ) (target : Ptr BasicBlock) → slice_get u.head.successors edge ≡ Some target
        → HandsAsMany ops.CondBr edge
    cond_br_many zero target there =
        let rest : length (drop 1 u.head.operands) ≡ one + two =
        length-drop 1 u.head.operands ∙ (let m = many_is in omega (arith, m)) in
        let front : length (take one (drop 1 u.head.operands)) ≡ one =
        length-take-le one (drop 1 u.head.operands) (omega (arith, rest)) in
        range_length 1 (min first (many - 1))
        ∙ (let f = first_is in let m = many_is in omega (arith, f, m)) ∙ sym front ∙ along 0
    cond_br_many (suc zero) target there =
        let rest : length (drop 1 u.head.operands) ≡ one + two =
        length-drop 1 u.head.operands ∙ (let m = many_is in omega (arith, m)) in
        let more : length (drop one (drop 1 u.head.operands)) ≡ two =
        length-drop one (drop 1 u.head.operands) ∙ omega (arith, rest) in
        let back : length (take two (drop one (drop 1 u.head.operands))) ≡ two =
        length-take-le two (drop one (drop 1 u.head.operands)) (omega (arith, more)) in
        range_length (1 + first) (many - (1 + first))
        ∙ (let f = first_is in let m = many_is in omega (arith, f, m)) ∙ sym back ∙ along 1
    cond_br_many (suc (suc edge)) target there =
        let w = slice_get_within u.head.successors (suc (suc edge)) target there in
        absurd (omega (arith, w, fits.0.successors))

  -- as many operands are forwarded as the rules let be handed on
  pub as_many_handed : (k : KitOp) → FitsKind (kit_world leads typed) u k → has_interface k op.Branch ≡ true
      → (edge : ℕ) (target : Ptr BasicBlock) → slice_get u.head.successors edge ≡ Some target → HandsAsMany k edge
  as_many_handed ops.Br fits branch = br_many fits
  as_many_handed ops.CondBr fits branch = cond_br_many fits
  as_many_handed _ fits branch = absurd (false≢true branch)
