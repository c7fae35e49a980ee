-- What a branch that keeps the rules forwards, as the optimisations and as the rules say it.
use Rattle.std.proofs.Common.{◌≡◌, ℕ, zero, suc, ◌+◌, ◌-◌, ◌<◌, min, true, List, [], ◌∷◌, take, drop, length, Option}
use Rattle.std.proofs.Common.{Some, slice_get, refl, sym, ap, ◌∙◌, arith}
use Rattle.std.specs.Prelude.{slice_index}
use Rattle.std.proofs.lemmas.Bool.{false≢true}
use Rattle.std.proofs.lemmas.Option.{slice_get_within}
use Rattle.ir_names.specs.declared.interfaces.OpInterface.TheVariants as op
use Rattle.ir_names.specs.Dictionary.{attribute_at}
use Rattle.ir_program.specs.declared.handles.BasicBlock.{BasicBlock}
use Rattle.ir_program.specs.declared.handles.Ptr.{Ptr}
use Rattle.ir_program.specs.declared.handles.Value.{Value}
use Rattle.ir_base.specs.declared.types.TypeHandle.{TypeHandle}
use Rattle.kit.specs.Context.{KitTree}
use Rattle.kit_checks.specs.KitWorld.{kit_world}
use Rattle.kit_ops.specs.declared.kinds.KitOp.{KitOp}
use Rattle.kit_ops.specs.declared.kinds.KitOp.TheVariants as ops
use Rattle.kit_ops.specs.declared.types.KitType.{KitType}
use Rattle.kit_ops.specs.Keys as keys
use Rattle.kit_ops.specs.Table.{has_interface}
use Rattle.kit.specs.Meaning.{forwards_of, first_size}
use Rattle.kit_checks.specs.Rules.{FitsKind}
use Rattle.kit_checks.specs.Words.{along_edge, segment_sizes, sizes_or_none}
use Rattle.kit_views.proofs.Forwarded.{range_get}
use Rattle.kit_ruled_views.proofs.FunctionSites.{KitBlocks}
use Rattle.kit_ruled_views.proofs.OperationViews.{handed, same_sizes}
use Rattle.kit_ruled_views.proofs.SmallLists.{some_of}

taken_at : {X : Type 0} (n : ℕ) (xs : List X) (p : ℕ) → p < n → slice_get (take n xs) p ≡ slice_get xs p
taken_at zero xs p h = absurd (omega (arith, h))
taken_at (suc n) [] p h = refl
taken_at (suc n) (x ∷ xs) zero h = refl
taken_at (suc n) (x ∷ xs) (suc p) h = taken_at n xs p (omega (arith, h))

dropped_at : {X : Type 0} (n : ℕ) (xs : List X) (p i : ℕ) → i ≡ n + p → slice_get (drop n xs) p ≡ slice_get xs i
dropped_at zero xs p i h = let e : p ≡ i = omega (arith, h) in ap (slice_get xs) e
dropped_at (suc n) [] p i h = refl
dropped_at (suc n) (x ∷ xs) p zero h = absurd (omega (arith, h))
dropped_at (suc n) (x ∷ xs) p (suc i) h = dropped_at n xs p i (omega (arith, h))

below_min : (p n m : ℕ) → p < min n m → p < n
below_min p n m h = omega (arith, h)

module _ (leads : TypeHandle → Option KitType) (typed : Value → Option TypeHandle) (blocks : KitBlocks) (u : KitTree)
  where
    abbrev first : ℕ
    first = first_size u.head.content.notes.attributes

    abbrev many : ℕ
    many = length u.head.operands

    -- the edge is one, the operand at the index is forwarded to the place: it is at the place of what is handed on
    abbrev IsHanded : KitOp → ℕ → ℕ → ℕ → Value → Type 0
    IsHanded k edge place i x = slice_get (forwards_of k first many edge) place ≡ Some i
        → slice_get u.head.operands i ≡ Some x → slice_get (handed leads typed blocks u k edge) place ≡ Some x

    br_handed : FitsKind (kit_world leads typed) u ops.Br → (edge : ℕ) (target : Ptr BasicBlock)
        → slice_get u.head.successors edge ≡ Some target → (place i : ℕ) (x : Value) → IsHanded ops.Br edge place i x
    br_handed fits zero target leads_there place i x gives operand =
        let r = range_get 0 many place i gives in
        let e : place ≡ i = omega (arith, r.0) in
        ap (slice_get u.head.operands) e ∙ operand
    br_handed fits (suc edge) target leads_there place i x gives operand =
        let w = slice_get_within u.head.successors (suc edge) target leads_there in
        absurd (omega (arith, w, fits.successors))

    module _ (fits : FitsKind (kit_world leads typed) u ops.CondBr) where
      abbrev one : ℕ
      one = fits.1.2.0

      abbrev two : ℕ
      two = fits.1.2.1

      sizes_are : segment_sizes (kit_world leads typed) u ≡ Some (1 ∷ one ∷ two ∷ [])
      sizes_are = fits.1.1 ∙ ap Some fits.1.2.2

      first_is : first ≡ one
      first_is = ap (λ l. slice_index l 1)
          (same_sizes (attribute_at u.head.content.notes.attributes keys.segment_sizes) (1 ∷ one ∷ two ∷ []) sizes_are)

      handed_is : (c : Value) (rest : List Value) → u.head.operands ≡ c ∷ rest → (edge : ℕ)
          → handed leads typed blocks u ops.CondBr edge ≡ along_edge ops.CondBr (1 ∷ one ∷ two ∷ []) (c ∷ rest) edge
      handed_is c rest are edge =
          ap (λ o. along_edge ops.CondBr (sizes_or_none o) u.head.operands edge) sizes_are
          ∙ ap (λ l. along_edge ops.CondBr (1 ∷ one ∷ two ∷ []) l edge) are

      cond_br_handed : (edge : ℕ) (target : Ptr BasicBlock) → slice_get u.head.successors edge ≡ Some target
          → (place i : ℕ) (x : Value) → IsHanded ops.CondBr edge place i x
      cond_br_handed zero target leads_there place i x gives operand =
          let o = some_of u.head.operands (one + two) (omega (arith, fits.1.2.3)) in
          let r = range_get 1 (min first (many - 1)) place i gives in
          let e : i ≡ suc place = omega (arith, r.0) in
          let below : place < one = let b = below_min place first (many - 1) r.1 in let f = first_is in omega
          (arith, b, f) in
          let at : slice_get (o.0 ∷ o.1) (suc place) ≡ Some x =
          ap (slice_get (o.0 ∷ o.1)) (sym e) ∙ ap (λ l. slice_get l i) (sym o.2) ∙ operand in
          ap (λ l. slice_get l place) (handed_is o.0 o.1 o.2 0) ∙ taken_at one o.1 place below ∙ at
      cond_br_handed (suc zero) target leads_there place i x gives operand =
          let o = some_of u.head.operands (one + two) (omega (arith, fits.1.2.3)) in
          let r = range_get (1 + first) (many - (1 + first)) place i gives in
          let f = first_is in
          let e : i ≡ suc (one + place) = omega (arith, r.0, f) in
          let below : place < two = omega (arith, r.1, f, fits.1.2.3) in
          let at : slice_get (o.0 ∷ o.1) (suc (one + place)) ≡ Some x =
          ap (slice_get (o.0 ∷ o.1)) (sym e) ∙ ap (λ l. slice_get l i) (sym o.2) ∙ operand in
          ap (λ l. slice_get l place) (handed_is o.0 o.1 o.2 1) ∙ taken_at two (drop one o.1) place below
          ∙ dropped_at one o.1 place (one + place) refl ∙ at
      cond_br_handed (suc (suc edge)) target leads_there place i x gives operand =
          let w = slice_get_within u.head.successors (suc (suc edge)) target leads_there in
          absurd (omega (arith, w, fits.0.successors))

    -- what is forwarded is handed on
    pub forwarded_is : (k : KitOp) → FitsKind (kit_world leads typed) u k → has_interface k op.Branch ≡ true
        → (edge : ℕ) (target : Ptr BasicBlock) → slice_get u.head.successors edge ≡ Some target
        → (place i : ℕ) (x : Value) → IsHanded k edge place i x
    forwarded_is ops.Br fits branch = br_handed fits
    forwarded_is ops.CondBr fits branch = cond_br_handed fits
    forwarded_is _ fits branch = absurd (false≢true branch)
