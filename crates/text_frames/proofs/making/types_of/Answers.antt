use Rattle.std.proofs.Common.{◌≡◌, ◌<◌, ◌+◌, ◌∙◌, ℕ, List, [], ◌∷◌, ◌++◌, length, get_or, drop, ap, append_assoc, refl, sym}
use Rattle.std.proofs.lemmas.List.{drop_more}
use Rattle.ir_base.specs.declared.types.TypeHandle.{TypeHandle}
use Rattle.ir_print.specs.declared.format.Part.{Part}
use Rattle.ir_print.specs.declared.format.Part.TheVariants as part
use Rattle.text_frames.specs.Makes.{types_in}
use Rattle.text_frames.proofs.making.types_of.Goals as goal
use Rattle.text_frames.proofs.making.types_of.Goals.{in-Type+in_ok-push, in_default}

module _ {D K A T : Type 0} (xs : List (Part D K A T)) (i : ℕ) (x : Part D K A T) (lt : i < length xs)
    (is : x ≡ get_or xs i x) where
  next : types_in (drop i xs) ≡ types_in (x ∷ drop (i + 1) xs)
  next = ap types_in (drop_more xs i x lt ∙ ap (λ (y : Part D K A T). y ∷ drop (i + 1) xs) (sym is))

  -- a type is one more
  one_more : (whole ts us : List TypeHandle) (ty : TypeHandle) → whole ≡ ts ++ types_in (drop i xs)
      → x ≡ part.«Type» ty → us ≡ ts ++ ty ∷ [] → whole ≡ us ++ types_in (drop (i + 1) xs)
  one_more whole ts us ty h e pushed =
      h ∙ ap (λ (ys : List TypeHandle). ts ++ ys) (next ∙ ap (λ (y : Part D K A T). types_in (y ∷ drop (i + 1) xs)) e)
      ∙ sym (append_assoc ts (ty ∷ []) (types_in (drop (i + 1) xs)))
      ∙ ap (λ (ys : List TypeHandle). ys ++ types_in (drop (i + 1) xs)) (sym pushed)

  -- another part is none
  none_more : (whole ts : List TypeHandle) → whole ≡ ts ++ types_in (drop i xs)
      → ((ty : TypeHandle) → x ≡ part.«Type» ty → ⊥) → whole ≡ ts ++ types_in (drop (i + 1) xs)
  none_more whole ts h other = h ∙ ap (λ (ys : List TypeHandle). ts ++ ys) (next ∙ left x other)
    where
      left : (y : Part D K A T) → ((ty : TypeHandle) → y ≡ part.«Type» ty → ⊥)
          → types_in (y ∷ drop (i + 1) xs) ≡ types_in (drop (i + 1) xs)
      left (part.«Type» ty) differs = absurd (differs ty refl)
      left _ differs = refl

pub loop-part-preserved : goal.loop-part-preserved
loop-part-preserved g c = elim c.match-part.branch [
  | in-Type+in_ok-push w ↦ rw w.types-is (one_more c.args.parts.now c.loop-part.part-index c.part-item.result
      c.loop-part-test.true c.part-item.is _ c.loop-part.types.items w.push.new.self.items w.in-Type.ty
      c.loop-part.invariant w.in-Type.is w.in_ok-push.ensures.items)
  | in_default w ↦ rw w.types-is (none_more c.args.parts.now c.loop-part.part-index c.part-item.result
      c.loop-part-test.true c.part-item.is _ c.loop-part.types.items c.loop-part.invariant w.in_default.not-Type)
]
