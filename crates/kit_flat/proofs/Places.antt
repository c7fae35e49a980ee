-- What is at a place of the flat form, and at the same place of what the machine sees.
use Rattle.std.proofs.Common.{◌≡◌, ℕ, zero, suc, ◌<◌, ◌≤◌, List, [], ◌∷◌, length, get_or, drop, map, refl, ap, sym, ◌∙◌, nat_eq, Some, None, Option, slice_get, replicate}
use Rattle.std.specs.Option.{option_map}
use Rattle.std.proofs.lemmas.Option.{slice_get-map, slice_get_past, slice_get_read}
use Rattle.kit_flat.specs.Machine.{arguments_of, operations_from, bind_all, first_frame}
use Rattle.kit_flat.specs.declared.flat.Instruction.{Instruction}
use Rattle.kit_flat.specs.declared.flat.FlatBlock.{FlatBlock}
use Rattle.kit_flat.specs.declared.flat.FlatFunction.{FlatFunction}
use Rattle.kit_flat.specs.declared.frames.FlatFrame.{FlatFrame}
use Rattle.kit_flat.specs.View.{op_view, block_view, block_in, flat_code, numbers_of, frame_view}
use Rattle.kit_flat.specs.Sound.{FlatFunctionsFit, ArgumentsFit, instruction_in}

pub arguments_at : (o : Option FlatBlock) (b : FlatBlock) → o ≡ Some b
    → arguments_of (option_map block_view o) ≡ b.arguments.items
arguments_at o b e = ap (λ q. arguments_of (option_map block_view q)) e

pub arguments_none : (o : Option FlatBlock) → o ≡ None → arguments_of (option_map block_view o) ≡ []
arguments_none o e = ap (λ q. arguments_of (option_map block_view q)) e

pub arguments_fit : (fs : List FlatFunction) → FlatFunctionsFit fs → (i : ℕ) (f : FlatFunction) → slice_get fs i ≡ Some f
    → ArgumentsFit f.values f
arguments_fit fs s i f e = λ j b h. ((s.functions_fit i f e).blocks_fit j b h).arguments_fit

zeros_at : (n v : ℕ) → get_or (replicate {A = ℕ} n 0) v 0 ≡ 0
zeros_at zero v = refl
zeros_at (suc n) zero = refl
zeros_at (suc n) (suc v) = zeros_at n v

pub zeros : (n : ℕ) → numbers_of (replicate {A = ℕ} n 0) ≡ (λ v. 0)
zeros n = λ t v. zeros_at n v t

pub enters_at : (fs : List FlatFunction) (i : ℕ) (f : FlatFunction) → slice_get fs i ≡ Some f
    → (xs : List ℕ) (a : FlatFrame) → a.function ≡ i → a.block ≡ 0 → a.index ≡ 0
    → numbers_of a.values.items ≡ bind_all nat_eq (numbers_of (replicate {A = ℕ} f.values 0))
    (arguments_of (option_map block_view (block_in (Some f) 0))) xs
    → frame_view a ≡ first_frame nat_eq (flat_code fs) i xs 0
enters_at fs i f e xs a n b d v = λ t. record { function = n t; block = b t; index = d t; numbers = same t }
  where
    same : numbers_of a.values.items ≡ bind_all nat_eq (λ v. 0)
        (arguments_of (option_map block_view (block_in (slice_get fs i) 0))) xs
    same =
        v
        ∙ ap (λ (o : ℕ → ℕ). bind_all nat_eq o (arguments_of (option_map block_view (block_in (Some f) 0))) xs)
        (zeros f.values)
        ∙ ap (λ (o : Option FlatFunction). bind_all nat_eq (λ v. 0)
        (arguments_of (option_map block_view (block_in o 0))) xs) (sym e)

pub got : {A : Type 0} (xs ys : List A) (i : ℕ) (x : A) → xs ≡ ys → i < length xs → x ≡ get_or xs i x
    → slice_get ys i ≡ Some x
got xs ys i x e h g = ap (λ l. slice_get l i) (sym e) ∙ slice_get_read xs (length xs) i x refl h g

pub past : {A : Type 0} (xs ys : List A) (i : ℕ) → xs ≡ ys → length xs ≤ i → slice_get ys i ≡ None
past xs ys i e h = ap (λ l. slice_get l i) (sym e) ∙ slice_get_past xs i h

-- what is left from a place at which something is
pub drop_at_place : {A : Type 0} (xs : List A) (i : ℕ) (x : A) → slice_get xs i ≡ Some x → drop i xs ≡ x
    ∷ drop (suc i) xs
drop_at_place [] i x e = cc
drop_at_place (y ∷ ys) zero x e = let d : y ≡ x = cc in ap (λ z. z ∷ ys) d
drop_at_place (y ∷ ys) (suc i) x e = drop_at_place ys i x e

pub drop_past : {A : Type 0} (xs : List A) (i : ℕ) → slice_get xs i ≡ None → drop i xs ≡ []
drop_past [] zero e = refl
drop_past [] (suc i) e = refl
drop_past (y ∷ ys) zero e = cc
drop_past (y ∷ ys) (suc i) e = drop_past ys i e

pub rest_at : (o : Option FlatBlock) (i : ℕ) (x : Instruction) → instruction_in o i ≡ Some x
    → operations_from (option_map block_view o) i ≡ op_view x ∷ operations_from (option_map block_view o) (suc i)
rest_at None i x e = cc
rest_at (Some b) i x e = drop_at_place (map op_view b.instructions.items) i (op_view x)
    (slice_get-map op_view b.instructions.items i ∙ ap (option_map op_view) e)

pub rest_none : (o : Option FlatBlock) (i : ℕ) → instruction_in o i ≡ None
    → operations_from (option_map block_view o) i ≡ []
rest_none None i e = refl
rest_none (Some b) i e = drop_past (map op_view b.instructions.items) i
    (slice_get-map op_view b.instructions.items i ∙ ap (option_map op_view) e)
