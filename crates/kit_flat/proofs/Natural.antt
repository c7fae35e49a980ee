-- The operation of a form under other names is the operation of the form, under these names.
use Rattle.std.proofs.Common.{◌≡◌, ℕ, zero, suc, List, [], ◌∷◌, map, take, drop, refl, ap}
use Rattle.kit_flat.specs.Machine as machine
use Rattle.kit_flat.specs.Machine.{MachineOp, Other}
use Rattle.kit_flat.specs.Forms.{Form, Constant, Calculate, Compare, Emit, Call, Br, CondBr, Return, op_of, rename_form}
use Rattle.kit_flat.specs.Renames.{rename_op}

take_map : {V W : Type 0} (f : V → W) (n : ℕ) (xs : List V) → take n (map f xs) ≡ map f (take n xs)
take_map f zero xs = refl
take_map f (suc n) [] = refl
take_map f (suc n) (x ∷ xs) = ap (λ ys. f x ∷ ys) (take_map f n xs)

drop_map : {V W : Type 0} (f : V → W) (n : ℕ) (xs : List V) → drop n (map f xs) ≡ map f (drop n xs)
drop_map f zero xs = refl
drop_map f (suc n) [] = refl
drop_map f (suc n) (x ∷ xs) = drop_map f n xs

module _ {V B F W C G : Type 0} (f : V → W) (g : B → C) (h : F → G) where
  pub natural : (s : Form F) (rs xs : List V) (bs : List B) → op_of (rename_form h s) (map f rs) (map f xs)
      (map g bs) ≡ rename_op f g h (op_of s rs xs bs)
  natural (Constant n) (r ∷ []) [] [] = refl
  natural (Calculate a w) (r ∷ []) (x ∷ y ∷ []) [] = refl
  natural (Compare a) (r ∷ []) (x ∷ y ∷ []) [] = refl
  natural Emit [] (x ∷ []) [] = refl
  natural (Call callee) rs xs [] = refl
  natural Br [] xs (b ∷ []) = refl
  natural (CondBr n) [] (x ∷ xs) (b ∷ d ∷ []) = λ i. machine.CondBr (f x)
      (record { target = g b; operands = take_map f n xs i }) (record { target = g d; operands = drop_map f n xs i })
  natural Return [] xs [] = refl
  natural s rs xs bs = refl
