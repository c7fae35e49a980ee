-- How many blocks a function has, before a step and after it.
use Rattle.std.proofs.Common.{◌≡◌, ℕ, zero, suc, ◌<◌, Bool, List, [], ◌∷◌, length, Option, Some, None, refl, ap, arith}
use Rattle.std.specs.Prelude.{map, slice_get}
use Rattle.kit_behaviour.specs.Machine.{Fun, ops_left, left_in, size}
use Rattle.kit_behaviour.specs.Facts.{FunctionFacts}
use Rattle.kit_behaviour.specs.Replacement.{replace_block, replace}
use Rattle.kit_behaviour.specs.Rules.{EndsWell}
use Rattle.kit_behaviour.specs.RemovedValues.{thin_block, thin}
use Rattle.kit_behaviour.specs.DecidedBranches.{decide_block, decide}
use Rattle.kit_behaviour.specs.InsertedConstants.{Made, put_block, put_in}
use Rattle.kit_behaviour.specs.Numbering.{place_of, place_block, place_fun}

pub length_map : {A B : Type 0} (g : A → B) (xs : List A) → length (map g xs) ≡ length xs
length_map g [] = refl
length_map g (x ∷ xs) = ap suc (length_map g xs)

pub slice_in_range : {A : Type 0} (xs : List A) (b : ℕ) → b < length xs → slice_get xs b ≡ None → ⊥
slice_in_range [] b l e = absurd (omega (arith, l))
slice_in_range (x ∷ xs) zero l e = cc e
slice_in_range (x ∷ xs) (suc b) l e = slice_in_range xs b (omega (arith, l)) e

pub out_of_range : {A : Type 0} (xs : List A) (b : ℕ) → (slice_get xs b ≡ None → ⊥) → b < length xs
out_of_range [] b h = absurd (h refl)
out_of_range (x ∷ xs) zero h = omega arith
out_of_range (x ∷ xs) (suc b) h = let r = out_of_range xs b h in omega (arith, r)

-- a block with an operation is one of the function's
pub has_block : {V : Type 0} (f : Option (Fun V)) (b : ℕ) → 0 < length (left_in f b 0) → b < size f
has_block None b l = absurd (omega (arith, l))
has_block (Some f) b l = out_of_range f b (λ e. let z : length (ops_left (slice_get f b) 0) ≡ 0 = ap (λ o. length (ops_left o 0)) e in absurd (omega (arith, l, z)))

pub some_end : {V : Type 0} (f : Option (Fun V)) → ((b : ℕ) → b < size f → EndsWell (left_in f b 0)) → (b : ℕ) → 0 < length (left_in f b 0) → EndsWell (left_in f b 0)
some_end f ends b l = ends b (has_block f b l)

pub place_size : {V : Type 0} (same : V → V → Bool) (f : Option (Fun V)) → size (place_fun same f) ≡ size f
place_size same None = refl
place_size same (Some f) = length_map (place_block (place_of same f)) f

pub thin_size : {V : Type 0} (d : V → Bool) (f : Option (Fun V)) → size (thin d f) ≡ size f
thin_size d None = refl
thin_size d (Some f) = length_map (thin_block (Some f) d) f

pub replace_size : {V : Type 0} (s : V → V) (f : Option (Fun V)) → size (replace s f) ≡ size f
replace_size s None = refl
replace_size s (Some f) = length_map (replace_block s) f

pub put_size : {V : Type 0} (m : Made V) (f : Option (Fun V)) → size (put_in m f) ≡ size f
put_size m None = refl
put_size m (Some f) = length_map (put_block m) f

pub decide_size : {V : Type 0} (k : FunctionFacts V) (f : Option (Fun V)) → size (decide k f) ≡ size f
decide_size k None = refl
decide_size k (Some f) = length_map (decide_block k) f
