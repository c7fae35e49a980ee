-- Where values are defined in a function.
use Rattle.std.specs.Prelude.{ℕ, Bool, false, nat_eq, ◌&&◌}

-- a value by its place in its function: the ith argument of a block, or the ith result of an operation of a block;
-- all counted from 0
pub data Place : Type 0 where
  Arg : (block i : ℕ) → Place
  Res : (block op i : ℕ) → Place

-- the test of equality
abbrev pub same_place : Place → Place → Bool
same_place (Arg b i) (Arg c j) = nat_eq b c && nat_eq i j
same_place (Res b o i) (Res c q j) = nat_eq b c && (nat_eq o q && nat_eq i j)
same_place (Arg b i) (Res c q j) = false
same_place (Res b o i) (Arg c j) = false
