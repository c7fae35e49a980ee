-- The indices that a range names.
use Rattle.std.specs.Prelude.{ℕ, suc, ◌-◌, cond, ltb, leb, ℤ, pos, negsuc}
use Rattle.op_ifaces.specs.declared.ranges.IndexRange.{IndexRange}
use Rattle.op_ifaces.specs.declared.ranges.IndexRange.TheVariants.{Range, NotEnough, Empty}

-- from the first to the last, both of them in the range; none where the last comes before the first
abbrev pub range_to : ℕ → ℕ → IndexRange
range_to m end = cond (ltb end m) Empty (Range m end)

-- the indices from m to n in a row of this length, where a negative n counts from the end: -1 is the last one
abbrev pub index_range : ℕ → ℤ → ℕ → IndexRange
index_range m (pos n) len = cond (leb len n) NotEnough (range_to m n)
index_range m (negsuc n) len = cond (ltb len (suc n)) Empty (range_to m (len - suc n))
