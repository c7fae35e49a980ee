-- Tests that hold together.
use Rattle.std.proofs.Common.{◌≡◌, Bool, true, false, ◌&&◌, ◌||◌, refl}

pub both_hold : (a b : Bool) → a && b ≡ true → (a ≡ true) × (b ≡ true)
both_hold true b e = (refl, e)
both_hold false b e = cc

-- where one of two doesn't hold, neither does
pub neither_holds : (a b : Bool) → a || b ≡ false → (a ≡ false) × (b ≡ false)
neither_holds true b e = cc
neither_holds false b e = (refl, e)
