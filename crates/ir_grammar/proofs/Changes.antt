-- What an action that changes the number of open parts is.
use Rattle.std.proofs.Common.{◌≡◌, Bool, true, false, cond, refl}
use Rattle.ir_grammar.specs.declared.grammar.Change.TheVariants.{Opens, Closes, Keeps}

pub is_opening : (o c : Bool) → cond o Opens (cond c Closes Keeps) ≡ Opens → o ≡ true
is_opening true c e = refl
is_opening false true e = cc
is_opening false false e = cc

pub is_closing : (o c : Bool) → cond o Opens (cond c Closes Keeps) ≡ Closes → (o ≡ false) × (c ≡ true)
is_closing true c e = cc
is_closing false true e = (refl, refl)
is_closing false false e = cc

pub is_keeping : (o c : Bool) → cond o Opens (cond c Closes Keeps) ≡ Keeps → (o ≡ false) × (c ≡ false)
is_keeping true c e = cc
is_keeping false true e = cc
is_keeping false false e = (refl, refl)
