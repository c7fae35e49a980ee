-- Why an edit that grows may be refused, and what popping took.
use Rattle.std.proofs.Common.{◌≡◌, Result, Ok, Err, IsErr, Option, Some, None, IfSome, IfNone, OnSome, MatchOption, refl, sym, subst}
use Rattle.ir_base.specs.declared.growth.GrowError.{GrowError}
use Rattle.ir_base.specs.declared.growth.GrowError.TheVariants as growth
use Rattle.ir_context.specs.declared.errors.CoreError.{CoreError}
use Rattle.ir_context.specs.Refusals.{refusal_of_growth}
use Rattle.std.specs.Result.{IsErrAnd}
use Rattle.ir_core.specs.edits.Answered.{IsRefusedBy, Answered}

-- an edit that may be made and asks for memory is refused as growing is
pub refused_growth : (may full : Type 0) (e : GrowError) (x : CoreError) → x ≡ refusal_of_growth e → may → (e ≡ growth.CounterFull → full) → IsRefusedBy may (Unit {0}) full x
refused_growth may full growth.Memory x is m counter = subst (IsRefusedBy may (Unit {0}) full) (sym is) (m, tt)
refused_growth may full growth.CounterFull x is m counter = subst (IsRefusedBy may (Unit {0}) full) (sym is) (m, counter refl)

pub refused_result : {R : Type 0} (r : Result R CoreError) (may full : Type 0) (done : R → Type 0) (same : Type 0) (e : GrowError) → IsErr r × IsErrAnd r (λ x. x ≡ refusal_of_growth e) → may → (e ≡ growth.CounterFull → full) → same
    → Answered may (Unit {0}) full done same r
refused_result (Ok v) may full done same e h m counter s = let no = h.0 in cc
refused_result (Err x) may full done same e h m counter s = (refused_growth may full e x h.1 m counter, s)

-- what popping says of what it took, where there was something
pub popped_match : {X : Type 0} (r o : Option X) (N E : Type 0) (F : X → Type 0) → r ≡ o → IfNone r N → OnSome r E → IfSome r F → MatchOption o N (λ v. E × F v)
popped_match None o N E F is none some forgets = subst (λ p. MatchOption p N (λ v. E × F v)) is none
popped_match (Some v) o N E F is none some forgets = subst (λ p. MatchOption p N (λ v. E × F v)) is (some, forgets)
