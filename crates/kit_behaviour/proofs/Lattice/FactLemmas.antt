-- The order of facts, folds, and that there is one most precise list of facts at most.
use Rattle.std.proofs.Common.{◌≡◌, ℕ, Bool, true, false, Option, refl, sym, ap, ◌∙◌, subst}
use Rattle.std.specs.Prelude.{if◌then◌else◌, nat_eq}
use Rattle.std.proofs.lemmas.Bool.{eq-eqb}
use Rattle.kit_behaviour.specs.Machine.{Arith, Fun, calc}
use Rattle.kit_behaviour.specs.Facts.{Fact, Undetermined, Known, Unknown, FactAtOrBelow, fold_known, folds_to, FunctionFacts, AreMostPreciseFacts}

pub at_refl : (x : Fact) → FactAtOrBelow x x
at_refl Undetermined = tt
at_refl (Known n) = refl
at_refl Unknown = tt

pub at_trans : (x y z : Fact) → FactAtOrBelow x y → FactAtOrBelow y z → FactAtOrBelow x z
at_trans Unknown y z a b = tt
at_trans Undetermined Undetermined z a b = b
at_trans Undetermined (Known n) z a b = absurd a
at_trans Undetermined Unknown z a b = absurd a
at_trans (Known n) Undetermined Undetermined a b = tt
at_trans (Known n) Undetermined (Known m) a b = absurd b
at_trans (Known n) Undetermined Unknown a b = absurd b
at_trans (Known n) (Known m) Undetermined a b = tt
at_trans (Known n) (Known m) (Known k) a b = a ∙ b
at_trans (Known n) (Known m) Unknown a b = absurd b
at_trans (Known n) Unknown z a b = absurd a

pub at_both : (x y : Fact) → FactAtOrBelow x y → FactAtOrBelow y x → x ≡ y
at_both Undetermined Undetermined a b = refl
at_both Undetermined (Known m) a b = absurd a
at_both Undetermined Unknown a b = absurd a
at_both (Known n) Undetermined a b = absurd b
at_both (Known n) (Known m) a b = ap Known a
at_both (Known n) Unknown a b = absurd a
at_both Unknown Undetermined a b = absurd b
at_both Unknown (Known m) a b = absurd b
at_both Unknown Unknown a b = refl

pub true_both : (a b : Bool) → (a ≡ true → b ≡ true) → (b ≡ true → a ≡ true) → a ≡ b
true_both true b f g = sym (f refl)
true_both false true f g = g refl
true_both false false f g = refl

-- there is one at most
pub best_unique : {V : Type 0} (f : Option (Fun V)) (k l : FunctionFacts V) → AreMostPreciseFacts f k → AreMostPreciseFacts f l → k ≡ l
best_unique f k l a b =
    let x = a.best l b.closed in
    let y = b.best k a.closed in
    λ i. record { runs = λ n. true_both (k.runs n) (l.runs n) (x.fewer n) (y.fewer n) i; of = λ v. at_both (k.of v) (l.of v) (y.above v) (x.above v) i }

-- the greatest that is at or below two
abbrev pub meet : Fact → Fact → Fact
meet Undetermined y = y
meet (Known n) Undetermined = Known n
meet (Known n) (Known m) = if nat_eq n m then Known n else Unknown
meet (Known n) Unknown = Unknown
meet Unknown y = Unknown

pub meet_below : (x y z : Fact) → FactAtOrBelow z x → FactAtOrBelow z y → FactAtOrBelow z (meet x y)
meet_below Undetermined y z a b = b
meet_below (Known n) Undetermined z a b = a
meet_below (Known n) (Known m) Unknown a b = tt
meet_below (Known n) (Known m) Undetermined a b = absurd a
meet_below (Known n) (Known m) (Known k) a b =
    let e : n ≡ m = sym a ∙ b in
    subst (λ t. FactAtOrBelow (Known k) (if t then Known n else Unknown)) (sym (eq-eqb n m e)) a
meet_below (Known n) Unknown z a b = b
meet_below Unknown y z a b = a

-- less known operands give no more
pub fold_mono : (a : Arith) (w : ℕ) (x' x y' y : Fact) → FactAtOrBelow x' x → FactAtOrBelow y' y → FactAtOrBelow (folds_to a w x' y') (folds_to a w x y)
fold_mono a w x' Undetermined y' y hx hy = at_top (folds_to a w x' y')
  where
    at_top : (z : Fact) → FactAtOrBelow z Undetermined
    at_top Undetermined = tt
    at_top (Known n) = tt
    at_top Unknown = tt
fold_mono a w x' (Known n) y' Undetermined hx hy = at_top (folds_to a w x' y')
  where
    at_top : (z : Fact) → FactAtOrBelow z Undetermined
    at_top Undetermined = tt
    at_top (Known n) = tt
    at_top Unknown = tt
fold_mono a w x' Unknown y' Undetermined hx hy = at_top (folds_to a w x' y')
  where
    at_top : (z : Fact) → FactAtOrBelow z Undetermined
    at_top Undetermined = tt
    at_top (Known n) = tt
    at_top Unknown = tt
fold_mono a w Undetermined (Known n) y' (Known m) hx hy = absurd hx
fold_mono a w Undetermined (Known n) y' Unknown hx hy = absurd hx
fold_mono a w Undetermined Unknown y' (Known m) hx hy = absurd hx
fold_mono a w Undetermined Unknown y' Unknown hx hy = absurd hx
fold_mono a w (Known k) (Known n) Undetermined (Known m) hx hy = absurd hy
fold_mono a w (Known k) (Known n) (Known j) (Known m) hx hy =
    subst (λ z. FactAtOrBelow (fold_known (calc a w k j)) (fold_known (calc a w z m))) hx
    (subst (λ z. FactAtOrBelow (fold_known (calc a w k j)) (fold_known (calc a w k z))) hy (at_refl (fold_known (calc a w k j))))
fold_mono a w (Known k) (Known n) Unknown (Known m) hx hy = tt
fold_mono a w (Known k) (Known n) Undetermined Unknown hx hy = absurd hy
fold_mono a w (Known k) (Known n) (Known j) Unknown hx hy = absurd hy
fold_mono a w (Known k) (Known n) Unknown Unknown hx hy = tt
fold_mono a w (Known k) Unknown y' (Known m) hx hy = absurd hx
fold_mono a w (Known k) Unknown y' Unknown hx hy = absurd hx
fold_mono a w Unknown (Known n) Undetermined (Known m) hx hy = absurd hy
fold_mono a w Unknown (Known n) (Known j) (Known m) hx hy = tt
fold_mono a w Unknown (Known n) Unknown (Known m) hx hy = tt
fold_mono a w Unknown (Known n) Undetermined Unknown hx hy = absurd hy
fold_mono a w Unknown (Known n) (Known j) Unknown hx hy = absurd hy
fold_mono a w Unknown (Known n) Unknown Unknown hx hy = tt
fold_mono a w Unknown Unknown Undetermined (Known m) hx hy = absurd hy
fold_mono a w Unknown Unknown (Known j) (Known m) hx hy = tt
fold_mono a w Unknown Unknown Unknown (Known m) hx hy = tt
fold_mono a w Unknown Unknown Undetermined Unknown hx hy = absurd hy
fold_mono a w Unknown Unknown (Known j) Unknown hx hy = absurd hy
fold_mono a w Unknown Unknown Unknown Unknown hx hy = tt
