-- There is one list of most precise facts at most.
use Rattle.std.proofs.Common.{◌≡◌, Bool, true, false, refl, sym, ap}
use Rattle.ir_trees.specs.Names.{Names, Contents}
use Rattle.ir_trees.specs.Trees.{Root}
use Rattle.opt_trees.specs.Dialect.{Dialect}
use Rattle.opt_rows.specs.declared.known.Known.{Known}
use Rattle.opt_rows.specs.declared.known.Known.TheVariants.{Undetermined, One, Any}
use Rattle.opt_rows.specs.Known.{AtOrBelow}
use Rattle.opt_trees.specs.Facts.{Facts, IsMostPrecise}

pub at_both : {A : Type 0} (x y : Known A) → AtOrBelow x y → AtOrBelow y x → x ≡ y
at_both Undetermined Undetermined a b = refl
at_both Undetermined (One m) a b = absurd a
at_both Undetermined Any a b = absurd a
at_both (One n) Undetermined a b = absurd b
at_both (One n) (One m) a b = ap One a
at_both (One n) Any a b = absurd a
at_both Any Undetermined a b = absurd b
at_both Any (One m) a b = absurd b
at_both Any Any a b = refl

pub true_both : (a b : Bool) → (a ≡ true → b ≡ true) → (b ≡ true → a ≡ true) → a ≡ b
true_both true b f g = sym (f refl)
true_both false true f g = g refl
true_both false false f g = refl

pub not_true : (b : Bool) → (b ≡ true → ⊥) → b ≡ false
not_true true f = absurd (f refl)
not_true false f = refl

pub best_unique : {N : Names} {S : Contents} {A : Type 0} (d : Dialect S A) (t : Root N S) (k l : Facts N A) → IsMostPrecise d t k → IsMostPrecise d t l → k ≡ l
best_unique d t k l a b =
    let x = a.best l b.closed in
    let y = b.best k a.closed in
    λ i. record { runs = λ n. true_both (k.runs n) (l.runs n) (x.fewer n) (y.fewer n) i; of = λ v. at_both (k.of v) (l.of v) (y.above v) (x.above v) i }
