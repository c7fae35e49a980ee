-- What agrees under two renamings is made into what agrees under them.
use Rattle.std.proofs.Common.{◌≡◌, Option, Some, None, refl, sym, ap, ◌∙◌, subst}
use Rattle.std.specs.Prelude.{option_map}
use Rattle.ir_trees.specs.Names.{Names, Contents}
use Rattle.ir_trees.specs.Renames.{rename_root}
use Rattle.ir_trees.specs.Trees.{Root}
use Rattle.opt_trees.specs.Occurrences.{Injection, Renaming, maps}
use Rattle.opt_trees.specs.Dialect.{Dialect}
use Rattle.opt_trees.specs.Sccp.{Name, Old, New, fresh, rename_name, IsSccp}
use Rattle.opt_trees.proofs.Lists.{none_some, some_same}
use Rattle.opt_trees.specs.Dce.{TreeSurroundings, Agree, IsDce}
use Rattle.opt_trees.specs.Simplify.{all_of, IsSimplify, IsOrderly}
use Rattle.opt_trees.proofs.SccpRenamed.{sccp_unique, sccp_renamed}
use Rattle.opt_trees.proofs.DceRenamed.{dce_renamed}
use Rattle.opt_trees.proofs.SimplifyRenamed.{simplify_renamed}
use Rattle.opt_trees.proofs.One.{dce_unique, simplify_unique}
use Rattle.opt_trees.proofs.Orderly.{phases_orderly, phases_apart, renamed_orderly}

-- names of what sccp makes stay apart too
abbrev pub name_back : {X Y V W : Type 0} → (Y → Option X) → (W → Option V) → Name Y W → Option (Name X V)
name_back f g (Old y) = option_map Old (f y)
name_back f g (New w) = option_map New (g w)

pub there : {X Y V W : Type 0} (a : Injection X Y) (b : Injection V W) (x : Name X V) → name_back a.back b.back (rename_name a.to b.to x) ≡ Some x
there a b (Old x) = ap (option_map Old) (a.there x)
there a b (New v) = ap (option_map New) (b.there v)

pub from : {X Y V W : Type 0} (a : Injection X Y) (b : Injection V W) (y : Name Y W) (x : Name X V) → name_back a.back b.back y ≡ Some x → rename_name a.to b.to x ≡ y
from a b (Old y) x e = by_case (a.back y) refl
  where
    by_case : (q : Option _) → a.back y ≡ q → rename_name a.to b.to x ≡ Old y
    by_case None k = absurd (none_some x (sym (ap (option_map Old) k) ∙ e))
    by_case (Some z) k = ap (rename_name a.to b.to) (sym (some_same (Old z) x (sym (ap (option_map Old) k) ∙ e))) ∙ ap Old (a.from y z k)
from a b (New w) x e = by_case (b.back w) refl
  where
    by_case : (q : Option _) → b.back w ≡ q → rename_name a.to b.to x ≡ New w
    by_case None k = absurd (none_some x (sym (ap (option_map New) k) ∙ e))
    by_case (Some z) k = ap (rename_name a.to b.to) (sym (some_same (New z) x (sym (ap (option_map New) k) ∙ e))) ∙ ap New (b.from w z k)

abbrev pub fresh_injection : {X Y V W : Type 0} → Injection X Y → Injection V W → Injection (Name X V) (Name Y W)
fresh_injection a b = record { to = rename_name a.to b.to; back = name_back a.back b.back; there = there a b; from = from a b }

abbrev pub fresh_renaming : {N M : Names} → Renaming N M → Renaming (fresh N) (fresh M)
fresh_renaming r = record { operation = fresh_injection r.operation r.value; block = r.block; value = fresh_injection r.value r.value }

-- trees that agree under two renamings: what is made of them agrees too
module _ {N M P : Names} {S : Contents} {A : Type 0} (d : Dialect S A) (f : Renaming N P) (g : Renaming M P) (t : Root N S) (u : Root M S) (same : rename_root (maps f) t ≡ rename_root (maps g) u) where
  module _ (v : TreeSurroundings N A) (w : TreeSurroundings M A) (z : TreeSurroundings P A) (e : Agree f v z) (h : Agree g w z) where
    pub sccp_same : (a : Root (fresh N) S) (b : Root (fresh M) S) → IsSccp d v t a → IsSccp d w u b → rename_root (maps (fresh_renaming f)) a ≡ rename_root (maps (fresh_renaming g)) b
    sccp_same a b x y = sccp_unique d z (rename_root (maps g) u) (rename_root (maps (fresh_renaming f)) a) (rename_root (maps (fresh_renaming g)) b) (subst (λ q. IsSccp d z q (rename_root (maps (fresh_renaming f)) a)) same (sccp_renamed d f v z e t a x)) (sccp_renamed d g w z h u b y)

    pub dce_same : (a : Root N S) (b : Root M S) → IsDce d v t a → IsDce d w u b → rename_root (maps f) a ≡ rename_root (maps g) b
    dce_same a b x y = dce_unique d z (rename_root (maps g) u) (rename_root (maps f) a) (rename_root (maps g) b) (subst (λ q. IsDce d z q (rename_root (maps f) a)) same (dce_renamed d f t v z e a x)) (dce_renamed d g u w z h b y)

    pub simplify_same : (a : Root N S) (b : Root M S) → IsOrderly t → IsOrderly u → IsSimplify d v t a → IsSimplify d w u b → rename_root (maps f) a ≡ rename_root (maps g) b
    simplify_same a b o p x y =
        simplify_unique d z (rename_root (maps g) u) (rename_root (maps f) a) (rename_root (maps g) b)
        (λ q c.
        phases_orderly d (all_of (rename_root (maps g) u)) z (rename_root (maps g) u) q c (renamed_orderly g u p))
        (subst (λ q. IsSimplify d z q (rename_root (maps f) a)) same (simplify_renamed d f t a v z e (λ q c. phases_apart d (all_of t) v t q c o.operations) x))
        (simplify_renamed d g u b w z h (λ q c. phases_apart d (all_of u) w u q c p.operations) y)
