-- A tree is the same up to names under a renaming.
use Rattle.std.proofs.Common.{◌≡◌, sym, ap, ◌∙◌}
use Rattle.ir_trees.specs.Names.{Names, Contents}
use Rattle.ir_trees.specs.Renames.{rename_root, IsSameUpToNames}
use Rattle.ir_trees.specs.Trees.{Root}
use Rattle.ir_trees.proofs.Same.{same_renamed}
use Rattle.opt_trees.specs.Occurrences.{Injection, Renaming, maps}
use Rattle.opt_trees.specs.Sccp.{Name, Old, New, fresh, rename_name, fresh_maps}
use Rattle.opt_trees.proofs.Lists.{some_same}

-- names stay apart
pub apart : {X Y : Type 0} (f : Injection X Y) (x y : X) → f.to x ≡ f.to y → x ≡ y
apart f x y e = some_same x y (sym (f.there x) ∙ ap f.back e ∙ f.there y)

-- new names, too
fresh_apart : {X Y V W : Type 0} (f : Injection X Y) (g : Injection V W) (x y : Name X V) →
    rename_name f.to g.to x ≡ rename_name f.to g.to y → x ≡ y
fresh_apart f g (Old x) (Old y) e = let same : f.to x ≡ f.to y = cc in ap Old (apart f x y same)
fresh_apart f g (Old x) (New y) e = cc
fresh_apart f g (New x) (Old y) e = cc
fresh_apart f g (New x) (New y) e = let same : g.to x ≡ g.to y = cc in ap New (apart g x y same)

module _ {N M : Names} {S : Contents} (r : Renaming N M) where
  -- a tree is the same under other names
  pub renamed_same : (t : Root N S) → IsSameUpToNames t (rename_root (maps r) t)
  renamed_same t = same_renamed (maps r) t (record {
    operations = λ x y a b e. apart r.operation x y e;
    blocks = λ x y a b e. apart r.block x y e;
    values = λ x y a b e. apart r.value x y e;
  })

  -- what sccp makes of it is the same under other names
  pub fresh_same : (t : Root (fresh N) S) → IsSameUpToNames t (rename_root (fresh_maps {N = N} {M = M} (maps r)) t)
  fresh_same t = same_renamed (fresh_maps {N = N} {M = M} (maps r)) t (record {
    operations = λ x y a b e. fresh_apart r.operation r.value x y e;
    blocks = λ x y a b e. apart r.block x y e;
    values = λ x y a b e. fresh_apart r.value r.value x y e;
  })
