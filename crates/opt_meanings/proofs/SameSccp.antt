-- Of trees that are the same up to names sccp makes trees that are the same up to names.
use Rattle.std.proofs.Common.{◌≡◌, ⊎_elim, inl, inr, ◌⊎◌, true, false, refl, sym, subst}
use Rattle.ir_trees.specs.Names.{Names, Contents}
use Rattle.ir_trees.specs.Renames.{rename_root, HaveTests, IsSameUpToNames}
use Rattle.ir_trees.specs.Trees.{Root}
use Rattle.opt_trees.specs.Dce.{TreeSurroundings, Agree}
use Rattle.opt_trees.specs.Dialect.{Dialect}
use Rattle.opt_trees.specs.Facts.{Facts}
use Rattle.opt_trees.specs.Occurrences.{Has, defined_in, at_root, maps}
use Rattle.opt_trees.specs.Sccp.{fresh, fresh_maps, IsResult, IsArgument, Gets, IsSccp}
use Rattle.opt_trees.proofs.Defined.{result_defined, argument_defined}
use Rattle.opt_trees.proofs.SccpRenamed.{sccp_commutes}
use Rattle.opt_meanings.specs.Laws.{NonePinned}
use Rattle.opt_meanings.proofs.Permuted.{permuted}
use Rattle.opt_meanings.proofs.RenamedSame.{fresh_same}
use Rattle.opt_meanings.proofs.SameDce.{nothing_around}

no_true : false ≡ true → ⊥
no_true e = cc e

module _ {N : Names} {S : Contents} {A : Type 0} (d : Dialect S A) (w : TreeSurroundings N A) (t : Root N S) (none : NonePinned w t) (k : Facts N A) where
  abbrev w0 : TreeSurroundings N A
  w0 = nothing_around

  -- a value that may get a constant is defined below the root
  placed_defined : (v : N.value) → IsResult d t k v ⊎ IsArgument t k.runs v → Has v (defined_in t.regions)
  placed_defined v p = ⊎_elim
      (λ x. result_defined t.regions (at_root t) x.definer v x.stands x.result)
      (λ x. argument_defined t.regions (at_root t) x.definer v x.stands x.argument) p

  -- so it is used by the tree alone
  gets_to : (v : N.value) (a : A) → Gets d w t k v a → Gets d w0 t k v a
  gets_to v a g = record {
    known = g.known;
    maker = g.maker;
    made_by = g.made_by;
    place = g.place;
    used = ⊎_elim (λ b. inl b) (λ q. ⊎_elim (λ h. inr (inl h)) (λ e. absurd (none v (placed_defined v g.place) e)) q) g.used;
  }

  gets_from : (v : N.value) (a : A) → Gets d w0 t k v a → Gets d w t k v a
  gets_from v a g = record {
    known = g.known;
    maker = g.maker;
    made_by = g.made_by;
    place = g.place;
    used = ⊎_elim (λ b. inl b) (λ q. ⊎_elim (λ h. inr (inl h)) (λ e. absurd (no_true e)) q) g.used;
  }

-- the same is made where the context says nothing
pub sccp_alone : {N : Names} {S : Contents} {A : Type 0} (d : Dialect S A) (w : TreeSurroundings N A) (t : Root N S) → NonePinned w t →
    (after : Root (fresh N) S) → IsSccp d w t after → IsSccp d (nothing_around {N = N} {A = A}) t after
sccp_alone d w t none after p = record {
  facts = p.facts;
  best = p.best;
  made = p.made;
  is_made = record {
    gets = λ v a e. gets_to d w t none p.facts v a (p.is_made.gets v a e);
    all = λ v a g. p.is_made.all v a (gets_from d w t none p.facts v a g);
  };
  is = p.is;
}

-- what is made of the one is what is made of the other, under other names
pub same_sccps : {N : Names} {S : Contents} {A : Type 0} (d : Dialect S A) → HaveTests N → (t u : Root N S) → IsSameUpToNames t u →
    (w z : TreeSurroundings N A) → NonePinned w t → NonePinned z u →
    (a b : Root (fresh N) S) → IsSccp d w t a → IsSccp d z u b → IsSameUpToNames a b
same_sccps {N} {S} {A} d tests t u s w z pw pz a b x y =
    let r = permuted t u tests s in
    let w0 : TreeSurroundings N A = nothing_around in
    let agree : Agree r.0 w0 w0 = record { knows = λ v. refl; pins = λ v. refl } in
    let is : b ≡ rename_root (fresh_maps {N = N} {M = N} (maps r.0)) a =
    sccp_commutes d r.0 w0 w0 agree t a b (sccp_alone d w t pw a x) (subst (λ q. IsSccp d w0 q b) (sym r.1) (sccp_alone d z u pz b y)) in
    subst (λ q. IsSameUpToNames a q) (sym is) (fresh_same r.0 a)
