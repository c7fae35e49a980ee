-- What the passes refuse they refuse under other names.
use Rattle.std.proofs.Common.{ap, ◌∙◌, subst, ⊎_elim, inl, inr}
use Rattle.std.specs.Prelude.{map}
use Rattle.ir_trees.specs.Names.{Names, Contents}
use Rattle.ir_trees.specs.Renames.{rename_root}
use Rattle.ir_trees.specs.Trees.{Root}
use Rattle.opt_rows.specs.Known.{asked}
use Rattle.opt_trees.specs.Occurrences.{rename_occurrence, Renaming, maps}
use Rattle.opt_trees.specs.Dialect.{Dialect}
use Rattle.opt_trees.specs.Facts.{Facts, IsMostPrecise, IsLacking}
use Rattle.opt_trees.specs.Dce.{TreeSurroundings, Agree}
use Rattle.opt_trees.specs.Simplify.{IsUsedBelow, LosesUse}
use Rattle.opt_trees.proofs.Lists.{at-to, has-map}
use Rattle.opt_trees.proofs.Best.{best_unique}
use Rattle.opt_trees.proofs.FactsRenamed.{pushed, pulled_pushed, best_pushed, asked_under}
use Rattle.opt_trees.proofs.DceRenamed.{operation_to, value_to, same_value}

module _ {N M : Names} {S : Contents} {A : Type 0} (d : Dialect S A) (r : Renaming N M) (t : Root N S) where
  lacking_pushed : (k : Facts N A) → IsLacking d t k → IsLacking d (rename_root (maps r) t) (pushed d r k)
  lacking_pushed k h = record {
    user = rename_occurrence (maps r) h.user;
    stands = operation_to r t h.user h.stands;
    runs = ap (λ f. f.runs h.user.site.label.name) (pulled_pushed d r k) ∙ h.runs;
    ssa = h.ssa;
    asks = h.asks;
    lacks = asked_under d r (pushed d r k) h.user.head ∙ ap (λ f. asked (map f.of h.user.head.operands)) (pulled_pushed d r k) ∙ h.lacks;
  }

  pub lacking_renamed : (k : Facts N A) (l : Facts M A) → IsMostPrecise d t k → IsMostPrecise d (rename_root (maps r) t) l → IsLacking d t k → IsLacking d (rename_root (maps r) t) l
  lacking_renamed k l a b h = subst (IsLacking d (rename_root (maps r) t)) (best_unique d (rename_root (maps r) t) (pushed d r k) l (best_pushed d r t k a) b) (lacking_pushed k h)

module _ {N M : Names} {S : Contents} {A : Type 0} (r : Renaming N M) (t after : Root N S) (w : TreeSurroundings N A) (w' : TreeSurroundings M A) (agree : Agree r w w') where
  used_renamed : (v : N.value) → IsUsedBelow after v → IsUsedBelow (rename_root (maps r) after) (r.value.to v)
  used_renamed v h = record {
    user = rename_occurrence (maps r) h.user;
    place = h.place;
    operand = record { stands = operation_to r after h.user h.operand.stands; operand = at-to r.value h.user.head.operands h.place v h.operand.operand };
  }

  pub loses_renamed : LosesUse w t after → LosesUse w' (rename_root (maps r) t) (rename_root (maps r) after)
  loses_renamed h = record {
    value = r.value.to h.value;
    was = value_to r t h.value t.regions h.was;
    went = λ m. h.went (same_value r after h.value after.regions m);
    named =
        ⊎_elim
        (λ u. inl (used_renamed h.value u))
        (λ u. inr (⊎_elim (λ o. inl (has-map r.value.to h.value t.head.operands o)) (λ p. inr (agree.pins h.value ∙ p)) u))
        h.named;
  }
