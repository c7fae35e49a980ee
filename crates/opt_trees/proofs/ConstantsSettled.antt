-- With constants put in, a second time no value gets one.
use Rattle.std.proofs.Common.{◌≡◌, ⊎_elim, inl, inr, ℕ, Bool, true, false, Option, Some, None, refl, sym, ap, ◌∙◌, subst}
use Rattle.std.specs.Prelude.{slice_get}
use Rattle.ir_trees.specs.Names.{Names, Contents}
use Rattle.ir_trees.specs.Renames.{names_of}
use Rattle.ir_trees.specs.Trees.{Root}
use Rattle.opt_trees.specs.Occurrences.{Has, Occurrence, occurrences_of, at_root}
use Rattle.opt_trees.specs.Dce.{TreeSurroundings}
use Rattle.opt_trees.specs.Dialect.{Dialect, Lawful}
use Rattle.opt_trees.specs.Facts.{Facts, IsMostPrecise}
use Rattle.opt_trees.specs.Sccp.{Name, Old, New, fresh, IsResult, IsArgument, IsUsed, Gets, AreMadeConstants, RenamesPins, used_as, put_root, IsSccp}
use Rattle.opt_trees.proofs.Lists.{at-map, from_some, has-from_map, none_some}
use Rattle.opt_trees.proofs.Put.{Constant, WasOld, operation_was, block_was, old_same}
use Rattle.opt_trees.proofs.FactsKept.{used, facts_kept}
use Rattle.opt_trees.proofs.FactsAfter.{no_new}

clash : (b : Bool) → b ≡ true → b ≡ false → ⊥
clash b e f = cc

module _ {N : Names} {S : Contents} {A : Type 0} (d : Dialect S A) (law : Lawful d) (w : TreeSurroundings N A) (t : Root N S) (k : Facts N A) (made : N.value → Option A) (is_made : AreMadeConstants d w t k made) (z : TreeSurroundings (fresh N) A) (pins : RenamesPins {N = N} made w z) (l : Facts (fresh N) A) (runs : (b : N.block) → l.runs b ≡ k.runs b) (of : (v : N.value) → l.of (Old v) ≡ k.of v) where
  abbrev after : Root (fresh N) S
  after = put_root {N = N} d made t

  -- the value was used, and got no constant
  abbrev IsLeft : N.value → Type 0
  IsLeft v = (made v ≡ None) × IsUsed w t v

  -- a use that names a value by its old name was a use of it
  left_is : (u v : N.value) (q : Option A) → made u ≡ q → IsUsed w t u → used_as u q ≡ Old v → IsLeft v
  left_is u v None e h is = let s : u ≡ v = cc in (subst (λ x. made x ≡ None) s e, subst (IsUsed w t) s h)
  left_is u v (Some a) e h is = absurd (cc is)

  used_was : (v : N.value) → IsUsed z after (Old v) → IsLeft v
  used_was v p = ⊎_elim
      (λ b. ⊎_elim (constant_user b.0 b.1 b.2.operand) (old_user b.0 b.1 b.2.operand) (operation_was d made t.regions (at_root t) (at_root after) tt b.0 b.2.stands))
      (λ q. ⊎_elim
      (λ h. let o = has-from_map (used made) (Old v) t.head.operands h in left_is o.it v (made o.it) refl (inr (inl o.stands)) o.is)
      (λ e. let o = pins (Old v) e in left_is o.0 v (made o.0) refl (inr (inr o.1)) o.2) q)
      p
    where
      constant_user : (o : Occurrence (fresh N) S) (i : ℕ) → slice_get o.head.operands i ≡ Some (Old v) → Constant d made o → IsLeft v
      constant_user o i e c = absurd (none_some (Old v) (ap (λ h. slice_get h.operands i) (sym c.3.head) ∙ e))

      old_user : (o : Occurrence (fresh N) S) (i : ℕ) → slice_get o.head.operands i ≡ Some (Old v) → WasOld d made (occurrences_of t) o → IsLeft v
      old_user o i e y =
          let u = from_some (used made) (slice_get y.it.head.operands i) (Old v) (sym (at-map (used made) y.it.head.operands i) ∙ ap (λ h. slice_get h.operands i) (sym y.is.head) ∙ e) in
          left_is u.it v (made u.it) refl (inl (y.it, i, record { stands = y.stands; operand = u.some })) u.is

  -- a constant that was put in is no operation whose results get constants
  no_constant : (o : Occurrence (fresh N) S) → d.is_constant o.head.content ≡ false → Constant d made o → ⊥
  no_constant o e c = clash (d.is_constant o.head.content) (ap (λ h. d.is_constant h.content) c.3.head ∙ (law.constant_folds c.2 c.1 c.3.made_by).0) e

  result_was : (v : N.value) → IsResult d after l (Old v) → IsResult d t k v
  result_was v p = ⊎_elim (λ c. absurd (no_constant p.definer p.no_constant c)) by_old (operation_was d made t.regions (at_root t) (at_root after) tt p.definer p.stands)
    where
      by_old : WasOld d made (occurrences_of t) p.definer → IsResult d t k v
      by_old y = record {
        definer = y.it;
        stands = y.stands;
        runs = sym (runs y.it.site.label.name) ∙ ap l.runs (sym y.is.block) ∙ p.runs;
        folds = ap (λ h. d.is_foldable h.content) (sym y.is.head) ∙ p.folds;
        no_constant = ap (λ h. d.is_constant h.content) (sym y.is.head) ∙ p.no_constant;
        result = old_same v y.it.head.results (subst (λ h. Has (Old v) (names_of h.results)) y.is.head p.result);
      }

  result_new : (v : N.value) → IsResult d after l (New v) → ⊥
  result_new v p = ⊎_elim
      (λ c. no_constant p.definer p.no_constant c)
      (λ y. no_new v y.it.head.results (subst (λ h. Has (New v) (names_of h.results)) y.is.head p.result))
      (operation_was d made t.regions (at_root t) (at_root after) tt p.definer p.stands)

  argument_was : (v : N.value) → IsArgument after l.runs (Old v) → IsArgument t k.runs v
  argument_was v p =
      let y = block_was d made t.regions (at_root t) (at_root after) p.definer p.stands in
      record {
        definer = y.0;
        stands = y.1;
        in_run = sym (runs y.0.label.name) ∙ ap (λ x. l.runs x.name) (sym y.2) ∙ p.in_run;
        argument = old_same v y.0.label.arguments (subst (λ x. Has (Old v) (names_of x.arguments)) y.2 p.argument);
      }

  argument_new : (v : N.value) → IsArgument after l.runs (New v) → ⊥
  argument_new v p =
      let y = block_was d made t.regions (at_root t) (at_root after) p.definer p.stands in
      no_new v y.0.label.arguments (subst (λ x. Has (New v) (names_of x.arguments)) y.2 p.argument)

  none_gets : (v : Name N.value N.value) (a : A) → Gets d z after l v a → ⊥
  none_gets (New v) a g = ⊎_elim (λ x. result_new v x) (λ x. argument_new v x) g.place
  none_gets (Old v) a g =
      let u = used_was v g.used in
      none_some a (sym u.0 ∙ is_made.all v a (record {
        known = sym (of v) ∙ g.known;
        maker = g.maker;
        made_by = g.made_by;
        place = ⊎_elim (λ x. inl (result_was v x)) (λ x. inr (argument_was v x)) g.place;
        used = u.1;
      }))

-- by the most precise facts of what sccp makes no value gets a constant
pub sccp_settles : {N : Names} {S : Contents} {A : Type 0} (d : Dialect S A) (w : TreeSurroundings N A) (z : TreeSurroundings (fresh N) A) (t : Root N S) (after : Root (fresh N) S) (l : Facts (fresh N) A) → Lawful d → (p : IsSccp d w t after) → RenamesPins {N = N} p.made w z → IsMostPrecise d after l → (v : Name N.value N.value) (a : A) → Gets d z after l v a → ⊥
sccp_settles {N} d w z t after l law p pins best v a g =
    let kept = facts_kept d w t after p.facts l law p p.best best in
    none_gets d law w t p.facts p.made p.is_made z pins l kept.runs kept.of v a (subst (λ u. Gets d z u l v a) p.is g)
