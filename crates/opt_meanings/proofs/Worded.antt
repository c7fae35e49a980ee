-- What holds of a dialect and what is around a tree holds of them in other words.
use Rattle.std.proofs.Common.{◌≡◌, List, [], ◌∷◌, map, Option, Some, None, option_map, refl, sym, ap, subst}
use Rattle.ir_trees.specs.Names.{Names, Contents}
use Rattle.ir_trees.specs.Trees.{Root}
use Rattle.opt_trees.specs.Dce.{TreeSurroundings, IsDce}
use Rattle.opt_trees.specs.Dialect.{Dialect}
use Rattle.opt_trees.specs.Sccp.{fresh, IsSccp}
use Rattle.opt_trees.specs.Simplify.{IsSimplify}
use Rattle.opt_meanings.specs.Meanings.{Bijection, worded, worded_around}
use std.Equiv.{◌≃◌, id_equiv, iso_to_equiv}
use std.Univalence.{equiv_j}

-- the bijection of an equivalence
abbrev bijection_of : {A B : Type 0} → A ≃ B → Bijection A B
bijection_of e = record {
  to = e.0;
  from = λ b. (e.1 b).0.0;
  there = λ a. sym (ap (λ f. f.0) ((e.1 (e.0 a)).1 (a, refl)));
  back = λ b. (e.1 b).0.1;
}

-- each attribute for itself
own_word : {A : Type 0} (x : Option A) → option_map (λ (a : A). a) x ≡ x
own_word None = refl
own_word (Some a) = refl

-- in a list, too
own_words : {A : Type 0} (xs : List (Option A)) → map (option_map (λ (a : A). a)) xs ≡ xs
own_words [] = refl
own_words (x ∷ xs) = λ i. own_word x i ∷ own_words xs i

-- the dialect in its own words
own_worded : {S : Contents} {A : Type 0} (d : Dialect S A) → worded (bijection_of (id_equiv A)) d ≡ d
unfolding id_equiv
own_worded d = λ i. record {
  is_foldable = d.is_foldable;
  fold = λ c ts xs. own_words (d.fold c ts (own_words xs i)) i;
  is_branch = d.is_branch;
  feasible = λ c xs k. d.feasible c (own_words xs i) k;
  edge = λ c xs. d.edge c (own_words xs i);
  forwards = d.forwards;
  is_terminator = d.is_terminator;
  has_effects = d.has_effects;
  can_remove = d.can_remove;
  plain = d.plain;
  is_plain = d.is_plain;
  constant = d.constant;
  constant_type = d.constant_type;
  is_constant = d.is_constant;
  is_ssa = d.is_ssa;
  drop_operands = d.drop_operands;
  drop_names = d.drop_names;
}

-- what is around in its own words
own_around : {N : Names} {A : Type 0} (a : TreeSurroundings N A) → worded_around (bijection_of (id_equiv A)) a ≡ a
unfolding id_equiv
own_around a = λ i. record { alone = λ v. own_word (a.alone v) i; is_pinned = a.is_pinned }

module _ {N : Names} {S : Contents} where
  -- what holds in some words holds in others: by univalence it is enough that it does in its own
  in_other_words : {A B : Type 0} (P : (X : Type 0) → Dialect S X → TreeSurroundings N X → Type 0) (w : Bijection A B)
      (d : Dialect S A) (a : TreeSurroundings N A) → P A d a → P B (worded w d) (worded_around w a)
  in_other_words {A} {B} P w d a p =
      equiv_j
      (λ X e. (d : Dialect S X) (a : TreeSurroundings N X) → P X d a → P B (worded (bijection_of e) d) (worded_around (bijection_of e) a))
      (λ d a p. subst (λ z. P B z (worded_around (bijection_of (id_equiv B)) a)) (sym (own_worded d))
      (subst (λ z. P B d z) (sym (own_around a)) p))
      (iso_to_equiv (record { fun = w.to; inv = w.from; rinv = w.back; linv = w.there }))
      d a p

  -- what sccp, dce and simplify make of a tree they make of it in other words
  module _ {A B : Type 0} (w : Bijection A B) (d : Dialect S A) where
    pub sccp_worded : (a : TreeSurroundings N A) (t : Root N S) (after : Root (fresh N) S) → IsSccp d a t after →
        IsSccp (worded w d) (worded_around w a) t after
    sccp_worded a t after x = in_other_words (λ X e b. IsSccp e b t after) w d a x

    pub dce_worded : (a : TreeSurroundings N A) (t after : Root N S) → IsDce d a t after →
        IsDce (worded w d) (worded_around w a) t after
    dce_worded a t after x = in_other_words (λ X e b. IsDce e b t after) w d a x

    pub simplify_worded : (a : TreeSurroundings N A) (t after : Root N S) → IsSimplify d a t after →
        IsSimplify (worded w d) (worded_around w a) t after
    simplify_worded a t after x = in_other_words (λ X e b. IsSimplify e b t after) w d a x
