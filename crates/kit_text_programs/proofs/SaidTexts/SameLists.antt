-- Lists of names that are alike: those of which none comes twice, and those of values with their numbers.
use Rattle.std.proofs.Common.{◌≡◌, ◌↔◌, ℕ, List, Option, Some, None, option_map, slice_get, refl, sym, ap, ◌∙◌, subst}
use Rattle.std.proofs.lemmas.Option.{none-some, same_Some, slice_get-map}
use Rattle.ir_print.specs.Shown.{Pairs}
use Rattle.ir_program.specs.declared.handles.BasicBlock.{BasicBlock}
use Rattle.ir_program.specs.declared.handles.Ptr.{Ptr}
use Rattle.ir_program.specs.declared.handles.Value.{Value}
use Rattle.ir_trees.specs.Renames.{RepeatAlike}
use Rattle.ir_trees.specs.Searched.{AreDistinct}
use Rattle.ir_trees.proofs.Alike.{nothing, AsLong}
use Rattle.text_rereading.specs.Rereading.{Numbering, Named}
use Rattle.kit_text_programs.specs.Laws.{HaveOwnNumbers}
use Rattle.kit_text_programs.specs.Alike.{AreBoth}
use Rattle.kit_text_programs.proofs.AlikeLists.{both_at}

none_of : {X : Type 0} (o : Option X) → option_map (nothing {X = X}) o ≡ None → o ≡ None
none_of None e = refl
none_of (Some x) e = absurd (none-some tt (sym e))

-- what stands at two indices of a list that names nothing twice stands at them in a list that is as long
same_there : {X Y : Type 0} (xs : List X) (ys : List Y) → AreDistinct xs → AsLong xs ys → (j k : ℕ)
    → slice_get xs j ≡ slice_get xs k → slice_get ys j ≡ slice_get ys k
same_there {X} {Y} xs ys distinct long j k s = by (slice_get xs j) refl
  where
    past : (i : ℕ) → slice_get xs i ≡ None → slice_get ys i ≡ None
    past i e = none_of (slice_get ys i) (sym (slice_get-map (nothing {X = Y}) ys i)
        ∙ sym (ap (λ (l : List (Unit {0})). slice_get l i) long) ∙ slice_get-map (nothing {X = X}) xs i
        ∙ ap (option_map (nothing {X = X})) e)

    by : (o : Option X) → slice_get xs j ≡ o → slice_get ys j ≡ slice_get ys k
    by None e = past j e ∙ sym (past k (sym s ∙ e))
    by (Some x) e = ap (slice_get ys) (distinct j k x e (sym s ∙ e))

-- lists of one length that name nothing twice are alike
pub distinct_alike : {X Y : Type 0} (xs : List X) (ys : List Y) → AreDistinct xs → AreDistinct ys → AsLong xs ys
    → RepeatAlike xs ys
distinct_alike xs ys a b long j k = (same_there xs ys a long j k, same_there ys xs b (sym long) j k)

module _ {X : Type 0} (R : X → ℕ → Type 0) (single : (x y : X) (n : ℕ) → R x n → R y n → x ≡ y)
    (own : (x : X) (n m : ℕ) → R x n → R x m → n ≡ m) where
  both_same : (o p : Option X) (m n : Option ℕ) → AreBoth R o m → AreBoth R p n → (o ≡ p) ↔ (m ≡ n)
  both_same None p (Some m) n a b = absurd a
  both_same (Some v) p None n a b = absurd a
  both_same None None None None a b = ((λ e. refl), (λ e. refl))
  both_same None None None (Some n) a b = absurd b
  both_same None (Some w) None None a b = absurd b
  both_same None (Some w) None (Some n) a b = ((λ e. absurd (none-some w e)), (λ e. absurd (none-some n e)))
  both_same (Some v) None (Some m) None a b =
      ((λ e. absurd (none-some v (sym e))), (λ e. absurd (none-some m (sym e))))
  both_same (Some v) None (Some m) (Some n) a b = absurd b
  both_same (Some v) (Some w) (Some m) None a b = absurd b
  both_same (Some v) (Some w) (Some m) (Some n) a b = (
    (λ e. ap Some (own w m n (subst (λ x. R x m) (same_Some v w e) a) b)),
    (λ e. ap Some (single v w n (subst (λ k. R v k) (same_Some m n e) a) b)),
  )

  -- what has numbers is alike them
  pub numbers_alike : (vs : List X) (ns : List ℕ) → Pairs R vs ns → RepeatAlike vs ns
  numbers_alike vs ns h j k = both_same (slice_get vs j) (slice_get vs k) (slice_get ns j) (slice_get ns k)
      (both_at R vs ns h j) (both_at R vs ns h k)

-- values and blocks are alike their numbers
pub values_alike : (numbering : Numbering) → HaveOwnNumbers numbering → (vs : List Value) (ns : List ℕ)
    → Pairs (Named numbering).value vs ns → RepeatAlike vs ns
values_alike numbering own vs ns h = numbers_alike (Named numbering).value (λ v w n a b. same_Some v w (sym a ∙ b))
    (λ v n m a b. own.values n m v v a b refl) vs ns h

pub blocks_alike : (numbering : Numbering) → HaveOwnNumbers numbering → (bs : List (Ptr BasicBlock)) (ns : List ℕ)
    → Pairs (Named numbering).block bs ns → RepeatAlike bs ns
blocks_alike numbering own bs ns h = numbers_alike (Named numbering).block (λ b c n x y. same_Some b c (sym x ∙ y))
    (λ b n m x y. own.blocks n m b x y) bs ns h
