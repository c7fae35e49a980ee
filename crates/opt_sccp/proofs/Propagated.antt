-- What is made of a program by the list that was decided.
use Rattle.std.proofs.Common.{◌≡◌, ◌≢◌, ⊎_elim, inl, inr, ℕ, suc, true, false, List, [], ◌∷◌, take, length, Some, None, refl, sym, ◌∙◌, subst, arith}
use Rattle.std.specs.Prelude.{nat_eq}
use Rattle.ir_program.specs.Adds.{SomeCame}
use Rattle.ir_program.specs.Program.{Program}
use Rattle.ir_program.specs.declared.handles.Ptr.{Ptr}
use Rattle.ir_program.specs.declared.handles.Operation.{Operation}
use Rattle.ir_program.specs.declared.handles.Value.{Value}
use Rattle.ir_trees.specs.Stands.{by_handle, in_program, ProgramTree, StandsFor}
use Rattle.ir_trees.proofs.ListEdited.{AreOrderly}
use Rattle.opt_dialect.specs.declared.status.IRStatus.TheVariants.{Unchanged, Changed}
use Rattle.opt_trees.specs.Dce.{TreeSurroundings}
use Rattle.opt_trees.specs.Dialect.{Dialect}
use Rattle.opt_trees.specs.Facts.{Facts}
use Rattle.opt_trees.specs.Sccp.{Gets}
use Rattle.opt_trees.proofs.Best.{best_unique}
use Rattle.opt_sccp.specs.declared.putting.Made.{Made}
use Rattle.opt_sccp.specs.Made.{made_of, IsPutList, PutsList}
use Rattle.opt_sccp.specs.Sccp.{IsDecided, PinsTaken, Propagates, PropagatesPart}
use Rattle.opt_sccp.proofs.Decided.{found_entry}
use Rattle.opt_sccp.proofs.Definitions.{AreDefined}
use Rattle.opt_sccp.proofs.PuttingLoop.{begins, ends, has_take}

-- a list of length 0, and another
pub empty_is : {X : Type 0} (xs : List X) → nat_eq (length xs) 0 ≡ true → xs ≡ []
empty_is [] h = refl
empty_is (x ∷ xs) h = absurd (not_zero (length xs) h)
  where
    not_zero : (n : ℕ) → nat_eq (suc n) 0 ≡ true → ⊥
    not_zero n e = grind arith

pub not_empty : {X : Type 0} (xs : List X) → nat_eq (length xs) 0 ≡ false → xs ≢ []
not_empty xs h e = let n : nat_eq (length xs) 0 ≡ true = subst (λ ys. nat_eq (length ys) 0 ≡ true) (sym e) refl in let f : true ≡ false = sym n ∙ h in cc

module _ {O B A : Type 0} (d : Dialect (in_program O B) A) (c : Program O B) (op : Ptr Operation) where
  -- what is said of the uses outside the root doesn't matter otherwise
  gets_anyhow : (w z : TreeSurroundings by_handle A) → PinsTaken c op w → PinsTaken c op z → (t : ProgramTree O B) (k : Facts by_handle A)
      (v : Value) (a : A) → Gets d w t k v a → Gets d z t k v a
  gets_anyhow w z pw pz t k v a g = record {
    known = g.known;
    maker = g.maker;
    made_by = g.made_by;
    place = g.place;
    used = ⊎_elim (λ b. inl b) (λ q. ⊎_elim (λ h. inr (inl h)) (λ e. inr (inr ((pz v).1 ((pw v).0 e)))) q) g.used;
  }

  nothing_to_put : IsPutList d c op []
  nothing_to_put = record { below = λ m h. absurd h; ordered = λ i j m n g h. cc; made_by = λ m h. absurd h }

  -- where nothing is put in, nothing changes
  pub nothing_put : AreOrderly c → AreDefined c → PutsList d c c op []
  nothing_put orderly defined = ends d c op c [] 0 (begins d c op orderly defined []) nothing_to_put

  pub nothing_in : PutsList d c c op [] → (t : ProgramTree O B) → StandsFor c op t → PropagatesPart d c c op t
  nothing_in puts t stands =
      record {
        made = made_of [];
        below = λ v a h. cc;
        gets = λ w pins k best v a h. cc;
        made_by = λ v a h. cc;
        puts = puts t stands;
      }

  pub unchanged_in : (ms : List (Made A)) → ms ≡ [] → IsDecided d c op ms → PutsList d c c op [] → (t : ProgramTree O B) → StandsFor c op t → Propagates d c c op Unchanged t
  unchanged_in ms e decided puts t stands =
      record { made = made_of []; decided = (subst (λ l. IsDecided d c op l) e decided).in_tree t stands; puts = puts t stands; answers = (λ s v. refl, λ n. refl) }

  -- a list that isn't empty has a constant for some value
  some_made : (ms : List (Made A)) → IsDecided d c op ms → ms ≢ [] → ((v : Value) → made_of ms v ≡ None) → ⊥
  some_made [] decided ne none = ne refl
  some_made (m ∷ ms) decided ne none = let s : None ≡ Some m.constant = sym (none m.value) ∙ decided.one m (inl refl) in cc

  module _ (new : Program O B) (ms : List (Made A)) (decided : IsDecided d c op ms) where
    pub changed_in : ms ≢ [] → PutsList d c new op ms → (t : ProgramTree O B) → StandsFor c op t → Propagates d c new op Changed t
    changed_in ne puts t stands = record {
      made = made_of ms;
      decided = decided.in_tree t stands;
      puts = puts t stands;
      answers = (λ s. cc, λ none. absurd (some_made ms decided ne none));
    }

    pub part_in : SomeCame ms (PutsList d c new op) → (t : ProgramTree O B) → StandsFor c op t → PropagatesPart d c new op t
    part_in came t stands =
        let i = decided.in_tree t stands in
        record {
          made = made_of (take came.0 ms);
          below = λ v a h. decided.list.below (record { value = v; constant = a })
              (has_take ms came.0 (record { value = v; constant = a }) (found_entry (take came.0 ms) v a h));
          gets = λ w pins k best v a h.
              let has = has_take ms came.0 (record { value = v; constant = a }) (found_entry (take came.0 ms) v a h) in
              subst (λ f. Gets d w t f v a) (best_unique d t i.facts k i.best best) (gets_anyhow i.around w i.pins pins t i.facts v a (i.is_made.gets v a (decided.one (record { value = v; constant = a }) has)));
          made_by = λ v a h. decided.list.made_by (record { value = v; constant = a })
              (has_take ms came.0 (record { value = v; constant = a }) (found_entry (take came.0 ms) v a h));
          puts = came.2 t stands;
        }
