-- Noting which operands go to which arguments, step by step.
use Rattle.std.proofs.Common.{◌≡◌, ◌⊎◌, inl, inr, ⊎_elim, ℕ, zero, suc, ◌+◌, ◌<◌, true, List, length, None, Some, slice_get, option_map, refl, sym, ap, ◌∙◌, subst, arith}
use Rattle.std.specs.Prelude.{replicate}
use Rattle.std.proofs.Math.ListN.{set}
use Rattle.std.proofs.lemmas.List.{length-set}
use Rattle.std.proofs.lemmas.Option.{same_Some, slice_get_within}
use Rattle.ir_program.specs.Program.{Program, OperationView, TypedValue, operation_at, arguments_at, value_in}
use Rattle.ir_program.specs.Rows.{operands_at, successors_at}
use Rattle.ir_program.specs.declared.handles.Ptr.{Ptr}
use Rattle.ir_program.specs.declared.handles.Operation.{Operation}
use Rattle.ir_program.specs.declared.handles.BasicBlock.{BasicBlock}
use Rattle.ir_trees.specs.Stands.{in_program}
use Rattle.opt_trees.specs.Dialect.{Dialect}
use Rattle.opt_inside.specs.Numbered.{Numbers}
use Rattle.opt_dce.specs.liveness.Problems.{Targets, Notes, HasNumberAt, GoesAlong, Forwards}
use Rattle.opt_dce.proofs.LivenessLemmas.Ground.{none_or, same_or, same_view, operands_here, successors_here}
use Rattle.opt_dce.proofs.LivenessLemmas.Partway.{at_set_same, at_set_other}

pub notes_none : (To : ℕ → ℕ → Type 0) (old : Targets) → ((k x : ℕ) → To k x → k < length old → ⊥) → Notes To old old
notes_none To old never = record { len = refl; sound = λ k x e. inl e; kept = λ k x e. (x, e); noted = λ k x to lt. absurd (never k x to lt) }

pub notes_put : (To : ℕ → ℕ → Type 0) (old : Targets) (index number : ℕ) → index < length old → To index number → ((k x : ℕ) → To k x → k ≡ index) → Notes To old (set old index (Some number))
notes_put To old index number lt to only = record {
  len = length-set old index (Some number);
  sound = λ k x e. ⊎_elim
      (λ (same : k ≡ index).
      let s : Some number ≡ Some x = same_Some (Some number) (Some x) (sym (at_set_same old index (Some number) lt) ∙ (ap (slice_get (set old index (Some number))) (sym same) ∙ e)) in
      inr (subst (λ i. To i x) (sym same) (subst (To index) (same_Some number x s) to)))
      (λ other. inl (sym (at_set_other old index (Some number) k other) ∙ e))
      (same_or k index);
  kept = λ k x e. ⊎_elim
      (λ (same : k ≡ index). (number, ap (slice_get (set old index (Some number))) same ∙ at_set_same old index (Some number) lt))
      (λ other. (x, at_set_other old index (Some number) k other ∙ e))
      (same_or k index);
  noted = λ k x r within. (number, ap (slice_get (set old index (Some number))) (only k x r) ∙ at_set_same old index (Some number) lt);
}

pub notes_then : (To Next All : ℕ → ℕ → Type 0) (a b c : Targets) → ((k x : ℕ) → All k x → To k x ⊎ Next k x) → ((k x : ℕ) → To k x → All k x) → ((k x : ℕ) → Next k x → All k x) → Notes To a b → Notes Next b c → Notes All a c
notes_then To Next All a b c split one two first second = record {
  len = second.len ∙ first.len;
  sound = λ k x e. ⊎_elim (λ old. ⊎_elim (λ r. inl r) (λ r. inr (one k x r)) (first.sound k x old)) (λ r. inr (two k x r)) (second.sound k x e);
  kept = λ k x e. let f = first.kept k x e in second.kept k f.0 f.1;
  noted = λ k x r lt. ⊎_elim
      (λ t. let f = first.noted k x t lt in second.kept k f.0 f.1)
      (λ m. second.noted k x m (let len = first.len in omega arith))
      (split k x r);
}

pub notes_as : (To All : ℕ → ℕ → Type 0) (a b : Targets) → ((k x : ℕ) → All k x → To k x) → ((k x : ℕ) → To k x → All k x) → Notes To a b → Notes All a b
notes_as To All a b down up notes = record {
  len = notes.len;
  sound = λ k x e. ⊎_elim (λ old. inl old) (λ r. inr (up k x r)) (notes.sound k x e);
  kept = notes.kept;
  noted = λ k x r lt. notes.noted k x (down k x r) lt;
}

earlier : (i n : ℕ) → i < n + 1 → (i < n) ⊎ (i ≡ n)
earlier i n lt = grind arith

module _ {O B : Type 0} (c : Program O B) (n : Numbers) (b : Ptr BasicBlock) (indices : List ℕ) where
  -- as far as the indices below m
  abbrev pub GoesBelow : ℕ → ℕ → ℕ → Type 0
  GoesBelow m k x = (place : ℕ) × (place < m) × (slice_get indices place ≡ Some k) × HasNumberAt c n b place x

  pub along_begins : (old : Targets) → Notes (GoesBelow 0) old old
  along_begins old = notes_none (GoesBelow 0) old (λ k x w lt. let low = w.1 in omega arith)

  pub along_step : (m index : ℕ) (a old new : Targets) → slice_get indices m ≡ Some index → Notes (GoesBelow m) a old → Notes (λ k x. (k ≡ index) × HasNumberAt c n b m x) old new → Notes (GoesBelow (m + 1)) a new
  along_step m index a old new here first second = notes_then (GoesBelow m) (λ k x. (k ≡ index) × HasNumberAt c n b m x) (GoesBelow (m + 1)) a old new
      (λ k x w. ⊎_elim
      (λ (low : w.0 < m). inl (w.0, low, w.2, w.3))
      (λ (same : w.0 ≡ m). inr (same_Some k index (sym w.2 ∙ (ap (slice_get indices) same ∙ here)), subst (λ i. HasNumberAt c n b i x) same w.3))
      (earlier w.0 m w.1))
      (λ k x w. (w.0, (let low = w.1 in omega arith), w.2, w.3))
      (λ k x w. (m, omega arith, here ∙ ap Some (sym w.0), w.1))
      first second

  pub along_ends : (m : ℕ) (a new : Targets) → ((place k : ℕ) → slice_get indices place ≡ Some k → place < m) → Notes (GoesBelow m) a new → Notes (GoesAlong c n b indices) a new
  along_ends m a new within notes = notes_as (GoesBelow m) (GoesAlong c n b indices) a new
      (λ k x w. (w.0, within w.0 k w.1, w.1, w.2))
      (λ k x w. (w.0, w.2, w.3))
      notes

module _ {O B A : Type 0} (d : Dialect (in_program O B) A) (c : Program O B) (n : Numbers) (op : Ptr Operation) (view : OperationView O) (there : operation_at c op ≡ Some view) where
  -- as far as the edges below m
  abbrev pub ForwardsBelow : ℕ → ℕ → ℕ → Type 0
  ForwardsBelow m k x = (w : Forwards d c n op k x) × (w.edge < m)

  pub edges_begin : (old : Targets) → Notes (ForwardsBelow 0) old old
  edges_begin old = notes_none (ForwardsBelow 0) old (λ k x w lt. let low = w.1 in omega arith)

  pub edges_step : (m : ℕ) (target : Ptr BasicBlock) (indices : List ℕ) (a old new : Targets) → d.is_branch view.payload ≡ true → slice_get (successors_at c op) m ≡ Some target → indices ≡ d.forwards view.payload (length (operands_at c op)) m → Notes (ForwardsBelow m) a old → Notes (GoesAlong c n target indices) old new → Notes (ForwardsBelow (m + 1)) a new
  edges_step m target indices a old new branch leads is first second = notes_then (ForwardsBelow m) (GoesAlong c n target indices) (ForwardsBelow (m + 1)) a old new
      (λ k x w. ⊎_elim
      (λ (low : w.0.edge < m). inl (w.0, low))
      (λ (same : w.0.edge ≡ m). inr (
      let one : w.0.view ≡ view = same_view c op op w.0.view view refl w.0.there there in
      let block : w.0.target ≡ target = same_Some w.0.target target (sym w.0.leads ∙ ((λ i. slice_get ((one i).successors) (same i)) ∙ (ap (λ l. slice_get l m) (sym (successors_here c op view there)) ∙ leads))) in
      let row : d.forwards w.0.view.payload (length w.0.view.operands) w.0.edge ≡ indices = (λ i. d.forwards ((one i).payload) (length ((one i).operands)) (same i)) ∙ (ap (λ l. d.forwards view.payload (length l) m) (sym (operands_here c op view there)) ∙ sym is) in
      (w.0.place, ap (λ l. slice_get l w.0.place) (sym row) ∙ w.0.gives, subst (λ z. HasNumberAt c n z w.0.place x) block w.0.takes)))
      (earlier w.0.edge m w.1))
      (λ k x w. (w.0, (let low = w.1 in omega arith)))
      (λ k x w. (
        record {
          view = view;
          there = there;
          branch = branch;
          edge = m;
          target = target;
          leads = ap (λ l. slice_get l m) (sym (successors_here c op view there)) ∙ leads;
          place = w.0;
          gives = ap (λ l. slice_get l w.0) (ap (λ l. d.forwards view.payload (length l) m) (sym (operands_here c op view there)) ∙ sym is) ∙ w.1;
          takes = w.2;
        },
        omega arith,
      ))
      first second

  pub edges_end : (m : ℕ) (a new : Targets) → m ≡ length (successors_at c op) → Notes (ForwardsBelow m) a new → Notes (Forwards d c n op) a new
  edges_end m a new all notes = notes_as (ForwardsBelow m) (Forwards d c n op) a new
      (λ k x w.
      let one : w.view ≡ view = same_view c op op w.view view refl w.there there in
      let at : slice_get (successors_at c op) w.edge ≡ Some w.target = ap (λ l. slice_get l w.edge) (successors_here c op view there) ∙ (ap (λ (z : OperationView O). slice_get z.successors w.edge) (sym one) ∙ w.leads) in
      (w, (let lt = slice_get_within (successors_at c op) w.edge w.target at in omega arith)))
      (λ k x w. w.0)
      notes

-- at first no operand has a target
pub no_targets : (m k x : ℕ) → slice_get (replicate m None) k ≡ Some (Some x) → ⊥
no_targets zero k x e = cc
no_targets (suc m) zero x e = cc
no_targets (suc m) (suc k) x e = no_targets m k x e

-- an argument at a place is one of the block's
pub place_within : {O B : Type 0} (c : Program O B) (n : Numbers) (b : Ptr BasicBlock) (place x : ℕ) → HasNumberAt c n b place x → place < length (arguments_at c b)
place_within c n b place x w = ⊎_elim
    (λ e. let gone : value_in (arguments_at c b) place ≡ None = ap (option_map (λ (t : TypedValue). t.value)) e in absurd (cc (gone, w.takes)))
    (λ t. slice_get_within (arguments_at c b) place t.0 t.1)
    (none_or (slice_get (arguments_at c b) place))
