-- Where the handles of decided branches and their new ones change places, trees are named as by the new handles.
use Rattle.std.proofs.Common.{◌≡◌, ◌≢◌, ◌⊎◌, inl, inr, ⊎_elim, ℕ, Bool, true, false, List, map, Option, Some, None, IsSome, refl, sym, ap, ◌∙◌, subst}
use Rattle.std.specs.Prelude.{if◌then◌else◌, ◌&&◌, not}
use Rattle.ir_program.specs.Program.{Program, operation_at}
use Rattle.ir_program.specs.declared.handles.Ptr.{Ptr}
use Rattle.ir_program.specs.declared.handles.Operation.{Operation}
use Rattle.ir_program.specs.declared.handles.BasicBlock.{BasicBlock}
use Rattle.ir_program.specs.declared.handles.Value.{Value}
use Rattle.ir_trees.specs.Renames.{IsOneToOne, rename_defined, rename_head, rename_label, rename, rename_root}
use Rattle.ir_trees.specs.Searched.{Lists, heads_in}
use Rattle.ir_trees.specs.Stands.{by_handle, in_program, ProgramHead, ProgramTree, StandsFor}
use Rattle.ir_trees.specs.Trees.{Sort, Regions, Tree, end, operation, block, region}
use Rattle.ir_trees.proofs.Members.{Has, has_front, has_back}
use Rattle.opt_trees.specs.Dialect.{Dialect}
use Rattle.opt_trees.specs.Simplify.{is_bare, along_edge, decide_head, decide}
use Rattle.opt_inside.proofs.Around.{HasLists}
use Rattle.opt_decide.specs.Phase.{IsUndecided, HasDecided, maps_of}
use Rattle.opt_inside.specs.Occurring.{IsBelowRoot}
use Rattle.opt_decide.specs.Planned.{AreDecisions, IsDecidedBelow, known_alone, decided_edge}
use Rattle.opt_decide.specs.declared.plan.Decision.{Decision}
use Rattle.opt_decide.proofs.Carried.{found_or_not, among_or_not}
use Rattle.opt_decide.proofs.NamesDecided.{heads_there, not_none, root_same, free_or_same}
use Rattle.opt_decide.proofs.TreesDecided.{stands_decided}

module _ {O B A : Type 0} (d : Dialect (in_program O B) A) (old new : Program O B) (op : Ptr Operation)
    (ds : List Decision) (are : AreDecisions d old op ds) (has : HasDecided d old new ds) where
  -- one of the decisions is of the operation, or made it
  abbrev Decided : Ptr Operation → Type 0
  Decided p = (x : Decision) × Lists ds x × (x.op ≡ p)

  abbrev Made : Ptr Operation → Type 0
  Made p = (x : Decision) × Lists ds x × (has.names x.op ≡ p)

  -- none of the decisions made it
  abbrev IsUnmade : Ptr Operation → Type 0
  IsUnmade p = (x : Decision) → Lists ds x → has.names x.op ≢ p

  abbrev by_made : (p : Ptr Operation) → Made p ⊎ IsUnmade p → Ptr Operation
  by_made p (inl h) = h.0.op
  by_made p (inr none) = p

  abbrev by_decided : (p : Ptr Operation) → Decided p ⊎ IsUndecided ds p → Ptr Operation
  by_decided p (inl h) = has.names p
  by_decided p (inr none) = by_made p (found_or_not (λ x. has.names x.op) ds p)

  -- each decided operation and its new name change places
  abbrev pub exchanged : Ptr Operation → Ptr Operation
  exchanged p = by_decided p (among_or_not ds p)

  -- a new name isn't there at the start
  unmade : (p : Ptr Operation) → IsSome (operation_at old p) → IsUnmade p
  unmade p live x l e = not_none (operation_at old p) live (ap (operation_at old) (sym e) ∙ (has.done x l).fresh)

  decided_live : (x : Decision) → Lists ds x → IsSome (operation_at old x.op)
  decided_live x l = subst IsSome (sym (has.done x l).there) refl

  at_decided : (x : Decision) → Lists ds x → exchanged x.op ≡ has.names x.op
  at_decided x l = by_case (among_or_not ds x.op)
    where
      by_case : (c : Decided x.op ⊎ IsUndecided ds x.op) → by_decided x.op c ≡ has.names x.op
      by_case (inl h) = refl
      by_case (inr none) = absurd (none x l refl)

  at_made : (x : Decision) → Lists ds x → exchanged (has.names x.op) ≡ x.op
  at_made x l = by_case (among_or_not ds (has.names x.op))
    where
      by_name : (c : Made (has.names x.op) ⊎ IsUnmade (has.names x.op))
          → by_made (has.names x.op) c ≡ x.op
      by_name (inl h) = has.apart h.0 x h.1 l h.2
      by_name (inr none) = absurd (none x l refl)

      by_case : (c : Decided (has.names x.op) ⊎ IsUndecided ds (has.names x.op))
          → by_decided (has.names x.op) c ≡ x.op
      by_case (inl h) = absurd (unmade h.0.op (decided_live h.0 h.1) x l (sym h.2))
      by_case (inr none) = by_name (found_or_not (λ y. has.names y.op) ds (has.names x.op))

  at_other : (p : Ptr Operation) → IsUndecided ds p → IsUnmade p → exchanged p ≡ p
  at_other p undecided other = by_case (among_or_not ds p)
    where
      by_name : (c : Made p ⊎ IsUnmade p) → by_made p c ≡ p
      by_name (inl h) = absurd (other h.0 h.1 h.2)
      by_name (inr none) = refl

      by_case : (c : Decided p ⊎ IsUndecided ds p) → by_decided p c ≡ p
      by_case (inl h) = absurd (undecided h.0 h.1 h.2)
      by_case (inr none) = by_name (found_or_not (λ y. has.names y.op) ds p)

  pub exchanged_twice : (p : Ptr Operation) → exchanged (exchanged p) ≡ p
  exchanged_twice p = ⊎_elim
      (λ h. ap (λ z. exchanged (exchanged z)) (sym h.2) ∙ ap exchanged (at_decided h.0 h.1) ∙ at_made h.0 h.1 ∙ h.2)
      (λ undecided. ⊎_elim
      (λ h. ap (λ z. exchanged (exchanged z)) (sym h.2) ∙ ap exchanged (at_made h.0 h.1) ∙ at_decided h.0 h.1 ∙ h.2)
      (λ other. ap exchanged (at_other p undecided other) ∙ at_other p undecided other)
      (found_or_not (λ x. has.names x.op) ds p))
      (among_or_not ds p)

  -- what is there goes by its new name
  pub agrees : (p : Ptr Operation) → IsSome (operation_at old p) → exchanged p ≡ has.names p
  agrees p live = ⊎_elim
      (λ h. ap exchanged (sym h.2) ∙ at_decided h.0 h.1 ∙ ap has.names h.2)
      (λ undecided. at_other p undecided (unmade p live) ∙ sym (has.same p undecided))
      (among_or_not ds p)

  pub free_or_kept : (p : Ptr Operation) → IsSome (operation_at old p)
      → (exchanged p ≡ p) ⊎ (operation_at old (exchanged p) ≡ None)
  free_or_kept p live =
      subst (λ z. (z ≡ p) ⊎ (operation_at old z ≡ None)) (sym (agrees p live)) (free_or_same d old new op ds are has p)

  -- what isn't decided goes by the name that it had
  pub kept_if : (p : Ptr Operation) → IsSome (operation_at old p) → (IsDecidedBelow d old op p → ⊥) → exchanged p ≡ p
  kept_if p live none = agrees p live ∙ has.same p (λ x l e. none (
    subst (IsBelowRoot old op) e (are.below x l),
    subst (λ z. IsSome (decided_edge d old z)) e (subst IsSome (sym (are.sound x l)) refl),
  ))

  pub root_kept : IsSome (operation_at old op) → exchanged op ≡ op
  root_kept live = agrees op live ∙ root_same d old new op ds are has

  pub exchanged_apart : (t : ProgramTree O B) → IsOneToOne (maps_of exchanged) t
  exchanged_apart t = record {
    operations = λ p q l m e. sym (exchanged_twice p) ∙ ap exchanged e ∙ exchanged_twice q;
    blocks = λ x y l m e. e;
    values = λ x y l m e. e;
  }

  along_name : (h : ProgramHead O B) (q : Option ℕ) (c : Option O) → (along_edge d h q c).name ≡ h.name
  along_name h None c = refl
  along_name h (Some i) None = refl
  along_name h (Some i) (Some c) = refl

  module _ (alone : Value → Option A) where
    name_kept : (h : ProgramHead O B) (rs : Tree by_handle (in_program O B) Regions)
        → (decide_head d alone h rs).name ≡ h.name
    name_kept h rs = by_test (is_bare d h rs && not (d.is_plain h.content))
      where
        by_test : (b : Bool)
            → (if b then along_edge d h (d.edge h.content (map alone h.operands)) d.plain else h).name ≡ h.name
        by_test true = along_name h (d.edge h.content (map alone h.operands)) d.plain
        by_test false = refl

    head_alike : (h : ProgramHead O B) → IsSome (operation_at old h.name)
        → rename_head (maps_of exchanged) h ≡ rename_head (maps_of has.names) h
    head_alike h live = let e = agrees h.name live in λ i. record {
      name = e i;
      content = h.content;
      results = map (rename_defined (λ (v : Value). v)) h.results;
      operands = map (λ (v : Value). v) h.operands;
      successors = map (λ (b : Ptr BasicBlock). b) h.successors;
    }

    tree_alike : {s : Sort} (x : Tree by_handle (in_program O B) s)
        → ((h : ProgramHead O B) → Has h (heads_in x) → IsSome (operation_at old h.name))
        → rename (maps_of exchanged) (decide d alone x) ≡ rename (maps_of has.names) (decide d alone x)
    tree_alike end live = refl
    tree_alike (operation h rs rest) live =
        let own = head_alike (decide_head d alone h rs)
        (subst (λ z. IsSome (operation_at old z)) (sym (name_kept h rs)) (live h (inl refl))) in
        let within = tree_alike rs (λ g m. live g (inr (has_front (heads_in rs) (heads_in rest) g m))) in
        let behind = tree_alike rest (λ g m. live g (inr (has_back (heads_in rs) (heads_in rest) g m))) in
        λ i. operation (own i) (within i) (behind i)
    tree_alike (block l ops rest) live =
        let within = tree_alike ops (λ g m. live g (has_front (heads_in ops) (heads_in rest) g m)) in
        let behind = tree_alike rest (λ g m. live g (has_back (heads_in ops) (heads_in rest) g m)) in
        λ i. block (rename_label (maps_of has.names) l) (within i) (behind i)
    tree_alike (region bs rest) live =
        let within = tree_alike bs (λ g m. live g (has_front (heads_in bs) (heads_in rest) g m)) in
        let behind = tree_alike rest (λ g m. live g (has_back (heads_in bs) (heads_in rest) g m)) in
        λ i. region (within i) (behind i)

  -- the root stands for its tree with the branches decided
  pub stands_exchanged : HasLists old → (t : ProgramTree O B) → StandsFor old op t
      → StandsFor new op
      (rename_root (maps_of exchanged) (record { head = t.head; regions = decide d (known_alone d old) t.regions }))
  stands_exchanged lists t s =
      let live : IsSome (operation_at old t.head.name) =
      subst (λ (h : ProgramHead O B). IsSome (operation_at old h.name)) (sym s.head) (subst IsSome (sym s.there) refl) in
      let head = head_alike (known_alone d old) t.head live in
      let within = tree_alike (known_alone d old) t.regions (heads_there old Regions s.view.regions t.regions s.regions) in
      subst (StandsFor new op) (λ i. record { head = sym head i; regions = sym within i })
      (stands_decided d old new op ds are has lists t s)
