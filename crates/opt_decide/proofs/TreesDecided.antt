-- Where decisions are carried out, the root stands for the tree in which its branches are decided, under their new names.
use Rattle.std.proofs.Common.{◌≡◌, ℕ, List, [], ◌∷◌, map, Option, Some, None, refl, sym, ap, ◌∙◌, subst}
use Rattle.ir_base.specs.declared.types.TypeHandle.{TypeHandle}
use Rattle.ir_program.specs.Lists.{itself}
use Rattle.ir_program.specs.Program.{Program, OperationView, operation_at}
use Rattle.ir_program.specs.declared.handles.Ptr.{Ptr}
use Rattle.ir_program.specs.declared.handles.Operation.{Operation}
use Rattle.ir_program.specs.declared.handles.Value.{Value}
use Rattle.ir_trees.specs.Renames.{rename_defined, rename_head, rename_root}
use Rattle.ir_trees.specs.Stands.{by_handle, in_program, ProgramHead, ProgramTree, head_of, AreTree, StandsFor}
use Rattle.ir_trees.specs.Trees.{Defined, Regions, Tree}
use Rattle.opt_trees.specs.Dialect.{Dialect}
use Rattle.opt_trees.specs.Simplify.{along_edge, decide, decide_head}
use Rattle.opt_dialect.specs.declared.status.IRStatus.TheVariants.{Unchanged, Changed}
use Rattle.opt_inside.specs.Occurring.{IsBelowRoot}
use Rattle.opt_inside.proofs.Around.{HasLists}
use Rattle.opt_decide.specs.Phase.{IsUndecided, HasDecided, CarriesOut, maps_of}
use Rattle.opt_decide.specs.Planned.{AreDecisions, known_alone, picked_edge, decided_edge}
use Rattle.opt_decide.specs.Replaced.{along}
use Rattle.opt_decide.specs.declared.plan.Decision.{Decision}
use Rattle.opt_decide.proofs.Carried.{none_decided, bare_branch}
use Rattle.opt_decide.proofs.DecidedTrees.{tree_now, regions_below}
use Rattle.opt_decide.proofs.Folded.{same_some}
use Rattle.opt_decide.proofs.TurnedHeads.{head_stays, head_turned}

same_all : {X : Type 0} (xs : List X) → map (λ x. x) xs ≡ xs
same_all [] = refl
same_all (x ∷ xs) = ap (λ ys. x ∷ ys) (same_all xs)

same_defined : (ds : List (Defined Value TypeHandle)) → map (rename_defined (λ (x : Value). x)) ds ≡ ds
same_defined [] = refl
same_defined (x ∷ ds) = ap (λ ys. x ∷ ys) (same_defined ds)

module _ {O B A : Type 0} (d : Dialect (in_program O B) A) (old new : Program O B) (op : Ptr Operation) (ds : List Decision) (are : AreDecisions d old op ds) (has : HasDecided d old new ds) where
  renamed_head : (h : ProgramHead O B) → rename_head (maps_of has.names) h ≡ record h { name = has.names h.name }
  renamed_head h = let r = same_defined h.results in let v = same_all h.operands in let b = same_all h.successors in
      λ i. record { name = has.names h.name; content = h.content; results = r i; operands = v i; successors = b i }

  not_decided : (p : Ptr Operation) → decided_edge d old p ≡ None → IsUndecided ds p
  not_decided p none x l e = let n : Some x.edge ≡ None = sym (are.sound x l) ∙ ap (decided_edge d old) e ∙ none in cc

  abbrev Turned : Ptr Operation → OperationView O → Tree by_handle (in_program O B) Regions → Type 0
  Turned p v rs = (u : OperationView O) × (operation_at new (has.names p) ≡ Some u)
      × (head_of {B = B} (has.names p) u ≡ rename_head (maps_of has.names) (decide_head d (known_alone d old) (head_of {B = B} p v) rs))
      × (u.regions ≡ v.regions)

  turned_by : (p : Ptr Operation) (v : OperationView O) (rs : Tree by_handle (in_program O B) Regions) → IsBelowRoot old op p → operation_at old p ≡ Some v → AreTree old Regions v.regions rs
      → (o : Option ℕ) → decided_edge d old p ≡ o → Turned p v rs
  turned_by p v rs below there inner None e =
      let h : ProgramHead O B = head_of {B = B} p v in
      let kept : decide_head d (known_alone d old) h rs ≡ h = head_turned d old p v rs there inner ∙ head_stays d (picked_edge d old p) d.plain h e in (
        v,
        ap (operation_at new) (has.same p (not_decided p e)) ∙ has.others p v there (not_decided p e),
        sym (ap (rename_head (maps_of has.names)) kept ∙ renamed_head h),
        refl,
      )
  turned_by p v rs below there inner (Some j) e =
      let h : ProgramHead O B = head_of {B = B} p v in
      let x : Decision = record { op = p; edge = j } in
      let m = has.done x (are.all p j below e) in
      let bare = bare_branch d old p j e in
      let view : m.view ≡ v = same_some m.view v (sym m.there ∙ there) in
      let own : bare.view ≡ v = same_some bare.view v (sym bare.there ∙ there) in
      let results : [] ≡ v.results = sym bare.results ∙ ap (λ (w : OperationView O). w.results) own in
      let gone : [] ≡ v.regions = sym bare.regions ∙ ap (λ (w : OperationView O). w.regions) own in
      let goes : decide_head d (known_alone d old) h rs ≡ along_edge d h (Some j) (Some m.payload) = head_turned d old p v rs there inner ∙ (λ i. along_edge d h (bare.picks i) (m.plain i)) in
      let is : head_of {B = B} (has.names p) (along d v j m.payload) ≡ record (along_edge d h (Some j) (Some m.payload)) { name = has.names p } =
      (λ i. record (head_of {B = B} (has.names p) (along d v j m.payload)) { results = (head_of {B = B} p (record v { results = results i })).results }) in (
        along d v j m.payload,
        m.made ∙ ap (λ w. Some (along d w j m.payload)) view,
        is ∙ sym (ap (rename_head (maps_of has.names)) goes ∙ renamed_head (along_edge d h (Some j) (Some m.payload))),
        gone,
      )

  pub turned : (p : Ptr Operation) (v : OperationView O) (rs : Tree by_handle (in_program O B) Regions) → IsBelowRoot old op p → operation_at old p ≡ Some v → AreTree old Regions v.regions rs → Turned p v rs
  turned p v rs below there inner = turned_by p v rs below there inner (decided_edge d old p) refl

  root_undecided : IsUndecided ds op
  root_undecided x l e = (are.below x l).other e

  -- the root stands for its tree with the branches decided
  pub stands_decided : HasLists old → (t : ProgramTree O B) → StandsFor old op t
      → StandsFor new op (rename_root (maps_of has.names) (record { head = t.head; regions = decide d (known_alone d old) t.regions }))
  stands_decided lists t s = record {
    view = s.view;
    there = has.others op s.view s.there root_undecided;
    head = ap (rename_head (maps_of has.names)) s.head ∙ renamed_head (head_of {B = B} op s.view) ∙ ap (λ q. head_of {B = B} q s.view) (has.same op root_undecided);
    regions = tree_now d old new lists op has.names turned has.blocks has.regions Regions s.view.regions t.regions s.regions
        (regions_below d old new lists op has.names turned has.blocks has.regions op s.view s.there itself);
  }

-- the whole phase
pub nothing_carried : {O B A : Type 0} (d : Dialect (in_program O B) A) (old : Program O B) (op : Ptr Operation) (ds : List Decision) → HasLists old → AreDecisions d old op ds → ds ≡ [] → CarriesOut d old old op Unchanged
nothing_carried d old op ds lists are e =
    let none = subst (AreDecisions d old op) e are in
    record { decisions = []; are = none; decided = none_decided d old; exact = (λ s. refl, λ s. refl); stands = stands_decided d old old op [] none (none_decided d old) lists }

pub all_carried : {O B A : Type 0} (d : Dialect (in_program O B) A) (old new : Program O B) (op : Ptr Operation) (ds : List Decision) → HasLists old → AreDecisions d old op ds → (ds ≡ [] → ⊥) → HasDecided d old new ds → CarriesOut d old new op Changed
all_carried d old new op ds lists are ne has = record { decisions = ds; are = are; decided = has; exact = (λ s. absurd (cc), λ s. absurd (ne s)); stands = stands_decided d old new op ds are has lists }
