-- Lists of passes that are cut, from one text to the next.
use Rattle.std.proofs.Common.{◌≡◌, inl, inr, ℕ, List, [], ◌∷◌, ◌++◌, map, ap, sym, subst, chars, refl, ◌∙◌}
use Rattle.std.proofs.lemmas.List.{map-append}
use Rattle.ir_forest.specs.Closed.{IsClosedTree, IsNumbered, IsSameModule, unlabelled}
use Rattle.ir_print.specs.Pieces.{Entity}
use Rattle.ir_program.specs.declared.handles.Operation.{Operation}
use Rattle.ir_program.specs.declared.handles.Ptr.{Ptr}
use Rattle.ir_rereading.specs.Texts.{Says}
use Rattle.ir_trees.proofs.OneTree.{one_tree}
use Rattle.ir_trees.proofs.Same.{same_on}
use Rattle.ir_trees.specs.Stands.{by_handle}
use Rattle.ir_types.specs.Interned.{key_at}
use Rattle.ir_rereading.proofs.OneTree.{one_tree_said}
use Rattle.kit.specs.Context.{KitContext, KitTree}
use Rattle.kit.specs.Leads.{leads}
use Rattle.kit_language.specs.Language.{kit_language}
use Rattle.kit_ruled_views.specs.TreePasses.{IsTreeAfter}
use Rattle.kit_ops.specs.declared.attributes.KitAttr.{KitAttr}
use Rattle.kit_ops.specs.declared.kinds.KitOp.{KitOp}
use Rattle.kit_ops.specs.declared.types.KitType.{KitType}
use Rattle.kit_optimiser.specs.Passed.{pass_of}
use Rattle.kit_ops.specs.declared.pass.KitPass.{KitPass}
use Rattle.kit_text_programs.specs.SameLaws.{OneTextSaysTheSame, PassesKeepSame, SayTheSame, StandsAs, TheSameSayOneText}
use Rattle.kit_text_programs.specs.SameLaws.{ListsOfPassesCut, TypesAreNumbered}
use Rattle.kit_text_programs.specs.Meanings.{meanings}
use Rattle.kit.specs.Says.{says}
use Rattle.opt_meanings.specs.Meanings.{mean_root}
use Rattle.opt_trees.specs.Occurrences.{Has}
use Rattle.text_dialect.specs.Seen.{Seen, seen}
use Rattle.text_dialect.specs.Standing.{StandsForTexts}
use Rattle.text_rereading.specs.Rereading.{Numbering, Named}
use Rattle.irkit_running.specs.Lists.{PassesGive}
use Rattle.irkit_running.specs.Outcomes.{RunGives}
use Rattle.irkit_driver.specs.Same.{HaveOneModule}
use Rattle.irkit_refusals.specs.Texts.{HoldsText, SaysTree}

-- bytes say one tree
pub one_said : (bytes : List ℕ) (text other : Entity ℕ) → SaysTree bytes text → SaysTree bytes other → text ≡ other
one_said bytes text other h k = one_tree_said kit_language leads refl (chars bytes) text other h.1 k.1

-- what a text says, and an operation stands for, is closed
abbrev pub SaidAreClosed : Type 0
SaidAreClosed = (numbering : Numbering) (s : Seen KitOp KitAttr KitType) (root : Ptr Operation) (cs : List ℕ) (tree : Entity ℕ)
    → Says kit_language cs tree → StandsForTexts says (Named numbering) s root tree → IsClosedTree kit_language tree × IsNumbered tree

-- an operation stands for the tree of texts that it holds
pub holding : (text : Entity ℕ) (s : KitContext) (root : Ptr Operation) (h : HoldsText text s root) → StandsAs text s root h.tree
holding text s root h = record {
  numbering = h.numbering;
  distinct = h.distinct;
  stands = h.stands;
  is_tree = h.is_tree;
  names = h.names;
  handles = h.handles;
}

-- what all names have
pub no_number : List ℕ → ℕ
no_number text = 0

-- what passes leave of a module is what they make of its tree
pub left : (passes : List KitPass) (before : KitContext) (root : Ptr Operation) (text : List ℕ) (t : Entity ℕ)
    (h : HoldsText t before root) (g : PassesGive passes before root text)
    → IsTreeAfter {N = by_handle} (key_at before.types) no_number (map pass_of passes) h.tree g.written.holds.tree
left passes before root text t h g =
    let made = g.passed.tree h.tree h.is_tree in
    subst (λ (z : KitTree). IsTreeAfter {N = by_handle} (key_at before.types) no_number (map pass_of passes) h.tree z)
    (one_tree g.after.program root made.0 g.written.holds.tree made.1 g.written.holds.is_tree) (made.2 no_number)

-- each of these trees is closed
abbrev pub EachClosed : List (Entity ℕ) → Type 0
EachClosed [] = Unit {0}
EachClosed (x ∷ xs) = IsClosedTree kit_language x × EachClosed xs

pub one_closed : (xs : List (Entity ℕ)) → EachClosed xs → (a : Entity ℕ) → Has a xs → IsClosedTree kit_language a
one_closed [] c a h = absurd h
one_closed (x ∷ xs) c a (inl e) = subst (IsClosedTree kit_language) (sym e) c.0
one_closed (x ∷ xs) c a (inr h) = one_closed xs c.1 a h

module _ (closed : SaidAreClosed) (numbers : TypesAreNumbered) (alike : OneTextSaysTheSame) (one : TheSameSayOneText)
    (keep : PassesKeepSame) (cuts : ListsOfPassesCut) (beginning rest : List KitPass) (bytes front text whole : List ℕ)
    (b : RunGives beginning bytes front) (r : RunGives rest front text) (w : RunGives (beginning ++ rest) bytes whole) where
  -- the tree that bytes say, and the operation holds, is closed
  closed_said : (passes : List KitPass) (input output : List ℕ) (g : RunGives passes input output)
      → IsClosedTree kit_language g.accepted.0.text
  closed_said passes input output g =
      (closed g.accepted.0.holds.numbering (seen g.before) g.root (chars input) g.accepted.0.text g.accepted.0.says_it.1
      g.accepted.0.holds.stands).0

  -- the trees that are read and those that are written
  abbrev texts : List (Entity ℕ)
  texts =
      b.accepted.0.text ∷ b.gives.written.tree ∷ w.accepted.0.text ∷ w.gives.written.tree ∷ r.accepted.0.text
      ∷ r.gives.written.tree ∷ []

  all_closed : EachClosed texts
  all_closed = (
    closed_said beginning bytes front b,
    (
      b.gives.written.closed,
      (
        closed_said (beginning ++ rest) bytes whole w,
        (
          w.gives.written.closed,
          (closed_said rest front text r, (r.gives.written.closed, tt)),
        ),
      ),
    ),
  )

  -- what the beginning of the whole list makes of the tree that is read, and the rest of that
  abbrev Halves : Type 0
  Halves =
      (middle : KitTree)
      × IsTreeAfter {N = by_handle} (key_at w.before.types) no_number (map pass_of beginning) w.accepted.0.holds.tree middle
      × IsTreeAfter {N = by_handle} (key_at w.before.types) no_number (map pass_of rest) middle w.gives.written.holds.tree

  cut_whole : Halves
  cut_whole = cuts (key_at w.before.types) no_number (map pass_of beginning) (map pass_of rest) w.accepted.0.holds.tree
      w.gives.written.holds.tree
      (subst (λ xs. IsTreeAfter {N = by_handle} (key_at w.before.types) no_number xs w.accepted.0.holds.tree
      w.gives.written.holds.tree) (map-append pass_of beginning rest)
      (left (beginning ++ rest) w.before w.root whole w.accepted.0.text w.accepted.0.holds w.gives))

  -- the front is the text of the tree that it says
  read_back : IsSameModule r.accepted.0.text b.gives.written.tree
  read_back =
      ap unlabelled (one_said front r.accepted.0.text b.gives.written.again r.accepted.0.says_it b.gives.written.accepted.says_it)
      ∙ b.gives.written.same

  -- what the rest of the list writes is what the whole list writes
  written_same : IsSameModule r.gives.written.tree w.gives.written.tree
  written_same =
      let n = numbers texts (one_closed texts all_closed) in
      let first = holding b.accepted.0.text b.before b.root b.accepted.0.holds in
      let half = holding b.gives.written.tree b.gives.after b.root b.gives.written.holds in
      let again = holding w.accepted.0.text w.before w.root w.accepted.0.holds in
      let end = holding w.gives.written.tree w.gives.after w.root w.gives.written.holds in
      let reread = holding r.accepted.0.text r.before r.root r.accepted.0.holds in
      let last = holding r.gives.written.tree r.gives.after r.root r.gives.written.holds in
      let cb = n.handles b.before b.gives.after b.accepted.0.text b.gives.written.tree b.root b.root b.accepted.0.holds.tree
      b.gives.written.holds.tree b.gives.passed.types (inl refl) (inr (inl refl)) first half in
      let cw = n.handles w.before w.gives.after w.accepted.0.text w.gives.written.tree w.root w.root w.accepted.0.holds.tree
      w.gives.written.holds.tree w.gives.passed.types (inr (inr (inl refl))) (inr (inr (inr (inl refl)))) again end in
      let cr = n.handles r.before r.gives.after r.accepted.0.text r.gives.written.tree r.root r.root r.accepted.0.holds.tree
      r.gives.written.holds.tree r.gives.passed.types (inr (inr (inr (inr (inl refl)))))
      (inr (inr (inr (inr (inr (inl refl)))))) reread last in
      let begun : SayTheSame cb.0.to cw.0.to b.accepted.0.holds.tree w.accepted.0.holds.tree =
      alike n.number cb.0.to cw.0.to b.accepted.0.text w.accepted.0.text b.before w.before b.root w.root
      b.accepted.0.holds.tree w.accepted.0.holds.tree
      (ap unlabelled (one_said bytes b.accepted.0.text w.accepted.0.text b.accepted.0.says_it w.accepted.0.says_it))
      first again cb.1 cw.1 in
      let middle : SayTheSame cb.0.to cw.0.to b.gives.written.holds.tree cut_whole.0 =
      keep (key_at b.before.types) (key_at w.before.types) cb.0 cw.0 no_number (map pass_of beginning)
      b.accepted.0.holds.tree w.accepted.0.holds.tree b.gives.written.holds.tree cut_whole.0 begun
      (left beginning b.before b.root front b.accepted.0.text b.accepted.0.holds b.gives) cut_whole.1 in
      let between : SayTheSame cr.0.to cb.0.to r.accepted.0.holds.tree b.gives.written.holds.tree =
      alike n.number cr.0.to cb.0.to r.accepted.0.text b.gives.written.tree r.before b.gives.after r.root b.root
      r.accepted.0.holds.tree b.gives.written.holds.tree read_back reread half cr.1 cb.2 in
      let start : SayTheSame cr.0.to cw.0.to r.accepted.0.holds.tree cut_whole.0 =
      same_on (mean_root (meanings cr.0.to) r.accepted.0.holds.tree) (mean_root (meanings cb.0.to) b.gives.written.holds.tree)
      (mean_root (meanings cw.0.to) cut_whole.0) between middle in
      let ends : SayTheSame cr.0.to cw.0.to r.gives.written.holds.tree w.gives.written.holds.tree =
      keep (key_at r.before.types) (key_at w.before.types) cr.0 cw.0 no_number (map pass_of rest)
      r.accepted.0.holds.tree cut_whole.0 r.gives.written.holds.tree w.gives.written.holds.tree start
      (left rest r.before r.root text r.accepted.0.text r.accepted.0.holds r.gives) cut_whole.2 in
      one n.number cr.0.to cw.0.to r.gives.written.tree w.gives.written.tree r.gives.after w.gives.after r.root w.root
      r.gives.written.holds.tree w.gives.written.holds.tree ends last end cr.2 cw.2
      (n.apart r.gives.written.tree w.gives.written.tree (inr (inr (inr (inr (inr (inl refl)))))) (inr (inr (inr (inl refl)))))
      r.gives.written.closed w.gives.written.closed r.gives.written.numbered w.gives.written.numbered

  -- the rest of a list, run on the text that its beginning gave, gives a text of the same module as the whole list
  pub cut : HaveOneModule text whole
  cut = record {
    tree = r.gives.written.again;
    other_tree = w.gives.written.again;
    says_it = r.gives.written.accepted.says_it;
    other_says = w.gives.written.accepted.says_it;
    same = r.gives.written.same ∙ written_same ∙ sym w.gives.written.same;
  }
